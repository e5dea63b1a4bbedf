-- A time scale that is read.
use Rattle.std.specs.Prelude.{◌≡◌, ℕ, ℤ, List, [], ◌∷◌, Some, Result}
use mir.Val.{to_z, of_z}
use mir.Syntax.{w8}
use Rattle.vcd_model.specs.Input.{Input}
use Rattle.vcd_model.specs.Keywords.{Keyword, keyword_text, is_end}
use Rattle.vcd_model.specs.HeaderPhrases.{HeaderPhrase, scale_of}
use Rattle.vcd_model.specs.HeaderChecks.{timescale_checks}
use Rattle.vcd_model.specs.Checks.{◌or_fault◌}
use Rattle.vcd_model.specs.Reading.{Placed}
use Rattle.vcd_text.specs.declared.device.Source.{Ghosts}
use Rattle.vcd_text.specs.declared.feed.Feed.{Feed}
use Rattle.vcd_head.specs.Calls.{OrFails}
use Rattle.vcd_head.specs.Reads.{Reads}
use Rattle.vcd_head.specs.declared.fault.HeadFault.{HeadFault}
use Rattle.vcd_view.specs.Keywords.{NoEnds}

-- number and unit are read, and this is the power of ten
pub record ScaleRead {X : Type 0} {g : Ghosts X} (most : ℕ) (i : Input) (placed : List (Placed HeaderPhrase)) (f : Feed X g) (exponent : ℤ) : Type 0 where
  pub inner : List (List ℕ)
  pub reads : Reads most i placed (keyword_text Keyword.Timescale ∷ inner) f
  pub none : NoEnds inner
  pub scale_is : scale_of inner ≡ Some exponent
  pub then_end : (t : List ℕ) → timescale_checks inner t ≡ (is_end t or_fault 5) ∷ []
  pub fits : to_z w8 (of_z w8 exponent) ≡ exponent

-- after the keyword number and unit were read
abbrev pub ReadsScale : {X : Type 0} {g : Ghosts X} → (old new : Feed X g) → Result ℤ HeadFault → Type 0
ReadsScale old new r = (most : ℕ) (i : Input) (placed : List (Placed HeaderPhrase)) → Reads most i placed (keyword_text Keyword.Timescale ∷ []) old
    → OrFails most i new (ScaleRead most i placed new) r
