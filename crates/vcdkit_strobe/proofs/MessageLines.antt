-- The lines of messages.
use Rattle.std.proofs.Common.{◌≡◌, ◌∙◌, ◌++◌, ◌∷◌, [], ℕ, List, Result, append_assoc, codes, refl, subst, sym}
use Rattle.vcd_model.specs.Outcome.{program_line, shown_message}
use Rattle.vcd_text.specs.Device.{Device, Puts}
use Rattle.vcdkit_strobe.specs.Work.{program_name}

-- a line of two texts
pub as-line : {A E : Type 0} (old new : Device) (first second : List ℕ) (r : Result A E) → Puts old new (codes "vcdkit-strobe: " ++ (first ++ (second ++ 10 ∷ []))) r
    → Puts old new (program_line program_name (first ++ second)) r
as-line old new first second r puts = subst (λ l. Puts old new (codes "vcdkit-strobe: " ++ l) r) (sym (append_assoc first second (10 ∷ []))) puts

-- a line of three texts
pub as-three : {A E : Type 0} (old new : Device) (first second third : List ℕ) (r : Result A E)
    → Puts old new (codes "vcdkit-strobe: " ++ (first ++ (second ++ (third ++ 10 ∷ [])))) r → Puts old new (program_line program_name ((first ++ second) ++ third)) r
as-three old new first second third r puts =
    subst (λ l. Puts old new (codes "vcdkit-strobe: " ++ l) r) (sym (append_assoc (first ++ second) third (10 ∷ []) ∙ append_assoc first second (third ++ 10 ∷ []))) puts

-- a message with a colon is shown as a line
pub three-is : (first second third : List ℕ) → shown_message program_name ((first ++ 58 ∷ second) ++ third) ≡ program_line program_name ((first ++ 58 ∷ second) ++ third)
three-is [] second third = refl
three-is (byte ∷ first) second third = refl

pub line-is : (first second : List ℕ) → shown_message program_name (first ++ 58 ∷ second) ≡ program_line program_name (first ++ 58 ∷ second)
line-is [] second = refl
line-is (byte ∷ first) second = refl
