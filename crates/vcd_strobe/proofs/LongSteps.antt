-- The longest code, with one code more.
use Rattle.std.proofs.Common.{◌≡◌, ℕ, ◌+◌, ◌<◌, max, fold, map, get_or, take, List, [], ◌∷◌, length, refl, ap, ap₂, ◌∙◌, arith}
use Rattle.std.proofs.lemmas.List.{map-append}
use Rattle.std.proofs.lemmas.Option.{slice_get-get_or}
use Rattle.std.specs.List.{AllZip}
use Rattle.vcd_model.proofs.Times.{fold-append}
use Rattle.vcd_model.specs.Declarations.{IdCode}
use Rattle.vcd_text.proofs.Places.{length-slice_range}
use Rattle.vcd_view.specs.Views.{IsCode}
use Rattle.vcd_view.specs.declared.view.Code.{Code}
use Rattle.vcd_strobe.proofs.LineSteps.{take_next}
use Rattle.vcd_strobe.specs.Codes.{longest_len}

pub longest_more : (cs : List Code) (i : ℕ) (d : Code) → i < length cs → longest_len (take (i + 1) cs) ≡ max (longest_len (take i cs)) (get_or cs i d).len
longest_more cs i d low =
    let x = get_or cs i d in
    ap longest_len (take_next cs i x (slice_get-get_or cs i d low))
    ∙ ap (fold max 0) (map-append (λ (c : Code). c.len) (take i cs) (x ∷ []))
    ∙ fold-append max 0 (map (λ (c : Code). c.len) (take i cs)) (x.len ∷ [])

-- the lengths of a view are those of the texts
pub lengths_are : (text : List ℕ) (cs : List Code) (ks : List IdCode) → AllZip (IsCode text) cs ks → map (λ (c : Code). c.len) cs ≡ map (λ (k : IdCode). length k.text) ks
lengths_are text [] [] are = refl
lengths_are text [] (k ∷ ks) are = absurd are
lengths_are text (c ∷ cs) [] are = absurd are
lengths_are text (c ∷ cs) (k ∷ ks) are = ap₂ (λ n l. n ∷ l) one (lengths_are text cs ks are.1)
  where
    one : c.len ≡ length k.text
    one = let whole = length-slice_range text c.start (c.start + c.len) are.0.within in let same = ap length are.0.text_is in omega (arith, whole, same)
