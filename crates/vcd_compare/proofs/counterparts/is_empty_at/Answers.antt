use Rattle.vcd_compare.proofs.Cited.{◌≡◌, ◌≤◌, ◌==◌, ℕ, List, None, Some, Vec, arith, length, sym, ap, subst, ◌∙◌, slice_get, is_empty, vec_len, slice_get-get_or, slice_get_past, ltb-false}
use Rattle.std.proofs.lemmas.List.{length-map}
use Rattle.vcd_compare.specs.Paths.{texts_in}
use Rattle.vcd_compare.proofs.Facts.{empty_is, text_is}
use Rattle.vcd_compare.proofs.counterparts.is_empty_at.Goals as goal

pub returns-in-Some : goal.returns-in-Some
returns-in-Some c = λ t at.
    let keys = c.args.texts.now.keys in
    let v = c.in-Some.text.now in
    let key = c.in-Some.ensures.lookup in
    let there : slice_get c.as_slice.result.now c.args.index ≡ Some v = slice_get-get_or c.as_slice.result.now c.args.index v key.3.0 ∙ ap (λ (x : Vec ℕ). Some x) (sym (key.3.1 v)) in
    let own : slice_get keys c.args.index ≡ Some v = subst (λ (l : List (Vec ℕ)). slice_get l c.args.index ≡ Some v) c.as_slice.ensures.keys there in
    let long : length v.items ≡ vec_len v = omega (arith, v.ok.0) in
    c.is_empty.ensures ∙ ap (λ (n : ℕ). n == 0) (sym long) ∙ empty_is v.items ∙ ap (λ (l : List ℕ). is_empty l) (text_is keys c.args.index v t own at)

pub returns-in-None : goal.returns-in-None
returns-in-None c = λ t at.
    let keys = c.args.texts.now.keys in
    let past : length c.as_slice.result.now ≤ c.args.index = ltb-false c.args.index (length c.as_slice.result.now) (sym c.in-None.ensures.lookup.0) in
    let same = ap length c.as_slice.ensures.keys in
    let long = length-map keys (λ (v : Vec ℕ). v.items) in
    let none : slice_get (texts_in c.args.texts.now) c.args.index ≡ None = slice_get_past (texts_in c.args.texts.now) c.args.index (omega (arith, past, same, long)) in
    let apart : None ≡ Some t = sym none ∙ at in
    cc
