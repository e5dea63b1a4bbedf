use Rattle.vcd_compare.proofs.Cited.{◌≡◌, ℕ, max, List, length, Some, sym, ap, ◌∙◌, option_and_then, option_map, slice_get-map, IdCode, Value, extend, held_at, shown_code, Held, value_at_size, digits_held, length_extended, value_there}
use Rattle.vcd_compare.proofs.values.count_of.Goals as goal

counted : (h : Held) (size : ℕ) (ds : List ℕ) → value_at_size size h ≡ Some (Value.Bits ds) → length ds ≡ max size (length (digits_held h))
counted Held.Unset size ds e = cc
counted (Held.Digits xs) size ds e = let same : Value.Bits ds ≡ Value.Bits (extend xs size) = cc in let digits : ds ≡ extend xs size = cc in ap length digits ∙ length_extended xs size
counted (Held.Text text) size ds e = cc

pub returns-in-Some : goal.returns-in-Some
returns-in-Some c = λ ds laid value.
    let size = c.in-Some.declared.size in
    let held = held_at c.args.table.now c.args.code in
    let is = counted held size ds (sym (value_there c.args.view c.args.table.now c.args.code c.in-Some.declared (sym c.in-Some.ensures)) ∙ value) in
    c.max.ensures ∙ ap (max size) (c.held_digits.ensures laid) ∙ sym is

pub returns-in-None : goal.returns-in-None
returns-in-None c = λ ds laid value.
    let t = c.args.table.now in
    let v = c.args.view in
    let none = ap (option_and_then (λ (d : IdCode). value_at_size d.size (held_at t c.args.code)))
    (slice_get-map (shown_code v.text.now) v.codes.now c.args.code ∙ ap (option_map (shown_code v.text.now)) (sym c.in-None.ensures)) in
    let no = sym none ∙ value in cc
