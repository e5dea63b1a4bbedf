use Rattle.vcd_compare.proofs.Cited.{◌≡◌, ◌⊎◌, inl, inr, ℕ, true, false, not, Some, slice_get, sym, ap, subst, ◌∙◌, Decides, Option, option_and_then, option_map, slice_get-map, IdCode, Value, Code, held_at, shown_code, value_at_size, codes_shown, value_in}
use Rattle.vcd_compare.proofs.Facts.{told_same}
use Rattle.vcd_body.specs.declared.values.table.Table.{Table}
use Rattle.vcd_view.specs.declared.view.HeadView.{HeadView}
use Rattle.vcd_compare.proofs.current.Current.values_differ.Goals as goal
use Rattle.vcd_compare.proofs.current.Current.values_differ.Goals.{then-same-via-then-same, then-same-via-else-same+then-not-self, then-self, else-self}

-- the value of a code that is declared so
value_is : (v : HeadView) (t : Table) (index : ℕ) (code : Code) → slice_get v.codes.now index ≡ Some code → value_in (codes_shown v) t index ≡ value_at_size code.size (held_at t index)
value_is v t index code there =
    ap (option_and_then (λ (d : IdCode). value_at_size d.size (held_at t index)))
    (slice_get-map (shown_code v.text.now) v.codes.now index ∙ ap (option_map (shown_code v.text.now)) there)

pub returns-then-same : goal.returns-then-same
returns-then-same c =
    let k = c.args.self.now.asked in
    let v = c.args.self.now.view in
    let t = c.args.self.now.table in
    let size = c.args.code.size in
    let one = value_is v t c.args.one c.args.code c.requires.one in
    let other = value_is v t c.args.other c.args.its c.requires.other ∙ ap (λ n. value_at_size n (held_at t c.args.other)) (sym c.if-code-its.true) in
    let told = c.same_value-same.ensures c.requires.laid in
    let either : (c.same_value-same.result ≡ true) ⊎ ((k.x_of_one ≡ false) × (k.x_of_other ≡ false)) = elim c.then-same.branch [
      | then-same-via-then-same w ↦ inl w.if-same.true
      | then-same-via-else-same+then-not-self w ↦ elim w.if-self.branch [
        | then-self y ↦ let e = w.if-not-self.true in let f = y.value-is in cc
        | else-self y ↦ inr (y.if-self.false, sym y.value-is ∙ w.if-not-self.true)
      ]
    ] in
    told_same k (value_in (codes_shown v) t c.args.one) (value_in (codes_shown v) t c.args.other) c.same_value-same.result
    (subst (λ (o : Option Value). Decides c.same_value-same.result (value_in (codes_shown v) t c.args.one ≡ o)) (sym other)
    (subst (λ (o : Option Value). Decides c.same_value-same.result (o ≡ value_at_size size (held_at t c.args.other))) (sym one) told)) either

pub returns : goal.returns
returns c = ap not (c.values_match.ensures c.args.code c.args.its c.requires.laid c.requires.one c.requires.other)
