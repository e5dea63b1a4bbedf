use Rattle.vcd_head.proofs.Cited.{[], ◌∷◌, ◌++◌, sym, ap, ◌∙◌, strip_prefix_is, front_rest, Decides-eqb}
use Rattle.vcd_head.proofs.Facts.{behind_component, selects-longer, name_goes_on, component_differs, stripped, not_stripped}
use Rattle.vcd_head.proofs.selection.after_component.Goals as goal

pub returns-then-is_or_goes_on-clause-selects : goal.returns-then-is_or_goes_on-clause-selects
returns-then-is_or_goes_on-clause-selects c = λ text. sym (selects-longer c.args.component.now c.args.name.now text (sym c.is_or_goes_on.ensures ∙ c.if-is_or_goes_on.true))

pub returns-in_default-clause-selects : goal.returns-in_default-clause-selects
returns-in_default-clause-selects c = λ text.
    let p = c.args.component.now in
    let n = c.args.name.now in
    let none = not_stripped n p c.strip_prefix.result c.in_default.not-Some (strip_prefix_is Decides-eqb n p c.strip_prefix.result c.strip_prefix.ensures.cases) in
    sym (component_differs p n text (sym c.is_or_goes_on.ensures ∙ c.if-is_or_goes_on.false) (λ rest e. none (46 ∷ rest) e))

pub returns-in-Some-strip_prefix-clause-selects : goal.returns-in-Some-strip_prefix-clause-selects
returns-in-Some-strip_prefix-clause-selects c = λ text.
    let p = c.args.component.now in
    let n = c.args.name.now in
    let b = c.in-Some.after in
    let r = c.in-Some-strip_prefix.rest in
    let s = stripped n p c.strip_prefix.result b c.in-Some.is (strip_prefix_is Decides-eqb n p c.strip_prefix.result c.strip_prefix.ensures.cases) in
    let s2 = stripped b.now (46 ∷ []) c.strip_prefix-2.result r c.in-Some-strip_prefix.is (strip_prefix_is Decides-eqb b.now (46 ∷ []) c.strip_prefix-2.result c.strip_prefix-2.ensures.cases) in
    sym (name_goes_on p n r.now text (s ∙ ap (λ l. p ++ l) s2))

pub returns-in-None-clause-selects : goal.returns-in-None-clause-selects
returns-in-None-clause-selects c = λ text.
    let p = c.args.component.now in
    let n = c.args.name.now in
    let b = c.in-Some.after in
    let s = stripped n p c.strip_prefix.result b c.in-Some.is (strip_prefix_is Decides-eqb n p c.strip_prefix.result c.strip_prefix.ensures.cases) in
    let none = not_stripped b.now (46 ∷ []) c.strip_prefix-2.result (λ x e. let no = c.in-None.is in
    cc) (strip_prefix_is Decides-eqb b.now (46 ∷ []) c.strip_prefix-2.result c.strip_prefix-2.ensures.cases) in
    sym (component_differs p n text (sym c.is_or_goes_on.ensures ∙ c.if-is_or_goes_on.false) (λ rest e. none rest (sym (front_rest n p b.now s) ∙ front_rest n p (46 ∷ rest) e)))

pub returns-in-Some-strip_prefix-clause-rest : goal.returns-in-Some-strip_prefix-clause-rest
returns-in-Some-strip_prefix-clause-rest c =
    let p = c.args.component.now in
    let n = c.args.name.now in
    let b = c.in-Some.after in
    let r = c.in-Some-strip_prefix.rest in
    let s = stripped n p c.strip_prefix.result b c.in-Some.is (strip_prefix_is Decides-eqb n p c.strip_prefix.result c.strip_prefix.ensures.cases) in
    let s2 = stripped b.now (46 ∷ []) c.strip_prefix-2.result r c.in-Some-strip_prefix.is (strip_prefix_is Decides-eqb b.now (46 ∷ []) c.strip_prefix-2.result c.strip_prefix-2.ensures.cases) in
    behind_component p n r.now (s ∙ ap (λ l. p ++ l) s2)
