use Rattle.vcd_compare.proofs.Cited.{◌≡◌, bytes_eq, nat_eq, starts_with, codes, sym, ap, ◌∙◌, same_Some, Kind, Declaration, code_of, code_at}
use Rattle.vcd_compare.proofs.Facts.{is_digits, is_event, is_real, is_shortreal}
use Rattle.vcd_compare.proofs.kinds.kind_of.Goals as goal

pub returns-then-eq : goal.returns-then-eq
returns-then-eq c = λ h v view at.
    let word = c.type_of-word.ensures h (Declaration.Var v) view at in
    is_event v (sym (c.eq.ensures ∙ (λ z. bytes_eq (word z) (c.as_slice.ensures z))) ∙ c.if-eq.true)

pub returns-then-starts_with : goal.returns-then-starts_with
returns-then-starts_with c = λ h v view at.
    let word = c.type_of-word.ensures h (Declaration.Var v) view at in
    is_real v (sym (c.eq.ensures ∙ (λ z. bytes_eq (word z) (c.as_slice.ensures z))) ∙ c.if-eq.false)
    (sym (c.starts_with.ensures.value ∙ (λ z. starts_with nat_eq (word z) (codes "real"))) ∙ c.if-starts_with.true)

pub returns-then-eq-2 : goal.returns-then-eq-2
returns-then-eq-2 c = λ h v view at.
    let word = c.type_of-word.ensures h (Declaration.Var v) view at in
    is_shortreal v (sym (c.eq.ensures ∙ (λ z. bytes_eq (word z) (c.as_slice.ensures z))) ∙ c.if-eq.false)
    (sym (c.starts_with.ensures.value ∙ (λ z. starts_with nat_eq (word z) (codes "real"))) ∙ c.if-starts_with.false)
    (sym (c.eq-2.ensures ∙ (λ z. bytes_eq (word z) (c.as_slice-2.ensures z))) ∙ c.if-eq-2.true)

pub returns-in-Some : goal.returns-in-Some
returns-in-Some c = λ h v view at.
    let word = c.type_of-word.ensures h (Declaration.Var v) view at in
    let declared = c.code_of.ensures h v view at in
    let m = code_at c.args.view.text.now c.args.view.codes.now h.codes c.code_of.result (code_of v) view.codes declared in
    let same : c.in-Some.code ≡ m.0 = same_Some c.in-Some.code m.0 (sym c.in-Some.is ∙ c.code_at.ensures ∙ m.1) in
    ap Kind.Digits (ap (λ x. x.size) same ∙ m.2.size_is)
    ∙ is_digits v (sym (c.eq.ensures ∙ (λ z. bytes_eq (word z) (c.as_slice.ensures z))) ∙ c.if-eq.false)
    (sym (c.starts_with.ensures.value ∙ (λ z. starts_with nat_eq (word z) (codes "real"))) ∙ c.if-starts_with.false)
    (sym (c.eq-2.ensures ∙ (λ z. bytes_eq (word z) (c.as_slice-2.ensures z))) ∙ c.if-eq-2.false)

pub returns-in-None : goal.returns-in-None
returns-in-None c = λ h v view at.
    let declared = c.code_of.ensures h v view at in
    let m = code_at c.args.view.text.now c.args.view.codes.now h.codes c.code_of.result (code_of v) view.codes declared in
    let none = sym c.in-None.is ∙ c.code_at.ensures ∙ m.1 in
    absurd (cc)
