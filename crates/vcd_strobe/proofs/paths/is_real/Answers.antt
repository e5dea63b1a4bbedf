use Rattle.std.proofs.Common.{◌||◌, ◌∙◌, ap, bytes_eq, codes, nat_eq, sym}
use Rattle.std.specs.List.{starts_with}
use Rattle.vcd_model.specs.Declarations.{Declaration}
use Rattle.vcd_strobe.proofs.paths.is_real.Goals as goal

pub returns-then-starts_with : goal.returns-then-starts_with
returns-then-starts_with c = λ h v views at.
    let word = c.type_of-word.ensures h (Declaration.Var v) views at in
    let begins = sym (c.starts_with.ensures.value ∙ (λ z. starts_with nat_eq (word z) (codes "real"))) ∙ c.if-starts_with.true in
    c.if-starts_with.true ∙ sym (ap (λ b. b || bytes_eq v.type (codes "shortreal")) begins)

pub returns-else-starts_with : goal.returns-else-starts_with
returns-else-starts_with c = λ h v views at.
    let word = c.type_of-word.ensures h (Declaration.Var v) views at in
    let begins = sym (c.starts_with.ensures.value ∙ (λ z. starts_with nat_eq (word z) (codes "real"))) ∙ c.if-starts_with.false in
    c.eq.ensures ∙ (λ z. bytes_eq (word z) (c.as_slice.ensures z)) ∙ sym (ap (λ b. b || bytes_eq v.type (codes "shortreal")) begins)
