use Rattle.vcd_body.proofs.Cited.{List, ℕ, sym, subst, IsFirstAndRest, Begins}
use Rattle.vcd_body.proofs.words.phrase_kind.Goals as goal

pub returns-in-Some : goal.returns-in-Some
returns-in-Some c =
    let parts : IsFirstAndRest c.args.token.now c.in-Some.byte.now c.in-Some.field-0-1.now = c.in-Some.ensures.cases in
    subst (λ (t : List ℕ). Begins t c.phrase_kind_by.result) (sym parts.0) (c.phrase_kind_by.ensures c.in-Some.field-0-1.now)
