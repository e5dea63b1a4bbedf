use Rattle.vcd_body.proofs.Cited.{List, ℕ, take, get_or, sym, ap, ◌∙◌, rules, eqb-true, get_or-take, bit_at-zero, bytes_eq-Decides, HasFour}
use Rattle.vcd_body.proofs.Facts.{in_block}
use Rattle.vcd_body.proofs.values.packed.are_packed.Goals as goal

pub returns-then-quarter-lt16 : goal.returns-then-quarter-lt16
returns-then-quarter-lt16 c = λ yes j less.
    let q = c.args.quarter in
    let bytes = c.args.bytes.now in
    let few = c.packed_few.result in
    let same = (bytes_eq-Decides (take q bytes) (take q few)).0 (sym c.eq.ensures ∙ yes) in
    sym (get_or-take q bytes j 0 less) ∙ ap (λ (l : List ℕ). get_or l j 0) same ∙ get_or-take q few j 0 less ∙ c.packed_few.ensures j less

pub returns : goal.returns
returns c = λ e k less. in_block (HasFour c.args.bytes.now c.args.text.now c.args.quarter) (c.first_marked.ensures.none (eqb-true _ _ e) k less)
    (λ at none j few. let z = bit_at-zero j in search rules)
