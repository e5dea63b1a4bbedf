use Rattle.vcd_compare.proofs.Cited.{drop, length, ◌∙◌, Declaration}
use Rattle.vcd_compare.proofs.slices.tail_of.Goals as goal

pub returns : goal.returns
returns c = λ h v view at.
    let text = c.reference_of.ensures h (Declaration.Var v) view at in
    let front = c.name_of.ensures h (Declaration.Var v) view at in
    c.behind.ensures ∙ (λ z. drop (length (front z)) (text z))
