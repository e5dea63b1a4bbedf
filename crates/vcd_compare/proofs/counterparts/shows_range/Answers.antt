use Rattle.vcd_compare.proofs.Cited.{ℕ, List, get_or, ap, ◌∙◌}
use Rattle.vcd_compare.proofs.Facts.{path_number, shown_name}
use Rattle.vcd_compare.proofs.counterparts.shows_range.Goals as goal

pub returns : goal.returns
returns c = λ h texts v are nth.
    let number = path_number h texts c.args.variables.now c.args.index c.number_at.result v are nth (c.number_at.ensures ∙ ap (λ (l : List ℕ). get_or l c.args.index 0) c.deref.ensures.value) in
    shown_name h v c.only_at.result c.is_none.result (c.only_at.ensures h texts v.path are number) c.is_none.ensures
