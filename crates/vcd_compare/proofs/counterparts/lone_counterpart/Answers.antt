use Rattle.vcd_compare.proofs.Cited.{ℕ, List, get_or, sym, ap, subst, ◌∙◌, IsFound, all_named, lone, only_at, without_range, replaced}
use Rattle.vcd_compare.proofs.Facts.{lone_both, path_number, placed_at}
use Rattle.vcd_compare.proofs.counterparts.lone_counterpart.Goals as goal

pub returns-in-None : goal.returns-in-None
returns-in-None c = λ q h n texts j v finds nth at.
    let vs = c.args.variables.now in
    let number = path_number h texts vs c.args.index c.number_at-path.result v finds.are nth (c.number_at-path.ensures ∙ ap (λ (l : List ℕ). get_or l c.args.index 0) c.deref.ensures.value) in
    let place = placed_at q h n texts vs c.args.places.now j c.number_at-path.result v c.place_at.result finds at number c.place_at.ensures in
    ap (lone (only_at (all_named h) v.path) v) (c.in-None.ensures h n texts v.path finds.are place)

pub returns-in-Some : goal.returns-in-Some
returns-in-Some c = λ q h n texts j v finds nth at.
    let vs = c.args.variables.now in
    let number = path_number h texts vs c.args.index c.number_at-path.result v finds.are nth (c.number_at-path.ensures ∙ ap (λ (l : List ℕ). get_or l c.args.index 0) c.deref.ensures.value) in
    let place = placed_at q h n texts vs c.args.places.now j c.number_at-path.result v c.place_at.result finds at number c.place_at.ensures in
    let own = c.only_at-own.ensures h texts v.path finds.are number in
    let other = c.in-Some.ensures h n texts v.path finds.are place in
    subst (IsFound h (without_range h n v)) (sym c.index_if.ensures)
    (lone_both h v (only_at (all_named h) v.path) (only_at (all_named h) (replaced n v.path))
    c.only_at-own.result c.in-Some.other c.lacks_range-lacks.result c.lacks_range.result own other
    (c.lacks_range-lacks.ensures h texts v finds.are nth) (c.lacks_range.ensures h texts other.0 finds.are other.2))
