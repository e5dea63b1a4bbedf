use Rattle.vcd_compare.proofs.Cited.{ap, subst, ◌∙◌, slice_get_within, EntersPath, joined}
use Rattle.vcd_compare.proofs.Facts.{around_joined, ok_then}
use Rattle.vcd_compare.proofs.variables.enter_row.Goals as goal

pub returns : goal.returns
returns c = ok_then c.enter_path.result _ _ (λ number enters h d texts view at has are.
    let around = c.number_around-around.ensures h texts view (slice_get_within h.declarations c.args.row d at) are in
    let joins = around_joined h texts c.args.row c.number_around-around.result d around in
    let name = c.name_of.ensures h d view at in
    subst (λ t. EntersPath texts c.enter_path.new.paths t number) (ap (joined texts c.number_around-around.result) name ∙ joins.1) (enters texts has joins.0)) c.enter_path.ensures
