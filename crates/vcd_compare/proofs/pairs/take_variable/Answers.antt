use Rattle.vcd_compare.proofs.Cited.{ℕ, List, get_or, ap, ◌∙◌, Pair, at_path, name_in, replaced, Pairs}
use Rattle.vcd_compare.proofs.Facts.{held_alone, named_row, ok_then, place_both, place_missing}
use Rattle.vcd_compare.proofs.pairs.take_variable.Goals as goal

pub returns-in_ok-push-in-None : goal.returns-in_ok-push-in-None
returns-in_ok-push-in-None c = λ q h n texts j v compared other_kinds ones others view finds nth at s.
    let old = c.args.pairs.now in
    let new : Pairs = record { rows = old.rows; ends = old.ends; classes = old.classes; last = old.last; alone_one = c.push.new.self; alone_other = old.alone_other; unlike = old.unlike } in
    let row = named_row h c.args.variables.now.rows.items c.args.index c.number_at-row.result v finds.are.rows nth (c.number_at-row.ensures
    ∙ ap (λ (l : List ℕ). get_or l c.args.index 0) c.deref.ensures.value) in
    place_missing c.args.keys.now.keys h compared other_kinds ones others new v (at_path h (replaced n v.path) v) (c.in-None.ensures q h n texts j v finds nth at)
    (held_alone c.args.keys.now.keys h compared other_kinds ones others old c.push.new.self c.number_at-row.result v c.in_ok-push-in-None.ensures.items row s)

pub returns-in-Some : goal.returns-in-Some
returns-in-Some c = ok_then c.add_pair.result _ _ (λ _ adds q h n texts j v compared other_kinds ones others view finds nth at s.
    let rows = c.args.variables.now.rows.items in
    let place = c.in-Some.ensures q h n texts j v finds nth at in
    let p : Pair = record { path = name_in h v; one = v.variable; other = place.0.variable } in
    let row = named_row h rows c.args.index c.number_at-row.result v finds.are.rows nth (c.number_at-row.ensures ∙ ap (λ (l : List ℕ). get_or l c.args.index 0) c.deref.ensures.value) in
    let other = named_row h rows c.in-Some.other c.number_at-other.result place.0 finds.are.rows place.2 (c.number_at-other.ensures
    ∙ ap (λ (l : List ℕ). get_or l c.in-Some.other 0) c.deref-in-Some.ensures.value) in
    place_both c.add_pair.new.keys.keys h compared other_kinds ones others c.add_pair.new.pairs v (at_path h (replaced n v.path) v) place.0 place.1
    (adds h p compared other_kinds ones others view
    (record { path = v.path; at = row; name_is = c.shows_range-ranged.ensures h texts v finds.are nth }) other.declared s)) c.add_pair.ensures
