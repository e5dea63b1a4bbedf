use Rattle.vcd_head.proofs.Cited.{length, drop, ap, ◌∙◌, refl, take_at, are_right, is_right, all_replicated}
use Rattle.vcd_head.proofs.finish.entries_of.Goals as goal

pub returns-clause-right : goal.returns-clause-right
returns-clause-right c =
    let text = c.args.text.now in
    let codes = c.args.codes.now in
    let items = c.in_ok-entries.entries.items in
    let filled = c.in_ok-entries.ensures.items_if_clones_equal (λ y e. e) in
    let empty = ap (are_right text codes) (c.deref_mut.ensures.value ∙ filled)
    ∙ all_replicated (is_right text codes) c.entries_needed-count.result c.default-empty.result (rw c.default-empty.ensures.0 refl) in
    ap (are_right text codes) (take_at c.fill_entries.new.entries (drop (length c.fill_entries.new.entries) items) c.in_ok-entries.entries.len
    (c.fill_entries.ensures.len ∙ c.deref_mut.ensures.len)) ∙ c.fill_entries.ensures.right empty
