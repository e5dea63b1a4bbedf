use Rattle.vcd_body.proofs.Cited.{get_or, length, refl, length-set, slice_get-get_or, as_chosen}
use Rattle.vcd_body.proofs.Facts.{blank_share, counted_laid, no_share_there, share_alone_changes, keeps_laid}
use Rattle.vcd_body.proofs.values.table.Table.choose.Goals as goal

pub returns-then-code-self-clause-keeps : goal.returns-then-code-self-clause-keeps
returns-then-code-self-clause-keeps c =
    let t = c.args.self.now in
    let share = get_or t.shares.now c.args.code blank_share in
    keeps_laid t _ refl (length-set _ _ _) refl (λ laid. counted_laid t.slots.now t.shares.now (length t.values.now) laid c.args.code share _
    (slice_get-get_or t.shares.now c.args.code blank_share c.if-code-self.true) refl refl)

pub returns-then-code-self-clause-changes : goal.returns-then-code-self-clause-changes
returns-then-code-self-clause-changes c =
    let t = c.args.self.now in
    let share = get_or t.shares.now c.args.code blank_share in
    share_alone_changes t.shares.now c.args.code share _ (slice_get-get_or t.shares.now c.args.code blank_share c.if-code-self.true) refl t.slots.now t.values.now as_chosen (λ s end. refl)

pub returns-else-code-self-clause-changes : goal.returns-else-code-self-clause-changes
returns-else-code-self-clause-changes c = no_share_there c.args.self.now.values.now c.args.self.now.slots.now c.args.self.now.shares.now c.args.code as_chosen c.if-code-self.false
