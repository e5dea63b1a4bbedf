use Rattle.vcd_body.proofs.Cited.{ℕ, get_or, length, refl, subst, sym, length-set, slice_get-get_or, ChangesCode, counts_of, one_more, whole}
use Rattle.vcd_body.proofs.Facts.{blank_share, counted_laid, counts_kept, no_share_there, no_slot_there, share_alone_changes, keeps_laid}
use Rattle.vcd_body.proofs.values.table.Table.bump.Goals as goal
use Rattle.vcd_body.proofs.values.table.Table.bump.Goals.{else-code-self-via-then-code-self+else-code-self-2, else-code-self-via-else-code-self}

-- a change is a step that neither rises nor falls
pub returns-then-which-eq0-clause-changes : goal.returns-then-which-eq0-clause-changes
returns-then-which-eq0-clause-changes c = subst (λ (w : ℕ). ChangesCode c.args.code (one_more w) c.args.self.now c.count.new.self) (sym c.if-which-eq0.true) c.count.ensures.changes

pub returns-then-code-self-2-clause-keeps : goal.returns-then-code-self-2-clause-keeps
returns-then-code-self-2-clause-keeps c =
    let t = c.args.self.now in
    let there = slice_get-get_or t.shares.now c.args.code blank_share c.if-code-self-2.true in
    keeps_laid t _ refl (length-set _ _ _) refl (λ laid. counted_laid t.slots.now t.shares.now (length t.values.now) laid c.args.code (get_or t.shares.now c.args.code blank_share) _ there refl refl)

pub returns-then-code-self-2-clause-changes : goal.returns-then-code-self-2-clause-changes
returns-then-code-self-2-clause-changes c =
    let t = c.args.self.now in
    let counts = c.count_more.new.counts in
    let there = slice_get-get_or t.shares.now c.args.code blank_share c.if-code-self-2.true in
    let share = get_or t.shares.now c.args.code blank_share in
    share_alone_changes t.shares.now c.args.code share _ there refl t.slots.now t.values.now (one_more c.args.which)
    (λ s end. counts_kept (whole s share) (counts_of s.steps counts) c.args.which end t.values.now (c.count_more.ensures s.steps))

pub returns-else-code-self-clause-changes : goal.returns-else-code-self-clause-changes
returns-else-code-self-clause-changes c = elim c.else-code-self.branch [
  | else-code-self-via-then-code-self+else-code-self-2 w ↦ no_share_there c.args.self.now.values.now c.args.self.now.slots.now c.args.self.now.shares.now c.args.code
      (one_more c.args.which) w.if-code-self-2.false
  | else-code-self-via-else-code-self w ↦ no_slot_there c.args.self.now.values.now c.args.self.now.slots.now c.args.self.now.shares.now c.args.code (one_more c.args.which) w.if-code-self.false
]
