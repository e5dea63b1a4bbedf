use Rattle.vcd_head.proofs.Cited.{◌+◌, true, false, ap, sym, subst, ◌∙◌, inl, inr, get_or, set, map, string_bytes, arith}
use Rattle.vcd_head.proofs.Facts.{Noting, noting_next, none_noted, noted_before, noted_all}
use Rattle.std.proofs.Common.{length-set}
use Rattle.vcd_head.proofs.names.Group.note.Goals.{then-run-via-then-run, then-run-via-else-run+then-next_at-ne0}
use Rattle.vcd_head.proofs.names.Group.note.Goals as goal

pub returns-then-run : goal.returns-then-run
returns-then-run c = λ front f.
    let names = map string_bytes c.args.self.now.names.now in
    let order = c.args.self.now.order.now in
    elim c.then-run.branch [
      | then-run-via-then-run w ↦ none_noted names order c.args.matched.now front c.args.run f (inl w.if-run.true)
      | then-run-via-else-run+then-next_at-ne0 w ↦ none_noted names order c.args.matched.now front c.args.run f (inr (λ e. w.if-next_at-ne0.true (w.next_at.ensures.next ∙ e)))
    ]

pub returns-then-matched-index_at : goal.returns-then-matched-index_at
returns-then-matched-index_at c = λ front f.
    let names = map string_bytes c.args.self.now.names.now in
    let order = c.args.self.now.order.now in
    noted_before names order c.args.matched.now front c.args.run f c.if-run.false (sym c.next_at.ensures.next ∙ c.if-next_at-ne0.false)
    (ap (λ p. get_or c.args.matched.now p false) (sym c.index_at.ensures.position) ∙ c.if-matched-index_at.true)

pub returns-then-next_at-ne0-2 : goal.returns-then-next_at-ne0-2
returns-then-next_at-ne0-2 c = λ front f.
    let names = map string_bytes c.args.self.now.names.now in
    let order = c.args.self.now.order.now in
    noted_all names order c.args.matched.now front c.args.run f c.if-run.false (sym c.next_at.ensures.next ∙ c.if-next_at-ne0.false) c.loop-at.matched c.loop-at.at
    (inr (c.loop-at-test.true, λ e. c.if-next_at-ne0-2.true (c.next_at-in-loop-at.ensures.next ∙ e))) c.loop-at.invariant.up (c.loop-at.invariant.noting front f)

pub loop-at-preserved : goal.loop-at-preserved
loop-at-preserved c =
    let names = map string_bytes c.args.self.now.names.now in
    let order = c.args.self.now.order.now in
    let at = c.loop-at.at in
    let matched = c.loop-at.matched in
    let position = c.index_at-in-loop-at.ensures.position in
    record {
      len = length-set matched c.index_at-in-loop-at.result true ∙ c.loop-at.invariant.len;
      up = omega (arith, c.loop-at.invariant.up);
      noting = λ front f. subst (λ p. Noting names order front c.args.matched.now (set matched p true) c.args.run.first (at + 1)) (sym position)
          (noting_next names order c.args.matched.now front c.args.run f matched at c.loop-at.invariant.up c.loop-at-test.true
          (sym c.next_at-in-loop-at.ensures.next ∙ c.if-next_at-ne0-2.false)
          (omega (arith, c.loop-at.invariant.len, position, c.index_at-in-loop-at.ensures.within)) (c.loop-at.invariant.noting front f));
    }

pub returns : goal.returns
returns c = λ front f.
    let names = map string_bytes c.args.self.now.names.now in
    let order = c.args.self.now.order.now in
    noted_all names order c.args.matched.now front c.args.run f c.if-run.false (sym c.next_at.ensures.next ∙ c.if-next_at-ne0.false) c.loop-at.matched c.loop-at.at
    (inl c.loop-at-test.false) c.loop-at.invariant.up (c.loop-at.invariant.noting front f)
