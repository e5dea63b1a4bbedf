use Rattle.vcd_head.proofs.Cited.{arith}
use Rattle.vcd_head.proofs.InsideLemmas.{held_more}
use Rattle.vcd_head.proofs.inside.Open.keep_inner.Goals as goal

pub returns-then-next-lt-LEVELS : goal.returns-then-next-lt-LEVELS
returns-then-next-lt-LEVELS c = λ h names order flags are new.
    record {
      held = held_more h names order flags c.args.self.now.inside.now c.args.self.now.entered c.saturating_add-next.result c.args.inner (omega arith) are.held new;
      same = are.same;
    }
