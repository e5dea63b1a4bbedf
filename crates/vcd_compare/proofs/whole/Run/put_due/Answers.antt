use Rattle.vcd_compare.proofs.Cited.{◌≡◌, ◌∙◌, Err, rules, sym, subst, take, Appends, AppendsSome, appends-none}
use Rattle.vcd_compare.specs.LineTexts.{AreRowLines}
use Rattle.vcd_compare.specs.declared.current.Current.{Current}
use Rattle.vcd_compare.proofs.Facts.{none_now, puts_now}
use Rattle.vcd_compare.proofs.RowLemmas.{pair_lines}
use Rattle.vcd_compare.proofs.whole.Run.put_due.Goals as goal

pub returns-then-not-is_due-clause-puts : goal.returns-then-not-is_due-clause-puts
returns-then-not-is_due-clause-puts g c = λ h exceptions ns items views stands.
    let run = c.args.self.now in
    rw (none_now h exceptions ns items run.comparison run.watched stands (sym c.is_due.ensures ∙ c.if-not-is_due.true)) (appends-none (g.W.Sink.device c.args.out.now).held)

pub returns-in_err-put_lines-clause-puts : goal.returns-in_err-put_lines-clause-puts
returns-in_err-put_lines-clause-puts g c = λ h exceptions ns items views stands.
    let run = c.args.self.now in
    let now = c.settle-count.new.self in
    let settled = c.settle-count.ensures.settles in
    let takes = AppendsSome (g.W.Sink.device c.args.out.now).held (g.W.Sink.device c.put_lines.new.out).held in
    let rows = take c.settle-count.result now.due.now in
    let lines = pair_lines c.args.view run.comparison.current rows settled.flags run.watched.at takes settled.due
    (subst (λ (k : Current). AreRowLines c.args.view k rows run.watched.at takes) settled.current c.in_err-put_lines.ensures.0) in
    let e : c.from_residual.result ≡ Err c.in_err-put_lines.field-0.0 = search rules in
    rw e (puts_now h exceptions ns items run.comparison run.watched stands (sym c.is_due.ensures ∙ c.if-not-is_due.false) c.args.view takes settled.flags views settled.has lines)

pub returns-clause-puts : goal.returns-clause-puts
returns-clause-puts g c = λ h exceptions ns items views stands.
    let run = c.args.self.now in
    let now = c.settle-count.new.self in
    let settled = c.settle-count.ensures.settles in
    let takes = Appends (g.W.Sink.device c.args.out.now).held (g.W.Sink.device c.put_lines.new.out).held in
    let rows = take c.settle-count.result now.due.now in
    let lines = pair_lines c.args.view run.comparison.current rows settled.flags run.watched.at takes settled.due
    (subst (λ (k : Current). AreRowLines c.args.view k rows run.watched.at takes) settled.current c.in_ok-put_lines.ensures.0) in
    puts_now h exceptions ns items run.comparison run.watched stands (sym c.is_due.ensures ∙ c.if-not-is_due.false) c.args.view takes settled.flags views settled.has lines
