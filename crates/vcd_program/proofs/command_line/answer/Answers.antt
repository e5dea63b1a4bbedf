use Rattle.vcd_program.proofs.Cited.{◌≡◌, ◌∙◌, ap, codes, false, inr, is_ok, kind_of, not, subst, Tells}
use Rattle.vcd_program.proofs.Facts.{answer-failed, memory-fails, put-shows, puts-some, shown_once, status-zero}
use Rattle.vcd_program.proofs.command_line.answer.Goals as goal

pub returns-then-status-eq3-clause-answers : goal.returns-then-status-eq3-clause-answers
returns-then-status-eq3-clause-answers g c = inr (memory-fails g.P.Program.name g.P.Program.refusal (g.W.Sink.device _) (g.E.Sink.device _)
    (g.E.Sink.device _) _ c.use_fault.ensures.memory c.use_fault.ensures.line.line c.use_fault.ensures.line.status)

pub returns-in_default-clause-answers : goal.returns-in_default-clause-answers
returns-in_default-clause-answers g c = inr (memory-fails g.P.Program.name g.P.Program.refusal (g.W.Sink.device _) (g.E.Sink.device _)
    (g.E.Sink.device _) _ c.use_fault-in_default.ensures.memory c.use_fault-in_default.ensures.line.line c.use_fault-in_default.ensures.line.status)

pub returns-then-status-eq3-clause-failures : goal.returns-then-status-eq3-clause-failures
returns-then-status-eq3-clause-failures g c = shown_once (g.E.Sink.device c.args.err.now) (g.E.Sink.device c.use_fault.new.err) _ c.use_fault.ensures.line.line

pub returns-in_default-clause-failures : goal.returns-in_default-clause-failures
returns-in_default-clause-failures g c = shown_once (g.E.Sink.device c.args.err.now) (g.E.Sink.device c.use_fault-in_default.new.err) _ c.use_fault-in_default.ensures.line.line

pub returns-then-status-eq2-clause-failures : goal.returns-then-status-eq2-clause-failures
returns-then-status-eq2-clause-failures g c = shown_once (g.E.Sink.device c.args.err.now) (g.E.Sink.device c.put.new.w) _
    (put-shows (g.E.Sink.device _) (g.E.Sink.device _) _ c.put.result c.put.ensures)

pub returns-then-is_err-clause-failures : goal.returns-then-is_err-clause-failures
returns-then-is_err-clause-failures g c = shown_once (g.E.Sink.device c.args.err.now) (g.E.Sink.device c.write_fault.new.err) _ c.write_fault.ensures.line

pub returns-then-is_err-clause-answers : goal.returns-then-is_err-clause-answers
returns-then-is_err-clause-answers g c =
    let failed : is_ok c.put-2.result ≡ false = c.is_err.ensures.negation ∙ ap not c.if-is_err.true in
    let zero = status-zero (kind_of c.args.error.now) c.parse_status-status.result c.parse_status-status.ensures c.if-status-eq3.false c.if-status-eq2.false in
    let shown = subst (λ program. Tells program (g.E.Sink.device c.args.err.now) (g.E.Sink.device c.write_fault.new.err) (codes "write failed")) c.name.ensures c.write_fault.ensures.line in
    answer-failed g.P.Program.name (kind_of c.args.error.now) _ (g.W.Sink.device c.args.out.now) (g.W.Sink.device c.put-2.new.w)
    (g.E.Sink.device c.args.err.now) (g.E.Sink.device c.write_fault.new.err) c.write_fault.result zero
    (puts-some (g.W.Sink.device _) (g.W.Sink.device _) _ c.put-2.result c.put-2.ensures failed) shown c.write_fault.ensures.status
