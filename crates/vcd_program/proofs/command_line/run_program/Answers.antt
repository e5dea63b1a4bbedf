use Rattle.vcd_program.proofs.Cited.{◌≡◌, ◌∙◌, ap, codes, false, is_ok, not, subst, sym, Finishes, Tells}
use Rattle.vcd_program.proofs.Facts.{apart, finished}
use Rattle.vcd_program.proofs.command_line.run_program.Goals as goal
use Rattle.vcd_program.proofs.command_line.run_program.Goals.{else-status-lt3-via-then-status-lt3+else-is_err, else-status-lt3-via-else-status-lt3}

pub returns-then-is_err-clause-runs : goal.returns-then-is_err-clause-runs
returns-then-is_err-clause-runs g c =
    let failed : is_ok c.flush-flushed.result ≡ false = c.is_err.ensures.negation ∙ ap not c.if-is_err.true in
    let fails = subst (λ done. g.W.Output.flushes c.parse_and_run-status.new.out done c.flush-flushed.new.self) failed c.flush-flushed.ensures.flushes in
    Finishes.Unflushed c.parse_and_run-status.new.out (g.E.Sink.device c.parse_and_run-status.new.err)
    c.parse_and_run-status.result c.parse_and_run-status.ensures.runs c.if-status-lt3.true fails c.flush-flushed.ensures.held c.flush-flushed.ensures.failures
    (subst (λ program. Tells program (g.E.Sink.device c.parse_and_run-status.new.err) (g.E.Sink.device c.write_fault.new.err) (codes "write failed"))
    c.name.ensures c.write_fault.ensures.line) c.write_fault.ensures.status

pub returns-clause-runs : goal.returns-clause-runs
returns-clause-runs g c =
    let ends = finished g.P.Program.name g.W.Sink.device g.W.Output.flushes _ c.parse_and_run-status.new.out c.flush-flushed.new.self
    (g.E.Sink.device c.parse_and_run-status.new.err) c.parse_and_run-status.result (is_ok c.flush-flushed.result)
    c.parse_and_run-status.ensures.runs c.flush-flushed.ensures.flushes c.flush-flushed.ensures.held c.flush-flushed.ensures.failures in
    elim c.else-status-lt3.branch [
      | else-status-lt3-via-then-status-lt3+else-is_err w ↦ ends (λ no. absurd (apart (sym (w.is_err.ensures.negation ∙ ap not w.if-is_err.false) ∙ no)))
      | else-status-lt3-via-else-status-lt3 w ↦ ends (λ no. w.if-status-lt3.false)
    ]
