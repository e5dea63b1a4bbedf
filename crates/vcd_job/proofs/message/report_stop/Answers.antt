use Rattle.vcd_job.proofs.Cited.{codes, decimal, refl}
use Rattle.vcd_job.proofs.Facts.{fault-line, puts-shows, some-line}
use Rattle.vcd_job.proofs.message.report_stop.Goals as goal

pub returns-in-Write : goal.returns-in-Write
returns-in-Write g c = rw c.in-Write.is c.say.ensures

pub returns-in-Dump : goal.returns-in-Dump
returns-in-Dump g c =
    rw (
      c.in-Dump.is,
      ← c.name_at.ensures,
      ← c.text_of.ensures,
      fault-line c.args.program.now c.name_at.result.now
          (decimal c.in-Dump.line) c.text_of.result.now,
    ) (record {
      line = puts-shows (g.E.Sink.device _)
          (g.E.Sink.device _) _ c.put_fault.result c.put_fault.ensures;
      status = refl;
    })

pub returns-in-Read : goal.returns-in-Read
returns-in-Read g c =
    rw (c.in-Read.is, ← c.name_at-in-Read.ensures, some-line c.args.program.now c.name_at-in-Read.result.now (codes " read failed") 58) c.say_both.ensures

pub returns-in-Unmatched : goal.returns-in-Unmatched
returns-in-Unmatched g c =
    rw (c.in-Unmatched.is, ← c.name_at-in-Unmatched.ensures, some-line c.args.program.now c.name_at-in-Unmatched.result.now (codes " selects nothing") 58) c.say_both-in-Unmatched.ensures
