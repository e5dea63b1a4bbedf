use Rattle.vcd_engine.proofs.Cited.{◌≡◌, codes, Err, Some, None, rules, count_line, number_or_dash, puts-twice, some-first}
use Rattle.vcd_engine.proofs.report.put_report.Goals as goal

pub returns-in_err-put_counts : goal.returns-in_err-put_counts
returns-in_err-put_counts g c =
    let e : c.from_residual.result ≡ Err c.in_err-put_counts.field-0.0 = search rules in
    rw e (some-first (g.W.Sink.device _) (g.W.Sink.device _) _ (count_line (codes "last") (number_or_dash c.args.last)) c.in_err-put_counts.ensures)

pub returns-in-Some : goal.returns-in-Some
returns-in-Some g c = rw c.in-Some.is (puts-twice (g.W.Sink.device _) (g.W.Sink.device _) (g.W.Sink.device _) _
    (count_line (codes "last") (number_or_dash (Some c.in-Some.time))) c.put_count.result c.in_ok-put_counts.ensures c.put_count.ensures)

pub returns-in-None : goal.returns-in-None
returns-in-None g c = rw c.in-None.is (puts-twice (g.W.Sink.device _) (g.W.Sink.device _) (g.W.Sink.device _) _
    (count_line (codes "last") (number_or_dash None)) c.put.result c.in_ok-put_counts.ensures c.put.ensures)
