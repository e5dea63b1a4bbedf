use Rattle.std.proofs.Common.{◌≡◌, ◌-◌, codes, decimal, rules, subst}
use Rattle.vcd_text.proofs.Writes.{puts-first, puts-twice}
use Rattle.vcd_text.specs.Device.{Puts}
use Rattle.vcdkit_strobe.proofs.job.put_reason.Goals as goal

pub returns-in-Missing : goal.returns-in-Missing
returns-in-Missing g c = rw c.in-Missing.is c.put.ensures

pub returns-in-Several : goal.returns-in-Several
returns-in-Several g c = rw c.in-Several.is c.put-in-Several.ensures

pub returns-in-Event : goal.returns-in-Event
returns-in-Event g c = rw c.in-Event.is c.put-in-Event.ensures

pub returns-in-Real : goal.returns-in-Real
returns-in-Real g c = rw c.in-Real.is c.put-in-Real.ensures

pub returns-in_err-put-in-Wide : goal.returns-in_err-put-in-Wide
returns-in_err-put-in-Wide g c =
    rw c.in-Wide.is (puts-first (g.E.Sink.device _) (g.E.Sink.device _) (codes "it has ") _ _ c.from_residual.ensures.0 c.in_err-put-in-Wide.ensures)

pub returns-in_err-put_number-in-Wide : goal.returns-in_err-put_number-in-Wide
returns-in_err-put_number-in-Wide g c =
    rw c.in-Wide.is (puts-twice (g.E.Sink.device _) (g.E.Sink.device _) (g.E.Sink.device _) (codes "it has ") _ _ c.in_ok-put-in-Wide.ensures
    (puts-first (g.E.Sink.device _) (g.E.Sink.device _) _ (codes " bits: write PATH@PLACE") _ c.from_residual-in_err-put_number-in-Wide.ensures.0
    c.in_err-put_number-in-Wide.ensures))

pub returns-in_ok-put_number-in-Wide : goal.returns-in_ok-put_number-in-Wide
returns-in_ok-put_number-in-Wide g c =
    rw c.in-Wide.is (puts-twice (g.E.Sink.device _) (g.E.Sink.device _) (g.E.Sink.device _) (codes "it has ") _ _ c.in_ok-put-in-Wide.ensures
    (puts-twice (g.E.Sink.device _) (g.E.Sink.device _) (g.E.Sink.device _) _ (codes " bits: write PATH@PLACE") _ c.in_ok-put_number-in-Wide.ensures
    c.put-in-Wide-2.ensures))

pub returns-in_err-put-in-High : goal.returns-in_err-put-in-High
returns-in_err-put-in-High g c =
    rw c.in-High.is (puts-first (g.E.Sink.device _) (g.E.Sink.device _) (codes "the highest place is ") _ _ c.from_residual-in_err-put-in-High.ensures.0
    c.in_err-put-in-High.ensures)

pub returns-in_ok-put-in-High : goal.returns-in_ok-put-in-High
returns-in_ok-put-in-High g c =
    let less : c.saturating_sub.result ≡ c.in-High.size - 1 = search rules in
    rw c.in-High.is (puts-twice (g.E.Sink.device _) (g.E.Sink.device _) (g.E.Sink.device _) (codes "the highest place is ") (decimal (c.in-High.size - 1)) _ c.in_ok-put-in-High.ensures
    (subst (λ n. Puts (g.E.Sink.device c.put-in-High.new.w) (g.E.Sink.device c.put_number-in-High.new.w) (decimal n) c.put_number-in-High.result) less
    c.put_number-in-High.ensures))
