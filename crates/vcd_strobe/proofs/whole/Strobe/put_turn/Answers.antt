use Rattle.std.proofs.Common.{◌∙◌, arith, sym}
use Rattle.vcd_model.specs.Strobe.{edges_in}
use Rattle.vcd_strobe.proofs.TurnSteps.{edges_few, edges_low, turn_edge, turn_none, turn_past}
use Rattle.vcd_strobe.proofs.whole.Strobe.put_turn.Goals as goal

pub returns-then-is_at-clause-puts : goal.returns-then-is_at-clause-puts
returns-then-is_at-clause-puts g c = λ h names ks items x has edges is time few low one two turn.
    turn_past c.args.self.now h names ks items x has edges time (g.W.Sink.device c.args.out.now) c.args.time is (sym c.if-is_at.ensures)

pub returns-then-not-is_turn-clause-puts : goal.returns-then-not-is_turn-clause-puts
returns-then-not-is_turn-clause-puts g c = λ h names ks items x has edges is time few low one two turn.
    turn_none c.args.self.now h names ks items x has edges time (g.W.Sink.device c.args.out.now) (sym turn ∙ sym (c.if-not-is_turn.ensures has.laid low one two))

pub returns-clause-puts : goal.returns-clause-puts
returns-clause-puts g c = λ h names ks items x has edges is time few low one two turn.
    let most = edges_few ks items in
    let puts = c.put_edge.ensures.puts h names (edges_in ks items) items has is edges.count (omega (arith, few, most)) (edges_low ks items c.args.self.now.edges c.args.self.now.last edges) in
    turn_edge c.args.self.now h names ks items x has edges time _ (g.W.Sink.device c.args.out.now)
    (g.W.Sink.device c.put_edge.new.out) c.args.time c.put_edge.result is (sym c.if-is_at.ensures) (sym turn
    ∙ sym (c.if-not-is_turn.ensures has.laid low one two)) few puts.0 puts.1 c.put_edge.ensures.past
