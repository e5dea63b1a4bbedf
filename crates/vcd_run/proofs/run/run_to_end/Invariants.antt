use Rattle.std.proofs.Common.{◌≡◌, ◌-◌, ◌^◌, List, [], false}
use Rattle.vcd_model.specs.Header.{Header}
use Rattle.vcd_model.specs.Input.{Input}
use Rattle.vcd_model.specs.Items.{BodyItem}
use Rattle.vcd_model.specs.Tokens.{Token}
use Rattle.vcd_text.specs.Advances.{Advances, CallEnd}
use Rattle.vcd_text.specs.Device.{Device, Writes}
use Rattle.vcd_text.specs.Feed.{HasGiven, chunk_len_of, limit_of, seen, supply_of}
use Rattle.vcd_view.specs.Views.{IsViewOf}
use Rattle.vcd_run.specs.Plan.{Plan}
use Rattle.vcd_run.specs.Run.{HasTaken}
use Rattle.vcd_run.proofs.ReadLemmas.{HasRead}
use Rattle.vcd_run.proofs.run.run_to_end.Given as goal

-- the task has come past some more items, read no more than needed, and nothing failed
abbrev pub invariant-items : goal.invariant-items
invariant-items g l = Advances g.S.Source.failures l.fn.feed l.feed CallEnd.GoesOn
    × g.T.Task.is_ready l.task
    × (g.T.Task.fixed l.task ≡ g.T.Task.fixed l.fn.task)
    × ((g.W.Sink.device l.out).failures ≡ (g.W.Sink.device l.fn.out).failures)
    × ((p : Plan) (h : Header) (i : Input) (front : List Token) (begin : Device) → IsViewOf l.view h → HasGiven i front l.fn.feed
    → g.T.Task.keeps l.fn.task p h [] → p.ends [] ≡ false → Writes begin (g.W.Sink.device l.fn.out) (p.opens [])
    → (items : List BodyItem) × HasTaken g.T.Task.keeps p h i front items l.task l.regs l.feed × Writes begin (g.W.Sink.device l.out) (p.opens items)
    × HasRead p h (limit_of l.fn.feed) (chunk_len_of l.fn.feed) i front (supply_of l.fn.feed) items (supply_of l.feed))

abbrev pub decreases-items : goal.decreases-items
decreases-items g l = 2 ^ 63 - seen l.feed
