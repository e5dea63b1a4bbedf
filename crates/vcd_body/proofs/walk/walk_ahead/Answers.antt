use Rattle.vcd_body.proofs.Cited.{◌≡◌, ◌∙◌, ap, Err, Ok, AtItem, AtLines, Over, rules, HasCome, stage_at}
use Rattle.vcd_body.proofs.Facts.{come_begins, come_past, walks_further}
use Rattle.vcd_body.proofs.walk.walk_ahead.Given as given
use Rattle.vcd_body.proofs.walk.walk_ahead.Goals as goal
use Rattle.vcd_body.proofs.walk.walk_ahead.Goals.{After-walk_items-items, then-at_lines+else-not-can_go_on, else-at_lines, in-AtLines, in-AtItem+else-passed-from}

-- where the walk is before it takes items one by one
come_to_items : (g : given.Over) (c : After-walk_items-items g) → HasCome g.V.Visit.takes g.V.Visit.stands g.V.Visit.over c.args.view
    (stage_at c.args.ahead c.args.regs c.args.visit c.args.command.now (g.W.Sink.device c.args.out.now))
    (stage_at c.if-at_lines.ahead c.if-at_lines.regs c.if-at_lines.visit c.if-at_lines.command (g.W.Sink.device c.if-at_lines.out))
come_to_items g c = elim c.if-at_lines.branch [
  | then-at_lines+else-not-can_go_on w ↦
      let ended : w.take_lines-lines.result.ended ≡ Ok AtItem = search rules in
      rw (w.ahead-is, w.regs-is, w.visit-is, w.command-is, w.out-is) (walks_further _ _ _ _ _ _ _ (Ok AtItem) c.parts.invariant.come (rw ended at w.take_lines-lines.ensures))
  | else-at_lines w ↦ rw (w.ahead-is, w.regs-is, w.visit-is, w.command-is, w.out-is) c.parts.invariant.come
]

pub parts-init : goal.parts-init
parts-init g c = record { come = come_begins _ _ _ _ _ c.requires.stands c.requires.within; on = c.lines_come-at_lines.ensures }

pub returns-then-not-can_go_on : goal.returns-then-not-can_go_on
returns-then-not-can_go_on g c = walks_further _ _ _ _ _ _ _ _ c.parts.invariant.come c.take_lines-lines.ensures

pub returns-in_default : goal.returns-in_default
returns-in_default g c =
    let to_items = come_to_items g (goal.at.returns-in_default g c).After-walk_items-items in
    rw c.in_default.is (walks_further _ _ _ _ _ _ _ (Err c.in_default.field-0) to_items (rw c.in_default.is at c.walk_items-items.ensures))

pub returns-then-passed-from : goal.returns-then-passed-from
returns-then-passed-from g c =
    let ended : c.walk_items-items.result.ended ≡ Ok AtItem = c.in-Ok.is ∙ ap Ok c.in-AtItem.is in
    let to_items = come_to_items g (goal.at.returns-then-passed-from g c).After-walk_items-items in
    rw ended (walks_further _ _ _ _ _ _ _ (Ok AtItem) to_items (rw ended at c.walk_items-items.ensures))

pub returns-in-Over : goal.returns-in-Over
returns-in-Over g c =
    let ended : c.walk_items-items.result.ended ≡ Ok Over = c.in-Ok.is ∙ ap Ok c.in-Over.is in
    let to_items = come_to_items g (goal.at.returns-in-Over g c).After-walk_items-items in
    rw ended (walks_further _ _ _ _ _ _ _ (Ok Over) to_items (rw ended at c.walk_items-items.ensures))

pub parts-preserved : goal.parts-preserved
parts-preserved g c =
    let to_items = come_to_items g (goal.at.parts-preserved g c).After-walk_items-items in
    elim c.match-end.branch [
      | in-AtLines w ↦
          let ended : c.walk_items-items.result.ended ≡ Ok AtLines = c.in-Ok.is ∙ ap Ok w.in-AtLines.is in
          let more = rw ended at c.walk_items-items.ensures in
          rw (w.ahead-is, w.at_lines-is) (record { come = walks_further _ _ _ _ _ _ _ (Ok AtItem) to_items more.0; on = λ _. more.2 })
      | in-AtItem+else-passed-from w ↦
          let ended : c.walk_items-items.result.ended ≡ Ok AtItem = c.in-Ok.is ∙ ap Ok w.in-AtItem.is in
          let come = walks_further _ _ _ _ _ _ _ (Ok AtItem) to_items (rw ended at c.walk_items-items.ensures) in
          rw (w.ahead-is, w.at_lines-is) (record { come = come_past _ _ _ _ _ _ _ come w.after_comments-ahead.ensures; on = w.lines_come-at_lines-in-AtItem.ensures })
    ]
