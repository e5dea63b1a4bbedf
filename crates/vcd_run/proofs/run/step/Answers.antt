use Rattle.std.proofs.Common.{◌≡◌, ◌≢◌, true, Err, inr, sym, subst, rules}
use Rattle.vcd_body.specs.Given.{IsItem}
use Rattle.vcd_body.specs.declared.answer.Stop.TheVariants.{Write}
use Rattle.vcd_body.specs.declared.item.Item.TheVariants.{Finish}
use Rattle.vcd_run.proofs.StepLemmas.{all_given, few_items, item_given, stopped, take_fails, taken_last, taken_on}
use Rattle.vcd_run.proofs.run.step.Goals as goal

pub returns-in-Err-clause-steps : goal.returns-in-Err-clause-steps
returns-in-Err-clause-steps g c = λ p h i front items views s.
    rw c.of_body.ensures (stopped g.T.Task.keeps p h i front (g.T.Task.tells c.args.task.now)
    items c.args.task.now c.next_item.new.regs c.next_item.new.feed (g.W.Sink.device c.args.out.now) c.in-Err.fault c.line.result c.line.ensures
    (c.in-Err.ensures.reads h i front items views s.gave))

pub returns-in_err-close-clause-steps : goal.returns-in_err-close-clause-steps
returns-in_err-close-clause-steps g c = λ p h i front items views s.
    let is : c.in-Ok.item ≡ Finish = search rules in
    let e : c.from_residual.result ≡ Err Write = search rules in
    let all = all_given h.codes i front items c.next_item.new.feed c.next_item.new.regs c.in-Ok.item is (c.in-Ok.ensures.reads h i front items views s.gave) in
    let closes = c.in_err-close.ensures.closes p h items views all.gave.known s.stands s.on in
    rw e (inr (all, (closes.0, c.in_err-close.ensures.counts)))

pub returns-in_err-close-clause-sink : goal.returns-in_err-close-clause-sink
returns-in_err-close-clause-sink g c = λ input is.
    let e : c.from_residual.result ≡ Err Write = search rules in
    absurd (cc)

pub returns-then-eq-clause-steps : goal.returns-then-eq-clause-steps
returns-then-eq-clause-steps g c = λ p h i front items views s.
    let is : c.in-Ok.item ≡ Finish = search rules in
    let all = all_given h.codes i front items c.next_item.new.feed c.next_item.new.regs c.in-Ok.item is (c.in-Ok.ensures.reads h i front items views s.gave) in
    let closes = c.in_ok-close.ensures.closes p h items views all.gave.known s.stands s.on in
    (all, (closes.0, c.in_ok-close.ensures.counts), closes.1)

pub returns-in-Ok-false-clause-steps : goal.returns-in-Ok-false-clause-steps
returns-in-Ok-false-clause-steps g c = λ p h i front items views s.
    let no : c.in-Ok.item ≢ Finish = λ is. let same : c.eq.result ≡ true = search rules in let apart = c.if-eq.false in absurd (cc) in
    let r = c.next_item.new.regs in
    let f = c.next_item.new.feed in
    let x = item_given h i front items f c.in-Ok.item r no (c.in-Ok.ensures.reads h i front items views s.gave) in
    let read = subst (λ l. IsItem h.codes l c.in-Ok.item x.0) (sym c.text_of_item-text.ensures) x.1 in
    let further = c.in-Ok.ensures.progress no in
    let few = few_items g.T.Task.keeps p h i front items c.args.task.now c.args.regs.now c.args.feed.now s f further c.in-Ok.ensures.bounded in
    let t = c.in-Ok-false.ensures.takes p h items c.args.regs.now x.0 views s.gave.known x.2.gave.known c.in-Ok.ensures.regs read few s.stands s.on in
    taken_on g.T.Task.keeps p h i front items c.args.task.now c.args.regs.now c.args.feed.now s (g.T.Task.tells c.take.new.self) c.take.new.self r f
    (g.W.Sink.device c.args.out.now) (g.W.Sink.device c.take.new.out)
    c.in-Ok-false.field-0 x.0 further c.in-Ok-false.field-0-test x.2 t c.in-Ok-false.ensures.counts

pub returns-in-Ok-true-clause-steps : goal.returns-in-Ok-true-clause-steps
returns-in-Ok-true-clause-steps g c = λ p h i front items views s.
    let no : c.in-Ok.item ≢ Finish = λ is. let same : c.eq.result ≡ true = search rules in let apart = c.if-eq.false in absurd (cc) in
    let r = c.next_item.new.regs in
    let f = c.next_item.new.feed in
    let x = item_given h i front items f c.in-Ok.item r no (c.in-Ok.ensures.reads h i front items views s.gave) in
    let read = subst (λ l. IsItem h.codes l c.in-Ok.item x.0) (sym c.text_of_item-text.ensures) x.1 in
    let further = c.in-Ok.ensures.progress no in
    let few = few_items g.T.Task.keeps p h i front items c.args.task.now c.args.regs.now c.args.feed.now s f further c.in-Ok.ensures.bounded in
    let t = c.in-Ok-true.ensures.takes p h items c.args.regs.now x.0 views s.gave.known x.2.gave.known c.in-Ok.ensures.regs read few s.stands s.on in
    taken_last g.T.Task.keeps p h i front items c.args.task.now c.args.regs.now c.args.feed.now s
    (g.T.Task.tells c.take.new.self) c.take.new.self r f (g.W.Sink.device c.args.out.now)
    (g.W.Sink.device c.take.new.out) c.in-Ok-true.field-0 x.0 c.in-Ok-true.field-0-test x.2 t c.in-Ok-true.ensures.counts

pub returns-in-Err-take-clause-steps : goal.returns-in-Err-take-clause-steps
returns-in-Err-take-clause-steps g c = λ p h i front items views s.
    let no : c.in-Ok.item ≢ Finish = λ is. let same : c.eq.result ≡ true = search rules in let apart = c.if-eq.false in absurd (cc) in
    let r = c.next_item.new.regs in
    let f = c.next_item.new.feed in
    let x = item_given h i front items f c.in-Ok.item r no (c.in-Ok.ensures.reads h i front items views s.gave) in
    let read = subst (λ l. IsItem h.codes l c.in-Ok.item x.0) (sym c.text_of_item-text.ensures) x.1 in
    let further = c.in-Ok.ensures.progress no in
    let few = few_items g.T.Task.keeps p h i front items c.args.task.now c.args.regs.now c.args.feed.now s f further c.in-Ok.ensures.bounded in
    let t = c.in-Err-take.ensures.takes p h items c.args.regs.now x.0 views s.gave.known x.2.gave.known c.in-Ok.ensures.regs read few s.stands s.on in
    let w : c.into.result ≡ Write = search rules in
    rw w (take_fails g.T.Task.keeps p h i front items c.args.task.now c.args.regs.now c.args.feed.now s
    (g.T.Task.tells c.take.new.self) c.take.new.self r f (g.W.Sink.device c.args.out.now)
    (g.W.Sink.device c.take.new.out) c.in-Err-take.failed x.0 x.2 t c.in-Err-take.ensures.counts)

pub returns-in-Err-take-clause-sink : goal.returns-in-Err-take-clause-sink
returns-in-Err-take-clause-sink g c = λ input is.
    let w : c.into.result ≡ Write = search rules in
    absurd (cc)
