use Rattle.vcd_merge.proofs.Cited.{◌≡◌, ◌≢◌, arith, sym, subst, Err, rules, refl, ◌+◌, ◌%◌, ◌^◌, new_code, Takes, IsSizedItem, IsSpelledAs, Item}
use Rattle.vcd_merge.proofs.Facts.{some_digits, change_taken, due_failed, due_put}
use Rattle.vcd_merge.proofs.merging.MergingVisitOptionU64.take_change.Goals as goal

pub put_unsized-requires-clause-sound : goal.put_unsized-requires-clause-sound
put_unsized-requires-clause-sound g c = rw c.in-Change.is at c.requires.item.2.sound

pub returns-then-change-eq0-clause-takes : goal.returns-then-change-eq0-clause-takes
returns-then-change-eq0-clause-takes g c = λ a a' item.
    change_taken _ _ _ c.args.change item c.in-Change.code c.in-Change.form _ c.in-Change.is refl refl
    (rw c.in-Change.is (c.put_unsized.ensures.takes c.args.regs c.is_some-inside.ensures))

pub put_renamed_ahead-requires-clause-spelled : goal.put_renamed_ahead-requires-clause-spelled
put_renamed_ahead-requires-clause-spelled g c = (c.args.view, c.in-Change.code, subst (IsSpelledAs c.args.view c.args.change) c.in-Change.is c.requires.item.2.spelled)

pub put_renamed_ahead-requires-clause-digits : goal.put_renamed_ahead-requires-clause-digits
put_renamed_ahead-requires-clause-digits g c = λ other. some_digits c.args.view.codes.now c.in-Change.code c.in-Change.form c.args.change.text.now (rw c.in-Change.is at c.requires.item.2.sound) other

pub put_renamed_ahead-requires-clause-binary : goal.put_renamed_ahead-requires-clause-binary
put_renamed_ahead-requires-clause-binary g c = c.requires.item.2.binary

pub returns-in_err-put_due_time-clause-takes : goal.returns-in_err-put_due_time-clause-takes
returns-in_err-put_due_time-clause-takes g c = λ a a' item.
    let p = c.args.change in
    let due = c.in_err-put_due_time.ensures in
    let sized = subst (λ (i : Item). IsSizedItem c.args.view.codes.now i p.size_or_zero) c.in-Change.is item.sized in
    let one = c.in-Some.ensures.size in
    let some : p.size_or_zero ≢ 0 = omega (arith, one) in
    let e : c.from_residual.result ≡ Err c.in_err-put_due_time.field-0.0 = search rules in
    rw e (change_taken _ _ _ p item c.in-Change.code c.in-Change.form _ c.in-Change.is refl refl
    (rw c.in-Change.is (due_failed c.args.view.codes.now c.in-Change.code p.size_or_zero c.in-Change.form p.text.now sized some c.args.regs c.args.self.now.time c.args.self.now.first c.args.written.now c.put_due_time.new.written
    (g.W.Sink.device c.args.out.now) (g.W.Sink.device c.put_due_time.new.out) c.in_err-put_due_time.field-0.0 due.puts.0)))

pub returns-in-Some-clause-takes : goal.returns-in-Some-clause-takes
returns-in-Some-clause-takes g c = λ a a' item.
    let p = c.args.change in
    let due = c.in_ok-put_due_time.ensures in
    let sized = subst (λ (i : Item). IsSizedItem c.args.view.codes.now i p.size_or_zero) c.in-Change.is item.sized in
    let one = c.in-Some.ensures.size in
    let some : p.size_or_zero ≢ 0 = omega (arith, one) in
    let id = new_code ((c.args.self.now.first + c.in-Change.code) % 2 ^ 64) in
    let line = subst (λ l. Takes (g.W.Sink.device c.put_due_time.new.out) (g.W.Sink.device c.put_code_line.new.w) l c.put_code_line.result)
    (sym (c.in-Some.ensures.line id)) c.put_code_line.ensures.0 in
    change_taken _ _ _ p item c.in-Change.code c.in-Change.form _ c.in-Change.is refl refl
    (rw c.in-Change.is (due_put c.args.view.codes.now c.in-Change.code p.size_or_zero c.in-Change.form p.text.now sized some c.args.regs c.args.self.now.time c.args.self.now.first c.args.written.now c.put_due_time.new.written
    (g.W.Sink.device c.args.out.now) (g.W.Sink.device c.put_due_time.new.out)
    (g.W.Sink.device c.put_code_line.new.w) c.put_code_line.result due.puts.0 due.written line))

pub returns-in_err-put_due_time-2-clause-takes : goal.returns-in_err-put_due_time-2-clause-takes
returns-in_err-put_due_time-2-clause-takes g c = λ a a' item.
    let p = c.args.change in
    let due = c.in_err-put_due_time-2.ensures in
    let sized = subst (λ (i : Item). IsSizedItem c.args.view.codes.now i p.size_or_zero) c.in-Change.is item.sized in
    let e : c.from_residual-in_err-put_due_time-2.result ≡ Err c.in_err-put_due_time-2.field-0.0 = search rules in
    rw e (change_taken _ _ _ p item c.in-Change.code c.in-Change.form _ c.in-Change.is refl refl
    (rw c.in-Change.is (due_failed c.args.view.codes.now c.in-Change.code p.size_or_zero c.in-Change.form p.text.now sized c.if-change-eq0.false c.args.regs c.args.self.now.time c.args.self.now.first c.args.written.now c.put_due_time-2.new.written
    (g.W.Sink.device c.args.out.now) (g.W.Sink.device c.put_due_time-2.new.out) c.in_err-put_due_time-2.field-0.0 due.puts.0)))

pub returns-clause-takes : goal.returns-clause-takes
returns-clause-takes g c = λ a a' item.
    let p = c.args.change in
    let due = c.in_ok-put_due_time-2.ensures in
    let sized = subst (λ (i : Item). IsSizedItem c.args.view.codes.now i p.size_or_zero) c.in-Change.is item.sized in
    change_taken _ _ _ p item c.in-Change.code c.in-Change.form _ c.in-Change.is refl refl
    (rw c.in-Change.is (due_put c.args.view.codes.now c.in-Change.code p.size_or_zero c.in-Change.form p.text.now sized c.if-change-eq0.false c.args.regs c.args.self.now.time c.args.self.now.first c.args.written.now c.put_due_time-2.new.written
    (g.W.Sink.device c.args.out.now) (g.W.Sink.device c.put_due_time-2.new.out)
    (g.W.Sink.device c.put_renamed_ahead.new.w) c.put_renamed_ahead.result due.puts.0 due.written c.put_renamed_ahead.ensures.0))
