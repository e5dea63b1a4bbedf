use Rattle.vcd_merge.proofs.Cited.{true, ◌+◌, ℕ, List, ◌≡◌, ◌≤◌, ◌^◌, sym, ap, subst, ◌∙◌, refl, ◌*◌, inl, inr, rules, arith, Err, mul_comm, BodyItem, HeadShown, Views, text_of, AreRegsAfter, model_form, model_section, Regs, limit_of, stop_of_body, call_end, Read, Write, BodyFault, Item, CallEnd, writes-none}
use Rattle.vcd_merge.proofs.Facts.{marked_dump, out_of, turned, faulty, large, not_large, timed, no_more_at_end, no_more_at_item}
use Rattle.vcd_body.specs.declared.fault.BodyFault.TheVariants as fault
use Rattle.vcd_merge.proofs.SeatLemmas.{ended}
use Rattle.vcd_merge.proofs.merging.read_item.Goals as goal

pub returns-in-Err-clause-turns : goal.returns-in-Err-clause-turns
returns-in-Err-clause-turns g c = λ scale first l items shows at.
    let views = subst (λ (x : HeadShown). Views x l.header) (sym c.view-view.ensures) shows in
    let fails = c.in-Err.ensures.reads l.header l.input l.front items views (out_of scale first l items c.args.seat.now c.args.feed.now at) in
    rw c.of_body.ensures
    (faulty scale first l items
    (Unit {0}) c.args.input c.args.seat.now c.next_item.new.regs c.args.seat.now.time c.args.seat.now.finished c.args.feed.now c.next_item.new.feed c.args.written.now
    (g.W.Sink.device _) c.in-Err.fault c.line.result at c.line.ensures fails)

pub returns-in-None-clause-turns : goal.returns-in-None-clause-turns
returns-in-None-clause-turns g c = λ scale first l items shows at.
    let views = subst (λ (x : HeadShown). Views x l.header) (sym c.view-view.ensures) shows in
    let gives = rw c.in-Time.is at c.in-Ok.ensures.reads l.header l.input l.front items views (out_of scale first l items c.args.seat.now c.args.feed.now at) in
    let not = c.in-None.ensures in
    let big : 2 ^ 64 ≤ c.in-Time.time * c.args.seat.now.factor = omega (arith, not) in
    let dump = marked_dump scale (limit_of c.next_item.new.feed)
    l.header l.front l.input items at.small c.next_item.new.feed c.in-Time.time c.next_item.new.regs refl
    (large scale c.in-Time.time (rw at.factor_is at big)) gives in
    rw c.time_too_large.ensures (
      refl,
      refl,
      rw c.line-in-None.ensures dump,
      writes-none (g.W.Sink.device _),
      no_more_at_item l l.input items c.next_item.new.feed (BodyItem.Time c.in-Time.time) c.next_item.new.regs gives,
    )

pub returns-in_err-put_unsized-in-Change-clause-turns : goal.returns-in_err-put_unsized-in-Change-clause-turns
returns-in_err-put_unsized-in-Change-clause-turns g c = λ scale first l items shows at.
    let views = subst (λ (x : HeadShown). Views x l.header) (sym c.view-view.ensures) shows in
    let s = c.args.seat.now in
    let r = c.next_item.new.regs in
    let gives = rw c.in-Change.is at c.in-Ok.ensures.reads l.header l.input l.front items views (out_of scale first l items s c.args.feed.now at) in
    let same : r ≡ s.regs = rw c.in-Change.is at c.in-Ok.ensures.regs in
    let x = BodyItem.Changes (record { code = gives.0; form = model_form c.in-Change.form; text = text_of c.in-Change.form c.next_item.new.feed }) in
    let known = subst (AreRegsAfter items) (sym same) at.gave.known in
    let e : c.from_residual.result ≡ Err Write = search rules in
    let puts = c.in_err-put_unsized-in-Change.ensures.takes r c.is_some-inside.ensures in
    let takes = puts c.view-view.result scale first l.header items x refl views known at.time_is at.first_is at.few (
      gives.0,
      gives.1,
      ap (λ (text : List ℕ). BodyItem.Changes (record { code = gives.0; form = model_form c.in-Change.form; text = text }))
          (sym c.change_text-text.ensures),
    ) in
    rw e (
      x,
      turned scale first l items s r s.time s.finished c.args.feed.now c.next_item.new.feed x at gives.2.gave refl
          (timed scale items s r at.gave.known (ap (λ (q : Regs). q.time) same) at.time_is) c.requires.unfinished,
      (takes.0, c.in_err-put_unsized-in-Change.ensures.counts),
      no_more_at_item l l.input items c.next_item.new.feed x r gives.2,
    )

pub returns-in-Finish-clause-turns : goal.returns-in-Finish-clause-turns
returns-in-Finish-clause-turns g c = λ scale first l items shows at.
    let views = subst (λ (x : HeadShown). Views x l.header) (sym c.view-view.ensures) shows in
    let gives = rw c.in-Finish.is at c.in-Ok.ensures.reads l.header l.input l.front items views (out_of scale first l items c.args.seat.now c.args.feed.now at) in
    inr (
      refl,
      ended scale first l items c.args.seat.now c.next_item.new.regs true c.args.feed.now c.next_item.new.feed at gives,
      refl,
      writes-none (g.W.Sink.device _),
      no_more_at_end l l.input items c.next_item.new.feed c.next_item.new.regs gives,
    )

pub returns-in-Some-clause-turns : goal.returns-in-Some-clause-turns
returns-in-Some-clause-turns g c = λ scale first l items shows at.
    let views = subst (λ (x : HeadShown). Views x l.header) (sym c.view-view.ensures) shows in
    let s = c.args.seat.now in
    let r = c.next_item.new.regs in
    let gives = rw c.in-Time.is at c.in-Ok.ensures.reads l.header l.input l.front items views (out_of scale first l items s c.args.feed.now at) in
    let regs = rw c.in-Time.is at c.in-Ok.ensures.regs in
    let fits = rw at.factor_is at c.in-Some.ensures in
    let time : c.in-Some.time ≡ scale * r.time = fits.1 ∙ mul_comm c.in-Time.time scale ∙ ap (λ n. scale * n) (sym (ap (λ (q : Regs). q.time) regs)) in
    inl (
      BodyItem.Time c.in-Time.time,
      (
        c.requires.unfinished,
        turned scale first l items s r c.in-Some.time s.finished c.args.feed.now c.next_item.new.feed
            (BodyItem.Time c.in-Time.time) at gives.gave (not_large scale c.in-Time.time fits.0) time c.requires.unfinished,
        refl,
        no_more_at_item l l.input items c.next_item.new.feed (BodyItem.Time c.in-Time.time) r gives,
      ),
      writes-none (g.W.Sink.device _),
    )

pub returns-in_ok-put_unsized-in-Change-clause-turns : goal.returns-in_ok-put_unsized-in-Change-clause-turns
returns-in_ok-put_unsized-in-Change-clause-turns g c = λ scale first l items shows at.
    let views = subst (λ (x : HeadShown). Views x l.header) (sym c.view-view.ensures) shows in
    let s = c.args.seat.now in
    let r = c.next_item.new.regs in
    let gives = rw c.in-Change.is at c.in-Ok.ensures.reads l.header l.input l.front items views (out_of scale first l items s c.args.feed.now at) in
    let same : r ≡ s.regs = rw c.in-Change.is at c.in-Ok.ensures.regs in
    let x = BodyItem.Changes (record { code = gives.0; form = model_form c.in-Change.form; text = text_of c.in-Change.form c.next_item.new.feed }) in
    let known = subst (AreRegsAfter items) (sym same) at.gave.known in
    let puts = c.in_ok-put_unsized-in-Change.ensures.takes r c.is_some-inside.ensures in
    let takes = puts c.view-view.result scale first l.header items x refl views known at.time_is at.first_is at.few (
      gives.0,
      gives.1,
      ap (λ (text : List ℕ). BodyItem.Changes (record { code = gives.0; form = model_form c.in-Change.form; text = text }))
          (sym c.change_text-text.ensures),
    ) in
    (inl (
      x,
      (
        c.requires.unfinished,
        turned scale first l items s r s.time s.finished c.args.feed.now c.next_item.new.feed x at gives.2.gave refl
            (timed scale items s r at.gave.known (ap (λ (q : Regs). q.time) same) at.time_is) c.requires.unfinished,
        takes.1,
        no_more_at_item l l.input items c.next_item.new.feed x r gives.2,
      ),
      (takes.0, c.in_ok-put_unsized-in-Change.ensures.counts),
    ))

pub returns-in-Begin-clause-turns : goal.returns-in-Begin-clause-turns
returns-in-Begin-clause-turns g c = λ scale first l items shows at.
    let views = subst (λ (x : HeadShown). Views x l.header) (sym c.view-view.ensures) shows in
    let s = c.args.seat.now in
    let r = c.next_item.new.regs in
    let gives = rw c.in-Begin.is at c.in-Ok.ensures.reads l.header l.input l.front items views (out_of scale first l items s c.args.feed.now at) in
    let regs = rw c.in-Begin.is at c.in-Ok.ensures.regs in
    let x = BodyItem.Begin (model_section c.in-Begin.field-0) in
    inl (
      x,
      (
        c.requires.unfinished,
        turned scale first l items s r s.time s.finished c.args.feed.now c.next_item.new.feed x at gives.gave refl
            (timed scale items s r at.gave.known (ap (λ (q : Regs). q.time) regs) at.time_is) c.requires.unfinished,
        refl,
        no_more_at_item l l.input items c.next_item.new.feed x r gives,
      ),
      writes-none (g.W.Sink.device _),
    )

pub returns-in-End-clause-turns : goal.returns-in-End-clause-turns
returns-in-End-clause-turns g c = λ scale first l items shows at.
    let views = subst (λ (x : HeadShown). Views x l.header) (sym c.view-view.ensures) shows in
    let s = c.args.seat.now in
    let r = c.next_item.new.regs in
    let gives = rw c.in-End.is at c.in-Ok.ensures.reads l.header l.input l.front items views (out_of scale first l items s c.args.feed.now at) in
    let regs = rw c.in-End.is at c.in-Ok.ensures.regs in
    inl (
      BodyItem.End,
      (
        c.requires.unfinished,
        turned scale first l items s r s.time s.finished c.args.feed.now c.next_item.new.feed BodyItem.End at gives.gave refl
            (timed scale items s r at.gave.known (ap (λ (q : Regs). q.time) regs) at.time_is) c.requires.unfinished,
        refl,
        no_more_at_item l l.input items c.next_item.new.feed BodyItem.End r gives,
      ),
      writes-none (g.W.Sink.device _),
    )

-- a stop for a failed read is one of a read that failed
at_failed_read : (fault : BodyFault) (input line at : ℕ) → stop_of_body fault input line ≡ Read at → call_end {A = Item} (Err fault) ≡ CallEnd.Fails
at_failed_read fault.TokenTooLong input line at e = absurd (cc)
at_failed_read fault.EndOfInput input line at e = absurd (cc)
at_failed_read fault.UnknownCommand input line at e = absurd (cc)
at_failed_read fault.OutOfPlace input line at e = absurd (cc)
at_failed_read fault.BadTime input line at e = absurd (cc)
at_failed_read fault.TimeBack input line at e = absurd (cc)
at_failed_read fault.BadValue input line at e = absurd (cc)
at_failed_read fault.UnknownCode input line at e = absurd (cc)
at_failed_read fault.TooWide input line at e = absurd (cc)
at_failed_read fault.RealTooLong input line at e = absurd (cc)
at_failed_read fault.TimeInSection input line at e = absurd (cc)
at_failed_read fault.InputTooLong input line at e = absurd (cc)
at_failed_read fault.ReadFailed input line at e = refl

not_one_more : (n : ℕ) → n ≡ n + 1 → ⊥
not_one_more n e = omega (arith, e)

pub returns-in-Err-clause-passed_on : goal.returns-in-Err-clause-passed_on
returns-in-Err-clause-passed_on g c = λ at is.
    let e : c.of_body.result ≡ Read at = cc in
    let n = c.in-Err.ensures in
    elim c.requires.prompt [
      | inl none ↦ none
      | inr holds ↦ absurd (not_one_more _ (sym (ap g.S.Source.failures (n.ahead holds))
          ∙ n.advances.failed (at_failed_read c.in-Err.fault c.args.input c.line.result at (sym c.of_body.ensures ∙ e)) c.requires.«open»))
    ]

pub returns-in-None-clause-passed_on : goal.returns-in-None-clause-passed_on
returns-in-None-clause-passed_on g c = λ at is.
    let e = c.time_too_large.ensures in
    absurd (cc)

pub returns-in_err-put_unsized-in-Change-clause-passed_on : goal.returns-in_err-put_unsized-in-Change-clause-passed_on
returns-in_err-put_unsized-in-Change-clause-passed_on g c = λ at is.
    let e : c.from_residual.result ≡ Err Write = search rules in
    absurd (cc)
