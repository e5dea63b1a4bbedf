use Rattle.vcd_engine.proofs.Cited.{◌≡◌, ℕ, ◌+◌, ◌<◌, ◌⊎◌, inl, inr, true, false, [], Err, refl, ap, ◌∙◌, arith, rules, head_for, start_section, appends-some, appends-twice, Request, CanRun, Write, new_holds, room_enough}
use Rattle.vcd_engine.proofs.Facts.{begun_at, open_begun, open_plain, open_some, plain_at, starts_begun, starts_plain, values_none}
use Rattle.vcd_engine.proofs.task_state.cut.Cut.start.Goals as goal

-- nothing has begun, so its time is later
later_than : (from : ℕ) → (false ≡ true) ⊎ (0 < from) → 0 < from
later_than from (inl stands) = cc
later_than from (inr low) = low

pub returns-in_err-put_head-clause-starts : goal.returns-in_err-put_head-clause-starts
returns-in_err-put_head-clause-starts g c = λ h views.
    let from = c.args.from in
    let to = c.args.to in
    let e : c.from_residual.result ≡ Err Write = search rules in
    let head = c.in_err-put_head.ensures.selected h [] views (c.in_default.ensures.marks h views) in
    rw e (
      record { body = refl; valid = c.requires.order; matched = c.in_default.ensures.names h views },
      (open_some h from to (g.W.Sink.device c.args.out.now).held (g.W.Sink.device c.put_head.new.w).held head, c.in_err-put_head.ensures.counts),
    )

pub returns-in_err-begin_by-clause-starts : goal.returns-in_err-begin_by-clause-starts
returns-in_err-begin_by-clause-starts g c = λ h views.
    let from = c.args.from in
    let to = c.args.to in
    let e : c.from_residual-in_err-begin_by.result ≡ Err Write = search rules in
    let head = c.in_ok-put_head.ensures.selected h [] views (c.in_default.ensures.marks h views) in
    let held = new_holds c.args.view h c.new.result views c.new.ensures.laid (c.new.ensures.room (room_enough c.args.view h _ views c.requires.room.values)) in
    let section = c.in_err-begin_by.ensures.begins h [] views (λ _. values_none c.new.result h from held) in
    let begun = begun_at from (let now = section.1 in omega (arith, now)) in
    rw e (
      record { body = refl; valid = c.requires.order; matched = c.in_default.ensures.names h views },
      (
        rw (open_begun h from to begun) (appends-some _ _ _ (head_for h []) (start_section h from []) head section.2.0),
        c.in_err-begin_by.ensures.counts ∙ ap (λ n. n + 1) c.in_ok-put_head.ensures.counts,
      ),
    )

pub returns-clause-starts : goal.returns-clause-starts
returns-clause-starts g c = λ h views.
    let from = c.args.from in
    let to = c.args.to in
    let head = c.in_ok-put_head.ensures.selected h [] views (c.in_default.ensures.marks h views) in
    let held = new_holds c.args.view h c.new.result views c.new.ensures.laid (c.new.ensures.room (room_enough c.args.view h _ views c.requires.room.values)) in
    let can : CanRun (Request.Cut from to) h = record { body = refl; valid = c.requires.order; matched = c.in_default.ensures.names h views } in
    let same = c.in_ok-begin_by.ensures.same.0 in
    let same_from : c.begin_by.new.self.from ≡ from = cc in
    let same_to : c.begin_by.new.self.to ≡ to = cc in
    elim (c.in_ok-begin_by.ensures.begins h [] views (λ _. values_none c.new.result h from held)) [
      | inl section ↦
          let begun = begun_at from (let now = section.come in omega (arith, now)) in (
            can,
            starts_begun h c.begin_by.new.self from to same_from same_to c.requires.order section.stands section.text begun,
            (rw (open_begun h from to begun) (appends-twice _ _ _ (head_for h []) (start_section h from []) head section.section), c.in_ok-begin_by.ensures.counts ∙ c.in_ok-put_head.ensures.counts),
          )
      | inr none ↦
          let later = later_than from none.why in
          let scanned = plain_at from (λ e. omega (arith, later, e)) in
          rw (none.same, none.nothing) (can, starts_plain h _ c.requires.order refl held scanned, (rw (open_plain h from to scanned) head, c.in_ok-put_head.ensures.counts))
    ]
