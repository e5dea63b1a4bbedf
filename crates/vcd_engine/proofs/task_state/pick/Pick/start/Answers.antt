use Rattle.vcd_engine.proofs.Cited.{◌≡◌, map, string_bytes, Err, refl, sym, subst, rules, Appends, Request, pick_open_none, AppendsSome, Write}
use Rattle.vcd_engine.proofs.Facts.{stops_unmatched}
use Rattle.vcd_engine.proofs.task_state.pick.Pick.start.Goals as goal

pub returns-in_err-select_codes-clause-starts : goal.returns-in_err-select_codes-clause-starts
returns-in_err-select_codes-clause-starts g c = λ h views.
    let stop = c.in_err-select_codes.field-0.0 in
    let e : c.from_residual.result ≡ Err stop = search rules in
    rw e (stops_unmatched (Request.Pick (map string_bytes c.args.names.now)) h (g.W.Sink.device _) stop (c.in_err-select_codes.ensures.selects h views))

pub returns-in_err-put_head-clause-starts : goal.returns-in_err-put_head-clause-starts
returns-in_err-put_head-clause-starts g c = λ h views.
    let names = map string_bytes c.args.names.now in
    let e : c.from_residual-in_err-put_head.result ≡ Err Write = search rules in
    let selected = c.in_ok-select_codes.ensures.selects h views in
    let head = c.in_err-put_head.ensures.selected h names views selected.marks_are in
    rw e (
      record { body = refl; valid = tt; matched = selected.matched },
      (
        subst (AppendsSome (g.W.Sink.device c.args.out.now).held (g.W.Sink.device c.put_head.new.w).held) (sym (pick_open_none h names)) head,
        c.in_err-put_head.ensures.counts,
      ),
    )

pub returns-clause-starts : goal.returns-clause-starts
returns-clause-starts g c = λ h views.
    let names = map string_bytes c.args.names.now in
    let selected = c.in_ok-select_codes.ensures.selects h views in
    let head = c.in_ok-put_head.ensures.selected h names views selected.marks_are in (
      record { body = refl; valid = tt; matched = selected.matched },
      record { chosen = selected.chosen; written = c.new.ensures },
      (subst (Appends (g.W.Sink.device c.args.out.now).held (g.W.Sink.device c.put_head.new.w).held) (sym (pick_open_none h names)) head, c.in_ok-put_head.ensures.counts),
    )
