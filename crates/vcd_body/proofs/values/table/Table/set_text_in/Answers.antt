use Rattle.vcd_body.proofs.Cited.{inl, inr, ◌≡◌, ◌≤◌, ◌-◌, sym, ap, ◌∙◌, refl, arith, length, take, drop, get_or, length-set, eqb-true, slice_get-get_or, put_mid, with_text, Whole, end_at, holding_of, kept_with, some_by, used, used_by, whole}
use Rattle.vcd_body.proofs.Facts.{blank, blank_share, both_laid, fits_in, form_kept, form_past, length-put_mid, none_fits, not_outside, share_changes, text_stays, keeps_laid, some_bytes}
use Rattle.std.proofs.Common.{length-take, length-drop}
use Rattle.vcd_body.proofs.values.table.Table.set_text_in.Goals as goal
use Rattle.vcd_body.proofs.values.table.Table.set_text_in.Goals.{then-end-start-via-then-end-start, then-end-start-via-else-end-start+then-self-end, then-is_empty-via-then-is_empty, then-is_empty-via-else-is_empty+then-text_bytes-end}

pub returns : goal.returns
returns c =
    let t = c.args.self.now in
    let slots = t.slots.now in
    let parts = t.shares.now in
    let values = t.values.now in
    let code = c.args.code in
    let text = c.args.text.now in
    let slot = get_or slots code blank in
    let share = get_or parts code blank_share in
    let at = slice_get-get_or slots code blank (omega (arith, c.requires.code)) in
    let there = slice_get-get_or parts code blank_share (omega (arith, c.requires.code)) in
    let end = c.requires.end in
    let some = some_bytes text (sym c.is_empty.ensures ∙ c.if-is_empty.false) in
    let new = c.hold_text.new in
    let is = c.hold_text.ensures in
    let held = c.fill_share-state.ensures in
    let stop = end_at parts (length values) code in
    let bytes = put_mid share.start (stop - share.start) values c.fill_share-state.new.bytes in
    let enough : share.start ≤ c.args.end = omega (arith, c.if-end-start.false) in
    let most : c.args.end ≤ length values = omega (arith, c.if-self-end.false) in
    let lent : length (take (c.args.end - share.start) (drop share.start values)) ≡ c.args.end - share.start = omega
    (arith, most, enough, length-take (c.args.end - share.start) (drop share.start values), length-drop share.start values) in
    let size : length c.fill_share-state.new.bytes ≡ stop - share.start = c.fill_share-state.auto.bytes ∙ lent ∙ ap (λ e. e - share.start) end in
    let fits = held.used in
    let many = held.some some in
    let u = ap (λ (w : Whole). used_by w.state w.len) is in
    let o = ap (λ (w : Whole). some_by w.state w.len) is in
    record {
      keeps = keeps_laid t _ (length-set _ _ _) (length-set _ _ _)
          (length-put_mid share.start (c.args.end - share.start) values c.fill_share-state.new.bytes (omega (arith, enough, most)) (size
          ∙ ap (λ e. e - share.start) (sym end)))
          (λ laid. both_laid slots parts (length values) laid code slot share at there new.slot new.share (ap (λ (w : Whole). w.start) is)
          (omega (arith, fits, size, u, enough, end)) (omega (arith, many, o)));
      changes = λ laid. rw end (share_changes slots parts (length values)
          laid code slot share at there new.slot new.share values c.fill_share-state.new.bytes (with_text c.args.form text)
          (ap (λ (w : Whole). w.start) is) refl size
          (ap (kept_with bytes stop) is
          ∙ form_kept c.args.form c.fill_share-state.result (whole slot share) stop values c.fill_share-state.new.bytes text c.requires.several some
          (omega (arith, enough, end, c.text_bytes.ensures, c.if-text_bytes-end.false)) (omega (arith, most, end)) size held));
    }

pub returns-then-end-start : goal.returns-then-end-start
returns-then-end-start c = record {
  keeps = record { laid = λ laid. laid; codes = refl; bytes = refl };
  changes = λ laid.
      let t = c.args.self.now in
      let slot = get_or t.slots.now c.args.code blank in
      let share = get_or t.shares.now c.args.code blank_share in
      let at = slice_get-get_or t.slots.now c.args.code blank (omega (arith, c.requires.code)) in
      let there = slice_get-get_or t.shares.now c.args.code blank_share (omega (arith, c.requires.code)) in
      let end = c.requires.end in
      let l = laid c.args.code slot at in
      let low = fits_in t.shares.now (length t.values.now) c.args.code slot share l there in
      let high = l.within in
      absurd (not_outside share.start (used (holding_of slot share)) c.args.end (length t.values.now) (omega (arith, low, end)) (omega (arith, high, end))
      (elim c.then-end-start.branch [
        | then-end-start-via-then-end-start w ↦ inl w.if-end-start.true
        | then-end-start-via-else-end-start+then-self-end w ↦ inr w.if-self-end.true
      ]));
}

pub returns-then-is_empty : goal.returns-then-is_empty
returns-then-is_empty c = record {
  keeps = record { laid = λ laid. laid; codes = refl; bytes = refl };
  changes = λ laid.
      let t = c.args.self.now in
      let text = c.args.text.now in
      let form = c.args.form in
      let n = length text in
      let slot = get_or t.slots.now c.args.code blank in
      let share = get_or t.shares.now c.args.code blank_share in
      let at = slice_get-get_or t.slots.now c.args.code blank (omega (arith, c.requires.code)) in
      let there = slice_get-get_or t.shares.now c.args.code blank_share (omega (arith, c.requires.code)) in
      let end = c.requires.end in
      let room = end_at t.shares.now (length t.values.now) c.args.code - share.start in
      text_stays t.values.now t.slots.now t.shares.now c.args.code slot share form text at there
      (elim c.then-is_empty.branch [
        | then-is_empty-via-then-is_empty w ↦ none_fits form n room (eqb-true n 0 (sym c.is_empty.ensures ∙ w.if-is_empty.true))
        | then-is_empty-via-else-is_empty+then-text_bytes-end w ↦ form_past form n room c.requires.several (omega (arith, end, w.text_bytes.ensures, w.if-text_bytes-end.true))
      ]);
}
