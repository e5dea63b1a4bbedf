use Rattle.vcd_merge.proofs.Cited.{get_or, slice_get, List, ◌≡◌, ◌&&◌, true, false, ap, sym, ◌∙◌, Err, rules, ℕ, ◌+◌, ◌*◌, Some, arith, refl, slice_get-get_or, slice_get_within, new_code, time_due, Change, leaves_open, time_after, left_out, left_time, line_due, time_written, appends-none, appends-first, takes-twice, parts, Code, model_form, if_ok}
use Rattle.vcd_merge.proofs.Facts.{section_is, event_of, line_is, number_fits, some_digits}
use Rattle.vcd_merge.proofs.merging.put_unsized.Goals as goal

-- what is read where there is no code
abbrev none : Code
none = record { start = 0; size = 0; len = 0; event = false }

pub put_renamed-requires-clause-digits : goal.put_renamed-requires-clause-digits
put_renamed-requires-clause-digits g c = λ scanned other. some_digits c.args.codes.now c.args.code c.args.form c.args.text.now c.requires.sound other

pub returns-then-is_left_out-clause-takes : goal.returns-then-is_left_out-clause-takes
returns-then-is_left_out-clause-takes g c = λ r section v scale first h items x same views known time number few is.
    let y : Change = record { code = is.0; form = model_form c.args.form; text = c.args.text.now } in
    let there = ap (λ (l : List Code). slice_get l c.args.code) same
    ∙ slice_get-get_or c.args.codes.now c.args.code none (slice_get_within c.args.codes.now c.args.code c.requires.sound.0 c.requires.sound.1) in
    let out : (is.0.event && leaves_open items) ≡ true = rw (
      sym
          (event_of (parts v) h c.args.code is.0 (get_or c.args.codes.now c.args.code none) views is.1 there),
      sym (section_is items r known),
      sym section,
    ) (sym c.is_left_out.ensures ∙ c.if-is_left_out.true) in
    rw (is.2, left_out scale first h items y c.args.written.now out) (appends-none (g.W.Sink.device c.args.out.now).held, left_time scale first h items y c.args.written.now out)

pub returns-in_err-put_due_time-clause-takes : goal.returns-in_err-put_due_time-clause-takes
returns-in_err-put_due_time-clause-takes g c = λ r section v scale first h items x same views known time number few is.
    let y : Change = record { code = is.0; form = model_form c.args.form; text = c.args.text.now } in
    let there = ap (λ (l : List Code). slice_get l c.args.code) same
    ∙ slice_get-get_or c.args.codes.now c.args.code none (slice_get_within c.args.codes.now c.args.code c.requires.sound.0 c.requires.sound.1) in
    let out : (is.0.event && leaves_open items) ≡ false = rw (
      sym
          (event_of (parts v) h c.args.code is.0 (get_or c.args.codes.now c.args.code none) views is.1 there),
      sym (section_is items r known),
      sym section,
    ) (sym c.is_left_out.ensures ∙ c.if-is_left_out.false) in
    let e : c.from_residual.result ≡ Err c.in_err-put_due_time.field-0.0 = search rules in
    let t = rw time at c.in_err-put_due_time.ensures.puts.0 in
    rw (is.2, e, line_due scale first h items y c.args.written.now out) (appends-first _ _ (time_due c.args.written.now (scale * time_after items)) _ t, tt)

pub returns-clause-takes : goal.returns-clause-takes
returns-clause-takes g c = λ r section v scale first h items x same views known time number few is.
    let y : Change = record { code = is.0; form = model_form c.args.form; text = c.args.text.now } in
    let d = get_or c.args.codes.now c.args.code none in
    let there = ap (λ (l : List Code). slice_get l c.args.code) same
    ∙ slice_get-get_or c.args.codes.now c.args.code none (slice_get_within c.args.codes.now c.args.code c.requires.sound.0 c.requires.sound.1) in
    let out : (is.0.event && leaves_open items) ≡ false = rw (
      sym (event_of (parts v) h c.args.code is.0 d views is.1 there),
      sym (section_is items r known),
      sym section,
    ) (sym c.is_left_out.ensures ∙ c.if-is_left_out.false) in
    let fits = number_fits h c.args.code is.0 is.1 first few in
    let sum : c.saturating_add-number.result ≡ first + c.args.code = omega (arith, c.saturating_add-number.ensures) in
    let line = line_is first c.args.code c.saturating_add-number.result (parts v) h is.0 d (model_form c.args.form) c.args.text.now
    (new_code c.saturating_add-number.result) views is.1 there sum refl in
    let t = rw time at c.in_ok-put_due_time.ensures.puts.0 in
    let l = rw line at c.put_renamed.ensures.0 in
    rw (is.2, line_due scale first h items y c.args.written.now out) (
      takes-twice _ _ _ (time_due c.args.written.now (scale * time_after items)) _ c.put_renamed.result t l,
      if_ok c.put_renamed.result _ (c.in_ok-put_due_time.ensures.written ∙ ap (λ (n : ℕ). Some n) time ∙ time_written scale first h items y c.args.written.now out),
    )
