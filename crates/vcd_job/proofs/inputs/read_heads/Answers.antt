use Rattle.vcd_job.proofs.Cited.{rules, ◌≡◌, ℕ, ◌-◌, ◌<◌, length, Err, refl, ap, subst, arith, HeadShown, shown, part_len, OutOfMemory}
use Rattle.vcd_job.proofs.Facts.{BegunSoFar, all_begun, counted, goes_on, nothing_begun, nothing_stops, still, still_low, stops, stops_full}
use Rattle.vcd_job.proofs.Cited.{sym, AreAllWindows, merge_within, windows_size}
use Rattle.vcd_job.proofs.inputs.read_heads.Goals as goal

pub returns-in_err-with_capacity-clause-begins : goal.returns-in_err-with_capacity-clause-begins
returns-in_err-with_capacity-clause-begins g c = λ texts h.
    let same : c.from_residual.result ≡ Err OutOfMemory = search rules in
    rw same (nothing_stops _ _ g.S.Source.rest g.S.Source.failures c.args.readers.now texts c.requires.some h)

pub loop-input-init : goal.loop-input-init
loop-input-init g c = record {
  many = refl;
  few = omega arith;
  heads_many = ap length c.new.ensures.items;
  seats_many = ap length c.in_ok-with_capacity.ensures.items;
  counts = refl;
  lengths = record { chunks = refl; tokens = refl; values = refl };
  seated = rw c.in_ok-with_capacity.ensures.items (search rules);
  told = λ texts h. rw (c.new.ensures.items, c.in_ok-with_capacity.ensures.items) (nothing_begun _ _ (length c.args.readers.now) g.S.Source.rest g.S.Source.failures texts c.args.readers.now _ _ h);
}

pub begin_input_at-requires-clause-failures : goal.begin_input_at-requires-clause-failures
begin_input_at-requires-clause-failures g c = still_low g.S.Source.failures _ c.args.readers.now c.loop-input.readers c.loop-input.invariant.counts c.requires.failures

pub returns-in_err-begun-clause-begins : goal.returns-in_err-begun-clause-begins
returns-in_err-begun-clause-begins g c = λ texts h.
    let o = c.loop-input.invariant in
    let within : c.loop-input.input < length c.loop-input.readers = omega arith in
    let same : c.from_residual-in_err-begun.result ≡ Err c.in_err-begun.field-0.0 = search rules in
    rw same (stops g.S.Source.rest g.S.Source.failures c.args.readers.now c.loop-input.readers c.begin_input_at.new.readers c.args.windows.now c.loop-input.windows c.begin_input_at.new.windows c.loop-input.input c.loop-input.most _ _ c.begin_input_at.result
    o within c.begin_input_at.ensures.begins c.in_err-begun.field-0.0 c.in_err-begun.was texts h)

pub returns-in_err-begun-clause-reads : goal.returns-in_err-begun-clause-reads
returns-in_err-begun-clause-reads g c =
    let o = c.loop-input.invariant in
    let within : c.loop-input.input < length c.loop-input.readers = omega arith in
    let same : c.from_residual-in_err-begun.result ≡ Err c.in_err-begun.field-0.0 = search rules in
    rw same (counted g.S.Source.rest g.S.Source.failures c.args.readers.now c.loop-input.readers c.begin_input_at.new.readers c.args.windows.now c.loop-input.windows c.begin_input_at.new.windows c.loop-input.input c.loop-input.most _ _ c.begin_input_at.result
    o within c.begin_input_at.ensures.begins c.in_err-begun.field-0.0 (rw c.in_err-begun.was refl))

pub returns-in_err-push-clause-begins : goal.returns-in_err-push-clause-begins
returns-in_err-push-clause-begins g c = λ texts h.
    let o = c.loop-input.invariant in
    let within : c.loop-input.input < length c.loop-input.readers = omega arith in
    let same : c.from_residual-in_err-push.result ≡ Err OutOfMemory = search rules in
    rw same (stops_full g.S.Source.rest g.S.Source.failures c.args.readers.now c.loop-input.readers c.begin_input_at.new.readers c.args.windows.now c.loop-input.windows c.begin_input_at.new.windows c.loop-input.input c.loop-input.most _ _ c.begin_input_at.result
    o within c.begin_input_at.ensures.begins c.in_ok-begun.begun c.in_ok-begun.was texts h)

pub returns-in_err-push-clause-reads : goal.returns-in_err-push-clause-reads
returns-in_err-push-clause-reads g c =
    let o = c.loop-input.invariant in
    let within : c.loop-input.input < length c.loop-input.readers = omega arith in
    let same : c.from_residual-in_err-push.result ≡ Err OutOfMemory = search rules in
    rw same (still g.S.Source.rest g.S.Source.failures c.args.readers.now c.loop-input.readers c.begin_input_at.new.readers c.args.windows.now c.loop-input.windows c.begin_input_at.new.windows c.loop-input.input c.loop-input.most _ _ c.begin_input_at.result
    o within c.begin_input_at.ensures.begins c.in_ok-begun.begun c.in_ok-begun.was)

pub loop-input-preserved : goal.loop-input-preserved
loop-input-preserved g c =
    let o = c.loop-input.invariant in
    let begun = c.in_ok-begun.begun in
    let within : c.loop-input.input < length c.loop-input.readers = omega arith in
    let rows = ap (λ (s : HeadShown). length s.rows) c.view.ensures in
    let fewer : c.saturating_sub-most.result ≡ c.loop-input.most - length (shown begun.head).rows = omega (arith, rows, c.saturating_sub-most.ensures) in
    rw (c.in_ok-push.ensures.0, c.in_ok-push.ensures.1)
    (goes_on g.S.Source.rest g.S.Source.failures c.args.readers.now c.loop-input.readers c.begin_input_at.new.readers c.args.windows.now c.loop-input.windows c.begin_input_at.new.windows c.loop-input.input c.loop-input.most _ _ c.begin_input_at.result
    o within c.begin_input_at.ensures.begins begun c.in_ok-begun.was c.saturating_sub-most.result fewer c.begin_input_at.ensures.lengths c.begin_input_at.ensures.others c.in_ok-begun.ensures.seated)

pub returns-clause-begins : goal.returns-clause-begins
returns-clause-begins g c = λ texts h.
    let l = c.loop-input in
    let limit = part_len (length c.args.readers.now) c.args.windows.now.tokens.now in
    let chunk = part_len (length c.args.readers.now) c.args.windows.now.chunks.now in
    let e : l.input ≡ length l.readers = omega arith in
    all_begun limit chunk
    (length c.args.readers.now)
    g.S.Source.rest g.S.Source.failures texts c.args.readers.now l.readers l.most l.inputs.heads.items l.inputs.seats.items l.windows.chunks.now l.windows.tokens.now
    (subst (λ (k : ℕ). BegunSoFar limit chunk (length c.args.readers.now)
    g.S.Source.rest g.S.Source.failures texts c.args.readers.now l.readers k l.most l.inputs.heads.items l.inputs.seats.items l.windows.chunks.now l.windows.tokens.now)
    e (l.invariant.told texts h))

pub returns-clause-bound : goal.returns-clause-bound
returns-clause-bound g c = λ limit windows.
    let heads = c.loop-input.inputs.heads.items in
    let many : length heads ≡ length c.args.readers.now = omega (arith, c.loop-input.invariant.heads_many) in
    merge_within limit heads (windows_size c.loop-input.windows) (subst (λ n. AreAllWindows limit n (windows_size c.loop-input.windows)) (sym many) windows)
