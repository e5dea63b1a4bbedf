use Rattle.vcd_merge.proofs.Cited.{◌≡◌, ◌∙◌, refl, List, ℕ, map, ap, add-zero, Ok, Err, Result, arith, rules, slice_get_within, SameLengths, failures_with, Done, More, Stop, Read, Again, Ended, Windows}
use Rattle.vcd_merge.proofs.Facts.{advances_on, as_many_olds, ended_on, same_failures, still_low, still_named, stopped_on}
use Rattle.vcd_merge.proofs.merge_state.Merge.finish.Goals as goal

same_twice : (a b c : Windows) → SameLengths a b → SameLengths b c → SameLengths a c
same_twice a b c p q = record { chunks = q.chunks ∙ p.chunks; tokens = q.tokens ∙ p.tokens; values = q.values ∙ p.values }

pub run_step-requires-clause-reads : goal.run_step-requires-clause-reads
run_step-requires-clause-reads g c = still_low g.S.Source.failures c.args.sources.now c.items.sources c.items.invariant.reads c.requires.reads

pub items-preserved : goal.items-preserved
items-preserved g c =
    let again : ◌≡◌ {A = Result More Stop} (Ok c.in_ok-run_step.field-0) (Ok Again) = ap (λ a. Ok a) c.in-Again.is in
    let v = c.items.invariant in
    let runs = rw again at c.in_ok-run_step.ensures.runs in
    let touches = runs.leaves.touches in record {
      going = v.going;
      ready = runs.leaves.ready refl;
      order = c.in_ok-run_step.ensures.order again;
      reads = same_failures (map g.S.Source.failures c.items.sources) _ runs.input (Ok Again) refl touches.reads ∙ v.reads;
      writes = touches.writes ∙ add-zero _ ∙ v.writes;
      seats = touches.seats ∙ v.seats;
      windows = same_twice c.args.windows.now c.items.windows c.run_step.new.windows v.windows (record { chunks = touches.chunks; tokens = touches.tokens; values = touches.values });
      heads = v.heads;
      holds = λ hs lanes ds begin h w. advances_on c.items.order.until (v.holds hs lanes ds begin h w).1 runs;
    }

pub returns-in_err-run_step-clause-gives : goal.returns-in_err-run_step-clause-gives
returns-in_err-run_step-clause-gives g c = λ hs lanes ds names begin holds w.
    let e = c.items.invariant.holds hs lanes ds begin holds w in
    let stop = c.in_err-run_step.field-0.0 in
    let is : c.from_residual.result ≡ Err stop = search rules in
    rw is (stopped_on c.items.order.until e.1 names (as_many_olds e.1 c.args.sources.now c.items.invariant.reads) stop c.in_err-run_step.ensures.runs)

pub returns-in-Ended-clause-gives : goal.returns-in-Ended-clause-gives
returns-in-Ended-clause-gives g c = λ hs lanes ds names begin holds w.
    let e = c.items.invariant.holds hs lanes ds begin holds w in
    let is = ap {B = Result More Stop} (λ a. Ok a) c.in-Ended.is in
    ended_on c.items.order.until e.1 names (as_many_olds e.1 c.args.sources.now c.items.invariant.reads) c.in-Ended.done (rw is at c.in_ok-run_step.ensures.runs)

pub returns-in_err-run_step-clause-reads : goal.returns-in_err-run_step-clause-reads
returns-in_err-run_step-clause-reads g c =
    let st = c.in_err-run_step.ensures in
    let v = c.items.invariant in
    let within = slice_get_within c.items.self.seats.now st.runs.input st.runs.next.seat st.runs.next.there in
    let stop = c.in_err-run_step.field-0.0 in
    let is : c.from_residual.result ≡ Err stop = search rules in
    let a = v.ready.sources in
    let b = c.items.auto.sources in
    rw is ((
      st.runs.input,
      omega (arith, within, a, b),
      st.runs.leaves.touches.reads
          ∙ ap (λ (l : List ℕ). failures_with {A = More} l st.runs.input (Err stop)) v.reads,
      still_named More Done st.runs.input stop st.runs.leaves.touches.named,
    ))

pub returns-in_err-run_step-clause-last : goal.returns-in_err-run_step-clause-last
returns-in_err-run_step-clause-last g c = λ input is.
    let stop = c.in_err-run_step.field-0.0 in
    let e : c.from_residual.result ≡ Err stop = search rules in
    let named : stop ≡ Read input = cc in
    c.in_err-run_step.ensures.last input (ap (λ (s : Stop). Err s) named)

pub returns-in-Ended-clause-reads : goal.returns-in-Ended-clause-reads
returns-in-Ended-clause-reads g c =
    let is = ap (λ a. Ok a) c.in-Ended.is in
    let st = c.in_ok-run_step.ensures in
    let v = c.items.invariant in
    let within = slice_get_within c.items.self.seats.now st.runs.input st.runs.next.seat st.runs.next.there in
    let a = v.ready.sources in
    let b = c.items.auto.sources in (
      st.runs.input,
      omega (arith, within, a, b),
      st.runs.leaves.touches.reads
          ∙ ap (λ (r : Result More Stop). failures_with (map g.S.Source.failures c.items.sources) st.runs.input r) is
          ∙ ap (λ (l : List ℕ). failures_with {A = More} l st.runs.input (Ok (Ended c.in-Ended.done))) v.reads,
      tt,
    )

pub items-smaller : goal.items-smaller
items-smaller g c = c.in_ok-run_step.ensures.runs.leaves.left (ap (λ a. Ok a) c.in-Again.is)

pub returns-in_err-run_step-clause-passed_on : goal.returns-in_err-run_step-clause-passed_on
returns-in_err-run_step-clause-passed_on g c = λ input is.
    let stop = c.in_err-run_step.field-0.0 in
    let e : c.from_residual.result ≡ Err stop = search rules in
    let named : stop ≡ Read input = cc in
    c.in_err-run_step.ensures.passed_on input (ap (λ (s : Stop). Err s) named)
