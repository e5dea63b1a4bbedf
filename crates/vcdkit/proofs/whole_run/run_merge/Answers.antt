use Rattle.vcdkit.proofs.Cited.{◌≡◌, ◌∙◌, ◌*◌, ◌/◌, List, length, Err, refl, sym, ap, ap₂, subst, arith, rules, length-map, Seat, parts_same, OutOfMemory, AreLentWithin, AreParked, headers_in}
use Rattle.vcdkit.proofs.Facts.{nothing_stops, still_low, counts_merge, lends_within, merge_ends, part_is, parts_of, stopped, merged_last, merged_passed}
use Rattle.vcdkit.proofs.whole_run.run_merge.Goals as goal

pub returns-in_err-memory-clause-ends : goal.returns-in_err-memory-clause-ends
returns-in_err-memory-clause-ends g c = λ texts names h.
    let e : c.from_residual.result ≡ Err OutOfMemory = search rules in
    rw e (stopped c.args.job.now.limit c.args.job.now.chunk names texts _ _ _ OutOfMemory (nothing_stops _ _ g.S.Source.rest g.S.Source.failures c.args.readers.now texts c.requires.readers.some h))

pub read_heads-requires-clause-parts : goal.read_heads-requires-clause-parts
read_heads-requires-clause-parts g c =
    let lc : length c.deref_mut.result.now ≡ length c.args.readers.now * c.args.job.now.chunk = c.deref_mut.ensures.len ∙ c.in_ok-memory.ensures.0 in
    let lt : length c.deref_mut-2.result.now ≡ length c.args.readers.now * c.args.job.now.limit = c.deref_mut-2.ensures.len ∙ c.in_ok-memory.ensures.1 in
    let lv : length c.deref_mut-3.result.now ≡ length c.args.readers.now * c.args.job.now.limit = c.deref_mut-3.ensures.len ∙ c.in_ok-memory.ensures.2 in
    parts_of (length c.args.readers.now) c.args.job.now.chunk c.args.job.now.limit _ _ _ c.requires.readers.some
    (omega (arith, c.args.job.now.chunk_in_range)) (omega (arith, c.args.job.now.limit_in_range)) lc lt lv

pub returns-in_err-inputs-clause-ends : goal.returns-in_err-inputs-clause-ends
returns-in_err-inputs-clause-ends g c = λ texts names h.
    let why = c.in_err-inputs.field-0.0 in
    let e : c.from_residual-in_err-inputs.result ≡ Err why = search rules in
    let chunk = part_is (length c.args.readers.now) c.args.job.now.chunk c.deref_mut.result.now c.requires.readers.some (c.deref_mut.ensures.len ∙ c.in_ok-memory.ensures.0) in
    let limit = part_is (length c.args.readers.now) c.args.job.now.limit c.deref_mut-2.result.now c.requires.readers.some (c.deref_mut-2.ensures.len ∙ c.in_ok-memory.ensures.1) in
    rw e (stopped c.args.job.now.limit c.args.job.now.chunk names texts _ _ _ why (rw (limit, chunk) at (c.in_err-inputs.ensures.begins texts h)))

pub merge-requires-clause-parts : goal.merge-requires-clause-parts
merge-requires-clause-parts g c =
    let lc = c.deref_mut.ensures.len ∙ c.in_ok-memory.ensures.0 in
    let lt = c.deref_mut-2.ensures.len ∙ c.in_ok-memory.ensures.1 in
    let lv = c.deref_mut-3.ensures.len ∙ c.in_ok-memory.ensures.2 in
    let same = c.in_ok-inputs.ensures.lengths in
    let many : length c.deref_mut-4.result.now ≡ length c.args.readers.now = ap length c.deref_mut-4.ensures.value ∙ c.in_ok-inputs.ensures.many.1 in
    parts_same (length c.args.readers.now) _ _ _ _ _ _ _
    (parts_of (length c.args.readers.now) c.args.job.now.chunk c.args.job.now.limit _ _ _ c.requires.readers.some
    (omega (arith, c.args.job.now.chunk_in_range)) (omega (arith, c.args.job.now.limit_in_range)) lc lt lv) many same.chunks same.tokens same.values

pub merge-requires-clause-bound : goal.merge-requires-clause-bound
merge-requires-clause-bound g c =
    let n = length c.args.readers.now in
    let same = c.in_ok-inputs.ensures.lengths in
    let lc = same.chunks ∙ c.deref_mut.ensures.len ∙ c.in_ok-memory.ensures.0 in
    let lt = same.tokens ∙ c.deref_mut-2.ensures.len ∙ c.in_ok-memory.ensures.1 in
    let lv = same.values ∙ c.deref_mut-3.ensures.len ∙ c.in_ok-memory.ensures.2 in
    let fits = subst (λ heads. AreLentWithin n c.read_heads.new.windows heads) (sym c.deref.ensures.value) c.in_ok-inputs.ensures.bound in
    let seats : length c.deref_mut-4.result.now ≡ n = ap length c.deref_mut-4.ensures.value ∙ c.in_ok-inputs.ensures.many.1 in
    lends_within n c.args.job.now.chunk c.args.job.now.limit (length c.deref_mut-4.result.now)
    c.deref.result.now c.read_heads.new.windows fits c.requires.readers.some c.args.job.now.chunk_in_range.1 lc lt lv seats

pub merge-requires-clause-reads : goal.merge-requires-clause-reads
merge-requires-clause-reads g c = still_low g.S.Source.failures _ c.args.readers.now c.read_heads.new.readers c.in_ok-inputs.ensures.reads c.requires.readers.low

pub returns-clause-ends : goal.returns-clause-ends
returns-clause-ends g c = λ texts names h.
    let lc = c.deref_mut.ensures.len ∙ c.in_ok-memory.ensures.0 in
    let lt = c.deref_mut-2.ensures.len ∙ c.in_ok-memory.ensures.1 in
    let same = c.in_ok-inputs.ensures.lengths in
    let many : length c.deref_mut-4.result.now ≡ length c.args.readers.now = ap length c.deref_mut-4.ensures.value ∙ c.in_ok-inputs.ensures.many.1 in
    let chunk = part_is (length c.args.readers.now) c.args.job.now.chunk c.deref_mut.result.now c.requires.readers.some lc in
    let limit = part_is (length c.args.readers.now) c.args.job.now.limit c.deref_mut-2.result.now c.requires.readers.some lt in
    let seats : c.deref_mut-4.result.now ≡ c.in_ok-inputs.inputs.seats.items = c.deref_mut-4.ensures.value in
    rw c.merged.ensures
    (merge_ends (length c.args.readers.now) (length c.deref_mut-4.result.now)
    c.args.job.now.limit _ _ c.args.job.now.chunk _ _ g.S.Source.rest g.S.Source.failures names texts c.args.readers.now c.read_heads.new.readers c.merge.new.sources
    _ _ _ _ _ _ c.merge.result many limit (ap₂ (λ a b. a / b) same.tokens many ∙ limit) chunk (ap₂ (λ a b. a / b) same.chunks many ∙ chunk) (c.in_ok-inputs.ensures.begins texts h)
    (λ lanes names shows parked. c.merge.ensures.follows (headers_in lanes) lanes names (rw c.deref.ensures.value shows) refl
    (subst (λ (l : List Seat). AreParked (length c.deref_mut-4.result.now)
    g.S.Source.rest lanes l c.read_heads.new.readers c.read_heads.new.windows.chunks.now c.read_heads.new.windows.tokens.now) (sym seats) parked)))

pub returns-clause-reads : goal.returns-clause-reads
returns-clause-reads g c =
    let (k, within, counts, named) = c.merge.ensures.reads in
    rw c.merged.ensures (counts_merge _ _ _ k c.merge.result c.in_ok-inputs.ensures.reads (omega (arith, length-map c.read_heads.new.readers g.S.Source.failures)) counts named)

pub returns-clause-last : goal.returns-clause-last
returns-clause-last g c = rw c.merged.ensures (merged_last _ c.merge.result c.merge.ensures.last)

pub returns-in_err-inputs-clause-passed_on : goal.returns-in_err-inputs-clause-passed_on
returns-in_err-inputs-clause-passed_on g c = λ input is before. before

pub returns-clause-passed_on : goal.returns-clause-passed_on
returns-clause-passed_on g c = rw c.merged.ensures (merged_passed g.W.Sink.kept_back c.args.out.now c.merge.new.out c.merge.result c.merge.ensures.passed_on)
