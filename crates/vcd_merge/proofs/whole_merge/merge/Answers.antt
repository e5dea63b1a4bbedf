use Rattle.vcd_merge.proofs.Cited.{◌≡◌, ◌*◌, List, length, map, Err, refl, sym, ap, subst, ◌∙◌, add-zero, arith, rules, get_or, slice_set, set-get_or, AllZip-long, merged_head, Device, Supply, Writes, WritesSome, supply, part_len, windows_size, Follows, no_items, Lane, Write}
use Rattle.vcd_merge.proofs.Facts.{still_within, without_windows, unwritten_head, heads_given, holds_begun, opens, opens_with, ready_begun, len_map}
use Rattle.vcd_merge.proofs.whole_merge.merge.Goals as goal

pub returns-in_err-merge-clause-follows : goal.returns-in_err-merge-clause-follows
returns-in_err-merge-clause-follows g c = λ hs lanes names show lanes_are none.
    let seats = c.args.seats.now in
    let sources = c.args.sources.now in
    let chunks = c.args.windows.now.chunks.now in
    let tokens = c.args.windows.now.tokens.now in
    let olds : List Supply = map (supply g.S.Source.rest g.S.Source.failures) sources in
    let out : Device = g.W.Sink.device c.args.out.now in
    let new : Device = g.W.Sink.device c.start.new.out in
    let stop : c.in_err-merge.field-0.0 ≡ Write = c.in_err-merge.ensures.stops in
    let is : c.from_residual.result ≡ Err c.in_err-merge.field-0.0 = search rules in
    let shown = AllZip-long _ c.args.heads.now hs show in
    let mapped = len_map (λ (l : Lane). l.header) lanes in
    let headers = ap length lanes_are in
    let supplied = len_map (supply g.S.Source.rest g.S.Source.failures) sources in
    let lanes_many : length lanes ≡ length seats = omega (arith, shown, mapped, headers) in
    let given = heads_given g.S.Source.rest lanes seats sources chunks tokens c.args.windows.now.values.now c.requires.parts lanes_many c.requires.sources none in
    let some : WritesSome out new (merged_head hs) = (c.in_err-merge.ensures.takes hs show, c.in_err-merge.ensures.counts) in
    rw (is, stop)
    (unwritten_head hs lanes (part_len (length seats) tokens) (part_len (length seats) chunks) lanes_are given names olds out new
    (omega (arith, lanes_many, supplied)) (subst (WritesSome out new) (sym (opens_with hs)) some))

pub returns-in_err-merge-clause-reads : goal.returns-in_err-merge-clause-reads
returns-in_err-merge-clause-reads g c =
    let ns = map g.S.Source.failures c.args.sources.now in
    let stop : c.in_err-merge.field-0.0 ≡ Write = c.in_err-merge.ensures.stops in
    let is : c.from_residual.result ≡ Err c.in_err-merge.field-0.0 = search rules in
    rw (is, stop) ((0, omega arith, sym (ap (slice_set ns 0) (add-zero (get_or ns 0 0)) ∙ set-get_or ns 0 0), tt))

pub returns-in_err-merge-clause-last : goal.returns-in_err-merge-clause-last
returns-in_err-merge-clause-last g c = λ input is.
    let stop : c.in_err-merge.field-0.0 ≡ Write = c.in_err-merge.ensures.stops in
    let e : c.from_residual.result ≡ Err c.in_err-merge.field-0.0 = search rules in
    absurd (cc)

pub start-requires-clause-bound : goal.start-requires-clause-bound
start-requires-clause-bound g c =
    let parts = c.requires.parts in
    without_windows (part_len (length c.args.seats.now) c.args.windows.now.tokens.now) c.args.heads.now (windows_size c.args.windows.now)
    (sym parts.tokens_are ∙ ap (λ n. n * part_len (length c.args.seats.now) c.args.windows.now.tokens.now) (sym c.requires.heads))
    parts.values_are c.requires.bound

pub finish-requires-clause-bound : goal.finish-requires-clause-bound
finish-requires-clause-bound g c =
    let begun = c.in_ok-merge.ensures.begun in
    still_within (length c.args.seats.now) _ c.args.heads.now _ c.args.windows.now c.args.windows.now begun.many begun.heads_are
    (record { chunks = refl; tokens = refl; values = refl }) c.requires.bound

pub finish-requires-clause-ready : goal.finish-requires-clause-ready
finish-requires-clause-ready g c =
    ready_begun c.args.heads.now c.args.seats.now c.in_ok-merge.merge c.args.sources.now c.args.windows.now
    (omega arith) c.requires.heads c.requires.sources c.in_ok-merge.ensures.begun c.requires.parts c.requires.seated

pub returns-clause-follows : goal.returns-clause-follows
returns-clause-follows g c = λ hs lanes names show lanes_are none.
    let st = c.in_ok-merge.ensures in
    let m = c.in_ok-merge.merge in
    let w = c.args.windows.now in
    let out : Device = g.W.Sink.device c.args.out.now in
    let mid : Device = g.W.Sink.device c.start.new.out in
    let holds = holds_begun g.S.Source.rest hs lanes c.args.heads.now c.args.seats.now m c.args.sources.now w show c.requires.many lanes_are c.requires.heads c.requires.sources st.begun
    (st.seats hs show) none in
    let head : Writes out mid (merged_head hs) = (st.takes hs show, st.counts) in
    subst (λ n. Follows (part_len n w.tokens.now) (part_len n w.chunks.now) lanes names
    (map (supply g.S.Source.rest g.S.Source.failures) c.args.sources.now)
    (map (supply g.S.Source.rest g.S.Source.failures) c.finish.new.sources) out (g.W.Sink.device c.finish.new.out) c.finish.result) st.begun.many
    (c.finish.ensures.gives hs lanes (no_items lanes) names out holds (subst (Writes out mid) (sym (opens hs lanes lanes_are)) head))

pub returns-in_err-merge-clause-passed_on : goal.returns-in_err-merge-clause-passed_on
returns-in_err-merge-clause-passed_on g c = λ input is.
    let stop : c.in_err-merge.field-0.0 ≡ Write = c.in_err-merge.ensures.stops in
    let e : c.from_residual.result ≡ Err c.in_err-merge.field-0.0 = search rules in
    absurd (cc)
