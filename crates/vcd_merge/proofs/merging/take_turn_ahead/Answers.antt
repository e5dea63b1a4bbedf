use Rattle.vcd_merge.proofs.Cited.{[], refl, subst, ◌∙◌, sym, arith, lines_of, Device, HeadShown, Views, StageAhead, walk_counts, walk_further, walk_passes}
use Rattle.vcd_merge.proofs.Facts.{walk_runs, ahead_turns, lies_first, out_of}
use Rattle.vcd_merge.specs.MergeAhead.{Stands}
use Rattle.vcd_merge.proofs.merging.take_turn_ahead.Goals as goal

pub pass_items-requires : goal.pass_items-requires
pass_items-requires g c =
    let a = c.ahead-ahead.ensures in
    let p = walk_passes _ _ _ _ _ _ (lines_of c.args.feed.now) _ [] (a.limit, a.bytes) (rw a.passed refl) _ _ c.walk_ahead-walked.ensures in
    (p.1.0, rw c.passed-passed.ensures.passed p.1.1)

pub returns-clause-turns : goal.returns-clause-turns
returns-clause-turns g c = λ k scale first l items views at.
    let s = c.args.seat.now in
    let f = c.args.feed.now in
    let a = c.ahead-ahead.ensures in
    let t = c.walk_ahead-walked.result in
    let ended = c.is_over-ended.result in
    let w = walk_runs _ _ _ _ _ c.walk_ahead-walked.ensures in
    let new = c.pass_items.new.feed in
    let gave = out_of scale first l items s f at in
    let out0 : Device = g.W.Sink.device c.args.out.now in
    let out : Device = g.W.Sink.device c.walk_ahead-walked.new.out in
    let begins = lies_first scale first l items s f at c.requires.unfinished in
    let gives = rw (a.limit, a.bytes, a.passed) at w in
    let view = subst (λ (y : HeadShown). Views y l.header) (sym c.view-view.ensures) views in
    let stage : StageAhead = record { at = 0; items = []; regs = s.regs; time = s.time; written = c.args.written.now; out = out0 } in
    let runs = gives scale first (lines_of f) l.header items stage view at.factor_is at.first_is at.few (record { mid = stage; trail = Stands; ends = (begins, refl, refl) }) in
    ahead_turns scale first l items s f at c.requires.unfinished g.S.Source.failures k c.args.before c.args.written.now out0 c.requires.open new _ t.regs t.visit.time c.walk_ahead-walked.new.command out c.pass_items.ensures.source c.pass_items.ensures.advances.limit c.pass_items.ensures.advances.chunk
    (λ more lies known. c.pass_items.ensures.gives l.header.codes l.input l.front items more s.regs t.regs gave lies known)
    (λ more x lies known. c.pass_items.ensures.ends l.header.codes l.input l.front items more x s.regs t.regs gave lies known) ended (rw (c.passed-passed.ensures.passed, c.is_over-ended.ensures) runs)

pub returns-clause-progress : goal.returns-clause-progress
returns-clause-progress g c = λ is.
    let more = walk_further _ _ _ _ _ _ _ (sym c.is_over-ended.ensures ∙ is) c.walk_ahead-walked.ensures in
    let passed = c.ahead-ahead.ensures.passed in
    let walked = c.passed-passed.ensures.passed in
    let looked = c.pass_items.ensures.looked in
    omega (arith, more, passed, walked, looked)

pub returns-clause-counts : goal.returns-clause-counts
returns-clause-counts g c = rw c.is_over-ended.ensures (walk_counts _ _ _ _ _ _ _ c.walk_ahead-walked.ensures)
