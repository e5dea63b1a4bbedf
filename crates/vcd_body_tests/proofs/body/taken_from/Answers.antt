use Rattle.std.proofs.Common.{[], refl}
use Rattle.vcd_text.specs.Ahead.{lines_of}
use Rattle.vcd_body.proofs.WalkLemmas.{walk_passes}
use Rattle.vcd_body_tests.proofs.body.taken_from.Goals as goal

pub pass_items-requires : goal.pass_items-requires
pass_items-requires g c =
    let a = c.ahead.ensures in
    let more = walk_passes _ _ _ _ _ _ (lines_of c.args.feed.now) _ [] (a.limit, a.bytes) (rw a.passed refl) _ _ c.walk_ahead-walked.ensures in
    (more.1.0, rw c.passed-passed.ensures.passed more.1.1)
