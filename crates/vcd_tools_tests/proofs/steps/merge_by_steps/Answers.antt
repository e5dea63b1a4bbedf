use Rattle.std.proofs.Common.{◌*◌, ◌∙◌, length, refl, sym, ap, arith}
use Rattle.vcd_merge.specs.MergeParts.{part_len}
use Rattle.vcd_merge.specs.MergeRoom.{windows_size}
use Rattle.vcd_merge.proofs.MergeRoomLemmas.{still_within, without_windows}
use Rattle.vcd_merge.proofs.MergeStart.{ready_begun}
use Rattle.vcd_tools_tests.proofs.steps.merge_by_steps.Goals as goal

pub start-requires-clause-bound : goal.start-requires-clause-bound
start-requires-clause-bound g c =
    let parts = c.requires.parts in
    without_windows (part_len (length c.args.seats.now) c.args.windows.now.tokens.now) c.args.heads.now (windows_size c.args.windows.now)
    (sym parts.tokens_are ∙ ap (λ n. n * part_len (length c.args.seats.now) c.args.windows.now.tokens.now) (sym c.requires.heads))
    parts.values_are c.requires.bound

pub take_steps-requires-clause-bound : goal.take_steps-requires-clause-bound
take_steps-requires-clause-bound g c =
    let begun = c.in_ok-merge.ensures.begun in
    still_within (length c.args.seats.now) _ c.args.heads.now _ c.args.windows.now c.args.windows.now begun.many begun.heads_are
    (record { chunks = refl; tokens = refl; values = refl }) c.requires.bound

pub take_steps-requires-clause-ready : goal.take_steps-requires-clause-ready
take_steps-requires-clause-ready g c =
    ready_begun c.args.heads.now c.args.seats.now c.in_ok-merge.merge c.args.sources.now c.args.windows.now
    (omega arith) c.requires.heads c.requires.sources c.in_ok-merge.ensures.begun c.requires.parts c.requires.seated
