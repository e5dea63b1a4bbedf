use Rattle.std.proofs.Common.{◌-◌, ◌^◌, ◌<◌, ◌∙◌, [], ◌∷◌, length, arith}
use Rattle.std.proofs.lemmas.List.{length-append}
use Rattle.std.proofs.lemmas.List.Elements.{All-push}
use Rattle.vcd_text.specs.Watch.{failed_calls}
use Rattle.vcd_merge.specs.MergeParts.{part_len}
use Rattle.vcd_merge.specs.Seat.{IsSeated}
use Rattle.vcd_tools_tests.proofs.merge.begin_all.Goals as goal

pub loop-input-preserved : goal.loop-input-preserved
loop-input-preserved c =
    let (same, (heads_many, seats_many, sources_many), seated, reads) = c.loop-input.invariant in
    let (heads, seats, sources) = c.in_ok-push.ensures in
    let now = c.loop-input.inputs in
    let begun = c.in_ok-begun.begun in
    let n = length c.args.texts.now in
    let own = rw (same.chunks, same.tokens) at c.in_ok-begun.ensures.seated in (
      record { chunks = c.begin_at.ensures.lengths.chunks ∙ same.chunks; tokens = c.begin_at.ensures.lengths.tokens ∙ same.tokens; values = c.begin_at.ensures.lengths.values ∙ same.values },
      (
        rw heads (omega (arith, length-append now.heads.items (begun.head ∷ []), heads_many)),
        rw seats (omega (arith, length-append now.seats.items (begun.seat ∷ []), seats_many)),
        rw sources (omega (arith, length-append now.sources.items (c.begin_at.new.source ∷ []), sources_many)),
      ),
      rw seats (All-push (IsSeated (part_len n c.args.windows.now.chunks.now) (part_len n c.args.windows.now.tokens.now)) now.seats.items begun.seat seated own),
      rw sources (All-push (λ s. failed_calls s < 2 ^ 64 - 1) now.sources.items c.begin_at.new.source reads (omega (arith, c.failures.ensures, c.if-failures-ne0.false))),
    )
