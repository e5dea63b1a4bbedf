use Rattle.vcd_merge.proofs.Cited.{◌≡◌, ◌≢◌, ◌^◌, ◌<◌, Err, Some, sym, ap, subst, ◌∙◌, ◌+◌, length, arith, rules, map, slice_set, get_or_from_slice_get, slice_get-get_or, HasNotFailed, parked_answer, parked_seen, Fits, Parked, HeadShown, shown, Views, part_len, AtSeat, spot_with, NamesInput, reads_failed, if_ok_more, get_other}
use Rattle.vcd_merge.proofs.Facts.{AreOwn, len_chunks, len_put, len_tokens, lent_len, part_ends, part_other, spot_lent, spot_put, spot_other, seated_put, get_map_or, left_moved, map_set, set_last, run_from}
use Rattle.vcd_text.specs.declared.answer.Halt.TheVariants as halt
use Rattle.vcd_merge.proofs.merge_steps.run_turn.Goals.{Else-prove}
use Rattle.vcd_merge.proofs.merge_steps.run_turn.Given.{Over}
use Rattle.vcd_merge.proofs.merge_steps.run_turn.Goals as goal

pub overflow_mul-chunk_at : goal.overflow_mul-chunk_at
overflow_mul-chunk_at g c =
    let ends = part_ends (part_len (length c.args.seats.now) c.args.windows.now.chunks.now) (length c.args.seats.now) c.args.turn.input c.requires.input in
    omega (arith, ends, c.requires.ready.parts.chunks_are)

pub overflow_mul-token_at : goal.overflow_mul-token_at
overflow_mul-token_at g c =
    let ends = part_ends (part_len (length c.args.seats.now) c.args.windows.now.tokens.now) (length c.args.seats.now) c.args.turn.input c.requires.input in
    omega (arith, ends, c.requires.ready.parts.tokens_are)

-- the parts that were lent, as they are after the turn
own : (g : Over) (c : Else-prove g)
    → AreOwn c.args.seats.now c.args.sources.now c.args.windows.now.chunks.now c.args.windows.now.tokens.now c.args.turn.input c.take_turn-answer.new.feed.chunk.now c.take_turn-answer.new.feed.token.now
own g c =
    let n = length c.args.seats.now in
    let k = c.args.turn.input in
    let chunks = c.args.windows.now.chunks.now in
    let tokens = c.args.windows.now.tokens.now in
    let parts = c.requires.ready.parts in
    let shows = c.resume-feed.ensures.shows in
    let moved = c.take_turn-answer.ensures.moved in
    record {
      in_seats = c.requires.input;
      in_sources = omega arith;
      chunks_are = parts.chunks_are;
      tokens_are = parts.tokens_are;
      chunk = moved.chunk ∙ ap length shows.chunk_is ∙ lent_len (part_len n chunks) n k chunks parts.chunks_are c.requires.input;
      token = moved.limit ∙ ap length shows.token_is ∙ lent_len (part_len n tokens) n k tokens parts.tokens_are c.requires.input;
    }

pub returns-clause-turns : goal.returns-clause-turns
returns-clause-turns g c = λ scale first l items h s there views at is.
    let own = own g (goal.at.returns-clause-turns g c).Else-prove in
    let k = c.args.turn.input in
    let e1 : c.chunk-3-1.given.0 ≡ c.take_turn-answer.new.feed.chunk.now = search rules in
    let e2 : c.token-3-1.given.0 ≡ c.take_turn-answer.new.feed.token.now = search rules in
    let shows = c.resume-feed.ensures.shows in
    let e = spot_lent g.S.Source.rest c.args.seats.now c.args.sources.now c.args.windows.now.chunks.now c.args.windows.now.tokens.now k s c.index-sources-input.result _ at c.requires.input own.in_sources c.index-sources-input.is in
    let old = subst (AtSeat scale first l items) e is in
    let same : shown c.index-heads-input.result ≡ shown h = ap shown (c.index-heads-input.is ∙ get_or_from_slice_get c.args.heads.now k h c.index-heads-input.result there) in
    let shown_views = subst (λ (x : HeadShown). Views x l.header) (sym same) views in
    let told = run_from g.S.Source.failures k scale first l c.args.turn.before items c.args.written.now c.take_turn-answer.new.written _ c.resume-feed.result _ _ _
    (spot_with c.take_turn-answer.new.seat c.take_turn-answer.new.feed) (g.W.Sink.device c.args.out.now)
    (g.W.Sink.device c.take_turn-answer.new.out) c.take_turn-answer.result
    shows.source_is shows.chunk_is shows.token_is c.resume-feed.ensures.parked
    (c.take_turn-answer.ensures.turns scale first l items shown_views
    (rw (shows.source_is, shows.chunk_is, shows.token_is, c.resume-feed.ensures.parked) old)) in (
      spot_with c.take_turn-answer.new.seat c.take_turn-answer.new.feed,
      rw (e1, e2, c.parked-seat.ensures.parked) (spot_put own (record c.take_turn-answer.new.seat { parked = c.take_turn-answer.new.feed.parked })
          c.take_turn-answer.new.feed.source.now g.S.Source.rest),
      record { seat = _; source = _; chunk = _; token = _; spot_is = e; source_at = slice_get-get_or c.args.sources.now k c.index-sources-input.result own.in_sources; turns = told },
    )

pub returns-clause-touches : goal.returns-clause-touches
returns-clause-touches g c =
    let own = own g (goal.at.returns-clause-touches g c).Else-prove in
    let n = length c.args.seats.now in
    let values = c.args.windows.now.values.now in
    let k = c.args.turn.input in
    let f = g.S.Source.failures in
    let sources = c.args.sources.now in
    let on : HasNotFailed c.resume-feed.result = search rules in
    let e1 : c.chunk-3-1.given.0 ≡ c.take_turn-answer.new.feed.chunk.now = search rules in
    let e2 : c.token-3-1.given.0 ≡ c.take_turn-answer.new.feed.token.now = search rules in
    let e3 : c.value-3-1.given.0 ≡ c.take_turn-answer.new.feed.value.now = search rules in
    let all = own.tokens_are ∙ sym c.requires.ready.parts.values_are in
    let limit = part_len n c.args.windows.now.tokens.now in
    let lv = ap length e3 ∙ c.take_turn-answer.new.feed.same_limit ∙ own.token in
    let seat = record c.take_turn-answer.new.seat { parked = c.parked-seat.result } in
    let source = c.take_turn-answer.new.feed.source.now in
    record {
      seats = search rules;
      chunks = rw e1 (len_chunks own seat source);
      tokens = rw e2 (len_tokens own seat source);
      values = len_put limit n k values c.value-3-1.given.0 all c.requires.input lv;
      reads = map_set f sources k source
          ∙ ap (slice_set (map f sources) k) (c.take_turn-answer.ensures.moved.failed on
          ∙ ap (λ n. n + reads_failed c.take_turn-answer.result) (ap f c.resume-feed.ensures.shows.source_is ∙ ap f (sym c.index-sources-input.is)
          ∙ sym (get_map_or f sources k c.index-sources-input.result c.index-sources-input.is own.in_sources)));
      named = c.take_turn-answer.ensures.named;
      others = rw (e1, e2) (spot_other own seat source g.S.Source.rest);
      untouched = λ j other. (get_other sources k j source other, part_other limit n k values c.value-3-1.given.0 all c.requires.input lv j other);
      writes = c.take_turn-answer.ensures.writes;
    }

pub returns-clause-last : goal.returns-clause-last
returns-clause-last g c =
    let k = c.args.turn.input in
    let within : k < length c.args.sources.now = omega arith in
    let on : HasNotFailed c.resume-feed.result = search rules in
    λ input is.
    let named : input ≡ k = subst (NamesInput k) is c.take_turn-answer.ensures.named in
    rw named (set_last g.S.Source.last_failed c.args.sources.now k c.take_turn-answer.new.feed.source.now within (c.take_turn-answer.ensures.moved.last on input is))

pub returns-clause-kept : goal.returns-clause-kept
returns-clause-kept g c = λ j other. get_other c.args.seats.now c.args.turn.input j _ other

pub returns-clause-seated : goal.returns-clause-seated
returns-clause-seated g c =
    let own = own g (goal.at.returns-clause-seated g c).Else-prove in
    let n = length c.args.seats.now in
    let on : HasNotFailed c.resume-feed.result = search rules in
    let e1 : c.chunk-3-1.given.0 ≡ c.take_turn-answer.new.feed.chunk.now = search rules in
    let e2 : c.token-3-1.given.0 ≡ c.take_turn-answer.new.feed.token.now = search rules in
    let fits : Fits c.parked-seat.result (part_len n c.args.windows.now.chunks.now) (part_len n c.args.windows.now.tokens.now) = rw (← own.chunk, ← own.token) c.parked-seat.ensures.fits in
    if_ok_more c.take_turn-answer.result _ _ (λ still. rw (e1, e2)
    (seated_put own (record c.take_turn-answer.new.seat { parked = c.parked-seat.result }) c.take_turn-answer.new.feed.source.now
    (record { fits = fits; on = subst (λ (p : Parked). parked_answer p ≢ Some (Err halt.ReadFailed)) (sym c.parked-seat.ensures.parked) still })
    c.requires.ready.seated)) (c.take_turn-answer.ensures.moved.goes on)

pub returns-clause-left : goal.returns-clause-left
returns-clause-left g c =
    let parked = c.parked-seat.ensures.parked in
    let below = subst (λ (p : Parked). parked_seen p < 2 ^ 63) (sym parked) c.take_turn-answer.ensures.moved.bounded in
    if_ok_more c.take_turn-answer.result _ _ (λ further. left_moved c.args.seats.now c.args.turn.input _
    (record c.take_turn-answer.new.seat { parked = c.parked-seat.result })
    _ _ c.requires.input c.requires.ready.seated c.requires.unfinished below
    (λ still. subst (λ (p : Parked). parked_seen p < parked_seen c.parked-seat.result) c.resume-feed.ensures.parked
    (subst (λ (p : Parked). parked_seen c.resume-feed.result.parked < parked_seen p) (sym parked) (further still))))
    c.take_turn-answer.ensures.moved.progress
