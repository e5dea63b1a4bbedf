use Rattle.vcd_merge.proofs.Cited.{◌≡◌, ℕ, ◌≤◌, ◌-◌, ◌^◌, List, false, BodyItem, SameLoans, limit_of, chunk_len_of, seen, source_of, HasNotFailed, shown, Views, Reaches, stage_with, AtSeat, Lane, SameSeat, spot_with}
use Rattle.vcd_merge.proofs.merging.take_turn.Given as goal

abbrev pub invariant-items : goal.invariant-items
invariant-items g l = record {
  loans : SameLoans l.fn.feed l.feed;
  limit : limit_of l.feed ≡ limit_of l.fn.feed;
  chunk : chunk_len_of l.feed ≡ chunk_len_of l.fn.feed;
  open_still : HasNotFailed l.feed;
  failures : g.S.Source.failures (source_of l.feed) ≡ g.S.Source.failures (source_of l.fn.feed);
  further : seen l.fn.feed ≤ seen l.feed;
  unfinished : l.seat.finished ≡ false;
  parked : l.seat.parked ≡ l.fn.seat.parked;
  same : SameSeat l.fn.seat l.seat;
  writes : (g.W.Sink.device l.out).failures ≡ (g.W.Sink.device l.fn.out).failures;
  trail : (scale first : ℕ) (lane : Lane) (items : List BodyItem) → Views (shown l.fn.head) lane.header → AtSeat scale first lane items (spot_with l.fn.seat l.fn.feed)
      → (xs : List BodyItem) × AtSeat scale first lane xs (spot_with l.seat l.feed)
      × Reaches g.S.Source.rest g.S.Source.failures scale first lane l.fn.turn.before
      (stage_with items l.fn.written l.fn.seat l.fn.feed (g.W.Sink.device l.fn.out)) (stage_with xs l.written l.seat l.feed (g.W.Sink.device l.out));
}

abbrev pub decreases-items : goal.decreases-items
decreases-items g l = 2 ^ 63 - seen l.feed
