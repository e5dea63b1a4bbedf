use Rattle.vcd_merge.proofs.Cited.{◌≡◌, List, false, map, length, Header, Dump, merge_open, merged_items, Device, Writes, supply, SameLengths, part_len, Holds, IsReady, is_going, standing_of, left_of, IsOrder, Lane}
use Rattle.vcd_merge.proofs.Facts.{IsSoFar}
use Rattle.vcd_merge.proofs.merge_state.Merge.finish.Given as goal

abbrev pub invariant-items : goal.invariant-items
invariant-items g l = record {
  going : is_going l.self ≡ false;
  ready : IsReady (standing_of l.self l.sources l.windows);
  order : IsOrder l.self.seats.now (length l.self.seats.now) (length l.self.seats.now) l.order.inputs l.order.len;
  reads : map g.S.Source.failures l.sources ≡ map g.S.Source.failures l.fn.sources;
  writes : (g.W.Sink.device l.out).failures ≡ (g.W.Sink.device l.fn.out).failures;
  seats : length l.self.seats.now ≡ length l.fn.self.seats.now;
  windows : SameLengths l.fn.windows l.windows;
  heads : l.self.heads.now ≡ l.fn.self.heads.now;
  holds : (hs : List Header) (lanes : List Lane) (ds : List Dump) (begin : Device)
      → Holds g.S.Source.rest hs lanes ds (standing_of l.fn.self l.fn.sources l.fn.windows)
      → Writes begin (g.W.Sink.device l.fn.out) (merge_open hs (merged_items ds))
      → (es : List Dump) × IsSoFar g.S.Source.rest g.S.Source.failures hs lanes (part_len (length l.fn.self.seats.now) l.fn.windows.tokens.now)
      (part_len (length l.fn.self.seats.now) l.fn.windows.chunks.now) (map (supply g.S.Source.rest g.S.Source.failures) l.fn.sources) begin es
      (standing_of l.self l.sources l.windows) (g.W.Sink.device l.out);
}

abbrev pub decreases-items : goal.decreases-items
decreases-items g l = left_of l.self.seats.now
