use Rattle.vcd_merge.proofs.Cited.{◌≡◌, List, take, slice_get, Some, Header, first_number, factor, ShowHeaders, begun}
use Rattle.vcd_merge.proofs.Facts.{SetSoFar}
use Rattle.vcd_merge.proofs.beginning.set_seats.Given as goal

abbrev pub invariant-loop-input : goal.invariant-loop-input
invariant-loop-input l = record {
  first : (hs : List Header) → ShowHeaders l.heads hs → l.first ≡ first_number (take l.input hs);
  seats : (hs : List Header) → ShowHeaders l.heads hs → SetSoFar (λ k s s'. (h : Header) → slice_get hs k ≡ Some h
      → s' ≡ begun (factor hs h) (first_number (take k hs)) s) l.input l.fn.seats l.seats;
  kept : SetSoFar (λ k s s'. s' ≡ begun s'.factor s'.first s) l.input l.fn.seats l.seats;
}
