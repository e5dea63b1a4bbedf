use Rattle.vcd_view.proofs.Cited.{◌+◌, ◌-◌, ◌<◌, ◌≤◌, List, length, AllZip, digits_of, IdCode, IsCode, IsIndex}
use Rattle.vcd_view.proofs.Facts.{IsBetween}
use Rattle.vcd_view.proofs.look_up.search.Given as goal

abbrev pub invariant-loop-low : goal.invariant-loop-low
invariant-loop-low l = record {
  within : l.low ≤ l.high;
  end : l.high ≤ length l.index;
  between : (ks : List IdCode) → AllZip (IsCode l.text) l.codes ks → IsIndex ks l.index → IsBetween ks l.index l.code l.low l.high;
  grown : l.initial.probes.count ≤ l.probes.count;
  counted : l.high - l.low < length l.index → l.initial.probes.count < l.probes.count;
  few : l.probes.count + length (digits_of 2 (l.high - l.low)) ≤ l.initial.probes.count + length (digits_of 2 (length l.index));
}

abbrev pub decreases-loop-low : goal.decreases-loop-low
decreases-loop-low l = l.high - l.low
