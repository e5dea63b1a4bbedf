use Rattle.vcd_head.proofs.Cited.{◌≡◌, List, map, take, reduce, Header, exponent, smaller, ShowHeaders}
use Rattle.vcd_head.proofs.merged.least_exponent.Given as goal

abbrev pub invariant-loop-head : goal.invariant-loop-head
invariant-loop-head l = (hs : List Header) → ShowHeaders l.heads hs → l.least ≡ reduce smaller (map exponent (take l.head-index hs))
