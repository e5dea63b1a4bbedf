use Rattle.vcd_head.proofs.Cited.{◌≡◌, List, take, concat, Appends, each, Header, first_number, input_head, ShowHeaders}
use Rattle.vcd_head.proofs.merged.put_input_heads.Given as goal

abbrev pub invariant-loop-position : goal.invariant-loop-position
invariant-loop-position g l = record {
  same : (g.W.Sink.device l.w).failures ≡ (g.W.Sink.device l.fn.w).failures;
  first : (hs : List Header) → ShowHeaders l.heads hs → l.first ≡ first_number (take l.position hs);
  lines : (hs : List Header) → ShowHeaders l.heads hs → Appends (g.W.Sink.device l.fn.w).held (g.W.Sink.device l.w).held (concat (each input_head (take l.position hs)));
}
