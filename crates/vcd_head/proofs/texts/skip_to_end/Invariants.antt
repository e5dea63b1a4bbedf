use Rattle.vcd_head.proofs.Cited.{ℕ, ◌-◌, ◌^◌, List, Input, HeaderPhrase, Placed, seen, Reads, RunsOn, ReadsOn, Advances, CallEnd}
use Rattle.vcd_head.proofs.texts.skip_to_end.Given as goal

abbrev pub invariant-tokens : goal.invariant-tokens
invariant-tokens g l = Advances g.S.Source.failures l.fn.feed l.feed CallEnd.GoesOn
    × ((most : ℕ) (i : Input) (placed : List (Placed HeaderPhrase)) (before : List (List ℕ)) → RunsOn most placed before
    → Reads most i placed before l.fn.feed → ReadsOn most i placed before l.feed (λ inner. Unit {0}))

abbrev pub decreases-tokens : goal.decreases-tokens
decreases-tokens g l = 2 ^ 63 - seen l.feed
