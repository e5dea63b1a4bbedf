use Rattle.vcd_head.proofs.Cited.{◌≡◌, ℕ, ◌-◌, ◌^◌, ◌≤◌, List, ◌++◌, length, Input, HeaderPhrase, Placed, seen, Reads, RunsOn, ReadsOn, spaced, Advances, CallEnd}
use Rattle.vcd_head.proofs.texts.append_to_end.Given as goal

abbrev pub invariant-tokens : goal.invariant-tokens
invariant-tokens g l = Advances g.S.Source.failures l.fn.feed l.feed CallEnd.GoesOn
    × ((most : ℕ) (i : Input) (placed : List (Placed HeaderPhrase)) (before : List (List ℕ)) → RunsOn most placed before
    → Reads most i placed before l.fn.feed → ReadsOn most i placed before l.feed (λ inner. l.text.items ≡ l.fn.text.items ++ spaced inner))
    × (length l.fn.text.items ≤ length l.text.items)

abbrev pub decreases-tokens : goal.decreases-tokens
decreases-tokens g l = 2 ^ 63 - seen l.feed
