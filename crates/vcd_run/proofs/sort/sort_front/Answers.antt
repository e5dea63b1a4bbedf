use Rattle.std.proofs.Common.{◌≡◌, ℕ, List, length, drop, sym, subst, ◌∙◌, arith}
use Rattle.std.proofs.lemmas.List.{length-take-le, take_at}
use Rattle.std.proofs.lemmas.Slice.{drop-append-drop}
use Rattle.std.specs.List.Sorted.{IsNonDecreasing}
use Rattle.std.proofs.lemmas.List.Sorted.{IsNonDecreasingBy-from_sort}
use Rattle.vcd_run.proofs.sort.sort_front.Goals as goal

pub returns-clause-sorted : goal.returns-clause-sorted
returns-clause-sorted c =
    let sorted = c.sort_unstable.new.self in
    let old = c.args.numbers.now in
    let len : length sorted ≡ c.args.count = c.sort_unstable.ensures.len ∙ length-take-le c.args.count old c.requires in
    subst (λ (l : List ℕ). IsNonDecreasing l) (sym (take_at sorted (drop c.args.count old) c.args.count len)) (IsNonDecreasingBy-from_sort (λ x. x) sorted c.sort_unstable.ensures.sorted)

pub returns-clause-stays : goal.returns-clause-stays
returns-clause-stays c = drop-append-drop _ _ _ _ (omega arith) (c.sort_unstable.ensures.len ∙ length-take-le c.args.count c.args.numbers.now c.requires)
