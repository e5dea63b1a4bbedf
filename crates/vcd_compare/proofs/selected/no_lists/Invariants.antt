use Rattle.vcd_compare.proofs.Cited.{◌≡◌, [], replicate, lists_in}
use Rattle.vcd_compare.proofs.selected.no_lists.Given as goal

abbrev pub invariant-loop : goal.invariant-loop
invariant-loop l = lists_in l.lists.items ≡ replicate l.counter []
