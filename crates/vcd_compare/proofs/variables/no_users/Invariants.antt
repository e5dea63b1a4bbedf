use Rattle.vcd_compare.proofs.Cited.{◌≡◌, replicate}
use Rattle.vcd_compare.specs.declared.variables.Users.TheVariants as Users
use Rattle.vcd_compare.proofs.variables.no_users.Given as goal

abbrev pub invariant-loop : goal.invariant-loop
invariant-loop l = l.users.items ≡ replicate l.counter Users.None
