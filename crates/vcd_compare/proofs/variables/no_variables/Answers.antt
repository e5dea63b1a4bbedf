use Rattle.vcd_compare.proofs.Cited.{◌≡◌, ◌+◌, length, get_or, replicate, refl, ap, ◌∙◌, arith, get_or-replicate, length-replicate}
use Rattle.vcd_compare.specs.declared.variables.Users.TheVariants as Users
use Rattle.vcd_compare.proofs.Facts.{some_none}
use Rattle.vcd_compare.proofs.variables.no_variables.Goals as goal

pub returns : goal.returns
returns c = λ h texts len.
    let users = c.in_ok-no_users.field-0 in
    let filled : users.items ≡ replicate (c.args.count + 1) Users.None = c.in_ok-no_users.ensures in
    let room : length users.items ≡ c.args.count + 1 = ap length filled ∙ length-replicate (c.args.count + 1) Users.None in
    some_none h texts _ _ c.in_ok-with_capacity.ensures.items c.in_ok-with_capacity-2.ensures.items
    (c.new.ensures texts) c.in_ok-with_capacity_and_hasher.ensures.empty refl (omega (arith, room, len))
    (λ n l. ap (λ xs. get_or xs n Users.None) filled ∙ get_or-replicate (c.args.count + 1) n Users.None Users.None (omega (arith, l, room)))
