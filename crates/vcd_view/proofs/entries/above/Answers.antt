use Rattle.vcd_view.proofs.Cited.{◌+◌, ◌*◌, ◌^◌, ◌%◌, ℕ, ap}
use Rattle.vcd_view.proofs.entries.above.Goals as goal

pub returns : goal.returns
returns c = ap (λ (b : ℕ). (c.args.number * 99 % 2 ^ 64 + (b + 18446744073709551584) % 2 ^ 64) % 2 ^ 64) c.from.ensures
