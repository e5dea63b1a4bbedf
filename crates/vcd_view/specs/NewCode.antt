-- The bytes of a new code.
use Rattle.std.specs.Prelude.{ℕ, List, [], length, take, nat_le, cond}
use Rattle.vcd_view.specs.declared.new_code.NewCode.{NewCode}

-- the digits that it has
abbrev pub digits_of : NewCode → List ℕ
digits_of c = cond (nat_le c.len (length c.bytes)) (take c.len c.bytes) []
