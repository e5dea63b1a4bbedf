-- What a test's writer holds.
use Rattle.std.specs.Prelude.{ℕ, List, take}
use Rattle.vcd_text.specs.declared.doubles.Narrow.{Narrow}

-- the bytes that it took
abbrev pub held_by : Narrow → List ℕ
held_by n = take n.len n.bytes
