-- What was written to bytes that were lent.
use Rattle.std.specs.Prelude.{ℕ, List, ◌∷◌, ◌++◌, take}
use Rattle.vcd_host.specs.declared.lent_output.LentOutput.{LentOutput}

-- all that was written: the bytes that are filled, and then those that found no room
abbrev pub written : LentOutput → List ℕ
written sink = take sink.used sink.bytes.now ++ sink.gone.bytes

-- All that was written, after a number that names the loan. So if this only grows, the bytes are
-- still those that were lent.
abbrev pub held : LentOutput → List ℕ
held sink = sink.bytes.ghost_name ∷ written sink
