-- What waits in a buffer.
use Rattle.std.specs.Prelude.{ℕ, List, take}
use Rattle.vcd_host.specs.declared.buffer.Buffer.{Buffer}

-- the bytes that wait
abbrev pub kept : Buffer → List ℕ
kept buffer = take buffer.len buffer.bytes.items
