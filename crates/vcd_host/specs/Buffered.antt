-- What was taken by a sink with a buffer.
use Rattle.std.specs.Prelude.{ℕ, ◌+◌, ◌==◌, Bool, List, Option}
use Rattle.std.specs.Io.KnownBytes.{append_known}
use Rattle.std.specs.declared.io.traits.Write.{Ghosts}
use Rattle.vcd_host.specs.Buffer.{kept}
use Rattle.vcd_host.specs.declared.buffered.Buffered.{Buffered}

-- the bytes of the device and then those that wait, if the former are known
abbrev pub taken : {D : Type 0} {g : Ghosts D} → (D → Option (List ℕ)) → Buffered D g → Option (List ℕ)
taken contents sink = append_known (contents sink.device) (kept sink.buffer)

-- whether the last write failed, and no byte was taken since
abbrev pub has_just_failed : {D : Type 0} {g : Ghosts D} → Buffered D g → Bool
has_just_failed sink = sink.buffer.failed_at == sink.buffer.len + 1
