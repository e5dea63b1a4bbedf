-- What is left of a reader whose first bytes were read before they are asked for.
use Rattle.std.specs.Prelude.{ℕ, List, [], drop, Option, Some}
use Rattle.std.specs.Io.KnownBytes.{prepend_known}
use Rattle.vcd_host.specs.declared.prefetched.Prefetched.{Prefetched}
use Rattle.vcd_host.specs.declared.prefetched.Seen.{Seen}
use Rattle.vcd_host.specs.declared.prefetched.Seen.TheVariants.{Unknown, Failure, End}

-- the bytes that come after those that were prefetched, if those of the reader are known
abbrev pub left_after : Seen → Option (List ℕ) → Option (List ℕ)
left_after Unknown known = known
left_after (Failure kind) known = known
left_after End known = Some []

-- the bytes that reads will return, if they are known
abbrev pub bytes_left : {R : Type 0} → (R → Option (List ℕ)) → Prefetched R → Option (List ℕ)
bytes_left remaining p = prepend_known (drop p.next p.bytes.items) (left_after p.seen (remaining p.reader))
