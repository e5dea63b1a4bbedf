use Rattle.vcd_program.proofs.Cited.{◌≡◌, drop, bytes_named}
use Rattle.vcd_program.proofs.memory.bytes_named.Given as goal

-- the files before this index have other names
abbrev pub invariant-loop-file : goal.invariant-loop-file
invariant-loop-file l = bytes_named (drop l.file-index l.files) l.name ≡ bytes_named l.files l.name
