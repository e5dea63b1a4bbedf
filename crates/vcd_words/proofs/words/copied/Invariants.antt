use Rattle.vcd_words.proofs.Cited.{◌≡◌, map, take, string_bytes}
use Rattle.vcd_words.proofs.words.copied.Given as goal

abbrev pub invariant-loop-name : goal.invariant-loop-name
invariant-loop-name l = map string_bytes l.copies.items ≡ map (λ name. name.now) (take l.name-index l.names)
