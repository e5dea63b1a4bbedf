use Rattle.std.proofs.Common.{◌≡◌, ◌∷◌, codes, map, string_bytes, take}
use Rattle.vcdkit_c.specs.Calls.{bytes_of}
use Rattle.vcdkit_c.proofs.words.words_of.Given as goal

-- the words before this index were added
abbrev pub invariant-loop-word : goal.invariant-loop-word
invariant-loop-word l = map string_bytes l.all.items ≡ codes "vcdkit" ∷ map bytes_of (take l.word-index l.words)
