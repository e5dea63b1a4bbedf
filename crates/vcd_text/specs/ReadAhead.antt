-- How much of an input was read.
use Rattle.std.specs.Prelude.{◌≡◌, ℕ, ◌+◌, ◌≤◌, Bool, false, List, [], ◌∷◌, ◌++◌, length, drop, Option, Some, IfSome}
use Rattle.vcd_model.specs.Input.{Input}
use Rattle.vcd_model.specs.Tokens.{Token, end_of_tokens, halt_place, stream_of}
use Rattle.vcd_model.specs.Laws.{IsPrefixOf}
use Rattle.vcd_text.specs.Device.{Supply}

-- at most a chunk was read past this offset: the rest that the source still has is all of the input
-- after that
abbrev pub Near : ℕ → Option (List ℕ) → ℕ → Input → Type 0
Near chunk rest place i = IfSome rest (λ more. length i.bytes ≤ place + chunk + length more)

-- the rest that the source still has is all of the input after the first n bytes
abbrev pub HasRest : Option (List ℕ) → ℕ → Input → Type 0
HasRest rest n i = rest ≡ Some (drop n i.bytes)

-- What was read of an input after these first tokens, for work that the tokens after them settle:
-- at most a chunk more than it needs. The source was `old` before, and is `new` now.
pub data ReadsAsNeeded (limit chunk : ℕ) (old new : Supply) (i : Input) (front : List Token) (settled : List Token → Bool) : Type 0 where
  -- nothing
  Nothing : (same : new ≡ old) → ReadsAsNeeded limit chunk old new i front settled
  -- at most a chunk past the last of these tokens, and those before it did not settle it
  ToToken : (asked : List Token) (last : Token) (first : IsPrefixOf (front ++ asked ++ last ∷ []) (stream_of limit i).tokens) (so_far : settled asked ≡ false)
      (near : Near chunk new.rest (end_of_tokens i.bytes (length (front ++ asked ++ last ∷ []))) i) → ReadsAsNeeded limit chunk old new i front settled
  -- at most a chunk past a halt, if there is one, and no token settled it
  ToEnd : (asked : List Token) (all : (stream_of limit i).tokens ≡ front ++ asked) (so_far : settled asked ≡ false)
      (near : IfSome (halt_place limit i) (λ place. Near chunk new.rest place i)) → ReadsAsNeeded limit chunk old new i front settled
