-- What settles a run is final, and what does not settle it leaves it open.
use Rattle.std.specs.Prelude.{◌≡◌, ◌≢◌, ℕ, ◌≤◌, ◌+◌, IsTrue, IsFalse, Bool, true, List, [], ◌∷◌, ◌++◌, length, map, ◌^◌, ◌<◌, Some, take}
use Rattle.std.specs.List.{AllByRecursion}
use Rattle.vcd_model.specs.Input.{Input}
use Rattle.vcd_model.specs.Tokens.{Token, tokens_of, stream_of}
use Rattle.vcd_model.specs.Outcome.{Opened, declarations_allowed, allowed_after}
use Rattle.vcd_model.specs.Header.{Header, header_of}
use Rattle.vcd_model.specs.HeaderReading.{header_grammar}
use Rattle.vcd_model.specs.Reading.{phrases_of, reading_of}
use Rattle.vcd_model.specs.Job.{Want, outcome}
use Rattle.vcd_model.specs.Settled.{is_settled}
use Rattle.vcd_model.specs.SettledMerge.{Seen, tokens_seen, is_settled_merge}
use Rattle.vcd_model.specs.Laws.{IsPrefixOf}
use Rattle.vcd_laws.specs.KeptValues.{OpenAll}
use Rattle.vcd_laws.specs.Checked.{run_of}

-- what a source gives of an input begins with these tokens
abbrev pub BeginsWith : ℕ → Input → List Token → Type 0
BeginsWith limit input ts = IsPrefixOf ts (stream_of limit input).tokens

-- the outcome is the same whatever follows the first tokens that settle a run
abbrev pub SettledIsFinal : Type 0
SettledIsFinal = (want : Want) (limit : ℕ) (name : List ℕ) (ts : List Token) (a b : Input)
    → IsTrue (is_settled want declarations_allowed ts)
    → BeginsWith limit a ts → BeginsWith limit b ts
    → run_of want limit name a ≡ run_of want limit name b

-- If the first tokens of one input of a merge settle what it adds, the outcome is the same whatever
-- follows them, and whatever the other inputs are. The declarations that the inputs before it leave
-- are allowed.
abbrev pub SettledIsFinalInMerge : Type 0
SettledIsFinalInMerge = (limit : ℕ) (names : List (List ℕ)) (earlier later : List Input)
    (os : List Opened) (ts : List Token) (a b : Input)
    → OpenAll limit earlier os
    → IsTrue (is_settled Want.Merge (allowed_after (map (λ o. o.header) os)) ts)
    → BeginsWith limit a ts → BeginsWith limit b ts
    → outcome Want.Merge limit names (earlier ++ a ∷ later)
    ≡ outcome Want.Merge limit names (earlier ++ b ∷ later)

-- what is known of an input is true of it
abbrev pub IsSeen : ℕ → Seen → Input → Type 0
IsSeen limit (Seen.First ts) input = BeginsWith limit input ts
IsSeen limit (Seen.All stream) input = stream_of limit input ≡ stream

-- what is known of inputs is true of them, one by one
abbrev pub AreSeen : ℕ → List Seen → List Input → Type 0
AreSeen limit [] [] = Unit {0}
AreSeen limit [] (input ∷ inputs) = ⊥
AreSeen limit (s ∷ ss) [] = ⊥
AreSeen limit (s ∷ ss) (input ∷ inputs) = IsSeen limit s input × AreSeen limit ss inputs

-- if what is known of the inputs settles a merge, all inputs of which it is true have one outcome
abbrev pub SettledMergeIsFinal : Type 0
SettledMergeIsFinal = (limit : ℕ) (names : List (List ℕ)) (seen : List Seen)
    (inputs others : List Input)
    → IsTrue (is_settled_merge seen) → AreSeen limit seen inputs → AreSeen limit seen others
    → outcome Want.Merge limit names inputs ≡ outcome Want.Merge limit names others

-- the header of an input as far as it is known, after inputs with these headers
abbrev pub header_seen : List Header → Seen → Header
header_seen hs s =
    header_of (phrases_of (reading_of (header_grammar (allowed_after hs)) (tokens_seen s)).placed)

-- what is known of one input of a merge settles what it adds: its first tokens do, with this number
-- of declarations allowed, or all of it is known
abbrev pub is_settled_alone : ℕ → Seen → Bool
is_settled_alone most (Seen.First ts) = is_settled Want.Merge most ts
is_settled_alone most (Seen.All stream) = true

-- what is known of each of these inputs settles what it adds, in order
abbrev pub AreSettledAlone : List Header → List Seen → Type 0
AreSettledAlone hs [] = Unit {0}
AreSettledAlone hs (s ∷ ss) = IsTrue (is_settled_alone (allowed_after hs) s)
    × AreSettledAlone (hs ++ header_seen hs s ∷ []) ss

-- if what is known of each input settles what it adds, what is known of all settles the merge
abbrev pub SettledAloneSettlesMerge : Type 0
SettledAloneSettlesMerge = (seen : List Seen) → AreSettledAlone [] seen
    → IsTrue (is_settled_merge seen)

-- a text, and how many of its first tokens are known
pub record Prefix : Type 0 where
  pub text : List ℕ
  pub count : ℕ

abbrev pub first_tokens : Prefix → List Token
first_tokens f = take f.count (tokens_of f.text)

-- the text has fewer than 2^63 - 1 bytes, and none of the tokens is longer than the limit
abbrev pub IsShort : ℕ → Prefix → Type 0
IsShort limit f = (length f.text + 1 < 2 ^ 63)
    × AllByRecursion (λ t. length t.bytes ≤ limit) (first_tokens f)

-- first tokens that do not settle a run leave it open: two inputs begin with them, one of which
-- ends otherwise than the other
abbrev pub UnsettledIsOpen : Type 0
UnsettledIsOpen = (want : Want) (limit : ℕ) (name : List ℕ) (f : Prefix) → IsShort limit f
    → IsFalse (is_settled want declarations_allowed (first_tokens f))
    → (a : Input) × (b : Input) × BeginsWith limit a (first_tokens f)
    × BeginsWith limit b (first_tokens f)
    × ((run_of want limit name a).status ≢ (run_of want limit name b).status)

-- what is known of an input: first tokens of a text, or all that some source gives that does not
-- fail
abbrev pub CanBeSeen : ℕ → Seen → Type 0
CanBeSeen limit (Seen.First ts) = (f : Prefix) × IsShort limit f × (ts ≡ first_tokens f)
CanBeSeen limit (Seen.All stream) =
    (input : Input) × (stream_of limit input ≡ stream) × (stream.halt ≢ Some 31)

-- what is known of the inputs of a merge and does not settle it leaves it open: it is true of two
-- lists of inputs, one of which ends otherwise than the other
abbrev pub UnsettledMergeIsOpen : Type 0
UnsettledMergeIsOpen = (limit : ℕ) (names : List (List ℕ)) (seen : List Seen)
    → AllByRecursion (CanBeSeen limit) seen → IsFalse (is_settled_merge seen)
    → (inputs : List Input) × (others : List Input)
    × AreSeen limit seen inputs × AreSeen limit seen others
    × ((outcome Want.Merge limit names inputs).status
    ≢ (outcome Want.Merge limit names others).status)
