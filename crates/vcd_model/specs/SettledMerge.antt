-- When what is known of the inputs of a merge settles it, so that no more of any of them need be
-- read (profile). A fault of one input, its own or a timestamp that is too large, settles the
-- others once they have come past it.
use Rattle.std.specs.Prelude.{ℕ, ◌+◌, Bool, true, false, ◌&&◌, ◌||◌, is_some, List, [], ◌∷◌, ◌++◌, map, Option, Some, None}
use Rattle.vcd_model.specs.Tokens.{Token, Stream}
use Rattle.vcd_model.specs.Header.{Header, header_of}
use Rattle.vcd_model.specs.HeaderPhrases.{HeaderPhrase}
use Rattle.vcd_model.specs.HeaderReading.{header_grammar}
use Rattle.vcd_model.specs.BodyPhrases.{BodyPhrase}
use Rattle.vcd_model.specs.BodyReading.{read_body, body_fault_of}
use Rattle.vcd_model.specs.Reading.{Fault, Ending, Reading, phrases_of, reading_of}
use Rattle.vcd_model.specs.Reading.Ending.{AtFault, AtEnd, AtLast}
use Rattle.vcd_model.specs.Merge.{Dump, KeyedFault, dump_of, factor, key_after, key_lt, first_fault}
use Rattle.vcd_model.specs.Outcome.{allowed_after}

-- what is known of an input: its first tokens, or all that its source gives
pub data Seen : Type 0 where
  First : (tokens : List Token) → Seen
  All : (stream : Stream) → Seen

-- an input whose header is whole: the tokens that are known after it, and what the source gives
-- if all of that is known
pub record SeenBody : Type 0 where
  pub header : Header
  pub rest : List Token
  pub whole : Option Stream

-- the headers of the inputs in order: one of them has a fault and those before it are whole, one is
-- not whole yet, or all are whole
pub data SeenHeaders : Type 0 where
  Faulty : SeenHeaders
  NotWhole : SeenHeaders
  Whole : (inputs : List SeenBody) → SeenHeaders

-- one more input before the others
abbrev pub seen_before : SeenBody → SeenHeaders → SeenHeaders
seen_before s (Whole ss) = Whole (s ∷ ss)
seen_before s Faulty = Faulty
seen_before s NotWhole = NotWhole

-- the tokens that are known
abbrev pub tokens_seen : Seen → List Token
tokens_seen (First tokens) = tokens
tokens_seen (All stream) = stream.tokens

-- what the source gives, if all of it is known
abbrev pub whole_of : Seen → Option Stream
whole_of (First tokens) = None
whole_of (All stream) = Some stream

-- a header that ends with its tokens has a fault if these are all
abbrev pub header_ends : Option Stream → SeenHeaders
header_ends None = NotWhole
header_ends (Some stream) = Faulty

-- an input by what a reading of its header met, and the inputs after it if that is whole
abbrev pub seen_at : Seen → Reading HeaderPhrase → Ending → SeenHeaders → SeenHeaders
seen_at s r (AtFault fault) others = Faulty
seen_at s r AtEnd others = header_ends (whole_of s)
seen_at s r AtLast others = seen_before (record {
  header = header_of (phrases_of r.placed);
  rest = r.rest;
  whole = whole_of s;
}) others

-- the headers of inputs, after inputs with these headers
abbrev pub headers_seen : List Header → List Seen → SeenHeaders
headers_seen hs [] = Whole []
headers_seen hs (s ∷ ss) =
    let r = reading_of (header_grammar (allowed_after hs)) (tokens_seen s) in
    seen_at s r r.ending (headers_seen (hs ++ header_of (phrases_of r.placed) ∷ []) ss)

-- the fault of a token that was read
abbrev pub fault_met : Ending → Option Fault
fault_met (AtFault fault) = Some fault
fault_met AtEnd = None
fault_met AtLast = None

-- the fault of a body as far as it is known
abbrev pub fault_seen : Option Stream → Reading BodyPhrase → Option Fault
fault_seen None r = fault_met r.ending
fault_seen (Some stream) r = body_fault_of stream r

-- an input as far as it is known, among inputs with these headers
abbrev pub dump_seen : List Header → SeenBody → Dump
dump_seen hs s =
    let r = read_body s.header.codes s.rest in
    dump_of (factor hs s.header) s.header (fault_seen s.whole r) r

-- nothing more comes of an input: all of it is known, or it has a fault
abbrev pub is_at_its_end : SeenBody → Dump → Bool
is_at_its_end s d = is_some s.whole || is_some d.fault

-- what more comes of input number n comes after the first fault, if there is one
abbrev pub is_past : Option KeyedFault → List Header → ℕ → Dump → Bool
is_past None hs n d = false
is_past (Some f) hs n d = key_lt f.key (key_after (factor hs d.header) n d.items)

-- nothing that may come matters, of inputs from number n on
abbrev pub are_past : Option KeyedFault → List Header → ℕ → List SeenBody → Bool
are_past f hs n [] = true
are_past f hs n (s ∷ ss) =
    (is_at_its_end s (dump_seen hs s) || is_past f hs n (dump_seen hs s))
    && are_past f hs (n + 1) ss

-- the bodies settle the merge
abbrev pub bodies_settle : List SeenBody → Bool
bodies_settle ss =
    let hs = map (λ s. s.header) ss in
    are_past (first_fault (map (dump_seen hs) ss)) hs 0 ss

-- by what is known of the headers
abbrev pub settles_merge : SeenHeaders → Bool
settles_merge Faulty = true
settles_merge NotWhole = false
settles_merge (Whole ss) = bodies_settle ss

-- what is known of the inputs settles the merge
unfoldable pub is_settled_merge : List Seen → Bool
is_settled_merge ss = settles_merge (headers_seen [] ss)
