-- A run is the same under two token limits, where no input is longer than either.
use Rattle.vcdkit.proofs.Cited.{◌≡◌, ℕ, ◌≤◌, Bool, false, inl, inr, zero, suc, ◌⊎◌, List, [], ◌∷◌, ◌++◌, filter, length, drop, map, slice_get, take, Option, Some, None, Result, Ok, Err, refl, sym, ap, subst, ◌∙◌, arith, IfSome, nat_lt, option_map, slice_set, AllByRecursion, position_or_len, reduce, nat_tests, length-drop, length-take, is_white_space, body_fault_of, read_body, due, Header, header_of, header_fault_of, read_header, Input, BodyItem, Want, over_opened, dump_of, factor, Opened, Outcome, allowed_after, declarations_allowed, fault_outcome, name_at, with_opened, Fault, phrases_of, Seen, is_settled_merge, HaltPlace, Stream, Token, comes_before, earlier_halt, end_at, failed_read, halt_place, run_at, stream_until, token_places, too_long_tokens, too_much_input, IsPrefixOf, is_header_over, is_settled, whole, Device, Supply, Near, ReadsAsNeeded, Nothing, ToToken, ToEnd, from_all, all_weaker, HasFault, IsLeft, is_more_due, Read, AreReadOnTurn, HasEnded, ReadOnTurn, OnTurn, Unread, HasDump, Lane, Job, AreWithin, IsLimitFor, Narrows, AreBegun, IsBegun, IsWhy, Stops, headers_in, AreInTurn, AreMergedInTurn, AreNeeded, AreRead, HasRun, IsOutcome, program_name, OneKeepsUp, header_behind, known, settles_among, InBodies, InHeaders, Failure, Stopped, OutOfMemory, WithOutcome, NoMemory}
use Rattle.vcd_model.specs.Job.{outcome}
use Rattle.vcd_model.specs.Merge.{Dump}
use Rattle.vcd_model.specs.Outcome.{open_from}
use Rattle.vcd_model.specs.Tokens.{first_halt, given_places, stream_of}
use Rattle.vcd_body.specs.declared.answer.Stop.TheVariants.{Dump as Faulty}
use Rattle.vcd_job.proofs.HeaderLemmas.{reads_for}

-- ---- an input

-- the limits are the same, or the text is not longer than either
abbrev pub IsShort : (a b : ℕ) → List ℕ → Type 0
IsShort a b text = (a ≡ b) ⊎ ((length text ≤ a) × (length text ≤ b))

at_index : {X : Type 0} (P : X → Type 0) (xs : List X) (k : ℕ) (x : X) → AllByRecursion P xs → slice_get xs k ≡ Some x → P x
at_index P [] k x all is = absurd (cc)
at_index P (y ∷ xs) zero x all is = let e : y ≡ x = cc in subst P e all.0
at_index P (y ∷ xs) (suc k) x all is = at_index P xs k x all.1 is

filter_none : {X : Type 0} (p : X → Bool) (xs : List X) → ((x : X) → p x ≡ false) → filter p xs ≡ []
filter_none p [] fails = refl
filter_none p (x ∷ xs) fails = rw (fails x) (filter_none p xs fails)

no_longer : (limit : ℕ) (text : List ℕ) (i : ℕ) → length text ≤ limit → nat_lt limit (length (run_at text i)) ≡ false
no_longer limit text i short =
    let run : length (run_at text i) ≤ limit = omega (arith, length-take (position_or_len is_white_space (drop i text)) (drop i text), length-drop i text, short) in
    grind (arith, nat_tests)

none_too_long : (limit : ℕ) (text : List ℕ) → length text ≤ limit → too_long_tokens limit text ≡ []
none_too_long limit text short =
    ap (map _) (filter_none (λ i. nat_lt limit (length (run_at text i))) (token_places text) (λ i. no_longer limit text i short))

module _ (a b : ℕ) where
  same_halt : (i : Input) → IsShort a b i.bytes → first_halt a i ≡ first_halt b i
  unfolding first_halt
  same_halt i (inl same) = ap (λ n. first_halt n i) same
  same_halt i (inr short) = ap (λ (l : List HaltPlace). reduce earlier_halt (too_much_input i.bytes ++ l ++ failed_read i)) (none_too_long a i.bytes short.0 ∙ sym (none_too_long b i.bytes short.1))

  same_stream : (i : Input) → IsShort a b i.bytes → stream_of a i ≡ stream_of b i
  unfolding stream_of given_places
  same_stream i short = ap (λ (h : Option HaltPlace). stream_until i (filter (λ p. comes_before (end_at i.bytes p) h) (token_places i.bytes)) h) (same_halt i short)

  same_place : (i : Input) → IsShort a b i.bytes → halt_place a i ≡ halt_place b i
  same_place i short = ap (λ (h : Option HaltPlace). option_map (λ (halt : HaltPlace). halt.place) h) (same_halt i short)

  same_header : (earlier : List Header) (i : Input) → IsShort a b i.bytes → header_behind earlier a i ≡ header_behind earlier b i
  same_header earlier i short = ap (λ (s : Stream). header_of (phrases_of (read_header (allowed_after earlier) s).placed)) (same_stream i short)

-- ---- how much of it was read

near_more : (c d : ℕ) (rest : Option (List ℕ)) (place : ℕ) (i : Input) → c ≤ d → Near c rest place i → Near d rest place i
near_more c d None place i le near = near
near_more c d (Some more) place i le near = omega (arith, le, near)

near_if : (c d : ℕ) (rest : Option (List ℕ)) (at : Option ℕ) (i : Input) → c ≤ d → IfSome at (λ place. Near c rest place i) → IfSome at (λ place. Near d rest place i)
near_if c d rest None i le near = near
near_if c d rest (Some place) i le near = near_more c d rest place i le near

module _ (a b c d : ℕ) (le : c ≤ d) where
  needed_within : (old new : Supply) (i : Input) (front : List Token) (settled : List Token → Bool) → IsShort a b i.bytes
      → ReadsAsNeeded a c old new i front settled → ReadsAsNeeded b d old new i front settled
  needed_within old new i front settled short (Nothing same) = Nothing same
  needed_within old new i front settled short (ToToken asked last first so_far near) =
      ToToken asked last (subst (λ (s : Stream). IsPrefixOf (front ++ asked ++ last ∷ []) s.tokens) (same_stream a b i short) first) so_far (near_more c d new.rest _ i le near)
  needed_within old new i front settled short (ToEnd asked all so_far near) =
      ToEnd asked (subst (λ (s : Stream). s.tokens ≡ front ++ asked) (same_stream a b i short) all) so_far
      (near_if c d new.rest (halt_place b i) i le (subst (λ (at : Option ℕ). IfSome at (λ place. Near c new.rest place i)) (same_place a b i short) near))

  -- what is left of an input is not longer
  left_short : (text : List ℕ) (s t : Supply) (i : Input) → IsShort a b text → IsLeft (whole text) s t i → IsShort a b i.bytes
  left_short text s t i (inl same) is = inl same
  left_short text s t i (inr short) (inl is) = inr (subst (λ (j : Input). (length j.bytes ≤ a) × (length j.bytes ≤ b)) (sym is.1) short)
  left_short text s t i (inr short) (inr is) =
      let n = is.1 in
      let cut : (length (take n text) ≤ a) × (length (take n text) ≤ b) = (omega (arith, short.0, length-take n text), omega (arith, short.1, length-take n text)) in
      inr (subst (λ (j : Input). (length j.bytes ≤ a) × (length j.bytes ≤ b)) (sym is.2) cut)

  read_within : (settled : ℕ → List Token → Bool) (earlier : List Header) (texts : List (List ℕ)) (old new : List Supply) (inputs : List Input) → AllByRecursion (IsShort a b) texts
      → AreRead settled a c earlier texts old new inputs → AreRead settled b d earlier texts old new inputs
  read_within settled earlier [] old new inputs short read = read
  read_within settled earlier (text ∷ texts) (s ∷ old) (t ∷ new) (i ∷ inputs) short read =
      let one = left_short text s t i short.0 read.0 in (
        read.0,
        needed_within s t i [] (settled (allowed_after earlier)) one read.1,
        read_within settled (earlier ++ header_behind earlier b i ∷ []) texts old new inputs short.1
            (subst (λ (h : Header). AreRead settled a c (earlier ++ h ∷ []) texts old new inputs) (same_header a b earlier i one) read.2),
      )
  read_within settled earlier texts old new inputs short read = absurd read

  lefts_short : (settled : ℕ → List Token → Bool) (earlier : List Header) (texts : List (List ℕ)) (old new : List Supply) (inputs : List Input) → AllByRecursion (IsShort a b) texts
      → AreRead settled a c earlier texts old new inputs → AllByRecursion (λ (i : Input). IsShort a b i.bytes) inputs
  lefts_short settled earlier [] old new inputs short read = subst (AllByRecursion (λ (i : Input). IsShort a b i.bytes)) (sym read) tt
  lefts_short settled earlier (text ∷ texts) (s ∷ old) (t ∷ new) (i ∷ inputs) short read = (
    left_short text s t i short.0 read.0,
    lefts_short settled (earlier ++ header_behind earlier a i ∷ []) texts old new inputs short.1 read.2,
  )
  lefts_short settled earlier texts old new inputs short read = absurd read

-- ---- all inputs

-- an input with this stream, before others
abbrev pub opened_by : List Header → Stream → (Header → Result (List Opened) (ℕ × Fault)) → Result (List Opened) (ℕ × Fault)
opened_by earlier s others =
    let reading = read_header (allowed_after earlier) s in
    let h = header_of (phrases_of reading.placed) in
    elim (header_fault_of s reading) [
      | Some f ↦ Err (length earlier, f)
      | None ↦ with_opened (record { header = h; stream = s; rest = reading.rest }) (others h)
    ]

module _ (a b : ℕ) where
  same_known : (inputs : List Input) → AllByRecursion (λ (i : Input). IsShort a b i.bytes) inputs → known a inputs ≡ known b inputs
  same_known [] short = refl
  same_known (i ∷ inputs) short = rw (same_stream a b i short.0, same_known inputs short.1) refl

  same_opened : (earlier : List Header) (inputs : List Input) → AllByRecursion (λ (i : Input). IsShort a b i.bytes) inputs → open_from a earlier inputs ≡ open_from b earlier inputs
  unfolding open_from
  same_opened earlier [] short = refl
  same_opened earlier (i ∷ inputs) short =
      ap (λ (s : Stream). opened_by earlier s (λ h. open_from a (earlier ++ h ∷ []) inputs)) (same_stream a b i short.0)
      ∙ ap (λ (o : Result (List Opened) (ℕ × Fault)). opened_by earlier (stream_of b i) (λ _. o)) (same_opened (earlier ++ header_behind earlier b i ∷ []) inputs short.1)

  same_outcome : (want : Want) (names : List (List ℕ)) (inputs : List Input) → AllByRecursion (λ (i : Input). IsShort a b i.bytes) inputs
      → outcome want a names inputs ≡ outcome want b names inputs
  unfolding outcome
  same_outcome want names inputs short = ap (λ (o : Result (List Opened) (ℕ × Fault)). elim o [
    | Err e ↦ fault_outcome []
        (name_at names e.0) e.1
    | Ok os ↦ over_opened want names os
  ]) (same_opened [] inputs short)

  same_settled : (inputs : List Input) (k : ℕ) (ts : List Token) → AllByRecursion (λ (i : Input). IsShort a b i.bytes) inputs → settles_among a inputs k ts ≡ settles_among b inputs k ts
  same_settled inputs k ts short = ap (λ (ss : List Seen). is_settled_merge (slice_set ss k (Seen.First ts))) (same_known inputs short)

module _ (a b c d : ℕ) (le : c ≤ d) (old new : List Supply) (inputs : List Input) (short : AllByRecursion (λ (i : Input). IsShort a b i.bytes) inputs) where
  merge_within : AreNeeded Want.Merge a c old new inputs → AreNeeded Want.Merge b d old new inputs
  merge_within needed k s t i is_s is_t is_i =
      reads_for b d s t i [] (settles_among a inputs k) (settles_among b inputs k) (λ ts e. sym (same_settled a b inputs k ts short) ∙ e)
      (needed_within a b c d le s t i [] (settles_among a inputs k) (at_index (λ (i : Input). IsShort a b i.bytes) inputs k i short is_i) (needed k s t i is_s is_t is_i))

  all_within : (want : Want) → AreNeeded want a c old new inputs → AreNeeded want b d old new inputs
  all_within Want.Merge needed = merge_within needed
  all_within want needed = needed

-- ---- the turns of a merge

module _ (a b c d : ℕ) (le : c ≤ d) where
  begun_one : (most : ℕ) (text : List ℕ) (l : Lane) (s t : Supply) → IsShort a b text → IsBegun most a c (whole text) l s t → IsBegun most b d (whole text) l s t
  begun_one most text l s t short n = record {
    input_is = n.input_is;
    placed = n.placed;
    whole = n.whole;
    header_is = n.header_is;
    given_first = subst (λ (x : Stream). IsPrefixOf l.front x.tokens) (same_stream a b (whole text) short) n.given_first;
    near = near_more c d t.rest _ (whole text) le n.near;
    before = n.before;
    last = n.last;
    is = n.is;
    going = n.going;
    failures = n.failures;
  }

  -- their inputs are not longer either
  begun_within : (earlier : List Header) (texts : List (List ℕ)) (old new : List Supply) (lanes : List Lane) → AllByRecursion (IsShort a b) texts → AreBegun a c earlier texts old new lanes
      → AreBegun b d earlier texts old new lanes × AllByRecursion (λ (l : Lane). IsShort a b l.input.bytes) lanes
  begun_within earlier [] [] [] [] short begun = (tt, tt)
  begun_within earlier (text ∷ texts) (s ∷ old) (t ∷ new) (l ∷ lanes) short begun =
      let others = begun_within (earlier ++ l.header ∷ []) texts old new lanes short.1 begun.1 in (
        (begun_one (allowed_after earlier) text l s t short.0 begun.0, others.0),
        (subst (λ (i : Input). IsShort a b i.bytes) (sym begun.0.input_is) short.0, others.1),
      )
  begun_within earlier texts old new lanes short begun = absurd begun

  fault_within : (most : ℕ) (left : Input) (fault line : ℕ) → IsShort a b left.bytes → HasFault most a left fault line → HasFault most b left fault line
  fault_within most left fault line short f = subst (λ (x : Stream). header_fault_of x (read_header most x) ≡ Some (record { number = fault; line = line })) (same_stream a b left short) f

  why_within : (most place : ℕ) (left : Input) (why : Failure) → IsShort a b left.bytes → IsWhy most a place left why → IsWhy most b place left why
  why_within most place left (Stopped (Faulty input line fault)) short w = (w.0, w.1, fault_within most left fault line short w.2)
  why_within most place left (Stopped (Read input)) short w = (w.0, w.1, fault_within most left 31 w.1 short w.2)
  why_within most place left (Stopped stop) short w = absurd w
  why_within most place left OutOfMemory short w = w

  stops_within : (place : ℕ) (earlier : List Header) (texts : List (List ℕ)) (old new : List Supply) (why : Failure)
      → AllByRecursion (IsShort a b) texts → Stops a c place earlier texts old new why → Stops b d place earlier texts old new why
  stops_within place earlier (text ∷ texts) (s ∷ old) (t ∷ new) why short (inl h) =
      let most = allowed_after earlier in
      let left = h.0.left in
      let one = left_short a b c d le text s t left short.0 h.0.is_left in
      inl (
        record {
          left = left;
          is_left = h.0.is_left;
          read = needed_within a b c d le s t left []
              (is_header_over most) one h.0.read;
          is_why = why_within most place left why one h.0.is_why;
        },
        h.1,
        h.2,
      )
  stops_within place earlier (text ∷ texts) (s ∷ old) (t ∷ new) why short (inr h) =
      inr (h.0, begun_one (allowed_after earlier) text h.0 s t short.0 h.1, stops_within (suc place) (earlier ++ h.0.header ∷ []) texts old new why short.1 h.2)
  stops_within place earlier texts old new why short stops = absurd stops

  dump_within : (scale : ℕ) (h : Header) (front : List Token) (i : Input) (items : List BodyItem) (fault : Option Fault) → IsShort a b i.bytes
      → HasDump scale a h front i items fault → HasDump scale b h front i items fault
  dump_within scale h front i items fault short n =
      let rest = n.rest in
      record {
        rest = rest;
        tokens = subst (λ (x : Stream). x.tokens ≡ front ++ rest) (same_stream a b i short) n.tokens;
        is = subst (λ (x : Stream). dump_of scale h (body_fault_of x (read_body h.codes rest)) (read_body h.codes rest)
            ≡ record { header = h; items = items; fault = fault }) (same_stream a b i short) n.is;
      }

  module _ (hs : List Header) (lanes : List Lane) (short_lane : (k : ℕ) (l : Lane) → slice_get lanes k ≡ Some l → IsShort a b l.input.bytes) where
    ended_within : {P : Type 0} (l : Lane) (items : List BodyItem) → IsShort a b l.input.bytes → HasEnded a hs l items ⊎ P → HasEnded b hs l items ⊎ P
    ended_within l items short (inl ended) = inl (dump_within (factor hs l.header) l.header l.front l.input items None short ended)
    ended_within l items short (inr later) = inr later

    turn_within : (merged : List Dump) (k : ℕ) (l : Lane) (left : Input) (rest : Option (List ℕ)) → IsShort a b left.bytes
        → ReadOnTurn a c hs lanes merged k l left rest → ReadOnTurn b d hs lanes merged k l left rest
    turn_within merged k l left rest short r = record {
      items = r.items;
      first = λ j m n other at_m at_n. ended_within m n.items (short_lane j m at_m) (r.first j m n other at_m at_n);
      no_more = λ old failures settled none. needed_within a b c d le old (record { rest = rest; failures = failures }) left l.front settled short (r.no_more old failures settled none);
    }

    read_or_not : {P : Type 0} (merged : List Dump) (k : ℕ) (l : Lane) (left : Input) (rest : Option (List ℕ)) → IsShort a b left.bytes → P
        ⊎ ReadOnTurn a c hs lanes merged k l left rest → P ⊎ ReadOnTurn b d hs lanes merged k l left rest
    read_or_not merged k l left rest short (inl same) = inl same
    read_or_not merged k l left rest short (inr r) = inr (turn_within merged k l left rest short r)

    bodies_within : (old new : List Supply) (lefts : List Input) (out out' : Device) → AllByRecursion (λ (i : Input). IsShort a b i.bytes) lefts
        → AreReadOnTurn a c hs lanes old new lefts out out' → AreReadOnTurn b d hs lanes old new lefts out out'
    bodies_within old new lefts out out' short (Unread same) = Unread same
    bodies_within old new lefts out out' short (OnTurn merged headers begins more written each) =
        OnTurn merged headers
        (λ k l m at_l at_m. let n = begins k l m at_l at_m in (n.0, n.1, dump_within (factor hs l.header) l.header l.front l.input (m.items ++ n.0) n.1 (short_lane k l at_l) n.2))
        more written
        (λ k l s t i at_l at_s at_t at_i. read_or_not merged k l i t.rest (at_index (λ (i : Input). IsShort a b i.bytes) lefts k i short at_i) (each k l s t i at_l at_s at_t at_i))

  module _ (texts : List (List ℕ)) (old new : List Supply) (inputs : List Input) (out out' : Device) (short : AllByRecursion (IsShort a b) texts)
      (all : AllByRecursion (λ (i : Input). IsShort a b i.bytes) inputs) where
    merged_within : AreMergedInTurn a c texts old new inputs out out' → AreMergedInTurn b d texts old new inputs out out'
    merged_within (InHeaders why stops) = InHeaders why (stops_within 0 [] texts old new why short stops)
    merged_within (InBodies lanes mid begun bodies) =
        let n = begun_within [] texts old mid lanes short begun in
        InBodies lanes mid n.0 (bodies_within (headers_in lanes) lanes (λ k l at. at_index (λ (l : Lane). IsShort a b l.input.bytes) lanes k l n.1 at) mid new inputs out out' all bodies)

    keeps_within : (want : Want) → OneKeepsUp want a c old new inputs out out' → OneKeepsUp want b d old new inputs out out'
    keeps_within want keeps = λ s t i is_s is_t is_i.
        let k = keeps s t i is_s is_t is_i in
        let one = (subst (AllByRecursion (λ (j : Input). IsShort a b j.bytes)) is_i all).0 in
        (k.0, k.1, needed_within a b c d le s t i [] (is_more_due (due want declarations_allowed) (length k.0)) one k.2)

    turns_within : (want : Want) → AreInTurn want a c texts old new inputs out out' → AreInTurn want b d texts old new inputs out out'
    turns_within Want.Merge turns = merged_within turns
    turns_within want turns = keeps_within want turns

-- ---- a run

pub run_within : (a b c d : ℕ) → c ≤ d → (want : Want) (names texts : List (List ℕ)) (old new : List Supply) (out out' err err' : Device)
    (status : ℕ) → AllByRecursion (IsShort a b) texts
    → HasRun want a c names texts old new out out' err err' status → HasRun want b d names texts old new out out' err err' status
run_within a b c d le want names texts old new out out' err err' status short (WithOutcome inputs read needed turns leaves) =
    let all = lefts_short a b c d le (is_settled want) [] texts old new inputs short read in
    WithOutcome inputs (read_within a b c d le (is_settled want) [] texts old new inputs short read) (all_within a b c d le old new inputs all want needed)
    (turns_within a b c d le texts old new inputs out out' short all want turns)
    (subst (λ (o : Outcome). IsOutcome program_name o out out' err err' status) (same_outcome a b want names inputs all) leaves)
run_within a b c d le want names texts old new out out' err err' status short (NoMemory inputs read needed turns same written shown status_is) =
    let all = lefts_short a b c d le is_header_over [] texts old new inputs short read in
    NoMemory inputs (read_within a b c d le is_header_over [] texts old new inputs short read) (all_within a b c d le old new inputs all want needed)
    (turns_within a b c d le texts old new inputs out out' short all want turns) same written shown status_is

-- ---- readers that give few bytes

-- a reader that is known to give few bytes
short_text : (longest : Option ℕ) (wide narrow : Job) (text : List ℕ) → Narrows longest wide narrow → IfSome longest (λ most. length text ≤ most) → IsShort narrow.limit wide.limit text
short_text longest wide narrow text n within = by_limit n.limit
  where
    by_limit : IsLimitFor longest wide.limit narrow.limit → IsShort narrow.limit wide.limit text
    by_limit (inl same) = inl same
    by_limit (inr less) =
        let few : length text ≤ less.1.0 = subst (λ (o : Option ℕ). IfSome o (λ most. length text ≤ most)) less.1.1 within in
        let most = less.1.2 in
        let below = less.0 in
        inr (omega (arith, few, most), omega (arith, few, most, below))

all_unknown : (texts : List (List ℕ)) → AllByRecursion (λ (text : List ℕ). IfSome None (λ (most : ℕ). length text ≤ most)) texts
all_unknown [] = tt
all_unknown (text ∷ texts) = (tt, all_unknown texts)

module _ {X : Type 0} (rest : X → Option (List ℕ)) where
  few_texts : (most : ℕ) (readers : List X) (texts : List (List ℕ)) → AllByRecursion (λ r. IfSome (rest r) (λ text. length text ≤ most)) readers
      → map rest readers ≡ map (λ text. Some text) texts
      → AllByRecursion (λ (text : List ℕ). length text ≤ most) texts
  few_texts most [] [] all is = tt
  few_texts most (r ∷ readers) (text ∷ texts) all is =
      let one : rest r ≡ Some text = cc in
      let others : map rest readers ≡ map (λ text. Some text) texts = cc in
      (subst (λ (o : Option (List ℕ)). IfSome o (λ text. length text ≤ most)) one all.0, few_texts most readers texts all.1 others)
  few_texts most readers texts all is = absurd (cc)

  texts_within : (longest : Option ℕ) (readers : List X) (texts : List (List ℕ)) → AreWithin rest longest readers → map rest readers ≡ map (λ text. Some text) texts
      → AllByRecursion (λ (text : List ℕ). IfSome longest (λ most. length text ≤ most)) texts
  texts_within None readers texts within is = all_unknown texts
  texts_within (Some most) readers texts within is = few_texts most readers texts (from_all (λ r. IfSome (rest r) (λ text. length text ≤ most)) readers within) is

  pub short_texts : (longest : Option ℕ) (wide narrow : Job) (readers : List X) (texts : List (List ℕ)) → Narrows longest wide narrow
      → AreWithin rest longest readers → map rest readers ≡ map (λ text. Some text) texts
      → AllByRecursion (IsShort narrow.limit wide.limit) texts
  short_texts longest wide narrow readers texts n within is =
      all_weaker (λ text. IfSome longest (λ most. length text ≤ most)) (IsShort narrow.limit wide.limit) texts
      (λ text few. short_text longest wide narrow text n few) (texts_within longest readers texts within is)
