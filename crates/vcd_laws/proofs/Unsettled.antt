-- Tokens that do not settle a run: an input that ends with them ends otherwise than one that fails
-- there.
use Rattle.vcd_laws.proofs.Cited.{◌≡◌, ◌≢◌, ℕ, zero, suc, ◌+◌, ◌-◌, ◌^◌, ◌<◌, ◌≤◌, Bool, true, false, not, cond, ◌&&◌, ◌||◌, is_some, is_none, List, [], ◌∷◌, ◌++◌, length, filter, drop, Option, Some, None, Result, Ok, Err, ◌⊎◌, inl, inr, refl, sym, ap, ◌∙◌, subst, arith, length-drop, list_any, range_with_len, before_first, drop-append-le, lt-ltb, lt-leb, and_parts, or_parts, is_white_space, as_line, is_empty, Input, Mark, Token, Stream, HaltPlace, begins_token, token_places, run_at, end_at, line_at, comes_before, IdCode, Header, header_of, header_grammar, header_fault_of, BodyItem, leaves_open, BodyPhrase, body_grammar, body_items, ends_well, body_fault_of, Fault, missing, Placed, phrases_of, texts_of, Ending, Reading, read_from, AtFault, AtEnd, AtLast, first_unmatched, Request, Outcome, fault_outcome, declarations_allowed, items_in, fault_in, name_at, names_of, ends_early, at_end, unmatched_outcome, dumps_of, Want, Refusal, request_of, over_opened, is_faulty, body_settles, is_settled_by, is_settled_at, input_of, run_of, Prefix, first_tokens, IsShort, UnsettledIsOpen, at_token, token_step, texts_from, forward, texts_of-tokens, IsGoodInput, inputs_good, to_images}
use Rattle.std.proofs.Common.{append-nil, length-append}
use Rattle.vcd_model.specs.Tokens.{tokens_of, first_halt, given_places, stream_of}
use Rattle.vcd_model.specs.HeaderReading.{read_header}
use Rattle.vcd_model.specs.BodyReading.{read_body}
use Rattle.vcd_model.specs.Reading.{reading_of}
use Rattle.vcd_model.specs.Outcome.{open_from, body_of, over_body, over_dump, merge_outcome}
use Rattle.vcd_model.specs.Merge.{first_fault}
use Rattle.vcd_model.specs.Settled.{is_settled}
use Rattle.vcd_laws.proofs.ShortTokens.{AllShort, no_long, not_halted}
use Rattle.vcd_laws.proofs.MergeAlone.{one_dump}
use Rattle.vcd_laws.proofs.DumpLaws.{clean_stream}
use Rattle.vcd_laws.proofs.FirstTokens.{first_tokens as shorter, plain_run, white_run}
use Rattle.vcd_laws.proofs.Settling.{opening, opened_with, opened_at, opens_by, run_over, run_is, asked, header_whole}

-- ---- an end that is open

-- the status is 3 if the source failed, and not if it ended
abbrev OpenEnd : Stream → Outcome → Type 0
OpenEnd s done = (s.halt ≡ Some 31 → done.status ≡ 3) × (s.halt ≡ None → done.status ≢ 3)

missing_open : (s : Stream) (output name : List ℕ) → OpenEnd s (fault_outcome output name (missing s))
missing_open s output name = (
  λ e. rw (e, fault_outcome) refl,
  λ e h. let f : (fault_outcome output name (missing s)).status ≡ 1 = rw (e, fault_outcome) refl in cc,
)

-- ---- a body

-- no phrase is the last of a body
abbrev pub NotLast : List IdCode → List Token → Type 0
NotLast codes ts = (placed : List (Placed BodyPhrase)) (before : List (List ℕ))
    → (read_from (body_grammar codes) placed before ts).ending ≢ AtLast

not_last_token : (codes : List IdCode) (t : Token) (ts : List Token) → NotLast codes ts
    → (placed : List (Placed BodyPhrase)) (before : List (List ℕ)) (o : Option ℕ)
    (q : Option BodyPhrase) → (at_token (body_grammar codes) placed before t ts o q).ending ≢ AtLast
not_last_token codes t ts more placed before (Some n) q h = cc
not_last_token codes t ts more placed before None None h = more placed (before ++ t.bytes ∷ []) h
not_last_token codes t ts more placed before None (Some p) h =
    more (placed ++ record { phrase = p; line = t.line } ∷ []) [] h

pub not_last : (codes : List IdCode) (ts : List Token) → NotLast codes ts
not_last codes [] placed before h = cc
not_last codes (t ∷ ts) placed before h =
    let g = body_grammar codes in
    let o = g.fault (phrases_of placed) before t.bytes in
    let q = g.phrase (before ++ t.bytes ∷ []) in
    not_last_token codes t ts (not_last codes ts) placed before o q
    (sym (ap (λ (r : Reading BodyPhrase). r.ending) (token_step g placed before t ts o q refl refl)) ∙ h)

-- a body without a faulty token ends with its tokens
at_its_end : (codes : List IdCode) (ts : List Token) → is_faulty (read_body codes ts).ending ≡ false
    → (read_body codes ts).ending ≡ AtEnd
unfolding read_body reading_of
at_its_end codes ts h = by_ending (read_from (body_grammar codes) [] [] ts).ending refl h
  where
    by_ending : (e : Ending) → (read_from (body_grammar codes) [] [] ts).ending ≡ e → is_faulty e ≡ false → e ≡ AtEnd
    by_ending (AtFault f) e h = cc
    by_ending AtEnd e h = refl
    by_ending AtLast e h = absurd (not_last codes ts [] [] e)

-- a token is missing there, or none is and the source ended
abbrev pub OpenFault : Stream → Option Fault → Type 0
OpenFault s fault = (fault ≡ Some (missing s)) ⊎ ((fault ≡ None) × (is_none s.halt ≡ true))

pub open_fault : (s : Stream) (r : Reading BodyPhrase) → r.ending ≡ AtEnd → OpenFault s (body_fault_of s r)
open_fault s r e = by_end (ends_well s r) refl
  where
    by_end : (b : Bool) → ends_well s r ≡ b → OpenFault s (body_fault_of s r)
    by_end true f =
        inr (rw (e, body_fault_of, f) refl, (and_parts (is_none s.halt) (is_empty r.before) (and_parts (is_none s.halt && is_empty r.before) (not (leaves_open (body_items r))) f).0).0)
    by_end false f = inl (rw (e, body_fault_of, f) refl)

pub not_failed : (halt : Option ℕ) → is_none halt ≡ true → halt ≡ Some 31 → ⊥
not_failed None e f = cc
not_failed (Some n) e f = cc

end_open : (task : Request) (h : Header) (items : List BodyItem) (name : List ℕ) (s : Stream)
    (fault : Option Fault) → OpenFault s fault → OpenEnd s (at_end task h items name fault)
end_open task h items name s fault (inl e) =
    subst (λ (f : Option Fault). OpenEnd s (at_end task h items name f)) (sym e) (missing_open s _ name)
end_open task h items name s fault (inr (e, none)) =
    subst (λ (f : Option Fault). OpenEnd s (at_end task h items name f)) (sym e)
    (λ f. absurd (not_failed s.halt none f), λ f g. cc)

body_open : (task : Request) (h : Header) (name : List ℕ) (s : Stream) (ts : List Token)
    → body_settles task h ts ≡ false
    → OpenEnd s (over_body task h (items_in (opened_at h s ts)) name (fault_in (opened_at h s ts)))
unfolding body_of over_body
body_open task h name s ts e =
    let r = read_body h.codes ts in
    let n = or_parts (is_faulty r.ending) (list_any (ends_early task) (body_items r)) e in
    rw (n.1, over_body) (end_open task h (body_items r) name s (body_fault_of s r) (open_fault s r (at_its_end h.codes ts n.0)))

-- if names may select nothing
named_open : (task : Request) (h : Header) (name : List ℕ) (s : Stream) (ts : List Token)
    (place : Option ℕ) → (is_some place || body_settles task h ts) ≡ false
    → OpenEnd s (elim place as (λ _. Outcome) [
      | Some i ↦ unmatched_outcome (name_at (names_of task) i)
      | None ↦ over_body task h (items_in (opened_at h s ts)) name (fault_in (opened_at h s ts))
    ])
named_open task h name s ts (Some i) e = cc
named_open task h name s ts None e = body_open task h name s ts e

-- ---- a merge of one input

merge_end : (h : Header) (items : List BodyItem) (name : List ℕ) (s : Stream) (fault : Option Fault)
    → OpenFault s fault
    → OpenEnd s (merge_outcome (name ∷ []) (record { header = h; items = items; fault = fault } ∷ []))
unfolding merge_outcome first_fault
merge_end h items name s fault (inl e) =
    subst (λ (f : Option Fault). OpenEnd s (merge_outcome (name ∷ []) (record { header = h; items = items; fault = f } ∷ []))) (sym e) (missing_open s _ name)
merge_end h items name s fault (inr (e, none)) =
    subst (λ (f : Option Fault). OpenEnd s (merge_outcome (name ∷ []) (record { header = h; items = items; fault = f } ∷ []))) (sym e)
    (λ f. absurd (not_failed s.halt none f), λ f g. cc)

merge_is_open : (h : Header) (name : List ℕ) (s : Stream) (ts : List Token)
    → IsGoodInput (opened_at h s ts) → body_settles Request.Merge h ts ≡ false
    → OpenEnd s (merge_outcome (name ∷ []) (dumps_of (opened_at h s ts ∷ [])))
unfolding body_of
merge_is_open h name s ts good e =
    let r = read_body h.codes ts in
    let n = or_parts (is_faulty r.ending) (list_any (ends_early Request.Merge) (body_items r)) e in
    subst (λ ds. OpenEnd s (merge_outcome (name ∷ []) ds)) (sym (one_dump (opened_at h s ts) good))
    (merge_end h (body_items r) name s (body_fault_of s r) (open_fault s r (at_its_end h.codes ts n.0)))

-- ---- a run

request_open : (request : Result Request Refusal) (h : Header) (name : List ℕ) (s : Stream)
    (ts : List Token) → IsGoodInput (opened_at h s ts) → is_settled_by request h ts ≡ false
    → OpenEnd s (asked (name ∷ []) (opened_at h s ts ∷ []) request)
unfolding over_dump
request_open (Err why) h name s ts good e = cc
request_open (Ok Request.Check) h name s ts good e = named_open Request.Check h name s ts None e
request_open (Ok Request.Listing) h name s ts good e = cc
request_open (Ok (Request.Pick names)) h name s ts good e =
    named_open (Request.Pick names) h name s ts (first_unmatched names h.declarations) e
request_open (Ok (Request.Cut a b)) h name s ts good e = named_open (Request.Cut a b) h name s ts None e
request_open (Ok (Request.Sample times names)) h name s ts good e =
    named_open (Request.Sample times names) h name s ts (first_unmatched names h.declarations) e
request_open (Ok (Request.Edges names)) h name s ts good e =
    named_open (Request.Edges names) h name s ts (first_unmatched names h.declarations) e
request_open (Ok Request.Merge) h name s ts good e = merge_is_open h name s ts good e

run_open : (want : Want) (limit : ℕ) (name : List ℕ) (input : Input) (s : Stream)
    → stream_of limit input ≡ s → is_settled want declarations_allowed s.tokens ≡ false
    → OpenEnd s (run_of want limit name input)
unfolding is_settled read_header open_from
run_open want limit name input s es e =
    let g = header_grammar declarations_allowed in
    subst (λ (u : Stream). is_settled_at want (reading_of g u.tokens) (reading_of g u.tokens).ending ≡ false
    → OpenEnd u (run_of want limit name input)) es
    (λ f. by_ending (reading_of g (stream_of limit input).tokens).ending refl f) e
  where
    by_ending : (ending : Ending)
        → (reading_of (header_grammar declarations_allowed) (stream_of limit input).tokens).ending ≡ ending
        → is_settled_at want (reading_of (header_grammar declarations_allowed) (stream_of limit input).tokens) ending ≡ false
        → OpenEnd (stream_of limit input) (run_of want limit name input)
    by_ending (AtFault f) x e = cc
    by_ending AtEnd x e =
        let stream = stream_of limit input in
        let r = read_header declarations_allowed stream in
        let fault : header_fault_of stream r ≡ Some (missing stream) = rw (x, header_fault_of) refl in
        let opens : open_from limit [] (input ∷ []) ≡ Err (0, missing stream) =
        opens_by limit [] input []
        ∙ ap (λ (f : Option Fault). opening 0 (opened_with stream r) f (open_from limit (header_of (phrases_of r.placed) ∷ []) [])) fault in
        let same : run_of want limit name input ≡ fault_outcome [] name (missing stream) =
        run_is want limit (name ∷ []) (input ∷ []) ∙ ap (run_over want (name ∷ [])) opens in
        subst (OpenEnd stream) (sym same) (missing_open stream [] name)
    by_ending AtLast x e =
        let stream = stream_of limit input in
        let r = read_header declarations_allowed stream in
        let h = header_of (phrases_of r.placed) in
        let o = opened_with stream r in
        let opens : open_from limit [] (input ∷ []) ≡ Ok (o ∷ []) =
        opens_by limit [] input []
        ∙ ap (λ (f : Option Fault). opening 0 o f (open_from limit (h ∷ []) [])) (header_whole stream r x) in
        let same : run_of want limit name input ≡ over_opened want (name ∷ []) (o ∷ []) =
        run_is want limit (name ∷ []) (input ∷ []) ∙ ap (run_over want (name ∷ [])) opens in
        let good = (inputs_good limit [] (input ∷ []) (o ∷ []) opens).0 in
        subst (OpenEnd stream) (sym same) (request_open (request_of h.scale want) h name stream r.rest good e)

-- ---- two inputs

-- a line whose source failed after it
abbrev failed_after : List ℕ → Input
failed_after front = record { bytes = as_line front; mark = Mark.Failed }

run_in_line : (xs : List ℕ) → length (before_first is_white_space (as_line xs)) ≤ length xs
run_in_line [] = omega arith
run_in_line (b ∷ xs) = by_white (is_white_space b) refl (run_in_line xs)
  where
    by_white : (w : Bool) → is_white_space b ≡ w
        → length (before_first is_white_space (as_line xs)) ≤ length xs
        → length (before_first is_white_space (as_line (b ∷ xs))) ≤ length (b ∷ xs)
    by_white true e l = rw (white_run b (as_line xs) e) (omega arith)
    by_white false e l = rw (plain_run b (as_line xs) e) (omega arith)

-- each token of a line ends before its end
ends_inside : (front : List ℕ) (i : ℕ) → i ≤ length front → end_at (as_line front) i < length (as_line front)
ends_inside front i h =
    let r : length (before_first is_white_space (as_line (drop i front))) ≤ length (drop i front) = run_in_line (drop i front) in
    let l : length (drop i front) ≡ length front - i = length-drop i front in
    let n : length (as_line front) ≡ length front + 1 = length-append front (10 ∷ []) in
    let e : length (run_at (as_line front) i) ≡ length (before_first is_white_space (as_line (drop i front))) =
    ap (λ (t : List ℕ). length (before_first is_white_space t)) (drop-append-le i front (10 ∷ []) h) in
    omega arith

all_inside : (front : List ℕ) (test : ℕ → Bool) (i k : ℕ) (line : ℕ) → i + k ≤ length (as_line front)
    → filter (λ j. comes_before (end_at (as_line front) j) (Some (record { fault = 31; place = length (as_line front); line = line })))
    (filter test (range_with_len i k)) ≡ filter test (range_with_len i k)
all_inside front test i zero line h = refl
all_inside front test i (suc k) line h = by_test (test i) (all_inside front test (i + 1) k line (omega arith))
  where
    halt : HaltPlace
    halt = record { fault = 31; place = length (as_line front); line = line }

    by_test : (b : Bool)
        → filter (λ j. comes_before (end_at (as_line front) j) (Some (record { fault = 31; place = length (as_line front); line = line })))
        (filter test (range_with_len (i + 1) k)) ≡ filter test (range_with_len (i + 1) k)
        → filter (λ j. comes_before (end_at (as_line front) j) (Some (record { fault = 31; place = length (as_line front); line = line })))
        (cond b (i ∷ filter test (range_with_len (i + 1) k)) (filter test (range_with_len (i + 1) k)))
        ≡ cond b (i ∷ filter test (range_with_len (i + 1) k)) (filter test (range_with_len (i + 1) k))
    by_test true e =
        let n = length-append front (10 ∷ []) in
        rw (lt-ltb (end_at (as_line front) i) (length (as_line front)) (ends_inside front i (omega arith))) (ap (λ l. i ∷ l) e)
    by_test false e = e

halted : (limit : ℕ) (front : List ℕ) → length (as_line front) < 2 ^ 63
    → AllShort limit (texts_from true (as_line front))
    → first_halt limit (failed_after front) ≡ Some (record {
      fault = 31;
      place = length (as_line front);
      line = line_at (as_line front) (length (as_line front));
    })
unfolding first_halt
halted limit front small short =
    let none = no_long limit (as_line front) (token_places (as_line front))
    (subst (AllShort limit) (sym (forward (as_line front))) short) in
    rw (lt-leb (2 ^ 63) (length (as_line front)) small, none) refl

failed_stream : (limit : ℕ) (front : List ℕ) → length (as_line front) < 2 ^ 63
    → AllShort limit (texts_from true (as_line front))
    → stream_of limit (failed_after front) ≡ record {
      tokens = tokens_of (as_line front);
      halt = Some 31;
      line = line_at (as_line front) (length (as_line front));
    }
unfolding stream_of given_places tokens_of
failed_stream limit front small short =
    let text = as_line front in
    let first = halted limit front small short in
    rw (first, all_inside front (begins_token text) 0 (length text) (line_at text (length text)) (omega arith)) refl

-- two inputs with these tokens, of which one ends and one fails
pub record TwoEnds (limit : ℕ) (ts : List Token) : Type 0 where
  pub clean : Input
  pub failed : Input
  pub line : ℕ
  pub ends : stream_of limit clean ≡ record { tokens = ts; halt = None; line = line }
  pub fails : stream_of limit failed ≡ record { tokens = ts; halt = Some 31; line = line }

pub two_ends : (limit : ℕ) (f : Prefix) → IsShort limit f → TwoEnds limit (first_tokens f)
two_ends limit f short =
    let ts = first_tokens f in
    let g = shorter f.text f.count in
    let front = g.0 in
    let small : length f.text + 1 < 2 ^ 63 = short.0 in
    let l = length-append front (10 ∷ []) in
    let le = g.2 in
    let fits : length (as_line front) < 2 ^ 63 = omega arith in
    let own : AllShort limit (texts_from true (as_line front)) =
    subst (AllShort limit) (ap texts_of (sym g.1) ∙ texts_of-tokens (as_line front))
    (to_images (λ t. length t ≤ limit) (λ (t : Token). t.bytes) ts short.1) in
    let line = line_at (as_line front) (length (as_line front)) in
    record {
      clean = input_of (as_line front);
      failed = failed_after front;
      line = line;
      ends = clean_stream limit (as_line front) (not_halted limit (as_line front) fits own)
          ∙ ap (λ (l : List Token). record { tokens = l; halt = None; line = line }) g.1;
      fails = failed_stream limit front fits own
          ∙ ap (λ (l : List Token). record { tokens = l; halt = Some 31; line = line }) g.1;
    }

pub unsettled_is_open : UnsettledIsOpen
unsettled_is_open want limit name f short e =
    let ts = first_tokens f in
    let two = two_ends limit f short in
    let good = run_open want limit name two.clean _ two.ends e in
    let bad = run_open want limit name two.failed _ two.fails e in (
      two.clean,
      two.failed,
      ([], ap (λ (s : Stream). s.tokens) two.ends ∙ sym (append-nil ts)),
      ([], ap (λ (s : Stream). s.tokens) two.fails ∙ sym (append-nil ts)),
      λ same. good.1 refl (same ∙ bad.0 refl),
    )
