-- What is due with the first tokens of an input, and the output over it.
use Rattle.vcd_laws.proofs.Cited.{◌≡◌, ◌≢◌, ℕ, ℤ, Bool, true, false, cond, not, ◌&&◌, ◌||◌, ◌==◌, nat_lt, is_some, is_none, is_ok, List, [], ◌∷◌, ◌++◌, map, filter_map, Option, Some, None, Result, Ok, Err, inl, inr, refl, sym, ap, ◌∙◌, subst, list_any, list_all, up_to_first, Input, Token, Stream, stream_of, IdCode, Header, header_of, HeaderPhrase, header_grammar, header_fault_of, BodyItem, BodyPhrase, body_items, body_fault_of, Fault, missing, phrases_of, Ending, Reading, AtFault, AtEnd, AtLast, first_unmatched, moment_ticks, Request, Outcome, fault_outcome, open_text, close_text, declarations_allowed, items_in, fault_in, name_at, names_of, ends_early, at_end, unmatched_outcome, Want, Refusal, refusal_outcome, over_opened, has_unit, do_rise, ok_of, cut_request, first_refusal, is_faulty, body_settles, is_settled_behind, is_settled_by, is_settled_at, is_over, IsPrefixOf, IsValid, run_of, BeginsWith, first_tokens, due_of_body, due_after, due_of_request, due_at, DueGrows, DueIsNeverRevised, DueIsLeftAtAHalt, DueIsAllThatIsKnown, SettledDueIsAll, goes_on, requests_are_valid, nothing_revised}
use Rattle.std.proofs.Common.{append-nil, append_assoc}
use Rattle.vcd_model.specs.HeaderReading.{read_header}
use Rattle.vcd_model.specs.BodyReading.{read_body}
use Rattle.vcd_model.specs.Reading.{reading_of}
use Rattle.vcd_model.specs.Outcome.{open_from, body_of, over_body, over_dump}
use Rattle.vcd_model.specs.Job.{request_of}
use Rattle.vcd_model.specs.Settled.{is_settled}
use Rattle.vcd_model.specs.Due.{due}
use Rattle.vcd_laws.proofs.Settling.{with_more, over_whatever, items_first, faulty_body, at_fault, opened_at, first_part, ended_early, opening, opened_with, opening_with, opens_by, opening_faulty, opening_whole, run_over, run_is, asked}
use Rattle.vcd_laws.proofs.Unsettled.{not_last, OpenFault, open_fault, two_ends}

-- ---- texts that begin others

pub same_text : {X : Type 0} (xs ys : List X) → ys ≡ xs → IsPrefixOf xs ys
same_text xs ys e = ([], e ∙ sym (append-nil xs))

pub longer_text : {X : Type 0} (xs ys zs : List X) → IsPrefixOf xs ys → IsPrefixOf ys zs → IsPrefixOf xs zs
longer_text xs ys zs a b = (a.0 ++ b.0, b.1 ∙ ap (λ l. l ++ b.0) a.1 ∙ append_assoc xs a.0 b.0)

-- ---- more items

none_first : (test : BodyItem → Bool) (p : List BodyItem) → list_any test p ≡ false → up_to_first test p ≡ p
none_first test p e =
    subst (λ (l : List BodyItem). up_to_first test l ≡ p) (append-nil p) (goes_on test p [] e ∙ append-nil p)

open_first : (task : Request) (h : Header) (p q : List BodyItem) → IsValid task
    → IsPrefixOf (open_text task h (up_to_first (ends_early task) p)) (open_text task h (up_to_first (ends_early task) (p ++ q)))
open_first task h p q v = by_early (list_any (ends_early task) p) refl
  where
    by_early : (b : Bool) → list_any (ends_early task) p ≡ b
        → IsPrefixOf (open_text task h (up_to_first (ends_early task) p)) (open_text task h (up_to_first (ends_early task) (p ++ q)))
    by_early true e = same_text _ _ (ap (open_text task h) (first_part (ends_early task) p q e).1)
    by_early false e =
        rw (none_first (ends_early task) p e, goes_on (ends_early task) p q e)
        (nothing_revised task h p (up_to_first (ends_early task) q) v e)

-- ---- more tokens

over_grows : (place : Option ℕ) (task : Request) (h : Header) (ts more : List Token) → IsValid task
    → IsPrefixOf (due_of_body place task h ts) (due_of_body place task h (ts ++ more))
over_grows (Some i) task h ts more v = same_text [] [] refl
over_grows None task h ts more v =
    let k = items_first h.codes ts more in
    subst (λ (l : List BodyItem). IsPrefixOf (due_of_body None task h ts) (open_text task h (up_to_first (ends_early task) l)))
    (sym k.1) (open_first task h (body_items (read_body h.codes ts)) k.0 v)

behind_grows : (task : Request) (h : Header) (ts more : List Token) → IsValid task
    → IsPrefixOf (due_after task h ts) (due_after task h (ts ++ more))
behind_grows Request.Check h ts more v = over_grows None Request.Check h ts more v
behind_grows Request.Listing h ts more v = same_text _ _ refl
behind_grows (Request.Pick names) h ts more v = over_grows (first_unmatched names h.declarations) (Request.Pick names) h ts more v
behind_grows (Request.Cut a b) h ts more v = over_grows None (Request.Cut a b) h ts more v
behind_grows (Request.Sample times names) h ts more v = over_grows (first_unmatched names h.declarations) (Request.Sample times names) h ts more v
behind_grows (Request.Edges names) h ts more v = over_grows (first_unmatched names h.declarations) (Request.Edges names) h ts more v
behind_grows Request.Merge h ts more v = over_grows None Request.Merge h ts more v

by_grows : (request : Result Request Refusal) (h : Header) (ts more : List Token)
    → ((task : Request) → request ≡ Ok task → IsValid task)
    → IsPrefixOf (due_of_request request h ts) (due_of_request request h (ts ++ more))
by_grows (Ok task) h ts more v = behind_grows task h ts more (v task refl)
by_grows (Err refusal) h ts more v = same_text [] [] refl

-- a header that is whole stays so
due_whole : (want : Want) (most : ℕ) (ts more : List Token)
    → (reading_of (header_grammar most) ts).ending ≡ AtLast
    → due want most (ts ++ more) ≡ due_at want (with_more (reading_of (header_grammar most) ts) more) AtLast
unfolding due
due_whole want most ts more e =
    let r = reading_of (header_grammar most) ts in
    ap (λ (q : Reading HeaderPhrase). due_at want q q.ending) (over_whatever (header_grammar most) ts more (ap is_over e))
    ∙ ap (due_at want (with_more r more)) e

due_is : (want : Want) (most : ℕ) (ts : List Token) (ending : Ending)
    → (reading_of (header_grammar most) ts).ending ≡ ending
    → due want most ts ≡ due_at want (reading_of (header_grammar most) ts) ending
unfolding due
due_is want most ts ending e = ap (due_at want (reading_of (header_grammar most) ts)) e

pub due_grows : DueGrows
due_grows want most ts more is = by_ending (reading_of (header_grammar most) ts).ending refl
  where
    nothing : due want most ts ≡ [] → IsPrefixOf (due want most ts) (due want most (ts ++ more))
    nothing e = (due want most (ts ++ more), ap (λ l. l ++ due want most (ts ++ more)) (sym e))

    by_ending : (ending : Ending) → (reading_of (header_grammar most) ts).ending ≡ ending
        → IsPrefixOf (due want most ts) (due want most (ts ++ more))
    by_ending (AtFault f) e = nothing (due_is want most ts (AtFault f) e)
    by_ending AtEnd e = nothing (due_is want most ts AtEnd e)
    by_ending AtLast e =
        let r = reading_of (header_grammar most) ts in
        let h = header_of (phrases_of r.placed) in
        rw (due_is want most ts AtLast e, due_whole want most ts more e)
        (by_grows (request_of h.scale want) h r.rest more (λ task same. requests_are_valid h.scale want task is same))

-- ---- the output of a body

pub fault_output : (output name : List ℕ) (f : Fault) → (fault_outcome output name f).output ≡ output
fault_output output name f = by_number (f.number == 31) refl
  where
    by_number : (b : Bool) → (f.number == 31) ≡ b → (fault_outcome output name f).output ≡ output
    by_number true e = rw (e, fault_outcome) refl
    by_number false e = rw (e, fault_outcome) refl

not_early : (task : Request) (h : Header) (items : List BodyItem) (name : List ℕ) (fault : Option Fault)
    → list_any (ends_early task) items ≡ false
    → over_body task h items name fault ≡ at_end task h items name fault
unfolding over_body
not_early task h items name fault e = rw (e, over_body) refl

-- This text begins this output. It is the whole output if the source was halted, and if the
-- run is settled.
abbrev Written : Stream → Bool → List ℕ → List ℕ → Type 0
Written s settled text output = IsPrefixOf text output
    × (s.halt ≢ None → output ≡ text) × (settled ≡ true → output ≡ text)

all_written : (s : Stream) (settled : Bool) (text output : List ℕ) → output ≡ text → Written s settled text output
all_written s settled text output e = (same_text text output e, λ h. e, λ h. e)

-- a body has a fault if the source was halted
pub halted_fault : (s : Stream) (codes : List IdCode) (ts : List Token) → s.halt ≢ None
    → body_fault_of s (read_body codes ts) ≢ None
unfolding read_body reading_of
halted_fault s codes ts halted none = by_ending (read_body codes ts).ending refl
  where
    by_ending : (e : Ending) → (read_body codes ts).ending ≡ e → ⊥
    by_ending (AtFault f) e = let some = at_fault s (read_body codes ts) f e in cc
    by_ending AtEnd e = by_open (open_fault s (read_body codes ts) e)
      where
        by_halt : (h : Option ℕ) → h ≢ None → is_none h ≡ true → ⊥
        by_halt None e f = e refl
        by_halt (Some n) e f = cc

        by_open : OpenFault s (body_fault_of s (read_body codes ts)) → ⊥
        by_open (inl some) = cc
        by_open (inr (x, ended)) = by_halt s.halt halted ended
    by_ending AtLast e = not_last codes ts [] [] e

-- .. and if one of the tokens has one
faulty_fault : (s : Stream) (r : Reading BodyPhrase) → is_faulty r.ending ≡ true → body_fault_of s r ≢ None
faulty_fault s r h none = by_ending r.ending refl h
  where
    by_ending : (e : Ending) → r.ending ≡ e → is_faulty e ≡ true → ⊥
    by_ending (AtFault f) e h = let some = at_fault s r f e in cc
    by_ending AtEnd e h = cc
    by_ending AtLast e h = cc

body_written : (task : Request) (h : Header) (name : List ℕ) (s : Stream) (ts : List Token)
    → Written s (body_settles task h ts) (due_of_body None task h ts)
    (over_body task h (items_in (opened_at h s ts)) name (fault_in (opened_at h s ts))).output
unfolding body_of
body_written task h name s ts = by_early (list_any (ends_early task) items) refl (body_fault_of s r) refl
  where
    r : Reading BodyPhrase
    r = read_body h.codes ts

    items : List BodyItem
    items = body_items (read_body h.codes ts)

    by_early : (b : Bool) → list_any (ends_early task) (body_items (read_body h.codes ts)) ≡ b
        → (fault : Option Fault) → body_fault_of s (read_body h.codes ts) ≡ fault
        → Written s (body_settles task h ts) (due_of_body None task h ts) (over_body task h (body_items (read_body h.codes ts)) name fault).output
    by_early true e fault f =
        all_written s _ _ _ (ap (λ (o : Outcome). o.output) (ended_early task h (body_items (read_body h.codes ts)) name fault e))
    by_early false e (Some x) f =
        all_written s _ _ _ (ap (λ (o : Outcome). o.output) (not_early task h (body_items (read_body h.codes ts)) name (Some x) e)
        ∙ fault_output (open_text task h (body_items (read_body h.codes ts))) name x
        ∙ ap (open_text task h) (sym (none_first (ends_early task) (body_items (read_body h.codes ts)) e)))
    by_early false e None f = (
      (
        close_text task h (body_items (read_body h.codes ts)),
        ap (λ (o : Outcome). o.output) (not_early task h (body_items (read_body h.codes ts)) name None e)
            ∙ ap (λ (l : List BodyItem). open_text task h l ++ close_text task h (body_items (read_body h.codes ts))) (sym (none_first (ends_early task) (body_items (read_body h.codes ts)) e)),
      ),
      λ halted. absurd (halted_fault s h.codes ts halted f),
      λ settled. absurd (faulty_fault s (read_body h.codes ts) (first_of (is_faulty (read_body h.codes ts).ending) (list_any (ends_early task) (body_items (read_body h.codes ts))) e settled) f),
    )
      where
        first_of : (x y : Bool) → y ≡ false → (x || y) ≡ true → x ≡ true
        first_of true y e h = refl
        first_of false y e h = cc

-- ---- the output of a run

over_written : (task : Request) (h : Header) (name : List ℕ) (s : Stream) (ts : List Token) (place : Option ℕ)
    → Written s (is_some place || body_settles task h ts) (due_of_body place task h ts)
    (elim place as (λ _. Outcome) [
      | Some i ↦ unmatched_outcome (name_at (names_of task) i)
      | None ↦ over_body task h (items_in (opened_at h s ts)) name (fault_in (opened_at h s ts))
    ]).output
over_written task h name s ts (Some i) = all_written s _ _ _ refl
over_written task h name s ts None = body_written task h name s ts

cut_one : (units : Bool) (a b : Result ℕ ℕ) → cut_request units a b ≢ Ok Request.Merge
cut_one units (Ok from) (Ok to) e = by_test (units && nat_lt to from) e
  where
    by_test : (b : Bool) → cond b (Err Refusal.FromAboveTo) (Ok (Request.Cut from to)) ≢ Ok Request.Merge
    by_test true e = cc
    by_test false e = cc
cut_one units (Ok from) (Err n) e = cc
cut_one units (Err n) (Ok to) e = cc
cut_one units (Err n) (Err m) e = cc

sample_one : (a b : Bool) (times : List ℕ) (names : List (List ℕ)) (why : Refusal)
    → cond a (cond b (Err Refusal.NotRising) (Ok (Request.Sample times names))) (Err why) ≢ Ok Request.Merge
sample_one true true times names why e = cc
sample_one true false times names why e = cc
sample_one false b times names why e = cc

no_merge : (scale : Option ℤ) (want : Want) → want ≢ Want.Merge → request_of scale want ≢ Ok Request.Merge
unfolding request_of
no_merge scale Want.Check not e = cc
no_merge scale Want.Listing not e = cc
no_merge scale (Want.Pick names) not e = cc
no_merge scale (Want.Cut from to) not e = cut_one (has_unit (from ∷ to ∷ [])) (moment_ticks scale from true) (moment_ticks scale to false) e
no_merge scale (Want.Sample times names) other e =
    let ks = map (λ m. moment_ticks scale m false) times in
    sample_one (list_all is_ok ks) (has_unit times && not (do_rise (filter_map ok_of ks))) (filter_map ok_of ks) names (first_refusal ks) e
no_merge scale (Want.Edges names) not e = cc
no_merge scale Want.Merge not e = not refl

refused : (name : List ℕ) (why : Refusal) → (refusal_outcome name why).output ≡ []
refused name Refusal.NoTimescale = refl
refused name Refusal.OutOfRange = refl
refused name Refusal.FromAboveTo = refl
refused name Refusal.NotRising = refl

request_written : (request : Result Request Refusal) → request ≢ Ok Request.Merge → (h : Header) (name : List ℕ)
    (s : Stream) (ts : List Token)
    → Written s (is_settled_by request h ts) (due_of_request request h ts) (asked (name ∷ []) (opened_at h s ts ∷ []) request).output
unfolding over_dump
request_written (Err why) one h name s ts = all_written s _ _ _ (refused name why)
request_written (Ok Request.Check) one h name s ts = over_written Request.Check h name s ts None
request_written (Ok Request.Listing) one h name s ts = all_written s _ _ _ refl
request_written (Ok (Request.Pick names)) one h name s ts = over_written (Request.Pick names) h name s ts (first_unmatched names h.declarations)
request_written (Ok (Request.Cut a b)) one h name s ts = over_written (Request.Cut a b) h name s ts None
request_written (Ok (Request.Sample times names)) one h name s ts = over_written (Request.Sample times names) h name s ts (first_unmatched names h.declarations)
request_written (Ok (Request.Edges names)) one h name s ts = over_written (Request.Edges names) h name s ts (first_unmatched names h.declarations)
request_written (Ok Request.Merge) one h name s ts = absurd (one refl)

run_written : (want : Want) (limit : ℕ) (name : List ℕ) (input : Input) → want ≢ Want.Merge
    → Written (stream_of limit input) (is_settled want declarations_allowed (stream_of limit input).tokens)
    (due want declarations_allowed (stream_of limit input).tokens) (run_of want limit name input).output
unfolding is_settled due read_header open_from
run_written want limit name input one = by_ending (reading_of (header_grammar declarations_allowed) (stream_of limit input).tokens).ending refl
  where
    opens : open_from limit [] (input ∷ []) ≡ opening_with limit [] [] (stream_of limit input) (reading_of (header_grammar declarations_allowed) (stream_of limit input).tokens)
    opens = opens_by limit [] input []

    by_ending : (ending : Ending)
        → (reading_of (header_grammar declarations_allowed) (stream_of limit input).tokens).ending ≡ ending
        → Written (stream_of limit input) (is_settled_at want (reading_of (header_grammar declarations_allowed) (stream_of limit input).tokens)
        (reading_of (header_grammar declarations_allowed) (stream_of limit input).tokens).ending)
        (due_at want (reading_of (header_grammar declarations_allowed) (stream_of limit input).tokens)
        (reading_of (header_grammar declarations_allowed) (stream_of limit input).tokens).ending) (run_of want limit name input).output
    by_ending (AtFault f) e =
        let s = stream_of limit input in
        let r = reading_of (header_grammar declarations_allowed) s.tokens in
        let same : run_of want limit name input ≡ fault_outcome [] name f =
        run_is want limit (name ∷ []) (input ∷ [])
        ∙ ap (run_over want (name ∷ [])) (opens ∙ opening_faulty limit [] [] s r f e) in
        all_written s _ _ _ (ap (λ (o : Outcome). o.output) same ∙ fault_output [] name f ∙ ap (due_at want r) (sym e))
    by_ending AtEnd e =
        let s = stream_of limit input in
        let r = reading_of (header_grammar declarations_allowed) s.tokens in
        let fault : header_fault_of s r ≡ Some (missing s) = rw (e, header_fault_of) refl in
        let same : run_of want limit name input ≡ fault_outcome [] name (missing s) =
        run_is want limit (name ∷ []) (input ∷ [])
        ∙ ap (run_over want (name ∷ []))
        (opens ∙ ap (λ (f : Option Fault). opening 0 (opened_with s r) f (open_from limit (header_of (phrases_of r.placed) ∷ []) [])) fault) in
        all_written s _ _ _ (ap (λ (o : Outcome). o.output) same ∙ fault_output [] name (missing s) ∙ ap (due_at want r) (sym e))
    by_ending AtLast e =
        let s = stream_of limit input in
        let r = reading_of (header_grammar declarations_allowed) s.tokens in
        let h = header_of (phrases_of r.placed) in
        let same : run_of want limit name input ≡ over_opened want (name ∷ []) (opened_with s r ∷ []) =
        run_is want limit (name ∷ []) (input ∷ [])
        ∙ ap (run_over want (name ∷ [])) (opens ∙ opening_whole limit [] [] s r e) in
        subst (λ (x : Ending). Written s (is_settled_at want r x) (due_at want r x) (run_of want limit name input).output) (sym e)
        (subst (λ (o : Outcome). Written s (is_settled_at want r AtLast) (due_at want r AtLast) o.output) (sym same)
        (request_written (request_of h.scale want) (no_merge h.scale want one) h name s r.rest))

-- ---- tokens that settle a run

items_settled : (task : Request) (h : Header) (ts more : List Token) → body_settles task h ts ≡ true
    → (body_settles task h (ts ++ more) ≡ true) × (due_of_body None task h (ts ++ more) ≡ due_of_body None task h ts)
items_settled task h ts more e = by_fault (is_faulty (read_body h.codes ts).ending) refl e
  where
    by_fault : (b : Bool) → is_faulty (read_body h.codes ts).ending ≡ b
        → (b || list_any (ends_early task) (body_items (read_body h.codes ts))) ≡ true
        → (body_settles task h (ts ++ more) ≡ true) × (due_of_body None task h (ts ++ more) ≡ due_of_body None task h ts)
    by_fault true f e =
        let same = faulty_body h.codes ts more f in (
          ap (λ (r : Reading BodyPhrase). is_faulty r.ending || list_any (ends_early task) (body_items r)) same ∙ ap (λ b. b || list_any (ends_early task) (body_items (read_body h.codes ts))) f,
          ap (λ (r : Reading BodyPhrase). open_text task h (up_to_first (ends_early task) (body_items r))) same,
        )
    by_fault false f e =
        let k = items_first h.codes ts more in
        let p = first_part (ends_early task) (body_items (read_body h.codes ts)) k.0 e in (
          ap (λ (l : List BodyItem). is_faulty (read_body h.codes (ts ++ more)).ending || list_any (ends_early task) l) k.1
              ∙ or_true (is_faulty (read_body h.codes (ts ++ more)).ending) _ p.0,
          ap (λ (l : List BodyItem). open_text task h (up_to_first (ends_early task) l)) k.1 ∙ ap (open_text task h) p.1,
        )
      where
        or_true : (x y : Bool) → y ≡ true → (x || y) ≡ true
        or_true true y e = refl
        or_true false y e = e

place_settled : (place : Option ℕ) (task : Request) (h : Header) (ts more : List Token)
    → (is_some place || body_settles task h ts) ≡ true
    → ((is_some place || body_settles task h (ts ++ more)) ≡ true) × (due_of_body place task h (ts ++ more) ≡ due_of_body place task h ts)
place_settled (Some i) task h ts more e = (refl, refl)
place_settled None task h ts more e = items_settled task h ts more e

behind_settled : (task : Request) (h : Header) (ts more : List Token) → is_settled_behind task h ts ≡ true
    → (is_settled_behind task h (ts ++ more) ≡ true) × (due_after task h (ts ++ more) ≡ due_after task h ts)
behind_settled Request.Check h ts more e = place_settled None Request.Check h ts more e
behind_settled Request.Listing h ts more e = (refl, refl)
behind_settled (Request.Pick names) h ts more e = place_settled (first_unmatched names h.declarations) (Request.Pick names) h ts more e
behind_settled (Request.Cut a b) h ts more e = place_settled None (Request.Cut a b) h ts more e
behind_settled (Request.Sample times names) h ts more e = place_settled (first_unmatched names h.declarations) (Request.Sample times names) h ts more e
behind_settled (Request.Edges names) h ts more e = place_settled (first_unmatched names h.declarations) (Request.Edges names) h ts more e
behind_settled Request.Merge h ts more e = place_settled None Request.Merge h ts more e

by_settled : (request : Result Request Refusal) (h : Header) (ts more : List Token)
    → is_settled_by request h ts ≡ true
    → (is_settled_by request h (ts ++ more) ≡ true) × (due_of_request request h (ts ++ more) ≡ due_of_request request h ts)
by_settled (Ok task) h ts more e = behind_settled task h ts more e
by_settled (Err refusal) h ts more e = (refl, refl)

-- they stay so, and no more is due
stays_settled : (want : Want) (most : ℕ) (ts more : List Token) → is_settled want most ts ≡ true
    → (is_settled want most (ts ++ more) ≡ true) × (due want most (ts ++ more) ≡ due want most ts)
unfolding is_settled due
stays_settled want most ts more e = by_ending (reading_of (header_grammar most) ts).ending refl e
  where
    by_ending : (ending : Ending) → (reading_of (header_grammar most) ts).ending ≡ ending
        → is_settled_at want (reading_of (header_grammar most) ts) ending ≡ true
        → (is_settled want most (ts ++ more) ≡ true) × (due want most (ts ++ more) ≡ due want most ts)
    by_ending (AtFault f) x e =
        let r = reading_of (header_grammar most) ts in
        let over = over_whatever (header_grammar most) ts more (ap is_over x) in (
          ap (λ (q : Reading HeaderPhrase). is_settled_at want q q.ending) over ∙ ap (is_settled_at want (with_more r more)) x,
          ap (λ (q : Reading HeaderPhrase). due_at want q q.ending) over ∙ ap (due_at want (with_more r more)) x ∙ ap (due_at want r) (sym x),
        )
    by_ending AtEnd x e = cc
    by_ending AtLast x e =
        let r = reading_of (header_grammar most) ts in
        let h = header_of (phrases_of r.placed) in
        let over = over_whatever (header_grammar most) ts more (ap is_over x) in
        let b = by_settled (request_of h.scale want) h r.rest more e in (
          ap (λ (q : Reading HeaderPhrase). is_settled_at want q q.ending) over ∙ ap (is_settled_at want (with_more r more)) x ∙ b.0,
          ap (λ (q : Reading HeaderPhrase). due_at want q q.ending) over ∙ ap (due_at want (with_more r more)) x ∙ b.1 ∙ ap (due_at want r) (sym x),
        )

-- ---- the laws

pub due_is_never_revised : DueIsNeverRevised
due_is_never_revised want limit name ts input is begins =
    let more : IsPrefixOf (due want declarations_allowed ts) (due want declarations_allowed (stream_of limit input).tokens) =
    rw begins.1 (due_grows want declarations_allowed ts begins.0 is.0) in
    longer_text _ _ _ more (run_written want limit name input is.1).0

pub due_is_left_at_a_halt : DueIsLeftAtAHalt
due_is_left_at_a_halt want limit name input is halted = (run_written want limit name input is.1).1 halted

pub settled_due_is_all : SettledDueIsAll
settled_due_is_all want limit name ts input is e begins =
    let stays = stays_settled want declarations_allowed ts begins.0 e in
    let settled : is_settled want declarations_allowed (stream_of limit input).tokens ≡ true = rw begins.1 stays.0 in
    (run_written want limit name input is.1).2 settled
    ∙ ap (due want declarations_allowed) begins.1 ∙ stays.1

pub due_is_all_that_is_known : DueIsAllThatIsKnown
due_is_all_that_is_known want limit name f text is short = (to, back)
  where
    to : ((input : Input) → BeginsWith limit input (first_tokens f) → IsPrefixOf text (run_of want limit name input).output)
        → IsPrefixOf text (due want declarations_allowed (first_tokens f))
    to known =
        let two = two_ends limit f short in
        let ts = first_tokens f in
        let own : (stream_of limit two.failed).tokens ≡ ts = ap (λ (s : Stream). s.tokens) two.fails in
        let halted : (stream_of limit two.failed).halt ≢ None = λ none. let failed = ap (λ (s : Stream). s.halt) two.fails in cc in
        let left = due_is_left_at_a_halt want limit name two.failed is halted in
        subst (λ (l : List ℕ). IsPrefixOf text l) (left ∙ ap (due want declarations_allowed) own)
        (known two.failed ([], own ∙ sym (append-nil ts)))

    back : IsPrefixOf text (due want declarations_allowed (first_tokens f))
        → (input : Input) → BeginsWith limit input (first_tokens f) → IsPrefixOf text (run_of want limit name input).output
    back begins input starts =
        longer_text _ _ _ begins (due_is_never_revised want limit name (first_tokens f) input is starts)
