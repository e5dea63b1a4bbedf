-- What does not settle a merge: inputs that end with these tokens end otherwise than those that
-- fail there.
use Rattle.vcd_laws.proofs.Cited.{◌≡◌, ◌≢◌, ℕ, ◌+◌, ◌<◌, ◌≤◌, ◌==◌, Bool, true, false, cond, ◌||◌, is_some, List, [], ◌∷◌, ◌++◌, length, map, find, fold, filter_map, unwrap_or, Option, Some, None, option_map, Result, Ok, Err, ◌⊎◌, inl, inr, refl, sym, ap, ◌∙◌, subst, arith, AllByRecursion, reduce, before_first, cons_option, cases_lt, eqb-true, length_push, each_after, Check, first_failed, Token, Stream, stream_of, IdCode, BodyItem, Keyword, BodyPhrase, Start, start_of, items_of, command_checks, start_checks, inner_checks, body_grammar, Fault, Placed, phrases_of, Ending, Reading, read_from, AtFault, AtEnd, AtLast, Input, Header, header_of, header_grammar, body_fault_of, missing, Dump, Key, KeyedFault, factor, placed_is_too_large, key_lt, key_after, keyed_fault, earlier_fault, headers_of, Outcome, Opened, fault_outcome, name_at, allowed_after, with_opened, dumps_of, merge_outcome, Want, Seen, SeenBody, SeenHeaders, tokens_seen, whole_of, header_ends, seen_before, seen_at, headers_seen, fault_met, fault_seen, dump_seen, is_at_its_end, are_past, bodies_settle, settles_merge, Faulty, NotWhole, Whole, CanBeSeen, IsSeen, AreSeen, UnsettledMergeIsOpen, mark_or, Before, before_key, not_behind, key_chain, key_never, key_trans, faults_rest, faults_are, first_all, with_fault, without_fault, at_token, token_step}
use Rattle.std.proofs.Common.{append-nil, append_assoc}
use Rattle.vcd_model.specs.BodyChecks.{body_fault}
use Rattle.vcd_model.specs.BodyReading.{read_body}
use Rattle.vcd_model.specs.Reading.{reading_of}
use Rattle.vcd_model.specs.Merge.{dump_of, first_fault}
use Rattle.vcd_model.specs.Outcome.{open_from, body_of}
use Rattle.vcd_model.specs.Job.{request_of}
use Rattle.vcd_model.specs.SettledMerge.{is_settled_merge}
use Rattle.vcd_laws.proofs.Settling.{at_fault, opened_at, run_over, run_is, dump_in, dumps_in}
use Rattle.vcd_laws.proofs.SettlingMerge.{dump_with, dump_is, seen_headers, opens_missing, opens_whole}
use Rattle.vcd_laws.proofs.Unsettled.{OpenFault, open_fault, not_failed, not_last, two_ends}

-- ---- the numbers of faults

-- a fault that is no failed read
abbrev IsOther : ℕ → Type 0
IsOther n = (n == 31) ≡ false

failed_other : (cs : List Check) → AllByRecursion (λ c. IsOther c.fault) cs → (n : ℕ) → first_failed cs ≡ Some n → IsOther n
failed_other [] all n e = cc
failed_other (c ∷ cs) all n e = by_test c.holds (failed_other cs all.1 n) e
  where
    by_test : (b : Bool) → (first_failed cs ≡ Some n → IsOther n) → cond b (first_failed cs) (Some c.fault) ≡ Some n → IsOther n
    by_test true more e = more e
    by_test false more e = let same : c.fault ≡ n = cc in subst IsOther same all.0

command_other : (earlier : List BodyItem) (k : Keyword) → AllByRecursion (λ c. IsOther c.fault) (command_checks earlier k)
command_other earlier Keyword.Comment = tt
command_other earlier Keyword.DumpAll = (refl, tt)
command_other earlier Keyword.DumpOff = (refl, tt)
command_other earlier Keyword.DumpOn = (refl, tt)
command_other earlier Keyword.DumpVars = (refl, tt)
command_other earlier Keyword.End = (refl, tt)
command_other earlier Keyword.Date = (refl, tt)
command_other earlier Keyword.EndDefinitions = (refl, tt)
command_other earlier Keyword.Scope = (refl, tt)
command_other earlier Keyword.Timescale = (refl, tt)
command_other earlier Keyword.Upscope = (refl, tt)
command_other earlier Keyword.Var = (refl, tt)
command_other earlier Keyword.Version = (refl, tt)

start_other : (codes : List IdCode) (earlier : List BodyItem) (s : Start) → AllByRecursion (λ c. IsOther c.fault) (start_checks codes earlier s)
start_other codes earlier (Start.Command k) = command_other earlier k
start_other codes earlier (Start.Mark digits) = (refl, (refl, (refl, tt)))
start_other codes earlier (Start.Digit digit code) = (refl, (refl, tt))
start_other codes earlier (Start.Digits digits) = (refl, tt)
start_other codes earlier (Start.Number text) = (refl, (refl, tt))
start_other codes earlier Start.Other = (refl, tt)

inner_other : (codes : List IdCode) (s : Start) (t : List ℕ) → AllByRecursion (λ c. IsOther c.fault) (inner_checks codes s t)
inner_other codes (Start.Command k) t = tt
inner_other codes (Start.Mark digits) t = tt
inner_other codes (Start.Digit digit code) t = tt
inner_other codes (Start.Digits digits) t = (refl, (refl, tt))
inner_other codes (Start.Number text) t = (refl, tt)
inner_other codes Start.Other t = tt

fault_other : (codes : List IdCode) (earlier : List BodyPhrase) (before : List (List ℕ)) (t : List ℕ) (n : ℕ)
    → body_fault codes earlier before t ≡ Some n → IsOther n
unfolding body_fault
fault_other codes earlier [] t n e = failed_other (start_checks codes (items_of earlier) (start_of t)) (start_other codes (items_of earlier) (start_of t)) n e
fault_other codes earlier (first ∷ before) t n e = failed_other (inner_checks codes (start_of first) t) (inner_other codes (start_of first) t) n e

abbrev OtherFaults : List IdCode → List Token → Type 0
OtherFaults codes ts = (placed : List (Placed BodyPhrase)) (before : List (List ℕ)) (f : Fault)
    → (read_from (body_grammar codes) placed before ts).ending ≡ AtFault f → IsOther f.number

other_token : (codes : List IdCode) (t : Token) (ts : List Token) → OtherFaults codes ts
    → (placed : List (Placed BodyPhrase)) (before : List (List ℕ)) (o : Option ℕ)
    (q : Option BodyPhrase) (f : Fault) → body_fault codes (phrases_of placed) before t.bytes ≡ o
    → (at_token (body_grammar codes) placed before t ts o q).ending ≡ AtFault f → IsOther f.number
other_token codes t ts more placed before (Some n) q f e h =
    let same : record { number = n; line = t.line } ≡ f = cc in
    subst (λ (g : Fault). IsOther g.number) same (fault_other codes (phrases_of placed) before t.bytes n e)
other_token codes t ts more placed before None None f e h = more placed (before ++ t.bytes ∷ []) f h
other_token codes t ts more placed before None (Some p) f e h =
    more (placed ++ record { phrase = p; line = t.line } ∷ []) [] f h

other_faults : (codes : List IdCode) (ts : List Token) → OtherFaults codes ts
other_faults codes [] placed before f h = cc
other_faults codes (t ∷ ts) placed before f h =
    let g = body_grammar codes in
    let o = g.fault (phrases_of placed) before t.bytes in
    let q = g.phrase (before ++ t.bytes ∷ []) in
    other_token codes t ts (other_faults codes ts) placed before o q f refl
    (sym (ap (λ (r : Reading BodyPhrase). r.ending) (token_step g placed before t ts o q refl refl)) ∙ h)

-- ---- one input

-- an input that has no more tokens than are known: its dump is the known one, and no failed read
abbrev IsEnded : SeenBody → Dump → Dump → Type 0
IsEnded s d d' = (d' ≡ d) × (is_at_its_end s d ≡ true) × ((x : Fault) → d.fault ≡ Some x → IsOther x.number)

-- or its dump has the known items, and a fault where a token is missing
abbrev IsOpen : Option ℕ → SeenBody → Dump → Dump → Type 0
IsOpen w s d d' = (is_at_its_end s d ≡ false) × (d.fault ≡ None) × (d'.header ≡ d.header) × (d'.items ≡ d.items)
    × ((u : Stream) × (u.halt ≡ w) × OpenFault u d'.fault)

abbrev EndsOr : Option ℕ → SeenBody → Dump → Dump → Type 0
EndsOr w s d d' = IsEnded s d d' ⊎ IsOpen w s d d'

or_true : (b : Bool) → (b || true) ≡ true
or_true true = refl
or_true false = refl

-- a known fault ends an input
fault_ends : (s : SeenBody) (d : Dump) (x : Fault) → d.fault ≡ Some x → is_at_its_end s d ≡ true
fault_ends s d x e = ap (λ (o : Option Fault). is_some s.whole || is_some o) e ∙ or_true (is_some s.whole)

only_fault : (o : Option Fault) (x y : Fault) → o ≡ Some x → IsOther x.number → o ≡ Some y → IsOther y.number
only_fault o x y e other f = let same : x ≡ y = cc in subst (λ (z : Fault). IsOther z.number) same other

not_31 : (n : ℕ) → n ≢ 31 → IsOther n
not_31 n h = by_test (n == 31) refl
  where
    by_test : (b : Bool) → (n == 31) ≡ b → b ≡ false
    by_test true e = absurd (h (eqb-true n 31 e))
    by_test false e = refl

missing_other : (u : Stream) → u.halt ≢ Some 31 → IsOther (missing u).number
missing_other u h = by_halt u.halt refl
  where
    by_halt : (x : Option ℕ) → u.halt ≡ x → IsOther (unwrap_or x 2)
    by_halt None e = refl
    by_halt (Some n) e = not_31 n (λ same. h (e ∙ ap (λ m. Some m) same))

-- the fault of a body whose source did not fail
own_other : (codes : List IdCode) (u : Stream) (rest : List Token) (x : Fault) → u.halt ≢ Some 31
    → body_fault_of u (read_body codes rest) ≡ Some x → IsOther x.number
unfolding read_body reading_of
own_other codes u rest x h e = by_ending (read_body codes rest).ending refl
  where
    by_fault : OpenFault u (body_fault_of u (read_body codes rest)) → IsOther x.number
    by_fault (inl f) = only_fault (body_fault_of u (read_body codes rest)) (missing u) x f (missing_other u h) e
    by_fault (inr f) = let g = sym f.0 ∙ e in cc

    by_ending : (y : Ending) → (read_body codes rest).ending ≡ y → IsOther x.number
    by_ending (AtFault g) f = only_fault (body_fault_of u (read_body codes rest)) g x (at_fault u (read_body codes rest) g f) (other_faults codes rest [] [] g f) e
    by_ending AtEnd f = by_fault (open_fault u (read_body codes rest) f)
    by_ending AtLast f = absurd (not_last codes rest [] [] f)

-- the fault of a dump
dump_other : (scale : ℕ) (h : Header) (own : Option Fault) (ps : List (Placed BodyPhrase))
    → ((x : Fault) → own ≡ Some x → IsOther x.number) → (x : Fault) → (dump_with scale h own ps).fault ≡ Some x → IsOther x.number
dump_other scale h own ps other x e = by_mark (find (placed_is_too_large scale) ps) refl
  where
    by_mark : (o : Option (Placed BodyPhrase)) → find (placed_is_too_large scale) ps ≡ o → IsOther x.number
    by_mark None f = other x (sym (ap (mark_or own) f) ∙ e)
    by_mark (Some p) f = only_fault (mark_or own (find (placed_is_too_large scale) ps)) (record { number = 20; line = p.line }) x (ap (mark_or own) f) refl e

-- what is known as first tokens
first_ends : (scale : ℕ) (s : SeenBody) (u : Stream) → s.whole ≡ None
    → EndsOr u.halt s (dump_with scale s.header (fault_met (read_body s.header.codes s.rest).ending) (read_body s.header.codes s.rest).placed)
    (dump_with scale s.header (body_fault_of u (read_body s.header.codes s.rest)) (read_body s.header.codes s.rest).placed)
unfolding read_body reading_of
first_ends scale s u first = by_mark (find (placed_is_too_large scale) (read_body s.header.codes s.rest).placed) refl
  where
    r : Reading BodyPhrase
    r = read_body s.header.codes s.rest

    by_ending : (x : Ending) → (read_body s.header.codes s.rest).ending ≡ x → find (placed_is_too_large scale) (read_body s.header.codes s.rest).placed ≡ None
        → EndsOr u.halt s (dump_with scale s.header (fault_met (read_body s.header.codes s.rest).ending) (read_body s.header.codes s.rest).placed)
        (dump_with scale s.header (body_fault_of u (read_body s.header.codes s.rest)) (read_body s.header.codes s.rest).placed)
    by_ending (AtFault g) e none =
        let r = read_body s.header.codes s.rest in
        let own : body_fault_of u r ≡ fault_met r.ending = at_fault u r g e ∙ sym (ap fault_met e) in
        let fault : (dump_with scale s.header (fault_met r.ending) r.placed).fault ≡ Some g = ap (mark_or (fault_met r.ending)) none ∙ ap fault_met e in
        inl (
          ap (λ (o : Option Fault). dump_with scale s.header o r.placed) own,
          fault_ends s (dump_with scale s.header (fault_met r.ending) r.placed) g fault,
          λ x f. only_fault (dump_with scale s.header (fault_met r.ending) r.placed).fault g x fault (other_faults s.header.codes s.rest [] [] g e) f,
        )
    by_ending AtEnd e none =
        let r = read_body s.header.codes s.rest in
        let fault : (dump_with scale s.header (fault_met r.ending) r.placed).fault ≡ None = ap (mark_or (fault_met r.ending)) none ∙ ap fault_met e in
        inr (
          ap (λ (w : Option Stream). is_some w || is_some (dump_with scale s.header (fault_met r.ending) r.placed).fault) first ∙ ap is_some fault,
          fault,
          refl,
          refl,
          (u, refl, subst (OpenFault u) (sym (ap (mark_or (body_fault_of u r)) none)) (open_fault u r e)),
        )
    by_ending AtLast e none = absurd (not_last s.header.codes s.rest [] [] e)

    by_mark : (o : Option (Placed BodyPhrase)) → find (placed_is_too_large scale) (read_body s.header.codes s.rest).placed ≡ o
        → EndsOr u.halt s (dump_with scale s.header (fault_met (read_body s.header.codes s.rest).ending) (read_body s.header.codes s.rest).placed)
        (dump_with scale s.header (body_fault_of u (read_body s.header.codes s.rest)) (read_body s.header.codes s.rest).placed)
    by_mark None e = by_ending (read_body s.header.codes s.rest).ending refl e
    by_mark (Some p) e =
        let r = read_body s.header.codes s.rest in
        let items = items_of (phrases_of (before_first (placed_is_too_large scale) r.placed)) in
        let marked : (own : Option Fault) → mark_or own (find (placed_is_too_large scale) r.placed) ≡ Some (record { number = 20; line = p.line })
        = λ own. ap (mark_or own) e in
        let fault = marked (fault_met r.ending) in
        inl (
          ap (λ (o : Option Fault). record { header = s.header; items = items; fault = o }) (marked (body_fault_of u r) ∙ sym fault),
          fault_ends s (dump_with scale s.header (fault_met r.ending) r.placed) (record { number = 20; line = p.line }) fault,
          λ x f. only_fault (dump_with scale s.header (fault_met r.ending) r.placed).fault (record { number = 20; line = p.line }) x fault refl f,
        )

-- an opened input that has just the known tokens, and halts so if its source may continue
abbrev Halts : Option ℕ → Option Stream → Opened → Type 0
Halts w None o = o.stream.halt ≡ w
Halts w (Some stream) o = (o.stream ≡ stream) × (stream.halt ≢ Some 31)

record IsExact (w : Option ℕ) (s : SeenBody) (o : Opened) : Type 0 where
  header : o.header ≡ s.header
  rest : o.rest ≡ s.rest
  halt : Halts w s.whole o

exact_ends : (w : Option ℕ) (hs : List Header) (s : SeenBody) (o : Opened) → IsExact w s o → EndsOr w s (dump_seen hs s) (dump_in hs o)
unfolding body_of
exact_ends w hs s o is =
    let r = read_body s.header.codes s.rest in
    let scale = factor hs s.header in
    let there : dump_in hs o ≡ dump_with scale s.header (body_fault_of o.stream r) r.placed =
    ap (λ (k : Header). dump_in hs (opened_at k o.stream o.rest)) is.header
    ∙ ap (λ (l : List Token). dump_in hs (opened_at s.header o.stream l)) is.rest
    ∙ dump_is scale s.header (body_fault_of o.stream r) r in
    subst (EndsOr w s (dump_seen hs s)) (sym there) (by_whole s.whole refl is.halt)
  where
    by_whole : (x : Option Stream) → s.whole ≡ x → Halts w x o
        → EndsOr w s (dump_seen hs s) (dump_with (factor hs s.header) s.header (body_fault_of o.stream (read_body s.header.codes s.rest)) (read_body s.header.codes s.rest).placed)
    by_whole None e halt =
        let r = read_body s.header.codes s.rest in
        let scale = factor hs s.header in
        let here : dump_seen hs s ≡ dump_with scale s.header (fault_met r.ending) r.placed =
        ap (λ (x : Option Stream). dump_of scale s.header (fault_seen x r) r) e ∙ dump_is scale s.header (fault_met r.ending) r in
        subst (λ (x : Option ℕ). EndsOr x s (dump_seen hs s) (dump_with scale s.header (body_fault_of o.stream r) r.placed)) halt
        (subst (λ (d : Dump). EndsOr o.stream.halt s d (dump_with scale s.header (body_fault_of o.stream r) r.placed)) (sym here) (first_ends scale s o.stream e))
    by_whole (Some stream) e (same, halt) =
        let r = read_body s.header.codes s.rest in
        let scale = factor hs s.header in
        let here : dump_seen hs s ≡ dump_with scale s.header (body_fault_of stream r) r.placed =
        ap (λ (x : Option Stream). dump_of scale s.header (fault_seen x r) r) e ∙ dump_is scale s.header (body_fault_of stream r) r in
        inl (
          ap (λ (u : Stream). dump_with scale s.header (body_fault_of u r) r.placed) same ∙ sym here,
          ap (λ (x : Option Stream). is_some x || is_some (dump_seen hs s).fault) e,
          λ x f. dump_other scale s.header (body_fault_of stream r) r.placed (λ y g. own_other s.header.codes stream s.rest y halt g) x
              (sym (ap (λ (d : Dump). d.fault) here) ∙ f),
        )

-- ---- all inputs

abbrev AllExact : Option ℕ → List SeenBody → List Opened → Type 0
AllExact w [] [] = Unit {0}
AllExact w [] (o ∷ os) = ⊥
AllExact w (s ∷ ss) [] = ⊥
AllExact w (s ∷ ss) (o ∷ os) = IsExact w s o × AllExact w ss os

-- these are their dumps, among inputs with these headers
abbrev AllEnd : Option ℕ → List Header → List SeenBody → List Dump → Type 0
AllEnd w hs [] [] = Unit {0}
AllEnd w hs [] (d' ∷ ds') = ⊥
AllEnd w hs (s ∷ ss) [] = ⊥
AllEnd w hs (s ∷ ss) (d' ∷ ds') = EndsOr w s (dump_seen hs s) d' × AllEnd w hs ss ds'

all_end : (w : Option ℕ) (hs : List Header) (ss : List SeenBody) (os : List Opened) → AllExact w ss os
    → AllEnd w hs ss (map (dump_in hs) os)
all_end w hs [] [] all = tt
all_end w hs [] (o ∷ os) all = absurd all
all_end w hs (s ∷ ss) [] all = absurd all
all_end w hs (s ∷ ss) (o ∷ os) all = (exact_ends w hs s o all.0, all_end w hs ss os all.1)

-- a fault with its key before others
abbrev with_key : Key → Option Fault → List KeyedFault → List KeyedFault
with_key k o gs = cons_option (option_map (λ f. record { key = k; fault = f }) o) gs

-- what holds of them holds of the others
with_key_others : (P : KeyedFault → Type 0) (k : Key) (o : Option Fault) (gs : List KeyedFault)
    → AllByRecursion P (with_key k o gs) → AllByRecursion P gs
with_key_others P k None gs h = h
with_key_others P k (Some x) gs h = h.1

-- ---- inputs that end

-- no fault is a failed read
ended_other : (hs : List Header) (n : ℕ) (ss : List SeenBody) (ds' : List Dump) → AllEnd None hs ss ds'
    → AllByRecursion (λ g. IsOther g.fault.number) (faults_rest hs n ds')
ended_other hs n [] [] all = tt
ended_other hs n [] (d' ∷ ds') all = absurd all
ended_other hs n (s ∷ ss) [] all = absurd all
ended_other hs n (s ∷ ss) (d' ∷ ds') all =
    by_fault d'.fault (key_after (factor hs d'.header) n d'.items) (by_case all.0) (ended_other hs (n + 1) ss ds' all.1)
  where
    by_fault : (o : Option Fault) (k : Key) → ((x : Fault) → o ≡ Some x → IsOther x.number)
        → AllByRecursion (λ g. IsOther g.fault.number) (faults_rest hs (n + 1) ds')
        → AllByRecursion (λ g. IsOther g.fault.number) (with_key k o (faults_rest hs (n + 1) ds'))
    by_fault None k h more = more
    by_fault (Some x) k h more = (h x refl, more)

    by_missing : (u : Stream) → u.halt ≡ None → OpenFault u d'.fault → (x : Fault) → d'.fault ≡ Some x → IsOther x.number
    by_missing u none (inl e) x f = only_fault d'.fault (missing u) x e (missing_other u (λ same. let g = sym none ∙ same in cc)) f
    by_missing u none (inr e) x f = let g = sym e.0 ∙ f in cc

    by_case : EndsOr None s (dump_seen hs s) d' → (x : Fault) → d'.fault ≡ Some x → IsOther x.number
    by_case (inl (same, ends, other)) x f = other x (sym (ap (λ (c : Dump). c.fault) same) ∙ f)
    by_case (inr (ends, none, h, i, (u, w, lacks))) x f = by_missing u w lacks x f

pub faults_of : (hs : List Header) (ds : List Dump) → headers_of ds ≡ hs → first_fault ds ≡ reduce earlier_fault (faults_rest hs 0 ds)
unfolding first_fault
faults_of hs ds e =
    ap (λ (h : List Header). reduce earlier_fault (filter_map (λ o. o) (each_after (keyed_fault h) [] ds))) e
    ∙ ap (reduce earlier_fault) (faults_are hs [] ds)

other_status : (output name : List ℕ) (f : Fault) → IsOther f.number → (fault_outcome output name f).status ≡ 1
other_status output name f e = rw (e, fault_outcome) refl

failed_status : (output name : List ℕ) (f : Fault) → (f.number == 31) ≡ true → (fault_outcome output name f).status ≡ 3
failed_status output name f e = rw (e, fault_outcome) refl

ended_status : (names : List (List ℕ)) (hs : List Header) (ss : List SeenBody) (ds' : List Dump) → headers_of ds' ≡ hs → AllEnd None hs ss ds'
    → (merge_outcome names ds').status ≢ 3
ended_status names hs ss ds' headers all = by_first (first_fault ds') refl
  where
    by_first : (o : Option KeyedFault) → first_fault ds' ≡ o → (merge_outcome names ds').status ≢ 3
    by_first None e h =
        let s : (merge_outcome names ds').status ≡ 0 = ap (λ (d : Outcome). d.status) (without_fault names ds' e) in cc
    by_first (Some f) e h =
        let other = first_all (λ g. IsOther g.fault.number) (faults_rest hs 0 ds') f (sym (faults_of hs ds' headers) ∙ e) (ended_other hs 0 ss ds' all) in
        let s : (merge_outcome names ds').status ≡ 1 = ap (λ (d : Outcome). d.status) (with_fault names ds' f e) ∙ other_status _ _ f.fault other in cc

-- ---- the least fault

never_before : (a : Key) → key_lt a a ≡ false
never_before a = by_test (key_lt a a) refl
  where
    by_test : (b : Bool) → key_lt a a ≡ b → b ≡ false
    by_test true e = let n = key_never a a e in cc
    by_test false e = refl

least_of : (a : KeyedFault) (ys : List KeyedFault) (g : KeyedFault) → fold earlier_fault a ys ≡ g
    → (key_lt a.key g.key ≡ false) × AllByRecursion (λ y. key_lt y.key g.key ≡ false) ys
least_of a [] g e = (subst (λ (x : KeyedFault). key_lt a.key x.key ≡ false) e (never_before a.key), tt)
least_of a (y ∷ ys) g e =
    let m = least_of (earlier_fault a y) ys g e in
    let both = by_test (key_lt y.key a.key) refl m.0 in
    (both.0, (both.1, m.1))
  where
    not_chain : (x z : Key) → key_lt x z ≡ true → key_lt x g.key ≡ false → key_lt z g.key ≡ false
    not_chain x z h n = by_other (key_lt z g.key) refl
      where
        by_other : (b : Bool) → key_lt z g.key ≡ b → b ≡ false
        by_other true f = let c = key_chain x z g.key h f in cc
        by_other false f = refl

    not_trans : (x z : Key) → key_lt x z ≡ false → key_lt z g.key ≡ false → key_lt x g.key ≡ false
    not_trans x z h n = by_other (key_lt x g.key) refl
      where
        by_other : (b : Bool) → key_lt x g.key ≡ b → b ≡ false
        by_other true f = let c = key_trans x g.key z f n in cc
        by_other false f = refl

    by_test : (b : Bool) → key_lt y.key a.key ≡ b → key_lt (cond b y a).key g.key ≡ false
        → (key_lt a.key g.key ≡ false) × (key_lt y.key g.key ≡ false)
    by_test true h n = (not_chain y.key a.key h n, n)
    by_test false h n = (n, not_trans y.key a.key h n)

pub least : (ys : List KeyedFault) (g : KeyedFault) → reduce earlier_fault ys ≡ Some g
    → AllByRecursion (λ y. key_lt y.key g.key ≡ false) ys
least [] g e = tt
least (y ∷ ys) g e = let same : fold earlier_fault y ys ≡ g = cc in let m = least_of y ys g same in (m.0, m.1)

-- of two inputs one comes before the other
strict : (a b : Key) → key_lt a b ≡ false → a.input ≢ b.input → key_lt b a ≡ true
strict a b h other = before_key b a (by_time (cases_lt b.time a.time))
  where
    by_input : b.time ≡ a.time → (b.input < a.input) ⊎ (a.input ≤ b.input) → Before b a
    by_input e (inl l) = inr (e, inl l)
    by_input e (inr l) = let n = not_behind a b h in let i = n.input e in absurd (other (omega arith))

    by_time : (b.time < a.time) ⊎ (a.time ≤ b.time) → Before b a
    by_time (inl l) = inl l
    by_time (inr l) = let n = not_behind a b h in let t = n.time in let e : b.time ≡ a.time = omega arith in by_input e (cases_lt b.input a.input)

-- what is after what is not before f is after f
after_both : (f g k : Key) → key_lt g f ≡ false → key_lt g k ≡ true → key_lt f k ≡ true
after_both f g k n h = by_test (key_lt f k) refl
  where
    by_test : (b : Bool) → key_lt f k ≡ b → b ≡ true
    by_test true e = refl
    by_test false e = let c = key_trans g k f h e in cc

-- ---- inputs that fail

-- input number i is none of those, from number k on, of which more may come
abbrev NotOf : ℕ → ℕ → List Header → List SeenBody → Type 0
NotOf i k hs [] = Unit {0}
NotOf i k hs (s ∷ ss) = (is_at_its_end s (dump_seen hs s) ≡ false → i ≢ k) × NotOf i (k + 1) hs ss

not_below : (i k : ℕ) (hs : List Header) (ss : List SeenBody) → i < k → NotOf i k hs ss
not_below i k hs [] h = tt
not_below i k hs (s ∷ ss) h = (λ none e. absurd (omega arith), not_below i (k + 1) hs ss (omega arith))

not_here : (i k : ℕ) (hs : List Header) (ts : List SeenBody) (s : SeenBody) (ss : List SeenBody) → k + length ts ≡ i
    → is_at_its_end s (dump_seen hs s) ≡ true → NotOf i k hs (ts ++ s ∷ ss)
not_here i k hs [] s ss e f = (λ none same. let g = sym none ∙ f in cc, not_below i (k + 1) hs ss (omega arith))
not_here i k hs (t ∷ ts) s ss e f = (λ none same. absurd (omega arith), not_here i (k + 1) hs ts s ss (omega arith) f)

-- the fault of an input that fails is a failed read, or one that is known
abbrev FailedOr : (KeyedFault → Type 0) → List Header → List SeenBody → KeyedFault → Type 0
FailedOr R hs ss g = ((g.fault.number == 31) ≡ true) ⊎ (NotOf g.key.input 0 hs ss × R g)

failed_missing : (u : Stream) (o : Option Fault) → u.halt ≡ Some 31 → OpenFault u o → o ≡ Some (missing u)
failed_missing u o e (inl h) = h
failed_missing u o e (inr h) = absurd (not_failed u.halt h.1 e)

failed_or : (R : KeyedFault → Type 0) (hs : List Header) (done ss : List SeenBody) (ds' : List Dump) (n : ℕ) → n ≡ length done
    → AllEnd (Some 31) hs ss ds' → AllByRecursion R (faults_rest hs n (map (dump_seen hs) ss))
    → AllByRecursion (FailedOr R hs (done ++ ss)) (faults_rest hs n ds')
failed_or R hs done [] [] n e all r = tt
failed_or R hs done [] (d' ∷ ds') n e all r = absurd all
failed_or R hs done (s ∷ ss) [] n e all r = absurd all
failed_or R hs done (s ∷ ss) (d' ∷ ds') n e all r =
    let others = faults_rest hs (n + 1) (map (dump_seen hs) ss) in
    let tail = with_key_others R (key_after (factor hs (dump_seen hs s).header) n (dump_seen hs s).items) (dump_seen hs s).fault others r in
    by_case all.0 (subst (λ (l : List SeenBody). AllByRecursion (FailedOr R hs l) (faults_rest hs (n + 1) ds')) (append_assoc done (s ∷ []) ss)
    (failed_or R hs (done ++ s ∷ []) ss ds' (n + 1) (omega (arith, length_push done s)) all.1 tail))
  where
    by_known : (o : Option Fault) (k : Key) → k.input ≡ n → is_at_its_end s (dump_seen hs s) ≡ true
        → AllByRecursion R (with_key k o (faults_rest hs (n + 1) (map (dump_seen hs) ss)))
        → AllByRecursion (FailedOr R hs (done ++ s ∷ ss)) (faults_rest hs (n + 1) ds')
        → AllByRecursion (FailedOr R hs (done ++ s ∷ ss)) (with_key k o (faults_rest hs (n + 1) ds'))
    by_known None k i f r more = more
    by_known (Some x) k i f r more = (inr (not_here k.input 0 hs done s ss (omega arith) f, r.0), more)

    by_case : EndsOr (Some 31) s (dump_seen hs s) d' → AllByRecursion (FailedOr R hs (done ++ s ∷ ss)) (faults_rest hs (n + 1) ds')
        → AllByRecursion (FailedOr R hs (done ++ s ∷ ss)) (faults_rest hs n (d' ∷ ds'))
    by_case (inl (same, ends, other)) more =
        subst (λ (c : Dump). AllByRecursion (FailedOr R hs (done ++ s ∷ ss)) (faults_rest hs n (c ∷ ds'))) (sym same)
        (by_known (dump_seen hs s).fault (key_after (factor hs (dump_seen hs s).header) n (dump_seen hs s).items) refl ends r more)
    by_case (inr (ends, none, h, i, (u, w, lacks))) more =
        let number : (missing u).number ≡ 31 = ap (λ (x : Option ℕ). unwrap_or x 2) w in
        subst (λ (o : Option Fault). AllByRecursion (FailedOr R hs (done ++ s ∷ ss))
        (with_key (key_after (factor hs d'.header) n d'.items) o (faults_rest hs (n + 1) ds'))) (sym (failed_missing u d'.fault w lacks))
        (inl (rw number refl), more)

-- if the least fault is known, all that may continue are past it
past_known : (f g : KeyedFault) (hs : List Header) (n : ℕ) (ss : List SeenBody) (ds' : List Dump)
    → AllEnd (Some 31) hs ss ds' → key_lt g.key f.key ≡ false
    → NotOf g.key.input n hs ss
    → AllByRecursion (λ y. key_lt y.key g.key ≡ false) (faults_rest hs n ds')
    → are_past (Some f) hs n ss ≡ true
past_known f g hs n [] [] all le not low = refl
past_known f g hs n [] (d' ∷ ds') all le not low = absurd all
past_known f g hs n (s ∷ ss) [] all le not low = absurd all
past_known f g hs n (s ∷ ss) (d' ∷ ds') all le not low =
    let P = λ (y : KeyedFault). key_lt y.key g.key ≡ false in
    let tail = with_key_others P (key_after (factor hs d'.header) n d'.items) d'.fault (faults_rest hs (n + 1) ds') low in
    by_case all.0 (past_known f g hs (n + 1) ss ds' all.1 le not.1 tail)
  where
    by_case : EndsOr (Some 31) s (dump_seen hs s) d' → are_past (Some f) hs (n + 1) ss ≡ true
        → are_past (Some f) hs n (s ∷ ss) ≡ true
    by_case (inl (same, ends, other)) more = rw (ends, more) refl
    by_case (inr (ends, none, h, i, (u, w, lacks))) more =
        let lows : AllByRecursion (λ y. key_lt y.key g.key ≡ false) (with_key (key_after (factor hs d'.header) n d'.items) (Some (missing u)) (faults_rest hs (n + 1) ds'))
        = subst (λ (o : Option Fault). AllByRecursion (λ y. key_lt y.key g.key ≡ false)
        (with_key (key_after (factor hs d'.header) n d'.items) o (faults_rest hs (n + 1) ds'))) (failed_missing u d'.fault w lacks) low in
        let own : key_lt (key_after (factor hs (dump_seen hs s).header) n (dump_seen hs s).items) g.key ≡ false
        = ap (λ (k : Header). key_lt (key_after (factor hs k) n (dump_seen hs s).items) g.key) (sym h)
        ∙ ap (λ (l : List BodyItem). key_lt (key_after (factor hs d'.header) n l) g.key) (sym i) ∙ lows.0 in
        let past = after_both f.key g.key (key_after (factor hs (dump_seen hs s).header) n (dump_seen hs s).items) le
        (strict (key_after (factor hs (dump_seen hs s).header) n (dump_seen hs s).items) g.key own (λ same. not.0 ends (sym same))) in
        rw (past, or_true (is_at_its_end s (dump_seen hs s)), more) refl

-- if there is no fault at all, no input continues
none_past : (x : Option KeyedFault) (hs : List Header) (n : ℕ) (ss : List SeenBody) (ds' : List Dump)
    → AllEnd (Some 31) hs ss ds' → faults_rest hs n ds' ≡ [] → are_past x hs n ss ≡ true
none_past x hs n [] [] all e = refl
none_past x hs n [] (d' ∷ ds') all e = absurd all
none_past x hs n (s ∷ ss) [] all e = absurd all
none_past x hs n (s ∷ ss) (d' ∷ ds') all e =
    by_case all.0 (none_past x hs (n + 1) ss ds' all.1 (others d'.fault (key_after (factor hs d'.header) n d'.items) e))
  where
    others : (o : Option Fault) (k : Key) → with_key k o (faults_rest hs (n + 1) ds') ≡ [] → faults_rest hs (n + 1) ds' ≡ []
    others None k e = e
    others (Some f) k e = cc

    by_case : EndsOr (Some 31) s (dump_seen hs s) d' → are_past x hs (n + 1) ss ≡ true → are_past x hs n (s ∷ ss) ≡ true
    by_case (inl (same, ends, other)) more = rw (ends, more) refl
    by_case (inr (ends, none, h, i, (u, w, lacks))) more =
        let g : with_key (key_after (factor hs d'.header) n d'.items) (Some (missing u)) (faults_rest hs (n + 1) ds') ≡ []
        = ap (λ (o : Option Fault). with_key (key_after (factor hs d'.header) n d'.items) o (faults_rest hs (n + 1) ds')) (sym (failed_missing u d'.fault w lacks)) ∙ e in cc

pub none_reduced : (xs : List KeyedFault) → reduce earlier_fault xs ≡ None → xs ≡ []
none_reduced [] e = refl
none_reduced (x ∷ xs) e = cc

-- what does not settle the bodies ends with a failed read
failed_bodies : (names : List (List ℕ)) (ss : List SeenBody) (ds' : List Dump)
    → AllEnd (Some 31) (map (λ s. s.header) ss) ss ds' → headers_of ds' ≡ map (λ s. s.header) ss
    → bodies_settle ss ≡ false → (merge_outcome names ds').status ≡ 3
failed_bodies names ss ds' all headers e = by_first (first_fault ds') refl
  where
    by_known : (g : KeyedFault) → first_fault ds' ≡ Some g
        → (x : Option KeyedFault) → first_fault (map (dump_seen (map (λ s. s.header) ss)) ss) ≡ x
        → are_past x (map (λ s. s.header) ss) 0 ss ≡ false → (g.fault.number == 31) ≡ true
    by_known g first None known e =
        let hs = map (λ (s : SeenBody). s.header) ss in
        let ds = map (dump_seen hs) ss in
        let none = none_reduced (faults_rest hs 0 ds) (sym (faults_of hs ds (seen_headers hs ss)) ∙ known) in
        let kinds = failed_or (λ g. ⊥) hs [] ss ds' 0 refl all (subst (AllByRecursion (λ g. ⊥)) (sym none) tt) in
        by_kind (first_all (FailedOr (λ g. ⊥) hs ss) (faults_rest hs 0 ds') g (sym (faults_of hs ds' headers) ∙ first) kinds)
      where
        by_kind : FailedOr (λ g. ⊥) (map (λ s. s.header) ss) ss g → (g.fault.number == 31) ≡ true
        by_kind (inl h) = h
        by_kind (inr h) = absurd h.1
    by_known g first (Some f) known e =
        let hs = map (λ (s : SeenBody). s.header) ss in
        let ds = map (dump_seen hs) ss in
        let low = least (faults_rest hs 0 ds) f (sym (faults_of hs ds (seen_headers hs ss)) ∙ known) in
        let kinds = failed_or (λ g. key_lt g.key f.key ≡ false) hs [] ss ds' 0 refl all low in
        by_kind (first_all (FailedOr (λ g. key_lt g.key f.key ≡ false) hs ss) (faults_rest hs 0 ds') g (sym (faults_of hs ds' headers) ∙ first) kinds)
      where
        by_kind : FailedOr (λ g. key_lt g.key f.key ≡ false) (map (λ s. s.header) ss) ss g → (g.fault.number == 31) ≡ true
        by_kind (inl h) = h
        by_kind (inr h) =
            let hs = map (λ (s : SeenBody). s.header) ss in
            let p = past_known f g hs 0 ss ds' all h.1 h.0 (least (faults_rest hs 0 ds') g (sym (faults_of hs ds' headers) ∙ first)) in cc

    by_first : (o : Option KeyedFault) → first_fault ds' ≡ o → (merge_outcome names ds').status ≡ 3
    by_first None first =
        let hs = map (λ (s : SeenBody). s.header) ss in
        let p = none_past (first_fault (map (dump_seen hs) ss)) hs 0 ss ds' all (none_reduced (faults_rest hs 0 ds') (sym (faults_of hs ds' headers) ∙ first)) in cc
    by_first (Some g) first =
        ap (λ (d : Outcome). d.status) (with_fault names ds' g first)
        ∙ failed_status _ _ g.fault (by_known g first (first_fault (map (dump_seen (map (λ s. s.header) ss)) ss)) refl e)

-- ---- headers

-- an input that gives what is known, and then ends so if its source may continue
abbrev Gives : Option ℕ → ℕ → Seen → Input → Type 0
Gives w limit (Seen.First ts) i = (line : ℕ) × (stream_of limit i ≡ record { tokens = ts; halt = w; line = line })
Gives w limit (Seen.All stream) i = (stream_of limit i ≡ stream) × (stream.halt ≢ Some 31)

abbrev AllGive : Option ℕ → ℕ → List Seen → List Input → Type 0
AllGive w limit [] [] = Unit {0}
AllGive w limit [] (i ∷ is) = ⊥
AllGive w limit (s ∷ ss) [] = ⊥
AllGive w limit (s ∷ ss) (i ∷ is) = Gives w limit s i × AllGive w limit ss is

gives_seen : (w : Option ℕ) (limit : ℕ) (s : Seen) (i : Input) → Gives w limit s i → IsSeen limit s i
gives_seen w limit (Seen.First ts) i (line, e) = ([], ap (λ (u : Stream). u.tokens) e ∙ sym (append-nil ts))
gives_seen w limit (Seen.All stream) i (e, halt) = e

all_seen : (w : Option ℕ) (limit : ℕ) (ss : List Seen) (is : List Input) → AllGive w limit ss is → AreSeen limit ss is
all_seen w limit [] [] all = tt
all_seen w limit [] (i ∷ is) all = absurd all
all_seen w limit (s ∷ ss) [] all = absurd all
all_seen w limit (s ∷ ss) (i ∷ is) all = (gives_seen w limit s i all.0, all_seen w limit ss is all.1)

abbrev OpenSo : Option ℕ → ℕ → List Header → List Input → SeenHeaders → Type 0
OpenSo w limit hs is Faulty = Unit {0}
OpenSo w limit hs is NotWhole = (e : ℕ) × (u : Stream) × (u.halt ≡ w) × (open_from limit hs is ≡ Err (e, missing u))
OpenSo w limit hs is (Whole ss) = (os : List Opened) × (open_from limit hs is ≡ Ok os) × AllExact w ss os

-- one input whose header is whole
one_exact : (w : Option ℕ) (limit : ℕ) (hs : List Header) (s : Seen) (i : Input) (is : List Input) → Gives w limit s i
    → (reading_of (header_grammar (allowed_after hs)) (tokens_seen s)).ending ≡ AtLast
    → (o : Opened) × IsExact w (record {
      header = header_of (phrases_of (reading_of (header_grammar (allowed_after hs)) (tokens_seen s)).placed);
      rest = (reading_of (header_grammar (allowed_after hs)) (tokens_seen s)).rest;
      whole = whole_of s;
    }) o
    × (open_from limit hs (i ∷ is) ≡ with_opened o (open_from limit (hs ++ header_of (phrases_of (reading_of (header_grammar (allowed_after hs)) (tokens_seen s)).placed) ∷ []) is))
one_exact w limit hs (Seen.First ts) i is (line, e) ending =
    let u : Stream = record { tokens = ts; halt = w; line = line } in
    let o = opens_whole limit hs (Seen.All u) i is e ending in
    let known = o.1 in
    let rest = known.rest in
    (o.0, record { header = known.header; rest = rest.0; halt = ap (λ (x : Stream). x.halt) rest.1 }, o.2)
one_exact w limit hs (Seen.All stream) i is (e, halt) ending =
    let o = opens_whole limit hs (Seen.All stream) i is e ending in
    let known = o.1 in
    let rest = known.rest in
    (o.0, record { header = known.header; rest = rest.0; halt = (rest.1, halt) }, o.2)

opens_so : (w : Option ℕ) (limit : ℕ) (hs : List Header) (ss : List Seen) (is : List Input) → AllGive w limit ss is
    → OpenSo w limit hs is (headers_seen hs ss)
unfolding open_from
opens_so w limit hs [] [] all = ([], refl, tt)
opens_so w limit hs [] (i ∷ is) all = absurd all
opens_so w limit hs (s ∷ ss) [] all = absurd all
opens_so w limit hs (s ∷ ss) (i ∷ is) all =
    let r = reading_of (header_grammar (allowed_after hs)) (tokens_seen s) in
    let h = header_of (phrases_of r.placed) in
    by_ending r.ending refl (headers_seen (hs ++ h ∷ []) ss) (opens_so w limit (hs ++ h ∷ []) ss is all.1)
  where
    by_others : (o : Opened) (one : SeenBody) (h : Header) → IsExact w one o
        → open_from limit hs (i ∷ is) ≡ with_opened o (open_from limit (hs ++ h ∷ []) is)
        → (others : SeenHeaders) → OpenSo w limit (hs ++ h ∷ []) is others → OpenSo w limit hs (i ∷ is) (seen_before one others)
    by_others o one h exact eo Faulty so = tt
    by_others o one h exact eo NotWhole (e, u, x, y) = (e, u, x, eo ∙ ap (with_opened o) y)
    by_others o one h exact eo (Whole qs) (os, x, y) = (o ∷ os, eo ∙ ap (with_opened o) x, (exact, y))

    by_seen : (t : Seen) → Gives w limit t i → (reading_of (header_grammar (allowed_after hs)) (tokens_seen t)).ending ≡ AtEnd
        → OpenSo w limit hs (i ∷ is) (header_ends (whole_of t))
    by_seen (Seen.First ts) (line, g) e =
        let u : Stream = record { tokens = ts; halt = w; line = line } in
        (length hs, u, refl, opens_missing limit hs u i is g e)
    by_seen (Seen.All stream) g e = tt

    by_ending : (x : Ending) → (reading_of (header_grammar (allowed_after hs)) (tokens_seen s)).ending ≡ x
        → (others : SeenHeaders)
        → OpenSo w limit (hs ++ header_of (phrases_of (reading_of (header_grammar (allowed_after hs)) (tokens_seen s)).placed) ∷ []) is others
        → OpenSo w limit hs (i ∷ is) (seen_at s (reading_of (header_grammar (allowed_after hs)) (tokens_seen s)) x others)
    by_ending (AtFault g) e others so = tt
    by_ending AtEnd e others so = by_seen s all.0 e
    by_ending AtLast e others so =
        let o = one_exact w limit hs s i is all.0 e in
        by_others o.0 _ _ o.1 o.2 others so

exact_headers : (w : Option ℕ) (ss : List SeenBody) (os : List Opened) → AllExact w ss os
    → map (λ (o : Opened). o.header) os ≡ map (λ (s : SeenBody). s.header) ss
exact_headers w [] [] all = refl
exact_headers w [] (o ∷ os) all = absurd all
exact_headers w (s ∷ ss) [] all = absurd all
exact_headers w (s ∷ ss) (o ∷ os) all =
    let h = all.0 in
    let e = h.header in
    rw (e, exact_headers w ss os all.1) refl

dump_headers : (hs : List Header) (os : List Opened) → headers_of (map (dump_in hs) os) ≡ map (λ (o : Opened). o.header) os
unfolding dump_of
dump_headers hs [] = refl
dump_headers hs (o ∷ os) = ap (λ l. o.header ∷ l) (dump_headers hs os)

dumps_of_exact : (w : Option ℕ) (ss : List SeenBody) (os : List Opened) → AllExact w ss os
    → dumps_of os ≡ map (dump_in (map (λ s. s.header) ss)) os
dumps_of_exact w ss os all = dumps_in os ∙ ap (λ (l : List Header). map (dump_in l) os) (exact_headers w ss os all)

-- ---- the law

-- two lists of inputs that give what is known: the sources of one end, those of the other fail
record BothGive (limit : ℕ) (ss : List Seen) : Type 0 where
  clean : List Input
  failed : List Input
  ends : AllGive None limit ss clean
  fails : AllGive (Some 31) limit ss failed

one_gives : (limit : ℕ) (s : Seen) → CanBeSeen limit s → (a : Input) × (b : Input) × Gives None limit s a × Gives (Some 31) limit s b
one_gives limit (Seen.First ts) (f, short, e) =
    let two = two_ends limit f short in (
      two.clean,
      two.failed,
      (two.line, two.ends ∙ ap (λ (l : List Token). record { tokens = l; halt = None; line = two.line }) (sym e)),
      (two.line, two.fails ∙ ap (λ (l : List Token). record { tokens = l; halt = Some 31; line = two.line }) (sym e)),
    )
one_gives limit (Seen.All stream) (i, e, halt) = (i, i, (e, halt), (e, halt))

both_give : (limit : ℕ) (ss : List Seen) → AllByRecursion (CanBeSeen limit) ss → BothGive limit ss
both_give limit [] can = record { clean = []; failed = []; ends = tt; fails = tt }
both_give limit (s ∷ ss) can =
    let one = one_gives limit s can.0 in
    let more = both_give limit ss can.1 in
    record {
      clean = one.0 ∷ more.clean;
      failed = one.1 ∷ more.failed;
      ends = (one.2, more.ends);
      fails = (one.3, more.fails);
    }

run_headers : (names : List (List ℕ)) (w : Option ℕ) (limit : ℕ) (is : List Input) (P : ℕ → Type 0) (k : SeenHeaders)
    → OpenSo w limit [] is k → settles_merge k ≡ false
    → ((u : Stream) (name : List ℕ) → u.halt ≡ w → P (fault_outcome [] name (missing u)).status)
    → ((ss : List SeenBody) (os : List Opened) → AllExact w ss os → bodies_settle ss ≡ false → P (merge_outcome names (dumps_of os)).status)
    → P (run_over Want.Merge names (open_from limit [] is)).status
unfolding request_of
run_headers names w limit is P Faulty so e header body = cc
run_headers names w limit is P NotWhole (n, u, x, y) e header body =
    subst (λ (r : Result (List Opened) (ℕ × Fault)). P (run_over Want.Merge names r).status) (sym y) (header u (name_at names n) x)
run_headers names w limit is P (Whole ss) (os, x, y) e header body =
    subst (λ (r : Result (List Opened) (ℕ × Fault)). P (run_over Want.Merge names r).status) (sym x) (body ss os y e)

pub unsettled_merge_is_open : UnsettledMergeIsOpen
unfolding is_settled_merge
unsettled_merge_is_open limit names seen can e =
    let both = both_give limit seen can in
    let k = headers_seen [] seen in
    let heads = λ (ss : List SeenBody). map (λ s. s.header) ss in
    let good = run_headers names None limit both.clean (λ n. n ≢ 3) k (opens_so None limit [] seen both.clean both.ends) e
    (λ u name none h. let one = other_status [] name (missing u) (missing_other u (λ same. let g = sym none ∙ same in cc)) in cc)
    (λ ss os all f. subst (λ ds. (merge_outcome names ds).status ≢ 3) (sym (dumps_of_exact None ss os all))
    (ended_status names (heads ss) ss (map (dump_in (heads ss)) os)
    (dump_headers (heads ss) os ∙ exact_headers None ss os all) (all_end None (heads ss) ss os all))) in
    let bad = run_headers names (Some 31) limit both.failed (λ n. n ≡ 3) k (opens_so (Some 31) limit [] seen both.failed both.fails) e
    (λ u name some. failed_status [] name (missing u) (ap (λ (x : Option ℕ). unwrap_or x 2 == 31) some))
    (λ ss os all f. subst (λ ds. (merge_outcome names ds).status ≡ 3) (sym (dumps_of_exact (Some 31) ss os all))
    (failed_bodies names ss (map (dump_in (heads ss)) os) (all_end (Some 31) (heads ss) ss os all)
    (dump_headers (heads ss) os ∙ exact_headers (Some 31) ss os all) f)) in (
      both.clean,
      both.failed,
      all_seen None limit seen both.clean both.ends,
      all_seen (Some 31) limit seen both.failed both.fails,
      λ same. good (ap (λ (d : Outcome). d.status) (sym (run_is Want.Merge limit names both.clean)) ∙ same
          ∙ ap (λ (d : Outcome). d.status) (run_is Want.Merge limit names both.failed) ∙ bad),
    )
