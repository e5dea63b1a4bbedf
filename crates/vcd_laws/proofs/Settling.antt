-- Tokens that settle a run: nothing that follows them changes its outcome.
use Rattle.vcd_laws.proofs.Cited.{◌≡◌, ℕ, Bool, true, false, ◌||◌, is_some, List, [], ◌∷◌, ◌++◌, length, map, Option, Some, None, Result, Ok, Err, refl, sym, ap, ◌∙◌, list_any, map-append, filter_map-append, up_to_first, Input, Token, Stream, stream_of, IdCode, Header, header_of, HeaderPhrase, header_grammar, header_fault_of, BodyItem, BodyPhrase, items_of, body_grammar, body_items, body_fault_of, Fault, Placed, phrases_of, Ending, Reading, Grammar, read_from, AtFault, AtEnd, AtLast, first_unmatched, Dump, factor, Request, Outcome, Opened, fault_outcome, clean_outcome, open_text, declarations_allowed, allowed_after, with_opened, items_in, fault_in, name_at, names_of, ends_early, merge_outcome, over_dumps, unmatched_outcome, Want, Refusal, refusal_outcome, over_opened, is_faulty, body_settles, is_settled_behind, is_settled_by, is_settled_at, is_over, SettledIsFinal, SettledIsFinalInMerge, behind_phrase, at_token, token_step}
use Rattle.std.proofs.Common.{append-nil, append_assoc}
use Rattle.vcd_model.specs.HeaderReading.{read_header}
use Rattle.vcd_model.specs.BodyReading.{read_body}
use Rattle.vcd_model.specs.Reading.{reading_of}
use Rattle.vcd_model.specs.Merge.{dump_of}
use Rattle.vcd_model.specs.Outcome.{open_from, body_of, over_body, over_dump, dumps_of}
use Rattle.vcd_model.specs.Job.{request_of, outcome}
use Rattle.vcd_model.specs.Settled.{is_settled}

-- ---- readings

-- a reading, if more tokens are left
abbrev pub with_more : {P : Type 0} → Reading P → List Token → Reading P
with_more r ys = record { placed = r.placed; before = r.before; ending = r.ending; rest = r.rest ++ ys }

module _ {P : Type 0} (g : Grammar P) where
  -- a reading that ended ends so whatever follows
  abbrev StaysOver : List Token → Type 0
  StaysOver xs = (placed : List (Placed P)) (before : List (List ℕ)) (ys : List Token)
      → is_over (read_from g placed before xs).ending ≡ true
      → read_from g placed before (xs ++ ys) ≡ with_more (read_from g placed before xs) ys

  over_after : (xs : List Token) → StaysOver xs → (placed : List (Placed P)) (ys : List Token) (b : Bool)
      → is_over (behind_phrase g placed xs b).ending ≡ true
      → behind_phrase g placed (xs ++ ys) b ≡ with_more (behind_phrase g placed xs b) ys
  over_after xs more placed ys true h = refl
  over_after xs more placed ys false h = more placed [] ys h

  over_token : (t : Token) (xs : List Token) → StaysOver xs → (placed : List (Placed P))
      (before : List (List ℕ)) (ys : List Token) (o : Option ℕ) (q : Option P)
      → is_over (at_token g placed before t xs o q).ending ≡ true
      → at_token g placed before t (xs ++ ys) o q ≡ with_more (at_token g placed before t xs o q) ys
  over_token t xs more placed before ys (Some n) q h = refl
  over_token t xs more placed before ys None None h = more placed (before ++ t.bytes ∷ []) ys h
  over_token t xs more placed before ys None (Some p) h =
      over_after xs more (placed ++ record { phrase = p; line = t.line } ∷ []) ys (g.is_last p) h

  stays_over : (xs : List Token) → StaysOver xs
  stays_over [] placed before ys h = cc
  stays_over (t ∷ xs) placed before ys h =
      let o = g.fault (phrases_of placed) before t.bytes in
      let q = g.phrase (before ++ t.bytes ∷ []) in
      let step = token_step g placed before t xs o q refl refl in
      token_step g placed before t (xs ++ ys) o q refl refl
      ∙ over_token t xs (stays_over xs) placed before ys o q
      (sym (ap (λ (r : Reading P). is_over r.ending) step) ∙ h)
      ∙ ap (λ (r : Reading P). with_more r ys) (sym step)

  pub over_whatever : (xs ys : List Token) → is_over (reading_of g xs).ending ≡ true
      → reading_of g (xs ++ ys) ≡ with_more (reading_of g xs) ys
  unfolding reading_of
  over_whatever xs ys h = stays_over xs [] [] ys h

  -- what was read stays read
  abbrev Keeps : List Token → Type 0
  Keeps ys = (placed : List (Placed P)) (before : List (List ℕ))
      → (more : List (Placed P)) × ((read_from g placed before ys).placed ≡ placed ++ more)

  keep_after : (ys : List Token) → Keeps ys → (placed : List (Placed P)) (p : Placed P) (b : Bool)
      → (more : List (Placed P)) × ((behind_phrase g (placed ++ p ∷ []) ys b).placed ≡ placed ++ more)
  keep_after ys keep placed p true = (p ∷ [], refl)
  keep_after ys keep placed p false =
      let k = keep (placed ++ p ∷ []) [] in (p ∷ k.0, k.1 ∙ append_assoc placed (p ∷ []) k.0)

  keep_token : (t : Token) (ys : List Token) → Keeps ys → (placed : List (Placed P))
      (before : List (List ℕ)) (o : Option ℕ) (q : Option P)
      → (more : List (Placed P)) × ((at_token g placed before t ys o q).placed ≡ placed ++ more)
  keep_token t ys keep placed before (Some n) q = ([], sym (append-nil placed))
  keep_token t ys keep placed before None None = keep placed (before ++ t.bytes ∷ [])
  keep_token t ys keep placed before None (Some p) =
      keep_after ys keep placed (record { phrase = p; line = t.line }) (g.is_last p)

  keeps : (ys : List Token) → Keeps ys
  keeps [] placed before = ([], sym (append-nil placed))
  keeps (t ∷ ys) placed before =
      let o = g.fault (phrases_of placed) before t.bytes in
      let q = g.phrase (before ++ t.bytes ∷ []) in
      let k = keep_token t ys (keeps ys) placed before o q in
      (k.0, ap (λ (r : Reading P). r.placed) (token_step g placed before t ys o q refl refl) ∙ k.1)

  abbrev Grows : List Token → Type 0
  Grows xs = (placed : List (Placed P)) (before : List (List ℕ)) (ys : List Token)
      → (more : List (Placed P))
      × ((read_from g placed before (xs ++ ys)).placed ≡ (read_from g placed before xs).placed ++ more)

  grow_after : (xs : List Token) → Grows xs → (placed : List (Placed P)) (ys : List Token) (b : Bool)
      → (more : List (Placed P))
      × ((behind_phrase g placed (xs ++ ys) b).placed ≡ (behind_phrase g placed xs b).placed ++ more)
  grow_after xs grow placed ys true = ([], sym (append-nil placed))
  grow_after xs grow placed ys false = grow placed [] ys

  grow_token : (t : Token) (xs : List Token) → Grows xs → (placed : List (Placed P))
      (before : List (List ℕ)) (ys : List Token) (o : Option ℕ) (q : Option P)
      → (more : List (Placed P))
      × ((at_token g placed before t (xs ++ ys) o q).placed ≡ (at_token g placed before t xs o q).placed ++ more)
  grow_token t xs grow placed before ys (Some n) q = ([], sym (append-nil placed))
  grow_token t xs grow placed before ys None None = grow placed (before ++ t.bytes ∷ []) ys
  grow_token t xs grow placed before ys None (Some p) =
      grow_after xs grow (placed ++ record { phrase = p; line = t.line } ∷ []) ys (g.is_last p)

  grows : (xs : List Token) → Grows xs
  grows [] placed before ys = keeps ys placed before
  grows (t ∷ xs) placed before ys =
      let o = g.fault (phrases_of placed) before t.bytes in
      let q = g.phrase (before ++ t.bytes ∷ []) in
      let k = grow_token t xs (grows xs) placed before ys o q in (
        k.0,
        ap (λ (r : Reading P). r.placed) (token_step g placed before t (xs ++ ys) o q refl refl) ∙ k.1
            ∙ ap (λ (r : Reading P). r.placed ++ k.0) (sym (token_step g placed before t xs o q refl refl)),
      )

  pub placed_first : (xs ys : List Token) → (more : List (Placed P))
      × ((reading_of g (xs ++ ys)).placed ≡ (reading_of g xs).placed ++ more)
  unfolding reading_of
  placed_first xs ys = grows xs [] [] ys

-- ---- a body

-- the items of a body begin with those of its first tokens
pub items_first : (codes : List IdCode) (xs ys : List Token) → (more : List BodyItem)
    × (body_items (read_body codes (xs ++ ys)) ≡ body_items (read_body codes xs) ++ more)
unfolding read_body
items_first codes xs ys =
    let k = placed_first (body_grammar codes) xs ys in (
      items_of (phrases_of k.0),
      ap (λ l. items_of (phrases_of l)) k.1 ∙ rw (map-append, filter_map-append) refl,
    )

faulty_over : (e : Ending) → is_faulty e ≡ true → is_over e ≡ true
faulty_over (AtFault f) h = refl
faulty_over AtEnd h = cc
faulty_over AtLast h = cc

-- a fault among the first tokens of a body is its fault
pub faulty_body : (codes : List IdCode) (xs ys : List Token)
    → is_faulty (read_body codes xs).ending ≡ true
    → read_body codes (xs ++ ys) ≡ with_more (read_body codes xs) ys
unfolding read_body
faulty_body codes xs ys h =
    over_whatever (body_grammar codes) xs ys (faulty_over (reading_of (body_grammar codes) xs).ending h)

pub at_fault : (s : Stream) (r : Reading BodyPhrase) (f : Fault) → r.ending ≡ AtFault f
    → body_fault_of s r ≡ Some f
at_fault s r f e = rw (e, body_fault_of) refl

-- the fault of a body that ended with one, whatever its stream is
faulty_fault : (s u : Stream) (r q : Reading BodyPhrase) → r.ending ≡ q.ending
    → is_faulty r.ending ≡ true → body_fault_of s r ≡ body_fault_of u q
faulty_fault s u r q e h = by_ending r.ending refl h
  where
    by_ending : (x : Ending) → r.ending ≡ x → is_faulty x ≡ true
        → body_fault_of s r ≡ body_fault_of u q
    by_ending (AtFault f) ex h = at_fault s r f ex ∙ sym (at_fault u q f (sym e ∙ ex))
    by_ending AtEnd ex h = cc
    by_ending AtLast ex h = cc

-- ---- an input after its header

-- what follows a header: these tokens, of this stream
abbrev pub opened_at : Header → Stream → List Token → Opened
opened_at h s ts = record { header = h; stream = s; rest = ts }

-- both the same, if the tokens read first have a fault
record AreAlike (o p : Opened) : Type 0 where
  items : items_in o ≡ items_in p
  fault : fault_in o ≡ fault_in p
  dump : (scale : ℕ) (h : Header)
      → dump_of scale h (fault_in o) (body_of o) ≡ dump_of scale h (fault_in p) (body_of p)

alike : (h : Header) (s u : Stream) (ts xs ys : List Token)
    → is_faulty (read_body h.codes ts).ending ≡ true
    → AreAlike (opened_at h s (ts ++ xs)) (opened_at h u (ts ++ ys))
unfolding body_of dump_of
alike h s u ts xs ys f =
    let r = read_body h.codes ts in
    let ex = faulty_body h.codes ts xs f in
    let ey = faulty_body h.codes ts ys f in
    let fault : body_fault_of s (read_body h.codes (ts ++ xs)) ≡ body_fault_of u (read_body h.codes (ts ++ ys)) =
    ap (body_fault_of s) ex
    ∙ faulty_fault s u (with_more r xs) (with_more r ys) refl f
    ∙ ap (body_fault_of u) (sym ey) in
    record {
      items = ap body_items ex ∙ ap body_items (sym ey);
      fault = fault;
      dump = λ scale k.
          ap (λ (q : Option Fault). dump_of scale k q (read_body h.codes (ts ++ xs))) fault
          ∙ ap (dump_of scale k (body_fault_of u (read_body h.codes (ts ++ ys)))) ex
          ∙ ap (dump_of scale k (body_fault_of u (read_body h.codes (ts ++ ys)))) (sym ey);
    }

-- ---- a timestamp that ends the run

pub first_part : (test : BodyItem → Bool) (p q : List BodyItem) → list_any test p ≡ true
    → (list_any test (p ++ q) ≡ true) × (up_to_first test (p ++ q) ≡ up_to_first test p)
first_part test [] q e = cc
first_part test (x ∷ p) q e = by_test (test x) refl e (first_part test p q)
  where
    by_test : (b : Bool) → test x ≡ b → (b || list_any test p) ≡ true
        → (list_any test p ≡ true → (list_any test (p ++ q) ≡ true) × (up_to_first test (p ++ q) ≡ up_to_first test p))
        → (list_any test (x ∷ p ++ q) ≡ true) × (up_to_first test (x ∷ p ++ q) ≡ up_to_first test (x ∷ p))
    by_test true f e more = (rw f refl, rw f refl)
    by_test false f e more = let m = more e in (rw f m.0, rw f (ap (λ l. x ∷ l) m.1))

pub ended_early : (task : Request) (h : Header) (items : List BodyItem) (name : List ℕ)
    (fault : Option Fault) → list_any (ends_early task) items ≡ true
    → over_body task h items name fault
    ≡ clean_outcome (open_text task h (up_to_first (ends_early task) items))
unfolding over_body
ended_early task h items name fault e = rw (e, over_body) refl

early : (task : Request) (h : Header) (items more : List BodyItem) (name : List ℕ)
    (fault : Option Fault) → list_any (ends_early task) items ≡ true
    → over_body task h (items ++ more) name fault
    ≡ clean_outcome (open_text task h (up_to_first (ends_early task) items))
early task h items more name fault e =
    let f = first_part (ends_early task) items more e in
    ended_early task h (items ++ more) name fault f.0
    ∙ ap (λ l. clean_outcome (open_text task h l)) f.1

-- ---- one input

module _ (task : Request) (h : Header) (name : List ℕ) (s u : Stream) (ts xs ys : List Token) where
  abbrev one : Opened
  one = opened_at h s (ts ++ xs)

  abbrev other : Opened
  other = opened_at h u (ts ++ ys)

  early_one : (v : Stream) (zs : List Token) → list_any (ends_early task) (body_items (read_body h.codes ts)) ≡ true
      → over_body task h (items_in (opened_at h v (ts ++ zs))) name (fault_in (opened_at h v (ts ++ zs)))
      ≡ clean_outcome (open_text task h (up_to_first (ends_early task) (body_items (read_body h.codes ts))))
  unfolding body_of
  early_one v zs e =
      let k = items_first h.codes ts zs in
      ap (λ (l : List BodyItem). over_body task h l name (fault_in (opened_at h v (ts ++ zs)))) k.1
      ∙ early task h (body_items (read_body h.codes ts)) k.0 name (fault_in (opened_at h v (ts ++ zs))) e

  body_same : body_settles task h ts ≡ true
      → over_body task h (items_in one) name (fault_in one)
      ≡ over_body task h (items_in other) name (fault_in other)
  body_same e = by_fault (is_faulty (read_body h.codes ts).ending) refl e
    where
      by_fault : (b : Bool) → is_faulty (read_body h.codes ts).ending ≡ b
          → (b || list_any (ends_early task) (body_items (read_body h.codes ts))) ≡ true
          → over_body task h (items_in one) name (fault_in one)
          ≡ over_body task h (items_in other) name (fault_in other)
      by_fault true f e =
          let a = alike h s u ts xs ys f in
          ap (λ (l : List BodyItem). over_body task h l name (fault_in one)) a.items
          ∙ ap (over_body task h (items_in other) name) a.fault
      by_fault false f e = early_one s xs e ∙ sym (early_one u ys e)

  -- if names may select nothing
  abbrev named : Option ℕ → Opened → Outcome
  named place o = elim place [
    | Some i ↦ unmatched_outcome (name_at (names_of task) i)
    | None ↦ over_body task h (items_in o) name (fault_in o)
  ]

  named_same : (place : Option ℕ) → (is_some place || body_settles task h ts) ≡ true
      → named place one ≡ named place other
  named_same (Some i) e = refl
  named_same None e = body_same e

dump_same : (task : Request) (h : Header) (name : List ℕ) (s u : Stream) (ts xs ys : List Token)
    → is_settled_behind task h ts ≡ true
    → over_dump task name (opened_at h s (ts ++ xs)) ≡ over_dump task name (opened_at h u (ts ++ ys))
unfolding over_dump
dump_same Request.Check h name s u ts xs ys e = named_same Request.Check h name s u ts xs ys None e
dump_same Request.Listing h name s u ts xs ys e = refl
dump_same (Request.Pick names) h name s u ts xs ys e =
    named_same (Request.Pick names) h name s u ts xs ys (first_unmatched names h.declarations) e
dump_same (Request.Cut a b) h name s u ts xs ys e = named_same (Request.Cut a b) h name s u ts xs ys None e
dump_same (Request.Sample times names) h name s u ts xs ys e =
    named_same (Request.Sample times names) h name s u ts xs ys (first_unmatched names h.declarations) e
dump_same (Request.Edges names) h name s u ts xs ys e =
    named_same (Request.Edges names) h name s u ts xs ys (first_unmatched names h.declarations) e
dump_same Request.Merge h name s u ts xs ys e = named_same Request.Merge h name s u ts xs ys None e

-- ---- a merge

abbrev pub dump_in : List Header → Opened → Dump
dump_in hs o = dump_of (factor hs o.header) o.header (fault_in o) (body_of o)

pub dumps_in : (os : List Opened) → dumps_of os ≡ map (dump_in (map (λ (o : Opened). o.header) os)) os
unfolding dumps_of
dumps_in os = refl

pub no_marks : (items : List BodyItem) → list_any (ends_early Request.Merge) items ≡ false
no_marks [] = refl
no_marks (item ∷ items) = no_marks items

pub merge_faulty : (h : Header) (ts : List Token) → is_settled_behind Request.Merge h ts ≡ true
    → is_faulty (read_body h.codes ts).ending ≡ true
merge_faulty h ts e =
    by_fault (is_faulty (read_body h.codes ts).ending) (sym (ap (λ b. is_faulty (read_body h.codes ts).ending || b) (no_marks (body_items (read_body h.codes ts)))) ∙ e)
  where
    by_fault : (b : Bool) → (b || false) ≡ true → b ≡ true
    by_fault true e = refl
    by_fault false e = cc

dumps_same : (h : Header) (s u : Stream) (ts xs ys : List Token) (os ps : List Opened)
    → is_settled_behind Request.Merge h ts ≡ true
    → dumps_of (os ++ opened_at h s (ts ++ xs) ∷ ps) ≡ dumps_of (os ++ opened_at h u (ts ++ ys) ∷ ps)
dumps_same h s u ts xs ys os ps e =
    let one = opened_at h s (ts ++ xs) in
    let other = opened_at h u (ts ++ ys) in
    let a = alike h s u ts xs ys (merge_faulty h ts e) in
    let hs = map (λ (o : Opened). o.header) os ++ h ∷ map (λ (o : Opened). o.header) ps in
    let head : (o : Opened) → o.header ≡ h → map (λ (p : Opened). p.header) (os ++ o ∷ ps) ≡ hs =
    λ o e. map-append (λ (p : Opened). p.header) os (o ∷ ps) ∙ ap (λ (k : Header). map (λ (o : Opened). o.header) os ++ k ∷ map (λ (o : Opened). o.header) ps) e in
    dumps_in (os ++ one ∷ ps)
    ∙ ap (λ l. map (dump_in l) (os ++ one ∷ ps)) (head one refl)
    ∙ map-append (dump_in hs) os (one ∷ ps)
    ∙ ap (λ (d : Dump). map (dump_in hs) os ++ d ∷ map (dump_in hs) ps) (a.dump (factor hs h) h)
    ∙ sym (map-append (dump_in hs) os (other ∷ ps))
    ∙ ap (λ l. map (dump_in l) (os ++ other ∷ ps)) (sym (head other refl))
    ∙ sym (dumps_in (os ++ other ∷ ps))

-- ---- several inputs are opened

abbrev pub Opening : Type 0
Opening = Result (List Opened) (ℕ × Fault)

-- an input, as its header ended, before the others
abbrev pub opening : ℕ → Opened → Option Fault → Opening → Opening
opening n o (Some f) tail = Err (n, f)
opening n o None tail = with_opened o tail

-- an input whose header is this reading
abbrev pub opened_with : Stream → Reading HeaderPhrase → Opened
opened_with stream r = opened_at (header_of (phrases_of r.placed)) stream r.rest

abbrev pub opening_with : ℕ → List Header → List Input → Stream → Reading HeaderPhrase → Opening
opening_with limit earlier inputs stream r =
    opening (length earlier) (opened_with stream r) (header_fault_of stream r)
    (open_from limit (earlier ++ header_of (phrases_of r.placed) ∷ []) inputs)

pub opens_by : (limit : ℕ) (earlier : List Header) (input : Input) (inputs : List Input)
    → open_from limit earlier (input ∷ inputs)
    ≡ opening_with limit earlier inputs (stream_of limit input)
    (read_header (allowed_after earlier) (stream_of limit input))
unfolding open_from
opens_by limit earlier input inputs =
    let stream = stream_of limit input in
    let r = read_header (allowed_after earlier) stream in
    by_fault (header_fault_of stream r) (opened_with stream r)
    (open_from limit (earlier ++ header_of (phrases_of r.placed) ∷ []) inputs)
  where
    by_fault : (f : Option Fault) (o : Opened) (tail : Opening)
        → elim f [ Some g ↦ Err (length earlier, g) | None ↦ with_opened o tail ]
        ≡ opening (length earlier) o f tail
    by_fault (Some f) o tail = refl
    by_fault None o tail = refl

-- a header that is over with these tokens
pub header_read : (most : ℕ) (stream : Stream) (ts xs : List Token) → stream.tokens ≡ ts ++ xs
    → is_over (reading_of (header_grammar most) ts).ending ≡ true
    → read_header most stream ≡ with_more (reading_of (header_grammar most) ts) xs
unfolding read_header
header_read most stream ts xs e h =
    ap (reading_of (header_grammar most)) e ∙ over_whatever (header_grammar most) ts xs h

pub header_faulty : (stream : Stream) (r : Reading HeaderPhrase) (f : Fault) → r.ending ≡ AtFault f
    → header_fault_of stream r ≡ Some f
header_faulty stream r f e = rw (e, header_fault_of) refl

pub header_whole : (stream : Stream) (r : Reading HeaderPhrase) → r.ending ≡ AtLast
    → header_fault_of stream r ≡ None
header_whole stream r e = rw (e, header_fault_of) refl

pub opening_faulty : (limit : ℕ) (earlier : List Header) (inputs : List Input) (stream : Stream)
    (r : Reading HeaderPhrase) (f : Fault) → r.ending ≡ AtFault f
    → opening_with limit earlier inputs stream r ≡ Err (length earlier, f)
opening_faulty limit earlier inputs stream r f e =
    ap (λ (x : Option Fault). opening (length earlier) (opened_with stream r) x
    (open_from limit (earlier ++ header_of (phrases_of r.placed) ∷ []) inputs)) (header_faulty stream r f e)

pub opening_whole : (limit : ℕ) (earlier : List Header) (inputs : List Input) (stream : Stream)
    (r : Reading HeaderPhrase) → r.ending ≡ AtLast
    → opening_with limit earlier inputs stream r ≡ with_opened (opened_with stream r)
    (open_from limit (earlier ++ header_of (phrases_of r.placed) ∷ []) inputs)
opening_whole limit earlier inputs stream r e =
    ap (λ (x : Option Fault). opening (length earlier) (opened_with stream r) x
    (open_from limit (earlier ++ header_of (phrases_of r.placed) ∷ []) inputs)) (header_whole stream r e)

-- more inputs before the others
abbrev with_all : List Opened → Opening → Opening
with_all os (Ok ps) = Ok (os ++ ps)
with_all os (Err e) = Err e

with_none : (r : Opening) → with_all [] r ≡ r
with_none (Ok ps) = refl
with_none (Err e) = refl

with_first : (o : Opened) (os : List Opened) (r : Opening)
    → with_opened o (with_all os r) ≡ with_all (o ∷ os) r
with_first o os (Ok ps) = refl
with_first o os (Err e) = refl

-- the inputs that open, then more
pub opens_on : (limit : ℕ) (hs : List Header) (inputs more : List Input) (os : List Opened)
    → open_from limit hs inputs ≡ Ok os
    → open_from limit hs (inputs ++ more)
    ≡ with_all os (open_from limit (hs ++ map (λ (o : Opened). o.header) os) more)
unfolding open_from
opens_on limit hs [] more os e =
    let none : [] ≡ os = cc in
    sym (with_none (open_from limit hs more))
    ∙ ap (λ l. with_all [] (open_from limit l more)) (sym (append-nil hs))
    ∙ ap (λ (l : List Opened). with_all l (open_from limit (hs ++ map (λ (o : Opened). o.header) l) more)) none
opens_on limit hs (input ∷ inputs) more os e =
    let stream = stream_of limit input in
    let r = read_header (allowed_after hs) stream in
    let h = header_of (phrases_of r.placed) in
    opens_by limit hs input (inputs ++ more)
    ∙ by_fault (header_fault_of stream r) (opened_with stream r)
    (open_from limit (hs ++ h ∷ []) inputs) (open_from limit (hs ++ h ∷ []) (inputs ++ more))
    (sym (opens_by limit hs input inputs) ∙ e)
    (λ ps f. opens_on limit (hs ++ h ∷ []) inputs more ps f)
  where
    by_fault : (f : Option Fault) (o : Opened) (tail longer : Opening)
        → opening (length hs) o f tail ≡ Ok os
        → ((ps : List Opened) → tail ≡ Ok ps → longer ≡ with_all ps (open_from limit ((hs ++ o.header ∷ []) ++ map (λ (p : Opened). p.header) ps) more))
        → opening (length hs) o f longer ≡ with_all os (open_from limit (hs ++ map (λ (p : Opened). p.header) os) more)
    by_fault (Some f) o tail longer e step = cc
    by_fault None o (Err x) longer e step = cc
    by_fault None o (Ok ps) longer e step =
        let same : o ∷ ps ≡ os = cc in
        ap (with_opened o) (step ps refl)
        ∙ with_first o ps (open_from limit ((hs ++ o.header ∷ []) ++ map (λ (p : Opened). p.header) ps) more)
        ∙ ap (λ l. with_all (o ∷ ps) (open_from limit l more)) (append_assoc hs (o.header ∷ []) (map (λ (p : Opened). p.header) ps))
        ∙ ap (λ (l : List Opened). with_all l (open_from limit (hs ++ map (λ (p : Opened). p.header) l) more)) same

-- ---- the laws

-- what a run gives by the inputs that it opens
abbrev pub run_over : Want → List (List ℕ) → Opening → Outcome
run_over want names r = elim r [ Err e ↦ fault_outcome [] (name_at names e.0) e.1 | Ok os ↦ over_opened want names os ]

pub run_is : (want : Want) (limit : ℕ) (names : List (List ℕ)) (inputs : List Input)
    → outcome want limit names inputs ≡ run_over want names (open_from limit [] inputs)
unfolding outcome
run_is want limit names inputs = refl

-- an input whose first tokens settle its part opens with another stream alike
module _ (want : Want) (names : List (List ℕ)) (limit : ℕ) (hs : List Header) (before : List Opened)
    (later : List Input) (ts : List Token)
    (over : (h : Header) (rs xs ys : List Token) (s u : Stream) (ps : List Opened)
    → is_settled_by (request_of h.scale want) h rs ≡ true
    → over_opened want names (before ++ opened_at h s (rs ++ xs) ∷ ps)
    ≡ over_opened want names (before ++ opened_at h u (rs ++ ys) ∷ ps)) where
  opened_same : (a b : Input) (xs ys : List Token) → (stream_of limit a).tokens ≡ ts ++ xs
      → (stream_of limit b).tokens ≡ ts ++ ys → (ending : Ending)
      → (reading_of (header_grammar (allowed_after hs)) ts).ending ≡ ending
      → is_settled_at want (reading_of (header_grammar (allowed_after hs)) ts) ending ≡ true
      → run_over want names (with_all before (open_from limit hs (a ∷ later)))
      ≡ run_over want names (with_all before (open_from limit hs (b ∷ later)))
  opened_same a b xs ys ea eb (AtFault f) e s =
      faulty a xs ea ∙ sym (faulty b ys eb)
    where
      faulty : (i : Input) (zs : List Token) → (stream_of limit i).tokens ≡ ts ++ zs
          → run_over want names (with_all before (open_from limit hs (i ∷ later)))
          ≡ fault_outcome [] (name_at names (length hs)) f
      faulty i zs ei =
          let r = reading_of (header_grammar (allowed_after hs)) ts in
          let over : is_over r.ending ≡ true = ap is_over e in
          ap (λ (r : Opening). run_over want names (with_all before r))
          (opens_by limit hs i later
          ∙ ap (opening_with limit hs later (stream_of limit i)) (header_read (allowed_after hs) (stream_of limit i) ts zs ei over)
          ∙ opening_faulty limit hs later (stream_of limit i) (with_more r zs) f e)
  opened_same a b xs ys ea eb AtEnd e s = cc
  opened_same a b xs ys ea eb AtLast e s =
      whole a xs ea
      ∙ by_tail (open_from limit (hs ++ h ∷ []) later)
      ∙ sym (whole b ys eb)
    where
      r : Reading HeaderPhrase
      r = reading_of (header_grammar (allowed_after hs)) ts

      h : Header
      h = header_of (phrases_of r.placed)

      whole : (i : Input) (zs : List Token) → (stream_of limit i).tokens ≡ ts ++ zs
          → run_over want names (with_all before (open_from limit hs (i ∷ later)))
          ≡ run_over want names (with_all before (with_opened (opened_at h (stream_of limit i) (r.rest ++ zs)) (open_from limit (hs ++ h ∷ []) later)))
      whole i zs ei =
          let over : is_over r.ending ≡ true = ap is_over e in
          ap (λ (r : Opening). run_over want names (with_all before r))
          (opens_by limit hs i later
          ∙ ap (opening_with limit hs later (stream_of limit i)) (header_read (allowed_after hs) (stream_of limit i) ts zs ei over)
          ∙ opening_whole limit hs later (stream_of limit i) (with_more r zs) e)

      by_tail : (tail : Opening)
          → run_over want names (with_all before (with_opened (opened_at h (stream_of limit a) (r.rest ++ xs)) tail))
          ≡ run_over want names (with_all before (with_opened (opened_at h (stream_of limit b) (r.rest ++ ys)) tail))
      by_tail (Err x) = refl
      by_tail (Ok ps) = over h r.rest xs ys (stream_of limit a) (stream_of limit b) ps s

-- a run over what is asked for
abbrev pub asked : List (List ℕ) → List Opened → Result Request Refusal → Outcome
asked names os r = elim r [ Err why ↦ refusal_outcome (name_at names 0) why | Ok request ↦ over_dumps request names os ]

one_over : (want : Want) (names : List (List ℕ)) (h : Header) (rs xs ys : List Token)
    (s u : Stream) (ps : List Opened) → is_settled_by (request_of h.scale want) h rs ≡ true
    → over_opened want names (opened_at h s (rs ++ xs) ∷ ps)
    ≡ over_opened want names (opened_at h u (rs ++ ys) ∷ ps)
one_over want names h rs xs ys s u ps e = by_request (request_of h.scale want) e
  where
    by_request : (r : Result Request Refusal) → is_settled_by r h rs ≡ true
        → asked names (opened_at h s (rs ++ xs) ∷ ps) r ≡ asked names (opened_at h u (rs ++ ys) ∷ ps) r
    by_request (Err why) e = refl
    by_request (Ok Request.Check) e = dump_same Request.Check h (name_at names 0) s u rs xs ys e
    by_request (Ok Request.Listing) e = dump_same Request.Listing h (name_at names 0) s u rs xs ys e
    by_request (Ok (Request.Pick ns)) e = dump_same (Request.Pick ns) h (name_at names 0) s u rs xs ys e
    by_request (Ok (Request.Cut a b)) e = dump_same (Request.Cut a b) h (name_at names 0) s u rs xs ys e
    by_request (Ok (Request.Sample times ns)) e = dump_same (Request.Sample times ns) h (name_at names 0) s u rs xs ys e
    by_request (Ok (Request.Edges ns)) e = dump_same (Request.Edges ns) h (name_at names 0) s u rs xs ys e
    by_request (Ok Request.Merge) e = ap (merge_outcome names) (dumps_same h s u rs xs ys [] ps e)

pub settled_is_final : SettledIsFinal
unfolding is_settled
settled_is_final want limit name ts a b e beginA beginB =
    let r = reading_of (header_grammar declarations_allowed) ts in
    let names = name ∷ [] in
    run_is want limit names (a ∷ [])
    ∙ sym (ap (run_over want names) (with_none (open_from limit [] (a ∷ []))))
    ∙ opened_same want names limit [] [] [] ts
    (λ h rs xs ys s u ps. one_over want names h rs xs ys s u ps)
    a b beginA.0 beginB.0 beginA.1 beginB.1 r.ending refl e
    ∙ ap (run_over want names) (with_none (open_from limit [] (b ∷ [])))
    ∙ sym (run_is want limit names (b ∷ []))

merge_over : (names : List (List ℕ)) (os : List Opened) (h : Header) (rs xs ys : List Token)
    (s u : Stream) (ps : List Opened) → is_settled_behind Request.Merge h rs ≡ true
    → over_opened Want.Merge names (os ++ opened_at h s (rs ++ xs) ∷ ps)
    ≡ over_opened Want.Merge names (os ++ opened_at h u (rs ++ ys) ∷ ps)
unfolding request_of
merge_over names os h rs xs ys s u ps e = ap (merge_outcome names) (dumps_same h s u rs xs ys os ps e)

pub settled_is_final_in_merge : SettledIsFinalInMerge
unfolding is_settled request_of
settled_is_final_in_merge limit names earlier later os ts a b opens e beginA beginB =
    let hs = map (λ (o : Opened). o.header) os in
    let r = reading_of (header_grammar (allowed_after hs)) ts in
    run_is Want.Merge limit names (earlier ++ a ∷ later)
    ∙ ap (run_over Want.Merge names) (opens_on limit [] earlier (a ∷ later) os opens)
    ∙ opened_same Want.Merge names limit hs os later ts
    (λ h rs xs ys s u ps. merge_over names os h rs xs ys s u ps)
    a b beginA.0 beginB.0 beginA.1 beginB.1 r.ending refl e
    ∙ sym (ap (run_over Want.Merge names) (opens_on limit [] earlier (b ∷ later) os opens))
    ∙ sym (run_is Want.Merge limit names (earlier ++ b ∷ later))
