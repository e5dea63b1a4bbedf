-- What a merge names: the fault of one input, or a timestamp that is too large.
use Rattle.vcd_laws.proofs.Cited.{◌≡◌, ℕ, ◌+◌, ◌<◌, List, [], ◌∷◌, ◌++◌, length, map, find, sum_by, Option, Some, None, Ok, Err, ◌⊎◌, inl, inr, refl, sym, ap, ◌∙◌, subst, arith, AllByRecursion, length_push, sum_by-append, sum_by-cons, Input, stream_of, Header, declarations_of, read_header, header_fault_of, BodyPhrase, Fault, Placed, phrases_of, Reading, KeyedFault, factor, placed_is_too_large, scaled_fault, first_fault, Outcome, Opened, fault_outcome, declarations_allowed, allowed_after, with_opened, body_of, fault_in, name_at, dumps_of, merge_outcome, Want, outcome, OpenAll, run_of, EndsWell, NamesFault, header_in, NamesTooLarge, NamesFaultOfOne, MergeNamesTheFault, all_back, faults_rest, first_all, with_fault, without_fault}
use Rattle.vcd_model.specs.Header.{header_of}
use Rattle.vcd_model.specs.Merge.{dump_of}
use Rattle.vcd_model.specs.Outcome.{open_from}
use Rattle.vcd_model.specs.Job.{request_of}
use Rattle.vcd_laws.proofs.MergeAlone.{ended}
use Rattle.vcd_laws.proofs.Safe.{header_run, check_ends, names_fault}
use Rattle.vcd_laws.proofs.Settling.{opening, opening_with, opens_by, run_over, run_is, dump_in}
use Rattle.vcd_laws.proofs.FewDeclarations.{fewer_declarations}
use Rattle.vcd_laws.proofs.SafeMerge.{own, count, headers, IsOf, each_is_of, first_is}

-- ---- headers

-- the fault of an input's header, read alone
abbrev header_fault : ℕ → Input → Option Fault
header_fault limit input = header_fault_of (stream_of limit input) (read_header declarations_allowed (stream_of limit input))

alone : (limit : ℕ) (input : Input) (o : Option Fault) → header_fault limit input ≡ o
    → open_from limit [] (input ∷ []) ≡ opening 0 (own limit input) o (open_from limit (header_in limit input ∷ []) [])
alone limit input o e =
    opens_by limit [] input []
    ∙ ap (λ (f : Option Fault). opening 0 (own limit input) f (open_from limit (header_in limit input ∷ []) [])) e

-- the first input whose header has a fault
record HeaderFault (limit : ℕ) (hs : List Header) (inputs : List Input) : Type 0 where
  earlier : List Input
  input : Input
  later : List Input
  parts : inputs ≡ earlier ++ input ∷ later
  fault : Fault
  own_fault : header_fault limit input ≡ Some fault
  opens : open_from limit hs inputs ≡ Err (length hs + length earlier, fault)

-- all headers are whole
abbrev AllOpen : ℕ → List Header → List Input → Type 0
AllOpen limit hs inputs = (open_from limit hs inputs ≡ Ok (map (own limit) inputs)) × AllByRecursion (λ i. header_fault limit i ≡ None) inputs

opens_or_fault : (limit : ℕ) (hs : List Header) (inputs : List Input)
    → sum_by count hs + sum_by (λ i. count (header_in limit i)) inputs < declarations_allowed
    → AllOpen limit hs inputs ⊎ HeaderFault limit hs inputs
unfolding open_from header_of
opens_or_fault limit hs [] few = inl (refl, tt)
opens_or_fault limit hs (input ∷ inputs) few =
    let stream = stream_of limit input in
    let r = read_header declarations_allowed stream in
    let h = header_in limit input in
    let more : sum_by (λ i. count (header_in limit i)) (input ∷ inputs) ≡ count h + sum_by (λ i. count (header_in limit i)) inputs
    = sum_by-cons (λ i. count (header_in limit i)) input inputs in
    let fits : length (declarations_of (phrases_of r.placed)) < allowed_after hs = omega arith in
    let all : length (declarations_of (phrases_of r.placed)) < declarations_allowed = omega arith in
    let same = fewer_declarations declarations_allowed (allowed_after hs) stream all fits in
    let sums : sum_by count (hs ++ h ∷ []) ≡ sum_by count hs + count h
    = sum_by-append count hs (h ∷ []) ∙ ap (λ n. sum_by count hs + n) (sum_by-cons count h [] ∙ omega arith) in
    by_fault (header_fault limit input) refl
    (opens_by limit hs input inputs ∙ ap (opening_with limit hs inputs stream) same)
    (opens_or_fault limit (hs ++ h ∷ []) inputs (omega arith))
  where
    by_rest : header_fault limit input ≡ None
        → open_from limit hs (input ∷ inputs) ≡ with_opened (own limit input) (open_from limit (hs ++ header_in limit input ∷ []) inputs)
        → AllOpen limit (hs ++ header_in limit input ∷ []) inputs ⊎ HeaderFault limit (hs ++ header_in limit input ∷ []) inputs
        → AllOpen limit hs (input ∷ inputs) ⊎ HeaderFault limit hs (input ∷ inputs)
    by_rest e opens (inl (all, none)) = inl (opens ∙ ap (with_opened (own limit input)) all, (e, none))
    by_rest e opens (inr f) =
        let place : length (hs ++ header_in limit input ∷ []) + length f.earlier ≡ length hs + length (input ∷ f.earlier)
        = omega (arith, length_push hs (header_in limit input)) in
        inr (record {
          earlier = input ∷ f.earlier;
          input = f.input;
          later = f.later;
          parts = ap (λ l. input ∷ l) f.parts;
          fault = f.fault;
          own_fault = f.own_fault;
          opens = opens ∙ ap (with_opened (own limit input)) f.opens ∙ ap (λ n. Err (n, f.fault)) place;
        })

    by_fault : (o : Option Fault) → header_fault limit input ≡ o
        → open_from limit hs (input ∷ inputs) ≡ opening (length hs) (own limit input) (header_fault limit input) (open_from limit (hs ++ header_in limit input ∷ []) inputs)
        → AllOpen limit (hs ++ header_in limit input ∷ []) inputs ⊎ HeaderFault limit (hs ++ header_in limit input ∷ []) inputs
        → AllOpen limit hs (input ∷ inputs) ⊎ HeaderFault limit hs (input ∷ inputs)
    by_fault (Some f) e opens rest =
        let place : length hs ≡ length hs + length {A = Input} [] = omega arith in
        inr (record {
          earlier = [];
          input = input;
          later = inputs;
          parts = refl;
          fault = f;
          own_fault = e;
          opens = opens ∙ ap (λ (x : Option Fault). opening (length hs) (own limit input) x (open_from limit (hs ++ header_in limit input ∷ []) inputs)) e
              ∙ ap (λ n. Err (n, f)) place;
        })
    by_fault None e opens rest =
        by_rest e (opens ∙ ap (λ (x : Option Fault). opening (length hs) (own limit input) x (open_from limit (hs ++ header_in limit input ∷ []) inputs)) e) rest

-- ---- bodies

-- the input that an opened one is
record IsMapped (f : Input → Opened) (inputs : List Input) (earlier : List Opened) (o : Opened) : Type 0 where
  front : List Input
  input : Input
  later : List Input
  parts : inputs ≡ front ++ input ∷ later
  same : o ≡ f input
  place : length front ≡ length earlier

map_split : (f : Input → Opened) (inputs : List Input) (earlier later : List Opened) (o : Opened)
    → map f inputs ≡ earlier ++ o ∷ later → IsMapped f inputs earlier o
map_split f [] [] later o e = cc
map_split f [] (p ∷ earlier) later o e = cc
map_split f (i ∷ inputs) [] later o e =
    let same : f i ≡ o = cc in
    record { front = []; input = i; later = inputs; parts = refl; same = sym same; place = refl }
map_split f (i ∷ inputs) (p ∷ earlier) later o e =
    let rest : map f inputs ≡ earlier ++ o ∷ later = cc in
    let m = map_split f inputs earlier later o rest in
    let n = m.place in
    record { front = i ∷ m.front; input = m.input; later = m.later; parts = ap (λ l. i ∷ l) {y = m.front ++ m.input ∷ m.later} m.parts; same = m.same; place = omega arith }

-- the fault of an input: its own, or that of a timestamp which is too large
own_or_mark : (scale : ℕ) (own : Option Fault) (r : Reading BodyPhrase)
    → (scaled_fault scale own r ≡ own)
    ⊎ ((p : Placed BodyPhrase) × (find (placed_is_too_large scale) r.placed ≡ Some p)
    × (scaled_fault scale own r ≡ Some (record { number = 20; line = p.line })))
own_or_mark scale own r = by_mark (find (placed_is_too_large scale) r.placed) refl
  where
    by_mark : (o : Option (Placed BodyPhrase)) → find (placed_is_too_large scale) r.placed ≡ o
        → (scaled_fault scale own r ≡ own)
        ⊎ ((p : Placed BodyPhrase) × (find (placed_is_too_large scale) r.placed ≡ Some p)
        × (scaled_fault scale own r ≡ Some (record { number = 20; line = p.line })))
    by_mark None f = inl (rw (f, scaled_fault) refl)
    by_mark (Some p) f = inr (p, f, rw (f, scaled_fault) refl)

-- ---- the law

-- a merge ends well, or names the fault of one input, or a timestamp that is too large
abbrev pub EndsOrNames : ℕ → List ℕ → List (List ℕ) → List Input → Outcome → Type 0
EndsOrNames limit name names inputs done = EndsWell done
    ⊎ (NamesFaultOfOne limit name names inputs done
    ⊎ ((os : List Opened) × OpenAll limit inputs os × NamesTooLarge os names done))

-- if a header has a fault
header_named : (limit : ℕ) (name : List ℕ) (names : List (List ℕ)) (inputs : List Input) (f : HeaderFault limit [] inputs)
    → EndsOrNames limit name names inputs (outcome Want.Merge limit names inputs)
header_named limit name names inputs f =
    let place : length {A = Header} [] + length f.earlier ≡ length f.earlier = omega arith in
    let done : outcome Want.Merge limit names inputs ≡ fault_outcome [] (name_at names (length f.earlier)) f.fault =
    run_is Want.Merge limit names inputs ∙ ap (run_over Want.Merge names) (f.opens ∙ ap (λ n. Err (n, f.fault)) place) in
    let check : run_of Want.Check limit name f.input ≡ fault_outcome [] name f.fault =
    header_run Want.Check limit name f.input f.fault (alone limit f.input (Some f.fault) f.own_fault) in
    inr (inl (record {
      earlier = f.earlier;
      input = f.input;
      later = f.later;
      parts = f.parts;
      fault = f.fault;
      checked = names_fault (run_of Want.Check limit name f.input) [] name f.fault check;
      named = names_fault (outcome Want.Merge limit names inputs) [] (name_at names (length f.earlier)) f.fault done;
    }))

-- what `check` names of an input whose header is whole and whose body has a fault
body_checked : (limit : ℕ) (name : List ℕ) (input : Input) (f : Fault) → header_fault limit input ≡ None
    → fault_in (own limit input) ≡ Some f → NamesFault (run_of Want.Check limit name input) name f
unfolding open_from
body_checked limit name input f none e =
    let check = check_ends limit name input (own limit input) (alone limit input None none) in
    names_fault (run_of Want.Check limit name input) check.0 name f (check.1 ∙ ap (ended check.0 name) e)

pub merge_names_the_fault : MergeNamesTheFault
unfolding request_of dump_of
merge_names_the_fault limit name names inputs few = by_headers (opens_or_fault limit [] inputs (omega arith))
  where
    by_fault : (all : AllOpen limit [] inputs) (f : KeyedFault) (is : IsOf (headers (map (own limit) inputs)) (map (own limit) inputs) f)
        → (done : Outcome) (output : List ℕ) → done ≡ fault_outcome output (name_at names f.key.input) f.fault
        → (scaled_fault (factor (headers (map (own limit) inputs)) is.input.header) (fault_in is.input) (body_of is.input) ≡ fault_in is.input)
        ⊎ ((p : Placed BodyPhrase) × (find (placed_is_too_large (factor (headers (map (own limit) inputs)) is.input.header)) (body_of is.input).placed ≡ Some p)
        × (scaled_fault (factor (headers (map (own limit) inputs)) is.input.header) (fault_in is.input) (body_of is.input) ≡ Some (record { number = 20; line = p.line })))
        → EndsOrNames limit name names inputs done
    by_fault all f is done output e (inl h) =
        let m = map_split (own limit) inputs is.earlier is.later is.input is.inputs in
        let i = m.input in
        let none : header_fault limit i ≡ None = (all_back (λ i. header_fault limit i ≡ None) m.front (i ∷ m.later)
        (subst (AllByRecursion (λ i. header_fault limit i ≡ None)) m.parts all.1)).0 in
        let fault : fault_in (own limit i) ≡ Some f.fault = ap fault_in (sym m.same) ∙ sym h ∙ is.fault in
        let place : f.key.input ≡ length m.front = is.place ∙ sym m.place in
        inr (inl (record {
          earlier = m.front;
          input = i;
          later = m.later;
          parts = m.parts;
          fault = f.fault;
          checked = body_checked limit name i f.fault none fault;
          named = names_fault done output (name_at names (length m.front)) f.fault (e ∙ ap (λ n. fault_outcome output (name_at names n) f.fault) place);
        }))
    by_fault all f is done output e (inr h) =
        let p = h.0 in
        let g : f.fault ≡ record { number = 20; line = p.line } = let x = is.fault in let y = h.2 in cc in
        inr (inr (
          map (own limit) inputs,
          all.0,
          record {
            earlier = is.earlier;
            input = is.input;
            later = is.later;
            inputs = is.inputs;
            mark = p;
            first = h.1;
            named = names_fault done output (name_at names (length is.earlier)) (record { number = 20; line = p.line })
                (e ∙ ap (λ n. fault_outcome output (name_at names n) f.fault) is.place
                ∙ ap (fault_outcome output (name_at names (length is.earlier))) g);
          },
        ))

    by_first : AllOpen limit [] inputs → (f : Option KeyedFault) → first_fault (dumps_of (map (own limit) inputs)) ≡ f
        → EndsOrNames limit name names inputs (outcome Want.Merge limit names inputs)
    by_first all None first =
        let os = map (own limit) inputs in
        let done : outcome Want.Merge limit names inputs ≡ merge_outcome names (dumps_of os) =
        run_is Want.Merge limit names inputs ∙ ap (run_over Want.Merge names) all.0 in
        inl (subst EndsWell (sym (done ∙ without_fault names (dumps_of os) first)) (refl, refl))
    by_first all (Some f) first =
        let os = map (own limit) inputs in
        let hs = headers os in
        let done : outcome Want.Merge limit names inputs ≡ merge_outcome names (dumps_of os) =
        run_is Want.Merge limit names inputs ∙ ap (run_over Want.Merge names) all.0 in
        let is : IsOf hs os f = first_all (IsOf hs os) (faults_rest hs 0 (map (dump_in hs) os)) f (sym (first_is os) ∙ first) (each_is_of hs [] os 0 refl) in
        by_fault all f is (outcome Want.Merge limit names inputs) _ (done ∙ with_fault names (dumps_of os) f first)
        (own_or_mark (factor hs is.input.header) (fault_in is.input) (body_of is.input))

    by_headers : AllOpen limit [] inputs ⊎ HeaderFault limit [] inputs → EndsOrNames limit name names inputs (outcome Want.Merge limit names inputs)
    by_headers (inl all) = by_first all (first_fault (dumps_of (map (own limit) inputs))) refl
    by_headers (inr f) = header_named limit name names inputs f
