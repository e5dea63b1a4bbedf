-- What a program leaves over a host in memory.
use Rattle.vcd_program.proofs.Cited.{◌≡◌, ◌+◌, ◌⊎◌, ℕ, Bool, true, false, cond, List, [], ◌∷◌, ◌++◌, map, refl, sym, subst, ap, ◌∙◌, inl, inr, arith, codes, append_assoc, append-nil, drop, length, drop-append_seam, Option, Some, None, Err, Text, ArgMatches, ErrorKind, Input, Outcome, clean_outcome, shown_message, whole, Device, supply, parse_status_of, Shows, unopened_outcome, IsOutcome, Whole, Part, End, HaveTexts, IsAnswered, IsLeft, IsLeftBy, IsLeftOf, IsOutOfMemory, OpensIn, bytes_among, noted, Opens, called, AreLeft, Fails, Finishes, IsAnswer, Leaves, Programs, Runs, RunsOn, Unopened, Bytes, Memory, MemoryFile}
use Rattle.vcd_program.proofs.RunsLemmas.{statuses}

-- ---- streams that begin empty, of which no write failed

abbrev pub holding : Bool → List ℕ → Device
holding failed bytes = record { held = Some bytes; failures = 0; last_failed = failed }

-- a stream with these bytes, of which no write failed
pub is-holding : (bytes all : List ℕ) (n : ℕ) (f failed : Bool) → bytes ≡ all → n ≡ 0 → f ≡ failed
    → record { held = Some bytes; failures = n; last_failed = f } ≡ holding failed all
is-holding bytes all n f failed e z q = ap (λ l. record { held = Some l; failures = n; last_failed = f }) e
    ∙ ap (λ m. record { held = Some all; failures = m; last_failed = f }) z ∙ ap (λ b. record { held = Some all; failures = 0; last_failed = b }) q

none-failed : (failed : Bool) → cond failed 0 0 ≡ 0 + 1 → ⊥
none-failed true e = omega (arith, e)
none-failed false e = omega (arith, e)

all-shown : (failed : Bool) (old new text : List ℕ) → Shows (holding false old) (holding failed new) text → new ≡ old ++ text
all-shown failed old new text (inl all) = all.0
all-shown failed old new text (inr some) = absurd (none-failed failed some.1)

-- ---- inputs

-- the bytes that inputs have still
abbrev pub bytes_of : Bytes → Option (List ℕ)
bytes_of b = Some b.rest.now

abbrev pub no_failures : Bytes → ℕ
no_failures b = 0

abbrev pub none_failed : Bytes → Bool
none_failed b = false

-- what opening one after the other leaves: the files as they were, the names noted, and the bytes
-- of each name
record HasOpened (files : List MemoryFile) (input : Text) (names : List (Option Text)) (inputs : List Bytes) (host after : Memory) : Type 0 where
  files_are : after.files.now ≡ files
  input_is : after.input.now ≡ input
  notes : noted after ≡ noted host ++ names
  bytes : map (λ name. bytes_among files input name) names ≡ map bytes_of inputs

opened-in : (files : List MemoryFile) (input : Text) (host : Memory) (names : List (Option Text)) (inputs : List Bytes) (after : Memory)
    → host.files.now ≡ files → host.input.now ≡ input → Opens OpensIn host names inputs after → HasOpened files input names inputs host after
opened-in files input host [] [] after f i o = record {
  files_are = ap (λ (m : Memory). m.files.now) o
      ∙ f;
  input_is = ap (λ (m : Memory). m.input.now) o ∙ i;
  notes = ap noted o ∙ sym (append-nil (noted host));
  bytes = refl;
}
opened-in files input host [] (b ∷ inputs) after f i o = absurd o
opened-in files input host (n ∷ names) [] after f i o = absurd o
opened-in files input host (n ∷ names) (b ∷ inputs) after f i o =
    let next = o.0 in
    let one = o.1 in
    let more = opened-in files input next names inputs after (ap (λ x. x.now) one.0.files_are ∙ f) (ap (λ x. x.now) one.0.input_is ∙ i) (o.2) in
    let here : bytes_among files input n ≡ Some b.rest.now = ap (λ fs. bytes_among fs input n) (sym f) ∙ ap (λ t. bytes_among host.files.now t n) (sym i) ∙ one.2 in
    record {
      files_are = more.files_are;
      input_is = more.input_is;
      notes = more.notes ∙ ap (λ l. l ++ names) one.1 ∙ append_assoc (noted host) (n ∷ []) names;
      bytes = ap (λ x. x ∷ map (λ name. bytes_among files input name) names) here ∙ ap (λ l. Some b.rest.now ∷ l) more.bytes;
    }

pub texts-of : (inputs : List Bytes) → map bytes_of inputs ≡ map (λ text. Some text) (map (λ (b : Bytes). b.rest.now) inputs)
texts-of [] = refl
texts-of (b ∷ inputs) = ap (λ l. Some b.rest.now ∷ l) (texts-of inputs)

-- inputs of which no read fails are left as they are
all-whole : (texts : List Text) (old new : List Bytes) (inputs : List Input)
    → AreLeft texts (map (supply bytes_of no_failures) old) (map (supply bytes_of no_failures) new) inputs → inputs ≡ map whole texts
all-whole [] old new inputs r = r
all-whole (t ∷ texts) [] new inputs r = absurd r
all-whole (t ∷ texts) (b ∷ old) [] inputs r = absurd r
all-whole (t ∷ texts) (b ∷ old) (c ∷ new) [] r = absurd r
all-whole (t ∷ texts) (b ∷ old) (c ∷ new) (i ∷ inputs) r =
    let one : i ≡ whole t = elim r.0 [ inl good ↦ good.1 | inr bad ↦ (let no : 0 ≡ 0 + 1 = bad.0 in absurd (omega arith)) ] in
    ap (λ x. x ∷ inputs) one ∙ ap (λ l. whole t ∷ l) (all-whole texts old new inputs r.1)

-- ---- what is left

-- what stands behind the front of a stream that only grew
behind : (front all text : List ℕ) → all ≡ front ++ text → drop (length front) all ≡ text
behind front all text e = ap (drop (length front)) e ∙ drop-append_seam front text

-- Over streams of which no write failed, whatever they say of the last one, and that began with
-- these bytes.
module _ (a b : Bool) (out_front err_front : List ℕ) where
  -- what the program left: the inputs that were opened, and what stands behind these bytes
  abbrev pub LeftAs : End → (after : Memory) → (out err : List ℕ) → ℕ → Type 0
  LeftAs left after out err status = (left.opened ≡ noted after) × (left.output ≡ drop (length out_front) out) × (left.message ≡ drop (length err_front) err) × (left.status ≡ status)

  -- the streams only grew
  abbrev pub Grown : End → (out err : List ℕ) → Type 0
  Grown left out err = (out ≡ out_front ++ left.output) × (err ≡ err_front ++ left.message)

  -- on these streams
  abbrev On : ((out out' err err' : Device) → ℕ → Type 0) → (out err : List ℕ) → ℕ → Type 0
  On Left out err status = Left (holding false out_front) (holding a out) (holding false err_front) (holding b err) status

  -- this was written and shown
  was-left : (left : End) (after : Memory) (out err : List ℕ) (status : ℕ) (output message : List ℕ) → LeftAs left after out err status
      → out ≡ out_front ++ output → err ≡ err_front ++ message
      → (left.output ≡ output) × (left.message ≡ message) × Grown left out err
  was-left left after out err status output message holds written shown =
      let o = holds.1 ∙ behind out_front out output written in
      let m = holds.2 ∙ behind err_front err message shown in
      (o, m, (written ∙ ap (λ l. out_front ++ l) (sym o), shown ∙ ap (λ l. err_front ++ l) (sym m)))

  module _ (program : Text) (left : End) (after : Memory) (out err : List ℕ) (status : ℕ) (holds : LeftAs left after out err status) where
    -- all of the outcome was left
    is-left : (names : List (Option Text)) (o : Outcome) → noted after ≡ names → On (IsOutcome program o) out err status → IsLeft program left names o × Grown left out err
    is-left names o n (Whole written shown is) =
        let l = was-left left after out err status o.output (shown_message program o.message) holds written.0 (all-shown b err_front err (shown_message program o.message) shown) in
        (record { opened = holds.0 ∙ n; output = l.0; message = l.1; status = holds.3 ∙ is }, l.2)
    is-left names o n (Part written shown is) = absurd (none-failed a written.1)

    out-of-memory : On (Fails program (codes "out of memory")) out err status → IsOutOfMemory program left × Grown left out err
    out-of-memory fails =
        let l = was-left left after out err status [] (shown_message program (codes "out of memory")) holds fails.0.0
        (all-shown b err_front err (shown_message program (codes "out of memory")) fails.1) in
        (record { output = l.0; message = l.1; status = holds.3 ∙ fails.2 }, l.2)

    -- the text of a parse
    is-answered : (why : ErrorKind) (text : Text) → noted after ≡ [] → On (IsAnswer program why text) out err status → IsAnswered left why text × Grown left out err
    is-answered why text n (inl answered) =
        let all = is-left [] (clean_outcome text) n answered.1 in
        (record { opened = all.0.opened; output = rw answered.0 all.0.output; message = rw answered.0 all.0.message; status = rw answered.0 all.0.status }, all.1)
    is-answered why text n (inr shown) = by_status (statuses why)
      where
        l : (left.output ≡ []) × (left.message ≡ text) × Grown left out err
        l = was-left left after out err status [] text holds shown.1.0 (all-shown b err_front err text shown.2)

        by_status : (parse_status_of why ≡ 0) ⊎ ((parse_status_of why ≡ 2) ⊎ (parse_status_of why ≡ 3)) → IsAnswered left why text × Grown left out err
        by_status (inl zero) = absurd (shown.0 zero)
        by_status (inr (inl two)) = (record { opened = holds.0 ∙ n; output = rw two l.0; message = rw two l.1; status = holds.3 ∙ shown.3 }, l.2)
        by_status (inr (inr three)) = (record { opened = holds.0 ∙ n; output = rw three l.0; message = rw three l.1; status = holds.3 ∙ shown.3 }, l.2)

  -- a step that found no file
  missed : (files : List MemoryFile) (input : Text) (names : List (Option Text)) (inputs : List Bytes) (host next after : Memory)
      (name : Option Text) → HasOpened files input names inputs host next → OpensIn next name (Err Unopened) after
      → (noted after ≡ noted host ++ (names ++ name ∷ [])) × (bytes_among files input name ≡ None)
  missed files input names inputs host next after name o p = (
    p.1 ∙ ap (λ l. l ++ name ∷ []) o.notes ∙ append_assoc (noted host) names (name ∷ []),
    ap (λ fs. bytes_among fs input name) (sym o.files_are) ∙ ap (λ t. bytes_among next.files.now t name) (sym o.input_is) ∙ p.2,
  )

  module _ {P J : Type 0} (p : Programs P J) (files : List MemoryFile) (input : Text) (host after : Memory) (left : End) (out err : List ℕ)
      (status : ℕ) (f : host.files.now ≡ files) (i : host.input.now ≡ input) (n : noted host ≡ []) (holds : LeftAs left after out err status) where
    -- what words leave that were parsed
    left-parsed : (matches : ArgMatches) (NoneKept : Type 0) → Runs p OpensIn bytes_of no_failures none_failed matches host after
        (holding false out_front) (holding a out) (holding false err_front) (holding b err) status NoneKept
        → (IsLeftOf p matches files input left ⊎ IsOutOfMemory p.name left) × Grown left out err
    left-parsed matches NoneKept (Runs.Refused fault is of_words same leaves) =
        let l = is-left p.name left after out err status holds [] (p.outcome matches [] []) (ap noted same ∙ n) leaves in
        (inl (IsLeftOf.Refused fault is of_words l.0), l.1)
    left-parsed matches NoneKept (Runs.Ran job is readers done opened ends gives passed_on) =
        let o = opened-in files input host (p.inputs matches) readers after f i opened in
        let texts = map (λ (b : Bytes). b.rest.now) readers in
        by_end o texts (o.bytes ∙ texts-of readers) (gives texts (texts-of readers))
      where
        by_end : HasOpened files input (p.inputs matches) readers host after → (texts : List Text) → HaveTexts files input (p.inputs matches) texts
            → Leaves p.name (p.outcome matches (map called (p.inputs matches))) (p.reads job) texts (map (supply bytes_of no_failures) readers)
            (map (supply bytes_of no_failures) done) (holding false out_front) (holding a out) (holding false err_front) (holding b err) status
            → (IsLeftOf p matches files input left ⊎ IsOutOfMemory p.name left) × Grown left out err
        by_end o texts have (Leaves.WithOutcome inputs lefts read leaves) =
            let all = all-whole texts readers done inputs lefts in
            let l = is-left p.name left after out err status holds (p.inputs matches)
            (p.outcome matches (map called (p.inputs matches)) (map whole texts)) (o.notes ∙ ap (λ l. l ++ p.inputs matches) n)
            (subst (λ l. On (IsOutcome p.name (p.outcome matches (map called (p.inputs matches)) l)) out err status) all leaves) in
            (inl (IsLeftOf.Ran job is texts have l.0), l.1)
        by_end o texts have (Leaves.NoMemory inputs lefts read same fails) = let l = out-of-memory p.name left after out err status holds fails in (inr l.0, l.1)
    left-parsed matches NoneKept (Runs.Stopped job is name opened leaves) =
        let before = opened.0 in
        let inputs = opened.3 in
        let next = opened.4 in
        let o = opened-in files input host before inputs next f i opened.5 in
        let missing = missed files input before inputs host next after name o (opened.6) in
        let l = is-left p.name left after out err status holds (before ++ name ∷ []) (unopened_outcome (called name)) (missing.0 ∙ ap (λ l. l ++ (before ++ name ∷ [])) n) leaves in
        (inl (IsLeftOf.Stopped job is before opened.1 name opened.2 (map (λ (b : Bytes). b.rest.now) inputs) (o.bytes ∙ texts-of inputs) missing.1 l.0), l.1)
    left-parsed matches NoneKept (Runs.NoMemory is opened fails) = let l = out-of-memory p.name left after out err status holds fails in (inr l.0, l.1)

    -- what any words leave
    pub left-by : (words : List Text) (NoneKept : Type 0) → RunsOn p words OpensIn bytes_of no_failures none_failed host after
        (holding false out_front) (holding a out) (holding false err_front) (holding b err) status NoneKept
        → IsLeftBy p words files input left × Grown left out err
    left-by words NoneKept (RunsOn.NoMatches why is only same (inl some)) =
        let l = is-answered p.name left after out err status holds why some.1 (ap noted same ∙ n) some.2 in
        (IsLeftBy.NoMatches why is only some.0 some.1 l.0, l.1)
    left-by words NoneKept (RunsOn.NoMatches why is only same (inr fails)) = let l = out-of-memory p.name left after out err status holds fails in (IsLeftBy.NoMemory l.0, l.1)
    left-by words NoneKept (RunsOn.Parsed matches is run) =
        let l = left-parsed matches NoneKept run in
        (elim l.0 [ inl parsed ↦ IsLeftBy.Parsed matches is parsed | inr none ↦ IsLeftBy.NoMemory none ], l.1)

-- what is left in the end, where a flush changes nothing
pub left-flushed : {W P J : Type 0} (p : Programs P J) (device : W → Device) (Quiet : W → Type 0) (flushes : W → Bool → W → Type 0)
    (words : List Text) (host after : Memory) (out err : Device) (out' : W) (err' : Device) (status : ℕ)
    → ((old new : W) (done : Bool) → flushes old done new → (done ≡ true) × (new ≡ old))
    → Finishes p.name device flushes (λ now err_now n. RunsOn p words OpensIn bytes_of no_failures none_failed host after out (device now) err err_now n (Quiet now)) out' err' status
    → RunsOn p words OpensIn bytes_of no_failures none_failed host after out (device out') err err' status (Quiet out')
left-flushed p device Quiet flushes words host after out err out' err' status flush (Finishes.Flushed before leaves flushed held same) =
    subst (λ o. RunsOn p words OpensIn bytes_of no_failures none_failed host after out (device o) err err' status (Quiet o)) (sym (flush before out' true flushed).1) leaves
left-flushed p device Quiet flushes words host after out err out' err' status flush (Finishes.Failed before leaves machine fails held same) =
    let bad : false ≡ true = (flush before out' false fails).0 in cc
left-flushed p device Quiet flushes words host after out err out' err' status flush
    (Finishes.Unflushed before shown was leaves below fails held same then status_is) = let bad : false ≡ true = (flush before out' false fails).0 in
    cc

pub left-in-memory : {W P J : Type 0} (p : Programs P J) (device : W → Device) (Quiet : W → Type 0) (flushes : W → Bool → W → Type 0)
    (words : List Text) (files : List MemoryFile) (input : Text) (host after : Memory) (left : End) (out' : W) (out err : List ℕ) (a b : Bool)
    (status : ℕ) (out0 err0 err1 : Device)
    → ((old new : W) (done : Bool) → flushes old done new → (done ≡ true) × (new ≡ old)) → device out' ≡ holding a out → host.files.now ≡ files
    → host.input.now ≡ input → noted host ≡ [] → LeftAs a b [] [] left after out err status
    → out0 ≡ holding false [] → err0 ≡ holding false [] → err1 ≡ holding b err
    → Finishes p.name device flushes (λ now err_now n. RunsOn p words OpensIn bytes_of no_failures none_failed host after out0
    (device now) err0 err_now n (Quiet now)) out' err1 status → IsLeftBy p words files input left
left-in-memory p device Quiet flushes words files input host after left out' out err a b status out0 err0 err1 flush is f i n holds e0 e1 e2 fin =
    let one = left-flushed p device Quiet flushes words host after out0 err0 out' err1 status flush fin in
    (left-by a b [] [] p files input host after left out err status f i n holds words (Quiet out')
    (subst (λ d. RunsOn p words OpensIn bytes_of no_failures none_failed host after (holding false []) (holding a out) (holding false []) d status (Quiet out')) e2
    (subst (λ d. RunsOn p words OpensIn bytes_of no_failures none_failed host after (holding false []) (holding a out) d err1 status (Quiet out')) e1
    (subst (λ d. RunsOn p words OpensIn bytes_of no_failures none_failed host after d (holding a out) err0 err1 status (Quiet out')) e0
    (subst (λ d. RunsOn p words OpensIn bytes_of no_failures none_failed host after out0 d err0 err1 status (Quiet out')) is one))))).0
