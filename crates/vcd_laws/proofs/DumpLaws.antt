-- What runs with status 0 have written is a dump.
use Rattle.vcd_laws.proofs.Cited.{Err, IsTrue, List, None, Ok, Option, Result, Some, [], ap, arith, bytes_eq, false, filter, length, refl, subst, sym, true, ℕ, ◌*◌, ◌++◌, ◌∙◌, ◌∷◌, ◌≡◌, ◌≤◌, bytes_eq-Decides, AllByRecursion, CutIsADump, IsDumpFor, IsMergedDump, MergeIsADump, PickIsADump, input_of, IsHeadFor, IsMergedHead, IsShallow, most_declared, most_merged, KeepsValues, MergeKeepsValues, OpenAll, Opens, written_by, all_kept, find-filter, AreCodes, texts_from, texts_of-tokens, written, declared_code, body_fault_of, body_items, read_body, IdCode, Variable, has_text, head_for, merged_head, Header, header_of, header_fault_of, read_header, value_at, Input, BodyItem, Want, outcome, merged_codes, read_text, renamed_code, stream_over, Dump, factor, first_fault, headers_of, Opened, declarations_allowed, dumps_of, fault_in, items_in, Fault, phrases_of, texts_of, Selected, selected, selects_code, Moment, moment_ticks, Stream, comes_before, end_at, first_halt, line_at, token_places}
use Rattle.vcd_model.specs.Tokens.{tokens_of, given_places, stream_of}
use Rattle.vcd_model.specs.Outcome.{open_from, body_of}
use Rattle.vcd_laws.proofs.OpenedBodies.{opens_good}
use Rattle.vcd_laws.proofs.HeadersGood.{IsGoodHeader}
use Rattle.vcd_laws.proofs.WrittenCodes.{In, from_filter, to_filter, from_contained, to_contained, from_map, any_of, from_codes_of, found_same}
use Rattle.vcd_laws.proofs.SameReadings.{bodies_alike, same_items, same_whole}
use Rattle.vcd_laws.proofs.HeadBack.{marks, own_code, variables_are, head_read, IsHeadRead, opens_header}
use Rattle.vcd_laws.proofs.MergedHead.{all_rows}
use Rattle.vcd_laws.proofs.MergedBack.{merged_found, IsMergedRead, merged_read, all_can}
use Rattle.vcd_laws.proofs.RunLaws.{same_opened, pick_run_keeps, cut_run_keeps, merge_run_keeps}
use Rattle.vcd_laws.proofs.ShortBodies.{pick_is_not_halted}
use Rattle.vcd_laws.proofs.CutShort.{cut_is_not_halted}
use Rattle.vcd_laws.proofs.MergeShort.{merge_is_not_halted}

-- ---- a stream that is not halted

all_given : (text places : List ℕ) → filter (λ i. comes_before (end_at text i) None) places ≡ places
all_given text [] = refl
all_given text (i ∷ places) = ap (λ l. i ∷ l) (all_given text places)

pub clean_stream : (limit : ℕ) (text : List ℕ) → first_halt limit (input_of text) ≡ None
    → stream_of limit (input_of text) ≡ record {
      tokens = tokens_of text;
      halt = None;
      line = line_at text (length text);
    }
unfolding stream_of given_places tokens_of
clean_stream limit text e = rw (e, all_given text (token_places text)) refl

-- a stream whose header has no fault opens
abbrev opened_from : Stream → Opened
opened_from stream = record {
  header = header_of (phrases_of (read_header declarations_allowed stream).placed);
  stream = stream;
  rest = (read_header declarations_allowed stream).rest;
}

no_fault_opens : (o : Opened) (f : Option Fault) → f ≡ None
    → ◌≡◌ {A = Result (List Opened) (ℕ × Fault)}
    (elim f [ Some g ↦ Err (0, g) | None ↦ Ok (o ∷ []) ]) (Ok (o ∷ []))
no_fault_opens o f e = rw e refl

opens_own : (limit : ℕ) (input : Input)
    → header_fault_of (stream_of limit input)
    (read_header declarations_allowed (stream_of limit input)) ≡ None
    → Opens limit input (opened_from (stream_of limit input))
unfolding open_from
opens_own limit input none =
    no_fault_opens (opened_from (stream_of limit input))
    (header_fault_of (stream_of limit input) (read_header declarations_allowed
    (stream_of limit input))) none

pub opens_stream : (limit : ℕ) (input : Input) (stream : Stream) → stream_of limit input ≡ stream
    → header_fault_of stream (read_header declarations_allowed stream) ≡ None
    → Opens limit input (opened_from stream)
opens_stream limit input stream e none =
    subst (λ (s : Stream). Opens limit input (opened_from s)) e
    (opens_own limit input (subst (λ (s : Stream). header_fault_of s
    (read_header declarations_allowed s) ≡ None) (sym e) none))

-- ---- a text that is read again

-- a whole text is read again: its header, and a body without a fault
pub record IsReadAgain (limit : ℕ) (whole text : List ℕ) (declared : List IdCode)
    (h : Header) : Type 0 where
  pub dump : Opened
  pub opens : Opens limit (input_of whole) dump
  pub header : dump.header ≡ h
  pub body : fault_in dump ≡ None
  pub items : items_in dump ≡ body_items (read_text declared text)

-- the stream of a text that nothing halts
abbrev pub whole_stream : List ℕ → Stream
whole_stream whole = record {
  tokens = tokens_of whole;
  halt = None;
  line = line_at whole (length whole);
}

-- if its header has no fault and ends before a text, and finds the codes of that text's body
pub read_again : (limit : ℕ) (whole text : List ℕ) (declared : List IdCode)
    → first_halt limit (input_of whole) ≡ None
    → header_fault_of (whole_stream whole) (read_header declarations_allowed (whole_stream whole))
    ≡ None
    → texts_of (read_header declarations_allowed (whole_stream whole)).rest
    ≡ texts_of (tokens_of text)
    → (AreCodes (header_of (phrases_of (read_header declarations_allowed
    (whole_stream whole)).placed)).codes → (name : List ℕ) → declared_code (header_of (phrases_of (read_header declarations_allowed
    (whole_stream whole)).placed)).codes name ≡ declared_code declared name)
    → body_fault_of (stream_over text) (read_text declared text) ≡ None
    → IsReadAgain limit whole text declared (header_of (phrases_of
    (read_header declarations_allowed (whole_stream whole)).placed))
unfolding body_of
read_again limit whole text declared given none left same body =
    let stream = whole_stream whole in
    let r = read_header declarations_allowed stream in
    let dump : Opened = record {
      header = header_of (phrases_of r.placed);
      stream = stream;
      rest = r.rest;
    } in
    let opens : Opens limit (input_of whole) dump =
    opens_stream limit (input_of whole) stream (clean_stream limit whole given) none in
    let good = opens_good limit (input_of whole) dump opens in
    let alike = bodies_alike dump.header.codes declared (same good.codes) r.rest (tokens_of text) left in
    record {
      dump = dump;
      opens = opens;
      header = refl;
      body = same_whole stream (stream_over text) (read_body dump.header.codes r.rest)
          (read_text declared text) refl alike body;
      items = same_items (read_body dump.header.codes r.rest) (read_text declared text) alike;
    }

-- nothing halts the reading of a text, and a head for this header has no more declarations than are
-- allowed
abbrev pub CanOpen : ℕ → Header → List ℕ → Type 0
CanOpen limit h text = (first_halt limit (input_of text) ≡ None)
    × (most_declared h ≤ declarations_allowed)

-- ---- one input

-- the codes of the text after a head: those of the header that a selected variable carries
pub record AreSelectedCodes (h : Header) (names : List (List ℕ)) (declared : List IdCode) : Type 0
  where
    pub found : AllByRecursion (λ c. declared_code declared c.text ≡ Some c) declared
    pub there : (c : IdCode) → In c declared
        → In c h.codes × IsTrue (selects_code (selected names h.declarations) c)
    pub back : (c : IdCode) → In c h.codes → IsTrue (selects_code (selected names h.declarations) c)
        → In c declared

-- such a dump, and its items
pub record IsReadDump (limit : ℕ) (o : Opened) (names : List (List ℕ)) (declared : List IdCode)
    (InTime : ℕ → Type 0) (text whole : List ℕ) : Type 0 where
  pub dump : IsDumpFor limit o names InTime whole
  pub items : items_in dump.dump ≡ body_items (read_text declared text)
  pub rows : dump.dump.header.declarations ≡ written own_code (marks names o.header.declarations)
      o.header.declarations

pub is_dump : (limit : ℕ) (input : Input) (o : Opened) (names : List (List ℕ))
    (declared : List IdCode) (InTime : ℕ → Type 0) (text whole : List ℕ) → Opens limit input o
    → AreSelectedCodes o.header names declared
    → whole ≡ head_for o.header names ++ text → KeepsValues declared text InTime (items_in o)
    → CanOpen limit o.header whole → IsReadDump limit o names declared InTime text whole
is_dump limit input o names declared InTime text whole opens are e keeps can =
    let good = opens_good limit input o opens in
    let r = read_header declarations_allowed (whole_stream whole) in
    let read : IsHeadRead o.header names (whole_stream whole) r text =
    head_read o.header names declarations_allowed (whole_stream whole) text
    (opens_header limit input o opens) good.codes can.1
    (texts_of-tokens whole ∙ ap (texts_from true) e) in
    let k = header_of (phrases_of r.placed) in
    let there = let head = read.head in head.codes in
    let back : IsReadAgain limit whole text declared k =
    read_again limit whole text declared can.0 read.whole read.left
    (λ fine. found_same k.codes declared fine.found are.found
    (λ c i. let a = (there c).0 (to_contained k.codes c i) in
    are.back c (from_contained o.header.codes c a.0) a.1)
    (λ c i. let a = are.there c i in
    from_contained k.codes c ((there c).1
    (to_contained o.header.codes c a.0, a.1)))) keeps.whole in
    let head : IsHeadFor o.header names back.dump.header =
    subst (IsHeadFor o.header names) (sym back.header) read.head in
    let codes = head.codes in
    record {
      dump = record {
        dump = back.dump;
        opens = back.opens;
        head = head;
        whole = back.body;
        values = λ c t i quiet in_time.
            let a = (codes c).0 i in
            ap (λ (l : List BodyItem). value_at l c t) back.items
            ∙ keeps.values c t (to_contained declared c
            (are.back c (from_contained o.header.codes c a.0) a.1)) quiet in_time;
      };
      items = back.items;
      rows = ap (λ (h : Header). h.declarations) back.header ∙ read.rows;
    }

-- ---- `pick` and `cut`

pub picked_codes : (h : Header) (names : List (List ℕ)) → AreCodes h.codes
    → AreSelectedCodes h names (filter (selects_code (selected names h.declarations)) h.codes)
picked_codes h names found =
    let test = selects_code (selected names h.declarations) in
    record {
      found = all_kept (λ (c : IdCode). declared_code h.codes c.text ≡ Some c)
          (λ (c : IdCode). declared_code (filter test h.codes) c.text ≡ Some c) test h.codes
          (λ c f e. find-filter (has_text c.text) test h.codes c f e) found.found;
      there = from_filter test h.codes;
      back = to_filter test h.codes;
    }

-- without names all codes are selected
pub own_codes : (h : Header) → IsGoodHeader h → AreCodes h.codes → AreSelectedCodes h [] h.codes
own_codes h good found = record {
  found = found.found;
  there = λ c i.
      let v = from_codes_of h.declarations c (subst (In c) good.codes i) in
      let s = from_map (λ (x : Selected). x.variable) (selected [] h.declarations) v.0
      (subst (In v.0) (sym (variables_are h.declarations)) v.1) in (
        i,
        any_of (λ (x : Selected). bytes_eq x.variable.code c.text) (selected [] h.declarations)
            s.0 s.1 ((bytes_eq-Decides s.0.variable.code c.text).1
            (ap (λ (x : Variable). x.code) (sym s.2) ∙ ap (λ (d : IdCode). d.text) (sym v.2))),
      );
  back = λ c i e. i;
}

pub pick_is_a_dump : PickIsADump
pick_is_a_dump limit name names input o can =
    let run = pick_run_keeps limit name names input can.clean in
    let same : run.0 ≡ o = same_opened limit input run.0 o run.1 can.opens in
    let made = λ (p : Opened). CanOpen limit p.header
    (written_by (Want.Pick names) limit name input)
    → IsDumpFor limit p names (λ t. Unit {0}) (written_by (Want.Pick names) limit name input) in
    let behind = run.3 in
    let good = opens_good limit input run.0 run.1 in
    let make : made run.0 = λ is.
    (is_dump limit input run.0 names (filter (selects_code
    (selected names run.0.header.declarations)) run.0.header.codes) (λ t. Unit {0}) behind.0
    (written_by (Want.Pick names) limit name input) run.1
    (picked_codes run.0.header names good.codes) behind.1 behind.2 is).dump in
    subst made same make (pick_is_not_halted limit name names input o can, can.few)

-- the times of a cut in ticks, and such a dump
abbrev CutDump : ℕ → Moment → Moment → List ℕ → Opened → Type 0
CutDump limit from to text o =
    (a : ℕ) × (b : ℕ) × (moment_ticks o.header.scale from true ≡ Ok a)
    × (moment_ticks o.header.scale to false ≡ Ok b)
    × IsDumpFor limit o [] (λ t. (a ≤ t) × (t ≤ b)) text

pub cut_is_a_dump : CutIsADump
cut_is_a_dump limit name from to input o job can =
    let run = cut_run_keeps limit name from to input job can.clean in
    let text = written_by (Want.Cut from to) limit name input in
    let same : run.0 ≡ o = same_opened limit input run.0 o run.3 can.opens in
    let made = λ (p : Opened). CanOpen limit p.header text → CutDump limit from to text p in
    let a = run.1 in
    let b = run.2 in
    let behind = run.6 in
    let good = opens_good limit input run.0 run.3 in
    let make : made run.0 = λ is. (
      a,
      b,
      run.4,
      run.5,
      (is_dump limit input run.0 [] run.0.header.codes (λ t. (a ≤ t) × (t ≤ b)) behind.0 text run.3
          (own_codes run.0.header (opens_header limit input run.0 run.3) good.codes) behind.1
          behind.2 is).dump,
    ) in
    subst made same make (cut_is_not_halted limit name from to input o job can, can.few)

-- ---- `merge`

-- nothing halts the reading of a text, no scope of an input is too deep, and there are no more
-- declarations than are allowed
pub record CanAllOpen (limit : ℕ) (hs : List Header) (text : List ℕ) : Type 0 where
  pub given : first_halt limit (input_of text) ≡ None
  pub shallow : AllByRecursion IsShallow hs
  pub few : most_merged hs ≤ declarations_allowed

-- such a dump, and its items
pub record IsReadMerge (limit : ℕ) (ds : List Dump) (text whole : List ℕ) : Type 0 where
  pub dump : IsMergedDump limit ds whole
  pub items : items_in dump.dump ≡ body_items (read_text (merged_codes (headers_of ds)) text)
  pub rows : dump.dump.header.declarations ≡ all_rows [] (headers_of ds)

pub is_merged_dump : (limit : ℕ) (inputs : List Input) (os : List Opened) (text whole : List ℕ)
    → OpenAll limit inputs os → whole ≡ merged_head (headers_of (dumps_of os)) ++ text
    → MergeKeepsValues (dumps_of os) text
    → CanAllOpen limit (headers_of (dumps_of os)) whole → IsReadMerge limit (dumps_of os) text whole
is_merged_dump limit inputs os text whole opens e keeps can =
    let ds = dumps_of os in
    let hs = headers_of ds in
    let r = read_header declarations_allowed (whole_stream whole) in
    let all = all_can limit inputs os opens can.shallow in
    let read : IsMergedRead hs (whole_stream whole) r text =
    merged_read hs declarations_allowed (whole_stream whole) text all can.few (omega arith)
    (texts_of-tokens whole ∙ ap (texts_from true) e) in
    let k = header_of (phrases_of r.placed) in
    let there = let head = read.head in head.codes in
    let back : IsReadAgain limit whole text (merged_codes hs) k =
    read_again limit whole text (merged_codes hs) can.given read.whole read.left
    (λ fine. found_same k.codes (merged_codes hs) fine.found (merged_found hs all)
    (λ c i. from_contained (merged_codes hs) c ((there c).0 (to_contained k.codes c i)))
    (λ c i. from_contained k.codes c
    ((there c).1 (to_contained (merged_codes hs) c i)))) keeps.whole in
    record {
      dump = record {
        dump = back.dump;
        opens = back.opens;
        head = subst (IsMergedHead hs) (sym back.header) read.head;
        whole = back.body;
        values = λ earlier later d split c t i quiet.
            ap (λ (l : List BodyItem). value_at l (renamed_code (headers_of earlier) d.header c)
            (factor hs d.header * t)) back.items
            ∙ keeps.values earlier later d split c t i quiet;
      };
      items = back.items;
      rows = ap (λ (h : Header). h.declarations) back.header ∙ read.rows;
    }

same_all : (limit : ℕ) (inputs : List Input) (os ps : List Opened) → OpenAll limit inputs os
    → OpenAll limit inputs ps → os ≡ ps
same_all limit inputs os ps a b = let c = sym a ∙ b in cc

pub merge_is_a_dump : MergeIsADump
merge_is_a_dump limit names inputs os can =
    let run = merge_run_keeps limit names inputs can.clean in
    let text = (outcome Want.Merge limit names inputs).output in
    let same : run.0 ≡ os = same_all limit inputs run.0 os run.1 can.opens in
    let made = λ (ps : List Opened). CanAllOpen limit (headers_of (dumps_of ps)) text
    → (first_fault (dumps_of ps) ≡ None) × IsMergedDump limit (dumps_of ps) text in
    let behind = run.3 in
    let make : made run.0 = λ is. (
      run.2,
      (is_merged_dump limit inputs run.0 behind.0 text run.1
          behind.1 behind.2 is).dump,
    ) in
    subst made same make (record {
      given = merge_is_not_halted limit names inputs os can;
      shallow = can.shallow;
      few = can.few;
    })
