-- A merged head is read again as what it was written from.
use Rattle.vcd_laws.proofs.Cited.{◌≡◌, ℕ, ◌+◌, ◌<◌, ◌≤◌, ◌^◌, true, false, List, [], ◌∷◌, ◌++◌, length, map, flat_map, sum_by, Some, None, ◌⊎◌, inl, inr, refl, sym, ap, ◌∙◌, subst, arith, AllByRecursion, append_assoc, append-nil, sum_by-cons, is_empty, each_after, Keyword, scale_text, Input, Stream, tokens_of, IdCode, variables_of, code_of, codes_of, Header, header_of, three_lines, end_line, least_exponent, Selected, HeaderPhrase, Reading, phrases_of, texts_of, header_fault_of, declared_code, headers_of, Opened, dumps_of, stream_over, renamed_code, merged_codes, OpenAll, most_declared, IsShallow, merged_variable, IsMergedHead, MergedHeadIsReadBack, texts_from, texts_of-tokens, AreCodes, IsGoodInput, inputs_good, declared_in_merge, AreParts, head_of, reads_head, header_back, has_none}
use Rattle.vcd_model.specs.HeadText.{merged_head}
use Rattle.vcd_model.specs.Selection.{selected}
use Rattle.vcd_model.specs.Reading.{reading_of}
use Rattle.vcd_model.specs.HeaderReading.{read_header}
use Rattle.vcd_laws.proofs.MergeDumps.{headers_are}
use Rattle.vcd_laws.proofs.HeadersGood.{IsGoodHeader, headers_good}
use Rattle.vcd_laws.proofs.WrittenCodes.{In, in_left, in_right, from_contained, to_contained, in_map, from_map, from_codes_of, to_codes_of, found_in}
use Rattle.vcd_laws.proofs.HeadBack.{variables_are, in_selected, no_fault}
use Rattle.vcd_laws.proofs.MergedHead.{CanMerge, all_rows, all_text, merged_selected, all_more, AreAllMore, least_good, all_in}

-- ---- elements

pub in_either : {X : Type 0} (xs ys : List X) (x : X) → In x (xs ++ ys) → In x xs ⊎ In x ys
in_either [] ys x i = inr i
in_either (y ∷ xs) ys x (inl e) = inl (inl e)
in_either (y ∷ xs) ys x (inr i) = elim (in_either xs ys x i) [ inl j ↦ inl (inr j) | inr j ↦ inr j ]

-- ---- codes

abbrev codes_under : List Header → Header → List IdCode
codes_under earlier h = map (renamed_code earlier h) h.codes

abbrev selected_all : List Header → List Header → List Selected
selected_all earlier hs = flat_map (λ vs. vs) (each_after merged_selected earlier hs)

abbrev codes_all : List Header → List Header → List IdCode
codes_all earlier hs = flat_map (λ cs. cs) (each_after codes_under earlier hs)

one_there : (earlier : List Header) (h : Header) (s : Selected) → CanMerge h
    → In s (merged_selected earlier h) → In (code_of s.variable) (codes_under earlier h)
one_there earlier h s can i =
    let from = from_map (merged_variable earlier h) (selected [] h.declarations) s i in
    let good = can.good in
    let own : In (code_of from.0.variable) h.codes =
    subst (In (code_of from.0.variable)) (sym good.codes)
    (to_codes_of h.declarations from.0.variable good.declared
    (in_selected [] h.declarations from.0 from.1)) in
    subst (λ (c : IdCode). In c (codes_under earlier h))
    (ap (λ (x : Selected). code_of x.variable) (sym from.2))
    (in_map (renamed_code earlier h) h.codes (code_of from.0.variable) own)

all_there : (hs earlier : List Header) (s : Selected) → AllByRecursion CanMerge hs
    → In s (selected_all earlier hs) → In (code_of s.variable) (codes_all earlier hs)
all_there [] earlier s can i = absurd i
all_there (h ∷ hs) earlier s can i =
    by_part (in_either (merged_selected earlier h) (selected_all (earlier ++ h ∷ []) hs) s i)
    (all_there hs (earlier ++ h ∷ []) s can.1)
  where
    by_part : In s (merged_selected earlier h) ⊎ In s (selected_all (earlier ++ h ∷ []) hs)
        → (In s (selected_all (earlier ++ h ∷ []) hs)
        → In (code_of s.variable) (codes_all (earlier ++ h ∷ []) hs))
        → In (code_of s.variable) (codes_all earlier (h ∷ hs))
    by_part (inl j) more = in_left (codes_under earlier h) (codes_all (earlier ++ h ∷ []) hs)
        (code_of s.variable) (one_there earlier h s can.0 j)
    by_part (inr j) more = in_right (codes_under earlier h) (codes_all (earlier ++ h ∷ []) hs)
        (code_of s.variable) (more j)

-- a merged variable with this code
abbrev Carried : IdCode → List Selected → Type 0
Carried c vs = (s : Selected) × In s vs × (c ≡ code_of s.variable)

one_back : (earlier : List Header) (h : Header) (c : IdCode) → CanMerge h
    → In c (codes_under earlier h) → Carried c (merged_selected earlier h)
one_back earlier h c can i =
    let good = can.good in
    let from = from_map (renamed_code earlier h) h.codes c i in
    let v = from_codes_of h.declarations from.0 (subst (In from.0) good.codes from.1) in
    let s = from_map (λ (x : Selected). x.variable) (selected [] h.declarations) v.0
    (subst (In v.0) (sym (variables_are h.declarations)) v.1) in (
      merged_variable earlier h s.0,
      in_map (merged_variable earlier h) (selected [] h.declarations)
          s.0 s.1,
      from.2 ∙ ap (renamed_code earlier h) (v.2 ∙ ap code_of s.2),
    )

all_back : (hs earlier : List Header) (c : IdCode) → AllByRecursion CanMerge hs
    → In c (codes_all earlier hs) → Carried c (selected_all earlier hs)
all_back [] earlier c can i = absurd i
all_back (h ∷ hs) earlier c can i =
    by_part (in_either (codes_under earlier h) (codes_all (earlier ++ h ∷ []) hs) c i)
    (all_back hs (earlier ++ h ∷ []) c can.1)
  where
    by_part : In c (codes_under earlier h) ⊎ In c (codes_all (earlier ++ h ∷ []) hs)
        → (In c (codes_all (earlier ++ h ∷ []) hs)
        → Carried c (selected_all (earlier ++ h ∷ []) hs))
        → Carried c (selected_all earlier (h ∷ hs))
    by_part (inl j) more = let s = one_back earlier h c can.0 j in (
      s.0,
      in_left (merged_selected earlier h) (selected_all (earlier ++ h ∷ []) hs) s.0 s.1,
      s.2,
    )
    by_part (inr j) more = let s = more j in (
      s.0,
      in_right (merged_selected earlier h) (selected_all (earlier ++ h ∷ []) hs) s.0 s.1,
      s.2,
    )

-- where a merged code is from
pub record IsFrom (before hs : List Header) (c : IdCode) : Type 0 where
  pub front : List Header
  pub h : Header
  pub later : List Header
  pub parts : hs ≡ front ++ h ∷ later
  pub old : IdCode
  pub there : In old h.codes
  pub new : c ≡ renamed_code (before ++ front) h old

pub from_one : (hs before : List Header) (c : IdCode) → In c (codes_all before hs)
    → IsFrom before hs c
from_one [] before c i = absurd i
from_one (h ∷ hs) before c i =
    by_part (in_either (codes_under before h) (codes_all (before ++ h ∷ []) hs) c i)
    (from_one hs (before ++ h ∷ []) c)
  where
    by_part : In c (codes_under before h) ⊎ In c (codes_all (before ++ h ∷ []) hs)
        → (In c (codes_all (before ++ h ∷ []) hs) → IsFrom (before ++ h ∷ []) hs c)
        → IsFrom before (h ∷ hs) c
    by_part (inl j) more = let f = from_map (renamed_code before h) h.codes c j in record {
      front = [];
      h = h;
      later = hs;
      parts = refl;
      old = f.0;
      there = f.1;
      new = f.2
          ∙ ap (λ l. renamed_code l h f.0) (sym (append-nil before));
    }
    by_part (inr j) more = let f = more j in record {
      front = h ∷ f.front;
      h = f.h;
      later = f.later;
      parts = ap (λ l. h ∷ l) f.parts;
      old = f.old;
      there = f.there;
      new = f.new
          ∙ ap (λ l. renamed_code l f.h f.old) (append_assoc before (h ∷ []) f.front);
    }

all_codes : (hs : List Header) → AllByRecursion CanMerge hs
    → AllByRecursion (λ h. AreCodes h.codes) hs
all_codes [] can = tt
all_codes (h ∷ hs) can = let c = can.0 in (c.found, all_codes hs can.1)

codes_split : (front later : List Header) (h : Header)
    → AllByRecursion (λ x. AreCodes x.codes) (front ++ h ∷ later)
    → AllByRecursion (λ x. AreCodes x.codes) front × AreCodes h.codes
codes_split [] later h a = (tt, a.0)
codes_split (x ∷ front) later h a = let s = codes_split front later h a.1 in ((a.0, s.0), s.1)

pub merged_found : (hs : List Header) → AllByRecursion CanMerge hs
    → AllByRecursion (λ c. declared_code (merged_codes hs) c.text ≡ Some c) (merged_codes hs)
merged_found hs can = all_in (λ (c : IdCode). declared_code (merged_codes hs) c.text ≡ Some c)
    (merged_codes hs) (λ c i.
    let f = from_one hs [] c i in
    let are = codes_split f.front f.later f.h
    (subst (AllByRecursion (λ (x : Header). AreCodes x.codes)) f.parts (all_codes hs can)) in
    let at = declared_in_merge f.front f.later f.h f.old are.0 are.1
    (found_in f.h.codes f.old are.1 f.there) in
    subst (λ (d : IdCode). declared_code (merged_codes hs) d.text ≡ Some d) (sym f.new)
    (subst (λ (l : List Header). declared_code (merged_codes l)
    (renamed_code f.front f.h f.old).text ≡ Some (renamed_code f.front f.h f.old)) (sym f.parts)
    at))

-- ---- the head

abbrev pub scaled : List Header → Header
scaled hs = record {
  declarations = [];
  codes = [];
  date = [];
  version = [];
  scale = Some (least_exponent hs);
}

pub scaled_parts : (hs : List Header) → AllByRecursion CanMerge hs → AreParts (scaled hs)
scaled_parts hs can = record {
  dates = [];
  date = refl;
  date_words = tt;
  date_none = tt;
  versions = [];
  version = refl;
  version_words = tt;
  version_none = tt;
  scale = least_good hs can;
}

pub merged_is_head : (hs : List Header) → AllByRecursion CanMerge hs
    → merged_head hs ≡ head_of (scaled hs) (all_rows [] hs)
unfolding merged_head
merged_is_head hs can =
    let good = least_good hs can in
    let some : is_empty (scale_text (least_exponent hs)) ≡ false =
    filled (scale_text (least_exponent hs)) good.filled in
    rw some (ap (λ l. three_lines Keyword.Timescale (scale_text (least_exponent hs)) ++ l
    ++ end_line) (all_text [] hs))
  where
    filled : (text : List ℕ) → 0 < length text → is_empty text ≡ false
    filled [] h = absurd (omega arith)
    filled (b ∷ text) h = refl

merged_says : (hs : List Header) (can : AllByRecursion CanMerge hs) → AreAllMore [] hs []
    → IsMergedHead hs (record {
      declarations = all_rows [] hs;
      codes = codes_of (all_rows [] hs);
      date = [];
      version = [];
      scale = Some (least_exponent hs);
    })
unfolding selected
merged_says hs can more =
    let rows = all_rows [] hs in
    record {
      date = refl;
      version = refl;
      scale = refl;
      variables = more.chosen;
      codes = λ c. (
        λ i.
            let v = from_codes_of rows c (from_contained (codes_of rows) c i) in
            let s = from_map (λ (x : Selected). x.variable) (selected_all [] hs) v.0
            (subst (In v.0) (sym (variables_are rows)
            ∙ ap (map (λ (x : Selected). x.variable)) more.chosen) v.1) in
            to_contained (merged_codes hs) c (subst (λ (d : IdCode). In d (merged_codes hs))
            (sym (v.2 ∙ ap code_of s.2)) (all_there hs [] s.0 can s.1)),
        λ i.
            let s = all_back hs [] c can (from_contained (merged_codes hs) c i) in
            let v : In s.0.variable (variables_of rows) =
            subst (In s.0.variable) (ap (map (λ (x : Selected). x.variable)) (sym more.chosen)
            ∙ variables_are rows) (in_map (λ (x : Selected). x.variable) (selected_all [] hs)
            s.0 s.1) in
            to_contained (codes_of rows) c (subst (λ (d : IdCode). In d (codes_of rows)) (sym s.2)
            (to_codes_of rows s.0.variable more.declared v)),
      );
    }

pub record IsMergedRead (hs : List Header) (stream : Stream) (r : Reading HeaderPhrase)
    (text : List ℕ) : Type 0 where
  pub whole : header_fault_of stream r ≡ None
  pub head : IsMergedHead hs (header_of (phrases_of r.placed))
  pub left : texts_of r.rest ≡ texts_of (tokens_of text)
  pub rows : (header_of (phrases_of r.placed)).declarations ≡ all_rows [] hs

pub many : (hs : List Header) → length hs ≤ sum_by (λ h. most_declared h + 2) hs
many [] = omega arith
many (h ∷ hs) = let m = many hs in let s = sum_by-cons (λ (x : Header). most_declared x + 2) h hs in
    omega arith

pub merged_read : (hs : List Header) (most : ℕ) (stream : Stream) (text : List ℕ)
    → AllByRecursion CanMerge hs → sum_by (λ h. most_declared h + 2) hs ≤ most → most < 2 ^ 63
    → texts_of stream.tokens ≡ texts_from true (merged_head hs ++ text)
    → IsMergedRead hs stream (read_header most stream) text
unfolding read_header reading_of
merged_read hs most stream text can few small e =
    let n = many hs in
    let more = all_more hs [] [] can (record { opens = has_none; numbered = tt }) (omega arith) in
    let rows = all_rows [] hs in
    let parts = scaled_parts hs can in
    let fewer = more.few in
    let all = reads_head most (scaled hs) parts rows text stream.tokens more.declared (omega arith)
    (e ∙ ap (λ l. texts_from true (l ++ text)) (merged_is_head hs can)) in
    let back : header_of (phrases_of (read_header most stream).placed) ≡ record {
      declarations = rows;
      codes = codes_of rows;
      date = [];
      version = [];
      scale = Some (least_exponent hs);
    } = ap header_of all.phrases
    ∙ header_back (scaled hs) parts rows in
    record {
      whole = no_fault stream (read_header most stream) all.ending;
      head = subst (IsMergedHead hs) (sym back) (merged_says hs can more);
      left = all.texts ∙ sym (texts_of-tokens text);
      rows = ap (λ (k : Header). k.declarations) back;
    }

-- ---- opened inputs

can_merge : (os : List Opened) → AllByRecursion (λ (o : Opened). IsGoodHeader o.header) os
    → AllByRecursion IsGoodInput os → AllByRecursion IsShallow (map (λ o. o.header) os)
    → AllByRecursion CanMerge (map (λ o. o.header) os)
can_merge [] a b c = tt
can_merge (o ∷ os) a b c = let i = b.0 in
    (record { good = a.0; found = i.codes; shallow = c.0 }, can_merge os a.1 b.1 c.1)

pub all_can : (limit : ℕ) (inputs : List Input) (os : List Opened) → OpenAll limit inputs os
    → AllByRecursion IsShallow (headers_of (dumps_of os))
    → AllByRecursion CanMerge (headers_of (dumps_of os))
all_can limit inputs os opens shallow =
    subst (AllByRecursion CanMerge) (sym (headers_are os))
    (can_merge os (headers_good limit [] inputs os opens) (inputs_good limit [] inputs os opens)
    (subst (AllByRecursion IsShallow) (headers_are os) shallow))

pub merged_head_is_read_back : MergedHeadIsReadBack
merged_head_is_read_back limit inputs os text most opens shallow few small =
    let hs = headers_of (dumps_of os) in
    let whole = merged_head hs ++ text in
    let r = merged_read hs most (stream_over whole) text (all_can limit inputs os opens shallow) few
    small (texts_of-tokens whole) in
    record { whole = r.whole; says = r.head; left = r.left }
