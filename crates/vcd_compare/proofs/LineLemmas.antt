-- The lines of a comparison, text by text.
use Rattle.vcd_compare.proofs.Cited.{zero, ◌≡◌, ℕ, suc, ◌+◌, ◌/◌, ◌<◌, ◌==◌, Bool, true, false, cond, ◌&&◌, List, [], ◌∷◌, ◌++◌, length, take, drop, slice_get, get_or, flat_map, decimal, codes, Option, Some, refl, sym, ap, subst, ◌∙◌, append-nil, append_assoc, arith, IsErr, Result, option_map, unwrap_or, vec_len, AllZip, Appends, ne_eqb, take-append-drop, flat_map-append, is_empty, words, BodyItem, IdCode, code_of, Header, shown, Asked, Named, Pair, alone_lines, is_triggered, kind_of, kind_shown, state_at, unlike_lines, value_line, Names, alone_in, side, turned, unlike_in, Gains, AppendsSome, appends-first, appends-none, appends-some, appends-twice, takes-failed, takes-twice, states_of, ArePairs, IsUnlikeAt, End, Pairs, Variable, not, full_name, named_by, no_blanks, range_of, tail_of, ◌*◌, IsSomeAnd, IsClassOf, codes_of}
use Rattle.vcd_model.specs.Within.{within_head}
use Rattle.vcd_compare.specs.Pairs.{IsNamedAt}
use Rattle.vcd_compare.specs.LineTexts.{HasCodes}
use Rattle.vcd_compare.specs.Pairs.{both_codes}

-- ---- texts, one after the other, or a line for each of several

-- what stands at an index of two lists of which this holds
pub zip_get : {X Y : Type 0} (R : X → Y → Type 0) (xs : List X) (ys : List Y) (i : ℕ) (d : X) → AllZip R xs ys → i < length xs → (y : Y)
    × (slice_get ys i ≡ Some y) × R (get_or xs i d) y
zip_get R [] ys i d all l = absurd (omega arith)
zip_get R (x ∷ xs) [] i d all l = absurd all
zip_get R (x ∷ xs) (y ∷ ys) zero d all l = (y, refl, all.0)
zip_get R (x ∷ xs) (y ∷ ys) (suc i) d all l = zip_get R xs ys i d all.1 (omega arith)

pub take_next : {X : Type 0} (xs : List X) (i : ℕ) (x : X) → slice_get xs i ≡ Some x → take (i + 1) xs ≡ take i xs ++ x ∷ []
take_next [] i x at = cc
take_next (y ∷ xs) zero x at = let same : y ≡ x = cc in ap (λ z. z ∷ []) same
take_next (y ∷ xs) (suc i) x at = let one : suc i + 1 ≡ suc (i + 1) = omega arith in rw one (ap (λ l. y ∷ l) (take_next xs i x at))

module _ {X : Type 0} (f : X → List ℕ) (old mid new : Option (List ℕ)) (xs : List X) (i : ℕ) (x : X) (at : slice_get xs i ≡ Some x) (front : Appends old mid (flat_map f (take i xs))) where
  next_is : flat_map f (take (i + 1) xs) ≡ flat_map f (take i xs) ++ flat_map f (x ∷ [])
  next_is = ap (flat_map f) (take_next xs i x at) ∙ flat_map-append f (take i xs) (x ∷ [])

  -- that of one more
  pub lines_more : Appends mid new (flat_map f (x ∷ [])) → Appends old new (flat_map f (take (i + 1) xs))
  lines_more line = subst (Appends old new) (sym next_is) (appends-twice old mid new (flat_map f (take i xs)) (flat_map f (x ∷ [])) front line)

  -- a first part of it
  pub lines_cut : AppendsSome mid new (flat_map f (x ∷ [])) → AppendsSome old new (flat_map f xs)
  lines_cut some =
      let rest = flat_map f (drop (i + 1) xs) in
      let whole : flat_map f xs ≡ (flat_map f (take i xs) ++ flat_map f (x ∷ [])) ++ rest =
      ap (flat_map f) (sym (take-append-drop (i + 1) xs)) ∙ flat_map-append f (take (i + 1) xs) (drop (i + 1) xs) ∙ ap (λ l. l ++ rest) next_is in
      subst (AppendsSome old new) (sym whole)
      (appends-first old new (flat_map f (take i xs) ++ flat_map f (x ∷ [])) rest (appends-some old mid new (flat_map f (take i xs)) (flat_map f (x ∷ [])) front some))

  -- the last one, whether its write failed or not
  pub lines_last : {A E : Type 0} (r : Result A E) → take (i + 1) xs ≡ xs → Gains mid new (flat_map f (x ∷ [])) r → Gains old new (flat_map f xs) r
  lines_last r all line = subst (λ l. Gains old new l r) (sym next_is ∙ ap (flat_map f) all) (takes-twice old mid new (flat_map f (take i xs)) (flat_map f (x ∷ [])) r front line)

-- texts, one after the other
abbrev pub text_of : List (List ℕ) → List ℕ
text_of ts = flat_map (λ t. t) ts

-- none of them is written yet
pub texts_none : (ts : List (List ℕ)) (known : Option (List ℕ)) → Appends known known (text_of (take 0 ts))
texts_none ts known = appends-none known

module _ (old mid new : Option (List ℕ)) (ts : List (List ℕ)) (n : ℕ) (t : List ℕ) (at : slice_get ts n ≡ Some t) (front : Appends old mid (text_of (take n ts))) where
  pub texts_more : Appends mid new t → Appends old new (text_of (take (n + 1) ts))
  texts_more line = lines_more (λ t. t) old mid new ts n t at front (subst (Appends mid new) (sym (append-nil t)) line)

  module _ {A E : Type 0} (r : Result A E) (text : List ℕ) (line : text_of ts ≡ text) where
    -- the write of one of them failed
    pub texts_cut : IsErr r → AppendsSome mid new t → Gains old new text r
    texts_cut failed some = subst (λ l. Gains old new l r) line (takes-failed old new (text_of ts) r failed
        (lines_cut (λ t. t) old mid new ts n t at front (subst (AppendsSome mid new) (sym (append-nil t)) some)))

    -- the last one was put
    pub texts_last : take (n + 1) ts ≡ ts → Gains mid new t r → Gains old new text r
    texts_last all puts = subst (λ l. Gains old new l r) line (lines_last (λ t. t) old mid new ts n t at front r all (subst (λ l. Gains mid new l r) (sym (append-nil t)) puts))

-- ---- the state of a code

pub event_is : (cs : List IdCode) (code : ℕ) (a : IdCode) (b : Bool) → slice_get cs code ≡ Some a
    → b ≡ unwrap_or (option_map (λ (c : IdCode). c.event) (slice_get cs code)) false → a.event ≡ b
event_is cs code a b there e = sym (e ∙ ap (λ (o : Option IdCode). unwrap_or (option_map (λ (c : IdCode). c.event) o) false) there)

pub event_shown : (items : List BodyItem) (a : IdCode) (t : ℕ) (b : Bool) → a.event ≡ true → is_triggered 1 items a t ≡ b → cond b (codes "1") (codes "-") ≡ shown (state_at 1 items a t)
event_shown items a t true event is = rw (event, is) refl
event_shown items a t false event is = rw (event, is) refl

-- ---- the line of a pair

abbrev pub state_texts : (one other : List ℕ) → List (List ℕ)
state_texts one other = one ∷ (32 ∷ []) ∷ other ∷ (10 ∷ []) ∷ []

pub state_words : (items : List BodyItem) (p : Pair) (t : ℕ)
    → text_of (state_texts (shown (state_at 1 items (code_of p.one) t)) (shown (state_at 1 items (code_of p.other) t))) ≡ states_of items p t
state_words items p t = simp append_assoc

abbrev pub pair_texts : (time path states : List ℕ) → List (List ℕ)
pair_texts time path states = codes "differs " ∷ time ∷ (32 ∷ []) ∷ path ∷ (32 ∷ []) ∷ states ∷ []

pair_words : (time path one other : List ℕ) → text_of (pair_texts time path (words (one ∷ other ∷ []))) ≡ words (codes "differs" ∷ time ∷ path ∷ one ∷ other ∷ [])
pair_words time path one other = simp (append_assoc, append-nil)

pub pair_line : (items : List BodyItem) (p : Pair) (t : ℕ) (path : List ℕ) → path ≡ p.path
    → text_of (pair_texts (decimal t) path (states_of items p t)) ≡ value_line (side items) (side items) p t
pair_line items p t path e =
    let one : t / 1 ≡ t = omega arith in
    rw (e, one) (pair_words (decimal t) p.path (shown (state_at 1 items (code_of p.one) t)) (shown (state_at 1 items (code_of p.other) t)))

-- ---- the name of a variable

-- the bytes of a text that are no blanks, one after the other
abbrev pub byte_of : ℕ → List ℕ
byte_of b = no_blanks (b ∷ [])

pub bytes_of : (text : List ℕ) → flat_map byte_of text ≡ no_blanks text
bytes_of [] = refl
bytes_of (b ∷ text) = by_test (not (b == 32)) (bytes_of text)
  where
    by_test : (t : Bool) → flat_map byte_of text ≡ no_blanks text → cond t (b ∷ []) [] ++ flat_map byte_of text ≡ cond t (b ∷ no_blanks text) (no_blanks text)
    by_test true more = ap (λ l. b ∷ l) more
    by_test false more = more

abbrev pub name_texts : (path tail : List ℕ) → List (List ℕ)
name_texts path tail = path ∷ no_blanks tail ∷ []

pub name_line : (ranged : Bool) (path own tail name : List ℕ) (v : Variable) → own ≡ path → tail ≡ cond ranged (tail_of v) []
    → named_by ranged path v ≡ name → text_of (name_texts own tail) ≡ name
name_line ranged path own tail name v same is name_is = rw (same, is) (by_range ranged ∙ name_is)
  where
    by_range : (b : Bool) → text_of (name_texts path (cond b (tail_of v) [])) ≡ named_by b path v
    by_range true = ap (λ l. path ++ l) (append-nil (range_of v))
    by_range false = append-nil path

-- ---- the lines about the header

abbrev pub alone_of : List ℕ → Named → List ℕ
alone_of letter v = words (codes "alone" ∷ letter ∷ full_name v ∷ [])

abbrev pub alone_texts : (letter path : List ℕ) → List (List ℕ)
alone_texts letter path = codes "alone " ∷ letter ∷ (32 ∷ []) ∷ path ∷ (10 ∷ []) ∷ []

pub alone_line : (letter path : List ℕ) (v : Named) → path ≡ full_name v → text_of (alone_texts letter path) ≡ alone_lines letter (v ∷ [])
alone_line letter path v e = rw e (simp (append_assoc, append-nil))

abbrev pub unlike_of : Pair → List ℕ
unlike_of p = words (codes "size" ∷ p.path ∷ kind_shown (kind_of p.one) ∷ kind_shown (kind_of p.other) ∷ [])

abbrev pub unlike_texts : (path one other : List ℕ) → List (List ℕ)
unlike_texts path one other = codes "size " ∷ path ∷ (32 ∷ []) ∷ one ∷ (32 ∷ []) ∷ other ∷ (10 ∷ []) ∷ []

pub unlike_line : (p : Pair) (path : List ℕ) → path ≡ p.path → text_of (unlike_texts path (kind_shown (kind_of p.one)) (kind_shown (kind_of p.other))) ≡ unlike_lines (p ∷ [])
unlike_line p path e = rw e (simp (append_assoc, append-nil))

-- those of the variables of several names
alone_each : (letter : List ℕ) (f : Names → List Named) (ns : List Names) → alone_lines letter (flat_map f ns) ≡ flat_map (λ n. alone_lines letter (f n)) ns
alone_each letter f [] = refl
alone_each letter f (n ∷ ns) =
    flat_map-append (alone_of letter) (f n) (flat_map f ns) ∙ ap (λ l. alone_lines letter (f n) ++ l) (alone_each letter f ns)

pub head_is : (q : Asked) (h : Header) (ns : List Names)
    → (alone_lines (codes "A") (flat_map (alone_in q h) ns) ++ alone_lines (codes "B") (flat_map (λ n. alone_in q h (turned n)) ns)) ++ unlike_lines (unlike_in q h ns) ≡ within_head q h ns
unfolding within_head
head_is q h ns = rw (alone_each (codes "A") (alone_in q h) ns, alone_each (codes "B") (λ n. alone_in q h (turned n)) ns) refl

-- lines are empty only if there is nothing that they are about
both_empty : (a b : List ℕ) → is_empty (a ++ b) ≡ (is_empty a && is_empty b)
both_empty [] b = refl
both_empty (x ∷ a) b = refl

is_nothing : {X Y : Type 0} (R : X → Y → Type 0) (xs : List X) (ys : List Y) (f : Y → List ℕ) → ((y : Y) → is_empty (f y) ≡ false) → AllZip R xs ys
    → is_empty (flat_map f ys) ≡ (length xs == 0)
is_nothing R [] [] f some all = refl
is_nothing R [] (y ∷ ys) f some all = absurd all
is_nothing R (x ∷ xs) [] f some all = absurd all
is_nothing R (x ∷ xs) (y ∷ ys) f some all = both_empty (f y) (flat_map f ys) ∙ rw (some y) (sym (ne_eqb (suc (length xs)) 0 (λ e. omega (arith, e))))

pub head_empty : (q : Asked) (h : Header) (ns : List Names) (ps : Pairs) → ArePairs ps h q ns
    → is_empty (within_head q h ns) ≡ ((vec_len ps.alone_one == 0) && (vec_len ps.alone_other == 0) && (vec_len ps.unlike == 0))
head_empty q h ns ps are =
    let ones = alone_lines (codes "A") (flat_map (alone_in q h) ns) in
    let others = alone_lines (codes "B") (flat_map (λ n. alone_in q h (turned n)) ns) in
    let one : length ps.alone_one.items ≡ vec_len ps.alone_one = omega (arith, ps.alone_one.ok.0) in
    let other : length ps.alone_other.items ≡ vec_len ps.alone_other = omega (arith, ps.alone_other.ok.0) in
    let unlike : length ps.unlike.items ≡ vec_len ps.unlike = omega (arith, ps.unlike.ok.0) in
    ap is_empty (sym (head_is q h ns)) ∙ both_empty (ones ++ others) (unlike_lines (unlike_in q h ns))
    ∙ ap (λ b. b && is_empty (unlike_lines (unlike_in q h ns))) (both_empty ones others)
    ∙ rw (
      is_nothing (IsNamedAt h) ps.alone_one.items (flat_map (alone_in q h) ns) (alone_of (codes "A")) (λ v. refl) are.alone_one,
      is_nothing (IsNamedAt h) ps.alone_other.items (flat_map (λ n. alone_in q h (turned n)) ns) (alone_of (codes "B")) (λ v. refl) are.alone_other,
      is_nothing (IsUnlikeAt h) ps.unlike.items (unlike_in q h ns) unlike_of (λ p. refl) are.unlike,
      one,
      other,
      unlike,
    )
    refl

-- the two codes of a class are those of its pair
pub pair_codes : (h : Header) (ends : List End) (class : ℕ) (p : Pair) → IsClassOf h ends class p → (o : Option (ℕ × ℕ)) → o ≡ codes_of ends class → IsSomeAnd o (λ codes. HasCodes h codes p)
pair_codes h ends class p is o e =
    let codes : codes_of ends class ≡ Some (is.one.0.code, is.other.0.code) = ap (λ one. both_codes one (slice_get ends (suc (2 * class)))) is.one.1 ∙ ap (both_codes (Some is.one.0)) is.other.1 in
    subst (λ (x : Option (ℕ × ℕ)). IsSomeAnd x (λ codes. HasCodes h codes p)) (sym (e ∙ codes)) (is.one.2, is.other.2)
