-- What is written of a body has tokens no longer than the token limit, if its codes are shorter.
use Rattle.vcd_laws.proofs.Cited.{◌≡◌, ◌≢◌, ℕ, ◌<◌, ◌≤◌, ◌^◌, ◌==◌, Bool, true, false, cond, List, [], ◌∷◌, ◌++◌, length, map, filter, flat_map, Option, Some, None, refl, sym, ap, ◌∙◌, subst, arith, AllByRecursion, list_any, str_to_ascii_lowercase, append_assoc, map-append, length-append, length-map, eqb-true, leb-true, Input, Token, first_halt, Keyword, keyword_text, IdCode, has_text, SectionKind, ChangeForm, Change, BodyItem, Entry, entries, Vars, Off, On, All, Scalar, Vector, RealText, Value, extend, short, value_with, value_of, Bits, Real, text_after, closing, last_mark, BodyPhrase, IsItem, IsChange, declared_code, section_keyword, items_of, Comment, Gives, body_grammar, body_items, Reading, reading_of, Placed, phrases_of, texts_of, IsGood, AreGood, IsReading, head_for, selected, selects_code, Outcome, Opened, items_in, fault_in, Want, over_opened, Opens, written_by, CodesFit, input_of, IsReadable, reading_is_one, body_computes, texts_from, short_is_shortest, IsGoodText, IsGoodChange, next_time, next_open, entries_from, at_start, entries_are, item_tokens, plain_line, lines_words, IsGoodValue, value_change, read_again, value_is_good, length-extend, read_item, time_items, written_items, IsWritable, AreWritable, parts_items, parts_fit, parts_text, closing_items, all_front, all_back, all_append, filter_words, written}
use Rattle.vcd_model.specs.BodyReading.{read_body}
use Rattle.vcd_model.specs.Pick.{pick_open, pick_close}
use Rattle.vcd_model.specs.Outcome.{body_of}
use Rattle.vcd_laws.proofs.OpenedBodies.{opens_good, opened_fit, opened_shut}
use Rattle.vcd_laws.proofs.PickLaw.{picks, pick_parts}
use Rattle.vcd_laws.proofs.WrittenCodes.{from_filter, to_contained, from_find}
use Rattle.vcd_laws.proofs.HeadBack.{marks, own_code, rows_declared, head_is, opens_header}
use Rattle.vcd_laws.proofs.RunLaws.{pick_case, opened_run}
use Rattle.vcd_laws.proofs.ShortTokens.{AllShort, not_halted}
use Rattle.vcd_laws.proofs.ShortHeads.{IsShortInput, inputs_short, written_short, keyword_short, number_short, head_short}

-- ---- items whose changes have short texts

-- a byte before the text fits
abbrev pub ShortItem : ℕ → BodyItem → Type 0
ShortItem limit (BodyItem.Changes c) = length c.text < limit
ShortItem limit item = Unit {0}

module _ (codes : List IdCode) (limit : ℕ) (least : 64 ≤ limit) where
  change_short : (form : ChangeForm) (text code : List ℕ) (ts : List (List ℕ))
      → IsChange ts form text code → AllShort limit ts → length text < limit
  change_short Scalar text code ts is s = rw is.2 (omega arith)
  change_short Vector text code ts is s = let t = subst (AllShort limit) is.2 s in
      (let l = t.0 in omega arith)
  change_short RealText text code ts is s = let t = subst (AllShort limit) is.2 s in
      (let l = t.0 in omega arith)

  item_short : (item : BodyItem) (ts : List (List ℕ)) → IsItem codes ts item → AllShort limit ts
      → ShortItem limit item
  item_short (BodyItem.Time u) ts is s = tt
  item_short (BodyItem.Begin x) ts is s = tt
  item_short BodyItem.End ts is s = tt
  item_short (BodyItem.Changes c) ts is s = change_short c.form c.text c.code.text ts is.1 s

  phrases_short : (earlier : List BodyPhrase) (ts : List Token) (ps : List (Placed BodyPhrase))
      → AreGood (body_grammar codes) earlier ts ps → AllShort limit (texts_of ts)
      → AllByRecursion (ShortItem limit) (items_of (phrases_of ps))
  phrases_short earlier ts [] good s = tt
  phrases_short earlier ts (p ∷ ps) good s =
      let both = subst (AllShort limit) (ap texts_of good.2
      ∙ map-append (λ (x : Token). x.bytes) good.0 good.1) s in
      by_phrase p.phrase p.line good.3 (all_front (λ t. length t ≤ limit) (texts_of good.0)
      (texts_of good.1) both) (phrases_short (earlier ++ p.phrase ∷ []) good.1 ps good.4
      (all_back (λ t. length t ≤ limit) (texts_of good.0) (texts_of good.1) both))
    where
      by_phrase : (q : BodyPhrase) (line : ℕ)
          → IsGood (body_grammar codes) earlier good.0 (record { phrase = q; line = line })
          → AllShort limit (texts_of good.0)
          → AllByRecursion (ShortItem limit) (items_of (phrases_of ps))
          → AllByRecursion (ShortItem limit) (items_of (q ∷ phrases_of ps))
      by_phrase (Comment inner) line g t more = more
      by_phrase (Gives x) line g t more = (item_short x (texts_of good.0) g.phrase t, more)

  body_short : (ts : List Token) → AllShort limit (texts_of ts)
      → AllByRecursion (ShortItem limit) (body_items (read_body codes ts))
  unfolding read_body
  body_short ts s = by_reading (reading_of (body_grammar codes) ts)
      (reading_is_one (body_grammar codes) (body_computes codes) ts)
    where
      by_reading : (r : Reading BodyPhrase) → IsReading (body_grammar codes) ts r
          → AllByRecursion (ShortItem limit) (items_of (phrases_of r.placed))
      by_reading r is =
          phrases_short [] is.done r.placed is.good
          (all_front (λ t. length t ≤ limit) (texts_of is.done) (texts_of (is.before ++ r.rest))
          (subst (AllShort limit) (ap texts_of
          (is.tokens ∙ append_assoc is.done is.before r.rest)
          ∙ map-append (λ (x : Token). x.bytes) is.done (is.before ++ r.rest)) s))

-- ---- and as they are written

module _ (codes : List IdCode) (limit : ℕ) (least : 64 ≤ limit) where
  -- a value that is given by a short token
  abbrev pub ShortValue : Value → Type 0
  ShortValue (Bits ds) = length (short ds) < limit
  ShortValue (Real text) = length text < limit

  some_digits : (ds : List ℕ) → 0 < length ds → ds ≢ []
  some_digits [] l = absurd (omega arith)
  some_digits (d ∷ ds) l = λ e. cc

  bits_short : (text : List ℕ) (size : ℕ) → 0 < length text → length text ≤ size
      → length text < limit → ShortValue (Bits (extend (str_to_ascii_lowercase text) size))
  bits_short text size some few low =
      let d = str_to_ascii_lowercase text in
      let same : length d ≡ length text = length-map text _ in
      let v = extend d size in
      let long : length v ≡ size = length-extend d size (omega arith) in
      let least = short_is_shortest v (some_digits v (omega arith)) in
      let most = least.2 d (some_digits d (omega arith)) (ap (extend d) long) in
      omega arith

  pub value_short : (c : Change) → IsGoodChange codes c → c.code.event ≡ false → 0 < c.code.size
      → ShortItem limit (BodyItem.Changes c) → ShortValue (value_of c)
  value_short c good quiet some s = by_form c.form c.text good.text s
    where
      by_form : (form : ChangeForm) (text : List ℕ) → IsGoodText form c.code text
          → length text < limit → ShortValue (value_with c.code.size form text)
      by_form Scalar text g s =
          bits_short text c.code.size (rw g.2 (omega arith)) (rw g.2 (omega arith))
          (rw g.2 (omega arith))
      by_form Vector text g s =
          bits_short text c.code.size g.0 (leb-true (length text) c.code.size (rw quiet at g.2)) s
      by_form RealText text g s = s

  -- the line of a short value
  pub value_tokens_short : (code : IdCode) (v : Value) → length code.text < limit
      → IsGoodValue code v → ShortValue v
      → AllShort limit (item_tokens (BodyItem.Changes (value_change code v)))
  value_tokens_short code (Real text) low good s = ((omega arith), ((omega arith), tt))
  value_tokens_short code (Bits ds) low good s = by_size (code.size == 1) refl
    where
      by_size : (b : Bool) → (code.size == 1) ≡ b
          → AllShort limit (item_tokens (BodyItem.Changes
          (cond b (record { code = code; form = Scalar; text = ds })
          (record { code = code; form = Vector; text = short ds }))))
      by_size true e = let one = eqb-true code.size 1 e in let n = length-append ds code.text in
          let g = good.0 in ((omega arith), tt)
      by_size false e = ((omega arith), ((omega arith), tt))

  read_again_short : (c : Change) → IsGoodChange codes c → 0 < c.code.size
      → length c.code.text < limit → ShortItem limit (BodyItem.Changes c)
      → AllShort limit (item_tokens (BodyItem.Changes (read_again c)))
  read_again_short c good some low s = by_event c.code.event refl
    where
      by_event : (b : Bool) → c.code.event ≡ b
          → AllShort limit (item_tokens (BodyItem.Changes
          (cond b (record { code = c.code; form = Scalar; text = 49 ∷ [] })
          (value_change c.code (value_of c)))))
      by_event true e = ((omega arith), tt)
      by_event false e = value_tokens_short c.code (value_of c) low
          (value_is_good codes c good e some) (value_short c good e some s)

  time_short : (w : List ℕ) (u : ℕ) → u < 2 ^ 64
      → AllShort limit (flat_map item_tokens (time_items w u))
  time_short w u h = by_any (list_any (λ v. v == u) w)
    where
      by_any : (b : Bool) → AllShort limit (flat_map item_tokens (cond b [] (BodyItem.Time u ∷ [])))
      by_any true = tt
      by_any false = let n = number_short limit least u h in ((omega arith), tt)

  section_short : (s : SectionKind) → length (keyword_text (section_keyword s)) ≤ limit
  section_short Vars = keyword_short limit least Keyword.DumpVars
  section_short Off = keyword_short limit least Keyword.DumpOff
  section_short On = keyword_short limit least Keyword.DumpOn
  section_short All = keyword_short limit least Keyword.DumpAll

  pub tokens-append : (xs ys : List BodyItem)
      → flat_map item_tokens (xs ++ ys) ≡ flat_map item_tokens xs ++ flat_map item_tokens ys
  tokens-append [] ys = refl
  tokens-append (x ∷ xs) ys = ap (λ l. item_tokens x ++ l) (tokens-append xs ys)
      ∙ sym (append_assoc (item_tokens x) (flat_map item_tokens xs) (flat_map item_tokens ys))

  -- kept entries, as they are written
  pub written_tokens_short : (t : ℕ) (o : Bool) (w : List ℕ) (es : List Entry)
      → AreWritable codes t o es → AllByRecursion (λ e. ShortItem limit e.item) es
      → ((c : IdCode) → declared_code codes c.text ≡ Some c → length c.text < limit)
      → AllShort limit (flat_map item_tokens (written_items w es))
  written_tokens_short t o w [] h s low = tt
  written_tokens_short t o w (e ∷ es) h s low =
      let rest = written_items (w ++ e.time ∷ []) es in
      let more = written_tokens_short e.time (next_open o e.item) (w ++ e.time ∷ []) es h.4 s.1
      low in
      subst (AllShort limit) (sym (tokens-append (time_items w e.time) (read_item e.item ∷ rest)))
      (all_append (λ x. length x ≤ limit) (flat_map item_tokens (time_items w e.time))
      (flat_map item_tokens (read_item e.item ∷ rest)) (time_short w e.time h.1)
      (all_append (λ x. length x ≤ limit) (item_tokens (read_item e.item))
      (flat_map item_tokens rest) (one e.item h.3 s.0) more))
    where
      one : (item : BodyItem) → IsWritable codes o item → ShortItem limit item
          → AllShort limit (item_tokens (read_item item))
      one (BodyItem.Time u) is s = absurd is
      one (BodyItem.Begin x) is s = (section_short x, tt)
      one BodyItem.End is s = (keyword_short limit least Keyword.End, tt)
      one (BodyItem.Changes c) is s = let g : IsGoodChange codes c = is.0 in
          read_again_short c g is.1 (low c.code g.declared) s

  pub closing_short : (w : List ℕ) (mark : Option ℕ) → ((e : ℕ) → mark ≡ Some e → e < 2 ^ 64)
      → AllShort limit (flat_map item_tokens (closing_items w mark))
  closing_short w None h = tt
  closing_short w (Some e) h = time_short w e (h e refl)

-- ---- `pick`

pub entries_short : (limit t : ℕ) (o : Bool) (items : List BodyItem)
    → AllByRecursion (ShortItem limit) items
    → AllByRecursion (λ e. ShortItem limit e.item) (entries_from t o items)
entries_short limit t o [] h = tt
entries_short limit t o (x ∷ items) h =
    (h.0, entries_short limit (next_time t x) (next_open o x) items h.1)

pub opened_short : (limit : ℕ) (input : Input) (o : Opened) → Opens limit input o
    → IsShortInput limit o
opened_short limit input o opens = (inputs_short limit [] (input ∷ []) (o ∷ []) opens).0

pub short_items : (limit : ℕ) (o : Opened) → 64 ≤ limit → IsShortInput limit o
    → AllByRecursion (ShortItem limit) (items_in o)
unfolding body_of
short_items limit o least s = body_short o.header.codes limit least o.rest s.rest

-- a head and the tokens after it
pub short_behind : (limit : ℕ) (input : Input) (o : Opened) (names : List (List ℕ)) (text : List ℕ)
    → 64 ≤ limit → Opens limit input o → AllShort limit (texts_from true text)
    → AllShort limit (texts_from true (head_for o.header names ++ text))
short_behind limit input o names text least opens behind =
    let h = o.header in
    let good = opens_header limit input o opens in
    let s = opened_short limit input o opens in
    let header = s.header in
    let marked = marks names h.declarations in
    subst (λ (l : List ℕ). AllShort limit (texts_from true (l ++ text))) (sym (head_is h names))
    (head_short limit least h good.parts (written own_code marked h.declarations) text
    (rows_declared names h.declarations good.declared) header.date header.version
    (written_short own_code marked limit (λ code l. l) h.declarations header.declared) behind)

picked_short : (limit : ℕ) (input : Input) (o : Opened) (names : List (List ℕ)) → 64 ≤ limit
    → Opens limit input o → fault_in o ≡ None → CodesFit limit o.header
    → AllShort limit (texts_from true (text_after []
    (filter (picks (selected names o.header.declarations)) (entries (items_in o)))
    ++ closing (map (λ e. e.time) (filter (picks (selected names o.header.declarations))
    (entries (items_in o)))) (last_mark (items_in o))))
picked_short limit input o names least opens none low =
    let good = opens_good limit input o opens in
    let fit = opened_fit o good in
    let items = items_in o in
    let vs = selected names o.header.declarations in
    let new = filter (selects_code vs) o.header.codes in
    let es = entries_are o.header.codes [] 0 false items at_start fit in
    let kept = filter (picks vs) (entries_from 0 false items) in
    let mark = last_mark items in
    let parts = pick_parts o.header.codes vs items good.codes fit (opened_shut o good none) in
    let xs = parts_items [] [] kept mark in
    let w = map (λ (e : Entry). e.time) kept in
    let text : text_after [] (filter (picks vs) (entries items))
    ++ closing (map (λ e. e.time) (filter (picks vs) (entries items))) mark
    ≡ flat_map plain_line xs
    = ap (λ l. text_after [] (filter (picks vs) l)
    ++ closing (map (λ e. e.time) (filter (picks vs) l)) mark) es
    ∙ parts_text new [] [] kept mark parts in
    let tokens : texts_from true (flat_map plain_line xs) ≡ flat_map item_tokens xs =
    lines_words new 0 false xs (parts_fit new [] [] kept mark parts) in
    let fits : (c : IdCode) → declared_code new c.text ≡ Some c → length c.text < limit =
    λ c e. low c (to_contained o.header.codes c
    (from_filter (selects_code vs) o.header.codes c
    (from_find (has_text c.text) new c e).0).0) in
    let short : AllByRecursion (λ e. ShortItem limit e.item) kept =
    filter_words (λ e. ShortItem limit e.item) (picks vs) (entries_from 0 false items)
    (entries_short limit 0 false items (short_items limit o least
    (opened_short limit input o opens))) in
    subst (λ (l : List ℕ). AllShort limit (texts_from true l)) (sym text)
    (subst (AllShort limit) (sym (tokens
    ∙ tokens-append new limit least (written_items [] kept) (closing_items w mark)))
    (all_append (λ t. length t ≤ limit) (flat_map item_tokens (written_items [] kept))
    (flat_map item_tokens (closing_items w mark))
    (written_tokens_short new limit least 0 false [] kept parts.writable short fits)
    (closing_short new limit least w mark (λ e m. (parts.last e m).1))))

-- nothing halts the reading of what `pick` wrote
pub pick_is_not_halted : (limit : ℕ) (name : List ℕ) (names : List (List ℕ)) (input : Input)
    (o : Opened)
    → IsReadable (Want.Pick names) limit name input o
    → first_halt limit (input_of (written_by (Want.Pick names) limit name input)) ≡ None
unfolding pick_open pick_close
pick_is_not_halted limit name names input o can =
    let opens = can.opens in
    let run = opened_run (Want.Pick names) limit name input o opens in
    let other = over_opened (Want.Pick names) (name ∷ []) (o ∷ []) in
    let done : other.status ≡ 0 = ap (λ (d : Outcome). d.status) (sym run) ∙ can.clean in
    let clean = pick_case names name o done in
    let vs = selected names o.header.declarations in
    let kept = filter (picks vs) (entries (items_in o)) in
    let text : List ℕ = text_after [] kept ++ closing (map (λ e. e.time) kept)
    (last_mark (items_in o)) in
    let whole : written_by (Want.Pick names) limit name input ≡ head_for o.header names ++ text
    = ap (λ (d : Outcome). d.output) run ∙ clean.1
    ∙ append_assoc (head_for o.header names) (text_after [] kept)
    (closing (map (λ e. e.time) kept) (last_mark (items_in o))) in
    not_halted limit (written_by (Want.Pick names) limit name input) can.bytes
    (subst (λ (l : List ℕ). AllShort limit (texts_from true l)) (sym whole)
    (short_behind limit input o names text can.least opens
    (picked_short limit input o names can.least opens clean.0 can.fits)))
