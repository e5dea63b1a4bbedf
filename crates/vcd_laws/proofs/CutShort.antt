-- What `cut` writes has tokens no longer than the token limit, if its codes are shorter.
use Rattle.vcd_laws.proofs.Cited.{◌≡◌, ℕ, ◌<◌, ◌≤◌, ◌^◌, Bool, true, false, not, ◌&&◌, nat_lt, List, [], ◌∷◌, ◌++◌, length, map, filter, flat_map, Option, Some, None, option_and_then, refl, sym, ap, ◌∙◌, subst, arith, AllByRecursion, and_parts, not-true, later_or, last_where, Input, first_halt, Keyword, IdCode, has_text, BodyItem, Entry, entries, Value, value_of, gives_to, value_in, value_before, declared_code, within, Opened, items_in, Moment, Want, IsJob, Opens, written_by, CodesFit, input_of, IsReadable, texts_from, time_behind, IsGoodChange, IsFit, next_time, next_open, AreFit, entries_from, at_start, entries_are, item_tokens, plain_line, lines_words, IsGoodValue, value_change, value_is_good, written_items, parts_items, parts_fit, closing_items, all_front, all_append, AreCodes, filter_words, all_kept, find_all, same_declared, within_is, item_if_set, set_items, cuts}
use Rattle.vcd_laws.proofs.OpenedBodies.{opens_good}
use Rattle.vcd_laws.proofs.CutLaw.{cut_entries, cut_start, cut_end, CutBehind, cut_behind}
use Rattle.vcd_laws.proofs.WrittenCodes.{to_contained, from_find}
use Rattle.vcd_laws.proofs.RunLaws.{cut_run, opened_run}
use Rattle.vcd_laws.proofs.ShortTokens.{AllShort, not_halted}
use Rattle.vcd_laws.proofs.ShortHeads.{keyword_short, number_short}
use Rattle.vcd_laws.proofs.ShortBodies.{ShortItem, ShortValue, value_short, value_tokens_short, written_tokens_short, closing_short, tokens-append, entries_short, opened_short, short_items, short_behind}

-- ---- values that short items give

last_where_all : {X : Type 0} (P : X → Type 0) (test : X → Bool) (xs : List X) (y : X)
    → AllByRecursion P xs → last_where test xs ≡ Some y → P y × (test y ≡ true)
last_where_all P test [] y h e = cc
last_where_all P test (x ∷ xs) y h e =
    by_later (test x) (last_where test xs) refl refl e (last_where_all P test xs y h.1)
  where
    by_later : (b : Bool) (o : Option _) → test x ≡ b → last_where test xs ≡ o
        → later_or b x o ≡ Some y → (last_where test xs ≡ Some y → P y × (test y ≡ true))
        → P y × (test y ≡ true)
    by_later true (Some z) f g s more = more (g ∙ s)
    by_later false (Some z) f g s more = more (g ∙ s)
    by_later true None f g s more = let same : x ≡ y = cc in
        (subst P same h.0, ap test (sym same) ∙ f)
    by_later false None f g s more = cc

-- an item whose change, if it is one, is good and short
abbrev GoodItem : List IdCode → ℕ → BodyItem → Type 0
GoodItem codes limit (BodyItem.Changes d) =
    IsGoodChange codes d × (0 < d.code.size) × ShortItem limit (BodyItem.Changes d)
GoodItem codes limit item = Unit {0}

good_entries : (codes : List IdCode) (limit : ℕ) (t : ℕ) (o : Bool) (items : List BodyItem)
    → AreCodes codes → AreFit codes t o items → AllByRecursion (ShortItem limit) items
    → AllByRecursion (λ e. GoodItem codes limit e.item) (entries_from t o items)
good_entries codes limit t o [] are fit s = tt
good_entries codes limit t o (x ∷ items) are fit s =
    (one x fit.0 s.0, good_entries codes limit (next_time t x) (next_open o x) items are fit.1 s.1)
  where
    one : (x : BodyItem) → IsFit codes t o x → ShortItem limit x → GoodItem codes limit x
    one (BodyItem.Time u) f s = tt
    one (BodyItem.Begin k) f s = tt
    one BodyItem.End f s = tt
    one (BodyItem.Changes d) f s = let good : IsGoodChange codes d = f in (
      good,
      find_all (λ (c : IdCode). 0 < c.size) (has_text d.code.text) codes d.code are.filled
          good.declared,
      s,
    )

module _ (codes : List IdCode) (limit : ℕ) (least : 64 ≤ limit) (are : AreCodes codes)
    (q : List BodyItem) (fit : AreFit codes 0 false q) (short : AllByRecursion (ShortItem limit) q)
    (a : ℕ) where
  given_short : (c : IdCode) (item : BodyItem) (v : Value) (time : ℕ) (inside : Bool)
      → declared_code codes c.text ≡ Some c → c.event ≡ false → GoodItem codes limit item
      → gives_to c item ≡ true
      → value_in (record { time = time; inside = inside; item = item }) ≡ Some v
      → IsGoodValue c v × ShortValue codes limit least v
  given_short c (BodyItem.Time u) v time inside d quiet good gives e = cc
  given_short c (BodyItem.Begin s) v time inside d quiet good gives e = cc
  given_short c BodyItem.End v time inside d quiet good gives e = cc
  given_short c (BodyItem.Changes x) v time inside d quiet good gives e =
      let change : IsGoodChange codes x = good.0 in
      let same : c ≡ x.code = same_declared codes c x.code d change.declared gives in
      let still : x.code.event ≡ false = ap (λ (k : IdCode). k.event) (sym same) ∙ quiet in
      let value : value_of x ≡ v = cc in (
        subst (IsGoodValue c) value (subst (λ (k : IdCode). IsGoodValue k (value_of x)) (sym same)
            (value_is_good codes x change still good.1)),
        subst (ShortValue codes limit least) value
            (value_short codes limit least x change still good.1 good.2),
      )

  before_short : (c : IdCode) (v : Value) → declared_code codes c.text ≡ Some c → c.event ≡ false
      → value_before q c a ≡ Some v → IsGoodValue c v × ShortValue codes limit least v
  before_short c v d quiet e = by_found (last_where test (entries q)) refl e
    where
      test : Entry → Bool
      test x = gives_to c x.item && nat_lt x.time a

      by_found : (o : Option Entry) → last_where test (entries q) ≡ o
          → option_and_then value_in o ≡ Some v → IsGoodValue c v × ShortValue codes limit least v
      by_found None f g = cc
      by_found (Some x) f g =
          let all = subst (AllByRecursion (λ (y : Entry). GoodItem codes limit y.item))
          (sym (entries_are codes [] 0 false q at_start fit))
          (good_entries codes limit 0 false q are fit short) in
          let at = last_where_all (λ (y : Entry). GoodItem codes limit y.item) test (entries q) x
          all f in
          given_short c x.item v x.time x.inside d quiet at.0
          (and_parts (gives_to c x.item) (nat_lt x.time a) at.1).0 g

  set_short : (cs : List IdCode)
      → AllByRecursion (λ c. (declared_code codes c.text ≡ Some c) × (c.event ≡ false)) cs
      → ((c : IdCode) → declared_code codes c.text ≡ Some c → length c.text < limit)
      → AllShort limit (flat_map item_tokens (set_items (λ c. value_before q c a) cs))
  set_short [] h low = tt
  set_short (c ∷ cs) h low =
      subst (AllShort limit) (sym (tokens-append codes limit least
      (item_if_set c (value_before q c a)) (set_items (λ d. value_before q d a) cs)))
      (all_append (λ t. length t ≤ limit) (flat_map item_tokens
      (item_if_set c (value_before q c a)))
      (flat_map item_tokens (set_items (λ d. value_before q d a) cs))
      (one (value_before q c a) refl) (set_short cs h.1 low))
    where
      one : (o : Option Value) → value_before q c a ≡ o
          → AllShort limit (flat_map item_tokens (item_if_set c o))
      one None e = tt
      one (Some v) e =
          let b = before_short c v h.0.0 h.0.1 e in
          all_append (λ t. length t ≤ limit) (item_tokens (BodyItem.Changes (value_change c v))) []
          (value_tokens_short codes limit least c v (low c h.0.0) b.0 b.1) tt

-- ---- `cut`

within_short : (limit b : ℕ) (items : List BodyItem) → AllByRecursion (ShortItem limit) items
    → AllByRecursion (ShortItem limit) (within b items)
within_short limit b items s = let w = within_is b items in
    all_front (ShortItem limit) (within b items) w.rest
    (subst (AllByRecursion (ShortItem limit)) w.whole s)

cut_tokens_short : (limit : ℕ) (input : Input) (o : Opened) (a b : ℕ) → 64 ≤ limit
    → Opens limit input o → CodesFit limit o.header → a < 2 ^ 64
    → CutBehind o.header a b (items_in o)
    → AllShort limit (texts_from true (flat_map plain_line
    (parts_items (cut_start o.header a b (items_in o)) (a ∷ []) (cut_entries a b (items_in o))
    (cut_end a b (items_in o)))))
cut_tokens_short limit input o a b least opens low small behind =
    let good = opens_good limit input o opens in
    let codes = o.header.codes in
    let items = items_in o in
    let q = within b items in
    let start = cut_start o.header a b items in
    let ks = cut_entries a b items in
    let mark = cut_end a b items in
    let w = (a ∷ []) ++ map (λ (e : Entry). e.time) ks in
    let parts = behind.parts in
    let are = good.codes in
    let short = within_short limit b items (short_items limit o least
    (opened_short limit input o opens)) in
    let tokens = lines_words codes 0 false (parts_items start (a ∷ []) ks mark)
    (parts_fit codes start (a ∷ []) ks mark parts) in
    let fits : (c : IdCode) → declared_code codes c.text ≡ Some c → length c.text < limit =
    λ c e. low c (to_contained codes c (from_find (has_text c.text) codes c e).0) in
    let quiet : AllByRecursion (λ c. (declared_code codes c.text ≡ Some c) × (c.event ≡ false))
    (filter (λ c. not c.event) codes)
    = all_kept (λ (c : IdCode). declared_code codes c.text ≡ Some c)
    (λ (c : IdCode). (declared_code codes c.text ≡ Some c) × (c.event ≡ false))
    (λ c. not c.event) codes (λ c f e. (f, not-true c.event e)) are.found in
    let P : List ℕ → Type 0 = λ t. length t ≤ limit in
    let set = set_items (λ c. value_before q c a) (filter (λ c. not c.event) codes) in
    let front : AllShort limit (flat_map item_tokens start)
    = (
      (let n = number_short limit least a small in omega arith),
      (
        keyword_short limit least Keyword.DumpVars,
        subst (AllShort limit) (sym (tokens-append codes limit least set (BodyItem.End ∷ [])))
            (all_append P (flat_map item_tokens set) (flat_map item_tokens (BodyItem.End ∷ []))
            (set_short codes limit least are q behind.fit short a
            (filter (λ c. not c.event) codes) quiet fits)
            (keyword_short limit least Keyword.End, tt)),
      ),
    ) in
    let entries : AllByRecursion (λ e. ShortItem limit e.item) ks =
    filter_words (λ e. ShortItem limit e.item) (cuts a) (entries_from 0 false q)
    (entries_short limit 0 false q short) in
    let rest = written_items (a ∷ []) ks ++ closing_items w mark in
    subst (AllShort limit) (sym (tokens ∙ tokens-append codes limit least start rest
    ∙ ap (λ l. flat_map item_tokens start ++ l)
    (tokens-append codes limit least (written_items (a ∷ []) ks) (closing_items w mark))))
    (all_append P (flat_map item_tokens start)
    (flat_map item_tokens (written_items (a ∷ []) ks)
    ++ flat_map item_tokens (closing_items w mark)) front
    (all_append P (flat_map item_tokens (written_items (a ∷ []) ks))
    (flat_map item_tokens (closing_items w mark))
    (written_tokens_short codes limit least (time_behind 0 start) false (a ∷ []) ks parts.writable
    entries fits)
    (closing_short codes limit least w mark (λ e m. (parts.last e m).1))))

-- nothing halts the reading of what `cut` wrote
pub cut_is_not_halted : (limit : ℕ) (name : List ℕ) (from to : Moment) (input : Input) (o : Opened)
    → IsJob (Want.Cut from to) → IsReadable (Want.Cut from to) limit name input o
    → first_halt limit (input_of (written_by (Want.Cut from to) limit name input)) ≡ None
cut_is_not_halted limit name from to input o job can =
    let opens = can.opens in
    let run = cut_run limit name from to input o job
    (opened_run (Want.Cut from to) limit name input o opens) can.clean in
    let good = opens_good limit input o opens in
    let behind = cut_behind o run.a run.b run.small run.order good run.ends in
    let text = flat_map plain_line (parts_items (cut_start o.header run.a run.b (items_in o))
    (run.a ∷ []) (cut_entries run.a run.b (items_in o)) (cut_end run.a run.b (items_in o))) in
    not_halted limit (written_by (Want.Cut from to) limit name input) can.bytes
    (subst (λ (l : List ℕ). AllShort limit (texts_from true l)) (sym (run.output ∙ behind.text))
    (short_behind limit input o [] text can.least opens
    (cut_tokens_short limit input o run.a run.b can.least opens can.fits run.small behind)))
