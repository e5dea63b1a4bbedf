-- What a table counts of the values of codes, with one item more.
use Rattle.vcd_engine.proofs.Cited.{◌≡◌, ◌≢◌, ℕ, ◌+◌, ◌-◌, ◌^◌, ◌<◌, ◌==◌, ◌&&◌, ◌||◌, nat_le, nat_lt, Bool, true, false, not, cond, min, List, [], ◌∷◌, ◌++◌, length, slice_get, Option, Some, None, refl, sym, ap, ◌∙◌, arith, option_map, unwrap_or, last_or, eq-eqb, eqb-true, eqb-false, lt-ltb, bytes_eq-Decides, IdCode, same_code, Counts, counts_for, goes, has_last, Header, final_value, gives_to, BodyItem, leaves_open, Value, same_value, value_of, value_with, counts_mark, counts_new, counts_other, with_mark, with_value, final_other, IsSized, parts, IsViewOf, Code, HeadView, same_place, code_at, ChangesCode, IsLaidOut, counts_at, held_at, kept_at, IsText, model_form, Held, IsStep, Kept, differs, goes_from, is_digit, last_digit_in, one_more, value_at_size, with_change, with_counted, with_step, with_text, Form, Step, Table, AreTallied, numbers, AreHeld, IsNew, SetsValue, change_holds, held_still, new_holds}
use Rattle.vcd_model.specs.Items.{Change}
use Rattle.vcd_model.proofs.EdgesSteps.{are_few}
use Rattle.vcd_engine.proofs.ItemTextLemmas.{some_text}

-- ---- a table whose counters alone change

abbrev held_in : Option Kept → Held
held_in o = unwrap_or (option_map (λ (k : Kept). k.held) o) Held.Unset

abbrev counts_in : Option Kept → List ℕ
counts_in o = unwrap_or (option_map (λ (k : Kept). k.counts) o) (0 ∷ 0 ∷ 0 ∷ [])

-- the value and its room stay
abbrev Retains : (Kept → Kept) → Type 0
Retains f = (k : Kept) → ((f k).held ≡ k.held) × ((f k).room ≡ k.room)

module _ (old new : Table) (place : ℕ) (f : Kept → Kept) (changes : ChangesCode place f old new) where
  counts_there : (k : Kept) → kept_at old place ≡ Some k → counts_at new place ≡ (f k).counts
  counts_there k is =
      let same = eq-eqb place place refl in
      ap counts_in (changes place) ∙ ap (λ (b : Bool). counts_in (cond b (option_map f (kept_at old place)) (kept_at old place))) same ∙ ap (λ (o : Option Kept). counts_in (option_map f o)) is

  counts_apart : (p : ℕ) → (p == place) ≡ false → counts_at new p ≡ counts_at old p
  counts_apart p e = ap counts_in (changes p) ∙ ap (λ (b : Bool). counts_in (cond b (option_map f (kept_at old p)) (kept_at old p))) e

  held_stays : Retains f → (p : ℕ) → held_at new p ≡ held_at old p
  held_stays retains p = ap held_in (changes p) ∙ by_case (p == place) (kept_at old p)
    where
      by_case : (b : Bool) (o : Option Kept) → held_in (cond b (option_map f o) o) ≡ held_in o
      by_case true (Some k) = (retains k).0
      by_case true None = refl
      by_case false o = refl

  room_stays : Retains f → (p : ℕ) (k : Kept) → kept_at old p ≡ Some k → (k' : Kept) × (kept_at new p ≡ Some k') × (k'.room ≡ k.room)
  room_stays retains p k was = by_test (p == place) refl
    where
      by_test : (b : Bool) → (p == place) ≡ b → (k' : Kept) × (kept_at new p ≡ Some k') × (k'.room ≡ k.room)
      by_test true e = (f k, changes p ∙ rw (e, was) refl, (retains k).1)
      by_test false e = (k, changes p ∙ rw e was, refl)

  counted_held : IsLaidOut new → Retains f → (h : Header) (items : List BodyItem) → AreHeld old h items → AreHeld new h items
  counted_held laid retains h items held = record {
    values = record {
      laid = laid;
      each = λ p c there event. ap (value_at_size c.size) (held_stays retains p) ∙ held.values.each p c there event;
    };
    shares = λ p c there.
        let s = held.shares p c there in
        let r = room_stays retains p s.0 s.1 in
        let more = s.2 in let room = r.2 in
        (r.0, r.1, omega (arith, more, room));
  }

-- ---- digits

last_is : (ds : List ℕ) (d : ℕ) → has_last ds d ≡ is_digit (last_or None ds) d
last_is ds d = by_last (last_or None ds)
  where
    by_last : (o : Option ℕ) → elim o [ Some e ↦ d == e | None ↦ false ] ≡ is_digit o d
    by_last None = refl
    by_last (Some e) = refl

goes_is : (a b : ℕ) (u v : Value) → goes_from a b (last_digit_in (Some u)) (last_digit_in (Some v)) ≡ goes a b (u, v)
goes_is a b (Value.Bits ds) (Value.Bits es) = rw (last_is ds a, last_is es b) refl
goes_is a b (Value.Bits ds) (Value.Real text) = none (is_digit (last_or None ds) a) ∙ sym (none (has_last ds a))
  where
    none : (x : Bool) → (x && false) ≡ false
    none true = refl
    none false = refl
goes_is a b (Value.Real text) v = refl

-- a value goes from no digit to another without a change
stays : (a b : ℕ) → (a == b) ≡ false → (o : Option ℕ) → goes_from a b o o ≡ false
stays a b other None = refl
stays a b other (Some e) = by_test (a == e) (b == e) refl refl
  where
    by_test : (x y : Bool) → (a == e) ≡ x → (b == e) ≡ y → (x && y) ≡ false
    by_test true true p q = let m = eqb-true a e p in let n = eqb-true b e q in absurd (eqb-false a b other (m ∙ sym n))
    by_test true false p q = refl
    by_test false y p q = refl

goes_not : (a b : ℕ) → (a == b) ≡ false → (u v : Value) → same_value u v ≡ true → goes a b (u, v) ≡ false
goes_not a b other (Value.Bits ds) (Value.Bits es) e =
    let same = (bytes_eq-Decides ds es).0 e in
    sym (goes_is a b (Value.Bits ds) (Value.Bits es)) ∙ ap (λ l. goes_from a b (last_or None ds) (last_or None l)) (sym same) ∙ stays a b other (last_or None ds)
goes_not a b other (Value.Bits ds) (Value.Real text) e = cc
goes_not a b other (Value.Real text) v e = refl

-- ---- the counters of a code

-- numbers that are far from full
abbrev AreSmall : Counts → Type 0
AreSmall n = (n.changes < 2 ^ 63) × (n.rises < 2 ^ 63) × (n.falls < 2 ^ 63)

one_mark : (n : Counts) (k : Kept) → AreSmall n → k.counts ≡ numbers n → (one_more 0 k).counts ≡ numbers (with_mark n false)
one_mark n k small is =
    let e : min (n.changes + 1) (2 ^ 64 - 1) ≡ n.changes + 1 = omega (arith, small.0) in
    rw (is, e) refl

no_mark : (n : Counts) → numbers n ≡ numbers (with_mark n true)
no_mark n = let e : n.changes ≡ n.changes + 0 = omega arith in ap (λ m. m ∷ n.rises ∷ n.falls ∷ []) e

module _ (n : Counts) (k : Kept) (small : AreSmall n) (is : k.counts ≡ numbers n) where
  counters : (fall rise : Bool) → (with_step rise fall k).counts ≡ (n.changes + 1) ∷ (n.rises + cond rise 1 0) ∷ (n.falls + cond fall 1 0) ∷ []
  counters fall rise =
      let changes = small.0 in let rises = small.1 in let falls = small.2 in
      let e0 : min (n.changes + 1) (2 ^ 64 - 1) ≡ n.changes + 1 = omega (arith, changes) in
      let e1 : min (n.rises + 1) (2 ^ 64 - 1) ≡ n.rises + 1 = omega (arith, rises) in
      let e2 : min (n.falls + 1) (2 ^ 64 - 1) ≡ n.falls + 1 = omega (arith, falls) in
      let z1 : n.rises ≡ n.rises + 0 = omega arith in
      let z2 : n.falls ≡ n.falls + 0 = omega arith in
      by_tests fall rise e0 e1 e2 z1 z2
    where
      by_tests : (fall rise : Bool) → min (n.changes + 1) (2 ^ 64 - 1) ≡ n.changes + 1 → min (n.rises + 1) (2 ^ 64 - 1) ≡ n.rises + 1
          → min (n.falls + 1) (2 ^ 64 - 1) ≡ n.falls + 1 → n.rises ≡ n.rises + 0 → n.falls ≡ n.falls + 0
          → (with_step rise fall k).counts ≡ (n.changes + 1) ∷ (n.rises + cond rise 1 0) ∷ (n.falls + cond fall 1 0) ∷ []
      by_tests true true e0 e1 e2 z1 z2 = rw (is, e0, e1, e2) refl
      by_tests true false e0 e1 e2 z1 z2 = rw (is, e0, e2) (ap (λ m. (n.changes + 1) ∷ m ∷ (n.falls + 1) ∷ []) z1)
      by_tests false true e0 e1 e2 z1 z2 = rw (is, e0, e1) (ap (λ m. (n.changes + 1) ∷ (n.rises + 1) ∷ m ∷ []) z2)
      by_tests false false e0 e1 e2 z1 z2 = rw (is, e0) (ap (λ m. (n.changes + 1) ∷ m ∷ n.falls ∷ []) z1 ∙ ap (λ m. (n.changes + 1) ∷ (n.rises + 0) ∷ m ∷ []) z2)

  -- after a value that differs
  counted_value : (s : Step) (o : Option Value) (v : Value) → IsStep s o v → s.differs ≡ true → (with_step s.rises s.falls k).counts ≡ numbers (with_value n o v)
  counted_value s None v is differ = let d = is.0 in cc
  counted_value s (Some u) v is differ =
      let rise = is.1 ∙ goes_is 48 49 u v in
      let fall = is.2 ∙ goes_is 49 48 u v in
      counters s.falls s.rises
      ∙ ap (λ x. (n.changes + 1) ∷ (n.rises + cond x 1 0) ∷ (n.falls + cond s.falls 1 0) ∷ []) rise
      ∙ ap (λ x. (n.changes + 1) ∷ (n.rises + cond (goes 48 49 (u, v)) 1 0) ∷ (n.falls + cond x 1 0) ∷ []) fall
      ∙ ap (λ x. (n.changes + cond x 1 0) ∷ (n.rises + cond (goes 48 49 (u, v)) 1 0) ∷ (n.falls + cond (goes 49 48 (u, v)) 1 0) ∷ []) (sym differ ∙ is.0)

-- and after one that does not
not_counted : (n : Counts) (o : Option Value) (v : Value) → differs o v ≡ false → numbers n ≡ numbers (with_value n o v)
not_counted n None v d = refl
not_counted n (Some u) v d = by_same (same_value u v) refl d
  where
    by_same : (s : Bool) → same_value u v ≡ s → not s ≡ false → numbers n ≡ numbers (with_value n (Some u) v)
    by_same false e f = cc
    by_same true e f =
        let rise = goes_not 48 49 refl u v e in
        let fall = goes_not 49 48 refl u v e in
        let z0 : n.changes ≡ n.changes + 0 = omega arith in
        let z1 : n.rises ≡ n.rises + 0 = omega arith in
        let z2 : n.falls ≡ n.falls + 0 = omega arith in
        rw (e, rise, fall) (ap (λ m. m ∷ n.rises ∷ n.falls ∷ []) z0 ∙ ap (λ m. (n.changes + 0) ∷ m ∷ n.falls ∷ []) z1 ∙ ap (λ m. (n.changes + 0) ∷ (n.rises + 0) ∷ m ∷ []) z2)

small_counts : (c : IdCode) (items : List BodyItem) → length items < 2 ^ 63 → AreSmall (counts_for items c)
small_counts c items few =
    let a = are_few c items in
    let changes = a.changes in let rises = a.rises in let falls = a.falls in
    (omega (arith, changes, few), omega (arith, rises, few), omega (arith, falls, few))

-- ---- a code of a header

module _ (v : HeadView) (h : Header) (items : List BodyItem) (place : ℕ) (c : IdCode) (views : IsViewOf v h) (declared : slice_get h.codes place ≡ Some c) where
  -- it alone is at its index
  here : (p : ℕ) (d : IdCode) → slice_get h.codes p ≡ Some d → (p == place) ≡ true → d ≡ c
  here p d there e =
      let one = eqb-true p place e in
      let same : Some d ≡ Some c = sym there ∙ ap (slice_get h.codes) one ∙ declared in
      cc

  -- a code elsewhere is another
  other_code : (p : ℕ) (d : IdCode) → slice_get h.codes p ≡ Some d → (p == place) ≡ false → same_code d c ≡ false
  other_code p d there e = by_test (same_code d c) refl
    where
      by_test : (b : Bool) → same_code d c ≡ b → b ≡ false
      by_test true same = absurd (eqb-false p place e (same_place h.codes (parts v).index p place d c views.index there declared ((bytes_eq-Decides d.text c.text).0 same)))
      by_test false same = refl

  self_code : same_code c c ≡ true
  self_code = (bytes_eq-Decides c.text c.text).1 refl

  -- ---- a trigger of an event

  module _ (d : Change) (of : d.code ≡ c) (event : c.event ≡ true) where
    gives : (p : ℕ) (x : IdCode) → slice_get h.codes p ≡ Some x → (p == place) ≡ false → gives_to x (BodyItem.Changes d) ≡ false
    gives p x there e = ap (same_code x) of ∙ other_code p x there e

    mark_held : (t : Table) → AreHeld t h items → AreHeld t h (items ++ BodyItem.Changes d ∷ [])
    mark_held t held = record {
      values = record {
        laid = held.values.laid;
        each = λ p x there none. held.values.each p x there none ∙ sym (final_other x items (BodyItem.Changes d) (gives p x there (elsewhere p x there none (p == place) refl)));
      };
      shares = held.shares;
    }
      where
        elsewhere : (p : ℕ) (x : IdCode) → slice_get h.codes p ≡ Some x → x.event ≡ false → (b : Bool) → (p == place) ≡ b → b ≡ false
        elsewhere p x there none true e = let same = ap (λ (y : IdCode). y.event) (here p x there e) in cc
        elsewhere p x there none false e = refl

    -- its counters, and those of the others
    mark_counted : (t : Table) (old : Table) (inside : Bool) → inside ≡ leaves_open items
        → ((p : ℕ) → (p == place) ≡ false → counts_at t p ≡ counts_at old p) → counts_at t place ≡ numbers (with_mark (counts_for items c) inside)
        → AreTallied old h items
        → (p : ℕ) (x : IdCode) → slice_get h.codes p ≡ Some x → counts_at t p ≡ numbers (counts_for (items ++ BodyItem.Changes d ∷ []) x)
    mark_counted t old inside is apart one tallied p x there = by_test (p == place) refl
      where
        by_test : (b : Bool) → (p == place) ≡ b → counts_at t p ≡ numbers (counts_for (items ++ BodyItem.Changes d ∷ []) x)
        by_test true e =
            let at = eqb-true p place e in
            let same = here p x there e in
            let more = counts_mark c items d (ap (same_code c) of ∙ self_code) event in
            ap (counts_at t) at ∙ one ∙ ap (λ b. numbers (with_mark (counts_for items c) b)) is ∙ ap numbers (sym more)
            ∙ ap (λ (y : IdCode). numbers (counts_for (items ++ BodyItem.Changes d ∷ []) y)) (sym same)
        by_test false e = apart p e ∙ tallied.counted p x there ∙ ap numbers (sym (counts_other x items (BodyItem.Changes d) (gives p x there e)))

    -- outside a section it counts
    pub mark_tallied : (old new : Table) → IsLaidOut new → ChangesCode place (one_more 0) old new → false ≡ leaves_open items → length items < 2 ^ 63
        → AreTallied old h items → AreTallied new h (items ++ BodyItem.Changes d ∷ [])
    mark_tallied old new laid changes outside few tallied =
        let k = tallied.held.shares place c declared in
        let was = ap counts_in (sym k.1) ∙ tallied.counted place c declared in
        record {
          held = mark_held new (counted_held old new place (one_more 0) changes laid (λ x. (refl, refl)) h items tallied.held);
          counted = mark_counted new old false outside (counts_apart old new place (one_more 0) changes)
              (counts_there old new place (one_more 0) changes k.0 k.1 ∙ one_mark (counts_for items c) k.0 (small_counts c items few) was) tallied;
        }

    -- inside one it does not
    pub mark_passed : (t : Table) → true ≡ leaves_open items → AreTallied t h items → AreTallied t h (items ++ BodyItem.Changes d ∷ [])
    mark_passed t inside tallied = record {
      held = mark_held t tallied.held;
      counted = mark_counted t t true inside (λ p e. refl) (tallied.counted place c declared ∙ no_mark (counts_for items c)) tallied;
    }

  -- ---- a value

  module _ (form : Form) (text : List ℕ) (event : c.event ≡ false) (good : (d : Code) → slice_get v.codes.now place ≡ Some d → IsText form d text) where
    abbrev change : Change
    change = record { code = c; form = model_form form; text = text }

    -- its text is not empty
    text_there : 0 < length text
    text_there = let d = code_at v.text.now v.codes.now h.codes place c views.codes declared in some_text form d.0 text (good d.0 d.1)

    -- what the table held
    value_before : (old : Table) → AreHeld old h items → value_at_size c.size (held_at old place) ≡ final_value items c
    value_before old held = held.values.each place c declared event

    more_counts : counts_for (items ++ BodyItem.Changes change ∷ []) c ≡ with_value (counts_for items c) (final_value items c) (value_of change)
    more_counts = counts_new c items change self_code event

    -- the counters of the others stay
    value_counted : (t : Table) (old : Table) → ((p : ℕ) → (p == place) ≡ false → counts_at t p ≡ counts_at old p)
        → counts_at t place ≡ numbers (with_value (counts_for items c) (final_value items c) (value_of change)) → AreTallied old h items
        → (p : ℕ) (x : IdCode) → slice_get h.codes p ≡ Some x → counts_at t p ≡ numbers (counts_for (items ++ BodyItem.Changes change ∷ []) x)
    value_counted t old apart one tallied p x there = by_test (p == place) refl
      where
        by_test : (b : Bool) → (p == place) ≡ b → counts_at t p ≡ numbers (counts_for (items ++ BodyItem.Changes change ∷ []) x)
        by_test true e =
            let at = eqb-true p place e in
            let same = here p x there e in
            ap (counts_at t) at ∙ one ∙ ap numbers (sym more_counts) ∙ ap (λ (y : IdCode). numbers (counts_for (items ++ BodyItem.Changes change ∷ []) y)) (sym same)
        by_test false e = apart p e ∙ tallied.counted p x there ∙ ap numbers (sym (counts_other x items (BodyItem.Changes change) (other_code p x there e)))

    -- the counters of the code itself
    now_counted : (o : Option Value) (n : Counts) (k : Kept) → AreSmall n → k.counts ≡ numbers n → (with_counted o (value_of change) k).counts ≡ numbers (with_value n o (value_of change))
    now_counted o n k small is = by_case (differs o (value_of change)) refl
      where
        step : Step
        step = record {
          differs = differs o (value_of change);
          rises = goes_from 48 49 (last_digit_in o)
              (last_digit_in (Some (value_of change)));
          falls = goes_from 49 48 (last_digit_in o) (last_digit_in (Some (value_of change)));
        }

        by_case : (b : Bool) → differs o (value_of change) ≡ b → (with_counted o (value_of change) k).counts ≡ numbers (with_value n o (value_of change))
        by_case true e = ap (λ (b : Bool). (cond b (with_step step.rises step.falls k) k).counts) e ∙ counted_value n k small is step o (value_of change) (refl, refl, refl) e
        by_case false e = ap (λ (b : Bool). (cond b (with_step step.rises step.falls k) k).counts) e ∙ is ∙ not_counted n o (value_of change) e

    -- a value that the table set and counted
    pub follow_tallied : (old new : Table) (size : ℕ) → c.size ≡ size → IsLaidOut new → ChangesCode place (with_change size form text) old new
        → SetsValue form text place old new → length items < 2 ^ 63 → AreTallied old h items
        → AreTallied new h (items ++ BodyItem.Changes change ∷ [])
    follow_tallied old new size is laid changes value few tallied =
        let k = tallied.held.shares place c declared in
        let was = ap counts_in (sym k.1) ∙ tallied.counted place c declared in
        let before : value_at_size size k.0.held ≡ final_value items c =
        ap (λ (n : ℕ). value_at_size n k.0.held) (sym is) ∙ ap (λ (o : Option Kept). value_at_size c.size (held_in o)) (sym k.1) ∙ value_before old tallied.held
        in
        record {
          held = change_holds v h old new items place form text c views declared tallied.held (with_change size form text) (change_room size) changes laid good value;
          counted = value_counted new old (counts_apart old new place (with_change size form text) changes)
              (counts_there old new place (with_change size form text) changes k.0 k.1
              ∙ ap (λ (b : Bool). (cond b (with_counted (value_at_size size k.0.held) (value_with size (model_form form) text)
              (with_text form text k.0)) k.0).counts) (lt-ltb 0 (length text) text_there)
              ∙ ap (λ (n : ℕ). (with_counted (value_at_size size k.0.held) (value_with n (model_form form) text) (with_text form text k.0)).counts) (sym is)
              ∙ ap (λ (o : Option Value). (with_counted o (value_of change) (with_text form text k.0)).counts) before
              ∙ now_counted (final_value items c) (counts_for items c) (with_text form text k.0) (small_counts c items few) was) tallied;
        }
      where
        counted_room : (o : Option Value) (u : Value) (k : Kept) → (with_counted o u k).room ≡ k.room
        counted_room o u k = by_case (differs o u)
          where
            by_case : (b : Bool) → (cond b (with_step (goes_from 48 49 (last_digit_in o) (last_digit_in (Some u))) (goes_from 49 48 (last_digit_in o) (last_digit_in (Some u))) k) k).room ≡ k.room
            by_case true = refl
            by_case false = refl

        change_room : (size : ℕ) (k : Kept) → (with_change size form text k).room ≡ k.room
        change_room size k = by_case (nat_lt 0 (length text))
          where
            by_case : (b : Bool) → (cond b (with_counted (value_at_size size k.held) (value_with size (model_form form) text) (with_text form text k)) k).room ≡ k.room
            by_case true = counted_room (value_at_size size k.held) (value_with size (model_form form) text) (with_text form text k)
            by_case false = refl

-- ---- a new table, and an item that changes no value

counts_none : (c : IdCode) → numbers (counts_for [] c) ≡ 0 ∷ 0 ∷ 0 ∷ []
counts_none c = by_event c.event
  where
    by_event : (b : Bool) → numbers (cond b (record { changes = 0; rises = 0; falls = 0 }) (record { changes = 0; rises = 0; falls = 0 })) ≡ 0 ∷ 0 ∷ 0 ∷ []
    by_event true = refl
    by_event false = refl

pub new_tallied : (v : HeadView) (h : Header) (t : Table) → IsViewOf v h → IsLaidOut t → IsNew v t → AreTallied t h []
new_tallied v h t views laid is = record {
  held = new_holds v h t views laid is;
  counted = λ place c declared.
      let m = code_at v.text.now v.codes.now h.codes place c views.codes declared in
      ap counts_in (is place m.0 m.1) ∙ sym (counts_none c);
}

pub still_tallied : (t : Table) (h : Header) (items : List BodyItem) (x : BodyItem) → ((c : IdCode) → gives_to c x ≡ false) → AreTallied t h items → AreTallied t h (items ++ x ∷ [])
still_tallied t h items x none tallied = record {
  held = held_still t h items x none tallied.held;
  counted = λ place c declared. tallied.counted place c declared ∙ ap numbers (sym (counts_other c items x (none c)));
}

-- ---- what a view shows of a code

pub shown_there : (v : HeadView) (h : Header) (place : ℕ) (d : Code) (c : IdCode) → IsViewOf v h → slice_get v.codes.now place ≡ Some d
    → slice_get h.codes place ≡ Some c → (c.size ≡ d.size) × (c.event ≡ d.event)
shown_there v h place d c views shown declared =
    let m = code_at v.text.now v.codes.now h.codes place c views.codes declared in
    let known = m.1 in
    let same : m.0 ≡ d = cc in
    (sym m.2.size_is ∙ ap (λ (y : Code). y.size) same, sym m.2.event_is ∙ ap (λ (y : Code). y.event) same)

-- where a look-up gave a size, the code has it, and is no event
pub sized_there : (v : HeadView) (h : Header) (place most : ℕ) (c : IdCode) → IsViewOf v h
    → IsSized v.codes.now (record { position = place; size_or_zero = most }) → slice_get h.codes place ≡ Some c → most ≢ 0 → (c.size ≡ most)
    × (c.event ≡ false)
sized_there v h place most c views (d, there, is) declared some =
    let shown = shown_there v h place d c views there declared in
    let told = by_tests d.event (nat_le (2 ^ 32) d.size) refl is in
    (shown.0 ∙ sym told.1, shown.1 ∙ told.0)
  where
    by_tests : (e l : Bool) → d.event ≡ e → most ≡ cond (e || l) 0 d.size → (d.event ≡ false) × (most ≡ d.size)
    by_tests true l q m = absurd (some m)
    by_tests false true q m = absurd (some m)
    by_tests false false q m = (q, m)
