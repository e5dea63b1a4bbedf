-- What the current states say of the definitions' states.
use Rattle.vcd_compare.proofs.Cited.{zero, ◌≡◌, ◌≢◌, inl, inr, ℕ, ◌<◌, ◌≤◌, Bool, true, false, not, cond, ◌&&◌, List, [], ◌∷◌, ◌++◌, suc, ◌+◌, ◌*◌, ◌-◌, max, min, replicate, drop, take, length, codes, slice_get, Option, Some, None, refl, sym, ap, ap₂, subst, ◌∙◌, arith, ◌⊎◌, bytes_eq, option_and_then, Decides, and_left, and_right, cases_lt, same_Some, or_self, IdCode, Header, final_value, BodyItem, time_after, Rule, all_match, digits_match, exactly, is_triggered, match, state_at, Value, extend, extension, IsViewOf, HeadView, codes_shown, held_at, shown_as, value_in, Held, real_text, value_at_size, Shown, digits_held, Table, length_extended, shown_are, rule_of, AreCurrent, is_last, is_triggered_last, values_differ, codes_differ, codes_of, code_of, code_at, Code, IsClassOf, Pair, get_or_from_slice_get, Current}
use Rattle.vcd_body.specs.declared.values.slot.Shown.TheVariants as shown
use Rattle.vcd_compare.specs.declared.asked.Asked.{Asked}
use Rattle.vcd_compare.proofs.FlagLemmas.{value_final}
use Rattle.vcd_compare.proofs.MatchLemmas.{match_other, match_self}
use Rattle.vcd_compare.specs.Comparing.{both_differ, differs_now, states_differ}
use Rattle.vcd_compare.specs.Pairs.{both_codes}

module _ (v : HeadView) (c : Current) (h : Header) (items : List BodyItem) (views : IsViewOf v h) (current : AreCurrent c h items) (code : ℕ)
    (a : IdCode) (there : slice_get h.codes code ≡ Some a) where
  -- a value that is held is the last one
  pub held_final : a.event ≡ false → value_in (codes_shown v) c.table code ≡ final_value items a
  held_final e =
      ap (λ cs. value_in cs c.table code) (shown_are v h views)
      ∙ ap (option_and_then (λ (d : IdCode). value_at_size d.size (held_at c.table code))) there
      ∙ current.held.values.each code a there e

  pub held_state : (t : ℕ) → time_after items ≤ t → a.event ≡ false → value_in (codes_shown v) c.table code ≡ state_at 1 items a t
  held_state t le e = held_final e ∙ sym (value_final a items t le e)

  -- an event is triggered if its last trigger is at the time
  pub triggered_now : (t : ℕ) → time_after items ≤ t → (e : a.event ≡ true) → is_triggered 1 items a t ≡ is_last (current.triggers code a there e).0 t
  triggered_now t le e = (current.triggers code a there e).2.is t le

-- ---- matches

-- two events match if both are triggered, or neither is
pub events_match : (x y : Bool) → not (match exactly (cond x (Some (Value.Bits (codes "1"))) None) (cond y (Some (Value.Bits (codes "1"))) None)) ≡ cond x (not y) y
events_match true true = refl
events_match true false = refl
events_match false true = refl
events_match false false = refl

-- if it is known whether two values are the same, and they are, or no rule is asked for, they match
-- just then
pub told_same : (k : Asked) (one other : Option Value) (same : Bool) → Decides same (one ≡ other)
    → (same ≡ true) ⊎ ((k.x_of_one ≡ false) × (k.x_of_other ≡ false)) → not same ≡ not (match (rule_of k) one other)
told_same k one other same told either = ap not (sym (by_same same told either))
  where
    by_same : (s : Bool) → Decides s (one ≡ other) → (s ≡ true) ⊎ ((k.x_of_one ≡ false) × (k.x_of_other ≡ false)) → match (rule_of k) one other ≡ s
    by_same true d e = match_self (rule_of k) _ _ (d.0 refl)
    by_same false d (inl e) = cc
    by_same false d (inr (first, second)) = rw (first, second) (match_other _ _ (λ e. let no = d.1 e in cc))

-- the states of the two codes of a class
module _ (c : Current) (h : Header) (items : List BodyItem) (current : AreCurrent c h items) (class : ℕ) (p : Pair) (is : IsClassOf h c.pairs.now.ends.items class p)
    (alike : (code_of p.one).event ≡ (code_of p.other).event) (t : ℕ) (le : time_after items ≤ t) where
  abbrev one : ℕ
  one = is.one.0.code

  abbrev other : ℕ
  other = is.other.0.code

  abbrev a : IdCode
  a = code_of p.one

  abbrev b : IdCode
  b = code_of p.other

  codes_are : codes_of c.pairs.now.ends.items class ≡ Some (one, other)
  codes_are = ap (λ o. both_codes o (slice_get c.pairs.now.ends.items (suc (2 * class)))) is.one.1 ∙ ap (both_codes (Some is.one.0)) is.other.1

  code : (k : Code) × (slice_get c.view.codes.now one ≡ Some k) × (k.event ≡ a.event)
  code = let m = code_at c.view.text.now c.view.codes.now h.codes one a current.views.codes is.one.2 in (m.0, m.1, m.2.event_is)

  its : (k : Code) × (slice_get c.view.codes.now other ≡ Some k) × (k.event ≡ b.event)
  its = let m = code_at c.view.text.now c.view.codes.now h.codes other b current.views.codes is.other.2 in (m.0, m.1, m.2.event_is)

  trigger_of : (index : ℕ) (d : IdCode) (there : slice_get h.codes index ≡ Some d) → d.event ≡ true → is_triggered_last c index t ≡ is_triggered 1 items d t
  trigger_of index d there e =
      let last = current.triggers index d there e in
      ap (λ o. is_last o t) (get_or_from_slice_get c.triggers.now index last.0 None last.1)
      ∙ sym (last.2.is t le)

  by_event : (e : Bool) → a.event ≡ e → states_differ c t (one, other) (Some code.0) (Some its.0) ≡ codes_differ (rule_of c.asked) items a b t
  by_event true e =
      let own : code.0.event ≡ true = code.2 ∙ e in
      let first = trigger_of one a is.one.2 e in
      let second = trigger_of other b is.other.2 (sym alike ∙ e) in
      ap (λ d. cond d (cond (is_triggered_last c one t) (not (is_triggered_last c other t)) (is_triggered_last c other t)) (values_differ c one other)) own
      ∙ ap (λ x. cond x (not (is_triggered_last c other t)) (is_triggered_last c other t)) first
      ∙ ap (λ y. cond (is_triggered 1 items a t) (not y) y) second
      ∙ sym (events_match (is_triggered 1 items a t) (is_triggered 1 items b t))
      ∙ rw (e, sym alike ∙ e) refl
  by_event false e =
      let own : code.0.event ≡ false = code.2 ∙ e in
      let first = held_state c.view c h items current.views current one a is.one.2 t le e in
      let second = held_state c.view c h items current.views current other b is.other.2 t le (sym alike ∙ e) in
      ap (λ d. cond d (cond (is_triggered_last c one t) (not (is_triggered_last c other t)) (is_triggered_last c other t)) (values_differ c one other)) own
      ∙ ap (λ (o : Option Value). not (match (rule_of c.asked) o (value_in (codes_shown c.view) c.table other))) first
      ∙ ap (λ (o : Option Value). not (match (rule_of c.asked) (state_at 1 items a t) o)) second
      ∙ ap (λ d. not (match (cond d exactly (rule_of c.asked)) (state_at 1 items a t) (state_at 1 items b t))) (sym e)

  pub differs_is : differs_now c class t ≡ codes_differ (rule_of c.asked) items (code_of p.one) (code_of p.other) t
  unfolding differs_now
  differs_is =
      ap (both_differ c t) codes_are
      ∙ ap (λ o. states_differ c t (one, other) o (slice_get c.view.codes.now other)) code.1
      ∙ ap (states_differ c t (one, other) (Some code.0)) its.1
      ∙ by_event a.event refl

-- ---- digit by digit

in_parts : (r : Rule) (k : ℕ) (ds es : List ℕ) → length ds ≡ length es → all_match r ds es ≡ (all_match r (take k ds) (take k es) && all_match r (drop k ds) (drop k es))
in_parts r zero ds es same = refl
in_parts r (suc k) [] [] same = refl
in_parts r (suc k) [] (e ∷ es) same = absurd (omega (arith, same))
in_parts r (suc k) (d ∷ ds) [] same = absurd (omega (arith, same))
in_parts r (suc k) (d ∷ ds) (e ∷ es) same = ap (λ b. digits_match r d e && b) (in_parts r k ds es (omega (arith, same))) ∙ joined (digits_match r d e)
  where
    joined : (b : Bool) → (b && (all_match r (take k ds) (take k es) && all_match r (drop k ds) (drop k es))) ≡ ((b && all_match r (take k ds) (take k es)) && all_match r (drop k ds) (drop k es))
    joined true = refl
    joined false = refl

-- lists of two lengths do not match
pub lengths_match : (r : Rule) (ds es : List ℕ) → length ds ≢ length es → all_match r ds es ≡ false
lengths_match r [] [] apart = absurd (apart refl)
lengths_match r [] (y ∷ ys) apart = refl
lengths_match r (x ∷ xs) [] apart = refl
lengths_match r (x ∷ xs) (y ∷ ys) apart = and_right (digits_match r x y) (all_match r xs ys) (lengths_match r xs ys (λ e. apart (ap suc e)))

pub apart_at : (r : Rule) (ds es : List ℕ) (i a b : ℕ) → slice_get ds i ≡ Some a → slice_get es i ≡ Some b → digits_match r a b ≡ false → all_match r ds es ≡ false
apart_at r [] es i a b e f wrong = cc
apart_at r (x ∷ xs) [] i a b e f wrong = refl
apart_at r (x ∷ xs) (y ∷ ys) zero a b e f wrong = rw (same_Some x a e, same_Some y b f) (and_left _ _ wrong)
apart_at r (x ∷ xs) (y ∷ ys) (suc i) a b e f wrong = and_right (digits_match r x y) (all_match r xs ys) (apart_at r xs ys i a b e f wrong)

-- the same of their last digits, with one of these
pub apart_from : (r : Rule) (k i : ℕ) (ds es : List ℕ) (a b : ℕ) → k ≤ i → slice_get ds i ≡ Some a → slice_get es i ≡ Some b
    → digits_match r a b ≡ false → all_match r (drop k ds) (drop k es) ≡ false
apart_from r zero i ds es a b le e f wrong = apart_at r ds es i a b e f wrong
apart_from r (suc k) zero ds es a b le e f wrong = absurd (omega (arith, le))
apart_from r (suc k) (suc i) [] es a b le e f wrong = cc
apart_from r (suc k) (suc i) (d ∷ ds) [] a b le e f wrong = cc
apart_from r (suc k) (suc i) (d ∷ ds) (x ∷ es) a b le e f wrong = apart_from r k i ds es a b (omega (arith, le)) e f wrong

pub next_digit : (ds : List ℕ) (i d : ℕ) → slice_get ds i ≡ Some d → drop i ds ≡ d ∷ drop (i + 1) ds
next_digit [] i d e = cc
next_digit (x ∷ xs) zero d e = ap (λ y. y ∷ xs) (same_Some x d e)
next_digit (x ∷ xs) (suc i) d e = let one : suc i + 1 ≡ suc (i + 1) = omega arith in rw one (next_digit xs i d e)

pub drop_all : (ds : List ℕ) (n : ℕ) → length ds ≤ n → drop n ds ≡ []
drop_all [] zero le = refl
drop_all [] (suc n) le = refl
drop_all (d ∷ ds) zero le = absurd (omega arith)
drop_all (d ∷ ds) (suc n) le = drop_all ds n (omega arith)

-- the digits of extended ones from an index on that is before all that are extended
far_digits : (p q n e : ℕ) (xs : List ℕ) → n ≡ p + suc q → (drop p (replicate n e ++ xs) ≡ e ∷ (replicate q e ++ xs))
    × (replicate n e ++ xs ≡ replicate p e ++ (e ∷ (replicate q e ++ xs)))
far_digits zero q n e xs is = let same : n ≡ suc q = omega (arith, is) in rw same (refl, refl)
far_digits (suc p) q zero e xs is = absurd (omega (arith, is))
far_digits (suc p) q (suc n) e xs is = let more = far_digits p q n e xs (omega (arith, is)) in (more.0, ap (λ (l : List ℕ). e ∷ l) more.1)

-- if they match from there on, all match
far_match : (r : Rule) (k e f : ℕ) (ds es : List ℕ) → all_match r (e ∷ ds) (f ∷ es) ≡ true → all_match r (replicate k e ++ (e ∷ ds)) (replicate k f ++ (f ∷ es)) ≡ true
far_match r zero e f ds es all = all
far_match r (suc k) e f ds es all = rw (first (digits_match r e f) (all_match r ds es) all, far_match r k e f ds es all) refl
  where
    first : (a b : Bool) → (a && b) ≡ true → a ≡ true
    first true b e = refl
    first false b e = cc

all_from_last : (r : Rule) (xs ys : List ℕ) (m n held count back : ℕ) → length xs ≤ held → length ys ≤ held → count ≡ length (extend xs m)
    → count ≡ length (extend ys n) → back ≡ min count (held + 1)
    → all_match r (drop (count - back) (extend xs m)) (drop (count - back) (extend ys n)) ≡ true → all_match r (extend xs m) (extend ys n) ≡ true
all_from_last r xs ys m n held count back few less one other back_is all = by_order (cases_lt (held + 1) count)
  where
    first : length (extend xs m) ≡ max m (length xs)
    first = length_extended xs m

    second : length (extend ys n) ≡ max n (length ys)
    second = length_extended ys n

    by_order : (held + 1 < count) ⊎ (count ≤ held + 1) → all_match r (extend xs m) (extend ys n) ≡ true
    by_order (inr short) =
        let none : count - back ≡ 0 = omega (arith, back_is, short) in
        subst (λ k. all_match r (drop k (extend xs m)) (drop k (extend ys n)) ≡ true) none all
    by_order (inl long) =
        let p = count - back in
        let a = far_digits p (held - length xs) (m - length xs) (extension xs) xs (omega (arith, few, one, first, back_is, long)) in
        let b = far_digits p (held - length ys) (n - length ys) (extension ys) ys (omega (arith, less, other, second, back_is, long)) in
        rw (a.1, b.1) (far_match r p (extension xs) (extension ys) (replicate (held - length xs) (extension xs) ++ xs)
        (replicate (held - length ys) (extension ys) ++ ys) (ap₂ (all_match r) (sym a.0) (sym b.0) ∙ all))

-- so the last digits tell whether all match
pub few_match : (r : Rule) (xs ys : List ℕ) (m n held count last : ℕ) → length xs ≤ held → length ys ≤ held → count ≡ length (extend xs m)
    → count ≡ length (extend ys n) → count - last ≡ count - (held + 1)
    → all_match r (drop (count - last) (extend xs m)) (drop (count - last) (extend ys n)) ≡ all_match r (extend xs m) (extend ys n)
few_match r xs ys m n held count last few less one other last_is = by_value (all_match r (drop (count - last) (extend xs m)) (drop (count - last) (extend ys n))) refl
  where
    same : count - last ≡ count - min count (held + 1)
    same = omega (arith, last_is)

    by_value : (b : Bool) → all_match r (drop (count - last) (extend xs m)) (drop (count - last) (extend ys n)) ≡ b → b ≡ all_match r (extend xs m) (extend ys n)
    by_value true e = sym (all_from_last r xs ys m n held count (min count (held + 1)) few less one other refl
        (subst (λ k. all_match r (drop k (extend xs m)) (drop k (extend ys n)) ≡ true) same e))
    by_value false e = sym (in_parts r (count - last) (extend xs m) (extend ys n) (sym one ∙ other)
        ∙ and_right (all_match r (take (count - last) (extend xs m)) (take (count - last) (extend ys n))) _ e)

-- the digits of a value are those that are held, extended
pub shown_digits : (v : HeadView) (t : Table) (code : ℕ) (ds : List ℕ) → value_in (codes_shown v) t code ≡ Some (Value.Bits ds) → (m : ℕ)
    × (ds ≡ extend (digits_held (held_at t code)) m)
shown_digits v t code ds e = by_code (slice_get (codes_shown v) code) e
  where
    by_held : (h : Held) (m : ℕ) → value_at_size m h ≡ Some (Value.Bits ds) → ds ≡ extend (digits_held h) m
    by_held Held.Unset m e = cc
    by_held (Held.Digits xs) m e = cc
    by_held (Held.Text text) m e = cc

    by_code : (o : Option IdCode) → option_and_then (λ (c : IdCode). value_at_size c.size (held_at t code)) o ≡ Some (Value.Bits ds) → (m : ℕ)
        × (ds ≡ extend (digits_held (held_at t code)) m)
    by_code None e = cc
    by_code (Some c) e = (c.size, by_held (held_at t code) c.size e)

-- ---- what a table shows of two values

pub unset_some : (r : Rule) (m n : ℕ) (g h : Held) (s : Shown) → shown_as g ≡ shown.Unset → shown_as h ≡ s → (s ≡ shown.Unset → ⊥)
    → match r (value_at_size m g) (value_at_size n h) ≡ r.x_of_one
unset_some r m n Held.Unset Held.Unset s e f none = absurd (none (sym f))
unset_some r m n Held.Unset (Held.Digits ds) s e f none = refl
unset_some r m n Held.Unset (Held.Text text) s e f none = refl
unset_some r m n (Held.Digits ds) h s e f none = cc
unset_some r m n (Held.Text text) h s e f none = cc

pub some_unset : (r : Rule) (m n : ℕ) (g h : Held) (s : Shown) → shown_as g ≡ s → shown_as h ≡ shown.Unset → (s ≡ shown.Unset → ⊥)
    → match r (value_at_size m g) (value_at_size n h) ≡ r.x_of_other
some_unset r m n Held.Unset Held.Unset s e f none = absurd (none (sym e))
some_unset r m n (Held.Digits ds) Held.Unset s e f none = refl
some_unset r m n (Held.Text text) Held.Unset s e f none = refl
some_unset r m n g (Held.Digits ds) s e f none = cc
some_unset r m n g (Held.Text text) s e f none = cc

pub bits_real : (r : Rule) (m n : ℕ) (g h : Held) → shown_as g ≡ shown.Bits → shown_as h ≡ shown.Real
    → (match r (value_at_size m g) (value_at_size n h) ≡ false) × (match r (value_at_size n h) (value_at_size m g) ≡ false)
bits_real r m n (Held.Digits ds) (Held.Text text) e f = (refl, refl)
bits_real r m n Held.Unset h e f = cc
bits_real r m n (Held.Text text) h e f = cc
bits_real r m n (Held.Digits ds) Held.Unset e f = cc
bits_real r m n (Held.Digits ds) (Held.Digits es) e f = cc

pub both_real : (a : Asked) (m n : ℕ) (g h : Held) → shown_as g ≡ shown.Real → shown_as h ≡ shown.Real
    → match (rule_of a) (value_at_size m g) (value_at_size n h) ≡ bytes_eq (real_text g) (real_text h)
both_real a m n (Held.Text one) (Held.Text other) e f = or_self (bytes_eq one other)
both_real a m n Held.Unset h e f = cc
both_real a m n (Held.Digits ds) h e f = cc
both_real a m n (Held.Text one) Held.Unset e f = cc
both_real a m n (Held.Text one) (Held.Digits es) e f = cc

pub bits_there : (m : ℕ) (g : Held) → shown_as g ≡ shown.Bits → (ds : List ℕ) × (value_at_size m g ≡ Some (Value.Bits ds))
bits_there m Held.Unset e = cc
bits_there m (Held.Digits ds) e = (extend ds m, refl)
bits_there m (Held.Text text) e = cc
