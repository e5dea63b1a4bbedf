-- A table where one code was written, and perhaps its bytes: what it keeps of that code, and that
-- it keeps of the others what it kept.
use Rattle.vcd_body.proofs.Cited.{◌≡◌, ◌≢◌, ℕ, zero, suc, ◌+◌, ◌-◌, ◌*◌, ◌/◌, ◌%◌, ◌<◌, ◌≤◌, ◌==◌, nat_lt, nat_le, Bool, true, false, cond, List, [], ◌∷◌, length, take, drop, map, slice_get, slice_set, Option, Some, None, refl, sym, subst, ap, ◌∙◌, arith, ◌⊎◌, inl, inr, get_or, option_and_then, option_map, and_right, cases_lt, eq-eqb, ne_eqb, le-leb, lt-leb, lt-ltb, drop-take, get_or-take, length-append, length-drop, length-take, byte, slice_get_past, slice_get_within, take-put_mid_below, drop-put_mid, between-put_mid, put_mid, Held, Kept, bytes_for, counts_if, counts_with, fits, held_as, one_more, room_for, with_held, with_step, with_text, digits_in, held_digit, quarter_of, counts_after, with_steps, AreLaidOut, ChangesAt, IsHeldAs, IsLaid, Whole, text_bytes, end_at, held_by, held_of, holding_of, kept_in, kept_with, len_in, tag_of, one_digit, set_whole, some_by, start_or, state_in, used, used_by, whole, whole_at, Form, Share, Slot, State, there}
use Rattle.std.proofs.Math.Seq.{take-take}
use Rattle.vcd_body.specs.declared.item.Form.TheVariants as form
use Rattle.vcd_body.specs.declared.values.slot.State.TheVariants as state
use Rattle.vcd_body.proofs.PackedLemmas.{digits_of_first}

-- ---- elements

pub get_set : {X : Type 0} (xs : List X) (k : ℕ) (x : X) → k < length xs → slice_get (slice_set xs k x) k ≡ Some x
get_set [] k x h = absurd (omega arith)
get_set (y ∷ xs) zero x h = refl
get_set (y ∷ xs) (suc k) x h = get_set xs k x (omega arith)

pub get_other : {X : Type 0} (xs : List X) (k j : ℕ) (x : X) → j ≢ k → slice_get (slice_set xs k x) j ≡ slice_get xs j
get_other [] k j x h = refl
get_other (y ∷ xs) zero zero x h = absurd (h refl)
get_other (y ∷ xs) zero (suc j) x h = refl
get_other (y ∷ xs) (suc k) zero x h = refl
get_other (y ∷ xs) (suc k) (suc j) x h = get_other xs k j x (λ e. h (ap suc e))

pub same_or_not : (j k : ℕ) → (j ≡ k) ⊎ (j ≢ k)
same_or_not j k = by_order (cases_lt j k) (cases_lt k j)
  where
    by_order : (j < k) ⊎ (k ≤ j) → (k < j) ⊎ (j ≤ k) → (j ≡ k) ⊎ (j ≢ k)
    by_order (inl l) m = inr (λ e. omega arith)
    by_order (inr l) (inl m) = inr (λ e. omega arith)
    by_order (inr l) (inr m) = inl (omega arith)

-- ---- bytes

pub length-put_mid : (a k : ℕ) (xs ys : List ℕ) → a + k ≤ length xs → length ys ≡ k → length (put_mid a k xs ys) ≡ length xs
length-put_mid a k xs ys within same = simp (length-append, length-take, length-drop) (omega arith)

-- bytes that lie before a written part, or after it
reads_same : (a u s k : ℕ) (xs ys : List ℕ) → s + k ≤ length xs → length ys ≡ k → (a + u ≤ s) ⊎ (s + k ≤ a) → take u (drop a (put_mid s k xs ys)) ≡ take u (drop a xs)
reads_same a u s k xs ys within same (inl before) = sym (drop-take a u (put_mid s k xs ys)) ∙ ap (drop a) (take-put_mid_below s k xs ys (a + u) before (omega arith)) ∙ drop-take a u xs
reads_same a u s k xs ys within same (inr behind) = ap (take u) (drop-put_mid s k xs ys a behind (omega arith) same)

-- the digits lie in the first bytes
pub digits_first : (n : ℕ) (ys : List ℕ) → digits_in n (take (quarter_of n) ys) ≡ digits_in n ys
digits_first n ys = digits_of_first n (take (quarter_of n) ys) ys (λ j h. get_or-take (quarter_of n) ys j 0 h)

-- ---- a slot and its share

pub whole_is : (slots : List Slot) (shares : List Share) (k : ℕ) (s : Slot) (h : Share) → slice_get slots k ≡ Some s → slice_get shares k ≡ Some h
    → whole_at slots shares k ≡ Some (whole s h)
whole_is slots shares k s h at there = ap (option_and_then (λ (x : Slot). option_map (whole x) (slice_get shares k))) at ∙ ap (option_map (whole s)) there

pub no_slot : (slots : List Slot) (shares : List Share) (k : ℕ) → slice_get slots k ≡ None → whole_at slots shares k ≡ None
no_slot slots shares k at = ap (option_and_then (λ (x : Slot). option_map (whole x) (slice_get shares k))) at

pub no_share : (slots : List Slot) (shares : List Share) (k : ℕ) → slice_get shares k ≡ None → whole_at slots shares k ≡ None
no_share slots shares k at = by_slot (slice_get slots k) (slice_get shares k) at
  where
    by_slot : (o : Option Slot) (p : Option Share) → p ≡ None → option_and_then (λ (x : Slot). option_map (whole x) p) o ≡ None
    by_slot None p e = refl
    by_slot (Some s) p e = ap (option_map (whole s)) e

-- what they are
pub parts_of : (slots : List Slot) (shares : List Share) (k : ℕ) (d : Whole) → whole_at slots shares k ≡ Some d → (s : Slot) × (h : Share)
    × (slice_get slots k ≡ Some s) × (slice_get shares k ≡ Some h) × (whole s h ≡ d)
parts_of slots shares k d is = by_parts (slice_get slots k) refl (slice_get shares k) refl
  where
    by_parts : (o : Option Slot) → slice_get slots k ≡ o → (p : Option Share) → slice_get shares k ≡ p → (s : Slot) × (h : Share)
        × (slice_get slots k ≡ Some s) × (slice_get shares k ≡ Some h) × (whole s h ≡ d)
    by_parts None e p f = absurd (let g : None ≡ Some d = sym (no_slot slots shares k e) ∙ is in cc)
    by_parts (Some s) e None f = absurd (let g : None ≡ Some d = sym (no_share slots shares k f) ∙ is in cc)
    by_parts (Some s) e (Some h) f = (s, h, e, f, cc (sym (whole_is slots shares k s h e f) ∙ is))

-- ---- shares

starts_same : (shares : List Share) (k : ℕ) (h h' : Share) → slice_get shares k ≡ Some h → h'.start ≡ h.start → (n j : ℕ)
    → start_or n (slice_get (slice_set shares k h') j) ≡ start_or n (slice_get shares j)
starts_same shares k h h' at start n j = by_place (same_or_not j k)
  where
    by_place : (j ≡ k) ⊎ (j ≢ k) → start_or n (slice_get (slice_set shares k h') j) ≡ start_or n (slice_get shares j)
    by_place (inl e) = rw e (ap (start_or n) (get_set shares k h' (slice_get_within shares k h at)) ∙ start ∙ sym (ap (start_or n) at))
    by_place (inr e) = ap (start_or n) (get_other shares k j h' e)

-- a slot was written, its share, or both, and shares begin where they began
pub record AreWritten (k : ℕ) (w w' : Whole) (slots : List Slot) (shares : List Share) (slots' : List Slot) (shares' : List Share) : Type 0 where
  pub was : whole_at slots shares k ≡ Some w
  pub is : whole_at slots' shares' k ≡ Some w'
  pub others : (j : ℕ) → j ≢ k → whole_at slots' shares' j ≡ whole_at slots shares j
  pub ends : (n j : ℕ) → end_at shares' n j ≡ end_at shares n j

other_slots : (slots : List Slot) (shares : List Share) (k : ℕ) (s : Slot) (j : ℕ) → j ≢ k → whole_at (slice_set slots k s) shares j ≡ whole_at slots shares j
other_slots slots shares k s j e = ap (option_and_then (λ (x : Slot). option_map (whole x) (slice_get shares j))) (get_other slots k j s e)

other_shares : (slots : List Slot) (shares : List Share) (k : ℕ) (h : Share) (j : ℕ) → j ≢ k → whole_at slots (slice_set shares k h) j ≡ whole_at slots shares j
other_shares slots shares k h j e = ap (λ (o : Option Share). option_and_then (λ (x : Slot). option_map (whole x) o) (slice_get slots j)) (get_other shares k j h e)

pub slot_written : (slots : List Slot) (shares : List Share) (k : ℕ) (s s' : Slot) (h : Share) → slice_get slots k ≡ Some s
    → slice_get shares k ≡ Some h → AreWritten k (whole s h) (whole s' h) slots shares (slice_set slots k s') shares
slot_written slots shares k s s' h at there = record {
  was = whole_is slots shares k s h at there;
  is = whole_is (slice_set slots k s') shares k s' h (get_set slots k s' (slice_get_within slots k s at)) there;
  others = other_slots slots shares k s';
  ends = λ n j. refl;
}

pub both_written : (slots : List Slot) (shares : List Share) (k : ℕ) (s s' : Slot) (h h' : Share) → slice_get slots k ≡ Some s
    → slice_get shares k ≡ Some h → h'.start ≡ h.start → AreWritten k (whole s h) (whole s' h') slots shares (slice_set slots k s')
    (slice_set shares k h')
both_written slots shares k s s' h h' at there start = record {
  was = whole_is slots shares k s h at there;
  is = whole_is (slice_set slots k s') (slice_set shares k h') k s' h' (get_set slots k s' (slice_get_within slots k s at)) (get_set shares k h' (slice_get_within shares k h there));
  others = λ j e. other_slots slots (slice_set shares k h') k s' j e ∙ other_shares slots shares k h' j e;
  ends = λ n j. starts_same shares k h h' there start n (j + 1);
}

share_written : (slots : List Slot) (shares : List Share) (k : ℕ) (s : Slot) (h h' : Share) → slice_get slots k ≡ Some s
    → slice_get shares k ≡ Some h → h'.start ≡ h.start → AreWritten k (whole s h) (whole s h') slots shares slots (slice_set shares k h')
share_written slots shares k s h h' at there start = record {
  was = whole_is slots shares k s h at there;
  is = whole_is slots (slice_set shares k h') k s h' at (get_set shares k h' (slice_get_within shares k h there));
  others = other_shares slots shares k h';
  ends = λ n j. starts_same shares k h h' there start n (j + 1);
}

module _ (slots slots' : List Slot) (shares shares' : List Share) (k : ℕ) (w w' : Whole) (set : AreWritten k w w' slots shares slots' shares') where
  -- the code was written, and of the values nothing that others hold
  pub changes : (values values' : List ℕ) (f : Kept → Kept) → length values' ≡ length values
      → kept_with values' (end_at shares (length values) k) w' ≡ f (kept_with values (end_at shares (length values) k) w)
      → ((j : ℕ) (d : Whole) → j ≢ k → whole_at slots shares j ≡ Some d → held_of values' d ≡ held_of values d)
      → ChangesAt k f values slots shares values' slots' shares'
  changes values values' f same one others = λ j. by_place j (same_or_not j k)
    where
      ends_same : (j : ℕ) → end_at shares' (length values') j ≡ end_at shares (length values) j
      ends_same j = ap (λ n. end_at shares' n j) same ∙ set.ends (length values) j

      other_kept : (j : ℕ) → j ≢ k → (o : Option Whole) → whole_at slots shares j ≡ o
          → option_map (kept_with values' (end_at shares (length values) j)) o ≡ option_map (kept_with values (end_at shares (length values) j)) o
      other_kept j e None is = refl
      other_kept j e (Some d) is = ap (λ (h : Held). Some (record { held = h; counts = d.counts; chosen = d.chosen; room = end_at shares (length values) j - d.start })) (others j d e is)

      by_place : (j : ℕ) → (j ≡ k) ⊎ (j ≢ k) → kept_in values' slots' shares' j ≡ cond (j == k) (option_map f (kept_in values slots shares j)) (kept_in values slots shares j)
      by_place j (inl e) =
          let test = eq-eqb j k e in
          let there : whole_at slots' shares' j ≡ Some w' = ap (whole_at slots' shares') e ∙ set.is in
          let was : whole_at slots shares j ≡ Some w = ap (whole_at slots shares) e ∙ set.was in
          let ends = ends_same j in
          let ended : end_at shares (length values) k ≡ end_at shares (length values) j = ap (end_at shares (length values)) (sym e) in
          ap (option_map (kept_with values' (end_at shares' (length values') j))) there
          ∙ ap (λ (i : ℕ). Some (kept_with values' i w')) (ends ∙ sym ended)
          ∙ ap (λ (x : Kept). Some x) one
          ∙ ap (λ (i : ℕ). Some (f (kept_with values i w))) ended
          ∙ sym (ap (λ (b : Bool). cond b (option_map f (kept_in values slots shares j)) (kept_in values slots shares j)) test
          ∙ ap (λ (o : Option Whole). option_map f (option_map (kept_with values (end_at shares (length values) j)) o)) was)
      by_place j (inr e) =
          let test = ne_eqb j k e in
          let there = set.others j e in
          ap (option_map (kept_with values' (end_at shares' (length values') j))) there
          ∙ ap (λ (i : ℕ). option_map (kept_with values' i) (whole_at slots shares j)) (ends_same j)
          ∙ other_kept j e (whole_at slots shares j) refl
          ∙ sym (ap (λ (b : Bool). cond b (option_map f (kept_in values slots shares j)) (kept_in values slots shares j)) test)

  -- and of the values nothing
  pub code_changes : (values : List ℕ) (f : Kept → Kept) → ((end : ℕ) → kept_with values end w' ≡ f (kept_with values end w)) → ChangesAt k f values slots shares values slots' shares'
  code_changes values f one = changes values values f refl (one (end_at shares (length values) k)) (λ j d e there. refl)

-- what was written is no code's
unseen : (values : List ℕ) (slots slots' : List Slot) (shares shares' : List Share) (k : ℕ) (f : Kept → Kept) → whole_at slots shares k ≡ None
    → whole_at slots' shares' k ≡ None → ((j : ℕ) → j ≢ k → whole_at slots' shares' j ≡ whole_at slots shares j)
    → ((n j : ℕ) → end_at shares' n j ≡ end_at shares n j) → ChangesAt k f values slots shares values slots' shares'
unseen values slots slots' shares shares' k f none none' others ends = λ j. by_place j (same_or_not j k)
  where
    by_place : (j : ℕ) → (j ≡ k) ⊎ (j ≢ k) → kept_in values slots' shares' j ≡ cond (j == k) (option_map f (kept_in values slots shares j)) (kept_in values slots shares j)
    by_place j (inl e) =
        let was : kept_in values slots shares j ≡ None = ap (option_map (kept_with values (end_at shares (length values) j))) (ap (whole_at slots shares) e ∙ none) in
        let is : kept_in values slots' shares' j ≡ None = ap (option_map (kept_with values (end_at shares' (length values) j))) (ap (whole_at slots' shares') e ∙ none') in
        rw (eq-eqb j k e) (is ∙ sym (ap (option_map f) was))
    by_place j (inr e) =
        rw (ne_eqb j k e) (ap (option_map (kept_with values (end_at shares' (length values) j))) (others j e)
        ∙ ap (λ (i : ℕ). option_map (kept_with values i) (whole_at slots shares j)) (ends (length values) j))

-- there is no such code
pub nothing_there : (values : List ℕ) (slots : List Slot) (shares : List Share) (k : ℕ) (f : Kept → Kept) → whole_at slots shares k ≡ None
    → ChangesAt k f values slots shares values slots shares
nothing_there values slots shares k f none = unseen values slots slots shares shares k f none none (λ j e. refl) (λ n j. refl)

pub no_slot_there : (values : List ℕ) (slots : List Slot) (shares : List Share) (k : ℕ) (f : Kept → Kept) → length slots ≤ k → ChangesAt k f values slots shares values slots shares
no_slot_there values slots shares k f past = nothing_there values slots shares k f (no_slot slots shares k (slice_get_past slots k past))

pub no_share_there : (values : List ℕ) (slots : List Slot) (shares : List Share) (k : ℕ) (f : Kept → Kept) → length shares ≤ k → ChangesAt k f values slots shares values slots shares
no_share_there values slots shares k f past = nothing_there values slots shares k f (no_share slots shares k (slice_get_past shares k past))

-- the slot alone was written, and nothing else was looked at
pub slot_changes : (slots : List Slot) (k : ℕ) (s s' : Slot) → slice_get slots k ≡ Some s → (shares : List Share) (values : List ℕ) (f : Kept → Kept)
    → ((h : Share) (end : ℕ) → kept_with values end (whole s' h) ≡ f (kept_with values end (whole s h)))
    → ChangesAt k f values slots shares values (slice_set slots k s') shares
slot_changes slots k s s' at shares values f one = by_share (slice_get shares k) refl
  where
    by_share : (o : Option Share) → slice_get shares k ≡ o → ChangesAt k f values slots shares values (slice_set slots k s') shares
    by_share None e = unseen values slots (slice_set slots k s') shares shares k f (no_share slots shares k e)
        (no_share (slice_set slots k s') shares k e) (other_slots slots shares k s') (λ n j. refl)
    by_share (Some h) e = code_changes slots (slice_set slots k s') shares shares k (whole s h) (whole s' h) (slot_written slots shares k s s' h at e) values f (one h)

-- the slot was written, and what was left to do makes the change whole
pub slot_leaves : (slots : List Slot) (k : ℕ) (s s' : Slot) → slice_get slots k ≡ Some s
    → (shares : List Share) (values : List ℕ) (f g : Kept → Kept)
    → ((h : Share) (end : ℕ) → f (kept_with values end (whole s' h)) ≡ g (kept_with values end (whole s h)))
    → (after : List ℕ) (counted : List Slot) (with : List Share) → ChangesAt k f values (slice_set slots k s') shares after counted with → ChangesAt k g values slots shares after counted with
slot_leaves slots k s s' at shares values f g one after counted with rest = λ j. rest j ∙ by_place j (same_or_not j k)
  where
    end : ℕ
    end = end_at shares (length values) k

    by_share : (o : Option Share) → slice_get shares k ≡ o → option_map f (kept_in values (slice_set slots k s') shares k) ≡ option_map g (kept_in values slots shares k)
    by_share None e = ap (λ (o : Option Whole). option_map f (option_map (kept_with values end) o)) (no_share (slice_set slots k s') shares k e)
        ∙ sym (ap (λ (o : Option Whole). option_map g (option_map (kept_with values end) o)) (no_share slots shares k e))
    by_share (Some h) e =
        ap (λ (o : Option Whole). option_map f (option_map (kept_with values end) o)) (whole_is (slice_set slots k s') shares k s' h (get_set slots k s' (slice_get_within slots k s at)) e)
        ∙ ap (λ (x : Kept). Some x) (one h end)
        ∙ sym (ap (λ (o : Option Whole). option_map g (option_map (kept_with values end) o)) (whole_is slots shares k s h at e))

    by_place : (j : ℕ) → (j ≡ k) ⊎ (j ≢ k) → cond (j == k) (option_map f (kept_in values (slice_set slots k s') shares j))
        (kept_in values (slice_set slots k s') shares j) ≡ cond (j == k) (option_map g (kept_in values slots shares j))
        (kept_in values slots shares j)
    by_place j (inl e) = rw (eq-eqb j k e) (subst (λ p. option_map f (kept_in values (slice_set slots k s') shares p) ≡ option_map g
        (kept_in values slots shares p)) (sym e) (by_share (slice_get shares k) refl))
    by_place j (inr e) = rw (ne_eqb j k e) (ap (option_map (kept_with values (end_at shares (length values) j))) (other_slots slots shares k s' j e))

-- the share alone
pub share_alone_changes : (shares : List Share) (k : ℕ) (h h' : Share) → slice_get shares k ≡ Some h → h'.start ≡ h.start
    → (slots : List Slot) (values : List ℕ) (f : Kept → Kept) → ((s : Slot) (end : ℕ)
    → kept_with values end (whole s h') ≡ f (kept_with values end (whole s h)))
    → ChangesAt k f values slots shares values slots (slice_set shares k h')
share_alone_changes shares k h h' there start slots values f one = by_slot (slice_get slots k) refl
  where
    by_slot : (o : Option Slot) → slice_get slots k ≡ o → ChangesAt k f values slots shares values slots (slice_set shares k h')
    by_slot None e = unseen values slots slots shares (slice_set shares k h') k f (no_slot slots shares k e)
        (no_slot slots (slice_set shares k h') k e) (other_shares slots shares k h') (λ n j. starts_same shares k h h' there start n (j + 1))
    by_slot (Some s) e = code_changes slots slots shares (slice_set shares k h') k (whole s h) (whole s h') (share_written slots shares k s h h' e there start) values f (one s)

-- what is kept of the code is what it is to be
pub already_so : (values : List ℕ) (slots : List Slot) (shares : List Share) (k : ℕ) (w : Whole) (f : Kept → Kept) → whole_at slots shares k ≡ Some w
    → kept_with values (end_at shares (length values) k) w ≡ f (kept_with values (end_at shares (length values) k) w)
    → ChangesAt k f values slots shares values slots shares
already_so values slots shares k w f at same = changes slots slots shares shares k w w
    (record { was = at; is = at; others = λ j e. refl; ends = λ n j. refl }) values values f refl same (λ j d e there. refl)

-- the share that a slot has
pub fits_in : (shares : List Share) (n k : ℕ) (s : Slot) (h : Share) → IsLaid shares n k s → slice_get shares k ≡ Some h → h.start + used (holding_of s h) ≤ end_at shares n k
fits_in shares n k s h l there =
    let same : l.share ≡ h = cc (sym l.there ∙ there) in
    subst (λ (x : Share). x.start + used (holding_of s x) ≤ end_at shares n k) same l.fits

-- and several digits are some
pub some_in : (shares : List Share) (n k : ℕ) (s : Slot) (h : Share) → IsLaid shares n k s → slice_get shares k ≡ Some h → 1 ≤ some_by (state_in s.tag) (len_in s.tag s.number h.upper)
some_in shares n k s h l there =
    let same : l.share ≡ h = cc (sym l.there ∙ there) in
    subst (λ (x : Share). 1 ≤ some_by (state_in s.tag) (len_in s.tag s.number x.upper)) same l.some

module _ (slots : List Slot) (shares : List Share) (n : ℕ) (laid : AreLaidOut slots shares n) where
  -- a share ends where a later one begins, or before
  ends_before : (m j : ℕ) (d : Slot) (g : Share) → slice_get slots (j + 1 + m) ≡ Some d → slice_get shares (j + 1 + m) ≡ Some g → end_at shares n j ≤ g.start
  ends_before zero j d g at shared =
      let e : j + 1 + 0 ≡ j + 1 = omega arith in
      let s = ap (start_or n) (ap (slice_get shares) (sym e) ∙ shared) in
      omega (arith, s)
  ends_before (suc m) j d g at shared =
      let w = slice_get_within slots (j + 1 + suc m) d at in
      let c = there slots (j + 1) (omega (arith, w)) in
      let l = laid (j + 1) c.0 c.1 in
      let e : j + 1 + suc m ≡ j + 1 + 1 + m = omega arith in
      let more = ends_before m (j + 1) d g (ap (slice_get slots) (sym e) ∙ at) (ap (slice_get shares) (sym e) ∙ shared) in
      let s = ap (start_or n) l.there in
      let low = l.fits in
      omega (arith, s, low, more)

  module _ (k : ℕ) (s : Slot) (at : slice_get slots k ≡ Some s) where
    pub slot_laid : (s' : Slot) → ((h : Share) → slice_get shares k ≡ Some h → (h.start + used (holding_of s' h) ≤ end_at shares n k)
        × (1 ≤ some_by (state_in s'.tag) (len_in s'.tag s'.number h.upper))) → AreLaidOut (slice_set slots k s') shares n
    slot_laid s' fits = λ j d there. by_place j d there (same_or_not j k)
      where
        by_place : (j : ℕ) (d : Slot) → slice_get (slice_set slots k s') j ≡ Some d → (j ≡ k) ⊎ (j ≢ k) → IsLaid shares n j d
        by_place j d there (inl e) =
            let same : s' ≡ d = cc (sym (get_set slots k s' (slice_get_within slots k s at)) ∙ ap (slice_get (slice_set slots k s')) (sym e) ∙ there) in
            let l = laid k s at in
            let now = fits l.share l.there in
            rw (e, sym same) (record { share = l.share; there = l.there; fits = now.0; within = l.within; some = now.1 })
        by_place j d there (inr e) = laid j d (sym (get_other slots k j s' e) ∙ there)

  -- a share was written that begins where it began, and its slot has room in it
  pub share_laid : (k : ℕ) (h h' : Share) → slice_get shares k ≡ Some h → h'.start ≡ h.start
      → ((s : Slot) → slice_get slots k ≡ Some s → (h'.start + used (holding_of s h') ≤ end_at shares n k) × (1 ≤ some_by (state_in s.tag) (len_in s.tag s.number h'.upper)))
      → AreLaidOut slots (slice_set shares k h') n
  share_laid k h h' at start fits_now = λ j d there. by_place j d there (laid j d there) (same_or_not j k)
    where
      by_place : (j : ℕ) (d : Slot) → slice_get slots j ≡ Some d → IsLaid shares n j d → (j ≡ k) ⊎ (j ≢ k) → IsLaid (slice_set shares k h') n j d
      by_place j d there l (inl e) =
          let t = starts_same shares k h h' at start n (j + 1) in
          let now = fits_now d (ap (slice_get slots) (sym e) ∙ there) in
          let fits = now.0 in
          let ends : end_at shares n k ≡ end_at shares n j = ap (end_at shares n) (sym e) in
          let most = l.within in
          record {
            share = h';
            there = ap (slice_get (slice_set shares k h')) e ∙ get_set shares k h' (slice_get_within shares k h at);
            fits = omega (arith, t, fits, ends);
            within = omega (arith, t, most);
            some = now.1;
          }
      by_place j d there l (inr e) =
          let t = starts_same shares k h h' at start n (j + 1) in
          let fits = l.fits in
          let most = l.within in
          record {
            share = l.share;
            there = get_other shares k j h' e ∙ l.there;
            fits = omega (arith, t, fits);
            within = omega (arith, t, most);
            some = l.some;
          }

  -- a share was written of which the slot looks at nothing
  pub counted_laid : (k : ℕ) (h h' : Share) → slice_get shares k ≡ Some h → h'.start ≡ h.start → h'.upper ≡ h.upper → AreLaidOut slots (slice_set shares k h') n
  counted_laid k h h' at start upper = share_laid k h h' at start (λ s there.
      let l = laid k s there in
      let low = fits_in shares n k s h l at in
      let some = some_in shares n k s h l at in
      rw (start, upper) (low, some))

  module _ (k : ℕ) (s : Slot) (h : Share) (at : slice_get slots k ≡ Some s) (here : slice_get shares k ≡ Some h) where
    -- both were written
    pub both_laid : (s' : Slot) (h' : Share) → h'.start ≡ h.start → h.start + used (holding_of s' h') ≤ end_at shares n k
        → 1 ≤ some_by (state_in s'.tag) (len_in s'.tag s'.number h'.upper) → AreLaidOut (slice_set slots k s') (slice_set shares k h') n
    both_laid s' h' start fits some = λ j d there. by_place j d there (same_or_not j k)
      where
        by_place : (j : ℕ) (d : Slot) → slice_get (slice_set slots k s') j ≡ Some d → (j ≡ k) ⊎ (j ≢ k) → IsLaid (slice_set shares k h') n j d
        by_place j d there (inl e) =
            let t = starts_same shares k h h' here start n (j + 1) in
            let ends : end_at shares n k ≡ end_at shares n j = ap (end_at shares n) (sym e) in
            let l = laid k s at in
            let most = l.within in
            let same : s' ≡ d = cc (sym (get_set slots k s' (slice_get_within slots k s at)) ∙ ap (slice_get (slice_set slots k s')) (sym e) ∙ there) in
            rw (sym same) (record {
              share = h';
              there = ap (slice_get (slice_set shares k h')) e ∙ get_set shares k h' (slice_get_within shares k h here);
              fits = omega (arith, t, fits, ends, start);
              within = omega (arith, t, most, ends);
              some = some;
            })
        by_place j d there (inr e) =
            let l = laid j d (sym (get_other slots k j s' e) ∙ there) in
            let t = starts_same shares k h h' here start n (j + 1) in
            let low = l.fits in
            let most = l.within in
            record {
              share = l.share;
              there = get_other shares k j h' e ∙ l.there;
              fits = omega (arith, t, low);
              within = omega (arith, t, most);
              some = l.some;
            }

    -- other shares lie apart
    apart : (j : ℕ) (d : Slot) (g : Share) → j ≢ k → slice_get slots j ≡ Some d → slice_get shares j ≡ Some g
        → (g.start + used (holding_of d g) ≤ h.start) ⊎ (end_at shares n k ≤ g.start)
    apart j d g other there begins = by_order (cases_lt j k)
      where
        by_order : (j < k) ⊎ (k ≤ j) → (g.start + used (holding_of d g) ≤ h.start) ⊎ (end_at shares n k ≤ g.start)
        by_order (inl l) =
            let e : k ≡ j + 1 + (k - (j + 1)) = omega arith in
            let b = ends_before (k - (j + 1)) j s h (ap (slice_get slots) (sym e) ∙ at) (ap (slice_get shares) (sym e) ∙ here) in
            let fits = fits_in shares n j d g (laid j d there) begins in
            inl (omega (arith, fits, b))
        by_order (inr l) =
            let less : k < j = by_apart (cases_lt k j) in
            let e : j ≡ k + 1 + (j - (k + 1)) = omega arith in
            inr (ends_before (j - (k + 1)) k d g (ap (slice_get slots) (sym e) ∙ there) (ap (slice_get shares) (sym e) ∙ begins))
          where
            by_apart : (k < j) ⊎ (j ≤ k) → k < j
            by_apart (inl m) = m
            by_apart (inr m) = absurd (other (omega arith))

    -- where the share alone was written, the others hold what they held
    others_hold : (values ys : List ℕ) → length values ≡ n → length ys ≡ end_at shares n k - h.start → (j : ℕ) (d : Whole) → j ≢ k → whole_at slots shares j ≡ Some d
        → held_of (put_mid h.start (end_at shares n k - h.start) values ys) d ≡ held_of values d
    others_hold values ys long same j d other there =
        let p = parts_of slots shares j d there in
        let fits = fits_in shares n k s h (laid k s at) here in
        let l = laid k s at in
        let high = l.within in
        ap (held_of (put_mid h.start (end_at shares n k - h.start) values ys)) (sym p.4)
        ∙ ap (held_by (state_in p.0.tag) (len_in p.0.tag p.0.number p.1.upper))
        (reads_same p.1.start (used (holding_of p.0 p.1)) h.start (end_at shares n k - h.start) values ys (omega (arith, fits, high)) same
        (by_apart (apart j p.0 p.1 other p.2 p.3)))
        ∙ ap (held_of values) p.4
      where
        by_apart : {a b : ℕ} → (a ≤ h.start) ⊎ (end_at shares n k ≤ b) → (a ≤ h.start) ⊎ (h.start + (end_at shares n k - h.start) ≤ b)
        by_apart (inl l) = inl l
        by_apart (inr l) = let fits = fits_in shares n k s h (laid k s at) here in inr (omega (arith, fits, l))

    -- the bytes were written, and the slot and the share with them
    pub share_changes : (s' : Slot) (h' : Share) (values ys : List ℕ) (f : Kept → Kept) → h'.start ≡ h.start → length values ≡ n → length ys ≡ end_at shares n k - h.start
        → kept_with (put_mid h.start (end_at shares n k - h.start) values ys) (end_at shares n k) (whole s' h') ≡ f (kept_with values (end_at shares n k) (whole s h))
        → ChangesAt k f values slots shares (put_mid h.start (end_at shares n k - h.start) values ys) (slice_set slots k s') (slice_set shares k h')
    share_changes s' h' values ys f start long same one =
        let fits = fits_in shares n k s h (laid k s at) here in
        let l = laid k s at in
        let high = l.within in
        let bytes = put_mid h.start (end_at shares n k - h.start) values ys in
        let size : length bytes ≡ length values = length-put_mid h.start (end_at shares n k - h.start) values ys (omega (arith, fits, high)) same in
        changes slots (slice_set slots k s') shares (slice_set shares k h') k (whole s h) (whole s' h')
        (both_written slots shares k s s' h h' at here start) values bytes f size (rw long one)
        (λ j d e there. others_hold values ys long same j d e there)

-- ---- what is kept of the code

-- what an index outside the slots, or the shares, would give in a proof
abbrev pub blank : Slot
blank = record { number = 0; tag = 0; steps = [] }

abbrev pub blank_share : Share
blank_share = record { start = 0; upper = 0; counts = []; chosen = false }

-- with another value
abbrev kept_as : ℕ → Whole → Held → Kept
kept_as end s h = record { held = h; counts = s.counts; chosen = s.chosen; room = end - s.start }

-- what is read of a written part
part_read : (start end m : ℕ) (values ys : List ℕ) → start + m ≤ end → end ≤ length values → length ys ≡ end - start
    → take m (drop start (put_mid start (end - start) values ys)) ≡ take m ys
part_read start end m values ys fits most same =
    let bytes = put_mid start (end - start) values ys in
    let part : take (end - start) (drop start bytes) ≡ ys = between-put_mid start (end - start) values ys end (omega arith) same in
    sym (take-take m (end - start) (drop start bytes) (omega arith)) ∙ ap (take m) part

pub text_fits : (f : Form) (n room : ℕ) → 0 < n → room_for f n ≤ room → fits f n room ≡ true
text_fits f n room some most = rw (lt-ltb 0 n some, le-leb (room_for f n) room most) refl

-- a text that is empty, or too long for the room
pub none_fits : (f : Form) (n room : ℕ) → n ≡ 0 → fits f n room ≡ false
none_fits f n room none = rw none refl

pub too_long : (f : Form) (n room : ℕ) → room < room_for f n → fits f n room ≡ false
too_long f n room long = and_right (nat_lt 0 n) (nat_le (room_for f n) room) (lt-leb (room_for f n) room long)

-- where the text does not fit, its value stays
pub kept_still : (f : Form) (text values : List ℕ) (end : ℕ) (s : Whole) → fits f (length text) (end - s.start) ≡ false → kept_with values end s ≡ with_text f text (kept_with values end s)
kept_still f text values end s out = sym (ap (λ (b : Bool). kept_as end s (cond b (held_as f text) (held_of values s))) out)

pub text_stays : (values : List ℕ) (slots : List Slot) (shares : List Share) (k : ℕ) (s : Slot) (h : Share) (f : Form) (text : List ℕ)
    → slice_get slots k ≡ Some s → slice_get shares k ≡ Some h → fits f (length text) (end_at shares (length values) k - h.start) ≡ false
    → ChangesAt k (with_text f text) values slots shares values slots shares
text_stays values slots shares k s h f text at there out = already_so values slots shares k (whole s h) (with_text f text)
    (whole_is slots shares k s h at there) (kept_still f text values (end_at shares (length values) k) (whole s h) out)

-- a share lies within the values
pub not_outside : (start used end n : ℕ) → start + used ≤ end → end ≤ n → (end < start) ⊎ (n < end) → ⊥
not_outside start used end n low high (inl h) = omega arith
not_outside start used end n low high (inr h) = omega arith

-- the digits that were packed lie in the bytes that are in use
pub packed_held : (ys text : List ℕ) → digits_in (length text) ys ≡ map held_digit text
    → held_by state.Packed (length text) (take (used_by state.Packed (length text)) ys) ≡ Held.Digits (map held_digit text)
packed_held ys text packed = ap (λ (l : List ℕ). Held.Digits l) (digits_first (length text) ys ∙ packed)

-- a form of digits
digits_form : (f : Form) → f ≢ form.RealText → (text : List ℕ) → Held.Digits (map held_digit text) ≡ held_as f text
digits_form form.Scalar digits text = refl
digits_form form.Vector digits text = refl
digits_form form.RealText digits text = absurd (digits refl)

pub packed_as : (f : Form) (ys text : List ℕ) → f ≢ form.RealText → text_bytes f (length text) ≤ length ys
    → digits_in (length text) ys ≡ map held_digit text → IsHeldAs f text state.Packed ys
packed_as f ys text digits room packed = record {
  held = packed_held ys text packed ∙ digits_form f digits text;
  used = digits_bytes f (length text) digits room;
  some = λ h. h;
  whole = λ e. cc;
}
  where
    digits_bytes : (f : Form) (n : ℕ) → f ≢ form.RealText → text_bytes f n ≤ length ys → bytes_for n ≤ length ys
    digits_bytes form.Scalar n is h = h
    digits_bytes form.Vector n is h = h
    digits_bytes form.RealText n is h = absurd (is refl)

-- a text takes as many bytes as it has to, where it is not one digit alone
form_room : (f : Form) (n : ℕ) → (f ≢ form.RealText → n ≢ 1) → room_for f n ≡ text_bytes f n
form_room form.Scalar n several = ap (λ (b : Bool). cond b 0 (bytes_for n)) (ne_eqb n 1 (several (λ e. cc)))
form_room form.Vector n several = ap (λ (b : Bool). cond b 0 (bytes_for n)) (ne_eqb n 1 (several (λ e. cc)))
form_room form.RealText n several = refl

-- a text that has no room, or is none
pub form_past : (f : Form) (n room : ℕ) → (f ≢ form.RealText → n ≢ 1) → room < text_bytes f n → fits f n room ≡ false
form_past f n room several past = too_long f n room (let is = form_room f n several in omega (arith, is, past))

-- the text that was put in the share
pub form_kept : (f : Form) (st : State) (s : Whole) (end : ℕ) (values ys text : List ℕ) → (f ≢ form.RealText → length text ≢ 1) → 0 < length text
    → s.start + text_bytes f (length text) ≤ end → end ≤ length values → length ys ≡ end - s.start → IsHeldAs f text st ys
    → kept_with (put_mid s.start (end - s.start) values ys) end (set_whole st (length text) s) ≡ with_text f text (kept_with values end s)
form_kept f st s end values ys text several some enough most same is =
    let n = length text in
    let used = is.used in
    let read = part_read s.start end (used_by st n) values ys (omega (arith, used, same, enough)) most same in
    let room = form_room f n several in
    let yes = text_fits f n (end - s.start) some (omega (arith, room, enough)) in
    ap (λ (l : List ℕ). kept_as end s (held_by st n l)) read
    ∙ ap (kept_as end s) is.held
    ∙ sym (ap (λ (b : Bool). kept_as end s (cond b (held_as f text) (held_of values s))) yes)

-- a state that holds one digit
pub held_one : (st : State) (len d : ℕ) (bytes : List ℕ) → one_digit st ≡ Some d → held_by st len bytes ≡ Held.Digits (d ∷ [])
held_one state.Unset len d bytes h = cc
held_one state.Zero len d bytes h = let e : byte "0" ≡ d = cc in ap (λ x. Held.Digits (x ∷ [])) e
held_one state.One len d bytes h = let e : byte "1" ≡ d = cc in ap (λ x. Held.Digits (x ∷ [])) e
held_one state.Unknown len d bytes h = let e : byte "x" ≡ d = cc in ap (λ x. Held.Digits (x ∷ [])) e
held_one state.High len d bytes h = let e : byte "z" ≡ d = cc in ap (λ x. Held.Digits (x ∷ [])) e
held_one state.Packed len d bytes h = cc
held_one state.Bits len d bytes h = cc
held_one state.Real len d bytes h = cc

pub used_none : (st : State) (len d : ℕ) → one_digit st ≡ Some d → (used_by st len ≡ 0) × (some_by st len ≡ 1)
used_none state.Unset len d h = cc
used_none state.Zero len d h = (refl, refl)
used_none state.One len d h = (refl, refl)
used_none state.Unknown len d h = (refl, refl)
used_none state.High len d h = (refl, refl)
used_none state.Packed len d h = cc
used_none state.Bits len d h = cc
used_none state.Real len d h = cc

-- one digit is held in the slot
pub digit_kept : (st : State) (len : ℕ) (s : Whole) (d end : ℕ) (values : List ℕ) → one_digit st ≡ Some d
    → kept_with values end (set_whole st len s) ≡ with_held (Held.Digits (d ∷ [])) (kept_with values end s)
digit_kept st len s d end values h = ap (λ (x : Held). kept_as end s x) (held_one st len d (take (used_by st len) (drop s.start values)) h)

-- a state is known by its number
pub told_state : (st : State) → state_in (tag_of st) ≡ st
told_state state.Unset = refl
told_state state.Zero = refl
told_state state.One = refl
told_state state.Unknown = refl
told_state state.High = refl
told_state state.Packed = refl
told_state state.Bits = refl
told_state state.Real = refl

-- from 7 on a number tells binary digits
pub many_bits : (tag : ℕ) → 7 ≤ tag → state_in tag ≡ state.Bits
many_bits zero h = absurd (omega arith)
many_bits (suc zero) h = absurd (omega arith)
many_bits (suc (suc zero)) h = absurd (omega arith)
many_bits (suc (suc (suc zero))) h = absurd (omega arith)
many_bits (suc (suc (suc (suc zero)))) h = absurd (omega arith)
many_bits (suc (suc (suc (suc (suc zero))))) h = absurd (omega arith)
many_bits (suc (suc (suc (suc (suc (suc zero)))))) h = absurd (omega arith)
many_bits (suc (suc (suc (suc (suc (suc (suc n))))))) h = refl

-- a length that a slot and its share hold in two parts
pub len_told : (st : State) (tag len : ℕ) → tag ≡ tag_of st → st ≢ state.Bits → len_in tag (len % 4294967296) (len / 4294967296) ≡ len
len_told st tag len e text = ap (λ n. len_in n (len % 4294967296) (len / 4294967296)) e ∙ by_state st text
  where
    parts : len / 4294967296 * 4294967296 + len % 4294967296 % 4294967296 ≡ len
    parts = omega arith

    by_state : (st : State) → st ≢ state.Bits → len_in (tag_of st) (len % 4294967296) (len / 4294967296) ≡ len
    by_state state.Unset h = parts
    by_state state.Zero h = parts
    by_state state.One h = parts
    by_state state.Unknown h = parts
    by_state state.High h = parts
    by_state state.Packed h = parts
    by_state state.Bits h = absurd (h refl)
    by_state state.Real h = parts

-- what is kept of a code is what its slot and its share tell
pub kept_parts : (values : List ℕ) (slots : List Slot) (shares : List Share) (k : ℕ) (kept : Kept) → kept_in values slots shares k ≡ Some kept
    → (s : Slot) × (h : Share) × (slice_get slots k ≡ Some s) × (slice_get shares k ≡ Some h)
    × (kept_with values (end_at shares (length values) k) (whole s h) ≡ kept)
kept_parts values slots shares k kept is = by_whole (whole_at slots shares k) refl
  where
    end : ℕ
    end = end_at shares (length values) k

    by_whole : (o : Option Whole) → whole_at slots shares k ≡ o → (s : Slot) × (h : Share) × (slice_get slots k ≡ Some s)
        × (slice_get shares k ≡ Some h) × (kept_with values end (whole s h) ≡ kept)
    by_whole None e = absurd (let f : None ≡ Some kept = sym (ap (option_map (kept_with values end)) e) ∙ is in cc)
    by_whole (Some w) e =
        let p = parts_of slots shares k w e in
        let f : Some (kept_with values end w) ≡ Some kept = sym (ap (option_map (kept_with values end)) e) ∙ is in
        (p.0, p.1, p.2, p.3, ap (kept_with values end) p.4 ∙ cc f)

-- a text of one digit
pub alone : (text : List ℕ) → 1 ≤ length text → length text < 2 → get_or text 0 0 ∷ [] ≡ text
alone [] h k = absurd (omega arith)
alone (a ∷ []) h k = refl
alone (a ∷ b ∷ text) h k = absurd (omega arith)

-- with other counters
pub counts_kept : (s : Whole) (counts : List ℕ) (which end : ℕ) (values : List ℕ) → counts ≡ counts_with s.counts which
    → kept_with values end (record { state = s.state; start = s.start; len = s.len; counts = counts; chosen = s.chosen }) ≡ one_more which
    (kept_with values end s)
counts_kept s counts which end values e = rw e refl

pub steps_kept : (s : Whole) (counts : List ℕ) (rises falls : Bool) (end : ℕ) (values : List ℕ) → counts ≡ counts_if falls (counts_if rises (counts_with s.counts 0) 1) 2
    → kept_with values end (record { state = s.state; start = s.start; len = s.len; counts = counts; chosen = s.chosen }) ≡ with_step rises falls (kept_with values end s)
steps_kept s counts rises falls end values e = rw e refl

pub more_kept : (s : Whole) (counts : List ℕ) (more : ℕ) (rises falls : Bool) (end : ℕ) (values : List ℕ) → counts ≡ counts_after more rises falls s.counts
    → kept_with values end (record { state = s.state; start = s.start; len = s.len; counts = counts; chosen = s.chosen }) ≡ with_steps more rises falls (kept_with values end s)
more_kept s counts more rises falls end values e = rw e refl

-- a single step
pub one_step : (rises falls : Bool) (k : Kept) → with_steps 1 rises falls k ≡ with_step rises falls k
one_step true true k = refl
one_step true false k = refl
one_step false true k = refl
one_step false false k = refl
