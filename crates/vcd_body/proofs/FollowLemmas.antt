-- What a table keeps of a code whose value was set and whose step was counted.
use Rattle.vcd_body.proofs.Cited.{◌≡◌, ◌≢◌, ◌⊎◌, inl, inr, ℕ, ◌+◌, ◌<◌, ◌≤◌, ◌==◌, ◌||◌, ◌%◌, ◌^◌, max, not, Bool, true, false, cond, List, [], ◌∷◌, length, map, take, drop, slice_get, Option, Some, None, refl, subst, sym, ap, ◌∙◌, arith, option_map, unwrap_or, to_ascii_lowercase, option_eq, agree_below_at, eq-eqb, eqb-true, lt-ltb, ne_eqb, nat_tests, Value, value_with, Code, ChangesCode, GivesValue, IsLaidOut, KeepsTable, SetsCode, held_at, kept_at, IsText, binary_digits, count_in, is_proper, number_in, model_form, Held, IsStep, Kept, differs, fits, goes_from, last_digit_in, value_at_size, with_change, with_counted, with_held, with_number, with_number_change, with_step, with_text, held_digit, AreLaidOut, ChangesAt, Whole, end_at, held_by, held_of, kept_in, kept_with, len_in, tag_of, one_digit, share_of, some_by, state_in, used_by, whole, Form, Share, Slot, State, Step, Table, form_in, with_value, with_value_change}
use Rattle.vcd_body.specs.declared.item.Form.TheVariants as form
use Rattle.vcd_body.specs.declared.values.slot.State.TheVariants as state
use Rattle.vcd_body.specs.declared.values.value.Value.{Value as Given}
use Rattle.vcd_body.specs.declared.values.value.Value.TheVariants as given
use Rattle.vcd_body.specs.Values.{text_in}
use Rattle.vcd_body.proofs.BinaryLemmas.{length_binary, proper, proper_count}
use Rattle.vcd_body.proofs.NumberLemmas.{number_is_text, number_step, proper_number}
use Rattle.vcd_body.proofs.SetLemmas.{good_value, set_value}
use Rattle.vcd_body.proofs.StepLemmas.{digit_step}
use Rattle.vcd_body.proofs.StoreLemmas.{held_one, kept_parts, same_or_not, some_in, text_fits}

-- a step tells what is counted
pub changed_by : (s : Step) (size : ℕ) (f : Form) (text : List ℕ) (k : Kept) → 0 < length text → IsStep s (value_at_size size k.held) (value_with size (model_form f) text)
    → with_change size f text k ≡ cond s.differs (with_step s.rises s.falls (with_text f text k)) (with_text f text k)
changed_by s size f text k some is = rw (lt-ltb 0 (length text) some, is.0, is.1, is.2) refl

pub changed_to : (s : Step) (size l n : ℕ) (k : Kept) → IsStep s (value_at_size size k.held) (value_with size (model_form form.Vector) (binary_digits l n))
    → with_number_change size l n k ≡ cond s.differs (with_step s.rises s.falls (with_number l n k)) (with_number l n k)
changed_to s size l n k is = rw (is.0, is.1, is.2) refl

-- the step to binary digits that were put as a text
pub step_put : (old : Option Value) (s : Step) (l n size : ℕ) (text : List ℕ) → text ≡ binary_digits l n → 1 ≤ l
    → (0 < length text → IsStep s old (value_with size (model_form form.Vector) text))
    → IsStep s old (value_with size (model_form form.Vector) (binary_digits l n))
step_put old s l n size text is some step =
    let count = length_binary l n in
    let long = ap length is in
    subst (λ (t : List ℕ). IsStep s old (value_with size (model_form form.Vector) t)) is (step (omega (arith, count, long, some)))

-- one change after another of the same code
pub change_twice : (code : ℕ) (f g : Kept → Kept) (v1 v2 v3 : List ℕ) (s1 s2 s3 : List Slot) (h1 h2 h3 : List Share)
    → ChangesAt code f v1 s1 h1 v2 s2 h2 → ChangesAt code g v2 s2 h2 v3 s3 h3 → ChangesAt code (λ k. g (f k)) v1 s1 h1 v3 s3 h3
change_twice code f g v1 v2 v3 s1 s2 s3 h1 h2 h3 a b = λ p. b p ∙ ap (λ (o : Option Kept). cond (p == code) (option_map g o) o) (a p) ∙ by_case (p == code) (kept_in v1 s1 h1 p)
  where
    by_case : (t : Bool) (o : Option Kept) → cond t (option_map g (cond t (option_map f o) o)) (cond t (option_map f o) o) ≡ cond t (option_map (λ k. g (f k)) o) o
    by_case true None = refl
    by_case true (Some k) = refl
    by_case false o = refl

-- what stays as it was
pub nothing_changes : (code : ℕ) (v : List ℕ) (s : List Slot) (h : List Share) → ChangesAt code (λ (k : Kept). k) v s h v s h
nothing_changes code v s h p = by_case (p == code) (kept_in v s h p)
  where
    by_case : (t : Bool) (o : Option Kept) → o ≡ cond t (option_map (λ (k : Kept). k) o) o
    by_case true None = refl
    by_case true (Some k) = refl
    by_case false o = refl

-- a change is known by what it makes of what was kept
pub change_as : (code : ℕ) (f g : Kept → Kept) (v v' : List ℕ) (s s' : List Slot) (h h' : List Share)
    → ((k : Kept) → kept_in v s h code ≡ Some k → f k ≡ g k) → ChangesAt code f v s h v' s' h' → ChangesAt code g v s h v' s' h'
change_as code f g v v' s s' h h' same a = λ p. a p ∙ by_place p (same_or_not p code)
  where
    maps : (o : Option Kept) → ((k : Kept) → o ≡ Some k → f k ≡ g k) → option_map f o ≡ option_map g o
    maps None is = refl
    maps (Some k) is = ap (λ (x : Kept). Some x) (is k refl)

    by_place : (p : ℕ) → (p ≡ code) ⊎ (p ≢ code) → cond (p == code) (option_map f (kept_in v s h p)) (kept_in v s h p) ≡ cond (p == code)
        (option_map g (kept_in v s h p)) (kept_in v s h p)
    by_place p (inl e) = rw (eq-eqb p code e) (maps (kept_in v s h p) (λ k is. same k (ap (kept_in v s h) (sym e) ∙ is)))
    by_place p (inr e) = rw (ne_eqb p code e) refl

-- binary digits that were set, where their text has room
module _ (code l n : ℕ) (v v' : List ℕ) (s s' : List Slot) (h h' : List Share) (k : Kept) (some : 1 ≤ l) (few : l ≤ 32) (at : kept_in v s h code ≡ Some k) (room : 8 ≤ k.room) where
  enough : (x : Kept) → kept_in v s h code ≡ Some x → 8 ≤ x.room
  enough x is = let same : k ≡ x = cc (sym at ∙ is) in subst (λ (y : Kept). 8 ≤ y.room) same room

  pub number_as_text : ChangesAt code (with_number l n) v s h v' s' h' → ChangesAt code (with_text form.Vector (binary_digits l n)) v s h v' s' h'
  number_as_text changes = change_as code (with_number l n) (with_text form.Vector (binary_digits l n)) v v' s s' h h' (λ x is. number_is_text l n x some few (enough x is)) changes

  pub step_as_text : (size : ℕ) → ChangesAt code (with_number_change size l n) v s h v' s' h' → ChangesAt code (with_change size form.Vector (binary_digits l n)) v s h v' s' h'
  step_as_text size changes =
      let c = length_binary l n in
      let ds = binary_digits l n in
      change_as code (with_number_change size l n) (with_change size form.Vector ds) v v' s s' h h'
      (λ x is. ap (with_counted (value_at_size size x.held) (value_with size (model_form form.Vector) ds)) (number_is_text l n x some few (enough x is))
      ∙ sym (ap (λ (b : Bool). cond b (with_counted (value_at_size size x.held) (value_with size (model_form form.Vector) ds)
      (with_text form.Vector ds x)) x) (lt-ltb 0 (length ds) (omega (arith, c, some))))) changes

-- what is kept of one digit
pub one_text : (f : Form) (digit : ℕ) (k : Kept) → f ≢ form.RealText → with_text f (digit ∷ []) k ≡ with_held (Held.Digits (held_digit digit ∷ [])) k
one_text form.Scalar digit k digits = ap (λ (b : Bool). with_held (cond b (Held.Digits (held_digit digit ∷ [])) k.held) k) (text_fits form.Scalar 1 k.room (omega arith) (omega arith))
one_text form.Vector digit k digits = ap (λ (b : Bool). with_held (cond b (Held.Digits (held_digit digit ∷ [])) k.held) k) (text_fits form.Vector 1 k.room (omega arith) (omega arith))
one_text form.RealText digit k digits = absurd (digits refl)

-- a slot that was set to a digit over another, and counted as the step tells
module _ (slot : Whole) (st : State) (digit : ℕ) (s : Step) (d : ℕ) (one : one_digit slot.state ≡ Some d)
    (now : one_digit st ≡ Some (held_digit digit)) (differ : s.differs ≡ not (d == to_ascii_lowercase digit))
    (rise : s.rises ≡ goes_from 48 49 (one_digit slot.state) (Some (to_ascii_lowercase digit)))
    (fall : s.falls ≡ goes_from 49 48 (one_digit slot.state) (Some (to_ascii_lowercase digit))) (f : Form) (digits : f ≢ form.RealText)
    (size end : ℕ) (values : List ℕ) where
  told : with_change size f (digit ∷ []) (kept_with values end slot) ≡ cond s.differs
      (with_step s.rises s.falls (with_text f (digit ∷ []) (kept_with values end slot))) (with_text f (digit ∷ []) (kept_with values end slot))
  told = changed_by s size f (digit ∷ []) (kept_with values end slot) (omega arith)
      (digit_step s f (digit ∷ []) d size (one_digit slot.state) (held_of values slot) digits (omega arith) (omega arith) one
      (held_one slot.state slot.len d (take (used_by slot.state slot.len) (drop slot.start values)) one) differ rise fall)

-- 0 that is set over 1, or 1 over 0: one rises, the other falls
pub bit_turned : (w : Whole) (one : Bool) → w.state ≡ cond one state.Zero state.One → (f : Form) → f ≢ form.RealText → (size end : ℕ) (values : List ℕ)
    → with_step one (not one) (with_held (Held.Digits (cond one 49 48 ∷ [])) (kept_with values end w)) ≡ with_change size f (cond one 49 48 ∷ []) (kept_with values end w)
bit_turned w true e f digits size end values =
    ap (with_step true false) (sym (one_text f 49 (kept_with values end w) digits))
    ∙ sym (told w state.One 49 (record { differs = true; rises = true; falls = false }) 48 (ap one_digit e) refl refl (rw e refl) (rw e refl) f digits size end values)
bit_turned w false e f digits size end values =
    ap (with_step false true) (sym (one_text f 48 (kept_with values end w) digits))
    ∙ sym (told w state.Zero 48 (record { differs = true; rises = false; falls = true }) 49 (ap one_digit e) refl refl (rw e refl) (rw e refl) f digits size end values)

-- the test whether there is this digit
pub digit_there : (o : Option ℕ) (d : ℕ) → option_eq (λ a b. a == b) o (Some d) ≡ true → o ≡ Some d
digit_there None d e = cc
digit_there (Some x) d e = ap (λ y. Some y) (eqb-true x d e)

-- a digit of a state, in lower case, is held as it is
abbrev is_one : ℕ → Bool
is_one d = (d == 48) || ((d == 49) || ((d == 120) || (d == 122)))

one_of_state : (st : State) (d : ℕ) → one_digit st ≡ Some d → is_one d ≡ true
one_of_state state.Unset d e = cc
one_of_state state.Zero d e = let is : 48 ≡ d = cc in ap is_one (sym is)
one_of_state state.One d e = let is : 49 ≡ d = cc in ap is_one (sym is)
one_of_state state.Unknown d e = let is : 120 ≡ d = cc in ap is_one (sym is)
one_of_state state.High d e = let is : 122 ≡ d = cc in ap is_one (sym is)
one_of_state state.Packed d e = cc
one_of_state state.Real d e = cc
one_of_state state.Bits d e = cc

held_lower : (digit : ℕ) → digit < 256 → is_one (to_ascii_lowercase digit) ≡ true → to_ascii_lowercase digit ≡ held_digit digit
held_lower digit fit one = eqb-true _ _ (by_test one (agree_below_at (λ x. cond (is_one (to_ascii_lowercase x)) (to_ascii_lowercase x == held_digit x) true) (λ _. true) 256 digit refl fit))
  where
    by_test : is_one (to_ascii_lowercase digit) ≡ true → cond (is_one (to_ascii_lowercase digit)) (to_ascii_lowercase digit == held_digit digit) true
        ≡ true → (to_ascii_lowercase digit == held_digit digit) ≡ true
    by_test t h = sym (ap (λ b. cond b (to_ascii_lowercase digit == held_digit digit) true) t) ∙ h

no_edge : (d : ℕ) → (false ≡ goes_from 48 49 (Some d) (Some d)) × (false ≡ goes_from 49 48 (Some d) (Some d))
no_edge d = (grind (arith, nat_tests), grind (arith, nat_tests))

-- the same digit over itself
pub digit_stays : (w : Whole) (digit : ℕ) → digit < 256 → one_digit w.state ≡ Some (to_ascii_lowercase digit) → (f : Form) → f ≢ form.RealText → (size end : ℕ) (values : List ℕ)
    → kept_with values end w ≡ with_change size f (digit ∷ []) (kept_with values end w)
digit_stays w digit fit one f digits size end values =
    let d = to_ascii_lowercase digit in
    let same = held_lower digit fit (one_of_state w.state d one) in
    ap (λ (h : Held). with_held h (kept_with values end w)) (held_one w.state w.len d (take (used_by w.state w.len) (drop w.start values)) one ∙ ap (λ x. Held.Digits (x ∷ [])) same)
    ∙ sym (one_text f digit (kept_with values end w) digits)
    ∙ sym (told w w.state digit (record { differs = false; rises = false; falls = false }) d one (one ∙ ap (λ x. Some x) same) (sym (ap not (eq-eqb d d refl)))
    ((no_edge d).0 ∙ ap (λ o. goes_from 48 49 o (Some d)) (sym one)) ((no_edge d).1 ∙ ap (λ o. goes_from 49 48 o (Some d)) (sym one)) f digits size end values)

pub bit_digit : (one : Bool) (tag : ℕ) → tag ≡ tag_of (cond one state.One state.Zero) → one_digit (state_in tag) ≡ Some (cond one 49 48)
bit_digit true tag is = ap (λ n. one_digit (state_in n)) is
bit_digit false tag is = ap (λ n. one_digit (state_in n)) is

-- the way to a digit from the other one tells whether it rises
pub way_flips : (one : Bool) (way : ℕ) → way ≡ cond one 2 0 → ((way == 2) ≡ one) × ((way == 0) ≡ not one)
way_flips true way e = rw e (refl, refl)
way_flips false way e = rw e (refl, refl)

-- a slot that holds the other digit of 0 and 1
pub other_bit : (tag : ℕ) (one : Bool) → tag ≡ tag_of (cond one state.Zero state.One) → state_in tag ≡ cond one state.Zero state.One
other_bit tag true other = ap state_in other
other_bit tag false other = ap state_in other

-- one of binary digits, and others of as many
pub number_told : (w : Whole) (l n size : ℕ) (s : Step) → w.state ≡ state.Bits → 1 ≤ l → n < 2 ^ l → max size (count_in w.len) ≡ max size l → is_proper w.len ≡ true
    → s.differs ≡ not (number_in w.len == n) → s.rises ≡ goes_from 48 49 (Some (48 + number_in w.len % 2)) (Some (48 + n % 2))
    → s.falls ≡ goes_from 49 48 (Some (48 + number_in w.len % 2)) (Some (48 + n % 2)) → (end : ℕ) (values : List ℕ)
    → with_number_change size l n (kept_with values end w) ≡ cond s.differs (with_step s.rises s.falls (with_number l n (kept_with values end w))) (with_number l n (kept_with values end w))
number_told w l n size s bits some fits long proper differ rise fall end values =
    changed_to s size l n (kept_with values end w)
    (number_step s (held_of values w) (count_in w.len) l (number_in w.len) n size
    (ap (λ (st : State). held_by st w.len (take (used_by w.state w.len) (drop w.start values))) bits) (proper_count w.len proper) some
    (proper_number w.len proper) fits long differ rise fall)

-- what is kept of a code whose slot is this one
module _ (values : List ℕ) (slots : List Slot) (shares : List Share) (code : ℕ) (slot : Slot) (at : slice_get slots code ≡ Some slot) (k : Kept)
    (kept : kept_in values slots shares code ≡ Some k) where
  by_slot : (P : Kept → Type 0) → ((h : Share) → slice_get shares code ≡ Some h → P (kept_with values (end_at shares (length values) code) (whole slot h))) → P k
  by_slot P all =
      let p = kept_parts values slots shares code k kept in
      let same : p.0 ≡ slot = cc (sym p.2 ∙ at) in
      subst P (ap (λ (s : Slot). kept_with values (end_at shares (length values) code) (whole s p.1)) (sym same) ∙ p.4) (all p.1 p.3)

  pub kept_flips : (one : Bool) → state_in slot.tag ≡ cond one state.Zero state.One → (f : Form) → f ≢ form.RealText → (size : ℕ)
      → with_step one (not one) (with_held (Held.Digits (cond one 49 48 ∷ [])) k) ≡ with_change size f (cond one 49 48 ∷ []) k
  kept_flips one is f digits size = by_slot (λ x. with_step one (not one) (with_held (Held.Digits (cond one 49 48 ∷ [])) x) ≡ with_change size f (cond one 49 48 ∷ []) x)
      (λ h there. bit_turned (whole slot h) one is f digits size (end_at shares (length values) code) values)

  pub kept_stays : (digit : ℕ) → digit < 256 → one_digit (state_in slot.tag) ≡ Some (to_ascii_lowercase digit) → (f : Form) → f ≢ form.RealText
      → (size : ℕ) → k ≡ with_change size f (digit ∷ []) k
  kept_stays digit fit one f digits size = by_slot (λ x. x ≡ with_change size f (digit ∷ []) x)
      (λ h there. digit_stays (whole slot h) digit fit one f digits size (end_at shares (length values) code) values)

  pub kept_steps : AreLaidOut slots shares (length values) → (l n size : ℕ) (s : Step) → state_in slot.tag ≡ state.Bits → 1 ≤ l → n < 2 ^ l
      → ((upper : ℕ) → max size (count_in (len_in slot.tag slot.number upper)) ≡ max size l)
      → s.differs ≡ not (number_in slot.number == n) → s.rises ≡ goes_from 48 49 (Some (48 + number_in slot.number % 2)) (Some (48 + n % 2))
      → s.falls ≡ goes_from 49 48 (Some (48 + number_in slot.number % 2)) (Some (48 + n % 2))
      → with_number_change size l n k ≡ cond s.differs (with_step s.rises s.falls (with_number l n k)) (with_number l n k)
  kept_steps laid l n size s bits some fits long differ rise fall = by_slot (λ x. with_number_change size l n x ≡ cond s.differs (with_step s.rises s.falls (with_number l n x)) (with_number l n x))
      (λ h there.
      let len = len_in slot.tag slot.number h.upper in
      let is = proper len (subst (λ (st : State). 1 ≤ some_by st len) bits (some_in shares (length values) code slot h (laid code slot at) there)) in
      let same : number_in slot.number ≡ number_in len = omega arith in
      number_told (whole slot h) l n size s bits some fits (long h.upper) is
      (subst (λ m. s.differs ≡ not (m == n)) same differ)
      (subst (λ m. s.rises ≡ goes_from 48 49 (Some (48 + m % 2)) (Some (48 + n % 2))) same rise)
      (subst (λ m. s.falls ≡ goes_from 49 48 (Some (48 + m % 2)) (Some (48 + n % 2))) same fall)
      (end_at shares (length values) code) values)

pub bit_is : (digit : ℕ) → (digit ≡ 48) ⊎ (digit ≡ 49) → cond (digit == 49) 49 48 ≡ digit
bit_is digit (inl e) = rw e refl
bit_is digit (inr e) = rw e refl

-- what is counted leaves the value
counted_held : (old : Option Value) (new : Value) (k : Kept) → (with_counted old new k).held ≡ k.held
counted_held old new k = by_case (differs old new)
  where
    by_case : (b : Bool) → (cond b (with_step (goes_from 48 49 (last_digit_in old) (last_digit_in (Some new))) (goes_from 49 48 (last_digit_in old) (last_digit_in (Some new))) k) k).held ≡ k.held
    by_case true = refl
    by_case false = refl

good_some : (f : Form) (c : Code) (text : List ℕ) → IsText f c text → 0 < length text
good_some form.Scalar c text (d, digit, is) = let l = ap length is in omega (arith, l)
good_some form.Vector c text good = good.0
good_some form.RealText c text good = good.0

held_is : (t : Table) (code : ℕ) (k : Kept) → kept_at t code ≡ Some k → held_at t code ≡ k.held
held_is t code k at = ap (λ (o : Option Kept). unwrap_or (option_map (λ (x : Kept). x.held) o) Held.Unset) at

-- ---- in a table

-- the value that was set and the step that was counted after it
pub set_and_counted : (old mid new : Table) (code size : ℕ) (f : Form) (text : List ℕ) (s : Step) → ChangesCode code (with_text f text) old mid
    → 0 < length text → IsStep s (value_at_size size (held_at old code)) (value_with size (model_form f) text) → s.differs ≡ true
    → ChangesCode code (with_step s.rises s.falls) mid new → ChangesCode code (with_change size f text) old new
set_and_counted old mid new code size f text s sets some is differed counts =
    change_as code (λ k. with_step s.rises s.falls (with_text f text k)) (with_change size f text) old.values.now new.values.now old.slots.now new.slots.now old.shares.now new.shares.now
    (λ k at. sym (changed_by s size f text k some (subst (λ (h : Held). IsStep s (value_at_size size h) (value_with size (model_form f) text))
    (held_is old code k at) is) ∙ ap (λ (b : Bool). cond b (with_step s.rises s.falls (with_text f text k)) (with_text f text k)) differed))
    (change_twice code (with_text f text) (with_step s.rises s.falls)
    old.values.now mid.values.now new.values.now old.slots.now mid.slots.now new.slots.now old.shares.now mid.shares.now new.shares.now sets counts)

-- the same of binary digits
pub number_and_counted : (old mid new : Table) (code size l n : ℕ) (s : Step) → ChangesCode code (with_number l n) old mid
    → IsStep s (value_at_size size (held_at old code)) (value_with size (model_form form.Vector) (binary_digits l n)) → s.differs ≡ true
    → ChangesCode code (with_step s.rises s.falls) mid new → ChangesCode code (with_number_change size l n) old new
number_and_counted old mid new code size l n s sets is differed counts =
    change_as code (λ k. with_step s.rises s.falls (with_number l n k)) (with_number_change size l n) old.values.now new.values.now old.slots.now new.slots.now old.shares.now new.shares.now
    (λ k at. sym (changed_to s size l n k (subst (λ (h : Held). IsStep s (value_at_size size h)
    (value_with size (model_form form.Vector) (binary_digits l n))) (held_is old code k at) is)
    ∙ ap (λ (b : Bool). cond b (with_step s.rises s.falls (with_number l n k)) (with_number l n k)) differed))
    (change_twice code (with_number l n) (with_step s.rises s.falls)
    old.values.now mid.values.now new.values.now old.slots.now mid.slots.now new.slots.now old.shares.now mid.shares.now new.shares.now sets counts)

pub number_alone : (old new : Table) (code size l n : ℕ) (s : Step) → ChangesCode code (with_number l n) old new
    → IsStep s (value_at_size size (held_at old code)) (value_with size (model_form form.Vector) (binary_digits l n)) → s.differs ≡ false
    → ChangesCode code (with_number_change size l n) old new
number_alone old new code size l n s sets is stayed =
    change_as code (with_number l n) (with_number_change size l n) old.values.now new.values.now old.slots.now new.slots.now old.shares.now new.shares.now
    (λ k at. sym (changed_to s size l n k (subst (λ (h : Held). IsStep s (value_at_size size h)
    (value_with size (model_form form.Vector) (binary_digits l n))) (held_is old code k at) is)
    ∙ ap (λ (b : Bool). cond b (with_step s.rises s.falls (with_number l n k)) (with_number l n k)) stayed)) sets

-- the same digits again change nothing
pub same_again : (t : Table) (code size : ℕ) (text : List ℕ) (s : Step) → 0 < length text
    → IsStep s (value_at_size size (held_at t code)) (value_with size (model_form form.Vector) text) → s.differs ≡ false
    → held_at t code ≡ Held.Digits (map held_digit text) → ChangesCode code (with_change size form.Vector text) t t
same_again t code size text s some is stayed same =
    change_as code (λ (k : Kept). k) (with_change size form.Vector text) t.values.now t.values.now t.slots.now t.slots.now t.shares.now t.shares.now
    (λ k at. sym (changed_by s size form.Vector text k some (subst (λ (h : Held). IsStep s (value_at_size size h) (value_with size (model_form form.Vector) text)) (held_is t code k at) is)
    ∙ ap (λ (b : Bool). cond b (with_step s.rises s.falls (with_text form.Vector text k)) (with_text form.Vector text k)) stayed
    ∙ again k (sym same ∙ held_is t code k at) (fits form.Vector (length text) k.room)))
    (nothing_changes code t.values.now t.slots.now t.shares.now)
  where
    again : (k : Kept) → Held.Digits (map held_digit text) ≡ k.held → (b : Bool) → with_held (cond b (Held.Digits (map held_digit text)) k.held) k ≡ k
    again k e true = ap (λ (h : Held). with_held h k) e
    again k e false = refl

-- one call after another
pub keeps_twice : (old mid new : Table) → KeepsTable old mid → KeepsTable mid new → KeepsTable old new
keeps_twice old mid new a b = record { laid = λ laid. b.laid (a.laid laid); codes = b.codes ∙ a.codes; bytes = b.bytes ∙ a.bytes }

-- a change that sets a text leaves the value of the text
pub change_sets : (values values' : List ℕ) (slots slots' : List Slot) (shares shares' : List Share) (code size : ℕ) (f : Form) (text : List ℕ)
    (c : Code) (k : Kept) → ChangesAt code (with_change size f text) values slots shares values' slots' shares' → IsText f c text → c.event ≡ false
    → kept_in values slots shares code ≡ Some k → share_of c.size ≤ k.room
    → value_at_size c.size (unwrap_or (option_map (λ (x : Kept). x.held) (kept_in values' slots' shares' code)) Held.Unset) ≡ Some (value_with c.size (model_form f) text)
change_sets values values' slots slots' shares shares' code size f text c k changes good event is most =
    let now : kept_in values' slots' shares' code ≡ Some (with_change size f text k) = changes code
    ∙ ap (λ (b : Bool). cond b (option_map (with_change size f text) (kept_in values slots shares code)) (kept_in values slots shares code))
    (eq-eqb code code refl) ∙ ap (option_map (with_change size f text)) is in
    let some = lt-ltb 0 (length text) (good_some f c text good) in
    ap (λ (o : Option Kept). value_at_size c.size (unwrap_or (option_map (λ (x : Kept). x.held) o) Held.Unset)) now
    ∙ ap (λ (b : Bool). value_at_size c.size (cond b (with_counted (value_at_size size k.held) (value_with size (model_form f) text) (with_text f text k)) k).held) some
    ∙ ap (value_at_size c.size) (counted_held (value_at_size size k.held) (value_with size (model_form f) text) (with_text f text k))
    ∙ good_value f c text k good event most

-- ---- a value that is set, by its text

module _ (values values' : List ℕ) (slots slots' : List Slot) (shares shares' : List Share) (code : ℕ) (v : Given) where
  pub value_as_text : (k : Kept) → kept_in values slots shares code ≡ Some k → 8 ≤ k.room
      → ChangesAt code (with_value v) values slots shares values' slots' shares'
      → ChangesAt code (with_text (form_in v) (text_in v)) values slots shares values' slots' shares'
  value_as_text k at room changes = by_value v changes
    where
      by_value : (v : Given) → ChangesAt code (with_value v) values slots shares values' slots' shares'
          → ChangesAt code (with_text (form_in v) (text_in v)) values slots shares values' slots' shares'
      by_value (given.Digits text) changes = changes
      by_value (given.Real text) changes = changes
      by_value (given.Bits b) changes = number_as_text code b.len b.number values values' slots slots' shares shares' k b.some b.few at room changes

module _ (old new : Table) (code : ℕ) (v : Given) where
  pub change_as_text : (size : ℕ) (k : Kept) → kept_at old code ≡ Some k → 8 ≤ k.room → ChangesCode code (with_value_change size v) old new
      → ChangesCode code (with_change size (form_in v) (text_in v)) old new
  change_as_text size k at room changes = by_value v changes
    where
      by_value : (v : Given) → ChangesCode code (with_value_change size v) old new → ChangesCode code (with_change size (form_in v) (text_in v)) old new
      by_value (given.Digits text) changes = changes
      by_value (given.Real text) changes = changes
      by_value (given.Bits b) changes = step_as_text code b.len b.number old.values.now new.values.now old.slots.now new.slots.now old.shares.now new.shares.now k b.some b.few at room size changes

  pub change_gives : (size : ℕ) → ChangesCode code (with_value_change size v) old new → GivesValue (form_in v) (text_in v) code old new
  change_gives size changes = λ c k good event is most.
      change_sets old.values.now new.values.now old.slots.now new.slots.now old.shares.now new.shares.now code size (form_in v) (text_in v) c k
      (change_as_text size k is (omega (arith, most)) changes) good event is most

-- a change that was followed by a value which is that of its text
module _ (old new : Table) (code size : ℕ) (f : Form) (text : List ℕ) where
  pub text_followed : (v : Given) → ((k : Kept) → with_value_change size v k ≡ with_change size f text k)
      → ChangesCode code (with_value_change size v) old new → ChangesCode code (with_change size f text) old new
  text_followed v same changes = change_as code (with_value_change size v)
      (with_change size f text) old.values.now new.values.now old.slots.now new.slots.now old.shares.now new.shares.now (λ k at. same k) changes

  pub text_gives : ChangesCode code (with_change size f text) old new → GivesValue f text code old new
  text_gives changes = λ c k good event is most. change_sets old.values.now new.values.now old.slots.now new.slots.now old.shares.now new.shares.now code size f text c k changes good event is most

-- a value that is set is that of its text
module _ (old new : Table) (code : ℕ) (v : Given) (sets : SetsCode code (with_value v) old new) where
  pub sets_text : IsLaidOut old → (k : Kept) → kept_at old code ≡ Some k → 8 ≤ k.room → ChangesCode code (with_text (form_in v) (text_in v)) old new
  sets_text laid k at room = value_as_text old.values.now new.values.now old.slots.now new.slots.now old.shares.now new.shares.now code v k at room (sets.changes laid)

  pub sets_value : IsLaidOut old → GivesValue (form_in v) (text_in v) code old new
  sets_value laid c k good event is most = set_value old.values.now new.values.now old.slots.now new.slots.now old.shares.now new.shares.now code
      (form_in v) (text_in v) c k (sets_text laid k is (omega (arith, most))) good event is most
