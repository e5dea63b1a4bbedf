-- What the slots of two codes tell of their values.
use Rattle.vcd_body.proofs.Cited.{◌≡◌, ◌≢◌, ℕ, zero, suc, ◌+◌, ◌-◌, ◌*◌, ◌/◌, ◌%◌, ◌<◌, ◌≤◌, ◌==◌, max, min, cond, true, List, take, drop, slice_get, Option, Some, None, refl, sym, ap, subst, ◌∙◌, arith, Decides, bytes_eq, eq-eqb, eqb-true, le-leb, bytes_eq-Decides, Value, extend, binary_digits, count_in, is_proper, number_in, IsLaidOut, held_at, Held, last_digit_in, value_at_size, held_by, holding_of, len_in, one_digit, some_by, state_in, used, Slot, State, Table}
use Rattle.vcd_body.specs.declared.values.slot.State.TheVariants as state
use Rattle.vcd_body.proofs.BinaryLemmas.{proper, proper_count}
use Rattle.vcd_body.proofs.CompareLemmas.{last_of_state}
use Rattle.vcd_body.proofs.NumberLemmas.{numbers_differ, proper_number}
use Rattle.vcd_body.proofs.StoreLemmas.{many_bits}
use Rattle.vcd_body.proofs.TableLemmas.{held_here}

-- the value of a code whose slot this is
pub record IsOfSlot (t : Table) (code : ℕ) (s : Slot) : Type 0 where
  pub upper : ℕ
  pub bytes : List ℕ
  pub is : held_at t code ≡ held_by (state_in s.tag) (len_in s.tag s.number upper) bytes
  pub some : 1 ≤ some_by (state_in s.tag) (len_in s.tag s.number upper)

of_slot : (t : Table) (code : ℕ) (s : Slot) → IsLaidOut t → slice_get t.slots.now code ≡ Some s → IsOfSlot t code s
of_slot t code s laid at =
    let l = laid code s at in
    record {
      upper = l.share.upper;
      bytes = take (used (holding_of s l.share)) (drop l.share.start t.values.now);
      is = held_here t code s l.share at l.there;
      some = l.some;
    }

-- ---- no value, or one digit

short_alike : (tag m n : ℕ) (xs ys : List ℕ) → tag ≤ 4 → held_by (state_in tag) m xs ≡ held_by (state_in tag) n ys
short_alike zero m n xs ys few = refl
short_alike (suc zero) m n xs ys few = refl
short_alike (suc (suc zero)) m n xs ys few = refl
short_alike (suc (suc (suc zero))) m n xs ys few = refl
short_alike (suc (suc (suc (suc zero)))) m n xs ys few = refl
short_alike (suc (suc (suc (suc (suc n))))) m k xs ys few = absurd (omega arith)

not_many : (tag : ℕ) → tag ≤ 4 → (state_in tag ≢ state.Packed) × (state_in tag ≢ state.Bits)
not_many zero few = (λ e. cc, λ e. cc)
not_many (suc zero) few = (λ e. cc, λ e. cc)
not_many (suc (suc zero)) few = (λ e. cc, λ e. cc)
not_many (suc (suc (suc zero))) few = (λ e. cc, λ e. cc)
not_many (suc (suc (suc (suc zero)))) few = (λ e. cc, λ e. cc)
not_many (suc (suc (suc (suc (suc n))))) few = absurd (omega arith)

-- the tag that a last digit tells
abbrev tag_of : Option ℕ → ℕ
tag_of None = 0
tag_of (Some d) = cond (d == 49) 1 (cond (d == 48) 2 (cond (d == 120) 3 4))

tag_told : (tag : ℕ) → tag ≤ 4 → tag_of (one_digit (state_in tag)) ≡ tag
tag_told zero few = refl
tag_told (suc zero) few = refl
tag_told (suc (suc zero)) few = refl
tag_told (suc (suc (suc zero))) few = refl
tag_told (suc (suc (suc (suc zero)))) few = refl
tag_told (suc (suc (suc (suc (suc n))))) few = absurd (omega arith)

value_tag : (tag len size : ℕ) (bytes : List ℕ) → tag ≤ 4 → tag_of (last_digit_in (value_at_size size (held_by (state_in tag) len bytes))) ≡ tag
value_tag tag len size bytes few =
    let apart = not_many tag few in
    ap tag_of (sym (last_of_state (state_in tag) len bytes size apart.0 apart.1)) ∙ tag_told tag few

-- ---- binary digits

parts : (tag number upper : ℕ) → 7 ≤ tag → number < 4294967296 → (count_in (len_in tag number upper) ≡ min 32 (tag - 7)) × (number_in (len_in tag number upper) ≡ number)
parts tag number upper many low =
    let test = le-leb 7 tag many in
    let len : len_in tag number upper ≡ (tag - 7) * 4294967296 + number % 4294967296 = rw test refl in
    let high : ((tag - 7) * 4294967296 + number % 4294967296) / 4294967296 ≡ tag - 7 = omega (arith, low) in
    let rest : ((tag - 7) * 4294967296 + number % 4294967296) % 4294967296 ≡ number = omega (arith, low) in
    (ap count_in len ∙ ap (min 32) high, ap number_in len ∙ rest)

same_bits : (xs ys : List ℕ) → Some (Value.Bits xs) ≡ Some (Value.Bits ys) → xs ≡ ys
same_bits xs ys e = cc

-- ---- two codes

module _ (t : Table) (one other : ℕ) (s u : Slot) (laid : IsLaidOut t) (at : slice_get t.slots.now one ≡ Some s) (there : slice_get t.slots.now other ≡ Some u) where
  pub short_told : s.tag ≤ 4 → u.tag ≤ 4 → (size : ℕ) → Decides (s.tag == u.tag) (value_at_size size (held_at t one) ≡ value_at_size size (held_at t other))
  short_told few less size =
      let a = of_slot t one s laid at in
      let b = of_slot t other u laid there in
      let m = len_in s.tag s.number a.upper in
      let n = len_in u.tag u.number b.upper in (
        λ yes.
            let same = eqb-true s.tag u.tag yes in
            ap (value_at_size size) (a.is ∙ short_alike s.tag m n a.bytes b.bytes few ∙ ap (λ k. held_by (state_in k) n b.bytes) same ∙ sym b.is),
        λ same.
            eq-eqb s.tag u.tag
            (sym (value_tag s.tag m size a.bytes few) ∙ ap (λ (h : Held). tag_of (last_digit_in (value_at_size size h))) (sym a.is)
            ∙ ap (λ (o : Option Value). tag_of (last_digit_in o)) same
            ∙ ap (λ (h : Held). tag_of (last_digit_in (value_at_size size h))) b.is ∙ value_tag u.tag n size b.bytes less),
      )

  digits_are : (k : ℕ) (v : Slot) (x : IsOfSlot t k v) → 7 ≤ v.tag
      → held_at t k ≡ Held.Digits (binary_digits (count_in (len_in v.tag v.number x.upper)) (number_in (len_in v.tag v.number x.upper)))
  digits_are k v x many = x.is ∙ ap (λ (st : State). held_by st (len_in v.tag v.number x.upper) x.bytes) (many_bits v.tag many)

  -- two numbers that fill one size
  pub number_told : 7 ≤ s.tag → 7 ≤ u.tag → (size : ℕ) → max size (min 32 (s.tag - 7)) ≡ max size (min 32 (u.tag - 7)) → s.number < 4294967296
      → u.number < 4294967296 → Decides (s.number == u.number) (value_at_size size (held_at t one) ≡ value_at_size size (held_at t other))
  number_told many many_too size same low less = (
    λ yes.
        let numbers = eq-eqb (number_in la) (number_in lb) (own.1 ∙ eqb-true s.number u.number yes ∙ sym its.1) in
        let digits = (bytes_eq-Decides (extend xs size) (extend ys size)).0 (sym told ∙ numbers) in
        ap (value_at_size size) first ∙ ap (λ (l : List ℕ). Some (Value.Bits l)) digits ∙ sym (ap (value_at_size size) second),
    λ same_value.
        let digits = same_bits (extend xs size) (extend ys size) (sym (ap (value_at_size size) first) ∙ same_value ∙ ap (value_at_size size) second) in
        let numbers = eqb-true (number_in la) (number_in lb) (told ∙ (bytes_eq-Decides (extend xs size) (extend ys size)).1 digits) in
        eq-eqb s.number u.number (sym own.1 ∙ numbers ∙ its.1),
  )
    where
      a : IsOfSlot t one s
      a = of_slot t one s laid at

      b : IsOfSlot t other u
      b = of_slot t other u laid there

      la : ℕ
      la = len_in s.tag s.number a.upper

      lb : ℕ
      lb = len_in u.tag u.number b.upper

      xs : List ℕ
      xs = binary_digits (count_in la) (number_in la)

      ys : List ℕ
      ys = binary_digits (count_in lb) (number_in lb)

      own : (count_in la ≡ min 32 (s.tag - 7)) × (number_in la ≡ s.number)
      own = parts s.tag s.number a.upper many low

      its : (count_in lb ≡ min 32 (u.tag - 7)) × (number_in lb ≡ u.number)
      its = parts u.tag u.number b.upper many_too less

      fill : max size (count_in la) ≡ max size (count_in lb)
      fill = ap (max size) own.0 ∙ same ∙ sym (ap (max size) its.0)

      first : held_at t one ≡ Held.Digits xs
      first = digits_are one s a many

      second : held_at t other ≡ Held.Digits ys
      second = digits_are other u b many_too

      proper_one : is_proper la ≡ true
      proper_one = proper la (subst (λ (st : State). 1 ≤ some_by st la) (many_bits s.tag many) a.some)

      proper_other : is_proper lb ≡ true
      proper_other = proper lb (subst (λ (st : State). 1 ≤ some_by st lb) (many_bits u.tag many_too) b.some)

      told : (number_in la == number_in lb) ≡ bytes_eq (extend xs size) (extend ys size)
      told = numbers_differ (count_in la) (count_in lb) (number_in la) (number_in lb) size (proper_count la proper_one)
          (proper_count lb proper_other) (proper_number la proper_one) (proper_number lb proper_other) fill
