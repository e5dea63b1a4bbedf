-- Binary digits tell their number, at each size.
use Rattle.vcd_body.proofs.Cited.{◌≡◌, ℕ, zero, suc, ◌+◌, ◌-◌, ◌*◌, ◌/◌, ◌%◌, ◌^◌, ◌<◌, ◌≤◌, ◌==◌, ◌&&◌, max, nat_lt, get_or, Bool, true, false, not, cond, List, ◌∷◌, ◌++◌, length, map, replicate, Option, Some, None, refl, sym, ap, ◌∙◌, arith, Decides, to_ascii_lowercase, last_or, bytes_eq, str_to_ascii_lowercase, div-eq_of_lt, div-one, lt-div-mul-add, mod-eq_of_lt, pow-le-pow_right, zero-mul, eq-eqb, eqb-true, lt-ltb, Decides-eqb, same_from_decides, div_ceil_times, mod-pow-add, mod_below, pow_pos, bytes_eq-Decides, extend, extension, value_with, binary_digits, count_in, is_proper, number_in, model_form, Held, IsStep, Kept, bytes_for, goes_from, room_for, value_at_size, with_held, with_number, with_text, held_digit, Whole, kept_with, set_whole, some_by, Step}
use Rattle.vcd_body.specs.declared.item.Form.TheVariants as form
use Rattle.vcd_body.specs.declared.values.slot.State.TheVariants as state
use Rattle.vcd_body.proofs.BinaryLemmas.{binary_at, length_binary}
use Rattle.vcd_body.proofs.CompareLemmas.{last_at, last_extended}
use Rattle.vcd_body.proofs.StoreLemmas.{text_fits}

-- digits that are left out in front are 0
pub padded : (k l m n : ℕ) → m ≡ k + l → n < 2 ^ l → replicate k 48 ++ binary_digits l n ≡ binary_digits m n
padded zero l m n e h = let s : l ≡ m = omega arith in ap (λ i. binary_digits i n) s
padded (suc k) l zero n e h = absurd (omega arith)
padded (suc k) l (suc m) n e h =
    let within : l ≤ m = omega arith in
    let p = pow-le-pow_right {n = 2} (omega arith) within in
    let none : n / 2 ^ m ≡ 0 = div-eq_of_lt (omega (arith, p, h)) in
    let first : 48 ≡ 48 + n / 2 ^ m % 2 = sym (ap (λ q. 48 + q % 2) none) in
    ap (λ d. d ∷ replicate k 48 ++ binary_digits l n) first
    ∙ ap (λ ds. (48 + n / 2 ^ m % 2) ∷ ds) (padded k l m n (omega arith) h)

bit_extends : (r : ℕ) → r < 2 → cond ((48 + r) == 49) 48 (48 + r) ≡ 48
bit_extends zero h = refl
bit_extends (suc zero) h = refl
bit_extends (suc (suc r)) h = absurd (omega arith)

pub binary_extension : (l n : ℕ) → 1 ≤ l → extension (binary_digits l n) ≡ 48
binary_extension zero n h = absurd (omega arith)
binary_extension (suc l) n h = bit_extends (n / 2 ^ l % 2) (mod_below (n / 2 ^ l) 2 (omega arith))

-- extended to a size they write the same number
pub binary_extended : (l n size : ℕ) → 1 ≤ l → n < 2 ^ l → extend (binary_digits l n) size ≡ binary_digits (max size l) n
binary_extended l n size some few =
    let c = length_binary l n in
    let missing : size - length (binary_digits l n) ≡ size - l = ap (λ i. size - i) c in
    ap (λ i. replicate i (extension (binary_digits l n)) ++ binary_digits l n) missing
    ∙ ap (λ d. replicate (size - l) d ++ binary_digits l n) (binary_extension l n some)
    ∙ padded (size - l) l (max size l) n (omega arith) few

-- the same digits write the same number
heads : (x y : ℕ) (xs ys : List ℕ) → x ∷ xs ≡ y ∷ ys → x ≡ y
heads x y xs ys e = cc

tails_same : (x y : ℕ) (xs ys : List ℕ) → x ∷ xs ≡ y ∷ ys → xs ≡ ys
tails_same x y xs ys e = cc

pub same_rest : (l a b : ℕ) → binary_digits l a ≡ binary_digits l b → a % 2 ^ l ≡ b % 2 ^ l
same_rest zero a b e = let x = mod_below a 1 (omega arith) in let y = mod_below b 1 (omega arith) in omega (arith, x, y)
same_rest (suc l) a b e =
    let h = heads _ _ _ _ e in
    let t = same_rest l a b (tails_same _ _ _ _ e) in
    let bit : a / 2 ^ l % 2 ≡ b / 2 ^ l % 2 = omega (arith, h) in
    let one : suc l ≡ 1 + l = omega arith in
    ap (λ k. a % 2 ^ k) one ∙ mod-pow-add a 1 l
    ∙ ap (λ r. r * 2 ^ l + a % 2 ^ l) bit ∙ ap (λ r. b / 2 ^ l % 2 * 2 ^ l + r) t
    ∙ sym (mod-pow-add b 1 l) ∙ sym (ap (λ k. b % 2 ^ k) one)

pub same_number : (l a b : ℕ) → a < 2 ^ l → b < 2 ^ l → binary_digits l a ≡ binary_digits l b → a ≡ b
same_number l a b p q e = sym (mod-eq_of_lt p) ∙ same_rest l a b e ∙ mod-eq_of_lt q

pub proper_number : (len : ℕ) → is_proper len ≡ true → number_in len < 2 ^ count_in len
proper_number len h =
    let none : number_in len / 2 ^ count_in len ≡ 0 = eqb-true _ 0 (and_right_of (nat_lt 0 (count_in len)) (number_in len / 2 ^ count_in len == 0) h) in
    let s = lt-div-mul-add {a = number_in len} (pow_pos (count_in len)) in
    let z : number_in len / 2 ^ count_in len * 2 ^ count_in len ≡ 0 = ap (λ q. q * 2 ^ count_in len) none ∙ zero-mul (2 ^ count_in len) in
    omega (arith, s, z)
  where
    and_right_of : (a b : Bool) → (a && b) ≡ true → b ≡ true
    and_right_of true b h = h
    and_right_of false b h = cc

-- numbers tell whether values differ
pub numbers_differ : (l m a b size : ℕ) → 1 ≤ l → 1 ≤ m → a < 2 ^ l → b < 2 ^ m → max size l ≡ max size m
    → (a == b) ≡ bytes_eq (extend (binary_digits l a) size) (extend (binary_digits m b) size)
numbers_differ l m a b size l1 m1 p q same =
    same_from_decides (a == b) (bytes_eq xs ys) decided (bytes_eq-Decides xs ys)
  where
    xs : List ℕ
    xs = extend (binary_digits l a) size

    ys : List ℕ
    ys = extend (binary_digits m b) size

    left : xs ≡ binary_digits (max size l) a
    left = binary_extended l a size l1 p

    right : ys ≡ binary_digits (max size l) b
    right = binary_extended m b size m1 q ∙ ap (λ k. binary_digits k b) (sym same)

    wide : 2 ^ l ≤ 2 ^ max size l
    wide = pow-le-pow_right {n = 2} (omega arith) (omega arith)

    wide_too : 2 ^ m ≤ 2 ^ max size l
    wide_too = pow-le-pow_right {n = 2} (omega arith) (omega (arith, same))

    decided : Decides (a == b) (xs ≡ ys)
    decided = (
      λ e. let s : a ≡ b = (Decides-eqb a b).0 e in left ∙ ap (binary_digits (max size l)) s ∙ sym right,
      λ e. (Decides-eqb a b).1 (same_number (max size l) a b (omega (arith, wide, p)) (omega (arith, wide_too, q)) (sym left ∙ e ∙ right)),
    )

-- held, and in lower case, they are what they are
bit_held : (r : ℕ) → r < 2 → held_digit (48 + r) ≡ 48 + r
bit_held zero h = refl
bit_held (suc zero) h = refl
bit_held (suc (suc r)) h = absurd (omega arith)

bit_lower : (r : ℕ) → r < 2 → to_ascii_lowercase (48 + r) ≡ 48 + r
bit_lower zero h = refl
bit_lower (suc zero) h = refl
bit_lower (suc (suc r)) h = absurd (omega arith)

pub binary_held : (l n : ℕ) → map held_digit (binary_digits l n) ≡ binary_digits l n
binary_held zero n = refl
binary_held (suc l) n =
    ap (λ d. d ∷ map held_digit (binary_digits l n)) (bit_held (n / 2 ^ l % 2) (mod_below (n / 2 ^ l) 2 (omega arith)))
    ∙ ap (λ ds. (48 + n / 2 ^ l % 2) ∷ ds) (binary_held l n)

pub binary_lower : (l n : ℕ) → str_to_ascii_lowercase (binary_digits l n) ≡ binary_digits l n
binary_lower zero n = refl
binary_lower (suc l) n =
    ap (λ d. d ∷ str_to_ascii_lowercase (binary_digits l n)) (bit_lower (n / 2 ^ l % 2) (mod_below (n / 2 ^ l) 2 (omega arith)))
    ∙ ap (λ ds. (48 + n / 2 ^ l % 2) ∷ ds) (binary_lower l n)

-- the last digit of a value
pub last_bit : (l n size : ℕ) → 1 ≤ l → last_or None (extend (binary_digits l n) size) ≡ Some (48 + n % 2)
last_bit l n size some =
    let c = length_binary l n in
    let back : l - 1 - (l - 1) ≡ 0 = omega arith in
    let one : n / 2 ^ 0 ≡ n = div-one n in
    last_extended (binary_digits l n) size (omega (arith, c))
    ∙ last_at (binary_digits l n) None (l - 1) (omega (arith, c))
    ∙ binary_at l n (l - 1) (omega arith)
    ∙ ap (λ k. Some (48 + n / 2 ^ k % 2)) back
    ∙ ap (λ q. Some (48 + q % 2)) one

-- the step from one number to another
pub number_step : (s : Step) (h : Held) (l m a b size : ℕ) → h ≡ Held.Digits (binary_digits l a) → 1 ≤ l → 1 ≤ m → a < 2 ^ l → b < 2 ^ m → max size l ≡ max size m
    → s.differs ≡ not (a == b) → s.rises ≡ goes_from 48 49 (Some (48 + a % 2)) (Some (48 + b % 2)) → s.falls ≡ goes_from 49 48 (Some (48 + a % 2)) (Some (48 + b % 2))
    → IsStep s (value_at_size size h) (value_with size (model_form form.Vector) (binary_digits m b))
number_step s h l m a b size is l1 m1 p q same differ rise fall =
    rw (is, binary_lower m b) (
      differ ∙ ap not (numbers_differ l m a b size l1 m1 p q same),
      rise ∙ goes 48 49,
      fall ∙ goes 49 48,
    )
  where
    goes : (x y : ℕ) → goes_from x y (Some (48 + a % 2)) (Some (48 + b % 2)) ≡ goes_from x y (last_or None (extend (binary_digits l a) size)) (last_or None (extend (binary_digits m b) size))
    goes x y = ap (λ (o : Option ℕ). goes_from x y o (Some (48 + b % 2))) (sym (last_bit l a size l1))
        ∙ ap (goes_from x y (last_or None (extend (binary_digits l a) size))) (sym (last_bit m b size m1))

-- the digit at an index, where there is one
pub binary_get : (l n position : ℕ) → position < l → get_or (binary_digits l n) position 0 ≡ 48 + n / 2 ^ (l - 1 - position) % 2
binary_get zero n position h = absurd (omega arith)
binary_get (suc l) n zero h = let e : l ≡ suc l - 1 - 0 = omega arith in ap (λ k. 48 + n / 2 ^ k % 2) e
binary_get (suc l) n (suc position) h = let e : l - 1 - position ≡ suc l - 1 - suc position = omega arith in binary_get l n position (omega arith) ∙ ap (λ k. 48 + n / 2 ^ k % 2) e

-- ---- binary digits in a slot

bits_room : (n room : ℕ) → n ≤ 32 → 8 ≤ room → room_for form.Vector n ≤ room
bits_room n room few most = by_one (n == 1)
  where
    by_one : (b : Bool) → cond b 0 (bytes_for n) ≤ room
    by_one true = omega arith
    by_one false = let a = div_ceil_times n 4 (omega arith) in omega arith

pub bits_kept : (s : Whole) (p l n end : ℕ) (values : List ℕ) → count_in p ≡ l → number_in p ≡ n
    → kept_with values end (set_whole state.Bits p s) ≡ with_number l n (kept_with values end s)
bits_kept s p l n end values count number =
    ap (λ i. as_held (Held.Digits (binary_digits i (number_in p)))) count
    ∙ ap (λ i. as_held (Held.Digits (binary_digits l i))) number
  where
    as_held : Held → Kept
    as_held h = with_held h (kept_with values end s)

-- where their text has room, they are held as it is
pub number_is_text : (l n : ℕ) (k : Kept) → 1 ≤ l → l ≤ 32 → 8 ≤ k.room → with_number l n k ≡ with_text form.Vector (binary_digits l n) k
number_is_text l n k some few room =
    let c = length_binary l n in
    let ds = binary_digits l n in
    let yes = text_fits form.Vector (length ds) k.room (omega (arith, c, some)) (bits_room (length ds) k.room (omega (arith, c, few)) room) in
    sym (ap (λ (x : List ℕ). with_held (Held.Digits x) k) (binary_held l n))
    ∙ sym (ap (λ (b : Bool). with_held (cond b (Held.Digits (map held_digit ds)) k.held) k) yes)

pub bits_some : (p l n : ℕ) → count_in p ≡ l → number_in p ≡ n → 1 ≤ l → n < 2 ^ l → 1 ≤ some_by state.Bits p
bits_some p l n count number some small =
    let zero_left : n / 2 ^ l ≡ 0 = div-eq_of_lt small in
    let is : is_proper p ≡ true = rw (count, number, lt-ltb 0 l some, eq-eqb (n / 2 ^ l) 0 zero_left) refl in
    let one : some_by state.Bits p ≡ 1 = ap (λ (b : Bool). cond b 1 0) is in
    omega (arith, one)

-- a number of this many digits
pub small_number : (l n : ℕ) → n / 2 ^ l ≡ 0 → n < 2 ^ l
small_number l n none =
    let s = lt-div-mul-add {a = n} (pow_pos l) in
    let z : n / 2 ^ l * 2 ^ l ≡ 0 = ap (λ q. q * 2 ^ l) none ∙ zero-mul (2 ^ l) in
    omega (arith, s, z)

pub small_rest : (l n : ℕ) → n < 2 ^ l → n / 2 ^ l ≡ 0
small_rest l n h = div-eq_of_lt h
