-- Ticks of a unit by the power of ten between unit and tick.
use Rattle.vcd_head.proofs.Cited.{◌≡◌, ℕ, zero, suc, ◌+◌, ◌-◌, ◌*◌, ◌/◌, ◌%◌, ◌^◌, ◌<◌, ◌≤◌, min, ℤ, pos, ◌+ℤ◌, nat_abs, Bool, true, false, ◌==◌, List, [], ◌∷◌, length, option_map, Option, Some, None, Result, Ok, refl, sym, ap, ◌∙◌, arith, div_ceil, SomeIff, ok_or, one-le-pow, mul_assoc, mul-div_cancel, mul-mod_left, mul-div-mul_right, mod-eq-sub-div-mul, pow-add, div-add-mod', lt-ltb, le-ltb, in_range, TickFault, OutOfRange, is_empty, told, with_unit, unit_in}
use Rattle.vcd_model.specs.Ticks.{ticks}
use Rattle.vcd_head.proofs.ScaleLemmas.{unit_exponent_is}

pub some_power : (k : ℕ) → 0 < 10 ^ k
some_power k = one-le-pow k 10 (omega arith)

-- a power of ten is its share of a greater one
power_parts : (a b : ℕ) → b ≤ a → 10 ^ a ≡ 10 ^ (a - b) * 10 ^ b
power_parts a b l = let e : a ≡ a - b + b = omega arith in ap (λ k. 10 ^ k) e ∙ pow-add 10 (a - b) b

-- ---- a unit of one tick and more

scaled : (n a b : ℕ) → b ≤ a → n * 10 ^ a ≡ n * 10 ^ (a - b) * 10 ^ b
scaled n a b l = ap (λ k. n * k) (power_parts a b l) ∙ sym (mul_assoc n (10 ^ (a - b)) (10 ^ b))

whole_up : (m k : ℕ) → 0 < k → div_ceil (m * k) k ≡ m
whole_up m k p = rw (mul-div_cancel m p, mul-mod_left m k) (omega arith)

pub ticks_whole : (n : ℕ) (unit tick : ℤ) (up : Bool) → nat_abs (tick +ℤ pos 15) ≤ nat_abs (unit +ℤ pos 15)
    → ticks n unit tick up ≡ n * 10 ^ (nat_abs (unit +ℤ pos 15) - nat_abs (tick +ℤ pos 15))
unfolding ticks
ticks_whole n unit tick true l =
    let a = nat_abs (unit +ℤ pos 15) in let b = nat_abs (tick +ℤ pos 15) in
    ap (λ t. div_ceil t (10 ^ b)) (scaled n a b l) ∙ whole_up (n * 10 ^ (a - b)) (10 ^ b) (some_power b)
ticks_whole n unit tick false l =
    let a = nat_abs (unit +ℤ pos 15) in let b = nat_abs (tick +ℤ pos 15) in
    ap (λ t. t / 10 ^ b) (scaled n a b l) ∙ mul-div_cancel (n * 10 ^ (a - b)) (some_power b)

-- ---- a unit of less than a tick

-- what is left, of both times as much
rest : (n d c : ℕ) → 0 < c → n * c % (d * c) ≡ n % d * c
rest n d c p =
    let less = mod-eq-sub-div-mul (n * c) (d * c) in
    let same = mul-div-mul_right {m = c} n d p in
    let all : n * c ≡ (n / d * d + n % d) * c = ap (λ m. m * c) (sym (div-add-mod' n d)) in
    rw (less, same) (omega (arith, all))

any_left : (r c : ℕ) → 0 < c → min 1 (r * c) ≡ min 1 r
any_left zero c p = omega arith
any_left (suc r) c p = let some : 1 ≤ suc r * c = omega arith in omega arith

part_up : (n d c : ℕ) → 0 < c → div_ceil (n * c) (d * c) ≡ div_ceil n d
part_up n d c p = rw (mul-div-mul_right {m = c} n d p, rest n d c p, any_left (n % d) c p) refl

pub ticks_part_up : (n : ℕ) (unit tick : ℤ) → nat_abs (unit +ℤ pos 15) ≤ nat_abs (tick +ℤ pos 15)
    → ticks n unit tick true ≡ div_ceil n (10 ^ (nat_abs (tick +ℤ pos 15) - nat_abs (unit +ℤ pos 15)))
unfolding ticks
ticks_part_up n unit tick l =
    let a = nat_abs (unit +ℤ pos 15) in let b = nat_abs (tick +ℤ pos 15) in
    ap (λ k. div_ceil (n * 10 ^ a) k) (power_parts b a l) ∙ part_up n (10 ^ (b - a)) (10 ^ a) (some_power a)

pub ticks_part_down : (n : ℕ) (unit tick : ℤ) → nat_abs (unit +ℤ pos 15) ≤ nat_abs (tick +ℤ pos 15)
    → ticks n unit tick false ≡ n / 10 ^ (nat_abs (tick +ℤ pos 15) - nat_abs (unit +ℤ pos 15))
unfolding ticks
ticks_part_down n unit tick l =
    let a = nat_abs (unit +ℤ pos 15) in let b = nat_abs (tick +ℤ pos 15) in
    ap (λ k. n * 10 ^ a / k) (power_parts b a l) ∙ mul-div-mul_right {m = 10 ^ a} n (10 ^ (b - a)) (some_power a)

-- ---- the answer

-- this many ticks, if they are a time
pub in_range_told : (o : Option ℕ) (r : Result ℕ TickFault) (k : ℕ) → SomeIff o (k < 2 ^ 64) k → r ≡ ok_or o OutOfRange → told r ≡ in_range k
in_range_told None r k h e = let large : 2 ^ 64 ≤ k = omega (arith, h) in rw (e, le-ltb k (2 ^ 64) large) refl
in_range_told (Some n) r k h e = let small : k < 2 ^ 64 = h.0 in rw (e, lt-ltb k (2 ^ 64) small) (ap (λ m. Ok m) h.1)

-- ---- a number and a unit

some_bytes : (unit : List ℕ) → (length unit == 0) ≡ false → is_empty unit ≡ false
some_bytes [] e = cc
some_bytes (b ∷ unit) e = refl

unit_named : (n : ℕ) (unit : List ℕ) → (length unit == 0) ≡ false → with_unit n unit ≡ option_map (λ e. record { number = n; unit = Some e }) (unit_in unit)
unit_named n unit e = rw (some_bytes unit e) (ap (option_map (λ e. record { number = n; unit = Some e })) (sym (unit_exponent_is unit)))

pub unit_missing : (n : ℕ) (unit : List ℕ) → (length unit == 0) ≡ false → unit_in unit ≡ None → with_unit n unit ≡ None
unit_missing n unit e none = rw (unit_named n unit e, none) refl

pub unit_found : (n : ℕ) (unit : List ℕ) (x : ℤ) → (length unit == 0) ≡ false → unit_in unit ≡ Some x → with_unit n unit ≡ Some (record { number = n; unit = Some x })
unit_found n unit x e some = rw (unit_named n unit e, some) refl
