-- The code that a look-up has found, and its texts.
use Rattle.vcd_body.proofs.Cited.{◌≡◌, ℕ, Bool, true, false, cond, ◌&&◌, ◌^◌, ◌<◌, nat_lt, List, Option, Some, None, IfSome, refl, sym, subst, slice_get, and_parts, lt-ltb, ltb-true, cond_some, is_decimal, decimal_value, IdCode, Header, spelled_below, Code, HeadShown, Views, IsCode}
use Rattle.vcd_view.proofs.RowLemmas.{code_at as code_in_view}

-- the view's code at the index of a header's code
pub code_at : (s : HeadShown) (h : Header) → Views s h → (position : ℕ) (c : IdCode) → slice_get h.codes position ≡ Some c → (code : Code)
    × (slice_get s.codes position ≡ Some code) × IsCode s.text code c
code_at s h v position c e = code_in_view s.text s.codes h.codes position c v.codes e

-- a number is what the digits spell, and is below 2^64
pub time_spelled : (digits : List ℕ) (time : ℕ) → spelled_below digits ≡ Some time
    → ((is_decimal digits && nat_lt (decimal_value digits) (2 ^ 64)) ≡ true) × (decimal_value digits ≡ time)
time_spelled digits time h = cond_some (is_decimal digits && nat_lt (decimal_value digits) (2 ^ 64)) (decimal_value digits) time h

-- so they are digits, and the number is below 2^64
pub time_fits : (digits : List ℕ) (time : ℕ) → (is_decimal digits && nat_lt (decimal_value digits) (2 ^ 64)) ≡ true → decimal_value digits ≡ time
    → (is_decimal digits ≡ true) × (decimal_value digits ≡ time) × (time < 2 ^ 64)
time_fits digits time both value =
    let p = and_parts (is_decimal digits) (nat_lt (decimal_value digits) (2 ^ 64)) both in
    (p.0, value, subst (λ n. n < 2 ^ 64) value (ltb-true (decimal_value digits) (2 ^ 64) p.1))

-- and digits of a number below 2^64 spell it
pub time_whole : (digits : List ℕ) (time : ℕ) → is_decimal digits ≡ true → decimal_value digits ≡ time → time < 2 ^ 64
    → (is_decimal digits && nat_lt (decimal_value digits) (2 ^ 64)) ≡ true
time_whole digits time decimal value less = rw (decimal, value, lt-ltb time (2 ^ 64) less) refl

-- so what they spell is the time of a timestamp, and each such time is what they spell
pub time_if_spelled : (digits : List ℕ) (o : Option ℕ) → o ≡ spelled_below digits → IfSome o (λ time. (is_decimal digits ≡ true) × (decimal_value digits ≡ time) × (time < 2 ^ 64))
time_if_spelled digits None e = tt
time_if_spelled digits (Some time) e = let s = time_spelled digits time (sym e) in time_fits digits time s.0 s.1

pub spelled_time : (digits : List ℕ) (time : ℕ) → (is_decimal digits ≡ true) × (decimal_value digits ≡ time) × (time < 2 ^ 64) → spelled_below digits ≡ Some time
spelled_time digits time h = rw (time_whole digits time h.0 h.1 h.2, h.1) refl

none_of : (b : Bool) (v : ℕ) → cond b (Some v) None ≡ None → b ≡ false
none_of false v h = refl
none_of true v h = cc

pub none_spelled : (digits : List ℕ) → spelled_below digits ≡ None → (is_decimal digits && nat_lt (decimal_value digits) (2 ^ 64)) ≡ false
none_spelled digits h = none_of (is_decimal digits && nat_lt (decimal_value digits) (2 ^ 64)) (decimal_value digits) h
