-- What the tests of words say.
use Rattle.vcd_head.proofs.Cited.{◌≡◌, ℕ, ◌+◌, ◌-◌, ◌*◌, ◌<◌, Bool, true, false, cond, ◌&&◌, nat_lt, List, [], length, take, get_or, Some, None, is_none, refl, ap, ◌∙◌, take_more, cond_some, ltb-true, and_parts, decimal_value, is_decimal, keyword_of, is_command, is_size, begins_change, size_in, HeaderPhrase, decimal_value-push}
use Rattle.vcd_model.specs.Keywords.{is_unknown_command}
use Rattle.vcd_model.specs.HeaderChecks.{header_fault}

-- ---- sizes

pub value_more : (token : List ℕ) (i : ℕ) → i < length token → decimal_value (take (i + 1) token) ≡ decimal_value (take i token) * 10 + (get_or token i 0 - 48)
value_more token i h = rw (take_more token i 0 h) (decimal_value-push (take i token) (get_or token i 0))

-- ---- a first token that is no keyword

unknown_is : (token : List ℕ) → keyword_of token ≡ None → is_unknown_command token ≡ is_command token
unfolding is_unknown_command
unknown_is token e = ap (λ k. is_none k && is_command token) e

pub fault_of_change : (most : ℕ) (ps : List HeaderPhrase) (token : List ℕ) → keyword_of token ≡ None → begins_change token ≡ true → header_fault most ps [] token ≡ Some 4
unfolding header_fault
fault_of_change most ps token none h = rw (none, h) refl

pub fault_of_other : (most : ℕ) (ps : List HeaderPhrase) (token : List ℕ) → keyword_of token ≡ None → begins_change token ≡ false
    → is_command token ≡ false → header_fault most ps [] token ≡ Some 3
unfolding header_fault
fault_of_other most ps token none h k = rw (none, h, unknown_is token none, k) refl

pub fault_of_command : (most : ℕ) (ps : List HeaderPhrase) (token : List ℕ) → keyword_of token ≡ None → begins_change token ≡ false
    → is_command token ≡ true → header_fault most ps [] token ≡ None
unfolding header_fault
fault_of_command most ps token none h k = rw (none, h, unknown_is token none, k) refl

pub unknown_command : (token : List ℕ) → keyword_of token ≡ None → is_command token ≡ true → is_unknown_command token ≡ true
unknown_command token none k = unknown_is token none ∙ k

-- what a size found says
pub size_found : (token : List ℕ) (n : ℕ) → size_in token ≡ Some n → (is_size token ≡ true) × (decimal_value token ≡ n)
size_found token n h = cond_some (is_size token) (decimal_value token) n h

pub size_missing : (token : List ℕ) → size_in token ≡ None → is_size token ≡ false
size_missing token h = by_test (is_size token) h
  where
    by_test : (b : Bool) → cond b (Some (decimal_value token)) None ≡ None → b ≡ false
    by_test true e = cc
    by_test false e = refl

-- a size is decimal, above 0 and below the limit
pub size_parts : (token : List ℕ) → is_size token ≡ true → (is_decimal token ≡ true) × (0 < decimal_value token) × (decimal_value token < 16777216)
size_parts token h =
    let a = and_parts (is_decimal token && nat_lt 0 (decimal_value token)) (nat_lt (decimal_value token) 16777216) h in
    let b = and_parts (is_decimal token) (nat_lt 0 (decimal_value token)) a.0 in
    (b.0, ltb-true 0 (decimal_value token) b.1, ltb-true (decimal_value token) 16777216 a.1)
