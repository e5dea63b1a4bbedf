-- How far a feed has come in a text. No caller needs it.
use Rattle.std.specs.Prelude.{◌≡◌, ℕ, zero, suc, ◌+◌, ◌^◌, ◌≤◌, ◌<◌, Bool, true, false, List, map, filter, length, slice_index}
use Rattle.std.specs.List.{range_with_len}
use Rattle.vcd_model.specs.Bytes.{is_white_space}
use Rattle.vcd_model.specs.Tokens.{Token, begins_token, run_at, end_at, token_at}

-- no token continues at the offset: it is the first one, or comes after white space
abbrev pub is_apart : List ℕ → ℕ → Bool
is_apart text zero = true
is_apart text (suc i) = is_white_space (slice_index text i)

-- the next n offsets from a on at which tokens begin
abbrev pub places_from : List ℕ → ℕ → ℕ → List ℕ
places_from text a n = filter (begins_token text) (range_with_len a n)

-- the bytes before offset p were looked at, and no halt is at one of them. A token that has not
-- ended begins at offset r (none if r is p), and these tokens have ended before it
pub record HasLookedAt (limit : ℕ) (text : List ℕ) (p r : ℕ) (given : List Token) : Type 0 where
  pub order : r ≤ p
  pub counted : p < 2 ^ 63
  pub apart : is_apart text r ≡ true
  pub run : (k : ℕ) → r ≤ k → k < p → is_white_space (slice_index text k) ≡ false
  pub room : p ≤ r + limit
  pub ended : (i : ℕ) → i < r → begins_token text i ≡ true → end_at text i < r
  pub short : (i : ℕ) → i < r → begins_token text i ≡ true → length (run_at text i) ≤ limit
  pub gave : map (token_at text) (places_from text 0 r) ≡ given
