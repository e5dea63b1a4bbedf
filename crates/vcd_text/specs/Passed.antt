-- Whole tokens, one after the other, with white space between them and one byte of it after the
-- last.
use Rattle.std.specs.Prelude.{◌≡◌, ℕ, ◌+◌, ◌<◌, ◌≤◌, true, false, List, [], ◌∷◌, length, take, slice_index, slice_range}
use Rattle.vcd_model.specs.Bytes.{is_white_space}
use Rattle.vcd_model.specs.Tokens.{Token}
use Rattle.vcd_text.specs.Window.{line_feeds_in}

-- the line of the byte at an offset, if this many line feeds come before these bytes
abbrev pub line_ahead : ℕ → List ℕ → ℕ → ℕ
line_ahead lines bytes at = 1 + lines + line_feeds_in (take at bytes)

-- n bytes are at this offset, none of them white, and one that is white after them
pub record IsRun (limit : ℕ) (bytes : List ℕ) (at n : ℕ) : Type 0 where
  pub some : 0 < n
  pub short : n ≤ limit
  pub within : at + n < length bytes
  pub other : (k : ℕ) → k < n → is_white_space (slice_index bytes (at + k)) ≡ false
  pub white : is_white_space (slice_index bytes (at + n)) ≡ true

-- this token of at most `limit` bytes is at this offset
pub record StandsAt (limit lines : ℕ) (bytes : List ℕ) (at : ℕ) (t : Token) : Type 0 where
  pub run : IsRun limit bytes at (length t.bytes)
  pub bytes_are : t.bytes ≡ slice_range bytes at (at + length t.bytes)
  pub line_is : t.line ≡ line_ahead lines bytes at

-- the bytes from one offset up to another are white
pub record AreWhite (bytes : List ℕ) (from to : ℕ) : Type 0 where
  pub order : from ≤ to
  pub white : (k : ℕ) → from ≤ k → k < to → is_white_space (slice_index bytes k) ≡ true

-- from this offset on there are exactly these tokens, up to offset n: any white bytes before each,
-- then the token, and one white byte that ends it
abbrev pub PassedFrom : ℕ → ℕ → List ℕ → ℕ → List Token → ℕ → Type 0
PassedFrom limit lines bytes at [] n = n ≡ at
PassedFrom limit lines bytes at (t ∷ ts) n = (start : ℕ) × AreWhite bytes at start × StandsAt limit lines bytes start t × PassedFrom limit lines bytes (start + length t.bytes + 1) ts n

-- The first n bytes are exactly these tokens, each of at most `limit` bytes and not empty, with any
-- white space before it and one white byte after it. Before the bytes there are this many line
-- feeds.
abbrev pub Passed : ℕ → ℕ → List ℕ → ℕ → List Token → Type 0
Passed limit lines bytes n ts = PassedFrom limit lines bytes 0 ts n

-- the bytes begin with these tokens, whole and of at most `limit` bytes each, on whatever lines
abbrev pub AreFirst : ℕ → List ℕ → List Token → Type 0
AreFirst limit bytes ts = (lines n : ℕ) × Passed limit lines bytes n ts
