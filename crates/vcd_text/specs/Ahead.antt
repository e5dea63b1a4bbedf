-- What is ahead in a feed's chunk, and how far it was looked over.
use Rattle.std.specs.Prelude.{◌≡◌, ℕ, ◌+◌, ◌-◌, ◌<◌, ◌≤◌, List, [], ◌∷◌, ◌++◌, length, slice_range}
use Rattle.vcd_model.specs.Tokens.{Token}
use Rattle.vcd_text.specs.Passed.{AreWhite, IsRun, Passed, line_ahead}
use Rattle.vcd_text.specs.Registers.{ahead_in}
use Rattle.vcd_text.specs.declared.device.Source.{Ghosts}
use Rattle.vcd_text.specs.declared.feed.Feed.{Feed}
use Rattle.vcd_text.specs.declared.ahead.Ahead.{Ahead}

-- ---- the feed

-- the bytes that were read, may be looked at and were not
abbrev pub ahead_of : {X : Type 0} {g : Ghosts X} → Feed X g → List ℕ
ahead_of f = ahead_in f.parked.phase f.chunk.now f.parked

-- how many line feeds were looked at
abbrev pub lines_of : {X : Type 0} {g : Ghosts X} → Feed X g → ℕ
lines_of f = f.parked.line_feeds

-- ---- the look ahead

-- the bytes that it looks over
abbrev pub bytes_of : Ahead → List ℕ
bytes_of a = a.bytes.now

-- how many of them it has passed
abbrev pub passed_of : Ahead → ℕ
passed_of a = a.at

-- how many bytes a token may have
abbrev pub longest_of : Ahead → ℕ
longest_of a = a.limit

-- where the token that it gave last begins: one white byte was passed after it
abbrev pub start_of : Ahead → List ℕ → ℕ
start_of a token = passed_of a - length token - 1

-- The next token was taken, from one offset ahead to another. It is a whole run of other bytes;
-- only white bytes come before it, or none, and one white byte was passed after it.
pub record TakesToken (a a' : Ahead) (token : List ℕ) : Type 0 where
  -- whatever tokens were passed before, it was passed after them
  pub gives : (lines : ℕ) (ts : List Token) → Passed (longest_of a) lines (bytes_of a) (passed_of a) ts
      → Passed (longest_of a) lines (bytes_of a) (passed_of a') (ts ++ record {
        bytes = token;
        line = line_ahead lines (bytes_of a)
            (start_of a' token);
      } ∷ [])
  pub some : 0 < length token
  pub short : length token ≤ longest_of a
  pub place : token ≡ slice_range (bytes_of a) (start_of a' token) (passed_of a' - 1)
  pub run : IsRun (longest_of a) (bytes_of a) (start_of a' token) (length token)
  pub before : AreWhite (bytes_of a) (passed_of a) (start_of a' token)
  pub further : passed_of a + length token + 1 ≤ passed_of a'
  pub within : passed_of a' ≤ length (bytes_of a)
  pub same : (bytes_of a' ≡ bytes_of a) × (longest_of a' ≡ longest_of a)

-- no token follows the white bytes, or fewer than 64 bytes are left from its end on
abbrev pub IsNearEnd : Ahead → Type 0
IsNearEnd a = (start n : ℕ) → AreWhite (bytes_of a) (passed_of a) start → IsRun (longest_of a) (bytes_of a) start n → length (bytes_of a) < start + n + 64
