-- What the steps of a feed do to its registers and windows.
use Rattle.std.specs.Prelude.{◌≡◌, ℕ, ◌+◌, ◌-◌, ◌^◌, ◌≤◌, ◌<◌, Bool, true, false, ◌==◌, List, ◌++◌, length, take, slice_index, slice_range, count_by, if◌then◌else◌, min, Option}
use Rattle.std.specs.Io.KnownBytes.{Consumes, IsAtEnd, Keeps}
use Rattle.vcd_model.specs.Bytes.{is_white_space}
use Rattle.vcd_text.specs.declared.registers.Parked.{Parked}
use Rattle.vcd_text.specs.declared.answer.Halt.{Halt}
use Rattle.vcd_text.specs.declared.answer.Halt.TheVariants.{TokenTooLong, InputTooLong, ReadFailed}
use Rattle.vcd_text.specs.declared.registers.Phase.TheVariants.{Ended, Going, Halted}
use Rattle.vcd_text.specs.declared.window.Collected.{Collected}
use Rattle.vcd_text.specs.declared.window.Collected.TheVariants.{Whole, Part, TooLong}
use Rattle.vcd_text.specs.declared.window.Filled.{Filled}
use Rattle.vcd_text.specs.declared.window.Filled.TheVariants.{More, End, Failed}
use Rattle.vcd_text.specs.declared.answer.Next.{Next}
use Rattle.vcd_text.specs.declared.answer.Next.TheVariants.{Token, Finish}

-- the line feeds among these bytes
abbrev pub line_feeds_in : List ℕ → ℕ
line_feeds_in bytes = count_by (λ b. b == 10) bytes

-- whether the byte at this offset is white
abbrev pub is_white_at : List ℕ → ℕ → Bool
is_white_at bytes at = is_white_space (slice_index bytes at)

-- the registers after d bytes of white space
abbrev pub skipped : List ℕ → Parked → ℕ → Parked
skipped chunk p d = record p {
  at = p.at + d;
  line_feeds = p.line_feeds + line_feeds_in
      (slice_range chunk p.at (p.at + d));
  line = p.line_feeds + line_feeds_in (slice_range chunk p.at (p.at + d)) + 1;
}

-- the registers after d bytes of a token
abbrev pub gathered : Parked → ℕ → Parked
gathered p d = record p { at = p.at + d; size = p.size + d }

-- the registers after d bytes of a token and a byte of white space
abbrev pub ended : List ℕ → Parked → ℕ → Parked
ended chunk p d = record p { at = p.at + d + 1; size = p.size + d; line_feeds = p.line_feeds + (if slice_index chunk (p.at + d) == 10 then 1 else 0) }

-- the registers after the byte of white space at this offset
abbrev pub stepped_past : List ℕ → ℕ → Parked → Parked
stepped_past chunk at p = record p { at = at + 1; line_feeds = p.line_feeds + (if slice_index chunk at == 10 then 1 else 0) }

-- the registers after n bytes that an `Ahead` has passed; no token is shown
abbrev pub gone_on : List ℕ → Parked → ℕ → Parked
gone_on chunk p n = record p { at = p.at + n; size = 0; line_feeds = p.line_feeds + line_feeds_in (slice_range chunk p.at (p.at + n)) }

-- the registers after a read of n bytes
abbrev pub refilled : Parked → ℕ → Parked
refilled p n = record p { at = 0; end = n; stop = min n (2 ^ 63 - 1 - (p.base + p.at)); base = p.base + p.at }

-- d bytes of the chunk that may be looked at are white
pub record Whites (chunk : List ℕ) (p : Parked) (d : ℕ) : Type 0 where
  pub to : p.at + d ≤ p.stop
  pub white : (k : ℕ) → k < d → is_white_space (slice_index chunk (p.at + k)) ≡ true
  pub after : p.at + d < p.stop → is_white_space (slice_index chunk (p.at + d)) ≡ false

-- d other bytes of the chunk were added to the token's
pub record Gathers (chunk token token' : List ℕ) (p : Parked) (d : ℕ) : Type 0 where
  pub to : p.at + d ≤ p.stop
  pub room : p.size + d ≤ length token
  pub other : (k : ℕ) → k < d → is_white_space (slice_index chunk (p.at + k)) ≡ false
  pub bytes : take (p.size + d) token' ≡ take p.size token ++ slice_range chunk p.at (p.at + d)

-- white space was passed over
abbrev pub Skips : List ℕ → Parked → Parked → Type 0
Skips chunk old new = Whites chunk old (new.at - old.at) × (new ≡ skipped chunk old (new.at - old.at))

abbrev pub Collects : List ℕ → List ℕ → List ℕ → Parked → Parked → Collected → Type 0
Collects chunk token token' old new Part = Gathers chunk token token' old (old.stop - old.at)
    × (new ≡ gathered old (old.stop - old.at))
Collects chunk token token' old new Whole = (d : ℕ) × Gathers chunk token token' old d × (old.at + d < old.stop)
    × (is_white_space (slice_index chunk (old.at + d)) ≡ true) × (new ≡ ended chunk old d)
Collects chunk token token' old new TooLong = (new ≡ old) × (old.at + (length token - old.size) < old.stop)
    × ((k : ℕ) → k < length token - old.size + 1 → is_white_space (slice_index chunk (old.at + k)) ≡ false)

-- the registers at the first byte of a token
abbrev pub begun : Parked → Parked
begun p = record p { size = 0; line = p.line_feeds + 1 }

-- a whole token that begins at the next byte was collected
pub record TakesShort (chunk token token' : List ℕ) (old new : Parked) : Type 0 where
  pub going : old.phase ≡ Going
  pub some : 0 < new.size
  pub collects : Collects chunk token token' (begun old) new Whole

abbrev pub Fills : Option (List ℕ) → Option (List ℕ) → List ℕ → Parked → Parked → Filled → Type 0
Fills rest rest' chunk old new More = (0 < new.end) × (new.end ≤ length chunk) × Consumes rest rest' (take new.end chunk)
    × (new ≡ refilled old new.end)
Fills rest rest' chunk old new End = (new ≡ old) × IsAtEnd rest
Fills rest rest' chunk old new Failed = (new ≡ old) × Keeps rest rest'

abbrev pub Halts : Halt → Parked → Parked → Type 0
Halts TokenTooLong old new = new ≡ record old { size = 0; phase = Halted TokenTooLong }
Halts InputTooLong old new = new ≡ record old { size = 0; line = old.line_feeds + 1; phase = Halted InputTooLong }
Halts ReadFailed old new = new ≡ record old { size = 0; line = old.line_feeds + 1; phase = Halted ReadFailed }

abbrev pub Finishes : Parked → Parked → Next → Type 0
Finishes old new Token = (0 < old.size) × (new ≡ record old { phase = Ended })
Finishes old new Finish = (old.size ≡ 0) × (new ≡ record old { phase = Ended; line = old.line_feeds + 1 })
