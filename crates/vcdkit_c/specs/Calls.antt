-- What a call of the program leaves in memory that was lent.
use Rattle.std.specs.Prelude.{◌≡◌, ℕ, ⊤, List, ◌∷◌, ◌++◌, codes, IsUtf8}
use Rattle.clap.specs.Words.{Text}
use Rattle.vcd_model.specs.Outcome.{program_line}
use Rattle.vcd_program.specs.Memory.{Fills, IsLeftIn}
use Rattle.vcd_program.specs.VcdkitProgram.{vcdkit_program}
use Rattle.vcd_program.specs.declared.memory.MemoryFile.{MemoryFile}
use Rattle.vcdkit_c.specs.declared.lent.Lent.{Lent}
use Rattle.vcdkit_c.specs.declared.words.Refused.{Refused}
use Rattle.vcdkit_c.specs.declared.words.Refused.TheVariants.{BadWords, OutOfMemory}

-- the bytes that were lent
abbrev pub bytes_of : Lent → Text
bytes_of lent = lent.bytes.now

-- the message if an argument is not UTF-8
abbrev pub bad_words : Text
bad_words = program_line (codes "vcdkit") (codes "bad words")

-- one of these arguments is not UTF-8
abbrev pub NoText : (words : List Text) → Type 0
NoText words = (before after : List Text) × (word : Text) × (words ≡ before ++ word ∷ after) × (IsUtf8 word → ⊥)

-- there are no words for a reason that they have
abbrev pub HasNoText : (words : List Text) → Refused → Type 0
HasNoText words BadWords = NoText words
HasNoText words OutOfMemory = ⊤

-- What a call with these words, the program's name not among them, leaves in `out` and in `err`,
-- how long output and message are, and the status.
pub data RunsInto (words : List Text) (files : List MemoryFile) (input out : Text) (output : ℕ) (err : Text) (message : ℕ) (status : ℕ) : Type 0 where
  -- what the program leaves over a host in memory
  Ran : (left : IsLeftIn vcdkit_program (codes "vcdkit" ∷ words) files input out output err message status) → RunsInto words files input out output err message status
  -- an argument is not UTF-8: no output, and a line
  BadWord : (bad : NoText words) (none : output ≡ 0) (line : Fills err message bad_words) (status_is : status ≡ 2) → RunsInto words files input out output err message status
  -- memory ran out before the program began, or 2^63 bytes found no room
  NoMemory : (status_is : status ≡ 4) → RunsInto words files input out output err message status
