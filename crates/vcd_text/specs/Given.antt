-- Where a feed is in its input, by its registers. No caller needs it.
use Rattle.std.specs.Prelude.{◌≡◌, ℕ, ◌+◌, ◌-◌, ◌≤◌, List, ◌++◌, length, take, drop, slice_range, Option, Some, None, IfSome}
use Rattle.vcd_model.specs.Input.{Input, Mark, Clean, Failed}
use Rattle.vcd_model.specs.Tokens.{Token, halt_place}
use Rattle.vcd_text.specs.LookedAt.{HasLookedAt}
use Rattle.vcd_text.specs.Window.{line_feeds_in}
use Rattle.vcd_text.specs.Registers.{looked, halt_number}
use Rattle.vcd_text.specs.Answer.{Ends}
use Rattle.vcd_text.specs.ReadAhead.{Near}
use Rattle.vcd_text.specs.declared.registers.Parked.{Parked}
use Rattle.vcd_text.specs.declared.answer.Halt.{Halt}
use Rattle.vcd_text.specs.declared.answer.Halt.TheVariants.{TokenTooLong, InputTooLong, ReadFailed}
use Rattle.vcd_text.specs.declared.registers.Phase.{Phase}
use Rattle.vcd_text.specs.declared.registers.Phase.TheVariants.{Going, Ended, Halted}

-- the first p bytes of the text were looked at, and the chunk and the source have the others; a
-- token has begun at offset r
pub record AtPlace (limit : ℕ) (rest : Option (List ℕ)) (chunk text : List ℕ) (given : List Token) (at end p r line_feeds : ℕ) : Type 0 where
  pub more : List ℕ
  pub known : rest ≡ Some more
  pub ahead : drop p text ≡ slice_range chunk at end ++ more
  pub within : p ≤ length text
  pub live : HasLookedAt limit text p r given
  pub line_feeds_are : line_feeds ≡ line_feeds_in (take p text)

-- n bytes of a token have begun where the registers are in the text, and these tokens have ended
pub record At (limit : ℕ) (rest : Option (List ℕ)) (chunk : List ℕ) (p : Parked) (text : List ℕ) (given : List Token) (n : ℕ) : Type 0 where
  pub place : AtPlace limit rest chunk text given p.at p.end (looked p) (looked p - n) p.line_feeds
  pub begun : n ≤ looked p

-- no halt of the input comes before offset p
abbrev pub NoHaltBefore : ℕ → Input → ℕ → Type 0
NoHaltBefore limit i p = IfSome (halt_place limit i) (λ place. p ≤ place)

-- the mark of an input after a halt: a failed read marks it
abbrev pub IsMarkAfter : Halt → Mark → Type 0
IsMarkAfter TokenTooLong m = Unit {0}
IsMarkAfter InputTooLong m = Unit {0}
IsMarkAfter ReadFailed m = m ≡ Failed

abbrev pub InPhase : Phase → ℕ → Option (List ℕ) → List ℕ → Parked → Input → List Token → Type 0
InPhase Going limit rest chunk p i given = (i.mark ≡ Clean) × At limit rest chunk p i.bytes given 0
InPhase Ended limit rest chunk p i given = Near (length chunk) rest (looked p) i × Ends limit i given None (p.line_feeds + 1) × (i.mark ≡ Clean)
InPhase (Halted h) limit rest chunk p i given = Near (length chunk) rest (looked p) i × IsMarkAfter h i.mark × Ends limit i given (Some (halt_number h)) p.line × NoHaltBefore limit i (looked p)

-- with these registers these tokens of the input have been given
abbrev pub HasGivenAt : ℕ → Option (List ℕ) → List ℕ → Parked → Input → List Token → Type 0
HasGivenAt limit rest chunk p i given = InPhase p.phase limit rest chunk p i given
