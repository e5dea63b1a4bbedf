-- How many variables the header of a text has.
use Rattle.std.specs.Prelude.{◌≡◌, ℕ, Bool, true, false, List, length}
use Rattle.vcd_head.specs.Model.Declarations.{variables_of}
use Rattle.vcd_head.specs.Model.Header.{header_of}
use Rattle.vcd_head.specs.Model.HeaderPhrases.{HeaderPhrase}
use Rattle.vcd_head.specs.Model.HeaderReading.{header_grammar}
use Rattle.vcd_head.specs.Model.Laws.{IsPrefixOf}
use Rattle.vcd_head.specs.Model.Reading.{Placed, phrases_of}
use Rattle.vcd_head.specs.Model.SoFar.{IsWhole}
use Rattle.vcd_head.specs.Model.Tokens.{Token, stream_of}
use Rattle.vcd_text.specs.Answer.{whole}
use Rattle.vcd_head.specs.Kind.{Kind}
use Rattle.vcd_head.specs.Kind.TheVariants.{Scope, Up, Var}

-- a variable is declared
abbrev pub is_variable : Kind → Bool
is_variable Scope = false
is_variable Up = false
is_variable Var = true

-- the first tokens of the text are a whole header with no fault, and it declares this many
-- variables
pub record HasVariables (text : List ℕ) (number : ℕ) : Type 0 where
  pub given : List Token
  pub first : IsPrefixOf given (stream_of 65536 (whole text)).tokens
  pub placed : List (Placed HeaderPhrase)
  pub header : IsWhole (header_grammar 16777216) given placed
  pub counted : number ≡ length (variables_of (header_of (phrases_of placed)).declarations)
