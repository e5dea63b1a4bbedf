-- What a token is that comes where a phrase of a body begins.
use Rattle.std.specs.Prelude.{◌≡◌, ℕ, ◌+◌, ◌<◌, ◌≤◌, Bool, true, false, IsTrue, ◌==◌, List, [], ◌∷◌, Option, Some, None}
use Rattle.std.specs.List.{list_any}
use Rattle.std.specs.Str.{byte}
use Rattle.std.specs.Prelude.{bytes_eq}
use Rattle.vcd_model.specs.Keywords.{Keyword, keyword_of, keyword_text}
use Rattle.vcd_model.specs.BodyPhrases.{section_keyword, is_value_digit}
use Rattle.vcd_view.specs.declared.keyword.Keyword.{Keyword as HeadKeyword}
use Rattle.vcd_view.specs.declared.keyword.Keyword.TheVariants as head
use Rattle.vcd_body.specs.declared.item.Section.TheVariants as section
use Rattle.vcd_body.specs.Items.{model_section}
use Rattle.vcd_body.specs.declared.words.KeywordUse.{KeywordUse}
use Rattle.vcd_body.specs.declared.words.KeywordUse.TheVariants.{Comment, Begin, End, OfHeader}
use Rattle.vcd_body.specs.declared.words.PhraseKind.{PhraseKind}
use Rattle.vcd_body.specs.declared.words.PhraseKind.TheVariants.{Timestamp, Bit, Scalar, Vector, Real, Other}

-- the whole token is `$comment`
abbrev pub is_comment : List ℕ → Bool
is_comment token = bytes_eq (keyword_text Keyword.Comment) token

-- a keyword that belongs into the header
abbrev pub is_of_header : Keyword → Bool
is_of_header Keyword.Comment = false
is_of_header Keyword.DumpAll = false
is_of_header Keyword.DumpOff = false
is_of_header Keyword.DumpOn = false
is_of_header Keyword.DumpVars = false
is_of_header Keyword.End = false
is_of_header k = true

-- what a keyword is where a phrase begins
abbrev pub command_is : HeadKeyword → KeywordUse
command_is head.Comment = Comment
command_is head.Date = OfHeader
command_is head.EndDefinitions = OfHeader
command_is head.Scope = OfHeader
command_is head.Timescale = OfHeader
command_is head.Upscope = OfHeader
command_is head.Var = OfHeader
command_is head.Version = OfHeader
command_is head.DumpAll = Begin section.All
command_is head.DumpOff = Begin section.Off
command_is head.DumpOn = Begin section.On
command_is head.DumpVars = Begin section.Vars
command_is head.End = End

-- the token is this command, or no keyword
abbrev pub StandsFor : List ℕ → Option KeywordUse → Type 0
StandsFor token (Some Comment) = token ≡ keyword_text Keyword.Comment
StandsFor token (Some (Begin s)) = token ≡ keyword_text (section_keyword (model_section s))
StandsFor token (Some End) = token ≡ keyword_text Keyword.End
StandsFor token (Some OfHeader) = (k : Keyword) × (token ≡ keyword_text k) × IsTrue (is_of_header k)
StandsFor token None = keyword_of token ≡ None

-- one of two bytes
abbrev pub is_either : ℕ → ℕ → ℕ → Bool
is_either a b x = list_any (λ d. x == d) (a ∷ b ∷ [])

-- no other phrase begins with this byte than one that begins with a command
abbrev pub BeginsOther : List ℕ → Type 0
BeginsOther [] = Unit {0}
BeginsOther (b ∷ rest) = ((b == byte "#") ≡ false) × (is_value_digit b ≡ false) × (is_either (byte "b") (byte "B") b ≡ false) × (is_either (byte "r") (byte "R") b ≡ false)

-- a digit of a value begins the token
abbrev pub IsScalar : List ℕ → Type 0
IsScalar token = (d : ℕ) × (code : List ℕ) × IsTrue (is_value_digit d) × (token ≡ d ∷ code)

-- the token begins so
abbrev pub Begins : List ℕ → PhraseKind → Type 0
Begins token Timestamp = (digits : List ℕ) × (token ≡ byte "#" ∷ digits)
Begins token Bit = (d : ℕ) × (code : List ℕ) × IsTrue (is_either (byte "0") (byte "1") d) × (token ≡ d ∷ code)
Begins token Scalar = (d : ℕ) × (code : List ℕ) × IsTrue (is_value_digit d) × (is_either (byte "0") (byte "1") d ≡ false) × (token ≡ d ∷ code)
Begins token Vector = (b : ℕ) × (digits : List ℕ) × IsTrue (is_either (byte "b") (byte "B") b) × (token ≡ b ∷ digits)
Begins token Real = (r : ℕ) × (text : List ℕ) × IsTrue (is_either (byte "r") (byte "R") r) × (token ≡ r ∷ text)
Begins token Other = BeginsOther token

-- byte k is in a block of n bytes whose mask is 0
pub record InClear (gives : ℕ → ℕ → Type 0) (n k : ℕ) : Type 0 where
  pub at : ℕ
  pub from : at ≤ k
  pub to : k < at + n
  pub clear : gives at 0
