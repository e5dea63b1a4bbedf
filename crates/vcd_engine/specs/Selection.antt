-- What names select: the marks of declarations, and the flags of codes.
use Rattle.std.specs.Prelude.{◌≡◌, ℕ, List, Some, None}
use Rattle.vcd_model.specs.Header.{Header}
use Rattle.vcd_model.specs.Selection.{first_unmatched}
use Rattle.vcd_head.specs.Marks.{AreFlags, marks_of}
use Rattle.vcd_body.specs.declared.answer.Stop.{Stop}
use Rattle.vcd_body.specs.declared.answer.Stop.TheVariants.{Unmatched}

-- each name selects something, and the selected variables are marked, and the flags of their codes
-- are 1
pub record AreSelected (names : List (List ℕ)) (h : Header) (marks : List ℕ) (flags : List ℕ) : Type 0 where
  pub matched : first_unmatched names h.declarations ≡ None
  pub marks_are : marks ≡ marks_of names h.declarations
  pub chosen : AreFlags h names flags

-- the answer is that some name selects nothing
abbrev pub IsUnmatched : Stop → Type 0
IsUnmatched (Unmatched index) = Unit {0}
IsUnmatched stop = ⊥

-- it is the first name that selects nothing
abbrev pub IsFirstUnmatched : List (List ℕ) → Header → Stop → Type 0
IsFirstUnmatched names h (Unmatched index) = first_unmatched names h.declarations ≡ Some index
IsFirstUnmatched names h stop = ⊥
