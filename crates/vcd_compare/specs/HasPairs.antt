-- The pairs while they are made: what is held of some places, and the classes by their codes.
use Rattle.std.specs.Prelude.{◌≡◌, ℕ, ◌+◌, not, cond, is_none, List, [], ◌∷◌, ◌++◌, filter, filter_map, length, Option, Some, None}
use Rattle.std.specs.Global.{Vec}
use Rattle.std.specs.List.{AllZip}
use Rattle.vcd_model.specs.Header.{Header}
use Rattle.vcd_model.specs.Compare.{Asked, Named, Pair, is_fit}
use Rattle.vcd_model.specs.Within.{Names, pair_at}
use Rattle.vcd_compare.specs.Classes.{HasClasses}
use Rattle.vcd_compare.specs.Pairs.{HoldsPairs}
use Rattle.vcd_compare.specs.Paths.{HasTexts, IsNumberOf}
use Rattle.vcd_compare.specs.declared.pairs.Numbered.{Numbered}
use Rattle.vcd_compare.specs.declared.pairs.Pairs.{Pairs}
use Rattle.vcd_compare.specs.Selected.{AreInside, AreNamedBelow, both_names}
use Rattle.vcd_compare.specs.Variables.{AreVariables}
use Rattle.vcd_compare.specs.declared.paths.Paths.{Paths}
use Rattle.vcd_compare.specs.declared.variables.Variables.{Variables}

-- a pair, if it is compared, and if it is not
abbrev pub compared_of : Pair → List Pair
compared_of p = filter is_fit (p ∷ [])

abbrev pub unlike_of : Pair → List Pair
unlike_of p = filter (λ x. not (is_fit x)) (p ∷ [])

-- what places add
abbrev pub compared_at : Header → List (Named × Option Named) → List Pair
compared_at h ps = filter is_fit (filter_map (pair_at h) ps)

abbrev pub unlike_at : Header → List (Named × Option Named) → List Pair
unlike_at h ps = filter (λ p. not (is_fit p)) (filter_map (pair_at h) ps)

abbrev pub alone_at : List (Named × Option Named) → List Named
alone_at ps = filter_map (λ p. cond (is_none p.1) (Some p.0) None) ps

-- these pairs are held, and the classes have these codes
pub record HasPairs (keys : List (ℕ × ℕ)) (ps : Pairs) (h : Header) (compared unlike : List Pair) (ones others : List Named) : Type 0 where
  pub holds : HoldsPairs ps h compared unlike ones others
  pub has : HasClasses keys ps.ends.items ps.last.items
  pub count : length keys ≡ ps.classes

-- these are the numbers of two names
abbrev pub AreNumbersOf : List (List ℕ) → ℕ × ℕ → Names → Type 0
AreNumbersOf texts m n = IsNumberOf texts m.0 n.0 × IsNumberOf texts m.1 n.1

-- the names have these numbers, and some may be new
abbrev pub EntersNames : List (List ℕ) → Paths → List Names → List (ℕ × ℕ) → Type 0
EntersNames texts new ns numbers = (more : List (List ℕ)) × HasTexts new (texts ++ more) × AllZip (AreNumbersOf (texts ++ more)) numbers ns

-- so have these texts
abbrev pub EntersTexts : List (List ℕ) → Paths → List (List ℕ) → List ℕ → Type 0
EntersTexts texts new ts numbers = (more : List (List ℕ)) × HasTexts new (texts ++ more) × AllZip (IsNumberOf (texts ++ more)) numbers ts

-- the lists of the variables that the names select, and no exception
pub record HasSelected (paths : Paths) (vs : Variables) (lists : List (Vec ℕ)) (q : Asked) (h : Header) (ns : List Names) (texts : List (List ℕ)) : Type 0 where
  pub has : HasTexts paths texts
  pub are : AreVariables h texts vs
  pub inside : AreInside texts (both_names ns) q.exceptions vs.paths.items (length vs.paths.items) lists

-- the paths of these names and of the declarations have numbers
pub record IsNumbered (all : Numbered) (h : Header) (q : Asked) (ns : List Names) : Type 0 where
  pub texts : List (List ℕ)
  pub has : HasTexts all.paths texts
  pub are : AreVariables h texts all.variables
  pub names : AllZip (AreNumbersOf texts) all.names.items ns
  pub below : AreNamedBelow texts (both_names ns) (all.named + 1)
  pub exceptions : AllZip (IsNumberOf texts) all.exceptions.items q.exceptions
