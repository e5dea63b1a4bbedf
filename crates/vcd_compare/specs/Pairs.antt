-- Which variables of a header are compared, as rows and codes by number.
use Rattle.std.specs.Prelude.{◌≡◌, ◌≢◌, ℕ, suc, ◌+◌, ◌*◌, ◌<◌, ◌≤◌, Bool, true, cond, List, ◌++◌, length, map, flat_map, slice_get, Option, Some, None}
use Rattle.std.specs.List.{AllZip}
use Rattle.vcd_model.specs.Declarations.{Declaration, Variable, code_of}
use Rattle.vcd_model.specs.Header.{Header}
use Rattle.vcd_model.specs.Compare.{Asked, Named, Pair, is_fit, range_of}
use Rattle.vcd_model.specs.Within.{Names, alone_in, compared_in, places_of, turned, unlike_in}
pub use Rattle.vcd_compare.specs.Variables.{IsAt, IsNamedAt}
use Rattle.vcd_compare.specs.declared.pairs.End.{End}
use Rattle.vcd_compare.specs.declared.pairs.NamePair.{NamePair}
use Rattle.vcd_compare.specs.declared.pairs.PairRow.{PairRow}
use Rattle.vcd_compare.specs.declared.pairs.Pairs.{Pairs}
use Rattle.vcd_compare.specs.declared.pairs.UnlikeRows.{UnlikeRows}

-- the names of a request
abbrev pub names_in : List NamePair → List Names
names_in ns = map (λ n. (n.one.items, n.other.items)) ns

-- the end at this index has the code of the variable
abbrev pub HasEnd : Header → List End → ℕ → Variable → Type 0
HasEnd h ends index v = (e : End) × (slice_get ends index ≡ Some e) × (slice_get h.codes e.code ≡ Some (code_of v))

-- the codes of two ends
abbrev pub both_codes : Option End → Option End → Option (ℕ × ℕ)
both_codes None other = None
both_codes (Some one) None = None
both_codes (Some one) (Some other) = Some (one.code, other.code)

-- the two codes of a class
abbrev pub codes_of : List End → ℕ → Option (ℕ × ℕ)
codes_of ends class = both_codes (slice_get ends (2 * class)) (slice_get ends (suc (2 * class)))

-- the two ends of the class have the codes of the two variables
pub record IsClassOf (h : Header) (ends : List End) (class : ℕ) (p : Pair) : Type 0 where
  pub one : HasEnd h ends (2 * class) p.one
  pub other : HasEnd h ends (suc (2 * class)) p.other

-- a path with a range after it, or without
abbrev pub named_by : Bool → List ℕ → Variable → List ℕ
named_by ranged path v = cond ranged (path ++ range_of v) path

-- the variable is declared at this row, and lines show it by this name
pub record IsShownAt (h : Header) (row : ℕ) (ranged : Bool) (name : List ℕ) (v : Variable) : Type 0 where
  pub path : List ℕ
  pub at : IsAt h row path v
  pub name_is : named_by ranged path v ≡ name

-- the row is that of the first variable of the pair, and the class is that of the pair
pub record IsPairAt (h : Header) (ends : List End) (r : PairRow) (p : Pair) : Type 0 where
  pub at : IsShownAt h r.row r.ranged p.path p.one
  pub class : IsClassOf h ends r.class p

-- the rows are those of the two variables
pub record IsUnlikeAt (h : Header) (r : UnlikeRows) (p : Pair) : Type 0 where
  pub at : IsShownAt h r.one r.ranged p.path p.one
  pub other : slice_get h.declarations r.other ≡ Some (Declaration.Var p.other)

-- n is 1 plus the greatest index below a bound at which an end has the code, or 0 if there is none
pub record IsLastEnd (ends : List End) (below code n : ℕ) : Type 0 where
  pub within : n ≤ below
  pub is : (i : ℕ) → n ≡ suc i → (e : End) × (slice_get ends i ≡ Some e) × (e.code ≡ code)
  pub none : (i : ℕ) (e : End) → n ≤ i → i < below → slice_get ends i ≡ Some e → e.code ≢ code

-- from the last end of each code on, each end leads to the one before it of the same code
pub record AreLinked (ends : List End) (last : List ℕ) : Type 0 where
  pub each : (i : ℕ) (e : End) → slice_get ends i ≡ Some e → IsLastEnd ends i e.code e.earlier
  pub from : (code n : ℕ) → slice_get last code ≡ Some n → IsLastEnd ends (length ends) code n

-- The pairs that are compared, those of different kinds, and the variables without a counterpart. Of
-- each two codes that are compared there is one class, whose number is half that of its first end.
pub record HoldsPairs (ps : Pairs) (h : Header) (compared other_kinds : List Pair) (ones others : List Named) : Type 0 where
  pub rows : AllZip (IsPairAt h ps.ends.items) ps.rows.items compared
  pub alone_one : AllZip (IsNamedAt h) ps.alone_one.items ones
  pub alone_other : AllZip (IsNamedAt h) ps.alone_other.items others
  pub unlike : AllZip (IsUnlikeAt h) ps.unlike.items other_kinds
  pub linked : AreLinked ps.ends.items ps.last.items
  pub codes : length ps.last.items ≡ length h.codes
  pub classes : ps.classes * 2 ≡ length ps.ends.items
  pub few : ps.classes ≤ length ps.rows.items
  -- each class is that of two variables of one kind, and of some row
  pub fit : (class : ℕ) → class < ps.classes → (p : Pair) × (is_fit p ≡ true) × IsClassOf h ps.ends.items class p
  pub covered : (class : ℕ) → class < ps.classes → (n : ℕ) × (r : PairRow) × (slice_get ps.rows.items n ≡ Some r) × (r.class ≡ class)

-- the pairs of these names in the header
abbrev pub ArePairs : Pairs → Header → Asked → List Names → Type 0
ArePairs ps h q ns = HoldsPairs ps h (compared_in q h ns) (unlike_in q h ns) (flat_map (alone_in q h) ns) (flat_map (λ n. alone_in q h (turned n)) ns)

-- how many numbers the lists of pairs have
abbrev pub numbers_kept : Pairs → ℕ
numbers_kept ps = 2 * length ps.rows.items + 2 * length ps.ends.items + length ps.last.items + length ps.alone_one.items + length ps.alone_other.items + 2 * length ps.unlike.items

-- These are at most six for each variable that a first name selects, one for each variable that a
-- second name selects, and one for each code. A variable counts once for each name that selects it.
abbrev pub AreFew : Pairs → Header → Asked → List Names → Type 0
AreFew ps h q ns = numbers_kept ps ≤ 6 * length (flat_map (places_of q h) ns) + length (flat_map (λ n. places_of q h (turned n)) ns) + length h.codes
