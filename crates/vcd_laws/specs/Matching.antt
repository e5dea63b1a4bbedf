-- What it says that a comparison succeeds: everything that is compared matches.
use Rattle.std.specs.Prelude.{◌≡◌, ◌≢◌, ◌⊎◌, ◌↔◌, ℕ, ◌≤◌, IsTrue, IsFalse, List, [], ◌∷◌, ◌++◌, flat_map, Contains, None}
use Rattle.std.specs.List.{list_any}
use Rattle.vcd_model.specs.Input.{Input}
use Rattle.vcd_model.specs.Items.{time_after}
use Rattle.vcd_model.specs.Cut.{is_mark_above}
use Rattle.vcd_model.specs.Outcome.{Opened, fault_in, items_in}
use Rattle.vcd_model.specs.Job.{Want, outcome}
use Rattle.vcd_model.specs.Declarations.{code_of}
use Rattle.vcd_model.specs.Header.{Header}
use Rattle.vcd_model.specs.Compare.{Asked, Extent, Named, Pair, Rule, Side, alone, differs, exactly, pairs, state_at, unlike}
use Rattle.vcd_model.specs.Within.{Names, alone_in, compared_in, side, comparison, outermost, turned, unlike_in, unselected, within}
use Rattle.vcd_laws.specs.KeptValues.{Opens}
use Rattle.vcd_laws.specs.Dumps.{AreReadable, input_of}
use Rattle.vcd_laws.specs.CompareMerged.{asked_within, both_inputs, side_of}

-- There are pairs, no variable without a counterpart, and no pair of different kinds. At each time
-- from the first to the last, whether a timestamp has it or not, the states of each pair match.
pub record AllMatch (rule : Rule) (a b : Side) (ps : List Pair) (alone : List Named)
    (different : List Pair) (from to : ℕ) : Type 0 where
  pub some : ps ≢ []
  pub none_alone : alone ≡ []
  pub none_different : different ≡ []
  pub states : (p : Pair) (t : ℕ) → Contains ps p → from ≤ t → t ≤ to
      → IsFalse (differs rule a b p t)

-- the comparison has reached its first time: the dump has no fault and does not end before it, or it
-- has a timestamp above the last time, and what follows does not matter
abbrev pub IsReached : Asked → Opened → Type 0
IsReached q o = ((fault_in o ≡ None) × (q.from ≤ time_after (items_in o)))
    ⊎ IsTrue (list_any (is_mark_above q.to) (items_in o))

-- The comparison of two parts of a dump has status 0 if and only if each name selects something, the
-- first time is reached, and all of both matches.
abbrev pub SuccessIsAMatch : Type 0
SuccessIsAMatch = (q : Asked) (limit : ℕ) (ns : List Names) (name : List ℕ) (input : Input)
    (o : Opened) → Opens limit input o
    → ((comparison q limit ns name input).status ≡ 0)
    ↔ ((unselected q o.header ns ≡ None) × IsReached q o
    × AllMatch q.rule (side (items_in o)) (side (items_in o)) (compared_in q o.header (outermost ns))
    (flat_map (λ n. alone_in q o.header n ++ alone_in q o.header (turned n)) (outermost ns))
    (unlike_in q o.header (outermost ns)) q.from q.to)

-- A comparison whose names all select something, and which reaches its first time, is `within` of
-- the outermost names.
abbrev pub ComparisonIsWithin : Type 0
ComparisonIsWithin = (q : Asked) (limit : ℕ) (ns : List Names) (name : List ℕ) (input : Input)
    (o : Opened) → Opens limit input o → unselected q o.header ns ≡ None → IsReached q o
    → comparison q limit ns name input ≡ within q limit (outermost ns) name input

-- The comparison of two inputs in what `merge` wrote, from one time to another, has status 0 if and
-- only if all of the inputs matches. Times are in ticks of both.
abbrev pub SucceedsOnMatch : Asked → ℕ → List ℕ → List (List ℕ) → List Input → Opened → Opened
    → Side → Side → Type 0
SucceedsOnMatch q limit name names inputs o p a b = (from to : ℕ)
    → ((within (asked_within q from to) limit both_inputs name
    (input_of (outcome Want.Merge limit names inputs).output)).status ≡ 0)
    ↔ AllMatch q.rule a b (pairs q o.header p.header)
    (alone q o.header p.header ++ alone q p.header o.header) (unlike q o.header p.header) from to

-- for two dumps that can be merged and read again, all whose variables are compared apart from
-- exceptions
abbrev pub MergedSuccessIsAMatch : Type 0
MergedSuccessIsAMatch = (q : Asked) (limit : ℕ) (name : List ℕ) (names : List (List ℕ))
    (inputs : List Input) (o p : Opened)
    → AreReadable limit names inputs (o ∷ p ∷ []) → q.names ≡ []
    → SucceedsOnMatch q limit name names inputs o p
    (side_of (o.header ∷ p.header ∷ []) o) (side_of (o.header ∷ p.header ∷ []) p)

-- what `vcdkit-compare` is asked for without options
abbrev pub without_options : Asked
without_options = record {
  names = [];
  exceptions = [];
  from = 0;
  to = 18446744073709551615;
  rule = exactly;
  extent = Extent.EachPair;
}

-- Two dumps have the same variables, which are of the same kinds, and at least one. Each has the same
-- state in both at every tick that a timestamp can have.
pub record AreTheSame (one other : Header) (a b : Side) : Type 0 where
  pub some : pairs without_options one other ≢ []
  pub none_alone : alone without_options one other ++ alone without_options other one ≡ []
  pub none_different : unlike without_options one other ≡ []
  pub states : (x : Pair) (t : ℕ) → Contains (pairs without_options one other) x
      → t ≤ 18446744073709551615
      → state_at a.scale a.items (code_of x.one) t ≡ state_at b.scale b.items (code_of x.other) t

-- The pipe `vcdkit merge A B | vcdkit-compare in1=in2` ends with status 0 if and only if the two
-- dumps are the same, provided that they can be merged and read again.
abbrev pub SuccessIsSameness : Type 0
SuccessIsSameness = (limit : ℕ) (name : List ℕ) (names : List (List ℕ)) (inputs : List Input)
    (o p : Opened) → AreReadable limit names inputs (o ∷ p ∷ [])
    → ((comparison without_options limit both_inputs name
    (input_of (outcome Want.Merge limit names inputs).output)).status ≡ 0)
    ↔ AreTheSame o.header p.header
    (side_of (o.header ∷ p.header ∷ []) o) (side_of (o.header ∷ p.header ∷ []) p)
