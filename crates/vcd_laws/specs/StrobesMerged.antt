-- Two strobes in what `merge` wrote compared with each other: numbers of edges in place of times.
use Rattle.std.specs.Prelude.{◌≡◌, ◌≢◌, ◌↔◌, ℕ, suc, min, ◌≤◌, IsTrue, cond, List, [], ◌∷◌, ◌++◌, length, codes, Contains, Option, None, Some, slice_get}
use Rattle.vcd_model.specs.Declarations.{IdCode, code_of, same_code}
use Rattle.vcd_model.specs.Header.{Header}
use Rattle.vcd_model.specs.Items.{BodyItem, time_after}
use Rattle.vcd_model.specs.Values.{Value}
use Rattle.vcd_model.specs.Outcome.{Opened, items_in}
use Rattle.vcd_model.specs.Job.{Want, outcome}
use Rattle.vcd_model.specs.Compare.{Asked, Pair, alone, match, pairs, rule_for, unlike}
use Rattle.vcd_model.specs.Within.{within}
use Rattle.vcd_model.specs.Strobe.{Clock, Strobe, binary, clocks_of, edges_in, is_triggered, last_time, sampled, time_code}
use Rattle.vcd_laws.specs.Dumps.{AreReadable, input_of}
use Rattle.vcd_laws.specs.CompareMerged.{asked_within, both_inputs}
use Rattle.vcd_laws.specs.Strobes.{IsStrobeDump, edges_before}

-- a dump with the clocks of a strobe
pub record Clocked : Type 0 where
  pub clocks : List Clock
  pub header : Header
  pub items : List BodyItem

-- an input with the clocks of a strobe
abbrev pub clocked : Strobe → Opened → Clocked
clocked q o = record {
  clocks = clocks_of o.header q.clocks;
  header = o.header;
  items = items_in o;
}

abbrev pub edges_of : Clocked → List (List BodyItem)
edges_of d = edges_in d.clocks d.items

-- what a code of a strobe has at an edge with this number, counted from 0: the code of the time has
-- the edge's time, an event 1 if it was triggered since the edge before, and any other code its value
-- just before the edge
abbrev pub state_before : Clocked → ℕ → List BodyItem → IdCode → Option Value
state_before d k edge c =
    cond (same_code c (time_code d.header)) (Some (Value.Bits (binary 64 (time_after edge))))
    (cond c.event
    (cond (is_triggered edge c (last_time (edges_before d.clocks d.items k)) (time_after edge))
    (Some (Value.Bits (codes "1"))) None) (sampled edge c))

-- the comparison of the two inputs in what `merge` wrote of two strobes: numbers of edges from 1, up
-- to the lesser number of edges
abbrev pub asked_of_strobes : Asked → Clocked → Clocked → Asked
asked_of_strobes q a b =
    asked_within q q.from (min q.to (min (length (edges_of a)) (length (edges_of b))))

-- There are pairs, no variable without a counterpart, and no pair of different kinds. At each edge
-- from the first to the last that is asked for, and that both have, the states of each pair match.
pub record EdgesMatch (q : Asked) (a b : Clocked) (one other : Header) : Type 0 where
  pub some : pairs q one other ≢ []
  pub none_alone : alone q one other ++ alone q other one ≡ []
  pub none_different : unlike q one other ≡ []
  pub states : (x : Pair) (k : ℕ) (e f : List BodyItem) → Contains (pairs q one other) x
      → slice_get (edges_of a) k ≡ Some e → slice_get (edges_of b) k ≡ Some f
      → q.from ≤ suc k → suc k ≤ q.to
      → IsTrue (match (rule_for q.rule x.one) (state_before a k e (code_of x.one))
      (state_before b k f (code_of x.other)))

-- The comparison of two strobes in what `merge` wrote has status 0 if and only if, at each edge that
-- both have, what their inputs have just before it matches. They can be merged and read again, and
-- all their variables are compared apart from exceptions, which may select that of the time.
abbrev pub StrobeSuccessIsAMatch : Type 0
StrobeSuccessIsAMatch = (q : Asked) (limit : ℕ) (name : List ℕ) (names : List (List ℕ))
    (s r : Strobe) (o p : Opened) (text other : List ℕ)
    (one : IsStrobeDump limit s o text) (two : IsStrobeDump limit r p other)
    → AreReadable limit names (input_of text ∷ input_of other ∷ []) (one.dump ∷ two.dump ∷ [])
    → q.names ≡ []
    → ((within (asked_of_strobes q (clocked s o) (clocked r p)) limit both_inputs name
    (input_of (outcome Want.Merge limit names
    (input_of text ∷ input_of other ∷ [])).output)).status ≡ 0)
    ↔ EdgesMatch q (clocked s o) (clocked r p) one.dump.header two.dump.header
