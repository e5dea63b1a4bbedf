-- What the functions that write lines are about.
use Rattle.std.specs.Prelude.{◌≡◌, ℕ, ◌≤◌, ◌==◌, cond, List, [], ◌∷◌, flat_map, get_or, slice_get, Option, Some, None}
use Rattle.std.specs.List.{AllZip}
use Rattle.vcd_model.specs.Declarations.{IdCode, code_of}
use Rattle.vcd_model.specs.HeadText.{words}
use Rattle.vcd_model.specs.Header.{Header}
use Rattle.vcd_model.specs.Items.{BodyItem, time_after}
use Rattle.vcd_model.specs.Compare.{Named, Pair, state_at, value_line}
use Rattle.vcd_model.specs.Sample.{shown}
use Rattle.vcd_model.specs.Within.{side}
use Rattle.vcd_view.specs.Views.{IsViewOf}
use Rattle.vcd_view.specs.declared.view.HeadView.{HeadView}
use Rattle.vcd_compare.specs.Comparing.{AreCurrent}
use Rattle.vcd_compare.specs.Pairs.{IsClassOf, IsNamedAt, IsPairAt, IsUnlikeAt}
use Rattle.vcd_compare.specs.declared.current.Current.{Current}
use Rattle.vcd_compare.specs.declared.pairs.PairRow.{PairRow}
use Rattle.vcd_compare.specs.declared.pairs.UnlikeRows.{UnlikeRows}

-- it holds of the code at an index, if the current states are those after some items, and the time
-- is not before the last timestamp
abbrev pub AtCode : HeadView → Current → (code time : ℕ) → (List BodyItem → IdCode → Type 0) → Type 0
AtCode v current code time holds = (h : Header) (items : List BodyItem) (c : IdCode) → IsViewOf v h → AreCurrent current h items
    → slice_get h.codes code ≡ Some c → time_after items ≤ time → holds items c

-- the two indexes are those of the codes of the pair
abbrev pub HasCodes : Header → ℕ × ℕ → Pair → Type 0
HasCodes h codes p = (slice_get h.codes codes.0 ≡ Some (code_of p.one)) × (slice_get h.codes codes.1 ≡ Some (code_of p.other))

-- both states of a pair at a time, which end its line
abbrev pub states_of : List BodyItem → Pair → ℕ → List ℕ
states_of items p t = words (shown (state_at 1 items (code_of p.one) t) ∷ shown (state_at 1 items (code_of p.other) t) ∷ [])

-- it holds for the pair of this class
abbrev pub AtClass : HeadView → Current → (class time : ℕ) → (List BodyItem → Pair → Type 0) → Type 0
AtClass v current class time holds = (h : Header) (items : List BodyItem) (p : Pair) → IsViewOf v h → AreCurrent current h items
    → IsClassOf h current.pairs.now.ends.items class p → time_after items ≤ time → holds items p

-- it holds for the pair of this row
abbrev pub AtPair : HeadView → Current → PairRow → ℕ → (List BodyItem → Pair → Type 0) → Type 0
AtPair v current row time holds = (h : Header) (items : List BodyItem) (p : Pair) → IsViewOf v h → AreCurrent current h items
    → IsPairAt h current.pairs.now.ends.items row p → time_after items ≤ time → holds items p

-- it holds for the variable of this row
abbrev pub AtAlone : HeadView → ℕ → (Named → Type 0) → Type 0
AtAlone v row holds = (h : Header) (n : Named) → IsViewOf v h → IsNamedAt h row n → holds n

-- it holds of the two variables of these rows
abbrev pub AtUnlike : HeadView → UnlikeRows → (Pair → Type 0) → Type 0
AtUnlike v rows holds = (h : Header) (p : Pair) → IsViewOf v h → IsUnlikeAt h rows p → holds p

-- the line of a pair, if there is one
abbrev pub line_at : List BodyItem → ℕ → Option Pair → List ℕ
line_at items time None = []
line_at items time (Some p) = value_line (side items) (side items) p time

-- it takes the lines of the pairs in these rows
abbrev pub AreRowLines : HeadView → Current → List ℕ → ℕ → (List ℕ → Type 0) → Type 0
AreRowLines v current rows time takes = (h : Header) (items : List BodyItem) (ps : List Pair) → IsViewOf v h → AreCurrent current h items → time_after items ≤ time
    → AllZip (IsPairAt h current.pairs.now.ends.items) current.pairs.now.rows.items ps → takes (flat_map (λ row. line_at items time (slice_get ps row)) rows)

-- it takes the line of each pair whose class has the flag 1
abbrev pub ArePairLines : HeadView → Current → List ℕ → ℕ → (List ℕ → Type 0) → Type 0
ArePairLines v current flags time takes = (h : Header) (items : List BodyItem) (ps : List Pair) (flag : Pair → ℕ) → IsViewOf v h → AreCurrent current h items → time_after items ≤ time
    → AllZip (λ row p. IsPairAt h current.pairs.now.ends.items row p × (get_or flags row.class 0 ≡ flag p)) current.pairs.now.rows.items ps
    → takes (flat_map (λ p. cond (flag p == 1) (value_line (side items) (side items) p time) []) ps)
