-- What a comparison keeps between two items.
use Rattle.std.specs.Prelude.{◌≡◌, ◌≢◌, ◌⊎◌, ℕ, zero, suc, ◌-◌, ◌/◌, ◌<◌, ◌≤◌, Bool, true, false, cond, not, ◌&&◌, ◌||◌, ◌==◌, nat_lt, List, [], ◌∷◌, ◌++◌, length, is_none, slice_get, slice_set, get_or, take, Option, Some, None, IfSome, Result, Ok}
use Rattle.std.specs.List.{list_any}
use Rattle.vcd_model.specs.Declarations.{IdCode, code_of}
use Rattle.vcd_model.specs.Header.{Header}
use Rattle.vcd_model.specs.Items.{BodyItem, marks, time_after}
use Rattle.vcd_model.specs.Compare.{Asked as ModelAsked, Extent, Pair, is_triggered, match}
use Rattle.vcd_model.specs.Cut.{is_mark_above}
use Rattle.vcd_model.specs.Within.{Names, within_open}
use Rattle.vcd_text.specs.declared.device.WriteFailed.{WriteFailed}
use Rattle.vcd_view.specs.Views.{IsViewOf}
use Rattle.vcd_view.specs.declared.view.Code.{Code}
use Rattle.vcd_view.specs.declared.view.HeadView.{HeadView}
use Rattle.vcd_body.specs.Current.{AreHeld}
use Rattle.vcd_body.specs.Given.{IsItem}
use Rattle.vcd_body.specs.Items.{AreRegsAfter, regs_after}
use Rattle.vcd_body.specs.Names.{IsLaidOut, codes_shown, value_in}
use Rattle.vcd_body.specs.Taken.{TakesItem}
use Rattle.vcd_body.specs.Walk.{Stage}
use Rattle.vcd_body.specs.declared.ahead.ScannedItem.{ScannedItem}
use Rattle.vcd_body.specs.declared.item.Item.{Item}
use Rattle.vcd_body.specs.declared.item.Regs.{Regs}
use Rattle.vcd_compare.specs.Asked.{model_asked, rule_of}
use Rattle.vcd_compare.specs.Touched.{IsListed, settled_as}
use Rattle.vcd_compare.specs.Lines.{DoNotFall, IsQuiet, codes_differ, flag_of, time_compared}
use Rattle.vcd_compare.specs.Pairs.{AreLinked, ArePairs, IsClassOf, codes_of}
use Rattle.vcd_compare.specs.declared.comparing.Comparison.{Comparison}
use Rattle.vcd_compare.specs.declared.current.Current.{Current}
use Rattle.vcd_compare.specs.declared.comparing.Watched.{Watched}
use Rattle.vcd_compare.specs.declared.pairs.End.{End}
use Rattle.vcd_compare.specs.declared.pairs.PairRow.{PairRow}
use Rattle.vcd_compare.specs.declared.pairs.Pairs.{Pairs}
use Rattle.vcd_compare.specs.Rows.{HaveRows, classes_of, is_flagged}
use Rattle.vcd_run.specs.Listed.{chosen}

-- ---- events

-- the last trigger was at the time
abbrev pub is_last : Option ℕ → ℕ → Bool
is_last None t = false
is_last (Some u) t = u == t

-- the last trigger of a code outside sections, if there was one, was at this time
pub record IsLastTrigger (items : List BodyItem) (c : IdCode) (o : Option ℕ) : Type 0 where
  pub low : IfSome o (λ u. u ≤ time_after items)
  pub is : (t : ℕ) → time_after items ≤ t → is_triggered 1 items c t ≡ is_last o t

-- these are the last triggers of the events
abbrev pub AreTriggers : List (Option ℕ) → Header → List BodyItem → Type 0
AreTriggers ts h items = (index : ℕ) (c : IdCode) → slice_get h.codes index ≡ Some c → c.event ≡ true → (o : Option ℕ) × (slice_get ts index ≡ Some o) × IsLastTrigger items c o

-- the last triggers after a change of a code, with these registers before it
abbrev pub triggers_with : Bool → Regs → ℕ → List (Option ℕ) → List (Option ℕ)
triggers_with event r code ts = cond (event && is_none r.section) (slice_set ts code (Some r.time)) ts

-- ---- flags

-- these are the flags of the classes
pub record AreFlags (ps : Pairs) (h : Header) (q : ModelAsked) (items : List BodyItem) (flags : List ℕ) : Type 0 where
  pub many : length flags ≡ ps.classes
  pub each : (class : ℕ) (p : Pair) → class < ps.classes → IsClassOf h ps.ends.items class p → get_or flags class 0 ≡ flag_of q items (code_of p.one) (code_of p.other)

-- the flag of a class by its mark: if it is touched, whether its codes differ
abbrev pub flag_by : ℕ → Bool → ℕ
flag_by mark differs = cond (mark == 1) (cond differs 1 0) mark

-- the marks of the classes tell their flags
pub record AreMarks (ps : Pairs) (h : Header) (q : ModelAsked) (items : List BodyItem) (marks : List ℕ) : Type 0 where
  pub many : length marks ≡ ps.classes
  pub each : (class : ℕ) (p : Pair) → class < ps.classes → IsClassOf h ps.ends.items class p
      → flag_of q items (code_of p.one) (code_of p.other) ≡ flag_by (get_or marks class 0) (codes_differ q.rule items (code_of p.one) (code_of p.other) (time_compared q items))

-- n is 1 plus the index of an end below a bound that has the code, or 0; all classes that have an
-- end with the code from there on, below the bound, had their only line
pub record IsEarlierEnd (ends : List End) (flags : List ℕ) (below code n : ℕ) : Type 0 where
  pub within : n ≤ below
  pub is : (i : ℕ) → n ≡ suc i → (e : End) × (slice_get ends i ≡ Some e) × (e.code ≡ code)
  pub none : (i : ℕ) (e : End) → n ≤ i → i < below → slice_get ends i ≡ Some e → e.code ≡ code → get_or flags (i / 2) 0 ≡ 2

-- from each end, less what is skipped, the next one of the same code is found
abbrev pub AreSkips : List End → (flags skips : List ℕ) → Type 0
AreSkips ends flags skips = (i : ℕ) (e : End) → slice_get ends i ≡ Some e → IsEarlierEnd ends flags i e.code (e.earlier - get_or skips i 0)

-- an end of the class has the code
abbrev pub IsOfCode : List End → (code class : ℕ) → Type 0
IsOfCode ends code class = (i : ℕ) × (e : End) × (slice_get ends i ≡ Some e) × (e.code ≡ code) × (i / 2 ≡ class)

-- Of the classes of a code those were touched that have an end from an index on, and no other; the
-- next end has the code too.
pub record AreTouched (ends : List End) (code low : ℕ) (old new : List ℕ) : Type 0 where
  pub many : length new ≡ length old
  pub within : low ≤ length ends
  pub next : (i : ℕ) (e : End) → low ≡ suc i → slice_get ends i ≡ Some e → e.code ≡ code
  pub each : (k : ℕ) → (get_or new k 0 ≡ get_or old k 0) ⊎ ((get_or old k 0 ≡ 0) × (get_or new k 0 ≡ 1) × IsOfCode ends code k)
  pub its : (i : ℕ) (e : End) → low ≤ i → slice_get ends i ≡ Some e → e.code ≡ code → i / 2 < length old → get_or new (i / 2) 0 ≢ 0

-- all classes of a code were touched, but those that are done, and the skips are right
abbrev pub Touches : Pairs → ℕ → (old new skips new_skips : List ℕ) → Type 0
Touches ps code old new skips new_skips = AreLinked ps.ends.items ps.last.items → code < length ps.last.items → AreSkips ps.ends.items old skips
    → AreTouched ps.ends.items code 0 old new × AreSkips ps.ends.items new new_skips

-- ---- states

-- the current states are those after these items
pub record AreCurrent (c : Current) (h : Header) (items : List BodyItem) : Type 0 where
  pub views : IsViewOf c.view h
  pub held : AreHeld c.table h items
  pub triggers : AreTriggers c.triggers.now h items

-- the event at an index was triggered last at this time
abbrev pub is_triggered_last : Current → (code at : ℕ) → Bool
is_triggered_last c code at = is_last (get_or c.triggers.now code None) at

-- the values of the codes at these indexes do not match
abbrev pub values_differ : Current → (one other : ℕ) → Bool
values_differ c one other = not (match (rule_of c.asked) (value_in (codes_shown c.view) c.table one) (value_in (codes_shown c.view) c.table other))

-- the states of these codes, which are declared so, do not match at this time
abbrev pub states_differ : Current → (at : ℕ) → ℕ × ℕ → (code its : Option Code) → Bool
states_differ c at both None its = false
states_differ c at both (Some code) None = false
states_differ c at both (Some code) (Some its) =
    cond code.event (cond (is_triggered_last c both.0 at) (not (is_triggered_last c both.1 at)) (is_triggered_last c both.1 at)) (values_differ c both.0 both.1)

-- the states of these two codes do not match, if there are two
abbrev pub both_differ : Current → (at : ℕ) → Option (ℕ × ℕ) → Bool
both_differ c at None = false
both_differ c at (Some both) = states_differ c at both (slice_get c.view.codes.now both.0) (slice_get c.view.codes.now both.1)

-- those of the two codes of a class do not match
unfoldable pub differs_now : Current → (class at : ℕ) → Bool
differs_now c class at = both_differ c at (codes_of c.pairs.now.ends.items class)

-- ---- all of it

-- after these items the comparison stands so, and goes on
pub record Compares (h : Header) (exceptions : List (List ℕ)) (ns : List Names) (items : List BodyItem) (c : Comparison) (w : Watched) : Type 0 where
  pub pairs : ArePairs c.current.pairs.now h (model_asked c.current.asked exceptions) ns
  pub current : AreCurrent c.current h items
  pub flags : AreMarks c.current.pairs.now h (model_asked c.current.asked exceptions) items c.touched.marks.now
  pub skips : AreSkips c.current.pairs.now.ends.items c.touched.marks.now c.skips.now
  pub at : w.at ≡ time_compared (model_asked c.current.asked exceptions) items
  pub up : DoNotFall 0 (marks items)
  pub quiet : (model_asked c.current.asked exceptions).extent ≡ Extent.First → IsQuiet (model_asked c.current.asked exceptions) h ns items
  pub on : list_any (is_mark_above c.current.asked.to) items ≡ false

-- the pairs and what is asked for stay
pub record SameRequest (c c' : Comparison) : Type 0 where
  pub pairs : c'.current.pairs.now ≡ c.current.pairs.now
  pub asked : c'.current.asked ≡ c.current.asked

-- it can go on: the classes that are touched and the rows of all are found
pub record CanGoOn (c : Comparison) : Type 0 where
  pub listed : IsListed c.touched
  pub laid : IsLaidOut c.current.table
  pub rows : HaveRows c.current.pairs.now.rows.items c.touched c.links c.due.now

-- some number below a bound passes
abbrev pub some_below : (ℕ → Bool) → ℕ → Bool
some_below f zero = false
some_below f (suc n) = some_below f n || f n

-- a class is touched, and its codes do not match at this time
abbrev pub differs_at : Comparison → (at class : ℕ) → Bool
differs_at c at class = (get_or c.touched.marks.now class 0 == 1) && differs_now c.current class at

-- so it is of some class
abbrev pub some_differ : Comparison → ℕ → Bool
some_differ c at = some_below (differs_at c at) (length c.touched.marks.now)

-- the flags at this time
pub record HasFlags (c : Comparison) (at : ℕ) (flags : List ℕ) : Type 0 where
  pub many : length flags ≡ length c.touched.marks.now
  pub each : (k : ℕ) → get_or flags k 0 ≡ flag_by (get_or c.touched.marks.now k 0) (differs_now c.current k at)

-- only those classes are touched still that differ at this time
pub record Drops (at : ℕ) (c c' : Comparison) : Type 0 where
  pub rest : c' ≡ record c { touched = c'.touched }
  pub ready : CanGoOn c'
  pub flags : HasFlags c at c'.touched.marks.now

-- the rows whose flag is 1 are due, in order, and those marks became another number; no class is
-- touched any more
pub record Settles (at after : ℕ) (c c' : Comparison) (count : ℕ) : Type 0 where
  pub current : c'.current ≡ c.current
  pub skips : c'.skips.now ≡ c.skips.now
  pub flags : List ℕ
  pub has : HasFlags c at flags
  pub many : length c'.touched.marks.now ≡ length c.touched.marks.now
  pub each : (k : ℕ) → get_or c'.touched.marks.now k 0 ≡ settled_as after (get_or flags k 0)
  pub within : count ≤ length c'.due.now
  pub due : let rows : List PairRow = c.current.pairs.now.rows.items in take count c'.due.now ≡ chosen (is_flagged flags (classes_of rows)) (length rows)

-- a timestamp of this time ends the run, or settles lines that are due
abbrev pub stops_before : Watched → Comparison → ℕ → Bool
stops_before w c time = nat_lt c.current.asked.to time || (nat_lt w.at time && some_differ c w.at)

-- with one more item nothing is due, and the comparison stands after it
abbrev pub ComparesOn : HeadView → List ℕ → Item → Regs → (c c' : Comparison) → (w w' : Watched) → Type 0
ComparesOn v text item r c c' w w' = (h : Header) (exceptions : List (List ℕ)) (ns : List Names) (items : List BodyItem) (x : BodyItem)
    → IsViewOf v h → IsItem h.codes text item x → AreRegsAfter items r → AreRegsAfter (items ++ x ∷ []) (regs_after r item)
    → Compares h exceptions ns items c w
    → Compares h exceptions ns (items ++ x ∷ []) c' w'
    × (within_open (model_asked c.current.asked exceptions) h ns (items ++ x ∷ []) ≡ within_open (model_asked c.current.asked exceptions) h ns items)

-- one more item was taken ahead, with which nothing is due
pub record ComparesOne (v : HeadView) (s t : Stage Watched Comparison) (result : Result (Unit {0}) WriteFailed) : Type 0 where
  pub scanned : ScannedItem
  pub item : TakesItem v s.ahead t.ahead s.regs scanned
  pub done : result ≡ Ok tt
  pub out : t.out ≡ s.out
  pub regs : t.regs ≡ regs_after s.regs scanned.item
  pub same : SameRequest s.command t.command
  pub on : ComparesOn v scanned.text.now scanned.item s.regs s.command t.command s.visit t.visit
