-- Two parts of one dump compared, such as the two inputs in what `merge` writes (profile).
use Rattle.std.specs.Prelude.{ℕ, Bool, true, false, not, cond, ◌&&◌, ◌||◌, nat_le, nat_lt, is_none, bytes_eq, List, [], ◌∷◌, ◌++◌, length, decimal, drop, flat_map, filter, filter_map, find, codes, Option, Some, None, option_map, Ok, Err}
use Rattle.std.specs.List.{list_any}
use Rattle.vcd_model.specs.Backward.{each_some}
use Rattle.vcd_model.specs.Input.{Input}
use Rattle.vcd_model.specs.Header.{Header}
use Rattle.vcd_model.specs.Items.{BodyItem, marks, time_after}
use Rattle.vcd_model.specs.Selection.{selects_path}
use Rattle.vcd_model.specs.Cut.{is_mark_above}
use Rattle.vcd_model.specs.Sample.{is_settled}
use Rattle.vcd_model.specs.Outcome.{Opened, Outcome, fault_in, items_in, open_from}
use Rattle.vcd_model.specs.Compare.{Asked, Named, Pair, Side, all_named, alone_lines, answer, counterpart, ends_with, fault_after, in_order, is_fit, is_left_in, lines_at, name_in, unlike_lines}

-- two names: of a variable and of what it is compared with, or of two scopes whose variables are
-- compared
abbrev pub Names : Type 0
Names = List ℕ × List ℕ

-- what follows the name in a path that it selects
abbrev pub rest_of : List ℕ → List ℕ → Option (List ℕ)
rest_of name path = cond (selects_path path name) (Some (drop (length name) path)) None

-- what a variable is compared with, at this path
abbrev pub at_path : Header → List ℕ → Named → Option Named
at_path h path v = counterpart (all_named h) (all_named h) path v

-- the variables that the first name selects, each with the one whose path has the second name in
-- place of the first
abbrev pub places_of : Asked → Header → Names → List (Named × Option Named)
places_of q h n = filter_map (λ v. option_map (λ r. (v, at_path h (n.1 ++ r) v)) (rest_of n.0 v.path))
    (filter (λ v. is_left_in q v.path) (all_named h))

-- a variable that is not the only one of the two
abbrev pub pair_at : Header → Named × Option Named → Option Pair
pair_at h p = option_map (λ w. record { path = name_in h p.0; one = p.0.variable; other = w.variable }) p.1

-- all pairs, in the order of the names, and of each in that of declaration
abbrev pub pairs_in : Asked → Header → List Names → List Pair
pairs_in q h ns = flat_map (λ n. filter_map (pair_at h) (places_of q h n)) ns

-- the pairs whose values are compared
abbrev pub compared_in : Asked → Header → List Names → List Pair
compared_in q h ns = filter is_fit (pairs_in q h ns)

-- those of different kinds
abbrev pub unlike_in : Asked → Header → List Names → List Pair
unlike_in q h ns = filter (λ p. not (is_fit p)) (pairs_in q h ns)

-- the variables that the first name selects and that have no counterpart
abbrev pub alone_in : Asked → Header → Names → List Named
alone_in q h n = filter_map (λ p. cond (is_none p.1) (Some p.0) None) (places_of q h n)

-- the same names, the second one first
abbrev pub turned : Names → Names
turned n = (n.1, n.0)

-- the lines about the header: due before any other
unfoldable pub within_head : Asked → Header → List Names → List ℕ
within_head q h ns =
    flat_map (λ n. alone_lines (codes "A") (alone_in q h n)) ns
    ++ flat_map (λ n. alone_lines (codes "B") (alone_in q h (turned n))) ns
    ++ unlike_lines (unlike_in q h ns)

-- the times that are asked for: the first one, and each that a timestamp has
abbrev pub times_in : Asked → List BodyItem → List ℕ
times_in q items = filter (λ t. nat_le q.from t && nat_le t q.to) (in_order (q.from ∷ marks items))

-- the dump, as both sides
abbrev pub side : List BodyItem → Side
side items = record { scale = 1; items = items; whole = true }

-- the lines of values at those of the times that pass a test
abbrev pub lines_where : Asked → Header → List Names → List BodyItem → (ℕ → Bool) → List ℕ
lines_where q h ns items test =
    let ts = times_in q items in
    flat_map (lines_at q (compared_in q h ns) (side items) (side items) ts) (filter test ts)

-- what is written once these items were read: the lines of the times that are settled
unfoldable pub within_open : Asked → Header → List Names → List BodyItem → List ℕ
within_open q h ns items = within_head q h ns ++ lines_where q h ns items (is_settled items)

-- what follows at a clean end: the lines of the other times
unfoldable pub within_close : Asked → Header → List Names → List BodyItem → List ℕ
within_close q h ns items = lines_where q h ns items (λ t. not (is_settled items t))

-- these items end the run: a timestamp after the last time, or lines of values if only the first
-- ones are asked for
abbrev pub ends_run : Asked → Header → List Names → List BodyItem → Bool
ends_run q h ns items = list_any (is_mark_above q.to) items || ends_with q.extent (lines_where q h ns items (is_settled items))

-- what the lines are about, and that they are all
abbrev pub answer_in : Asked → Header → List Names → List ℕ → Outcome
answer_in q h ns lines = answer (length (compared_in q h ns)) lines

-- The outcome of a dump whose header is read. No item after those that end a run adds a line at a
-- settled time, or takes one away.
unfoldable pub within_dump : Asked → List Names → List ℕ → Opened → Outcome
within_dump q ns name o =
    let h = o.header in
    let items = items_in o in
    cond (ends_run q h ns items) (answer_in q h ns (within_open q h ns items))
    (elim (fault_in o) [
      | Some f ↦ fault_after (within_open q h ns items) name f
      | None ↦ answer_in q h ns (within_open q h ns items ++ within_close q h ns items)
    ])

-- the outcome of an input with this name
unfoldable pub within : Asked → ℕ → List Names → List ℕ → Input → Outcome
within q limit ns name input =
    elim (open_from limit [] (input ∷ [])) [
      | Ok os ↦ over os
      | Err e ↦ fault_after [] name e.1
    ]
  where
    over : List Opened → Outcome
    over [] = answer 0 []
    over (o ∷ os) = within_dump q ns name o

-- ---- what is asked for twice, and what is refused

-- all that the other two names select these select too, as parts of the same pairs: the same follows
-- both
abbrev pub covers : Names → Names → Bool
covers m n = elim (rest_of m.0 n.0) [ Some r ↦ bytes_eq n.1 (m.1 ++ r) | None ↦ false ]

-- two names that have these before them, unless others of all cover them: of equal ones the first
abbrev pub if_outermost : List Names → List Names → Names → Option Names
if_outermost all earlier n = cond (list_any (λ m. covers m n) earlier || list_any (λ m. covers m n && not (covers n m)) all) None (Some n)

-- the names that select each pair once
unfoldable pub outermost : List Names → List Names
outermost ns = each_some (if_outermost ns) ns

-- the name selects a variable
abbrev pub selects_some : Header → List ℕ → Bool
selects_some h name = list_any (λ v. selects_path v.path name) (all_named h)

-- the first of all names that selects nothing, otherwise the first such exception
abbrev pub unselected : Asked → Header → List Names → Option (List ℕ)
unselected q h ns = find (λ name. not (selects_some h name)) (flat_map (λ n. n.0 ∷ n.1 ∷ []) ns ++ q.exceptions)

-- a name that selects nothing
abbrev pub refused : List ℕ → Outcome
refused name = record { output = []; message = name ++ codes ": selects nothing"; status = 2 }

-- the first time is after the end of the dump: these lines, but not how many pairs were compared
abbrev pub late : (from last : ℕ) → List ℕ → Outcome
late from last lines = record { output = lines; message = codes "--from: " ++ decimal from ++ codes " is after the end of the dump, " ++ decimal last; status = 2 }

-- a dump with these items that has ended well
abbrev pub at_end : Asked → Header → List Names → List BodyItem → List ℕ → Outcome
at_end q h ns items lines = let last = time_after items in cond (nat_lt last q.from) (late q.from last lines) (answer_in q h ns lines)

-- `within_dump`, unless the first time is after the end
unfoldable pub from_dump : Asked → List Names → List ℕ → Opened → Outcome
from_dump q ns name o =
    let h = o.header in
    let items = items_in o in
    cond (ends_run q h ns items) (answer_in q h ns (within_open q h ns items))
    (elim (fault_in o) [
      | Some f ↦ fault_after (within_open q h ns items) name f
      | None ↦ at_end q h ns items (within_open q h ns items ++ within_close q h ns items)
    ])

-- `within` of the outermost names, unless a name selects nothing, or the first time is after the end:
-- what the program gives
unfoldable pub comparison : Asked → ℕ → List Names → List ℕ → Input → Outcome
comparison q limit ns name input =
    elim (open_from limit [] (input ∷ [])) [
      | Ok os ↦ over os
      | Err e ↦ fault_after [] name e.1
    ]
  where
    over : List Opened → Outcome
    over [] = answer 0 []
    over (o ∷ os) = elim (unselected q o.header ns) [ Some one ↦ refused one | None ↦ from_dump q (outermost ns) name o ]
