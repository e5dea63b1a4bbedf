-- `compare`: where the values of two dumps differ, and what only one of them has (profile).
use Rattle.std.specs.Prelude.{ℕ, ◌*◌, ◌/◌, Bool, true, false, not, cond, ◌&&◌, ◌||◌, ◌==◌, nat_eq, nat_lt, nat_le, is_none, is_some, List, [], ◌∷◌, ◌++◌, length, map, flat_map, filter, find, filter_map, count_by, decimal, drop, codes, bytes_eq, Option, Some, None, option_map, Ok, Err}
use Rattle.std.specs.List.{join_with_byte, list_any, starts_with}
use Rattle.vcd_model.specs.Bytes.{is_empty}
use Rattle.vcd_model.specs.Backward.{each}
use Rattle.vcd_model.specs.Input.{Input}
use Rattle.vcd_model.specs.Declarations.{IdCode, Variable, code_of, first_token}
use Rattle.vcd_model.specs.Header.{Header}
use Rattle.vcd_model.specs.HeadText.{words}
use Rattle.vcd_model.specs.Scales.{scale_text}
use Rattle.vcd_model.specs.Items.{BodyItem, entries, marks, time_after}
use Rattle.vcd_model.specs.Reading.{Fault}
use Rattle.vcd_model.specs.ItemText.{last_mark}
use Rattle.vcd_model.specs.Values.{Value}
use Rattle.vcd_model.specs.History.{gives_to, last_value}
use Rattle.vcd_model.specs.Selection.{Selected, selected, selects_path}
use Rattle.vcd_model.specs.Sample.{shown}
use Rattle.vcd_model.specs.Merge.{Dump, KeyedFault, dump_of, factor, first_fault, key_after, key_lt}
use Rattle.vcd_model.specs.Outcome.{Opened, Outcome, body_of, fault_in, fault_outcome, name_at, open_from}

-- ---- what is asked for

-- which lines of values are due: those of the first time that has one, those of the first time of
-- each pair, or those of each time at which a pair differs and one of its two has a change
pub data Extent : Type 0 where
  First : Extent
  EachPair : Extent
  Always : Extent

-- Which values match although they are not the same. If an x of the one dump, or of the other,
-- matches every digit, a variable of it that has no value yet matches too. Texts of real numbers
-- match if the test says so.
pub record Rule : Type 0 where
  pub x_of_one : Bool
  pub x_of_other : Bool
  pub same_real : List ℕ → List ℕ → Bool

-- the names that select what is compared (without any, all is), those of what is left out, and the
-- first and the last time at which values are compared, in ticks of the first dump
pub record Asked : Type 0 where
  pub names : List (List ℕ)
  pub exceptions : List (List ℕ)
  pub from : ℕ
  pub to : ℕ
  pub rule : Rule
  pub extent : Extent

-- ---- which variables are compared

-- the range of a variable, such as `[7:0]`: what follows its name, without the blanks
abbrev pub range_of : Variable → List ℕ
range_of v = filter (λ b. not (b == 32)) (drop (length (first_token v.reference)) (join_with_byte 32 v.reference))

-- a variable with its path, and how many before it have the same path and the same range: several
-- variables may share both
pub record Named : Type 0 where
  pub path : List ℕ
  pub nth : ℕ
  pub variable : Variable

-- the same path and the same range
abbrev pub is_alike : Selected → Selected → Bool
is_alike s u = bytes_eq u.path s.path && bytes_eq (range_of u.variable) (range_of s.variable)

-- a variable that has these before it
abbrev pub named_after : List Selected → Selected → Named
named_after earlier s = record {
  path = s.path;
  nth = count_by (is_alike s) earlier;
  variable = s.variable;
}

-- all variables, in order
abbrev pub all_named : Header → List Named
all_named h = each named_after (selected [] h.declarations)

-- no exception selects the path
abbrev pub is_left_in : Asked → List ℕ → Bool
is_left_in q path = not (list_any (selects_path path) q.exceptions)

-- the path is compared
abbrev pub is_asked : Asked → List ℕ → Bool
is_asked q path = (is_empty q.names || list_any (selects_path path) q.names) && is_left_in q path

-- the variables that are compared, in order
abbrev pub named : Asked → Header → List Named
named q h = filter (λ v. is_asked q v.path) (all_named h)

-- the same range, and equally many before it with its path and its range
abbrev pub same_place : Named → Named → Bool
same_place v w = bytes_eq (range_of w.variable) (range_of v.variable) && w.nth == v.nth

-- the element of a list that has no other
abbrev pub the_only : List Named → Option Named
the_only [] = None
the_only (v ∷ []) = Some v
the_only (v ∷ w ∷ vs) = None

-- the only one of these variables that has this path
abbrev pub only_at : List Named → List ℕ → Option Named
only_at vs path = the_only (filter (λ w. bytes_eq w.path path) vs)

-- one of the two has no range
abbrev pub lacks_range : Named → Named → Bool
lacks_range v w = is_empty (range_of v.variable) || is_empty (range_of w.variable)

-- one variable, if the other is the only one of its path, and one of the two has no range
abbrev pub lone : Option Named → Named → Option Named → Option Named
lone own v None = None
lone own v (Some w) = cond (is_some own && lacks_range v w) (Some w) None

-- the first of two that is there
abbrev pub first_of : Option Named → Option Named → Option Named
first_of (Some v) other = Some v
first_of None other = other

-- What a variable of some is compared with: among others, the variable of this path that has the
-- same range and as many of both before it. If there is none, but each of the two paths is that of
-- only one variable, then it is this one, unless both have a range.
abbrev pub counterpart : (ones others : List Named) → List ℕ → Named → Option Named
counterpart ones others path v = first_of (find (λ w. bytes_eq w.path path && same_place v w) others) (lone (only_at ones v.path) v (only_at others path))

-- the variable of the other dump that this one is compared with
abbrev pub partner : Header → Header → Named → Option Named
partner one other v = counterpart (all_named one) (all_named other) v.path v

-- the path and the range
abbrev pub full_name : Named → List ℕ
full_name v = v.path ++ range_of v.variable

-- how lines name a variable: by its path, and by its range too if another one has the path
abbrev pub name_in : Header → Named → List ℕ
name_in h v = cond (is_some (only_at (all_named h) v.path)) v.path (full_name v)

-- what two variables need to have in common: a real number may be declared with any size
pub data Kind : Type 0 where
  Event : Kind
  Real : Kind
  Digits : (size : ℕ) → Kind

-- the kind of a variable: it is a real number if its type begins with `real` or is `shortreal`
abbrev pub kind_of : Variable → Kind
kind_of v =
    cond (bytes_eq v.type (codes "event")) Event
    (cond (starts_with nat_eq v.type (codes "real") || bytes_eq v.type (codes "shortreal")) Real
    (Digits v.size))

-- the two are of one kind
abbrev pub same_kind : Kind → Kind → Bool
same_kind Event Event = true
same_kind Real Real = true
same_kind (Digits m) (Digits n) = m == n
same_kind Event Real = false
same_kind Event (Digits n) = false
same_kind Real Event = false
same_kind Real (Digits n) = false
same_kind (Digits m) Event = false
same_kind (Digits m) Real = false

-- a variable of the one dump with the name that lines give it, and its partner in the other
pub record Pair : Type 0 where
  pub path : List ℕ
  pub one : Variable
  pub other : Variable

-- a variable with its partner
abbrev pub pair_of : Header → Header → Named → Option Pair
pair_of one other v = option_map (λ w. record { path = name_in one v; one = v.variable; other = w.variable }) (partner one other v)

-- all variables that both have, in the order of the one
abbrev pub in_common : Asked → Header → Header → List Pair
in_common q one other = filter_map (pair_of one other) (named q one)

-- the two are of one kind
abbrev pub is_fit : Pair → Bool
is_fit p = same_kind (kind_of p.one) (kind_of p.other)

-- those whose values are compared
unfoldable pub pairs : Asked → Header → Header → List Pair
pairs q one other = filter is_fit (in_common q one other)

-- those of different kinds
unfoldable pub unlike : Asked → Header → Header → List Pair
unlike q one other = filter (λ p. not (is_fit p)) (in_common q one other)

-- the variables of the one that the other does not have
unfoldable pub alone : Asked → Header → Header → List Named
alone q one other = filter (λ v. is_none (partner one other v)) (named q one)

-- ---- values that match

-- an x, if it matches every digit
abbrev pub is_loose : Bool → ℕ → Bool
is_loose may d = may && d == 120

-- a digit of the one and a digit of the other
abbrev pub digits_match : Rule → ℕ → ℕ → Bool
digits_match r a b = a == b || is_loose r.x_of_one a || is_loose r.x_of_other b

-- as many digits, and each matches
abbrev pub all_match : Rule → List ℕ → List ℕ → Bool
all_match r [] [] = true
all_match r (d ∷ ds) (e ∷ es) = digits_match r d e && all_match r ds es
all_match r [] (e ∷ es) = false
all_match r (d ∷ ds) [] = false

-- two values, digits at the size of their variables
abbrev pub values_match : Rule → Value → Value → Bool
values_match r (Value.Bits a) (Value.Bits b) = all_match r a b
values_match r (Value.Real a) (Value.Real b) = bytes_eq a b || r.same_real a b
values_match r (Value.Bits a) (Value.Real b) = false
values_match r (Value.Real a) (Value.Bits b) = false

-- two values that may not be there yet
abbrev pub match : Rule → Option Value → Option Value → Bool
match r (Some v) (Some w) = values_match r v w
match r None (Some w) = r.x_of_one
match r (Some v) None = r.x_of_other
match r None None = true

-- only the same value matches
abbrev pub exactly : Rule
exactly = record { x_of_one = false; x_of_other = false; same_real = bytes_eq }

-- ---- the state of a variable at a time, in ticks of both dumps: k of them are one tick of its own

-- the event is triggered at the time, outside sections
abbrev pub is_triggered : ℕ → List BodyItem → IdCode → ℕ → Bool
is_triggered k items code t =
    list_any (λ e. gives_to code e.item && not e.inside && k * e.time == t) (entries items)

-- the value after all changes up to the time; of an event, 1 if it is triggered at the time
abbrev pub state_at : ℕ → List BodyItem → IdCode → ℕ → Option Value
state_at k items code t =
    cond code.event
    (cond (is_triggered k items code t) (Some (Value.Bits (codes "1"))) None)
    (last_value code (λ u. nat_le (k * u) t) items)

-- a dump: how many ticks of both its tick is, its items, and whether they are all
pub record Side : Type 0 where
  pub scale : ℕ
  pub items : List BodyItem
  pub whole : Bool

-- no rule is about events
abbrev pub rule_for : Rule → Variable → Rule
rule_for r v = cond (code_of v).event exactly r

-- the states of a pair at a time do not match
abbrev pub differs : Rule → Side → Side → Pair → ℕ → Bool
differs r a b p t = not (match (rule_for r p.one)
    (state_at a.scale a.items (code_of p.one) t) (state_at b.scale b.items (code_of p.other) t))

-- ---- the times of a comparison

-- a list that increases, with this time in its place, once
abbrev pub with_time : ℕ → List ℕ → List ℕ
with_time t [] = t ∷ []
with_time t (u ∷ us) = cond (t == u) (u ∷ us) (cond (nat_lt t u) (t ∷ u ∷ us) (u ∷ with_time t us))

-- times in increasing order, each once
abbrev pub in_order : List ℕ → List ℕ
in_order [] = []
in_order (t ∷ ts) = with_time t (in_order ts)

-- the timestamps of a dump
abbrev pub marks_of : Side → List ℕ
marks_of s = map (λ t. s.scale * t) (marks s.items)

-- the dump has come past the time: a timestamp is after it, or the dump ends at it or later
abbrev pub is_past : Side → ℕ → Bool
is_past s t = list_any (nat_lt t) (marks_of s) || s.whole && nat_le t (s.scale * time_after s.items)

-- The times at which values are compared: from the first one that is asked for on, each that a
-- timestamp has, as long as both dumps have come past it. Between two of them no value changes.
unfoldable pub times : Asked → Side → Side → List ℕ
times q a b =
    filter (λ t. nat_le (a.scale * q.from) t && nat_le t (a.scale * q.to) && is_past a t && is_past b t)
    (in_order (a.scale * q.from ∷ marks_of a ++ marks_of b))

-- a change of the code at the time
abbrev pub changes_at : Side → IdCode → ℕ → Bool
changes_at s code t = list_any (λ e. gives_to code e.item && s.scale * e.time == t) (entries s.items)

-- ---- the lines

-- the line of a pair at a time: the time in ticks of the one dump, rounded down, the name, and both
-- states
abbrev pub value_line : Side → Side → Pair → ℕ → List ℕ
value_line a b p t = words (codes "differs" ∷ decimal (t / a.scale) ∷ p.path
    ∷ shown (state_at a.scale a.items (code_of p.one) t)
    ∷ shown (state_at b.scale b.items (code_of p.other) t) ∷ [])

-- a pair has a line at a time, of these times
abbrev pub is_due : Asked → Side → Side → List Pair → List ℕ → ℕ → Pair → Bool
is_due q a b ps ts t p = differs q.rule a b p t && elim q.extent [
  | First ↦ not (list_any (λ u. nat_lt u t && list_any (λ o. differs q.rule a b o u) ps) ts)
  | EachPair ↦ not (list_any (λ u. nat_lt u t && differs q.rule a b p u) ts)
  | Always ↦ t == a.scale * q.from || changes_at a (code_of p.one) t || changes_at b (code_of p.other) t
]

-- the lines at a time, of these times, in the order of the pairs
abbrev pub lines_at : Asked → List Pair → Side → Side → List ℕ → ℕ → List ℕ
lines_at q ps a b ts t = flat_map (λ p. cond (is_due q a b ps ts t p) (value_line a b p t) []) ps

-- the lines of values, by time
unfoldable pub value_lines : Asked → List Pair → Side → Side → List ℕ
value_lines q ps a b = let ts = times q a b in flat_map (lines_at q ps a b ts) ts

-- how a time scale is shown
abbrev pub scale_shown : Header → List ℕ
scale_shown h = elim h.scale [ Some s ↦ scale_text s | None ↦ codes "-" ]

-- how a kind is shown
abbrev pub kind_shown : Kind → List ℕ
kind_shown Event = codes "event"
kind_shown Real = codes "real"
kind_shown (Digits n) = decimal n

-- a line for each variable that only this dump has, always with its range
abbrev pub alone_lines : List ℕ → List Named → List ℕ
alone_lines letter vs = flat_map (λ v. words (codes "alone" ∷ letter ∷ full_name v ∷ [])) vs

-- a line for each pair of different kinds
abbrev pub unlike_lines : List Pair → List ℕ
unlike_lines ps = flat_map (λ p. words (codes "size" ∷ p.path ∷ kind_shown (kind_of p.one) ∷ kind_shown (kind_of p.other) ∷ [])) ps

-- the lines about the headers, before any other
unfoldable pub head_lines : Asked → Header → Header → List ℕ
head_lines q one other =
    cond (bytes_eq (scale_shown one) (scale_shown other)) [] (words (codes "timescale" ∷ scale_shown one ∷ scale_shown other ∷ []))
    ++ alone_lines (codes "A") (alone q one other)
    ++ alone_lines (codes "B") (alone q other one)
    ++ unlike_lines (unlike q one other)

-- the time at which a dump ends: its last timestamp
abbrev pub end_of : Side → Option ℕ
end_of s = last_mark s.items

-- how an end is shown, in ticks of its dump
abbrev pub end_shown : Option ℕ → List ℕ
end_shown None = codes "-"
end_shown (Some t) = decimal t

-- both end at the same time, or neither has a timestamp
abbrev pub same_end : Side → Side → Option ℕ → Option ℕ → Bool
same_end a b (Some t) (Some u) = a.scale * t == b.scale * u
same_end a b None None = true
same_end a b (Some t) None = false
same_end a b None (Some u) = false

-- the line about the ends, once both dumps have ended
unfoldable pub end_lines : Side → Side → List ℕ
end_lines a b = cond (same_end a b (end_of a) (end_of b)) [] (words (codes "ends" ∷ end_shown (end_of a) ∷ end_shown (end_of b) ∷ []))

-- ---- the whole comparison

-- a header without its time scale if the other one has none, because then ticks are compared
abbrev pub in_ticks : Header → Header → Header
in_ticks h other = cond (is_some other.scale) h (record h { scale = None })

-- the two dumps, each up to its fault
abbrev pub dump_in : List Header → Header → Opened → Dump
dump_in hs h o = dump_of (factor hs h) h (fault_in o) (body_of o)

-- what of a dump comes before a fault; it is number n of the two
abbrev pub up_to : Option KeyedFault → List Header → ℕ → Dump → Side
up_to None hs n d = record { scale = factor hs d.header; items = d.items; whole = true }
up_to (Some f) hs n d = record {
  scale = factor hs d.header;
  items = filter_map (λ o. o) (each (λ earlier x. cond (key_lt (key_after (factor hs d.header) n earlier) f.key) (Some x) None) d.items);
  whole = is_none d.fault && key_lt (key_after (factor hs d.header) n d.items) f.key;
}

-- the last line of an answer: how many pairs were compared
abbrev pub count_line : ℕ → List ℕ
count_line n = words (codes "compared" ∷ decimal n ∷ [])

-- All lines of a comparison of n pairs. The status is 0 if there is no line, unless there was
-- nothing to compare, otherwise 1.
abbrev pub answer : ℕ → List ℕ → Outcome
answer n lines = record { output = lines ++ count_line n; message = []; status = cond (is_empty lines && nat_lt 0 n) 0 1 }

-- a fault after these lines: status 2, or 3 if a read failed
abbrev pub fault_after : List ℕ → List ℕ → Fault → Outcome
fault_after lines name f = let o = fault_outcome lines name f in record o { status = cond (o.status == 1) 2 o.status }

-- the fault of one of the two dumps
abbrev pub fault_answer : List ℕ → List (List ℕ) → KeyedFault → Outcome
fault_answer lines names f = fault_after lines (name_at names f.key.input) f.fault

-- the comparison ends with these lines of values, because only the first ones are asked for
abbrev pub ends_with : Extent → List ℕ → Bool
ends_with First lines = not (is_empty lines)
ends_with EachPair lines = false
ends_with Always lines = false

-- If only the lines of the first time are asked for, they do not depend on anything after it, not
-- even on a fault. Otherwise the first fault of both dumps, by time, ends the comparison.
unfoldable pub over_both : Asked → List (List ℕ) → Header → Header → Dump → Dump → Outcome
over_both q names one other da db =
    let hs = da.header ∷ db.header ∷ [] in
    let f = first_fault (da ∷ db ∷ []) in
    let a = up_to f hs 0 da in
    let b = up_to f hs 1 db in
    let ps = pairs q one other in
    let front = head_lines q one other in
    let lines = value_lines q ps a b in
    cond (ends_with q.extent lines) (answer (length ps) (front ++ lines))
    (elim f [
      | Some e ↦ fault_answer (front ++ lines) names e
      | None ↦ answer (length ps) (front ++ lines ++ end_lines a b)
    ])

-- two inputs whose headers are read
abbrev pub over_opened : Asked → List (List ℕ) → List Opened → Outcome
over_opened q names (o ∷ p ∷ []) =
    let one = in_ticks o.header p.header in
    let other = in_ticks p.header o.header in
    let hs = one ∷ other ∷ [] in
    over_both q names o.header p.header (dump_in hs one o) (dump_in hs other p)
over_opened q names os = answer 0 []

-- the outcome of two inputs with these names
unfoldable pub compared : Asked → ℕ → List (List ℕ) → List Input → Outcome
compared q limit names inputs =
    elim (open_from limit [] inputs) [
      | Ok os ↦ over_opened q names os
      | Err e ↦ fault_answer [] names (record { key = record { time = 0; input = e.0; place = 0 }; fault = e.1 })
    ]
