-- `strobe`: the values of a dump just before each edge of its clocks (profile). An edge depends only
-- on the items before it, in their order: a `$dumpvars` gives values from before its time only to
-- edges that come after it, and an edge is there even if its time has a fault later. What `merge`
-- wrote has no `$dumpvars`, so a strobe comes before a merge.
use Rattle.std.specs.Prelude.{ℕ, zero, suc, ◌+◌, ◌-◌, ◌/◌, ◌%◌, ◌^◌, max, fold, Bool, true, false, not, cond, ◌&&◌, ◌==◌, nat_le, nat_lt, is_none, List, [], ◌∷◌, ◌++◌, length, reverse, slice_get, replicate, map, flat_map, filter, filter_map, decimal, codes, bytes_eq, Option, Some, None, option_map, unwrap_or, Result, Ok, Err}
use Rattle.std.specs.List.{list_any, concat, last_or}
use Rattle.std.specs.Str.{byte}
use Rattle.vcd_model.specs.Bytes.{as_line}
use Rattle.vcd_model.specs.Backward.{each, each_some}
use Rattle.vcd_model.specs.Input.{Input}
use Rattle.vcd_model.specs.Keywords.{Keyword, keyword_text}
use Rattle.vcd_model.specs.Header.{Header}
use Rattle.vcd_model.specs.Declarations.{IdCode, Variable, code_of, same_code}
use Rattle.vcd_model.specs.Items.{BodyItem, SectionKind, entries, change_of, open_section, time_after}
use Rattle.vcd_model.specs.Values.{Value, same_value, value_line, value_of}
use Rattle.vcd_model.specs.History.{final_value, gives_to, value_before}
use Rattle.vcd_model.specs.ItemText.{time_line}
use Rattle.vcd_model.specs.HeadText.{head_for, scope_line, up_line, words}
use Rattle.vcd_model.specs.Selection.{first_unmatched, selected, selects_code}
use Rattle.vcd_model.specs.Cut.{line_if_set}
use Rattle.vcd_model.specs.Outcome.{Opened, Outcome, clean_outcome, fault_in, items_in, name_at, open_from}
use Rattle.vcd_model.specs.Compare.{Kind, fault_after, kind_of}

-- ---- edges

-- a clock: one bit of a code, by its place from the right, counted from 0; and whether its falling
-- edges count, not its rising ones
pub record Clock : Type 0 where
  pub code : IdCode
  pub place : ℕ
  pub falls : Bool

-- the value has this digit at this place from the right
abbrev pub has_digit : ℕ → ℕ → Option Value → Bool
has_digit place d (Some (Value.Bits ds)) = elim (slice_get (reverse ds) place) [ Some digit ↦ digit == d | None ↦ false ]
has_digit place d (Some (Value.Real text)) = false
has_digit place d None = false

-- what a clock has before an edge, and after it
abbrev pub digit_before : Clock → ℕ
digit_before k = cond k.falls (byte "1") (byte "0")

abbrev pub digit_after : Clock → ℕ
digit_after k = cond k.falls (byte "0") (byte "1")

-- an item that takes a clock from the one digit to the other, as the next value that it is given
abbrev pub is_turn_of : Clock → List BodyItem → BodyItem → Bool
is_turn_of k earlier (BodyItem.Changes c) = same_code k.code c.code && has_digit k.place (digit_before k) (final_value earlier k.code) && has_digit k.place (digit_after k) (Some (value_of c))
is_turn_of k earlier item = false

-- an item that does so with one of some clocks
abbrev pub is_turn : List Clock → List BodyItem → BodyItem → Bool
is_turn ks earlier item = list_any (λ k. is_turn_of k earlier item) ks

-- the times of such items
abbrev pub turn_times : List Clock → List BodyItem → List ℕ
turn_times ks items = each_some (λ earlier item. cond (is_turn ks earlier item) (Some (time_after earlier)) None) items

-- an edge: the first such item of its time
abbrev pub is_edge : List Clock → List BodyItem → BodyItem → Bool
is_edge ks earlier item = is_turn ks earlier item && not (list_any (λ t. t == time_after earlier) (turn_times ks earlier))

-- an edge, as the items before it
abbrev pub edge_at : List Clock → List BodyItem → BodyItem → Option (List BodyItem)
edge_at ks earlier item = cond (is_edge ks earlier item) (Some earlier) None

-- all edges
unfoldable pub edges_in : List Clock → List BodyItem → List (List BodyItem)
edges_in ks items = each_some (edge_at ks) items

-- ---- values just before an edge

-- the section is a `$dumpvars`
abbrev pub is_vars : Option SectionKind → Bool
is_vars (Some SectionKind.Vars) = true
is_vars section = false

-- the value that an item gives a code from the start: its first one, in a `$dumpvars`
abbrev pub value_from_start : IdCode → List BodyItem → BodyItem → Option Value
value_from_start code earlier item = cond (gives_to code item && is_none (final_value earlier code) && is_vars (open_section earlier)) (option_map value_of (change_of item)) None

-- the value that a code has from the start, if it has one
abbrev pub initial_value : List BodyItem → IdCode → Option Value
initial_value items code = elim (each_some (value_from_start code) items) [ [] ↦ None | v ∷ vs ↦ Some v ]

-- the value just before the time of the edge that has these items before it: that of the last
-- change at an earlier time, otherwise the one from the start
unfoldable pub sampled : List BodyItem → IdCode → Option Value
sampled edge code = elim (value_before edge code (time_after edge)) [ Some v ↦ Some v | None ↦ initial_value edge code ]

-- an event was triggered outside sections, at the first of two times or later, and before the
-- second one
abbrev pub is_triggered : List BodyItem → IdCode → ℕ → ℕ → Bool
is_triggered items code from to = list_any (λ e. gives_to code e.item && not e.inside && nat_le from e.time && nat_lt e.time to) (entries items)

-- both have no value, or the same one
abbrev pub same_state : Option Value → Option Value → Bool
same_state None None = true
same_state (Some v) (Some w) = same_value v w
same_state None (Some w) = false
same_state (Some v) None = false

-- ---- the text

-- the last n binary digits of a number
abbrev pub binary : ℕ → ℕ → List ℕ
binary zero t = []
binary (suc n) t = (byte "0" + t / 2 ^ n % 2) ∷ binary n t

-- the code of the time: longer than all others
abbrev pub time_code : Header → IdCode
time_code h = record { text = replicate (1 + fold max 0 (map (λ c. length c.text) h.codes)) (byte "!"); size = 64; event = false }

-- what a code had at the last of these edges
abbrev pub last_sampled : List (List BodyItem) → IdCode → Option Value
last_sampled before code = elim (last_or None before) [ Some edge ↦ sampled edge code | None ↦ None ]

-- the time of the last of these edges, 0 if there is none
abbrev pub last_time : List (List BodyItem) → ℕ
last_time before = unwrap_or (last_or None (map time_after before)) 0

-- the line of a code at an edge that has these edges before it: of an event if it was triggered
-- since the last of them, or at its time; of any other code if its value is another one
abbrev pub code_line : List (List BodyItem) → List BodyItem → IdCode → List ℕ
code_line before edge code =
    cond code.event
    (cond (is_triggered edge code (last_time before) (time_after edge)) (as_line (byte "1" ∷ code.text)) [])
    (cond (same_state (last_sampled before code) (sampled edge code)) [] (line_if_set code (sampled edge code)))

-- the codes of the selected variables
abbrev pub strobe_codes : Header → List (List ℕ) → List IdCode
strobe_codes h names = filter (selects_code (selected names h.declarations)) h.codes

-- the lines of an edge that has these edges before it: its number, its time, and those of the codes
unfoldable pub edge_text : Header → List (List ℕ) → List (List BodyItem) → List BodyItem → List ℕ
edge_text h names before edge =
    time_line (1 + length before)
    ++ value_line (time_code h) (Value.Bits (binary 64 (time_after edge)))
    ++ flat_map (code_line before edge) (strobe_codes h names)

-- the header without date, version and time scale
abbrev pub bare : Header → Header
bare h = record h { date = []; version = []; scale = None }

-- the variable of the time of an edge, and the head for the names
unfoldable pub strobe_head : Header → List (List ℕ) → List ℕ
strobe_head h names =
    scope_line (codes "module") (codes "strobe")
    ++ words (keyword_text Keyword.Var ∷ codes "time" ∷ codes "64" ∷ (time_code h).text ∷ codes "time" ∷ keyword_text Keyword.End ∷ [])
    ++ up_line
    ++ head_for (bare h) names

-- What is written once these items were read. Nothing follows at a clean end.
unfoldable pub strobe_open : List Clock → Header → List (List ℕ) → List BodyItem → List ℕ
strobe_open ks h names items = strobe_head h names ++ concat (each (edge_text h names) (edges_in ks items))

-- ---- the clocks of names

-- what names a clock: an argument; the path that it has before its last `@`, and after it the place
-- of a bit from the right, counted from 0, or all of it as a path without a place; and whether its
-- falling edges count
pub record ClockName : Type 0 where
  pub word : List ℕ
  pub path : List ℕ
  pub place : Option ℕ
  pub falls : Bool

-- why a name is that of no clock: no variable has the path, or variables with different codes have
-- it; it is an event or a real number; it has this many bits, and the name has no place, or one that
-- is too high
pub data NoClock : Type 0 where
  Missing : NoClock
  Several : NoClock
  AnEvent : NoClock
  AReal : NoClock
  Wide : (size : ℕ) → NoClock
  High : (size : ℕ) → NoClock

-- what is said of it
abbrev pub no_clock_text : NoClock → List ℕ
no_clock_text Missing = codes "no such variable"
no_clock_text Several = codes "several variables have this path"
no_clock_text AnEvent = codes "it is an event"
no_clock_text AReal = codes "it is a real number"
no_clock_text (Wide size) = codes "it has " ++ decimal size ++ codes " bits: write PATH@PLACE"
no_clock_text (High size) = codes "the highest place is " ++ decimal (size - 1)

-- the variables that have a path
abbrev pub variables_at : Header → List ℕ → List Variable
variables_at h path = map (λ s. s.variable) (filter (λ s. bytes_eq s.path path) (selected [] h.declarations))

-- the place of the bit of a variable of this kind: only one bit needs no place
abbrev pub place_in : Kind → Option ℕ → Result ℕ NoClock
place_in Kind.Event place = Err AnEvent
place_in Kind.Real place = Err AReal
place_in (Kind.Digits size) None = cond (size == 1) (Ok 0) (Err (Wide size))
place_in (Kind.Digits size) (Some place) = cond (nat_lt place size) (Ok place) (Err (High size))

-- the bit of a variable at its place
abbrev pub bit_of : Variable → (falls : Bool) → Result ℕ NoClock → Result Clock NoClock
bit_of v falls (Ok place) = Ok (record { code = code_of v; place = place; falls = falls })
bit_of v falls (Err why) = Err why

-- a bit of the variables of one path, which have one code
abbrev pub clock_among : List Variable → Option ℕ → (falls : Bool) → Result Clock NoClock
clock_among [] place falls = Err Missing
clock_among (v ∷ vs) place falls =
    cond (list_any (λ u. not (bytes_eq u.code v.code)) vs) (Err Several) (bit_of v falls (place_in (kind_of v) place))

-- the clock of a name: the variable that has the argument as its path; if there is none, the bit
abbrev pub clock_of : Header → ClockName → Result Clock NoClock
clock_of h name =
    elim (variables_at h name.word) [
      | [] ↦ clock_among (variables_at h name.path) name.place name.falls
      | v ∷ vs ↦ clock_among (v ∷ vs) None name.falls
    ]

-- the clocks of names
abbrev pub clocks_of : Header → List ClockName → List Clock
clocks_of h names = filter_map (λ name. elim (clock_of h name) [ Ok k ↦ Some k | Err why ↦ None ]) names

-- what is said of the first name that is that of no clock
abbrev pub no_clock : Header → List ClockName → Option (List ℕ)
no_clock h [] = None
no_clock h (name ∷ names) = elim (clock_of h name) [ Ok k ↦ no_clock h names | Err why ↦ Some (name.word ++ codes ": " ++ no_clock_text why) ]

-- ---- the outcome

-- what is asked for: clocks, and names
pub record Strobe : Type 0 where
  pub clocks : List ClockName
  pub names : List (List ℕ)

-- a refusal with this message
abbrev pub refused : List ℕ → Outcome
refused message = record { output = []; message = message; status = 2 }

-- a dump with these edges that has ended well, after this text: one without an edge is no success,
-- for two of them would be equal whatever values they have
abbrev pub at_end : List ℕ → List (List BodyItem) → List ℕ → Outcome
at_end name [] text = record { output = text; message = name ++ codes ": no edge"; status = 1 }
at_end name (edge ∷ edges) text = clean_outcome text

-- the outcome of a dump whose header is read, if each name selects something
abbrev pub strobe_body : Strobe → List ℕ → Opened → Outcome
strobe_body q name o =
    let ks = clocks_of o.header q.clocks in
    let text = strobe_open ks o.header q.names (items_in o) in
    elim (fault_in o) [
      | Some f ↦ fault_after text name f
      | None ↦ at_end name (edges_in ks (items_in o)) text
    ]

-- the outcome of a dump whose header is read
unfoldable pub strobe_dump : Strobe → List ℕ → Opened → Outcome
strobe_dump q name o =
    elim (no_clock o.header q.clocks) [
      | Some message ↦ refused message
      | None ↦ elim (first_unmatched q.names o.header.declarations) [
        | Some i ↦ refused (name_at q.names i ++ codes ": selects nothing")
        | None ↦ strobe_body q name o
      ]
    ]

-- the outcome of an input with this name
unfoldable pub strobe : Strobe → ℕ → List ℕ → Input → Outcome
strobe q limit name input =
    elim (open_from limit [] (input ∷ [])) [
      | Ok os ↦ over os
      | Err e ↦ fault_after [] name e.1
    ]
  where
    over : List Opened → Outcome
    over [] = clean_outcome []
    over (o ∷ os) = strobe_dump q name o
