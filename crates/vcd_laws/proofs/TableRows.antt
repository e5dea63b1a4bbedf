-- Tables of values, codes, scales and sizes, computed.
use Rattle.vcd_laws.proofs.Cited.{◌≡◌, ℕ, ℤ, pos, negsuc, ◌+◌, ◌*◌, ◌^◌, Bool, true, false, List, [], ◌∷◌, ◌++◌, filter, map, codes, replicate, Option, Some, None, Ok, Err, arith, refl, String, range_with_len, str_to_ascii_lowercase, is_white_space, is_code_byte, is_decimal, decimal_value, as_line, exponent_of, scale_text, is_unknown_command, Declaration, IdCode, Header, HeaderPhrase, header_fault, BodyItem, ChangeForm, SectionKind, open_section, Value, extend, short, change_line, final_value, value_at, value_before, values_of, first_unmatched, marked_places, selected, selects_code, selects_path, new_code, factor, Opened, fault_text, open_from, AreAllWindows, AreMarks, AreViews, AreWindows, FitsBound, FitsInput, IsRoom, IsView, ViewSize, WindowSize, marks_alone, no_room, room_count, room_of, value_room, view_count, window_count}
use Rattle.vcd_model.specs.Bound.{bound}
use Rattle.vcd_laws.proofs.Computing.{model}
use Rattle.vcd_laws.proofs.RowText.{written, clean}

-- ---- values

extends : map (λ d. extend
    (str_to_ascii_lowercase d) 4) (codes "1" ∷ codes "0" ∷ codes "x" ∷ codes "Z" ∷ codes "10" ∷ codes "x10" ∷ codes "zx0" ∷ codes "0x10" ∷ [])
    ≡ codes "0001" ∷ codes "0000" ∷ codes "xxxx" ∷ codes "zzzz" ∷ codes "0010" ∷ codes "xx10" ∷ codes "zzx0" ∷ codes "0x10" ∷ []
unfolding model
extends = refl

shortens : map short (codes "0000" ∷ codes "0001" ∷ codes "1111" ∷ codes "xxxx" ∷ codes "00x1" ∷ codes "0xxx" ∷ codes "zzx0" ∷ codes "xz10" ∷ [])
    ≡ codes "0" ∷ codes "1" ∷ codes "1111" ∷ codes "x" ∷ codes "0x1" ∷ codes "0xxx" ∷ codes "zx0" ∷ codes "xz10" ∷ []
unfolding model
shortens = refl

-- the line of a change of a code `"` of this size
abbrev line : ℕ → Bool → ChangeForm → String → List ℕ
line size event form text = change_line (record { code = record { text = codes "\""; size = size; event = event }; form = form; text = codes text })

vector_lines : map (λ text. line 4 false ChangeForm.Vector text) ("0010" ∷ "xX10" ∷ []) ≡ written "b10 \";" ∷ written "bx10 \";" ∷ []
unfolding model
vector_lines = refl

digit_lines : line 4 false ChangeForm.Scalar "Z" ∷ line 1 false ChangeForm.Vector "1" ∷ line 1 false ChangeForm.Scalar "X" ∷ [] ≡ written "bz \";" ∷ written "1\";" ∷ written "x\";" ∷ []
unfolding model
digit_lines = refl

event_and_real_lines : line 1 true ChangeForm.Scalar "x" ∷ line 1 true ChangeForm.Vector "0110" ∷ line 1 false ChangeForm.RealText "1.5" ∷ line 4 false ChangeForm.RealText "NaN" ∷ []
    ≡ written "1\";" ∷ written "1\";" ∷ written "r1.5 \";" ∷ written "rNaN \";" ∷ []
unfolding model
event_and_real_lines = refl

-- ---- the value of a code, by the last change of it

-- a change of a code of this size
abbrev change : String → ℕ → ChangeForm → String → BodyItem
change code size form text = BodyItem.Changes (record { code = record { text = codes code; size = size; event = false }; form = form; text = codes text })

-- two codes of which one begins with the other, and one that has no change
abbrev three : List IdCode
three = record { text = codes "!"; size = 2; event = false } ∷ record { text = codes "!!"; size = 1; event = false } ∷ record { text = codes "#"; size = 1; event = false } ∷ []

-- changes before, at and after the timestamps 3 and 7, some in a section
abbrev history : List BodyItem
history = change "!" 2 ChangeForm.Scalar "X" ∷ BodyItem.Time 3 ∷ change "!!" 1 ChangeForm.Scalar "0" ∷ BodyItem.Begin SectionKind.Off ∷ change "!" 2 ChangeForm.RealText "1.5" ∷ BodyItem.End ∷ BodyItem.Time 7 ∷ change "!" 2 ChangeForm.Vector "1" ∷ []

final_values : map (final_value history) three ≡ Some (Value.Bits (codes "01")) ∷ Some (Value.Bits (codes "0")) ∷ None ∷ []
unfolding model
final_values = refl

values_at_times : map (λ t. map (λ c. value_at history c t) three) (0 ∷ 2 ∷ 3 ∷ 6 ∷ 7 ∷ []) ≡ (Some (Value.Bits (codes "xx")) ∷ None ∷ None ∷ []) ∷
    (Some (Value.Bits (codes "xx")) ∷ None ∷ None ∷ []) ∷ (Some (Value.Real (codes "1.5")) ∷ Some (Value.Bits (codes "0")) ∷ None ∷ []) ∷
    (Some (Value.Real (codes "1.5")) ∷ Some (Value.Bits (codes "0")) ∷ None ∷ []) ∷
    (Some (Value.Bits (codes "01")) ∷ Some (Value.Bits (codes "0")) ∷ None ∷ []) ∷ []
unfolding model
values_at_times = refl

values_before_times : map (λ t. map (λ c. value_before history c t) three) (0 ∷ 1 ∷ 3 ∷ 4 ∷ 7 ∷ 8 ∷ []) ≡ (None ∷ None ∷ None ∷ []) ∷
    (Some (Value.Bits (codes "xx")) ∷ None ∷ None ∷ []) ∷ (Some (Value.Bits (codes "xx")) ∷ None ∷ None ∷ []) ∷
    (Some (Value.Real (codes "1.5")) ∷ Some (Value.Bits (codes "0")) ∷ None ∷ []) ∷
    (Some (Value.Real (codes "1.5")) ∷ Some (Value.Bits (codes "0")) ∷ None ∷ []) ∷
    (Some (Value.Bits (codes "01")) ∷ Some (Value.Bits (codes "0")) ∷ None ∷ []) ∷ []
unfolding model
values_before_times = refl

values_in_order : map (values_of history) three ≡ (Value.Bits (codes "xx") ∷ Value.Real (codes "1.5") ∷ Value.Bits (codes "01") ∷ []) ∷ (Value.Bits (codes "0") ∷ []) ∷ [] ∷ []
unfolding model
values_in_order = refl

-- a section that has ended is not open
open_sections : map open_section ([] ∷ (BodyItem.Begin SectionKind.Off ∷ []) ∷ (BodyItem.Begin SectionKind.Off ∷ BodyItem.End ∷ []) ∷
    (BodyItem.Begin SectionKind.Off ∷ BodyItem.End ∷ BodyItem.Begin SectionKind.All ∷ []) ∷ [])
    ≡ None ∷ Some SectionKind.Off ∷ None ∷ Some SectionKind.All ∷ []
unfolding model
open_sections = refl

-- ---- bytes

white_bytes : filter is_white_space (range_with_len 0 256) ≡ 9 ∷ 10 ∷ 11 ∷ 12 ∷ 13 ∷ 32 ∷ []
unfolding model
white_bytes = refl

code_bytes_are_33_to_126 : filter is_code_byte (range_with_len 0 256) ≡ range_with_len 33 94
unfolding model
code_bytes_are_33_to_126 = refl

decimals : map (λ s. is_decimal (codes s)) ("0" ∷ "9" ∷ "007" ∷ "18446744073709551616" ∷ "" ∷ "1x" ∷ "x1" ∷ "-1" ∷ "/" ∷ ":" ∷ "1 2" ∷ [])
    ≡ true ∷ true ∷ true ∷ true ∷ false ∷ false ∷ false ∷ false ∷ false ∷ false ∷ false ∷ []
unfolding model
decimals = refl

decimal_values : map (λ s. decimal_value (codes s)) ("0" ∷ "9" ∷ "10" ∷ "007" ∷ "1203" ∷ "18446744073709551616" ∷ []) ≡ 0 ∷ 9 ∷ 10 ∷ 7 ∷ 1203 ∷ 18446744073709551616 ∷ []
unfolding model
decimal_values = refl

lines_end : map as_line ([] ∷ codes "a" ∷ []) ≡ (10 ∷ []) ∷ (97 ∷ 10 ∷ []) ∷ []
unfolding model
lines_end = refl

-- ---- the codes of a merge

new_codes : map new_code (0 ∷ 1 ∷ 93 ∷ 94 ∷ 95 ∷ 187 ∷ 188 ∷ 8835 ∷ 8836 ∷ [])
    ≡ codes "!" ∷ codes "\"" ∷ codes "~" ∷ codes "!\"" ∷ codes "\"\"" ∷ codes "~\"" ∷ codes "!#" ∷ codes "~~" ∷ codes "!!\"" ∷ []
unfolding model
new_codes = refl

-- ---- scales

-- the scales from the coarsest to the finest
abbrev all_scales : List String
all_scales = "100s" ∷ "10s" ∷ "1s" ∷ "100ms" ∷ "10ms" ∷ "1ms" ∷ "100us" ∷ "10us" ∷ "1us" ∷ "100ns" ∷ "10ns" ∷ "1ns" ∷ "100ps" ∷ "10ps" ∷ "1ps" ∷ "100fs" ∷ "10fs" ∷ "1fs" ∷ []

-- their exponents: 2 down to -15
abbrev all_exponents : List ℤ
all_exponents = pos 2 ∷ pos 1 ∷ pos 0 ∷ map negsuc (0 ∷ 1 ∷ 2 ∷ 3 ∷ 4 ∷ 5 ∷ 6 ∷ 7 ∷ 8 ∷ 9 ∷ 10 ∷ 11 ∷ 12 ∷ 13 ∷ 14 ∷ [])

exponents : map (λ s. exponent_of (codes s)) all_scales ≡ map (λ e. Some e) all_exponents
unfolding model
exponents = refl

scale_texts : map scale_text all_exponents ≡ map (λ s. codes s) all_scales
unfolding model
scale_texts = refl

no_scales : map (λ s. exponent_of (codes s)) ("1" ∷ "s" ∷ "2ns" ∷ "01ns" ∷ "1NS" ∷ "1000fs" ∷ "1 ns" ∷ []) ≡ None ∷ None ∷ None ∷ None ∷ None ∷ None ∷ None ∷ []
unfolding model
no_scales = refl

-- a header that declares nothing but a scale
abbrev scaled : ℤ → Header
scaled e = record { declarations = []; codes = []; date = []; version = []; scale = Some e }

greatest_factor : factor (scaled (pos 2) ∷ scaled (negsuc 14) ∷ []) (scaled (pos 2)) ≡ 10 ^ 17
unfolding model
greatest_factor = refl

-- ---- commands of a header

unknown_commands : map (λ s. is_unknown_command (codes s)) ("$End" ∷ "$end$" ∷ "$comments" ∷ "$dumpports" ∷ "$$" ∷ []) ≡ true ∷ true ∷ true ∷ true ∷ true ∷ []
unfolding model
unknown_commands = refl

no_unknown_commands : map (λ s. is_unknown_command (codes s)) ("$" ∷ "end" ∷ "$end" ∷ "$dumpvars" ∷ "$comment" ∷ []) ≡ false ∷ false ∷ false ∷ false ∷ false ∷ []
unfolding model
no_unknown_commands = refl

-- what begins a change, a timestamp or a section is out of place, and other bytes begin nothing
begins_a_change_in_a_header : map (λ s. header_fault 16777216 [] [] (codes s))
    ("#" ∷ "0" ∷ "1" ∷ "x" ∷ "X" ∷ "z" ∷ "Z" ∷ "b" ∷ "B" ∷ "r" ∷ "R" ∷ "2" ∷ "a" ∷ []) ≡ replicate 11 (Some 4) ++ Some 3 ∷ Some 3 ∷ []
unfolding model
begins_a_change_in_a_header = refl

sections_in_a_header : map (λ s. header_fault 16777216 [] [] (codes s)) ("$dumpall" ∷ "$dumpoff" ∷ "$dumpon" ∷ "$dumpvars" ∷ "$end" ∷ []) ≡ replicate 5 (Some 4)
unfolding model
sections_in_a_header = refl

-- ---- limits of a header

-- the fault of a token that begins a phrase after as many open scopes, if this many
-- declarations are allowed
abbrev behind_scopes : ℕ → ℕ → String → Option ℕ
behind_scopes most scopes token = header_fault most (replicate scopes (HeaderPhrase.Declares (Declaration.Scope (codes "module") (codes "s")))) [] (codes token)

scopes_too_deep : map (λ n. behind_scopes 16777216 n "$scope") (0 ∷ 999 ∷ 1000 ∷ []) ≡ None ∷ None ∷ Some 10 ∷ []
unfolding model
scopes_too_deep = refl

-- the number of declarations is checked first
too_many_before_depth : map (λ token. behind_scopes 1000 1000 token) ("$scope" ∷ "$upscope" ∷ "$var" ∷ "$enddefinitions" ∷ []) ≡ Some 11 ∷ Some 11 ∷ Some 11 ∷ None ∷ []
unfolding model
too_many_before_depth = refl

-- .. and before the scope that is missing
upscope_of_too_many : header_fault 0 [] [] (codes "$upscope") ≡ Some 11
unfolding model
upscope_of_too_many = refl

-- ---- tokens of a header after a keyword

-- the faults of tokens after these of their phrase
abbrev faults_after : List String → List String → List (Option ℕ)
faults_after before tokens = map (λ token. header_fault 16777216 [] (map (λ s. codes s) before) (codes token)) tokens

sizes : faults_after
    ("$var" ∷ "wire" ∷ [])
    ("1" ∷ "16777215" ∷ "000000000000000000000000016777215" ∷ "0" ∷ "000" ∷ "16777216" ∷ "18446744073709551617" ∷ "1x" ∷ "x1" ∷ "-1" ∷ "1.0" ∷ ":" ∷ "$end" ∷ [])
    ≡ replicate 3 None ++ replicate 10 (Some 7)
unfolding model
sizes = refl

types_of_variables : faults_after ("$var" ∷ []) ("wire" ∷ "1" ∷ "$var" ∷ "$enddefinitions" ∷ "$end" ∷ []) ≡ replicate 4 None ++ Some 7 ∷ []
unfolding model
types_of_variables = refl

-- a code of each single byte, and of two bytes
bytes_of_codes : map (λ token. header_fault 16777216 [] (codes "$var" ∷ codes "wire" ∷ codes "1" ∷ []) token)
    ((31 ∷ []) ∷ (33 ∷ []) ∷ (126 ∷ []) ∷ (127 ∷ []) ∷ (255 ∷ []) ∷ (33 ∷ 126 ∷ []) ∷ (33 ∷ 127 ∷ []) ∷ (127 ∷ 33 ∷ []) ∷ [])
    ≡ Some 7 ∷ None ∷ None ∷ Some 7 ∷ Some 7 ∷ None ∷ Some 7 ∷ Some 7 ∷ []
unfolding model
bytes_of_codes = refl

-- only the first token of a reference is checked
references : faults_after ("$var" ∷ "wire" ∷ "1" ∷ "!" ∷ []) ("a" ∷ "$var" ∷ "$end" ∷ []) ++ faults_after ("$var" ∷ "wire" ∷ "1" ∷ "!" ∷ "a" ∷ [])
    ("b" ∷ "$var" ∷ "$end" ∷ []) ≡ None ∷ None ∷ Some 7 ∷ None ∷ None ∷ None ∷ []
unfolding model
references = refl

-- a variable of this type and size under `!`, and then one under this code
abbrev next_code : String → ℕ → String → String → String → Option ℕ
next_code type size next_type next_size code = header_fault 16777216
    (HeaderPhrase.Declares (Declaration.Var (record { type = codes type; size = size; code = codes "!"; reference = codes "a" ∷ [] })) ∷ [])
    (codes "$var" ∷ codes next_type ∷ codes next_size ∷ []) (codes code)

codes_that_agree : next_code "wire" 4 "reg" "04" "!" ∷ next_code "event" 1 "event" "1" "!" ∷ next_code "wire" 4 "event" "1" "\"" ∷ next_code "wire" 4 "wire" "1" "!!" ∷ []
    ≡ None ∷ None ∷ None ∷ None ∷ []
unfolding model
codes_that_agree = refl

codes_that_differ : next_code "wire" 4 "wire" "3" "!" ∷ next_code "event" 1 "wire" "1" "!" ∷ next_code "wire" 1 "event" "1" "!" ∷ next_code "event" 1 "event" "2" "!" ∷ []
    ≡ Some 8 ∷ Some 8 ∷ Some 8 ∷ Some 8 ∷ []
unfolding model
codes_that_differ = refl

first_tokens_of_scales : faults_after ("$timescale" ∷ []) ("1" ∷ "10" ∷ "100" ∷ "1s" ∷ "100fs" ∷ "s" ∷ "1000" ∷ "01" ∷ "1S" ∷ "2ns" ∷ "$end" ∷ [])
    ≡ replicate 5 None ++ replicate 6 (Some 5)
unfolding model
first_tokens_of_scales = refl

second_tokens_of_scales : faults_after ("$timescale" ∷ "10" ∷ [])
    ("s" ∷ "ms" ∷ "us" ∷ "ns" ∷ "ps" ∷ "fs" ∷ "as" ∷ "NS" ∷ "1s" ∷ "$end" ∷ []) ++ faults_after ("$timescale" ∷ "10ns" ∷ []) ("$end" ∷ "ns" ∷ [])
    ≡ replicate 6 None ++ replicate 4 (Some 5) ++ None ∷ Some 5 ∷ []
unfolding model
second_tokens_of_scales = refl

third_tokens_of_scales : faults_after ("$timescale" ∷ "10" ∷ "ns" ∷ []) ("$end" ∷ "ns" ∷ "$End" ∷ []) ≡ None ∷ Some 5 ∷ Some 5 ∷ []
unfolding model
third_tokens_of_scales = refl

tokens_of_scopes : faults_after ("$scope" ∷ []) ("module" ∷ "$scope" ∷ "$end" ∷ []) ++ faults_after ("$scope" ∷ "module" ∷ [])
    ("tb" ∷ "$scope" ∷ "$end" ∷ []) ++ faults_after ("$scope" ∷ "module" ∷ "tb" ∷ []) ("$end" ∷ "u" ∷ [])
    ≡ None ∷ None ∷ Some 6 ∷ None ∷ None ∷ Some 6 ∷ None ∷ Some 6 ∷ []
unfolding model
tokens_of_scopes = refl

ends_of_commands : faults_after ("$upscope" ∷ []) ("$end" ∷ "tb" ∷ []) ++ faults_after ("$enddefinitions" ∷ []) ("$end" ∷ "now" ∷ []) ≡ None ∷ Some 6 ∷ None ∷ Some 4 ∷ []
unfolding model
ends_of_commands = refl

tokens_of_texts : map (λ k. faults_after (k ∷ []) ("a" ∷ "#0" ∷ "$var" ∷ "$end" ∷ [])) ("$comment" ∷ "$date" ∷ "$version" ∷ "$foo" ∷ []) ≡ replicate 4 (replicate 4 None)
unfolding model
tokens_of_texts = refl

-- ---- names

-- which names select which path
names_of_paths : map (λ name. selects_path (codes "t.u") (codes name)) ("t.u" ∷ "t" ∷ "t." ∷ "u" ∷ "" ∷ "t.u.v" ∷ "T.u" ∷ [])
    ≡ true ∷ true ∷ false ∷ false ∷ false ∷ false ∷ false ∷ []
unfolding model
names_of_paths = refl

paths_of_names : map (λ path. selects_path (codes path) (codes "t")) ("t" ∷ "t.a.b" ∷ "ta" ∷ "ta.t" ∷ ".t" ∷ "" ∷ []) ≡ true ∷ true ∷ false ∷ false ∷ false ∷ false ∷ []
unfolding model
paths_of_names = refl

-- a scope `s` in which `e` has no variable, and after it open scopes `f` and `g`
abbrev declared : List Declaration
declared = Declaration.Scope (codes "m") (codes "s") ∷ Declaration.Scope (codes "m")
    (codes "e") ∷ Declaration.Up ∷ variable "!" "a" ∷ Declaration.Up ∷ variable "\"" "b" ∷ Declaration.Scope (codes "m")
    (codes "f") ∷ Declaration.Scope (codes "m") (codes "g") ∷ variable "!" "c" ∷ []
  where
    variable : String → String → Declaration
    variable code name = Declaration.Var (record { type = codes "wire"; size = 1; code = codes code; reference = codes name ∷ codes "[0]" ∷ [] })

-- each variable with its scopes, innermost first; no scope without a variable that is selected
places_that_are_marked : map (λ names. marked_places (map (λ s. codes s) names) declared)
    ([] ∷ ("s" ∷ []) ∷ ("f.g.c" ∷ "b" ∷ []) ∷ ("s.e" ∷ []) ∷ []) ≡ (3 ∷ 0 ∷ 5 ∷ 8 ∷ 7 ∷ 6 ∷ []) ∷ (3 ∷ 0 ∷ []) ∷ (5 ∷ 8 ∷ 7 ∷ 6 ∷ []) ∷ [] ∷ []
unfolding model
places_that_are_marked = refl

paths_that_are_selected : map (λ names. map (λ s. s.path) (selected (map (λ s. codes s) names) declared))
    ([] ∷ ("s" ∷ []) ∷ ("f" ∷ "b" ∷ "f.g" ∷ []) ∷ ("c" ∷ []) ∷ []) ≡ (codes "s.a" ∷ codes "b" ∷ codes "f.g.c" ∷ []) ∷ (codes "s.a" ∷ []) ∷
    (codes "b" ∷ codes "f.g.c" ∷ []) ∷ [] ∷ []
unfolding model
paths_that_are_selected = refl

first_names_that_select_nothing : map (λ names. first_unmatched (map (λ s. codes s) names) declared)
    ([] ∷ ("s" ∷ "b" ∷ []) ∷ ("s.e" ∷ "b" ∷ []) ∷ ("b" ∷ "c" ∷ "e" ∷ []) ∷ ("f" ∷ "s" ∷ "a" ∷ []) ∷ []) ≡ None ∷ None ∷ Some 0 ∷ Some 1 ∷ Some 2 ∷ []
unfolding model
first_names_that_select_nothing = refl

-- a code is selected if a selected variable carries it, whichever is the first with it
codes_that_are_selected : map (λ name. map (selects_code (selected (codes name ∷ []) declared)) three) ("s" ∷ "f" ∷ "b" ∷ []) ≡
    (true ∷ false ∷ false ∷ []) ∷ (true ∷ false ∷ false ∷ []) ∷ (false ∷ false ∷ false ∷ []) ∷ []
unfolding model
codes_that_are_selected = refl

-- ---- texts of faults

texts_of_rare_faults : map fault_text (10 ∷ 11 ∷ 21 ∷ 31 ∷ 32 ∷ 0 ∷ 23 ∷ [])
    ≡ codes "scopes too deep" ∷ codes "too many declarations" ∷ codes "input too long" ∷ codes "read failed" ∷ codes "out of memory" ∷ [] ∷ [] ∷ []
unfolding model
texts_of_rare_faults = refl

-- ---- the bound

abbrev opened : String → List Opened
opened s = elim (open_from 1048576 [] (clean s ∷ [])) [ Ok os ↦ os | Err e ↦ [] ]

bound_of_clock : map
    (λ o. bound 1048576 (o.header ∷ []))
    (opened "$timescale 1ns $end;$scope module tb $end;$var wire 1 ! clk $end;$var reg 4 \" q [3:0] $end;$upscope $end;$enddefinitions $end;") ≡
    (65536 + 512 + 2 * 1048576 + 27 + 64 * 4 + (1 + 192) + (4 + 192)) ∷ []
unfolding model
bound_of_clock = refl

bound_with_texts : map (λ o. bound 64 (o.header ∷ o.header ∷ []))
    (opened "$date ab c $end;$version de $end;$var wire 4 !! v [0] $end;$enddefinitions $end;") ≡
    (2 * (65536 + 512 + 2 * 64 + (4 + 2 + 4 + 2 + 5) + 64 + (4 + 192))) ∷ []
unfolding model
bound_with_texts = refl

room_of_two_codes : map (λ o. room_of o.header) (opened "$var wire 4 ! v $end;$var wire 8 \" w $end;$enddefinitions $end;") ≡ record { values = 128; slots = 2; marks = 2 } ∷ []
unfolding model
room_of_two_codes = refl

room_of_three_codes : map
    (λ o. room_of o.header)
    (opened "$scope module s $end;$var wire 256 ! a $end;$var wire 257 \" b $end;$var wire 1000 # c $end;$enddefinitions $end;")
    ≡ record { values = 379; slots = 3; marks = 4 } ∷ []
unfolding model
room_of_three_codes = refl

shares : map (λ size. value_room (record { text = codes "!"; size = size; event = false })) (1 ∷ 255 ∷ 256 ∷ 257 ∷ 260 ∷ 261 ∷ 1000 ∷ 16777215 ∷ [])
    ≡ 64 ∷ 64 ∷ 64 ∷ 65 ∷ 65 ∷ 66 ∷ 250 ∷ 4194304 ∷ []
unfolding model
shares = refl

-- an event has a share too
room_of_an_event : map (λ o. room_of o.header) (opened "$var event 1 ! e $end;$enddefinitions $end;") ≡ record { values = 64; slots = 1; marks = 1 } ∷ []
unfolding model
room_of_an_event = refl

shares_of_events : map (λ size. value_room (record { text = codes "!"; size = size; event = true })) (1 ∷ 256 ∷ 257 ∷ []) ≡ 64 ∷ 64 ∷ 65 ∷ []
unfolding model
shares_of_events = refl

counts_of_parts : (window_count (record { chunk = 1000; token = 200; value = 30 }) ∷ view_count
    (record { text = 1; rows = 1000; codes = 0; index = 0; look_up = 0 }) ∷ view_count
    (record { text = 0; rows = 0; codes = 1000; index = 0; look_up = 7 }) ∷ view_count
    (record { text = 0; rows = 0; codes = 0; index = 1000; look_up = 0 }) ∷ room_count (record { values = 1; slots = 1000; marks = 5 }) ∷ []) ≡
    (1230 ∷ 49001 ∷ 25007 ∷ 8000 ∷ 42006 ∷ [])
unfolding model
counts_of_parts = refl

-- ---- what fits the bound to the byte, and what does not

-- a header that declares nothing
abbrev empty : Header
empty = record { declarations = []; codes = []; date = []; version = []; scale = None }

-- the windows of one input at a token limit of 64, as large as they may be
abbrev windows : WindowSize
windows = record { chunk = 65536; token = 64; value = 64 }

-- this many bytes of texts, and nothing else
abbrev kept : ℕ → ViewSize
kept n = record { text = n; rows = 0; codes = 0; index = 0; look_up = 0 }

fits_to_the_byte : FitsInput 64 empty windows (kept 0) no_room
fits_to_the_byte = omega arith

one_byte_more_does_not_fit : FitsInput 64 empty windows (kept 1) no_room → ⊥
one_byte_more_does_not_fit p = omega arith

one_byte_of_room_does_not_fit : FitsInput 64 empty windows (kept 0) (record { values = 1; slots = 0; marks = 0 }) → ⊥
one_byte_of_room_does_not_fit p = omega arith

-- .. of two inputs
abbrev two : WindowSize
two = record { chunk = 131072; token = 128; value = 128 }

two_fit_to_the_byte : FitsBound 64 (empty ∷ empty ∷ []) two (kept 0) no_room
unfolding bound
two_fit_to_the_byte = omega arith

two_do_not_fit : FitsBound 64 (empty ∷ empty ∷ []) two (kept 1) no_room → ⊥
unfolding bound
two_do_not_fit p = omega arith

-- a header with a variable `a` and a date `d`
abbrev one : Header
one = record {
  declarations = Declaration.Var (record { type = codes "wire"; size = 1; code = codes "!"; reference = codes "a" ∷ [] })
      ∷ [];
  codes = record { text = codes "!"; size = 1; event = false } ∷ [];
  date = codes "d";
  version = [];
  scale = None;
}

view_of_one : IsView one (record { text = 7; rows = 1; codes = 1; index = 1; look_up = 53 })
view_of_one = record { text = omega arith; rows = omega arith; codes = omega arith; index = omega arith; look_up = omega arith }

largest_windows : AreWindows 64 windows
largest_windows = record { chunk = omega arith; token = omega arith; value = omega arith }

largest_windows_of_two : AreAllWindows 64 2 two
largest_windows_of_two = record { chunk = omega arith; token = omega arith; value = omega arith }

chunk_too_large : AreWindows 64 (record { chunk = 65537; token = 64; value = 64 }) → ⊥
chunk_too_large w = let p = w.chunk in omega arith

token_too_large : AreWindows 64 (record { chunk = 1; token = 65; value = 64 }) → ⊥
token_too_large w = let p = w.token in omega arith

kept_value_too_large : AreWindows 64 (record { chunk = 1; token = 64; value = 65 }) → ⊥
kept_value_too_large w = let p = w.value in omega arith

chunks_of_two_too_large : AreAllWindows 64 2 (record { chunk = 131073; token = 128; value = 128 }) → ⊥
chunks_of_two_too_large w = let p = w.chunk in omega arith

tokens_of_two_too_large : AreAllWindows 64 2 (record { chunk = 1; token = 129; value = 128 }) → ⊥
tokens_of_two_too_large w = let p = w.token in omega arith

kept_values_of_two_too_large : AreAllWindows 64 2 (record { chunk = 1; token = 128; value = 129 }) → ⊥
kept_values_of_two_too_large w = let p = w.value in omega arith

-- of what is kept of a header each part has its own limit
text_too_long : IsView one (record { text = 8; rows = 0; codes = 0; index = 0; look_up = 0 }) → ⊥
text_too_long v = let p = v.text in omega arith

row_too_many : IsView one (record { text = 0; rows = 2; codes = 0; index = 0; look_up = 0 }) → ⊥
row_too_many v = let p = v.rows in omega arith

code_too_many : IsView one (record { text = 0; rows = 0; codes = 2; index = 0; look_up = 0 }) → ⊥
code_too_many v = let p = v.codes in omega arith

place_too_many : IsView one (record { text = 0; rows = 0; codes = 0; index = 2; look_up = 0 }) → ⊥
place_too_many v = let p = v.index in omega arith

look_up_too_large : IsView one (record { text = 0; rows = 0; codes = 0; index = 0; look_up = 54 }) → ⊥
look_up_too_large v = let p = v.look_up in omega arith

-- .. and of several headers
views_of_two : AreViews (one ∷ one ∷ []) (record { text = 14; rows = 2; codes = 2; index = 2; look_up = 106 })
views_of_two = record { text = omega arith; rows = omega arith; codes = omega arith; index = omega arith; look_up = omega arith }

texts_of_two_too_long : AreViews (one ∷ one ∷ []) (record { text = 15; rows = 0; codes = 0; index = 0; look_up = 0 }) → ⊥
texts_of_two_too_long v = let p = v.text in omega arith

row_of_two_too_many : AreViews (one ∷ one ∷ []) (record { text = 0; rows = 3; codes = 0; index = 0; look_up = 0 }) → ⊥
row_of_two_too_many v = let p = v.rows in omega arith

code_of_two_too_many : AreViews (one ∷ one ∷ []) (record { text = 0; rows = 0; codes = 3; index = 0; look_up = 0 }) → ⊥
code_of_two_too_many v = let p = v.codes in omega arith

place_of_two_too_many : AreViews (one ∷ one ∷ []) (record { text = 0; rows = 0; codes = 0; index = 3; look_up = 0 }) → ⊥
place_of_two_too_many v = let p = v.index in omega arith

look_up_of_two_too_large : AreViews (one ∷ one ∷ []) (record { text = 0; rows = 0; codes = 0; index = 0; look_up = 107 }) → ⊥
look_up_of_two_too_large v = let p = v.look_up in omega arith

-- room
room_of_one : IsRoom one (record { values = 64; slots = 1; marks = 1 })
room_of_one = record { values = omega arith; slots = omega arith; marks = omega arith }

values_too_large : IsRoom one (record { values = 65; slots = 1; marks = 1 }) → ⊥
values_too_large r = let p = r.values in omega arith

slot_too_many : IsRoom one (record { values = 64; slots = 2; marks = 1 }) → ⊥
slot_too_many r = let p = r.slots in omega arith

mark_too_many : IsRoom one (record { values = 64; slots = 1; marks = 2 }) → ⊥
mark_too_many r = let p = r.marks in omega arith

-- a merge has room only for marks
room_of_a_merge : marks_alone 5 ≡ record { values = 0; slots = 0; marks = 5 }
unfolding model
room_of_a_merge = refl

marks_of_two : AreMarks (one ∷ one ∷ []) 2
marks_of_two = omega arith

mark_of_two_too_many : AreMarks (one ∷ one ∷ []) 3 → ⊥
mark_of_two_too_many p = omega arith
