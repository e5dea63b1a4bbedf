-- Rows on outputs that are not as their inputs were: why the laws have their premises.
use Rattle.vcd_laws.proofs.Cited.{◌≡◌, ℕ, false, List, [], ◌∷◌, map, replicate, codes, Option, Some, None, Result, Ok, Err, refl, String, Declaration, Header, entries, selected, first_failed, read_header, header_fault_of, head_for, Keyword, Fault, Opened, declarations_allowed, open_from, items_in, Want, outcome, stream_over, written_by, most_declared, input_scope, input_of, over_written, declarations_kept, Given, given}
use Rattle.vcd_laws.proofs.Computing.{model}
use Rattle.vcd_laws.proofs.RowText.{clean, limit, gives, on, cut, sample}
use Rattle.vcd_model.specs.HeaderChecks.{start_checks}
use Rattle.vcd_laws.proofs.DumpBase.{stdin, aliased, some_names, over_pick, over_cut, wire, bit}

-- an input that is opened
abbrev all_of : Result (List Opened) (ℕ × Fault) → List Opened
all_of (Err e) = []
all_of (Ok os) = os

abbrev first_of : Result (List Opened) (ℕ × Fault) → List Header
first_of r = map (λ o. o.header) (all_of r)

abbrev code_texts : List ℕ → List (List (List ℕ))
code_texts text = map (λ h. map (λ c. c.text) h.codes)
    (first_of (open_from limit [] (input_of text ∷ [])))

-- The codes of a pick are those of the header that are selected, but they may come in another
-- order: the first variable with a code may not be selected.
codes_before : code_texts (codes aliased) ≡ (codes "x" ∷ codes "y" ∷ []) ∷ []
unfolding model
codes_before = refl

codes_after : code_texts (written_by (Want.Pick some_names) limit stdin (clean aliased))
    ≡ (codes "y" ∷ codes "x" ∷ []) ∷ []
unfolding model
codes_after = refl

-- So a cut of a pick and a pick of a cut may have their start sections in another order.
pick_then_cut : over_pick (cut "1" "5")
    ≡ gives "$date;^$scope today;$end;$timescale;^1ns;$end;$var wire 1 y b $end;$scope module m $end;$var wire 1 x c $end;$upscope $end;$enddefinitions $end;#1;$dumpvars;1y;0x;$end;#5;1x;" "" 0
unfolding model
pick_then_cut = refl

cut_then_pick : over_cut (Want.Pick some_names)
    ≡ gives "$date;^$scope today;$end;$timescale;^1ns;$end;$var wire 1 y b $end;$scope module m $end;$var wire 1 x c $end;$upscope $end;$enddefinitions $end;#1;$dumpvars;0x;1y;$end;#5;1x;" "" 0
unfolding model
cut_then_pick = refl

-- A path does not say how scopes are nested: a point may be in a name. The declarations do.
abbrev dotted : List Declaration
dotted = Declaration.Scope (codes "module") (codes "a.b") ∷ Declaration.Var (wire "x" "v")
    ∷ Declaration.Up ∷ []

abbrev nested : List Declaration
nested = Declaration.Scope (codes "module") (codes "a") ∷ Declaration.Scope (codes "task") (codes "b")
    ∷ Declaration.Var (wire "x" "v") ∷ Declaration.Up ∷ Declaration.Up ∷ []

same_paths : selected [] dotted ≡ selected [] nested
unfolding model
same_paths = refl

each_as_it_was : map (declarations_kept []) (dotted ∷ nested ∷ []) ≡ dotted ∷ nested ∷ []
unfolding model
each_as_it_was = refl

-- Nor do values at times say what changes there were: one may be repeated, or change again at its
-- time.
abbrev once : String
once = "$var wire 1 x a $end $enddefinitions $end #5 1x"

abbrev often : String
often = "$var wire 1 x a $end $enddefinitions $end #5 0x 1x #6 1x"

same_values : on (sample (4 ∷ 5 ∷ 6 ∷ []) []) once ≡ on (sample (4 ∷ 5 ∷ 6 ∷ []) []) often
unfolding model
same_values = refl

abbrev changes_of : String → List (List Given)
changes_of text = map (λ o. given (entries (items_in o))) (all_of (open_from limit [] (clean text ∷ [])))

changes_once : changes_of once ≡ (bit 5 false "x" 49 ∷ []) ∷ []
unfolding model
changes_once = refl

changes_often : changes_of often
    ≡ (bit 5 false "x" 48 ∷ bit 5 false "x" 49 ∷ bit 6 false "x" 49 ∷ []) ∷ []
unfolding model
changes_often = refl

-- Without a timestamp in the input, a pick of less than was picked may have one for changes that it
-- leaves out.
abbrev no_mark : String
no_mark = "$var wire 1 x a $end $var wire 1 y b $end $enddefinitions $end 0x"

picked_alone : on (Want.Pick (codes "b" ∷ [])) no_mark
    ≡ gives "$var wire 1 y b $end;$enddefinitions $end;" "" 0
unfolding model
picked_alone = refl

picked_of_both : over_written (Want.Pick (codes "b" ∷ [])) (Want.Pick (codes "a" ∷ codes "b" ∷ []))
    limit stdin (clean no_mark) ≡ gives "$var wire 1 y b $end;$enddefinitions $end;#0;" "" 0
unfolding model
picked_of_both = refl

-- A code as long as the token limit leaves no room for a digit before it.
abbrev long_code : String
long_code = "$var wire 1 cccccccccccccccccccccccccccccccccccccccccccccccccccccccccccccccc a $end $enddefinitions $end #0 b1 cccccccccccccccccccccccccccccccccccccccccccccccccccccccccccccccc"

long_code_read : (outcome Want.Check 64 (stdin ∷ []) (clean long_code ∷ [])).status ≡ 0
unfolding model
long_code_read = refl

long_code_halts : over_written Want.Check (Want.Pick (codes "a" ∷ [])) 64 stdin (clean long_code)
    ≡ gives "" "(stdin):4: token too long" 1
unfolding model
long_code_halts = refl

-- a limit one greater is enough
long_code_fits : outcome Want.Check 65 (stdin ∷ [])
    (input_of (written_by (Want.Pick (codes "a" ∷ [])) 64 stdin (clean long_code)) ∷ [])
    ≡ gives "scopes 0;variables 1;codes 1;times 1;sections 0;changes 1;last 0;" "" 0
unfolding model
long_code_fits = refl

-- Scopes that a header leaves open are closed if it is written: each is a declaration more.
abbrev left_open : List ℕ
left_open = codes
    "$scope module a $end $scope module b $end $var wire 1 x v $end $enddefinitions $end"

-- the fault of a text, for a number of declarations that are allowed
abbrev header_fault_in : ℕ → List ℕ → Option Fault
header_fault_in most text = header_fault_of (stream_over text) (read_header most (stream_over text))

abbrev heads_of : List ℕ → List (List ℕ)
heads_of text = map (λ h. head_for h []) (first_of (open_from limit [] (input_of text ∷ [])))

three_are_read : header_fault_in 3 left_open ≡ None
unfolding model
three_are_read = refl

five_are_written : map (header_fault_in 4) (heads_of left_open)
    ≡ Some (record { number = 11; line = 5 }) ∷ []
unfolding model
five_are_written = refl

five_are_read : map (header_fault_in 5) (heads_of left_open) ≡ None ∷ []
unfolding model
five_are_read = refl

five_at_most : map most_declared (first_of (open_from limit [] (input_of left_open ∷ []))) ≡ 5 ∷ []
unfolding model
five_at_most = refl

-- A merge puts each input into a scope of its own, so a thousand open scopes are one too many.
abbrev deep : List Declaration
deep = replicate 999 (Declaration.Scope (codes "module") (codes "s"))

scope_number_1000 : first_failed (start_checks declarations_allowed deep Keyword.Scope) ≡ None
scope_number_1000 = refl

scope_number_1001 : first_failed (start_checks declarations_allowed
    (Declaration.Scope (codes "module") (input_scope 1) ∷ deep) Keyword.Scope) ≡ Some 10
unfolding model
scope_number_1001 = refl
