-- Rows on tokens, their lines and their ends, and on halts, computed; and what no row can compute
-- of halts.
use Rattle.vcd_laws.proofs.Cited.{◌≡◌, ℕ, ◌-◌, ◌^◌, List, [], ◌∷◌, ◌++◌, codes, length, map, Some, None, refl, String, Input, Mark, end_of_tokens, failed_read, halt_place, line_at, too_long_tokens, too_much_input, Want, outcome}
use Rattle.vcd_laws.proofs.Computing.{model}
use Rattle.vcd_laws.proofs.RowText.{written, clean, limit, gives}
use Rattle.vcd_model.specs.Tokens.{first_halt}

-- ---- white space and lines

all_white_space : outcome Want.Check limit (codes "(stdin)" ∷ [])
    (record {
      bytes = written "$var" ++ (13 ∷ []) ++ written "wire" ++ (11 ∷ []) ++ written "1" ++ (12 ∷ []) ++ written "!^a $end" ++
          (13 ∷ []) ++ written ";$enddefinitions" ++ (12 ∷ []) ++ written "$end" ++ (13 ∷ []) ++ written ";#0" ++ (13 ∷ []) ++ written ";0!" ++
          (11 ∷ []) ++ written "1!" ++ (13 ∷ []) ++ written ";";
      mark = Mark.Clean;
    } ∷ [])
    ≡ gives "scopes 0;variables 1;codes 1;times 1;sections 0;changes 2;last 0;" "" 0
unfolding model
all_white_space = refl

lines_of_carriage_returns : outcome Want.Check limit (codes "(stdin)" ∷ [])
    (record {
      bytes = written "$var wire 1 ! a $end" ++ (13 ∷ []) ++ written ";$enddefinitions $end" ++ (13 ∷ []) ++ written ";" ++ (13 ∷ []) ++
          (13 ∷ []) ++ written "?;";
      mark = Mark.Clean;
    } ∷ []) ≡ gives "" "(stdin):3: unknown command" 1
unfolding model
lines_of_carriage_returns = refl

-- every other byte may be in a token
other_bytes_in_a_name : outcome Want.Listing limit (codes "(stdin)" ∷ [])
    (record {
      bytes = written "$var wire 1 ! a" ++ (0 ∷ 1 ∷ 8 ∷ 14 ∷ 31 ∷ 127 ∷ 133 ∷ 160 ∷ 255 ∷ [])
          ++ written "b $end;$enddefinitions $end;";
      mark = Mark.Clean;
    } ∷ [])
    ≡ record { output = written "a" ++ (0 ∷ 1 ∷ 8 ∷ 14 ∷ 31 ∷ 127 ∷ 133 ∷ 160 ∷ 255 ∷ []) ++ written "b wire 1 !;"; message = []; status = 0 }
unfolding model
other_bytes_in_a_name = refl

-- ---- where the first tokens end

ends : map (end_of_tokens (written "ab c;; def")) (0 ∷ 1 ∷ 2 ∷ 3 ∷ []) ≡ 0 ∷ 2 ∷ 4 ∷ 10 ∷ []
unfolding model
ends = refl

-- white space before the first token counts, and white space after the last does not
ends_between_white_space : map (end_of_tokens (written ";^ ab c; ")) (0 ∷ 1 ∷ 2 ∷ []) ≡ 0 ∷ 5 ∷ 7 ∷ []
unfolding model
ends_between_white_space = refl

-- if there are fewer tokens it is the end of all
ends_of_fewer : map (end_of_tokens (written "ab c ")) (2 ∷ 3 ∷ 9 ∷ []) ≡ 4 ∷ 4 ∷ 4 ∷ []
unfolding model
ends_of_fewer = refl

ends_of_no_tokens : map (λ s. end_of_tokens (written s) 1) ("" ∷ " ; " ∷ []) ≡ 0 ∷ 0 ∷ []
unfolding model
ends_of_no_tokens = refl

ends_of_one_byte : map (end_of_tokens (written "a")) (0 ∷ 1 ∷ 2 ∷ []) ≡ 0 ∷ 1 ∷ 1 ∷ []
unfolding model
ends_of_one_byte = refl

-- ---- halts

-- a source that fails after this text
abbrev failed : String → Input
failed s = record { bytes = written s; mark = Mark.Failed }

clean_ends : map (λ s. halt_place 2 (clean s)) ("" ∷ "ab c;" ∷ "ab" ∷ []) ≡ None ∷ None ∷ None ∷ []
unfolding model
clean_ends = refl

-- after the last byte that was given
failed_reads : map (λ s. halt_place 2 (failed s)) ("" ∷ "ab c;" ∷ "ab" ∷ []) ≡ Some 0 ∷ Some 5 ∷ Some 2 ∷ []
unfolding model
failed_reads = refl

-- at the first byte beyond the token limit, of the first token that is too long
long_tokens : map (λ s. halt_place 2 (clean s)) ("abc" ∷ "ab;cde f" ∷ "a bcd efgh" ∷ []) ≡ Some 2 ∷ Some 5 ∷ Some 4 ∷ []
unfolding model
long_tokens = refl

-- the earlier halt counts
long_before_failed : map (λ s. halt_place 2 (failed s)) ("abc" ∷ "abc d" ∷ []) ≡ Some 2 ∷ Some 2 ∷ []
unfolding model
long_before_failed = refl

long_token_before_a_failed_read : outcome Want.Check 64 (codes "(stdin)" ∷ [])
    (record { bytes = written "$comment;xxxxxxxxxxxxxxxxxxxxxxxxxxxxxxxxxxxxxxxxxxxxxxxxxxxxxxxxxxxxxxxxx;$end;"; mark = Mark.Failed } ∷ [])
    ≡ gives "" "(stdin):2: token too long" 1
unfolding model
long_token_before_a_failed_read = refl

first_of_long_tokens : outcome Want.Check 64 (codes "(stdin)" ∷ [])
    (clean "$comment;xxxxxxxxxxxxxxxxxxxxxxxxxxxxxxxxxxxxxxxxxxxxxxxxxxxxxxxxxxxxxxxxx;;yyyyyyyyyyyyyyyyyyyyyyyyyyyyyyyyyyyyyyyyyyyyyyyyyyyyyyyyyyyyyyyyyy $end;" ∷ [])
    ≡ gives "" "(stdin):2: token too long" 1
unfolding model
first_of_long_tokens = refl

-- ---- halts that are too far for a row

longest_input : (text : List ℕ) → length text ≡ 2 ^ 63 - 1 → too_much_input text ≡ []
longest_input text e = rw e

too_long_input : (text : List ℕ) → length text ≡ 2 ^ 63 → too_much_input text ≡ record { fault = 21; place = 9223372036854775807; line = line_at text 9223372036854775807 } ∷ []
too_long_input text e = rw e

-- at one offset too much input counts before a token that is too long
too_much_before_too_long : (limit : ℕ) (i : Input) → too_much_input i.bytes ≡ record { fault = 21; place = 9; line = 1 } ∷ []
    → too_long_tokens limit i.bytes ≡ record { fault = 1; place = 9; line = 1 } ∷ [] → failed_read i ≡ []
    → first_halt limit i ≡ Some (record { fault = 21; place = 9; line = 1 })
unfolding first_halt
too_much_before_too_long limit i a b c = rw (a, b, c) refl
