-- What the program `echo` leaves, in the words of a program.
use Rattle.std.proofs.Common.{◌≡◌, ◌∙◌, ℕ, List, [], ◌∷◌, length, map, refl, sym, subst, ap, codes, inl}
use Rattle.std.specs.Prelude.{Option, Some, Ok, Err, string_bytes}
use Rattle.clap.specs.Words.{Text}
use Rattle.clap.specs.declared.parser.matches.ArgMatches.{ArgMatches}
use Rattle.vcd_model.specs.Bytes.{as_line}
use Rattle.vcd_model.specs.Outcome.{clean_outcome}
use Rattle.vcd_text.specs.Device.{Device, Writes, WritesSome, supply}
use Rattle.vcd_words.specs.declared.job.UseFault.{UseFault}
use Rattle.vcd_words.specs.declared.job.UseFault.TheVariants as use_fault
use Rattle.vcd_text.proofs.Writes.{appends-none}
use Rattle.vcdkit.specs.Message.{Tells, use_outcome}
use Rattle.vcdkit.specs.Run.{IsOutcome}
use Rattle.vcdkit.specs.Ends.IsOutcome.{Part, Whole}
use Rattle.vcd_program.specs.Leaves.{IsRefusal, Leaves}
use Rattle.vcd_program_tests.specs.Echo.{Asks, echo_name, outcome_of, word_of}
use Rattle.vcd_program_tests.specs.declared.echo.Line.{Line}

-- without an argument the words are bad
pub refusal-is : (matches : ArgMatches) (f : UseFault) → Asks matches (Err f) → IsRefusal f (outcome_of (word_of matches)) (use_outcome f)
refusal-is matches use_fault.BadWords e = rw e refl
refusal-is matches (use_fault.BadLimit word) e = absurd e
refusal-is matches (use_fault.BadTime word) e = absurd e
refusal-is matches use_fault.FromAboveTo e = absurd e
refusal-is matches use_fault.NotRising e = absurd e
refusal-is matches use_fault.TooManyFiles e = absurd e
refusal-is matches use_fault.InputTwice e = absurd e
refusal-is matches (use_fault.BadArgument first second) e = absurd e
refusal-is matches use_fault.OutOfMemory e = tt

-- the line was written, or a write of it failed
module _ (line : Line) (text : Text) (named : text ≡ string_bytes line.text) (out out' err err' : Device) where
  pub line-written : Writes out out' (as_line text) → IsOutcome echo_name (clean_outcome (as_line (string_bytes line.text))) out out' err err 0
  line-written written = Whole (subst (λ t. Writes out out' (as_line t)) named written) (inl (appends-none err.held, refl)) refl

  pub line-failed : (status : ℕ) → WritesSome out out' (as_line text) → Tells echo_name err err' (codes "write failed") → status ≡ 3
      → IsOutcome echo_name (clean_outcome (as_line (string_bytes line.text))) out out' err err' status
  line-failed status written shown is = Part (subst (λ t. WritesSome out out' (as_line t)) named written) shown is

-- the line is the outcome, over no inputs
pub leaves-line : {X : Type 0} (rest : X → Option (List ℕ)) (failures : X → ℕ) (line : Line) (names : List Text) (readers : List X)
    (matches : ArgMatches) (texts : List Text) (out out' err err' : Device) (status : ℕ) → names ≡ [] → length names ≡ length readers
    → Asks matches (Ok line)
    → map rest readers ≡ map (λ text. Some text) texts → IsOutcome echo_name (clean_outcome (as_line (string_bytes line.text))) out out' err err' status
    → Leaves echo_name (λ _. outcome_of (word_of matches)) (λ _ _ _ _ inputs _ _. inputs ≡ []) texts (map (supply rest failures) readers)
    (map (supply rest failures) readers) out out' err err' status
leaves-line rest failures line names readers matches texts out out' err err' status none many asks have left = by_readers readers texts (sym many ∙ ap length none) have
  where
    said : IsOutcome echo_name (outcome_of (word_of matches)) out out' err err' status
    said = subst (λ word. IsOutcome echo_name (outcome_of word) out out' err err' status) (sym asks) left

    by_readers : (xs : List _) (ts : List Text) → length xs ≡ 0 → map rest xs ≡ map (λ text. Some text) ts
        → Leaves echo_name (λ _. outcome_of (word_of matches)) (λ _ _ _ _ inputs _ _. inputs ≡ []) ts (map (supply rest failures) xs) (map (supply rest failures) xs) out out' err err' status
    by_readers [] [] none_read has = Leaves.WithOutcome [] refl refl said
    by_readers [] (t ∷ ts) none_read has = cc
    by_readers (x ∷ xs) ts none_read has = cc
