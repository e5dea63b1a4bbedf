-- A comparison over one input, as a job: its outcome is that of the definitions, and that of a run.
use Rattle.std.proofs.Common.{◌≡◌, ℕ, Bool, true, false, cond, nat_lt, List, [], length, append-nil, Option, Some, None, Ok, refl, sym}
use Rattle.vcd_model.proofs.MergeSoFar.{fault_output}
use Rattle.vcd_model.specs.Compare.{Asked, count_line}
use Rattle.vcd_model.specs.Header.{Header}
use Rattle.vcd_model.specs.HeaderReading.{header_fault_of}
use Rattle.vcd_model.specs.Items.{time_after}
use Rattle.vcd_model.specs.Laws.{IsPrefixOf}
use Rattle.vcd_model.specs.Outcome.{Opened, body_of}
use Rattle.vcd_model.specs.Reading.{Fault}
use Rattle.vcd_model.specs.Tokens.{stream_of}
use Rattle.vcd_model.specs.Within.{Names, answer_in, comparison, compared_in, from_dump, late, outermost, refused, unselected}
use Rattle.vcd_run.specs.Outcomes.{KeepOutput, over_plan}
use Rattle.vcd_job.proofs.OutcomeLemmas.{head_of, not_opened, opened_as, opened_is}
use Rattle.vcd_job.specs.Work.{outcome_of, over_header}
use Rattle.vcdkit_compare.specs.Work.{WorkIsComparison, course_if, course_of, ways_of, work_of}

module _ (q : Asked) (name : List ℕ) where
  -- the outcome of a dump whose header is read is that of its plan
  over_course : (ns : List Names) (o : Opened) → over_header (Ok (course_of q ns name o.header)) o ≡ from_dump q ns name o
  unfolding from_dump body_of over_plan
  over_course ns o = refl

  over_same : (ns : List Names) (o : Opened) (found : Option (List ℕ))
      → over_header (course_if found q ns name o.header) o ≡ elim found [ Some one ↦ refused one | None ↦ from_dump q (outermost ns) name o ]
  over_same ns o (Some one) = refl
  over_same ns o None = over_course (outermost ns) o

-- the outcome of the job is that of the definitions
pub work_is_comparison : WorkIsComparison
unfolding outcome_of comparison
work_is_comparison q limit ns name i = by_fault (header_fault_of (stream_of limit i) (head_of limit i)) refl
  where
    by_fault : (f : Option Fault) → header_fault_of (stream_of limit i) (head_of limit i) ≡ f → outcome_of (work_of q ns) limit name i ≡ comparison q limit ns name i
    by_fault None e = rw (opened_is limit i e, outcome_of, comparison) (over_same q name ns (opened_as limit i (head_of limit i)) (unselected q (opened_as limit i (head_of limit i)).header ns))
    by_fault (Some f) e = rw (not_opened limit i f e, outcome_of, comparison) refl

-- each outcome begins with its lines
pub kept : (q : Asked) (h : Header) (ns : List Names) (name : List ℕ) → KeepOutput (ways_of q h ns name)
kept q h ns name = record {
  early = λ lines. (count_line (length (compared_in q h ns)), refl);
  well = λ items lines. by_end lines (time_after items) (nat_lt (time_after items) q.from);
  faulty = λ lines f. fault_output lines name f;
}
  where
    by_end : (lines : List ℕ) (last : ℕ) (is_late : Bool) → IsPrefixOf lines (cond is_late (late q.from last lines) (answer_in q h ns lines)).output
    by_end lines last true = ([], sym (append-nil lines))
    by_end lines last false = (count_line (length (compared_in q h ns)), refl)
