-- A strobe over one input, as a job: its outcome is that of the definitions.
use Rattle.std.proofs.Common.{◌≡◌, ◌++◌, ◌∷◌, ℕ, List, [], append-nil, codes, Option, Some, None, refl, sym, ap}
use Rattle.vcd_model.proofs.MergeSoFar.{fault_output}
use Rattle.vcd_model.specs.Compare.{fault_after}
use Rattle.vcd_model.specs.HeaderReading.{header_fault_of}
use Rattle.vcd_model.specs.Items.{BodyItem}
use Rattle.vcd_model.specs.Laws.{IsPrefixOf}
use Rattle.vcd_model.specs.Outcome.{Opened, items_in, name_at}
use Rattle.vcd_model.specs.Reading.{Fault}
use Rattle.vcd_model.specs.Selection.{first_unmatched}
use Rattle.vcd_model.specs.Strobe.{Clock, Strobe, at_end, clocks_of, edges_in, no_clock, refused, strobe, strobe_body, strobe_dump, strobe_open}
use Rattle.vcd_model.specs.Tokens.{stream_of}
use Rattle.vcd_run.specs.Outcomes.{KeepOutput, over_plan}
use Rattle.vcd_strobe.specs.Strobes.{strobe_plan}
use Rattle.vcd_job.proofs.OutcomeLemmas.{head_of, not_opened, opened_as, opened_is}
use Rattle.vcd_job.specs.Work.{outcome_of, over_header}
use Rattle.vcdkit_strobe.specs.Work.{WorkIsStrobe, course_if, ways_of, work_of}

module _ (q : Strobe) (name : List ℕ) (o : Opened) where
  abbrev text : List ℕ
  text = strobe_open (clocks_of o.header q.clocks) o.header q.names (items_in o)

  -- the outcome of a dump whose header is read is that of its plan
  by_fault : (f : Option Fault) → over_plan (strobe_plan (clocks_of o.header q.clocks) o.header q.names) (ways_of (clocks_of o.header q.clocks) name) (items_in o) f
      ≡ elim f [ Some f ↦ fault_after text name f | None ↦ at_end name (edges_in (clocks_of o.header q.clocks) (items_in o)) text ]
  unfolding over_plan
  by_fault (Some f) = refl
  by_fault None = ap (at_end name (edges_in (clocks_of o.header q.clocks) (items_in o))) (append-nil text)

  by_names : (none : Option (List ℕ)) (unmatched : Option ℕ) → over_header (course_if none unmatched q name o.header) o
      ≡ elim none [
        | Some message ↦ refused message
        | None ↦ elim unmatched [ Some i ↦ refused (name_at q.names i ++ codes ": selects nothing") | None ↦ strobe_body q name o ]
      ]
  by_names (Some message) unmatched = refl
  by_names None (Some i) = refl
  by_names None None = by_fault _

  dump_same : over_header ((work_of q).course name o.header) o ≡ strobe_dump q name o
  unfolding strobe_dump
  dump_same = by_names (no_clock o.header q.clocks) (first_unmatched q.names o.header.declarations)

-- the outcome of the job is that of the definitions
pub work_is_strobe : WorkIsStrobe
unfolding outcome_of strobe
work_is_strobe q limit name i = by_header (header_fault_of (stream_of limit i) (head_of limit i)) refl
  where
    by_header : (f : Option Fault) → header_fault_of (stream_of limit i) (head_of limit i) ≡ f → outcome_of (work_of q) limit name i ≡ strobe q limit name i
    by_header None e = rw (opened_is limit i e, outcome_of, strobe) (dump_same q name (opened_as limit i (head_of limit i)))
    by_header (Some f) e = rw (not_opened limit i f e, outcome_of, strobe) refl

-- each outcome has its text
pub kept : (ks : List Clock) (name : List ℕ) → KeepOutput (ways_of ks name)
kept ks name = record { early = λ text. ([], sym (append-nil text)); well = λ items text. ended (edges_in ks items) text; faulty = λ text f. fault_output text name f }
  where
    ended : (edges : List (List BodyItem)) (text : List ℕ) → IsPrefixOf text (at_end name edges text).output
    ended [] text = ([], sym (append-nil text))
    ended (edge ∷ edges) text = ([], sym (append-nil text))
