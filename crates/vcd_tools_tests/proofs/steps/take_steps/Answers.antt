use Rattle.std.proofs.Common.{◌≡◌, ◌∙◌, ◌+◌, map, length, ap, add-zero, Ok, Result}
use Rattle.vcd_tools.specs.Answer.{goes_on, writes_failed}
use Rattle.vcd_tools.specs.More.{More}
use Rattle.vcd_tools.specs.Stop.{Stop}
use Rattle.vcd_merge.specs.MergeParts.{SameLengths}
use Rattle.vcd_merge.specs.declared.windows.Windows.{Windows}
use Rattle.vcd_merge.proofs.MergeRoomLemmas.{still_within}
use Rattle.vcd_merge.proofs.MergeRuns.{same_failures, still_low}
use Rattle.vcd_tools_tests.proofs.steps.take_steps.Goals as goal

same_twice : (a b c : Windows) → SameLengths a b → SameLengths b c → SameLengths a c
same_twice a b c p q = record { chunks = q.chunks ∙ p.chunks; tokens = q.tokens ∙ p.tokens; values = q.values ∙ p.values }

pub merge_step-requires-clause-reads : goal.merge_step-requires-clause-reads
merge_step-requires-clause-reads g c = still_low g.S.Source.failures c.args.sources.now c.items.sources c.items.invariant.reads c.requires.reads

pub merge_step-requires-clause-bound : goal.merge_step-requires-clause-bound
merge_step-requires-clause-bound g c =
    let v = c.items.invariant in
    still_within (length c.args.merge.now.seats.now) (length c.items.merge.seats.now)
    c.args.merge.now.heads.now c.items.merge.heads.now c.args.windows.now c.items.windows v.seats v.heads v.windows c.requires.bound

pub items-preserved : goal.items-preserved
items-preserved g c =
    let again = ap (λ a. Ok a) c.in-Again.is in
    let st = c.in_ok-merge_step.ensures in
    let v = c.items.invariant in record {
      going = st.going ∙ ap goes_on again;
      ready = st.ready again;
      reads = same_failures (map g.S.Source.failures c.items.sources) _ st.reads.0 (Ok c.in_ok-merge_step.field-0) again st.reads.2 ∙ v.reads;
      writes = st.writes ∙ ap (λ (r : Result More Stop). (g.W.Sink.device c.items.out).failures + writes_failed r) again ∙ add-zero _ ∙ v.writes;
      seats = st.lengths.0 ∙ v.seats;
      windows = same_twice c.args.windows.now c.items.windows c.merge_step.new.windows v.windows st.lengths.1;
      heads = st.heads ∙ v.heads;
    }
