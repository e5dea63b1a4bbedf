-- How a run of the job ends, from what the strobe leaves.
use Rattle.std.proofs.Common.{◌≡◌, ◌==◌, ◌++◌, ◌∷◌, ◌∙◌, ℕ, Bool, true, false, cond, List, [], codes, slice_get, option_map, unwrap_or, Some, None, Result, Ok, Err, refl, sym, ap, subst}
use Rattle.std.specs.Prelude.{◌↔◌}
use Rattle.std.proofs.lemmas.Bool.{eqb-true, false≢true}
use Rattle.vcd_model.specs.Header.{Header}
use Rattle.vcd_model.specs.Input.{Input}
use Rattle.vcd_model.specs.Items.{BodyItem}
use Rattle.vcd_model.specs.Outcome.{Outcome, name_at}
use Rattle.vcd_model.specs.Selection.{first_unmatched}
use Rattle.vcd_model.specs.Strobe.{Clock, ClockName, at_end, clocks_of, edges_in, no_clock, no_clock_text, refused}
use Rattle.vcd_model.specs.Tokens.{Token}
use Rattle.vcd_text.specs.Device.{Device, Supply, Writes}
use Rattle.vcd_text.specs.Feed.{HasGiven, limit_of}
use Rattle.vcd_text.specs.declared.device.Source.{Ghosts}
use Rattle.vcd_text.specs.declared.feed.Feed.{Feed}
use Rattle.vcd_body.proofs.Results.{writes-none}
use Rattle.vcd_body.specs.Answer.{EndsAtRead as EndsAtStop}
use Rattle.vcd_body.specs.Prompt.{HasPassedOn as HasPassedOnAt}
use Rattle.vcd_body.specs.declared.answer.Done.{Done}
use Rattle.vcd_body.specs.declared.answer.Done.TheVariants.{Early, Whole}
use Rattle.vcd_body.specs.declared.answer.Stop.{Stop}
use Rattle.vcd_body.specs.declared.answer.Stop.TheVariants.{Unmatched}
use Rattle.vcd_run.specs.Outcomes.{Belongs}
use Rattle.vcd_run.specs.Run.{BodyGives, ReadsNeeded, left_of}
use Rattle.vcd_strobe.proofs.Outcomes.{sound}
use Rattle.vcd_strobe.specs.Named.{model_why}
use Rattle.vcd_strobe.specs.Strobes.{strobe_plan}
use Rattle.vcd_strobe.specs.declared.named.NoClock.{NoClock as Why}
use Rattle.vcd_strobe_words.specs.Asked.{strobe_in}
use Rattle.vcd_strobe_words.specs.declared.strobing.Strobing.{Strobing}
use Rattle.vcd_job.proofs.AfterLemmas.{EndsAfter, adds-none, ended_last, ended_passed, ran_over, refused_here, settled_placed, stop_leaves}
use Rattle.vcd_job.specs.Ends.{Leaves, settled_for}
use Rattle.vcd_job.specs.Failure.{EndsAtRead, HasPassedOn, failure_of}
use Rattle.vcd_job.specs.declared.answer.Answer.TheVariants.{Refused, Status}
use Rattle.vcd_job.specs.declared.failure.Failure.TheVariants.{Stopped}
use Rattle.vcdkit_strobe.specs.Calls.{speech_in}
use Rattle.vcdkit_strobe.specs.Work.{course_if, course_of, edges_end, no_clock_line, ways_of, work_in}
use Rattle.vcdkit_strobe.specs.declared.job.Refusal.{Refusal}
use Rattle.vcdkit_strobe.specs.declared.job.Refusal.TheVariants.{NoClock, NoEdge}
use Rattle.vcdkit_strobe.proofs.WorkLemmas.{kept}

-- ---- the answer

-- it is settled as the strobe is
edges_settled : (edges : ℕ) (r : Result Done Stop) (run header : List Token → Bool) → settled_for (edges_end edges r) run header ≡ run
edges_settled edges (Ok Whole) run header = refl
edges_settled edges (Ok Early) run header = refl
edges_settled edges (Err stop) run header = settled_placed Refusal (Err stop) run header

-- a failed read of the strobe is the run's
pub edges_last : (edges : ℕ) (last_failed : Bool) (r : Result Done Stop) → EndsAtStop last_failed r → EndsAtRead last_failed (failure_of (edges_end edges r))
edges_last edges last_failed (Ok Whole) e = λ input is. absurd (cc)
edges_last edges last_failed (Ok Early) e = λ input is. absurd (cc)
edges_last edges last_failed (Err stop) e = ended_last Refusal last_failed (Err stop) e

pub edges_passed : {W : Type 0} (edges : ℕ) (held : W → ℕ) (out out' : W) (r : Result Done Stop) → HasPassedOnAt (held out') r
    → HasPassedOn held out out' (failure_of (edges_end edges r))
edges_passed edges held out out' (Ok Whole) e = λ input is before. absurd (cc)
edges_passed edges held out out' (Ok Early) e = λ input is before. absurd (cc)
edges_passed edges held out out' (Err stop) e = ended_passed Refusal held out out' (Err stop) e

-- whether there was an edge
abbrev Told : List Clock → ℕ → List BodyItem → List ℕ → Type 0
Told ks edges items text = edges ≡ 0 ↔ edges_in ks items ≡ []

-- what a strobe leaves that was read to its end
whole_leaves : (job : Strobing) (name : List ℕ) (o : Outcome) (out out' : Device) (edges : ℕ) (es : List (List BodyItem)) (text : List ℕ) (b : Bool)
    → o ≡ at_end name es text → Writes out out' text → edges ≡ 0 ↔ es ≡ [] → (edges == 0) ≡ b
    → Leaves (speech_in job) o name out out' (Ok (cond b (Refused NoEdge) (Status 0)))
whole_leaves job name o out out' edges [] text true is written told e =
    (ap (λ (x : Outcome). x.message) is, ap (λ (x : Outcome). x.status) is, subst (λ (l : List ℕ). Writes out out' l) (sym (ap (λ (x : Outcome). x.output) is)) written)
whole_leaves job name o out out' edges (edge ∷ es) text true is written told e = let none = told.0 (eqb-true edges 0 e) in absurd (cc)
whole_leaves job name o out out' edges [] text false is written told e = absurd (false≢true (sym e ∙ ap (λ n. n == 0) (told.1 refl)))
whole_leaves job name o out out' edges (edge ∷ es) text false is written told e =
    (ap (λ (x : Outcome). x.message) is, ap (λ (x : Outcome). x.status) is, subst (λ (l : List ℕ). Writes out out' l) (sym (ap (λ (x : Outcome). x.output) is)) written)

-- what a strobe leaves that was done, or stopped
leaves : (job : Strobing) (ks : List Clock) (name : List ℕ) (o : Outcome) (out out' : Device) (edges : ℕ) (r : Result Done Stop) → Belongs (Told ks edges) (ways_of ks name) o out out' r
    → Leaves (speech_in job) o name out out' (edges_end edges r)
leaves job ks name o out out' edges (Ok Whole) (items, text, is, written, told) = whole_leaves job name o out out' edges (edges_in ks items) text (edges == 0) is written told refl
leaves job ks name o out out' edges (Ok Early) (items, text, is, written, told) =
    (ap (λ (x : Outcome). x.message) is, ap (λ (x : Outcome). x.status) is, subst (λ (l : List ℕ). Writes out out' l) (sym (ap (λ (x : Outcome). x.output) is)) written)
leaves job ks name o out out' edges (Err stop) belongs = stop_leaves (speech_in job) (Told ks edges) (ways_of ks name) name (λ text f. refl) o out out' stop belongs

module _ (job : Strobing) (limit chunk : ℕ) (i : Input) (front : List Token) (h : Header) (name : List ℕ) where
  -- the strobe was run over the body
  pub strobed : (edges read : ℕ) (before after : Supply) (out out' : Device) (r : Result Done Stop)
      → no_clock h (strobe_in job).clocks ≡ None → first_unmatched (strobe_in job).names h.declarations ≡ None
      → BodyGives (Told (clocks_of h (strobe_in job).clocks) edges) (strobe_plan (clocks_of h (strobe_in job).clocks) h (strobe_in job).names) h i front limit read out out' r
      → ReadsNeeded (strobe_plan (clocks_of h (strobe_in job).clocks) h (strobe_in job).names) h limit chunk i (left_of i read r) front before after out out'
      → EndsAfter (work_in job) (speech_in job) limit chunk i front h name before after out out' (edges_end edges r)
  strobed edges read before after out out' r clocked matched gives needed =
      let q = strobe_in job in
      let ks = clocks_of h q.clocks in
      ran_over (work_in job) (speech_in job) limit chunk i front h name (Told ks edges) (course_of q name h) read before after out out' out' r (edges_end edges r)
      (ap (λ c. course_if c (first_unmatched q.names h.declarations) q name h) clocked ∙ ap (λ u. course_if None u q name h) matched) (kept ks name)
      (sound ks h q.names h.codes) gives needed (adds-none out') (edges_settled edges r) (λ o belongs. leaves job ks name o out out' edges r belongs)

  module _ {X : Type 0} {x : Ghosts X} (before : Supply) (feed : Feed X x) (out : Device) (l : limit_of feed ≡ limit) (st : HasGiven i front feed) where
    -- a name is that of no clock
    pub unclocked : (at : ℕ) (why : Why) (k : ClockName) → slice_get (strobe_in job).clocks at ≡ Some k
        → no_clock h (strobe_in job).clocks ≡ Some (k.word ++ codes ": " ++ no_clock_text (model_why why))
        → EndsAfter (work_in job) (speech_in job) limit chunk i front h name before before out out (Ok (Refused (NoClock at why)))
    unclocked at why k there none =
        let q = strobe_in job in
        refused_here (work_in job) (speech_in job) limit chunk i front h name before feed out l st (no_clock_line k.word why) (Ok (Refused (NoClock at why)))
        (ap (λ c. course_if c (first_unmatched q.names h.declarations) q name h) none)
        (ap (λ n. (no_clock_line (unwrap_or (option_map (λ (c : ClockName). c.word) n) []) why).message) (sym there), refl, writes-none out)

    -- a name selects nothing
    pub unmatched : (at : ℕ) → no_clock h (strobe_in job).clocks ≡ None → first_unmatched (strobe_in job).names h.declarations ≡ Some at
        → EndsAfter (work_in job) (speech_in job) limit chunk i front h name before before out out (Err (Stopped (Unmatched at)))
    unmatched at clocked found =
        let q = strobe_in job in
        refused_here (work_in job) (speech_in job) limit chunk i front h name before feed out l st (refused (name_at q.names at ++ codes ": selects nothing"))
        (Err (Stopped (Unmatched at)))
        (ap (λ c. course_if c (first_unmatched q.names h.declarations) q name h) clocked ∙ ap (λ u. course_if None u q name h) found) (refl, refl, writes-none out)
