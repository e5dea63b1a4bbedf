-- How much a run of any task has read, step by step.
use Rattle.std.proofs.Common.{◌≡◌, ℕ, ◌+◌, inl, inr, false, List, [], take, Result, Ok, Err, refl, sym, ap, subst, ◌∙◌, arith}
use Rattle.std.specs.Io.KnownBytes.{Appends}
use Rattle.vcd_model.specs.Declarations.{IdCode}
use Rattle.vcd_model.specs.Header.{Header}
use Rattle.vcd_model.specs.Input.{Input}
use Rattle.vcd_model.specs.Items.{BodyItem}
use Rattle.vcd_model.specs.Laws.{IsPrefixOf}
use Rattle.vcd_model.specs.Tokens.{Token}
use Rattle.vcd_text.specs.Advances.{Advances, HasNotFailed}
use Rattle.vcd_text.specs.Answer.{failed_after}
use Rattle.vcd_text.specs.Device.{Device, Supply, Writes}
use Rattle.vcd_text.specs.Feed.{GaveOnlySeen, chunk_len_of, limit_of, seen, source_of, supply_of}
use Rattle.vcd_text.specs.declared.device.Source.{Ghosts}
use Rattle.vcd_text.specs.declared.feed.Feed.{Feed}
use Rattle.vcd_body.proofs.CallerLemmas.{last_given}
use Rattle.vcd_body.proofs.PaceLemmas.{HasReadFor, keeping_up, past_end, past_item, past_stop, read_past, read_still}
use Rattle.vcd_body.specs.Answer.{EndsAtRead, IsLeft, reads_failed}
use Rattle.vcd_body.specs.Asked.{HaveJust}
use Rattle.vcd_body.specs.Pace.{ReadsPast}
use Rattle.vcd_body.specs.Reads.{GaveItem}
use Rattle.vcd_body.specs.declared.answer.Done.TheVariants.{Early, Whole}
use Rattle.vcd_body.specs.declared.answer.More.{More}
use Rattle.vcd_body.specs.declared.answer.More.TheVariants.{Again, Ended}
use Rattle.vcd_body.specs.declared.answer.Stop.{Stop}
use Rattle.vcd_body.specs.declared.answer.Stop.TheVariants.{Dump, Read, Unmatched, Write}
use Rattle.vcd_body.specs.declared.item.Regs.{Regs}
use Rattle.vcd_run.specs.Plan.{Plan, due_with, is_settled_with}
use Rattle.vcd_run.specs.Run.{ReadsNeeded, StepGives, left_of, step_end}

-- ---- one step

-- if a read failed, the source still has all that it had not given
abbrev pub KeepsRest : {X : Type 0} {g : Ghosts X} → Input → Feed X g → Result More Stop → Type 0
KeepsRest i f (Err (Read input)) = GaveOnlySeen i f
KeepsRest i f result = Unit {0}

-- after these items a step read no more than needed, and it may have written more
pub record StepReads {X : Type 0} {g : Ghosts X} (codes : List IdCode) (i : Input) (front : List Token) (items : List BodyItem) (f' : Feed X g)
    (out out' : Device) (result : Result More Stop) : Type 0 where
  pub past : ReadsPast codes (left_of i (seen f') result) front items f'
  pub rest : KeepsRest i f' result
  pub more : List ℕ
  pub appends : Appends out.held out'.held more

module _ {T X : Type 0} {g : Ghosts X} (keeps : T → Plan → Header → List BodyItem → Type 0) (told : List BodyItem → List ℕ → Type 0) (p : Plan)
    (h : Header) (i : Input) (front : List Token) (items : List BodyItem) (task : T) (r : Regs) (f : Feed X g) (out out' : Device) where
  to_item : (x : BodyItem) → GaveItem h.codes i front items x f r → ReadsPast h.codes i front items f
  to_item x gave = past_item h.codes i front items f x r (last_given h.codes i front items x f r gave)

  pub reads_past : (result : Result More Stop) → StepGives keeps p h i front told items task r f out out' result → StepReads h.codes i front items f out out' result
  reads_past (Ok Again) (x, gave, taken, grows) = record { past = to_item x gave; rest = tt; more = grows.0; appends = grows.2.0 }
  reads_past (Ok (Ended Whole)) (all, close, is) = record { past = past_end h.codes i front items f r all; rest = tt; more = p.closes items; appends = close.0 }
  reads_past (Ok (Ended Early)) (x, gave, ends, grows, is) = record { past = to_item x gave; rest = tt; more = grows.0; appends = grows.2.0 }
  reads_past (Err (Dump input line fault)) (first, other, is, fails, none) = record { past = past_stop h.codes i front items f fails.1; rest = tt; more = []; appends = none.0 }
  reads_past (Err (Read input)) (first, fails, rest, none) = record { past = past_stop h.codes (failed_after (seen f) i) front items f fails.1; rest = rest; more = []; appends = none.0 }
  reads_past (Err Write) (inl (x, gave, grows)) = record { past = to_item x gave; rest = tt; more = take grows.2.0.0 grows.0; appends = grows.2.0.1 }
  reads_past (Err Write) (inr (all, some)) = record { past = past_end h.codes i front items f r all; rest = tt; more = take some.0.0 (p.closes items); appends = some.0.1 }
  reads_past (Err (Unmatched name)) none = absurd none

-- ---- all of them

-- what is left of the input after a step
pub left_is : {X : Type 0} {g : Ghosts X} (i : Input) (before : Supply) (f f' : Feed X g) (r : Result More Stop) → HasNotFailed f
    → g.failures (source_of f) ≡ before.failures → Advances g.failures f f' (step_end r) → KeepsRest i f' r
    → IsLeft i before (supply_of f') (left_of i (seen f') r)
left_is i before f f' (Ok Again) unfailed same a rest = inl (a.same (λ x. cc) ∙ same, refl)
left_is i before f f' (Ok (Ended done)) unfailed same a rest = inl (a.same (λ x. cc) ∙ same, refl)
left_is i before f f' (Err (Dump input line fault)) unfailed same a rest = inl (a.same (λ x. cc) ∙ same, refl)
left_is i before f f' (Err (Read input)) unfailed same a rest = inr (a.failed refl unfailed ∙ ap (λ n. n + 1) same, seen f', refl, rest)
left_is i before f f' (Err Write) unfailed same a rest = inl (a.same (λ x. cc) ∙ same, refl)
left_is i before f f' (Err (Unmatched name)) unfailed same a rest = inl (a.same (λ x. cc) ∙ same, refl)

none_more : (n m : ℕ) → m ≡ n → m ≡ n + 0
none_more n m e = omega arith

-- how many reads failed in a step
pub step_reads : {X : Type 0} {g : Ghosts X} (failures : X → ℕ) (old new : Feed X g) (r : Result More Stop) → HasNotFailed old
    → Advances failures old new (step_end r) → failures (source_of new) ≡ failures (source_of old) + reads_failed r
step_reads failures old new (Ok Again) o a = none_more _ _ (a.same (λ x. cc))
step_reads failures old new (Ok (Ended done)) o a = none_more _ _ (a.same (λ x. cc))
step_reads failures old new (Err (Dump input line fault)) o a = none_more _ _ (a.same (λ x. cc))
step_reads failures old new (Err (Read input)) o a = a.failed refl o
step_reads failures old new (Err Write) o a = none_more _ _ (a.same (λ x. cc))
step_reads failures old new (Err (Unmatched name)) o a = none_more _ _ (a.same (λ x. cc))

-- a read that a step failed with was the last one of its source
pub step_last : {X : Type 0} {g : Ghosts X} (failures : X → ℕ) (old new : Feed X g) (r : Result More Stop) → HasNotFailed old
    → Advances failures old new (step_end r) → EndsAtRead (g.last_failed (source_of new)) r
step_last failures old new (Ok Again) o a = λ input is. absurd (cc)
step_last failures old new (Ok (Ended done)) o a = λ input is. absurd (cc)
step_last failures old new (Err (Dump input line fault)) o a = λ input is. absurd (cc)
step_last failures old new (Err (Read input)) o a = λ input is. a.last refl o
step_last failures old new (Err Write) o a = λ input is. absurd (cc)
step_last failures old new (Err (Unmatched name)) o a = λ input is. absurd (cc)

module _ (p : Plan) (h : Header) (limit chunk : ℕ) (i : Input) (front : List Token) (before : Supply) where
  -- no more was read than these items need, once what is due with them was written
  abbrev pub HasRead : List BodyItem → Supply → Type 0
  HasRead items now = HasReadFor (is_settled_with p h) (due_with p h) limit chunk i front (p.opens items) before now

  -- with more items what was written is no less
  pub read_more : (items more : List BodyItem) (now : Supply) → IsPrefixOf (p.opens items) (p.opens more) → HasRead items now → HasRead more now
  read_more items more now longer read =
      subst (λ (l : List ℕ). HasReadFor (is_settled_with p h) (due_with p h) limit chunk i front l before now) (sym longer.1)
      (read_still (is_settled_with p h) (due_with p h) limit chunk i front (p.opens items) longer.0 before now read)

  -- and the same if nothing was read since
  pub read_ahead : (items more : List BodyItem) (now now' : Supply) → IsPrefixOf (p.opens items) (p.opens more) → now' ≡ now → HasRead items now → HasRead more now'
  read_ahead items more now now' longer still read = subst (λ (s : Supply). HasRead more s) (sym still) (read_more items more now longer read)

  module _ {X : Type 0} {g : Ghosts X} (items : List BodyItem) (f : Feed X g) (on : p.ends items ≡ false) (same : limit_of f ≡ limit) (size : chunk_len_of f ≡ chunk) where
    -- a step from these items
    pub read_step : ReadsPast h.codes i front items f → HasRead items (supply_of f)
    read_step past = read_past (is_settled_with p h) (due_with p h) limit chunk i front h.codes items f before (p.opens items) same size
        (λ ts have. still ts have) (λ ts have. ap p.opens have.1) past
      where
        still : (ts : List Token) → HaveJust h.codes items ts → is_settled_with p h ts ≡ false
        still ts have = rw (have.0, have.1) on

  -- nothing more was read, and a write failed
  pub needed_before : (items : List BodyItem) (now : Supply) (begin out out' : Device) → now.failures ≡ before.failures → HasRead items now
      → Writes begin out (p.opens items) → (more : List ℕ) × Appends out.held out'.held more
      → ReadsNeeded p h limit chunk i i front before now begin out'
  needed_before items now begin out out' same read writes some = record {
    is_left = inl (same, refl);
    read = read.task;
    keeps_up = keeping_up (is_settled_with p h) (due_with p h) limit chunk i front (p.opens items) some.0 before now begin out out' read writes.0 some.1;
  }

-- the last step
pub needed_last : {X : Type 0} {g : Ghosts X} (p : Plan) (h : Header) (limit chunk : ℕ) (i : Input) (front : List Token) (before : Supply)
    (items : List BodyItem) (f f' : Feed X g) (begin out out' : Device) (r : Result More Stop) → p.ends items ≡ false → limit_of f' ≡ limit
    → chunk_len_of f' ≡ chunk → HasNotFailed f → g.failures (source_of f) ≡ before.failures
    → Advances g.failures f f' (step_end r) → Writes begin out (p.opens items) → StepReads h.codes i front items f' out out' r
    → ReadsNeeded p h limit chunk i (left_of i (seen f') r) front before (supply_of f') begin out'
needed_last p h limit chunk i front before items f f' begin out out' r on same size unfailed none a writes step =
    let left = left_of i (seen f') r in
    let read = read_step p h limit chunk left front before items f' on same size step.past in
    record {
      is_left = left_is i before f f' r unfailed none a step.rest;
      read = read.task;
      keeps_up = keeping_up (is_settled_with p h) (due_with p h) limit chunk left front (p.opens items) step.more before (supply_of f') begin out out' read writes.0 step.appends;
    }
