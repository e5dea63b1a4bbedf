-- Runs over a host are runs over what the host stands over, if that is so of each opening.
use Rattle.vcd_program.proofs.Cited.{◌∷◌, [], ℕ, List, Bool, ap, inl, inr, subst, sym, Option, Result, Text, ArgMatches, Device, Opens, OpenFault, Finishes, Programs, Runs, RunsOn}

-- `under host` is what a host stands over, and `Holds` says what stays true of the host
module _ {A J H P I : Type 0} (a : Programs A J) (opens : H → Option Text → Result I OpenFault → H → Type 0) (opens_under : P → Option Text
    → Result I OpenFault → P → Type 0) (under_host : H → P) (Holds : H → Type 0)
    (step : (old new : H) (name : Option Text) (result : Result I OpenFault) → Holds old → opens old name result new
    → opens_under (under_host old) name result (under_host new) × Holds new) where
  opens-under : (host : H) (names : List (Option Text)) (inputs : List I) (after : H) → Holds host → Opens opens host names inputs after
      → Opens opens_under (under_host host) names inputs (under_host after) × Holds after
  opens-under host [] [] after holds o = (ap under_host o, subst Holds (sym o) holds)
  opens-under host [] (i ∷ inputs) after holds o = absurd o
  opens-under host (n ∷ names) [] after holds o = absurd o
  opens-under host (n ∷ names) (i ∷ inputs) after holds o =
      let one = step host o.0 n _ holds o.1 in
      let more = opens-under o.0 names inputs after one.1 o.2 in
      ((under_host o.0, one.0, more.0), more.1)

  module _ (rest : I → Option (List ℕ)) (failures : I → ℕ) (last_failed : I → Bool) (host host' : H) (holds : Holds host) where
    runs-under : (matches : ArgMatches) (out out' err err' : Device) (status : ℕ) (NoneKept : Type 0) → Runs a opens rest failures last_failed matches host host' out out' err err' status NoneKept
        → Runs a opens_under rest failures last_failed matches (under_host host) (under_host host') out out' err err' status NoneKept × Holds host'
    runs-under matches out out' err err' status NoneKept (Runs.Refused fault is of_words same leaves) = (Runs.Refused fault is of_words (ap under_host same) leaves, subst Holds (sym same) holds)
    runs-under matches out out' err err' status NoneKept (Runs.Ran job is readers after opened ends leaves passed_on) =
        let o = opens-under host (a.inputs matches) readers host' holds opened in
        (Runs.Ran job is readers after o.0 ends leaves passed_on, o.1)
    runs-under matches out out' err err' status NoneKept (Runs.Stopped job is name opened leaves) =
        let o = opens-under host opened.0 opened.3 opened.4 holds opened.5 in
        let last = step opened.4 host' name _ o.1 opened.6 in
        (Runs.Stopped job is name (opened.0, opened.1, opened.2, opened.3, under_host opened.4, o.0, last.0) leaves, last.1)
    runs-under matches out out' err err' status NoneKept (Runs.NoMemory is opened fails) =
        let o = opens-under host opened.0 opened.3 opened.4 holds opened.5 in
        elim opened.6 [
          | inl same ↦ (Runs.NoMemory is (opened.0, opened.1, opened.2, opened.3, under_host opened.4, o.0, inl (ap under_host same)) fails, subst Holds (sym same) o.1)
          | inr next ↦
              let last = step opened.4 host' next.0 _ o.1 next.3 in
              (Runs.NoMemory is (opened.0, opened.1, opened.2, opened.3, under_host opened.4, o.0, inr (next.0, next.1, next.2, last.0)) fails, last.1)
        ]

    words-under : (words : List Text) (out out' err err' : Device) (status : ℕ) (NoneKept : Type 0) → RunsOn a words opens rest failures last_failed host host' out out' err err' status NoneKept
        → RunsOn a words opens_under rest failures last_failed (under_host host) (under_host host') out out' err err' status NoneKept × Holds host'
    words-under words out out' err err' status NoneKept (RunsOn.Parsed matches is runs) =
        let r = runs-under _ out out' err err' status NoneKept runs in
        (RunsOn.Parsed matches is r.0, r.1)
    words-under words out out' err err' status NoneKept (RunsOn.NoMatches why is only same answers) = (RunsOn.NoMatches why is only (ap under_host same) answers, subst Holds (sym same) holds)

    -- the same once the output was flushed
    pub program-under : {W : Type 0} (device : W → Device) (flushes : W → Bool → W → Type 0) (KeptNone : W → Type 0) (words : List Text)
        (out : Device) (out' : W) (err err' : Device) (status : ℕ)
        → Finishes a.name device flushes (λ now err_now n. RunsOn a words opens rest failures last_failed host host' out (device now) err err_now n (KeptNone now)) out' err' status
        → Finishes a.name device flushes (λ now err_now n. RunsOn a words opens_under rest failures last_failed (under_host host)
        (under_host host') out (device now) err err_now n (KeptNone now)) out' err' status × Holds host'
    program-under device flushes KeptNone words out out' err err' status (Finishes.Flushed before left flushed held same) =
        let r = words-under words _ _ _ _ _ _ left in
        (Finishes.Flushed before r.0 flushed held same, r.1)
    program-under device flushes KeptNone words out out' err err' status (Finishes.Failed before left machine fails held same) =
        let r = words-under words _ _ _ _ _ _ left in
        (Finishes.Failed before r.0 machine fails held same, r.1)
    program-under device flushes KeptNone words out out' err err' status (Finishes.Unflushed before shown was left below fails held same then is) =
        let r = words-under words _ _ _ _ _ _ left in
        (Finishes.Unflushed before shown was r.0 below fails held same then is, r.1)
