-- What a program over one input leaves, in the words of a program, from what a run of its job leaves.
use Rattle.vcd_program.proofs.Cited.{◌≡◌, ◌∙◌, ℕ, List, [], ◌∷◌, map, refl, sym, subst, ap, Option, Some, Result, Ok, Err, IfErr, Text, Input, Outcome, Device, Supply, UseFault, use_outcome, IsOutcome, IsRefusal, Leaves}
use Rattle.vcd_text.specs.Device.{supply}
use Rattle.vcd_job.proofs.ProgramLemmas.{IsUnnamed, read_head, read_whole}
use Rattle.vcd_job.specs.Ends.{HasRun}
use Rattle.vcd_job.specs.Ends.HasRun.{NoMemory, WithOutcome}
use Rattle.vcd_job.specs.OneProgram.{Reads}
use Rattle.vcd_job.specs.Work.{Work, outcome_of}

module _ (program : Text) (work : Work) (same : IsUnnamed work) (limit chunk : ℕ) (name : Text) (due : List Input → Outcome)
    (due_is : (left : Input) → due (left ∷ []) ≡ outcome_of work limit name left) (out out' err err' : Device) (status : ℕ) where
  abbrev LeavesAll : (texts : List Text) → (old new : List Supply) → Type 0
  LeavesAll texts old new = Leaves program due (λ ended texts old new inputs out out'. Reads work limit chunk ended old new inputs out out') texts old new out out' err err' status

  leaves-one : (text : List ℕ) (s t : Supply) → HasRun program work limit chunk name text s t out out' err err' status → LeavesAll (text ∷ []) (s ∷ []) (t ∷ [])
  leaves-one text s t (WithOutcome left is_left read up leaves) =
      Leaves.WithOutcome (left ∷ []) (is_left, refl) (read_whole work same limit chunk name s t left out out' up read)
      (subst (λ (o : Outcome). IsOutcome program o out out' err err' status) (sym (due_is left)) leaves)
  leaves-one text s t (NoMemory left is_left read up none written shown status_is) =
      Leaves.NoMemory (left ∷ []) (is_left, refl) (read_head work same limit chunk name s t left out out' up read) (ap (λ n. n ∷ []) none) (written, shown, status_is)

  -- over the only one of these readers
  pub leaves-alone : {X : Type 0} (rest : X → Option (List ℕ)) (failures : X → ℕ) (r r' : X) (readers readers' : List X) → readers ≡ r ∷ [] → readers' ≡ r' ∷ []
      → ((text : List ℕ) → rest r ≡ Some text → HasRun program work limit chunk name text (supply rest failures r) (supply rest failures r') out out' err err' status)
      → (texts : List Text) → map rest readers ≡ map (λ text. Some text) texts → LeavesAll texts (map (supply rest failures) readers) (map (supply rest failures) readers')
  leaves-alone {X} rest failures r r' readers readers' is is' runs texts known =
      subst (λ (l : List X). LeavesAll texts (map (supply rest failures) l) (map (supply rest failures) readers')) (sym is)
      (subst (λ (l : List X). LeavesAll texts (map (supply rest failures) (r ∷ [])) (map (supply rest failures) l)) (sym is') (by_texts texts (ap (map rest) (sym is) ∙ known)))
    where
      by_texts : (texts : List Text) → map rest (r ∷ []) ≡ map (λ text. Some text) texts → LeavesAll texts (map (supply rest failures) (r ∷ [])) (map (supply rest failures) (r' ∷ []))
      by_texts [] e = absurd (cc)
      by_texts (text ∷ []) e = leaves-one text (supply rest failures r) (supply rest failures r') (runs text (cc))
      by_texts (text ∷ more ∷ texts) e = absurd (cc)

-- what is said of a fault that a call returned is the outcome of the words
pub refusals-by : {J : Type 0} (asks : Result J UseFault → Type 0) (of_words : Outcome)
    → ((f : UseFault) → asks (Err f) → IsRefusal f of_words (use_outcome f)) → (r : Result J UseFault) → asks r → IfErr r (λ fault. IsRefusal fault of_words (use_outcome fault))
refusals-by asks of_words is (Ok job) e = tt
refusals-by asks of_words is (Err f) e = is f e
