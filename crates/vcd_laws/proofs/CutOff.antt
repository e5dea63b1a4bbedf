-- If sources fail earlier, the output is a prefix of what it would have been.
use Rattle.vcd_laws.proofs.Cited.{◌≡◌, ◌≢◌, ℕ, List, [], ◌∷◌, ◌++◌, None, inl, inr, refl, sym, ap, subst, Input, Mark, stream_of, Want, outcome, Seen, IsPrefixOf, run_of, AreSeen, IsCutOff, AreCutOff, GiveNoMore, CutOffIsAPrefix, CutOffMergeIsAPrefix, CutOffIsAllThatIsKnown, CutOffMergeIsAllThatIsKnown}
use Rattle.vcd_laws.proofs.FrontTokens.{front_tokens, front_halts}
use Rattle.vcd_laws.proofs.DueText.{same_text, longer_text, due_is_left_at_a_halt, due_is_never_revised}
use Rattle.vcd_laws.proofs.MergeDue.{merge_due_is_left_at_halts, merge_due_is_never_revised}

-- reading is halted there, and the tokens before are the first ones of the longer input
cut_tokens : (limit : ℕ) (cut input : Input) → IsCutOff cut input
    → ((stream_of limit cut).halt ≢ None) × IsPrefixOf (stream_of limit cut).tokens (stream_of limit input).tokens
cut_tokens limit cut input (mark, (more, bytes)) =
    let failed : record { bytes = cut.bytes; mark = Mark.Failed } ≡ cut = ap (λ (m : Mark). record { bytes = cut.bytes; mark = m }) (sym mark) in
    let whole : record { bytes = cut.bytes ++ more; mark = input.mark } ≡ input = ap (λ (l : List ℕ). record { bytes = l; mark = input.mark }) (sym bytes) in (
      subst (λ (i : Input). (stream_of limit i).halt ≢ None) failed (front_halts limit cut.bytes more input.mark),
      subst (λ (i : Input). IsPrefixOf (stream_of limit i).tokens (stream_of limit input).tokens) failed
          (subst (λ (i : Input). IsPrefixOf (stream_of limit (record { bytes = cut.bytes; mark = Mark.Failed })).tokens (stream_of limit i).tokens) whole
          (front_tokens limit cut.bytes more input.mark)),
    )

pub cut_off_is_a_prefix : CutOffIsAPrefix
cut_off_is_a_prefix want limit name cut input is off =
    let t = cut_tokens limit cut input off in
    subst (λ (l : List ℕ). IsPrefixOf l (run_of want limit name input).output) (sym (due_is_left_at_a_halt want limit name cut is t.0))
    (due_is_never_revised want limit name (stream_of limit cut).tokens input is t.1)

-- what is known of inputs that may have failed earlier
known_of : (limit : ℕ) (cuts inputs : List Input) → AreCutOff cuts inputs
    → (seen : List Seen) × GiveNoMore limit seen cuts × AreSeen limit seen inputs
known_of limit [] [] all = ([], tt, tt)
known_of limit [] (input ∷ inputs) all = absurd all
known_of limit (cut ∷ cuts) [] all = absurd all
known_of limit (cut ∷ cuts) (input ∷ inputs) (inl off, all) =
    let t = cut_tokens limit cut input off in
    let more = known_of limit cuts inputs all in
    (Seen.First (stream_of limit cut).tokens ∷ more.0, ((refl, t.0), more.1), (t.1, more.2))
known_of limit (cut ∷ cuts) (input ∷ inputs) (inr same, all) =
    let more = known_of limit cuts inputs all in
    (Seen.All (stream_of limit cut) ∷ more.0, (refl, more.1), (ap (stream_of limit) (sym same), more.2))

pub cut_off_merge_is_a_prefix : CutOffMergeIsAPrefix
cut_off_merge_is_a_prefix limit names cuts inputs all =
    let known = known_of limit cuts inputs all in
    subst (λ (l : List ℕ). IsPrefixOf l (outcome Want.Merge limit names inputs).output)
    (sym (merge_due_is_left_at_halts limit names known.0 cuts known.1))
    (merge_due_is_never_revised limit names known.0 inputs known.2)

pub cut_off_is_all_that_is_known : CutOffIsAllThatIsKnown
cut_off_is_all_that_is_known want limit name text cut is failed = (
  λ known. known cut (same_text cut.bytes cut.bytes refl),
  λ begins input front. longer_text _ _ _ begins (cut_off_is_a_prefix want limit name cut input is (failed, front)),
)

no_more : (cuts : List Input) → AreCutOff cuts cuts
no_more [] = tt
no_more (cut ∷ cuts) = (inr refl, no_more cuts)

pub cut_off_merge_is_all_that_is_known : CutOffMergeIsAllThatIsKnown
cut_off_merge_is_all_that_is_known limit names text cuts = (
  λ known. known cuts (no_more cuts),
  λ begins inputs all. longer_text _ _ _ begins (cut_off_merge_is_a_prefix limit names cuts inputs all),
)
