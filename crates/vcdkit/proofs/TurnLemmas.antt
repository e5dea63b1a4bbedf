-- That no read ran ahead of the output, for jobs of one input.
use Rattle.vcdkit.proofs.Cited.{◌≡◌, ℕ, false, List, [], ◌∷◌, subst, due, Input, Want, declarations_allowed, Device, Supply, KeepsUp, is_merge, model_want, AreInTurn, OneKeepsUp}
use Rattle.vcd_words.specs.declared.job.Want as words
use Rattle.vcd_words.specs.declared.job.Want.TheVariants as want

-- a job of one input
pub one_in_turn : (wanted : words.Want) (limit chunk : ℕ) (texts : List (List ℕ)) (old new : List Supply) (inputs : List Input) (out out' : Device)
    → is_merge wanted ≡ false → OneKeepsUp (model_want wanted) limit chunk old new inputs out out'
    → AreInTurn (model_want wanted) limit chunk texts old new inputs out out'
one_in_turn want.Merge limit chunk texts old new inputs out out' e keeps = cc
one_in_turn wanted limit chunk texts old new inputs out out' e keeps = keeps

pub one_keeps_up : (wanted : Want) (limit chunk : ℕ) (s t : Supply) (i : Input) (out out' : Device)
    → KeepsUp (due wanted declarations_allowed) limit chunk i [] s t out out' → OneKeepsUp wanted limit chunk (s ∷ []) (t ∷ []) (i ∷ []) out out'
one_keeps_up wanted limit chunk s t i out out' keeps = λ s' t' i' is_s is_t is_i.
    let same_s : s ≡ s' = cc in
    let same_t : t ≡ t' = cc in
    let same_i : i ≡ i' = cc in
    subst (λ x. KeepsUp (due wanted declarations_allowed) limit chunk x [] s' t' out out') same_i
    (subst (λ x. KeepsUp (due wanted declarations_allowed) limit chunk i [] s' x out out') same_t
    (subst (λ x. KeepsUp (due wanted declarations_allowed) limit chunk i [] x t out out') same_s keeps))
