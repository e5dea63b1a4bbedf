-- The lines of refusals, in the parts that are written.
use Rattle.std.proofs.Common.{◌≡◌, ◌==◌, ◌++◌, ◌∷◌, ◌∙◌, [], List, ℕ, Result, false, length, ap, append_assoc, codes, decimal, refl, subst, sym}
use Rattle.vcd_job.proofs.MessageLemmas.{some-line}
use Rattle.vcd_model.specs.Outcome.{program_line, shown_message}
use Rattle.vcd_model.specs.Within.{late, refused}
use Rattle.vcd_text.specs.Device.{Device, Puts}
use Rattle.vcd_text.specs.declared.device.WriteFailed.{WriteFailed}
use Rattle.vcd_compare_words.specs.declared.job.Comparing.{Comparing}
use Rattle.vcdkit_compare.specs.Work.{name_of, program_name, refusal_of}
use Rattle.vcdkit_compare.specs.declared.job.Refusal.{Refusal}
use Rattle.vcdkit_compare.specs.declared.job.Refusal.TheVariants.{Late, Unselected}

-- a name that selects nothing
pub as-unselected : (d d' : Device) (name : List ℕ) (r : Result Unit WriteFailed)
    → Puts d d' (codes "vcdkit-compare: " ++ (name ++ (codes ": selects nothing" ++ 10 ∷ []))) r
    → Puts d d' (program_line program_name (refused name).message) r
as-unselected d d' name r p = subst (λ l. Puts d d' l r) (sym (ap (λ l. codes "vcdkit-compare: " ++ l) (append_assoc name (codes ": selects nothing") (10 ∷ [])))) p

-- a first time after the last one
pub as-late : (d d' : Device) (from last : ℕ) (r : Result Unit WriteFailed)
    → Puts d d' (codes "vcdkit-compare: --from: " ++ (decimal from ++ (codes " is after the end of the dump, " ++ (decimal last ++ 10 ∷ [])))) r
    → Puts d d' (program_line program_name (late from last []).message) r
as-late d d' from last r p =
    let middle = codes " is after the end of the dump, " in
    subst (λ l. Puts d d' l r) (sym (ap (λ l. codes "vcdkit-compare: --from: " ++ l) (append_assoc (decimal from ++ middle) (decimal last) (10 ∷ [])
    ∙ append_assoc (decimal from) middle (decimal last ++ 10 ∷ [])))) p

-- each refusal is said by a line, with status 2
pub refusal-line : (job : Comparing) (why : Refusal) → shown_message program_name (refusal_of job why).message ≡ program_line program_name (refusal_of job why).message
refusal-line job (Unselected fault) = some-line program_name (name_of job fault) (codes " selects nothing") 58
refusal-line job (Late last) = refl

pub refusal-two : (job : Comparing) (why : Refusal) → (refusal_of job why).status ≡ 2
refusal-two job (Unselected fault) = refl
refusal-two job (Late last) = refl

-- some text is said by a line
pub said-first : (a b : List ℕ) → (length a == 0) ≡ false → shown_message program_name (a ++ b) ≡ program_line program_name (a ++ b)
said-first [] b e = absurd (cc)
said-first (x ∷ a) b e = refl

pub said-second : (a b : List ℕ) → (length b == 0) ≡ false → shown_message program_name (a ++ b) ≡ program_line program_name (a ++ b)
said-second [] [] e = absurd (cc)
said-second [] (x ∷ b) e = refl
said-second (x ∷ a) b e = refl
