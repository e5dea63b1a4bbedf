-- Lines on the error stream, whose faults are passed over.
use Rattle.vcd_job.proofs.Cited.{◌≡◌, ◌++◌, [], ◌∷◌, codes, List, ℕ, inl, inr, refl, sym, ap, ◌∙◌, append_assoc, Result, Ok, Err, Device, Puts, Shows, program_line, shown_message}

-- a line whose writing may fail is shown, whatever its result
pub puts-shows : {A E : Type 0} (old new : Device) (line : List ℕ) (r : Result A E) → Puts old new line r → Shows old new line
puts-shows old new line (Ok v) puts = inl puts
puts-shows old new line (Err e) puts = inr puts

-- a text with a byte in it is a line
pub some-line : (program name text : List ℕ) (byte : ℕ) → shown_message program (name ++ byte ∷ text) ≡ program_line program (name ++ byte ∷ text)
some-line program [] text byte = refl
some-line program (first ∷ name) text byte = refl

-- the message of a fault is a line
pub fault-line : (program name digits text : List ℕ) → shown_message program (name ++ codes ":" ++ digits ++ codes ": " ++ text)
    ≡ program_line program (name ++ codes ":" ++ digits ++ codes ": " ++ text)
fault-line program [] digits text = refl
fault-line program (first ∷ name) digits text = refl

-- ---- the texts of a line

line-parts : (program text : List ℕ) → program ++ (codes ": " ++ (text ++ 10 ∷ [])) ≡ program_line program text
line-parts program text = sym (append_assoc (program ++ codes ": ") text (10 ∷ []) ∙ append_assoc program (codes ": ") (text ++ 10 ∷ []))

-- a text of two parts
pub both-line : (program first second p f s : List ℕ) → p ≡ program → f ≡ first → s ≡ second → p ++ (codes ": " ++ (f ++ (s ++ 10 ∷ []))) ≡ program_line program (first ++ second)
both-line program first second p f s ep ef es = rw (ep, ef, es) (ap (λ l. program ++ (codes ": " ++ l)) (sym (append_assoc first second (10 ∷ []))) ∙ line-parts program (first ++ second))

-- the place of a fault, and its text
pub fault-parts : (program name digits text p n t : List ℕ) → p ≡ program → n ≡ name → t ≡ text
    → (p ++ (codes ": " ++ (n ++ codes ":"))) ++ (digits ++ (codes ": " ++ (t ++ 10 ∷ []))) ≡ program_line program (name ++ codes ":" ++ digits ++ codes ": " ++ text)
fault-parts program name digits text p n t ep en et =
    let place = name ++ codes ":" in
    let rest = digits ++ (codes ": " ++ (text ++ 10 ∷ [])) in
    rw (ep, en, et) (
    append_assoc program (codes ": " ++ place) rest
    ∙ ap (λ l. program ++ (codes ": " ++ l)) (sym (append_assoc place digits (codes ": " ++ (text ++ 10 ∷ [])))
    ∙ sym (append_assoc (place ++ digits) (codes ": ") (text ++ 10 ∷ [])) ∙ sym (append_assoc (place ++ digits ++ codes ": ") text (10 ∷ [])))
    ∙ line-parts program (place ++ digits ++ codes ": " ++ text)
    )
