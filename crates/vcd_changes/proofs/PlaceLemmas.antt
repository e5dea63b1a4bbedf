-- A `Place` keeps what is known of the items before it, and a feed over a dump in memory has met no
-- failed read.
use Rattle.vcd_changes.proofs.Cited.{◌≡◌, ◌≢◌, ◌∙◌, ◌==◌, ◌<◌, ◌++◌, ℕ, Bool, true, false, not, cond, List, Option, Some, None, Ok, Err, ap, refl, sym, subst, length, inl, inr, arith, IdCode, Clean, Failed, Input, BodyItem, Token, HasNotFailed, whole, HasGiven, HasGivenTo, chunk_len_of, limit_of, InPhase, IsOffset, settled, Ghosts, Feed, Offset, Parked, Phase, Going, Ended, Halted, AreRegsAfter, BodyHas, GaveItems, Regs, Section, Vars, Off, On, All, Place, EndsSo, Reading, ChangeRow, Filled, EndsAt, IsAfter, status_of, place_of, regs_of, section_at, section_number}
use Rattle.vcd_text.specs.declared.answer.Halt.TheVariants as halt
use Rattle.vcd_changes.specs.declared.rows.Filled.TheVariants as filled

section_back : (s : Option Section) → section_at (section_number s) ≡ s
section_back None = refl
section_back (Some Vars) = refl
section_back (Some Off) = refl
section_back (Some On) = refl
section_back (Some All) = refl

mark_back : (b : Bool) → not (cond b 1 0 == 0) ≡ b
mark_back true = refl
mark_back false = refl

pub regs_back : (limit : ℕ) (offset : Offset) (r : Regs) → regs_of (place_of limit offset r) ≡ r
regs_back limit offset r = ap (λ b. record { time = r.time; marked = b; section = section_at (section_number r.section) }) (mark_back r.marked)
    ∙ ap (λ s. record { time = r.time; marked = r.marked; section = s }) (section_back r.section)

clean : Clean ≡ Failed → ⊥
clean e = cc

open_phase : (phase : Phase) (limit : ℕ) (rest : Option (List ℕ)) (chunk : List ℕ) (p : Parked) (dump : List ℕ) (given : List Token)
    → InPhase phase limit rest chunk p (whole dump) given → settled phase ≢ Some (Err halt.ReadFailed)
open_phase Going limit rest chunk p dump given h = λ e. cc
open_phase Ended limit rest chunk p dump given h = λ e. cc
open_phase (Halted halt.TokenTooLong) limit rest chunk p dump given h = λ e. cc
open_phase (Halted halt.InputTooLong) limit rest chunk p dump given h = λ e. cc
open_phase (Halted halt.ReadFailed) limit rest chunk p dump given h = λ e. clean h.1

-- a feed that has given tokens of a dump that is read to its end has met no failed read
pub has_not_failed : {X : Type 0} {g : Ghosts X} (f : Feed X g) (dump : List ℕ) (given : List Token) → HasGiven (whole dump) given f → HasNotFailed f
has_not_failed {X} {g} f dump given h = open_phase f.parked.phase (length f.token.now) (g.rest f.source.now) f.chunk.now f.parked dump given h.at

-- the next call resumes where the items end that a feed has given
pub is_after : {X : Type 0} {g : Ghosts X} (limit : ℕ) (codes : List IdCode) (i : Input) (front : List Token) (items : List BodyItem) (f : Feed X g)
    (r : Regs) (o : Offset) → 0 < limit → GaveItems codes i front items f r → limit_of f ≡ limit → chunk_len_of f ≡ 8192
    → ((j : Input) (given : List Token) → HasGiven j given f → HasGivenTo (chunk_len_of f) (limit_of f) o j given) → IsOffset o → IsAfter limit codes i front items (place_of limit o r)
is_after limit codes i front items f r o some gave is chunk to comes =
    let stands : HasGivenTo 8192 limit o i (front ++ gave.given) = subst (λ (n : ℕ). HasGivenTo n limit o i (front ++ gave.given)) chunk
    (subst (λ (n : ℕ). HasGivenTo (chunk_len_of f) n o i (front ++ gave.given)) is (to i (front ++ gave.given) gave.stands)) in
    record {
      given = gave.given;
      placed = gave.placed;
      begun = λ e. absurd (omega (arith, some, e));
      comes = comes;
      stands = stands;
      short = λ e. subst (λ (n : ℕ). HasGivenTo 8192 n o i (front ++ gave.given)) e stands;
      so_far = gave.so_far;
      items_are = gave.items_are;
      known = subst (AreRegsAfter items) (sym (regs_back limit o r)) gave.known;
    }

-- a feed that resumes there has given them
pub goes_on : {X : Type 0} {g : Ghosts X} (limit : ℕ) (codes : List IdCode) (i : Input) (front : List Token) (items : List BodyItem) (f : Feed X g)
    (p : Place) (after : IsAfter limit codes i front items p) → HasGiven i (front ++ after.given) f → GaveItems codes i front items f (regs_of p)
goes_on limit codes i front items f p after stands = record { given = after.given; placed = after.placed; stands = stands; so_far = after.so_far; items_are = after.items_are; known = after.known }

-- how a reading ends that has met no fault
pub ends_well : {X : Type 0} {g : Ghosts X} (limit : ℕ) (codes : List IdCode) (i : Input) (front : List Token) (items : List BodyItem) (f : Feed X g)
    (r : Regs) (count : ℕ) (rows : List ChangeRow) (filled : Filled) (reading : Reading)
    → EndsSo codes i front items f r count rows (Ok filled) → limit_of f ≡ limit → reading.count ≡ count
    → (GaveItems codes i front items f r → IsAfter limit codes i front items reading.place)
    → EndsAt limit codes i front items reading rows (status_of filled)
ends_well limit codes i front items f r count rows filled.All reading h is same after = inl (refl, subst (λ (n : ℕ). BodyHas codes i front n items None) is h.has, after h.gave)
ends_well limit codes i front items f r count rows filled.Full reading h is same after = inr (inr (refl, same ∙ h.1, after h.0))
