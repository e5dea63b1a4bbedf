-- What a merge writes of one item.
use Rattle.vcd_merge.proofs.Cited.{◌≡◌, ◌≢◌, ℕ, ◌+◌, ◌^◌, ◌<◌, Bool, true, false, List, length, slice_get, Some, is_some, refl, sym, ap, ap₂, ◌∙◌, arith, nat_le, slice_get_within, IdCode, Header, new_code, code_place, BodyItem, ChangeForm, leaves_open, time_after, change_line, leaves_open_is, size_or_zero_of, IsSized, HeadShown, Code, code_at, Views, IsGoodText, AreRegsAfter, Form, Scalar, Vector, RealText, Regs}
use Rattle.vcd_view.proofs.LookUpLemmas.{place_is as place_of}

-- a section is open
pub section_is : (items : List BodyItem) (r : Regs) → AreRegsAfter items r → is_some r.section ≡ leaves_open items
section_is items r known = sym (leaves_open_is items (time_after items) (is_some r.section) (record { time = refl; opens = known.ended }))

-- codes have different texts, so a code is at the first index with its text
pub place_is : (s : HeadShown) (h : Header) (place : ℕ) (c : IdCode) → Views s h → slice_get h.codes place ≡ Some c → code_place h c.text ≡ place
place_is s h place c v e = place_of h.codes s.index place c v.index e

-- the written line is that of the code with its new text
pub line_is : (first place number : ℕ) (s : HeadShown) (h : Header) (c : IdCode) (d : Code) (form : ChangeForm) (text id : List ℕ) → Views s h
    → slice_get h.codes place ≡ Some c → slice_get s.codes place ≡ Some d → number ≡ first + place → id ≡ new_code number
    → change_line (record { code = record { text = id; size = d.size; event = d.event }; form = form; text = text }) ≡ change_line
    (record { code = record { text = new_code (first + code_place h c.text); size = c.size; event = c.event }; form = form; text = text })
line_is first place number s h c d form text id v at shown n e =
    let m = code_at s.text s.codes h.codes place c v.codes at in
    let same : d ≡ m.0 = cc (sym shown ∙ m.1) in
    let size : d.size ≡ c.size = ap (λ (x : Code). x.size) same ∙ m.2.size_is in
    let event : d.event ≡ c.event = ap (λ (x : Code). x.event) same ∙ m.2.event_is in
    rw (size, event, e, n, place_is s h place c v at) refl

-- the code that is shown is an event where the definitions' is
pub event_of : (s : HeadShown) (h : Header) (place : ℕ) (c : IdCode) (d : Code) → Views s h → slice_get h.codes place ≡ Some c → slice_get s.codes place ≡ Some d → d.event ≡ c.event
event_of s h place c d v at shown =
    let m = code_at s.text s.codes h.codes place c v.codes at in
    let same : d ≡ m.0 = cc (sym shown ∙ m.1) in
    ap (λ (x : Code). x.event) same ∙ m.2.event_is

-- no number of a code is too great
pub number_fits : (h : Header) (place : ℕ) (c : IdCode) → slice_get h.codes place ≡ Some c → (first : ℕ) → first + length h.codes < 2 ^ 64 → first + place < 2 ^ 64
number_fits h place c at first few = let w = slice_get_within h.codes place c at in omega arith

-- a text of digits has some
pub some_digits : (codes : List Code) (place : ℕ) (f : Form) (text : List ℕ) → IsGoodText codes place f text → f ≢ RealText → 0 < length text
some_digits codes place Scalar text good other = let e = ap (λ (l : List ℕ). length l) good.2.2 in omega (arith, e)
some_digits codes place Vector text good other = good.2.0
some_digits codes place RealText text good other = absurd (other refl)

-- the size that a look-up gave, where it is one
sized_is : (y : Code) (most : ℕ) → most ≡ size_or_zero_of y → most ≢ 0 → (y.event ≡ false) × (y.size ≡ most)
sized_is y most is some = by_parts y.event (nat_le (2 ^ 32) y.size) refl refl
  where
    by_parts : (e b : Bool) → y.event ≡ e → nat_le (2 ^ 32) y.size ≡ b → (y.event ≡ false) × (y.size ≡ most)
    by_parts true b h g = absurd (some (is ∙ rw h refl))
    by_parts false true h g = absurd (some (is ∙ rw (h, g) refl))
    by_parts false false h g = (h, sym (is ∙ rw (h, g) refl))

-- the line under its new code, and that it is no event, where the look-up gave its size
module _ (place most : ℕ) (s : HeadShown) (h : Header) (c : IdCode) (v : Views s h) (at : slice_get h.codes place ≡ Some c)
    (sized : IsSized s.codes (record { position = place; size_or_zero = most })) (some : most ≢ 0) where
  pub sized_line : (first number : ℕ) (form : ChangeForm) (text : List ℕ) → number ≡ first + place
      → change_line (record { code = record { text = new_code number; size = most; event = false }; form = form; text = text }) ≡ change_line
      (record { code = record { text = new_code (first + code_place h c.text); size = c.size; event = c.event }; form = form; text = text })
  sized_line first number form text n =
      let z = sized_is sized.0 most sized.2 some in
      ap₂ (λ (e : Bool) (k : ℕ). change_line (record { code = record { text = new_code number; size = k; event = e }; form = form; text = text }))
      (sym z.0) (sym z.1) ∙ line_is first place number s h c sized.0 form text (new_code number) v at sized.1 n refl

  pub no_event : c.event ≡ false
  no_event = let z = sized_is sized.0 most sized.2 some in sym (event_of s h place c sized.0 v at sized.1) ∙ z.0
