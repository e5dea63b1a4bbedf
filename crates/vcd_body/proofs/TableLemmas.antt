-- The value of a code of a view, as the table has it.
use Rattle.vcd_body.proofs.Cited.{take_all, take, drop, ◌-◌, ◌≡◌, ◌≢◌, [], ◌≤◌, Bool, true, cond, ℕ, ◌+◌, arith, List, slice_get, Option, Some, min, refl, subst, sym, ap, ap₂, ◌∙◌, option_map, option_and_then, unwrap_or, length, map, slice_range, ◌∷◌, sum_by, AllZip, sum_by-cons, slice_get-map, value_room, line_if_set, IdCode, Header, text_in, IsCode, IsViewOf, Code, HeadView, IsLaidOut, KeepsTable, codes_shown, held_at, line_of, shown_as, shown_code, value_in, Held, Kept, value_at_size, AreLaidOut, Whole, end_at, held_by, held_from, holding_of, kept_with, len_of, room_of, share_of, some_by, used, sameb, the_type, Holding, Share, Slot, State, Table, le-leb}
use Rattle.std.proofs.Common.{length-drop}
use Rattle.vcd_body.specs.declared.values.slot.Shown.TheVariants as shown
use Rattle.vcd_body.specs.declared.values.slot.State.TheVariants as state
use Rattle.vcd_body.proofs.StoreLemmas.{fits_in, some_in, whole_is}

pub held_here : (t : Table) (code : ℕ) (s : Slot) (h : Share) → slice_get t.slots.now code ≡ Some s → slice_get t.shares.now code ≡ Some h
    → held_at t code ≡ held_from t.values.now h.start (holding_of s h)
held_here t code s h at there = ap (λ (o : Option Whole). unwrap_or
    (option_map (λ (k : Kept). k.held) (option_map (kept_with t.values.now (end_at t.shares.now (length t.values.now) code)) o)) Held.Unset)
    (whole_is t.slots.now t.shares.now code s h at there)

-- its share lies within the values, and several digits are some
pub share_there : (t : Table) (code : ℕ) (s : Slot) (h : Share) (v : Holding) → v ≡ holding_of s h → IsLaidOut t
    → slice_get t.slots.now code ≡ Some s → slice_get t.shares.now code ≡ Some h → (h.start + used v ≤ length t.values.now)
    × (1 ≤ some_by v.state (len_of v))
share_there t code s h v is laid at there =
    let l = laid code s at in
    let low = fits_in t.shares.now (length t.values.now) code s h l there in
    let some = some_in t.shares.now (length t.values.now) code s h l there in
    let high = l.within in
    rw is (omega (arith, low, high), some)

-- the bytes that are in use, read in two steps
pub rest_here : (start : ℕ) (values rest : List ℕ) → rest ≡ slice_range values start (length values) → rest ≡ drop start values
rest_here start values rest is = is ∙ take_all (length values - start) (drop start values) (omega (arith, length-drop start values))

pub part_here : (start n m : ℕ) (values rest part : List ℕ) → rest ≡ slice_range values start (length values) → part ≡ slice_range rest 0 n → n ≡ m
    → part ≡ take m (drop start values)
part_here start n m values rest part is are same =
    let all : n - 0 ≡ n = omega arith in
    are ∙ ap (λ k. take k rest) all ∙ ap (λ (l : List ℕ). take n l) (rest_here start values rest is) ∙ ap (λ k. take k (drop start values)) same

-- what is held in another state than these two is digits
pub shows_digits : (st : State) (len : ℕ) (bytes : List ℕ) → st ≢ state.Unset → st ≢ state.Real → shown_as (held_by st len bytes) ≡ shown.Bits
shows_digits state.Unset len bytes a b = absurd (a refl)
shows_digits state.Zero len bytes a b = refl
shows_digits state.One len bytes a b = refl
shows_digits state.Unknown len bytes a b = refl
shows_digits state.High len bytes a b = refl
shows_digits state.Packed len bytes a b = refl
shows_digits state.Bits len bytes a b = refl
shows_digits state.Real len bytes a b = absurd (b refl)

-- the text of a real number that is read in its share
pub is_real : (st : State) → true ≡ sameb the_type st state.Real → st ≡ state.Real
is_real state.Unset h = cc
is_real state.Zero h = cc
is_real state.One h = cc
is_real state.Unknown h = cc
is_real state.High h = cc
is_real state.Packed h = cc
is_real state.Bits h = cc
is_real state.Real h = refl

pub code_there : (v : HeadView) (code : ℕ) (c : Code) → slice_get v.codes.now code ≡ Some c → slice_get (codes_shown v) code ≡ Some (shown_code v.text.now c)
code_there v code c at = slice_get-map (shown_code v.text.now) v.codes.now code ∙ ap (option_map (shown_code v.text.now)) at

pub value_there : (v : HeadView) (t : Table) (code : ℕ) (c : Code) → slice_get v.codes.now code ≡ Some c → value_in (codes_shown v) t code ≡ value_at_size c.size (held_at t code)
value_there v t code c e = ap (option_and_then (λ (x : IdCode). value_at_size x.size (held_at t code))) (code_there v code c e)

pub line_there : (v : HeadView) (t : Table) (code : ℕ) (c : Code) → slice_get v.codes.now code ≡ Some c
    → line_of (codes_shown v) t code ≡ line_if_set (shown_code v.text.now c) (value_at_size c.size (held_at t code))
line_there v t code c e =
    ap (λ (o : Option IdCode). unwrap_or (option_map (λ (x : IdCode). line_if_set x (value_in (codes_shown v) t code)) o) []) (code_there v code c e)
    ∙ ap (line_if_set (shown_code v.text.now c)) (value_there v t code c e)

-- ---- the codes of a header

same_codes : (text : List ℕ) (xs : List Code) (ys : List IdCode) → AllZip (IsCode text) xs ys → map (shown_code text) xs ≡ ys
same_codes text [] [] a = refl
same_codes text [] (y ∷ ys) a = absurd a
same_codes text (x ∷ xs) [] a = absurd a
same_codes text (x ∷ xs) (y ∷ ys) (is, are) =
    let bytes : text_in text x.start x.len ≡ y.text = ap (λ (b : Bool). cond b (slice_range text x.start (x.start + x.len)) []) (le-leb (x.start + x.len) (length text) is.within) ∙ is.text_is in
    let one : shown_code text x ≡ y = rw (bytes, is.size_is, is.event_is) refl in
    ap (λ l. shown_code text x ∷ l) (same_codes text xs ys are) ∙ ap (λ c. c ∷ ys) one

-- the codes that the view of a header shows are the header's
pub shown_are : (v : HeadView) (h : Header) → IsViewOf v h → codes_shown v ≡ h.codes
shown_are v h views = same_codes v.text.now v.codes.now h.codes views.codes

same_room : (text : List ℕ) (xs : List Code) (ys : List IdCode) → AllZip (IsCode text) xs ys → room_of xs ≡ sum_by value_room ys
same_room text [] [] a = refl
same_room text [] (y ∷ ys) a = absurd a
same_room text (x ∷ xs) [] a = absurd a
same_room text (x ∷ xs) (y ∷ ys) (is, are) =
    sum_by-cons (λ (c : Code). share_of c.size) x xs ∙ ap (λ n. n + room_of xs) (ap share_of is.size_is)
    ∙ ap (λ n. value_room y + n) (same_room text xs ys are) ∙ sym (sum_by-cons value_room y ys)

-- the bytes that a header needs are those of all shares
pub room_needed : (v : HeadView) (h : Header) → IsViewOf v h → room_of v.codes.now ≡ sum_by value_room h.codes
room_needed v h views = same_room v.text.now v.codes.now h.codes views.codes

-- ---- a table that was written

-- what was written has the same indexes
pub keeps_laid : (t t' : Table) → length t'.slots.now ≡ length t.slots.now → length t'.shares.now ≡ length t.shares.now
    → length t'.values.now ≡ length t.values.now → (IsLaidOut t → AreLaidOut t'.slots.now t'.shares.now (length t.values.now)) → KeepsTable t t'
keeps_laid t t' slots shares values laid = record {
  laid = λ l. subst (AreLaidOut t'.slots.now t'.shares.now) (sym values) (laid l);
  codes = ap₂ (λ a b. min a b) slots shares;
  bytes = values;
}
