-- Shares that are laid out one after the other.
use Rattle.vcd_body.proofs.Cited.{◌≡◌, ◌≢◌, ℕ, ◌+◌, ◌-◌, ◌<◌, ◌≤◌, min, List, [], ◌∷◌, length, slice_get, slice_set, Option, Some, None, refl, sym, ap, ◌∙◌, arith, ◌⊎◌, inl, inr, option_map, take-length, cases_lt, sum_by_more, sum_by_more_le, slice_get_past, slice_get_within, get_or_from_slice_get, Code, unset, new_at, AreLaidOut, IsUnset, end_at, holding_of, kept_in, kept_with, len_in, room_of, share_from, share_of, some_by, start_or, state_in, used, whole, Share, Slot, there}
use Rattle.vcd_body.specs.Stored.{start_of}
use Rattle.vcd_body.proofs.StoreLemmas.{get_other, get_set, no_slot, same_or_not, whole_is}

abbrev unset_slot : Slot
unset_slot = record { number = 0; tag = 0; steps = 0 ∷ 0 ∷ 0 ∷ [] }

abbrev share_at : Code → ℕ
share_at c = share_of c.size

-- where the next share begins
pub start_next : (codes : List Code) (n k : ℕ) (c : Code) → slice_get codes k ≡ Some c → start_of codes n (k + 1) ≡ min (start_of codes n k + share_of c.size) n
start_next codes n k c at =
    let w = slice_get_within codes k c at in
    let e = sum_by_more share_at codes k c w in
    let g = get_or_from_slice_get codes k c c at in
    let s = ap share_at g in
    omega (arith, e, s)

-- it lies within all
start_most : (codes : List Code) (n k : ℕ) (c : Code) → slice_get codes k ≡ Some c → start_of codes n (k + 1) ≤ start_of codes n (length codes)
start_most codes n k c at =
    let w = slice_get_within codes k c at in
    let e = sum_by_more share_at codes k c w in
    let l = sum_by_more_le share_at codes k c w in
    let all = ap room_of (take-length codes) in
    omega (arith, e, l, all)

-- a code more is laid out
pub laid_more : (codes : List Code) (shares : List Share) (n k : ℕ) → k < length shares
    → ((j : ℕ) (h : Share) → j < k → slice_get shares j ≡ Some h → h ≡ share_from (start_of codes n j))
    → (j : ℕ) (h : Share) → j < k + 1 → slice_get (slice_set shares k (share_from (start_of codes n k))) j ≡ Some h → h ≡ share_from (start_of codes n j)
laid_more codes shares n k within so_far j h l at = by_place (same_or_not j k)
  where
    by_place : (j ≡ k) ⊎ (j ≢ k) → h ≡ share_from (start_of codes n j)
    by_place (inl e) =
        let same : share_from (start_of codes n k) ≡ h = cc (sym (get_set shares k (share_from (start_of codes n k)) within)
        ∙ ap (slice_get (slice_set shares k (share_from (start_of codes n k)))) (sym e) ∙ at) in
        sym same ∙ ap (λ i. share_from (start_of codes n i)) (sym e)
    by_place (inr e) = so_far j h (omega arith) (sym (get_other shares k j (share_from (start_of codes n k)) e) ∙ at)

pub unset_more : (slots : List Slot) (k : ℕ) (d : Slot) → k < length slots → IsUnset d → ((j : ℕ) (s : Slot) → j < k → slice_get slots j ≡ Some s → IsUnset s)
    → (j : ℕ) (s : Slot) → j < k + 1 → slice_get (slice_set slots k d) j ≡ Some s → IsUnset s
unset_more slots k d within is so_far j s l at = by_place (same_or_not j k)
  where
    by_place : (j ≡ k) ⊎ (j ≢ k) → IsUnset s
    by_place (inl e) =
        let same : d ≡ s = cc (sym (get_set slots k d within) ∙ ap (slice_get (slice_set slots k d)) (sym e) ∙ at) in
        sym same ∙ is
    by_place (inr e) = so_far j s (omega arith) (sym (get_other slots k j d e) ∙ at)

module _ (codes : List Code) (slots : List Slot) (shares : List Share) (n end : ℕ) (same : length codes ≡ length slots)
    (all : length codes ≡ length shares) (ends : end ≡ start_of codes n (length codes)) (unset_are : (k : ℕ) (s : Slot) → slice_get slots k ≡ Some s
    → IsUnset s) (are : (k : ℕ) (h : Share) → slice_get shares k ≡ Some h → h ≡ share_from (start_of codes n k)) where
  end_is : (k : ℕ) (h : Share) → slice_get shares k ≡ Some h → end_at shares end k ≡ start_of codes n (k + 1)
  end_is k h at = by_end (cases_lt (k + 1) (length shares))
    where
      by_end : (k + 1 < length shares) ⊎ (length shares ≤ k + 1) → end_at shares end k ≡ start_of codes n (k + 1)
      by_end (inl l) = let t = there shares (k + 1) l in ap (start_or end) t.1 ∙ ap (λ (x : Share). x.start) (are (k + 1) t.0 t.1)
      by_end (inr l) =
          let w = slice_get_within shares k h at in
          let last : length codes ≡ k + 1 = omega arith in
          ap (start_or end) (slice_get_past shares (k + 1) l) ∙ ends ∙ ap (start_of codes n) last

  code_there : (k : ℕ) (s : Slot) → slice_get slots k ≡ Some s → (c : Code) × (slice_get codes k ≡ Some c)
  code_there k s at = let w = slice_get_within slots k s at in there codes k (omega (arith, w, same))

  share_there : (k : ℕ) (s : Slot) → slice_get slots k ≡ Some s → (h : Share) × (slice_get shares k ≡ Some h)
  share_there k s at = let w = slice_get_within slots k s at in there shares k (omega (arith, w, same, all))

  pub laid : AreLaidOut slots shares end
  laid = λ k s at.
      let c = code_there k s at in
      let h = share_there k s at in
      let next = start_next codes n k c.0 c.1 in
      let most = start_most codes n k c.0 c.1 in
      let b = ap (λ (x : Share). x.start) (are k h.0 h.1) in
      let u : used (holding_of s h.0) ≡ 0 = ap (λ (x : Slot). used (holding_of x h.0)) (unset_are k s at) in
      let o : some_by (state_in s.tag) (len_in s.tag s.number h.0.upper) ≡ 1 = ap (λ (x : Slot). some_by (state_in x.tag) (len_in x.tag x.number h.0.upper)) (unset_are k s at) in
      let m = end_is k h.0 h.1 in
      record { share = h.0; there = h.1; fits = omega (arith, next, b, u, m); within = omega (arith, most, m, ends); some = omega (arith, o) }

  -- nothing is known of any code
  pub new_kept : (values : List ℕ) → length values ≡ end → (k : ℕ) → kept_in values slots shares k ≡ new_at codes n k
  new_kept values long k = by_slot (slice_get slots k) refl
    where
      by_slot : (o : Option Slot) → slice_get slots k ≡ o → kept_in values slots shares k ≡ new_at codes n k
      by_slot None e =
          let past : length slots ≤ k = by_order (cases_lt k (length slots)) in
          let none = slice_get_past codes k (omega (arith, past, same)) in
          ap (option_map (kept_with values (end_at shares (length values) k))) (no_slot slots shares k e)
          ∙ sym (ap (option_map (λ (c : Code). unset (start_of codes n (k + 1) - start_of codes n k))) none)
        where
          by_order : (k < length slots) ⊎ (length slots ≤ k) → length slots ≤ k
          by_order (inl h) = let t = there slots k h in absurd (let f : None ≡ Some t.0 = sym e ∙ t.1 in cc)
          by_order (inr h) = h
      by_slot (Some s) e =
          let c = code_there k s e in
          let h = share_there k s e in
          let m : end_at shares (length values) k ≡ start_of codes n (k + 1) = ap (λ i. end_at shares i k) long ∙ end_is k h.0 h.1 in
          ap (option_map (kept_with values (end_at shares (length values) k))) (whole_is slots shares k s h.0 e h.1)
          ∙ ap (λ (x : Slot). Some (kept_with values (end_at shares (length values) k) (whole x h.0))) (unset_are k s e)
          ∙ ap (λ (x : Share). Some (kept_with values (end_at shares (length values) k) (whole unset_slot x))) (are k h.0 h.1)
          ∙ ap (λ i. Some (unset (i - start_of codes n k))) m
          ∙ sym (ap (option_map (λ (x : Code). unset (start_of codes n (k + 1) - start_of codes n k))) c.1)

-- where there is room for all, each code has its share
pub whole_share : (codes : List Code) (n k : ℕ) (c : Code) → room_of codes ≤ n → slice_get codes k ≡ Some c → start_of codes n (k + 1) - start_of codes n k ≡ share_of c.size
whole_share codes n k c most at =
    let w = slice_get_within codes k c at in
    let e = sum_by_more share_at codes k c w in
    let g = ap share_at (get_or_from_slice_get codes k c c at) in
    let l = sum_by_more_le share_at codes k c w in
    omega (arith, e, g, l, most)
