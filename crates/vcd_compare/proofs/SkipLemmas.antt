-- The next end of a code, and which ends are left out.
use Rattle.vcd_compare.proofs.Cited.{◌≡◌, ◌≢◌, ◌⊎◌, inl, inr, ℕ, suc, zero, ◌<◌, ◌≤◌, ◌-◌, ◌/◌, List, [], ◌∷◌, length, slice_get, get_or, set, Some, refl, sym, ap, subst, ◌∙◌, arith, replicate, cases_eq, cases_lt, same_Some, slice_get_within, get_or-replicate, get_or-set_other, AreLinked, AreSkips, IsEarlierEnd, End}

-- a class that had its only line keeps its mark
pub skips_stay : (ends : List End) (old new skips : List ℕ) → ((k : ℕ) → get_or old k 0 ≡ 2 → get_or new k 0 ≡ 2) → AreSkips ends old skips → AreSkips ends new skips
skips_stay ends old new skips keep are i e there =
    let next = are i e there in
    record { within = next.within; is = next.is; none = λ j y le low at same. keep (j / 2) (next.none j y le low at same) }

-- if nothing is skipped, each end leads to the one before it
pub skips_first : (ends : List End) (last marks : List ℕ) → AreLinked ends last → AreSkips ends marks (replicate (length ends) 0)
skips_first ends last marks linked i e there =
    let before = linked.each i e there in
    let none = get_or-replicate {A = ℕ} (length ends) i 0 0 (slice_get_within ends i e there) in
    subst (IsEarlierEnd ends marks i e.code) {x = e.earlier} (omega (arith, none))
    (record { within = before.within; is = before.is; none = λ j y le low at same. absurd (before.none j y le low at same) })

set_or_not : (numbers : List ℕ) (i n : ℕ) → (get_or (set numbers i n) i 0 ≡ n) ⊎ (get_or (set numbers i n) i 0 ≡ get_or numbers i 0)
set_or_not [] i n = inr refl
set_or_not (x ∷ xs) zero n = inl refl
set_or_not (x ∷ xs) (suc i) n = set_or_not xs i n

module _ (ends : List End) (marks skips : List ℕ) (are : AreSkips ends marks skips) (i : ℕ) (e : End) (there : slice_get ends i ≡ Some e) where
  pub next_is : (n : ℕ) → n ≡ e.earlier - get_or skips i 0 → IsEarlierEnd ends marks i e.code n
  next_is n is = subst (IsEarlierEnd ends marks i e.code) (sym is) (are i e there)

  -- the next end is of a class that had its only line
  module _ (before : ℕ) (d : End) (next : suc before ≡ e.earlier - get_or skips i 0) (its : slice_get ends before ≡ Some d)
      (done : get_or marks (before / 2) 0 ≡ 2) (n : ℕ) (n_is : n ≡ d.earlier - get_or skips before 0) where
    first : IsEarlierEnd ends marks i e.code (suc before)
    first = next_is (suc before) next

    second : IsEarlierEnd ends marks before d.code n
    second = subst (IsEarlierEnd ends marks before d.code) (sym n_is) (are before d its)

    code : d.code ≡ e.code
    code =
        let at = first.is before refl in
        let same : at.0 ≡ d = same_Some at.0 d (sym at.1 ∙ its) in
        ap (λ (y : End). y.code) (sym same) ∙ at.2

    pub next_after : IsEarlierEnd ends marks i e.code n
    next_after = record {
      within = (let one = first.within in let two = second.within in omega arith);
      is = λ j at. let two = second.is j at in (two.0, two.1, two.2 ∙ code);
      none = λ j y le low at same. by_order j y le low at same (cases_lt j before) (cases_eq j before);
    }
      where
        by_order : (j : ℕ) (y : End) → n ≤ j → j < i → slice_get ends j ≡ Some y → y.code ≡ e.code → (j < before) ⊎ (before ≤ j) → (j ≡ before) ⊎ (j ≢ before)
            → get_or marks (j / 2) 0 ≡ 2
        by_order j y le low at same (inl less) two = second.none j y le less at (same ∙ sym code)
        by_order j y le low at same (inr more) (inl is) = ap (λ k. get_or marks (k / 2) 0) is ∙ done
        by_order j y le low at same (inr more) (inr apart) = first.none j y (omega (arith, more, apart)) low at same

    pub skips_after : AreSkips ends marks (set skips i (e.earlier - n))
    skips_after j y at = by_place (cases_eq j i)
      where
        here : (get_or (set skips i (e.earlier - n)) i 0 ≡ e.earlier - n) ⊎ (get_or (set skips i (e.earlier - n)) i 0 ≡ get_or skips i 0)
            → IsEarlierEnd ends marks i e.code (e.earlier - get_or (set skips i (e.earlier - n)) i 0)
        here (inl new) = let two = second.within in subst (IsEarlierEnd ends marks i e.code) (omega (arith, new, two, next)) next_after
        here (inr old) = subst (λ k. IsEarlierEnd ends marks i e.code (e.earlier - k)) (sym old) (are i e there)

        by_place : (j ≡ i) ⊎ (j ≢ i) → IsEarlierEnd ends marks j y.code (y.earlier - get_or (set skips i (e.earlier - n)) j 0)
        by_place (inl is) =
            let same : e ≡ y = same_Some e y (sym there ∙ ap (slice_get ends) (sym is) ∙ at) in
            subst (λ (k : ℕ). IsEarlierEnd ends marks k y.code (y.earlier - get_or (set skips i (e.earlier - n)) k 0)) (sym is)
            (subst (λ (z : End). IsEarlierEnd ends marks i z.code (z.earlier - get_or (set skips i (e.earlier - n)) i 0)) same (here (set_or_not skips i (e.earlier - n))))
        by_place (inr apart) = subst (λ k. IsEarlierEnd ends marks j y.code (y.earlier - k)) (sym (get_or-set_other skips i j (e.earlier - n) 0 apart)) (are j y at)
