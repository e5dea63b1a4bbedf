-- Inputs in the order of their turns.
use Rattle.vcd_merge.proofs.Cited.{◌≡◌, ◌≢◌, ℕ, ◌+◌, ◌-◌, ◌<◌, ◌≤◌, ◌⊎◌, Bool, true, false, List, length, slice_get, Some, refl, sym, ap, ◌∙◌, subst, arith, inl, inr, CopiedTo, SameBelow, All, get_or, slice_set, cases_lt, get_or-map, get_or-set_other, get_or-set_same, get_or_from_slice_get, slice_get-get_or, slice_get_within, IsNext, AreInOrder, ComesBefore, IsFirstBefore, IsOrder, Waits, time_of, Seat, same_or_not}

-- a chain in this order
pub before_both : (a i b j c k : ℕ) → ComesBefore a i b j → ComesBefore b j c k → ComesBefore a i c k
before_both a i b j c k l m = grind arith

-- what is at an index once another one has gone in at `at`
abbrev IsMoved : (p q at : ℕ) → Type 0
IsMoved p q at = ((p < at) × (q ≡ p)) ⊎ ((at ≤ q) × (q + 1 ≡ p))

in_order : (p q a b at : ℕ) → p < q → IsMoved p a at → IsMoved q b at → a < b
in_order p q a b at less u w = grind arith

low : (p q a at : ℕ) → p < q → IsMoved p a at → q ≡ at → a < at
low p q a at less u e = grind arith

high : (p q b at : ℕ) → p < q → IsMoved q b at → p ≡ at → at ≤ b
high p q b at less u e = grind arith

module _ (In : ℕ → Type 0) (time : ℕ → ℕ) (xs : List ℕ) (len : ℕ) (o : AreInOrder In time xs len) (k : ℕ) where
  -- from an index on that comes before k, all do
  pub sooner_from : (middle : ℕ) → ComesBefore (time (get_or xs middle 0)) (get_or xs middle 0) (time k) k → (p : ℕ) → middle ≤ p → p < len
      → ComesBefore (time (get_or xs p 0)) (get_or xs p 0) (time k) k
  sooner_from middle first p from within = elim (cases_lt middle p) [
    | inl l ↦ before_both _ _ _ _ _ _ (o.falls middle p l within) first
    | inr l ↦ let e : middle ≡ p = omega (arith, l, from) in subst (λ (q : ℕ). ComesBefore (time (get_or xs q 0)) (get_or xs q 0) (time k) k) e first
  ]

  -- up to an index before which k comes, it comes before all
  pub later_to : (middle : ℕ) → middle < len → ComesBefore (time k) k (time (get_or xs middle 0)) (get_or xs middle 0) → (p : ℕ) → p < middle + 1
      → ComesBefore (time k) k (time (get_or xs p 0)) (get_or xs p 0)
  later_to middle within last p upto = elim (cases_lt p middle) [
    | inl l ↦ before_both _ _ _ _ _ _ last (o.falls p middle l within)
    | inr l ↦ let e : middle ≡ p = omega (arith, l, upto) in subst (λ (q : ℕ). ComesBefore (time k) k (time (get_or xs q 0)) (get_or xs q 0)) e last
  ]

  -- k goes in at an index: after it are those that come before it
  pub with_one : (ys : List ℕ) (at : ℕ) → at ≤ len
      → ((p : ℕ) → p < at → get_or ys p 0 ≡ get_or xs p 0) → get_or ys at 0 ≡ k → ((p : ℕ) → at ≤ p → p < len → get_or ys (p + 1) 0 ≡ get_or xs p 0)
      → ((p : ℕ) → at ≤ p → p < len → ComesBefore (time (get_or xs p 0)) (get_or xs p 0) (time k) k)
      → ((p : ℕ) → p < at → ComesBefore (time k) k (time (get_or xs p 0)) (get_or xs p 0))
      → AreInOrder (λ j. In j ⊎ (j ≡ k)) time ys (len + 1)
  with_one ys at most below here above sooner later = record { there = there; all = all; falls = falls }
    where
      -- what is at an index now: one of those before, or k
      Old : ℕ → ℕ → Type 0
      Old p q = (q < len) × (get_or ys p 0 ≡ get_or xs q 0) × IsMoved p q at

      old_or_new : (p : ℕ) → p < len + 1 → ((q : ℕ) × Old p q) ⊎ (p ≡ at)
      old_or_new p within = elim (cases_lt p at) [
        | inl l ↦ inl ((p, (omega (arith, l, most), below p l, inl (l, refl))))
        | inr l ↦ elim (cases_lt at p) [
          | inr m ↦ inr (omega (arith, l, m))
          | inl m ↦
              let e : (p - 1) + 1 ≡ p = omega (arith, m) in
              let h : at ≤ p - 1 = omega (arith, m) in
              let w : p - 1 < len = omega (arith, m, within) in
              inl ((p - 1, (w, ap (λ (q : ℕ). get_or ys q 0) (sym e) ∙ above (p - 1) h w, inr (h, e))))
        ]
      ]

      there : (p : ℕ) → p < len + 1 → In (get_or ys p 0) ⊎ (get_or ys p 0 ≡ k)
      there p within = elim (old_or_new p within) [
        | inl (q, (w, e, h)) ↦ inl (subst In (sym e) (o.there q w))
        | inr e ↦ inr (ap (λ (q : ℕ). get_or ys q 0) e ∙ here)
      ]

      all : (j : ℕ) → In j ⊎ (j ≡ k) → (p : ℕ) × (p < len + 1) × (get_or ys p 0 ≡ j)
      all j (inr e) = (at, omega (arith, most), here ∙ sym e)
      all j (inl i) =
          let (q, w, e) = o.all j i in
          elim (cases_lt q at) [ inl l ↦ (q, omega (arith, w), below q l ∙ e) | inr l ↦ (q + 1, omega (arith, w), above q l w ∙ e) ]

      falls : (p q : ℕ) → p < q → q < len + 1 → ComesBefore (time (get_or ys q 0)) (get_or ys q 0) (time (get_or ys p 0)) (get_or ys p 0)
      falls p q less within = by_places (old_or_new p (omega (arith, less, within))) (old_or_new q within)
        where
          Goal : ℕ → ℕ → Type 0
          Goal x y = ComesBefore (time x) x (time y) y

          two : {a b c d : ℕ} → a ≡ c → b ≡ d → Goal c d → Goal a b
          two {a} {b} {c} {d} e f g = subst (λ (x : ℕ). Goal x b) (sym e) (subst (λ (y : ℕ). Goal c y) (sym f) g)

          by_places : ((a : ℕ) × Old p a) ⊎ (p ≡ at) → ((b : ℕ) × Old q b) ⊎ (q ≡ at) → Goal (get_or ys q 0) (get_or ys p 0)
          by_places (inl (a, u)) (inl (b, w)) = two w.1 u.1 (o.falls a b (in_order p q a b at less u.2 w.2) w.0)
          by_places (inl (a, u)) (inr f) = two (ap (λ (r : ℕ). get_or ys r 0) f ∙ here) u.1 (later a (low p q a at less u.2 f))
          by_places (inr e) (inl (b, w)) = two w.1 (ap (λ (r : ℕ). get_or ys r 0) e ∙ here) (sooner b (high p q b at less w.2 e) w.0)
          by_places (inr e) (inr f) = absurd (omega (arith, less, e, f))

same_before : (a b c d j k : ℕ) → a ≡ b → c ≡ d → ComesBefore a j c k → ComesBefore b j d k
same_before a b c d j k e f l = grind arith

-- the same where what is in order is said otherwise
pub said_so : (In Now : ℕ → Type 0) (time now : ℕ → ℕ) (xs : List ℕ) (len : ℕ) → ((j : ℕ) → In j → Now j) → ((j : ℕ) → Now j → In j)
    → ((j : ℕ) → In j → time j ≡ now j) → AreInOrder In time xs len → AreInOrder Now now xs len
said_so In Now time now xs len to back same o = record {
  there = λ p w. to (get_or xs p 0) (o.there p w);
  all = λ j i. o.all j (back j i);
  falls = λ p q less w. same_before _ _ _ _ _ _ (same _ (o.there q w)) (same _ (o.there p (omega (arith, less, w)))) (o.falls p q less w);
}

not_itself : (t j u k : ℕ) → t ≡ u → j ≡ k → ComesBefore t j u k → ⊥
not_itself t j u k e f l = grind arith

-- without the last one
pub without_last : (In : ℕ → Type 0) (time : ℕ → ℕ) (xs : List ℕ) (len : ℕ) → AreInOrder In time xs (len + 1) → AreInOrder (λ j. In j × (j ≢ get_or xs len 0)) time xs len
without_last In time xs len o = record {
  there = λ p w. (o.there p (omega (arith, w)), λ e. not_itself _ _ _ _ (ap time (sym e)) (sym e) (o.falls p len w (omega arith)));
  all = λ j i.
      let (p, w, e) = o.all j i.0 in
      elim (cases_lt p len) [ inl l ↦ (p, l, e) | inr l ↦ let f : p ≡ len = omega (arith, l, w) in absurd (i.1 (sym e ∙ ap (λ (q : ℕ). get_or xs q 0) f)) ];
  falls = λ p q less w. o.falls p q less (omega (arith, w));
}

-- an input that waits among these is no other one
pub not_in : (seats : List Seat) (n out j k : ℕ) → (n ≤ k) ⊎ (k ≡ out) → Waits seats n out j → j ≢ k
not_in seats n out j k (inl l) w e = let h = w.within in omega (arith, l, h, e)
not_in seats n out j k (inr l) w e = w.other (e ∙ l)

-- where the seat at an index is known, so is whether an input waits
module _ (seats : List Seat) (k : ℕ) (x : Seat) (here : slice_get seats k ≡ Some x) where
  -- it goes in among the others
  pub put_in : (n out m : ℕ) (xs : List ℕ) (len : ℕ) → x.finished ≡ false → k < m → ((j : ℕ) → j < n → j < m)
      → ((j : ℕ) → j < m → j ≢ k → (j < n) × (j ≢ out)) → AreInOrder (λ j. Waits seats n out j ⊎ (j ≡ k)) (time_of seats) xs len
      → IsOrder seats m m xs len
  put_in n out m xs len going within to back o = said_so (λ j. Waits seats n out j ⊎ (j ≡ k)) (Waits seats m m) (time_of seats) (time_of seats) xs len now old (λ j i. refl) o
    where
      now : (j : ℕ) → Waits seats n out j ⊎ (j ≡ k) → Waits seats m m j
      now j (inl w) = let h = to j w.within in record { within = h; other = λ e. omega (arith, h, e); seat = w.seat; there = w.there; unfinished = w.unfinished }
      now j (inr e) = record { within = omega (arith, within, e); other = λ f. omega (arith, within, e, f); seat = x; there = ap (slice_get seats) e ∙ here; unfinished = going }

      old : (j : ℕ) → Waits seats m m j → Waits seats n out j ⊎ (j ≡ k)
      old j w = elim (same_or_not j k) [
        | inl e ↦ inr e
        | inr a ↦ let b = back j w.within a in inl (record { within = b.0; other = b.1; seat = w.seat; there = w.there; unfinished = w.unfinished })
      ]

-- what was copied one index up, and then has one more in the gap
pub record MovesUp (xs ys : List ℕ) (at len k : ℕ) : Type 0 where
  pub below : (p : ℕ) → p < at → get_or ys p 0 ≡ get_or xs p 0
  pub here : get_or ys at 0 ≡ k
  pub above : (p : ℕ) → at ≤ p → p < len → get_or ys (p + 1) 0 ≡ get_or xs p 0

pub moved_behind : (xs ys : List ℕ) (at len k : ℕ) → at ≤ len → len < length xs → length ys ≡ length xs → SameBelow xs ys (at + 1)
    → CopiedTo xs ys at (at + 1) (len - at) → MovesUp xs (slice_set ys at k) at len k
moved_behind xs ys at len k most room long low high = record {
  below = λ p l. get_or-set_other ys at p k 0 (λ e. omega (arith, l, e)) ∙ low p 0 (omega (arith, l));
  here = get_or-set_same ys at k 0 (omega (arith, most, room, long));
  above = λ p l w. let old : at + (p + 1 - (at + 1)) ≡ p = omega (arith, l) in
      get_or-set_other ys at (p + 1) k 0 (λ e. omega (arith, l, e)) ∙ high (p + 1) 0 (omega (arith, l)) (omega (arith, l, w, most))
      ∙ ap (λ (n : ℕ). get_or xs n 0) old;
}

-- the time of a seat
pub time_is : (seats : List Seat) (j : ℕ) (s : Seat) → slice_get seats j ≡ Some s → time_of seats j ≡ s.time
time_is seats j s e = get_or-map (λ (x : Seat). x.time) seats j s 0 (slice_get_within seats j s e) ∙ ap (λ (x : Seat). x.time) (get_or_from_slice_get seats j s s e)

-- where the first entry is empty, all have finished
pub none_waits : (seats : List Seat) (xs : List ℕ) → IsOrder seats (length seats) (length seats) xs 0 → All (λ (s : Seat). s.finished ≡ true) seats
none_waits seats xs o = λ k d within. by_flag k within (get_or seats k d) (slice_get-get_or seats k d within) (get_or seats k d).finished refl
  where
    by_flag : (k : ℕ) → k < length seats → (s : Seat) → slice_get seats k ≡ Some s → (b : Bool) → s.finished ≡ b → s.finished ≡ true
    by_flag k within s at true e = e
    by_flag k within s at false e = let p = o.all k (record {
      within = within;
      other = λ f. omega
          (arith, within, f);
      seat = s;
      there = at;
      unfinished = e;
    }) in let h = p.1 in absurd (omega (arith, h))

not_sooner : (t u v w i j k : ℕ) → t ≡ v → u ≡ w → i ≡ j → ComesBefore t k u i → (v < w) ⊎ ((v ≡ w) × (k ≤ j))
not_sooner t u v w i j k e f g l = grind arith

module _ (seats : List Seat) (xs : List ℕ) (last : ℕ) (o : IsOrder seats (length seats) (length seats) xs (last + 1)) where
  -- the input of the last entry is next
  pub last_is_next : IsNext seats (get_or xs last 0)
  last_is_next = let w = o.there last (omega arith) in record { seat = w.seat; there = w.there; unfinished = w.unfinished; least = λ j s at going. least w j s at going }
    where
      least : (w : Waits seats (length seats) (length seats) (get_or xs last 0)) (j : ℕ) (s : Seat) → slice_get seats j ≡ Some s → s.finished ≡ false
          → (w.seat.time < s.time) ⊎ ((w.seat.time ≡ s.time) × (get_or xs last 0 ≤ j))
      least w j s at going =
          let within = slice_get_within seats j s at in
          let e = time_is seats j s at in
          let f = time_is seats (get_or xs last 0) w.seat w.there in
          let (p, v, g) = o.all j (record { within = within; other = λ e. omega (arith, within, e); seat = s; there = at; unfinished = going }) in
          elim (cases_lt p last) [
            | inl l ↦ not_sooner _ _ _ _ _ _ _ f (ap (time_of seats) g ∙ e) g (o.falls p last l (omega arith))
            | inr l ↦ let q : last ≡ p = omega (arith, l, v) in let h = ap (λ (i : ℕ). get_or xs i 0) q ∙ g in let m = ap (time_of seats) h in inr (omega (arith, m, e, f), omega (arith, h))
          ]

  -- without it, the others are in order
  pub others_wait : IsOrder seats (length seats) (get_or xs last 0) xs last
  others_wait = said_so _ _ (time_of seats) (time_of seats) xs last now old (λ j i. refl) (without_last _ _ xs last o)
    where
      now : (j : ℕ) → Waits seats (length seats) (length seats) j × (j ≢ get_or xs last 0) → Waits seats (length seats) (get_or xs last 0) j
      now j (w, a) = record { within = w.within; other = a; seat = w.seat; there = w.there; unfinished = w.unfinished }

      old : (j : ℕ) → Waits seats (length seats) (get_or xs last 0) j → Waits seats (length seats) (length seats) j × (j ≢ get_or xs last 0)
      old j w = let h = w.within in (record { within = h; other = λ e. omega (arith, h, e); seat = w.seat; there = w.there; unfinished = w.unfinished }, w.other)

not_later : (t k j s u m v : ℕ) → v ≡ s → (t < u) ⊎ ((t ≡ u) × (k < m)) → (ComesBefore u m v j) ⊎ ((u ≡ v) × (m ≡ j)) → (t < s) ⊎ ((t ≡ s) × (k ≤ j))
not_later t k j s u m v e l h = grind arith

module _ (seats : List Seat) (k : ℕ) (xs : List ℕ) where
  -- where no other waits
  pub alone_before : (before : ℕ) → IsOrder seats (length seats) k xs 0 → IsFirstBefore seats k before
  alone_before before o t less j s apart at going = let p = o.all j
      (record { within = slice_get_within seats j s at; other = apart; seat = s; there = at; unfinished = going }) in let h = p.1 in
      absurd (omega (arith, h))

  -- before the time of the last entry, or at that time where its number is greater
  pub before_last : (last before : ℕ) → IsOrder seats (length seats) k xs (last + 1)
      → ((t : ℕ) → t < before → (t < time_of seats (get_or xs last 0)) ⊎ ((t ≡ time_of seats (get_or xs last 0)) × (k < get_or xs last 0)))
      → IsFirstBefore seats k before
  before_last last before o low t less j s apart at going =
      let e = time_is seats j s at in
      let (p, w, f) = o.all j (record { within = slice_get_within seats j s at; other = apart; seat = s; there = at; unfinished = going }) in
      elim (cases_lt p last) [
        | inl l ↦ not_later t k j s.time _ _ (time_of seats j) e (low t less)
            (inl (subst (λ (i : ℕ). ComesBefore (time_of seats (get_or xs last 0)) (get_or xs last 0) (time_of seats i) i) f
            (o.falls p last l (omega arith))))
        | inr l ↦ let q : last ≡ p = omega (arith, l, w) in let g = ap (λ (i : ℕ). get_or xs i 0) q ∙ f in
            not_later t k j s.time _ _ (time_of seats j) e (low t less) (inr (ap (time_of seats) g, g))
      ]

-- the other seats stay as they were
pub others_stay : (old new : List Seat) (k : ℕ) (xs : List ℕ) (len : ℕ) → length new ≡ length old
    → ((j : ℕ) → j ≢ k → slice_get new j ≡ slice_get old j) → IsOrder old (length old) k xs len → IsOrder new (length new) k xs len
others_stay old new k xs len long kept o = said_so (Waits old (length old) k) (Waits new (length new) k) (time_of old) (time_of new) xs len to back same o
  where
    to : (j : ℕ) → Waits old (length old) k j → Waits new (length new) k j
    to j w = record { within = let h = w.within in omega (arith, h, long); other = w.other; seat = w.seat; there = kept j w.other ∙ w.there; unfinished = w.unfinished }

    back : (j : ℕ) → Waits new (length new) k j → Waits old (length old) k j
    back j w = record { within = let h = w.within in omega (arith, h, long); other = w.other; seat = w.seat; there = sym (kept j w.other) ∙ w.there; unfinished = w.unfinished }

    same : (j : ℕ) → Waits old (length old) k j → time_of old j ≡ time_of new j
    same j w = time_is old j w.seat w.there ∙ sym (time_is new j w.seat (kept j w.other ∙ w.there))

-- whether there is a next input
pub some_waits : (seats : List Seat) (xs : List ℕ) (len : ℕ) → IsOrder seats (length seats) (length seats) xs len → 0 < len → (k : ℕ) × IsNext seats k
some_waits seats xs len o some =
    let e : len ≡ len - 1 + 1 = omega arith in
    (get_or xs (len - 1) 0, last_is_next seats xs (len - 1) (subst (IsOrder seats (length seats) (length seats) xs) e o))

pub none_waiting : (seats : List Seat) (xs : List ℕ) (len : ℕ) → IsOrder seats (length seats) (length seats) xs len → len ≡ 0 → All (λ (s : Seat). s.finished ≡ true) seats
none_waiting seats xs len o e = none_waits seats xs (subst (IsOrder seats (length seats) (length seats) xs) e o)
