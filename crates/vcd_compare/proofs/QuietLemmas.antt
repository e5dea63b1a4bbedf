-- Timestamps that settle nothing, and whether no pair differed yet, with one item more.
use Rattle.vcd_compare.proofs.Cited.{◌≡◌, ℕ, ◌<◌, ◌≤◌, max, Bool, false, nat_le, List, [], ◌∷◌, ◌++◌, fold, filter, refl, sym, ap, ◌∙◌, append-nil, arith, list_any, le-ltb, or_from, list_any-append, IdCode, code_of, Header, BodyItem, marks, is_settled, Asked, Pair, differs, Names, compared_in, side, times_in, fold-append, marks-append, DoNotFall, IsQuiet, flag_of, time_compared}
use Rattle.vcd_compare.proofs.FlagLemmas.{any_settled, differed_same, flag_same, settled_after, settled_other}
use Rattle.vcd_compare.proofs.OpenGrows.{changes_other, state_other}
use Rattle.vcd_compare.proofs.PastTimes.{past, past_more, settled_times}

-- timestamps that do not fall, with one more
pub no_fall : (low : ℕ) (ms : List ℕ) (t : ℕ) → DoNotFall low ms → fold max low ms ≤ t → DoNotFall low (ms ++ t ∷ [])
no_fall low [] t up le = (le, tt)
no_fall low (m ∷ ms) t up le = let above = up.0 in let is : max low m ≡ m = omega arith in (up.0, no_fall m ms t up.1 (rw is at le))

pub no_fall-marks : (items : List BodyItem) (t : ℕ) → DoNotFall 0 (marks items) → fold max 0 (marks items) ≤ t → DoNotFall 0 (marks (items ++ BodyItem.Time t ∷ []))
no_fall-marks items t up le = rw (marks-append items (BodyItem.Time t ∷ [])) (no_fall 0 (marks items) t up le)

pub no_fall-other : (items : List BodyItem) (x : BodyItem) → marks (x ∷ []) ≡ [] → DoNotFall 0 (marks items) → DoNotFall 0 (marks (items ++ x ∷ []))
no_fall-other items x other up = rw (marks-append items (x ∷ []), other, append-nil (marks items)) up

-- ---- a timestamp that is not above the time that is compared

module _ (q : Asked) (items : List BodyItem) (t : ℕ) (up : DoNotFall 0 (marks items)) (up' : DoNotFall 0 (marks (items ++ BodyItem.Time t ∷ []))) (low : t ≤ time_compared q items) where
  abbrev after : List BodyItem
  after = items ++ BodyItem.Time t ∷ []

  pub compared_again : time_compared q after ≡ time_compared q items
  compared_again = ap (fold max q.from) (marks-append items (BodyItem.Time t ∷ [])) ∙ fold-append max q.from (marks items) (t ∷ []) ∙ omega arith

  settled_again : filter (is_settled after) (times_in q after) ≡ filter (is_settled items) (times_in q items)
  settled_again =
      settled_times q after up'
      ∙ ap (filter (λ u. nat_le u q.to)) (ap (past q.from) (marks-append items (BodyItem.Time t ∷ [])) ∙ past_more q.from (marks items) t
      ∙ rw (le-ltb (time_compared q items) t low) (append-nil (past q.from (marks items))))
      ∙ sym (settled_times q items up)

  pub flag_again : (a b : IdCode) → flag_of q after a b ≡ flag_of q items a b
  flag_again a b =
      let x = BodyItem.Time t in
      flag_same q items after a b (state_other items x a refl) (state_other items x b refl) compared_again settled_again (changes_other items x a refl) (changes_other items x b refl)

-- ---- no pair differed

any_pairs : (f g : Pair → Bool) (ps : List Pair) → ((p : Pair) → f p ≡ g p) → list_any f ps ≡ list_any g ps
any_pairs f g [] same = refl
any_pairs f g (p ∷ ps) same = rw (same p, any_pairs f g ps same) refl

any_times : (f g : ℕ → Bool) (ts : List ℕ) → ((t : ℕ) → f t ≡ g t) → list_any f ts ≡ list_any g ts
any_times f g [] same = refl
any_times f g (t ∷ ts) same = rw (same t, any_times f g ts same) refl

module _ (q : Asked) (h : Header) (ns : List Names) (items : List BodyItem) where
  -- some pair differs at the time
  abbrev some_at : List BodyItem → ℕ → Bool
  some_at its u = list_any (λ p. differs q.rule (side its) (side its) p u) (compared_in q h ns)

  pub quiet_other : (x : BodyItem) → marks (x ∷ []) ≡ [] → IsQuiet q h ns items → IsQuiet q h ns (items ++ x ∷ [])
  quiet_other x other quiet =
      ap (list_any (some_at (items ++ x ∷ []))) (settled_other q items x other)
      ∙ any_settled q items x other (some_at (items ++ x ∷ [])) (some_at items) (times_in q items)
      (λ t e. any_pairs _ _ (compared_in q h ns) (λ p. differed_same q items x other (code_of p.one) (code_of p.other) t e))
      ∙ quiet

  some_still : (t u : ℕ) → some_at (items ++ BodyItem.Time t ∷ []) u ≡ some_at items u
  some_still t u = any_pairs _ _ (compared_in q h ns) (λ p. rw (state_other items (BodyItem.Time t) (code_of p.one) refl u, state_other items (BodyItem.Time t) (code_of p.other) refl u) refl)

  pub quiet_again : (t : ℕ) → DoNotFall 0 (marks items) → DoNotFall 0 (marks (items ++ BodyItem.Time t ∷ [])) → t ≤ time_compared q items
      → IsQuiet q h ns items → IsQuiet q h ns (items ++ BodyItem.Time t ∷ [])
  quiet_again t up up' low quiet =
      ap (list_any (some_at (items ++ BodyItem.Time t ∷ []))) (settled_again q items t up up' low)
      ∙ any_times (some_at (items ++ BodyItem.Time t ∷ [])) (some_at items) (filter (is_settled items) (times_in q items)) (some_still t)
      ∙ quiet

  pub quiet_after : (t : ℕ) → DoNotFall 0 (marks items) → DoNotFall 0 (marks (items ++ BodyItem.Time t ∷ [])) → time_compared q items < t → time_compared q items ≤ q.to
      → some_at items (time_compared q items) ≡ false → IsQuiet q h ns items → IsQuiet q h ns (items ++ BodyItem.Time t ∷ [])
  quiet_after t up up' high asked none quiet =
      let done = filter (is_settled items) (times_in q items) in
      ap (list_any (some_at (items ++ BodyItem.Time t ∷ []))) (settled_after q items t up up' high asked)
      ∙ any_times (some_at (items ++ BodyItem.Time t ∷ [])) (some_at items) (done ++ time_compared q items ∷ []) (some_still t)
      ∙ list_any-append (some_at items) done (time_compared q items ∷ [])
      ∙ or_from _ _ quiet (rw none refl)
