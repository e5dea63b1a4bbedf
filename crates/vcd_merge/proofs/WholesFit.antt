-- What holds of each of the inputs of a merge, as lists.
use Rattle.vcd_merge.proofs.Cited.{◌≡◌, ◌≢◌, ℕ, zero, suc, ◌+◌, ◌<◌, true, false, List, [], ◌∷◌, length, slice_get, Some, refl, sym, subst, ◌∙◌, arith, Header, Fault, Key, key_lt, factor, key_after, Request, is_settled_behind, AreGrown, GrownOne, NoneBefore, OthersLater, Supply, ReadsAsNeeded, AreLeft, IsLeft, AreLate}
use Rattle.vcd_merge.proofs.MergeWholes.{Whole, at_first, at_next, no_more, same_rest, entire, lanes_of, so_far, lefts_of, entire_of, AllFit}

module _ (hs : List Header) (limit : ℕ) where
  module _ (P : ℕ → Whole hs limit → Type 0) where
    -- what is left of them, by what is left of each
    module _ (chunk : ℕ) where
      abbrev IsRead : Whole hs limit → (old new : Supply) → Type 0
      IsRead w old new = IsLeft w.lane.input old new w.left × ReadsAsNeeded limit chunk old new w.left w.lane.front (is_settled_behind Request.Merge w.lane.header)

      pub left_all : (n : ℕ) (ws : List (Whole hs limit)) (olds news : List Supply) → length olds ≡ length ws → length news ≡ length ws → AllFit hs limit P n ws
          → ((k : ℕ) (w : Whole hs limit) (old new : Supply) → P (n + k) w → slice_get ws k ≡ Some w → slice_get olds k ≡ Some old
          → slice_get news k ≡ Some new → IsRead w old new) → AreLeft limit chunk (lanes_of hs limit ws) olds news (lefts_of hs limit ws)
      left_all n [] olds news e f fit each = refl
      left_all n (w ∷ ws) [] news e f fit each = absurd (no_more w ws (sym e))
      left_all n (w ∷ ws) (s ∷ olds) [] e f fit each = absurd (no_more w ws (sym f))
      left_all n (w ∷ ws) (s ∷ olds) (t ∷ news) e f fit each =
          let one = each 0 w s t (subst (λ (j : ℕ). P j w) (at_first n) fit.0) refl refl refl in (
            one.0,
            one.1,
            left_all (n + 1) ws olds news (same_rest w ws s olds e) (same_rest w ws t news f) fit.1 (λ k x old new p. each (suc k) x old new (subst (λ (j : ℕ). P j x) (at_next n k) p)),
          )

    module _ (b : Key) where
      pub grown_all : ((n : ℕ) (w : Whole hs limit) → P n w → GrownOne b hs n w.dump (entire hs limit w)) → (n : ℕ) (ws : List (Whole hs limit))
          → AllFit hs limit P n ws → AreGrown b hs n (so_far hs limit ws) (entire_of hs limit ws)
      grown_all f n [] fit = tt
      grown_all f n (w ∷ ws) fit = (f n w fit.0, grown_all f (n + 1) ws fit.1)

      pub late_all : ((n : ℕ) (w : Whole hs limit) → P n w → (f : Fault) → w.fault ≡ Some f
          → key_lt (key_after (factor hs w.dump.header) n w.items) b ≡ false) → (n : ℕ) (ws : List (Whole hs limit)) → AllFit hs limit P n ws
          → AreLate b hs n (entire_of hs limit ws)
      late_all f n [] fit = tt
      late_all f n (w ∷ ws) fit = (f n w fit.0, late_all f (n + 1) ws fit.1)

      module _ (m : ℕ) (later : (n : ℕ) (w : Whole hs limit) → P n w → n ≢ m → (f : Fault) → w.fault ≡ Some f
          → key_lt b (key_after (factor hs w.dump.header) n w.items) ≡ true) where
        none_all : (n : ℕ) (ws : List (Whole hs limit)) → m < n → AllFit hs limit P n ws → NoneBefore b hs n (entire_of hs limit ws)
        none_all n [] past fit = tt
        none_all n (w ∷ ws) past fit = (later n w fit.0 (λ e. omega (arith, past, e)), none_all (n + 1) ws (omega (arith, past)) fit.1)

        -- the faults of all but the input at an index
        pub others_all : (n k : ℕ) (ws : List (Whole hs limit)) → m ≡ n + k → AllFit hs limit P n ws → OthersLater b hs n k (entire_of hs limit ws)
        others_all n k [] e fit = tt
        others_all n zero (w ∷ ws) e fit = none_all (n + 1) ws (omega (arith, e)) fit.1
        others_all n (suc k) (w ∷ ws) e fit = (later n w fit.0 (λ f. omega (arith, e, f)), others_all (n + 1) k ws (e ∙ sym (at_next n k)) fit.1)
