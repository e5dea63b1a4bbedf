-- The checks of a time scale.
use Rattle.vcd_head.proofs.Cited.{◌≡◌, ℕ, ℤ, ◌+ℤ◌, List, [], ◌∷◌, Some, None, option_map, option_and_then, refl, sym, ap, subst, ◌∙◌, to_z, of_z, w8, Input, Keyword, keyword_text, exponent_of, HeaderPhrase, scale_of, Placed, token_of, Ghosts, Feed, power_in, unit_in, Reads, ReadsToken, FailsAtToken, ScaleRead, not_until}
use Rattle.vcd_head.proofs.PhraseLemmas.{inside, refused_inside}
use Rattle.vcd_head.proofs.ScaleLemmas.{exponent_sum, number_test, number_test_none, number_no_end, unit_test, unit_test_none, unit_no_end, exponent_no_end, exponent_fits, sum_fits, unit_fits, number_fits}

module _ {X : Type 0} {g : Ghosts X} (most : ℕ) (i : Input) (placed : List (Placed HeaderPhrase)) (f : Feed X g) where
  -- a number alone
  pub number_read : (p : ℤ) → power_in (token_of f).bytes ≡ Some p → ReadsToken most i placed (keyword_text Keyword.Timescale ∷ []) f
      → Reads most i placed (keyword_text Keyword.Timescale ∷ (token_of f).bytes ∷ []) f
  number_read p h l =
      inside most i placed Keyword.Timescale f [] (rw (number_test (token_of f).bytes p h) refl)
      (ap (λ o. option_map HeaderPhrase.Timescale (option_and_then scale_of o)) (not_until [] (token_of f).bytes tt (number_no_end (token_of f).bytes p h))) l

  -- a number and a unit in one token
  pub one_read : (e : ℤ) → power_in (token_of f).bytes ≡ None → exponent_of (token_of f).bytes ≡ Some e
      → ReadsToken most i placed (keyword_text Keyword.Timescale ∷ []) f → ScaleRead most i placed f e
  one_read e h x l =
      let n = exponent_no_end (token_of f).bytes e x in
      record {
        inner = (token_of f).bytes ∷ [];
        reads = inside most i placed Keyword.Timescale f [] (rw (number_test_none (token_of f).bytes h, x) refl)
            (ap (λ o. option_map HeaderPhrase.Timescale (option_and_then scale_of o)) (not_until [] (token_of f).bytes tt n)) l;
        none = (n, tt);
        scale_is = x;
        then_end = λ t. rw (number_test_none (token_of f).bytes h) refl;
        fits = exponent_fits (token_of f).bytes e x;
      }

  pub one_refused : power_in (token_of f).bytes ≡ None → exponent_of (token_of f).bytes ≡ None → ReadsToken most i placed (keyword_text Keyword.Timescale ∷ []) f → FailsAtToken most i 5 f
  one_refused h x l = refused_inside most i placed Keyword.Timescale f [] 5 (rw (number_test_none (token_of f).bytes h, x) refl) l

  -- a number and a unit in two tokens
  pub two_read : (n : List ℕ) (p e : ℤ) → power_in n ≡ Some p → unit_in (token_of f).bytes ≡ Some e
      → ReadsToken most i placed (keyword_text Keyword.Timescale ∷ n ∷ []) f → ScaleRead most i placed f (e +ℤ p)
  two_read n p e h u l =
      let ne = number_no_end n p h in
      let ue = unit_no_end (token_of f).bytes e u in
      record {
        inner = n ∷ (token_of f).bytes ∷ [];
        reads = inside most i placed Keyword.Timescale f (n ∷ []) (rw (number_test n p h, unit_test (token_of f).bytes e u) refl)
            (ap (λ o. option_map HeaderPhrase.Timescale (option_and_then scale_of o)) (not_until (n ∷ []) (token_of f).bytes (ne, tt) ue)) l;
        none = (ne, (ue, tt));
        scale_is = rw (number_test n p h, unit_test (token_of f).bytes e u) (exponent_sum n (token_of f).bytes p e h u);
        then_end = λ t. refl;
        fits = sum_fits n (token_of f).bytes p e h u;
      }

  pub two_refused : (n : List ℕ) (p : ℤ) → power_in n ≡ Some p → unit_in (token_of f).bytes ≡ None
      → ReadsToken most i placed (keyword_text Keyword.Timescale ∷ n ∷ []) f → FailsAtToken most i 5 f
  two_refused n p h u l = refused_inside most i placed Keyword.Timescale f (n ∷ []) 5 (rw (number_test n p h, unit_test_none (token_of f).bytes u) refl) l

  -- as the code adds them
  pub two_added : (n : List ℕ) (p e : ℤ) → power_in n ≡ Some p → unit_in (token_of f).bytes ≡ Some e
      → ReadsToken most i placed (keyword_text Keyword.Timescale ∷ n ∷ []) f
      → ScaleRead most i placed f (to_z w8 (of_z w8 (to_z w8 (of_z w8 e) +ℤ to_z w8 (of_z w8 p))))
  two_added n p e h u l =
      let same : to_z w8 (of_z w8 (to_z w8 (of_z w8 e) +ℤ to_z w8 (of_z w8 p))) ≡ e +ℤ p =
      ap (λ x. to_z w8 (of_z w8 (x +ℤ to_z w8 (of_z w8 p)))) (unit_fits (token_of f).bytes e u)
      ∙ ap (λ x. to_z w8 (of_z w8 (e +ℤ x))) (number_fits n p h) ∙ sum_fits n (token_of f).bytes p e h u in
      subst (ScaleRead most i placed f) (sym same) (two_read n p e h u l)
