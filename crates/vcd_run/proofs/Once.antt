-- Numbers that are there once, and those that pass in order.
use Rattle.std.proofs.Common.{◌≡◌, ◌≢◌, ◌⊎◌, inl, inr, ℕ, suc, ◌+◌, ◌<◌, ◌≤◌, ◌==◌, Bool, true, false, cond, List, [], ◌∷◌, ◌++◌, length, take, get_or, refl, sym, ap, subst, ◌∙◌, arith, append-nil}
use Prim.Native.Nat.{zero}
use Rattle.std.proofs.lemmas.Bool.{eq-eqb, ne_eqb, cases_lt, cases_eq}
use Rattle.std.proofs.lemmas.List.{take_more, take_all}
use Rattle.std.proofs.lemmas.List.Sums.{sum_by-append, sum_by-cons}
use Rattle.std.specs.List.Sorted.{IsNonDecreasing, IsPermutation}
use Rattle.std.proofs.lemmas.List.Sorted.{IsNonDecreasingBy-take, sum_by-IsPermutation}
use Rattle.vcd_run.specs.Listed.{chosen, times}

-- ---- how often a number is there

abbrev is_it : ℕ → ℕ → ℕ
is_it i n = cond (n == i) 1 0

times_cons : (i x : ℕ) (xs : List ℕ) → times i (x ∷ xs) ≡ is_it i x + times i xs
times_cons i x xs = sum_by-cons (λ n. cond (n == i) 1 0) x xs

pub times_push : (i x : ℕ) (xs : List ℕ) → times i (xs ++ x ∷ []) ≡ times i xs + cond (x == i) 1 0
times_push i x xs = let all = sum_by-append (λ n. cond (n == i) 1 0) xs (x ∷ []) in let one = times_cons i x [] in omega (arith, all, one)

its_own : (x : ℕ) → is_it x x ≡ 1
its_own x = ap (λ b. cond {A = ℕ} b 1 0) (eq-eqb x x refl)

-- how often the numbers below a bound are there
abbrev total : ℕ → List ℕ → ℕ
total zero xs = 0
total (suc n) xs = total n xs + times n xs

total_none : (n : ℕ) → total n [] ≡ 0
total_none zero = refl
total_none (suc n) = let rest = total_none n in omega (arith, rest)

total_below : (n x : ℕ) (xs : List ℕ) → n ≤ x → total n (x ∷ xs) ≡ total n xs
total_below zero x xs le = refl
total_below (suc n) x xs le =
    let rest = total_below n x xs (omega (arith, le)) in
    let one = times_cons n x xs in
    let other : is_it n x ≡ 0 = ap (λ b. cond {A = ℕ} b 1 0) (ne_eqb x n (λ e. omega (arith, le, e))) in
    omega (arith, rest, one, other)

total_more : (n x : ℕ) (xs : List ℕ) → x < n → total n (x ∷ xs) ≡ suc (total n xs)
total_more zero x xs lt = absurd (omega (arith, lt))
total_more (suc n) x xs lt = by_same (λ low. total_more n x xs low) (cases_eq x n)
  where
    one : times n (x ∷ xs) ≡ is_it n x + times n xs
    one = times_cons n x xs

    by_same : (x < n → total n (x ∷ xs) ≡ suc (total n xs)) → (x ≡ n) ⊎ (x ≢ n) → total (suc n) (x ∷ xs) ≡ suc (total (suc n) xs)
    by_same more (inl e) =
        let rest = total_below n x xs (omega (arith, e)) in
        let it : is_it n x ≡ 1 = ap (λ b. cond {A = ℕ} b 1 0) (eq-eqb x n e) in
        omega (arith, rest, one, it)
    by_same more (inr d) =
        let rest = more (omega (arith, lt, d)) in
        let it : is_it n x ≡ 0 = ap (λ b. cond {A = ℕ} b 1 0) (ne_eqb x n d) in
        omega (arith, rest, one, it)

all_counted : (n : ℕ) (xs : List ℕ) → ((i : ℕ) → n ≤ i → times i xs ≡ 0) → total n xs ≡ length xs
all_counted n [] none = total_none n
all_counted n (x ∷ xs) none =
    let rest = all_counted n xs (λ i le. let zero = none i le in let one = times_cons i x xs in omega (arith, zero, one)) in
    by_bound rest (cases_lt x n)
  where
    by_bound : total n xs ≡ length xs → (x < n) ⊎ (n ≤ x) → total n (x ∷ xs) ≡ length (x ∷ xs)
    by_bound rest (inl lt) = let more = total_more n x xs lt in omega (arith, more, rest)
    by_bound rest (inr le) = let zero = none x le in let one = times_cons x x xs in let own = its_own x in absurd (omega (arith, zero, one, own))

few_in_all : (n : ℕ) (xs : List ℕ) → ((i : ℕ) → times i xs ≤ 1) → total n xs ≤ n
few_in_all zero xs once = let none : total 0 xs ≡ 0 = refl in omega (arith, none)
few_in_all (suc n) xs once = let rest = few_in_all n xs once in let one = once n in omega (arith, rest, one)

-- numbers below a bound that are there once are not more than the bound
pub fits : (n : ℕ) (xs : List ℕ) → ((i : ℕ) → times i xs ≤ 1) → ((i : ℕ) → n ≤ i → times i xs ≡ 0) → length xs ≤ n
fits n xs once none = let few = few_in_all n xs once in let all = all_counted n xs none in omega (arith, few, all)

-- ---- the numbers that pass, in order

none_there : (xs : List ℕ) → ((i : ℕ) → times i xs ≡ 0) → xs ≡ []
none_there [] none = refl
none_there (x ∷ xs) none = let zero = none x in let one = times_cons x x xs in let own = its_own x in absurd (omega (arith, zero, one, own))

there_at : (i : ℕ) (xs : List ℕ) → 1 ≤ times i xs → (j : ℕ) × (j < length xs) × (get_or xs j 0 ≡ i)
there_at i [] some = absurd (omega (arith, some))
there_at i (x ∷ xs) some = by_same (there_at i xs) (cases_eq x i)
  where
    by_same : (1 ≤ times i xs → (j : ℕ) × (j < length xs) × (get_or xs j 0 ≡ i)) → (x ≡ i) ⊎ (x ≢ i) → (j : ℕ) × (j < length (x ∷ xs)) × (get_or (x ∷ xs) j 0 ≡ i)
    by_same more (inl e) = (0, omega arith, e)
    by_same more (inr d) =
        let one = times_cons i x xs in
        let it : is_it i x ≡ 0 = ap (λ b. cond {A = ℕ} b 1 0) (ne_eqb x i d) in
        let at = more (omega (arith, some, one, it)) in
        let lt = at.1 in (suc at.0, omega (arith, lt), at.2)

last_split : (m : ℕ) (xs : List ℕ) → length xs ≡ suc m → xs ≡ take m xs ++ get_or xs m 0 ∷ []
last_split m xs len = sym (take_all (m + 1) xs (omega (arith, len))) ∙ take_more xs m 0 (omega (arith, len))

-- what does not fall, and has each number that passes once and no other, is these in order
sorted_is : (f : ℕ → Bool) (n : ℕ) (xs : List ℕ) → IsNonDecreasing xs → ((i : ℕ) → i < n → times i xs ≡ cond (f i) 1 0)
    → ((i : ℕ) → n ≤ i → times i xs ≡ 0) → xs ≡ chosen f n
sorted_is f zero xs up once none = none_there xs (λ i. none i (omega arith))
sorted_is f (suc n) xs up once none = by_test (sorted_is f n) (f n) refl
  where
    by_test : ((ys : List ℕ) → IsNonDecreasing ys → ((i : ℕ) → i < n → times i ys ≡ cond (f i) 1 0) → ((i : ℕ) → n ≤ i → times i ys ≡ 0)
        → ys ≡ chosen f n) → (b : Bool) → f n ≡ b → xs ≡ chosen f (suc n)
    by_test front_is false e =
        let no : times n xs ≡ 0 = once n (omega arith) ∙ ap (λ b. cond {A = ℕ} b 1 0) e in
        let rest = front_is xs up (λ i lt. once i (omega (arith, lt))) (λ i le. by_bound no i (cases_eq i n) le) in
        rest ∙ sym (append-nil (chosen f n)) ∙ ap (λ b. chosen f n ++ cond b (n ∷ []) []) (sym e)
      where
        by_bound : times n xs ≡ 0 → (i : ℕ) → (i ≡ n) ⊎ (i ≢ n) → n ≤ i → times i xs ≡ 0
        by_bound absent i (inl same) le = ap (λ j. times j xs) same ∙ absent
        by_bound absent i (inr d) le = none i (omega (arith, d, le))
    by_test front_is true e = by_len (length xs) refl
      where
        one : times n xs ≡ 1
        one = once n (omega arith) ∙ ap (λ b. cond {A = ℕ} b 1 0) e

        at : (j : ℕ) × (j < length xs) × (get_or xs j 0 ≡ n)
        at = there_at n xs (omega (arith, one))

        by_len : (m : ℕ) → length xs ≡ m → xs ≡ chosen f (suc n)
        by_len zero len = let lt = at.1 in absurd (omega (arith, lt, len))
        by_len (suc m) len =
            let front = take m xs in
            let y = get_or xs m 0 in
            let split = last_split m xs len in
            let many = λ (i : ℕ). ap (times i) split ∙ times_push i y front in
            let low : n ≤ y = (let lt = at.1 in let u = up at.0 m 0 (omega (arith, lt, len)) (omega (arith, len)) in subst (λ k. k ≤ y) at.2 u) in
            let is : y ≡ n = last_is y split low in
            let rest = front_is front (IsNonDecreasingBy-take (λ x. x) m xs up)
            (λ i lt. let all = many i in let mine = once i (omega (arith, lt)) in
            let other : is_it i y ≡ 0 = ap (λ b. cond {A = ℕ} b 1 0) (ne_eqb y i (λ q. omega (arith, q, is, lt))) in omega (arith, all, mine, other))
            (λ i le. by_bound i y is (many i) (cases_eq i n) le) in
            split ∙ ap (λ l. l ++ y ∷ []) rest ∙ ap (λ k. chosen f n ++ k ∷ []) is ∙ ap (λ b. chosen f n ++ cond b (n ∷ []) []) (sym e)
          where
            last_is : (y : ℕ) → xs ≡ take m xs ++ y ∷ [] → n ≤ y → y ≡ n
            last_is y split low = by_order (cases_lt n y)
              where
                by_order : (n < y) ⊎ (y ≤ n) → y ≡ n
                by_order (inl lt) =
                    let own = its_own y in
                    let many = ap (times y) split ∙ times_push y y (take m xs) in
                    let no = none y (omega (arith, lt)) in
                    absurd (omega (arith, own, many, no))
                by_order (inr le) = omega (arith, low, le)

            by_bound : (i y : ℕ) → y ≡ n → times i xs ≡ times i (take m xs) + is_it i y → (i ≡ n) ⊎ (i ≢ n) → n ≤ i → times i (take m xs) ≡ 0
            by_bound i y is all (inl same) le = let mine : times i xs ≡ 1 = ap (λ j. times j xs) same ∙ one in
                let it : is_it i y ≡ 1 = ap (λ b. cond {A = ℕ} b 1 0) (eq-eqb y i (omega (arith, is, same))) in omega (arith, mine, it, all)
            by_bound i y is all (inr d) le = let no = none i (omega (arith, d, le)) in omega (arith, no, all)

-- numbers that pass, each once, are these in order once they are sorted
pub sorted_once : (f : ℕ → Bool) (n : ℕ) (xs ys : List ℕ) → ((i : ℕ) → times i xs ≡ cond (f i) 1 0) → ((i : ℕ) → n ≤ i → f i ≡ false)
    → IsPermutation xs ys → IsNonDecreasing ys → ((i : ℕ) → times i ys ≡ cond (f i) 1 0) × (ys ≡ chosen f n)
sorted_once f n xs ys each past moved up = (
  once,
  sorted_is f n ys up (λ i lt. once i) (λ i le. once i ∙ ap (λ b. cond b 1 0) (past i le)),
)
  where
    once : (i : ℕ) → times i ys ≡ cond (f i) 1 0
    once i = sum_by-IsPermutation (λ n. cond (n == i) 1 0) xs ys moved ∙ each i
