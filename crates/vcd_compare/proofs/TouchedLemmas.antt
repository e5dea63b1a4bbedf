-- The marks of classes while the candidates are gone through, one after the other.
use Rattle.vcd_compare.proofs.Cited.{◌≡◌, ◌≢◌, ◌⊎◌, inl, inr, ℕ, suc, ◌+◌, ◌<◌, ◌≤◌, ◌==◌, ◌||◌, Bool, true, false, cond, List, [], ◌∷◌, length, nat_le, set, get_or, take, refl, sym, ap, subst, ◌∙◌, arith, cases_eq, cases_lt, eq-eqb, eqb-true, eqb-false, leb-true, ne_eqb, get_or_past, get_or-set_other, get_or-set_same, length-set, list_any, AreListed, IsListed, candidate, candidates, settled_as, taken}
use Rattle.std.proofs.lemmas.List.{get_or-take, length-take-le}
use Rattle.vcd_compare.specs.declared.touched.Touched.{Touched}

-- ---- a mark that was 1

pub one_within : (marks : List ℕ) (class : ℕ) → get_or marks class 0 ≡ 1 → class < length marks
one_within marks class one = elim (cases_lt class (length marks)) [
  | inl low ↦ low
  | inr past ↦ let none = get_or_past marks class 0 past in absurd (omega (arith, none, one))
]

taken_each : (marks : List ℕ) (class after k : ℕ) → (get_or (taken class after marks) k 0 ≡ get_or marks k 0)
    ⊎ ((k ≡ class) × (get_or marks k 0 ≡ 1) × (get_or (taken class after marks) k 0 ≡ after))
taken_each marks class after k = by_test (get_or marks class 0 == 1) refl
  where
    by_test : (b : Bool) → (get_or marks class 0 == 1) ≡ b → (get_or (cond b (set marks class after) marks) k 0 ≡ get_or marks k 0)
        ⊎ ((k ≡ class) × (get_or marks k 0 ≡ 1) × (get_or (cond b (set marks class after) marks) k 0 ≡ after))
    by_test false e = inl refl
    by_test true e = elim (cases_eq k class) [
      | inr apart ↦ inl (get_or-set_other marks class k after 0 apart)
      | inl same ↦
          let one = eqb-true (get_or marks class 0) 1 e in
          inr (same, ap (λ j. get_or marks j 0) same ∙ one, ap (λ j. get_or (set marks class after) j 0) same ∙ get_or-set_same marks class after 0 (one_within marks class one))
    ]

taken_here : (marks : List ℕ) (class after : ℕ) → after ≢ 1 → get_or (taken class after marks) class 0 ≢ 1
taken_here marks class after other = by_test (get_or marks class 0 == 1) refl
  where
    by_test : (b : Bool) → (get_or marks class 0 == 1) ≡ b → get_or (cond b (set marks class after) marks) class 0 ≢ 1
    by_test false e one = eqb-false (get_or marks class 0) 1 e one
    by_test true e one = other (sym (get_or-set_same marks class after 0 (one_within marks class (eqb-true (get_or marks class 0) 1 e))) ∙ one)

pub taken_many : (marks : List ℕ) (class after : ℕ) → length (taken class after marks) ≡ length marks
taken_many marks class after = by_test (get_or marks class 0 == 1)
  where
    by_test : (b : Bool) → length (cond b (set marks class after) marks) ≡ length marks
    by_test true = length-set marks class after
    by_test false = refl

-- ---- the candidates

-- the candidates before an index were gone through: each mark that was 1 is another number, unless
-- the class stays
pub record GoneThrough (t now : Touched) (after : ℕ) (stays : ℕ → Bool) (index : ℕ) : Type 0 where
  pub many : length now.marks.now ≡ length t.marks.now
  pub classes : now.classes.now ≡ t.classes.now
  pub listed : now.listed ≡ t.listed
  pub each : (k : ℕ) → (get_or now.marks.now k 0 ≡ get_or t.marks.now k 0) ⊎ ((get_or t.marks.now k 0 ≡ 1) × (get_or now.marks.now k 0 ≡ after) × (stays k ≡ false))
  pub done : (i : ℕ) → i < index → get_or now.marks.now (candidate t i) 0 ≡ 1 → stays (candidate t i) ≡ true

pub gone_first : (t : Touched) (after : ℕ) (stays : ℕ → Bool) → GoneThrough t t after stays 0
gone_first t after stays = record { many = refl; classes = refl; listed = refl; each = λ k. inl refl; done = λ i low. absurd (omega (arith, low)) }

module _ (t now : Touched) (after : ℕ) (stays : ℕ → Bool) (index : ℕ) (gone : GoneThrough t now after stays index) where
  pub same_candidate : (i : ℕ) → candidate now i ≡ candidate t i
  same_candidate i =
      ap (λ l. cond (nat_le l (length now.classes.now)) (get_or now.classes.now i 0) i) gone.listed
      ∙ ap (λ cs. cond (nat_le t.listed (length cs)) (get_or cs i 0) i) gone.classes

  module _ (class : ℕ) (is : class ≡ candidate now index) where
    own : candidate t index ≡ class
    own = sym (same_candidate index) ∙ sym is

    pub gone_kept : stays class ≡ true → GoneThrough t now after stays (index + 1)
    gone_kept stay = record {
      many = gone.many;
      classes = gone.classes;
      listed = gone.listed;
      each = gone.each;
      done = λ i low one. elim (cases_eq i index) [
        | inl same ↦ ap (λ j. stays (candidate t j)) same ∙ ap stays own ∙ stay
        | inr apart ↦ gone.done i (omega (arith, low, apart)) one
      ];
    }

    pub gone_taken : (next : Touched) → after ≢ 1 → stays class ≡ false → next.marks.now ≡ taken class after now.marks.now
        → next.classes.now ≡ now.classes.now → next.listed ≡ now.listed → GoneThrough t next after stays (index + 1)
    gone_taken next other stay marks classes listed = record {
      many = ap length marks ∙ taken_many now.marks.now class after ∙ gone.many;
      classes = classes ∙ gone.classes;
      listed = listed ∙ gone.listed;
      each = λ k. subst (λ m. (m ≡ get_or t.marks.now k 0) ⊎ ((get_or t.marks.now k 0 ≡ 1) × (m ≡ after) × (stays k ≡ false))) (sym (ap (λ l. get_or l k 0) marks))
          (by_each k (taken_each now.marks.now class after k) (gone.each k));
      done = λ i low one. by_index i low (sym (ap (λ l. get_or l (candidate t i) 0) marks) ∙ one) (cases_eq i index);
    }
      where
        by_each : (k : ℕ) → (get_or (taken class after now.marks.now) k 0 ≡ get_or now.marks.now k 0)
            ⊎ ((k ≡ class) × (get_or now.marks.now k 0 ≡ 1) × (get_or (taken class after now.marks.now) k 0 ≡ after))
            → (get_or now.marks.now k 0 ≡ get_or t.marks.now k 0) ⊎ ((get_or t.marks.now k 0 ≡ 1) × (get_or now.marks.now k 0 ≡ after) × (stays k ≡ false))
            → (get_or (taken class after now.marks.now) k 0 ≡ get_or t.marks.now k 0)
            ⊎ ((get_or t.marks.now k 0 ≡ 1) × (get_or (taken class after now.marks.now) k 0 ≡ after) × (stays k ≡ false))
        by_each k (inl still) (inl same) = inl (still ∙ same)
        by_each k (inl still) (inr was) = inr (was.0, still ∙ was.1, was.2)
        by_each k (inr new) (inl same) = inr (sym same ∙ new.1, new.2, ap stays new.0 ∙ stay)
        by_each k (inr new) (inr was) = inr (was.0, new.2, was.2)

        by_index : (i : ℕ) → i < index + 1 → get_or (taken class after now.marks.now) (candidate t i) 0 ≡ 1 → (i ≡ index) ⊎ (i ≢ index) → stays (candidate t i) ≡ true
        by_index i low one (inl same) =
            let at : candidate t i ≡ class = ap (candidate t) same ∙ own in
            absurd (taken_here now.marks.now class after other (ap (λ j. get_or (taken class after now.marks.now) j 0) (sym at) ∙ one))
        by_index i low one (inr apart) = elim (taken_each now.marks.now class after (candidate t i)) [
          | inl still ↦ gone.done i (omega (arith, low, apart)) (sym still ∙ one)
          | inr new ↦ absurd (other (sym new.2 ∙ one))
        ]

-- a class with the mark 1 is a candidate
pub found : (t : Touched) (k : ℕ) → IsListed t → get_or t.marks.now k 0 ≡ 1 → (i : ℕ) × (i < candidates t) × (candidate t i ≡ k)
found t k are one = by_fit (nat_le t.listed (length t.classes.now)) refl
  where
    index_of : (xs : List ℕ) → list_any (λ c. c == k) xs ≡ true → (i : ℕ) × (i < length xs) × (get_or xs i 0 ≡ k)
    index_of [] e = cc
    index_of (x ∷ xs) e = by_head (index_of xs) (cases_eq x k)
      where
        by_head : (list_any (λ c. c == k) xs ≡ true → (i : ℕ) × (i < length xs) × (get_or xs i 0 ≡ k)) → (x ≡ k) ⊎ (x ≢ k) → (i : ℕ)
            × (i < length (x ∷ xs)) × (get_or (x ∷ xs) i 0 ≡ k)
        by_head rest (inl same) = (0, omega arith, same)
        by_head rest (inr d) = let at = rest (sym (ap (λ b. b || list_any (λ c. c == k) xs) (ne_eqb x k d)) ∙ e) in let w = at.1 in (suc at.0, omega (arith, w), at.2)

    by_fit : (b : Bool) → nat_le t.listed (length t.classes.now) ≡ b → (i : ℕ) × (i < cond b t.listed (length t.marks.now)) × (cond b (get_or t.classes.now i 0) i ≡ k)
    by_fit false e = (k, one_within t.marks.now k one, refl)
    by_fit true e =
        let le = leb-true t.listed (length t.classes.now) e in
        let at = index_of (take t.listed t.classes.now) (are le k one) in
        let len = length-take-le t.listed t.classes.now le in
        let low : at.0 < t.listed = (let w = at.1 in omega (arith, w, len)) in
        (at.0, low, sym (get_or-take t.listed t.classes.now at.0 0 low) ∙ at.2)

-- once all were gone through, the marks that are 1 are those of the classes that stay
pub gone_all : (t now : Touched) (after : ℕ) (stays : ℕ → Bool) (index : ℕ) → IsListed t → GoneThrough t now after stays index → candidates t ≤ index → (k : ℕ)
    → get_or now.marks.now k 0 ≡ cond (get_or t.marks.now k 0 == 1) (cond (stays k) 1 after) (get_or t.marks.now k 0)
gone_all t now after stays index are gone all k = by_one (cases_eq (get_or t.marks.now k 0) 1)
  where
    m : ℕ
    m = get_or t.marks.now k 0

    by_each : get_or t.marks.now k 0 ≡ 1 → (get_or now.marks.now k 0 ≡ get_or t.marks.now k 0) ⊎ ((get_or t.marks.now k 0 ≡ 1) × (get_or now.marks.now k 0 ≡ after) × (stays k ≡ false))
        → get_or now.marks.now k 0 ≡ cond (stays k) 1 after
    by_each one (inl same) =
        let at = found t k are one in
        let low = at.1 in
        let stay : stays k ≡ true = ap stays (sym at.2) ∙ gone.done at.0 (omega (arith, low, all)) (ap (λ j. get_or now.marks.now j 0) at.2 ∙ same ∙ one) in
        same ∙ one ∙ sym (ap (λ b. cond b 1 after) stay)
    by_each one (inr new) = new.1 ∙ sym (ap (λ b. cond b 1 after) new.2)

    by_one : (get_or t.marks.now k 0 ≡ 1) ⊎ (get_or t.marks.now k 0 ≢ 1) → get_or now.marks.now k 0 ≡ cond (get_or t.marks.now k 0 == 1) (cond (stays k) 1 after) (get_or t.marks.now k 0)
    by_one (inl one) = by_each one (gone.each k) ∙ sym (ap (λ b. cond b (cond (stays k) 1 after) (get_or t.marks.now k 0)) (eq-eqb (get_or t.marks.now k 0) 1 one))
    by_one (inr d) = elim (gone.each k) [ inl same ↦ same | inr new ↦ absurd (d new.0) ] ∙ sym (ap (λ b. cond b (cond (stays k) 1 after) (get_or t.marks.now k 0)) (ne_eqb (get_or t.marks.now k 0) 1 d))

-- what is listed is listed still
pub still_listed : (t now : Touched) (after : ℕ) (stays : ℕ → Bool) (index : ℕ) → IsListed t → after ≢ 1 → GoneThrough t now after stays index → IsListed now
still_listed t now after stays index are other gone le k one =
    let was : get_or t.marks.now k 0 ≡ 1 = elim (gone.each k) [ inl same ↦ sym same ∙ one | inr new ↦ absurd (other (sym new.1 ∙ one)) ] in
    ap (λ n. list_any (λ c. c == k) (take n now.classes.now)) gone.listed
    ∙ ap (λ cs. list_any (λ c. c == k) (take t.listed cs)) gone.classes
    ∙ are (subst (λ n. n ≤ length t.classes.now) gone.listed (subst (λ (cs : List ℕ). now.listed ≤ length cs) gone.classes le)) k was

-- if none is 1, nothing has to be listed
pub none_listed : (old new classes : List ℕ) (after : ℕ) → after ≢ 1 → ((k : ℕ) → get_or new k 0 ≡ settled_as after (get_or old k 0)) → AreListed new classes 0
none_listed old new classes after other each le k one = by_test (cases_eq (get_or old k 0) 1)
  where
    by_test : (get_or old k 0 ≡ 1) ⊎ (get_or old k 0 ≢ 1) → list_any (λ c. c == k) (take 0 classes) ≡ true
    by_test (inl is) = absurd (other (sym (each k ∙ ap (λ b. cond b after (get_or old k 0)) (eq-eqb (get_or old k 0) 1 is)) ∙ one))
    by_test (inr d) = absurd (d (sym (each k ∙ ap (λ b. cond b after (get_or old k 0)) (ne_eqb (get_or old k 0) 1 d)) ∙ one))
