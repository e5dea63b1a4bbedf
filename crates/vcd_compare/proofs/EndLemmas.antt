-- The classes of a code that are touched, end by end, and what a change makes of their flags.
use Rattle.vcd_compare.proofs.Cited.{◌≡◌, ◌≢◌, ◌⊎◌, inl, inr, ℕ, suc, ◌<◌, ◌≤◌, ◌*◌, ◌/◌, ◌==◌, min, Bool, true, false, cond, List, [], ◌∷◌, ◌++◌, length, set, slice_get, get_or, Some, refl, sym, ap, subst, ◌∙◌, arith, unwrap_or, cases_eq, cases_lt, eqb-true, same_Some, get_or_past, get_or-set_other, get_or-set_same, length-set, slice_get-get_or, slice_get_within, IdCode, code_of, Header, gives_to, BodyItem, marks, Pair, IsViewOf, HeadView, AreLinked, AreMarks, AreTouched, IsOfCode, flag_by, touched, codes_differ, flag_of, time_compared, IsClassOf, IsEarlierEnd, End, Pairs}
use Rattle.vcd_model.specs.Compare.{Asked as ModelAsked}
use Rattle.vcd_compare.proofs.FlagLemmas.{compared_other, differ_same, flag_changed, flag_low, flag_same, settled_other, touched_flag}
use Rattle.vcd_compare.proofs.OpenGrows.{changes_other, state_other}
use Rattle.vcd_compare.proofs.TriggerLemmas.{gives_no_other}

-- ---- one mark more

pub touched_each : (old : List ℕ) (class k : ℕ) → (get_or (touched class old) k 0 ≡ get_or old k 0)
    ⊎ ((k ≡ class) × (get_or old k 0 ≡ 0) × (get_or (touched class old) k 0 ≡ 1))
touched_each old class k = by_test (get_or old class 1 == 0) refl
  where
    by_test : (b : Bool) → (get_or old class 1 == 0) ≡ b → (get_or (cond b (set old class 1) old) k 0 ≡ get_or old k 0)
        ⊎ ((k ≡ class) × (get_or old k 0 ≡ 0) × (get_or (cond b (set old class 1) old) k 0 ≡ 1))
    by_test false e = inl refl
    by_test true e = by_place (cases_eq k class) (cases_lt class (length old))
      where
        zero : get_or old class 1 ≡ 0
        zero = eqb-true (get_or old class 1) 0 e

        by_place : (k ≡ class) ⊎ (k ≢ class) → (class < length old) ⊎ (length old ≤ class) → (get_or (set old class 1) k 0 ≡ get_or old k 0)
            ⊎ ((k ≡ class) × (get_or old k 0 ≡ 0) × (get_or (set old class 1) k 0 ≡ 1))
        by_place (inr apart) within = inl (get_or-set_other old class k 1 0 apart)
        by_place (inl same) (inr past) = let one = get_or_past old class 1 past in absurd (omega (arith, one, zero))
        by_place (inl same) (inl within) =
            let both : get_or old class 1 ≡ get_or old class 0 = same_Some _ _ (sym (slice_get-get_or old class 1 within) ∙ slice_get-get_or old class 0 within) in
            inr (same, ap (λ j. get_or old j 0) same ∙ sym both ∙ zero, ap (λ j. get_or (set old class 1) j 0) same ∙ get_or-set_same old class 1 0 within)

pub touched_many : (old : List ℕ) (class : ℕ) → length (touched class old) ≡ length old
touched_many old class = by_test (get_or old class 1 == 0)
  where
    by_test : (b : Bool) → length (cond b (set old class 1) old) ≡ length old
    by_test true = length-set old class 1
    by_test false = refl

touched_there : (old : List ℕ) (class : ℕ) → class < length old → get_or (touched class old) class 0 ≢ 0
touched_there old class within = by_test (get_or old class 1 == 0) refl
  where
    by_test : (b : Bool) → (get_or old class 1 == 0) ≡ b → get_or (cond b (set old class 1) old) class 0 ≢ 0
    by_test true e none = let one = get_or-set_same old class 1 0 within in absurd (omega (arith, one, none))
    by_test false e none =
        let both : get_or old class 1 ≡ get_or old class 0 = same_Some _ _ (sym (slice_get-get_or old class 1 within) ∙ slice_get-get_or old class 0 within) in
        let yes : (get_or old class 1 == 0) ≡ true = ap (λ m. m == 0) (both ∙ none) in cc

pub touched_done : (old : List ℕ) (class k : ℕ) → get_or old k 0 ≡ 2 → get_or (touched class old) k 0 ≡ 2
touched_done old class k two = elim (touched_each old class k) [
  | inl same ↦ same ∙ two
  | inr new ↦ let zero = new.1 in absurd (omega (arith, zero, two))
]

-- ---- the classes of a code, end by end

module _ (ends : List End) (code : ℕ) where
  pub touched_first : (last old : List ℕ) (low : ℕ) → AreLinked ends last → code < length last → low ≡ unwrap_or (slice_get last code) 0 → AreTouched ends code low old old
  touched_first last old low linked within is =
      let there : slice_get last code ≡ Some (get_or last code 0) = slice_get-get_or last code 0 within in
      let from = linked.from code low (there ∙ ap Some (sym (is ∙ ap (λ o. unwrap_or o 0) there))) in
      record {
        many = refl;
        within = from.within;
        next = λ i e at here. let its = from.is i at in let same : its.0 ≡ e = same_Some its.0 e (sym its.1 ∙ here) in ap (λ (f : End). f.code) (sym same) ∙ its.2;
        each = λ k. inl refl;
        its = λ i e le here is low. absurd (from.none i e le (slice_get_within ends i e here) here is);
      }

  module _ (old new : List ℕ) (i : ℕ) (e : End) (there : slice_get ends i ≡ Some e) (is : e.code ≡ code) (so_far : AreTouched ends code (suc i) old new) where
    abbrev after : List ℕ
    after = touched (i / 2) new

    pub touched_on : (low : ℕ) → IsEarlierEnd ends after i e.code low → AreTouched ends code (min low i) old after
    touched_on low next = record {
      many = touched_many new (i / 2) ∙ so_far.many;
      within = (let below = so_far.within in omega arith);
      next = λ j f at here.
          let within = next.within in
          let its = next.is j (omega arith) in
          let same : its.0 ≡ f = same_Some its.0 f (sym its.1 ∙ here) in
          ap (λ (g : End). g.code) (sym same) ∙ its.2 ∙ is;
      each = λ k. by_each k (touched_each new (i / 2) k) (so_far.each k);
      its = λ j f le here same below. by_order j f le here same below (cases_lt j i) (cases_eq j i);
    }
      where
        by_each : (k : ℕ) → (get_or after k 0 ≡ get_or new k 0) ⊎ ((k ≡ i / 2) × (get_or new k 0 ≡ 0) × (get_or after k 0 ≡ 1))
            → (get_or new k 0 ≡ get_or old k 0) ⊎ ((get_or old k 0 ≡ 0) × (get_or new k 0 ≡ 1) × IsOfCode ends code k)
            → (get_or after k 0 ≡ get_or old k 0) ⊎ ((get_or old k 0 ≡ 0) × (get_or after k 0 ≡ 1) × IsOfCode ends code k)
        by_each k (inl stays) (inl same) = inl (stays ∙ same)
        by_each k (inl stays) (inr was) = inr (was.0, stays ∙ was.1, was.2)
        by_each k (inr now) (inl same) = inr (sym same ∙ now.1, now.2, (i, e, there, is, sym now.0))
        by_each k (inr now) (inr was) = let none = now.1 in let one = was.1 in absurd (omega (arith, none, one))

        by_order : (j : ℕ) (f : End) → min low i ≤ j → slice_get ends j ≡ Some f → f.code ≡ code → j / 2 < length old
            → (j < i) ⊎ (i ≤ j) → (j ≡ i) ⊎ (j ≢ i) → get_or after (j / 2) 0 ≢ 0
        by_order j f le here same below (inl less) at none =
            let within = next.within in
            let done = next.none j f (omega arith) less here (same ∙ sym is) in
            absurd (omega (arith, done, none))
        by_order j f le here same below (inr more) (inl at) none =
            let many = so_far.many in
            touched_there new (i / 2) (subst (λ k. k / 2 < length new) at (omega (arith, below, many))) (ap (λ k. get_or after (k / 2) 0) (sym at) ∙ none)
        by_order j f le here same below (inr more) (inr apart) none =
            so_far.its j f (omega arith) here same below (by_each_none (touched_each new (i / 2) (j / 2)))
          where
            by_each_none : (get_or after (j / 2) 0 ≡ get_or new (j / 2) 0) ⊎ ((j / 2 ≡ i / 2) × (get_or new (j / 2) 0 ≡ 0) × (get_or after (j / 2) 0 ≡ 1)) → get_or new (j / 2) 0 ≡ 0
            by_each_none (inl stays) = sym stays ∙ none
            by_each_none (inr now) = now.1

-- ---- the flags after a change

-- the code of the first end of a class is that of the first variable
first_code : (h : Header) (ps : Pairs) (class : ℕ) (p : Pair) (e : End) → IsClassOf h ps.ends.items class p
    → slice_get ps.ends.items (2 * class) ≡ Some e → slice_get h.codes e.code ≡ Some (code_of p.one)
first_code h ps class p e is there =
    let same : is.one.0 ≡ e = same_Some is.one.0 e (sym is.one.1 ∙ there) in
    subst (λ (f : End). slice_get h.codes f.code ≡ Some (code_of p.one)) same is.one.2

other_code : (h : Header) (ps : Pairs) (class : ℕ) (p : Pair) (e : End) → IsClassOf h ps.ends.items class p
    → slice_get ps.ends.items (suc (2 * class)) ≡ Some e → slice_get h.codes e.code ≡ Some (code_of p.other)
other_code h ps class p e is there =
    let same : is.other.0 ≡ e = same_Some is.other.0 e (sym is.other.1 ∙ there) in
    subst (λ (f : End). slice_get h.codes f.code ≡ Some (code_of p.other)) same is.other.2

module _ (v : HeadView) (h : Header) (views : IsViewOf v h) (ps : Pairs) (q : ModelAsked) (items : List BodyItem) (x : BodyItem) (n : ℕ) (a : IdCode)
    (there : slice_get h.codes n ≡ Some a) (gives : gives_to a x ≡ true) (other : marks (x ∷ []) ≡ []) where
  abbrev ends : List End
  ends = ps.ends.items

  abbrev next : List BodyItem
  next = items ++ x ∷ []

  -- the change gives something to a code of each class of the code
  gives_class : (class : ℕ) (p : Pair) → IsClassOf h ends class p → IsOfCode ends n class → (gives_to (code_of p.one) x ≡ true) ⊎ (gives_to (code_of p.other) x ≡ true)
  gives_class class p is (i, e, at, code, half) = by_end (cases_eq i (2 * class))
    where
      by_end : (i ≡ 2 * class) ⊎ (i ≢ 2 * class) → (gives_to (code_of p.one) x ≡ true) ⊎ (gives_to (code_of p.other) x ≡ true)
      by_end (inl first) =
          let its = first_code h ps class p e is (subst (λ j. slice_get ends j ≡ Some e) first at) in
          let same : a ≡ code_of p.one = same_Some a (code_of p.one) (sym there ∙ ap (slice_get h.codes) (sym code) ∙ its) in
          inl (subst (λ (c : IdCode). gives_to c x ≡ true) same gives)
      by_end (inr second) =
          let its = other_code h ps class p e is (subst (λ j. slice_get ends j ≡ Some e) (omega (arith, half, second)) at) in
          let same : a ≡ code_of p.other = same_Some a (code_of p.other) (sym there ∙ ap (slice_get h.codes) (sym code) ∙ its) in
          inr (subst (λ (c : IdCode). gives_to c x ≡ true) same gives)

  -- and what it gives something to is the code
  given_code : (index : ℕ) (c : IdCode) → slice_get h.codes index ≡ Some c → gives_to c x ≡ true → index ≡ n
  given_code index c at its = elim (cases_eq index n) [
    | inl same ↦ same
    | inr apart ↦ let none = gives_no_other v h views n a x there gives index c at apart in absurd (cc)
  ]

  module _ (old new : List ℕ) (all : AreTouched ends n 0 old new) (class : ℕ) (p : Pair) (below : class < length old) (is : IsClassOf h ends class p) where
    abbrev differs : List BodyItem → Bool
    differs its = codes_differ q.rule its (code_of p.one) (code_of p.other) (time_compared q its)

    abbrev flag : List BodyItem → ℕ
    flag its = flag_of q its (code_of p.one) (code_of p.other)

    some_mark : (gives_to (code_of p.one) x ≡ true) ⊎ (gives_to (code_of p.other) x ≡ true) → get_or new class 0 ≢ 0
    some_mark (inl one) =
        let half : (2 * class) / 2 ≡ class = omega arith in
        subst (λ k. get_or new k 0 ≢ 0) half
        (all.its (2 * class) is.one.0 (omega arith) is.one.1 (given_code is.one.0.code (code_of p.one) is.one.2 one) (omega (arith, below, half)))
    some_mark (inr two) =
        let half : suc (2 * class) / 2 ≡ class = omega arith in
        subst (λ k. get_or new k 0 ≢ 0) half
        (all.its (suc (2 * class)) is.other.0 (omega arith) is.other.1 (given_code is.other.0.code (code_of p.other) is.other.2 two) (omega (arith, below, half)))

    flag_given : flag items ≡ flag_by (get_or old class 0) (differs items) → (gives_to (code_of p.one) x ≡ true) ⊎ (gives_to (code_of p.other) x ≡ true)
        → flag next ≡ flag_by (get_or new class 0) (differs next)
    flag_given was either =
        touched_flag (get_or old class 0) (get_or new class 0) (differs items) (differs next) (flag items) (flag next)
        (elim (all.each class) [ inl same ↦ inl (same, some_mark either) | inr now ↦ inr (now.0, now.1) ])
        was (flag_low q items (code_of p.one) (code_of p.other))
        (flag_changed q items x other (code_of p.one) (code_of p.other) either
        ∙ ap (λ t. cond (flag items == 2) 2 (cond (codes_differ q.rule next (code_of p.one) (code_of p.other) t) 1 0)) (sym (compared_other q items x other)))

    flag_not_given : flag items ≡ flag_by (get_or old class 0) (differs items) → gives_to (code_of p.one) x ≡ false → gives_to (code_of p.other) x ≡ false
        → flag next ≡ flag_by (get_or new class 0) (differs next)
    flag_not_given was one two =
        let one_state = state_other items x (code_of p.one) one in
        let two_state = state_other items x (code_of p.other) two in
        let mark : get_or new class 0 ≡ get_or old class 0 = elim (all.each class) [
          | inl same ↦ same
          | inr now ↦ let given = gives_class class p is now.2 in absurd (elim given [ inl e ↦ let no = sym e ∙ one in cc | inr e ↦ let no = sym e ∙ two in cc ])
        ] in
        flag_same q items next (code_of p.one) (code_of p.other) one_state two_state (compared_other q items x other) (settled_other q items x other)
        (changes_other items x (code_of p.one) one) (changes_other items x (code_of p.other) two)
        ∙ was
        ∙ ap (flag_by (get_or old class 0)) (sym (differ_same q items next (code_of p.one) (code_of p.other) one_state two_state (time_compared q next)
        ∙ ap (codes_differ q.rule items (code_of p.one) (code_of p.other)) (compared_other q items x other)))
        ∙ ap (λ m. flag_by m (differs next)) (sym mark)

    pub flag_next : flag items ≡ flag_by (get_or old class 0) (differs items) → flag next ≡ flag_by (get_or new class 0) (differs next)
    flag_next was = by_tests (gives_to (code_of p.one) x) (gives_to (code_of p.other) x) refl refl
      where
        by_tests : (b d : Bool) → gives_to (code_of p.one) x ≡ b → gives_to (code_of p.other) x ≡ d → flag next ≡ flag_by (get_or new class 0) (differs next)
        by_tests true d one two = flag_given was (inl one)
        by_tests false true one two = flag_given was (inr two)
        by_tests false false one two = flag_not_given was one two

  pub marks_changed : (old new : List ℕ) → AreTouched ends n 0 old new → AreMarks ps h q items old → AreMarks ps h q next new
  marks_changed old new all are = record {
    many = all.many ∙ are.many;
    each = λ class p below is. flag_next old new all class p (let many = are.many in omega (arith, below, many)) is (are.each class p below is);
  }
