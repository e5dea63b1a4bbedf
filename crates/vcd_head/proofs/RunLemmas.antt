-- The names that begin with the front of a path, among names in the order of their bytes.
use Rattle.vcd_head.proofs.Cited.{◌≡◌, ◌≢◌, ◌⊎◌, ℕ, suc, ◌+◌, ◌<◌, ◌≤◌, Bool, true, false, ◌&&◌, ◌||◌, List, [], ◌∷◌, ◌++◌, length, drop, get_or, set, bytes_eq, slice_get, Some, inl, inr, refl, sym, ap, subst, ◌∙◌, arith, list_any, nat_cmp_is, slice_cmp, nat_cmp, is_lt, Less, Equal, drop-append_seam, drop-length, cases_eq, cases_lt, eq-eqb, ne_eqb, false_from_ne_true, append_assoc, append-nil, get_or-set_other, get_or-set_same, list_any_at, get_or_from_slice_get, slice_get-get_or, slice_get_within, selects_path, same_bytes, Matches, IsOrder, SelectsAll, first_of, next_in, text_at, Follows, IsDecided, NameRun}
use Rattle.vcd_head.specs.NameOrder.{Rises}
use Rattle.vcd_head.proofs.MatchLemmas.{match_none, or_false, or_true}
use Rattle.vcd_head.proofs.NamePaths.{selects-byte, selects-front}

-- ---- a name that begins with the front of a path

pub is_itself : (p : List ℕ) → selects_path p p ≡ true
is_itself p = ap (λ q. selects_path q q) (sym (append-nil p)) ∙ selects-front p [] []

pub not_shorter : (p : List ℕ) (c : ℕ) (rest : List ℕ) → selects_path p (p ++ c ∷ rest) ≡ false
not_shorter p c rest = ap (λ q. selects_path q (p ++ c ∷ rest)) (sym (append-nil p)) ∙ selects-front p [] (c ∷ rest)

pub other_byte : (p t rest : List ℕ) (b c : ℕ) → b ≢ c → selects_path (p ++ b ∷ t) (p ++ c ∷ rest) ≡ false
other_byte p t rest b c n = selects-front p (b ∷ t) (c ∷ rest) ∙ selects-byte b c t rest ∙ ap (λ x. x && selects_path t rest) (ne_eqb b c n)

after_name : (p : List ℕ) (b : ℕ) (t : List ℕ) → selects_path (p ++ b ∷ t) p ≡ selects_path (b ∷ t) []
after_name p b t = ap (selects_path (p ++ b ∷ t)) (sym (append-nil p)) ∙ selects-front p (b ∷ t) []

pub ends_at_point : (p t : List ℕ) → selects_path (p ++ 46 ∷ t) p ≡ true
ends_at_point p t = after_name p 46 t

pub ends_elsewhere : (p : List ℕ) (b : ℕ) (t : List ℕ) → b ≢ 46 → selects_path (p ++ b ∷ t) p ≡ false
ends_elsewhere p b t n = after_name p b t ∙ rw (ne_eqb 46 b (λ e. n (sym e))) refl

-- a name does not select all that continues after itself
pub not_every : (p : List ℕ) → SelectsAll p p → ⊥
not_every p all = let no = sym (ends_elsewhere p 97 [] (λ e. omega (arith, e))) ∙ all (97 ∷ []) in cc

pub all_behind : (p q name : List ℕ) → SelectsAll p name → SelectsAll (p ++ q) name
all_behind p q name all = λ t. ap (λ l. selects_path l name) (append_assoc p q t) ∙ all (q ++ t)

pub none_behind : (p q name : List ℕ) → ((text : List ℕ) → selects_path (p ++ text) name ≡ false) → (text : List ℕ) → selects_path ((p ++ q) ++ text) name ≡ false
none_behind p q name none = λ t. ap (λ l. selects_path l name) (append_assoc p q t) ∙ none (q ++ t)

-- ---- bytes

pub equal_bytes : (a b : List ℕ) → a ≡ b → bytes_eq a b ≡ true
equal_bytes a b e = ap (bytes_eq a) (sym e) ∙ itself a
  where
    itself : (xs : List ℕ) → bytes_eq xs xs ≡ true
    itself [] = refl
    itself (x ∷ xs) = rw (eq-eqb x x refl) (itself xs)

pub none_first : (rest : List ℕ) → first_of rest ≡ 0 → rest ≡ []
none_first [] e = refl
none_first (b ∷ rest) e = cc

pub byte_first : (rest : List ℕ) (b : ℕ) → first_of rest ≡ b + 1 → (more : List ℕ) × (rest ≡ b ∷ more)
byte_first [] b e = absurd (omega (arith, e))
byte_first (c ∷ rest) b e = let same : c ≡ b = omega (arith, e) in (rest, ap (λ x. x ∷ rest) same)

-- ---- the order of the names

-- what two texts begin with decides nothing of their order
pub cancel : (p x y : List ℕ) → slice_cmp nat_cmp (p ++ x) (p ++ y) ≡ slice_cmp nat_cmp x y
cancel [] x y = refl
cancel (a ∷ p) x y = rw (sym (nat_cmp_is a a Equal refl)) (cancel p x y)

first_rises : (x y : List ℕ) → is_lt (slice_cmp nat_cmp y x) ≡ false → first_of x ≤ first_of y
first_rises [] y h = omega arith
first_rises (a ∷ x) [] h = cc
first_rises (a ∷ x) (b ∷ y) h = elim (cases_lt b a) [
  | inl l ↦ let less : is_lt (slice_cmp nat_cmp (b ∷ y) (a ∷ x)) ≡ true = rw (sym (nat_cmp_is b a Less l)) refl in cc
  | inr l ↦ omega (arith, l)
]

-- a text between two that begin with these bytes begins with them
pub between : (q x y z : List ℕ) → is_lt (slice_cmp nat_cmp y (q ++ x)) ≡ false → is_lt (slice_cmp nat_cmp (q ++ z) y) ≡ false → (rest : List ℕ) × (y ≡ q ++ rest)
between [] x y z a b = (y, refl)
between (c ∷ q) x [] z a b = let wrong = a in cc
between (c ∷ q) x (d ∷ y) z a b =
    let low = first_rises (c ∷ (q ++ x)) (d ∷ y) a in
    let high = first_rises (d ∷ y) (c ∷ (q ++ z)) b in
    let same : d ≡ c = omega (arith, low, high) in
    let under : is_lt (slice_cmp nat_cmp y (q ++ x)) ≡ false = ap is_lt (sym (cancel (d ∷ []) y (q ++ x))) ∙ ap (λ k. is_lt (slice_cmp nat_cmp (d ∷ y) (k ∷ (q ++ x)))) same ∙ a in
    let over : is_lt (slice_cmp nat_cmp (q ++ z) y) ≡ false = ap is_lt (sym (cancel (d ∷ []) (q ++ z) y)) ∙ ap (λ k. is_lt (slice_cmp nat_cmp (k ∷ (q ++ z)) (d ∷ y))) same ∙ b in
    let rest = between q x y z under over in
    (rest.0, (λ j. same j ∷ rest.1 j))

-- ---- names and their indexes

-- the name at an index of the order
pub text_is : (names : List (List ℕ)) (order : List ℕ) → IsOrder names order → (i : ℕ) → i < length names → slice_get names (get_or order i 0) ≡ Some (text_at names order i)
text_is names order o i l = slice_get-get_or names (get_or order i 0) [] (o.positions i l)

-- the index of a name in the order
pub found_at : (names : List (List ℕ)) (order : List ℕ) → IsOrder names order → (p : ℕ) (name : List ℕ) → slice_get names p ≡ Some name → (i : ℕ)
    × (i < length names) × (get_or order i 0 ≡ p) × (text_at names order i ≡ name)
found_at names order o p name at =
    let i = o.each p (slice_get_within names p name at) in
    (i.0, i.1, i.2, ap (λ q. get_or names q []) i.2 ∙ get_or_from_slice_get names p name [] at)

-- a test that a name passes
pub some_passes : (test : List ℕ → Bool) (names : List (List ℕ)) (p : ℕ) (name : List ℕ) → slice_get names p ≡ Some name → test name ≡ true → list_any test names ≡ true
some_passes test names p name at e = list_any_at test names p [] (slice_get_within names p name at) (ap test (get_or_from_slice_get names p name [] at) ∙ e)

pub who_passes : (test : List ℕ → Bool) (names : List (List ℕ)) → list_any test names ≡ true → (p : ℕ) × (name : List ℕ) × (slice_get names p ≡ Some name) × (test name ≡ true)
who_passes test [] e = cc
who_passes test (x ∷ names) e = by_test (test x) refl (who_passes test names) e
  where
    by_test : (b : Bool) → test x ≡ b → (list_any test names ≡ true → (p : ℕ) × (name : List ℕ) × (slice_get names p ≡ Some name)
        × (test name ≡ true)) → (b || list_any test names) ≡ true → (p : ℕ) × (name : List ℕ) × (slice_get (x ∷ names) p ≡ Some name)
        × (test name ≡ true)
    by_test true w others q = (0, x, refl, w)
    by_test false w others q = let other = others q in (suc other.0, other.1, other.2, other.3)

-- ---- a run

module _ (names : List (List ℕ)) (order : List ℕ) (flags : List Bool) (front : List ℕ) (r : NameRun) (f : Follows names order flags front r) where
  pub next_is : (i : ℕ) (l : r.first ≤ i) (m : i < r.end) → next_in names order r.front_len i ≡ first_of (f.inside i l m).0
  next_is i l m =
      let e = f.inside i l m in
      ap first_of (ap (λ n. drop n (text_at names order i)) (f.front_len (omega (arith, l, m))) ∙ ap (drop (length front)) e.1 ∙ drop-append_seam front e.0)

  pub rises_in : Rises names order r.front_len r.first r.end
  rises_in i j l m n =
      let il : i < r.end = omega (arith, m, n) in
      let jl : r.first ≤ j = omega (arith, l, m) in
      let x = f.inside i l il in
      let y = f.inside j jl n in
      let later = f.order_is.rising i j m (omega (arith, n, f.within)) in
      let apart : is_lt (slice_cmp nat_cmp y.0 x.0) ≡ false = ap is_lt (sym (cancel front y.0 x.0)) ∙ (λ k. is_lt (slice_cmp nat_cmp (sym y.1 k) (sym x.1 k))) ∙ later in
      omega (arith, next_is i l il, next_is j jl n, first_rises x.0 y.0 apart)

  -- a name that is the front is in the run
  pub front_inside : (i : ℕ) → i < length names → text_at names order i ≡ front → (r.first ≤ i) × (i < r.end)
  front_inside i l e = elim (cases_lt i r.first) [
    | inl b ↦ absurd (not_out (f.outside i l (inl b)))
    | inr b ↦ elim (cases_lt i r.end) [ inl a ↦ (b, a) | inr a ↦ absurd (not_out (f.outside i l (inr a))) ]
  ]
    where
      not_out : IsDecided names order flags front r.whole i → ⊥
      not_out (inl d) = not_every front (subst (SelectsAll front) e d.2)
      not_out (inr none) = let no = sym (ap (λ l. selects_path l front) (append-nil front)) ∙ ap (selects_path (front ++ [])) (sym e) ∙ none [] in let yes = is_itself front in cc

  -- and it ends there
  pub front_ends : (i : ℕ) (l : r.first ≤ i) (m : i < r.end) → text_at names order i ≡ front → next_in names order r.front_len i ≡ 0
  front_ends i l m e =
      let x = f.inside i l m in
      next_is i l m ∙ ap first_of (nothing front x.0 (sym x.1 ∙ e))
    where
      nothing : (p rest : List ℕ) → p ++ rest ≡ p → rest ≡ []
      nothing p rest h = sym (drop-append_seam p rest) ∙ ap (drop (length p)) h ∙ drop-length p

  -- a name of the run that ends there is the front
  pub ends_front : (i : ℕ) (l : r.first ≤ i) (m : i < r.end) → next_in names order r.front_len i ≡ 0 → text_at names order i ≡ front
  ends_front i l m e =
      let x = f.inside i l m in
      x.1 ∙ ap (λ q. front ++ q) (none_first x.0 (sym (next_is i l m) ∙ e)) ∙ append-nil front

-- ---- the names that are the front are flagged, one after the other

-- the names of the run before `at` were flagged, and no other name
pub record Noting (names : List (List ℕ)) (order : List ℕ) (front : List ℕ) (old new : List Bool) (first at : ℕ) : Type 0 where
  pub set_before : (i : ℕ) → first ≤ i → i < at → get_or new (get_or order i 0) false ≡ true
  pub others : (p : ℕ) (name : List ℕ) → slice_get names p ≡ Some name → bytes_eq name front ≡ false → get_or new p false ≡ get_or old p false

module _ (names : List (List ℕ)) (order : List ℕ) (old : List Bool) (front : List ℕ) (r : NameRun) (f : Follows names order old front r) where
  pub noting_next : (new : List Bool) (at : ℕ) → r.first ≤ at → at < r.end → next_in names order r.front_len at ≡ 0 → get_or order at 0 < length new
      → Noting names order front old new r.first at → Noting names order front old (set new (get_or order at 0) true) r.first (at + 1)
  noting_next new at l m ends room n = record {
    set_before = λ i a b. elim (cases_eq (get_or order i 0) (get_or order at 0)) [
      | inl e ↦ ap (λ k. get_or (set new (get_or order at 0) true) k false) e ∙ get_or-set_same new (get_or order at 0) true false room
      | inr d ↦
          let before : i < at = earlier i at b (λ e. d (ap (λ k. get_or order k 0) e)) in
          get_or-set_other new (get_or order at 0) (get_or order i 0) true false d ∙ n.set_before i a before
    ];
    others = λ p name is e.
        let text = text_is names order f.order_is at (omega (arith, m, f.within)) in
        let front_at = ends_front names order old front r f at l m ends in
        get_or-set_other new (get_or order at 0) p true false (λ same.
        let named : name ≡ front = sym (get_or_from_slice_get names p name [] is) ∙ ap (λ k. get_or names k []) same ∙ front_at in
        let yes = equal_bytes name front named in cc) ∙ n.others p name is e;
  }
    where
      earlier : (i n : ℕ) → i < n + 1 → i ≢ n → i < n
      earlier i n l d = elim (cases_eq i n) [ inl e ↦ absurd (d e) | inr x ↦ omega (arith, l, x) ]

  -- where the first of the run does not end there, no name is the front
  pub none_noted : (r.end ≤ r.first) ⊎ (next_in names order r.front_len r.first ≢ 0) → Matches (λ name. bytes_eq name front) names old old false
  none_noted h = match_none (λ name. bytes_eq name front) names old (λ p name at. false_from_ne_true (bytes_eq name front) (λ same.
      let i = found_at names order f.order_is p name at in
      let e = i.3 ∙ same_bytes name front same in
      let in_run = front_inside names order old front r f i.0 i.1 e in
      let ends = front_ends names order old front r f i.0 in_run.0 in_run.1 e in
      not_there i.0 in_run.0 in_run.1 ends h))
    where
      not_there : (i : ℕ) → r.first ≤ i → i < r.end → next_in names order r.front_len i ≡ 0 → (r.end ≤ r.first) ⊎ (next_in names order r.front_len r.first ≢ 0) → ⊥
      not_there i l m ends (inl none) = omega (arith, l, m, none)
      not_there i l m ends (inr d) = let up = rises_in names order old front r f r.first i (omega arith) l m in d (omega (arith, up, ends))

  module _ (some : r.first < r.end) (ends : next_in names order r.front_len r.first ≡ 0) where
    first_is : text_at names order r.first ≡ front
    first_is = ends_front names order old front r f r.first (omega arith) some ends

    any_is : list_any (λ name. bytes_eq name front) names ≡ true
    any_is = some_passes (λ name. bytes_eq name front) names (get_or order r.first 0) (text_at names order r.first)
        (text_is names order f.order_is r.first (omega (arith, some, f.within))) (equal_bytes (text_at names order r.first) front first_is)

    -- where the first is flagged, each name that is the front is
    pub noted_before : get_or old (get_or order r.first 0) false ≡ true → Matches (λ name. bytes_eq name front) names old old true
    noted_before set_already = record {
      flags = λ p name at. by_test p name at (bytes_eq name front) refl;
      any = sym any_is;
    }
      where
        by_test : (p : ℕ) (name : List ℕ) → slice_get names p ≡ Some name → (b : Bool) → bytes_eq name front ≡ b → get_or old p false ≡ (get_or old p false || b)
        by_test p name at false e = sym (or_false (get_or old p false) false refl)
        by_test p name at true e =
            let at_first = text_is names order f.order_is r.first (omega (arith, some, f.within)) ∙ ap Some (first_is ∙ sym (same_bytes name front e)) in
            let set_here : get_or old p false ≡ true = f.same p (get_or order r.first 0) name at at_first ∙ set_already in
            set_here ∙ sym (or_true (get_or old p false) true refl)

    -- where all of the run that end there were flagged
    pub noted_all : (new : List Bool) (at : ℕ) → (r.end ≤ at) ⊎ ((at < r.end) × (next_in names order r.front_len at ≢ 0)) → r.first ≤ at
        → Noting names order front old new r.first at → Matches (λ name. bytes_eq name front) names old new true
    noted_all new at stop up n = record {
      flags = λ p name is. by_test p name is (bytes_eq name front) refl;
      any = sym any_is;
    }
      where
        is_before : (i : ℕ) → r.first ≤ i → i < r.end → next_in names order r.front_len i ≡ 0 → (r.end ≤ at) ⊎ ((at < r.end) × (next_in names order r.front_len at ≢ 0)) → i < at
        is_before i l m e (inl last) = omega (arith, m, last)
        is_before i l m e (inr goes_on) = elim (cases_lt i at) [
          | inl b ↦ b
          | inr b ↦ let no_fall = rises_in names order old front r f at i up b m in absurd (goes_on.1 (omega (arith, no_fall, e)))
        ]

        by_test : (p : ℕ) (name : List ℕ) → slice_get names p ≡ Some name → (b : Bool) → bytes_eq name front ≡ b → get_or new p false ≡ (get_or old p false || b)
        by_test p name is false e = n.others p name is e ∙ sym (or_false (get_or old p false) false refl)
        by_test p name is true e =
            let i = found_at names order f.order_is p name is in
            let is_front = i.3 ∙ same_bytes name front e in
            let in_run = front_inside names order old front r f i.0 i.1 is_front in
            let stops = front_ends names order old front r f i.0 in_run.0 in_run.1 is_front in
            ap (λ k. get_or new k false) (sym i.2) ∙ n.set_before i.0 in_run.0 (is_before i.0 in_run.0 in_run.1 stops stop) ∙ sym (or_true (get_or old p false) true refl)
