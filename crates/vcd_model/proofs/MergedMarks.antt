-- The greatest timestamp of the merged items, input by input.
use Rattle.vcd_model.proofs.Cited.{◌≡◌, ℕ, ◌*◌, ◌<◌, ◌≤◌, max, Bool, true, false, cond, not, List, [], ◌∷◌, ◌++◌, map, Option, Some, None, refl, sym, ap, subst, ◌∙◌, arith, ◌⊎◌, inl, inr, fold, AllByRecursion, reduce, cons_option, cases_lt, each_after, is_empty, BodyItem, marks, time_after, time_mark, Keyed, key_lt, keyed_after, insert_by_key, by_key}
use Rattle.std.proofs.Common.{append_assoc}
use Rattle.std.proofs.Math.Nat.{mul-le-mul_left}
use Rattle.vcd_model.proofs.Times.{time_after-append}

-- ---- the greatest of numbers

-- the greater of two, if there are two
abbrev pub greater_of : Option ℕ → Option ℕ → Option ℕ
greater_of None b = b
greater_of (Some x) None = Some x
greater_of (Some x) (Some y) = Some (max x y)

greater_swap : (a b c : Option ℕ) → greater_of a (greater_of b c) ≡ greater_of b (greater_of a c)
greater_swap None b c = refl
greater_swap (Some x) None c = refl
greater_swap (Some x) (Some y) None = ap (λ n. Some n) (omega arith)
greater_swap (Some x) (Some y) (Some z) = ap (λ n. Some n) (omega arith)

pub greater_assoc : (a b c : Option ℕ) → greater_of (greater_of a b) c ≡ greater_of a (greater_of b c)
greater_assoc None b c = refl
greater_assoc (Some x) None c = refl
greater_assoc (Some x) (Some y) None = refl
greater_assoc (Some x) (Some y) (Some z) = ap (λ n. Some n) (omega arith)

fold_max : (t u : ℕ) (us : List ℕ) → fold max (max t u) us ≡ max t (fold max u us)
fold_max t u [] = refl
fold_max t u (v ∷ us) = let e : max (max t u) v ≡ max t (max u v) = omega arith in ap (λ a. fold max a us) e ∙ fold_max t (max u v) us

-- the greatest of numbers, one by one
abbrev greatest_of : List ℕ → Option ℕ
greatest_of [] = None
greatest_of (t ∷ ts) = greater_of (Some t) (greatest_of ts)

pub reduce_is : (ts : List ℕ) → reduce max ts ≡ greatest_of ts
reduce_is [] = refl
reduce_is (t ∷ []) = refl
reduce_is (t ∷ u ∷ us) = ap (λ n. Some n) (fold_max t u us) ∙ ap (greater_of (Some t)) (reduce_is (u ∷ us))

-- ---- of the merged items

-- the time of a timestamp
abbrev mark_in : Keyed → Option ℕ
mark_in k = time_mark k.entry.item

-- the greatest timestamp of these items, none if there is none
abbrev pub greatest_in : List Keyed → Option ℕ
greatest_in [] = None
greatest_in (k ∷ ks) = greater_of (mark_in k) (greatest_in ks)

pub marks_greatest : (ks : List Keyed) → greatest_of (marks (map (λ k. k.entry.item) ks)) ≡ greatest_in ks
marks_greatest [] = refl
marks_greatest (k ∷ ks) = by_mark (time_mark k.entry.item) (marks_greatest ks)
  where
    by_mark : (o : Option ℕ) → greatest_of (marks (map (λ k. k.entry.item) ks)) ≡ greatest_in ks
        → greatest_of (cons_option o (marks (map (λ k. k.entry.item) ks))) ≡ greater_of o (greatest_in ks)
    by_mark None more = more
    by_mark (Some t) more = ap (greater_of (Some t)) more

insert_greatest : (x : Keyed) (ys : List Keyed) → greatest_in (insert_by_key x ys) ≡ greater_of (mark_in x) (greatest_in ys)
insert_greatest x [] = refl
insert_greatest x (y ∷ ys) = by_test (key_lt x.key y.key) (insert_greatest x ys)
  where
    by_test : (b : Bool) → greatest_in (insert_by_key x ys) ≡ greater_of (mark_in x) (greatest_in ys)
        → greatest_in (cond b (x ∷ y ∷ ys) (y ∷ insert_by_key x ys)) ≡ greater_of (mark_in x) (greater_of (mark_in y) (greatest_in ys))
    by_test true more = refl
    by_test false more = ap (greater_of (mark_in y)) more ∙ greater_swap (mark_in y) (mark_in x) (greatest_in ys)

pub sorted_greatest : (xs : List Keyed) → greatest_in (by_key xs) ≡ greatest_in xs
sorted_greatest [] = refl
sorted_greatest (x ∷ xs) = insert_greatest x (by_key xs) ∙ ap (greater_of (mark_in x)) (sorted_greatest xs)

pub append_greatest : (xs ys : List Keyed) → greatest_in (xs ++ ys) ≡ greater_of (greatest_in xs) (greatest_in ys)
append_greatest [] ys = refl
append_greatest (x ∷ xs) ys = ap (greater_of (mark_in x)) (append_greatest xs ys) ∙ sym (greater_assoc (mark_in x) (greatest_in xs) (greatest_in ys))

-- of one input: its last timestamp, scaled
mul_max : (s t u : ℕ) → s * max t u ≡ max (s * t) (s * u)
mul_max s t u = by_order (cases_lt t u)
  where
    by_order : (t < u) ⊎ (u ≤ t) → s * max t u ≡ max (s * t) (s * u)
    by_order (inl l) = let m = mul-le-mul_left {m = t} {n = u} s (omega arith) in let e : max t u ≡ u = omega arith in ap (λ n. s * n) e ∙ omega (arith, m)
    by_order (inr l) = let m = mul-le-mul_left {m = u} {n = t} s l in let e : max t u ≡ t = omega arith in ap (λ n. s * n) e ∙ omega (arith, m)

scaled_greatest : (s t : ℕ) (ts : List ℕ) → greatest_of (map (λ n. s * n) (t ∷ ts)) ≡ Some (s * fold max t ts)
scaled_greatest s t [] = refl
scaled_greatest s t (u ∷ ts) = ap (greater_of (Some (s * t))) (scaled_greatest s u ts) ∙ ap (λ n. Some n) (sym (mul_max s t (fold max u ts)) ∙ ap (λ n. s * n) (sym (fold_max t u ts)))

-- the timestamp that an input had, if any
abbrev own_mark : ℕ → List BodyItem → Option ℕ
own_mark s items = cond (not (is_empty (marks items))) (Some (s * time_after items)) None

pub own_greatest : (s : ℕ) (items : List BodyItem) → greatest_of (map (λ n. s * n) (marks items)) ≡ own_mark s items
own_greatest s items = by_marks (marks items)
  where
    by_marks : (ts : List ℕ) → greatest_of (map (λ n. s * n) ts) ≡ cond (not (is_empty ts)) (Some (s * fold max 0 ts)) None
    by_marks [] = refl
    by_marks (t ∷ ts) = scaled_greatest s t ts ∙ ap (λ n. Some (s * fold max n ts)) (let e : t ≡ max 0 t = omega arith in e)

pub keyed_greatest : (s n : ℕ) (rename : List ℕ → List ℕ) (before items : List BodyItem)
    → greatest_in (each_after (keyed_after s n rename) before items) ≡ greatest_of (map (λ t. s * t) (marks items))
keyed_greatest s n rename before [] = refl
keyed_greatest s n rename before (BodyItem.Time t ∷ items) = ap (greater_of (Some (s * t))) (keyed_greatest s n rename (before ++ BodyItem.Time t ∷ []) items)
keyed_greatest s n rename before (BodyItem.Begin k ∷ items) = keyed_greatest s n rename (before ++ BodyItem.Begin k ∷ []) items
keyed_greatest s n rename before (BodyItem.End ∷ items) = keyed_greatest s n rename (before ++ BodyItem.End ∷ []) items
keyed_greatest s n rename before (BodyItem.Changes c ∷ items) = keyed_greatest s n rename (before ++ BodyItem.Changes c ∷ []) items

-- ---- no item is later

-- if the last time of an input is at most t, all its items are at times up to t
pub own_most : (s n t : ℕ) (rename : List ℕ → List ℕ) (before items : List BodyItem) → s * time_after (before ++ items) ≤ t
    → AllByRecursion (λ y. y.key.time ≤ t) (each_after (keyed_after s n rename) before items)
own_most s n t rename before [] h = tt
own_most s n t rename before (x ∷ items) h =
    let m = mul-le-mul_left s (time_after-append before (x ∷ items)) in
    (omega (arith, m, h), own_most s n t rename (before ++ x ∷ []) items (subst (λ (l : List BodyItem). s * time_after l ≤ t) (sym (append_assoc before (x ∷ []) items)) h))
