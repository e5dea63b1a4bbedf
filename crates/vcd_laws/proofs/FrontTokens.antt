-- The tokens that a source gives which fails after the first bytes of a text are the first ones of
-- that text.
use Rattle.vcd_laws.proofs.Cited.{◌≡◌, ◌≢◌, ℕ, zero, suc, ◌+◌, ◌-◌, ◌^◌, ◌<◌, ◌≤◌, Bool, true, false, not, cond, ◌&&◌, ◌==◌, nat_lt, nat_le, count_by, List, [], ◌∷◌, ◌++◌, length, map, filter, fold, drop, slice_index, Option, Some, None, ◌⊎◌, inl, inr, refl, sym, ap, ◌∙◌, subst, arith, length-drop, AllByRecursion, range_with_len, before_first, reduce, drop-append-le, take-append-le, get_or_append_left, cases_lt, lt-ltb, ltb-true, le-ltb, leb-false, is_white_space, Input, Mark, is_failed, Token, HaltPlace, begins_token, token_places, token_at, run_at, line_at, end_at, too_much_input, too_long_tokens, failed_read, earlier_halt, comes_before, stream_until, IsPrefixOf}
use Rattle.std.proofs.Common.{length-append}
use Rattle.vcd_model.specs.Tokens.{first_halt, given_places, stream_of}
use Rattle.vcd_laws.proofs.FirstTokens.{plain_run, white_run}
use Rattle.vcd_laws.proofs.ShortTokens.{reduce_least, long_in}
use Rattle.vcd_laws.proofs.WrittenCodes.{In, in_left, in_right, in_map}

-- ---- runs of a longer text

run_front : (xs ys : List ℕ) → length (before_first is_white_space xs) < length xs
    → before_first is_white_space (xs ++ ys) ≡ before_first is_white_space xs
run_front [] ys l = absurd (omega arith)
run_front (b ∷ xs) ys l = by_white (is_white_space b) refl l (run_front xs ys)
  where
    by_white : (w : Bool) → is_white_space b ≡ w → length (before_first is_white_space (b ∷ xs)) < length (b ∷ xs)
        → (length (before_first is_white_space xs) < length xs → before_first is_white_space (xs ++ ys) ≡ before_first is_white_space xs)
        → before_first is_white_space (b ∷ xs ++ ys) ≡ before_first is_white_space (b ∷ xs)
    by_white true e l more = white_run b (xs ++ ys) e ∙ sym (white_run b xs e)
    by_white false e l more =
        let n : length (before_first is_white_space (b ∷ xs)) ≡ suc (length (before_first is_white_space xs)) = ap (λ (t : List ℕ). length t) (plain_run b xs e) in
        plain_run b (xs ++ ys) e ∙ ap (λ t. b ∷ t) (more (omega arith)) ∙ sym (plain_run b xs e)

-- a run that is longer than this in the longer text is so in the front, if that is long enough
run_long : (xs ys : List ℕ) (m : ℕ) → m < length (before_first is_white_space (xs ++ ys)) → m < length xs
    → m < length (before_first is_white_space xs)
run_long xs ys m h l = by_length (cases_lt (length (before_first is_white_space xs)) (length xs))
  where
    by_length : (length (before_first is_white_space xs) < length xs) ⊎ (length xs ≤ length (before_first is_white_space xs))
        → m < length (before_first is_white_space xs)
    by_length (inl s) = let same = ap (λ (t : List ℕ). length t) (run_front xs ys s) in omega arith
    by_length (inr s) = omega arith

-- a run ends no earlier if it begins later
ends_rise : (xs : List ℕ) (i : ℕ) → end_at xs i ≤ end_at xs (suc i)
ends_rise [] zero = omega arith
ends_rise [] (suc i) = omega arith
ends_rise (b ∷ xs) zero = by_white (is_white_space b) refl
  where
    by_white : (w : Bool) → is_white_space b ≡ w → 0 + length (before_first is_white_space (b ∷ xs)) ≤ 1 + length (before_first is_white_space xs)
    by_white true e = rw (white_run b xs e) (omega arith)
    by_white false e = rw (plain_run b xs e) (omega arith)
ends_rise (b ∷ xs) (suc i) =
    let more : i + length (before_first is_white_space (drop i xs)) ≤ suc i + length (before_first is_white_space (drop (suc i) xs)) = ends_rise xs i in
    omega arith

-- ---- where tokens begin

begins_front : (xs ys : List ℕ) (i : ℕ) → i < length xs → begins_token (xs ++ ys) i ≡ begins_token xs i
begins_front xs ys zero h = ap (λ b. not (is_white_space b)) (get_or_append_left xs ys 0 0 h)
begins_front xs ys (suc i) h =
    ap (λ b. is_white_space b && not (is_white_space (slice_index (xs ++ ys) (suc i)))) (get_or_append_left xs ys 0 i (omega arith))
    ∙ ap (λ b. is_white_space (slice_index xs i) && not (is_white_space b)) (get_or_append_left xs ys 0 (suc i) h)

in_places : (text : List ℕ) (i a n : ℕ) → a ≤ i → i < a + n → begins_token text i ≡ true
    → In i (filter (begins_token text) (range_with_len a n))
in_places text i a zero l h e = absurd (omega arith)
in_places text i a (suc n) l h e = by_place (cases_lt a i) (λ m. in_places text i (a + 1) n m (omega arith) e)
  where
    here : i ≡ a → In i (cond (begins_token text a) (a ∷ filter (begins_token text) (range_with_len (a + 1) n)) (filter (begins_token text) (range_with_len (a + 1) n)))
    here same =
        let b : begins_token text a ≡ true = ap (begins_token text) (sym same) ∙ e in
        rw b (inl same)

    later : (b : Bool) → In i (filter (begins_token text) (range_with_len (a + 1) n))
        → In i (cond b (a ∷ filter (begins_token text) (range_with_len (a + 1) n)) (filter (begins_token text) (range_with_len (a + 1) n)))
    later true more = inr more
    later false more = more

    by_place : (a < i) ⊎ (i ≤ a) → (a + 1 ≤ i → In i (filter (begins_token text) (range_with_len (a + 1) n)))
        → In i (filter (begins_token text) (range_with_len a (suc n)))
    by_place (inl lt) more = later (begins_token text a) (more (omega arith))
    by_place (inr le) more = here (omega arith)

-- ---- the first halt

earlier_late : (p : ℕ) (a b : HaltPlace) → p ≤ a.place → p ≤ b.place → p ≤ (earlier_halt a b).place
earlier_late p a b ha hb = by_test (nat_lt b.place a.place)
  where
    by_test : (t : Bool) → p ≤ (cond t b a).place
    by_test true = hb
    by_test false = ha

fold_late : (p : ℕ) (a : HaltPlace) (xs : List HaltPlace) → p ≤ a.place → AllByRecursion (λ (x : HaltPlace). p ≤ x.place) xs
    → p ≤ (fold earlier_halt a xs).place
fold_late p a [] h all = h
fold_late p a (x ∷ xs) h all = fold_late p (earlier_halt a x) xs (earlier_late p a x h all.0) all.1

reduce_late : (p : ℕ) (xs : List HaltPlace) (h : HaltPlace) → AllByRecursion (λ (x : HaltPlace). p ≤ x.place) xs
    → reduce earlier_halt xs ≡ Some h → p ≤ h.place
reduce_late p [] h all e = cc
reduce_late p (x ∷ xs) h all e =
    let same : fold earlier_halt x xs ≡ h = cc in
    subst (λ (y : HaltPlace). p ≤ y.place) same (fold_late p x xs all.0 all.1)

all_both : {X : Type 0} (P : X → Type 0) (xs ys : List X) → AllByRecursion P xs → AllByRecursion P ys → AllByRecursion P (xs ++ ys)
all_both P [] ys a b = b
all_both P (x ∷ xs) ys a b = (a.0, all_both P xs ys a.1 b)

-- ---- a source that fails after a front of a text

module _ (limit : ℕ) (front more : List ℕ) (mark : Mark) where
  abbrev failed : Input
  failed = record { bytes = front; mark = Mark.Failed }

  abbrev whole : Input
  whole = record { bytes = front ++ more; mark = mark }

  abbrev halts : List HaltPlace
  halts = too_much_input front ++ too_long_tokens limit front ++ failed_read failed

  abbrev last : HaltPlace
  last = record { fault = 31; place = length front; line = line_at front (length front) }

  module _ (h : HaltPlace) (first : reduce earlier_halt (too_much_input front ++ too_long_tokens limit front ++ failed_read (record { bytes = front; mark = Mark.Failed })) ≡ Some h) where
    before_all : (x : HaltPlace) → In x halts → h.place ≤ x.place
    before_all x i =
        let r = reduce_least halts x i in
        let same : r.0 ≡ h = some (sym r.1 ∙ first) in
        subst (λ (y : HaltPlace). y.place ≤ x.place) same r.2
      where
        some : {a b : HaltPlace} → ◌≡◌ {A = Option HaltPlace} (Some a) (Some b) → a ≡ b
        some e = cc

    inside : h.place ≤ length front
    inside = before_all last (in_right (too_much_input front ++ too_long_tokens limit front) (failed_read failed) last (inl refl))

    long_before : (i : ℕ) → i < length front → begins_token front i ≡ true → limit < length (run_at front i) → h.place ≤ i + limit
    long_before i l e long =
        let x : HaltPlace = record { fault = 1; place = i + limit; line = line_at front i } in
        before_all x (in_left (too_much_input front ++ too_long_tokens limit front) (failed_read failed) x
        (in_right (too_much_input front) (too_long_tokens limit front) x
        (in_map (λ j. record { fault = 1; place = j + limit; line = line_at front j })
        (filter (λ j. nat_lt limit (length (run_at front j))) (token_places front)) i
        (long_in limit front i (token_places front) (in_places front i 0 (length front) (omega arith) (omega arith) e) (lt-ltb limit (length (run_at front i)) long)))))

    -- no halt of the whole is earlier
    much_late : AllByRecursion (λ (x : HaltPlace). h.place ≤ x.place) (too_much_input (front ++ more))
    much_late = by_length (nat_le (2 ^ 63) (length (front ++ more))) (nat_le (2 ^ 63) (length front)) refl
      where
        place : HaltPlace
        place = record { fault = 21; place = 2 ^ 63 - 1; line = line_at (front ++ more) (2 ^ 63 - 1) }

        by_length : (a b : Bool) → nat_le (2 ^ 63) (length front) ≡ b
            → AllByRecursion (λ (x : HaltPlace). h.place ≤ x.place) (cond a
            (record { fault = 21; place = 2 ^ 63 - 1; line = line_at (front ++ more) (2 ^ 63 - 1) } ∷ []) [])
        by_length false b e = tt
        by_length true false e =
            let s : length front < 2 ^ 63 = leb-false (2 ^ 63) (length front) e in
            let l = inside in (omega arith, tt)
        by_length true true e =
            let x : HaltPlace = record { fault = 21; place = 2 ^ 63 - 1; line = line_at front (2 ^ 63 - 1) } in
            let there : In x (too_much_input front) = ap-in x e in (
              before_all x (in_left (too_much_input front ++ too_long_tokens limit front) (failed_read failed) x
                  (in_left (too_much_input front) (too_long_tokens limit front) x there)),
              tt,
            )
          where
            ap-in : (x : HaltPlace) → nat_le (2 ^ 63) (length front) ≡ true → In x (cond (nat_le (2 ^ 63) (length front)) (x ∷ []) [])
            ap-in x e = rw e (inl refl)

    long_late : (i k : ℕ) → AllByRecursion (λ (x : HaltPlace). h.place ≤ x.place)
        (map (λ j. record { fault = 1; place = j + limit; line = line_at (front ++ more) j })
        (filter (λ j. nat_lt limit (length (run_at (front ++ more) j))) (filter (begins_token (front ++ more)) (range_with_len i k))))
    long_late i zero = tt
    long_late i (suc k) = by_begins (begins_token (front ++ more) i) refl (long_late (i + 1) k)
      where
        halt_at : ℕ → HaltPlace
        halt_at j = record { fault = 1; place = j + limit; line = line_at (front ++ more) j }

        late : begins_token (front ++ more) i ≡ true → limit < length (run_at (front ++ more) i) → h.place ≤ i + limit
        late e long = by_place (cases_lt (i + limit) (length front))
          where
            by_place : (i + limit < length front) ⊎ (length front ≤ i + limit) → h.place ≤ i + limit
            by_place (inr l) = let s = inside in omega arith
            by_place (inl l) =
                let below : i < length front = omega arith in
                let n : length (drop i front) ≡ length front - i = length-drop i front in
                let run : length (run_at (front ++ more) i) ≡ length (before_first is_white_space (drop i front ++ more)) =
                ap (λ (t : List ℕ). length (before_first is_white_space t)) (drop-append-le i front more (omega arith)) in
                long_before i below (sym (begins_front front more i below) ∙ e) (run_long (drop i front) more limit (omega arith) (omega arith))

        by_long : (b : Bool) → nat_lt limit (length (run_at (front ++ more) i)) ≡ b → begins_token (front ++ more) i ≡ true
            → AllByRecursion (λ (x : HaltPlace). h.place ≤ x.place) (map halt_at
            (filter (λ j. nat_lt limit (length (run_at (front ++ more) j))) (filter (begins_token (front ++ more)) (range_with_len (i + 1) k))))
            → AllByRecursion (λ (x : HaltPlace). h.place ≤ x.place) (map halt_at
            (cond b (i ∷ filter (λ j. nat_lt limit (length (run_at (front ++ more) j)))
            (filter (begins_token (front ++ more)) (range_with_len (i + 1) k)))
            (filter (λ j. nat_lt limit (length (run_at (front ++ more) j))) (filter (begins_token (front ++ more)) (range_with_len (i + 1) k)))))
        by_long true f e all = (late e (ltb-true limit (length (run_at (front ++ more) i)) f), all)
        by_long false f e all = all

        by_begins : (b : Bool) → begins_token (front ++ more) i ≡ b
            → AllByRecursion (λ (x : HaltPlace). h.place ≤ x.place) (map halt_at
            (filter (λ j. nat_lt limit (length (run_at (front ++ more) j))) (filter (begins_token (front ++ more)) (range_with_len (i + 1) k))))
            → AllByRecursion (λ (x : HaltPlace). h.place ≤ x.place) (map halt_at
            (filter (λ j. nat_lt limit (length (run_at (front ++ more) j)))
            (cond b (i ∷ filter (begins_token (front ++ more)) (range_with_len (i + 1) k))
            (filter (begins_token (front ++ more)) (range_with_len (i + 1) k)))))
        by_begins true e all = by_long (nat_lt limit (length (run_at (front ++ more) i))) refl e all
        by_begins false e all = all

    read_late : AllByRecursion (λ (x : HaltPlace). h.place ≤ x.place) (failed_read whole)
    read_late = by_mark (is_failed mark)
      where
        by_mark : (b : Bool) → AllByRecursion (λ (x : HaltPlace). h.place ≤ x.place)
            (cond b (record { fault = 31; place = length (front ++ more); line = line_at (front ++ more) (length (front ++ more)) } ∷ []) [])
        by_mark true = let s = inside in let n = length-append front more in (omega arith, tt)
        by_mark false = tt

    later_halt : (g : HaltPlace) → first_halt limit whole ≡ Some g → h.place ≤ g.place
    unfolding first_halt
    later_halt g e =
        reduce_late h.place (too_much_input (front ++ more) ++ too_long_tokens limit (front ++ more) ++ failed_read whole) g
        (all_both (λ (x : HaltPlace). h.place ≤ x.place) (too_much_input (front ++ more) ++ too_long_tokens limit (front ++ more)) (failed_read whole)
        (all_both (λ (x : HaltPlace). h.place ≤ x.place) (too_much_input (front ++ more)) (too_long_tokens limit (front ++ more)) much_late (long_late 0 (length (front ++ more)))) read_late) e

    -- what comes before the halt of the front comes before that of the whole
    comes_too : (place : ℕ) (o : Option HaltPlace) → first_halt limit whole ≡ o → place < h.place → comes_before place o ≡ true
    comes_too place None e l = refl
    comes_too place (Some g) e l = let m = later_halt g e in lt-ltb place g.place (omega arith)

    -- ---- the tokens

    none_after : (i k : ℕ) → h.place ≤ end_at front i
        → filter (λ j. comes_before (end_at front j) (Some h)) (filter (begins_token front) (range_with_len i k)) ≡ []
    none_after i zero l = refl
    none_after i (suc k) l =
        let up = ends_rise front i in
        let next : h.place ≤ end_at front (i + 1) = subst (λ n. h.place ≤ end_at front n) (suc_is i) (omega arith) in
        by_begins (begins_token front i) (none_after (i + 1) k next)
      where
        suc_is : (n : ℕ) → suc n ≡ n + 1
        suc_is n = omega arith

        by_begins : (b : Bool) → filter (λ j. comes_before (end_at front j) (Some h)) (filter (begins_token front) (range_with_len (i + 1) k)) ≡ []
            → filter (λ j. comes_before (end_at front j) (Some h)) (cond b (i ∷ filter (begins_token front) (range_with_len (i + 1) k))
            (filter (begins_token front) (range_with_len (i + 1) k))) ≡ []
        by_begins true more = rw (le-ltb (end_at front i) h.place l) more
        by_begins false more = more

    same_token : (i : ℕ) → i < length front → end_at front i < h.place
        → (token_at (front ++ more) i ≡ token_at front i) × (end_at (front ++ more) i ≡ end_at front i)
    same_token i l e =
        let n : length (drop i front) ≡ length front - i = length-drop i front in
        let s = inside in
        let run : run_at (front ++ more) i ≡ run_at front i =
        ap (before_first is_white_space) (drop-append-le i front more (omega arith)) ∙ run_front (drop i front) more (omega arith) in
        let line : line_at (front ++ more) i ≡ line_at front i =
        ap (λ (t : List ℕ). 1 + count_by (λ b. b == 10) t) (take-append-le i front more (omega arith)) in (
          ap (λ (t : List ℕ). record { bytes = t; line = line_at (front ++ more) i }) run ∙ ap (λ n. record { bytes = run_at front i; line = n }) line,
          ap (λ (t : List ℕ). i + length t) run,
        )

    fronts : (o : Option HaltPlace) → first_halt limit whole ≡ o → (i k n : ℕ) → i + k ≡ length front → k ≤ n
        → IsPrefixOf (map (token_at front) (filter (λ j. comes_before (end_at front j) (Some h)) (filter (begins_token front) (range_with_len i k))))
        (map (token_at (front ++ more)) (filter (λ j. comes_before (end_at (front ++ more) j) o) (filter (begins_token (front ++ more)) (range_with_len i n))))
    fronts o e i zero n at le = (_, refl)
    fronts o e i (suc k) zero at le = absurd (omega arith)
    fronts o e i (suc k) (suc n) at le =
        by_begins (begins_token front i) refl (fronts o e (i + 1) k n (omega arith) (omega arith))
      where
        given : List ℕ → List ℕ
        given l = filter (λ j. comes_before (end_at front j) (Some h)) l

        given_too : List ℕ → List ℕ
        given_too l = filter (λ j. comes_before (end_at (front ++ more) j) o) l

        xs : List ℕ
        xs = filter (begins_token front) (range_with_len (i + 1) k)

        ys : List ℕ
        ys = filter (begins_token (front ++ more)) (range_with_len (i + 1) n)

        below : i < length front
        below = omega arith

        by_end : (end_at front i < h.place) ⊎ (h.place ≤ end_at front i)
            → IsPrefixOf (map (token_at front) (filter (λ j. comes_before (end_at front j) (Some h)) (filter (begins_token front) (range_with_len (i + 1) k))))
            (map (token_at (front ++ more)) (filter (λ j. comes_before (end_at (front ++ more) j) o) (filter (begins_token (front ++ more)) (range_with_len (i + 1) n))))
            → IsPrefixOf (map (token_at front) (filter (λ j. comes_before (end_at front j) (Some h)) (i ∷ filter (begins_token front) (range_with_len (i + 1) k))))
            (map (token_at (front ++ more)) (filter (λ j. comes_before (end_at (front ++ more) j) o) (i ∷ filter (begins_token (front ++ more)) (range_with_len (i + 1) n))))
        by_end (inl l) more_of =
            let same = same_token i below l in
            let comes : comes_before (end_at (front ++ more) i) o ≡ true = ap (λ n. comes_before n o) same.1 ∙ comes_too (end_at front i) o e l in
            let own : comes_before (end_at front i) (Some h) ≡ true = lt-ltb (end_at front i) h.place l in
            rw (own, comes) (more_of.0, ap (λ (t : Token). t ∷ map (token_at (front ++ more)) (given_too ys)) same.0 ∙ ap (λ (l : List Token). token_at front i ∷ l) more_of.1)
        by_end (inr l) more_of =
            let up = ends_rise front i in
            let next : h.place ≤ end_at front (i + 1) = subst (λ n. h.place ≤ end_at front n) (suc_is i) (omega arith) in
            let own : comes_before (end_at front i) (Some h) ≡ false = le-ltb (end_at front i) h.place l in
            rw (own, none_after (i + 1) k next) (_, refl)
          where
            suc_is : (n : ℕ) → suc n ≡ n + 1
            suc_is n = omega arith

        by_begins : (b : Bool) → begins_token front i ≡ b
            → IsPrefixOf (map (token_at front) (filter (λ j. comes_before (end_at front j) (Some h)) (filter (begins_token front) (range_with_len (i + 1) k))))
            (map (token_at (front ++ more)) (filter (λ j. comes_before (end_at (front ++ more) j) o) (filter (begins_token (front ++ more)) (range_with_len (i + 1) n))))
            → IsPrefixOf (map (token_at front) (filter (λ j. comes_before (end_at front j) (Some h))
            (cond (begins_token front i) (i ∷ filter (begins_token front) (range_with_len (i + 1) k))
            (filter (begins_token front) (range_with_len (i + 1) k)))))
            (map (token_at (front ++ more)) (filter (λ j. comes_before (end_at (front ++ more) j) o)
            (cond (begins_token (front ++ more) i) (i ∷ filter (begins_token (front ++ more)) (range_with_len (i + 1) n))
            (filter (begins_token (front ++ more)) (range_with_len (i + 1) n)))))
        by_begins true f more_of =
            let there : begins_token (front ++ more) i ≡ true = begins_front front more i below ∙ f in
            rw (f, there) (by_end (cases_lt (end_at front i) h.place) more_of)
        by_begins false f more_of =
            let there : begins_token (front ++ more) i ≡ false = begins_front front more i below ∙ f in
            rw (f, there) more_of

  until_tokens : (input : Input) (places : List ℕ) (o : Option HaltPlace) → (stream_until input places o).tokens ≡ map (token_at input.bytes) places
  until_tokens input places None = refl
  until_tokens input places (Some h) = refl

  halted_first : (h : HaltPlace) × (first_halt limit failed ≡ Some h)
  unfolding first_halt
  halted_first =
      let r = reduce_least halts last (in_right (too_much_input front ++ too_long_tokens limit front) (failed_read failed) last (inl refl)) in
      (r.0, r.1)

  pub front_tokens : IsPrefixOf (stream_of limit failed).tokens (stream_of limit whole).tokens
  unfolding stream_of given_places first_halt
  front_tokens =
      let f = halted_first in
      let n = length-append front more in
      let texts = fronts f.0 f.1 (first_halt limit whole) refl 0 (length front) (length (front ++ more)) (omega arith) (omega arith) in
      let own : (stream_of limit failed).tokens ≡ map (token_at front) (filter (λ j. comes_before (end_at front j) (Some f.0)) (token_places front)) =
      until_tokens failed (given_places limit failed) (first_halt limit failed)
      ∙ ap (λ (o : Option HaltPlace). map (token_at front) (filter (λ j. comes_before (end_at front j) o) (token_places front))) f.1 in
      let all : (stream_of limit whole).tokens ≡ map (token_at (front ++ more)) (filter (λ j. comes_before (end_at (front ++ more) j) (first_halt limit whole)) (token_places (front ++ more))) =
      until_tokens whole (given_places limit whole) (first_halt limit whole) in
      rw (own, all) texts

  -- reading is halted where the source fails
  pub front_halts : (stream_of limit failed).halt ≢ None
  unfolding stream_of
  front_halts none =
      let f = halted_first in
      let halt : (stream_of limit failed).halt ≡ Some f.0.fault = ap (λ (o : Option HaltPlace). (stream_until failed (given_places limit failed) o).halt) f.1 in
      cc
