-- The items that a cut wrote, cut again: those of the input between the times of the second cut.
use Rattle.vcd_laws.proofs.Cited.{◌≡◌, ℕ, ◌+◌, ◌<◌, ◌≤◌, ◌==◌, Bool, true, false, cond, not, ◌&&◌, nat_lt, nat_le, List, [], ◌∷◌, ◌++◌, map, filter, Option, Some, None, ◌⊎◌, inl, inr, refl, sym, ap, ◌∙◌, subst, arith, AllByRecursion, list_any, append_assoc, filter-append, cases_lt, and_parts, and_right, lt-ltb, le-ltb, le-leb, lt-leb, IdCode, BodyItem, Entry, Vars, Value, item_line, may_keep, time_unless, text_after, within, next_open, AreFit, time_behind, open_behind, entries_from, read_again, read_again_is, read_item, time_items, written_items, IsWritable, AreWritable, Stand, stand_more, at_most, fit_front, fit_back, entries_from-append, closing_items, item_if_set, set_items, start_items, Split, split_at_time, times_from, within_is, cuts, none_cut}
use Rattle.vcd_laws.proofs.PickedAlone.{both_tests}
use Rattle.vcd_laws.proofs.PickTwice.{Insides, reread, item_again, all_kept}

-- ---- between two times

abbrev pub between : ℕ → ℕ → Entry → Bool
between a b e = nat_le a e.time && nat_le e.time b

none_between : (a b : ℕ) (es : List Entry) → AllByRecursion (λ e. b + 1 ≤ e.time) es
    → filter (λ e. nat_le e.time b && cuts a e) es ≡ []
none_between a b [] h = refl
none_between a b (e ∷ es) h =
    rw (lt-leb e.time b (let l = h.0 in omega arith)) (none_between a b es h.1)

-- an earlier end leaves the entries up to it
earlier_end : (codes : List IdCode) (a b d t : ℕ) (o : Bool) (xs : List BodyItem)
    → AreFit codes t o xs → t ≤ b → b ≤ d
    → filter (cuts a) (entries_from t o (within b xs))
    ≡ filter (λ e. nat_le e.time b && cuts a e) (entries_from t o (within d xs))
earlier_end codes a b d t o [] fit l m = refl
earlier_end codes a b d t o (BodyItem.Time u ∷ xs) fit l m =
    by_time (cases_lt b u) (earlier_end codes a b d u o xs fit.1)
  where
    own : Entry
    own = record { time = t; inside = o; item = BodyItem.Time u }

    dropped : (es : List Entry) → filter (cuts a) (own ∷ es) ≡ filter (cuts a) es
    dropped es = rw (and_right (nat_le a t) false refl) refl

    not_there : (es : List Entry) → filter (λ e. nat_le e.time b && cuts a e) (own ∷ es)
        ≡ filter (λ e. nat_le e.time b && cuts a e) es
    not_there es = by_test (nat_le t b) (nat_le a t)
      where
        by_test : (x y : Bool)
            → cond (x && (y && false)) (own ∷ filter (λ e. nat_le e.time b && cuts a e) es)
            (filter (λ e. nat_le e.time b && cuts a e) es)
            ≡ filter (λ e. nat_le e.time b && cuts a e) es
        by_test true true = refl
        by_test true false = refl
        by_test false y = refl

    by_later : (x : Bool) → b < u
        → filter (λ e. nat_le e.time b && cuts a e) (entries_from u o (cond x [] (within d xs)))
        ≡ []
    by_later true k = refl
    by_later false k =
        let w = within_is d xs in
        let front = fit_front codes u o (within d xs) w.rest (subst (AreFit codes u o) w.whole fit.1)
        in
        none_between a b (entries_from u o (within d xs))
        (times_from codes (b + 1) u o (within d xs) front (omega arith))

    by_time : (b < u) ⊎ (u ≤ b)
        → (u ≤ b → b ≤ d → filter (cuts a) (entries_from u o (within b xs))
        ≡ filter (λ e. nat_le e.time b && cuts a e) (entries_from u o (within d xs)))
        → filter (cuts a) (own ∷ entries_from u o (cond (nat_lt b u) [] (within b xs)))
        ≡ filter (λ e. nat_le e.time b && cuts a e)
        (own ∷ entries_from u o (cond (nat_lt d u) [] (within d xs)))
    by_time (inl k) more =
        dropped (entries_from u o (cond (nat_lt b u) [] (within b xs)))
        ∙ ap (λ x. filter (cuts a) (entries_from u o (cond x [] (within b xs)))) (lt-ltb b u k)
        ∙ sym (not_there (entries_from u o (cond (nat_lt d u) [] (within d xs)))
        ∙ by_later (nat_lt d u) k)
    by_time (inr k) more =
        dropped (entries_from u o (cond (nat_lt b u) [] (within b xs)))
        ∙ ap (λ x. filter (cuts a) (entries_from u o (cond x [] (within b xs)))) (le-ltb b u k)
        ∙ more k m
        ∙ sym (not_there (entries_from u o (cond (nat_lt d u) [] (within d xs)))
        ∙ ap (λ x. filter (λ e. nat_le e.time b && cuts a e)
        (entries_from u o (cond x [] (within d xs)))) (le-ltb d u (omega arith)))
earlier_end codes a b d t o (BodyItem.Begin s ∷ xs) fit l m =
    rw (le-leb t b l) (ap (λ es. cond (nat_le a t && true)
    (record { time = t; inside = o; item = BodyItem.Begin s } ∷ es) es)
    (earlier_end codes a b d t true xs fit.1 l m))
earlier_end codes a b d t o (BodyItem.End ∷ xs) fit l m =
    rw (le-leb t b l) (ap (λ es. cond (nat_le a t && true)
    (record { time = t; inside = o; item = BodyItem.End } ∷ es) es)
    (earlier_end codes a b d t false xs fit.1 l m))
earlier_end codes a b d t o (BodyItem.Changes c ∷ xs) fit l m =
    rw (le-leb t b l) (ap (λ es. cond (nat_le a t && not (c.code.event && o))
    (record { time = t; inside = o; item = BodyItem.Changes c } ∷ es) es)
    (earlier_end codes a b d t o xs fit.1 l m))

-- what the second cut keeps of the input is what it keeps of the first cut's entries
pub kept_between : (codes : List IdCode) (a b c d : ℕ) (xs : List BodyItem) → AreFit codes 0 false xs
    → a ≤ c → d ≤ b
    → filter (cuts c) (entries_from 0 false (within d xs))
    ≡ filter (between c d) (filter (cuts a) (entries_from 0 false (within b xs)))
kept_between codes a b c d xs fit l m =
    earlier_end codes c d b 0 false xs fit (omega arith) m
    ∙ sym (both_tests (between c d) (cuts a) (λ e. nat_le e.time d && cuts c e)
    (entries_from 0 false (within b xs)) (λ e i. one e.time (may_keep e.item e.inside)))
  where
    one : (t : ℕ) (k : Bool) → (nat_le t d && (nat_le c t && k))
        ≡ ((nat_le c t && nat_le t d) && (nat_le a t && k))
    one t k = by_order (cases_lt t c)
      where
        by_low : (x : Bool) → (x && (false && k)) ≡ ((false && x) && (nat_le a t && k))
        by_low true = refl
        by_low false = refl

        by_order : (t < c) ⊎ (c ≤ t) → (nat_le t d && (nat_le c t && k))
            ≡ ((nat_le c t && nat_le t d) && (nat_le a t && k))
        by_order (inl h) = rw (lt-leb c t h) (by_low (nat_le t d))
        by_order (inr h) = rw (le-leb c t h, le-leb a t (omega arith)) refl

-- ---- sections of what is kept

late_insides : (codes : List IdCode) (a t : ℕ) (o : Bool) (xs : List BodyItem) → AreFit codes t o xs
    → a ≤ t → Insides o (filter (cuts a) (entries_from t o xs))
late_insides codes a t o [] fit l = tt
late_insides codes a t o (BodyItem.Time u ∷ xs) fit l =
    let f = fit.0 in
    let g : a ≤ u = (let k = f.0 in omega arith) in
    rw (and_right (nat_le a t) false refl) (late_insides codes a u o xs fit.1 g)
late_insides codes a t o (BodyItem.Begin s ∷ xs) fit l =
    rw (le-leb a t l) (refl, late_insides codes a t true xs fit.1 l)
late_insides codes a t o (BodyItem.End ∷ xs) fit l =
    rw (le-leb a t l) (refl, late_insides codes a t false xs fit.1 l)
late_insides codes a t o (BodyItem.Changes c ∷ xs) fit l =
    rw (le-leb a t l) (by_keep (not (c.code.event && o)) (late_insides codes a t o xs fit.1 l))
  where
    rest : List Entry
    rest = filter (cuts a) (entries_from t o xs)

    by_keep : (b : Bool) → Insides o rest
        → Insides o (cond b (record { time = t; inside = o; item = BodyItem.Changes c } ∷ rest) rest)
    by_keep true more = (refl, more)
    by_keep false more = more

pub cut_insides : (codes : List IdCode) (a : ℕ) (q : List BodyItem) → AreFit codes 0 false q
    → Insides false (filter (cuts a) (entries_from 0 false q))
cut_insides codes a q fit = by_split (split_at_time codes a q fit)
  where
    by_late : (before after : List BodyItem) → AreFit codes 0 false (before ++ after)
        → ((a ≤ time_behind 0 before) × (open_behind false before ≡ false))
        ⊎ ((after ≡ []) × (time_behind 0 before < a))
        → Insides false (filter (cuts a)
        (entries_from (time_behind 0 before) (open_behind false before) after))
    by_late before after fits (inl l) =
        let back = fit_back codes 0 false before after fits in
        subst (λ (o : Bool). Insides false (filter (cuts a) (entries_from (time_behind 0 before) o
        after))) (sym l.1)
        (late_insides codes a (time_behind 0 before) false after
        (subst (λ (o : Bool). AreFit codes (time_behind 0 before) o after) l.1 back) l.0)
    by_late before after fits (inr l) =
        subst (λ (x : List BodyItem). Insides false (filter (cuts a)
        (entries_from (time_behind 0 before) (open_behind false before) x))) (sym l.0) tt

    by_split : Split a 0 false q → Insides false (filter (cuts a) (entries_from 0 false q))
    by_split s =
        let es = entries_from 0 false s.before in
        let ls = entries_from (time_behind 0 s.before) (open_behind false s.before) s.after in
        let ks : filter (cuts a) (entries_from 0 false q) ≡ filter (cuts a) ls
        = ap (λ (x : List BodyItem). filter (cuts a) (entries_from 0 false x)) s.whole
        ∙ ap (filter (cuts a)) (entries_from-append 0 false s.before s.after)
        ∙ filter-append (cuts a) es ls
        ∙ ap (λ l. l ++ filter (cuts a) ls) (none_cut a es s.early) in
        subst (Insides false) (sym ks)
        (by_late s.before s.after (subst (AreFit codes 0 false) s.whole fit) s.late)

abbrev pub AreKept : List Entry → Type 0
AreKept es = AllByRecursion (λ e. may_keep e.item e.inside ≡ true) es

pub cut_may : (a : ℕ) (es : List Entry) → AreKept (filter (cuts a) es)
cut_may a es = weaken (filter (cuts a) es) (all_kept (cuts a) es)
  where
    weaken : (xs : List Entry) → AllByRecursion (λ e. cuts a e ≡ true) xs → AreKept xs
    weaken [] h = tt
    weaken (e ∷ xs) h =
        ((and_parts (nat_le a e.time) (may_keep e.item e.inside) h.0).1, weaken xs h.1)

-- ---- the second cut over what the first wrote

-- what a cut keeps of items, from a time on
abbrev pub kept_of : ℕ → ℕ → ℕ → Bool → List BodyItem → List Entry
kept_of a b t o xs = filter (cuts a) (entries_from t o (within b xs))

no_mark : (a b t u : ℕ) (o : Bool) (xs : List BodyItem) → u ≤ b
    → kept_of a b t o (BodyItem.Time u ∷ xs) ≡ kept_of a b u o xs
no_mark a b t u o xs l =
    rw (le-ltb b u l, and_right (nat_le a t) false refl) refl

end_mark : (a b t u : ℕ) (o : Bool) (xs : List BodyItem) → b < u
    → kept_of a b t o (BodyItem.Time u ∷ xs) ≡ []
end_mark a b t u o xs l = rw (lt-ltb b u l, and_right (nat_le a t) false refl) refl

-- the timestamp of a time that is not past the end
over_time : (a b t u : ℕ) (o : Bool) (w : List ℕ) (xs : List BodyItem) → Stand w t o → t ≤ u
    → u ≤ b → kept_of a b t o (time_items w u ++ xs) ≡ kept_of a b u o xs
over_time a b t u o w xs s l m = by_any (list_any (λ v. v == u) w) refl
  where
    by_any : (x : Bool) → list_any (λ v. v == u) w ≡ x
        → kept_of a b t o (cond x [] (BodyItem.Time u ∷ []) ++ xs) ≡ kept_of a b u o xs
    by_any true e = let k = at_most w t u s.below e in let same : t ≡ u = omega arith in
        ap (λ (n : ℕ). kept_of a b n o xs) same
    by_any false e = no_mark a b t u o xs m

-- the timestamp of a time past the end
past_time : (a b t u : ℕ) (o : Bool) (w : List ℕ) (xs : List BodyItem) → Stand w t o → t ≤ b
    → b < u → kept_of a b t o (time_items w u ++ xs) ≡ []
past_time a b t u o w xs s l m = by_any (list_any (λ v. v == u) w) refl
  where
    by_any : (x : Bool) → list_any (λ v. v == u) w ≡ x
        → kept_of a b t o (cond x [] (BodyItem.Time u ∷ []) ++ xs) ≡ []
    by_any true e = let k = at_most w t u s.below e in absurd (omega arith)
    by_any false e = end_mark a b t u o xs m

-- one item, and what follows
over_item : (codes : List IdCode) (a b u : ℕ) (o inside : Bool) (x : BodyItem)
    (xs : List BodyItem) → IsWritable codes o x → inside ≡ o → may_keep x inside ≡ true
    → kept_of a b u o (read_item x ∷ xs) ≡ cond (nat_le a u)
    (record { time = u; inside = o; item = read_item x } ∷ kept_of a b u (next_open o x) xs)
    (kept_of a b u (next_open o x) xs)
over_item codes a b u o inside (BodyItem.Time t) xs h same p = absurd h
over_item codes a b u o inside (BodyItem.Begin s) xs h same p = by_test (nat_le a u)
  where
    rest : List Entry
    rest = kept_of a b u true xs

    own : Entry
    own = record { time = u; inside = o; item = BodyItem.Begin s }

    by_test : (y : Bool) → cond (y && true) (own ∷ rest) rest ≡ cond y (own ∷ rest) rest
    by_test true = refl
    by_test false = refl
over_item codes a b u o inside BodyItem.End xs h same p = by_test (nat_le a u)
  where
    rest : List Entry
    rest = kept_of a b u false xs

    own : Entry
    own = record { time = u; inside = o; item = BodyItem.End }

    by_test : (y : Bool) → cond (y && true) (own ∷ rest) rest ≡ cond y (own ∷ rest) rest
    by_test true = refl
    by_test false = refl
over_item codes a b u o inside (BodyItem.Changes d) xs h same p =
    let r = read_again_is codes d h.0 h.1 in
    let q : not ((read_again d).code.event && o) ≡ true =
    ap (λ (k : IdCode). not (k.event && o)) r.same
    ∙ ap (λ b. not (d.code.event && b)) (sym same) ∙ p in
    rw q (by_test (nat_le a u))
  where
    rest : List Entry
    rest = kept_of a b u o xs

    own : Entry
    own = record { time = u; inside = o; item = BodyItem.Changes (read_again d) }

    by_test : (y : Bool) → cond (y && true) (own ∷ rest) rest ≡ cond y (own ∷ rest) rest
    by_test true = refl
    by_test false = refl

closing_over : (a b t : ℕ) (o : Bool) (w : List ℕ) (mark : Option ℕ)
    → kept_of a b t o (closing_items w mark) ≡ []
closing_over a b t o w None = refl
closing_over a b t o w (Some e) = by_any (list_any (λ v. v == e) w)
  where
    by_order : (b < e) ⊎ (e ≤ b) → kept_of a b t o (BodyItem.Time e ∷ []) ≡ []
    by_order (inl l) = end_mark a b t e o [] l
    by_order (inr l) = no_mark a b t e o [] l

    by_any : (x : Bool) → kept_of a b t o (cond x [] (BodyItem.Time e ∷ [])) ≡ []
    by_any true = refl
    by_any false = by_order (cases_lt b e)

-- entries past the end are none of it
none_past : (codes : List IdCode) (a b t : ℕ) (o p : Bool) (es : List Entry)
    → AreWritable codes t o es → b < t → filter (between a b) (reread p es) ≡ []
none_past codes a b t o p [] h l = refl
none_past codes a b t o p (e ∷ es) h l =
    let m : b < e.time = (let k = h.0 in omega arith) in
    rw (lt-leb e.time b m, and_right (nat_le a e.time) false refl)
    (none_past codes a b e.time (next_open o e.item) (next_open p e.item) es h.4 m)

pub written_again : (codes : List IdCode) (a b t : ℕ) (o : Bool) (w v : List ℕ) (es : List Entry)
    (mark : Option ℕ) → AreWritable codes t o es → Stand w t o → Insides o es → AreKept es → t ≤ b
    → kept_of a b t o (written_items w es ++ closing_items v mark)
    ≡ filter (between a b) (reread o es)
written_again codes a b t o w v [] mark h s i k l = closing_over a b t o v mark
written_again codes a b t o w v (e ∷ es) mark h s i k l =
    ap (kept_of a b t o) (append_assoc (time_items w e.time)
    (read_item e.item ∷ written_items (w ++ e.time ∷ []) es) (closing_items v mark))
    ∙ by_order (cases_lt b e.time) (written_again codes a b e.time (next_open o e.item)
    (w ++ e.time ∷ []) v es mark h.4 (stand_more w t e.time o (next_open o e.item) s h.0) i.1 k.1)
  where
    more : List BodyItem
    more = written_items (w ++ e.time ∷ []) es ++ closing_items v mark

    own : Entry
    own = record { time = e.time; inside = o; item = read_item e.item }

    rest : List Entry
    rest = reread (next_open o e.item) es

    by_test : (y : Bool) → cond y (own ∷ filter (between a b) rest) (filter (between a b) rest)
        ≡ cond (y && true) (own ∷ filter (between a b) rest) (filter (between a b) rest)
    by_test true = refl
    by_test false = refl

    by_order : (b < e.time) ⊎ (e.time ≤ b)
        → (e.time ≤ b → kept_of a b e.time (next_open o e.item) more
        ≡ filter (between a b) rest)
        → kept_of a b t o (time_items w e.time ++ (read_item e.item ∷ more))
        ≡ filter (between a b) (own ∷ rest)
    by_order (inl m) again =
        past_time a b t e.time o w (read_item e.item ∷ more) s l m
        ∙ sym (rw (lt-leb e.time b m, and_right (nat_le a e.time) false refl)
        (none_past codes a b e.time (next_open o e.item) (next_open o e.item) es h.4 m))
    by_order (inr m) again =
        over_time a b t e.time o w (read_item e.item ∷ more) s h.0 m
        ∙ over_item codes a b e.time o e.inside e.item more h.3 i.0 k.0
        ∙ ap (λ l. cond (nat_le a e.time) (own ∷ l) l) (again m)
        ∙ by_test (nat_le a e.time)
        ∙ sym (rw (le-leb e.time b m) refl)

-- a start section before the second cut
set_over : (a b t : ℕ) (vals : IdCode → Option Value) (cs : List IdCode) (xs : List BodyItem)
    → t < a → kept_of a b t true ((set_items vals cs ++ BodyItem.End ∷ []) ++ xs)
    ≡ kept_of a b t false xs
set_over a b t vals [] xs l = rw (lt-leb a t l) refl
set_over a b t vals (c ∷ cs) xs l = by_value (vals c) (set_over a b t vals cs xs l)
  where
    by_value : (v : Option Value)
        → kept_of a b t true ((set_items vals cs ++ BodyItem.End ∷ []) ++ xs)
        ≡ kept_of a b t false xs
        → kept_of a b t true (((item_if_set c v ++ set_items vals cs) ++ BodyItem.End ∷ []) ++ xs)
        ≡ kept_of a b t false xs
    by_value None more = more
    by_value (Some v) more = rw (lt-leb a t l) more

pub start_over : (a b t : ℕ) (vals : IdCode → Option Value) (cs : List IdCode) (xs : List BodyItem)
    → t < a → t ≤ b → kept_of a b 0 false (start_items t vals cs ++ xs) ≡ kept_of a b t false xs
start_over a b t vals cs xs l m =
    no_mark a b 0 t false (BodyItem.Begin Vars ∷ ((set_items vals cs ++ BodyItem.End ∷ []) ++ xs)) m
    ∙ rw (lt-leb a t l) (set_over a b t vals cs xs l)

-- ---- its text

pub text_again : (codes : List IdCode) (a b t : ℕ) (o : Bool) (w : List ℕ) (es : List Entry)
    → AreWritable codes t o es
    → (text_after w (filter (between a b) (reread o es)) ≡ text_after w (filter (between a b) es))
text_again codes a b t o w [] h = refl
text_again codes a b t o w (e ∷ es) h =
    by_test (between a b e) (λ v. text_again codes a b e.time (next_open o e.item) v es h.4)
  where
    rest : List Entry
    rest = filter (between a b) (reread (next_open o e.item) es)

    own : Entry
    own = record { time = e.time; inside = o; item = read_item e.item }

    by_test : (x : Bool)
        → ((v : List ℕ) → text_after v rest ≡ text_after v (filter (between a b) es))
        → text_after w (cond x (own ∷ rest) rest)
        ≡ text_after w (cond x (e ∷ filter (between a b) es) (filter (between a b) es))
    by_test true more =
        ap (λ l. time_unless w e.time ++ item_line (read_item e.item) ++ l)
        (more (w ++ e.time ∷ []))
        ∙ ap (λ l. time_unless w e.time ++ l ++ text_after (w ++ e.time ∷ [])
        (filter (between a b) es)) (item_again codes o e.item h.3)
    by_test false more = more w

pub times_again : (a b : ℕ) (o : Bool) (es : List Entry)
    → map (λ (e : Entry). e.time) (filter (between a b) (reread o es))
    ≡ map (λ (e : Entry). e.time) (filter (between a b) es)
times_again a b o [] = refl
times_again a b o (e ∷ es) = by_test (between a b e) (times_again a b (next_open o e.item) es)
  where
    rest : List Entry
    rest = filter (between a b) (reread (next_open o e.item) es)

    by_test : (x : Bool)
        → map (λ (y : Entry). y.time) rest ≡ map (λ (y : Entry). y.time) (filter (between a b) es)
        → map (λ (y : Entry). y.time) (cond x
        (record { time = e.time; inside = o; item = read_item e.item } ∷ rest) rest)
        ≡ map (λ (y : Entry). y.time) (cond x (e ∷ filter (between a b) es)
        (filter (between a b) es))
    by_test true more = ap (λ l. e.time ∷ l) more
    by_test false more = more
