-- Which variables of a merge the names of one input's variables select, under its scope.
use Rattle.vcd_laws.proofs.Cited.{◌≡◌, ◌≢◌, ℕ, suc, ◌+◌, ◌^◌, ◌<◌, ◌≤◌, ◌==◌, Bool, true, false, cond, ◌||◌, List, [], ◌∷◌, ◌++◌, length, map, filter, flat_map, decimal, codes, Option, Some, None, option_map, ◌⊎◌, inl, inr, refl, sym, ap, ◌∙◌, subst, arith, list_any, list_all, is_ascii_digit, append_assoc, append-nil, length-append, filter-append, eq-eqb, eqb-true, ne_eqb, and_parts, is_empty, decimal_value, each_after, Declaration, Header, Selected, selects_path, selected, first_unmatched, input_scope, under_input, merged_variable, names_in, spells}
use Rattle.vcd_laws.proofs.MergedHead.{merged_selected}
use Rattle.vcd_laws.proofs.PickUses.{chosen, selected_is}

-- ---- one path and one name

-- what comes before both makes no difference
same_front : (a path name : List ℕ) → selects_path (a ++ path) (a ++ name) ≡ selects_path path name
same_front [] path name = refl
same_front (x ∷ a) path name = rw (eq-eqb x x refl) (same_front a path name)

not_point : (d : ℕ) → is_ascii_digit d ≡ true → (d == 46) ≡ false
not_point d h = ne_eqb d 46 (λ e. digit_46 (subst (λ n. is_ascii_digit n ≡ true) e h))
  where
    digit_46 : is_ascii_digit 46 ≡ true → ⊥
    digit_46 e = cc

point_not : (d : ℕ) → is_ascii_digit d ≡ true → (46 == d) ≡ false
point_not d h = ne_eqb 46 d (λ e. digit_46 (subst (λ n. is_ascii_digit n ≡ true) (sym e) h))
  where
    digit_46 : is_ascii_digit 46 ≡ true → ⊥
    digit_46 e = cc

-- other digits before a point make all the difference
other_front : (a b path name : List ℕ) → list_all is_ascii_digit a ≡ true
    → list_all is_ascii_digit b ≡ true → a ≢ b
    → selects_path (a ++ 46 ∷ path) (b ++ 46 ∷ name) ≡ false
other_front [] [] path name h g n = absurd (n refl)
other_front [] (y ∷ b) path name h g n =
    let d = (and_parts (is_ascii_digit y) (list_all is_ascii_digit b) g).0 in
    rw (point_not y d, not_point y d) refl
other_front (x ∷ a) [] path name h g n =
    let d = (and_parts (is_ascii_digit x) (list_all is_ascii_digit a) h).0 in
    rw (point_not x d, not_point x d) refl
other_front (x ∷ a) (y ∷ b) path name h g n =
    by_first (x == y) (y == x) refl refl (other_front a b path name
    (and_parts (is_ascii_digit x) (list_all is_ascii_digit a) h).1
    (and_parts (is_ascii_digit y) (list_all is_ascii_digit b) g).1)
  where
    by_first : (p q : Bool) → (x == y) ≡ p → (y == x) ≡ q
        → (a ≢ b → selects_path (a ++ 46 ∷ path) (b ++ 46 ∷ name) ≡ false)
        → selects_path (x ∷ (a ++ 46 ∷ path)) (y ∷ (b ++ 46 ∷ name)) ≡ false
    by_first false false e f more = rw (e, f) refl
    by_first true q e f more =
        let same : x ≡ y = eqb-true x y e in
        let back : (y == x) ≡ true = eq-eqb y x (sym same) in
        rw (e, back) (more (λ s. n (ap (λ l. x ∷ l) s ∙ ap (λ z. z ∷ b) same)))
    by_first false true e f more =
        let same : y ≡ x = eqb-true y x f in
        let forth : (x == y) ≡ true = eq-eqb x y (sym same) in
        cc

-- what ends before a point makes the same difference
ended_front : (a b path : List ℕ) → list_all is_ascii_digit a ≡ true
    → list_all is_ascii_digit b ≡ true → a ≢ b → selects_path (a ++ 46 ∷ path) b ≡ false
ended_front [] [] path h g n = absurd (n refl)
ended_front [] (y ∷ b) path h g n =
    let d = (and_parts (is_ascii_digit y) (list_all is_ascii_digit b) g).0 in
    rw (point_not y d, not_point y d) refl
ended_front (x ∷ a) [] path h g n =
    let d = (and_parts (is_ascii_digit x) (list_all is_ascii_digit a) h).0 in
    rw (point_not x d) refl
ended_front (x ∷ a) (y ∷ b) path h g n =
    by_first (x == y) (y == x) refl refl (ended_front a b path
    (and_parts (is_ascii_digit x) (list_all is_ascii_digit a) h).1
    (and_parts (is_ascii_digit y) (list_all is_ascii_digit b) g).1)
  where
    by_first : (p q : Bool) → (x == y) ≡ p → (y == x) ≡ q
        → (a ≢ b → selects_path (a ++ 46 ∷ path) b ≡ false)
        → selects_path (x ∷ (a ++ 46 ∷ path)) (y ∷ b) ≡ false
    by_first false false e f more = rw (e, f) refl
    by_first true q e f more =
        let same : x ≡ y = eqb-true x y e in
        let back : (y == x) ≡ true = eq-eqb y x (sym same) in
        rw (e, back) (more (λ s. n (ap (λ l. x ∷ l) s ∙ ap (λ z. z ∷ b) same)))
    by_first false true e f more =
        let same : y ≡ x = eqb-true y x f in
        let forth : (x == y) ≡ true = eq-eqb x y (sym same) in
        cc

decimals_apart : (m n : ℕ) → m < 2 ^ 64 → n < 2 ^ 64 → (m ≡ n → ⊥) → decimal m ≢ decimal n
decimals_apart m n h g apart e =
    let a = spells m h in
    let b = spells n g in
    apart (sym a.value ∙ ap decimal_value e ∙ b.value)

-- a name under the scope of one input selects nothing of another
pub other_input : (m n : ℕ) (path name : List ℕ) → m < 2 ^ 64 → n < 2 ^ 64 → (m ≡ n → ⊥)
    → selects_path (under_input m path) (under_input n name) ≡ false
other_input m n path name h g apart =
    let a = spells m h in
    let b = spells n g in
    same_front (codes "in") (decimal m ++ 46 ∷ path) (decimal n ++ 46 ∷ name)
    ∙ other_front (decimal m) (decimal n) path name a.digits b.digits
    (decimals_apart m n h g apart)

-- nor does its scope
pub other_scope : (m n : ℕ) (path : List ℕ) → m < 2 ^ 64 → n < 2 ^ 64 → (m ≡ n → ⊥)
    → selects_path (under_input m path) (input_scope n) ≡ false
other_scope m n path h g apart =
    let a = spells m h in
    let b = spells n g in
    same_front (codes "in") (decimal m ++ 46 ∷ path) (decimal n)
    ∙ ended_front (decimal m) (decimal n) path a.digits b.digits (decimals_apart m n h g apart)

-- the scope of an input selects all of it
pub own_scope : (n : ℕ) (path : List ℕ) → selects_path (under_input n path) (input_scope n) ≡ true
own_scope n path =
    ap (selects_path (under_input n path)) (sym (append-nil (input_scope n)))
    ∙ same_front (input_scope n) (46 ∷ path) []

own_input : (n : ℕ) (path name : List ℕ)
    → selects_path (under_input n path) (under_input n name) ≡ selects_path path name
own_input n path name =
    let front = input_scope n ++ 46 ∷ [] in
    ap (λ p. selects_path p (under_input n name))
    (sym (append_assoc (input_scope n) (46 ∷ []) path))
    ∙ ap (selects_path (front ++ path)) (sym (append_assoc (input_scope n) (46 ∷ []) name))
    ∙ same_front front path name

-- ---- names of one input

pub any_own : (n : ℕ) (path : List ℕ) (wanted : List (List ℕ))
    → list_any (selects_path (under_input n path)) (map (under_input n) wanted)
    ≡ list_any (selects_path path) wanted
any_own n path [] = refl
any_own n path (w ∷ wanted) =
    ap (λ b. b || list_any (selects_path (under_input n path)) (map (under_input n) wanted))
    (own_input n path w) ∙ ap (λ b. selects_path path w || b) (any_own n path wanted)

pub any_other : (m n : ℕ) (path : List ℕ) (wanted : List (List ℕ)) → m < 2 ^ 64 → n < 2 ^ 64
    → (m ≡ n → ⊥) → list_any (selects_path (under_input m path)) (map (under_input n) wanted)
    ≡ false
any_other m n path [] h g apart = refl
any_other m n path (w ∷ wanted) h g apart =
    rw (other_input m n path w h g apart) (any_other m n path wanted h g apart)

chosen_own : (earlier : List Header) (h : Header) (wanted : List (List ℕ)) (s : Selected)
    → chosen (names_in (length earlier + 1) wanted) (merged_variable earlier h s) ≡ chosen wanted s
chosen_own earlier h [] s = rw (own_scope (length earlier + 1) s.path) refl
chosen_own earlier h (w ∷ wanted) s = any_own (length earlier + 1) s.path (w ∷ wanted)

chosen_other : (earlier : List Header) (h : Header) (n : ℕ) (wanted : List (List ℕ)) (s : Selected)
    → length earlier + 1 < 2 ^ 64 → n < 2 ^ 64 → (length earlier + 1 ≡ n → ⊥)
    → chosen (names_in n wanted) (merged_variable earlier h s) ≡ false
chosen_other earlier h n [] s small low apart =
    rw (other_scope (length earlier + 1) n s.path small low apart) refl
chosen_other earlier h n (w ∷ wanted) s small low apart =
    any_other (length earlier + 1) n s.path (w ∷ wanted) small low apart

filter_own : (earlier : List Header) (h : Header) (wanted : List (List ℕ)) (vs : List Selected)
    → filter (chosen (names_in (length earlier + 1) wanted))
    (map (merged_variable earlier h) vs) ≡ map (merged_variable earlier h)
    (filter (chosen wanted) vs)
filter_own earlier h wanted [] = refl
filter_own earlier h wanted (s ∷ vs) =
    rw (chosen_own earlier h wanted s) (by_test (chosen wanted s)
    (filter_own earlier h wanted vs))
  where
    rest : List Selected
    rest = filter (chosen (names_in (length earlier + 1) wanted))
        (map (merged_variable earlier h) vs)

    by_test : (b : Bool) → rest ≡ map (merged_variable earlier h) (filter (chosen wanted) vs)
        → cond b (merged_variable earlier h s ∷ rest) rest
        ≡ map (merged_variable earlier h) (cond b (s ∷ filter (chosen wanted) vs)
        (filter (chosen wanted) vs))
    by_test true more = ap (λ l. merged_variable earlier h s ∷ l) more
    by_test false more = more

filter_other : (earlier : List Header) (h : Header) (n : ℕ) (wanted : List (List ℕ))
    (vs : List Selected) → length earlier + 1 < 2 ^ 64 → n < 2 ^ 64
    → (length earlier + 1 ≡ n → ⊥)
    → filter (chosen (names_in n wanted)) (map (merged_variable earlier h) vs) ≡ []
filter_other earlier h n wanted [] small low apart = refl
filter_other earlier h n wanted (s ∷ vs) small low apart =
    rw (chosen_other earlier h n wanted s small low apart)
    (filter_other earlier h n wanted vs small low apart)

-- ---- all inputs

abbrev selected_all : List Header → List Header → List Selected
selected_all earlier hs = flat_map (λ vs. vs) (each_after merged_selected earlier hs)

length-push : (earlier : List Header) (h : Header) → length (earlier ++ h ∷ []) ≡ length earlier + 1
length-push earlier h = length-append earlier (h ∷ [])

none_other : (earlier hs : List Header) (n : ℕ) (wanted : List (List ℕ))
    → length earlier + length hs < 2 ^ 63 → n < 2 ^ 64
    → (n ≤ length earlier) ⊎ (length earlier + length hs < n)
    → filter (chosen (names_in n wanted)) (selected_all earlier hs) ≡ []
none_other earlier [] n wanted small low apart = refl
none_other earlier (h ∷ hs) n wanted small low apart =
    let l = length-push earlier h in
    filter-append (chosen (names_in n wanted)) (merged_selected earlier h)
    (selected_all (earlier ++ h ∷ []) hs)
    ∙ ap (λ x. x ++ filter (chosen (names_in n wanted))
    (selected_all (earlier ++ h ∷ []) hs))
    (filter_other earlier h n wanted (selected [] h.declarations) (omega arith) low
    (differs apart))
    ∙ none_other (earlier ++ h ∷ []) hs n wanted (omega arith) low (still apart)
  where
    differs : (n ≤ length earlier) ⊎ (length earlier + length (h ∷ hs) < n) → length earlier + 1 ≡ n
        → ⊥
    differs (inl a) e = absurd (omega arith)
    differs (inr a) e = absurd (omega arith)

    still : (n ≤ length earlier) ⊎ (length earlier + length (h ∷ hs) < n)
        → (n ≤ length (earlier ++ h ∷ [])) ⊎ (length (earlier ++ h ∷ []) + length hs < n)
    still (inl a) = let l = length-push earlier h in inl (omega arith)
    still (inr a) = let l = length-push earlier h in inr (omega arith)

of_own : (before front back : List Header) (h : Header) (wanted : List (List ℕ))
    → length before + length (front ++ h ∷ back) < 2 ^ 63
    → filter (chosen (names_in (length (before ++ front) + 1) wanted))
    (selected_all before (front ++ h ∷ back))
    ≡ map (merged_variable (before ++ front) h)
    (filter (chosen wanted) (selected [] h.declarations))
of_own before [] back h wanted small =
    let l = length-push before h in
    let own = filter_own before h wanted (selected [] h.declarations) in
    rw append-nil
    (filter-append (chosen (names_in (length before + 1) wanted))
    (merged_selected before h) (selected_all (before ++ h ∷ []) back)
    ∙ ap (λ x. filter (chosen (names_in (length before + 1) wanted))
    (merged_selected before h) ++ x) (none_other (before ++ h ∷ []) back (length before + 1)
    wanted (omega arith) (omega arith) (inl (omega arith)))
    ∙ append-nil (filter (chosen (names_in (length before + 1) wanted))
    (merged_selected before h))
    ∙ own)
of_own before (x ∷ front) back h wanted small =
    let l = length-push before x in
    let m = length-append before (x ∷ front) in
    let f = length-append front (h ∷ back) in
    let n = length (before ++ x ∷ front) + 1 in
    let same = append_assoc before (x ∷ []) front in
    filter-append (chosen (names_in n wanted)) (merged_selected before x)
    (selected_all (before ++ x ∷ []) (front ++ h ∷ back))
    ∙ ap (λ y. y ++ filter (chosen (names_in n wanted))
    (selected_all (before ++ x ∷ []) (front ++ h ∷ back)))
    (filter_other before x n wanted (selected [] x.declarations) (omega arith)
    (omega arith) (λ e. omega arith))
    ∙ ap (λ (e : List Header). filter (chosen (names_in (length e + 1) wanted))
    (selected_all (before ++ x ∷ []) (front ++ h ∷ back))) (sym same)
    ∙ of_own (before ++ x ∷ []) front back h wanted (omega arith)
    ∙ ap (λ (e : List Header). map (merged_variable e h)
    (filter (chosen wanted) (selected [] h.declarations))) same

-- the names of one input's variables, under its scope, select these variables and no others
pub selected_in : (front back : List Header) (h : Header) (wanted : List (List ℕ))
    (es : List Declaration) → length (front ++ h ∷ back) < 2 ^ 63
    → selected [] es ≡ selected_all [] (front ++ h ∷ back)
    → selected (names_in (length front + 1) wanted) es
    ≡ map (merged_variable front h) (selected wanted h.declarations)
selected_in front back h wanted es small e =
    selected_is (names_in (length front + 1) wanted) es
    ∙ ap (filter (chosen (names_in (length front + 1) wanted))) e
    ∙ of_own [] front back h wanted (omega arith)
    ∙ ap (map (merged_variable front h)) (sym (selected_is wanted h.declarations))

pub selected_under : (front back : List Header) (h : Header) (wanted : List (List ℕ))
    (es : List Declaration) → wanted ≢ [] → length (front ++ h ∷ back) < 2 ^ 63
    → selected [] es ≡ selected_all [] (front ++ h ∷ back)
    → selected (map (under_input (length front + 1)) wanted) es
    ≡ map (merged_variable front h) (selected wanted h.declarations)
selected_under front back h [] es some small e = absurd (some refl)
selected_under front back h (w ∷ wanted) es some small e =
    selected_in front back h (w ∷ wanted) es small e

same_empty : (front : List Header) (h : Header) (vs : List Selected)
    → is_empty (map (merged_variable front h) vs) ≡ is_empty vs
same_empty front h [] = refl
same_empty front h (s ∷ vs) = refl

-- the names that select nothing are the same
pub unmatched_under : (front back : List Header) (h : Header) (wanted : List (List ℕ))
    (es : List Declaration) → length (front ++ h ∷ back) < 2 ^ 63
    → selected [] es ≡ selected_all [] (front ++ h ∷ back)
    → first_unmatched (map (under_input (length front + 1)) wanted) es
    ≡ first_unmatched wanted h.declarations
unmatched_under front back h [] es small e = refl
unmatched_under front back h (w ∷ wanted) es small e =
    let one = ap is_empty (selected_under front back h (w ∷ []) es (λ x. cc) small e)
    ∙ same_empty front h (selected (w ∷ []) h.declarations) in
    let more = unmatched_under front back h wanted es small e in
    ap (λ b. cond b (Some 0) (option_map suc (first_unmatched
    (map (under_input (length front + 1)) wanted) es))) one
    ∙ ap (λ (o : Option ℕ). cond (is_empty (selected (w ∷ []) h.declarations)) (Some 0)
    (option_map suc o)) more

-- names of an input that select something select something under its scope, and so does the scope
pub unmatched_in : (front back : List Header) (h : Header) (wanted : List (List ℕ))
    (es : List Declaration) → length (front ++ h ∷ back) < 2 ^ 63
    → selected [] es ≡ selected_all [] (front ++ h ∷ back)
    → selected wanted h.declarations ≢ [] → first_unmatched wanted h.declarations ≡ None
    → first_unmatched (names_in (length front + 1) wanted) es ≡ None
unmatched_in front back h [] es small e some matched =
    let one = ap is_empty (selected_in front back h [] es small e)
    ∙ same_empty front h (selected [] h.declarations) in
    rw (one ∙ not_empty (selected [] h.declarations) some) refl
  where
    not_empty : (vs : List Selected) → vs ≢ [] → is_empty vs ≡ false
    not_empty [] n = absurd (n refl)
    not_empty (v ∷ vs) n = refl
unmatched_in front back h (w ∷ wanted) es small e some matched =
    unmatched_under front back h (w ∷ wanted) es small e ∙ matched
