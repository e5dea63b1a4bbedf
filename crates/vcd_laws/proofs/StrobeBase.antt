-- A body in steps: a timestamp for each element of a list, counted from 1, and changes after it.
use Rattle.vcd_laws.proofs.Cited.{Bool, List, None, Option, Some, [], ap, arith, cond, false, inl, inr, length, map, nat_le, nat_lt, not, refl, subst, suc, sym, true, ℕ, ◌&&◌, ◌++◌, ◌+◌, ◌<◌, ◌^◌, ◌||◌, ◌∙◌, ◌∷◌, ◌≡◌, ◌≤◌, ◌⊎◌, and_right, le-leb, le-ltb, lt-leb, lt-ltb, append-nil, append_assoc, length-append, AllByRecursion, list_any, AreFit, IsGoodChange, entries_from, open_behind, time_behind, behind, gives_at, latest, newer-false, IdCode, same_code, gives_to, BodyItem, Change, Entry, Value, value_of}
use Rattle.vcd_model.proofs.Latest.{newer}
use Rattle.vcd_laws.proofs.PickLaw.{behind-none}

-- one more element at the end
pub length_snoc : {X : Type 0} (xs : List X) (x : X) → length (xs ++ x ∷ []) ≡ suc (length xs)
length_snoc xs x = length-append xs (x ∷ []) ∙ omega arith

pub length_move : {X : Type 0} (before xs : List X) (x : X)
    → length (before ++ x ∷ []) + length xs ≡ length before + length (x ∷ xs)
length_move before xs x = let n = length_snoc before x in omega arith

-- what is said of each element and all that come before it
abbrev pub AllSteps : {X : Type 0} → (List X → X → Type 0) → List X → List X → Type 0
AllSteps P before [] = Unit {0}
AllSteps P before (x ∷ xs) = P before x × AllSteps P (before ++ x ∷ []) xs

pub steps_weaker : {X : Type 0} (P Q : List X → X → Type 0) (before xs : List X)
    → ((b : List X) (x : X) → P b x → Q b x) → AllSteps P before xs → AllSteps Q before xs
steps_weaker P Q before [] f h = tt
steps_weaker P Q before (x ∷ xs) f h =
    (f before x h.0, steps_weaker P Q (before ++ x ∷ []) xs f h.1)

pub steps_front : {X : Type 0} (P : List X → X → Type 0) (before xs ys : List X)
    → AllSteps P before (xs ++ ys) → AllSteps P before xs
steps_front P before [] ys h = tt
steps_front P before (x ∷ xs) ys h = (h.0, steps_front P (before ++ x ∷ []) xs ys h.1)

pub steps_back : {X : Type 0} (P : List X → X → Type 0) (before xs ys : List X)
    → AllSteps P before (xs ++ ys) → AllSteps P (before ++ xs) ys
steps_back P before [] ys h = subst (λ (l : List _). AllSteps P l ys) (sym (append-nil before)) h
steps_back P before (x ∷ xs) ys h =
    subst (λ (l : List _). AllSteps P l ys) (append_assoc before (x ∷ []) xs)
    (steps_back P (before ++ x ∷ []) xs ys h.1)

-- ---- the later of two values

pub newer_behind : (b : Bool) (v o l : Option Value) → newer b v (behind l o) ≡ behind l (newer b v o)
newer_behind b v o (Some x) = refl
newer_behind b v o None = refl

pub behind_assoc : (x y z : Option Value) → behind (behind x y) z ≡ behind x (behind y z)
behind_assoc (Some v) y z = refl
behind_assoc None y z = refl

and_true : (b : Bool) → (b && true) ≡ b
and_true true = refl
and_true false = refl

-- ---- items

-- changes, as items
abbrev pub as_items : List Change → List BodyItem
as_items ds = map (λ d. BodyItem.Changes d) ds

-- the value that some changes give a code
abbrev pub last_given : IdCode → List Change → Option Value
last_given c [] = None
last_given c (d ∷ ds) = newer (same_code c d.code) (Some (value_of d)) (last_given c ds)

-- an entry triggers an event, as `is_triggered` has it
abbrev pub triggers : IdCode → ℕ → ℕ → Entry → Bool
triggers c from to e = gives_to c e.item && not e.inside && nat_le from e.time && nat_lt e.time to

-- a time is not between these
abbrev pub IsOutside : ℕ → ℕ → ℕ → Type 0
IsOutside from to t = (t < from) ⊎ (to ≤ t)

outside : (b : Bool) (from to t : ℕ) → IsOutside from to t
    → (b && nat_le from t && nat_lt t to) ≡ false
outside b from to t (inl l) = ap (λ x. b && x && nat_lt t to) (lt-leb from t l)
    ∙ ap (λ x. x && nat_lt t to) (and_right b false refl)
outside b from to t (inr l) = and_right (b && nat_le from t) (nat_lt t to) (le-ltb t to l)

-- one of these changes is of the code
abbrev pub has_change : IdCode → List Change → Bool
has_change c ds = list_any (λ d. same_code c d.code) ds

module _ {X : Type 0} (f : List X → X → List Change) where
  -- the items of these elements, with those before them
  abbrev pub steps : List X → List X → List BodyItem
  steps before [] = []
  steps before (x ∷ xs) = BodyItem.Time (suc (length before))
      ∷ (as_items (f before x) ++ steps (before ++ x ∷ []) xs)

  pub steps-append : (before xs ys : List X)
      → steps before (xs ++ ys) ≡ steps before xs ++ steps (before ++ xs) ys
  steps-append before [] ys = ap (λ l. steps l ys) (sym (append-nil before))
  steps-append before (x ∷ xs) ys =
      ap (λ l. BodyItem.Time (suc (length before)) ∷ (as_items (f before x) ++ l))
      (steps-append (before ++ x ∷ []) xs ys
      ∙ ap (λ l. steps (before ++ x ∷ []) xs ++ steps l ys) (append_assoc before (x ∷ []) xs))
      ∙ ap (λ l. BodyItem.Time (suc (length before)) ∷ l)
      (sym (append_assoc (as_items (f before x)) (steps (before ++ x ∷ []) xs)
      (steps (before ++ x ∷ xs) ys)))

  -- ---- they pass their checks

  -- changes that pass their checks
  abbrev pub AreGoodChanges : List IdCode → List X → X → Type 0
  AreGoodChanges codes before x = AllByRecursion (IsGoodChange codes) (f before x)

  changes_fit : (codes : List IdCode) (t : ℕ) (ds : List Change) (more : List BodyItem)
      → AllByRecursion (IsGoodChange codes) ds → AreFit codes t false more
      → AreFit codes t false (as_items ds ++ more)
  changes_fit codes t [] more h fit = fit
  changes_fit codes t (d ∷ ds) more h fit = (h.0, changes_fit codes t ds more h.1 fit)

  pub steps_fit : (codes : List IdCode) (before xs : List X)
      → length before + length xs < 2 ^ 64 → AllSteps (AreGoodChanges codes) before xs
      → AreFit codes (length before) false (steps before xs)
  steps_fit codes before [] few h = tt
  steps_fit codes before (x ∷ xs) few h =
      let n = length_move before xs x in
      let more = steps_fit codes (before ++ x ∷ []) xs (omega arith) h.1 in (
        ((omega arith), (omega arith), refl),
        changes_fit codes (suc (length before)) (f before x) (steps (before ++ x ∷ []) xs) h.0
            (subst (λ (t : ℕ). AreFit codes t false (steps (before ++ x ∷ []) xs))
            (length_snoc before x) more),
      )

  changes_open : (ds : List Change) (more : List BodyItem)
      → open_behind false (as_items ds ++ more) ≡ open_behind false more
  changes_open [] more = refl
  changes_open (d ∷ ds) more = changes_open ds more

  pub steps_open : (before xs : List X) → open_behind false (steps before xs) ≡ false
  steps_open before [] = refl
  steps_open before (x ∷ xs) = changes_open (f before x) (steps (before ++ x ∷ []) xs)
      ∙ steps_open (before ++ x ∷ []) xs

  changes_time : (t : ℕ) (ds : List Change) (more : List BodyItem)
      → time_behind t (as_items ds ++ more) ≡ time_behind t more
  changes_time t [] more = refl
  changes_time t (d ∷ ds) more = changes_time t ds more

  -- the last time is the number of elements
  pub steps_time : (before xs : List X)
      → time_behind (length before) (steps before xs) ≡ length before + length xs
  steps_time before [] = omega arith
  steps_time before (x ∷ xs) =
      changes_time (suc (length before)) (f before x) (steps (before ++ x ∷ []) xs)
      ∙ ap (λ t. time_behind t (steps (before ++ x ∷ []) xs)) (sym (length_snoc before x))
      ∙ steps_time (before ++ x ∷ []) xs ∙ length_move before xs x

  -- ---- the values that they give

  changes_value : (c : IdCode) (at : ℕ → Bool) (t : ℕ) (ds : List Change) (more : List BodyItem)
      (b : Bool) → at t ≡ b
      → latest (gives_at c at) (entries_from t false (as_items ds ++ more))
      ≡ behind (latest (gives_at c at) (entries_from t false more)) (cond b (last_given c ds) None)
  changes_value c at t [] more true e =
      sym (behind-none (latest (gives_at c at) (entries_from t false more)))
  changes_value c at t [] more false e =
      sym (behind-none (latest (gives_at c at) (entries_from t false more)))
  changes_value c at t (d ∷ ds) more true e =
      ap (newer (same_code c d.code && at t) (Some (value_of d)))
      (changes_value c at t ds more true e)
      ∙ ap (λ b. newer b (Some (value_of d)) (behind (latest (gives_at c at)
      (entries_from t false more)) (last_given c ds))) (ap (λ p. same_code c d.code && p) e
      ∙ and_true (same_code c d.code))
      ∙ newer_behind (same_code c d.code) (Some (value_of d)) (last_given c ds)
      (latest (gives_at c at) (entries_from t false more))
  changes_value c at t (d ∷ ds) more false e =
      ap (newer (same_code c d.code && at t) (Some (value_of d)))
      (changes_value c at t ds more false e)
      ∙ ap (λ b. newer b (Some (value_of d)) (behind (latest (gives_at c at)
      (entries_from t false more)) None)) (ap (λ p. same_code c d.code && p) e
      ∙ and_right (same_code c d.code) false refl)
      ∙ newer-false (Some (value_of d)) (behind (latest (gives_at c at)
      (entries_from t false more)) None)

  -- times that do not pass
  pub steps_none : (c : IdCode) (at : ℕ → Bool) (before xs : List X)
      → ((t : ℕ) → length before < t → at t ≡ false)
      → latest (gives_at c at) (entries_from (length before) false (steps before xs)) ≡ None
  steps_none c at before [] none = refl
  steps_none c at before (x ∷ xs) none =
      let n = length_snoc before x in
      let rest = steps (before ++ x ∷ []) xs in
      let more : latest (gives_at c at) (entries_from (suc (length before)) false rest) ≡ None
      = ap (λ t. latest (gives_at c at) (entries_from t false rest)) (sym n)
      ∙ steps_none c at (before ++ x ∷ []) xs (λ t l. none t (omega arith)) in
      newer-false None (latest (gives_at c at)
      (entries_from (suc (length before)) false (as_items (f before x) ++ rest)))
      ∙ changes_value c at (suc (length before)) (f before x) rest false
      (none (suc (length before)) (omega arith)) ∙ rw more refl

  module _ (c : IdCode) (S : List X → Option Value) where
    -- the changes of an element lead from the value before it to the one after it
    abbrev pub Leads : List X → X → Type 0
    Leads before x = behind (last_given c (f before x)) (S before) ≡ S (before ++ x ∷ [])

    -- if all times pass, they lead to the value after all
    pub steps_value : (at : ℕ → Bool) (before xs : List X)
        → ((t : ℕ) → t ≤ length before + length xs → at t ≡ true) → AllSteps Leads before xs
        → behind (latest (gives_at c at) (entries_from (length before) false (steps before xs)))
        (S before) ≡ S (before ++ xs)
    steps_value at before [] all h = ap S (sym (append-nil before))
    steps_value at before (x ∷ xs) all h =
        let n = length_snoc before x in
        let m = length_move before xs x in
        let rest = steps (before ++ x ∷ []) xs in
        let later = latest (gives_at c at) (entries_from (suc (length before)) false rest) in
        ap (λ o. behind o (S before)) (newer-false None (latest (gives_at c at)
        (entries_from (suc (length before)) false (as_items (f before x) ++ rest)))
        ∙ changes_value c at (suc (length before)) (f before x) rest true
        (all (suc (length before)) (omega arith)))
        ∙ behind_assoc later (last_given c (f before x)) (S before)
        ∙ ap (behind later) h.0
        ∙ ap (λ t. behind (latest (gives_at c at) (entries_from t false rest))
        (S (before ++ x ∷ []))) (sym n)
        ∙ steps_value at (before ++ x ∷ []) xs (λ t l. all t (omega arith)) h.1
        ∙ ap S (append_assoc before (x ∷ []) xs)

  -- ---- whether they trigger an event

  changes_quiet : (c : IdCode) (from to t : ℕ) (ds : List Change) (more : List BodyItem)
      → IsOutside from to t
      → list_any (triggers c from to) (entries_from t false (as_items ds ++ more))
      ≡ list_any (triggers c from to) (entries_from t false more)
  changes_quiet c from to t [] more out = refl
  changes_quiet c from to t (d ∷ ds) more out =
      rw (outside (same_code c d.code && true) from to t out) (changes_quiet c from to t ds more out)

  -- times that are not between these
  pub steps_quiet : (c : IdCode) (from to : ℕ) (before xs : List X)
      → ((t : ℕ) → length before < t → t ≤ length before + length xs → IsOutside from to t)
      → list_any (triggers c from to) (entries_from (length before) false (steps before xs)) ≡ false
  steps_quiet c from to before [] out = refl
  steps_quiet c from to before (x ∷ xs) out =
      let n = length_snoc before x in
      let m = length_move before xs x in
      let rest = steps (before ++ x ∷ []) xs in
      changes_quiet c from to (suc (length before)) (f before x) rest
      (out (suc (length before)) (omega arith) (omega arith))
      ∙ ap (λ t. list_any (triggers c from to) (entries_from t false rest)) (sym n)
      ∙ steps_quiet c from to (before ++ x ∷ []) xs (λ t l h. out t (omega arith) (omega arith))

  changes_trigger : (c : IdCode) (t : ℕ) (ds : List Change) (more : List BodyItem)
      → list_any (triggers c t (suc t)) (entries_from t false (as_items ds ++ more))
      ≡ (has_change c ds || list_any (triggers c t (suc t)) (entries_from t false more))
  changes_trigger c t [] more = refl
  changes_trigger c t (d ∷ ds) more =
      ap (λ b. b || list_any (triggers c t (suc t)) (entries_from t false (as_items ds ++ more)))
      (ap (λ b. same_code c d.code && true && b && nat_lt t (suc t)) (le-leb t t (omega arith))
      ∙ ap (λ b. same_code c d.code && true && true && b) (lt-ltb t (suc t) (omega arith))
      ∙ (and_true (same_code c d.code && true && true) ∙ and_true (same_code c d.code && true)
      ∙ and_true (same_code c d.code)))
      ∙ ap (λ b. same_code c d.code || b) (changes_trigger c t ds more)
      ∙ or_assoc (same_code c d.code) (has_change c ds)
      (list_any (triggers c t (suc t)) (entries_from t false more))
    where
      or_assoc : (x y z : Bool) → (x || (y || z)) ≡ (x || y || z)
      or_assoc true y z = refl
      or_assoc false y z = refl

  -- at the time of an element, its changes trigger
  pub step_triggers : (c : IdCode) (before xs ys : List X) (x : X) (n : ℕ)
      → n ≡ length before + length xs
      → list_any (triggers c (suc n) (suc (suc n)))
      (entries_from (length before) false (steps before (xs ++ x ∷ ys)))
      ≡ has_change c (f (before ++ xs) x)
  step_triggers c before [] ys x n e =
      let rest = steps (before ++ x ∷ []) ys in
      let m = length_snoc before x in
      let same : n ≡ length before = omega arith in
      let none = steps_quiet c (suc n) (suc (suc n)) (before ++ x ∷ []) ys
      (λ t l h. inr (omega arith)) in
      ap (λ t. list_any (triggers c (suc n) (suc (suc n)))
      (entries_from (suc t) false (as_items (f before x) ++ rest))) (sym same)
      ∙ changes_trigger c (suc n) (f before x) rest
      ∙ ap (λ b. has_change c (f before x) || b)
      (ap (λ t. list_any (triggers c (suc n) (suc (suc n))) (entries_from t false rest))
      (ap suc same ∙ sym m) ∙ none)
      ∙ or_false (has_change c (f before x))
      ∙ ap (λ l. has_change c (f l x)) (sym (append-nil before))
    where
      or_false : (b : Bool) → (b || false) ≡ b
      or_false true = refl
      or_false false = refl
  step_triggers c before (y ∷ xs) ys x n e =
      let rest = steps (before ++ y ∷ []) (xs ++ x ∷ ys) in
      let m = length_snoc before y in
      let k = length_move before xs y in
      changes_quiet c (suc n) (suc (suc n)) (suc (length before)) (f before y) rest
      (inl (omega arith))
      ∙ ap (λ t. list_any (triggers c (suc n) (suc (suc n))) (entries_from t false rest)) (sym m)
      ∙ step_triggers c (before ++ y ∷ []) xs ys x n (omega arith)
      ∙ ap (λ l. has_change c (f l x)) (append_assoc before (y ∷ []) xs)
