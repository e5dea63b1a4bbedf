-- The variables at a path, and the clocks of names.
use Rattle.std.proofs.Common.{◌≡◌, ◌≢◌, ◌⊎◌, inl, inr, ℕ, zero, suc, ◌+◌, ◌<◌, ◌≤◌, ◌||◌, not, Bool, true, false, cond, bytes_eq, codes, List, [], ◌∷◌, ◌++◌, length, map, set, take, drop, filter, filter_map, slice_get, Option, Some, None, Result, Ok, Err, refl, sym, ap, ap₂, subst, ◌∙◌, arith, append-nil}
use Rattle.std.specs.Prelude.{string_bytes}
use Rattle.std.specs.List.{AllZip, cons_option, list_any}
use Rattle.std.proofs.lemmas.Bool.{cases_eq}
use Rattle.std.proofs.lemmas.List.{map-append}
use Rattle.std.proofs.lemmas.List.Elements.{filter-append, filter_map-append}
use Rattle.std.proofs.lemmas.List.Folds.{list_any-append}
use Rattle.std.proofs.lemmas.Option.{same_Some}
use Rattle.std.proofs.lemmas.Slice.Eq.{bytes_eq-Decides}
use Rattle.vcd_model.proofs.Growing.{each_after-append}
use Rattle.vcd_model.specs.Backward.{each_after}
use Rattle.vcd_model.specs.Compare.{Kind, kind_of}
use Rattle.vcd_model.specs.Declarations.{Declaration, IdCode, Variable, code_of}
use Rattle.vcd_model.specs.Header.{Header}
use Rattle.vcd_model.specs.Selection.{Selected, selected, with_path}
use Rattle.vcd_model.specs.Strobe.{Clock as ModelClock, ClockName as ModelClockName, NoClock as ModelNoClock, bit_of, clock_among, clock_of, clocks_of, no_clock, no_clock_text, place_in, variables_at}
use Rattle.vcd_strobe.proofs.EdgeLemmas.{take_next}
use Rattle.vcd_strobe.proofs.ListSteps.{set_at, set_other}
use Rattle.vcd_strobe.proofs.PathSteps.{turned}
use Rattle.vcd_strobe.specs.Clocks.{AreClocks, IsClock}
use Rattle.vcd_strobe.specs.Named.{FindsClock, FindsRow, IsFirst, has_path, is_real, model_name, model_why}
use Rattle.vcd_strobe.specs.Strobes.{AreDistinct}
use Rattle.vcd_strobe.specs.declared.clocks.Clock.{Clock}
use Rattle.vcd_strobe.specs.declared.named.ClockName.{ClockName}
use Rattle.vcd_strobe.specs.declared.named.NoClock.{NoClock}

-- ---- the kind of a variable

module _ (v : Variable) where
  by_tests : Bool → Bool → Kind
  by_tests event real = cond event Kind.Event (cond real Kind.Real (Kind.Digits v.size))

  pub event_kind : (code_of v).event ≡ true → kind_of v ≡ Kind.Event
  unfolding by_tests
  event_kind e = ap (λ b. by_tests b (is_real v)) (turned v.type (codes "event") ∙ e)

  pub real_kind : (code_of v).event ≡ false → is_real v ≡ true → kind_of v ≡ Kind.Real
  unfolding by_tests
  real_kind e r = ap₂ by_tests (turned v.type (codes "event") ∙ e) r

  pub digits_kind : (code_of v).event ≡ false → is_real v ≡ false → kind_of v ≡ Kind.Digits v.size
  unfolding by_tests
  digits_kind e r = ap₂ by_tests (turned v.type (codes "event") ∙ e) r

-- ---- the variables at a path

module _ (path : List ℕ) where
  -- those of some declarations
  abbrev pub of_path : List Selected → List Variable
  of_path ss = map (λ s. s.variable) (filter (λ s. bytes_eq s.path path) ss)

  abbrev pub among : List Declaration → List Variable
  among ds = of_path (selected [] ds)

  more : List Declaration → List Declaration → List Variable
  more xs ys = of_path (filter_map (λ o. o) (each_after (with_path []) xs ys))

  among_more : (xs ys : List Declaration) → among (xs ++ ys) ≡ among xs ++ more xs ys
  unfolding selected more
  among_more xs ys =
      let front = filter_map (λ o. o) (each_after (with_path []) [] xs) in
      let back = filter_map (λ o. o) (each_after (with_path []) xs ys) in
      ap (λ l. of_path (filter_map (λ o. o) l)) (each_after-append (with_path []) [] xs ys)
      ∙ ap of_path (filter_map-append (λ o. o) (each_after (with_path []) [] xs) (each_after (with_path []) xs ys))
      ∙ ap (map (λ (s : Selected). s.variable)) (filter-append (λ s. bytes_eq s.path path) front back)
      ∙ map-append (λ (s : Selected). s.variable) (filter (λ s. bytes_eq s.path path) front) (filter (λ s. bytes_eq s.path path) back)

  one_none : (earlier : List Declaration) (d : Declaration) → has_path earlier path d ≡ false → more earlier (d ∷ []) ≡ []
  unfolding more
  one_none earlier (Declaration.Scope type name) e = refl
  one_none earlier Declaration.Up e = refl
  one_none earlier (Declaration.Var v) e = rw e refl

  one_some : (earlier : List Declaration) (v : Variable) → has_path earlier path (Declaration.Var v) ≡ true → more earlier (Declaration.Var v ∷ []) ≡ v ∷ []
  unfolding more
  one_some earlier v e = rw e refl

  -- one declaration more
  pub among_other : (ds : List Declaration) (n : ℕ) (d : Declaration) → slice_get ds n ≡ Some d → has_path (take n ds) path d ≡ false → among (take (suc n) ds) ≡ among (take n ds)
  among_other ds n d at e = ap among (take_next ds n d at) ∙ among_more (take n ds) (d ∷ []) ∙ ap (λ l. among (take n ds) ++ l) (one_none (take n ds) d e) ∙ append-nil (among (take n ds))

  pub among_next : (ds : List Declaration) (n : ℕ) (v : Variable) → slice_get ds n ≡ Some (Declaration.Var v) → has_path (take n ds) path (Declaration.Var v) ≡ true
      → among (take (suc n) ds) ≡ among (take n ds) ++ v ∷ []
  among_next ds n v at e = ap among (take_next ds n (Declaration.Var v) at) ∙ among_more (take n ds) (Declaration.Var v ∷ [])
      ∙ ap (λ l. among (take n ds) ++ l) (one_some (take n ds) v e)

  -- those of the first declarations come first
  pub among_all : (ds : List Declaration) (n : ℕ) → (rest : List Variable) × (among ds ≡ among (take n ds) ++ rest)
  among_all ds n = (more (take n ds) (drop n ds), ap among (sym (split ds n)) ∙ among_more (take n ds) (drop n ds))
    where
      split : {X : Type 0} (xs : List X) (n : ℕ) → take n xs ++ drop n xs ≡ xs
      split [] zero = refl
      split [] (suc n) = refl
      split (x ∷ xs) zero = refl
      split (x ∷ xs) (suc n) = ap (λ l. x ∷ l) (split xs n)

-- ---- the first of them

module _ (h : Header) (path : List ℕ) where
  -- among the first n declarations
  abbrev pub HasFirst : ℕ → Option ℕ → Type 0
  HasFirst n first = IsFirst h (among path (take n h.declarations)) first

  pub none_first : HasFirst 0 None
  unfolding selected
  none_first = refl

  next : (n : ℕ) (first : Option ℕ) (vs : List Variable) → among path (take (suc n) h.declarations) ≡ vs → IsFirst h vs first → HasFirst (n + 1) first
  next n first vs e is =
      let one : n + 1 ≡ suc n = omega arith in
      subst (λ l. IsFirst h l first) (sym (ap (λ k. among path (take k h.declarations)) one ∙ e)) is

  pub other_first : (n : ℕ) (first : Option ℕ) (d : Declaration) → slice_get h.declarations n ≡ Some d → has_path (take n h.declarations) path d ≡ false
      → HasFirst n first → HasFirst (n + 1) first
  other_first n first d at e has = next n first (among path (take n h.declarations)) (among_other path h.declarations n d at e) has

  -- a declaration that has the path is a variable
  pub its_variable : (n : ℕ) (d : Declaration) → has_path (take n h.declarations) path d ≡ true → (v : Variable) × (d ≡ Declaration.Var v)
  its_variable n (Declaration.Scope type name) e = cc
  its_variable n Declaration.Up e = cc
  its_variable n (Declaration.Var v) e = (v, refl)

  module _ (n : ℕ) (v : Variable) (at : slice_get h.declarations n ≡ Some (Declaration.Var v)) (e : has_path (take n h.declarations) path (Declaration.Var v) ≡ true) where
    pub found_first : HasFirst n None → HasFirst (n + 1) (Some n)
    found_first none = next n (Some n) (v ∷ []) (among_next path h.declarations n v at e ∙ ap (λ l. l ++ v ∷ []) none) (v, [], at, refl, refl)

    -- with the code of the first one, or with another one
    module _ (row i j : ℕ) (has : HasFirst n (Some row)) (one : slice_get h.codes i ≡ Some (code_of has.0)) (other : slice_get h.codes j ≡ Some (code_of v)) where
      longer : among path (take (suc n) h.declarations) ≡ has.0 ∷ (has.1 ++ v ∷ [])
      longer = among_next path h.declarations n v at e ∙ ap (λ l. l ++ v ∷ []) has.3

      pub same_first : i ≡ j → HasFirst (n + 1) (Some row)
      same_first same =
          let code : code_of v ≡ code_of has.0 = same_Some (code_of v) (code_of has.0) (sym other ∙ ap (slice_get h.codes) (sym same) ∙ one) in
          let its : bytes_eq v.code has.0.code ≡ true = (bytes_eq-Decides v.code has.0.code).1 (ap (λ (c : IdCode). c.text) code) in
          next n (Some row) (has.0 ∷ (has.1 ++ v ∷ [])) longer (
            has.0,
            has.1 ++ v ∷ [],
            has.2,
            refl,
            list_any-append (λ u. not (bytes_eq u.code has.0.code)) has.1 (v ∷ []) ∙ ap₂ (λ a b. a || (not b || false)) has.4 its,
          )

      pub apart_first : AreDistinct h.codes → i ≢ j → FindsRow h path (Err NoClock.Several)
      apart_first distinct apart =
          let all = among_all path h.declarations (suc n) in
          let codes : bytes_eq v.code has.0.code ≡ false = by_test (bytes_eq v.code has.0.code) refl in (
            refl,
            has.0,
            (has.1 ++ v ∷ []) ++ all.0,
            all.1 ∙ ap (λ l. l ++ all.0) longer,
            list_any-append (λ u. not (bytes_eq u.code has.0.code)) (has.1 ++ v ∷ []) all.0
                ∙ ap (λ b. b || list_any (λ u. not (bytes_eq u.code has.0.code)) all.0)
                (list_any-append (λ u. not (bytes_eq u.code has.0.code)) has.1 (v ∷ []) ∙ ap₂ (λ a b. a || (not b || false)) has.4 codes),
          )
        where
          by_test : (b : Bool) → bytes_eq v.code has.0.code ≡ b → b ≡ false
          by_test true q = absurd (apart (sym (distinct j i (code_of v) (code_of has.0) other one q)))
          by_test false q = refl

  pub all_first : (n : ℕ) (first : Option ℕ) → take n h.declarations ≡ h.declarations → HasFirst n first → FindsRow h path (Ok first)
  all_first n first all has = subst (λ l. IsFirst h l first) (ap (among path) all) has

-- ---- the clock of a name

module _ (h : Header) (name : ModelClockName) where
  -- by the variables at the argument, and at the path
  abbrev by_lists : List Variable → List Variable → Result ModelClock ModelNoClock
  by_lists words paths =
      elim words [
        | [] ↦ clock_among paths name.place name.falls
        | v ∷ vs ↦ clock_among (v ∷ vs) None name.falls
      ]

  clock_is : clock_of h name ≡ by_lists (variables_at h name.word) (variables_at h name.path)
  clock_is = refl

  pub by_word : (row : ℕ) (is : IsFirst h (variables_at h name.word) (Some row)) → clock_of h name ≡ bit_of is.0 name.falls (place_in (kind_of is.0) None)
  by_word row is = clock_is ∙ ap (λ l. by_lists l (variables_at h name.path)) is.3 ∙ ap (λ b. cond b (Err ModelNoClock.Several) (bit_of is.0 name.falls (place_in (kind_of is.0) None))) is.4

  pub several_words : (why : NoClock) → FindsRow h name.word (Err why) → clock_of h name ≡ Err (model_why why)
  several_words why (is, v, rest, vs, other) = clock_is ∙ ap (λ l. by_lists l (variables_at h name.path)) vs
      ∙ ap (λ b. cond b (Err ModelNoClock.Several) (bit_of v name.falls (place_in (kind_of v) None))) other ∙ ap (λ y. Err (model_why y)) (sym is)

  module _ (none : variables_at h name.word ≡ []) where
    pub by_path : (row : ℕ) (is : IsFirst h (variables_at h name.path) (Some row)) → clock_of h name ≡ bit_of is.0 name.falls (place_in (kind_of is.0) name.place)
    by_path row is = clock_is ∙ ap₂ by_lists none is.3 ∙ ap (λ b. cond b (Err ModelNoClock.Several) (bit_of is.0 name.falls (place_in (kind_of is.0) name.place))) is.4

    pub several_paths : (why : NoClock) → FindsRow h name.path (Err why) → clock_of h name ≡ Err (model_why why)
    several_paths why (is, v, rest, vs, other) = clock_is ∙ ap₂ by_lists none vs
        ∙ ap (λ b. cond b (Err ModelNoClock.Several) (bit_of v name.falls (place_in (kind_of v) name.place))) other ∙ ap (λ y. Err (model_why y)) (sym is)

    pub missing : variables_at h name.path ≡ [] → clock_of h name ≡ Err ModelNoClock.Missing
    missing vs = clock_is ∙ ap₂ by_lists none vs

-- ---- the clocks of names

module _ (h : Header) where
  abbrev clock_or : Result ModelClock ModelNoClock → Option ModelClock
  clock_or r = elim r [ Ok k ↦ Some k | Err why ↦ None ]

  no_clock_on : (name : ModelClockName) (names : List ModelClockName) (r : Result ModelClock ModelNoClock) → clock_of h name ≡ r
      → no_clock h (name ∷ names) ≡ elim r [ Ok k ↦ no_clock h names | Err why ↦ Some (name.word ++ codes ": " ++ no_clock_text why) ]
  no_clock_on name names r e = ap (λ (r : Result ModelClock ModelNoClock). elim r [ Ok k ↦ no_clock h names | Err why ↦ Some (name.word ++ codes ": " ++ no_clock_text why) ]) e

  -- each name is that of the clock at its index
  abbrev pub FindEach : List ClockName → List Clock → ℕ → Type 0
  FindEach names clocks n = (i : ℕ) (name : ClockName) → i < n → slice_get names i ≡ Some name → (c : Clock) × (slice_get clocks i ≡ Some c)
      × FindsClock h (model_name name) (Ok c)

  -- one name more
  pub find_more : (names : List ClockName) (clocks : List Clock) (n : ℕ) (c : Clock) (name : ClockName) → slice_get names n ≡ Some name
      → n < length clocks → FindEach names clocks n
      → FindsClock h (model_name name) (Ok c) → FindEach names (set clocks n c) (n + 1)
  find_more names clocks n c name there low each finds i x lt at = by_same (cases_eq i n)
    where
      by_same : (i ≡ n) ⊎ (i ≢ n) → (k : Clock) × (slice_get (set clocks n c) i ≡ Some k) × FindsClock h (model_name x) (Ok k)
      by_same (inl e) =
          let same : name ≡ x = same_Some name x (sym there ∙ ap (slice_get names) (sym e) ∙ at) in
          (c, ap (slice_get (set clocks n c)) e ∙ set_at clocks n c low, subst (λ (y : ClockName). FindsClock h (model_name y) (Ok c)) same finds)
      by_same (inr apart) = let found = each i x (omega (arith, lt, apart)) at in (found.0, set_other clocks n i c apart ∙ found.1, found.2)

  all_zip : (names : List ClockName) (clocks : List Clock) → length clocks ≡ length names → FindEach names clocks (length names)
      → (no_clock h (map model_name names) ≡ None) × AllZip (IsClock h.codes) clocks (clocks_of h (map model_name names))
  all_zip [] [] len each = (refl, tt)
  all_zip [] (c ∷ clocks) len each = absurd (omega (arith, len))
  all_zip (name ∷ names) [] len each = absurd (omega (arith, len))
  all_zip (name ∷ names) (c ∷ clocks) len each =
      let first = each 0 name (omega arith) refl in
      let same : first.0 ≡ c = same_Some first.0 c (sym first.1) in
      let rest = all_zip names clocks (omega (arith, len)) (λ i n lt at. each (suc i) n (omega (arith, lt)) at) in (
        no_clock_on (model_name name) (map model_name names) (Ok first.2.0) first.2.1 ∙ rest.0,
        subst (λ (r : Result ModelClock ModelNoClock). AllZip (IsClock h.codes) (c ∷ clocks) (cons_option (clock_or r) (clocks_of h (map model_name names))))
            (sym first.2.1)
            (subst (λ (x : Clock). IsClock h.codes x first.2.0) same first.2.2, rest.1),
      )

  pub all_found : (names : List ClockName) (clocks : List Clock) (n : ℕ) → length clocks ≡ length names → length names ≤ n → FindEach names clocks n
      → (no_clock h (map model_name names) ≡ None) × AreClocks h.codes clocks (clocks_of h (map model_name names))
  all_found names clocks n len all each = all_zip names clocks len (λ i name lt at. each i name (omega (arith, lt, all)) at)

  pub first_lost : (names : List ClockName) (clocks : List Clock) (n : ℕ) (name : ClockName) (why : NoClock) → slice_get names n ≡ Some name → FindEach names clocks n
      → clock_of h (model_name name) ≡ Err (model_why why) → no_clock h (map model_name names) ≡ Some (string_bytes name.word ++ codes ": " ++ no_clock_text (model_why why))
  first_lost [] clocks n name why at each none = cc
  first_lost (x ∷ names) clocks zero name why at each none =
      let same : x ≡ name = same_Some x name at in
      ap (λ (y : ClockName). no_clock h (map model_name (y ∷ names))) same ∙ no_clock_on (model_name name) (map model_name names) (Err (model_why why)) none
  first_lost (x ∷ names) [] (suc n) name why at each none = let first = each 0 x (omega arith) refl in let no = first.1 in cc
  first_lost (x ∷ names) (c ∷ clocks) (suc n) name why at each none =
      let first = each 0 x (omega arith) refl in
      no_clock_on (model_name x) (map model_name names) (Ok first.2.0) first.2.1
      ∙ first_lost names clocks n name why at (λ i y lt there. each (suc i) y (omega (arith, lt)) there) none
