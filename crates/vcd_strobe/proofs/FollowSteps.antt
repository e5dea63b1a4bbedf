-- The roles of the clocks' codes, whose values are kept.
use Rattle.std.proofs.Common.{◌≡◌, ◌≢◌, ◌⊎◌, inl, inr, ℕ, suc, ◌+◌, ◌<◌, ◌≤◌, ◌==◌, Bool, true, false, cond, ◌||◌, List, [], ◌∷◌, ◌++◌, length, take, set, get_or, slice_get, unwrap_or, option_map, Option, Some, None, refl, sym, ap, ◌∙◌, arith}
use Rattle.std.proofs.lemmas.Bool.{cases_eq, eq-eqb, ne_eqb}
use Rattle.std.proofs.lemmas.Option.{slice_get_cases}
use Rattle.std.specs.List.{AllByRecursion, list_any}
use Rattle.vcd_model.specs.Declarations.{IdCode}
use Rattle.vcd_model.specs.Strobe.{Clock as ModelClock}
use Rattle.vcd_strobe.proofs.EdgeLemmas.{take_next}
use Rattle.vcd_strobe.proofs.ListSteps.{set_at, set_other}
use Rattle.vcd_strobe.specs.Clocks.{AreClocks}
use Rattle.vcd_strobe.specs.Listed.{FollowsEach, followed_at}
use Rattle.vcd_strobe.specs.Roles.{followed, is_followed}
use Rattle.vcd_strobe.specs.declared.clocks.Clock.{Clock}
use Rattle.vcd_strobe.specs.declared.role.Role.{Role}
use Rattle.vcd_strobe.specs.declared.role.Wanted.{Wanted}
use Rattle.vcd_strobe.specs.declared.role.Wanted.TheVariants.{Idle, Listed, Never, Silent}

or_false : (a b : Bool) → (a || (b || false)) ≡ (a || b)
or_false true b = refl
or_false false true = refl
or_false false false = refl

or_true : (b : Bool) → (b || true) ≡ true
or_true true = refl
or_true false = refl

any_push : {X : Type 0} (f : X → Bool) (x : X) (xs : List X) → list_any f (xs ++ x ∷ []) ≡ (list_any f xs || f x)
any_push f x [] = or_false false (f x)
any_push f x (y ∷ xs) = ap (λ b. f y || b) (any_push f x xs) ∙ assoc (f y) (list_any f xs) (f x)
  where
    assoc : (a b c : Bool) → (a || (b || c)) ≡ ((a || b) || c)
    assoc true b c = refl
    assoc false b c = refl

-- the role of a code, whose values are kept if so
abbrev by : Bool → Role → Role
by b r = cond b (followed r) r

twice : (w : Wanted) → cond (is_followed (cond (is_followed w) w Silent)) (cond (is_followed w) w Silent) Silent ≡ cond (is_followed w) w Silent
twice Listed = refl
twice Idle = refl
twice Silent = refl
twice Never = refl

both : (a b : Bool) (r : Role) → by b (by a r) ≡ by (a || b) r
both true true r = ap (λ w. record { now = r.now; before = r.before; written = r.written; since = r.since; early = r.early; wanted = w }) (twice r.wanted)
both true false r = refl
both false true r = refl
both false false r = refl

both_of : (a b : Bool) (o : Option Role) → option_map (by b) (option_map (by a) o) ≡ option_map (by (a || b)) o
both_of a b None = refl
both_of a b (Some r) = ap Some (both a b r)

none_of : (o : Option Role) → o ≡ option_map (by false) o
none_of None = refl
none_of (Some r) = refl

-- one more of the clocks' codes is followed
pub follows_more : (clocks : List Clock) (k : ℕ) (clock : Clock) (old mid new : List Role) → slice_get clocks k ≡ Some clock → FollowsEach (take k clocks) old mid
    → ((r : Role) → slice_get mid clock.code ≡ Some r → new ≡ set mid clock.code (followed r)) → (length mid ≤ clock.code → new ≡ mid)
    → FollowsEach (take (k + 1) clocks) old new
follows_more clocks k clock old mid new at done there past i =
    one (slice_get_cases mid clock.code).1 ∙ ap (option_map (by (clock.code == i))) (done i)
    ∙ both_of (list_any (λ (c : Clock). c.code == i) (take k clocks)) (clock.code == i) (slice_get old i)
    ∙ ap (λ b. option_map (by b) (slice_get old i)) (sym more)
  where
    more : list_any (λ (c : Clock). c.code == i) (take (k + 1) clocks) ≡ (list_any (λ (c : Clock). c.code == i) (take k clocks) || (clock.code == i))
    more =
        let next : k + 1 ≡ suc k = omega arith in
        ap (λ n. list_any (λ (c : Clock). c.code == i) (take n clocks)) next ∙ ap (list_any (λ (c : Clock). c.code == i)) (take_next clocks k clock at)
        ∙ any_push (λ (c : Clock). c.code == i) clock (take k clocks)

    one : ((r : Role) × (clock.code < length mid) × (slice_get mid clock.code ≡ Some r) × (get_or mid clock.code r ≡ r))
        ⊎ ((length mid ≤ clock.code) × (slice_get mid clock.code ≡ None)) → slice_get new i ≡ option_map (by (clock.code == i)) (slice_get mid i)
    one (inl is) = ap (λ l. slice_get l i) (there is.0 is.2) ∙ by_same (cases_eq i clock.code)
      where
        by_same : (i ≡ clock.code) ⊎ (i ≢ clock.code) → slice_get (set mid clock.code (followed is.0)) i ≡ option_map (by (clock.code == i)) (slice_get mid i)
        by_same (inl e) =
            ap (slice_get (set mid clock.code (followed is.0))) e ∙ set_at mid clock.code (followed is.0) is.1
            ∙ sym (ap (option_map (by (clock.code == i))) (ap (slice_get mid) e ∙ is.2) ∙ ap (λ b. Some (by b is.0)) (eq-eqb clock.code i (sym e)))
        by_same (inr apart) =
            set_other mid clock.code i (followed is.0) apart ∙ none_of (slice_get mid i)
            ∙ ap (λ b. option_map (by b) (slice_get mid i)) (sym (ne_eqb clock.code i (λ e. apart (sym e))))
    one (inr none) = ap (λ l. slice_get l i) (past none.0) ∙ by_same (cases_eq i clock.code)
      where
        by_same : (i ≡ clock.code) ⊎ (i ≢ clock.code) → slice_get mid i ≡ option_map (by (clock.code == i)) (slice_get mid i)
        by_same (inl e) = let is = ap (slice_get mid) e ∙ none.1 in is ∙ sym (ap (option_map (by (clock.code == i))) is)
        by_same (inr apart) = none_of (slice_get mid i) ∙ ap (λ b. option_map (by b) (slice_get mid i)) (sym (ne_eqb clock.code i (λ e. apart (sym e))))

-- all clocks' codes are followed then
module _ (codes : List IdCode) (all : List Clock) (old new : List Role) (has : (i : ℕ) (c : IdCode) → slice_get codes i ≡ Some c → (r : Role) × (slice_get old i ≡ Some r))
    (follows : FollowsEach all old new) where
  wanted_then : (w : Wanted) → is_followed (cond (is_followed w) w Silent) ≡ true
  wanted_then Listed = refl
  wanted_then Idle = refl
  wanted_then Silent = refl
  wanted_then Never = refl

  at_code : (i : ℕ) (c : IdCode) → slice_get codes i ≡ Some c → list_any (λ (k : Clock). k.code == i) all ≡ true → followed_at new i ≡ true
  at_code i c there any =
      let r = has i c there in
      ap (λ o. unwrap_or (option_map (λ (r : Role). is_followed r.wanted) o) false) (follows i
      ∙ ap (option_map (by (list_any (λ (k : Clock). k.code == i) all))) r.1 ∙ ap (λ b. Some (by b r.0)) any)
      ∙ wanted_then r.0.wanted

  clocks_from : (some : List Clock) (ks : List ModelClock) → ((i : ℕ) → list_any (λ (k : Clock). k.code == i) some ≡ true → list_any (λ (k : Clock). k.code == i) all ≡ true)
      → AreClocks codes some ks → AllByRecursion (λ (k : Clock). followed_at new k.code ≡ true) some
  clocks_from [] ks within are = tt
  clocks_from (k ∷ some) [] within are = absurd are
  clocks_from (k ∷ some) (m ∷ ks) within are = (
    at_code k.code m.code are.0.there (within k.code (ap (λ b. b || list_any (λ (c : Clock). c.code == k.code) some) (eq-eqb k.code k.code refl))),
    clocks_from some ks (λ i e. within i (ap (λ b. (k.code == i) || b) e ∙ or_true (k.code == i))) are.1,
  )

  pub clocks_follow : (ks : List ModelClock) → AreClocks codes all ks → AllByRecursion (λ (k : Clock). followed_at new k.code ≡ true) all
  clocks_follow ks are = clocks_from all ks (λ i e. e) are
