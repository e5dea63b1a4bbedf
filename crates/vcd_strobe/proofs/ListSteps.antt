-- The list of codes, and their roles, with one code more.
use Rattle.std.proofs.Common.{◌≡◌, ◌≢◌, ◌⊎◌, inl, inr, ℕ, zero, suc, ◌+◌, ◌<◌, ◌≤◌, ◌==◌, Bool, true, false, cond, nat_lt, List, [], ◌∷◌, ◌++◌, length, take, set, get_or, slice_get, unwrap_or, option_map, Option, Some, None, refl, sym, ap, subst, ◌∙◌, arith}
use Rattle.std.proofs.lemmas.Bool.{eq-eqb, ne_eqb, cases_eq, lt-ltb}
use Rattle.std.proofs.lemmas.List.{length-take-le, length_push, take_more}
use Rattle.std.proofs.lemmas.Option.{same_Some, slice_get_cases, slice_get_past, slice_get_within}
use Rattle.vcd_run.proofs.Once.{fits, times_push}
use Rattle.vcd_run.specs.Listed.{times}
use Rattle.vcd_strobe.specs.Listed.{AreListed, SettlesEach, followed_at, listed_at}
use Rattle.vcd_strobe.specs.Roles.{enlisted, is_at, is_followed, is_idle, is_listed, settle, settled}
use Rattle.vcd_strobe.specs.declared.role.Role.{Role}
use Rattle.vcd_strobe.specs.declared.role.Wanted.{Wanted}
use Rattle.vcd_strobe.specs.declared.role.Wanted.TheVariants.{Idle, Listed, Never, Silent}

-- ---- an element that is set

pub set_at : {X : Type 0} (xs : List X) (i : ℕ) (x : X) → i < length xs → slice_get (set xs i x) i ≡ Some x
set_at [] i x lt = absurd (omega (arith, lt))
set_at (y ∷ xs) zero x lt = refl
set_at (y ∷ xs) (suc i) x lt = set_at xs i x (omega (arith, lt))

pub set_past : {X : Type 0} (xs : List X) (i : ℕ) (x : X) → length xs ≤ i → set xs i x ≡ xs
set_past [] i x le = refl
set_past (y ∷ xs) zero x le = absurd (omega (arith, le))
set_past (y ∷ xs) (suc i) x le = ap (λ l. y ∷ l) (set_past xs i x (omega (arith, le)))

pub set_other : {X : Type 0} (xs : List X) (i j : ℕ) (x : X) → j ≢ i → slice_get (set xs i x) j ≡ slice_get xs j
set_other [] i j x apart = refl
set_other (y ∷ xs) zero zero x apart = absurd (apart refl)
set_other (y ∷ xs) zero (suc j) x apart = refl
set_other (y ∷ xs) (suc i) zero x apart = refl
set_other (y ∷ xs) (suc i) (suc j) x apart = set_other xs i j x (λ e. apart (ap suc e))

-- ---- a role that an edge settles

settled_twice : (r : Role) (t : ℕ) → settle (settle r t) t ≡ settle r t
settled_twice r t = ap (λ w. record { now = r.now; before = r.before; written = settled r t; since = r.since; early = false; wanted = w }) (twice (is_at r.since t) r.wanted)
  where
    twice : (b : Bool) (w : Wanted) → cond b (cond b w Idle) Idle ≡ cond b w Idle
    twice true w = refl
    twice false w = refl

settled_again : (b : Bool) (r : Role) (t : ℕ) → settle (cond b (settle r t) r) t ≡ settle r t
settled_again true r t = settled_twice r t
settled_again false r t = refl

module _ (codes : List ℕ) (k code t : ℕ) (old mid : List Role) (at : get_or codes k 0 ≡ code) (within : k < length codes) (done : SettlesEach (take k codes) t old mid) where
  more : (i : ℕ) → times i (take (k + 1) codes) ≡ times i (take k codes) + cond (code == i) 1 0
  more i = ap (times i) (take_more codes k 0 within ∙ ap (λ c. take k codes ++ c ∷ []) at) ∙ times_push i code (take k codes)

  -- another code
  other : (i : ℕ) → i ≢ code → (n : Option Role) → n ≡ slice_get mid i → n ≡ option_map (λ (r : Role). cond (nat_lt 0 (times i (take (k + 1) codes))) (settle r t) r) (slice_get old i)
  other i apart n e =
      let same : times i (take (k + 1) codes) ≡ times i (take k codes) = (let m = more i in
      let zero : cond {A = ℕ} (code == i) 1 0 ≡ 0 = ap (λ b. cond {A = ℕ} b 1 0) (ne_eqb code i (λ q. apart (sym q))) in
      omega (arith, m, zero)) in
      e ∙ done i ∙ ap (λ m. option_map (λ (r : Role). cond (nat_lt 0 m) (settle r t) r) (slice_get old i)) (sym same)

  -- the code itself
  itself : (r : Role) → slice_get mid code ≡ Some r → Some (settle r t) ≡ option_map (λ (r : Role). cond (nat_lt 0 (times code (take (k + 1) codes))) (settle r t) r) (slice_get old code)
  itself r there = by_old (slice_get old code) refl
    where
      is_more : nat_lt 0 (times code (take (k + 1) codes)) ≡ true
      is_more = let m = more code in let one : cond {A = ℕ} (code == code) 1 0 ≡ 1 = ap (λ b. cond {A = ℕ} b 1 0) (eq-eqb code code refl) in
          lt-ltb 0 (times code (take (k + 1) codes)) (omega (arith, m, one))

      by_old : (o : Option Role) → slice_get old code ≡ o → Some (settle r t) ≡ option_map (λ (r : Role). cond (nat_lt 0 (times code (take (k + 1) codes))) (settle r t) r) o
      by_old None e = let no = sym there ∙ done code ∙ ap (option_map (λ (r : Role). cond (nat_lt 0 (times code (take k codes))) (settle r t) r)) e in cc
      by_old (Some q) e =
          let was : r ≡ cond (nat_lt 0 (times code (take k codes))) (settle q t) q = same_Some r
          (cond (nat_lt 0 (times code (take k codes))) (settle q t) q) (sym there ∙ done code
          ∙ ap (option_map (λ (r : Role). cond (nat_lt 0 (times code (take k codes))) (settle r t) r)) e) in
          ap Some (ap (λ (x : Role). settle x t) was ∙ settled_again (nat_lt 0 (times code (take k codes))) q t ∙ sym (ap (λ b. cond b (settle q t) q) is_more))

  pub settles_next : (r : Role) → slice_get mid code ≡ Some r → SettlesEach (take (k + 1) codes) t old (set mid code (settle r t))
  settles_next r there i = by_same (cases_eq i code)
    where
      by_same : (i ≡ code) ⊎ (i ≢ code) → slice_get (set mid code (settle r t)) i ≡ option_map
          (λ (r : Role). cond (nat_lt 0 (times i (take (k + 1) codes))) (settle r t) r) (slice_get old i)
      by_same (inl e) = rw e (set_at mid code (settle r t) (slice_get_within mid code r there) ∙ itself r there)
      by_same (inr apart) = other i apart (slice_get (set mid code (settle r t)) i) (set_other mid code i (settle r t) apart)

  pub settles_past : length mid ≤ code → SettlesEach (take (k + 1) codes) t old mid
  settles_past le i = by_same (cases_eq i code)
    where
      by_same : (i ≡ code) ⊎ (i ≢ code) → slice_get mid i ≡ option_map (λ (r : Role). cond (nat_lt 0 (times i (take (k + 1) codes))) (settle r t) r) (slice_get old i)
      by_same (inl e) = rw e (by_old (slice_get old code) refl)
        where
          by_old : (o : Option Role) → slice_get old code ≡ o → slice_get mid code ≡ option_map (λ (r : Role). cond (nat_lt 0 (times code (take (k + 1) codes))) (settle r t) r) o
          by_old None f = slice_get_past mid code le
          by_old (Some q) f = let no = sym (slice_get_past mid code le) ∙ done code ∙ ap (option_map (λ (r : Role). cond (nat_lt 0 (times code (take k codes))) (settle r t) r)) f in cc
      by_same (inr apart) = other i apart (slice_get mid i) refl

-- one more of the codes was settled
pub settles_more : (codes : List ℕ) (k t : ℕ) (old mid new : List Role) → k < length codes → SettlesEach (take k codes) t old mid
    → ((r : Role) → slice_get mid (get_or codes k 0) ≡ Some r → new ≡ set mid (get_or codes k 0) (settle r t))
    → (length mid ≤ get_or codes k 0 → new ≡ mid)
    → SettlesEach (take (k + 1) codes) t old new
settles_more codes k t old mid new within done there past = by_case (slice_get_cases mid (get_or codes k 0)).1
  where
    by_case : ((r : Role) × (get_or codes k 0 < length mid) × (slice_get mid (get_or codes k 0) ≡ Some r) × (get_or mid (get_or codes k 0) r ≡ r))
        ⊎ ((length mid ≤ get_or codes k 0) × (slice_get mid (get_or codes k 0) ≡ None)) → SettlesEach (take (k + 1) codes) t old new
    by_case (inl at) = subst (SettlesEach (take (k + 1) codes) t old) (sym (there at.0 at.2)) (settles_next codes k (get_or codes k 0) t old mid refl within done at.0 at.2)
    by_case (inr none) = subst (SettlesEach (take (k + 1) codes) t old) (sym (past none.0)) (settles_past codes k (get_or codes k 0) t old mid refl within done none.0)

-- ---- a code that is listed

module _ (roles : List Role) (codes : List ℕ) (count : ℕ) (listed : AreListed roles codes count) (room : length roles ≤ length codes) where
  pub past_none : (i : ℕ) → length roles ≤ i → listed_at roles i ≡ false
  past_none i le = ap (λ o. unwrap_or (option_map (λ (r : Role). is_listed r.wanted) o) false) (slice_get_past roles i le)

  -- there is room for one that is not
  pub has_room : (code : ℕ) → code < length roles → listed_at roles code ≡ false → count < length codes
  has_room code low idle =
      let all = fits (length roles) (take count codes ++ code ∷ []) once none in
      let long = length_push (take count codes) code in
      let taken = length-take-le count codes listed.within in
      omega (arith, all, long, taken, room)
    where
      twice : (i : ℕ) → (code ≡ i) ⊎ (code ≢ i) → times i (take count codes) + cond (code == i) 1 0 ≤ 1
      twice i (inl e) =
          let mine : times i (take count codes) ≡ 0 = listed.once i ∙ ap (λ b. cond b 1 0) (ap (listed_at roles) (sym e) ∙ idle) in
          let one : cond {A = ℕ} (code == i) 1 0 ≡ 1 = ap (λ b. cond {A = ℕ} b 1 0) (eq-eqb code i e) in
          omega (arith, mine, one)
      twice i (inr apart) =
          let zero : cond {A = ℕ} (code == i) 1 0 ≡ 0 = ap (λ b. cond {A = ℕ} b 1 0) (ne_eqb code i apart) in
          let mine = listed.once i in
          let most = at_most (listed_at roles i) in
          omega (arith, zero, mine, most)
        where
          at_most : (b : Bool) → cond {A = ℕ} b 1 0 ≤ 1
          at_most true = omega arith
          at_most false = omega arith

      once : (i : ℕ) → times i (take count codes ++ code ∷ []) ≤ 1
      once i = let push = times_push i code (take count codes) in let t = twice i (cases_eq code i) in omega (arith, push, t)

      none : (i : ℕ) → length roles ≤ i → times i (take count codes ++ code ∷ []) ≡ 0
      none i le =
          let push = times_push i code (take count codes) in
          let mine : times i (take count codes) ≡ 0 = listed.once i ∙ ap (λ b. cond b 1 0) (past_none i le) in
          let zero : cond {A = ℕ} (code == i) 1 0 ≡ 0 = ap (λ b. cond {A = ℕ} b 1 0) (ne_eqb code i (λ e. omega (arith, e, low, le))) in
          omega (arith, push, mine, zero)

  module _ (code : ℕ) (r q : Role) (there : slice_get roles code ≡ Some r) (same : q.wanted ≡ r.wanted) where
    low_code : code < length roles
    low_code = slice_get_within roles code r there

    was : listed_at roles code ≡ is_listed r.wanted
    was = ap (λ o. unwrap_or (option_map (λ (r : Role). is_listed r.wanted) o) false) there

    now_listed : listed_at (set roles code (enlisted q)) code ≡ is_listed (cond (is_idle q.wanted) Listed q.wanted)
    now_listed = ap (λ o. unwrap_or (option_map (λ (r : Role). is_listed r.wanted) o) false) (set_at roles code (enlisted q) low_code)

    others : (i : ℕ) → i ≢ code → listed_at (set roles code (enlisted q)) i ≡ listed_at roles i
    others i apart = ap (λ o. unwrap_or (option_map (λ (r : Role). is_listed r.wanted) o) false) (set_other roles code i (enlisted q) apart)

    pub enlists : (codes' : List ℕ) (count' : ℕ) → length codes' ≡ length codes → (count ≤ length codes → count' ≤ length codes')
        → (count < length codes → take count' codes' ≡ take count codes ++ cond (is_idle q.wanted) (code ∷ []) [])
        → (is_idle q.wanted ≡ false → take count' codes' ≡ take count codes)
        → AreListed (set roles code (enlisted q)) codes' count'
    enlists codes' count' len within one none = record { within = within listed.within; once = by_wanted r.wanted refl }
      where
        by_wanted : (w : Wanted) → r.wanted ≡ w → (i : ℕ) → times i (take count' codes') ≡ cond (listed_at (set roles code (enlisted q)) i) 1 0
        by_wanted Idle e i =
            let is : q.wanted ≡ Idle = same ∙ e in
            let not_yet : listed_at roles code ≡ false = was ∙ ap is_listed e in
            let all : take count' codes' ≡ take count codes ++ code ∷ [] = one (has_room code low_code not_yet) ∙ ap (λ w. take count codes ++ cond (is_idle w) (code ∷ []) []) is in
            ap (times i) all ∙ times_push i code (take count codes) ∙ by_same is not_yet (cases_eq i code)
          where
            by_same : q.wanted ≡ Idle → listed_at roles code ≡ false → (i ≡ code) ⊎ (i ≢ code)
                → times i (take count codes) + cond (code == i) 1 0 ≡ cond (listed_at (set roles code (enlisted q)) i) 1 0
            by_same is not_yet (inl f) =
                let mine : times i (take count codes) ≡ 0 = listed.once i ∙ ap (λ b. cond b 1 0) (ap (listed_at roles) f ∙ not_yet) in
                let it : cond {A = ℕ} (code == i) 1 0 ≡ 1 = ap (λ b. cond {A = ℕ} b 1 0) (eq-eqb code i (sym f)) in
                let yes : cond {A = ℕ} (listed_at (set roles code (enlisted q)) i) 1 0 ≡ 1 = ap (λ b. cond {A = ℕ} b 1 0)
                (ap (listed_at (set roles code (enlisted q))) f ∙ now_listed ∙ ap (λ w. is_listed (cond (is_idle w) Listed w)) is) in
                omega (arith, mine, it, yes)
            by_same is not_yet (inr apart) =
                let zero : cond {A = ℕ} (code == i) 1 0 ≡ 0 = ap (λ b. cond {A = ℕ} b 1 0) (ne_eqb code i (λ f. apart (sym f))) in
                let mine = listed.once i in
                let stays : cond {A = ℕ} (listed_at (set roles code (enlisted q)) i) 1 0 ≡ cond (listed_at roles i) 1 0 = ap (λ b. cond {A = ℕ} b 1 0) (others i apart) in
                omega (arith, zero, mine, stays)
        by_wanted Listed e i = unchanged (same ∙ e) refl (sym (ap is_listed e) ∙ sym was) i
          where
            unchanged : q.wanted ≡ Listed → is_idle Listed ≡ false → true ≡ listed_at roles code → (i : ℕ)
                → times i (take count' codes') ≡ cond (listed_at (set roles code (enlisted q)) i) 1 0
            unchanged is idle true_is i = ap (times i) (none (ap is_idle is)) ∙ listed.once i ∙ ap (λ b. cond b 1 0) (sym (by_same (cases_eq i code)))
              where
                by_same : (i ≡ code) ⊎ (i ≢ code) → listed_at (set roles code (enlisted q)) i ≡ listed_at roles i
                by_same (inl f) = ap (listed_at (set roles code (enlisted q))) f ∙ now_listed ∙ ap (λ w. is_listed (cond (is_idle w) Listed w)) is ∙ true_is ∙ ap (listed_at roles) (sym f)
                by_same (inr apart) = others i apart
        by_wanted Silent e i = ap (times i) (none (ap is_idle (same ∙ e))) ∙ listed.once i ∙ ap (λ b. cond b 1 0) (sym (by_same (cases_eq i code)))
          where
            by_same : (i ≡ code) ⊎ (i ≢ code) → listed_at (set roles code (enlisted q)) i ≡ listed_at roles i
            by_same (inl f) = ap (listed_at (set roles code (enlisted q))) f ∙ now_listed
                ∙ ap (λ w. is_listed (cond (is_idle w) Listed w)) (same ∙ e) ∙ sym (was ∙ ap is_listed e) ∙ ap (listed_at roles) (sym f)
            by_same (inr apart) = others i apart
        by_wanted Never e i = ap (times i) (none (ap is_idle (same ∙ e))) ∙ listed.once i ∙ ap (λ b. cond b 1 0) (sym (by_same (cases_eq i code)))
          where
            by_same : (i ≡ code) ⊎ (i ≢ code) → listed_at (set roles code (enlisted q)) i ≡ listed_at roles i
            by_same (inl f) = ap (listed_at (set roles code (enlisted q))) f ∙ now_listed
                ∙ ap (λ w. is_listed (cond (is_idle w) Listed w)) (same ∙ e) ∙ sym (was ∙ ap is_listed e) ∙ ap (listed_at roles) (sym f)
            by_same (inr apart) = others i apart

-- the code that is set is followed as it was
pub set_followed : (roles : List Role) (code : ℕ) (r q : Role) → slice_get roles code ≡ Some r → q.wanted ≡ r.wanted → (i : ℕ)
    → followed_at roles i ≡ true → followed_at (set roles code (enlisted q)) i ≡ true
set_followed roles code r q there same i was = by_same (cases_eq i code)
  where
    enlisted_follows : (w : Wanted) → is_followed (cond (is_idle w) Listed w) ≡ is_followed w
    enlisted_follows Listed = refl
    enlisted_follows Idle = refl
    enlisted_follows Silent = refl
    enlisted_follows Never = refl

    of : Option Role → Bool
    of o = unwrap_or (option_map (λ (r : Role). is_followed r.wanted) o) false

    by_same : (i ≡ code) ⊎ (i ≢ code) → followed_at (set roles code (enlisted q)) i ≡ true
    by_same (inl e) =
        ap (λ n. of (slice_get (set roles code (enlisted q)) n)) e ∙ ap of (set_at roles code (enlisted q) (slice_get_within roles code r there))
        ∙ enlisted_follows q.wanted ∙ ap is_followed same ∙ sym (ap of there) ∙ sym (ap (followed_at roles) e) ∙ was
    by_same (inr apart) = ap of (set_other roles code i (enlisted q) apart) ∙ was
