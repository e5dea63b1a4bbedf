-- An edge: its lines in order, and what is kept of the codes after it.
use Rattle.std.proofs.Common.{◌≡◌, ℕ, zero, suc, ◌<◌, ◌≤◌, Bool, true, false, cond, nat_lt, List, [], ◌∷◌, ◌++◌, length, take, filter, flat_map, slice_get, unwrap_or, option_map, Option, Some, None, refl, sym, ap, ap₂, ◌∙◌, arith}
use Rattle.std.proofs.lemmas.List.Concat.{flat_map-append}
use Rattle.std.proofs.lemmas.List.Elements.{filter-append}
use Rattle.std.specs.List.{AllByRecursion}
use Rattle.std.specs.List.Sorted.{IsNonDecreasing, IsPermutation}
use Rattle.vcd_model.specs.Declarations.{IdCode}
use Rattle.vcd_model.specs.Items.{BodyItem, time_after}
use Rattle.vcd_model.specs.Strobe.{code_line, last_time}
use Rattle.vcd_model.specs.Values.{Value}
use Rattle.vcd_run.proofs.Once.{sorted_once}
use Rattle.vcd_run.specs.Listed.{chosen, times}
use Rattle.vcd_strobe.proofs.ListSteps.{past_none}
use Rattle.vcd_strobe.proofs.RoleSteps.{line_is, no_line, role_past, role_settled}
use Rattle.vcd_strobe.specs.Codes.{AreRoles}
use Rattle.vcd_strobe.specs.Kept.{IsRole, role_line}
use Rattle.vcd_strobe.specs.Listed.{AreListed, SettlesEach, followed_at, listed_at}
use Rattle.vcd_strobe.specs.Roles.{has_lines, is_at, is_followed, is_idle, is_listed, settle}
use Rattle.vcd_strobe.specs.declared.clocks.Clock.{Clock}
use Rattle.vcd_strobe.specs.declared.role.Role.{Role}
use Rattle.vcd_strobe.specs.declared.role.Wanted.{Wanted}
use Rattle.vcd_strobe.specs.declared.role.Wanted.TheVariants.{Idle, Listed, Never, Silent}

pub take_next : {X : Type 0} (xs : List X) (i : ℕ) (x : X) → slice_get xs i ≡ Some x → take (suc i) xs ≡ take i xs ++ x ∷ []
take_next [] i x at = cc
take_next (y ∷ xs) zero x at = let same : y ≡ x = cc in ap (λ z. z ∷ []) same
take_next (y ∷ xs) (suc i) x at = ap (λ l. y ∷ l) (take_next xs i x at)

there_below : {X : Type 0} (xs : List X) (i : ℕ) → i < length xs → (x : X) × (slice_get xs i ≡ Some x)
there_below [] i lt = absurd (omega (arith, lt))
there_below (x ∷ xs) zero lt = (x, refl)
there_below (x ∷ xs) (suc i) lt = there_below xs i (omega (arith, lt))

module _ (at : IdCode → ℕ → ℕ → Option Value) (lines : IdCode → Bool) (codes : List IdCode) (es : List (List BodyItem)) (items : List BodyItem)
    (roles : List Role) (are : AreRoles at lines codes es items roles) (low : last_time es ≤ time_after items) where
  its_listed : (i : ℕ) (r : Role) → slice_get roles i ≡ Some r → listed_at roles i ≡ is_listed r.wanted
  its_listed i r there = ap (λ o. unwrap_or (option_map (λ (r : Role). is_listed r.wanted) o) false) there

  -- ---- the lines
  module _ (line : ℕ → List ℕ) (its_line : (i : ℕ) (c : IdCode) (r : Role) → slice_get codes i ≡ Some c → slice_get roles i ≡ Some r
      → line i ≡ role_line (at c i) c r (time_after items)) where
    one : (i : ℕ) (c : IdCode) → slice_get codes i ≡ Some c → flat_map line (cond (listed_at roles i) (i ∷ []) []) ≡ flat_map (code_line es items) (filter lines (c ∷ []))
    one i c there = by_wanted r.0.wanted refl
      where
        r : (r : Role) × (slice_get roles i ≡ Some r) × IsRole (at c i) es items c (lines c) r
        r = are i c there

        by_wanted : (w : Wanted) → r.0.wanted ≡ w → flat_map line (cond (listed_at roles i) (i ∷ []) []) ≡ flat_map (code_line es items) (filter lines (c ∷ []))
        by_wanted Listed e =
            let yes_lines : lines c ≡ true = sym r.2.lines_are ∙ ap has_lines e in
            let text : line i ≡ code_line es items c = its_line i c r.0 there r.1 ∙ line_is (at c i) es items c (lines c) r.0 r.2 (ap has_lines e) in
            rw (its_listed i r.0 r.1 ∙ ap is_listed e, yes_lines) (ap (λ l. l ++ []) text)
        by_wanted Idle e =
            let yes_lines : lines c ≡ true = sym r.2.lines_are ∙ ap has_lines e in
            let text : code_line es items c ≡ [] = no_line (at c i) es items c (lines c) r.0 r.2 low (ap is_idle e) in
            rw (its_listed i r.0 r.1 ∙ ap is_listed e, yes_lines) (sym (ap (λ l. l ++ []) text))
        by_wanted Silent e =
            let no_lines : lines c ≡ false = sym r.2.lines_are ∙ ap has_lines e in
            rw (its_listed i r.0 r.1 ∙ ap is_listed e, no_lines) refl
        by_wanted Never e =
            let no_lines : lines c ≡ false = sym r.2.lines_are ∙ ap has_lines e in
            rw (its_listed i r.0 r.1 ∙ ap is_listed e, no_lines) refl

    front : (n : ℕ) → n ≤ length codes → flat_map line (chosen (listed_at roles) n) ≡ flat_map (code_line es items) (filter lines (take n codes))
    front zero le = refl
    front (suc n) le =
        let c = there_below codes n (omega (arith, le)) in
        flat_map-append line (chosen (listed_at roles) n) (cond (listed_at roles n) (n ∷ []) [])
        ∙ ap₂ (λ a b. a ++ b) (front n (omega (arith, le))) (one n c.0 c.1)
        ∙ sym (ap (λ l. flat_map (code_line es items) (filter lines l)) (take_next codes n c.0 c.1)
        ∙ ap (flat_map (code_line es items)) (filter-append lines (take n codes) (c.0 ∷ []))
        ∙ flat_map-append (code_line es items) (filter lines (take n codes)) (filter lines (c.0 ∷ [])))

    take_whole : {X : Type 0} (xs : List X) → take (length xs) xs ≡ xs
    take_whole [] = refl
    take_whole (x ∷ xs) = ap (λ l. x ∷ l) (take_whole xs)

    -- the lines of the listed codes in order are those of all codes
    pub lines_are : flat_map line (chosen (listed_at roles) (length codes)) ≡ flat_map (code_line es items) (filter lines codes)
    lines_are = front (length codes) (omega arith) ∙ ap (λ l. flat_map (code_line es items) (filter lines l)) (take_whole codes)

  -- ---- the roles after it
  pub settles_roles : (listed : List ℕ) (roles' : List Role) → ((i : ℕ) → times i listed ≡ cond (listed_at roles i) 1 0)
      → SettlesEach listed (time_after items) roles roles' → AreRoles at lines codes (es ++ items ∷ []) items roles'
  settles_roles listed roles' once settles i c there = by_listed (is_listed r.0.wanted) refl
    where
      r : (r : Role) × (slice_get roles i ≡ Some r) × IsRole (at c i) es items c (lines c) r
      r = are i c there

      now : slice_get roles' i ≡ Some (cond (nat_lt 0 (cond (is_listed r.0.wanted) 1 0)) (settle r.0 (time_after items)) r.0)
      now = settles i ∙ ap (option_map (λ (q : Role). cond (nat_lt 0 (times i listed)) (settle q (time_after items)) q)) r.1
          ∙ ap (λ n. Some (cond (nat_lt 0 n) (settle r.0 (time_after items)) r.0)) (once i ∙ ap (λ b. cond b 1 0) (its_listed i r.0 r.1))

      by_listed : (b : Bool) → is_listed r.0.wanted ≡ b → (q : Role) × (slice_get roles' i ≡ Some q) × IsRole (at c i) (es ++ items ∷ []) items c (lines c) q
      by_listed true e = (
        settle r.0 (time_after items),
        now ∙ ap (λ b. Some (cond (nat_lt 0 (cond b 1 0)) (settle r.0 (time_after items)) r.0)) e,
        role_settled (at c i) es items c (lines c) r.0 r.2 e,
      )
      by_listed false e = (r.0, now ∙ ap (λ b. Some (cond (nat_lt 0 (cond b 1 0)) (settle r.0 (time_after items)) r.0)) e, role_past (at c i) es items c (lines c) r.0 r.2 low e)

-- ---- the list

-- what was sorted is the listed codes in order
pub sorted_listed : (roles : List Role) (codes sorted : List ℕ) (count : ℕ) → AreListed roles codes count → length roles ≤ length codes
    → IsPermutation (take count codes) sorted → IsNonDecreasing sorted
    → ((i : ℕ) → times i sorted ≡ cond (listed_at roles i) 1 0) × (sorted ≡ chosen (listed_at roles) (length roles))
sorted_listed roles codes sorted count listed room =
    sorted_once (listed_at roles) (length roles) (take count codes) sorted listed.once (past_none roles codes count listed room)

-- those that stay are listed by their roles
pub kept_listed : (roles roles' : List Role) (sorted kept : List ℕ) (count n : ℕ) (t : ℕ) → ((i : ℕ) → times i sorted ≡ cond (listed_at roles i) 1 0)
    → SettlesEach sorted t roles roles' → n ≤ length kept → ((i : ℕ) → times i (take n kept) ≡ cond (listed_at roles' i) (times i sorted) 0)
    → AreListed roles' kept n
kept_listed roles roles' sorted kept count n t once settles within has = record {
  within = within;
  once = λ i. has i
      ∙ ap (λ m. cond (listed_at roles' i) m 0) (once i) ∙ by_listed i (listed_at roles i) refl (listed_at roles' i) refl;
}
  where
    not_new : (o : Option Role) (m : ℕ) → m ≡ 0 → unwrap_or (option_map (λ (r : Role). is_listed r.wanted) o) false ≡ false
        → unwrap_or (option_map (λ (r : Role). is_listed r.wanted) (option_map (λ (r : Role). cond (nat_lt 0 m) (settle r t) r) o)) false ≡ false
    not_new None m e f = refl
    not_new (Some r) m e f = ap (λ k. is_listed (cond (nat_lt 0 k) (settle r t) r).wanted) e ∙ f

    by_listed : (i : ℕ) (b : Bool) → listed_at roles i ≡ b → (d : Bool) → listed_at roles' i ≡ d → cond {A = ℕ} d (cond b 1 0) 0 ≡ cond d 1 0
    by_listed i true e d f = refl
    by_listed i false e false f = refl
    by_listed i false e true f =
        let none : times i sorted ≡ 0 = once i ∙ ap (λ b. cond b 1 0) e in
        let no = sym f ∙ ap (λ o. unwrap_or (option_map (λ (r : Role). is_listed r.wanted) o) false) (settles i) ∙ not_new (slice_get roles i) (times i sorted) none e in
        cc

-- ---- the clocks' codes

-- an edge has no code's values dropped
pub still_followed : (sorted : List ℕ) (t : ℕ) (roles roles' : List Role) → SettlesEach sorted t roles roles' → (i : ℕ)
    → followed_at roles i ≡ true → followed_at roles' i ≡ true
still_followed sorted t roles roles' settles i was =
    ap (λ o. unwrap_or (option_map (λ (r : Role). is_followed r.wanted) o) false) (settles i) ∙ by_role (slice_get roles i) was (nat_lt 0 (times i sorted))
  where
    by_wanted : (b : Bool) (w : Wanted) → is_followed w ≡ true → is_followed (cond b w Idle) ≡ true
    by_wanted true w e = e
    by_wanted false w e = refl

    by_role : (o : Option Role) → unwrap_or (option_map (λ (r : Role). is_followed r.wanted) o) false ≡ true → (b : Bool)
        → unwrap_or (option_map (λ (r : Role). is_followed r.wanted) (option_map (λ (r : Role). cond b (settle r t) r) o)) false ≡ true
    by_role None e b = e
    by_role (Some r) e true = by_wanted (is_at r.since t) r.wanted e
    by_role (Some r) e false = e

-- the clocks' codes are followed if all codes that were still are
pub still_clocked : (roles roles' : List Role) → ((i : ℕ) → followed_at roles i ≡ true → followed_at roles' i ≡ true) → (clocks : List Clock)
    → AllByRecursion (λ (k : Clock). followed_at roles k.code ≡ true) clocks → AllByRecursion (λ (k : Clock). followed_at roles' k.code ≡ true) clocks
still_clocked roles roles' still [] all = tt
still_clocked roles roles' still (k ∷ clocks) all = (still k.code all.0, still_clocked roles roles' still clocks all.1)
