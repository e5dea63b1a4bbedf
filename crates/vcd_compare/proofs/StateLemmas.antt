-- The state of a variable at a time that its dump has come past does not change.
use Rattle.vcd_compare.proofs.Cited.{◌≡◌, ℕ, ◌*◌, ◌≤◌, ◌<◌, ◌==◌, Bool, false, not, ◌&&◌, nat_le, List, [], ◌∷◌, ◌++◌, refl, ap, arith, option_and_then, list_any, ne_eqb, lt-leb, and_right, list_any-append, or-false, each_after, IdCode, BodyItem, Entry, entries, entry_after, time_after, gives_to, last_value, entries-append, last_where-append, none_later, time_after-append, state_at, is_triggered}
use Rattle.vcd_model.specs.History.{value_in}

-- no entry after these passes a test that none from their time on passes
none_passes : (test : Entry → Bool) (from : ℕ) (b q : List BodyItem) → ((e : Entry) → from ≤ e.time → test e ≡ false) → from ≤ time_after b
    → list_any test (each_after entry_after b q) ≡ false
none_passes test from b [] fails l = refl
none_passes test from b (x ∷ q) fails l =
    let more = time_after-append b (x ∷ []) in
    rw (fails (entry_after b x) l, none_passes test from (b ++ x ∷ []) q fails (omega (arith, l, more))) refl

-- a time that is not before this one is not before any later one
scaled_on : (k t a b : ℕ) → t < k * a → a ≤ b → t < k * b
scaled_on k t a b l h = let m = times_on k a b h in omega (arith, l, m)
  where
    times_on : (k a b : ℕ) → a ≤ b → k * a ≤ k * b
    times_on k a b h = grind (arith, h)

value_stays : (k t : ℕ) (p q : List BodyItem) (c : IdCode) → t < k * time_after p → last_value c (λ u. nat_le (k * u) t) (p ++ q) ≡ last_value c (λ u. nat_le (k * u) t) p
value_stays k t p q c l =
    rw entries-append (ap (option_and_then value_in)
    (last_where-append (λ e. gives_to c e.item && nat_le (k * e.time) t) (entries p) (each_after entry_after p q)
    (none_later (λ e. gives_to c e.item && nat_le (k * e.time) t) (time_after p) p q
    (λ e h. and_right (gives_to c e.item) (nat_le (k * e.time) t) (lt-leb (k * e.time) t (scaled_on k t (time_after p) e.time l h)))
    (omega arith))))

triggered_stays : (k t : ℕ) (p q : List BodyItem) (c : IdCode) → t < k * time_after p → is_triggered k (p ++ q) c t ≡ is_triggered k p c t
triggered_stays k t p q c l =
    let test = λ (e : Entry). gives_to c e.item && not e.inside && k * e.time == t in
    rw (
      entries-append p q,
      list_any-append test (entries p) (each_after entry_after p q),
      none_passes test (time_after p) p q
          (λ e h. let m = scaled_on k t (time_after p) e.time l h in
          and_right (gives_to c e.item && not e.inside) (k * e.time == t) (ne_eqb (k * e.time) t (λ i. omega (arith, m, i))))
          (omega arith),
    )
    (or-false (list_any test (entries p)))

-- nor does whether it has a change then
pub changes_stay : (k t : ℕ) (p q : List BodyItem) (c : IdCode) → t < k * time_after p
    → list_any (λ e. gives_to c e.item && k * e.time == t) (entries (p ++ q)) ≡ list_any (λ e. gives_to c e.item && k * e.time == t) (entries p)
changes_stay k t p q c l =
    let test = λ (e : Entry). gives_to c e.item && k * e.time == t in
    rw (
      entries-append p q,
      list_any-append test (entries p) (each_after entry_after p q),
      none_passes test (time_after p) p q
          (λ e h. let m = scaled_on k t (time_after p) e.time l h in
          and_right (gives_to c e.item) (k * e.time == t) (ne_eqb (k * e.time) t (λ i. omega (arith, m, i))))
          (omega arith),
    )
    (or-false (list_any test (entries p)))

pub state_stays : (k t : ℕ) (p q : List BodyItem) (c : IdCode) → t < k * time_after p → state_at k (p ++ q) c t ≡ state_at k p c t
state_stays k t p q c l = rw (value_stays k t p q c l, triggered_stays k t p q c l) refl
