-- The edges of a strobe, the values just before them, and the changes that it writes at them.
use Rattle.vcd_laws.proofs.Cited.{Bool, List, None, Option, Some, [], ap, arith, cond, false, filter_map, is_none, nat_lt, option_map, refl, subst, sym, true, ℕ, ◌&&◌, ◌++◌, ◌<◌, ◌∙◌, ◌∷◌, ◌≡◌, ◌≤◌, and_from, and_parts, lt-ltb, ltb-true, append_assoc, filter_map-append, AllByRecursion, cons_option, last_or, IsGoodValue, AreFit, IsFit, IsGoodChange, next_open, next_time, behind, gives_at, last_value_is, latest, IsWord, each_after, declared_code, IdCode, same_code, final_value, gives_to, value_before, value_in, BodyItem, Change, Entry, change_of, entries, entry_after, open_section, time_after, Value, value_of}
use Rattle.vcd_model.specs.Backward.{each_some}
use Rattle.vcd_model.specs.Laws.{IsPrefixOf}
use Rattle.vcd_model.specs.Strobe.{Clock, edges_in, initial_value, is_edge, is_vars, sampled, value_from_start}
use Rattle.vcd_model.proofs.Growing.{each_after-append, entries-append}
use Rattle.vcd_model.proofs.Latest.{newer, latest-append}
use Rattle.vcd_model.proofs.StartSections.{given_good}
use Rattle.vcd_model.proofs.Times.{time_after-append}
use Rattle.vcd_model.proofs.StrobeGrows.{edges_after}
use Rattle.vcd_laws.proofs.MergedHead.{all_in}
use Rattle.vcd_laws.proofs.StrobeBase.{AllSteps}

-- ---- edges

-- an edge, which is the items before it, begins all items, and the edge before it begins it
pub record IsEdgeOf (items : List BodyItem) (before : List (List BodyItem))
    (edge : List BodyItem) : Type 0 where
  pub within : IsPrefixOf edge items
  pub later : (e : List BodyItem) → last_or None before ≡ Some e → IsPrefixOf e edge

pub last_snoc : {X : Type 0} (o : Option X) (xs : List X) (x : X)
    → last_or o (xs ++ x ∷ []) ≡ Some x
last_snoc o [] x = refl
last_snoc o (y ∷ xs) x = last_snoc (Some y) xs x

edges_more : (ks : List Clock) (p q : List BodyItem) (before : List (List BodyItem))
    → ((e : List BodyItem) → last_or None before ≡ Some e → IsPrefixOf e p)
    → AllSteps (IsEdgeOf (p ++ q)) before (edges_after ks p q)
edges_more ks p [] before h = tt
edges_more ks p (x ∷ q) before h =
    by_edge (is_edge ks p x) (edges_more ks (p ++ x ∷ []) q (before ++ p ∷ []) longer)
    (edges_more ks (p ++ x ∷ []) q before also)
  where
    whole : p ++ x ∷ [] ++ q ≡ p ++ x ∷ q
    whole = append_assoc p (x ∷ []) q

    longer : (e : List BodyItem) → last_or None (before ++ p ∷ []) ≡ Some e
        → IsPrefixOf e (p ++ x ∷ [])
    longer e l = let same : p ≡ e = let m = last_snoc None before p in cc in
        subst (λ (i : List BodyItem). IsPrefixOf i (p ++ x ∷ [])) same (x ∷ [], refl)

    also : (e : List BodyItem) → last_or None before ≡ Some e → IsPrefixOf e (p ++ x ∷ [])
    also e l = let r = h e l in
        (r.0 ++ x ∷ [], ap (λ i. i ++ x ∷ []) r.1 ∙ append_assoc e r.0 (x ∷ []))

    by_edge : (b : Bool) → AllSteps (IsEdgeOf (p ++ x ∷ [] ++ q)) (before ++ p ∷ [])
        (edges_after ks (p ++ x ∷ []) q)
        → AllSteps (IsEdgeOf (p ++ x ∷ [] ++ q)) before (edges_after ks (p ++ x ∷ []) q)
        → AllSteps (IsEdgeOf (p ++ x ∷ q)) before
        (cons_option (cond b (Some p) None) (edges_after ks (p ++ x ∷ []) q))
    by_edge true with_it without = (
      record { within = (x ∷ q, refl); later = h },
      subst (λ (i : List BodyItem). AllSteps (IsEdgeOf i) (before ++ p ∷ [])
          (edges_after ks (p ++ x ∷ []) q)) whole with_it,
    )
    by_edge false with_it without =
        subst (λ (i : List BodyItem). AllSteps (IsEdgeOf i) before
        (edges_after ks (p ++ x ∷ []) q)) whole without

pub edges_are : (ks : List Clock) (items : List BodyItem)
    → AllSteps (IsEdgeOf items) [] (edges_in ks items)
unfolding edges_in
edges_are ks items = edges_more ks [] items [] (λ e l. cc)

-- ---- the values just before them

module _ (P : Value → Type 0) (c : IdCode) where
  -- this is said of the value that an item gives the code
  abbrev pub GivesSuch : BodyItem → Type 0
  GivesSuch (BodyItem.Changes d) = same_code c d.code ≡ true → P (value_of d)
  GivesSuch item = Unit {0}

  latest_such : (at : ℕ → Bool) (earlier xs : List BodyItem) (v : Value)
      → AllByRecursion GivesSuch xs
      → latest (gives_at c at) (each_after entry_after earlier xs) ≡ Some v → P v
  latest_such at earlier [] v all e = cc
  latest_such at earlier (x ∷ xs) v all e =
      by_later (latest (gives_at c at) (each_after entry_after (earlier ++ x ∷ []) xs)) x all.0
      (gives_to c x && at (time_after earlier)) refl e
      (latest_such at (earlier ++ x ∷ []) xs v all.1)
    where
      by_later : (o : Option Value) (y : BodyItem) → GivesSuch y → (b : Bool)
          → (gives_to c y && at (time_after earlier)) ≡ b
          → newer b (option_map value_of (change_of y)) o ≡ Some v → (o ≡ Some v → P v) → P v
      by_later (Some w) y g b f h more = more h
      by_later None (BodyItem.Changes d) g true f h more =
          let same : value_of d ≡ v = cc in
          subst P same (g (and_parts (same_code c d.code) (at (time_after earlier)) f).0)
      by_later None (BodyItem.Time t) g true f h more = cc
      by_later None (BodyItem.Begin s) g true f h more = cc
      by_later None BodyItem.End g true f h more = cc
      by_later None y g false f h more = cc

  starts_such : (earlier xs : List BodyItem) (v : Value) → AllByRecursion GivesSuch xs
      → elim (filter_map (λ x. x) (each_after (value_from_start c) earlier xs)) [
        | [] ↦ None
        | w ∷ ws ↦ Some w
      ] ≡ Some v → P v
  starts_such earlier [] v all e = cc
  starts_such earlier (BodyItem.Time u ∷ xs) v all e =
      starts_such (earlier ++ BodyItem.Time u ∷ []) xs v all.1 e
  starts_such earlier (BodyItem.Begin s ∷ xs) v all e =
      starts_such (earlier ++ BodyItem.Begin s ∷ []) xs v all.1 e
  starts_such earlier (BodyItem.End ∷ xs) v all e =
      starts_such (earlier ++ BodyItem.End ∷ []) xs v all.1 e
  starts_such earlier (BodyItem.Changes d ∷ xs) v all e =
      by_test (same_code c d.code && is_none (final_value earlier c)
      && is_vars (open_section earlier)) refl e
      (starts_such (earlier ++ BodyItem.Changes d ∷ []) xs v all.1)
    where
      rest : List Value
      rest = filter_map (λ x. x)
          (each_after (value_from_start c) (earlier ++ BodyItem.Changes d ∷ []) xs)

      by_test : (b : Bool) → (same_code c d.code && is_none (final_value earlier c)
          && is_vars (open_section earlier)) ≡ b
          → elim (cons_option (cond b (Some (value_of d)) None) rest) [
            | [] ↦ None
            | w ∷ ws ↦ Some w
          ] ≡ Some v
          → (elim rest [ [] ↦ None | w ∷ ws ↦ Some w ] ≡ Some v → P v) → P v
      by_test true f g more =
          let same : value_of d ≡ v = cc in
          let gives = (and_parts (same_code c d.code) (is_none (final_value earlier c))
          (and_parts (same_code c d.code && is_none (final_value earlier c))
          (is_vars (open_section earlier)) f).0).0 in
          subst P same (all.0 gives)
      by_test false f g more = more g

  -- .. and so of the value just before an edge
  pub sampled_such : (edge : List BodyItem) (v : Value) → AllByRecursion GivesSuch edge
      → sampled edge c ≡ Some v → P v
  unfolding sampled
  sampled_such edge v all e = by_value (value_before edge c (time_after edge)) refl e
    where
      by_value : (o : Option Value) → value_before edge c (time_after edge) ≡ o
          → elim o [ Some w ↦ Some w | None ↦ initial_value edge c ] ≡ Some v → P v
      by_value (Some w) f g =
          latest_such (λ u. nat_lt u (time_after edge)) [] edge v all
          (sym (last_value_is c (λ u. nat_lt u (time_after edge)) edge) ∙ f ∙ g)
      by_value None f g = starts_such [] edge v all g

  -- if it is said of all good changes
  pub fit_such : (codes : List IdCode) (t : ℕ) (o : Bool) (xs : List BodyItem)
      (Q : BodyItem → Type 0)
      → ((d : Change) → IsGoodChange codes d → Q (BodyItem.Changes d) → same_code c d.code ≡ true
      → P (value_of d)) → AreFit codes t o xs → AllByRecursion Q xs → AllByRecursion GivesSuch xs
  fit_such codes t o [] Q f fit all = tt
  fit_such codes t o (x ∷ xs) Q f fit all =
      (one x fit.0 all.0, fit_such codes (next_time t x) (next_open o x) xs Q f fit.1 all.1)
    where
      one : (y : BodyItem) → IsFit codes t o y → Q y → GivesSuch y
      one (BodyItem.Time u) is q = tt
      one (BodyItem.Begin s) is q = tt
      one BodyItem.End is q = tt
      one (BodyItem.Changes d) is q = f d is q

module _ (codes : List IdCode) (c : IdCode) (declared : declared_code codes c.text ≡ Some c)
    (quiet : c.event ≡ false) (filled : 0 < c.size) where
  -- a value of the code that can be written
  abbrev pub CanBeWritten : Value → Type 0
  CanBeWritten v = IsWord c.text × IsGoodValue c v

  change_good : (d : Change) → IsGoodChange codes d → same_code c d.code ≡ true
      → CanBeWritten (value_of d)
  change_good d good same =
      given_good codes c (λ u. true) 0 false (BodyItem.Changes d ∷ []) (value_of d) declared quiet
      filled (good, tt) (rw same refl)

  -- the value just before an edge can be written
  pub sampled_good : (edge : List BodyItem) (v : Value) → AreFit codes 0 false edge
      → sampled edge c ≡ Some v → CanBeWritten v
  sampled_good edge v fit e =
      sampled_such CanBeWritten c edge v
      (fit_such CanBeWritten c codes 0 false edge (λ x. Unit {0}) (λ d good q. change_good d good)
      fit (all_in (λ x. Unit {0}) edge (λ x i. tt))) e

-- ---- and they stay

-- there is a value
abbrev pub HasValue : Option Value → Type 0
HasValue o = (v : Value) × (o ≡ Some v)

newer_some : (b : Bool) (v o : Option Value) → HasValue o → HasValue (newer b v o)
newer_some b v o h = (h.0, rw h.1 refl)

behind_some : (l o : Option Value) → HasValue o → HasValue (behind l o)
behind_some (Some x) o h = (x, refl)
behind_some None o h = h

-- a weaker test finds a value too
latest_weaker : (test other : Entry → Bool) (es : List Entry)
    → ((e : Entry) → test e ≡ true → other e ≡ true) → HasValue (latest test es)
    → HasValue (latest other es)
latest_weaker test other [] f h = cc
latest_weaker test other (e ∷ es) f h =
    by_later (latest test es) (test e) refl refl h (latest_weaker test other es f)
  where
    last : (o : Option Value) → HasValue (value_in e) → HasValue (newer true (value_in e) o)
    last (Some x) g = (x, refl)
    last None g = g

    by_later : (o : Option Value) (b : Bool) → latest test es ≡ o → test e ≡ b
        → HasValue (newer b (value_in e) o)
        → (HasValue (latest test es) → HasValue (latest other es))
        → HasValue (newer (other e) (value_in e) (latest other es))
    by_later (Some x) b l t g more =
        newer_some (other e) (value_in e) (latest other es) (more (x, l))
    by_later None true l t g more = rw (f e t) (last (latest other es) g)
    by_later None false l t g more = cc

each_some-append : {X Y : Type 0} (f : List X → X → Option Y) (xs ys : List X)
    → each_some f (xs ++ ys) ≡ each_some f xs
    ++ filter_map (λ o. o) (each_after f xs ys)
each_some-append f xs ys = ap (filter_map (λ o. o)) (each_after-append f [] xs ys)
    ∙ filter_map-append (λ (o : Option _). o) (each_after f [] xs) (each_after f xs ys)

start_stays : (vs ws : List Value) → HasValue (elim vs [ [] ↦ None | v ∷ us ↦ Some v ])
    → HasValue (elim (vs ++ ws) [ [] ↦ None | v ∷ us ↦ Some v ])
start_stays [] ws h = cc
start_stays (v ∷ vs) ws h = (v, refl)

-- what has a value just before an edge has one just before every later edge
pub sampled_stays : (c : IdCode) (e edge : List BodyItem) → IsPrefixOf e edge
    → HasValue (sampled e c) → HasValue (sampled edge c)
unfolding sampled
sampled_stays c e edge begins h =
    subst (λ (i : List BodyItem). HasValue (elim (value_before i c (time_after i)) [
      | Some v ↦ Some v
      | None ↦ initial_value i c
    ])) (sym begins.1)
    (by_value (value_before e c (time_after e)) refl h)
  where
    rest : List BodyItem
    rest = begins.0

    late : time_after e ≤ time_after (e ++ rest)
    late = time_after-append e rest

    given : HasValue (value_before e c (time_after e))
        → HasValue (value_before (e ++ rest) c (time_after (e ++ rest)))
    given g =
        let at : ℕ → Bool = λ u. nat_lt u (time_after (e ++ rest)) in
        let first : HasValue (latest (gives_at c at) (entries e)) =
        latest_weaker (gives_at c (λ u. nat_lt u (time_after e))) (gives_at c at) (entries e)
        (λ x t. let a = and_parts (gives_to c x.item) (nat_lt x.time (time_after e)) t in
        let l = ltb-true x.time (time_after e) a.1 in
        and_from (gives_to c x.item) (at x.time) a.0
        (lt-ltb x.time (time_after (e ++ rest)) (omega (arith, late, l))))
        (subst HasValue (last_value_is c (λ u. nat_lt u (time_after e)) e) g) in
        subst HasValue (sym (last_value_is c at (e ++ rest)
        ∙ ap (latest (gives_at c at)) (entries-append e rest)
        ∙ latest-append (gives_at c at) (entries e) (each_after entry_after e rest)))
        (behind_some (latest (gives_at c at) (each_after entry_after e rest))
        (latest (gives_at c at) (entries e)) first)

    either : (o p : Option Value) → HasValue p
        → HasValue (elim o [ Some v ↦ Some v | None ↦ p ])
    either (Some v) p g = (v, refl)
    either None p g = g

    first : (o p : Option Value) → HasValue o
        → HasValue (elim o [ Some v ↦ Some v | None ↦ p ])
    first (Some v) p g = (v, refl)
    first None p g = cc

    by_value : (o : Option Value) → value_before e c (time_after e) ≡ o
        → HasValue (elim o [ Some v ↦ Some v | None ↦ initial_value e c ])
        → HasValue (elim (value_before (e ++ rest) c (time_after (e ++ rest))) [
          | Some v ↦ Some v
          | None ↦ initial_value (e ++ rest) c
        ])
    by_value (Some v) f g =
        first (value_before (e ++ rest) c (time_after (e ++ rest))) (initial_value (e ++ rest) c)
        (given (v, f))
    by_value None f g =
        either (value_before (e ++ rest) c (time_after (e ++ rest))) (initial_value (e ++ rest) c)
        (subst (λ (l : List Value). HasValue (elim l [ [] ↦ None | v ∷ us ↦ Some v ]))
        (sym (each_some-append (value_from_start c) e rest))
        (start_stays (each_some (value_from_start c) e)
        (filter_map (λ o. o) (each_after (value_from_start c) e rest)) g))
