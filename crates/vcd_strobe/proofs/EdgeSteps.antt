-- Edges, with one item more.
use Rattle.std.proofs.Common.{◌≡◌, ℕ, ◌+◌, ◌<◌, ◌≤◌, Bool, true, false, not, cond, ◌==◌, List, [], ◌∷◌, ◌++◌, length, map, filter_map, Option, Some, None, IfSome, refl, sym, ap, subst, ◌∙◌, arith, append-nil, length-append, ◌⊎◌, inl, inr}
use Rattle.std.proofs.Math.Bool.{or-true}
use Rattle.std.proofs.lemmas.Bool.{eq-eqb, ne_eqb, cases_lt}
use Rattle.std.proofs.lemmas.List.Folds.{list_any-append}
use Rattle.std.specs.List.{AllByRecursion, last_or, list_any}
use Rattle.std.proofs.lemmas.List.{map-append}
use Rattle.std.proofs.lemmas.List.Elements.{filter_map-append}
use Rattle.vcd_model.specs.Backward.{each}
use Rattle.vcd_model.specs.Header.{Header}
use Rattle.vcd_model.specs.Items.{BodyItem, time_after}
use Rattle.vcd_model.specs.Strobe.{Clock, edge_text, edges_in, is_edge, is_turn, strobe_open, turn_times}
use Rattle.vcd_model.proofs.Growing.{each_after-append}
use Rattle.vcd_model.proofs.StrobeGrows.{edges-append, strobe-append}
use Rattle.vcd_model.proofs.Times.{time_after-append}
use Rattle.vcd_strobe.specs.Moments.{EdgesStand}
use Rattle.vcd_strobe.specs.Roles.{is_at}

-- ---- the edges, and the turns

pub edges_more : (ks : List Clock) (p : List BodyItem) (x : BodyItem) (b : Bool) → is_edge ks p x ≡ b → edges_in ks (p ++ x ∷ []) ≡ edges_in ks p ++ cond b (p ∷ []) []
edges_more ks p x true e = edges-append ks p (x ∷ []) ∙ rw e refl
edges_more ks p x false e = edges-append ks p (x ∷ []) ∙ rw e refl

turn_time : List Clock → List BodyItem → BodyItem → Option ℕ
turn_time ks earlier item = cond (is_turn ks earlier item) (Some (time_after earlier)) None

turns_more : (ks : List Clock) (p : List BodyItem) (x : BodyItem) (b : Bool) → is_turn ks p x ≡ b → turn_times ks (p ++ x ∷ []) ≡ turn_times ks p ++ cond b (time_after p ∷ []) []
turns_more ks p x b e =
    ap (filter_map (λ o. o)) (each_after-append (λ earlier item. cond (is_turn ks earlier item) (Some (time_after earlier)) None) [] p (x ∷ []))
    ∙ filter_map-append (λ o. o) (each (λ earlier item. cond (is_turn ks earlier item) (Some (time_after earlier)) None) p) (cond (is_turn ks p x) (Some (time_after p)) None ∷ [])
    ∙ ap (λ l. turn_times ks p ++ l) (by_test b e)
  where
    by_test : (b : Bool) → is_turn ks p x ≡ b → filter_map (λ o. o) (cond (is_turn ks p x) (Some (time_after p)) None ∷ []) ≡ cond b (time_after p ∷ []) []
    by_test true e = rw e refl
    by_test false e = rw e refl

-- ---- what is written

pub open_edge : (ks : List Clock) (h : Header) (names : List (List ℕ)) (p : List BodyItem) (x : BodyItem) → is_edge ks p x ≡ true
    → strobe_open ks h names (p ++ x ∷ []) ≡ strobe_open ks h names p ++ edge_text h names (edges_in ks p) p
open_edge ks h names p x e = strobe-append ks h names p (x ∷ []) ∙ ap (λ l. strobe_open ks h names p ++ l) (rw e (append-nil (edge_text h names (edges_in ks p) p)))

pub open_still : (ks : List Clock) (h : Header) (names : List (List ℕ)) (p : List BodyItem) (x : BodyItem) → is_edge ks p x ≡ false
    → strobe_open ks h names (p ++ x ∷ []) ≡ strobe_open ks h names p
open_still ks h names p x e = strobe-append ks h names p (x ∷ []) ∙ rw e (append-nil (strobe_open ks h names p))

-- ---- the last edge

all_below : (n m : ℕ) (ts : List ℕ) → n ≤ m → AllByRecursion (λ t. t ≤ n) ts → AllByRecursion (λ t. t ≤ m) ts
all_below n m [] le h = tt
all_below n m (t ∷ ts) le h = (let low = h.0 in omega (arith, low, le), all_below n m ts le h.1)

all_push : (n t : ℕ) (ts : List ℕ) → t ≤ n → AllByRecursion (λ u. u ≤ n) ts → AllByRecursion (λ u. u ≤ n) (ts ++ t ∷ [])
all_push n t [] le h = (le, tt)
all_push n t (u ∷ ts) le h = (h.0, all_push n t ts le h.1)

none_at : (n t : ℕ) (ts : List ℕ) → n < t → AllByRecursion (λ u. u ≤ n) ts → list_any (λ u. u == t) ts ≡ false
none_at n t [] lt h = refl
none_at n t (u ∷ ts) lt h = let low = h.0 in rw (ne_eqb u t (λ e. omega (arith, low, lt, e)), none_at n t ts lt h.1) refl

not_at : (last : Option ℕ) (n t : ℕ) → n < t → IfSome last (λ u. u ≤ n) → is_at last t ≡ false
not_at None n t lt h = refl
not_at (Some u) n t lt h = ne_eqb u t (λ e. omega (arith, h, lt, e))

if_below : (last : Option ℕ) (n m : ℕ) → n ≤ m → IfSome last (λ u. u ≤ n) → IfSome last (λ u. u ≤ m)
if_below None n m le h = tt
if_below (Some u) n m le h = omega (arith, h, le)

-- no item was read
pub edges_none : (ks : List Clock) → EdgesStand ks [] 0 None
unfolding edges_in
edges_none ks = record { count = refl; last = refl; turned = refl; past = tt; low = tt }

module _ (ks : List Clock) (p : List BodyItem) (x : BodyItem) (count : ℕ) (last : Option ℕ) (has : EdgesStand ks p count last) where
  forth : time_after p ≤ time_after (p ++ x ∷ [])
  forth = time_after-append p (x ∷ [])

  no_edge : is_turn ks p x ≡ false → is_edge ks p x ≡ false
  no_edge e = rw e refl

  -- an item that is no turn
  pub edges_still : is_turn ks p x ≡ false → EdgesStand ks (p ++ x ∷ []) count last
  edges_still e = record {
    count = has.count ∙ ap length (sym edges);
    last = has.last ∙ ap (λ es. last_or None (map time_after es)) (sym edges);
    turned = by_time (cases_lt (time_after p) (time_after (p ++ x ∷ [])));
    past = subst (AllByRecursion (λ t. t ≤ time_after (p ++ x ∷ []))) (sym turns) (all_below (time_after p) (time_after (p ++ x ∷ [])) (turn_times ks p) forth has.past);
    low = if_below last (time_after p) (time_after (p ++ x ∷ [])) forth has.low;
  }
    where
      edges : edges_in ks (p ++ x ∷ []) ≡ edges_in ks p
      edges = edges_more ks p x false (no_edge e) ∙ append-nil (edges_in ks p)

      turns : turn_times ks (p ++ x ∷ []) ≡ turn_times ks p
      turns = turns_more ks p x false e ∙ append-nil (turn_times ks p)

      by_time : (time_after p < time_after (p ++ x ∷ [])) ⊎ (time_after (p ++ x ∷ []) ≤ time_after p)
          → list_any (λ t. t == time_after (p ++ x ∷ [])) (turn_times ks (p ++ x ∷ [])) ≡ is_at last (time_after (p ++ x ∷ []))
      by_time (inl later) = ap (list_any (λ t. t == time_after (p ++ x ∷ []))) turns
          ∙ none_at (time_after p) (time_after (p ++ x ∷ [])) (turn_times ks p) later has.past
          ∙ sym (not_at last (time_after p) (time_after (p ++ x ∷ [])) later has.low)
      by_time (inr same) =
          let le = forth in
          let is : time_after (p ++ x ∷ []) ≡ time_after p = omega (arith, le, same) in
          ap (list_any (λ t. t == time_after (p ++ x ∷ []))) turns ∙ ap (λ n. list_any (λ t. t == n) (turn_times ks p)) is ∙ has.turned ∙ ap (is_at last) (sym is)

  module _ (turns : is_turn ks p x ≡ true) (same : time_after (p ++ x ∷ []) ≡ time_after p) where
    times : turn_times ks (p ++ x ∷ []) ≡ turn_times ks p ++ time_after p ∷ []
    times = turns_more ks p x true turns

    pub edge_is : is_edge ks p x ≡ not (is_at last (time_after p))
    edge_is = rw (turns, has.turned) refl

    any_now : list_any (λ t. t == time_after (p ++ x ∷ [])) (turn_times ks (p ++ x ∷ [])) ≡ true
    any_now =
        ap (list_any (λ t. t == time_after (p ++ x ∷ []))) times ∙ list_any-append (λ t. t == time_after (p ++ x ∷ [])) (turn_times ks p) (time_after p ∷ [])
        ∙ rw (eq-eqb (time_after p) (time_after (p ++ x ∷ [])) (sym same)) (or-true (list_any (λ t. t == time_after (p ++ x ∷ [])) (turn_times ks p)))

    all_past : AllByRecursion (λ t. t ≤ time_after (p ++ x ∷ [])) (turn_times ks (p ++ x ∷ []))
    all_past = subst (AllByRecursion (λ t. t ≤ time_after (p ++ x ∷ []))) (sym times)
        (all_push (time_after (p ++ x ∷ [])) (time_after p) (turn_times ks p) forth
        (all_below (time_after p) (time_after (p ++ x ∷ [])) (turn_times ks p) forth has.past))

    -- a turn at the time of the last edge
    pub edges_again : is_at last (time_after p) ≡ true → EdgesStand ks (p ++ x ∷ []) count last
    edges_again at =
        let edges = edges_more ks p x false (edge_is ∙ ap not at) ∙ append-nil (edges_in ks p) in
        record {
          count = has.count ∙ ap length (sym edges);
          last = has.last ∙ ap (λ es. last_or None (map time_after es)) (sym edges);
          turned = any_now ∙ sym (ap (is_at last) same ∙ at);
          past = all_past;
          low = if_below last (time_after p) (time_after (p ++ x ∷ [])) forth has.low;
        }

    -- an edge
    pub edges_on : is_at last (time_after p) ≡ false → EdgesStand ks (p ++ x ∷ []) (count + 1) (Some (time_after p))
    edges_on at =
        let edges = edges_more ks p x true (edge_is ∙ ap not at) in
        record {
          count = ap (λ n. n + 1) has.count ∙ sym (ap length edges ∙ length-append (edges_in ks p) (p ∷ []));
          last = sym (ap (λ es. last_or None (map time_after es)) edges ∙ ap (last_or None) (map-append time_after (edges_in ks p) (p ∷ []))
              ∙ last_push (map time_after (edges_in ks p)) None (time_after p));
          turned = any_now ∙ sym (eq-eqb (time_after p) (time_after (p ++ x ∷ [])) (sym same));
          past = all_past;
          low = forth;
        }
      where
        last_push : (xs : List ℕ) (o : Option ℕ) (e : ℕ) → last_or o (xs ++ e ∷ []) ≡ Some e
        last_push [] o e = refl
        last_push (x ∷ xs) o e = last_push xs (Some x) e
