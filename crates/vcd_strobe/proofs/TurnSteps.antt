-- What is written and kept if a change may be a turn.
use Rattle.std.proofs.Common.{◌≡◌, ℕ, suc, ◌+◌, ◌<◌, ◌≤◌, ◌^◌, Bool, true, false, not, List, [], ◌∷◌, ◌++◌, length, filter_map, unwrap_or, Option, Some, None, IfSome, IfOk, Result, Ok, Err, refl, sym, ap, subst, ◌∙◌, arith, append-nil}
use Rattle.vcd_model.specs.Backward.{each, each_after}
use Rattle.vcd_model.specs.Header.{Header}
use Rattle.vcd_model.specs.Items.{BodyItem, time_after}
use Rattle.vcd_model.specs.Strobe.{Clock, edge_at, edge_text, edges_in, is_edge, is_turn, last_time, strobe_open}
use Rattle.vcd_text.proofs.Writes.{appends-none}
use Rattle.vcd_text.specs.Device.{Appends, Device, Takes}
use Rattle.vcd_body.specs.Device.{TakesDue}
use Rattle.vcd_strobe.proofs.EdgeSteps.{edge_is, edges_again, edges_more, edges_on, edges_still, open_edge, open_still}
use Rattle.vcd_strobe.specs.Moments.{EdgesStand}
use Rattle.vcd_strobe.specs.Roles.{is_at}
use Rattle.vcd_strobe.specs.Strobes.{IsPast, Stands}
use Rattle.vcd_strobe.specs.declared.whole.Strobe.{Strobe}

few_some : {X : Type 0} (l : List (Option X)) → length (filter_map (λ o. o) l) ≤ length l
few_some [] = omega arith
few_some (None ∷ l) = let n = few_some l in omega (arith, n)
few_some (Some x ∷ l) = let n = few_some l in omega (arith, n)

each_long : {X Y : Type 0} (f : List X → X → Y) (b xs : List X) → length (each_after f b xs) ≡ length xs
each_long f b [] = refl
each_long f b (x ∷ xs) = ap suc (each_long f (b ++ x ∷ []) xs)

-- there are no more edges than items
pub edges_few : (ks : List Clock) (items : List BodyItem) → length (edges_in ks items) ≤ length items
unfolding edges_in
edges_few ks items = let n = few_some (each (edge_at ks) items) in let long = each_long (edge_at ks) [] items in omega (arith, n, long)

-- the last edge is not later than all items
pub edges_low : (ks : List Clock) (items : List BodyItem) (n : ℕ) (at : Option ℕ) → EdgesStand ks items n at → last_time (edges_in ks items) ≤ time_after items
edges_low ks items n at has = subst (λ (o : Option ℕ). unwrap_or o 0 ≤ time_after items) has.last (by_option at has.low)
  where
    by_option : (o : Option ℕ) → IfSome o (λ u. u ≤ time_after items) → unwrap_or o 0 ≤ time_after items
    by_option None low = omega arith
    by_option (Some u) low = low

module _ (s : Strobe) (h : Header) (names : List (List ℕ)) (ks : List Clock) (items : List BodyItem) (x : BodyItem)
    (has : Stands s h names (edges_in ks items) items) (edges : EdgesStand ks items s.edges s.last)
    (time : time_after (items ++ x ∷ []) ≡ time_after items) where
  abbrev after : List BodyItem
  after = items ++ x ∷ []

  -- nothing is due, and no edge is there
  abbrev Still : Device → Type 0
  Still out = (due : List ℕ) × (strobe_open ks h names after ≡ strobe_open ks h names items ++ due) × Appends out.held out.held due

  no_edge : is_edge ks items x ≡ false → (out : Device) → Still out × Stands s h names (edges_in ks after) items
  no_edge e out = (
    ([], open_still ks h names items x e ∙ sym (append-nil (strobe_open ks h names items)), appends-none out.held),
    subst (λ es. Stands s h names es items) (sym (edges_more ks items x false e ∙ append-nil (edges_in ks items))) has,
  )

  -- an edge was at this time
  pub turn_past : (out : Device) (t : ℕ) → t ≡ time_after items → is_at s.last t ≡ true → Still out × (Stands s h names (edges_in ks after) items × EdgesStand ks after s.edges s.last)
  turn_past out t is at = by_turn (is_turn ks items x) refl
    where
      here : is_at s.last (time_after items) ≡ true
      here = ap (is_at s.last) (sym is) ∙ at

      by_turn : (b : Bool) → is_turn ks items x ≡ b → Still out × (Stands s h names (edges_in ks after) items × EdgesStand ks after s.edges s.last)
      by_turn true e =
          let n = no_edge (edge_is ks items x s.edges s.last edges e time ∙ ap not here) out in
          (n.0, (n.1, edges_again ks items x s.edges s.last edges e time here))
      by_turn false e = let n = no_edge (rw e refl) out in (n.0, (n.1, edges_still ks items x s.edges s.last edges e))

  -- no clock turns
  pub turn_none : (out : Device) → is_turn ks items x ≡ false → Still out × (Stands s h names (edges_in ks after) items × EdgesStand ks after s.edges s.last)
  turn_none out e = let n = no_edge (rw e refl) out in (n.0, (n.1, edges_still ks items x s.edges s.last edges e))

  -- an edge
  pub turn_edge : {A E : Type 0} (s' : Strobe) (out out' : Device) (t : ℕ) (r : Result A E) → t ≡ time_after items → is_at s.last t ≡ false
      → is_turn ks items x ≡ true → length items < 2 ^ 63 → Takes out out' (edge_text h names (edges_in ks items) items) r
      → IfOk r (λ _. Stands s' h names (edges_in ks items ++ items ∷ []) items) → IfOk r (λ _. IsPast s s' t)
      → TakesDue out out' (strobe_open ks h names items) (strobe_open ks h names after) r × IfOk r (λ _. Stands s' h names (edges_in ks after) items × EdgesStand ks after s'.edges s'.last)
  turn_edge {A = A} {E = E} s' out out' t r is at turn few takes stands past = ((edge_text h names (edges_in ks items) items, open_edge ks h names items x edge, takes), by_result r stands past)
    where
      at_none : is_at s.last (time_after items) ≡ false
      at_none = ap (is_at s.last) (sym is) ∙ at

      edge : is_edge ks items x ≡ true
      edge = edge_is ks items x s.edges s.last edges turn time ∙ ap not at_none

      by_result : (q : Result A E) → IfOk q (λ _. Stands s' h names (edges_in ks items ++ items ∷ []) items) → IfOk q (λ _. IsPast s s' t)
          → IfOk q (λ _. Stands s' h names (edges_in ks after) items × EdgesStand ks after s'.edges s'.last)
      by_result (Ok v) stands past = (
        subst (λ es. Stands s' h names es items) (sym (edges_more ks items x true edge)) stands,
        (let count = edges.count in
            let most = edges_few ks items in
            let one : s.edges + 1 ≡ s'.edges = sym (past.edges (omega (arith, few, count, most))) in
            let last : Some (time_after items) ≡ s'.last = sym (past.last ∙ ap Some is) in
            subst (λ n. EdgesStand ks after n s'.last) one (subst (λ o. EdgesStand ks after (s.edges + 1) o) last (edges_on ks items x s.edges s.last edges turn time at_none))),
      )
      by_result (Err e) stands past = tt
