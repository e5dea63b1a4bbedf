-- What `strobe` writes keeps what there is at the edges.
use Rattle.vcd_laws.proofs.Cited.{Bool, List, None, Option, Some, [], ap, arith, false, flat_map, inr, length, map, nat_le, refl, subst, suc, sym, take, zero, ℕ, ◌++◌, ◌<◌, ◌^◌, ◌∙◌, ◌∷◌, ◌≡◌, le-leb, lt-leb, append_assoc, flat_map-append, concat, list_any, entries_from-append, AreCodes, AreFit, at_start, entries_are, entries_from, open_behind, time_behind, behind, gives_at, last_value_is, latest, IsRead, is_read, plain_line, stands_behind, each_after, IdCode, Header, value_at, BodyItem, Change, time_after, items_in, Value}
use Rattle.std.specs.Prelude.{slice_get}
use Rattle.vcd_model.specs.Strobe.{Clock, binary, edge_text, edges_in, last_sampled, sampled, strobe_head, strobe_open, time_code}
use Rattle.vcd_laws.specs.Strobes.{GivesEdges, KeepsEdges, StrobeKeeps, written_codes}
use Rattle.vcd_model.proofs.Latest.{latest-append}
use Rattle.vcd_laws.proofs.OpenedBodies.{opened_fit, opens_good}
use Rattle.vcd_laws.proofs.PickLaw.{behind-none}
use Rattle.vcd_laws.proofs.HeadersGood.{IsGoodHeader}
use Rattle.vcd_laws.proofs.HeadBack.{opens_header}
use Rattle.vcd_laws.proofs.StrobeBase.{AllSteps, AreGoodChanges, Leads, triggers, length_snoc, step_triggers, steps, steps-append, steps_fit, steps_front, steps_none, steps_open, steps_quiet, steps_time, steps_value, steps_weaker}
use Rattle.vcd_laws.proofs.StrobeEdges.{IsEdgeOf, edges_are, last_snoc}
use Rattle.vcd_laws.proofs.StrobeChanges.{edge_changes, edge_lines}
use Rattle.vcd_laws.proofs.StrobeFacts.{edge_good, edge_time, event_at, time_leads, value_leads}
use Rattle.vcd_laws.proofs.StrobeCounts.{few_edges}

-- ---- an element by its number

pub record IsAt {X : Type 0} (xs : List X) (k : ℕ) (x : X) : Type 0 where
  pub later : List X
  pub whole : xs ≡ take k xs ++ x ∷ later
  pub number : length (take k xs) ≡ k

pub is_at : {X : Type 0} (xs : List X) (k : ℕ) (x : X) → slice_get xs k ≡ Some x → IsAt xs k x
is_at [] k x e = cc
is_at (y ∷ xs) zero x e = let same : y ≡ x = cc in
    record { later = xs; whole = ap (λ z. z ∷ xs) same; number = refl }
is_at (y ∷ xs) (suc k) x e =
    let more = is_at xs k x e in
    record {
      later = more.later;
      whole = ap (λ l. y ∷ l) more.whole;
      number = ap suc more.number;
    }

-- ---- the values at a step

module _ {X : Type 0} (f : List X → X → List Change) (codes : List IdCode) (c : IdCode)
    (S : List X → Option Value) (unset : S [] ≡ None) where
  value_by_step : (pre later : List X) (x : X) (n : ℕ) → n ≡ suc (length pre)
      → AreFit codes 0 false (steps f [] (pre ++ x ∷ [] ++ later))
      → AllSteps (Leads f c S) [] (pre ++ x ∷ [] ++ later)
      → value_at (steps f [] (pre ++ x ∷ [] ++ later)) c n ≡ S (pre ++ x ∷ [])
  value_by_step pre later x n e fit leads =
      let at : ℕ → Bool = λ u. nat_le u n in
      let front = pre ++ x ∷ [] in
      let a = steps f [] front in
      let b = steps f front later in
      let s = length_snoc pre x in
      let time : time_behind 0 a ≡ length front = steps_time f [] front ∙ omega arith in
      let early = steps_value f c S at [] front (λ t l. le-leb t n (omega arith))
      (steps_front (Leads f c S) [] front later leads) in
      last_value_is c at (steps f [] (front ++ later))
      ∙ ap (latest (gives_at c at))
      (entries_are codes [] 0 false (steps f [] (front ++ later)) at_start fit
      ∙ ap (entries_from 0 false) (steps-append f [] front later)
      ∙ entries_from-append 0 false a b)
      ∙ latest-append (gives_at c at) (entries_from 0 false a)
      (entries_from (time_behind 0 a) (open_behind false a) b)
      ∙ ap (λ o. behind (latest (gives_at c at) (entries_from (time_behind 0 a) o b))
      (latest (gives_at c at) (entries_from 0 false a))) (steps_open f [] front)
      ∙ ap (λ t. behind (latest (gives_at c at) (entries_from t false b))
      (latest (gives_at c at) (entries_from 0 false a))) time
      ∙ ap (λ o. behind o (latest (gives_at c at) (entries_from 0 false a)))
      (steps_none f c at front later (λ t l. lt-leb t n (omega arith)))
      ∙ sym (behind-none (latest (gives_at c at) (entries_from 0 false a)))
      ∙ ap (behind (latest (gives_at c at) (entries_from 0 false a))) (sym unset)
      ∙ early

  pub value_at_step : (xs : List X) (k : ℕ) (x : X) → slice_get xs k ≡ Some x
      → AreFit codes 0 false (steps f [] xs) → AllSteps (Leads f c S) [] xs
      → value_at (steps f [] xs) c (suc k) ≡ S (take k xs ++ x ∷ [])
  value_at_step xs k x e fit leads =
      let at = is_at xs k x e in
      let number = at.number in
      let whole : xs ≡ take k xs ++ x ∷ [] ++ at.later =
      at.whole ∙ sym (append_assoc (take k xs) (x ∷ []) at.later) in
      ap (λ l. value_at (steps f [] l) c (suc k)) whole
      ∙ value_by_step (take k xs) at.later x (suc k) (ap suc (sym number))
      (subst (λ (l : List X). AreFit codes 0 false (steps f [] l)) whole fit)
      (subst (AllSteps (Leads f c S) []) whole leads)

-- ---- the text

pub all_text : (h : Header) (names : List (List ℕ)) (before es : List (List BodyItem))
    → concat (each_after (edge_text h names) before es)
    ≡ flat_map plain_line (steps (edge_changes h names) before es)
all_text h names before [] = refl
all_text h names before (e ∷ es) =
    let rest = steps (edge_changes h names) (before ++ e ∷ []) es in
    let own = BodyItem.Time (suc (length before)) ∷ map (λ d. BodyItem.Changes d)
    (edge_changes h names before e) in
    ap (λ l. l ++ concat (each_after (edge_text h names) (before ++ e ∷ []) es))
    (edge_lines h names before e)
    ∙ ap (λ l. flat_map plain_line own ++ l) (all_text h names (before ++ e ∷ []) es)
    ∙ sym (flat_map-append plain_line own rest)

-- ---- what is kept

module _ (h : Header) (names : List (List ℕ)) (good : IsGoodHeader h) (found : AreCodes h.codes)
    (ks : List Clock) (items : List BodyItem) (fit : AreFit h.codes 0 false items)
    (few : length (edges_in ks items) < 2 ^ 64) where
  abbrev pub edges : List (List BodyItem)
  edges = edges_in ks items

  -- the items that are written
  abbrev pub written_items : List BodyItem
  written_items = steps (edge_changes h names) [] edges

  pub written_fit : AreFit (written_codes h names) 0 false written_items
  written_fit = steps_fit (edge_changes h names) (written_codes h names) [] edges (omega arith)
      (steps_weaker (IsEdgeOf items) (AreGoodChanges (edge_changes h names)
      (written_codes h names)) [] edges (λ b e is. edge_good h names good found items fit b e is)
      (edges_are ks items))

  pub gives_edges : GivesEdges ks h names items written_items
  gives_edges = record {
    values = λ c k edge at i quiet.
        value_at_step (edge_changes h names) (written_codes h names) c (λ b. last_sampled b c) refl
        edges k edge at written_fit
        (steps_weaker (IsEdgeOf items) (Leads (edge_changes h names) c (λ b. last_sampled b c)) []
        edges (λ b e is. value_leads h names good found items fit b e c i quiet is)
        (edges_are ks items))
        ∙ ap (λ o. elim o [ Some e ↦ sampled e c | None ↦ None ])
        (last_snoc None (take k edges) edge);
    times = λ k edge at.
        value_at_step (edge_changes h names) (written_codes h names) (time_code h)
        (edge_time h names good found items fit) refl edges k edge at written_fit
        (steps_weaker (IsEdgeOf items) (Leads (edge_changes h names) (time_code h)
        (edge_time h names good found items fit)) [] edges
        (λ b e is. time_leads h names good found items fit b e) (edges_are ks items))
        ∙ ap (λ o. elim o [
          | Some e ↦ Some (Value.Bits (binary 64 (time_after e)))
          | None ↦ None
        ]) (last_snoc None (take k edges) edge);
    events = λ c k edge at i event.
        let is = is_at edges k edge at in
        let number = is.number in
        ap (list_any (triggers c (suc k) (suc (suc k))))
        (entries_are (written_codes h names) [] 0 false written_items at_start written_fit)
        ∙ ap (λ l. list_any (triggers c (suc k) (suc (suc k)))
        (entries_from 0 false (steps (edge_changes h names) [] l))) is.whole
        ∙ step_triggers (edge_changes h names) c [] (take k edges) is.later edge k
        (sym number ∙ omega arith)
        ∙ event_at h names good found items fit (take k edges) edge c i event;
    start = λ c. (
      last_value_is c (λ u. nat_le u 0) written_items
          ∙ ap (latest (gives_at c (λ u. nat_le u 0)))
          (entries_are (written_codes h names) [] 0 false written_items at_start written_fit)
          ∙ steps_none (edge_changes h names) c (λ u. nat_le u 0) [] edges
          (λ t l. lt-leb t 0 (omega arith)),
      ap (list_any (triggers c 0 1))
          (entries_are (written_codes h names) [] 0 false written_items at_start written_fit)
          ∙ steps_quiet (edge_changes h names) c 0 1 [] edges (λ t l m. inr (omega arith)),
    );
    last = (stands_behind (written_codes h names) [] 0 false written_items at_start
        written_fit).time ∙ steps_time (edge_changes h names) [] edges ∙ omega arith;
  }

  -- the text after the head
  abbrev pub edges_text : List ℕ
  edges_text = concat (each_after (edge_text h names) [] edges)

  pub text_read : IsRead (written_codes h names) edges_text written_items
  text_read = is_read (written_codes h names) edges_text written_items (all_text h names [] edges)
      written_fit (steps_open (edge_changes h names) [] edges)

  pub keeps_edges : KeepsEdges ks h names items edges_text
  keeps_edges = let is = text_read in record {
    whole = is.whole;
    edges = subst (GivesEdges ks h names items) (sym is.items) gives_edges;
  }

  pub open_is : strobe_open ks h names items ≡ strobe_head h names ++ edges_text
  unfolding strobe_open
  open_is = refl

pub strobe_keeps : StrobeKeeps
strobe_keeps limit input o ks names opens =
    let good = opens_good limit input o opens in
    let h = o.header in
    let fine = opens_header limit input o opens in
    let fit = opened_fit o good in
    let few = few_edges limit input o ks opens in (
      edges_text h names fine good.codes ks (items_in o) fit few,
      open_is h names fine good.codes ks (items_in o) fit few,
      keeps_edges h names fine good.codes ks (items_in o) fit few,
    )
