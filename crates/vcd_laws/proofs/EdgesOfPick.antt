-- `edges` of what `pick` wrote is `edges` of its input.
use Rattle.vcd_laws.proofs.Cited.{◌≡◌, ℕ, Bool, true, false, List, [], ◌∷◌, ◌++◌, map, filter, flat_map, Option, Some, None, inl, inr, refl, sym, ap, ◌∙◌, subst, list_any, append_assoc, Input, IdCode, code_of, BodyItem, entries, text_after, closing, last_mark, counts_of, counts_for, edges_line, declared_code, Selected, selected, selects_code, first_unmatched, head_for, Request, Outcome, Opened, clean_outcome, name_at, items_in, fault_in, ends_early, at_end, unmatched_outcome, over_dumps, Want, over_opened, written_by, KeepsValues, input_of, IsReadable, IsDumpFor, EdgesOfPick, entries_from, at_start, entries_are, IsRead, parts_items, parts_read, written}
use Rattle.vcd_model.specs.Edges.{edges_close}
use Rattle.vcd_model.specs.Pick.{pick_open, pick_close}
use Rattle.vcd_model.specs.Outcome.{over_body, over_dump}
use Rattle.vcd_model.specs.Job.{request_of}
use Rattle.vcd_laws.proofs.OpenedBodies.{opens_good, opened_fit, opened_shut}
use Rattle.vcd_laws.proofs.PickLaw.{picks, pick_parts, pick_keeps_items}
use Rattle.vcd_laws.proofs.WrittenCodes.{In, from_filter, to_filter, in_map, to_contained, from_contained, to_codes_of, found_in}
use Rattle.vcd_laws.proofs.HeadBack.{marks, own_code, variables_are, opens_header}
use Rattle.vcd_laws.proofs.DumpLaws.{IsReadDump, is_dump, picked_codes}
use Rattle.vcd_laws.proofs.ShortBodies.{pick_is_not_halted}
use Rattle.vcd_laws.proofs.RunLaws.{pick_case, opened_run}
use Rattle.vcd_laws.proofs.PickUses.{chosen, selected_is, same_selected, are_within, same_unmatched}
use Rattle.vcd_laws.proofs.PickCounts.{KeepsCounts, picked_counts}

-- ---- a run of `edges`

no_end : (names : List (List ℕ)) (items : List BodyItem)
    → list_any (ends_early (Request.Edges names)) items ≡ false
no_end names [] = refl
no_end names (BodyItem.Time t ∷ items) = no_end names items
no_end names (BodyItem.Begin s ∷ items) = no_end names items
no_end names (BodyItem.End ∷ items) = no_end names items
no_end names (BodyItem.Changes c ∷ items) = no_end names items

unfoldable pub counted : List (List ℕ) → Option ℕ → List ℕ → Outcome
counted wanted place text =
    elim place [ Some i ↦ unmatched_outcome (name_at wanted i) | None ↦ clean_outcome text ]

edges_body : (wanted : List (List ℕ)) (name : List ℕ) (o : Opened) → fault_in o ≡ None
    → over_body (Request.Edges wanted) o.header (items_in o) name (fault_in o)
    ≡ clean_outcome (flat_map (edges_line (items_in o)) (selected wanted o.header.declarations))
unfolding over_body edges_close
edges_body wanted name o none =
    rw (no_end wanted (items_in o), over_body)
    (ap (at_end (Request.Edges wanted) o.header (items_in o) name) none)

pub edges_run : (wanted : List (List ℕ)) (name : List ℕ) (o : Opened) → fault_in o ≡ None
    → over_dumps (Request.Edges wanted) (name ∷ []) (o ∷ [])
    ≡ counted wanted (first_unmatched wanted o.header.declarations)
    (flat_map (edges_line (items_in o)) (selected wanted o.header.declarations))
unfolding over_dump counted
edges_run wanted name o none = by_place (first_unmatched wanted o.header.declarations)
  where
    by_place : (place : Option ℕ)
        → ◌≡◌ {A = Outcome} (elim place [
          | Some i ↦ unmatched_outcome
              (name_at wanted i)
          | None ↦ over_body (Request.Edges wanted) o.header (items_in o) name
              (fault_in o)
        ]) (counted wanted place
        (flat_map (edges_line (items_in o)) (selected wanted o.header.declarations)))
    by_place (Some i) = refl
    by_place None = edges_body wanted name o none

-- ---- the same counts

counts_same : (items others : List BodyItem) (c : IdCode) → KeepsCounts items others c
    → counts_for items c ≡ counts_for others c
counts_same items others c k = by_event c.event refl
  where
    by_event : (b : Bool) → c.event ≡ b → counts_for items c ≡ counts_for others c
    by_event true e = rw (e, k.marks) refl
    by_event false e = rw e (ap counts_of (k.values e))

pub lines_same : (vs : List Selected) (items others : List BodyItem)
    → ((s : Selected) → In s vs → KeepsCounts items others (code_of s.variable))
    → flat_map (edges_line items) vs ≡ flat_map (edges_line others) vs
lines_same [] items others h = refl
lines_same (s ∷ vs) items others h =
    rw (
      counts_same items others (code_of s.variable) (h s (inl refl)),
      lines_same vs items others
          (λ x i. h x (inr i)),
    ) refl

-- ---- what a pick wrote, and its items

pub record PickedItems (limit : ℕ) (name : List ℕ) (names : List (List ℕ)) (input : Input)
    (o : Opened) : Type 0 where
  pub none : fault_in o ≡ None
  pub dump : IsDumpFor limit o names (λ t. Unit {0}) (written_by (Want.Pick names) limit name input)
  pub items : items_in dump.dump ≡ parts_items [] []
      (filter (picks (selected names o.header.declarations)) (entries_from 0 false (items_in o)))
      (last_mark (items_in o))
  pub rows : dump.dump.header.declarations ≡ written own_code (marks names o.header.declarations)
      o.header.declarations

pub picked_items : (limit : ℕ) (name : List ℕ) (names : List (List ℕ)) (input : Input) (o : Opened)
    → IsReadable (Want.Pick names) limit name input o → PickedItems limit name names input o
unfolding pick_open pick_close
picked_items limit name names input o can =
    let opens = can.opens in
    let run = opened_run (Want.Pick names) limit name input o opens in
    let other = over_opened (Want.Pick names) (name ∷ []) (o ∷ []) in
    let done : other.status ≡ 0 = ap (λ (d : Outcome). d.status) (sym run) ∙ can.clean in
    let clean = pick_case names name o done in
    let items = items_in o in
    let good = opens_good limit input o opens in
    let fit = opened_fit o good in
    let vs = selected names o.header.declarations in
    let new = filter (selects_code vs) o.header.codes in
    let kept = filter (picks vs) (entries items) in
    let own = filter (picks vs) (entries_from 0 false items) in
    let text : List ℕ = text_after [] kept ++ closing (map (λ e. e.time) kept) (last_mark items) in
    let output = written_by (Want.Pick names) limit name input in
    let whole : output ≡ head_for o.header names ++ text = ap (λ (d : Outcome). d.output) run
    ∙ clean.1 ∙ append_assoc (head_for o.header names) (text_after [] kept)
    (closing (map (λ e. e.time) kept) (last_mark items)) in
    let keeps : KeepsValues new text (λ t. Unit {0}) items =
    pick_keeps_items o.header.codes vs items text good.codes fit (opened_shut o good clean.0)
    refl in
    let read : IsReadDump limit o names new (λ t. Unit {0}) text output =
    is_dump limit input o names new (λ t. Unit {0}) text output opens
    (picked_codes o.header names good.codes) whole keeps
    (pick_is_not_halted limit name names input o can, can.few) in
    let parts = pick_parts o.header.codes vs items good.codes fit (opened_shut o good clean.0) in
    let es = entries_are o.header.codes [] 0 false items at_start fit in
    let is : IsRead new text (parts_items [] [] own (last_mark items)) =
    parts_read new [] [] own (last_mark items) text parts
    (ap (λ l. text_after [] (filter (picks vs) l)
    ++ closing (map (λ e. e.time) (filter (picks vs) l)) (last_mark items)) es) in
    record { none = clean.0; dump = read.dump; items = read.items ∙ is.items; rows = read.rows }

pub edges_of_pick : EdgesOfPick
unfolding request_of
edges_of_pick limit name names wanted input o can within =
    let opens = can.opens in
    let p = picked_items limit name names input o can in
    let d = p.dump in
    let k = d.dump in
    let head = d.head in
    let text = written_by (Want.Pick names) limit name input in
    let good = opens_good limit input o opens in
    let fit = opened_fit o good in
    let shut = opened_shut o good p.none in
    let vs = selected names o.header.declarations in
    let inside = are_within wanted names o.header within in
    let selection = same_selected wanted names o.header k.header head.variables inside in
    let unmatched = same_unmatched wanted wanted names o.header k.header head.variables inside
    (λ n i. i) in
    let back = opens_header limit (input_of text) k d.opens in
    let codes = head.codes in
    let counts : (s : Selected) → In s (selected wanted o.header.declarations)
    → KeepsCounts (items_in k) (items_in o) (code_of s.variable) = λ s i.
    let parts = from_filter (chosen wanted) (selected [] o.header.declarations) s
    (subst (In s) (selected_is wanted o.header.declarations) i) in
    let there : In s (selected [] k.header.declarations) =
    subst (In s) (sym (head.variables ∙ selected_is names o.header.declarations))
    (to_filter (chosen names) (selected [] o.header.declarations) s parts.0
    (inside s parts.0 parts.1)) in
    let own = to_codes_of k.header.declarations s.variable back.declared
    (subst (In s.variable) (variables_are k.header.declarations)
    (in_map (λ (x : Selected). x.variable) (selected [] k.header.declarations) s there)) in
    let c = code_of s.variable in
    let both = (codes c).0 (to_contained k.header.codes c (subst (In c) (sym back.codes) own)) in
    let declared : declared_code o.header.codes c.text ≡ Some c =
    found_in o.header.codes c good.codes (from_contained o.header.codes c both.0) in
    subst (λ (l : List BodyItem). KeepsCounts l (items_in o) c) (sym p.items)
    (picked_counts o.header.codes vs (items_in o) c good.codes fit shut declared both.1) in
    opened_run (Want.Edges wanted) limit name (input_of text) k d.opens
    ∙ edges_run wanted name k d.whole
    ∙ ap (λ (l : List Selected). counted wanted (first_unmatched wanted k.header.declarations)
    (flat_map (edges_line (items_in k)) l)) selection
    ∙ ap (λ place. counted wanted place (flat_map (edges_line (items_in k))
    (selected wanted o.header.declarations))) unmatched
    ∙ ap (counted wanted (first_unmatched wanted o.header.declarations))
    (lines_same (selected wanted o.header.declarations) (items_in k) (items_in o) counts)
    ∙ sym (edges_run wanted name o p.none)
    ∙ sym (opened_run (Want.Edges wanted) limit name input o opens)
