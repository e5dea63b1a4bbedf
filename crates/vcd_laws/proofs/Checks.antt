-- `check` of what was written.
use Rattle.vcd_laws.proofs.Cited.{◌≡◌, ℕ, Bool, true, false, cond, not, ◌&&◌, List, [], ◌∷◌, ◌++◌, length, map, filter, filter_map, count_by, Option, None, Contains, IsTrue, ◌↔◌, refl, sym, ap, ◌∙◌, subst, arith, list_any, last_or, length-map, sum_by-cons, length-filter, Input, IdCode, is_scope, variables_of, codes_of, Header, BodyItem, Entry, is_begin, change_of, last_mark, Selected, selected, selects_code, pick_kept, Request, Opened, items_in, fault_in, ends_early, at_end, over_dumps, Want, outcome, Opens, written_by, input_of, as_list, Tally, tally_outcome, scopes_around, distinct, changes_in, pick_times, CheckOfPick, entries_from, at_start, entries_are}
use Rattle.vcd_model.specs.Items.{marks}
use Rattle.vcd_model.specs.CheckAndList.{check_close}
use Rattle.vcd_model.specs.Outcome.{over_body, over_dump}
use Rattle.vcd_model.specs.Job.{request_of}
use Rattle.vcd_laws.proofs.OpenedBodies.{opens_good, opened_fit, opened_shut}
use Rattle.vcd_laws.proofs.PickLaw.{picks, pick_parts}
use Rattle.vcd_laws.proofs.WrittenCodes.{from_filter, to_filter, from_contained, to_contained}
use Rattle.vcd_laws.proofs.HeadBack.{marks as marks_of, own_code, variables_are, opens_header}
use Rattle.vcd_laws.proofs.RunLaws.{opened_run}
use Rattle.vcd_laws.proofs.EdgesOfPick.{picked_items}
use Rattle.vcd_laws.proofs.WrittenCounts.{parts_counts}
use Rattle.vcd_laws.proofs.HeadCounts.{scopes_written, AreApart, apart_same, apart_filter, codes_apart}

-- ---- a run of `check`

-- what there is in a dump
abbrev pub tally_of : Header → List BodyItem → Tally
tally_of h items = record {
  scopes = count_by is_scope h.declarations;
  variables = length (variables_of h.declarations);
  codes = length h.codes;
  times = length (marks items);
  sections = count_by is_begin items;
  changes = length (filter_map change_of items);
  last = last_mark items;
}

no_end : (items : List BodyItem) → list_any (ends_early Request.Check) items ≡ false
no_end [] = refl
no_end (BodyItem.Time t ∷ items) = no_end items
no_end (BodyItem.Begin s ∷ items) = no_end items
no_end (BodyItem.End ∷ items) = no_end items
no_end (BodyItem.Changes c ∷ items) = no_end items

check_body : (name : List ℕ) (o : Opened) → fault_in o ≡ None
    → over_dumps Request.Check (name ∷ []) (o ∷ []) ≡ tally_outcome (tally_of o.header (items_in o))
unfolding over_dump over_body check_close
check_body name o none =
    rw (no_end (items_in o), over_body) (ap (at_end Request.Check o.header (items_in o) name) none)

pub check_run : (limit : ℕ) (name : List ℕ) (input : Input) (o : Opened) → Opens limit input o
    → fault_in o ≡ None → outcome Want.Check limit (name ∷ []) (input ∷ [])
    ≡ tally_outcome (tally_of o.header (items_in o))
unfolding request_of
check_run limit name input o opens none = opened_run Want.Check limit name input o opens
    ∙ check_body name o none

-- ---- the counts of a head

pub variables_written : (h k : Header) (names : List (List ℕ))
    → selected [] k.declarations ≡ selected names h.declarations
    → length (variables_of k.declarations) ≡ length (selected names h.declarations)
variables_written h k names same =
    ap length (sym (variables_are k.declarations))
    ∙ length-map (selected [] k.declarations) (λ (s : Selected). s.variable)
    ∙ ap length same

pub codes_written : (h k : Header) (names : List (List ℕ)) → h.codes ≡ codes_of h.declarations
    → k.codes ≡ codes_of k.declarations
    → ((c : IdCode) → Contains k.codes c ↔ (Contains h.codes c
    × IsTrue (selects_code (selected names h.declarations) c)))
    → length k.codes ≡ count_by (selects_code (selected names h.declarations)) h.codes
codes_written h k names own back codes =
    let test = selects_code (selected names h.declarations) in
    apart_same k.codes (filter test h.codes) (subst AreApart (sym back)
    (codes_apart k.declarations)) (apart_filter test h.codes
    (subst AreApart (sym own) (codes_apart h.declarations)))
    (λ c i. let a = (codes c).0 (to_contained k.codes c i) in
    to_filter test h.codes c (from_contained h.codes c a.0) a.1)
    (λ c i. let a = from_filter test h.codes c i in
    from_contained k.codes c ((codes c).1 (to_contained h.codes c a.0, a.1)))
    ∙ length-filter test h.codes

-- ---- `pick`

-- each section is kept
sections_kept : (vs : List Selected) (t : ℕ) (o : Bool) (items : List BodyItem)
    → count_by (λ (e : Entry). is_begin e.item) (filter (picks vs) (entries_from t o items))
    ≡ count_by is_begin items
sections_kept vs t o [] = refl
sections_kept vs t o (BodyItem.Time u ∷ items) =
    let n = sum_by-cons (λ (x : BodyItem). cond {A = ℕ} (is_begin x) 1 0) (BodyItem.Time u) items in
    let m = sections_kept vs u o items in omega arith
sections_kept vs t o (BodyItem.Begin s ∷ items) =
    let n = sum_by-cons (λ (x : BodyItem). cond {A = ℕ} (is_begin x) 1 0) (BodyItem.Begin s)
    items in
    let l = sum_by-cons (λ (e : Entry). cond {A = ℕ} (is_begin e.item) 1 0)
    (record { time = t; inside = o; item = BodyItem.Begin s })
    (filter (picks vs) (entries_from t true items)) in
    let m = sections_kept vs t true items in
    omega arith
sections_kept vs t o (BodyItem.End ∷ items) =
    let n = sum_by-cons (λ (x : BodyItem). cond {A = ℕ} (is_begin x) 1 0) BodyItem.End items in
    let l = sum_by-cons (λ (e : Entry). cond {A = ℕ} (is_begin e.item) 1 0)
    (record { time = t; inside = o; item = BodyItem.End })
    (filter (picks vs) (entries_from t false items)) in
    let m = sections_kept vs t false items in
    omega arith
sections_kept vs t o (BodyItem.Changes c ∷ items) =
    let n = sum_by-cons (λ (x : BodyItem). cond {A = ℕ} (is_begin x) 1 0) (BodyItem.Changes c)
    items in
    by_keep (selects_code vs c.code && not (c.code.event && o))
    (sections_kept vs t o items ∙ (let m = n in omega arith))
  where
    rest : List Entry
    rest = filter (picks vs) (entries_from t o items)

    by_keep : (b : Bool) → count_by (λ (e : Entry). is_begin e.item) rest
        ≡ count_by is_begin (BodyItem.Changes c ∷ items)
        → count_by (λ (e : Entry). is_begin e.item)
        (cond b (record { time = t; inside = o; item = BodyItem.Changes c } ∷ rest) rest)
        ≡ count_by is_begin (BodyItem.Changes c ∷ items)
    by_keep true m = sum_by-cons (λ (e : Entry). cond {A = ℕ} (is_begin e.item) 1 0)
        (record { time = t; inside = o; item = BodyItem.Changes c }) rest
        ∙ (let l = m in omega arith)
    by_keep false m = m

pub same_tally : (a b c d e f a' b' c' d' e' f' : ℕ) (g g' : Option ℕ) → a ≡ a' → b ≡ b' → c ≡ c'
    → d ≡ d' → e ≡ e' → f ≡ f' → g ≡ g'
    → ◌≡◌ {A = Tally}
    (record {
      scopes = a;
      variables = b;
      codes = c;
      times = d;
      sections = e;
      changes = f;
      last = g;
    })
    (record {
      scopes = a';
      variables = b';
      codes = c';
      times = d';
      sections = e';
      changes = f';
      last = g';
    })
same_tally a b c d e f a' b' c' d' e' f' g g' p q r s t u v = cc

pub check_of_pick : CheckOfPick
check_of_pick limit name names input o can =
    let p = picked_items limit name names input o can in
    let d = p.dump in
    let k = d.dump in
    let head = d.head in
    let text = written_by (Want.Pick names) limit name input in
    let good = opens_good limit input o can.opens in
    let items = items_in o in
    let fit = opened_fit o good in
    let vs = selected names o.header.declarations in
    let kept = filter (picks vs) (entries_from 0 false items) in
    let mark = last_mark items in
    let parts = pick_parts o.header.codes vs items good.codes fit (opened_shut o good p.none) in
    let counts = parts_counts (filter (selects_code vs) o.header.codes) [] [] kept mark parts refl
    refl (λ e. cc) in
    let own = opens_header limit input o can.opens in
    let back = opens_header limit (input_of text) k d.opens in
    let es : kept ≡ pick_kept o.header names items =
    ap (filter (picks vs)) (sym (entries_are o.header.codes [] 0 false items at_start fit)) in
    check_run limit name (input_of text) k d.opens d.whole
    ∙ ap tally_outcome (same_tally
    (count_by is_scope k.header.declarations)
    (length (variables_of k.header.declarations))
    (length k.header.codes)
    (length (marks (items_in k)))
    (count_by is_begin (items_in k))
    (length (filter_map change_of (items_in k)))
    (scopes_around names o.header.declarations)
    (length (selected names o.header.declarations))
    (count_by (selects_code vs) o.header.codes)
    (distinct (pick_times o.header names items))
    (count_by is_begin items)
    (changes_in (pick_kept o.header names items))
    (last_mark (items_in k))
    (last_or None (pick_times o.header names items))
    (ap (count_by is_scope) p.rows
    ∙ scopes_written own_code (marks_of names o.header.declarations) o.header.declarations)
    (variables_written o.header k.header names head.variables)
    (codes_written o.header k.header names own.codes back.codes head.codes)
    (ap (λ (l : List BodyItem). length (marks l)) p.items ∙ counts.marks_are
    ∙ ap (λ (l : List Entry). distinct (map (λ (e : Entry). e.time) l ++ as_list mark)) es)
    (ap (count_by is_begin) p.items ∙ counts.sections_are
    ∙ (let n = sections_kept vs 0 false items in omega arith))
    (ap (λ (l : List BodyItem). length (filter_map change_of l)) p.items ∙ counts.changes_are
    ∙ (let n = ap changes_in es in omega arith))
    (ap last_mark p.items ∙ counts.last_is
    ∙ ap (λ (l : List Entry). last_or None (map (λ (e : Entry). e.time) l ++ as_list mark)) es))
