-- `check` of what `cut` wrote.
use Rattle.vcd_laws.proofs.Cited.{◌≡◌, ℕ, ◌+◌, ◌≤◌, ◌==◌, Bool, true, false, cond, not, ◌&&◌, ◌||◌, nat_lt, List, [], ◌∷◌, ◌++◌, length, map, filter, filter_map, flat_map, count_by, Option, Some, None, is_some, Result, Ok, refl, sym, ap, ◌∙◌, subst, arith, last_or, append-nil, sum_by-cons, sum_by-append, eqb-true, Input, IdCode, is_scope, variables_of, codes_of, Header, BodyItem, Entry, is_begin, change_of, Vars, last_mark, Value, value_before, is_change, ends_cut, within, cut_kept, times_of, Moment, moment_ticks, Opened, items_in, Want, IsJob, written_by, input_of, IsReadable, IsDumpFor, as_list, tally_outcome, scopes_around, distinct, changes_in, cut_closing, cut_times, set_before, CheckOfCut, marks-append, time_behind, at_start, entries_are, plain_line, IsRead, is_read, parts_items, parts_fit, parts_shut, all_within, item_if_set, set_items, cuts, cut_mark, written}
use Rattle.vcd_model.specs.Items.{marks}
use Rattle.vcd_laws.proofs.OpenedBodies.{opens_good}
use Rattle.vcd_laws.proofs.CutLaw.{cut_entries, cut_start, cut_end, CutBehind, cut_behind}
use Rattle.vcd_laws.proofs.WrittenCodes.{In, from_contained, to_contained}
use Rattle.vcd_laws.proofs.HeadBack.{marks as marks_of, own_code, opens_header}
use Rattle.vcd_laws.proofs.RunLaws.{cut_run, opened_run}
use Rattle.vcd_laws.proofs.CutShort.{cut_is_not_halted}
use Rattle.vcd_laws.proofs.DumpLaws.{IsReadDump, is_dump, own_codes}
use Rattle.vcd_laws.proofs.WrittenCounts.{parts_counts}
use Rattle.vcd_laws.proofs.HeadCounts.{scopes_written, AreApart, apart_same, codes_apart}
use Rattle.vcd_laws.proofs.Checks.{check_run, variables_written, same_tally}

-- ---- what a cut wrote, and its items

pub record CutItems (limit : ℕ) (name : List ℕ) (from to : Moment) (input : Input) (o : Opened)
    (a b : ℕ) : Type 0 where
  pub dump : IsDumpFor limit o [] (λ t. (a ≤ t) × (t ≤ b))
      (written_by (Want.Cut from to) limit name input)
  pub items : items_in dump.dump ≡ parts_items (cut_start o.header a b (items_in o)) (a ∷ [])
      (cut_entries a b (items_in o)) (cut_end a b (items_in o))
  pub rows : dump.dump.header.declarations ≡ written own_code (marks_of [] o.header.declarations)
      o.header.declarations
  pub behind : CutBehind o.header a b (items_in o)

pub same_ok : (r : Result ℕ ℕ) (a b : ℕ) → r ≡ Ok a → r ≡ Ok b → a ≡ b
same_ok r a b e f = let g = sym e ∙ f in cc

pub cut_items : (limit : ℕ) (name : List ℕ) (from to : Moment) (input : Input) (o : Opened)
    (a b : ℕ) → IsJob (Want.Cut from to) → IsReadable (Want.Cut from to) limit name input o
    → moment_ticks o.header.scale from true ≡ Ok a → moment_ticks o.header.scale to false ≡ Ok b
    → CutItems limit name from to input o a b
cut_items limit name from to input o a b job can first last =
    let run = cut_run limit name from to input o job
    (opened_run (Want.Cut from to) limit name input o can.opens) can.clean in
    let made = λ (x y : ℕ). CutItems limit name from to input o x y in
    let good = opens_good limit input o can.opens in
    let h = o.header in
    let items = items_in o in
    let behind = cut_behind o run.a run.b run.small run.order good run.ends in
    let all = parts_items (cut_start h run.a run.b items) (run.a ∷ [])
    (cut_entries run.a run.b items) (cut_end run.a run.b items) in
    let text = flat_map plain_line all in
    let parts = behind.parts in
    let output = written_by (Want.Cut from to) limit name input in
    let is : IsRead h.codes text all =
    is_read h.codes text all refl (parts_fit h.codes (cut_start h run.a run.b items)
    (run.a ∷ []) (cut_entries run.a run.b items) (cut_end run.a run.b items) parts)
    (parts_shut h.codes (cut_start h run.a run.b items) (run.a ∷ [])
    (cut_entries run.a run.b items) (cut_end run.a run.b items) parts) in
    let read : IsReadDump limit o [] h.codes (λ t. (run.a ≤ t) × (t ≤ run.b)) text output
    = is_dump limit input o [] h.codes (λ t. (run.a ≤ t) × (t ≤ run.b)) text output can.opens
    (own_codes h (opens_header limit input o can.opens) good.codes) (run.output ∙ behind.text)
    behind.keeps
    (cut_is_not_halted limit name from to input o job can, can.few) in
    let own : made run.a run.b =
    record {
      dump = read.dump;
      items = read.items ∙ is.items;
      rows = read.rows;
      behind = behind;
    } in
    subst (made a) (same_ok (moment_ticks h.scale to false) run.b b run.last last)
    (subst (λ (x : ℕ). made x run.b) (same_ok (moment_ticks h.scale from true) run.a a run.first
    first) own)

-- ---- the start section

one_set : (c : IdCode) (o : Option Value)
    → count_by is_change (item_if_set c o) ≡ cond (is_some o) 1 0
one_set c None = refl
one_set c (Some v) = refl

all_set : (vals : IdCode → Option Value) (cs : List IdCode)
    → count_by is_change (set_items vals (filter (λ c. not c.event) cs))
    ≡ count_by (λ c. not c.event && is_some (vals c)) cs
all_set vals [] = refl
all_set vals (c ∷ cs) = by_event c.event (all_set vals cs)
    ∙ sym (sum_by-cons (λ (d : IdCode). cond {A = ℕ} (not d.event && is_some (vals d)) 1 0) c cs)
  where
    rest : List IdCode
    rest = filter (λ c. not c.event) cs

    by_event : (b : Bool) → count_by is_change (set_items vals rest)
        ≡ count_by (λ d. not d.event && is_some (vals d)) cs
        → count_by is_change (set_items vals (cond (not b) (c ∷ rest) rest))
        ≡ cond (not b && is_some (vals c)) 1 0 + count_by (λ d. not d.event && is_some (vals d))
        cs
    by_event true more = let n = more in omega arith
    by_event false more =
        let n = sum_by-append (λ (x : BodyItem). cond {A = ℕ} (is_change x) 1 0)
        (item_if_set c (vals c)) (set_items vals rest) in
        let m = one_set c (vals c) in
        let l = more in
        omega arith

pub set_none : (vals : IdCode → Option Value) (cs : List IdCode)
    → (count_by is_begin (set_items vals cs) ≡ 0) × (marks (set_items vals cs) ≡ [])
set_none vals [] = (refl, refl)
set_none vals (c ∷ cs) = by_value (vals c) (set_none vals cs)
  where
    rest : List BodyItem
    rest = set_items vals cs

    by_value : (o : Option Value) → (count_by is_begin rest ≡ 0) × (marks rest ≡ [])
        → (count_by is_begin (item_if_set c o ++ rest) ≡ 0) × (marks (item_if_set c o ++ rest) ≡ [])
    by_value None more = more
    by_value (Some v) more = (
      sum_by-append (λ (x : BodyItem). cond {A = ℕ} (is_begin x) 1 0) (item_if_set c (Some v)) rest
          ∙ (let n = more.0 in omega arith),
      more.1,
    )

-- ---- the last time

closing_is : (a b : ℕ) (ends : Bool) (mark : Option ℕ)
    → as_list (cut_mark a b ends mark) ≡ cond ends (b ∷ []) (filter (nat_lt a) (as_list mark))
closing_is a b true mark = refl
closing_is a b false None = refl
closing_is a b false (Some e) = by_test (nat_lt a e)
  where
    by_test : (t : Bool) → as_list (cond t (Some e) None) ≡ cond t (e ∷ []) []
    by_test true = refl
    by_test false = refl

cut_closing_is : (a b : ℕ) (items : List BodyItem)
    → as_list (cut_end a b items) ≡ cut_closing a b items
cut_closing_is a b items = closing_is a b (ends_cut b items) (last_mark (within b items))
    ∙ by_end (ends_cut b items) refl
  where
    by_end : (e : Bool) → ends_cut b items ≡ e
        → cond e (b ∷ []) (filter (nat_lt a) (as_list (last_mark (within b items))))
        ≡ cond e (b ∷ []) (filter (nat_lt a) (as_list (last_mark items)))
    by_end true e = refl
    by_end false e = ap (λ (l : List BodyItem). filter (nat_lt a) (as_list (last_mark l)))
        (all_within b items e)

-- ---- the law

pub start_marks : (a : ℕ) (set : List BodyItem) → marks set ≡ []
    → marks (BodyItem.Time a ∷ BodyItem.Begin Vars ∷ (set ++ BodyItem.End ∷ [])) ≡ a ∷ []
start_marks a set none =
    ap (λ l. a ∷ l) (marks-append set (BodyItem.End ∷ []) ∙ append-nil (marks set) ∙ none)

pub all_codes_written : (h k : Header) → h.codes ≡ codes_of h.declarations
    → k.codes ≡ codes_of k.declarations → ((c : IdCode) → In c k.codes → In c h.codes)
    → ((c : IdCode) → In c h.codes → In c k.codes) → length k.codes ≡ length h.codes
all_codes_written h k own back there here =
    apart_same k.codes h.codes (subst AreApart (sym back) (codes_apart k.declarations))
    (subst AreApart (sym own) (codes_apart h.declarations)) there here

pub check_of_cut : CheckOfCut
check_of_cut limit name from to input o a b job can first last =
    let p = cut_items limit name from to input o a b job can first last in
    let d = p.dump in
    let k = d.dump in
    let head = d.head in
    let codes = head.codes in
    let text = written_by (Want.Cut from to) limit name input in
    let good = opens_good limit input o can.opens in
    let items = items_in o in
    let q = within b items in
    let behind = p.behind in
    let start = cut_start o.header a b items in
    let vals : IdCode → Option Value = λ c. value_before q c a in
    let set = set_items vals (filter (λ c. not c.event) o.header.codes) in
    let none = set_none vals (filter (λ c. not c.event) o.header.codes) in
    let kept = cut_entries a b items in
    let mark = cut_end a b items in
    let own = opens_header limit input o can.opens in
    let back = opens_header limit (input_of text) k d.opens in
    let both = own_codes o.header own good.codes in
    let counts = parts_counts o.header.codes start (a ∷ []) kept mark behind.parts
    (start_marks a set none.1) refl
    (λ e. ap Some (eqb-true a (time_behind 0 start) (or_false (a == time_behind 0 start) e))) in
    let es : kept ≡ cut_kept a b items =
    ap (filter (cuts a)) (sym (entries_are o.header.codes [] 0 false q at_start behind.fit)) in
    let times : (a ∷ []) ++ (map (λ (e : Entry). e.time) kept ++ as_list mark) ≡ cut_times a b items
    = ap (λ (l : List Entry). a ∷ (map (λ (e : Entry). e.time) l ++ as_list mark)) es
    ∙ ap (λ l. a ∷ (times_of (cut_kept a b items) ++ l)) (cut_closing_is a b items) in
    let begins : count_by is_begin start ≡ 1 = begins_in a set none.0 in
    let sets : count_by is_change start ≡ set_before o.header a q = changes_at a set
    ∙ all_set vals o.header.codes in
    check_run limit name (input_of text) k d.opens d.whole
    ∙ ap tally_outcome (same_tally
    (count_by is_scope k.header.declarations)
    (length (variables_of k.header.declarations))
    (length k.header.codes)
    (length (marks (items_in k)))
    (count_by is_begin (items_in k))
    (length (filter_map change_of (items_in k)))
    (scopes_around [] o.header.declarations)
    (length (variables_of o.header.declarations))
    (length o.header.codes)
    (distinct (cut_times a b items))
    (1 + count_by (λ (e : Entry). is_begin e.item) (cut_kept a b items))
    (set_before o.header a q + changes_in (cut_kept a b items))
    (last_mark (items_in k))
    (last_or None (cut_times a b items))
    (ap (count_by is_scope) p.rows
    ∙ scopes_written own_code (marks_of [] o.header.declarations) o.header.declarations)
    (variables_written o.header k.header [] head.variables
    ∙ sym (variables_written o.header o.header [] refl))
    (all_codes_written o.header k.header own.codes back.codes
    (λ c i. from_contained o.header.codes c ((codes c).0 (to_contained k.header.codes c i)).0)
    (λ c i. let t = both.there c i in
    from_contained k.header.codes c ((codes c).1 (to_contained o.header.codes c t.0, t.1))))
    (ap (λ (l : List BodyItem). length (marks l)) p.items ∙ counts.marks_are ∙ ap distinct times)
    (ap (count_by is_begin) p.items ∙ counts.sections_are
    ∙ (let n = ap (count_by (λ (e : Entry). is_begin e.item)) es in omega arith))
    (ap (λ (l : List BodyItem). length (filter_map change_of l)) p.items ∙ counts.changes_are
    ∙ (let n = ap changes_in es in omega arith))
    (ap last_mark p.items ∙ counts.last_is ∙ ap (last_or None) times))
  where
    or_false : (x : Bool) → (x || false) ≡ true → x ≡ true
    or_false true e = refl
    or_false false e = cc

    begins_in : (t : ℕ) (set : List BodyItem) → count_by is_begin set ≡ 0
        → count_by is_begin (BodyItem.Time t ∷ BodyItem.Begin Vars ∷ (set ++ BodyItem.End ∷ [])) ≡ 1
    begins_in t set none =
        let f : BodyItem → ℕ = λ x. cond (is_begin x) 1 0 in
        let x = sum_by-cons f (BodyItem.Time t)
        (BodyItem.Begin Vars ∷ (set ++ BodyItem.End ∷ [])) in
        let y = sum_by-cons f (BodyItem.Begin Vars) (set ++ BodyItem.End ∷ []) in
        let z = sum_by-append f set (BodyItem.End ∷ []) in
        let w = sum_by-cons f BodyItem.End [] in
        omega arith

    changes_at : (t : ℕ) (set : List BodyItem)
        → count_by is_change (BodyItem.Time t ∷ BodyItem.Begin Vars ∷ (set ++ BodyItem.End ∷ []))
        ≡ count_by is_change set
    changes_at t set =
        let f : BodyItem → ℕ = λ x. cond (is_change x) 1 0 in
        let x = sum_by-cons f (BodyItem.Time t)
        (BodyItem.Begin Vars ∷ (set ++ BodyItem.End ∷ [])) in
        let y = sum_by-cons f (BodyItem.Begin Vars) (set ++ BodyItem.End ∷ []) in
        let z = sum_by-append f set (BodyItem.End ∷ []) in
        let w = sum_by-cons f BodyItem.End [] in
        omega arith
