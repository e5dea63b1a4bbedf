-- `pick` of what `pick` wrote writes it again.
use Rattle.vcd_laws.proofs.Cited.{◌≡◌, ℕ, ◌<◌, ◌≤◌, ◌==◌, Bool, true, false, cond, not, ◌&&◌, ◌||◌, List, [], ◌∷◌, ◌++◌, map, filter, Option, Some, None, inl, inr, refl, sym, ap, ◌∙◌, subst, arith, ⊤, AllByRecursion, list_any, last_or, append_assoc, append-nil, list_any-append, eq-eqb, as_line, Declaration, Variable, IdCode, path_of, Change, BodyItem, Entry, entries, Value, value_of, value_line, change_line, item_line, time_unless, text_after, closing, last_mark, Selected, is_selected, selects_code, first_unmatched, Header, head_for, Request, Outcome, Opened, name_at, items_in, fault_in, at_end, over_body, unmatched_outcome, Want, over_opened, written_by, IsHeadFor, input_of, PickTwice, marks-append, IsGoodChange, next_open, AreFit, open_behind, entries_from, at_start, entries_are, read_again, read_again_is, read_item, time_items, written_items, IsWritable, AreWritable, Stand, stand_more, at_most, last_time, last_open, parts_items, parts_fit, closing_items, all_append, AreCodes, AreDeclared, head_of, Open, HasOpen, written}
use Rattle.vcd_model.specs.Items.{marks}
use Rattle.vcd_model.specs.Selection.{selected}
use Rattle.vcd_model.specs.Pick.{pick_open, pick_close}
use Rattle.vcd_model.specs.Outcome.{over_dump}
use Rattle.vcd_model.specs.Job.{request_of}
use Rattle.vcd_laws.proofs.PickLaw.{picks, pick_parts}
use Rattle.vcd_laws.proofs.OpenedBodies.{opens_good, opened_fit, opened_shut}
use Rattle.vcd_laws.proofs.WrittenCodes.{In}
use Rattle.vcd_laws.proofs.HeadBack.{marks as marks_of, own_code, rows_written, rows_declared, rows_selected, head_is, opens_header}
use Rattle.vcd_laws.proofs.MergedHead.{selected_after, selected_more}
use Rattle.vcd_laws.proofs.WrittenCodes.{from_filter}
use Rattle.vcd_laws.proofs.RunLaws.{pick_body, opened_run}
use Rattle.vcd_laws.proofs.PickUses.{chosen, selected_is, same_selected, same_unmatched, sampled}
use Rattle.vcd_laws.proofs.EdgesOfPick.{picked_items}
use Rattle.vcd_laws.proofs.HeadTwice.{all_used, written_same}

-- ---- lines of what is read again

-- the line of a change of this code
abbrev line_of : IdCode → Value → List ℕ
line_of code v = cond code.event (as_line (49 ∷ code.text)) (value_line code v)

line_again : (codes : List IdCode) (c : Change) → IsGoodChange codes c → 0 < c.code.size
    → change_line (read_again c) ≡ change_line c
line_again codes c good some =
    let r = read_again_is codes c good some in
    ap (λ k. line_of k (value_of (read_again c))) r.same ∙ by_event c.code.event refl r.value
  where
    by_event : (b : Bool) → c.code.event ≡ b
        → (c.code.event ≡ false → value_of (read_again c) ≡ value_of c)
        → line_of c.code (value_of (read_again c)) ≡ line_of c.code (value_of c)
    by_event true e same = rw e refl
    by_event false e same = ap (line_of c.code) (same e)

pub item_again : (codes : List IdCode) (o : Bool) (x : BodyItem) → IsWritable codes o x
    → item_line (read_item x) ≡ item_line x
item_again codes o (BodyItem.Time u) h = absurd h
item_again codes o (BodyItem.Begin s) h = refl
item_again codes o BodyItem.End h = refl
item_again codes o (BodyItem.Changes c) h = line_again codes c h.0 h.1

-- ---- entries that are read again

-- each entry knows whether a section is open
abbrev pub Insides : Bool → List Entry → Type 0
Insides o [] = ⊤
Insides o (e ∷ es) = (e.inside ≡ o) × Insides (next_open o e.item) es

-- the entries that kept ones are read as
abbrev pub reread : Bool → List Entry → List Entry
reread o [] = []
reread o (e ∷ es) = record { time = e.time; inside = o; item = read_item e.item } ∷ reread
    (next_open o e.item) es

reread_times : (o : Bool) (es : List Entry)
    → map (λ (e : Entry). e.time) (reread o es) ≡ map (λ (e : Entry). e.time) es
reread_times o [] = refl
reread_times o (e ∷ es) = ap (λ l. e.time ∷ l) (reread_times (next_open o e.item) es)

reread_text : (codes : List IdCode) (t : ℕ) (o : Bool) (w : List ℕ) (es : List Entry)
    → AreWritable codes t o es → text_after w (reread o es) ≡ text_after w es
reread_text codes t o w [] h = refl
reread_text codes t o w (e ∷ es) h =
    ap (λ l. time_unless w e.time ++ l ++ text_after (w ++ e.time ∷ [])
    (reread (next_open o e.item) es)) (item_again codes o e.item h.3)
    ∙ ap (λ l. time_unless w e.time ++ item_line e.item ++ l)
    (reread_text codes e.time (next_open o e.item) (w ++ e.time ∷ []) es h.4)

module _ (codes : List IdCode) (vs : List Selected) where
  pub over_time : (t u : ℕ) (o : Bool) (w : List ℕ) (xs : List BodyItem) → Stand w t o → t ≤ u
      → filter (picks vs) (entries_from t o (time_items w u ++ xs))
      ≡ filter (picks vs) (entries_from u o xs)
  over_time t u o w xs s l = by_any (list_any (λ v. v == u) w) refl
    where
      by_any : (b : Bool) → list_any (λ v. v == u) w ≡ b
          → filter (picks vs) (entries_from t o (cond b [] (BodyItem.Time u ∷ []) ++ xs))
          ≡ filter (picks vs) (entries_from u o xs)
      by_any true e = let m = at_most w t u s.below e in let same : t ≡ u = omega arith in
          ap (λ (x : ℕ). filter (picks vs) (entries_from x o xs)) same
      by_any false e = refl

  -- one kept entry, and what follows
  over_item : (u : ℕ) (o inside : Bool) (x : BodyItem) (xs : List BodyItem) → IsWritable codes o x
      → inside ≡ o → picks vs (record { time = u; inside = inside; item = x }) ≡ true
      → filter (picks vs) (entries_from u o (read_item x ∷ xs)) ≡ record {
        time = u;
        inside = o;
        item = read_item x;
      } ∷ filter (picks vs)
      (entries_from u (next_open o x) xs)
  over_item u o inside (BodyItem.Time t) xs h same p = absurd h
  over_item u o inside (BodyItem.Begin s) xs h same p = refl
  over_item u o inside BodyItem.End xs h same p = refl
  over_item u o inside (BodyItem.Changes d) xs h same p =
      let r = read_again_is codes d h.0 h.1 in
      let q : (selects_code vs (read_again d).code && not ((read_again d).code.event && o)) ≡ true =
      ap (λ (k : IdCode). selects_code vs k && not (k.event && o)) r.same
      ∙ ap (λ b. selects_code vs d.code && not (d.code.event && b)) (sym same) ∙ p in
      rw q refl

  twice : (es : List Entry) (t : ℕ) (o : Bool) (w : List ℕ) (rest : List BodyItem)
      → AreWritable codes t o es → Stand w t o → Insides o es
      → AllByRecursion (λ e. picks vs e ≡ true) es
      → filter (picks vs) (entries_from t o (written_items w es ++ rest)) ≡ reread o es
      ++ filter (picks vs) (entries_from (last_time t es) (last_open o es) rest)
  twice [] t o w rest h s i p = refl
  twice (e ∷ es) t o w rest h s i p =
      let more = written_items (w ++ e.time ∷ []) es in
      ap (λ l. filter (picks vs) (entries_from t o l))
      (append_assoc (time_items w e.time) (read_item e.item ∷ more) rest)
      ∙ over_time t e.time o w (read_item e.item ∷ (more ++ rest)) s h.0
      ∙ over_item e.time o e.inside e.item (more ++ rest) h.3 i.0 p.0
      ∙ ap (λ l. record { time = e.time; inside = o; item = read_item e.item } ∷ l)
      (twice es e.time (next_open o e.item) (w ++ e.time ∷ []) rest h.4
      (stand_more w t e.time o (next_open o e.item) s h.0) i.1 p.1)

  pub closing_dropped : (t : ℕ) (o : Bool) (w : List ℕ) (mark : Option ℕ)
      → filter (picks vs) (entries_from t o (closing_items w mark)) ≡ []
  closing_dropped t o w None = refl
  closing_dropped t o w (Some e) = by_any (list_any (λ v. v == e) w)
    where
      by_any : (b : Bool) → filter (picks vs) (entries_from t o (cond b [] (BodyItem.Time e ∷ [])))
          ≡ []
      by_any true = refl
      by_any false = refl

  pub kept_insides : (t : ℕ) (o : Bool) (items : List BodyItem)
      → Insides o (filter (picks vs) (entries_from t o items))
  kept_insides t o [] = tt
  kept_insides t o (BodyItem.Time u ∷ items) = kept_insides u o items
  kept_insides t o (BodyItem.Begin s ∷ items) = (refl, kept_insides t true items)
  kept_insides t o (BodyItem.End ∷ items) = (refl, kept_insides t false items)
  kept_insides t o (BodyItem.Changes d ∷ items) =
      by_keep (selects_code vs d.code && not (d.code.event && o)) (kept_insides t o items)
    where
      rest : List Entry
      rest = filter (picks vs) (entries_from t o items)

      by_keep : (b : Bool) → Insides o rest
          → Insides o (cond b (record { time = t; inside = o; item = BodyItem.Changes d } ∷ rest)
          rest)
      by_keep true more = (refl, more)
      by_keep false more = more

pub all_kept : {X : Type 0} (test : X → Bool) (xs : List X)
    → AllByRecursion (λ x. test x ≡ true) (filter test xs)
all_kept test [] = tt
all_kept test (x ∷ xs) = by_test (test x) refl (all_kept test xs)
  where
    by_test : (b : Bool) → test x ≡ b → AllByRecursion (λ y. test y ≡ true) (filter test xs)
        → AllByRecursion (λ y. test y ≡ true) (cond b (x ∷ filter test xs) (filter test xs))
    by_test true e more = (e, more)
    by_test false e more = more

-- ---- the last timestamp

abbrev Stands : List ℕ → ℕ → Type 0
Stands w u = list_any (λ v. v == u) w ≡ true

marks_stand : (codes : List IdCode) (t : ℕ) (o : Bool) (front w : List ℕ) (es : List Entry)
    → AreWritable codes t o es
    → AllByRecursion (Stands (front ++ map (λ (e : Entry). e.time) es)) (marks (written_items w es))
marks_stand codes t o front w [] h = tt
marks_stand codes t o front w (e ∷ es) h =
    let rest = written_items (w ++ e.time ∷ []) es in
    let times = map (λ (x : Entry). x.time) es in
    let more : AllByRecursion (Stands (front ++ e.time ∷ times)) (marks rest) =
    subst (λ (l : List ℕ). AllByRecursion (Stands l) (marks rest))
    (append_assoc front (e.time ∷ []) times)
    (marks_stand codes e.time (next_open o e.item) (front ++ e.time ∷ []) (w ++ e.time ∷ []) es
    h.4) in
    let own : Stands (front ++ e.time ∷ times) e.time =
    list_any-append (λ v. v == e.time) front (e.time ∷ times)
    ∙ rw (eq-eqb e.time e.time refl) (or_true (list_any (λ v. v == e.time) front)) in
    subst (AllByRecursion (Stands (front ++ e.time ∷ times)))
    (sym (marks-append (time_items w e.time) (read_item e.item ∷ rest)))
    (all_append (Stands (front ++ e.time ∷ times)) (marks (time_items w e.time))
    (marks (read_item e.item ∷ rest)) (time_mark (list_any (λ v. v == e.time) w) own)
    (item_mark e.item h.3 more))
  where
    or_true : (b : Bool) → (b || true) ≡ true
    or_true true = refl
    or_true false = refl

    time_mark : (b : Bool) → Stands (front ++ e.time ∷ map (λ (x : Entry). x.time) es) e.time
        → AllByRecursion (Stands (front ++ e.time ∷ map (λ (x : Entry). x.time) es))
        (marks (cond b [] (BodyItem.Time e.time ∷ [])))
    time_mark true own = tt
    time_mark false own = (own, tt)

    item_mark : (x : BodyItem) → IsWritable codes o x
        → AllByRecursion (Stands (front ++ e.time ∷ map (λ (y : Entry). y.time) es))
        (marks (written_items (w ++ e.time ∷ []) es))
        → AllByRecursion (Stands (front ++ e.time ∷ map (λ (y : Entry). y.time) es))
        (marks (read_item x ∷ written_items (w ++ e.time ∷ []) es))
    item_mark (BodyItem.Time u) h more = absurd h
    item_mark (BodyItem.Begin s) h more = more
    item_mark BodyItem.End h more = more
    item_mark (BodyItem.Changes c) h more = more

last_stands : (P : ℕ → Type 0) (xs : List ℕ) (o : Option ℕ) (e : ℕ) → ((x : ℕ) → o ≡ Some x → P x)
    → AllByRecursion P xs → last_or o xs ≡ Some e → P e
last_stands P [] o e f h l = f e l
last_stands P (x ∷ xs) o e f h l =
    last_stands P xs (Some x) e (λ y q. let same : x ≡ y = cc in subst P same h.0) h.1 l

-- a timestamp that was written is not written again
closing_none : (w : List ℕ) (o : Option ℕ) → ((e : ℕ) → o ≡ Some e → Stands w e) → closing w o ≡ []
closing_none w None f = refl
closing_none w (Some e) f = rw (f e refl) refl

pub last_push : (xs : List ℕ) (o : Option ℕ) (e : ℕ) → last_or o (xs ++ e ∷ []) ≡ Some e
last_push [] o e = refl
last_push (x ∷ xs) o e = last_push xs (Some x) e

-- the closing timestamp of what is read again
closing_same : (items : List BodyItem) (w : List ℕ) (mark : Option ℕ)
    → AllByRecursion (Stands w) (marks items)
    → closing w (last_mark (items ++ closing_items w mark)) ≡ closing w mark
closing_same items w None all =
    closing_none w (last_mark (items ++ [])) (λ e l. last_stands (Stands w) (marks items) None e
    (λ x q. cc) all (ap (λ (x : List BodyItem). last_mark x) (sym (append-nil items)) ∙ l))
closing_same items w (Some m) all = by_any (list_any (λ v. v == m) w) refl
  where
    by_any : (b : Bool) → list_any (λ v. v == m) w ≡ b
        → closing w (last_mark (items ++ cond (list_any (λ v. v == m) w) [] (BodyItem.Time m ∷ [])))
        ≡ closing w (Some m)
    by_any true e = rw e (closing_none w (last_mark (items ++ []))
        (λ x l. last_stands (Stands w) (marks items) None x (λ y q. cc) all
        (ap (λ (y : List BodyItem). last_mark y) (sym (append-nil items)) ∙ l)))
    by_any false e = rw e (ap (closing w) (ap (last_or None)
        (marks-append items (BodyItem.Time m ∷ [])) ∙ last_push (marks items) None m) ∙ rw e refl)

-- ---- the text

body_twice : (codes : List IdCode) (vs : List Selected) (items : List BodyItem) → AreCodes codes
    → AreFit codes 0 false items → open_behind false items ≡ false
    → let kept = filter (picks vs) (entries_from 0 false items) in
    let read = parts_items [] [] kept (last_mark items) in
    text_after [] (filter (picks vs) (entries read))
    ++ closing (map (λ e. e.time) (filter (picks vs) (entries read))) (last_mark read)
    ≡ text_after [] kept ++ closing (map (λ e. e.time) kept) (last_mark items)
body_twice codes vs items are fit shut =
    let kept = filter (picks vs) (entries_from 0 false items) in
    let new = filter (selects_code vs) codes in
    let mark = last_mark items in
    let w = map (λ (e : Entry). e.time) kept in
    let read = parts_items [] [] kept mark in
    let parts = pick_parts codes vs items are fit shut in
    let es : entries read ≡ entries_from 0 false read =
    entries_are new [] 0 false read at_start (parts_fit new [] [] kept mark parts) in
    let again : filter (picks vs) (entries read) ≡ reread false kept
    = ap (filter (picks vs)) es
    ∙ twice new vs kept 0 false [] (closing_items w mark) parts.writable
    (record { below = tt; there = λ e. cc }) (kept_insides codes vs 0 false items)
    (all_kept (picks vs) (entries_from 0 false items))
    ∙ ap (λ l. reread false kept ++ l) (closing_dropped codes vs (last_time 0 kept)
    (last_open false kept) w mark)
    ∙ append-nil (reread false kept) in
    let marked : AllByRecursion (Stands w) (marks (written_items [] kept)) =
    marks_stand new 0 false [] [] kept parts.writable in
    ap (λ l. text_after [] l ++ closing (map (λ (e : Entry). e.time) l) (last_mark read)) again
    ∙ ap (λ l. l ++ closing (map (λ (e : Entry). e.time) (reread false kept)) (last_mark read))
    (reread_text new 0 false [] kept parts.writable)
    ∙ ap (λ l. text_after [] kept ++ closing l (last_mark read)) (reread_times false kept)
    ∙ ap (λ l. text_after [] kept ++ l) (closing_same (written_items [] kept) w mark marked)

-- ---- the head

pub no_open : (ds : List Declaration) (t : List Open) → HasOpen ds t → map (λ (e : Open). e.1) t ≡ []
    → HasOpen ds []
no_open ds [] is e = is
no_open ds (x ∷ t) is e = cc

in_middle : {X : Type 0} (front back : List X) (x : X) → In x (front ++ x ∷ back)
in_middle [] back x = inl refl
in_middle (y ∷ front) back x = inr (in_middle front back x)

rows_chosen : (names : List (List ℕ)) (ds : List Declaration) (are : AreDeclared [] ds)
    (front back : List Declaration) (v : Variable)
    → written own_code (marks_of names ds) ds ≡ front ++ Declaration.Var v ∷ back
    → is_selected names front (Declaration.Var v) ≡ true
unfolding selected
rows_chosen names ds are front back v e =
    let es = written own_code (marks_of names ds) ds in
    let s : Selected = record { path = path_of front (Declaration.Var v); variable = v } in
    let here : In s (selected_after [] [] front
    ++ (s ∷ selected_after [] (front ++ Declaration.Var v ∷ []) back)) =
    in_middle (selected_after [] [] front)
    (selected_after [] (front ++ Declaration.Var v ∷ []) back) s in
    let there : In s (selected [] es) =
    subst (In s) (sym (ap (selected_after [] []) e
    ∙ selected_more [] front (Declaration.Var v ∷ back))) here in
    (from_filter (chosen names) (selected [] ds) s
    (subst (In s) (rows_selected names ds are ∙ selected_is names ds) there)).1

rows_twice : (names : List (List ℕ)) (ds : List Declaration) → AreDeclared [] ds
    → written own_code (marks_of names (written own_code (marks_of names ds) ds))
    (written own_code (marks_of names ds) ds) ≡ written own_code (marks_of names ds) ds
rows_twice names ds are =
    let r = rows_written names ds are in
    written_same names (written own_code (marks_of names ds) ds) (rows_declared names ds are)
    (rows_chosen names ds are) (no_open (written own_code (marks_of names ds) ds) r.t r.wrote
    r.same) (all_used names ds are)

pub head_twice : (names : List (List ℕ)) (h k : Header) → IsHeadFor h names k
    → AreDeclared [] h.declarations
    → k.declarations ≡ written own_code (marks_of names h.declarations) h.declarations
    → head_for k names ≡ head_for h names
head_twice names h k is are rows =
    let es = written own_code (marks_of names h.declarations) h.declarations in
    head_is k names
    ∙ ap (λ (l : List Declaration). head_of k (written own_code (marks_of names l) l)) rows
    ∙ ap (head_of k) (rows_twice names h.declarations are)
    ∙ rw (is.date, is.version, is.scale) refl
    ∙ sym (head_is h names)

-- ---- the law

pub pick_run : (names : List (List ℕ)) (name : List ℕ) (o : Opened) → fault_in o ≡ None
    → over_opened (Want.Pick names) (name ∷ []) (o ∷ [])
    ≡ sampled names (first_unmatched names o.header.declarations)
    (pick_open o.header names (items_in o) ++ pick_close o.header names (items_in o))
unfolding request_of over_dump sampled
pick_run names name o none = by_place (first_unmatched names o.header.declarations)
  where
    by_place : (place : Option ℕ)
        → ◌≡◌ {A = Outcome} (elim place [
          | Some i ↦ unmatched_outcome
              (name_at names i)
          | None ↦ over_body (Request.Pick names) o.header (items_in o) name
              (fault_in o)
        ]) (sampled names place (pick_open o.header names (items_in o)
        ++ pick_close o.header names (items_in o)))
    by_place (Some i) = refl
    by_place None = pick_body names o.header (items_in o) name (fault_in o)
        ∙ ap (at_end (Request.Pick names) o.header (items_in o) name) none

pub pick_twice : PickTwice
unfolding pick_open pick_close
pick_twice limit name names input o can =
    let opens = can.opens in
    let p = picked_items limit name names input o can in
    let d = p.dump in
    let k = d.dump in
    let head = d.head in
    let out = written_by (Want.Pick names) limit name input in
    let good = opens_good limit input o opens in
    let fit = opened_fit o good in
    let shut = opened_shut o good p.none in
    let items = items_in o in
    let vs = selected names o.header.declarations in
    let header = opens_header limit input o opens in
    let selection = same_selected names names o.header k.header head.variables (λ s i e. e) in
    let unmatched = same_unmatched names names names o.header k.header head.variables (λ s i e. e)
    (λ n i. i) in
    let es = entries_are o.header.codes [] 0 false items at_start fit in
    let own = filter (picks vs) (entries_from 0 false items) in
    let body = λ (us : List Selected) (xs : List BodyItem). text_after []
    (filter (picks us) (entries xs)) ++ closing
    (map (λ (e : Entry). e.time) (filter (picks us) (entries xs))) (last_mark xs) in
    let first : body (selected names k.header.declarations) (items_in k) ≡ body vs items
    = ap (λ us. body us (items_in k)) selection ∙ ap (body vs) p.items
    ∙ body_twice o.header.codes vs items good.codes fit shut
    ∙ ap (λ l. text_after [] (filter (picks vs) l)
    ++ closing (map (λ (e : Entry). e.time) (filter (picks vs) l)) (last_mark items))
    (sym es) in
    let text : pick_open k.header names (items_in k) ++ pick_close k.header names (items_in k)
    ≡ pick_open o.header names items ++ pick_close o.header names items
    = append_assoc (head_for k.header names) (text_after []
    (filter (picks (selected names k.header.declarations)) (entries (items_in k))))
    (closing (map (λ (e : Entry). e.time)
    (filter (picks (selected names k.header.declarations)) (entries (items_in k))))
    (last_mark (items_in k)))
    ∙ ap (λ l. l ++ body (selected names k.header.declarations) (items_in k))
    (head_twice names o.header k.header head header.declared p.rows)
    ∙ ap (λ l. head_for o.header names ++ l) first
    ∙ sym (append_assoc (head_for o.header names)
    (text_after [] (filter (picks vs) (entries items)))
    (closing (map (λ (e : Entry). e.time) (filter (picks vs) (entries items)))
    (last_mark items))) in
    opened_run (Want.Pick names) limit name (input_of out) k d.opens
    ∙ pick_run names name k d.whole
    ∙ ap (sampled names (first_unmatched names k.header.declarations)) text
    ∙ ap (λ place. sampled names place (pick_open o.header names items
    ++ pick_close o.header names items)) unmatched
    ∙ sym (pick_run names name o p.none)
    ∙ sym (opened_run (Want.Pick names) limit name input o opens)
