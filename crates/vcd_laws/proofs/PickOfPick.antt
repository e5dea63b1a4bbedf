-- `pick` of what `pick` wrote is `pick` of its input, for what both select.
use Rattle.vcd_laws.proofs.Cited.{◌≡◌, ◌≢◌, ℕ, Bool, true, false, cond, not, ◌&&◌, bytes_eq, List, [], ◌∷◌, ◌++◌, map, filter, Option, Some, None, inl, inr, refl, sym, ap, ◌∙◌, subst, last_or, append_assoc, append-nil, Declaration, Variable, IdCode, path_of, Header, BodyItem, Entry, entries, item_line, time_unless, text_after, closing, last_mark, head_for, Selected, is_selected, selects_code, items_in, clean_outcome, Want, written_by, IsHeadFor, input_of, SelectBoth, PickOfPick, as_list, next_open, AreFit, open_behind, entries_from, at_start, entries_are, read_again_is, read_item, time_items, written_items, IsWritable, AreWritable, Stand, stand_more, last_time, last_open, parts_items, parts_fit, closing_items, AreCodes, AreDeclared, head_of, written}
use Rattle.vcd_model.specs.Selection.{selected}
use Rattle.vcd_model.specs.Pick.{pick_open, pick_close}
use Rattle.vcd_laws.proofs.PickLaw.{picks, pick_parts}
use Rattle.vcd_laws.proofs.OpenedBodies.{opens_good, opened_fit, opened_shut}
use Rattle.vcd_laws.proofs.WrittenCodes.{In, from_contained, to_contained, from_any, any_of}
use Rattle.vcd_laws.proofs.MergedHead.{selected_after, selected_more}
use Rattle.vcd_laws.proofs.HeadBack.{marks as marks_of, own_code, head_is, opens_header}
use Rattle.vcd_laws.proofs.RunLaws.{opened_run}
use Rattle.vcd_laws.proofs.PickUses.{chosen, sampled}
use Rattle.vcd_laws.proofs.PickedAlone.{both_tests, both_chosen, SelectAlike, both_alike}
use Rattle.vcd_laws.proofs.EdgesOfPick.{picked_items}
use Rattle.vcd_laws.proofs.WrittenCounts.{parts_counts}
use Rattle.vcd_laws.proofs.PickTwice.{Insides, reread, item_again, over_time, closing_dropped, kept_insides, last_push, pick_run}
use Rattle.vcd_laws.proofs.HeadOfHead.{head_of_head}

-- ---- the head

in_middle : {X : Type 0} (front back : List X) (x : X) → In x (front ++ x ∷ back)
in_middle [] back x = inl refl
in_middle (y ∷ front) back x = inr (in_middle front back x)

-- a variable of a header, with its path
variable_in : (ds front back : List Declaration) (v : Variable)
    → ds ≡ front ++ Declaration.Var v ∷ back
    → In (record { path = path_of front (Declaration.Var v); variable = v }) (selected [] ds)
unfolding selected
variable_in ds front back v e =
    let s : Selected = record { path = path_of front (Declaration.Var v); variable = v } in
    let here : In s (selected_after [] [] front
    ++ (s ∷ selected_after [] (front ++ Declaration.Var v ∷ []) back)) =
    in_middle (selected_after [] [] front)
    (selected_after [] (front ++ Declaration.Var v ∷ []) back) s in
    subst (In s) (sym (ap (selected_after [] []) e
    ∙ selected_more [] front (Declaration.Var v ∷ back))) here

head_same : (names wanted both : List (List ℕ)) (h k : Header) → IsHeadFor h names k
    → AreDeclared [] h.declarations
    → k.declarations ≡ written own_code (marks_of names h.declarations) h.declarations
    → SelectBoth wanted names both h → head_for k wanted ≡ head_for h both
head_same names wanted both h k is are rows both_is =
    let agree : (front back : List Declaration) (v : Variable)
    → h.declarations ≡ front ++ Declaration.Var v ∷ back
    → is_selected both front (Declaration.Var v)
    ≡ (chosen wanted (record { path = path_of front (Declaration.Var v); variable = v })
    && is_selected names front (Declaration.Var v)) = λ front back v e.
    both_chosen wanted names both h both_is
    (record { path = path_of front (Declaration.Var v); variable = v })
    (variable_in h.declarations front back v e) in
    head_is k wanted
    ∙ ap (λ (l : List Declaration). head_of k (written own_code (marks_of wanted l) l)) rows
    ∙ ap (head_of k) (head_of_head names wanted both h.declarations are agree)
    ∙ rw (is.date, is.version, is.scale) refl
    ∙ sym (head_is h both)

-- ---- what is picked of what was picked

-- codes of some variables are among those of others
abbrev AreAmong : List Selected → List Selected → Type 0
AreAmong us vs = (c : IdCode) → selects_code us c ≡ true → selects_code vs c ≡ true

both_among : (names wanted both : List (List ℕ)) (h : Header) → SelectBoth wanted names both h
    → AreAmong (selected both h.declarations) (selected names h.declarations)
both_among names wanted both h is c e =
    let carries = λ (s : Selected). bytes_eq s.variable.code c.text in
    let together = is.together in
    let s = from_any carries (selected both h.declarations) e in
    let t = (together s.0).0 (to_contained (selected both h.declarations) s.0 s.1) in
    any_of carries (selected names h.declarations) s.0
    (from_contained (selected names h.declarations) s.0 t.1) s.2

module _ (us vs : List Selected) (among : AreAmong us vs) where
  picked_again : (es : List Entry) → filter (picks us) (filter (picks vs) es) ≡ filter (picks us) es
  picked_again es = both_tests (picks us) (picks vs) (picks us) es (λ e i. one e.time e.inside e.item)
    where
      by_tests : (a b k : Bool) → (a ≡ true → b ≡ true) → (a && k) ≡ ((a && k) && (b && k))
      by_tests true true true f = refl
      by_tests true true false f = refl
      by_tests true false k f = let e = f refl in cc
      by_tests false b k f = refl

      one : (t : ℕ) (o : Bool) (x : BodyItem)
          → picks us (record { time = t; inside = o; item = x })
          ≡ (picks us (record { time = t; inside = o; item = x })
          && picks vs (record { time = t; inside = o; item = x }))
      one t o (BodyItem.Time u) = refl
      one t o (BodyItem.Begin s) = refl
      one t o BodyItem.End = refl
      one t o (BodyItem.Changes c) =
          by_tests (selects_code us c.code) (selects_code vs c.code) (not (c.code.event && o))
          (among c.code)

-- the items that kept entries are read as, picked
picked_written : (codes : List IdCode) (us : List Selected) (es : List Entry) (t : ℕ) (o : Bool)
    (w : List ℕ) (rest : List BodyItem) → AreWritable codes t o es → Stand w t o
    → filter (picks us) (entries_from t o (written_items w es ++ rest))
    ≡ filter (picks us) (reread o es)
    ++ filter (picks us) (entries_from (last_time t es) (last_open o es) rest)
picked_written codes us [] t o w rest h s = refl
picked_written codes us (e ∷ es) t o w rest h s =
    let more = written_items (w ++ e.time ∷ []) es in
    ap (λ l. filter (picks us) (entries_from t o l))
    (append_assoc (time_items w e.time) (read_item e.item ∷ more) rest)
    ∙ over_time codes us t e.time o w (read_item e.item ∷ (more ++ rest)) s h.0
    ∙ over_item e.item h.3
    ∙ ap (λ l. cond (picks us own) (own ∷ l) l) (picked_written codes us es e.time
    (next_open o e.item) (w ++ e.time ∷ []) rest h.4
    (stand_more w t e.time o (next_open o e.item) s h.0))
    ∙ by_test (picks us own) (filter (picks us) (reread (next_open o e.item) es))
    (filter (picks us) (entries_from (last_time e.time es) (last_open (next_open o e.item) es) rest))
  where
    own : Entry
    own = record { time = e.time; inside = o; item = read_item e.item }

    by_test : (b : Bool) (xs ys : List Entry)
        → cond b (own ∷ (xs ++ ys)) (xs ++ ys) ≡ cond b (own ∷ xs) xs ++ ys
    by_test true xs ys = refl
    by_test false xs ys = refl

    over_item : (x : BodyItem) → IsWritable codes o x
        → filter (picks us) (entries_from e.time o (read_item x ∷ (written_items (w ++ e.time ∷ [])
        es ++ rest))) ≡ cond (picks us (record { time = e.time; inside = o; item = read_item x }))
        (record { time = e.time; inside = o; item = read_item x } ∷ filter (picks us)
        (entries_from e.time (next_open o x) (written_items (w ++ e.time ∷ []) es ++ rest)))
        (filter (picks us) (entries_from e.time (next_open o x) (written_items (w ++ e.time ∷ []) es
        ++ rest)))
    over_item (BodyItem.Time u) g = absurd g
    over_item (BodyItem.Begin k) g = refl
    over_item BodyItem.End g = refl
    over_item (BodyItem.Changes d) g = refl

-- ---- its text

picks_again : (codes : List IdCode) (us : List Selected) (t : ℕ) (o inside : Bool) (x : BodyItem)
    → IsWritable codes o x → inside ≡ o
    → picks us (record { time = t; inside = o; item = read_item x })
    ≡ picks us (record { time = t; inside = inside; item = x })
picks_again codes us t o inside (BodyItem.Time u) h same = absurd h
picks_again codes us t o inside (BodyItem.Begin s) h same = refl
picks_again codes us t o inside BodyItem.End h same = refl
picks_again codes us t o inside (BodyItem.Changes d) h same =
    let r = read_again_is codes d h.0 h.1 in
    ap (λ (k : IdCode). selects_code us k && not (k.event && o)) r.same
    ∙ ap (λ b. selects_code us d.code && not (d.code.event && b)) (sym same)

text_again : (codes : List IdCode) (us : List Selected) (t : ℕ) (o : Bool) (w : List ℕ)
    (es : List Entry) → AreWritable codes t o es → Insides o es
    → text_after w (filter (picks us) (reread o es)) ≡ text_after w (filter (picks us) es)
text_again codes us t o w [] h i = refl
text_again codes us t o w (e ∷ es) h i =
    ap (λ b. text_after w (cond b (own ∷ rest) rest))
    (picks_again codes us e.time o e.inside e.item h.3 i.0)
    ∙ by_test (picks us e) (λ v. text_again codes us e.time (next_open o e.item) v es h.4 i.1)
  where
    rest : List Entry
    rest = filter (picks us) (reread (next_open o e.item) es)

    own : Entry
    own = record { time = e.time; inside = o; item = read_item e.item }

    by_test : (b : Bool)
        → ((v : List ℕ) → text_after v rest ≡ text_after v (filter (picks us) es))
        → text_after w (cond b (own ∷ rest) rest)
        ≡ text_after w (cond b (e ∷ filter (picks us) es) (filter (picks us) es))
    by_test true more =
        ap (λ l. time_unless w e.time ++ item_line (read_item e.item) ++ l)
        (more (w ++ e.time ∷ []))
        ∙ ap (λ l. time_unless w e.time ++ l ++ text_after (w ++ e.time ∷ [])
        (filter (picks us) es)) (item_again codes o e.item h.3)
    by_test false more = more w

times_again : (codes : List IdCode) (us : List Selected) (t : ℕ) (o : Bool) (es : List Entry)
    → AreWritable codes t o es → Insides o es
    → map (λ (e : Entry). e.time) (filter (picks us) (reread o es))
    ≡ map (λ (e : Entry). e.time) (filter (picks us) es)
times_again codes us t o [] h i = refl
times_again codes us t o (e ∷ es) h i =
    ap (λ b. map (λ (x : Entry). x.time) (cond b (own ∷ rest) rest))
    (picks_again codes us e.time o e.inside e.item h.3 i.0)
    ∙ by_test (picks us e) (times_again codes us e.time (next_open o e.item) es h.4 i.1)
  where
    rest : List Entry
    rest = filter (picks us) (reread (next_open o e.item) es)

    own : Entry
    own = record { time = e.time; inside = o; item = read_item e.item }

    by_test : (b : Bool)
        → map (λ (x : Entry). x.time) rest ≡ map (λ (x : Entry). x.time) (filter (picks us) es)
        → map (λ (x : Entry). x.time) (cond b (own ∷ rest) rest)
        ≡ map (λ (x : Entry). x.time) (cond b (e ∷ filter (picks us) es) (filter (picks us) es))
    by_test true more = ap (λ l. e.time ∷ l) more
    by_test false more = more

-- the text of what is picked, if the last timestamp is this
abbrev picked_text : List Selected → List Entry → Option ℕ → List ℕ
picked_text us es mark =
    text_after [] (filter (picks us) es) ++ closing (map (λ e. e.time) (filter (picks us) es)) mark

body_same : (codes : List IdCode) (us vs : List Selected) (items : List BodyItem) (m : ℕ)
    → AreCodes codes → AreFit codes 0 false items → open_behind false items ≡ false
    → AreAmong us vs → last_mark items ≡ Some m
    → let read = parts_items [] [] (filter (picks vs) (entries_from 0 false items))
    (last_mark items) in
    picked_text us (entries read) (last_mark read) ≡ picked_text us (entries items) (last_mark items)
body_same codes us vs items m are fit shut among last =
    let own = filter (picks vs) (entries_from 0 false items) in
    let new = filter (selects_code vs) codes in
    let mark = last_mark items in
    let w = map (λ (e : Entry). e.time) own in
    let read = parts_items [] [] own mark in
    let parts = pick_parts codes vs items are fit shut in
    let inside = kept_insides codes vs 0 false items in
    let es : entries read ≡ entries_from 0 false read =
    entries_are new [] 0 false read at_start (parts_fit new [] [] own mark parts) in
    let again : filter (picks us) (entries read) ≡ filter (picks us) (reread false own)
    = ap (filter (picks us)) es
    ∙ picked_written new us own 0 false [] (closing_items w mark) parts.writable
    (record { below = tt; there = λ e. cc })
    ∙ ap (λ l. filter (picks us) (reread false own) ++ l) (closing_dropped codes us
    (last_time 0 own) (last_open false own) w mark)
    ∙ append-nil (filter (picks us) (reread false own)) in
    let there : filter (picks us) own ≡ filter (picks us) (entries items)
    = picked_again us vs among (entries_from 0 false items)
    ∙ ap (filter (picks us)) (sym (entries_are codes [] 0 false items at_start fit)) in
    let counts = parts_counts new [] [] own mark parts refl refl (λ e. cc) in
    let ends : last_mark read ≡ mark
    = counts.last_is ∙ ap (λ o. last_or None (w ++ as_list o)) last ∙ last_push w None m ∙ sym last in
    ap (λ l. text_after [] l ++ closing (map (λ (e : Entry). e.time) l) (last_mark read)) again
    ∙ ap (λ l. l ++ closing (map (λ (e : Entry). e.time) (filter (picks us) (reread false own)))
    (last_mark read)) (text_again new us 0 false [] own parts.writable inside)
    ∙ ap (λ l. text_after [] (filter (picks us) own) ++ closing l (last_mark read))
    (times_again new us 0 false own parts.writable inside)
    ∙ ap (λ o. picked_text us own o) ends
    ∙ ap (λ l. text_after [] l ++ closing (map (λ (e : Entry). e.time) l) mark) there

-- ---- the law

pub pick_of_pick : PickOfPick
unfolding pick_open pick_close sampled
pick_of_pick limit name names wanted both input o can is marked =
    let opens = can.opens in
    let p = picked_items limit name names input o can in
    let d = p.dump in
    let k = d.dump in
    let head = d.head in
    let h = o.header in
    let out = written_by (Want.Pick names) limit name input in
    let good = opens_good limit input o opens in
    let fit = opened_fit o good in
    let shut = opened_shut o good p.none in
    let items = items_in o in
    let vs = selected names h.declarations in
    let us = selected both h.declarations in
    let header = opens_header limit input o opens in
    let alike : SelectAlike wanted both k.header h =
    both_alike names wanted both k.header h head.variables is in
    let body = λ (xs : List Selected) (ys : List BodyItem).
    picked_text xs (entries ys) (last_mark ys) in
    let same : body (selected wanted k.header.declarations) (items_in k) ≡ body us items
    = ap (λ xs. body xs (items_in k)) alike.selection ∙ ap (body us) p.items
    ∙ by_mark (last_mark items) refl marked (λ m e. body_same h.codes us vs items m good.codes fit
    shut (both_among names wanted both h is) e) in
    let text : pick_open k.header wanted (items_in k) ++ pick_close k.header wanted (items_in k)
    ≡ pick_open h both items ++ pick_close h both items
    = append_assoc (head_for k.header wanted) (text_after []
    (filter (picks (selected wanted k.header.declarations)) (entries (items_in k))))
    (closing (map (λ (e : Entry). e.time)
    (filter (picks (selected wanted k.header.declarations)) (entries (items_in k))))
    (last_mark (items_in k)))
    ∙ ap (λ l. l ++ body (selected wanted k.header.declarations) (items_in k))
    (head_same names wanted both h k.header head header.declared p.rows is)
    ∙ ap (λ l. head_for h both ++ l) same
    ∙ sym (append_assoc (head_for h both) (text_after [] (filter (picks us) (entries items)))
    (closing (map (λ (e : Entry). e.time) (filter (picks us) (entries items)))
    (last_mark items))) in
    opened_run (Want.Pick wanted) limit name (input_of out) k d.opens
    ∙ pick_run wanted name k d.whole
    ∙ ap (λ place. sampled wanted place (pick_open k.header wanted (items_in k)
    ++ pick_close k.header wanted (items_in k))) alike.here
    ∙ ap clean_outcome text
    ∙ ap (λ place. sampled both place (pick_open h both items ++ pick_close h both items))
    (sym alike.there)
    ∙ sym (pick_run both name o p.none)
    ∙ sym (opened_run (Want.Pick both) limit name input o opens)
  where
    by_mark : {P : Type 0} (mark : Option ℕ) → last_mark (items_in o) ≡ mark
        → last_mark (items_in o) ≢ None → ((m : ℕ) → last_mark (items_in o) ≡ Some m → P) → P
    by_mark None e n f = absurd (n e)
    by_mark (Some m) e n f = f m e
