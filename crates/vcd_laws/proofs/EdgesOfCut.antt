-- `edges` of what `cut` wrote counts from the value before it on.
use Rattle.vcd_laws.proofs.Cited.{◌≡◌, ℕ, ◌+◌, ◌-◌, ◌<◌, ◌≤◌, Bool, true, false, cond, not, ◌&&◌, ◌||◌, nat_lt, nat_le, List, [], ◌∷◌, ◌++◌, map, filter, flat_map, count_by, decimal, Option, Some, None, ◌⊎◌, inl, inr, refl, sym, ap, ◌∙◌, subst, arith, AllByRecursion, list_any, append-nil, sum_by-cons, cases_lt, and_right, le-ltb, Input, IdCode, code_of, same_code, BodyItem, Entry, entries, Vars, Value, gives_to, value_at, value_before, values_of, may_keep, words, counts_of, counts_for, event_count, edges_line, declared_code, Selected, selected, first_unmatched, within, cut_kept, Moment, moment_ticks, Opened, items_in, clean_outcome, Want, Opens, written_by, input_of, as_list, values_in_cut, counts_in_cut, cut_row, EdgesOfCut, IsWord, IsGoodChange, next_open, AreFit, entries_from, at_start, entries_are, IsGoodValue, value_change, value_change_gives, read_again_is, gives_at, last_value_is, latest_none, latest_agree, read_item, written_items, IsWritable, AreWritable, parts_fit, closing_items, same_declared, IsSettable, item_if_set, set_items, start_items, start_behind, cuts, settable}
use Rattle.vcd_model.specs.Job.{request_of}
use Rattle.vcd_laws.proofs.OpenedBodies.{opens_good, opened_fit}
use Rattle.vcd_model.proofs.CutKept.{among}
use Rattle.vcd_laws.proofs.CutLaw.{cut_entries, cut_start, cut_end}
use Rattle.vcd_laws.proofs.WrittenCodes.{In, from_filter, from_any, to_codes_of, found_in}
use Rattle.vcd_laws.proofs.HeadBack.{in_selected, opens_header}
use Rattle.vcd_laws.proofs.RunLaws.{cut_run, opened_run}
use Rattle.vcd_laws.proofs.PickUses.{same_selected, same_unmatched}
use Rattle.vcd_laws.proofs.PickCounts.{values-append, closing_gives, written_values, counted, count_from, count_more, count_kept, closing_count, count_time}
use Rattle.vcd_laws.proofs.EdgesOfPick.{counted as counted_outcome, edges_run}
use Rattle.vcd_laws.proofs.HeadCounts.{AreApart, codes_apart}
use Rattle.vcd_laws.proofs.CheckOfCut.{CutItems, cut_items, same_ok}
use Rattle.vcd_laws.proofs.PickTwice.{Insides}
use Rattle.vcd_laws.proofs.CutAgain.{AreKept, cut_insides, cut_may}
use Rattle.vcd_laws.proofs.CutTwice.{all_agree, before_at}

-- ---- the value before the cut

-- nothing of the cut is before it
before_within : (codes : List IdCode) (a b : ℕ) (items : List BodyItem) (c : IdCode)
    → AreFit codes 0 false items → a ≤ b
    → value_before (within b items) c a ≡ value_before items c a
before_within codes a b items c fit l = by_order (cases_lt 0 a)
  where
    none_before : (xs : List BodyItem) → value_before xs c 0 ≡ None
    none_before xs = last_value_is c (λ u. nat_lt u 0) xs
        ∙ latest_none (gives_at c (λ u. nat_lt u 0)) (entries xs) (none_in (entries xs))
      where
        none_in : (es : List Entry)
            → AllByRecursion (λ e. gives_at c (λ u. nat_lt u 0) e ≡ false) es
        none_in [] = tt
        none_in (e ∷ es) = (
          and_right (gives_to c e.item) (nat_lt e.time 0) (le-ltb e.time 0 (omega arith)),
          none_in es,
        )

    next_before : (n : ℕ) → value_before items c (n + 1) ≡ value_at items c n
    next_before n = last_value_is c (λ u. nat_lt u (n + 1)) items
        ∙ latest_agree (gives_at c (λ u. nat_lt u (n + 1))) (gives_at c (λ u. nat_le u n))
        (entries items) (all_agree c n (entries items))
        ∙ sym (last_value_is c (λ u. nat_le u n) items)

    by_order : (0 < a) ⊎ (a ≤ 0) → value_before (within b items) c a ≡ value_before items c a
    by_order (inl p) =
        let n = a - 1 in
        let e : n + 1 ≡ a = omega arith in
        subst (λ (t : ℕ). value_before (within b items) c t ≡ value_before items c t) e
        (before_at codes b n items c fit (omega arith) ∙ sym (next_before n))
    by_order (inr p) =
        let e : 0 ≡ a = omega arith in
        subst (λ (t : ℕ). value_before (within b items) c t ≡ value_before items c t) e
        (none_before (within b items) ∙ sym (none_before items))

-- ---- the start section

module _ (c : IdCode) (codes : List IdCode) (declared : declared_code codes c.text ≡ Some c)
    (vals : IdCode → Option Value) where
  -- the code is not among others
  only_once : (d : IdCode) (cs : List IdCode) → AllByRecursion (IsSettable codes vals) cs
      → c ≡ d → (In d cs → ⊥) → list_any (same_code c) cs ≡ false
  only_once d cs set same not_in = by_any (list_any (same_code c) cs) refl
    where
      there : (xs : List IdCode) (x : IdCode) → AllByRecursion (IsSettable codes vals) xs → In x xs
          → declared_code codes x.text ≡ Some x
      there [] x h i = absurd i
      there (y ∷ xs) x h (inl e) = let s : IsSettable codes vals y = h.0 in
          subst (λ (z : IdCode). declared_code codes z.text ≡ Some z) (sym e) s.declared
      there (y ∷ xs) x h (inr i) = there xs x h.1 i

      by_any : (b : Bool) → list_any (same_code c) cs ≡ b → list_any (same_code c) cs ≡ false
      by_any false e = e
      by_any true e =
          let x = from_any (same_code c) cs e in
          let is : c ≡ x.0 = same_declared codes c x.0 declared (there cs x.0 set x.1) x.2 in
          absurd (not_in (subst (λ (y : IdCode). In y cs) (sym is ∙ same) x.1))

  one_value : (d : IdCode) (o : Option Value) (b : Bool) → same_code c d ≡ b
      → declared_code codes d.text ≡ Some d → 0 < d.size
      → ((v : Value) → o ≡ Some v → IsWord d.text × IsGoodValue d v)
      → values_of (item_if_set d o) c ≡ cond b (as_list o) []
  one_value d None true e f l g = refl
  one_value d None false e f l g = refl
  one_value d (Some v) true e f l g =
      let h = g v refl in
      let gives = value_change_gives codes d v f h.0 l h.1 in
      let same : same_code c (value_change d v).code ≡ true = ap (same_code c) gives.same ∙ e in
      rw (same, gives.value) refl
  one_value d (Some v) false e f l g =
      let h = g v refl in
      let gives = value_change_gives codes d v f h.0 l h.1 in
      let same : same_code c (value_change d v).code ≡ false = ap (same_code c) gives.same ∙ e in
      rw same refl

  set_values : (cs : List IdCode) → AllByRecursion (IsSettable codes vals) cs → AreApart cs
      → values_of (set_items vals cs) c ≡ cond (list_any (same_code c) cs) (as_list (vals c)) []
  set_values [] set apart = refl
  set_values (d ∷ cs) set apart =
      let s : IsSettable codes vals d = set.0 in
      values-append (item_if_set d (vals d)) (set_items vals cs) c
      ∙ by_same (same_code c d) refl s (one_value d (vals d) (same_code c d) refl s.declared
      s.filled s.good) (set_values cs set.1 apart.1)
    where
      by_same : (b : Bool) → same_code c d ≡ b → IsSettable codes vals d
          → values_of (item_if_set d (vals d)) c ≡ cond (same_code c d) (as_list (vals d)) []
          → values_of (set_items vals cs) c
          ≡ cond (list_any (same_code c) cs) (as_list (vals c)) []
          → values_of (item_if_set d (vals d)) c ++ values_of (set_items vals cs) c
          ≡ cond (same_code c d || list_any (same_code c) cs) (as_list (vals c)) []
      by_same true e s one more =
          let is : c ≡ d = same_declared codes c d declared s.declared e in
          let none = only_once d cs set.1 is apart.0 in
          let own : values_of (item_if_set d (vals d)) c ≡ as_list (vals c)
          = one ∙ rw e (ap (λ x. as_list (vals x)) (sym is)) in
          let others : values_of (set_items vals cs) c ≡ [] = more ∙ rw none refl in
          rw (own, others, e) (append-nil (as_list (vals c)))
      by_same false e s one more =
          let own : values_of (item_if_set d (vals d)) c ≡ [] = one ∙ rw e refl in
          rw (own, e) more

filter_apart : (test : IdCode → Bool) (cs : List IdCode) → AreApart cs → AreApart (filter test cs)
filter_apart test [] apart = tt
filter_apart test (c ∷ cs) apart = by_test (test c) (filter_apart test cs apart.1)
  where
    by_test : (b : Bool) → AreApart (filter test cs)
        → AreApart (cond b (c ∷ filter test cs) (filter test cs))
    by_test true more = ((λ i. apart.0 (from_filter test cs c i).0), more)
    by_test false more = more

-- ---- triggers of events

module _ (c : IdCode) (codes : List IdCode) (declared : declared_code codes c.text ≡ Some c)
    (loud : c.event ≡ true) where
  one_mark : (o inside : Bool) (x : BodyItem) → IsWritable codes o x → inside ≡ o
      → may_keep x inside ≡ true
      → (cond {A = ℕ} (gives_to c (read_item x) && not o) 1 0 ≡ cond (gives_to c x) 1 0)
      × (next_open o (read_item x) ≡ next_open o x)
  one_mark o inside (BodyItem.Time u) h same keep = absurd h
  one_mark o inside (BodyItem.Begin s) h same keep = (refl, refl)
  one_mark o inside BodyItem.End h same keep = (refl, refl)
  one_mark o inside (BodyItem.Changes d) h same keep =
      let r = read_again_is codes d h.0 h.1 in
      let good : IsGoodChange codes d = h.0 in (
        ap (λ (k : IdCode). cond {A = ℕ} (same_code c k && not o) 1 0) r.same
            ∙ by_same (same_code c d.code) refl good,
        refl,
      )
    where
      shut : (b p : Bool) → b ≡ true → not (b && p) ≡ true → p ≡ false
      shut true true e q = cc
      shut true false e q = refl
      shut false p e q = cc

      by_same : (b : Bool) → same_code c d.code ≡ b → IsGoodChange codes d
          → cond {A = ℕ} (same_code c d.code && not o) 1 0 ≡ cond (same_code c d.code) 1 0
      by_same true e good =
          let is : c ≡ d.code = same_declared codes c d.code declared good.declared e in
          let event : d.code.event ≡ true = ap (λ (x : IdCode). x.event) (sym is) ∙ loud in
          let out : o ≡ false = sym same ∙ shut d.code.event inside event keep in
          rw (e, out) refl
      by_same false e good = rw e refl

  written_marks : (t : ℕ) (o : Bool) (w : List ℕ) (es : List Entry) (rest : List BodyItem)
      → AreWritable codes t o es → Insides o es → AreKept es
      → ((p : Bool) → count_from c 0 p rest ≡ 0)
      → (t' : ℕ) → count_from c t' o (written_items w es ++ rest)
      ≡ count_by (λ e. gives_to c e.item) es
  written_marks t o w [] rest h i k none t' = count_time c t' 0 o rest ∙ none o
  written_marks t o w (e ∷ es) rest h i k none t' =
      let one = one_mark o e.inside e.item h.3 i.0 k.0 in
      let more = written_items (w ++ e.time ∷ []) es in
      let a = count_kept c t' e.time o w (read_item e.item) more rest in
      let b = ap (λ p. count_from c 0 p (more ++ rest)) one.1 in
      let d = written_marks e.time (next_open o e.item) (w ++ e.time ∷ []) es rest h.4 i.1 k.1 none
      0 in
      let f = sum_by-cons (λ (x : Entry). cond {A = ℕ} (gives_to c x.item) 1 0) e es in
      let g = one.0 in
      omega arith

  -- no trigger inside a section counts
  set_marks : (t : ℕ) (vals : IdCode → Option Value) (cs : List IdCode) (rest : List BodyItem)
      → count_from c t true ((set_items vals cs ++ BodyItem.End ∷ []) ++ rest)
      ≡ count_from c t false rest
  set_marks t vals [] rest = count_more c t true BodyItem.End rest ∙ omega arith
  set_marks t vals (d ∷ cs) rest = by_value (vals d) (set_marks t vals cs rest)
    where
      no_count : (b : Bool) → cond {A = ℕ} (b && not true) 1 0 ≡ 0
      no_count true = refl
      no_count false = refl

      by_value : (v : Option Value)
          → count_from c t true ((set_items vals cs ++ BodyItem.End ∷ []) ++ rest)
          ≡ count_from c t false rest
          → count_from c t true
          (((item_if_set d v ++ set_items vals cs) ++ BodyItem.End ∷ []) ++ rest)
          ≡ count_from c t false rest
      by_value None more = more
      by_value (Some v) more =
          let x : BodyItem = BodyItem.Changes (value_change d v) in
          let n = count_more c t true x ((set_items vals cs ++ BodyItem.End ∷ []) ++ rest) in
          let z = no_count (gives_to c x) in
          n ∙ (let m = more in omega arith)

  start_marks : (t : ℕ) (vals : IdCode → Option Value) (cs : List IdCode) (rest : List BodyItem)
      → count_from c 0 false (start_items t vals cs ++ rest) ≡ count_from c t false rest
  start_marks t vals cs rest =
      let more = (set_items vals cs ++ BodyItem.End ∷ []) ++ rest in
      let a = count_more c 0 false (BodyItem.Time t) (BodyItem.Begin Vars ∷ more) in
      let b = count_more c t false (BodyItem.Begin Vars) more in
      let d = set_marks t vals cs rest in
      a ∙ (let e = b in omega arith)

-- ---- the counts

cut_counts : (limit : ℕ) (name : List ℕ) (from to : Moment) (input : Input) (o : Opened) (a b : ℕ)
    (p : CutItems limit name from to input o a b) → Opens limit input o → a ≤ b
    → (c : IdCode) → In c o.header.codes
    → counts_for (items_in p.dump.dump) c ≡ counts_in_cut a b (items_in o) c
cut_counts limit name from to input o a b p opens l c i =
    let h = o.header in
    let items = items_in o in
    let good = opens_good limit input o opens in
    let own = opens_header limit input o opens in
    let declared : declared_code h.codes c.text ≡ Some c = found_in h.codes c good.codes i in
    let behind = p.behind in
    let parts = behind.parts in
    let q = within b items in
    let vals : IdCode → Option Value = λ x. value_before q x a in
    let cs = filter (λ x. not x.event) h.codes in
    let ks = cut_entries a b items in
    let mark = cut_end a b items in
    let front = cut_start h a b items in
    let w = (a ∷ []) ++ map (λ (e : Entry). e.time) ks in
    let end = closing_items w mark in
    let rest = written_items (a ∷ []) ks ++ end in
    let writable = subst (λ (n : ℕ). AreWritable h.codes n false ks) (start_behind a vals cs).1
    parts.writable in
    let es : ks ≡ cut_kept a b items
    = ap (filter (cuts a)) (sym (entries_are h.codes [] 0 false q at_start behind.fit)) in
    let marks : c.event ≡ true → event_count c (items_in p.dump.dump)
    ≡ count_by (λ e. gives_to c e.item) (cut_kept a b items) = λ loud.
    ap (event_count c) p.items
    ∙ ap (count_by (counted c)) (entries_are h.codes [] 0 false (front ++ rest) at_start
    (parts_fit h.codes front (a ∷ []) ks mark parts))
    ∙ start_marks c h.codes declared loud a vals cs rest
    ∙ written_marks c h.codes declared loud a false (a ∷ []) ks end writable
    (cut_insides h.codes a q behind.fit) (cut_may a (entries_from 0 false q))
    (λ x. closing_count c x w mark) a
    ∙ ap (count_by (λ (e : Entry). gives_to c e.item)) es in
    let values : c.event ≡ false → values_of (items_in p.dump.dump) c ≡ values_in_cut a b items c
    = λ quiet.
    let first : values_of front c ≡ as_list (value_before items c a)
    = values-append (set_items vals cs) (BodyItem.End ∷ []) c
    ∙ append-nil (values_of (set_items vals cs) c)
    ∙ set_values c h.codes declared vals cs (settable h.codes a q good.codes behind.fit)
    (filter_apart (λ x. not x.event) h.codes (subst AreApart (sym own.codes)
    (codes_apart h.declarations)))
    ∙ ap (λ x. cond x (as_list (vals c)) []) (among h.codes c declared quiet)
    ∙ ap as_list (before_within h.codes a b items c (opened_fit o good) l) in
    let others : values_of rest c ≡ values_of (map (λ e. e.item) (cut_kept a b items)) c
    = values-append (written_items (a ∷ []) ks) end c
    ∙ ap (λ x. values_of (written_items (a ∷ []) ks) c ++ x) (closing_gives c w mark)
    ∙ append-nil (values_of (written_items (a ∷ []) ks) c)
    ∙ written_values c h.codes declared quiet a false (a ∷ []) ks writable
    ∙ ap (λ (x : List Entry). values_of (map (λ e. e.item) x) c) es in
    ap (λ (x : List BodyItem). values_of x c) p.items
    ∙ values-append front rest c
    ∙ ap (λ x. x ++ values_of rest c) first
    ∙ ap (λ x. as_list (value_before items c a) ++ x) others in
    by_event c.event refl marks values
  where
    by_event : (e : Bool) → c.event ≡ e
        → (c.event ≡ true → event_count c (items_in p.dump.dump)
        ≡ count_by (λ e. gives_to c e.item) (cut_kept a b (items_in o)))
        → (c.event ≡ false → values_of (items_in p.dump.dump) c
        ≡ values_in_cut a b (items_in o) c)
        → counts_for (items_in p.dump.dump) c ≡ counts_in_cut a b (items_in o) c
    by_event true f marks values = rw (f, marks f) refl
    by_event false f marks values = rw f (ap counts_of (values f))

rows_same : (a b : ℕ) (items others : List BodyItem) (vs : List Selected)
    → ((s : Selected) → In s vs
    → counts_for others (code_of s.variable) ≡ counts_in_cut a b items (code_of s.variable))
    → flat_map (edges_line others) vs ≡ flat_map (cut_row a b items) vs
rows_same a b items others [] same = refl
rows_same a b items others (s ∷ vs) same =
    ap (λ n. words (s.path ∷ decimal n.changes ∷ decimal n.rises ∷ decimal n.falls ∷ [])
    ++ flat_map (edges_line others) vs) (same s (inl refl))
    ∙ ap (λ l. cut_row a b items s ++ l) (rows_same a b items others vs (λ x i. same x (inr i)))

-- ---- the law

pub edges_of_cut : EdgesOfCut
unfolding request_of counted_outcome
edges_of_cut limit name from to wanted input o a b job can first last each =
    let opens = can.opens in
    let p = cut_items limit name from to input o a b job can first last in
    let d = p.dump in
    let k = d.dump in
    let head = d.head in
    let h = o.header in
    let own = opens_header limit input o opens in
    let run = cut_run limit name from to input o job
    (opened_run (Want.Cut from to) limit name input o opens) can.clean in
    let begins : run.a ≡ a = same_ok (moment_ticks h.scale from true) run.a a run.first first in
    let stops : run.b ≡ b = same_ok (moment_ticks h.scale to false) run.b b run.last last in
    let order = run.order in
    let text = written_by (Want.Cut from to) limit name input in
    let vs = selected wanted h.declarations in
    let selection = same_selected wanted [] h k.header head.variables (λ s i e. refl) in
    let unmatched = same_unmatched wanted wanted [] h k.header head.variables (λ s i e. refl)
    (λ n i. i) in
    let counts : (s : Selected) → In s vs → counts_for (items_in k) (code_of s.variable)
    ≡ counts_in_cut a b (items_in o) (code_of s.variable) = λ s i.
    cut_counts limit name from to input o a b p opens (omega arith) (code_of s.variable)
    (subst (In (code_of s.variable)) (sym own.codes) (to_codes_of h.declarations s.variable
    own.declared (in_selected wanted h.declarations s i))) in
    opened_run (Want.Edges wanted) limit name (input_of text) k d.opens
    ∙ edges_run wanted name k d.whole
    ∙ ap (λ (l : List Selected). counted_outcome wanted (first_unmatched wanted
    k.header.declarations) (flat_map (edges_line (items_in k)) l)) selection
    ∙ ap (λ place. counted_outcome wanted place (flat_map (edges_line (items_in k)) vs))
    (unmatched ∙ each)
    ∙ ap clean_outcome (rows_same a b (items_in o) (items_in k) vs counts)
