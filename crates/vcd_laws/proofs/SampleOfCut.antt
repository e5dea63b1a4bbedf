-- `sample` of what `cut` wrote, at any times.
use Rattle.vcd_laws.proofs.Cited.{◌≡◌, ℕ, ◌<◌, ◌≤◌, Bool, true, false, cond, not, nat_lt, nat_le, drop, List, [], ◌∷◌, ◌++◌, filter, flat_map, decimal, Option, Some, None, Result, Ok, Err, IsTrue, ◌⊎◌, inl, inr, refl, sym, ap, ◌∙◌, subst, arith, min, AllByRecursion, cases_lt, lt-ltb, le-ltb, le-leb, lt-leb, Input, IdCode, code_of, BodyItem, Entry, Value, value_at, value_before, words, shown, sample_lines, declared_code, Selected, selected, first_unmatched, ends_cut, within, Moment, moment_ticks, Request, Outcome, Opened, items_in, fault_in, clean_outcome, over_dumps, Want, Refusal, refusal_outcome, Opens, written_by, input_of, line_of_cut, SampleOfCutAnywhere, requests_are_valid, next_open, entries_from, latest, gives_at, behind, last_value_is, newer-false, latest_agree, AreWritable, parts_items, parts_values, times_from, times_within, all_entries, nothing_at, start_behind, cut_values, later_none}
use Rattle.vcd_model.specs.Job.{request_of}
use Rattle.vcd_laws.proofs.OpenedBodies.{opens_good, opened_fit}
use Rattle.vcd_laws.proofs.CutLaw.{within_shut, ends_or_shut, cut_entries, cut_start, cut_end}
use Rattle.vcd_laws.proofs.WrittenCodes.{In, to_codes_of, found_in}
use Rattle.vcd_laws.proofs.HeadBack.{in_selected, opens_header}
use Rattle.vcd_laws.proofs.RunLaws.{cut_run, opened_run}
use Rattle.vcd_laws.proofs.PickUses.{same_selected, same_unmatched, sampled, sample_run}
use Rattle.vcd_laws.proofs.CheckOfCut.{CutItems, cut_items, same_ok}

-- entries that may be written from a time on are not before it
written_from : (codes : List IdCode) (low t : ℕ) (o : Bool) (es : List Entry)
    → AreWritable codes t o es → low ≤ t → AllByRecursion (λ e. low ≤ e.time) es
written_from codes low t o [] h l = tt
written_from codes low t o (e ∷ es) h l =
    let m : low ≤ e.time = (let k = h.0 in omega arith) in
    (m, written_from codes low e.time (next_open o e.item) es h.4 m)

agree_within : (c : IdCode) (b t : ℕ) (es : List Entry) → b ≤ t → AllByRecursion (λ e. e.time ≤ b) es
    → AllByRecursion (λ e. gives_at c (λ u. nat_le u t) e ≡ gives_at c (λ u. nat_le u b) e) es
agree_within c b t es l h = all_entries (λ e. e.time ≤ b)
    (λ e. gives_at c (λ u. nat_le u t) e ≡ gives_at c (λ u. nat_le u b) e) es
    (λ e m. rw (le-leb e.time t (omega arith), le-leb e.time b m) refl) h

-- the value of a code at any time of what was cut
value_in_cut : (limit : ℕ) (name : List ℕ) (from to : Moment) (input : Input) (o : Opened) (a b : ℕ)
    (p : CutItems limit name from to input o a b) → Opens limit input o
    → IsTrue (ends_cut b (items_in o)) ⊎ (fault_in o ≡ None) → (c : IdCode) → In c o.header.codes
    → c.event ≡ false → (t : ℕ)
    → value_at (items_in p.dump.dump) c t
    ≡ cond (nat_lt t a) None (value_at (items_in o) c (min t b))
value_in_cut limit name from to input o a b p opens ends c i quiet t =
    let h = o.header in
    let items = items_in o in
    let good = opens_good limit input o opens in
    let fit = opened_fit o good in
    let shut = within_shut h.codes b items fit (ends_or_shut o b good ends) in
    let declared : declared_code h.codes c.text ≡ Some c = found_in h.codes c good.codes i in
    let before = p.behind in
    let parts = before.parts in
    let q = within b items in
    let vals : IdCode → Option Value = λ x. value_before q x a in
    let cs = filter (λ x. not x.event) h.codes in
    let front = cut_start h a b items in
    let ks = cut_entries a b items in
    let mark = cut_end a b items in
    let at : ℕ → Bool = λ u. nat_le u t in
    let all = parts_items front (a ∷ []) ks mark in
    let early : t < a → value_at all c t ≡ None = λ l.
    let writable = subst (λ (n : ℕ). AreWritable h.codes n false ks) (start_behind a vals cs).1
    parts.writable in
    let late : (u : ℕ) → a ≤ u → at u ≡ false = λ u m. lt-leb u t (omega arith) in
    let kept : latest (gives_at c at) ks ≡ None = nothing_at c at (λ u. a ≤ u) ks late
    (written_from h.codes a a false ks writable (omega arith)) in
    let fits = parts.fit in
    let start : latest (gives_at c at) (entries_from 0 false front) ≡ None
    = newer-false None (latest (gives_at c at) (entries_from a false (drop 1 front)))
    ∙ nothing_at c at (λ u. a ≤ u) (entries_from a false (drop 1 front)) late
    (times_from h.codes a a false (drop 1 front) fits.1 (omega arith)) in
    last_value_is c at all
    ∙ parts_values h.codes front (a ∷ []) ks mark c at parts declared quiet
    ∙ ap (λ x. behind x (latest (gives_at c at) (entries_from 0 false front))) kept
    ∙ start in
    let later : a ≤ t → value_at all c t ≡ latest (gives_at c at) (entries_from 0 false q) = λ l.
    cut_values h.codes a b q mark c t good.codes before.fit shut parts declared quiet l in
    let past : b ≤ t → latest (gives_at c at) (entries_from 0 false q) ≡ value_at items c b = λ l.
    latest_agree (gives_at c at) (gives_at c (λ u. nat_le u b)) (entries_from 0 false q)
    (agree_within c b t (entries_from 0 false q) l (times_within b 0 false items (omega arith)))
    ∙ sym (later_none h.codes b items c b fit (omega arith)) in
    let up_to : t ≤ b → latest (gives_at c at) (entries_from 0 false q) ≡ value_at items c t = λ l.
    sym (later_none h.codes b items c t fit l) in
    ap (λ (l : List BodyItem). value_at l c t) p.items
    ∙ by_order (cases_lt t a) (cases_lt b t) early later past up_to
  where
    by_order : {x : Option Value} {y : Option Value} → (t < a) ⊎ (a ≤ t) → (b < t) ⊎ (t ≤ b)
        → (t < a → x ≡ None) → (a ≤ t → x ≡ y) → (b ≤ t → y ≡ value_at (items_in o) c b)
        → (t ≤ b → y ≡ value_at (items_in o) c t)
        → x ≡ cond (nat_lt t a) None (value_at (items_in o) c (min t b))
    by_order (inl l) n early later past up_to = rw (lt-ltb t a l) (early l)
    by_order (inr l) (inl m) early later past up_to =
        let e : min t b ≡ b = omega arith in
        rw (le-ltb t a l, e) (later l ∙ past (omega arith))
    by_order (inr l) (inr m) early later past up_to =
        let e : min t b ≡ t = omega arith in
        rw (le-ltb t a l, e) (later l ∙ up_to m)

-- ---- lines

one_line : (a b : ℕ) (items others : List BodyItem) (t : ℕ) (s : Selected)
    → ((code_of s.variable).event ≡ false → value_at others (code_of s.variable) t
    ≡ cond (nat_lt t a) None (value_at items (code_of s.variable) (min t b)))
    → cond (code_of s.variable).event [] (words (decimal t ∷ s.path
    ∷ shown (value_at others (code_of s.variable) t) ∷ [])) ≡ line_of_cut a b items t s
one_line a b items others t s same = by_event (code_of s.variable).event refl
  where
    by_event : (x : Bool) → (code_of s.variable).event ≡ x
        → cond (code_of s.variable).event [] (words (decimal t ∷ s.path
        ∷ shown (value_at others (code_of s.variable) t) ∷ [])) ≡ line_of_cut a b items t s
    by_event true e = rw e refl
    by_event false e = rw e
        (ap (λ v. words (decimal t ∷ s.path ∷ shown v ∷ [])) (same e))

lines_at : (a b : ℕ) (items others : List BodyItem) (t : ℕ) (vs : List Selected)
    → ((s : Selected) → In s vs → (code_of s.variable).event ≡ false
    → value_at others (code_of s.variable) t
    ≡ cond (nat_lt t a) None (value_at items (code_of s.variable) (min t b)))
    → sample_lines vs others t ≡ flat_map (line_of_cut a b items t) vs
lines_at a b items others t [] same = refl
lines_at a b items others t (s ∷ vs) same =
    ap (λ l. l ++ sample_lines vs others t) (one_line a b items others t s (same s (inl refl)))
    ∙ ap (λ l. line_of_cut a b items t s ++ l) (lines_at a b items others t vs
    (λ x i. same x (inr i)))

all_lines : (a b : ℕ) (items others : List BodyItem) (vs : List Selected) (ts : List ℕ)
    → ((t : ℕ) (s : Selected) → In s vs → (code_of s.variable).event ≡ false
    → value_at others (code_of s.variable) t
    ≡ cond (nat_lt t a) None (value_at items (code_of s.variable) (min t b)))
    → flat_map (sample_lines vs others) ts
    ≡ flat_map (λ t. flat_map (line_of_cut a b items t) vs) ts
all_lines a b items others vs [] same = refl
all_lines a b items others vs (t ∷ ts) same =
    ap (λ l. l ++ flat_map (sample_lines vs others) ts) (lines_at a b items others t vs (same t))
    ∙ ap (λ l. flat_map (line_of_cut a b items t) vs ++ l)
    (all_lines a b items others vs ts same)

-- ---- the law

pub sample_of_cut_anywhere : SampleOfCutAnywhere
unfolding request_of sampled
sample_of_cut_anywhere limit name from to times wanted input o a b ts cuts job can first last asks
    each =
    let opens = can.opens in
    let p = cut_items limit name from to input o a b cuts can first last in
    let d = p.dump in
    let k = d.dump in
    let head = d.head in
    let h = o.header in
    let own = opens_header limit input o opens in
    let run = cut_run limit name from to input o cuts
    (opened_run (Want.Cut from to) limit name input o opens) can.clean in
    let stops : run.b ≡ b = same_ok (moment_ticks h.scale to false) run.b b run.last last in
    let ends : IsTrue (ends_cut b (items_in o)) ⊎ (fault_in o ≡ None)
    = subst (λ (n : ℕ). IsTrue (ends_cut n (items_in o)) ⊎ (fault_in o ≡ None)) stops run.ends in
    let text = written_by (Want.Cut from to) limit name input in
    let vs = selected wanted h.declarations in
    let want = Want.Sample times wanted in
    let valid = requests_are_valid h.scale want (Request.Sample ts wanted) job asks in
    let selection = same_selected wanted [] h k.header head.variables (λ s i e. refl) in
    let unmatched = same_unmatched wanted wanted [] h k.header head.variables (λ s i e. refl)
    (λ n i. i) in
    opened_run want limit name (input_of text) k d.opens
    ∙ ap (λ scale. over (request_of scale want) k) head.scale
    ∙ ap (λ r. over r k) asks
    ∙ sample_run ts wanted name k (inr d.whole) valid
    ∙ ap (λ (l : List Selected). sampled wanted (first_unmatched wanted k.header.declarations)
    (flat_map (sample_lines l (items_in k)) ts)) selection
    ∙ ap (λ place. sampled wanted place (flat_map (sample_lines vs (items_in k)) ts))
    (unmatched ∙ each)
    ∙ ap clean_outcome (all_lines a b (items_in o) (items_in k) vs ts
    (λ t s i quiet. value_in_cut limit name from to input o a b p opens ends (code_of s.variable)
    (subst (In (code_of s.variable)) (sym own.codes) (to_codes_of h.declarations s.variable
    own.declared (in_selected wanted h.declarations s i))) quiet t))
  where
    over : Result Request Refusal → Opened → Outcome
    over r q = elim r [
      | Err why ↦ refusal_outcome name why
      | Ok request ↦ over_dumps request
          (name ∷ []) (q ∷ [])
    ]
