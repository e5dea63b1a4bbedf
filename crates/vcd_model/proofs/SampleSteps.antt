-- `sample` with one item more, and at its end.
use Rattle.vcd_model.proofs.Cited.{◌≡◌, ℕ, ◌≤◌, ◌<◌, max, Bool, true, false, not, cond, ◌||◌, nat_lt, nat_le, List, [], ◌∷◌, ◌++◌, filter, flat_map, fold, drop, zero, suc, ◌≢◌, Some, None, Option, refl, sym, ap, ◌∙◌, subst, arith, AllByRecursion, list_any, last_or, IsStrictlyIncreasing, append_assoc, append-nil, flat_map-append, filter-append, list_any-append, lt-ltb, le-ltb, ltb-false, or_parts, IdCode, code_of, Header, BodyItem, entries, entry_after, marks, time_after, value_at, final_value, Selected, selected, is_settled, sample_lines, is_mark_above, Request, ends_early, or-true}
use Rattle.vcd_model.specs.Sample.{sample_open, sample_close}
use Rattle.vcd_model.proofs.Growing.{entries-append}
use Rattle.vcd_model.proofs.Times.{marks-append}
use Rattle.vcd_model.proofs.FinalValues.{value_at_is}
use Rattle.vcd_model.proofs.Latest.{gives_at, last_value_is, latest, latest-append}
use Rattle.vcd_model.proofs.SampleGrows.{lines_stay, settled_more, rises_on, up_first}

-- these times are settled, or none of them is
abbrev pub AreSettled : Bool → List BodyItem → List ℕ → Type 0
AreSettled b items ts = AllByRecursion (λ t. is_settled items t ≡ b) ts

-- ---- values at a time that is not settled

none_above : (t low : ℕ) (ms : List ℕ) → low ≤ t → list_any (nat_lt t) ms ≡ false → fold max low ms ≤ t
none_above t low [] le e = le
none_above t low (m ∷ ms) le e =
    let o = or_parts (nat_lt t m) (list_any (nat_lt t) ms) e in
    let h = ltb-false t m o.0 in
    none_above t (max low m) ms (omega arith) o.1

-- no item is later
pub time_at_most : (items : List BodyItem) (t : ℕ) → is_settled items t ≡ false → time_after items ≤ t
time_at_most items t e = none_above t 0 (marks items) (omega arith) e

-- so its values are those after all the items
pub value_now : (items : List BodyItem) (c : IdCode) (t : ℕ) → is_settled items t ≡ false → value_at items c t ≡ final_value items c
value_now items c t e = value_at_is c t items (time_at_most items t e)

-- a timestamp gives no value
value_at_mark : (items : List BodyItem) (t : ℕ) (c : IdCode) (u : ℕ) → value_at (items ++ BodyItem.Time t ∷ []) c u ≡ value_at items c u
value_at_mark items t c u =
    last_value_is c (λ v. nat_le v u) (items ++ BodyItem.Time t ∷ []) ∙ ap (latest (gives_at c (λ v. nat_le v u))) (entries-append items (BodyItem.Time t ∷ []))
    ∙ latest-append (gives_at c (λ v. nat_le v u)) (entries items) (entry_after items (BodyItem.Time t) ∷ [])
    ∙ sym (last_value_is c (λ v. nat_le v u) items)

lines_at_mark : (vs : List Selected) (items : List BodyItem) (t u : ℕ) → sample_lines vs (items ++ BodyItem.Time t ∷ []) u ≡ sample_lines vs items u
lines_at_mark [] items t u = refl
lines_at_mark (s ∷ vs) items t u = rw (value_at_mark items t (code_of s.variable) u, lines_at_mark vs items t u) refl

all_lines_at_mark : (vs : List Selected) (items : List BodyItem) (t : ℕ) (us : List ℕ) → flat_map (sample_lines vs (items ++ BodyItem.Time t ∷ [])) us ≡ flat_map (sample_lines vs items) us
all_lines_at_mark vs items t [] = refl
all_lines_at_mark vs items t (u ∷ us) = rw (lines_at_mark vs items t u, all_lines_at_mark vs items t us) refl

-- ---- which times are settled

-- before all items none is
pub none_settled : (ts : List ℕ) → AreSettled false [] ts
none_settled [] = tt
none_settled (t ∷ ts) = (refl, none_settled ts)

-- an item that is no timestamp settles none
pub settled_same : (items : List BodyItem) (x : BodyItem) (t : ℕ) → marks (x ∷ []) ≡ [] → is_settled (items ++ x ∷ []) t ≡ is_settled items t
settled_same items x t e = ap (list_any (nat_lt t)) (marks-append items (x ∷ []) ∙ ap (λ l. marks items ++ l) e ∙ append-nil (marks items))

pub all_settled_same : (b : Bool) (items : List BodyItem) (x : BodyItem) (ts : List ℕ) → marks (x ∷ []) ≡ [] → AreSettled b items ts → AreSettled b (items ++ x ∷ []) ts
all_settled_same b items x [] e h = tt
all_settled_same b items x (t ∷ ts) e h = (settled_same items x t e ∙ h.0, all_settled_same b items x ts e h.1)

-- a timestamp settles the times below it
settled_with : (items : List BodyItem) (t u : ℕ) → is_settled (items ++ BodyItem.Time t ∷ []) u ≡ (is_settled items u || (nat_lt u t || false))
settled_with items t u = ap (list_any (nat_lt u)) (marks-append items (BodyItem.Time t ∷ [])) ∙ list_any-append (nat_lt u) (marks items) (t ∷ [])

pub settled_by : (items : List BodyItem) (t u : ℕ) → u < t → is_settled (items ++ BodyItem.Time t ∷ []) u ≡ true
settled_by items t u lt = settled_with items t u ∙ rw (lt-ltb u t lt) (or-true (is_settled items u))

pub all_settled_by : (items : List BodyItem) (t : ℕ) (us : List ℕ) → AllByRecursion (λ u. u < t) us → AreSettled true (items ++ BodyItem.Time t ∷ []) us
all_settled_by items t [] l = tt
all_settled_by items t (u ∷ us) l = (settled_by items t u l.0, all_settled_by items t us l.1)

-- and no others
unsettled_by : (items : List BodyItem) (t u : ℕ) → t ≤ u → is_settled items u ≡ false → is_settled (items ++ BodyItem.Time t ∷ []) u ≡ false
unsettled_by items t u le e = settled_with items t u ∙ rw (e, le-ltb u t le) refl

-- of times that rise none from the first that is not below it
pub unsettled_from : (items : List BodyItem) (t u : ℕ) (us : List ℕ) → IsStrictlyIncreasing (u ∷ us) → t ≤ u → AreSettled false items (u ∷ us)
    → AreSettled false (items ++ BodyItem.Time t ∷ []) (u ∷ us)
unsettled_from items t u [] up le h = (unsettled_by items t u le h.0, tt)
unsettled_from items t u (v ∷ us) up le h =
    let lt = up_first u v us up in
    (unsettled_by items t u le h.0, unsettled_from items t v us (rises_on u (v ∷ us) up) (omega arith) h.1)

-- the rest of times that rise
pub rises_behind : (n : ℕ) (ts : List ℕ) → IsStrictlyIncreasing ts → IsStrictlyIncreasing (drop n ts)
rises_behind zero ts up = up
rises_behind (suc n) [] up = up
rises_behind (suc n) (t ∷ ts) up = rises_behind n ts (rises_on t ts up)

-- ---- the text

filter_all : (s : ℕ → Bool) (b : Bool) (ts : List ℕ) → AllByRecursion (λ t. s t ≡ b) ts → filter s ts ≡ cond b ts []
filter_all s true [] h = refl
filter_all s false [] h = refl
filter_all s true (t ∷ ts) h = rw (h.0, filter_all s true ts h.1) refl
filter_all s false (t ∷ ts) h = rw (h.0, filter_all s false ts h.1) refl

filter_not : (s : ℕ → Bool) (b : Bool) (ts : List ℕ) → AllByRecursion (λ t. s t ≡ b) ts → filter (λ t. not (s t)) ts ≡ cond b [] ts
filter_not s true [] h = refl
filter_not s false [] h = refl
filter_not s true (t ∷ ts) h = rw (h.0, filter_not s true ts h.1) refl
filter_not s false (t ∷ ts) h = rw (h.0, filter_not s false ts h.1) refl

-- the lines of these times
abbrev pub lines_of : Header → List (List ℕ) → List BodyItem → List ℕ → List ℕ
lines_of h names items ts = flat_map (sample_lines (selected names h.declarations) items) ts

module _ (h : Header) (names : List (List ℕ)) (items : List BodyItem) (done rest : List ℕ) (settled : AreSettled true items done) (others : AreSettled false items rest) where
  pub open_is : sample_open h (done ++ rest) names items ≡ lines_of h names items done
  unfolding sample_open
  open_is = ap (lines_of h names items) (filter-append (is_settled items) done rest
      ∙ rw (filter_all (is_settled items) true done settled, filter_all (is_settled items) false rest others) (append-nil done))

  pub close_is : sample_close h (done ++ rest) names items ≡ lines_of h names items rest
  unfolding sample_close
  close_is = ap (lines_of h names items) (filter-append (λ t. not (is_settled items t)) done rest
      ∙ rw (filter_not (is_settled items) true done settled, filter_not (is_settled items) false rest others) refl)

  -- the lines of settled times stay
  lines_still : (x : BodyItem) → lines_of h names (items ++ x ∷ []) done ≡ lines_of h names items done
  lines_still x = same done settled
    where
      same : (ts : List ℕ) → AreSettled true items ts → lines_of h names (items ++ x ∷ []) ts ≡ lines_of h names items ts
      same [] s = refl
      same (t ∷ ts) s = rw (lines_stay (selected names h.declarations) items (x ∷ []) t s.0, same ts s.1) refl

-- before all items nothing is
pub open_none : (h : Header) (times : List ℕ) (names : List (List ℕ)) → sample_open h times names [] ≡ []
open_none h times names = open_is h names [] [] times tt (none_settled times)

-- an item that is no timestamp: nothing is due
pub open_same : (h : Header) (names : List (List ℕ)) (items : List BodyItem) (x : BodyItem) (done rest : List ℕ) → marks (x ∷ []) ≡ []
    → AreSettled true items done → AreSettled false items rest
    → sample_open h (done ++ rest) names (items ++ x ∷ []) ≡ sample_open h (done ++ rest) names items
open_same h names items x done rest e settled others =
    open_is h names (items ++ x ∷ []) done rest (all_settled_same true items x done e settled) (all_settled_same false items x rest e others)
    ∙ lines_still h names items done rest settled others x ∙ sym (open_is h names items done rest settled others)

-- a timestamp: the lines of the times that it settles, with the values before it
pub open_at_mark : (h : Header) (names : List (List ℕ)) (items : List BodyItem) (t : ℕ) (done rest : List ℕ)
    → AreSettled true (items ++ BodyItem.Time t ∷ []) done → AreSettled false (items ++ BodyItem.Time t ∷ []) rest
    → sample_open h (done ++ rest) names (items ++ BodyItem.Time t ∷ []) ≡ lines_of h names items done
open_at_mark h names items t done rest settled others =
    open_is h names (items ++ BodyItem.Time t ∷ []) done rest settled others ∙ all_lines_at_mark (selected names h.declarations) items t done

module _ (h : Header) (names : List (List ℕ)) (items : List BodyItem) (t : ℕ) (done below others : List ℕ) (settled : AreSettled true items done)
    (unsettled : AreSettled false items (below ++ others)) (low : AllByRecursion (λ u. u < t) below)
    (high : AreSettled false (items ++ BodyItem.Time t ∷ []) others) where
  pub settled_next : AreSettled true (items ++ BodyItem.Time t ∷ []) (done ++ below)
  settled_next = both done settled
    where
      both : (ts : List ℕ) → AreSettled true items ts → AreSettled true (items ++ BodyItem.Time t ∷ []) (ts ++ below)
      both [] s = all_settled_by items t below low
      both (u ∷ ts) s = (settled_more items (BodyItem.Time t ∷ []) u s.0, both ts s.1)

  -- the lines of the times below a timestamp are due with it
  pub due_at_mark : sample_open h (done ++ (below ++ others)) names (items ++ BodyItem.Time t ∷ []) ≡ sample_open h (done ++ (below ++ others)) names items ++ lines_of h names items below
  due_at_mark =
      ap (λ ts. sample_open h ts names (items ++ BodyItem.Time t ∷ [])) (sym (append_assoc done below others))
      ∙ open_at_mark h names items t (done ++ below) others settled_next high
      ∙ flat_map-append (sample_lines (selected names h.declarations) items) done below
      ∙ ap (λ l. l ++ lines_of h names items below) (sym (open_is h names items done (below ++ others) settled unsettled))

-- ---- whether a timestamp ends the run

-- the last of times that all pass
last_passes : (P : ℕ → Type 0) (o : Option ℕ) (done : List ℕ) (u : ℕ) (rest : List ℕ) → AllByRecursion P (u ∷ rest) → (l : ℕ) × (last_or o (done ++ u ∷ rest) ≡ Some l) × P l
last_passes P o (d ∷ done) u rest h = last_passes P (Some d) done u rest h
last_passes P o [] u [] h = (u, refl, h.0)
last_passes P o [] u (v ∷ rest) h = last_passes P (Some u) [] v rest h.1

early_is : (names : List (List ℕ)) (items : List BodyItem) (t l : ℕ) (times : List ℕ) → last_or None times ≡ Some l → is_settled items l ≡ false
    → ends_early (Request.Sample times names) (BodyItem.Time t) ≡ is_settled (items ++ BodyItem.Time t ∷ []) l
early_is names items t l times last e = rw (ends_early, last) (sym (settled_with items t l ∙ rw e (or_none (nat_lt l t))))
  where
    or_none : (b : Bool) → (b || false) ≡ b
    or_none true = refl
    or_none false = refl

-- one that settles all times does
pub ends_here : (names : List (List ℕ)) (items : List BodyItem) (t : ℕ) (done : List ℕ) (u : ℕ) (rest : List ℕ) → AreSettled false items (u ∷ rest)
    → AreSettled true (items ++ BodyItem.Time t ∷ []) (u ∷ rest)
    → ends_early (Request.Sample (done ++ u ∷ rest) names) (BodyItem.Time t) ≡ true
ends_here names items t done u rest before after =
    let last = last_passes (λ l. (is_settled items l ≡ false) × (is_settled (items ++ BodyItem.Time t ∷ []) l ≡ true)) None done u rest (both (u ∷ rest) before after) in
    early_is names items t last.0 (done ++ u ∷ rest) last.1 last.2.0 ∙ last.2.1
  where
    both : (ts : List ℕ) → AreSettled false items ts → AreSettled true (items ++ BodyItem.Time t ∷ []) ts
        → AllByRecursion (λ l. (is_settled items l ≡ false) × (is_settled (items ++ BodyItem.Time t ∷ []) l ≡ true)) ts
    both [] b a = tt
    both (v ∷ ts) b a = ((b.0, a.0), both ts b.1 a.1)

-- one that leaves some does not
pub goes_on : (names : List (List ℕ)) (items : List BodyItem) (t : ℕ) (done : List ℕ) (u : ℕ) (rest : List ℕ) → AreSettled false (items ++ BodyItem.Time t ∷ []) (u ∷ rest)
    → ends_early (Request.Sample (done ++ u ∷ rest) names) (BodyItem.Time t) ≡ false
goes_on names items t done u rest after =
    let last = last_passes (λ l. is_settled (items ++ BodyItem.Time t ∷ []) l ≡ false) None done u rest after in
    let o = or_parts (is_settled items last.0) (nat_lt last.0 t || false) (sym (settled_with items t last.0) ∙ last.2) in
    early_is names items t last.0 (done ++ u ∷ rest) last.1 o.0 ∙ last.2

-- nor does an item that is no timestamp
pub goes_on_other : (names : List (List ℕ)) (times : List ℕ) (x : BodyItem) → marks (x ∷ []) ≡ [] → ends_early (Request.Sample times names) x ≡ false
goes_on_other names times x e = by_last (last_or None times) x e
  where
    by_last : (o : Option ℕ) (x : BodyItem) → marks (x ∷ []) ≡ [] → elim o [ Some t ↦ is_mark_above t x | None ↦ false ] ≡ false
    by_last None x e = refl
    by_last (Some t) (BodyItem.Time u) e = cc
    by_last (Some t) (BodyItem.Begin s) e = refl
    by_last (Some t) BodyItem.End e = refl
    by_last (Some t) (BodyItem.Changes c) e = refl

-- if there were some left, it does if and only if none is
module _ (names : List (List ℕ)) (items : List BodyItem) (t : ℕ) (done : List ℕ) where
  pub ended : (below others : List ℕ) → others ≡ [] → below ++ others ≢ [] → AreSettled false items (below ++ others)
      → AllByRecursion (λ u. u < t) below → ends_early (Request.Sample (done ++ (below ++ others)) names) (BodyItem.Time t) ≡ true
  ended [] others none some unsettled low = absurd (some none)
  ended (u ∷ below) others none some unsettled low =
      ends_here names items t done u (below ++ others) unsettled
      (subst (λ l. AreSettled true (items ++ BodyItem.Time t ∷ []) (u ∷ l)) (sym (ap (λ l. below ++ l) none ∙ append-nil below)) (all_settled_by items t (u ∷ below) low))

  pub not_ended : (below others : List ℕ) → others ≢ [] → AreSettled false (items ++ BodyItem.Time t ∷ []) others
      → ends_early (Request.Sample (done ++ (below ++ others)) names) (BodyItem.Time t) ≡ false
  not_ended below [] some high = absurd (some refl)
  not_ended below (o ∷ others) some high =
      ap (λ ts. ends_early (Request.Sample ts names) (BodyItem.Time t)) (sym (append_assoc done below (o ∷ others))) ∙ goes_on names items t (done ++ below) o others high
