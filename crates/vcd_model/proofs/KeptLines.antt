-- The text of kept items if one item more comes: it is enough to know the time whose line was
-- written last.
use Rattle.vcd_model.proofs.Cited.{◌≡◌, ℕ, ◌≤◌, Bool, true, false, cond, ◌&&◌, ◌||◌, ◌==◌, List, [], ◌∷◌, ◌++◌, map, Option, Some, None, refl, sym, ap, ◌∙◌, subst, arith, list_any, last_or, eq-eqb, eqb-true, append_assoc, append-nil, each_after, Header, head_for, BodyItem, Entry, entry_after, entries, time_after, leaves_open, time_line, time_unless, time_due, may_keep, kept_by, is_picked, selected}
use Rattle.vcd_model.specs.Pick.{pick_open}
use Rattle.vcd_model.proofs.Growing.{kept_by-append, entries-append}
use Rattle.vcd_model.proofs.Times.{time_after-append}

-- the times of the kept entries
abbrev pub kept_times : (Entry → Bool) → List BodyItem → List ℕ
kept_times chosen items = map (λ e. e.time) (kept_by chosen (entries items))

-- the time of the last kept entry, none if there is none
abbrev pub last_time : (Entry → Bool) → List BodyItem → Option ℕ
last_time chosen items = last_or None (kept_times chosen items)

-- is the item kept after these items
abbrev pub keeps : (Entry → Bool) → List BodyItem → BodyItem → Bool
keeps chosen items x = chosen (entry_after items x) && may_keep x (leaves_open items)

-- ---- a look at the last time is enough

-- times that never fall, from the first number to the second
abbrev pub Rise : ℕ → ℕ → List ℕ → Type 0
Rise low high [] = low ≤ high
Rise low high (t ∷ ts) = (low ≤ t) × Rise t high ts

-- the bounds of times that rise
pub rise_bounds : (low high : ℕ) (ts : List ℕ) → Rise low high ts → low ≤ high
rise_bounds low high [] r = r
rise_bounds low high (t ∷ ts) r = let h = rise_bounds t high ts r.1 in let l = r.0 in omega arith

-- times that rise do so from a lower number too
pub rise_from : (lower low high : ℕ) (ts : List ℕ) → lower ≤ low → Rise low high ts → Rise lower high ts
rise_from lower low high [] l r = omega arith
rise_from lower low high (t ∷ ts) l r = let m = r.0 in (omega arith, r.1)

-- the times of the kept entries among items that have these before them
abbrev pub times_behind : (Entry → Bool) → List BodyItem → List BodyItem → List ℕ
times_behind chosen earlier items = map (λ e. e.time) (kept_by chosen (each_after entry_after earlier items))

-- the times of kept entries rise up to the time after all items
pub kept_rise : (chosen : Entry → Bool) (b q : List BodyItem) → Rise (time_after b) (time_after (b ++ q)) (times_behind chosen b q)
kept_rise chosen b [] = time_after-append b []
kept_rise chosen b (x ∷ q) =
    by_keep (keeps chosen b x)
    (rise_from (time_after b) (time_after (b ++ x ∷ [])) (time_after (b ++ x ∷ q)) (times_behind chosen (b ++ x ∷ []) q) (time_after-append b (x ∷ []))
    (subst (λ (all : List BodyItem). Rise (time_after (b ++ x ∷ [])) (time_after all) (times_behind chosen (b ++ x ∷ []) q)) (append_assoc b (x ∷ []) q) (kept_rise chosen (b ++ x ∷ []) q)))
  where
    by_keep : (k : Bool) → Rise (time_after b) (time_after (b ++ x ∷ q)) (times_behind chosen (b ++ x ∷ []) q)
        → Rise (time_after b) (time_after (b ++ x ∷ q)) (map (λ e. e.time)
        (cond k (entry_after b x ∷ kept_by chosen (each_after entry_after (b ++ x ∷ []) q))
        (kept_by chosen (each_after entry_after (b ++ x ∷ []) q))))
    by_keep true later = (omega arith, later)
    by_keep false later = later

-- if times rise up to t, t is among them if and only if it is the last
pub last_is_enough : (t u : ℕ) (ts : List ℕ) → Rise u t ts → time_unless (u ∷ ts) t ≡ time_due (last_or (Some u) ts) t
last_is_enough t u [] r = by_test (u == t)
  where
    by_test : (b : Bool) → cond (b || false) [] (time_line t) ≡ cond b [] (time_line t)
    by_test true = refl
    by_test false = refl
last_is_enough t u (v ∷ ts) r = by_test (u == t) refl (last_is_enough t v ts r.1)
  where
    by_test : (b : Bool) → (u == t) ≡ b → time_unless (v ∷ ts) t ≡ time_due (last_or (Some v) ts) t
        → cond (b || list_any (λ w. w == t) (v ∷ ts)) [] (time_line t) ≡ time_due (last_or (Some v) ts) t
    by_test true e later =
        let same = eqb-true u t e in let low = r.0 in let high = rise_bounds v t ts r.1 in
        let there : (v == t) ≡ true = eq-eqb v t (omega arith) in
        ap (λ (b : Bool). cond (b || list_any (λ w. w == t) ts) [] (time_line t)) (sym there) ∙ later
    by_test false e later = later

-- if the line of the time after all items is asked for, a look at the last written time is
-- enough
pub time_unless_last : (chosen : Entry → Bool) (items : List BodyItem) → time_unless (kept_times chosen items) (time_after items) ≡ time_due (last_time chosen items) (time_after items)
time_unless_last chosen items = by_times (kept_times chosen items) (kept_rise chosen [] items)
  where
    by_times : (ts : List ℕ) → Rise 0 (time_after items) ts → time_unless ts (time_after items) ≡ time_due (last_or None ts) (time_after items)
    by_times [] r = refl
    by_times (u ∷ ts) r = last_is_enough (time_after items) u ts r.1

-- ---- one item more

-- the kept entries, with one item more
pub kept_more : (chosen : Entry → Bool) (items : List BodyItem) (x : BodyItem) (k : Bool) → keeps chosen items x ≡ k
    → kept_by chosen (entries (items ++ x ∷ [])) ≡ kept_by chosen (entries items) ++ cond k (entry_after items x ∷ []) []
kept_more chosen items x k e =
    ap (kept_by chosen) (entries-append items (x ∷ []))
    ∙ kept_by-append chosen (entries items) (entry_after items x ∷ [])
    ∙ ap (λ (b : Bool). kept_by chosen (entries items) ++ cond b (entry_after items x ∷ []) []) e

-- .. if that one is not kept
pub kept_same : (chosen : Entry → Bool) (items : List BodyItem) (x : BodyItem) → keeps chosen items x ≡ false → kept_by chosen (entries (items ++ x ∷ [])) ≡ kept_by chosen (entries items)
kept_same chosen items x e = kept_more chosen items x false e ∙ append-nil (kept_by chosen (entries items))

-- the last of a list with one more at its end
pub last_or-snoc : (o : Option ℕ) (ts : List ℕ) (t : ℕ) → last_or o (ts ++ t ∷ []) ≡ Some t
last_or-snoc o [] t = refl
last_or-snoc o (u ∷ ts) t = last_or-snoc (Some u) ts t

-- ---- `pick`

-- what `pick` chooses
abbrev pub picked_by : Header → List (List ℕ) → Entry → Bool
picked_by h names e = is_picked (selected names h.declarations) e.item

-- before the first item only the head is written
pub pick_open_none : (h : Header) (names : List (List ℕ)) → pick_open h names [] ≡ head_for h names
unfolding pick_open
pick_open_none h names = append-nil (head_for h names)
