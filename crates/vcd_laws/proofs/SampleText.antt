-- The whole output of a clean `sample`: the lines of each of its times.
use Rattle.vcd_laws.proofs.Cited.{◌≡◌, ◌≢◌, ℕ, ◌<◌, ◌≤◌, Bool, true, false, not, ◌||◌, nat_lt, List, [], ◌∷◌, ◌++◌, filter, flat_map, Option, Some, None, ◌⊎◌, inl, inr, refl, sym, ap, ◌∙◌, arith, list_any, last_or, AllByRecursion, IsStrictlyIncreasing, flat_map-append, cases_lt, ltb-true, lt-ltb, up_to_first, Header, BodyItem, is_mark_above, Selected, selected, sample_lines, Fault, Request, clean_outcome, ends_early, lines_stay, rises_on, up_first, split_times, settled_below, same_lines}
use Rattle.vcd_model.specs.Items.{marks}
use Rattle.vcd_model.specs.Sample.{is_settled, sample_open, sample_close}
use Rattle.vcd_model.specs.Outcome.{over_body}

all_true : (ts : List ℕ) → filter (λ t. true) ts ≡ ts
all_true [] = refl
all_true (t ∷ ts) = ap (λ l. t ∷ l) (all_true ts)

-- settled times, and then the others
both_parts : (s : ℕ → Bool) (ts : List ℕ) → ((t u : ℕ) → t < u → s u ≡ true → s t ≡ true)
    → IsStrictlyIncreasing ts → filter s ts ++ filter (λ t. not (s t)) ts ≡ ts
both_parts s ts d up = sym (split_times s (λ t. true) ts d (λ t e. refl) up) ∙ all_true ts

-- ---- if a timestamp ended the run

-- the items up to the first that passes a test, and the others
record IsCut (test : BodyItem → Bool) (items : List BodyItem) : Type 0 where
  rest : List BodyItem
  parts : items ≡ up_to_first test items ++ rest
  ends : list_any test (up_to_first test items) ≡ true

is_cut : (test : BodyItem → Bool) (items : List BodyItem) → list_any test items ≡ true
    → IsCut test items
is_cut test [] h = cc
is_cut test (x ∷ xs) h = by_test (test x) refl h (is_cut test xs)
  where
    by_test : (b : Bool) → test x ≡ b → (b || list_any test xs) ≡ true
        → (list_any test xs ≡ true → IsCut test xs) → IsCut test (x ∷ xs)
    by_test true e g more = record { rest = xs; parts = rw e refl; ends = rw e refl }
    by_test false e g more = let m = more g in record {
      rest = m.rest;
      parts = rw e (ap (λ l. x ∷ l) m.parts);
      ends = rw e m.ends;
    }

-- a timestamp above a time settles it
above_settles : (l : ℕ) (items : List BodyItem) → list_any (is_mark_above l) items ≡ true
    → is_settled items l ≡ true
above_settles l [] h = cc
above_settles l (BodyItem.Time t ∷ items) h = by_test (nat_lt l t) h (above_settles l items)
  where
    by_test : (b : Bool) → (b || list_any (is_mark_above l) items) ≡ true
        → (list_any (is_mark_above l) items ≡ true → is_settled items l ≡ true)
        → (b || is_settled items l) ≡ true
    by_test true g more = refl
    by_test false g more = more g
above_settles l (BodyItem.Begin s ∷ items) h = above_settles l items h
above_settles l (BodyItem.End ∷ items) h = above_settles l items h
above_settles l (BodyItem.Changes c ∷ items) h = above_settles l items h

-- times that rise are at most the last
last_most : (t l : ℕ) (ts : List ℕ) → IsStrictlyIncreasing (t ∷ ts) → last_or (Some t) ts ≡ Some l
    → AllByRecursion (λ u. u ≤ l) (t ∷ ts)
last_most t l [] up e = (let same : t ≡ l = cc in omega arith, tt)
last_most t l (u ∷ ts) up e = let more = last_most u l ts (rises_on t (u ∷ ts) up) e in
    ((let a = up_first t u ts up in let b = more.0 in omega arith), more)

all_settled : (items : List BodyItem) (l : ℕ) (ts : List ℕ) → is_settled items l ≡ true
    → AllByRecursion (λ u. u ≤ l) ts → filter (is_settled items) ts ≡ ts
all_settled items l [] h a = refl
all_settled items l (t ∷ ts) h a =
    rw (one (cases_lt t l)) (ap (λ x. t ∷ x) (all_settled items l ts h a.1))
  where
    one : (t < l) ⊎ (l ≤ t) → is_settled items t ≡ true
    one (inl below) = settled_below (marks items) t l below h
    one (inr above) = let same : t ≡ l = (let b = a.0 in omega arith) in ap (is_settled items) same
        ∙ h

has_last : (t : ℕ) (ts : List ℕ) → (l : ℕ) × (last_or (Some t) ts ≡ Some l)
has_last t [] = (t, refl)
has_last t (u ∷ ts) = has_last u ts

same_any : (f g : BodyItem → Bool) (items : List BodyItem) → ((x : BodyItem) → f x ≡ g x)
    → list_any f items ≡ list_any g items
same_any f g [] h = refl
same_any f g (x ∷ xs) h = rw (h x, same_any f g xs h) refl

-- ---- both

sample_ended : (h : Header) (t : ℕ) (ts : List ℕ) (names : List (List ℕ)) (items : List BodyItem)
    → IsStrictlyIncreasing (t ∷ ts)
    → list_any (ends_early (Request.Sample (t ∷ ts) names)) items ≡ true
    → sample_open h (t ∷ ts) names (up_to_first (ends_early (Request.Sample (t ∷ ts) names)) items)
    ≡ flat_map (sample_lines (selected names h.declarations) items) (t ∷ ts)
unfolding sample_open
sample_ended h t ts names items up early =
    let task = Request.Sample (t ∷ ts) names in
    let vs = selected names h.declarations in
    let cut = is_cut (ends_early task) items early in
    let p = up_to_first (ends_early task) items in
    let last = has_last t ts in
    let settled : is_settled p last.0 ≡ true =
    above_settles last.0 p (same_any (is_mark_above last.0) (ends_early task) p
    (λ x. rw (last.1, ends_early) refl) ∙ cut.ends) in
    let whole = all_settled p last.0 (t ∷ ts) settled (last_most t last.0 ts up last.1) in
    sym (same_lines (sample_lines vs (p ++ cut.rest)) (sample_lines vs p) (is_settled p) (t ∷ ts)
    (lines_stay vs p cut.rest))
    ∙ ap (flat_map (sample_lines vs (p ++ cut.rest))) whole
    ∙ ap (λ (l : List BodyItem). flat_map (sample_lines vs l) (t ∷ ts)) (sym cut.parts)

-- a `sample` that a timestamp ended, or that has no fault, has the lines of each of its times
pub sample_is : (h : Header) (times : List ℕ) (names : List (List ℕ)) (items : List BodyItem)
    (name : List ℕ) (fault : Option Fault) → times ≢ [] → IsStrictlyIncreasing times
    → (list_any (ends_early (Request.Sample times names)) items ≡ true) ⊎ (fault ≡ None)
    → over_body (Request.Sample times names) h items name fault
    ≡ clean_outcome (flat_map (sample_lines (selected names h.declarations) items) times)
unfolding over_body sample_open sample_close
sample_is h [] names items name fault some up clean = absurd (some refl)
sample_is h (t ∷ ts) names items name fault some up clean =
    by_end (list_any (ends_early (Request.Sample (t ∷ ts) names)) items) refl clean
  where
    vs : List Selected
    vs = selected names h.declarations

    by_end : (b : Bool) → list_any (ends_early (Request.Sample (t ∷ ts) names)) items ≡ b
        → (list_any (ends_early (Request.Sample (t ∷ ts) names)) items ≡ true) ⊎ (fault ≡ None)
        → over_body (Request.Sample (t ∷ ts) names) h items name fault
        ≡ clean_outcome (flat_map (sample_lines vs items) (t ∷ ts))
    by_end true e clean = rw (e, over_body) (ap clean_outcome
        (sample_ended h t ts names items up e))
    by_end false e (inl ends) = cc
    by_end false e (inr none) =
        rw (e, over_body, none)
        (ap clean_outcome (sym (flat_map-append (sample_lines vs items)
        (filter (is_settled items) (t ∷ ts)) (filter (λ u. not (is_settled items u)) (t ∷ ts)))
        ∙ ap (flat_map (sample_lines vs items))
        (both_parts (is_settled items) (t ∷ ts) (settled_below (marks items)) up)))

-- a timestamp above the last time is above the times
pub above_less : (b l : ℕ) (items : List BodyItem) → l ≤ b → list_any (is_mark_above b) items ≡ true
    → list_any (is_mark_above l) items ≡ true
above_less b l [] le h = cc
above_less b l (BodyItem.Time t ∷ items) le h =
    by_test (nat_lt b t) refl h (above_less b l items le)
  where
    by_test : (x : Bool) → nat_lt b t ≡ x → (x || list_any (is_mark_above b) items) ≡ true
        → (list_any (is_mark_above b) items ≡ true → list_any (is_mark_above l) items ≡ true)
        → (nat_lt l t || list_any (is_mark_above l) items) ≡ true
    by_test true e g more = let k = ltb-true b t e in rw (lt-ltb l t (omega arith)) refl
    by_test false e g more = rw (more g) (or_true (nat_lt l t))
      where
        or_true : (y : Bool) → (y || true) ≡ true
        or_true true = refl
        or_true false = refl
above_less b l (BodyItem.Begin s ∷ items) le h = above_less b l items le h
above_less b l (BodyItem.End ∷ items) le h = above_less b l items le h
above_less b l (BodyItem.Changes c ∷ items) le h = above_less b l items le h

last_kept : (b t : ℕ) (ts : List ℕ) (l : ℕ) → AllByRecursion (λ u. u ≤ b) (t ∷ ts)
    → last_or (Some t) ts ≡ Some l → l ≤ b
last_kept b t [] l h e = let same : t ≡ l = cc in (let k = h.0 in omega arith)
last_kept b t (u ∷ ts) l h e = last_kept b u ts l h.1 e

-- a timestamp above a bound of the times ends a sample
pub ends_sample : (b : ℕ) (times : List ℕ) (names : List (List ℕ)) (items : List BodyItem)
    → times ≢ [] → AllByRecursion (λ u. u ≤ b) times → list_any (is_mark_above b) items ≡ true
    → list_any (ends_early (Request.Sample times names)) items ≡ true
ends_sample b [] names items some h e = absurd (some refl)
ends_sample b (t ∷ ts) names items some h e =
    let last = has_last t ts in
    same_any (ends_early (Request.Sample (t ∷ ts) names)) (is_mark_above last.0) items
    (λ x. rw (last.1, ends_early) refl)
    ∙ above_less b last.0 items (last_kept b t ts last.0 h last.1) e
