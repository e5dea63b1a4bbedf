-- The value of a code just before a time, with one item more.
use Rattle.std.proofs.Common.{◌≡◌, ℕ, ◌<◌, ◌≤◌, max, Bool, true, false, cond, ◌&&◌, nat_lt, is_none, List, [], ◌∷◌, ◌++◌, fold, filter_map, Option, Some, None, refl, sym, ap, ap₂, ◌∙◌, arith, append-nil, append_assoc}
use Rattle.std.proofs.lemmas.List.Elements.{filter_map-append}
use Rattle.std.proofs.lemmas.Bool.{le-ltb}
use Rattle.vcd_model.specs.Backward.{each, each_after, each_some}
use Rattle.vcd_model.specs.Declarations.{IdCode, same_code}
use Rattle.vcd_model.specs.Items.{BodyItem, Change, Entry, entries, entry_after, marks, open_section, time_after}
use Rattle.vcd_model.specs.Values.{Value, value_of}
use Rattle.vcd_model.specs.History.{final_value, gives_to, value_before, value_in}
use Rattle.vcd_model.specs.Strobe.{initial_value, is_vars, sampled, value_from_start}
use Rattle.vcd_model.proofs.FinalValues.{final_new, value_before_is}
use Rattle.vcd_model.proofs.Growing.{each_after-append, entries-append}
use Rattle.vcd_model.proofs.Latest.{behind, gives_at, gives_at-value, last_value_is, latest, latest-append, newer}
use Rattle.vcd_model.proofs.Times.{fold-append, marks-append}

-- ---- the time

pub time_still : (p : List BodyItem) (x : BodyItem) → marks (x ∷ []) ≡ [] → time_after (p ++ x ∷ []) ≡ time_after p
time_still p x e = ap (fold max 0) (marks-append p (x ∷ []) ∙ ap (λ l. marks p ++ l) e ∙ append-nil (marks p))

pub time_on : (p : List BodyItem) (t : ℕ) → time_after p ≤ t → time_after (p ++ BodyItem.Time t ∷ []) ≡ t
time_on p t le = ap (fold max 0) (marks-append p (BodyItem.Time t ∷ [])) ∙ fold-append max 0 (marks p) (t ∷ []) ∙ (let l = le in omega (arith, l))

-- ---- the value before a time

before_same : (p : List BodyItem) (x : BodyItem) (c : IdCode) (a : ℕ) → gives_at c (λ u. nat_lt u a) (entry_after p x) ≡ false → value_before (p ++ x ∷ []) c a ≡ value_before p c a
before_same p x c a e =
    last_value_is c (λ u. nat_lt u a) (p ++ x ∷ []) ∙ ap (latest (gives_at c (λ u. nat_lt u a))) (entries-append p (x ∷ []))
    ∙ latest-append (gives_at c (λ u. nat_lt u a)) (entries p) (entry_after p x ∷ [])
    ∙ rw e (sym (last_value_is c (λ u. nat_lt u a) p))

-- a code that no entry gives a value has none before any time
no_newer : (b b' : Bool) (v o : Option Value) → (b ≡ true → (w : Value) × (v ≡ Some w)) → (b ≡ false → b' ≡ false) → newer b v o ≡ None → (o ≡ None) × (b' ≡ false)
no_newer b b' v (Some w) gives less e = cc
no_newer true b' v None gives less e = let g = gives refl in absurd (none (sym g.1 ∙ e))
  where
    none : {w : Value} → Some w ≡ None → ⊥
    none e = cc
no_newer false b' v None gives less e = (refl, less refl)

no_value : (c : IdCode) (at : ℕ → Bool) (es : List Entry) → latest (gives_at c (λ u. true)) es ≡ None → latest (gives_at c at) es ≡ None
no_value c at [] e = refl
no_value c at (x ∷ es) e =
    let n = no_newer (gives_at c (λ u. true) x) (gives_at c at x) (value_in x) (latest (gives_at c (λ u. true)) es) (λ g. gives_at-value c (λ u. true) x g) (less (gives_to c x.item)) e in
    rw (n.1, no_value c at es n.0) refl
  where
    less : (g : Bool) → (g && true) ≡ false → (g && at x.time) ≡ false
    less true e = cc
    less false e = refl

before_none : (p : List BodyItem) (c : IdCode) (a : ℕ) → final_value p c ≡ None → value_before p c a ≡ None
before_none p c a e = last_value_is c (λ u. nat_lt u a) p ∙ no_value c (λ u. nat_lt u a) (entries p) (sym (last_value_is c (λ u. true) p) ∙ e)

-- ---- the value from the start

starts_more : (c : IdCode) (p : List BodyItem) (x : BodyItem)
    → each_some (value_from_start c) (p ++ x ∷ []) ≡ each_some (value_from_start c) p ++ filter_map (λ o. o) (value_from_start c p x ∷ [])
starts_more c p x = ap (filter_map (λ o. o)) (each_after-append (value_from_start c) [] p (x ∷ [])) ∙ filter_map-append (λ o. o) (each (value_from_start c) p) (value_from_start c p x ∷ [])

abbrev first_of : List Value → Option Value
first_of [] = None
first_of (v ∷ vs) = Some v

initial_is : (p : List BodyItem) (c : IdCode) → initial_value p c ≡ first_of (each_some (value_from_start c) p)
initial_is p c = by_list (each_some (value_from_start c) p)
  where
    by_list : (l : List Value) → elim l [ [] ↦ None | v ∷ vs ↦ Some v ] ≡ first_of l
    by_list [] = refl
    by_list (v ∷ vs) = refl

initial_same : (p : List BodyItem) (x : BodyItem) (c : IdCode) → value_from_start c p x ≡ None → initial_value (p ++ x ∷ []) c ≡ initial_value p c
initial_same p x c e = initial_is (p ++ x ∷ []) c ∙ ap first_of (starts_more c p x ∙ rw e (append-nil (each_some (value_from_start c) p))) ∙ sym (initial_is p c)

-- no value, none from the start
final_front : (c : IdCode) (p q : List BodyItem) → final_value (p ++ q) c ≡ None → final_value p c ≡ None
final_front c p q e =
    last_value_is c (λ u. true) p
    ∙ earlier (latest test (each_after entry_after p q)) (latest test (entries p))
    (sym (last_value_is c (λ u. true) (p ++ q) ∙ ap (latest test) (entries-append p q) ∙ latest-append test (entries p) (each_after entry_after p q))
    ∙ e)
  where
    test : Entry → Bool
    test = gives_at c (λ u. true)

    earlier : (l o : Option Value) → behind l o ≡ None → o ≡ None
    earlier (Some v) o e = cc
    earlier None o e = e

gives_nothing : (c : IdCode) (p : List BodyItem) (x : BodyItem) → final_value (p ++ x ∷ []) c ≡ None → gives_to c x ≡ false
gives_nothing c p (BodyItem.Time t) e = refl
gives_nothing c p (BodyItem.Begin s) e = refl
gives_nothing c p BodyItem.End e = refl
gives_nothing c p (BodyItem.Changes d) e = by_code (same_code c d.code) refl
  where
    by_code : (b : Bool) → same_code c d.code ≡ b → b ≡ false
    by_code true is = let some = sym (final_new c p d is) ∙ e in cc
    by_code false is = refl

none_from : (c : IdCode) (b xs : List BodyItem) → final_value (b ++ xs) c ≡ None → filter_map (λ o. o) (each_after (value_from_start c) b xs) ≡ []
none_from c b [] e = refl
none_from c b (x ∷ xs) e =
    let on : final_value ((b ++ x ∷ []) ++ xs) c ≡ None = ap (λ l. final_value l c) (append_assoc b (x ∷ []) xs) ∙ e in
    let no = gives_nothing c b x (final_front c (b ++ x ∷ []) xs on) in
    rw no (none_from c (b ++ x ∷ []) xs on)

starts_none : (p : List BodyItem) (c : IdCode) → final_value p c ≡ None → each_some (value_from_start c) p ≡ []
starts_none p c e = none_from c [] p e

-- ---- the value just before the time of all items

abbrev sampled_by : Option Value → Option Value → Option Value
sampled_by (Some v) i = Some v
sampled_by None i = i

sampled_is : (p : List BodyItem) (c : IdCode) → sampled p c ≡ sampled_by (value_before p c (time_after p)) (initial_value p c)
unfolding sampled
sampled_is p c = by_value (value_before p c (time_after p))
  where
    by_value : (o : Option Value) → elim o [ Some v ↦ Some v | None ↦ initial_value p c ] ≡ sampled_by o (initial_value p c)
    by_value (Some v) = refl
    by_value None = refl

-- before the first item there is none
pub sampled_first : (c : IdCode) → sampled [] c ≡ None
sampled_first c = sampled_is [] c

-- one that gives the code no value at an earlier time, and none from the start
sampled_same : (p : List BodyItem) (x : BodyItem) (c : IdCode) → time_after (p ++ x ∷ []) ≡ time_after p
    → gives_at c (λ u. nat_lt u (time_after p)) (entry_after p x) ≡ false → value_from_start c p x ≡ None → sampled (p ++ x ∷ []) c ≡ sampled p c
sampled_same p x c time early none =
    sampled_is (p ++ x ∷ []) c
    ∙ ap (λ t. sampled_by (value_before (p ++ x ∷ []) c t) (initial_value (p ++ x ∷ []) c)) time
    ∙ ap₂ sampled_by (before_same p x c (time_after p) early) (initial_same p x c none)
    ∙ sym (sampled_is p c)

-- an item that gives the code no value
no_start : (p : List BodyItem) (x : BodyItem) (c : IdCode) → gives_to c x ≡ false → value_from_start c p x ≡ None
no_start p x c e = rw e refl

pub sampled_other : (p : List BodyItem) (x : BodyItem) (c : IdCode) → time_after (p ++ x ∷ []) ≡ time_after p → gives_to c x ≡ false → sampled (p ++ x ∷ []) c ≡ sampled p c
sampled_other p x c time e = sampled_same p x c time (rw e refl) (no_start p x c e)

-- a change, but for the first value in a `$dumpvars`
pub sampled_stays : (p : List BodyItem) (d : Change) (c : IdCode) → (is_none (final_value p c) && is_vars (open_section p)) ≡ false → sampled (p ++ BodyItem.Changes d ∷ []) c ≡ sampled p c
sampled_stays p d c later =
    sampled_same p (BodyItem.Changes d) c (time_still p (BodyItem.Changes d) refl)
    (rw (le-ltb (time_after p) (time_after p) (omega arith)) (and_no (same_code c d.code)))
    (by_code (same_code c d.code) refl)
  where
    and_no : (b : Bool) → (b && false) ≡ false
    and_no true = refl
    and_no false = refl

    by_parts : (a b : Bool) → (a && b) ≡ false → cond (true && a && b) (Some (value_of d)) None ≡ None
    by_parts true true e = cc
    by_parts true false e = refl
    by_parts false b e = refl

    by_code : (b : Bool) → same_code c d.code ≡ b → value_from_start c p (BodyItem.Changes d) ≡ None
    by_code true e = rw e (by_parts (is_none (final_value p c)) (is_vars (open_section p)) later)
    by_code false e = no_start p (BodyItem.Changes d) c e

-- the first value in a `$dumpvars`
pub sampled_start : (p : List BodyItem) (d : Change) (c : IdCode) → same_code c d.code ≡ true → final_value p c ≡ None
    → is_vars (open_section p) ≡ true → sampled (p ++ BodyItem.Changes d ∷ []) c ≡ Some (value_of d)
sampled_start p d c same none vars =
    sampled_is (p ++ BodyItem.Changes d ∷ []) c
    ∙ ap (λ t. sampled_by (value_before (p ++ BodyItem.Changes d ∷ []) c t) (initial_value (p ++ BodyItem.Changes d ∷ []) c)) (time_still p (BodyItem.Changes d) refl)
    ∙ ap₂ sampled_by (before_same p (BodyItem.Changes d) c (time_after p) (rw (le-ltb (time_after p) (time_after p) (omega arith), same) refl) ∙ before_none p c (time_after p) none)
    (initial_is (p ++ BodyItem.Changes d ∷ []) c ∙ ap first_of (starts_more c p (BodyItem.Changes d)
    ∙ ap (λ l. l ++ filter_map (λ o. o) (value_from_start c p (BodyItem.Changes d) ∷ [])) (starts_none p c none)) ∙ rw (same, none, vars) refl)

-- ---- a timestamp

pub sampled_again : (p : List BodyItem) (t : ℕ) (c : IdCode) → time_after p ≡ t → sampled (p ++ BodyItem.Time t ∷ []) c ≡ sampled p c
sampled_again p t c is = sampled_other p (BodyItem.Time t) c (time_on p t (omega (arith, is)) ∙ sym is) refl

pub sampled_later : (p : List BodyItem) (t : ℕ) (c : IdCode) → time_after p < t → sampled (p ++ BodyItem.Time t ∷ []) c ≡ final_value p c
sampled_later p t c lt =
    sampled_is (p ++ BodyItem.Time t ∷ []) c
    ∙ ap (λ u. sampled_by (value_before (p ++ BodyItem.Time t ∷ []) c u) (initial_value (p ++ BodyItem.Time t ∷ []) c)) (time_on p t (omega (arith, lt)))
    ∙ ap₂ sampled_by (before_same p (BodyItem.Time t) c t refl ∙ value_before_is c t p lt) (initial_same p (BodyItem.Time t) c refl)
    ∙ by_value (final_value p c) refl
  where
    by_value : (o : Option Value) → final_value p c ≡ o → sampled_by o (initial_value p c) ≡ o
    by_value (Some v) e = refl
    by_value None e = initial_is p c ∙ ap first_of (starts_none p c e)
