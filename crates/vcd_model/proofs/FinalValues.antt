-- The values of codes after all items, with one item more; and when they are those before a time,
-- or at it.
use Rattle.vcd_model.proofs.Cited.{◌≡◌, ℕ, ◌≤◌, ◌<◌, Bool, true, false, ◌&&◌, nat_lt, nat_le, List, [], ◌∷◌, ◌++◌, Some, refl, sym, ap, ◌∙◌, subst, arith, AllByRecursion, append_assoc, le-leb, lt-ltb, each_after, IdCode, same_code, BodyItem, Change, Entry, entries, entry_after, time_after, value_of, gives_to, last_value, value_at, value_before, final_value}
use Rattle.vcd_model.proofs.Growing.{entries-append}
use Rattle.vcd_model.proofs.Latest.{gives_at, last_value_is, latest, latest-append, latest_agree}
use Rattle.vcd_model.proofs.Times.{time_after-append}

-- an item that gives this code no value leaves it
pub final_other : (c : IdCode) (p : List BodyItem) (x : BodyItem) → gives_to c x ≡ false → final_value (p ++ x ∷ []) c ≡ final_value p c
final_other c p x e =
    last_value_is c (λ u. true) (p ++ x ∷ []) ∙ ap (latest (gives_at c (λ u. true))) (entries-append p (x ∷ []))
    ∙ latest-append (gives_at c (λ u. true)) (entries p) (entry_after p x ∷ [])
    ∙ rw e (sym (last_value_is c (λ u. true) p))

-- a change of it gives it
pub final_new : (c : IdCode) (p : List BodyItem) (d : Change) → same_code c d.code ≡ true → final_value (p ++ BodyItem.Changes d ∷ []) c ≡ Some (value_of d)
final_new c p d e =
    last_value_is c (λ u. true) (p ++ BodyItem.Changes d ∷ []) ∙ ap (latest (gives_at c (λ u. true))) (entries-append p (BodyItem.Changes d ∷ []))
    ∙ latest-append (gives_at c (λ u. true)) (entries p) (entry_after p (BodyItem.Changes d) ∷ [])
    ∙ rw e refl

-- ---- a time after all items

-- no entry is later than all items
pub times_within : (b q : List BodyItem) → AllByRecursion (λ e. e.time ≤ time_after (b ++ q)) (each_after entry_after b q)
times_within b [] = tt
times_within b (x ∷ q) = (
  time_after-append b (x ∷ q),
  subst (λ (all : List BodyItem). AllByRecursion (λ e. e.time ≤ time_after all) (each_after entry_after (b ++ x ∷ []) q)) (append_assoc b (x ∷ []) q) (times_within (b ++ x ∷ []) q),
)

-- a test that all times pass
pub all_pass : (c : IdCode) (test : ℕ → Bool) (t : ℕ) → ((u : ℕ) → u ≤ t → test u ≡ true) → (es : List Entry) → AllByRecursion (λ e. e.time ≤ t) es
    → AllByRecursion (λ e. gives_at c test e ≡ gives_at c (λ u. true) e) es
all_pass c test t passes [] h = tt
all_pass c test t passes (e ∷ es) h = (ap (λ (b : Bool). gives_to c e.item && b) (passes e.time h.0), all_pass c test t passes es h.1)

pub value_by : (c : IdCode) (test : ℕ → Bool) (p : List BodyItem) → ((u : ℕ) → u ≤ time_after p → test u ≡ true) → last_value c test p ≡ final_value p c
value_by c test p passes =
    last_value_is c test p ∙ latest_agree (gives_at c test) (gives_at c (λ u. true)) (entries p)
    (all_pass c test (time_after p) passes (entries p) (times_within [] p)) ∙ sym (last_value_is c (λ u. true) p)

-- before a time that is not reached, the value is that after all items
pub value_before_is : (c : IdCode) (a : ℕ) (p : List BodyItem) → time_after p < a → value_before p c a ≡ final_value p c
value_before_is c a p low = value_by c (λ u. nat_lt u a) p (λ u le. lt-ltb u a (omega (arith, le, low)))

-- at a time that is not passed too
pub value_at_is : (c : IdCode) (t : ℕ) (p : List BodyItem) → time_after p ≤ t → value_at p c t ≡ final_value p c
value_at_is c t p low = value_by c (λ u. nat_le u t) p (λ u le. le-leb u t (omega (arith, le, low)))
