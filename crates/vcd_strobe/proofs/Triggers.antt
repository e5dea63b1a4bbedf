-- Whether an event was triggered between two times, with one item more.
use Rattle.std.proofs.Common.{◌≡◌, ℕ, ◌<◌, ◌≤◌, Bool, true, false, not, ◌&&◌, ◌||◌, nat_lt, nat_le, List, [], ◌∷◌, ◌++◌, refl, ap, ◌∙◌, arith}
use Rattle.std.proofs.Math.Bool.{or-false, or-true}
use Rattle.std.proofs.lemmas.Bool.{le-leb, le-ltb, leb-false, leb-true, lt-leb, lt-ltb, or_parts}
use Rattle.std.proofs.lemmas.List.Folds.{list_any-append}
use Rattle.std.specs.List.{AllByRecursion, list_any}
use Rattle.vcd_model.specs.Declarations.{IdCode}
use Rattle.vcd_model.specs.Items.{BodyItem, Entry, entries, entry_after, leaves_open, time_after}
use Rattle.vcd_model.specs.History.{gives_to}
use Rattle.vcd_model.specs.Strobe.{is_triggered}
use Rattle.vcd_model.proofs.FinalValues.{times_within}
use Rattle.vcd_model.proofs.Growing.{entries-append}

abbrev triggers : IdCode → ℕ → ℕ → Entry → Bool
triggers c from to e = gives_to c e.item && not e.inside && nat_le from e.time && nat_lt e.time to

triggered_more : (p : List BodyItem) (x : BodyItem) (c : IdCode) (from to : ℕ) → is_triggered (p ++ x ∷ []) c from to ≡ (is_triggered p c from to || triggers c from to (entry_after p x))
triggered_more p x c from to =
    ap (list_any (triggers c from to)) (entries-append p (x ∷ [])) ∙ list_any-append (triggers c from to) (entries p) (entry_after p x ∷ [])
    ∙ ap (λ b. is_triggered p c from to || b) (or-false (triggers c from to (entry_after p x)))

-- an item that triggers nothing
still : (p : List BodyItem) (x : BodyItem) (c : IdCode) (from to : ℕ) → triggers c from to (entry_after p x) ≡ false → is_triggered (p ++ x ∷ []) c from to ≡ is_triggered p c from to
still p x c from to e = triggered_more p x c from to ∙ ap (λ b. is_triggered p c from to || b) e ∙ or-false (is_triggered p c from to)

pub triggered_other : (p : List BodyItem) (x : BodyItem) (c : IdCode) (from to : ℕ) → gives_to c x ≡ false → is_triggered (p ++ x ∷ []) c from to ≡ is_triggered p c from to
triggered_other p x c from to e = still p x c from to (rw e refl)

pub triggered_inside : (p : List BodyItem) (x : BodyItem) (c : IdCode) (from to : ℕ) → leaves_open p ≡ true → is_triggered (p ++ x ∷ []) c from to ≡ is_triggered p c from to
triggered_inside p x c from to e = still p x c from to (rw e (and_no (gives_to c x) (nat_le from (time_after p)) (nat_lt (time_after p) to)))
  where
    and_no : (a b d : Bool) → (a && false && b && d) ≡ false
    and_no true b d = refl
    and_no false b d = refl

-- none at its time is before it
pub triggered_before : (p : List BodyItem) (x : BodyItem) (c : IdCode) (from to : ℕ) → to ≤ time_after p → is_triggered (p ++ x ∷ []) c from to ≡ is_triggered p c from to
triggered_before p x c from to le = still p x c from to (rw (le-ltb (time_after p) to le) (and_no (gives_to c x) (not (leaves_open p)) (nat_le from (time_after p))))
  where
    and_no : (a b d : Bool) → (a && b && d && false) ≡ false
    and_no true true true = refl
    and_no true true false = refl
    and_no true false d = refl
    and_no false b d = refl

-- a trigger
pub triggered_now : (p : List BodyItem) (x : BodyItem) (c : IdCode) (from to : ℕ) → gives_to c x ≡ true → leaves_open p ≡ false → from ≤ time_after p
    → time_after p < to → is_triggered (p ++ x ∷ []) c from to ≡ true
triggered_now p x c from to gives outside le lt = triggered_more p x c from to ∙ rw (gives, outside, le-leb from (time_after p) le, lt-ltb (time_after p) to lt) (or-true (is_triggered p c from to))

-- ---- times that make no difference

agree : (f g : Entry → Bool) (es : List Entry) → AllByRecursion (λ e. f e ≡ g e) es → list_any f es ≡ list_any g es
agree f g [] h = refl
agree f g (e ∷ es) h = rw (h.0, agree f g es h.1) refl

all_of : (P Q : Entry → Type 0) (es : List Entry) → ((e : Entry) → P e → Q e) → AllByRecursion P es → AllByRecursion Q es
all_of P Q [] f h = tt
all_of P Q (e ∷ es) f h = (f e h.0, all_of P Q es f h.1)

-- two times after all items
pub triggered_up : (p : List BodyItem) (c : IdCode) (from to more : ℕ) → time_after p < to → time_after p < more → is_triggered p c from to ≡ is_triggered p c from more
triggered_up p c from to more one other =
    agree (triggers c from to) (triggers c from more) (entries p)
    (all_of (λ e. e.time ≤ time_after p) (λ e. triggers c from to e ≡ triggers c from more e) (entries p)
    (λ e le. rw (lt-ltb e.time to (omega (arith, le, one)), lt-ltb e.time more (omega (arith, le, other))) refl) (times_within [] p))

none : (f : Entry → Bool) (es : List Entry) → AllByRecursion (λ e. f e ≡ false) es → list_any f es ≡ false
none f [] h = refl
none f (e ∷ es) h = rw (h.0, none f es h.1) refl

-- no time is from a time on and before it
pub triggered_never : (p : List BodyItem) (c : IdCode) (t : ℕ) → is_triggered p c t t ≡ false
triggered_never p c t = none (triggers c t t) (entries p) (all_of (λ e. e.time ≤ time_after p) (λ e. triggers c t t e ≡ false) (entries p)
    (λ e le. no e.time (gives_to c e.item) (not e.inside) (nat_le t e.time) refl) (times_within [] p))
  where
    no : (u : ℕ) (a b d : Bool) → nat_le t u ≡ d → (a && b && d && nat_lt u t) ≡ false
    no u a b false e = and_three a b (nat_lt u t)
      where
        and_three : (a b r : Bool) → (a && b && false && r) ≡ false
        and_three true true r = refl
        and_three true false r = refl
        and_three false b r = refl
    no u a b true e = rw (le-ltb u t (leb-true t u e)) (and_four a b)
      where
        and_four : (a b : Bool) → (a && b && true && false) ≡ false
        and_four true true = refl
        and_four true false = refl
        and_four false b = refl

-- none from a later time on, if none is from a time on
pub triggered_from : (p : List BodyItem) (c : IdCode) (from later to : ℕ) → from ≤ later → is_triggered p c from to ≡ false → is_triggered p c later to ≡ false
triggered_from p c from later to le none = all (entries p) none
  where
    less : (a b d : Bool) (t : ℕ) (from_too : Bool) → nat_le from t ≡ from_too → (later_too : Bool) → nat_le later t ≡ later_too
        → (a && b && from_too && d) ≡ false → (a && b && later_too && d) ≡ false
    less true true true t true e true f h = h
    less true true true t true e false f h = refl
    less true true true t false e true f h = let high = leb-true later t f in let past = leb-false from t e in absurd (omega (arith, high, past, le))
    less true true true t false e false f h = refl
    less true true false t x e true f h = refl
    less true true false t x e false f h = refl
    less true false d t x e y f h = refl
    less false b d t x e y f h = refl

    all : (es : List Entry) → list_any (triggers c from to) es ≡ false → list_any (triggers c later to) es ≡ false
    all [] h = refl
    all (e ∷ es) h =
        let o = or_parts (triggers c from to e) (list_any (triggers c from to) es) h in
        rw (less (gives_to c e.item) (not e.inside) (nat_lt e.time to) e.time (nat_le from e.time) refl (nat_le later e.time) refl o.0, all es o.1) refl

-- none is after all items
pub triggered_past : (p : List BodyItem) (c : IdCode) (from to : ℕ) → time_after p < from → is_triggered p c from to ≡ false
triggered_past p c from to lt = none (triggers c from to) (entries p)
    (all_of (λ e. e.time ≤ time_after p) (λ e. triggers c from to e ≡ false) (entries p)
    (λ e le. rw (lt-leb from e.time (omega (arith, le, lt))) (and_no (gives_to c e.item) (not e.inside) (nat_lt e.time to))) (times_within [] p))
  where
    and_no : (a b d : Bool) → (a && b && false && d) ≡ false
    and_no true true d = refl
    and_no true false d = refl
    and_no false b d = refl
