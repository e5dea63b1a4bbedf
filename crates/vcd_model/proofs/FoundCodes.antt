-- Codes that are found in lists, and entries that count and are kept.
use Rattle.vcd_model.proofs.Cited.{◌≡◌, ℕ, ◌≤◌, Bool, true, false, cond, List, [], ◌∷◌, filter, find, Some, Contains, refl, sym, ap, ◌∙◌, subst, arith, AllByRecursion, All-contains, All-from_recursion, and_parts, bytes_eq-Decides, IdCode, same_code, Change, BodyItem, Entry, declared_code}
use Rattle.vcd_model.proofs.ItemStates.{IsGoodChange, AreFit, entries_from}
use Rattle.vcd_model.proofs.Latest.{gives_at}

-- ---- codes that are found

pub find_all : {X : Type 0} (P : X → Type 0) (test : X → Bool) (xs : List X) (y : X) → AllByRecursion P xs → find test xs ≡ Some y → P y
find_all P test [] y h e = cc
find_all P test (x ∷ xs) y h e = by_test (test x) e (find_all P test xs y h.1)
  where
    by_test : (b : Bool) → cond b (Some x) (find test xs) ≡ Some y → (find test xs ≡ Some y → P y) → P y
    by_test true f more = let same : x ≡ y = cc in subst P same h.0
    by_test false f more = more f

-- what is found first in a list is so in a part of it that has it
pub find-filter : {X : Type 0} (test keep : X → Bool) (xs : List X) (y : X) → find test xs ≡ Some y → keep y ≡ true → find test (filter keep xs) ≡ Some y
find-filter test keep [] y e k = cc
find-filter test keep (x ∷ xs) y e k = by_test (test x) (keep x) refl refl e (λ f. find-filter test keep xs y f k)
  where
    by_test : (b p : Bool) → test x ≡ b → keep x ≡ p → cond b (Some x) (find test xs) ≡ Some y
        → (find test xs ≡ Some y → find test (filter keep xs) ≡ Some y) → find test (cond p (x ∷ filter keep xs) (filter keep xs)) ≡ Some y
    by_test true true f g h more = rw f h
    by_test true false f g h more = let same : x ≡ y = cc in let other : keep x ≡ true = ap keep same ∙ k in cc
    by_test false true f g h more = rw f (more h)
    by_test false false f g h more = more h

pub all_kept : {X : Type 0} (P Q : X → Type 0) (keep : X → Bool) (xs : List X) → ((x : X) → P x → keep x ≡ true → Q x) → AllByRecursion P xs → AllByRecursion Q (filter keep xs)
all_kept P Q keep [] f h = tt
all_kept P Q keep (x ∷ xs) f h = by_keep (keep x) refl (all_kept P Q keep xs f h.1)
  where
    by_keep : (b : Bool) → keep x ≡ b → AllByRecursion Q (filter keep xs) → AllByRecursion Q (cond b (x ∷ filter keep xs) (filter keep xs))
    by_keep true e more = (f x h.0 e, more)
    by_keep false e more = more

pub at_contained : {X : Type 0} (P : X → Type 0) (xs : List X) (x : X) → AllByRecursion P xs → Contains xs x → P x
at_contained P xs x h c = All-contains P xs x (All-from_recursion P xs h) c

-- two declared codes with one text are one
pub same_declared : (codes : List IdCode) (c d : IdCode) → declared_code codes c.text ≡ Some c → declared_code codes d.text ≡ Some d → same_code c d ≡ true → c ≡ d
same_declared codes c d e f s =
    let same : c.text ≡ d.text = (bytes_eq-Decides c.text d.text).0 s in
    let both : declared_code codes c.text ≡ Some d = ap (declared_code codes) same ∙ f in
    cc

-- ---- entries that count are kept

pub gives_kept : (codes : List IdCode) (c : IdCode) (at : ℕ → Bool) (keep : Entry → Bool) (low t : ℕ) (o : Bool) (xs : List BodyItem) → declared_code codes c.text ≡ Some c
    → ((u : ℕ) (p : Bool) (d : Change) → low ≤ u → d.code ≡ c → at u ≡ true
    → keep (record { time = u; inside = p; item = BodyItem.Changes d }) ≡ true) → low ≤ t → AreFit codes t o xs
    → AllByRecursion (λ e. gives_at c at e ≡ true → keep e ≡ true) (entries_from t o xs)
gives_kept codes c at keep low t o [] declared f l fit = tt
gives_kept codes c at keep low t o (BodyItem.Time u ∷ xs) declared f l fit = let h = fit.0 in let m : low ≤ u = (let g = h.0 in omega arith) in
    (λ g. cc, gives_kept codes c at keep low u o xs declared f m fit.1)
gives_kept codes c at keep low t o (BodyItem.Begin s ∷ xs) declared f l fit = (λ h. cc, gives_kept codes c at keep low t true xs declared f l fit.1)
gives_kept codes c at keep low t o (BodyItem.End ∷ xs) declared f l fit = (λ h. cc, gives_kept codes c at keep low t false xs declared f l fit.1)
gives_kept codes c at keep low t o (BodyItem.Changes d ∷ xs) declared f l fit = (
  λ h. let g : IsGoodChange codes d = fit.0 in let a = and_parts (same_code c d.code) (at t) h in f t o d l (sym (same_declared codes c d.code declared g.declared a.0)) a.1,
  gives_kept codes c at keep low t o xs declared f l fit.1,
)
