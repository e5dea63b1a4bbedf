-- A dump has one header.
use Rattle.vcd_changes.proofs.Cited.{◌≡◌, ◌∙◌, ◌⊎◌, inl, inr, ℕ, Bool, true, false, cond, List, [], ◌∷◌, ◌++◌, ap, find, refl, sym, subst, append-nil, Some, IdCode, has_text, same_bytes, Grammar, Placed, reading_of, IsWhole, Token, whole-more}
use Rattle.vcd_model.specs.Reading.{Reading}

-- of two prefixes of a list one is a front of the other
abbrev Longer : {X : Type 0} → List X → List X → Type 0
Longer {X} xs ys = (more : List X) × (ys ≡ xs ++ more)

prefixes : {X : Type 0} (xs ys rest rest' : List X) → xs ++ rest ≡ ys ++ rest' → Longer xs ys ⊎ Longer ys xs
prefixes [] ys rest rest' e = inl (ys, refl)
prefixes (x ∷ xs) [] rest rest' e = inr (x ∷ xs, refl)
prefixes {X} (x ∷ xs) (y ∷ ys) rest rest' e =
    let first : x ≡ y = cc in
    let others : xs ++ rest ≡ ys ++ rest' = cc in
    elim (prefixes xs ys rest rest' others) [
      | inl l ↦ inl (l.0, let s : y ∷ ys ≡ x ∷ xs ++ l.0 = let t = l.1 in cc in s)
      | inr l ↦ inr (l.0, let s : x ∷ xs ≡ y ∷ ys ++ l.0 = let t = l.1 in cc in s)
    ]

module _ {P : Type 0} (g : Grammar P) where
  abbrev Same : (front front' : List Token) → (placed placed' : List (Placed P)) → Type 0
  Same front front' placed placed' = (front ≡ front') × (placed ≡ placed')

  -- one that continues after the other continues by nothing
  no_more : (front front' more : List Token) (placed placed' : List (Placed P)) → IsWhole g front placed → IsWhole g front' placed'
      → front' ≡ front ++ more → Same front front' placed placed'
  no_more front front' more placed placed' w w' e =
      let reads = sym (whole-more g front placed more w) ∙ ap (reading_of g) (sym e) ∙ w' in
      let none : more ≡ [] = ap (λ (r : Reading P). r.rest) reads in
      (sym (e ∙ ap (λ l. front ++ l) none ∙ append-nil front), ap (λ (r : Reading P). r.placed) reads)

  pub one_whole : (front front' rest rest' : List Token) (placed placed' : List (Placed P)) → IsWhole g front placed → IsWhole g front' placed'
      → front ++ rest ≡ front' ++ rest' → Same front front' placed placed'
  one_whole front front' rest rest' placed placed' w w' e = elim (prefixes front front' rest rest' e) [
    | inl l ↦ no_more front front' l.0 placed placed' w w' l.1
    | inr l ↦ let s = no_more front' front l.0 placed' placed w' w l.1 in (sym s.0, sym s.1)
  ]

module _ {X : Type 0} (p : X → Bool) where
  found_here : (x c : X) (xs : List X) (b : Bool) → p x ≡ b → (find p xs ≡ Some c → p c ≡ true) → cond b (Some x) (find p xs) ≡ Some c → p c ≡ true
  found_here x c xs true e more h = let s : x ≡ c = cc in subst (λ y. p y ≡ true) s e
  found_here x c xs false e more h = more h

  found : (xs : List X) (c : X) → find p xs ≡ Some c → p c ≡ true
  found [] c h = cc
  found (x ∷ xs) c h = found_here x c xs (p x) refl (found xs c) h

-- a code that is found has the text that was looked for
pub found_text : (codes : List IdCode) (text : List ℕ) (c : IdCode) → find (has_text text) codes ≡ Some c → text ≡ c.text
found_text codes text c h = same_bytes text c.text (found (has_text text) codes c h)
