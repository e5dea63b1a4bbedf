-- The entries by which codes are looked up.
use Rattle.vcd_view.proofs.Cited.{◌≡◌, ◌≢◌, ℕ, zero, suc, ◌+◌, ◌<◌, ◌^◌, nat_le, cond, slice_range, All-drop, All-take, ◌==◌, ◌&&◌, ◌||◌, Bool, true, false, List, [], ◌∷◌, length, set, replicate, Option, Some, None, option_map, unwrap_or, refl, sym, ap, subst, ◌∙◌, arith, slice_get, list_all, and_parts, eqb-true, ne_eqb, false≢true, lt-leb, none-some, same_Some, slice_get_within, Code, Entry, Finds, AreBytes, key_in, IdCode, AreHeld, HasEntry, IsAt, are_right, is_right, is_entry_of, size_or_zero_of, text_in}
use Rattle.vcd_view.proofs.KeyLemmas.{key_below, same_key}
use Rattle.vcd_view.proofs.ListLemmas.{from_all, to_all}
use Rattle.vcd_view.proofs.LookUpLemmas.{first_with}
use Rattle.vcd_view.proofs.RowLemmas.{text_within, code_of_shown}

-- ---- tests of all elements

pub both : (p q : Bool) → p ≡ true → q ≡ true → (p && q) ≡ true
both p q e f = rw (e, f) refl

-- one that is written passes, and so do all
pub all_written : {X : Type 0} (p : X → Bool) (xs : List X) (i : ℕ) (y : X) → list_all p xs ≡ true → p y ≡ true → list_all p (set xs i y) ≡ true
all_written p [] i y h e = refl
all_written p (x ∷ xs) zero y h e = both (p y) (list_all p xs) e (and_parts (p x) (list_all p xs) h).1
all_written p (x ∷ xs) (suc i) y h e =
    let q = and_parts (p x) (list_all p xs) h in
    both (p x) (list_all p (set xs i y)) q.0 (all_written p xs i y q.1 e)

-- many of one that passes
pub all_replicated : {X : Type 0} (p : X → Bool) (n : ℕ) (x : X) → p x ≡ true → list_all p (replicate n x) ≡ true
all_replicated p zero x e = refl
all_replicated p (suc n) x e = both (p x) (list_all p (replicate n x)) e (all_replicated p n x e)

-- one of those that pass
pub one_of_all : {X : Type 0} (p : X → Bool) (xs : List X) (i : ℕ) (x : X) → list_all p xs ≡ true → slice_get xs i ≡ Some x → p x ≡ true
one_of_all p [] i x h e = absurd (none-some x e)
one_of_all p (y ∷ xs) zero x h e = ap p (sym (same_Some y x e)) ∙ (and_parts (p y) (list_all p xs) h).0
one_of_all p (y ∷ xs) (suc i) x h e = one_of_all p xs i x (and_parts (p y) (list_all p xs) h).1 e

-- ---- what an entry says

-- the entry is that of this code
abbrev says : List ℕ → Entry → Option Code → Bool
says text e o = unwrap_or (option_map (is_entry_of text e) o) false

-- what an entry with the key of a short code says of the code at its index
pub entry_tells : (text : List ℕ) (codes : List Code) (e : Entry) → is_right text codes e ≡ true → e.key ≢ 0 → e.key < 2 ^ 63
    → (c : Code) × (slice_get codes e.position ≡ Some c) × (e.key ≡ key_in (text_in text c.start c.len)) × (e.size_or_zero ≡ size_or_zero_of c)
entry_tells text codes e h n l = by_code (slice_get codes e.position) refl
  where
    right : says text e (slice_get codes e.position) ≡ true
    right = sym (ap (λ b. b || (nat_le (2 ^ 63) e.key || says text e (slice_get codes e.position))) (ne_eqb e.key 0 n)
        ∙ ap (λ b. b || says text e (slice_get codes e.position)) (lt-leb (2 ^ 63) e.key l)) ∙ h

    by_code : (o : Option Code) → slice_get codes e.position ≡ o → (c : Code) × (slice_get codes e.position ≡ Some c)
        × (e.key ≡ key_in (text_in text c.start c.len)) × (e.size_or_zero ≡ size_or_zero_of c)
    by_code None s = absurd (false≢true (sym (ap (says text e) s) ∙ right))
    by_code (Some c) s =
        let b = and_parts (e.key == key_in (text_in text c.start c.len)) (e.size_or_zero == size_or_zero_of c) (sym (ap (says text e) s) ∙ right) in
        (c, s, eqb-true _ _ b.0, eqb-true _ _ b.1)

-- what the entry with a key says, which is among those that are right
pub entry_found : (text : List ℕ) (codes : List Code) (es : List Entry) (i : ℕ) (e : Entry) (key : ℕ) → are_right text codes es ≡ true
    → slice_get es i ≡ Some e → (key ≡ 0 → ⊥) → key < 2 ^ 63 → e.key ≡ key
    → (c : Code) × (slice_get codes e.position ≡ Some c) × (key ≡ key_in (text_in text c.start c.len)) × (e.size_or_zero ≡ size_or_zero_of c)
entry_found text codes es i e key h s n l k =
    let told = entry_tells text codes e (one_of_all (is_right text codes) es i e h s) (λ z. n (sym k ∙ z)) (omega (arith, k, l)) in
    (told.0, told.1, sym k ∙ told.2, told.3)

-- ---- the code at an index

-- what is read of bytes are bytes
text_bytes : (text : List ℕ) (start len : ℕ) → AreBytes text → AreBytes (text_in text start len)
text_bytes text start len h = by_range (nat_le (start + len) (length text))
  where
    by_range : (q : Bool) → AreBytes (cond q (slice_range text start (start + len)) [])
    by_range true = from_all (λ b. b < 256) _ (All-take (λ b. b < 256) _ _ (All-drop (λ b. b < 256) start text (to_all (λ b. b < 256) text h)))
    by_range false = tt

-- the code that an entry with the key of a short code gives has its bytes
pub entry_at : (text : List ℕ) (codes : List Code) (es : List Entry) (t : List ℕ) (p : ℕ) → are_right text codes es ≡ true → AreBytes text
    → AreBytes t → key_in t ≢ 0 → HasEntry es (key_in t) p → IsAt text codes t p
entry_at text codes es t p right bytes a n has =
    let told = entry_found text codes es has.0 has.1 (key_in t) right has.2 n (key_below t a) has.3 in
    let same = same_key t (text_in text told.0.start told.0.len) a (text_bytes text told.0.start told.0.len bytes) told.2 (omega (arith, n)) in
    (told.0, subst (λ x. slice_get codes x ≡ Some told.0) has.4 told.1, sym same)

-- the index of a code with these bytes
pub at_finds : (text : List ℕ) (codes : List Code) (cs : List IdCode) (t : List ℕ) (p : ℕ) → AreHeld text codes cs → IsAt text codes t p → Finds cs t (Some p)
at_finds text codes cs t p h at =
    let k = code_of_shown text codes cs p at.0 h.stand at.1 in
    (k.0, k.1, first_with cs t p k.0 h.distinct k.1 (sym at.2 ∙ text_within text at.0.start at.0.len k.2.within ∙ k.2.text_is))

pub at_within : (text : List ℕ) (codes : List Code) (t : List ℕ) (p : ℕ) → IsAt text codes t p → p < length codes
at_within text codes t p at = slice_get_within codes p at.0 at.1
