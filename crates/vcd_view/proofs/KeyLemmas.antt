-- Short codes as keys.
use Rattle.vcd_view.proofs.Cited.{◌≡◌, ℕ, zero, suc, ◌+◌, ◌*◌, ◌^◌, ◌<◌, ◌≤◌, nat_le, cond, Bool, true, false, List, [], ◌∷◌, Some, subst, length, get_or, refl, ap, ◌∙◌, arith, add-one, pow-suc, pow-le-pow_right, leb-true, none-some, same_Some, slice_get, AllByRecursion, IdCode, AreBytes, packed, key_in}

-- a byte more
pub grown : (key n b : ℕ) → key < 33 * 256 ^ n → b < 256 → key * 256 + b < 33 * 256 ^ (n + 1)
grown key n b l s = rw (add-one n, pow-suc 256 n) (omega (arith, l, s))

-- up to 7 bytes fit
pub fits : (key n b : ℕ) → key < 33 * 256 ^ n → n ≤ 6 → b < 256 → key * 256 + b < 2 ^ 64
fits key n b l f s =
    let most : 256 ^ n ≤ 256 ^ 6 = pow-le-pow_right (omega arith) f in
    omega (arith, l, s, most)

pub packed_above : (bs : List ℕ) → 0 < packed bs
packed_above [] = omega arith
packed_above (b ∷ bs) = omega (arith, packed_above bs)

same_packed : (a b : List ℕ) → AreBytes a → AreBytes b → packed a ≡ packed b → a ≡ b
same_packed [] [] f g e = refl
same_packed [] (y ∷ b) f g e = absurd (omega (arith, e, packed_above b))
same_packed (x ∷ a) [] f g e = absurd (omega (arith, e, packed_above a))
same_packed (x ∷ a) (y ∷ b) f g e =
    let head : x ≡ y = omega (arith, e, f.0, g.0) in
    let rest : packed a ≡ packed b = omega (arith, e, f.0, g.0) in
    ap (λ z. z ∷ a) head ∙ ap (λ zs. y ∷ zs) (same_packed a b f.1 g.1 rest)

-- codes with one key are the same
pub same_key : (a b : List ℕ) → AreBytes a → AreBytes b → key_in a ≡ key_in b → 0 < key_in a → a ≡ b
same_key a b f g e n = by_length (nat_le (length a) 7) (nat_le (length b) 7) f g e n
  where
    by_length : (p q : Bool) → AreBytes a → AreBytes b → cond p (packed a) 0 ≡ cond q (packed b) 0 → 0 < cond p (packed a) 0 → a ≡ b
    by_length true true f g e n = same_packed a b f g e
    by_length true false f g e n = absurd (omega (arith, e, n))
    by_length false q f g e n = absurd (omega (arith, n))

-- a key is below those of the entries of long codes
packed_below : (bs : List ℕ) → AreBytes bs → packed bs < 33 * 256 ^ length bs
packed_below [] h = omega arith
packed_below (b ∷ bs) h = rw (pow-suc 256 (length bs)) (omega (arith, packed_below bs h.1, h.0))

pub key_below : (t : List ℕ) → AreBytes t → key_in t < 2 ^ 63
key_below t h = by_length (nat_le (length t) 7) refl
  where
    by_length : (q : Bool) → nat_le (length t) 7 ≡ q → cond q (packed t) 0 < 2 ^ 63
    by_length true q = let most : 256 ^ length t ≤ 256 ^ 7 = pow-le-pow_right (omega arith) (leb-true _ _ q) in omega (arith, packed_below t h, most)
    by_length false q = omega arith

-- the bytes of a list of bytes
pub are_bytes : (bs : List ℕ) → ((i d : ℕ) → i < length bs → get_or bs i d < 256) → AreBytes bs
are_bytes [] h = tt
are_bytes (b ∷ bs) h = (h 0 0 (omega arith), are_bytes bs (λ i d l. h (suc i) d (omega arith)))

-- the code at an index is of bytes
pub bytes_at_place : (cs : List IdCode) (p : ℕ) (c : IdCode) → AllByRecursion (λ (k : IdCode). AreBytes k.text) cs → slice_get cs p ≡ Some c → AreBytes c.text
bytes_at_place [] p c h e = absurd (none-some c e)
bytes_at_place (k ∷ cs) zero c h e = subst (λ (x : IdCode). AreBytes x.text) (same_Some k c e) h.0
bytes_at_place (k ∷ cs) (suc p) c h e = bytes_at_place cs p c h.1 e
