-- What the tests of words say.
use Rattle.vcd_body.proofs.Cited.{◌≡◌, Some, None, Option, IfSome, is_some, zero, ◌⊎◌, take, drop, slice_range, inl, inr, ◌+◌, ◌-◌, ◌*◌, ◌<◌, ◌≤◌, ◌∙◌, get_or, ℕ, suc, ◌%◌, ◌^◌, map, Bool, true, false, cond, not, ◌||◌, ◌==◌, List, [], ◌∷◌, length, Fits, w8, refl, sym, ap, ap₂, subst, arith, rules, IsTrue, slice_index, min, bit_and, to_ascii_lowercase, bit_at, list_all, list_any, byte, eqb-true, cases_lt, agree_below, agree_below_at, length-map, get_or-map, get_or-take, get_or-drop, pow_below, bit_at-zero, bit_at_and, bit_at_ones, mask_l-mod, bit_mask_l, length-chunk, get_or-chunk, Each1-get_or, chunk, mask_l, top, Each1, is_empty, Keyword, keyword_of, keyword_text, keyword_is, model_keyword, binary_digits, bit_of, AreBinary, Bits, Begins, InClear, IsScalar, StandsFor, command_is, is_either, PhraseKind}
use Rattle.vcd_model.specs.BodyPhrases.{is_value_digit}
use Rattle.vcd_view.specs.declared.keyword.Keyword.{Keyword as HeadKeyword}
use Rattle.vcd_view.specs.declared.keyword.Keyword.TheVariants as head
use Rattle.vcd_body.proofs.Shortest.{number_two, one_of_two as by_bit}
use Rattle.vcd_body.specs.declared.words.PhraseKind.TheVariants as kind

pub filled : (l : List ℕ) → (length l == 0) ≡ false → is_empty l ≡ false
filled [] e = cc
filled (d ∷ l) e = refl

pub empty : (l : List ℕ) → (length l == 0) ≡ true → is_empty l ≡ true
empty [] e = refl
empty (d ∷ l) e = let z = eqb-true (length (d ∷ l)) 0 e in absurd (omega arith)

pub some_bytes : (l : List ℕ) → (length l == 0) ≡ false → 0 < length l
some_bytes [] e = cc
some_bytes (d ∷ l) e = omega arith

pub filled_some : (l : List ℕ) → not (is_empty l) ≡ true → 0 < length l
filled_some [] e = cc
filled_some (d ∷ l) e = omega arith

-- ---- what begins a phrase

-- 0 and 1 are digits of a value
pub bit_digit : (d : ℕ) → IsTrue (is_either (byte "0") (byte "1") d) → IsTrue (is_value_digit d)
unfolding is_value_digit
bit_digit d is = by_first (d == 48) (d == 49) is
  where
    by_first : (a b : Bool) → IsTrue (a || (b || false)) → IsTrue (a || (b || list_any (λ e. d == e) (120 ∷ 88 ∷ 122 ∷ 90 ∷ [])))
    by_first true b h = refl
    by_first false true h = refl
    by_first false false h = cc

-- a digit of a value, whichever it is
pub scalar_begins : (token : List ℕ) (f : PhraseKind) → (f ≡ kind.Bit) ⊎ (f ≡ kind.Scalar) → Begins token f → IsScalar token
scalar_begins token f (inl e) b = let s : Begins token kind.Bit = subst (Begins token) e b in (s.0, s.1, bit_digit s.0 s.2, s.3)
scalar_begins token f (inr e) b = let s : Begins token kind.Scalar = subst (Begins token) e b in (s.0, s.1, s.2, s.4)

-- a token that a byte begins has one
pub some_of : (token : List ℕ) (d : ℕ) (rest : List ℕ) → token ≡ d ∷ rest → 0 < length token
some_of token d rest e = let n = ap length e in omega (arith, n)

pub first_rest : (token : List ℕ) → 0 < length token → slice_index token 0 ∷ drop 1 token ≡ token
first_rest [] some = absurd (omega (arith, some))
first_rest (d ∷ rest) some = refl

-- ---- keywords

-- the token is this keyword
stands_keyword : (token : List ℕ) (k : HeadKeyword) → token ≡ keyword_text (model_keyword k) → StandsFor token (Some (command_is k))
stands_keyword token head.Comment e = e
stands_keyword token head.Date e = (Keyword.Date, e, refl)
stands_keyword token head.EndDefinitions e = (Keyword.EndDefinitions, e, refl)
stands_keyword token head.Scope e = (Keyword.Scope, e, refl)
stands_keyword token head.Timescale e = (Keyword.Timescale, e, refl)
stands_keyword token head.Upscope e = (Keyword.Upscope, e, refl)
stands_keyword token head.Var e = (Keyword.Var, e, refl)
stands_keyword token head.Version e = (Keyword.Version, e, refl)
stands_keyword token head.DumpAll e = e
stands_keyword token head.DumpOff e = e
stands_keyword token head.DumpOn e = e
stands_keyword token head.DumpVars e = e
stands_keyword token head.End e = e

pub stands_for : (token : List ℕ) (k : HeadKeyword) → keyword_of token ≡ Some (model_keyword k) → StandsFor token (Some (command_is k))
stands_for token k e = stands_keyword token k (keyword_is token (model_keyword k) e)

-- ---- digits of two states

binary : (d : ℕ) → (d ≡ 48) ⊎ (d ≡ 49) → is_value_digit d ≡ true
unfolding is_value_digit
binary d (inl e) = rw e refl
binary d (inr e) = rw e refl

one_of_two : (d : ℕ) → 48 ≤ d → d ≤ 49 → (d ≡ 48) ⊎ (d ≡ 49)
one_of_two d l h = by_order (cases_lt 48 d)
  where
    by_order : (48 < d) ⊎ (d ≤ 48) → (d ≡ 48) ⊎ (d ≡ 49)
    by_order (inl a) = inr (omega arith)
    by_order (inr a) = inl (omega arith)

-- such a digit by its bit
pub two_of : (d : ℕ) → 48 ≤ d → d ≤ 49 → d ≡ 48 + bit_of d
two_of d low high = elim (one_of_two d low high) [
  | inl e ↦ e ∙ ap (λ x. 48 + bit_of x) (sym e)
  | inr e ↦ e ∙ ap (λ x. 48 + bit_of x) (sym e)
]

-- those of a number
pub known_binary : (digits : List ℕ) (bits : Option Bits) → IfSome bits (λ b. digits ≡ binary_digits b.len b.number) → is_some bits ≡ true → AreBinary digits
known_binary digits None h e = absurd (search rules)
known_binary digits (Some b) h e = subst AreBinary (sym h) (number_two b.len b.number)

-- all of them, each by its index
pub all_by_place : (p : ℕ → Bool) (l : List ℕ) → ((k : ℕ) → k < length l → p (slice_index l k) ≡ true) → list_all p l ≡ true
all_by_place p [] h = refl
all_by_place p (d ∷ l) h = rw (h 0 (omega arith)) (all_by_place p l (λ k less. h (suc k) (omega arith)))

pub all_binary : (digits : List ℕ) → AreBinary digits → list_all is_value_digit digits ≡ true
all_binary digits two = all_by_place is_value_digit digits (λ k less. binary (slice_index digits k) (by_bit (slice_index digits k) (two k less)))

-- ---- a mask of the bytes that are neither 0 nor 1

-- with its lowest bit cleared a digit of these two is 0
abbrev pub differs : ℕ → Bool
differs x = not (bit_and x 254 == 48)

-- such a byte has no bit in the mask
no_bit : (b : Bool) → cond {A = ℕ} b 1 0 ≡ 0 → b ≡ false
no_bit true e = absurd (omega arith)
no_bit false e = refl

or_second : (a b : Bool) → a ≡ false → (a || b) ≡ true → b ≡ true
or_second true b e h = cc
or_second false b e h = h

-- whatever differs not is a digit
two_alone : (d : ℕ) → d < 256 → differs d ≡ false → is_value_digit d ≡ true
unfolding is_value_digit
two_alone d fit e = or_second (differs d) (is_value_digit d) e (agree_below_at (λ x. differs x || is_value_digit x) (λ _. true) 256 d refl fit)

tops : (p : ℕ → Bool) (f : ℕ → ℕ) (v : List ℕ) → agree_below (λ x. top 7 (f x)) p 256 ≡ true → Each1 (Fits w8) v → map (top 7) (map f v) ≡ map p v
tops p f [] all fits = refl
tops p f (x ∷ v) all fits = ap₂ (λ a b. a ∷ b) (agree_below_at (λ y. top 7 (f y)) p 256 x all fits.0.fits) (tops p f v all fits.1)

-- lanes that were computed from a load by f, whose top bits tell which bytes pass a test: of a bit
-- that is not set, the byte does not
pub mask_tells : (p : ℕ → Bool) (xs : List ℕ) (i n : ℕ) (f : ℕ → ℕ) (z : List ℕ) → i + n ≤ length xs → n ≤ 64 → Each1 (Fits w8) (chunk i n xs)
    → z ≡ map f (chunk i n xs) → agree_below (λ x. top 7 (f x)) p 256 ≡ true
    → (k : ℕ) → k < n → bit_at (mask_l (map (top 7) z) % 2 ^ 64) k ≡ 0 → (slice_index xs (i + k) < 256) × (p (slice_index xs (i + k)) ≡ false)
mask_tells p xs i n f z room few fits e all k less none =
    let v = chunk i n xs in
    let ms = map p v in
    let long : length v ≡ n = length-chunk i n xs room in
    let mask : mask_l (map (top 7) z) % 2 ^ 64 ≡ mask_l ms = ap (λ l. mask_l l % 2 ^ 64) (ap (map (top 7)) e ∙ tops p f v all fits) ∙ mask_l-mod ms 64 (omega (arith, length-map v p)) in
    let bit : bit_at (mask_l (map (top 7) z) % 2 ^ 64) k ≡ cond (get_or ms k false) 1 0 = ap (λ m. bit_at m k) mask ∙ bit_mask_l ms k in
    let at : get_or ms k false ≡ p (get_or xs (i + k) 0) = get_or-map p v k 0 false (omega arith) ∙ ap p (get_or-chunk i n xs k 0 less) in
    let fit : get_or v k 0 < 256 = (Each1-get_or (Fits w8) v k 0 (omega arith) fits).fits in
    (omega (arith, fit, get_or-chunk i n xs k 0 less), sym at ∙ no_bit _ (sym bit ∙ none))

pub others_tell : (xs : List ℕ) (i n : ℕ) (f : ℕ → ℕ) (z : List ℕ) → i + n ≤ length xs → n ≤ 64 → Each1 (Fits w8) (chunk i n xs)
    → z ≡ map f (chunk i n xs) → agree_below (λ x. top 7 (f x)) differs 256 ≡ true
    → (k : ℕ) → k < n → bit_at (mask_l (map (top 7) z) % 2 ^ 64) k ≡ 0 → is_value_digit (slice_index xs (i + k)) ≡ true
others_tell xs i n f z room few fits e all k less none = let t = mask_tells differs xs i n f z room few fits e all k less none in two_alone (slice_index xs (i + k)) t.0 t.1

-- a byte that is neither x nor z in either case: with two bits cleared these four are X
abbrev pub is_known : ℕ → Bool
is_known x = not (bit_and x 221 == 88)

-- whatever is not so is a digit
unknown_alone : (d : ℕ) → d < 256 → is_known d ≡ false → is_value_digit d ≡ true
unfolding is_value_digit
unknown_alone d fit e = or_second (is_known d) (is_value_digit d) e (agree_below_at (λ x. is_known x || is_value_digit x) (λ _. true) 256 d refl fit)

pub known_tell : (xs : List ℕ) (i n : ℕ) (f : ℕ → ℕ) (z : List ℕ) → i + n ≤ length xs → n ≤ 64 → Each1 (Fits w8) (chunk i n xs)
    → z ≡ map f (chunk i n xs) → agree_below (λ x. top 7 (f x)) is_known 256 ≡ true
    → (k : ℕ) → k < n → bit_at (mask_l (map (top 7) z) % 2 ^ 64) k ≡ 0 → is_value_digit (slice_index xs (i + k)) ≡ true
known_tell xs i n f z room few fits e all k less none = let t = mask_tells is_known xs i n f z room few fits e all k less none in unknown_alone (slice_index xs (i + k)) t.0 t.1

-- a bit that two masks do not have in common is clear in one of them
pub none_of_two : (m m' k : ℕ) → bit_at (bit_and m m') k ≡ 0 → (bit_at m k ≡ 0) ⊎ (bit_at m' k ≡ 0)
none_of_two m m' k e = by_min (bit_at m k) (bit_at m' k) (sym (bit_at_and m m' k) ∙ e)
  where
    by_min : (a b : ℕ) → min a b ≡ 0 → (a ≡ 0) ⊎ (b ≡ 0)
    by_min zero b h = inl refl
    by_min (suc a) zero h = inr refl
    by_min (suc a) (suc b) h = absurd (omega (arith, h))

-- and it is a digit by its bit
two_bits : (d : ℕ) → d < 256 → differs d ≡ false → d ≡ 48 + bit_of d
two_bits d fit e = eqb-true d (48 + bit_of d) (or_second (differs d) (d == 48 + bit_of d) e (agree_below_at (λ x. differs x || (x == 48 + bit_of x)) (λ _. true) 256 d refl fit))

pub others_bits : (xs : List ℕ) (i n : ℕ) (f : ℕ → ℕ) (z : List ℕ) → i + n ≤ length xs → n ≤ 64 → Each1 (Fits w8) (chunk i n xs)
    → z ≡ map f (chunk i n xs) → agree_below (λ x. top 7 (f x)) differs 256 ≡ true
    → (k : ℕ) → k < n → bit_at (mask_l (map (top 7) z) % 2 ^ 64) k ≡ 0 → slice_index xs (i + k) ≡ 48 + bit_of (slice_index xs (i + k))
others_bits xs i n f z room few fits e all k less none = let t = mask_tells differs xs i n f z room few fits e all k less none in two_bits (slice_index xs (i + k)) t.0 t.1

-- ---- a mask of the bytes that may be capital letters

-- bit 5 is clear
abbrev pub is_low : ℕ → Bool
is_low x = bit_and x 32 == 0

-- whatever has it set is no capital letter
pub lower_alone : (b : ℕ) → b < 256 → is_low b ≡ false → to_ascii_lowercase b ≡ b
lower_alone b fit e = eqb-true (to_ascii_lowercase b) b (or_second (is_low b) (to_ascii_lowercase b == b) e
    (agree_below_at (λ x. is_low x || (to_ascii_lowercase x == x)) (λ _. true) 256 b refl fit))

-- a mask with no bit set below n
pub low_clear : (mask n k : ℕ) → n ≤ 32 → bit_and mask (1 * 2 ^ n % 2 ^ 64 - 1) ≡ 0 → k < n → bit_at mask k ≡ 0
low_clear mask n k few e less =
    let fits : 1 * 2 ^ n % 2 ^ 64 ≡ 2 ^ n = omega (arith, pow_below n 64 (omega arith)) in
    let both : min (bit_at mask k) (bit_at (2 ^ n - 1) k) ≡ 0 = sym (bit_at_and mask (2 ^ n - 1) k) ∙ ap (λ m. bit_at m k) (ap (λ p. bit_and mask (p - 1)) (sym fits) ∙ e) ∙ bit_at-zero k in
    omega (arith, both, bit_at_ones n k less)

pub no_bits : (mask k : ℕ) → mask ≡ 0 → bit_at mask k ≡ 0
no_bits mask k e = ap (λ m. bit_at m k) e ∙ bit_at-zero k

-- places from i on, by how far after it they are
pub behind : (P : ℕ → Type 0) (i n : ℕ) → ((k : ℕ) → k < n → P (i + k)) → (k : ℕ) → i ≤ k → k < i + n → P k
behind P i n h k low high =
    let back : i + (k - i) ≡ k = omega arith in
    subst P back (h (k - i) (omega arith))

-- what is so at each place of a block whose mask is 0
pub in_block : (P : ℕ → Type 0) {gives : ℕ → ℕ → Type 0} {n k : ℕ} → InClear gives n k → ((at : ℕ) → gives at 0 → (j : ℕ) → j < n → P (at + j)) → P k
in_block P {n = n} {k = k} b each = behind P b.at n (each b.at b.clear) k b.from b.to

-- ---- digits that are in some bytes

-- a byte of them
pub byte_there : (xs bytes : List ℕ) (at n k : ℕ) → k < n → xs ≡ slice_range bytes at (at + n) → slice_index xs k ≡ slice_index bytes (at + k)
byte_there xs bytes at n k less position =
    let long : at + n - at ≡ n = omega arith in
    ap (λ (l : List ℕ). get_or l k 0) (position ∙ ap (λ m. take m (drop at bytes)) long) ∙ get_or-take n (drop at bytes) k 0 less ∙ get_or-drop at bytes k 0
