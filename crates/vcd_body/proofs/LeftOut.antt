-- Lines that are in some bytes but for digits on the left that are not needed.
use Rattle.vcd_body.proofs.Cited.{◌≡◌, ℕ, zero, suc, ◌+◌, ◌-◌, ◌≤◌, ◌<◌, List, [], ◌∷◌, ◌++◌, length, take, drop, Option, Some, None, IfSome, sym, ap, ap₂, subst, ◌∙◌, append_assoc, arith, slice_range, drop-append-le, drop-drop, drop-take, length-append, length-drop, take-append_seam, take-length, slice_range-append, length-slice_range, HasChange, bytes_without}
use Rattle.vcd_body.specs.declared.item.Form.TheVariants as form

-- ---- digits

-- a slice from there on
pub end_is : (l : List ℕ) (k : ℕ) → take (length l - k) (drop k l) ≡ drop k l
end_is l k = ap (λ m. take m (drop k l)) (sym (length-drop k l)) ∙ take-length (drop k l)

-- ---- bytes

first_of : (n : ℕ) (l : List ℕ) (first : ℕ) (rest : List ℕ) → take n l ≡ first ∷ rest → take 1 l ≡ first ∷ []
first_of zero l first rest e = cc
first_of (suc n) [] first rest e = cc
first_of (suc n) (x ∷ l) first rest e = ap (take 1) e

-- without some of a text after the first byte
pub without_some : (bytes : List ℕ) (from to k first : ℕ) (text rest : List ℕ) → from + 1 + k ≤ to → k ≤ length text
    → slice_range bytes from to ≡ first ∷ text ++ rest → bytes_without bytes from to k ≡ first ∷ drop k text ++ rest
without_some bytes from to k first text rest within few e =
    let n = to - (from + 1 + k) in
    let one : from + 1 - from ≡ 1 = omega arith in
    let all : to - from ≡ suc k + n = omega arith in
    let on : from + suc k ≡ from + 1 + k = omega arith in
    let front : slice_range bytes from (from + 1) ≡ first ∷ [] = ap (λ m. take m (drop from bytes)) one ∙ first_of (to - from) (drop from bytes) first (text ++ rest) e in
    let back : drop (suc k) (slice_range bytes from to) ≡ slice_range bytes (from + 1 + k) to = ap (λ m. drop (suc k) (take m (drop from bytes))) all
    ∙ drop-take (suc k) n (drop from bytes) ∙ ap (take n) (drop-drop (suc k) from bytes) ∙ ap (λ m. take n (drop m bytes)) on in
    ap₂ (λ (a b : List ℕ). a ++ b) front (sym back ∙ ap (drop (suc k)) e ∙ drop-append-le k text rest few)

-- without none
pub without_none : (bytes : List ℕ) (from to : ℕ) → from + 1 ≤ to → bytes_without bytes from to 0 ≡ slice_range bytes from to
without_none bytes from to within =
    let all : from + 1 + (to - (from + 1)) ≡ to = omega arith in
    let none : from + 1 + 0 ≡ from + 1 = omega arith in
    ap₂ (λ (a b : ℕ). slice_range bytes from (from + 1) ++ slice_range bytes a b) none (sym all)
    ∙ slice_range-append bytes from (from + 1) (to - (from + 1)) (omega arith) ∙ ap (slice_range bytes from) all

-- the bytes of a change are one or more, and of digits or a number as many more as these
pub bit_within : (bytes : List ℕ) (from to : ℕ) (text code : List ℕ) → HasChange bytes from to form.Scalar text code → from + 2 ≤ to
bit_within bytes from to text code (digit, is, t) = let order = t.before.order in let ends = t.ends in omega arith

pub text_within : (bytes : List ℕ) (from to : ℕ) (text code : List ℕ) → HasChange bytes from to form.Vector text code → from + 2 + length text ≤ to
text_within bytes from to text code (letter, middle, t, u) =
    let order = t.before.order in
    let order' = u.before.order in
    let ends = t.ends in
    let ends' = u.ends in
    omega arith

-- a line with the shortest of these digits
pub shortest_line : (bytes : List ℕ) (from to k first : ℕ) (text rest : List ℕ) (digits : List ℕ) → from + 1 + length text ≤ to → k ≤ length text
    → drop k text ≡ digits → slice_range bytes from to ≡ first ∷ text ++ rest → bytes_without bytes from to k ≡ first ∷ digits ++ rest
shortest_line bytes from to k first text rest digits within few is e = without_some bytes from to k first text rest (omega arith) few e ∙ ap (λ d. first ∷ d ++ rest) is

pub if_some_more : {A : Type 0} {P Q : A → Type 0} (o : Option A) → ((x : A) → P x → Q x) → IfSome o P → IfSome o Q
if_some_more (Some x) f p = f x p
if_some_more None f p = tt

-- ---- prefixes of lines

same_front : (xs ys zs ws : List ℕ) → length xs ≡ length ys → xs ++ zs ≡ ys ++ ws → xs ≡ ys
same_front xs ys zs ws long e = sym (take-append_seam xs zs) ∙ ap (take (length xs)) e ∙ ap (λ n. take n (ys ++ ws)) long ∙ take-append_seam ys ws

-- what comes before the blank before the code is the front of the line
pub front_there : (bytes : List ℕ) (from to k code_at : ℕ) (front code : List ℕ) → from + 2 + k ≤ to → to ≤ length bytes
    → to ≡ code_at + length code + 1 → 0 < length front → bytes_without bytes from (to - 1) k ≡ front ++ (32 ∷ code)
    → (from + 2 + k ≤ code_at) × (bytes_without bytes from (code_at - 1) k ≡ front)
front_there bytes from to k code_at front code within inside ends some e =
    let first = slice_range bytes from (from + 1) in
    let line = 32 ∷ code in
    let middle = slice_range bytes (from + 1 + k) (code_at - 1) in
    let last = slice_range bytes (code_at - 1) (to - 1) in
    let long = ap length e in
    let long_first : length first ≡ 1 = length-slice_range bytes from (from + 1) (omega arith) ∙ omega arith in
    let long_rest = length-slice_range bytes (from + 1 + k) (to - 1) (omega arith) in
    let left = length-append first (slice_range bytes (from + 1 + k) (to - 1)) in
    let right = length-append front line in
    let room : from + 2 + k ≤ code_at = omega arith in
    let long_middle = length-slice_range bytes (from + 1 + k) (code_at - 1) (omega arith) in
    let all : code_at - 1 + (length code + 1) ≡ to - 1 = omega arith in
    let split : middle ++ last ≡ slice_range bytes (from + 1 + k) (to - 1) = subst
    (λ n. middle ++ slice_range bytes (code_at - 1) n ≡ slice_range bytes (from + 1 + k) n) all
    (slice_range-append bytes (from + 1 + k) (code_at - 1) (length code + 1) (omega arith)) in
    let both = length-append first middle in
    (room, same_front (first ++ middle) front last line (omega arith) (append_assoc first middle last ∙ ap (λ l. first ++ l) split ∙ e))
