-- The heads of a merge, one after the other, and the lines that they are written in.
use Rattle.vcd_head.proofs.Cited.{◌≡◌, Bool, true, false, subst, ℕ, zero, suc, ◌+◌, ◌*◌, ◌^◌, ◌<◌, ◌≤◌, ℤ, pos, negsuc, cond, List, [], ◌∷◌, ◌++◌, length, map, take, get_or, slice_get, add-one, decimal, codes, Option, Some, None, refl, sym, ap, ◌∙◌, arith, nat_lt, nat_le, nat_abs, int_le, unwrap_or, option_map, IfSome, fold, ◌-ℤ◌, int_min, reduce, nat_tests, ints, map-append, take_all, fold-append, sum_by-append, AllZip-long, Header, exponent, first_number, input_head, rows_text, scope_line, smaller, up_line, is_among, marked_places, Head, ShowHeaders, numbered, Scale, HeadShown, shown, IsExponent, Views}
use Rattle.std.proofs.Common.{append_assoc}
use Rattle.vcd_model.specs.HeadText.{least_exponent}
use Rattle.vcd_head.proofs.SelectionLemmas.{take-next}

-- ---- a head among them

-- the header at an index, which this head shows
pub record HeaderAt (hs : List Header) (i : ℕ) (head : Head) : Type 0 where
  pub header : Header
  pub at : slice_get hs i ≡ Some header
  pub views : Views (shown head) header

pub header_at : (heads : List Head) (hs : List Header) (i : ℕ) (d : Head) → ShowHeaders heads hs → i < length heads → HeaderAt hs i (get_or heads i d)
header_at [] hs i d s l = absurd (omega arith)
header_at (x ∷ heads) [] i d s l = absurd s
header_at (x ∷ heads) (h ∷ hs) zero d s l = record { header = h; at = refl; views = s.0 }
header_at (x ∷ heads) (h ∷ hs) (suc i) d s l = let r = header_at heads hs i d s.1 (omega arith) in record { header = r.header; at = r.at; views = r.views }

-- all were passed
pub all_passed : (heads : List Head) (hs : List Header) (i : ℕ) → ShowHeaders heads hs → i ≡ length heads → take i hs ≡ hs
all_passed heads hs i s e = take_all i hs (let long = AllZip-long _ heads hs s in omega (arith, long))

-- ---- the least exponent

flip : (m n : ℕ) (x y : ℤ) → cond (nat_lt m n) x y ≡ cond (nat_le n m) y x
flip m n x y = grind (arith, nat_tests)

smaller_is : (a b : ℤ) → int_min a b ≡ smaller a b
smaller_is (pos m) (pos n) = flip n m (pos n) (pos m)
smaller_is (pos m) (negsuc n) = refl
smaller_is (negsuc m) (pos n) = refl
smaller_is (negsuc m) (negsuc n) = flip m n (negsuc n) (negsuc m)

-- the least of some and of one more
abbrev pub with_one : Option ℤ → ℤ → ℤ
with_one None e = e
with_one (Some least) e = int_min least e

reduce_more : (xs : List ℤ) (x : ℤ) → reduce smaller (xs ++ x ∷ []) ≡ Some (with_one (reduce smaller xs) x)
reduce_more [] x = refl
reduce_more (y ∷ ys) x = ap Some (fold-append smaller y ys (x ∷ []) ∙ sym (smaller_is _ x))

-- one head on
pub least_more : (hs : List Header) (i : ℕ) (h : Header) → slice_get hs i ≡ Some h
    → reduce smaller (map exponent (take (i + 1) hs)) ≡ Some (with_one (reduce smaller (map exponent (take i hs))) (exponent h))
least_more hs i h at =
    ap (λ n. reduce smaller (map exponent (take n hs))) (add-one i) ∙ ap (λ l. reduce smaller (map exponent l)) (take-next hs i h at)
    ∙ ap (reduce smaller) (map-append exponent (take i hs) (h ∷ [])) ∙ reduce_more (map exponent (take i hs)) (exponent h)

-- ---- how far exponents are apart

pub exponent_in_range : (s : HeadShown) (h : Header) → Views s h → IsExponent (exponent h)
exponent_in_range s h v = subst (λ o. IsExponent (unwrap_or o (pos 0))) v.scale (by_scale s.scale v.scaled)
  where
    by_scale : (o : Option Scale) → IfSome o (λ (x : Scale). IsExponent x.exponent) → IsExponent (unwrap_or (option_map (λ (x : Scale). x.exponent) o) (pos 0))
    by_scale None r = omega arith
    by_scale (Some x) r = r

smaller_in_range : (a b : ℤ) → IsExponent a → IsExponent b → IsExponent (smaller a b)
smaller_in_range a b p q = by_test (int_le a b)
  where
    by_test : (t : Bool) → IsExponent (cond t a b)
    by_test true = p
    by_test false = q

least_among : (heads : List Head) (hs : List Header) (a : ℤ) → ShowHeaders heads hs → IsExponent a → IsExponent (fold smaller a (map exponent hs))
least_among heads [] a s r = r
least_among [] (h ∷ hs) a s r = absurd s
least_among (x ∷ heads) (h ∷ hs) a s r = least_among heads hs (smaller a (exponent h)) s.1 (smaller_in_range a (exponent h) r (exponent_in_range (shown x) h s.0))

pub least_in_range : (heads : List Head) (hs : List Header) → ShowHeaders heads hs → IsExponent (least_exponent hs)
unfolding least_exponent
least_in_range heads [] s = omega arith
least_in_range [] (h ∷ hs) s = absurd s
least_in_range (x ∷ heads) (h ∷ hs) s = least_among heads hs (exponent h) s.1 (exponent_in_range (shown x) h s.0)

pub few_powers : (a b : ℤ) → IsExponent a → IsExponent b → nat_abs (a -ℤ b) ≤ 17
few_powers (pos m) (pos n) p q = omega (arith, ints)
few_powers (pos m) (negsuc n) p q = omega (arith, ints)
few_powers (negsuc m) (pos n) p q = omega (arith, ints)
few_powers (negsuc m) (negsuc n) p q = omega (arith, ints)

-- ---- the numbers of codes

-- one head on
pub number_more : (hs : List Header) (i : ℕ) (h : Header) → slice_get hs i ≡ Some h → first_number (take (i + 1) hs) ≡ first_number (take i hs) + length h.codes
number_more hs i h at = ap (λ n. first_number (take n hs)) (add-one i) ∙ ap first_number (take-next hs i h at) ∙ sum_by-append _ (take i hs) (h ∷ []) ∙ omega arith

few_numbers : (heads : List Head) (hs : List Header) (i : ℕ) → ShowHeaders heads hs → first_number (take i hs) ≤ i * 16777216
few_numbers heads [] zero s = omega arith
few_numbers heads [] (suc i) s = omega arith
few_numbers heads (h ∷ hs) zero s = omega arith
few_numbers [] (h ∷ hs) (suc i) s = absurd s
few_numbers (x ∷ heads) (h ∷ hs) (suc i) s =
    let rest = few_numbers heads hs i s.1 in
    let codes = s.0.few_codes in
    let declarations = s.0.few in
    let sum : first_number (h ∷ take i hs) ≡ length h.codes + first_number (take i hs) = sum_by-append (λ x. length x.codes) (h ∷ []) (take i hs) ∙ omega arith in
    omega (arith, rest, codes, declarations, sum)

-- those of at most 64 heads fit
pub numbers_fit : (heads : List Head) (hs : List Header) (i : ℕ) (h : Header) (head : Head) → ShowHeaders heads hs → i < 64 → Views (shown head) h
    → first_number (take i hs) + length h.codes < 2 ^ 64
numbers_fit heads hs i h head s l v = let few = few_numbers heads hs i s in let codes = v.few_codes in let declarations = v.few in omega (arith, few, codes, declarations)

-- ---- an input's lines

pub module_line : (n : ℕ) → (codes "$scope module in" ++ decimal n) ++ codes " $end\n" ≡ scope_line (codes "module") (codes "in" ++ decimal n)
module_line n = simp append_assoc

-- an input's lines in the parts that are written
abbrev pub input_parts : ℕ → List ℕ → List ℕ
input_parts number rows = (((codes "$scope module in" ++ decimal number) ++ codes " $end\n") ++ rows) ++ up_line

pub input_text : (earlier : List Header) (h : Header) (number first : ℕ) → number ≡ length earlier + 1 → first ≡ first_number earlier
    → input_parts number (rows_text (numbered first h) (is_among (marked_places [] h.declarations)) h.declarations) ≡ input_head earlier h
input_text earlier h number first n f =
    let rows = λ (x : ℕ). rows_text (numbered x h) (is_among (marked_places [] h.declarations)) h.declarations in
    ap (λ l. (l ++ rows first) ++ up_line) (module_line number) ∙ ap (λ x. (scope_line (codes "module") (codes "in" ++ decimal x) ++ rows first) ++ up_line) n
    ∙ ap (λ x. (scope_line (codes "module") (codes "in" ++ decimal (length earlier + 1)) ++ rows x) ++ up_line) f
