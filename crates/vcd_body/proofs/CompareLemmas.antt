-- Digits that extend to one value, or to several.
use Rattle.vcd_body.proofs.Cited.{◌≡◌, ◌≢◌, ℕ, zero, suc, ◌+◌, ◌-◌, max, ◌≤◌, ◌<◌, Bool, true, false, not, List, [], ◌∷◌, ◌++◌, length, replicate, drop, get_or, Option, Some, None, slice_get, refl, sym, ap, subst, ◌∙◌, arith, ◌⊎◌, inl, inr, Decides, last_or, to_ascii_lowercase, bytes_eq, str_to_ascii_lowercase, cases_lt, same_from_decides, length-append, length-replicate, bytes_eq-Decides, Value, extend, extension, short, short_is_shortest, last_digit_in, value_at_size, binary_digits, count_in, number_in, digits_in, held_by, one_digit, some_by, State}
use Rattle.vcd_body.specs.declared.values.slot.State.TheVariants as state
use Rattle.vcd_body.proofs.BinaryLemmas.{length_binary}
use Rattle.vcd_body.proofs.HeldLemmas.{digit_behind}
use Rattle.vcd_body.proofs.PackedLemmas.{length_digits}
use Rattle.vcd_body.proofs.Shortest.{extend_wide, extension_again, not_empty}

-- ---- extended digits

pub length_extended : (ds : List ℕ) (size : ℕ) → length (extend ds size) ≡ max size (length ds)
length_extended ds size =
    let a = length-append (replicate (size - length ds) (extension ds)) ds in
    let r = length-replicate (size - length ds) (extension ds) in
    omega arith

extension_kept : (k : ℕ) (ds : List ℕ) → extension (replicate k (extension ds) ++ ds) ≡ extension ds
extension_kept zero ds = refl
extension_kept (suc k) ds = extension_again ds (replicate k (extension ds) ++ ds)

replicate_both : (a b e : ℕ) (l : List ℕ) → replicate a e ++ (replicate b e ++ l) ≡ replicate (a + b) e ++ l
replicate_both zero b e l = let s : b ≡ 0 + b = omega arith in ap (λ k. replicate k e ++ l) s
replicate_both (suc a) b e l = let s : suc (a + b) ≡ suc a + b = omega arith in ap (λ r. e ∷ r) (replicate_both a b e l) ∙ ap (λ k. replicate k e ++ l) s

-- digits that were extended, extended further
extend_twice : (ds : List ℕ) (n size : ℕ) → length ds ≤ n → n ≤ size → extend (extend ds n) size ≡ extend ds size
extend_twice ds n size fits more =
    let l = length_extended ds n in
    let first : size - length (extend ds n) ≡ size - n = omega arith in
    let all : (size - n) + (n - length ds) ≡ size - length ds = omega arith in
    ap (λ k. replicate k (extension (extend ds n)) ++ extend ds n) first
    ∙ ap (λ e. replicate (size - n) e ++ extend ds n) (extension_kept (n - length ds) ds)
    ∙ replicate_both (size - n) (n - length ds) (extension ds) ds
    ∙ ap (λ k. replicate k (extension ds) ++ ds) all

drop_replicated : (k e : ℕ) (l : List ℕ) → drop k (replicate k e ++ l) ≡ l
drop_replicated zero e l = refl
drop_replicated (suc k) e l = drop_replicated k e l

-- and cut again
cut_again : (ds : List ℕ) (n size : ℕ) → length ds ≤ n → n ≤ size → drop (size - n) (extend ds size) ≡ extend ds n
cut_again ds n size fits more =
    let l = length_extended ds n in
    let first : size - length (extend ds n) ≡ size - n = omega arith in
    ap (drop (size - n)) (sym (extend_twice ds n size fits more) ∙ ap (λ k. replicate k (extension (extend ds n)) ++ extend ds n) first)
    ∙ drop_replicated (size - n) (extension (extend ds n)) (extend ds n)

-- ---- two rows of digits

module _ (xs ys : List ℕ) (size : ℕ) where
  -- at a size that both fit
  pub same_where_fit : (n : ℕ) → length xs ≤ n → length ys ≤ n → n ≤ size → (r : Bool) → Decides r (extend xs n ≡ extend ys n) → Decides r (extend xs size ≡ extend ys size)
  same_where_fit n few less more r d = (
    λ yes. sym (extend_twice xs n size few more) ∙ ap (λ l. extend l size) (d.0 yes) ∙ extend_twice ys n size less more,
    λ same. d.1 (sym (cut_again xs n size few more) ∙ ap (drop (size - n)) same ∙ cut_again ys n size less more),
  )

  -- they are as many as the longer of them, or are extended further
  pub same_at_longest : (n : ℕ) → n ≡ max (length xs) (length ys) → max size (length xs) ≡ max size (length ys) → (r : Bool)
      → Decides r (extend xs n ≡ extend ys n) → Decides r (extend xs size ≡ extend ys size)
  same_at_longest n is fill r d = by_size (cases_lt size n)
    where
      by_size : (size < n) ⊎ (n ≤ size) → Decides r (extend xs size ≡ extend ys size)
      by_size (inr more) = same_where_fit n (omega arith) (omega arith) more r d
      by_size (inl less) =
          let x = extend_wide xs n (omega arith) ∙ sym (extend_wide xs size (omega arith)) in
          let y = extend_wide ys n (omega arith) ∙ sym (extend_wide ys size (omega arith)) in
          subst (λ l. Decides r (l ≡ extend ys size)) x (subst (λ l. Decides r (extend xs n ≡ l)) y d)

  -- the test that contracts name
  test_is : (r : Bool) → Decides r (extend xs size ≡ extend ys size) → not r ≡ not (bytes_eq (extend xs size) (extend ys size))
  test_is r d = ap not (same_from_decides r (bytes_eq (extend xs size) (extend ys size)) d (bytes_eq-Decides (extend xs size) (extend ys size)))

  pub differ_at_longest : (n : ℕ) → n ≡ max (length xs) (length ys) → max size (length xs) ≡ max size (length ys) → (r : Bool)
      → Decides r (extend xs n ≡ extend ys n) → not r ≡ not (bytes_eq (extend xs size) (extend ys size))
  differ_at_longest n is fill r d = test_is r (same_at_longest n is fill r d)

-- digits that do not fill one size differ
pub other_sizes : (xs ys : List ℕ) (size : ℕ) → max size (length xs) ≢ max size (length ys) → extend xs size ≢ extend ys size
other_sizes xs ys size apart e = apart (sym (length_extended xs size) ∙ ap length e ∙ length_extended ys size)

-- nor are fewer than the shortest
pub fewer_differ : (xs ys : List ℕ) (size : ℕ) → xs ≡ short (extend xs size) → 0 < length ys → length ys < length xs
    → max size (length xs) ≡ max size (length ys) → extend xs size ≢ extend ys size
fewer_differ xs ys size is some less fill e =
    let v = extend xs size in
    let l = length_extended xs size in
    let long : length v ≡ size = omega (arith, l, less, fill) in
    let q = short_is_shortest v (not_empty v (omega (arith, l, less))) in
    let no_longer : length (short v) ≤ length ys = q.2 ys (not_empty ys some) (ap (extend ys) long ∙ sym e) in
    let all = ap length is in
    absurd (omega (arith, no_longer, all, less))

-- they differ
pub differ_for : (xs ys : List ℕ) (size : ℕ) → extend xs size ≢ extend ys size → true ≡ not (bytes_eq (extend xs size) (extend ys size))
differ_for xs ys size other = test_is xs ys size false ((λ f. absurd (let g : false ≡ true = f in cc)), λ same. absurd (other same))

-- digits this many places before the last are the same where the values are
pub same_from_last : (xs ys : List ℕ) (size back : ℕ) → back < length xs → back < length ys → extend xs size ≡ extend ys size
    → slice_get xs (length xs - 1 - back) ≡ slice_get ys (length ys - 1 - back)
same_from_last xs ys size back few less e =
    let l = ap length e in
    let a = length_extended xs size in
    let b = length_extended ys size in
    let i = max size (length xs) - 1 - back in
    let x : i - (size - length xs) ≡ length xs - 1 - back = omega arith in
    let y : i - (size - length ys) ≡ length ys - 1 - back = omega (arith, l, a, b) in
    sym (digit_behind (size - length xs) (extension xs) i xs (omega arith) ∙ ap (slice_get xs) x)
    ∙ ap (λ l. slice_get l i) e
    ∙ digit_behind (size - length ys) (extension ys) i ys (omega (arith, l, a, b)) ∙ ap (slice_get ys) y

-- one digit each
pub differ_in_digit : (x y size : ℕ) (r : Bool) → Decides r (x ≡ y) → not r ≡ not (bytes_eq (extend (x ∷ []) size) (extend (y ∷ []) size))
differ_in_digit x y size r d = differ_at_longest (x ∷ []) (y ∷ []) size 1 (omega arith) refl r ((λ yes. ap (λ z. z ∷ []) (d.0 yes)), λ same. d.1 (first same))
  where
    first : x ∷ [] ≡ y ∷ [] → x ≡ y
    first e = cc

-- ---- digit by digit, from the right

-- the digits from an index on are the same
abbrev pub SameFrom : ℕ → List ℕ → List ℕ → Type 0
SameFrom position xs ys = (k : ℕ) → position ≤ k → get_or xs k 0 ≡ get_or ys k 0

-- as many digits on both sides are compared as they are
pub differ_where_as_many : (xs ys : List ℕ) (size : ℕ) → length xs ≡ length ys → (r : Bool) → Decides r (xs ≡ ys) → not r ≡ not (bytes_eq (extend xs size) (extend ys size))
differ_where_as_many xs ys size many r d =
    let n = length xs in
    let x = sym (extend_wide xs n (omega arith)) in
    let y = sym (extend_wide ys n (omega arith)) in
    differ_at_longest xs ys size n (omega arith) (omega arith) r (subst (λ l. Decides r (l ≡ extend ys n)) x (subst (λ l. Decides r (xs ≡ l)) y d))

-- ---- the last digit

last_behind : (xs : List ℕ) (d : ℕ) (ds : List ℕ) (o : Option ℕ) → last_or o (xs ++ d ∷ ds) ≡ last_or (Some d) ds
last_behind [] d ds o = refl
last_behind (x ∷ xs) d ds o = last_behind xs d ds (Some x)

-- extended digits end as they did
pub last_extended : (ds : List ℕ) (size : ℕ) → 0 < length ds → last_or None (extend ds size) ≡ last_or None ds
last_extended [] size some = absurd (omega arith)
last_extended (d ∷ ds) size some = last_behind (replicate (size - length (d ∷ ds)) (extension (d ∷ ds))) d ds None

pub last_at : (ds : List ℕ) (o : Option ℕ) (k : ℕ) → length ds ≡ suc k → last_or o ds ≡ slice_get ds k
last_at [] o k h = absurd (omega arith)
last_at (d ∷ []) o k h = let z : k ≡ 0 = omega arith in rw z refl
last_at (d ∷ e ∷ ds) o zero h = absurd (omega arith)
last_at (d ∷ e ∷ ds) o (suc k) h = last_at (e ∷ ds) (Some d) k (omega arith)

-- the last packed digit is that of the value at each size
pub last_packed : (len d : ℕ) (bytes : List ℕ) (size : ℕ) → 1 ≤ len → slice_get (digits_in len bytes) (len - 1) ≡ Some d
    → Some d ≡ last_digit_in (Some (Value.Bits (extend (digits_in len bytes) size)))
last_packed len d bytes size some at =
    let l = length_digits len bytes in
    sym (last_extended (digits_in len bytes) size (omega (arith, l, some)) ∙ last_at (digits_in len bytes) None (len - 1) (omega (arith, l, some)) ∙ at)

pub last_number : (len size k : ℕ) → 1 ≤ some_by state.Bits len → count_in len ≡ suc k → (bytes : List ℕ)
    → last_digit_in (value_at_size size (held_by state.Bits len bytes)) ≡ slice_get (binary_digits (count_in len) (number_in len)) k
last_number len size k some is bytes =
    let ds = binary_digits (count_in len) (number_in len) in
    let l = length_binary (count_in len) (number_in len) in
    last_extended ds size (omega arith) ∙ last_at ds None k (omega arith)

-- a state that holds one, or none
pub last_of_state : (st : State) (len : ℕ) (bytes : List ℕ) (size : ℕ) → st ≢ state.Packed → st ≢ state.Bits
    → one_digit st ≡ last_digit_in (value_at_size size (held_by st len bytes))
last_of_state state.Unset len bytes size h b = refl
last_of_state state.Zero len bytes size h b = sym (last_extended (48 ∷ []) size (omega arith))
last_of_state state.One len bytes size h b = sym (last_extended (49 ∷ []) size (omega arith))
last_of_state state.Unknown len bytes size h b = sym (last_extended (120 ∷ []) size (omega arith))
last_of_state state.High len bytes size h b = sym (last_extended (122 ∷ []) size (omega arith))
last_of_state state.Packed len bytes size h b = absurd (h refl)
last_of_state state.Bits len bytes size h b = absurd (b refl)
last_of_state state.Real len bytes size h b = refl

-- a text of one digit, in lower case
pub one_lower : (text : List ℕ) (d : ℕ) → 1 ≤ length text → length text < 2 → d ≡ to_ascii_lowercase (get_or text 0 0) → str_to_ascii_lowercase text ≡ d ∷ []
one_lower [] d some few e = absurd (omega arith)
one_lower (x ∷ []) d some few e = ap (λ y. y ∷ []) (sym e)
one_lower (x ∷ y ∷ text) d some few e = absurd (omega arith)
