-- The shortest digits of a value are those from which no digit can be left out on the left.
use Rattle.vcd_body.proofs.Cited.{◌≡◌, ◌≢◌, ◌⊎◌, inl, inr, ℕ, zero, suc, ◌+◌, ◌-◌, ◌/◌, ◌%◌, ◌^◌, max, ◌≤◌, ◌<◌, Bool, true, false, cond, ◌==◌, List, [], ◌∷◌, ◌++◌, length, replicate, drop, get_or, refl, sym, ap, subst, ◌∙◌, arith, to_ascii_lowercase, str_to_ascii_lowercase, cases_lt, eqb-true, drop-cons, length-append, length-drop, length-replicate, extend, extension, short, binary_digits, bit_of, AreBinary, Serves, short_is_shortest}

-- one digit, or more of which the first is not what the others are extended by
abbrev pub IsBare : List ℕ → Type 0
IsBare [] = ⊥
IsBare (x ∷ []) = Unit {0}
IsBare (x ∷ y ∷ ds) = x ≢ extension (y ∷ ds)

no_one : (ds : List ℕ) → (extension ds == 49) ≡ false
no_one [] = refl
no_one (d ∷ ds) = by_one (d == 49) refl
  where
    by_one : (b : Bool) → (d == 49) ≡ b → (cond (d == 49) 48 d == 49) ≡ false
    by_one true e = rw e refl
    by_one false e = rw e e

-- what digits are extended by extends itself
pub extension_again : (ds es : List ℕ) → extension (extension ds ∷ es) ≡ extension ds
extension_again ds es = ap (λ b. cond b 48 (extension ds)) (no_one ds)

one_more : (n e : ℕ) (l : List ℕ) → replicate n e ++ e ∷ l ≡ e ∷ (replicate n e ++ l)
one_more zero e l = refl
one_more (suc n) e l = ap (λ r. e ∷ r) (one_more n e l)

replicate_at : (m n e : ℕ) (l r : List ℕ) → m ≡ n + 1 → replicate n e ++ e ∷ l ≡ r → replicate m e ++ l ≡ r
replicate_at m n e l r h q = let s : m ≡ suc n = omega arith in ap (λ k. replicate k e ++ l) s ∙ sym (one_more n e l) ∙ q

-- digits that are as many as their size or more are their own extension
pub extend_wide : (ds : List ℕ) (size : ℕ) → size ≤ length ds → extend ds size ≡ ds
extend_wide ds size h = let e : size - length ds ≡ 0 = omega arith in rw e refl

-- where their size is less than the digits, they are extended as at the size that they fill
pub extend_where_fits : (ds : List ℕ) (size n : ℕ) → n ≡ max size (length ds) → extend ds size ≡ extend ds n
extend_where_fits ds size n h = let e : size - length ds ≡ n - length ds = omega arith in ap (λ k. replicate k (extension ds) ++ ds) e

-- a digit that the others are extended by can be left out
pub left_out : (x : ℕ) (ds : List ℕ) (n : ℕ) → x ≡ extension ds → length (x ∷ ds) ≤ n → extend ds n ≡ extend (x ∷ ds) n
left_out x ds n e h =
    let same : extension (x ∷ ds) ≡ extension ds = ap (λ y. extension (y ∷ ds)) e ∙ extension_again ds ds in
    let some = h in
    replicate_at (n - length ds) (n - length (x ∷ ds)) (extension ds) ds (extend (x ∷ ds) n) (omega arith)
    (ap (λ y. replicate (n - length (x ∷ ds)) (extension ds) ++ y ∷ ds) (sym e) ∙ ap (λ y. replicate (n - length (x ∷ ds)) y ++ x ∷ ds) (sym same))

-- two rows of digits that are one, of which the first has k more of its first digit
cut_off : (a k e f : ℕ) (xs ys : List ℕ) → replicate (a + k) e ++ xs ≡ replicate a f ++ ys → replicate k e ++ xs ≡ ys
cut_off zero k e f xs ys h = let s : 0 + k ≡ k = omega arith in ap (λ m. replicate m e ++ xs) (sym s) ∙ h
cut_off (suc a) k e f xs ys h = let s : suc a + k ≡ suc (a + k) = omega arith in cut_off a k e f xs ys (ap (drop 1) (ap (λ m. replicate m e ++ xs) (sym s) ∙ h))

not_bare : (k : ℕ) (y s : List ℕ) → y ≢ [] → IsBare s → replicate k (extension y) ++ y ≡ s → k ≡ 0
not_bare zero y s n b h = refl
not_bare (suc zero) [] s n b h = absurd (n refl)
not_bare (suc zero) (x ∷ y) s n b h = absurd (subst IsBare (sym h) b refl)
not_bare (suc (suc k)) y s n b h = absurd (subst IsBare (sym h) b (sym (extension_again y (replicate k (extension y) ++ y))))

bare_some : (s : List ℕ) → IsBare s → 0 < length s
bare_some [] b = absurd b
bare_some (x ∷ s) b = omega arith

pub not_empty : (s : List ℕ) → 0 < length s → s ≢ []
not_empty [] h = absurd (omega arith)
not_empty (x ∷ s) h = λ e. cc

pub bare_is_short : (s : List ℕ) (n : ℕ) → IsBare s → length s ≤ n → s ≡ short (extend s n)
bare_is_short s n b h =
    let v = extend s n in
    let some = bare_some s b in
    let long : length v ≡ n = length-append (replicate (n - length s) (extension s)) s ∙ (let r = length-replicate (n - length s) (extension s) in omega arith) in
    let q = short_is_shortest v (not_empty v (omega arith)) in
    let y = short v in
    let no_longer : length y ≤ length s = q.2 s (not_empty s some) (ap (extend s) long) in
    let back : extend y n ≡ v = ap (extend y) (sym long) ∙ q.1 in
    let split : (n - length s) + (length s - length y) ≡ n - length y = omega arith in
    let c = cut_off (n - length s) (length s - length y) (extension y) (extension s) y s (ap (λ m. replicate m (extension y) ++ y) split ∙ back) in
    let z = not_bare (length s - length y) y s q.0 b c in
    sym (ap (λ m. replicate m (extension y) ++ y) (sym z) ∙ c)

-- ---- the digits from an index on

-- what digits are extended by is known by the first of them
pub extension_at : (ds : List ℕ) (from : ℕ) → from < length ds → extension (drop from ds) ≡ extension (get_or ds from 0 ∷ [])
extension_at [] from h = absurd (omega arith)
extension_at (d ∷ ds) zero h = refl
extension_at (d ∷ ds) (suc from) h = extension_at ds from (omega arith)

-- a first digit that the next one extends to is left out
pub one_less : (ds : List ℕ) (from : ℕ) → from + 1 < length ds → get_or ds from 0 ≡ extension (get_or ds (from + 1) 0 ∷ []) → Serves from ds → Serves (from + 1) ds
one_less ds from more same (within, serves) = (
  omega arith,
  λ size fits.
      let next : suc from ≡ from + 1 = omega arith in
      let two = drop-cons ds from 0 within ∙ ap (λ i. get_or ds from 0 ∷ drop i ds) next in
      let rest = drop (from + 1) ds in
      let l = length-drop (from + 1) ds in
      let e : get_or ds from 0 ≡ extension rest = same ∙ sym (extension_at ds (from + 1) more) in
      left_out (get_or ds from 0) rest size e (omega arith) ∙ ap (λ r. extend r size) (sym two) ∙ serves size fits,
)

-- no digits are extended by 0
pub none_extended : (ds : List ℕ) → length ds ≡ 0 → 48 ≡ extension ds
none_extended [] h = refl
none_extended (d ∷ ds) h = absurd (omega (arith, h))

-- first digits that the next ones extend to are
pub lead_out : (from : ℕ) (ds : List ℕ) → from < length ds → ((k : ℕ) → k < from → get_or ds k 0 ≡ extension (get_or ds (k + 1) 0 ∷ [])) → Serves from ds
lead_out zero ds less same = (less, λ size fits. refl)
lead_out (suc from) ds less same =
    let next : from + 1 ≡ suc from = omega arith in
    subst (λ i. Serves i ds) next (one_less ds from (omega arith) (same from (omega arith)) (lead_out from ds (omega arith) (λ k few. same k (omega arith))))

bare_here : (ds : List ℕ) (from next : ℕ) → next ≡ suc from → next < length ds → get_or ds from 0 ≢ extension (get_or ds next 0 ∷ []) → IsBare (drop from ds)
bare_here [] from next e h n = absurd (omega arith)
bare_here (d ∷ []) from next e h n = absurd (omega arith)
bare_here (d ∷ f ∷ ds) zero next e h n = λ x. n (x ∙ ap (λ i. extension (get_or (d ∷ f ∷ ds) i 0 ∷ [])) (sym e))
bare_here (d ∷ f ∷ ds) (suc from) zero e h n = absurd (omega arith)
bare_here (d ∷ f ∷ ds) (suc from) (suc next) e h n = bare_here (f ∷ ds) from next (omega arith) (omega arith) n

last_bare : (ds : List ℕ) (from : ℕ) → from < length ds → length ds ≤ from + 1 → IsBare (drop from ds)
last_bare [] from h l = absurd (omega arith)
last_bare (d ∷ []) zero h l = tt
last_bare (d ∷ e ∷ ds) zero h l = absurd (omega arith)
last_bare (d ∷ ds) (suc from) h l = last_bare ds from (omega arith) (omega arith)

shortest : (ds : List ℕ) (from : ℕ) → IsBare (drop from ds) → Serves from ds → (size : ℕ) → drop from ds ≡ short (extend ds size)
shortest ds from bare (within, serves) size =
    let n = max size (length ds) in
    let l = length-drop from ds in
    bare_is_short (drop from ds) n bare (omega arith) ∙ ap short (serves n (omega arith) ∙ sym (extend_where_fits ds size n refl))

pub short_here : (ds : List ℕ) (from : ℕ) → from + 1 < length ds → get_or ds from 0 ≢ extension (get_or ds (from + 1) 0 ∷ []) → Serves from ds
    → (size : ℕ) → drop from ds ≡ short (extend ds size)
short_here ds from more other serves size = shortest ds from (bare_here ds from (from + 1) (omega arith) more other) serves size

pub short_last : (ds : List ℕ) (from : ℕ) → length ds ≤ from + 1 → Serves from ds → (size : ℕ) → drop from ds ≡ short (extend ds size)
short_last ds from last serves size = shortest ds from (last_bare ds from serves.0 last) serves size

-- ---- digits that are 0 and 1 alone

pub one_of_two : (d : ℕ) → d ≡ 48 + bit_of d → (d ≡ 48) ⊎ (d ≡ 49)
one_of_two d e = by_one (d == 49) refl
  where
    by_one : (b : Bool) → (d == 49) ≡ b → (d ≡ 48) ⊎ (d ≡ 49)
    by_one true h = inr (eqb-true d 49 h)
    by_one false h = inl (e ∙ ap (λ b. 48 + cond b 1 0) h)

-- both are extended by 0
two_extended : (d : ℕ) → d ≡ 48 + bit_of d → extension (d ∷ []) ≡ 48
two_extended d e = elim (one_of_two d e) [
  | inl h ↦ ap (λ x. extension (x ∷ [])) h
  | inr h ↦ ap (λ x. extension (x ∷ [])) h
]

two_lower : (d : ℕ) → d ≡ 48 + bit_of d → to_ascii_lowercase d ≡ d
two_lower d e = elim (one_of_two d e) [
  | inl h ↦ ap to_ascii_lowercase h ∙ sym h
  | inr h ↦ ap to_ascii_lowercase h ∙ sym h
]

-- those of a number are
pub number_two : (l n : ℕ) → AreBinary (binary_digits l n)
number_two zero n k less = absurd (omega arith)
number_two (suc l) n zero less = of_bit (n / 2 ^ l % 2) (omega arith)
  where
    of_bit : (m : ℕ) → m < 2 → 48 + m ≡ 48 + bit_of (48 + m)
    of_bit zero few = refl
    of_bit (suc zero) few = refl
    of_bit (suc (suc m)) few = absurd (omega arith)
number_two (suc l) n (suc k) less = number_two l n k (omega arith)

lower_two : (l : List ℕ) → AreBinary l → str_to_ascii_lowercase l ≡ l
lower_two [] two = refl
lower_two (d ∷ l) two = rw (two_lower d (two 0 (omega arith)), lower_two l (λ k less. two (suc k) (omega arith))) refl

-- so the digits after the zeros that lead are the shortest
pub short_behind_zeros : (k : ℕ) (l : List ℕ) → k < length l → ((j : ℕ) → j < k → get_or l j 0 ≡ 48) → (k + 1 < length l → get_or l k 0 ≢ 48)
    → AreBinary l → (size : ℕ) → drop k l ≡ short (extend (str_to_ascii_lowercase l) size)
short_behind_zeros k l less zeros first two size =
    let extended : (j : ℕ) → j < length l → extension (get_or l j 0 ∷ []) ≡ 48 = λ j few. two_extended (get_or l j 0) (two j few) in
    let serves = lead_out k l less (λ j few. zeros j few ∙ sym (extended (j + 1) (omega (arith, few, less)))) in
    let all : drop k l ≡ short (extend l size) = elim (cases_lt (k + 1) (length l)) [
      | inl more ↦ short_here l k more (λ e. first more (e ∙ extended (k + 1) more)) serves size
      | inr last ↦ short_last l k last serves size
    ] in
    all ∙ ap (λ ds. short (extend ds size)) (sym (lower_two l two))
