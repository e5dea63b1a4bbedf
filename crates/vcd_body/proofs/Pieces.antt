-- A text that is written piece by piece.
use Rattle.vcd_body.proofs.Cited.{◌≡◌, ℕ, zero, suc, ◌+◌, ◌<◌, ◌≤◌, List, [], ◌∷◌, ◌++◌, length, take, drop, get_or, replicate, take-append-drop, ap, sym, refl, ◌∙◌, subst, append_assoc, arith, Option, Appends, drop-cons, take-length, take-append-le, AppendsSome, appends-first, appends-more, appends-some}

-- a piece after the first n bytes
pub piece-more : (old mid new : Option (List ℕ)) (all piece : List ℕ) (n m : ℕ) → piece ≡ take m (drop n all) → Appends old mid (take n all)
    → Appends mid new piece → Appends old new (take (n + m) all)
piece-more old mid new all piece n m e p q = appends-more old mid new all (drop n all) n m refl p (subst (Appends mid new) e q)

pub piece-some : (old mid new : Option (List ℕ)) (all piece : List ℕ) (n m : ℕ) → piece ≡ take m (drop n all) → Appends old mid (take n all)
    → AppendsSome mid new piece → AppendsSome old new all
piece-some old mid new all piece n m e p q =
    let some = appends-some old mid new (take n all) (take m (drop n all)) p (subst (AppendsSome mid new) e q) in
    subst (AppendsSome old new) (append_assoc (take n all) (take m (drop n all)) (drop m (drop n all)) ∙ ap (λ l. take n all ++ l) (take-append-drop m (drop n all)) ∙ take-append-drop n all)
    (appends-first old new (take n all ++ take m (drop n all)) (drop m (drop n all)) some)

-- a part of a text by its elements
pub same_part : (xs ds : List ℕ) (from : ℕ) → from + length xs ≤ length ds → ((k : ℕ) → k < length xs → get_or xs k 0 ≡ get_or ds (from + k) 0)
    → xs ≡ take (length xs) (drop from ds)
same_part [] ds from within same = refl
same_part (x ∷ xs) ds from within same =
    let first = same 0 (omega arith) in
    let there : from + 0 ≡ from = omega arith in
    let rest = same_part xs ds (suc from) (omega arith) (λ k few. same (suc k) (omega arith) ∙ ap (λ i. get_or ds i 0) (omega arith)) in
    let inside : from < length ds = omega arith in
    rw (drop-cons ds from 0) (ap (λ y. y ∷ xs) (first ∙ ap (λ i. get_or ds i 0) there) ∙ ap (λ l. get_or ds from 0 ∷ l) rest)

-- a part of a digit that is repeated
pub repeated_part : (digit count n m k : ℕ) → n + m ≤ count → m ≤ k → take m (replicate k digit) ≡ take m (drop n (replicate count digit))
repeated_part digit count zero zero k h l = refl
repeated_part digit count (suc n) zero k h l = refl
repeated_part digit zero n (suc m) k h l = absurd (omega arith)
repeated_part digit count n (suc m) zero h l = absurd (omega arith)
repeated_part digit (suc count) zero (suc m) (suc k) h l = ap (λ r. digit ∷ r) (repeated_part digit count zero m k (omega arith) (omega arith))
repeated_part digit (suc count) (suc n) (suc m) (suc k) h l = repeated_part digit count n (suc m) (suc k) (omega arith) l

pub front_part : (a b : List ℕ) (n : ℕ) → length a ≡ n → take n (a ++ b) ≡ a
front_part a b n e = ap (λ k. take k (a ++ b)) (sym e) ∙ take-append-le (length a) a b (omega arith) ∙ take-length a
