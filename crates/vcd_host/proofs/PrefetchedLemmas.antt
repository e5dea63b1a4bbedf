-- What is consumed of a reader whose first bytes were read before they are asked for.
use Rattle.vcd_host.proofs.Cited.{◌≡◌, ℕ, ◌+◌, ◌-◌, ◌≤◌, List, [], ◌++◌, length, take, drop, ap, refl, sym, subst, ◌∙◌, arith, append_assoc, length-drop, length-take-le, take-append-add, take-put_mid, take-take, Option, Some, None, Result, Consumes, ReadConsumes, prepend_known}
use borrow.Rule.Slice.PartMut.{put_mid, same_len_mid}
use Rattle.vcd_host.specs.Prefetched.{left_after}
use Rattle.vcd_host.specs.declared.prefetched.Seen.{Seen}
use Rattle.vcd_host.specs.declared.prefetched.Seen.TheVariants.{Unknown}

-- known bytes begin with one text, and then with another
pub consumes-more : (a b c : Option (List ℕ)) (xs ys : List ℕ) → Consumes a b xs → Consumes b c ys → Consumes a c (xs ++ ys)
consumes-more None b c xs ys first then = tt
consumes-more (Some x) None c xs ys first then = absurd first
consumes-more (Some x) (Some y) None xs ys first then = absurd then
consumes-more (Some x) (Some y) (Some z) xs ys first then = first ∙ ap (λ l. xs ++ l) then ∙ sym (append_assoc xs ys z)

-- ---- bytes that are read behind the first ones of a slice

module _ (count : ℕ) (into bytes : List ℕ) (within : count ≤ length into) (all : length bytes ≡ length into - count) where
  abbrev now : List ℕ
  now = put_mid count (length into - count) into bytes

  put-length : length now ≡ length into
  put-length = same_len_mid count (length into - count) into bytes (all ∙ sym (length-take-le (length into - count) (drop count into) (omega (arith, length-drop count into))))

  put-taken : (n : ℕ) → n ≤ length bytes → take (count + n) now ≡ take count into ++ take n bytes
  put-taken n few =
      let first : length (take count into) ≡ count = length-take-le count into within in
      sym (take-take (count + n) (count + length bytes) now (omega arith))
      ∙ ap (take (count + n)) (take-put_mid count (length into - count) into bytes (count + length bytes) refl within)
      ∙ ap (λ m. take (m + n) (take count into ++ bytes)) (sym first) ∙ take-append-add (take count into) bytes n

  pub front-more : (n size : ℕ) (a b c : Option (List ℕ)) → n ≤ length bytes → length into ≡ size → Consumes a b (take count into)
      → Consumes b c (take n bytes) → (count + n ≤ length now) × (length now ≡ size) × Consumes a c (take (count + n) now)
  front-more n size a b c few is first then = (
    omega (arith, put-length, few, all, within),
    put-length ∙ is,
    subst (λ l. Consumes a c l) (sym (put-taken n few)) (consumes-more a b c (take count into) (take n bytes) first then),
  )

-- ---- the bytes after those

prepend-none : (known : Option (List ℕ)) → prepend_known [] known ≡ known
prepend-none None = refl
prepend-none (Some xs) = refl

-- after the last of the bytes that come first, the others are read
pub reads-on : {E : Type 0} (seen : Seen) (old new : Option (List ℕ)) (result : Result ℕ E) (into bytes : List ℕ) → seen ≡ Unknown → bytes ≡ []
    → ReadConsumes old new result into → ReadConsumes (prepend_known bytes (left_after seen old))
    (prepend_known bytes (left_after seen new)) result into
reads-on seen old new result into bytes is none reads = rw (is, none, prepend-none old, prepend-none new) reads
