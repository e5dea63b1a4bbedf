use Rattle.vcd_body.proofs.Cited.{◌≡◌, ◌<◌, ◌+◌, ◌∙◌, ℕ, length, refl, arith, sym, slice_index}
use Rattle.vcd_body.proofs.Facts.{lower_behind, short_behind_zeros, byte_there}
use Rattle.vcd_body.proofs.lines.left_out_of_binary.Goals as goal

pub returns-then-n-le32 : goal.returns-then-n-le32
returns-then-n-le32 c =
    let l = c.args.digits.now in
    let k = c.clear_bits.result in
    let z = c.clear_bits.ensures in
    let less = z.less in
    let there : (j : ℕ) → j < length l → slice_index l j ≡ slice_index c.args.bytes.now
    (c.args.at + j) = λ j few. byte_there l c.args.bytes.now c.args.at (length l) j few c.requires.position in (
      omega (arith, less),
      λ two. short_behind_zeros k l less
          (λ j few. there j (omega (arith, few, less)) ∙ c.others_32.ensures.same j (omega (arith, few, less)) (z.clear j few))
          (λ more e. c.others_32.ensures.other k (omega (arith, less)) (z.set more) (sym (there k less) ∙ e))
          (two refl),
    )

pub returns-then-n-eq64 : goal.returns-then-n-eq64
returns-then-n-eq64 c =
    let l = c.args.digits.now in
    let k = c.clear_bits-then-n-eq64.result in
    let z = c.clear_bits-then-n-eq64.ensures in
    let less = z.less in
    let all = c.if-n-eq64.true in
    let there : (j : ℕ) → j < length l → slice_index l j ≡ slice_index c.args.bytes.now
    (c.args.at + j) = λ j few. byte_there l c.args.bytes.now c.args.at (length l) j few c.requires.position in (
      omega (arith, less, all),
      λ two. short_behind_zeros k l (omega (arith, less, all))
          (λ j few. there j (omega (arith, few, less, all)) ∙ c.others_64.ensures.same j (omega (arith, few, less)) (z.clear j few))
          (λ more e. c.others_64.ensures.other k less (z.set (omega (arith, more, all))) (sym (there k (omega (arith, less, all))) ∙ e))
          (two refl),
    )

pub returns-then-digits-eq49 : goal.returns-then-digits-eq49
returns-then-digits-eq49 c =
    let many = c.if-n-le32.false in (
      omega arith,
      λ two. short_behind_zeros 0 c.args.digits.now (omega (arith, many)) (λ j few. absurd (omega (arith, few))) (λ more e. omega (arith, e, c.if-digits-eq49.true)) (two refl),
    )

pub returns : goal.returns
returns c = (
  c.needless.ensures.few,
  λ two size. sym (lower_behind c.needless.result c.args.digits.now (two refl)) ∙ c.needless.ensures.rest size,
)
