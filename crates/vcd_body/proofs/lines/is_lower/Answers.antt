use Rattle.vcd_body.proofs.Cited.{◌≡◌, ◌≢◌, ◌==◌, ℕ, [], ◌∷◌, not, true, false, arith, bit_and, to_ascii_lowercase, any_of}
use Rattle.vcd_body.proofs.Facts.{flip, lower_alone}
use Rattle.vcd_model.specs.BodyPhrases.{is_value_digit}
use Rattle.vcd_body.proofs.lines.is_lower.Goals as goal

capital : (d : ℕ) → is_value_digit d ≡ true → not (bit_and d 32 == 0) ≡ false → to_ascii_lowercase d ≢ d
unfolding is_value_digit
capital d h = any_of [] d (48 ∷ 49 ∷ 120 ∷ 88 ∷ 122 ∷ 90 ∷ []) (λ x. not (bit_and x 32 == 0) ≡ false → to_ascii_lowercase x ≢ x) h (
  λ e s. cc,
  (
    λ e s. cc,
    (
      λ e s. cc,
      (
        λ e s. (let same : 120 ≡ 88 = s in omega (arith, same)),
        (λ e s. cc, (λ e s. (let same : 122 ≡ 90 = s in omega (arith, same)), tt)),
      ),
    ),
  ),
)

pub returns-clause-yes : goal.returns-clause-yes
returns-clause-yes c = λ e. lower_alone c.args.digit c.ranges.digit.fits (flip _ e)

pub returns-clause-no : goal.returns-clause-no
returns-clause-no c = λ e h. capital c.args.digit h e
