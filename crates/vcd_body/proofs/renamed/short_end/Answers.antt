use Rattle.vcd_body.proofs.Cited.{◌≡◌, ◌+◌, ◌/◌, ◌%◌, refl, sym, arith}
use Rattle.vcd_body.proofs.Facts.{two_digits, three_digits}
use Rattle.vcd_body.proofs.RenamedLemmas.{one_digit}
use Rattle.vcd_body.proofs.renamed.short_end.Goals as goal

pub returns-then-number-lt94 : goal.returns-then-number-lt94
returns-then-number-lt94 c =
    let code = one_digit c.args.number c.if-number-lt94.true in
    let low : c.args.number + 33 ≡ 33 + c.args.number % 94 = omega arith in
    rw (c.few.ensures.bytes, c.few.ensures.len, code, sym low) refl

pub returns-then-rest-lt94 : goal.returns-then-rest-lt94
returns-then-rest-lt94 c =
    let rest = c.args.number / 94 in
    let code = two_digits c.args.number (omega (arith, c.if-number-lt94.false)) c.if-rest-lt94.true in
    let last : rest + 33 ≡ 33 + rest % 94 = omega arith in
    rw (c.few-then-rest-lt94.ensures.bytes, c.few-then-rest-lt94.ensures.len, code, sym c.code_byte-low.ensures, sym last) refl

pub returns-then-high-lt94 : goal.returns-then-high-lt94
returns-then-high-lt94 c =
    let high = c.args.number / 94 / 94 in
    let code = three_digits c.args.number (omega (arith, c.if-number-lt94.false)) (omega (arith, c.if-rest-lt94.false)) c.if-high-lt94.true in
    let last : high + 33 ≡ 33 + high % 94 = omega arith in
    rw (c.few-then-high-lt94.ensures.bytes, c.few-then-high-lt94.ensures.len, code, sym c.code_byte-low.ensures, sym c.code_byte-middle.ensures, sym last) refl
