use Rattle.vcd_head.proofs.Cited.{sym, ◌∙◌, arith, is_ascii_digit, and_from, list_all_more}
use Rattle.vcd_head.proofs.Facts.{value_more}
use Rattle.vcd_head.proofs.words.size_of.Goals as goal

pub loop-digit-preserved : goal.loop-digit-preserved
loop-digit-preserved c =
    let i = c.loop-digit.digit-index in
    let more = value_more c.args.token.now i c.loop-digit-test.true in
    let now = c.min-size.ensures in
    let old = c.loop-digit.invariant.0 in (
      omega arith,
      list_all_more is_ascii_digit c.args.token.now i 0 c.loop-digit-test.true
          ∙ and_from _ _ c.loop-digit.invariant.1 (sym c.is_ascii_digit.ensures.value ∙ c.if-not-is_ascii_digit.false),
    )
