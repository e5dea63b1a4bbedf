use Rattle.vcd_body.proofs.Cited.{sym, ap, Some, ◌∙◌, arith, slice_get-get_or, slice_get_past, extend, held_in, digits_of, len_of}
use Rattle.vcd_body.proofs.Facts.{length_extended, no_digits, shown_at}
use Rattle.vcd_body.proofs.values.held.digit_shown.Goals as goal
use Rattle.vcd_body.proofs.values.held.digit_shown.Goals.{then-count-eq0-via-then-count-eq0, then-count-eq0-via-else-count-eq0+then-index-count}

pub returns-then-count-eq0 : goal.returns-then-count-eq0
returns-then-count-eq0 c =
    let ds = digits_of c.args.held in
    let l = length_extended ds c.args.size in
    elim c.then-count-eq0.branch [
      | then-count-eq0-via-then-count-eq0 w ↦ sym (no_digits c.args.held.holding.state
          (len_of c.args.held.holding) c.args.size c.args.index c.args.held.bytes.now c.args.held.some
          (omega (arith, c.count.ensures, w.if-count-eq0.true)))
      | then-count-eq0-via-else-count-eq0+then-index-count w ↦ sym
          (shown_at (held_in c.args.held) c.args.size c.args.index (omega (arith, c.count.ensures, w.if-count-eq0.false))
          ∙ slice_get_past (extend ds c.args.size) c.args.index (omega
          (arith, l, c.count.ensures, w.count-else-count-eq0.ensures, w.if-index-count.true)))
    ]

pub returns : goal.returns
returns c =
    let ds = digits_of c.args.held in
    let l = length_extended ds c.args.size in
    ap (λ d. Some d) c.digit.ensures
    ∙ sym (slice_get-get_or (extend ds c.args.size) c.args.index 0 (omega (arith, l, c.count.ensures)))
    ∙ sym (shown_at (held_in c.args.held) c.args.size c.args.index (omega (arith, c.count.ensures)))
