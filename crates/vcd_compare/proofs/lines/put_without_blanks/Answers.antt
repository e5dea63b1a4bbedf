use Rattle.vcd_compare.proofs.Cited.{◌≡◌, Err, sym, ap, subst, ◌∙◌, arith, append-nil, rules, Appends, AppendsSome, counted, get_or, flat_map, take_all, slice_get-get_or}
use Rattle.vcd_compare.proofs.Facts.{byte_of, bytes_of, lines_cut, lines_more}
use Rattle.vcd_compare.proofs.lines.put_without_blanks.Goals as goal

pub returns-in_err-put_no_blank : goal.returns-in_err-put_no_blank
returns-in_err-put_no_blank g c = counted (search rules) (
    let text = c.args.text.now in
    let i = c.loop-byte.byte-index in
    let b = get_or text i 0 in
    let e : c.from_residual.result ≡ Err c.in_err-put_no_blank.field-0.0 = search rules in
    rw e (subst (AppendsSome _ _) (bytes_of text) (lines_cut byte_of _ _ _ text i b
    (slice_get-get_or text i 0 (omega arith)) c.loop-byte.invariant.lines
    (subst (AppendsSome _ _) (sym (append-nil (byte_of b))) c.in_err-put_no_blank.ensures.0)))
    )

pub loop-byte-preserved : goal.loop-byte-preserved
loop-byte-preserved g c =
    let text = c.args.text.now in
    let i = c.loop-byte.byte-index in
    let b = get_or text i 0 in
    record {
      same = c.in_ok-put_no_blank.ensures.1 ∙ c.loop-byte.invariant.same;
      lines = lines_more byte_of _ _ _ text i b (slice_get-get_or text i 0 (omega arith)) c.loop-byte.invariant.lines
          (subst (Appends _ _) (sym (append-nil (byte_of b))) c.in_ok-put_no_blank.ensures.0);
    }

pub returns : goal.returns
returns g c = counted (search rules) (subst (Appends _ _) (ap (flat_map byte_of)
    (take_all c.loop-byte.byte-index c.args.text.now (omega (arith, c.loop-byte-test.false))) ∙ bytes_of c.args.text.now) c.loop-byte.invariant.lines)
