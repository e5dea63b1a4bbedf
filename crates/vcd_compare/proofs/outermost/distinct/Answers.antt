use Rattle.vcd_compare.proofs.Cited.{get_or, take, sym, subst, add-one, arith, take_all, slice_get-get_or, AreNumbersOf}
use Rattle.vcd_compare.proofs.Facts.{AreDistinct, distinct_more, same_len, zip_from}
use Rattle.vcd_compare.proofs.outermost.distinct.Goals as goal

pub loop-pair-preserved : goal.loop-pair-preserved
loop-pair-preserved c = λ texts ns apart zip.
    let i = c.loop-pair.pair-index in
    let pairs = c.args.pairs.now in
    let n = zip_from (AreNumbersOf texts) pairs ns i (get_or pairs i (0, 0)) zip (slice_get-get_or pairs i (0, 0) c.loop-pair-test.true) in
    subst (λ j. AreDistinct texts c.insert.new.self.keys (take j ns)) (sym (add-one i))
    (distinct_more texts c.loop-pair.all.keys c.insert.new.self.keys ns i (get_or pairs i (0, 0)) n.0 apart n.1 n.2 c.in-Ok.ensures.keys (c.loop-pair.invariant texts ns apart zip))

pub returns : goal.returns
returns c = λ texts ns apart zip.
    let len = same_len (AreNumbersOf texts) c.args.pairs.now ns zip in
    let s = subst (AreDistinct texts c.loop-pair.all.keys) (take_all c.loop-pair.pair-index ns (omega (arith, len, c.loop-pair-test.false))) (c.loop-pair.invariant texts ns apart zip) in
    (s.zip, s.are)
