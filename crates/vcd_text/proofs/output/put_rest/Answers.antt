use Rattle.vcd_text.proofs.Cited.{◌+◌, drop, ap, ◌∙◌, drop-drop, take_rest}
use Rattle.vcd_text.proofs.Facts.{appends-more}
use Rattle.vcd_text.proofs.output.put_rest.Goals as goal

pub loop-rest-preserved : goal.loop-rest-preserved
loop-rest-preserved g c =
    let i = c.loop-rest.invariant in
    let taken = c.in_ok-taken.taken in
    let e = c.in_ok-taken.ensures in (
      e.counts ∙ i.0,
      (
        i.1.0 + taken,
        take_rest c.loop-rest.rest.now taken ∙ (ap (drop taken) i.1.1 ∙ drop-drop taken i.1.0 c.args.bytes.now),
        appends-more _ _ _ c.args.bytes.now c.loop-rest.rest.now i.1.0 taken i.1.1 i.1.2 e.bytes,
      ),
    )
