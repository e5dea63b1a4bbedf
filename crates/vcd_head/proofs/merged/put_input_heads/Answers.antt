use Rattle.vcd_head.proofs.Cited.{◌≡◌, List, ℕ, Err, take, subst, sym, ap, ◌∙◌, arith, rules, concat, Appends, length-take-le, AllZip-long, each, input_head, appends-twice, counted, Views, codes_len}
use Rattle.vcd_head.proofs.Facts.{HeaderAt, all_passed, header_at, number_more, numbers_fit, lines-next, lines-some}
use Rattle.vcd_head.proofs.merged.put_input_heads.Goals as goal

pub loop-position-preserved : goal.loop-position-preserved
loop-position-preserved g c =
    let heads = c.args.heads.now in
    let i = c.loop-position.position in
    record {
      same = c.in_ok-put_input_head.ensures.1 ∙ c.loop-position.invariant.same;
      first = λ hs s.
          let at = subst (HeaderAt hs i) (sym c.index-heads-position.is) (header_at heads hs i c.index-heads-position.result s (omega arith)) in
          let fits = numbers_fit heads hs i at.header c.index-heads-position.result s (omega arith) at.views in
          let v = subst (λ x. Views x at.header) (sym c.view-view.ensures) at.views in
          let codes = codes_len c.view-view.result.text.now c.view-view.result.codes.now at.header.codes v.codes in
          let first = c.loop-position.invariant.first hs s in
          omega (arith, c.saturating_add-first.ensures, fits, codes, first, number_more hs i at.header at.at);
      lines = λ hs s.
          let at = subst (HeaderAt hs i) (sym c.index-heads-position.is) (header_at heads hs i c.index-heads-position.result s (omega arith)) in
          let v = subst (λ x. Views x at.header) (sym c.view-view.ensures) at.views in
          let first = c.loop-position.invariant.first hs s in
          let long = AllZip-long _ heads hs s in
          let number = length-take-le i hs (omega (arith, long)) in
          let fits = numbers_fit heads hs i at.header c.index-heads-position.result s (omega arith) at.views in
          subst (λ (l : List ℕ). Appends (g.W.Sink.device c.args.w.now).held (g.W.Sink.device c.put_input_head.new.w).held l) (sym (lines-next input_head hs i at.header at.at))
          (appends-twice _ _ _ _ (input_head (take i hs) at.header) (c.loop-position.invariant.lines hs s)
          (c.in_ok-put_input_head.ensures.0 (take i hs) at.header v (omega (arith, number)) first (omega (arith, first, fits))));
    }

pub returns-in_err-put_input_head : goal.returns-in_err-put_input_head
returns-in_err-put_input_head g c = counted (search rules) (λ hs s.
    let e : c.from_residual.result ≡ Err c.in_err-put_input_head.field-0.0 = search rules in
    let heads = c.args.heads.now in
    let i = c.loop-position.position in
    let at = subst (HeaderAt hs i) (sym c.index-heads-position.is) (header_at heads hs i c.index-heads-position.result s (omega arith)) in
    let v = subst (λ x. Views x at.header) (sym c.view-view.ensures) at.views in
    let first = c.loop-position.invariant.first hs s in
    let long = AllZip-long _ heads hs s in
    let number = length-take-le i hs (omega (arith, long)) in
    let fits = numbers_fit heads hs i at.header c.index-heads-position.result s (omega arith) at.views in
    rw e (lines-some input_head _ _ _ hs i at.header at.at (c.loop-position.invariant.lines hs s)
    (c.in_err-put_input_head.ensures.0 (take i hs) at.header v (omega (arith, number)) first (omega (arith, first, fits)))))

pub returns : goal.returns
returns g c = counted (search rules) (λ hs s.
    subst (λ (l : List ℕ). Appends (g.W.Sink.device c.args.w.now).held (g.W.Sink.device c.loop-position.w).held l)
    (ap (λ l. concat (each input_head l)) (all_passed c.args.heads.now hs c.loop-position.position s (omega arith))) (c.loop-position.invariant.lines hs s))
