use Rattle.vcd_merge.proofs.Cited.{◌≡◌, take, Some, refl, sym, ap, subst, ◌∙◌, arith, rules, to_z, of_z, w8, first_number, factor, IsExponent, Views, codes_len, HeaderAt, header_at, least_in_range, number_more, numbers_fit}
use Rattle.vcd_merge.proofs.Facts.{all_set, as_begun, one_more}
use Rattle.vcd_merge.proofs.beginning.set_seats.Goals as goal

pub loop-input-preserved : goal.loop-input-preserved
loop-input-preserved c =
    let heads = c.args.heads.now in
    let i = c.loop-input.input in
    record {
      first = λ hs s.
          let at = subst (HeaderAt hs i) (sym c.index-heads-input.is) (header_at heads hs i c.index-heads-input.result s (omega arith)) in
          let v = subst (λ x. Views x at.header) (sym c.view-view.ensures) at.views in
          let codes = codes_len c.view-view.result.text.now c.view-view.result.codes.now at.header.codes v.codes in
          let fits = numbers_fit heads hs i at.header c.index-heads-input.result s (omega arith) at.views in
          let first = c.loop-input.invariant.first hs s in
          omega (arith, c.saturating_add-first.ensures, fits, codes, first, number_more hs i at.header at.at);
      seats = λ hs s.
          let at = subst (HeaderAt hs i) (sym c.index-heads-input.is) (header_at heads hs i c.index-heads-input.result s (omega arith)) in
          let v = subst (λ x. Views x at.header) (sym c.view-view.ensures) at.views in
          let so_far = c.loop-input.invariant.seats hs s in
          let narrow : to_z w8 (of_z w8 c.least_exponent-least.result) ≡ c.least_exponent-least.result = search rules in
          let least = narrow ∙ c.least_exponent-least.ensures hs s in
          let scale = c.factor_of.ensures hs at.header v (subst IsExponent (sym least) (least_in_range heads hs s)) least in
          one_more _ i _ c.loop-input.seats _ so_far (omega arith)
          (λ x a h there.
          let same : Some at.header ≡ Some h = sym at.at ∙ there in
          let is : at.header ≡ h = cc in
          as_begun c.loop-input.seats i x _ c.factor_of.result c.loop-input.first (factor hs h) (first_number (take i hs))
          (so_far.left i (omega arith) ∙ a) (scale ∙ ap (factor hs) is) (c.loop-input.invariant.first hs s));
      kept =
          one_more _ i _ c.loop-input.seats _ c.loop-input.invariant.kept (omega arith)
          (λ x a. as_begun c.loop-input.seats i x _ c.factor_of.result c.loop-input.first c.factor_of.result c.loop-input.first (c.loop-input.invariant.kept.left i (omega arith) ∙ a) refl refl);
    }

pub returns-clause-seats : goal.returns-clause-seats
returns-clause-seats c = λ hs s k h x x' there a b. all_set _ c.loop-input.input c.args.seats.now c.loop-input.seats (c.loop-input.invariant.seats hs s) (omega arith) k x x' a b h there

pub returns-clause-kept : goal.returns-clause-kept
returns-clause-kept c = λ k x x' a b. all_set _ c.loop-input.input c.args.seats.now c.loop-input.seats c.loop-input.invariant.kept (omega arith) k x x' a b
