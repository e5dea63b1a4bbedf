use Rattle.vcd_view.proofs.Cited.{◌≡◌, ◌+◌, ◌-◌, ◌/◌, ◌<◌, length, get_or, Some, rules, sym, ap, subst, ◌∙◌, arith, digits_of, nat_cmp, slice_cmp}
use Rattle.vcd_view.proofs.Facts.{bytes_are, codes_len, index_len, place_below, between_all, between_above, between_below, none_between, found_equal, bits_of_half, IsBetween}
use Rattle.vcd_view.proofs.look_up.search.Goals as goal

pub loop-low-init : goal.loop-low-init
loop-low-init c = record {
  within = omega arith;
  end = omega arith;
  between = λ ks a x. between_all ks c.args.index.now c.args.code.now;
  grown = omega arith;
  counted = λ l. absurd (omega arith);
  few = (let all : length c.args.index.now - 0 ≡ length c.args.index.now = omega arith in rw all (omega arith));
}

pub loop-low-preserved-in-Less : goal.loop-low-preserved-in-Less
loop-low-preserved-in-Less c =
    let low = c.loop-low.low in let high = c.loop-low.high in
    let middle = low + (high - low) / 2 in
    let inside : middle < length c.args.index.now = omega (arith, c.loop-low.invariant.end) in
    let bits = bits_of_half (high - (middle + 1)) (high - low) (omega arith) (omega arith) in
    record {
      within = omega arith;
      end = c.loop-low.invariant.end;
      between = λ ks a x. between_above ks c.args.index.now c.args.code.now low high middle x (c.loop-low.invariant.between ks a x) inside
          (ap (λ t. slice_cmp nat_cmp t c.args.code.now) (sym (c.code_bytes.ensures ∙ bytes_are _ _ ks (get_or c.args.index.now middle 0) a)) ∙ sym c.in-Less.ensures.order);
      grown = omega (arith, c.loop-low.invariant.grown);
      counted = λ l. omega (arith, c.loop-low.invariant.grown);
      few = omega (arith, c.loop-low.invariant.few);
    }

pub loop-low-preserved : goal.loop-low-preserved
loop-low-preserved c =
    let low = c.loop-low.low in let high = c.loop-low.high in
    let middle = low + (high - low) / 2 in
    let inside : middle < length c.args.index.now = omega (arith, c.loop-low.invariant.end) in
    let bits = bits_of_half (middle - low) (high - low) (omega arith) (omega arith) in
    record {
      within = omega arith;
      end = omega (arith, c.loop-low.invariant.end);
      between = λ ks a x. between_below ks c.args.index.now c.args.code.now low high middle x (c.loop-low.invariant.between ks a x)
          (ap (λ t. slice_cmp nat_cmp t c.args.code.now) (sym (c.code_bytes.ensures ∙ bytes_are _ _ ks (get_or c.args.index.now middle 0) a)) ∙ sym c.in-Greater.ensures.order);
      grown = omega (arith, c.loop-low.invariant.grown);
      counted = λ l. omega (arith, c.loop-low.invariant.grown);
      few = omega (arith, c.loop-low.invariant.few);
    }

pub returns-in-Equal-clause-found : goal.returns-in-Equal-clause-found
returns-in-Equal-clause-found c = λ ks a x.
    let index = c.args.index.now in
    let middle = c.loop-low.low + (c.loop-low.high - c.loop-low.low) / 2 in
    let inside : middle < length index = omega (arith, c.loop-low.invariant.end) in
    let below = place_below ks index middle x inside in
    let within : get_or index middle 0 < length c.args.codes.now = omega (arith, codes_len _ _ _ a) in
    let is : c.then_some.result ≡ Some (get_or index middle 0) = search rules in
    rw is
    (found_equal ks index c.args.code.now middle x inside
    (ap (λ t. slice_cmp nat_cmp t c.args.code.now) (sym (c.code_bytes.ensures ∙ bytes_are _ _ ks (get_or index middle 0) a)) ∙ sym c.in-Equal.ensures.order))

pub returns-in-Equal-clause-few : goal.returns-in-Equal-clause-few
returns-in-Equal-clause-few c = λ ks x.
    let codes = ap (λ n. length (digits_of 2 n)) (index_len ks c.args.index.now x) in
    let one = bits_of_half 0 (c.loop-low.high - c.loop-low.low) (omega arith) (omega arith) in
    omega (arith, c.loop-low.invariant.few, c.in-Equal.ensures.counted, one)

pub returns-clause-found : goal.returns-clause-found
returns-clause-found c = λ ks a x. none_between ks c.args.index.now c.args.code.now c.loop-low.low x
    (subst (λ n. IsBetween ks c.args.index.now c.args.code.now c.loop-low.low n) (omega (arith, c.loop-low.invariant.within))
    (c.loop-low.invariant.between ks a x))

pub returns-clause-few : goal.returns-clause-few
returns-clause-few c = λ ks x.
    let codes = ap (λ n. length (digits_of 2 n)) (index_len ks c.args.index.now x) in
    omega (arith, c.loop-low.invariant.few)
