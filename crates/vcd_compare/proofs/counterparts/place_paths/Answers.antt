use Rattle.vcd_compare.proofs.Cited.{◌≡◌, ◌∙◌, ℕ, List, get_or, sym, ap, subst, arith, IsBelow, IsSettled}
use Rattle.vcd_compare.proofs.Facts.{and_next, listed_below, places_found, placing_first}
use Rattle.vcd_compare.proofs.counterparts.place_paths.Goals as goal

pub loop-index-init : goal.loop-index-init
loop-index-init c = λ q h n texts has are one other selected ready. (
  placing_first n texts c.args.one c.args.other c.in-Some.turn c.args.places.now c.settle.new.places has.apart one other ready c.in-Some.ensures.1 c.settle.ensures,
  λ i l. absurd (omega (arith, l)),
)

pub loop-index-preserved : goal.loop-index-preserved
loop-index-preserved c = λ q h n texts has are one other selected ready.
    let k = c.loop-index.index-index in
    let paths = c.args.variables.now.paths.items in
    let list = c.args.selected.now in
    let s = c.loop-index.invariant q h n texts has are one other selected ready in
    let path : c.number_at.result ≡ get_or paths (get_or list k 0) 0 = c.number_at.ensures ∙ ap (λ (l : List ℕ). get_or l (get_or list k 0) 0) c.deref.ensures.value in
    let below = subst (IsBelow n texts) (sym path) (listed_below q h n texts c.args.variables.now list are selected k (omega arith)) in
    let next = c.in_ok-place_path.ensures n texts has s.0 below in
    (next.0, and_next (λ i. IsSettled c.place_path.new.places (get_or paths (get_or list i 0) 0)) k (λ i l. next.2 _ (s.1 i l)) (subst (IsSettled c.place_path.new.places) path next.1))

pub returns : goal.returns
returns c = λ q h n texts has are one other selected ready.
    let s = c.loop-index.invariant q h n texts has are one other selected ready in
    (s.0.0, places_found q h n texts c.args.variables.now c.args.selected.now are selected c.loop-index.places has.apart s.0.2 (λ i l. s.1 i (omega arith)))
