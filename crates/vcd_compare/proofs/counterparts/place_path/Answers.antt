use Rattle.vcd_compare.proofs.Cited.{◌≡◌, ℕ, List, Option, get_or, sym, ap, subst, ◌∙◌, arith, Vec, texts_in, Climbs, IsSettled, Places, Settles, place_of_node}
use Rattle.vcd_compare.proofs.Facts.{climbs_back, climbs_none, number_within, placing_next}
use Rattle.vcd_compare.proofs.counterparts.place_path.Goals as goal

pub loop-inner-init : goal.loop-inner-init
loop-inner-init c = λ n texts has p below.
    let turns = c.deref.ensures.value in
    let top = c.in_ok-climb.ensures n texts has (λ m is. ap (λ (ts : List ℕ). get_or ts m 0) turns ∙ p.1 m is) below in
    (p, λ m at. at, (top.0, top.1, ap (λ (ts : List ℕ). get_or ts top.0 0) (sym turns) ∙ top.2))

pub loop-inner-preserved : goal.loop-inner-preserved
loop-inner-preserved c = λ n texts has p below.
    let nodes = c.args.paths.now.nodes.keys in
    let inner = c.in-Some.inner in
    let s = c.loop-inner.invariant n texts has p below in
    let back = climbs_back (texts_in c.args.paths.now.parts) nodes texts has n c.args.number inner s.2.0 c.pop.new.self.items
    (subst (λ ms. Climbs nodes n texts c.args.number ms s.2.0) c.in-Some.ensures.items s.2.1) in
    let popped : Places = record c.loop-inner.places { climbed = c.pop.new.self } in
    let within = number_within texts inner back.1.0 back.1.1 in
    let place : c.place_inside-place.result ≡ place_of_node nodes popped.numbers.items inner =
    c.place_inside-place.ensures texts has (let l = has.len in omega (arith, within, l)) ∙ ap (λ (l : List (Option ℕ)). place_of_node nodes l inner) c.deref-in-Some.ensures.value in
    let next = placing_next (texts_in c.args.paths.now.parts) nodes texts has n popped c.settle.new.places inner s.2.0 s.0 back.1 back.2 s.2.2
    (subst (Settles popped c.settle.new.places inner) place c.settle.ensures) in
    (next.0, λ m at. next.2 m (s.1 m at), (inner, subst (λ (v : Vec ℕ). Climbs nodes n texts c.args.number v.items inner) (sym c.settle.ensures.climbed) back.0, next.1))

pub returns : goal.returns
returns c = λ n texts has p below.
    let s = c.loop-inner.invariant n texts has p below in
    let climbed = c.loop-inner.places.climbed in
    let same = climbs_none (texts_in c.args.paths.now.parts) c.args.paths.now.nodes.keys texts has n c.args.number s.2.0 climbed.items
    (omega (arith, climbed.ok.0, c.in_default.ensures.cases.0)) s.2.1 in
    (s.0, subst (IsSettled c.loop-inner.places) (sym same) s.2.2, s.1)
