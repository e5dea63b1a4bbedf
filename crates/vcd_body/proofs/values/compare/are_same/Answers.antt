use Rattle.vcd_body.proofs.Cited.{◌≡◌, true, false}
use Rattle.vcd_body.proofs.values.compare.are_same.Goals as goal

pub returns-then-places_differ : goal.returns-then-places_differ
returns-then-places_differ c = (
  λ f. absurd (let g : false ≡ true = f in cc),
  λ same. absurd (c.places_differ.ensures c.if-places_differ.true c.args.size same),
)
