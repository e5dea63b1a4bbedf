use Rattle.vcd_view.proofs.Cited.{subst, IfSome, IsAt}
use Rattle.vcd_view.proofs.Facts.{at_finds, at_within, distinct}
use Rattle.vcd_view.proofs.look_up.find_slowly.Goals as goal

found : (c : goal.In-Some) → IsAt c.args.text.now c.args.codes.now c.args.code.now c.in-Some.position
found c = subst (λ o. IfSome o (λ position. IsAt c.args.text.now c.args.codes.now c.args.code.now position)) c.in-Some.is c.index_by_hash.ensures

pub returns-in-Some-clause-found : goal.returns-in-Some-clause-found
returns-in-Some-clause-found c = λ ks stand texts index.
    at_finds c.args.text.now c.args.codes.now ks c.args.code.now c.in-Some.position (record { stand = stand; distinct = distinct ks c.args.index.now index; texts = texts }) (found c)

pub returns-in-Some-clause-within : goal.returns-in-Some-clause-within
returns-in-Some-clause-within c = at_within c.args.text.now c.args.codes.now c.args.code.now c.in-Some.position (found c)
