use Rattle.vcd_body.proofs.Cited.{◌≡◌, Some, rules, keyword_of, model_keyword}
use Rattle.vcd_body.proofs.Facts.{stands_for}
use Rattle.vcd_body.proofs.words.keyword_use_of.Goals as goal

pub returns : goal.returns
returns c =
    let k = c.in_ok-of.field-0 in
    let known : keyword_of c.args.token.now ≡ Some (model_keyword k) = search rules in
    rw c.use_of.ensures (stands_for c.args.token.now k known)
