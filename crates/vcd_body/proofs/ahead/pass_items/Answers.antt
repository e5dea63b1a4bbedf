use Rattle.vcd_body.proofs.Cited.{◌≢◌, ℕ, ◌++◌, List, [], length, Token, end_of_tokens, HasReadTo, limit_of, ahead_of, lines_of, Passed, looked, near-more, pass_far}
use Rattle.vcd_body.proofs.Facts.{gave_passed, gave_last}
use Rattle.vcd_body.proofs.ahead.pass_items.Goals as goal

pub returns-clause-gives : goal.returns-clause-gives
returns-clause-gives g c = λ codes i front before items first last h a k.
    let f = c.args.feed.now in
    gave_passed codes (limit_of f) (lines_of f) (ahead_of f) before items i front _ f c.pass.new.self first last h a (c.pass.ensures.stands a.tokens a.passed i (front ++ h.given) h.stands) k

pub returns-clause-ends : goal.returns-clause-ends
returns-clause-ends g c = λ codes i front before items x first last h a k.
    let f = c.args.feed.now in
    let new = c.pass.new.self in
    let rest = g.S.Source.rest f.source.now in
    let given = front ++ h.given in
    let near : (end : ℕ) (ts : List Token) → ts ≢ [] → Passed (limit_of f) (lines_of f) (ahead_of f) end ts → HasReadTo i (given ++ ts) new = λ end ts some passed.
    let far = pass_far f.parked.phase (length f.token.now) rest f.chunk.now f.parked i given ts end f.fits some passed h.stands.at in
    rw (c.pass.ensures.advances.chunk, c.pass.ensures.source) (near-more (length f.chunk.now) rest (looked f.parked) (end_of_tokens i.bytes (length (given ++ ts))) i far h.stands.read_ahead) in
    gave_last codes (limit_of f) (lines_of f) (ahead_of f) before items x i front _ f new first last h a (c.pass.ensures.stands a.tokens a.passed i given h.stands) near k
