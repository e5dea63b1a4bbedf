use Rattle.vcd_body.proofs.Cited.{lines_of}
use Rattle.vcd_body.proofs.phrases.pass_words.Goals as goal

pub pass-requires : goal.pass-requires
pass-requires g c = let words = c.words_len-len.ensures (lines_of c.args.feed.now) in (words.0, rw (c.ahead.ensures.limit, c.ahead.ensures.bytes) at words.2)

pub returns-clause-passes : goal.returns-clause-passes
returns-clause-passes g c =
    let words = c.words_len-len.ensures (lines_of c.args.feed.now) in
    (words.0, words.1, λ i given h. c.pass.ensures.stands words.0 (rw (c.ahead.ensures.limit, c.ahead.ensures.bytes) at words.2) i given h)
