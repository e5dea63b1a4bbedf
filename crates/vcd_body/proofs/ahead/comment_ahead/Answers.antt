use Rattle.vcd_body.proofs.Cited.{◌∙◌, sym}
use Rattle.vcd_body.proofs.Facts.{comment_passes, word_passes}
use Rattle.vcd_body.proofs.ahead.comment_ahead.Goals as goal

pub returns-then-is_end-clause-passes : goal.returns-then-is_end-clause-passes
returns-then-is_end-clause-passes c = comment_passes c.args.ahead c.words.next c.next-in-words.new.self c.in_ok-word.word.now c.words.invariant c.in_ok-word.ensures.takes
    (sym c.is_end.ensures ∙ c.if-is_end.true)

pub words-preserved : goal.words-preserved
words-preserved c = word_passes c.args.ahead c.words.next c.next-in-words.new.self c.in_ok-word.word.now c.words.invariant c.in_ok-word.ensures.takes (sym c.is_end.ensures ∙ c.if-is_end.false)
