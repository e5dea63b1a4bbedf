use Rattle.vcd_strobe_words.proofs.Cited.{rules}
use Rattle.vcd_strobe_words.proofs.JobLemmas.{bad-limit, no-memory}
use Rattle.vcd_strobe_words.proofs.job.job_of.Goals as goal

pub returns-in_err-limit : goal.returns-in_err-limit
returns-in_err-limit c =
    bad-limit c.args.matches.now c.words_of-rises.result c.words_of-falls.result c.word_of.result _ c.in_err-limit.field-0.0 c.from_residual-in_err-limit.result
    c.words_of-rises.ensures c.words_of-falls.ensures c.word_of.ensures c.in_ok-check_clocks.ensures.clocks c.in_err-limit.ensures.fault (search rules)

pub returns-in_err-add_clocks : goal.returns-in_err-add_clocks
returns-in_err-add_clocks c =
    no-memory c.args.matches.now c.words_of-rises.result c.words_of-falls.result c.word_of.result _ _ c.from_residual-in_err-add_clocks.result
    c.words_of-rises.ensures c.words_of-falls.ensures c.word_of.ensures c.in_ok-check_clocks.ensures.clocks c.in_ok-limit.ensures.limit (search rules)

pub returns-in_err-add_clocks-2 : goal.returns-in_err-add_clocks-2
returns-in_err-add_clocks-2 c =
    no-memory c.args.matches.now c.words_of-rises.result c.words_of-falls.result c.word_of.result _ _ c.from_residual-in_err-add_clocks-2.result
    c.words_of-rises.ensures c.words_of-falls.ensures c.word_of.ensures c.in_ok-check_clocks.ensures.clocks c.in_ok-limit.ensures.limit (search rules)

pub returns-in_err-names : goal.returns-in_err-names
returns-in_err-names c =
    no-memory c.args.matches.now c.words_of-rises.result c.words_of-falls.result c.word_of.result _ _ c.from_residual-in_err-names.result
    c.words_of-rises.ensures c.words_of-falls.ensures c.word_of.ensures c.in_ok-check_clocks.ensures.clocks c.in_ok-limit.ensures.limit (search rules)
