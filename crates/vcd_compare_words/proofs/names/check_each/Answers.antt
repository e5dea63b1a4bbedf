use Rattle.vcd_compare_words.proofs.Cited.{◌≡◌, ◌+◌, Err, arith, rules}
use Rattle.vcd_compare_words.proofs.NamesLemmas.{names-end, names-next}
use Rattle.vcd_compare_words.proofs.names.check_each.Goals as goal

pub returns-in_err-check_name-clause-fault : goal.returns-in_err-check_name-clause-fault
returns-in_err-check_name-clause-fault c =
    let same : c.from_residual.result ≡ Err c.in_err-check_name.field-0.0 = search rules in
    let names = c.loop-word.invariant in
    rw same (names-end c.args.words.now c.loop-word.word-index _ (omega (arith, c.loop-word-test.true)) names.0 c.in_err-check_name.field-0.0 names.1 c.in_err-check_name.ensures.fault)

pub loop-word-preserved : goal.loop-word-preserved
loop-word-preserved c =
    let names = c.loop-word.invariant in
    let found = c.in_ok-check_name.ensures.names in
    (_, names-next c.args.words.now c.loop-word.word-index _ (omega (arith, c.loop-word-test.true)) (c.loop-word.word-index + 1) names.0 found.0 (omega arith) names.1 found.1)
