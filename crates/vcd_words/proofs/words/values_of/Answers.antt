use Rattle.vcd_words.proofs.Cited.{◌∙◌, ap, map, not, option_map, sym, then_some, found_of, rows_of, subcommand_rows_of, raw_values-rows}
use Rattle.vcd_words.proofs.Facts.{all-after, no-names, some-names}
use Rattle.vcd_words.proofs.words.values_of.Goals as goal

pub returns-in_err-words : goal.returns-in_err-words
returns-in_err-words c =
    let given = c.get_strs.ensures ∙ raw_values-rows (found_of c.in_ok-options.options.now) c.args.id.now
    ∙ all-after (subcommand_rows_of c.args.matches.now) (rows_of (found_of c.in_ok-options.options.now)) c.args.id.now c.in_ok-options.ensures.rows in
    no-names _ c.from_residual-in_err-words.result c.from_residual-in_err-words.ensures (ap (option_map (λ names. map (λ name. name.now) names.now)) (sym c.in_err-words.was) ∙ given)

pub returns : goal.returns
returns c =
    let given = c.get_strs.ensures ∙ raw_values-rows (found_of c.in_ok-options.options.now) c.args.id.now
    ∙ all-after (subcommand_rows_of c.args.matches.now) (rows_of (found_of c.in_ok-options.options.now)) c.args.id.now c.in_ok-options.ensures.rows in
    some-names _ c.in_ok-words.words c.then_some.result (ap (option_map (λ names. map (λ name. name.now) names.now)) (sym c.in_ok-words.was) ∙ given)
    (c.then_some.ensures ∙ ap (λ b. then_some (not b) c.in_ok-words.words) c.is_empty.ensures)
