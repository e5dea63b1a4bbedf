use Rattle.vcd_words.proofs.Cited.{◌∙◌, found_of, rows_of, subcommand_rows_of, first_value-rows}
use Rattle.vcd_words.proofs.Facts.{first-after}
use Rattle.vcd_words.proofs.words.value_of.Goals as goal

pub returns : goal.returns
returns c =
    c.get_str.ensures ∙ first_value-rows (found_of c.in_ok-options.options.now) c.args.id.now
    ∙ first-after (subcommand_rows_of c.args.matches.now) (rows_of (found_of c.in_ok-options.options.now)) c.args.id.now c.in_ok-options.ensures.rows
