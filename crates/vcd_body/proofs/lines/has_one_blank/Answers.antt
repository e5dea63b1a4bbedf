use Rattle.vcd_body.proofs.Facts.{text_there, both_line_there}
use Rattle.vcd_body.proofs.lines.has_one_blank.Goals as goal

pub returns-clause-position : goal.returns-clause-position
returns-clause-position c = λ e. text_there c.args.bytes.now c.args.from c.args.to c.args.first c.args.code_at c.args.text.now e c.requires.spelled.0 c.requires.spelled.1 c.requires.letter

pub returns-clause-line : goal.returns-clause-line
returns-clause-line c = both_line_there c.args.bytes.now c.args.from c.args.to c.args.first c.args.code_at c.args.text.now
