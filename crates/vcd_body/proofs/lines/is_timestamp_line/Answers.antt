use Rattle.vcd_body.proofs.Facts.{mark_line_there}
use Rattle.vcd_body.proofs.lines.is_timestamp_line.Goals as goal

pub returns : goal.returns
returns c = λ e from time m. mark_line_there c.args.bytes.now from c.args.at c.args.to time e m
