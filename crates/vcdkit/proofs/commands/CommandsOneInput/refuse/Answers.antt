use Rattle.vcdkit.proofs.Cited.{append_assoc, codes}
use Rattle.vcd_job.proofs.MessageLemmas.{some-line}
use Rattle.vcd_model.specs.Outcome.{fault_text}
use Rattle.vcdkit.proofs.commands.CommandsOneInput.refuse.Goals as goal

pub returns-in-NoTimescale-clause-line : goal.returns-in-NoTimescale-clause-line
unfolding fault_text
returns-in-NoTimescale-clause-line g c =
    rw (c.in-NoTimescale.is, append_assoc c.args.name.now (codes ": ") (fault_text 12), some-line (codes "vcdkit") c.args.name.now (codes " no timescale") 58) c.say_both.ensures

pub returns-in-OutOfRange-clause-line : goal.returns-in-OutOfRange-clause-line
unfolding fault_text
returns-in-OutOfRange-clause-line g c = rw c.in-OutOfRange.is c.say.ensures

pub returns-in-FromAboveTo-clause-line : goal.returns-in-FromAboveTo-clause-line
returns-in-FromAboveTo-clause-line g c = rw c.in-FromAboveTo.is c.say-in-FromAboveTo.ensures

pub returns-in-NotRising-clause-line : goal.returns-in-NotRising-clause-line
returns-in-NotRising-clause-line g c = rw c.in-NotRising.is c.say-in-NotRising.ensures
