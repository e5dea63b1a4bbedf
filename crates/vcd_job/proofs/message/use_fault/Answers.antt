use Rattle.vcd_model.specs.Outcome.{fault_text}
use Rattle.vcd_job.proofs.message.use_fault.Goals as goal

pub returns-in-BadWords : goal.returns-in-BadWords
returns-in-BadWords g c = rw c.in-BadWords.is c.say.ensures

pub returns-in-BadLimit : goal.returns-in-BadLimit
returns-in-BadLimit g c = rw c.in-BadLimit.is c.say_both.ensures

pub returns-in-BadTime : goal.returns-in-BadTime
returns-in-BadTime g c = rw c.in-BadTime.is c.say_both-in-BadTime.ensures

pub returns-in-FromAboveTo : goal.returns-in-FromAboveTo
returns-in-FromAboveTo g c = rw c.in-FromAboveTo.is c.say-in-FromAboveTo.ensures

pub returns-in-NotRising : goal.returns-in-NotRising
returns-in-NotRising g c = rw c.in-NotRising.is c.say-in-NotRising.ensures

pub returns-in-TooManyFiles : goal.returns-in-TooManyFiles
returns-in-TooManyFiles g c = rw c.in-TooManyFiles.is c.say-in-TooManyFiles.ensures

pub returns-in-InputTwice : goal.returns-in-InputTwice
returns-in-InputTwice g c = rw c.in-InputTwice.is c.say-in-InputTwice.ensures

pub returns-in-OutOfMemory : goal.returns-in-OutOfMemory
unfolding fault_text
returns-in-OutOfMemory g c = rw c.in-OutOfMemory.is c.report.ensures
