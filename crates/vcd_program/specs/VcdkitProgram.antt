-- What vcdkit says of itself, as a whole, for contracts over it.
use Rattle.vcd_words.specs.Words.{program_app}
use Rattle.vcd_words.specs.declared.job.Job.{Job}
use Rattle.vcdkit.specs.Message.{use_outcome}
use Rattle.vcdkit.specs.Work.{program_name}
use Rattle.vcd_host.specs.Asked.{inputs_asked}
use Rattle.vcd_program.specs.Vcdkit.{Asks, EndsSo, Reads, outcome_of}
use Rattle.vcd_program.specs.declared.program.Program.{Ghosts}
use Rattle.vcd_program.specs.declared.vcdkit_program.Vcdkit.{Vcdkit}

abbrev pub vcdkit_program : Ghosts Vcdkit Job
vcdkit_program = record {
  name = program_name;
  app = program_app;
  asks = Asks;
  inputs = inputs_asked;
  outcome = outcome_of;
  refusal = use_outcome;
  ends = EndsSo;
  reads = Reads;
}
