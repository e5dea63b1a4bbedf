-- What vcdkit-compare says of itself, as a whole, for contracts over it.
use Rattle.std.specs.Prelude.{◌≤◌}
use Rattle.vcd_compare_words.specs.Asked.{Asks}
use Rattle.vcd_compare_words.specs.Words.{compare_app}
use Rattle.vcd_compare_words.specs.declared.job.Comparing.{Comparing}
use Rattle.vcd_job.specs.Message.{use_outcome}
use Rattle.vcd_job.specs.OneProgram.{EndsAlone, Reads}
use Rattle.vcd_program.specs.OneInput.{only_input}
use Rattle.vcd_program.specs.declared.program.Program.{Ghosts}
use Rattle.vcdkit_compare.specs.Calls.{speech_in}
use Rattle.vcdkit_compare.specs.Program.{outcome_of}
use Rattle.vcdkit_compare.specs.Work.{program_name, work_in}
use Rattle.vcdkit_compare.specs.declared.program.VcdkitCompare.{VcdkitCompare}

abbrev pub compare_program : Ghosts VcdkitCompare Comparing
compare_program = record {
  name = program_name;
  app = compare_app;
  asks = Asks;
  inputs = only_input;
  outcome = outcome_of;
  refusal = use_outcome;
  ends = λ job. EndsAlone program_name (λ n. n ≤ 1) (speech_in job);
  reads = λ job ended texts. Reads (work_in job) 1048576 65536 ended;
}
