-- What vcdkit-strobe says of itself, as a whole, for contracts over it.
use Rattle.std.specs.Prelude.{◌≡◌}
use Rattle.vcd_strobe_words.specs.Asked.{Asks}
use Rattle.vcd_strobe_words.specs.Words.{strobe_app}
use Rattle.vcd_strobe_words.specs.declared.strobing.Strobing.{Strobing}
use Rattle.vcd_job.specs.Message.{use_outcome}
use Rattle.vcd_job.specs.OneProgram.{EndsAlone, Reads}
use Rattle.vcd_program.specs.OneInput.{only_input}
use Rattle.vcd_program.specs.declared.program.Program.{Ghosts}
use Rattle.vcdkit_strobe.specs.Calls.{speech_in}
use Rattle.vcdkit_strobe.specs.Program.{outcome_of}
use Rattle.vcdkit_strobe.specs.Work.{program_name, work_in}
use Rattle.vcdkit_strobe.specs.declared.program.VcdkitStrobe.{VcdkitStrobe}

abbrev pub strobe_program : Ghosts VcdkitStrobe Strobing
strobe_program = record {
  name = program_name;
  app = strobe_app;
  asks = Asks;
  inputs = only_input;
  outcome = outcome_of;
  refusal = use_outcome;
  ends = λ job. EndsAlone program_name (λ n. n ≡ 0) (speech_in job);
  reads = λ job ended texts. Reads (work_in job) job.limit 65536 ended;
}
