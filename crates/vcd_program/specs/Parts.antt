-- What the traits of programs cite, under one path.
pub use Rattle.clap.specs.Words.{App, Text, is_simple_and_free}
pub use Rattle.clap.specs.declared.parser.matches.ArgMatches.{ArgMatches}
pub use Rattle.vcd_model.specs.Input.{Input}
pub use Rattle.vcd_model.specs.Outcome.{Outcome, shown_message}
pub use Rattle.vcd_text.specs.Device.{Device, Supply}
pub use Rattle.vcd_words.specs.Matches.{file_asked}
pub use Rattle.vcd_words.specs.Words.{IsWhole}
pub use Rattle.vcd_words.specs.declared.job.UseFault.{UseFault}
pub use Rattle.vcd_job.specs.OneProgram.{EndsAlone, Reads}
pub use Rattle.vcd_job.specs.OneRun.{speech_of}
pub use Rattle.vcdkit.specs.Calls.{AreWithin, MayFailOnce}
pub use Rattle.vcdkit.specs.Failure.{PassesOn}
pub use Rattle.vcdkit.specs.Message.{Reports, use_outcome}
pub use Rattle.vcd_host.specs.Asked.{input_named}
pub use Rattle.vcd_host.specs.Opens.{text_of}
pub use Rattle.vcd_program.specs.Leaves.{IsAsked, IsRefusal, LeavesOf, memory_outcome}
pub use Rattle.vcd_program.specs.OneInput.{HasLaw, only_input}
