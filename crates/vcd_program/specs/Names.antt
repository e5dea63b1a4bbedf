-- What the contracts of this crate cite, under one path.
pub use Rattle.vcd_text.specs.Watch.{failed_calls}
pub use Rattle.vcdkit.specs.Calls.{MayFailOnce}
pub use Rattle.vcd_host.specs.Opens.{text_of}
pub use Rattle.vcd_host.specs.LentOutput.{written}
pub use Rattle.vcd_program.specs.Memory.{bytes_in, bytes_named, end_of, IsLeftAs, IsLeftBy, IsLeftIn, noted, OpensIn}
pub use Rattle.vcd_program.specs.Runs.{Answers, Finishes, KeepsNoneBack, RunsMatches, RunsOn, RunsWords}
pub use Rattle.clap.specs.Words.{kind_of}
