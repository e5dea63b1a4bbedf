-- What the program `vcdkit` cites, under one path.
pub use Rattle.vcd_words.specs.Words.{program_app}
pub use Rattle.vcdkit.specs.Message.{use_outcome}
pub use Rattle.vcdkit.specs.Work.{program_name}
pub use Rattle.vcd_host.specs.Asked.{inputs_asked}
pub use Rattle.vcd_program.specs.Vcdkit.{Asks, EndsSo, Reads, outcome_of}
