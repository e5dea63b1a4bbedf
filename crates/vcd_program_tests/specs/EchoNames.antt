-- What the program `echo` cites, under one path.
pub use Rattle.vcd_model.specs.Bytes.{as_line}
pub use Rattle.vcd_text.specs.Device.{PutsTo}
pub use Rattle.vcdkit.specs.Message.{use_outcome}
pub use Rattle.vcd_program_tests.specs.Echo.{Asks, Ends, echo_app, echo_name, outcome_of, word_of}
