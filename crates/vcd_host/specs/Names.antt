-- What the contracts of this crate cite, under one path.
pub use Rattle.std.specs.Io.KnownBytes.{Keeps}
pub use Rattle.vcd_words.specs.Words.{input_asked}
pub use Rattle.vcd_host.specs.Asked.{input_named, inputs_for}
pub use Rattle.vcd_host.specs.Opens.{AddsOne, called, Opens, OpensOne, StopsAmong, StopsAt, text_of}
pub use Rattle.vcd_host.specs.declared.host.OpenFault.{OpenFault}
pub use Rattle.vcd_host.specs.declared.opened.OpenStop.{OpenStop}
