-- What the contracts of this crate cite, under one path.
pub use Rattle.vcd_changes.specs.Reading.{FindsIn, GoesOnAt, StaysAt}
pub use Rattle.vcd_model.specs.Items.{BodyItem}
pub use Rattle.vcd_program.specs.Memory.{Fills, IsLeftIn}
pub use Rattle.vcdkit_c.specs.Calls.{HasNoText, RunsInto, bad_words, bytes_of}
pub use Rattle.vcdkit_c.specs.declared.words.Refused.{Refused}
