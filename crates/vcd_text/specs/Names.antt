-- What the contracts of this crate cite below the feed, under one path. None of it names the type
-- `Feed`, so the file of that type may import it. What is said of a feed is in `Calls`.
pub use Rattle.std.specs.Char.{is_ascii_digit}
pub use Rattle.std.specs.Int.{bit_at}
pub use Rattle.std.specs.List.{list_all}
pub use Rattle.std.specs.Simd.Lanes.{chunk}
pub use Rattle.vcd_model.specs.Bytes.{decimal_value, is_decimal, is_white_space}
pub use Rattle.vcd_model.specs.Tokens.{Token}
pub use Rattle.vcd_text.specs.Digits.{spelled, spelled_below}
pub use Rattle.vcd_text.specs.Masks.{BitsAreWhite, TellsWhite}
pub use Rattle.vcd_text.specs.Passed.{AreWhite, IsRun}
pub use Rattle.vcd_text.specs.Registers.{Fits, IsOffset, KeepsFit, answer_number, looked, offset_of, phase_at, registers_at}
pub use Rattle.vcd_text.specs.Turn.{GoesOnIn, MayGoOn, StillFits, TurnSays, Turns, TurnsAhead}
pub use Rattle.vcd_text.specs.Window.{Collects, Fills, Finishes, Halts, Skips, TakesShort, gone_on, is_white_at, line_feeds_in, stepped_past}
