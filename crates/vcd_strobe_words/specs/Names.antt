-- What the contracts of this crate cite, under one path.
pub use Rattle.vcd_words.specs.Words.{HasFault, IsLocal, IsWhole, input_rule, limit_rule, names_rule, some_names, text_of}
pub use Rattle.vcd_model.specs.Bytes.{decimal_value}
pub use Rattle.vcd_model.specs.Words.{is_limit}
pub use Rattle.vcd_strobe.specs.Named.{model_name}
pub use Rattle.vcd_strobe_words.specs.Words.{clock_rule, strobe_app}
pub use Rattle.vcd_strobe_words.specs.Asked.{Asks, clock_asked, clocks_asked, clocks_or_fault, limit_asked, place_asked}
