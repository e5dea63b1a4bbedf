-- What the contracts of this crate cite, under one path.
pub use Rattle.clap.specs.Words.{App}
pub use Rattle.vcd_model.specs.Within.{Names}
pub use Rattle.vcd_words.specs.Matches.{word_of, words_of}
pub use Rattle.vcd_words.specs.Words.{HasFault, IsLocal, IsWhole, flag_rule, input_rule, names_rule, texts, texts_of, time_or_rule}
pub use Rattle.vcd_compare.specs.Asked.{model_asked, model_extent}
pub use Rattle.vcd_compare.specs.Pairs.{names_in}
pub use Rattle.vcd_compare_words.specs.Words.{compare_app, except_rule, lines_app, names_app, values_app}
pub use Rattle.vcd_compare_words.specs.Asked.{Asks, asked_by, extent_of, names_asked, names_of, some_names_asked, texts_in, ticks_asked, two_names}
