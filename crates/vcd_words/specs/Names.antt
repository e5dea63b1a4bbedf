-- What the contracts of this crate cite, under one path.
pub use Rattle.std.specs.Char.{is_ascii_digit}
pub use Rattle.std.specs.List.{take_while}
pub use Rattle.vcd_model.specs.Bytes.{decimal_value}
pub use Rattle.vcd_model.specs.Header.{Header}
pub use Rattle.vcd_model.specs.Job.{do_rise, is_number, moment_of, request_of, Want}
pub use Rattle.vcd_model.specs.Ticks.{Moment as ModelMoment}
pub use Rattle.vcd_model.specs.Words.{is_limit, is_standard_input, limit_of, sample_of, time_of, times_of, want_of}
pub use Rattle.vcd_view.specs.Views.{IsViewOf}
pub use Rattle.vcd_head.specs.Moments.{asked}
pub use Rattle.vcd_words.specs.Matches.{file_asked, is_set, word_of, words_of}
pub use Rattle.vcd_words.specs.Job.{HasTicks, is_asked, is_merge, model_want, names_asked}
pub use Rattle.vcd_words.specs.Refusal.{model_refusal, tick_refusal}
pub use Rattle.vcd_words.specs.Ticks.{all_ticks, AreRefused, AreTicks, has_units, KeepsRequest, times_with}
pub use Rattle.vcd_words.specs.Times.{cut_in, IsOrderOf, parts}
pub use Rattle.vcd_words.specs.Words.{file_app, AsksFor, command_named, command_used, complete, cut_app, files_asked, GivesWant, input_asked, IsFaultIn, IsFaultOf, IsLocal, IsWhole, job_asked, limit_rule, merge_app, merge_command, named_app, one_input_app, parse_status_of, program_app, sample_app, some_names, some_of, text_of, texts_of, time_rule, values_after, word_after, words_command}
pub use Rattle.vcd_words.specs.declared.job.UseFault.{UseFault}
pub use Rattle.clap.specs.Words.{App, kind_of, new_app, with_subcommand}
