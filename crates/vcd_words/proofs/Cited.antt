-- What the proofs of this crate cite of std, of specs/ and of the crates below, under one path.
pub use Prim.Native.String.{String}
pub use Rattle.clap.proofs.WalkLemmas.{first_value-rows, raw_values-rows}
pub use Rattle.clap.specs.Built.{AddsSubcommand}
pub use Rattle.clap.specs.Lexer.{usize_max}
pub use Rattle.clap.specs.Simple.{app_of_fields}
pub use Rattle.clap.specs.Words.{AddsArg, App, Row, Rule, Text, all_of, fault_of, first_of, found_of, new_app, new_rule, rows_of, rule_of, subcommand_of, subcommand_rows_of, takes, with_rule, with_subcommand}
pub use Rattle.clap.specs.declared.builder.action.ArgAction.{ArgAction}
pub use Rattle.clap.specs.declared.builder.arg.Arg.{Arg}
pub use Rattle.clap.specs.declared.builder.command.Command.{Command, out-Command}
pub use Rattle.clap.specs.declared.builder.range.ValueRange.{ValueRange}
pub use Rattle.clap.specs.declared.builder.texts.Texts.TheVariants.{One}
pub use Rattle.std.proofs.Common.{Bool, Err, List, None, Ok, Option, Result, Some, [], ap, ap₂, arith, codes, cond, drop, false, filter_map, get_or, is_ok, is_some, length, lit<, map, nat_le, nat_lt, not, option_map, refl, replicate, rules, set, string_bytes, subst, suc, sym, take, take-append-drop, true, vec_len, zero, ℕ, ◌&&◌, ◌++◌, ◌+◌, ◌<◌, ◌==◌, ◌||◌, ◌∙◌, ◌∷◌, ◌≡◌, ◌≢◌, ◌≤◌}
pub use Rattle.std.proofs.Math.Bool.{and-true, or-false}
pub use Rattle.std.proofs.Math.Dec.{eqb-suc-zero}
pub use Rattle.std.proofs.Math.Seq.{drop-cons}
pub use Rattle.std.proofs.lemmas.Bool.{and_from, and_parts, eq-eqb, eqb-true, leb-true}
pub use Rattle.std.proofs.lemmas.Iterator.{YieldsList-from_map, items_from_collect}
pub use Rattle.std.proofs.lemmas.Iterator.Consumers.{YieldsList-at, YieldsList-end, YieldsList-from_filter_map, YieldsList-so_far, YieldsList-turn}
pub use Rattle.std.proofs.lemmas.Iterator.Splits.{YieldsList-from_str_split}
pub use Rattle.std.proofs.lemmas.List.{length-map, map-append, with_items_is}
pub use Rattle.std.proofs.lemmas.List.Folds.{length-prefix_len}
pub use Rattle.std.proofs.lemmas.List.Sorted.{answers_always}
pub use Rattle.std.proofs.lemmas.List.Splits.{length-slice_split}
pub use Rattle.std.proofs.lemmas.Result.{IfOk-weaker}
pub use Rattle.std.specs.Bool.{then_some}
pub use Rattle.std.specs.Borrow.{Bor}
pub use Rattle.std.specs.Char.{is_ascii_digit}
pub use Rattle.std.specs.Global.{Vec}
pub use Rattle.std.specs.List.{IsAllAdjacentAnswer, cons_option, list_all, list_any, take_while}
pub use Rattle.std.specs.Option.{IsSomeAnd}
pub use Rattle.std.specs.Prelude.{IfOk, option_and_then, unwrap_or, ℤ, ◌^◌}
pub use Rattle.std.specs.Vec.{with_items}
pub use Rattle.vcd_head.specs.Moments.{asked, tick_fault_number, with_unit}
pub use Rattle.vcd_head.specs.declared.moment.TickFault.{TickFault}
pub use Rattle.vcd_head.specs.declared.moment.TickFault.TheVariants.{NoTimescale, OutOfRange}
pub use Rattle.vcd_model.proofs.JobLemmas.{rises_at}
pub use Rattle.vcd_model.specs.Bytes.{decimal_value, is_empty}
pub use Rattle.vcd_model.specs.Header.{Header}
pub use Rattle.vcd_model.specs.Job.{Want, cut_request, do_rise, first_refusal, has_unit, is_number, is_without_scale, moment_with, ok_of, sample_at, sample_request}
pub use Rattle.vcd_model.specs.Outcome.{Request}
pub use Rattle.vcd_model.specs.Ticks.{Moment, in_range, number_ticks, ticks}
pub use Rattle.vcd_view.specs.Views.{IsViewOf}
pub use Rattle.vcd_words.specs.Job.{model_want}
pub use Rattle.vcd_words.specs.Refusal.{model_refusal, tick_refusal}
pub use Rattle.vcd_words.specs.Ticks.{AreRefused, AreTicks, all_ticks, has_units, times_with}
pub use Rattle.vcd_words.specs.Times.{IsOrderOf, last_of, parts}
pub use Rattle.vcd_words.specs.Words.{IsFaultIn, IsFaultOf, IsLocal, IsWhole, bare_app, command_used, complete, cut_app, file_app, file_rule, files_rule, input_rule, limit_rule, merge_app, named_app, names_rule, one_input_app, program_app, sample_app, some_names, some_of, time_or_rule, time_rule, word_after, words_command}
pub use Rattle.vcd_words.specs.declared.job.UseFault.{UseFault}
pub use Rattle.vcd_words.specs.declared.job.UseFault.TheVariants.{BadLimit, BadTime, BadWords, FromAboveTo, InputTwice, NotRising, OutOfMemory, TooManyFiles, BadArgument}
pub use Rattle.vcd_words.specs.declared.moment_word.TimesOrder.{TimesOrder}
pub use Rattle.vcd_words.specs.declared.refusal.Refusal.{Refusal}
pub use Rattle.vcd_words.specs.declared.words.Words.{Words}
pub use borrow.Author.Tests.{tests}
