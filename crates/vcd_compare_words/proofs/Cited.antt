-- What the proofs of this crate cite of std, of specs/ and of the crates below, under one path.
pub use Rattle.clap.specs.Lexer.{usize_max}
pub use Rattle.clap.specs.Words.{App, Text, new_app, new_rule, with_rule}
pub use Rattle.clap.specs.declared.builder.range.ValueRange.{ValueRange}
pub use Rattle.clap.specs.declared.parser.matches.ArgMatches.{ArgMatches}
pub use Rattle.std.proofs.Common.{Bool, Err, List, None, Ok, Option, Result, Some, [], ap, append-nil, ap₂, arith, bytes_eq, codes, cond, drop, false, filter_map, get_or, length, map, not, option_map, refl, rules, subst, suc, sym, take, take-append-drop, true, ℕ, ◌++◌, ◌+◌, ◌<◌, ◌==◌, ◌||◌, ◌∙◌, ◌∷◌, ◌≡◌}
pub use Rattle.std.proofs.Math.Seq.{drop-cons, take-suc, take_all}
pub use Rattle.std.proofs.lemmas.List.{map-append}
pub use Rattle.std.proofs.lemmas.List.Elements.{filter_map-append}
pub use Rattle.std.proofs.lemmas.Result.{IfOk-weaker}
pub use Rattle.std.specs.Borrow.{Bor}
pub use Rattle.std.specs.Prelude.{IfErr, IfOk, nat_lt, unwrap_or}
pub use Rattle.vcd_model.specs.Bytes.{is_empty}
pub use Rattle.vcd_model.specs.Compare.{Asked, Extent}
pub use Rattle.vcd_model.specs.Within.{Names}
pub use Rattle.vcd_words.proofs.Facts.{some-is, with_about, with_after_help, with_arg, with_help, with_range, with_required, with_usage, with_value_name, with_version}
pub use Rattle.vcd_words.specs.Matches.{words_of}
pub use Rattle.vcd_words.specs.Words.{HasFault, IsLocal, IsWhole, flag_rule, input_rule, names_rule, texts, texts_of, time_or_rule, use_text}
pub use Rattle.vcd_words.specs.declared.job.UseFault.{UseFault}
pub use Rattle.vcd_words.specs.declared.job.UseFault.TheVariants.{BadArgument, BadLimit, BadTime, BadWords, FromAboveTo, InputTwice, NotRising, OutOfMemory, TooManyFiles}
pub use Rattle.vcd_compare.specs.Asked.{model_asked}
pub use Rattle.vcd_compare.specs.Pairs.{names_in}
pub use Rattle.vcd_compare.specs.declared.pairs.NamePair.{NamePair}
pub use Rattle.vcd_compare_words.specs.Asked.{Asks, asked_by, asked_in, comparing_asked, comparing_with, names_asked, names_of, some_names_asked, two_names, two_or_fault, with_names}
pub use Rattle.vcd_compare_words.specs.Words.{bare_app, except_rule, values_app}
pub use Rattle.vcd_compare_words.specs.declared.job.Comparing.{Comparing}
