-- What the proofs of this crate cite of std, of specs/ and of the crates below, under one path.
pub use Rattle.clap.specs.Words.{Text, new_app, with_rule}
pub use Rattle.clap.specs.declared.parser.matches.ArgMatches.{ArgMatches}
pub use Rattle.std.proofs.Common.{Bool, Err, List, None, Ok, Option, Result, Some, [], ap, ap₂, arith, codes, cond, drop, false, get_or, length, lit<, map, not, refl, rules, suc, sym, take, true, ℕ, ◌++◌, ◌+◌, ◌-◌, ◌<◌, ◌==◌, ◌||◌, ◌≢◌, ◌≤◌, ◌∙◌, ◌∷◌, ◌≡◌}
pub use Rattle.std.proofs.Math.Seq.{get_or-drop}
pub use Rattle.std.proofs.lemmas.Bool.{eqb-true}
pub use Rattle.std.proofs.lemmas.List.{length-drop}
pub use Rattle.std.proofs.lemmas.List.Folds.{list_any_at}
pub use Rattle.std.proofs.lemmas.List.Sums.{suffix_len_is}
pub use Rattle.std.proofs.lemmas.Result.{IfOk-weaker}
pub use Rattle.std.proofs.lemmas.Str.{len_utf8_ascii}
pub use Rattle.std.proofs.lemmas.Str.Pattern.{NoCharPasses-char}
pub use Rattle.std.specs.Borrow.{Bor}
pub use Rattle.std.specs.List.{after_last, before_last, list_any, suffix_len}
pub use Rattle.std.specs.Str.Pattern.{RFindsChar}
pub use Rattle.std.specs.Prelude.{unwrap_or}
pub use Rattle.vcd_model.specs.Bytes.{decimal_value}
pub use Rattle.vcd_model.specs.Job.{is_number}
pub use Rattle.vcd_model.specs.Strobe.{ClockName as ModelClockName}
pub use Rattle.vcd_strobe.specs.Named.{model_name}
pub use Rattle.vcd_words.proofs.Facts.{with_about, with_after_help, with_arg, with_usage, with_version}
pub use Rattle.vcd_words.specs.Matches.{word_of, words_of}
pub use Rattle.vcd_words.specs.Words.{HasFault, IsOfWords, IsWhole, input_rule, limit_rule, names_rule, some_names, text_of, texts_of, use_text}
pub use Rattle.vcd_words.specs.declared.job.UseFault.{UseFault}
pub use Rattle.vcd_words.specs.declared.job.UseFault.TheVariants.{OutOfMemory}
pub use Rattle.vcd_strobe_words.specs.Asked.{Asks, all_of, clock_asked, clocks_asked, clocks_or_fault, limit_asked, place_asked, strobe_asked, strobe_with}
pub use Rattle.vcd_strobe_words.specs.Words.{bare_app, clock_rule}
pub use Rattle.vcd_strobe_words.specs.declared.strobing.Strobing.{Strobing}
