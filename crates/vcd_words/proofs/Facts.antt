-- The lemmas of this crate that its answers cite, under one path.
pub use Rattle.vcd_words.proofs.CommandLemmas.{with_action, with_about, with_after_help, with_arg, with_default, with_help, with_hidden_default, with_long, with_range, with_required, with_short, with_subcommand_required, with_usage, with_value_name, with_version, without_help}
pub use Rattle.vcd_words.proofs.SampleLemmas.{all_written, asked_of, falling_request, long_units, no_units_left, one_more, plain_request, refused, refused_request, rise_is, rising_request, so_far}
pub use Rattle.vcd_words.proofs.TimesLemmas.{good_rises, is_above, kept, moment_is, no_moment, order_push, put_together, read_of_kept, same_moment, sample_falls, sample_good, some_times, times_kept, times_of-push, word_fails}
pub use Rattle.vcd_words.proofs.WordsLemmas.{all-after, first-after, job-is, limit-fault, no-job, no-names, some-is, some-names, want-fault}
