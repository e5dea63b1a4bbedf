-- What the proofs of this crate cite of std, of specs/ and of the crates below, under one path.
pub use Rattle.clap.specs.Words.{Text, subcommand_name_of}
pub use Rattle.clap.specs.declared.parser.matches.ArgMatches.{ArgMatches}
pub use Rattle.std.proofs.Common.{Bool, List, [], ap, append-nil, arith, cond, drop, false, get_or, inl, inr, length, length-drop, lit<, lit≤, map, not, refl, rules, string_bytes, subst, suc, sym, take, take_all, true, zero, ℕ, ◌&&◌, ◌++◌, ◌+◌, ◌-◌, ◌<◌, ◌==◌, ◌^◌, ◌∙◌, ◌∷◌, ◌≡◌, ◌≤◌}
pub use Rattle.std.proofs.Math.Seq.{paste, take-append-add, take-append_seam, take-suc-set}
pub use Rattle.std.proofs.lemmas.Bool.{ltb-false}
pub use Rattle.std.proofs.lemmas.List.{append_assoc, drop-take, drop_all, drop_more, length-map, length-set, length-take-le, map-append, take-append-drop, take-take, take_more, take_rest}
pub use Rattle.std.proofs.lemmas.List.Edits.{take-paste}
pub use Rattle.std.proofs.lemmas.List.Elements.{All-push}
pub use Rattle.std.proofs.lemmas.Nat.{le_bytes_8}
pub use Rattle.std.proofs.lemmas.Simd.{take_more_put_chunk}
pub use Rattle.std.proofs.lemmas.Slice.{take-put_mid}
pub use Rattle.std.specs.Borrow.{Bor}
pub use Rattle.std.specs.Io.KnownBytes.{Appends, Consumes, ReadConsumes, prepend_known}
pub use Rattle.std.specs.List.{slice_split}
pub use Rattle.std.specs.Prelude.{All, Err, IfSome, None, Ok, Option, Result, Some, codes, count_by, nat_lt, option_and_then, option_map, slice_set, unwrap_or}
pub use Rattle.std.specs.Str.{byte, bytes_eq}
pub use Rattle.vcd_host.specs.Asked.{input_named, inputs_asked, inputs_for, inputs_of}
pub use Rattle.vcd_host.specs.Opens.{Opens, OpensOne, StopsAmong, StopsAt, called, text_of}
pub use Rattle.vcd_host.specs.declared.host.OpenFault.{OpenFault}
pub use Rattle.vcd_host.specs.declared.opened.OpenStop.{OpenStop}
pub use Rattle.vcd_model.specs.Bytes.{is_empty}
pub use Rattle.vcd_model.specs.Job.{Want, do_rise, has_unit}
pub use Rattle.vcd_model.specs.Ticks.{Moment}
pub use Rattle.vcd_model.specs.Words.{Command, Job, UseFault, Words, cut_of, has_words, is_standard_input, job_with, limit_of, sample_of, time_of, times_of, want_of}
pub use Rattle.vcd_text.proofs.Writes.{appends-more}
pub use Rattle.vcd_words.specs.Words.{command_named, command_used, cut_between, files_asked, input_asked, job_asked, some_of, values_after, word_after}
