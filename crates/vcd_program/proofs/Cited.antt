-- What the proofs of this crate cite of std, of specs/ and of the crates below, under one path.
pub use Rattle.clap.specs.Words.{HasMatchesOf, IsAmong, Text, fault_of, is_simple_and_free, kind_of, takes}
pub use Rattle.clap.specs.declared.error.kind.ErrorKind.{ErrorKind}
pub use Rattle.clap.specs.declared.parser.matches.ArgMatches.{ArgMatches}
pub use Rattle.std.proofs.Common.{Bool, List, [], ap, append-nil, append_assoc, arith, codes, cond, drop, false, get_or, inl, inr, is_ok, length, map, not, option_map, refl, rules, string_bytes, subst, sym, true, zero, ℕ, ◌++◌, ◌+◌, ◌==◌, ◌∙◌, ◌∷◌, ◌≡◌, ◌≢◌, ◌<◌, ◌≤◌, ◌⊎◌}
pub use Rattle.std.proofs.Math.Seq.{drop-append_seam}
pub use Rattle.std.proofs.lemmas.List.{length-map}
pub use Rattle.std.proofs.lemmas.Result.{IfOk-weaker}
pub use Rattle.std.specs.Borrow.{Bor}
pub use Rattle.std.specs.Io.KnownBytes.{Keeps}
pub use Rattle.std.specs.Prelude.{All, Err, IfErr, IfOk, None, Ok, Option, Result, Some}
pub use Rattle.std.specs.declared.io.Error.{Error}
pub use Rattle.vcd_host.proofs.AskedLemmas.{asked-is, wants_merge}
pub use Rattle.vcd_host.proofs.OpensLemmas.{opens-many}
pub use Rattle.vcd_host.specs.Asked.{inputs_asked, inputs_for}
pub use Rattle.vcd_host.specs.Fills.{Fills}
pub use Rattle.vcd_host.specs.LentOutput.{held, written}
pub use Rattle.vcd_host.specs.Opens.{Opens, OpensSome, OpensUpTo, StopsAmong, called, text_of}
pub use Rattle.vcd_host.specs.declared.host.OpenFault.{OpenFault}
pub use Rattle.vcd_host.specs.declared.host.OpenFault.TheVariants.{Unopened}
pub use Rattle.vcd_host.specs.declared.lent_output.LentOutput.{LentOutput}
pub use Rattle.vcd_host.specs.declared.opened.OpenStop.{OpenStop}
pub use Rattle.vcd_model.specs.Header.{Header}
pub use Rattle.vcd_model.specs.Input.{Input}
pub use Rattle.vcd_model.specs.Job.{Want, outcome}
pub use Rattle.vcd_model.specs.Outcome.{Outcome, clean_outcome, shown_message}
pub use Rattle.vcd_model.specs.Tokens.{Token}
pub use Rattle.vcd_model.specs.Words.{Words}
pub use Rattle.vcd_program.specs.Leaves.{AreLeft, Fails, IsRefusal, Leaves, memory_outcome}
pub use Rattle.vcd_program.specs.Memory.{End, HaveTexts, IsAnswered, IsLeft, IsLeftAs, IsLeftBy, IsLeftIn, IsLeftOf, IsOutOfMemory, OpensIn, bytes_among, bytes_named, noted}
pub use Rattle.vcd_program.specs.Process.{IsHostOf, OpensInput, OpensOn, bytes_left}
pub use Rattle.vcd_program.specs.ProcessRun.{RunsAs, RunsOver}
pub use Rattle.vcd_program.specs.Runs.{Answers, Finishes, HasJob, IsAnswer, KeepsNoneBack, Runs, RunsOn}
pub use Rattle.vcd_program.specs.declared.memory.Memory.{Memory}
pub use Rattle.vcd_program.specs.declared.memory.MemoryFile.{MemoryFile}
pub use Rattle.vcd_program.specs.declared.process.Process.{Ghosts}
pub use Rattle.vcd_program.specs.declared.process.ProcessHost.{ProcessHost}
pub use Rattle.vcd_program.specs.declared.process.Stream.{Stream}
pub use Rattle.vcd_program.specs.declared.program.Program.{Ghosts as Programs}
pub use Rattle.vcd_text.proofs.Writes.{appends-none}
pub use Rattle.vcd_text.specs.Answer.{whole}
pub use Rattle.vcd_text.specs.Device.{Device, Puts, Supply, Writes, WritesSome, supply}
pub use Rattle.vcd_text.specs.Watch.{failed_calls, has_just_failed}
pub use Rattle.vcd_text.specs.declared.device.Bytes.{Bytes}
pub use Rattle.vcd_text.specs.declared.device.Watch.{Watch}
pub use Rattle.vcd_words.specs.Job.{is_merge, model_want, names_asked}
pub use Rattle.vcd_words.specs.Words.{AsksFor, IsFaultOf, job_asked, parse_status_of, words_used}
pub use Rattle.vcd_words.specs.declared.job.UseFault.{UseFault}
pub use Rattle.vcdkit.proofs.Statuses.{end-low}
pub use Rattle.vcdkit.specs.Calls.{AreReaders, AreWithin}
pub use Rattle.vcdkit.specs.Message.{Shows, Tells, unopened_outcome, use_outcome}
pub use Rattle.vcdkit.specs.Work.{program_name}
pub use Rattle.vcdkit.specs.Run.{AreRead, HasRun, IsOutcome, header_behind}
pub use Rattle.vcdkit.specs.Ends.IsOutcome.{Part, Whole}
