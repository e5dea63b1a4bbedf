-- The lemmas of this crate that its answers cite, under one path.
pub use Rattle.vcd_program.proofs.HostLemmas.{run-hosted}
pub use Rattle.vcd_program.proofs.LentLemmas.{left-in-lent, left-in-outputs}
pub use Rattle.vcd_program.proofs.MemoryLemmas.{is-holding, left-in-memory}
pub use Rattle.vcd_program.proofs.OneLemmas.{leaves-alone, refusals-by}
pub use Rattle.vcd_program.proofs.RunsLemmas.{answer-failed, answer-shown, answer-written, apart, finished, kind-low, memory-fails, memory-stopped, names-many, no-memory, put-shows, puts-some, ran, refused, shown_once, status-zero, stopped, writes-none}
pub use Rattle.vcd_program.proofs.VcdkitLemmas.{are-readers, asks-are, ends-by, inputs-are, is-alone, leaves-by, refusal-low, refusal-memory, refusal-quiet, refusals-are}
