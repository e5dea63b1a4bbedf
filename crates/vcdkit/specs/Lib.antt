pub mod Cited
pub mod Tasks
pub mod Work
pub mod Run
pub mod Calls
-- what any job leaves
pub use Rattle.vcd_job.specs.Failure
pub use Rattle.vcd_job.specs.Ends
pub use Rattle.vcd_job.specs.Inputs
pub use Rattle.vcd_job.specs.Message
-- the words, and the job that they ask for
pub use Rattle.vcd_words.specs.Job
pub use Rattle.vcd_words.specs.Refusal
pub use Rattle.vcd_words.specs.Ticks
pub use Rattle.vcd_words.specs.Words
-- the definitions that the contracts cite
pub use Rattle.vcd_model.specs as Model
pub mod Names
