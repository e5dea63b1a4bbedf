-- how a run ends
pub use Rattle.vcd_body.specs.Answer
pub use Rattle.vcd_body.specs.Device
pub use Rattle.vcd_body.specs.declared.answer.Done
pub use Rattle.vcd_body.specs.declared.answer.More
pub use Rattle.vcd_body.specs.declared.answer.Stop
-- the commands over one dump
pub use Rattle.vcd_engine.specs.Engine
pub use Rattle.vcd_engine.specs.Room
pub use Rattle.vcd_engine.specs.TaskRun
pub use Rattle.vcd_engine.specs.Step
pub use Rattle.vcd_engine.specs.declared.task.Task
-- a merge
pub use Rattle.vcd_merge.specs.MergeOrder
pub use Rattle.vcd_merge.specs.MergeParts
pub use Rattle.vcd_merge.specs.MergeRoom
pub use Rattle.vcd_merge.specs.MergeRun
pub use Rattle.vcd_merge.specs.MergeStart
pub use Rattle.vcd_merge.specs.MergeStep
pub use Rattle.vcd_merge.specs.Seat
-- the definitions that the clauses cite
pub use Rattle.vcd_model.specs as Model
-- the laws
pub use Rattle.vcd_laws.specs as Laws
