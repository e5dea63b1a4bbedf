pub mod Fault
pub mod Shown
pub mod Moments
pub mod Paths
pub mod ScopesLeft
pub mod Reads
pub mod Words
pub mod Texts
pub mod Keys
pub mod Codes
pub mod Fronts
pub mod Draft
pub mod Declares
pub mod Entered
pub mod Calls
pub mod Variables
pub mod Scaled
pub mod Marks
pub mod Selects
pub mod NameOrder
pub mod Names
pub mod Runs
pub mod Groups
pub mod Inside
pub mod Matched
pub mod Merged
pub mod Written
pub mod Rows
-- the view: what its functions promise, and its types
pub use Rattle.vcd_view.specs.Finds
pub use Rattle.vcd_view.specs.NewCode
pub use Rattle.vcd_view.specs.Needs
pub use Rattle.vcd_view.specs.Over
pub use Rattle.vcd_view.specs.Views
pub use Rattle.vcd_view.specs.Entries as ViewEntries
pub use Rattle.vcd_view.specs.Shown as ViewShown
pub use Rattle.vcd_view.specs.declared.probes.Probes
pub use Rattle.vcd_view.specs.declared.view.Code
pub use Rattle.vcd_view.specs.declared.view.HeadView
pub use Rattle.vcd_view.specs.declared.view.Kind
pub use Rattle.vcd_view.specs.declared.view.Need
pub use Rattle.vcd_view.specs.declared.view.Row
pub use Rattle.vcd_view.specs.declared.view.Scale
-- the definitions that the contracts cite
pub use Rattle.vcd_model.specs as Model
