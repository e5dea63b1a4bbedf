-- What two variables need to have in common, as the code has it.
use Rattle.vcd_model.specs.Compare.{Kind}
use Rattle.vcd_compare.specs.declared.kinds.VariableKind.{VariableKind}
use Rattle.vcd_compare.specs.declared.kinds.VariableKind.TheVariants as variant

-- the kind of the definitions
abbrev pub model_kind : VariableKind → Kind
model_kind variant.Event = Kind.Event
model_kind variant.Real = Kind.Real
model_kind (variant.Digits size) = Kind.Digits size
