-- Times with a unit, and their ticks, as the definitions have them.
use Rattle.std.specs.Prelude.{ℕ, cond, List, Option, Some, None, option_map, Result, Ok, Err}
use Rattle.vcd_model.specs.Bytes.{is_empty}
use Rattle.vcd_model.specs.Job.{unit_exponent}
use Rattle.vcd_model.specs.Ticks as model
use Rattle.vcd_head.specs.declared.moment.Moment.{Moment}
use Rattle.vcd_head.specs.declared.moment.TickFault.{TickFault}
use Rattle.vcd_head.specs.declared.moment.TickFault.TheVariants.{NoTimescale, OutOfRange}

-- the time that is asked for
abbrev pub asked : Moment → model.Moment
asked m = record { number = m.number; unit = m.unit }

-- this many units of this name, or ticks if it is empty
abbrev pub with_unit : ℕ → List ℕ → Option model.Moment
with_unit number unit =
    cond (is_empty unit) (Some (record { number = number; unit = None }))
    (option_map (λ e. record { number = number; unit = Some e }) (unit_exponent unit))

-- the number of the fault
abbrev pub tick_fault_number : TickFault → ℕ
tick_fault_number NoTimescale = 12
tick_fault_number OutOfRange = 22

-- the ticks, or the number of the fault
abbrev pub told : Result ℕ TickFault → Result ℕ ℕ
told (Ok ticks) = Ok ticks
told (Err fault) = Err (tick_fault_number fault)
