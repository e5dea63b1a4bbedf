-- Why times are refused.
use Rattle.vcd_head.specs.declared.moment.TickFault.{TickFault}
use Rattle.vcd_head.specs.declared.moment.TickFault.TheVariants as tick
use Rattle.vcd_model.specs.Job as model
use Rattle.vcd_words.specs.declared.refusal.Refusal.{Refusal}
use Rattle.vcd_words.specs.declared.refusal.Refusal.TheVariants as refusal

-- why times are refused, as the definitions say it
abbrev pub model_refusal : Refusal → model.Refusal
model_refusal refusal.NoTimescale = model.Refusal.NoTimescale
model_refusal refusal.OutOfRange = model.Refusal.OutOfRange
model_refusal refusal.FromAboveTo = model.Refusal.FromAboveTo
model_refusal refusal.NotRising = model.Refusal.NotRising

-- why a time without a number of ticks is refused
abbrev pub tick_refusal : TickFault → Refusal
tick_refusal tick.NoTimescale = refusal.NoTimescale
tick_refusal tick.OutOfRange = refusal.OutOfRange
