use Rattle.vcd_words.proofs.Cited.{arith, ap, ap₂, ◌≡◌, ◌∙◌, Bool, true, false, not, ◌&&◌, ◌||◌, subst, IfOk, IfOk-weaker, AddsSubcommand, App, with_subcommand, Command, IsWhole}
use Rattle.vcd_words.proofs.command.add.Goals as goal

-- a plain command has no global argument
local : (groups external globals rest : Bool) → (groups && (not external && (not globals && rest))) ≡ true → globals ≡ false
local groups external globals rest e = grind arith

-- a program with one more plain command
added : (old sub new : Command) (before is : App) → AddsSubcommand old sub new → IsWhole old before → IsWhole sub is → is.top.is_plain ≡ true → IsWhole new (with_subcommand before is.top)
added old sub new before is adds o s plain = (
  adds.shape (local _ _ _ _ (ap (λ (a : App). a.top.is_plain) s.0 ∙ plain)) ∙ ap₂ with_subcommand o.0 (ap (λ (a : App). a.top) s.0),
  adds.broken ∙ ap₂ ◌||◌ o.1 s.1,
)

pub returns : goal.returns
returns c = λ before more whole made plain.
    let sub = subst (λ r. IfOk r (λ command. IsWhole command more)) c.in_ok-command.was made in
    IfOk-weaker c.subcommand.result _ _ (λ r h. added _ _ _ before more h whole sub plain) c.subcommand.ensures
