use Rattle.vcd_engine.proofs.Cited.{ℕ, nat_le, ◌∙◌, rules, tests, YieldsList-from_slice, position_from_yields_List}
use Rattle.vcd_engine.proofs.Facts.{first_or_len}
use Rattle.vcd_engine.proofs.task_state.sample.count_below.Goals as goal

pub returns : goal.returns
returns c =
    let test = λ (due : ℕ). nat_le c.args.time due in
    c.unwrap_or.ensures ∙ first_or_len test c.args.times.now c.position.result
    (position_from_yields_List test _ _ _ c.position.ensures.ran (YieldsList-from_slice c.args.times.now cc) (λ x b q k. search (rules, tests)))
