use Rattle.vcd_compare_words.proofs.Cited.{codes, IfOk-weaker, with_rule, flag_rule, time_or_rule, with_arg}
use Rattle.vcd_compare_words.proofs.command.with_values.Goals as goal

pub returns : goal.returns
returns c = λ before whole.
    let from = time_or_rule (codes "from") (codes "0") in
    let to = time_or_rule (codes "to") (codes "18446744073709551615") in
    let of_a = flag_rule (codes "x-of-a") in
    let of_b = flag_rule (codes "x-of-b") in
    let first = with_arg c.args.program c.in_ok-program.program before whole c.time-from.result from c.in_ok-program.ensures c.time-from.ensures in
    let second = with_arg c.in_ok-program.program c.in_ok-program-2.program (with_rule before from) first c.time-to.result to c.in_ok-program-2.ensures c.time-to.ensures in
    let third = with_arg c.in_ok-program-2.program c.in_ok-program-3.program (with_rule (with_rule before from) to) second c.flag-x_of_a.result of_a c.in_ok-program-3.ensures c.flag-x_of_a.ensures in
    IfOk-weaker c.arg-4.result _ _ (λ r h. with_arg c.in_ok-program-3.program r
    (with_rule (with_rule (with_rule before from) to) of_a) third c.flag-x_of_b.result of_b h c.flag-x_of_b.ensures) c.arg-4.ensures
