use Rattle.vcd_strobe_words.proofs.Cited.{codes, false, new_app, with_rule, bare_app, clock_rule, input_rule, limit_rule, names_rule, IsWhole, IfOk-weaker, with_about, with_after_help, with_arg, with_usage, with_version}
use Rattle.vcd_strobe_words.proofs.command.command_of.Goals as goal

pub returns : goal.returns
returns c =
    let rise = clock_rule (codes "rise") in
    let fall = clock_rule (codes "fall") in
    let version = with_version c.new.result c.version.result (new_app (codes "vcdkit-strobe")) (c.new.ensures.app, c.new.ensures.whole) _ c.version.ensures in
    let about = with_about c.version.result c.about.result _ version _ c.about.ensures in
    let usage = with_usage c.about.result c.override_usage.result _ about _ c.override_usage.ensures in
    let bare : IsWhole c.after_help.result bare_app = with_after_help c.override_usage.result c.after_help.result _ usage _ c.after_help.ensures in
    let first = with_arg c.after_help.result c.in_ok-arg.field-0 bare_app bare c.clock-rise.result rise c.in_ok-arg.ensures c.clock-rise.ensures in
    let second = with_arg c.in_ok-arg.field-0 c.in_ok-arg-2.field-0
    (with_rule bare_app rise) first c.clock-fall.result fall c.in_ok-arg-2.ensures c.clock-fall.ensures in
    let third = with_arg c.in_ok-arg-2.field-0 c.in_ok-arg-3.field-0
    (with_rule (with_rule bare_app rise) fall) second c.input.result input_rule c.in_ok-arg-3.ensures c.input.ensures in
    let fourth = with_arg c.in_ok-arg-3.field-0 c.in_ok-arg-4.field-0
    (with_rule (with_rule (with_rule bare_app rise) fall) input_rule) third c.token_limit.result limit_rule c.in_ok-arg-4.ensures c.token_limit.ensures in
    IfOk-weaker c.arg-5.result _ _ (λ r h. with_arg c.in_ok-arg-4.field-0 r
    (with_rule (with_rule (with_rule (with_rule bare_app rise) fall) input_rule) limit_rule) fourth c.names.result (names_rule false) h c.names.ensures) c.arg-5.ensures
