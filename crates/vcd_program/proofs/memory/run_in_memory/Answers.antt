use Rattle.vcd_program.proofs.Cited.{◌≡◌, ◌∙◌, ap, arith, map, option_map, refl, string_bytes, failed_calls, has_just_failed}
use Rattle.vcd_program.proofs.Facts.{is-holding, left-in-memory}
use Rattle.vcd_program.proofs.memory.run_in_memory.Goals as goal

pub returns : goal.returns
returns g c =
    let o = c.run_program-status.new.out in
    let e = c.run_program-status.new.err in
    let out_zero : failed_calls o ≡ 0 = omega (arith, c.failures.ensures, c.if-failures-gt0.false) in
    let err_zero : failed_calls e ≡ 0 = omega (arith, c.failures-else-failures-gt0.ensures, c.if-failures-gt0-2.false) in
    left-in-memory g.P.Program _ _ _ (map string_bytes c.args.words.now)
    c.args.files.now c.args.input.now _ c.run_program-status.new.host _ o o.device.items e.device.items _ _ c.run_program-status.result _ _ _
    (λ old new done h. h) (is-holding o.device.items o.device.items (failed_calls o) (has_just_failed o) _ refl out_zero refl) refl refl
    (ap (map (λ name. option_map string_bytes name)) c.new.ensures.items) (refl, refl, refl, refl)
    (is-holding c.new-out.result.device.items _ (failed_calls c.new-out.result) (has_just_failed c.new-out.result) _
    (ap (λ v. v.items) c.new-out.ensures.device ∙ c.new-2.ensures.items) c.new-out.ensures.failures c.new-out.ensures.last)
    (is-holding c.new-err.result.device.items _ (failed_calls c.new-err.result) (has_just_failed c.new-err.result) _
    (ap (λ v. v.items) c.new-err.ensures.device ∙ c.new-3.ensures.items) c.new-err.ensures.failures c.new-err.ensures.last)
    (is-holding e.device.items e.device.items (failed_calls e) (has_just_failed e) _ refl err_zero refl) c.run_program-status.ensures.runs
