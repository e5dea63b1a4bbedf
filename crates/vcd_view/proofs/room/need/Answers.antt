use Rattle.vcd_view.proofs.Cited.{◌≡◌, ◌-◌, ◌^◌, min, sum_by, ap, ◌∙◌, arith, take_all, sum_by_more, Header, value_bytes, parts, Views}
use Rattle.vcd_view.proofs.Facts.{blank, sum_fits, is_room, fits}
use Rattle.vcd_view.proofs.room.need.Goals as goal

pub loop-code-preserved : goal.loop-code-preserved
loop-code-preserved c =
    let one = sum_by_more value_bytes c.args.view.codes.now c.loop-code.code-index blank (omega arith) in
    omega (arith, one)

pub returns-clause-values : goal.returns-clause-values
returns-clause-values c = c.loop-code.invariant ∙ ap (λ codes. min (sum_by value_bytes codes) (2 ^ 64 - 1)) (take_all c.loop-code.code-index c.args.view.codes.now (omega arith))

-- the sum over a header's codes is in range
whole : (c : goal.After-loop-code) (h : Header) → Views (parts c.args.view) h → c.loop-code.values ≡ sum_by value_bytes c.args.view.codes.now
whole c h v = let small = sum_fits (parts c.args.view) h v in let most = returns-clause-values c in omega arith

pub returns-clause-room : goal.returns-clause-room
returns-clause-room c = λ h v. is_room (parts c.args.view) h c.loop-code.values v (whole c h v)

pub returns-clause-fits : goal.returns-clause-fits
returns-clause-fits c = λ limit h w v are. fits limit (parts c.args.view) h w _ v are (is_room (parts c.args.view) h c.loop-code.values v (whole c h v))
