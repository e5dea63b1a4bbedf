use Rattle.vcd_body_tests.proofs.body.Noted.take.Goals as goal

pub left_out-needless-requires : goal.left_out-needless-requires
left_out-needless-requires c = (c.requires.0, λ known. c.requires.4.spelled)
