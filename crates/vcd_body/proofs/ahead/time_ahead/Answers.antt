use Rattle.vcd_body.proofs.Cited.{◌+◌, ◌-◌, drop, ap, ap₂, sym, ◌∙◌, slice_range, bytes_of, passed_of, spelled_below}
use Rattle.vcd_body.proofs.Facts.{spelled_time, time_if_spelled, rest_there, token_there}
use Rattle.vcd_body.proofs.ahead.time_ahead.Goals as goal

pub returns-clause-time : goal.returns-clause-time
returns-clause-time c =
    let a = c.requires.opens.0 in
    let t = c.requires.opens.1.token in
    let token = c.args.opening.token.now in
    let to = passed_of c.args.ahead in
    let there = rest_there (bytes_of a) (passed_of a) to token t.some (token_there (bytes_of a) (passed_of a) to token t.further t.within t.before t.place) in
    let same = ap (λ bs. spelled_below (slice_range bs (c.begin_of-at.result + 1) (c.passed.result - 1))) (c.bytes.ensures ∙ t.same.0)
    ∙ ap₂ (λ i j. spelled_below (slice_range (bytes_of a) i j)) (ap (λ k. k + 1) c.begin_of-at.ensures) (ap (λ k. k - 1) c.passed.ensures.passed) ∙ sym (ap spelled_below there) in
    time_if_spelled (drop 1 token) c.decimal_at.result (c.decimal_at.ensures ∙ same)

pub returns-clause-all : goal.returns-clause-all
returns-clause-all c = λ time is.
    let a = c.requires.opens.0 in
    let t = c.requires.opens.1.token in
    let token = c.args.opening.token.now in
    let to = passed_of c.args.ahead in
    let there = rest_there (bytes_of a) (passed_of a) to token t.some (token_there (bytes_of a) (passed_of a) to token t.further t.within t.before t.place) in
    let same = ap (λ bs. spelled_below (slice_range bs (c.begin_of-at.result + 1) (c.passed.result - 1))) (c.bytes.ensures ∙ t.same.0)
    ∙ ap₂ (λ i j. spelled_below (slice_range (bytes_of a) i j)) (ap (λ k. k + 1) c.begin_of-at.ensures) (ap (λ k. k - 1) c.passed.ensures.passed) ∙ sym (ap spelled_below there) in
    c.decimal_at.ensures ∙ same ∙ spelled_time (drop 1 token) time is
