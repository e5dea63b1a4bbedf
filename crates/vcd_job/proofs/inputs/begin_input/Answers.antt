use Rattle.vcd_job.proofs.Cited.{rules, ◌≡◌, ◌∙◌, ℕ, List, [], Option, Some, None, Err, ap, subst, IfSome, whole, Supply, supply, HasGiven, source_of, CountsRead}
use Rattle.vcd_job.proofs.Facts.{begins, failed, seated}
use Rattle.vcd_job.proofs.inputs.begin_input.Goals as goal

pub returns-in_err-head-clause-begins : goal.returns-in_err-head-clause-begins
returns-in_err-head-clause-begins g c = λ text h.
    let why = c.in_err-head.field-0.0 in
    let feed = c.read_head_of.new.feed in
    let e : c.from_residual.result ≡ Err why = search rules in
    let stands : HasGiven (whole text) [] c.new-feed.result = subst (λ (o : Option (List ℕ)). IfSome o (λ t. HasGiven (whole t) [] c.new-feed.result)) h c.new-feed.ensures.begins.stands in
    let limit = c.in_err-head.ensures.lengths.0 ∙ c.new-feed.ensures.begins.limit in
    let chunk = c.in_err-head.ensures.lengths.1 ∙ c.new-feed.ensures.begins.chunk_len in
    let gone : c.in_err-head.reader-1-own.given.0 ≡ source_of feed = search rules in
    let before : Supply = supply g.S.Source.rest g.S.Source.failures c.args.reader.now in
    let counted = subst (λ (n : ℕ). CountsRead c.args.input n (g.S.Source.failures (source_of feed)) (Some why))
    (ap g.S.Source.failures c.new-feed.ensures.begins.source_is) c.in_err-head.ensures.failures in
    rw (e, gone) (failed c.args.reading.now.most _ _ (whole text) before feed limit chunk c.args.input why counted (c.in_err-head.ensures.reads (whole text) stands))

pub returns-clause-begins : goal.returns-clause-begins
returns-clause-begins g c = λ text h.
    let feed = c.read_head_of.new.feed in
    let stands : HasGiven (whole text) [] c.new-feed.result = subst (λ (o : Option (List ℕ)). IfSome o (λ t. HasGiven (whole t) [] c.new-feed.result)) h c.new-feed.ensures.begins.stands in
    let limit = c.in_ok-head.ensures.lengths.0 ∙ c.new-feed.ensures.begins.limit in
    let chunk = c.in_ok-head.ensures.lengths.1 ∙ c.new-feed.ensures.begins.chunk_len in
    let e0 : c.reader-2-1.given.0 ≡ feed.source.now = search rules in
    let e1 : c.chunk-2-1.given.0 ≡ feed.chunk.now = search rules in
    let e2 : c.token-2-1.given.0 ≡ feed.token.now = search rules in
    let before : Supply = supply g.S.Source.rest g.S.Source.failures c.args.reader.now in
    let same : g.S.Source.failures (source_of feed) ≡ before.failures = c.in_ok-head.ensures.failures ∙ ap g.S.Source.failures c.new-feed.ensures.begins.source_is in
    rw (e0, e1, e2) (begins c.args.reading.now.most _ _ (whole text) before feed limit chunk c.in_ok-head.head c.new-seat.result same (c.in_ok-head.ensures.reads (whole text) stands)
    (c.new-seat.ensures.parked ∙ c.parked.ensures.parked) c.new-seat.ensures.regs)

pub returns-clause-seated : goal.returns-clause-seated
returns-clause-seated g c =
    let limit = c.in_ok-head.ensures.lengths.0 ∙ c.new-feed.ensures.begins.limit in
    let chunk = c.in_ok-head.ensures.lengths.1 ∙ c.new-feed.ensures.begins.chunk_len in
    seated c.args.reading.now.most _ _ (whole []) (record { rest = None; failures = 0 })
    c.read_head_of.new.feed limit chunk c.new-seat.result c.parked.result c.parked.ensures.fits c.parked.ensures.parked c.in_ok-head.ensures.«open» c.new-seat.ensures.parked c.new-seat.ensures.regs c.new-seat.ensures.«open»
