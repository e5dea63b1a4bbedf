use Rattle.vcd_job.proofs.Cited.{◌≡◌, ℕ, List, [], Option, Some, Err, sym, ap, subst, ◌∙◌, arith, rules, IfSome, header_of, phrases_of, whole, Supply, supply, HasGiven, chunk_len_of, limit_of, source_of, HeadShown, shown, declarations_allowed, Views, CountsRead, OutOfMemory}
use Rattle.std.proofs.Common.{refl}
use Rattle.vcd_job.specs.OneRun.{speech_of}
use Rattle.vcd_job.proofs.Facts.{begun, failed, no_memory, read_on, refused}
use Rattle.vcd_job.proofs.one_run.run_input.Goals as goal

pub returns-in_err-memory-clause-ends : goal.returns-in_err-memory-clause-ends
returns-in_err-memory-clause-ends g c = λ text name h.
    let e : c.from_residual.result ≡ Err OutOfMemory = search rules in
    rw e (no_memory (g.J.OneInput.work c.args.job.now) (speech_of g.J.OneInput c.args.job.now) refl (g.J.OneInput.limit c.args.job.now) (g.J.OneInput.chunk c.args.job.now) (whole text) name _ _)

pub returns-in_err-head-clause-ends : goal.returns-in_err-head-clause-ends
returns-in_err-head-clause-ends g c = λ text name h.
    let why = c.in_err-head.field-0.0 in
    let e : c.from_residual-in_err-head.result ≡ Err why = search rules in
    let stands : HasGiven (whole text) [] c.new-feed.result = subst (λ (o : Option (List ℕ)). IfSome o (λ t. HasGiven (whole t) [] c.new-feed.result)) h c.new-feed.ensures.begins.stands in
    let limit : limit_of c.read_head_of.new.feed ≡ g.J.OneInput.limit c.args.job.now = c.in_err-head.ensures.lengths.0 ∙ omega (arith, c.in_ok-memory.ensures, c.lengths.ensures) in
    let chunk : chunk_len_of c.read_head_of.new.feed ≡ g.J.OneInput.chunk c.args.job.now = c.in_err-head.ensures.lengths.1 ∙ omega (arith, c.in_ok-memory.ensures, c.lengths.ensures) in
    let gone : c.in_err-head.reader-1-own.given.0 ≡ source_of c.read_head_of.new.feed = search rules in
    let before : Supply = supply g.S.Source.rest g.S.Source.failures c.args.reader.now in
    let counted = subst (λ (n : ℕ). CountsRead 0 n (g.S.Source.failures (source_of c.read_head_of.new.feed)) (Some why))
    (ap g.S.Source.failures c.new-feed.ensures.begins.source_is) c.in_err-head.ensures.failures in
    rw (e, gone) (refused (g.J.OneInput.work c.args.job.now) (speech_of g.J.OneInput c.args.job.now) refl (g.J.OneInput.limit c.args.job.now)
    (g.J.OneInput.chunk c.args.job.now) (whole text) name before _ _ why
    (failed declarations_allowed (g.J.OneInput.limit c.args.job.now) (g.J.OneInput.chunk c.args.job.now)
    (whole text) before c.read_head_of.new.feed limit chunk 0 why counted (c.in_err-head.ensures.reads (whole text) stands)))

pub returns-clause-ends : goal.returns-clause-ends
returns-clause-ends g c = λ text name h.
    let stands : HasGiven (whole text) [] c.new-feed.result = subst (λ (o : Option (List ℕ)). IfSome o (λ t. HasGiven (whole t) [] c.new-feed.result)) h c.new-feed.ensures.begins.stands in
    let feed = c.read_head_of.new.feed in
    let limit : limit_of feed ≡ g.J.OneInput.limit c.args.job.now = c.in_ok-head.ensures.lengths.0 ∙ omega (arith, c.in_ok-memory.ensures, c.lengths.ensures) in
    let chunk : chunk_len_of feed ≡ g.J.OneInput.chunk c.args.job.now = c.in_ok-head.ensures.lengths.1 ∙ omega (arith, c.in_ok-memory.ensures, c.lengths.ensures) in
    let gone : c.reader-2-1.given.0 ≡ source_of c.run_over.new.feed = search rules in
    let before : Supply = supply g.S.Source.rest g.S.Source.failures c.args.reader.now in
    let same : g.S.Source.failures (source_of feed) ≡ before.failures = c.in_ok-head.ensures.failures ∙ ap g.S.Source.failures c.new-feed.ensures.begins.source_is in
    let head = c.in_ok-head.ensures.reads (whole text) stands in
    let views = subst (λ (s : HeadShown). Views s (header_of (phrases_of head.placed))) (sym c.view.ensures) head.views in
    rw gone
    (read_on (g.J.OneInput.work c.args.job.now) (speech_of g.J.OneInput c.args.job.now) refl (g.J.OneInput.limit c.args.job.now)
    (g.J.OneInput.chunk c.args.job.now) (whole text) name (limit_of feed) (chunk_len_of feed)
    (record { header = header_of (phrases_of head.placed); input = whole text; front = head.given }) before _ _ _ _ c.run_over.result limit chunk
    (begun declarations_allowed (g.J.OneInput.limit c.args.job.now) (g.J.OneInput.chunk c.args.job.now) (whole text) before feed limit chunk (shown c.in_ok-head.head) same head)
    (c.run_over.ensures.ends (header_of (phrases_of head.placed)) (whole text) head.given name views head.stands))

pub returns-in_err-head-clause-passed_on : goal.returns-in_err-head-clause-passed_on
returns-in_err-head-clause-passed_on g c = λ input is before. before
