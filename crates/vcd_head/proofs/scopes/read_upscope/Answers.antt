use Rattle.vcd_head.proofs.Cited.{[], ◌∷◌, refl, ap, option_map, err_from_is_err_and, Keyword, keyword_text, HeaderPhrase, Declaration, phrases_of, token_of}
use Rattle.vcd_head.proofs.Facts.{faultless, stays, then_ok, barred, begun, ended, upscope_asks_end, carried, passed_test, whole_test}
use Rattle.vcd_view.specs.declared.view.Kind.TheVariants as kind
use Rattle.vcd_head.proofs.scopes.read_upscope.Goals as goal

pub returns-in_err-check_start-clause-advances : goal.returns-in_err-check_start-clause-advances
returns-in_err-check_start-clause-advances g c =
    let p = err_from_is_err_and c.from_residual.result c.from_residual.ensures.1 in
    rw (p.1, p.2) (stays _ c.args.feed.now _ c.in_err-check_start.ensures.ends)

pub returns-in_err-check_start-clause-reads : goal.returns-in_err-check_start-clause-reads
returns-in_err-check_start-clause-reads g c =
    let p = err_from_is_err_and c.from_residual.result c.from_residual.ensures.1 in
    rw (p.1, p.2) (λ i b.
    barred c.args.most i b.placed kind.Up c.args.feed.now c.in_err-check_start.field-0.0 b.keyword (c.in_err-check_start.ensures.checks (phrases_of b.placed) b.holds) b.token_read)

pub returns-in_err-close_scope-clause-reads : goal.returns-in_err-close_scope-clause-reads
returns-in_err-close_scope-clause-reads g c =
    let p = err_from_is_err_and c.from_residual-in_err-close_scope.result c.from_residual-in_err-close_scope.ensures.1 in
    rw (p.1, p.2, c.in_err-close_scope.ensures.memory) (λ i b.
    let start = c.in_ok-check_start.ensures.checks (phrases_of b.placed) b.holds in
    faultless c.args.most i b.placed [] _ c.args.feed.now (begun c.args.most i b.placed Keyword.Upscope c.args.feed.now b.keyword start refl b.token_read))

pub returns-clause-reads : goal.returns-clause-reads
returns-clause-reads g c = λ i b.
    let most = c.args.most in
    let start = c.in_ok-check_start.ensures.checks (phrases_of b.placed) b.holds in
    let r0 = begun most i b.placed Keyword.Upscope c.args.feed.now b.keyword start refl b.token_read in
    let x = HeaderPhrase.Declares Declaration.Up in
    then_ok c.next_end.result _ _ _
    (λ u l. carried most i _ c.next_end.new.feed b.placed (record { phrase = x; line = (token_of c.next_end.new.feed).line })
    (ended most i b.placed Keyword.Upscope c.next_end.new.feed [] x (passed_test _ 6 l.1) (ap (option_map HeaderPhrase.Declares) (whole_test _ Declaration.Up l.1)) refl l.0)
    (c.in_ok-close_scope.ensures.closes most (phrases_of b.placed) b.holds start))
    (c.next_end.ensures.reads most i b.placed (keyword_text Keyword.Upscope ∷ []) (upscope_asks_end most b.placed) (λ x. x) r0)
