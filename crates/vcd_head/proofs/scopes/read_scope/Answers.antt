use Rattle.vcd_head.proofs.Cited.{[], ◌∷◌, ◌++◌, refl, ap, subst, ◌∙◌, option_map, err_from_is_err_and, Keyword, keyword_text, HeaderPhrase, Declaration, phrases_of, token_of, IsDraftOf}
use Rattle.vcd_head.proofs.Facts.{faultless, kept, stays, then_ok, barred, begun, ended, scope_asks_end, scope_welcomes_type, scope_welcomes_name, carried, passed_test, whole_test}
use Rattle.vcd_view.specs.declared.view.Kind.TheVariants as kind
use Rattle.vcd_head.proofs.scopes.read_scope.Goals as goal

pub returns-in_err-check_start-clause-advances : goal.returns-in_err-check_start-clause-advances
returns-in_err-check_start-clause-advances g c =
    let p = err_from_is_err_and c.from_residual.result c.from_residual.ensures.1 in
    rw (p.1, p.2) (stays _ c.args.feed.now _ c.in_err-check_start.ensures.ends)

pub returns-in_err-check_start-clause-reads : goal.returns-in_err-check_start-clause-reads
returns-in_err-check_start-clause-reads g c =
    let p = err_from_is_err_and c.from_residual.result c.from_residual.ensures.1 in
    rw (p.1, p.2) (λ i b.
    barred c.args.most i b.placed kind.Scope c.args.feed.now c.in_err-check_start.field-0.0 b.keyword (c.in_err-check_start.ensures.checks (phrases_of b.placed) b.holds) b.token_read)

pub returns-in_err-next_word-clause-reads : goal.returns-in_err-next_word-clause-reads
returns-in_err-next_word-clause-reads g c =
    let p = err_from_is_err_and c.from_residual-in_err-next_word.result c.from_residual-in_err-next_word.ensures.1 in
    rw (p.1, p.2) (λ i b.
    let start = c.in_ok-check_start.ensures.checks (phrases_of b.placed) b.holds in
    let r0 = begun c.args.most i b.placed Keyword.Scope c.args.feed.now b.keyword start refl b.token_read in
    c.in_err-next_word.ensures.reads c.args.most i b.placed (keyword_text Keyword.Scope ∷ []) (scope_welcomes_type c.args.most b.placed) (λ x. x) r0)

pub returns-in_err-next_word-2-clause-reads : goal.returns-in_err-next_word-2-clause-reads
returns-in_err-next_word-2-clause-reads g c =
    let p = err_from_is_err_and c.from_residual-in_err-next_word-2.result c.from_residual-in_err-next_word-2.ensures.1 in
    rw (p.1, p.2) (λ i b.
    let start = c.in_ok-check_start.ensures.checks (phrases_of b.placed) b.holds in
    let r0 = begun c.args.most i b.placed Keyword.Scope c.args.feed.now b.keyword start refl b.token_read in
    let r1 = c.in_ok-next_word.ensures.reads c.args.most i b.placed (keyword_text Keyword.Scope ∷ []) (scope_welcomes_type c.args.most b.placed) (λ x. x) r0 in
    let type = (token_of c.next_word.new.feed).bytes in
    let k1 = kept c.args.most i b.placed (keyword_text Keyword.Scope ∷ type ∷ []) c.next_word.new.feed c.keep.new.self c.keep.ensures.still c.keep.ensures.token r1.0 in
    c.in_err-next_word-2.ensures.reads c.args.most i b.placed (keyword_text Keyword.Scope ∷ type ∷ []) (scope_welcomes_name c.args.most b.placed type) (λ x. x) k1)

pub returns-in_err-open_scope-clause-reads : goal.returns-in_err-open_scope-clause-reads
returns-in_err-open_scope-clause-reads g c =
    let p = err_from_is_err_and c.from_residual-in_err-open_scope.result c.from_residual-in_err-open_scope.ensures.1 in
    rw (p.1, p.2, c.in_err-open_scope.ensures.memory) (λ i b.
    let start = c.in_ok-check_start.ensures.checks (phrases_of b.placed) b.holds in
    let r0 = begun c.args.most i b.placed Keyword.Scope c.args.feed.now b.keyword start refl b.token_read in
    let r1 = c.in_ok-next_word.ensures.reads c.args.most i b.placed (keyword_text Keyword.Scope ∷ []) (scope_welcomes_type c.args.most b.placed) (λ x. x) r0 in
    let type = (token_of c.next_word.new.feed).bytes in
    let k1 = kept c.args.most i b.placed (keyword_text Keyword.Scope ∷ type ∷ []) c.next_word.new.feed c.keep.new.self c.keep.ensures.still c.keep.ensures.token r1.0 in
    let r2 = c.in_ok-next_word-2.ensures.reads c.args.most i b.placed (keyword_text Keyword.Scope ∷ type ∷ []) (scope_welcomes_name c.args.most b.placed type) (λ x. x) k1 in
    faultless c.args.most i b.placed (keyword_text Keyword.Scope ∷ type ∷ []) _ c.next_word-2.new.feed r2.0)

pub returns-clause-reads : goal.returns-clause-reads
returns-clause-reads g c = λ i b.
    let most = c.args.most in
    let start = c.in_ok-check_start.ensures.checks (phrases_of b.placed) b.holds in
    let r0 = begun most i b.placed Keyword.Scope c.args.feed.now b.keyword start refl b.token_read in
    let r1 = c.in_ok-next_word.ensures.reads most i b.placed (keyword_text Keyword.Scope ∷ []) (scope_welcomes_type most b.placed) (λ x. x) r0 in
    let type = (token_of c.next_word.new.feed).bytes in
    let k1 = kept most i b.placed (keyword_text Keyword.Scope ∷ type ∷ []) c.next_word.new.feed c.keep.new.self c.keep.ensures.still c.keep.ensures.token r1.0 in
    let r2 = c.in_ok-next_word-2.ensures.reads most i b.placed (keyword_text Keyword.Scope ∷ type ∷ []) (scope_welcomes_name most b.placed type) (λ x. x) k1 in
    let name = (token_of c.next_word-2.new.feed).bytes in
    let x = HeaderPhrase.Declares (Declaration.Scope type name) in
    let opened = c.in_ok-open_scope.ensures.opens most (phrases_of b.placed) b.holds start in
    let holds = subst (λ y. IsDraftOf most c.open_scope.new.draft (phrases_of b.placed ++ HeaderPhrase.Declares y ∷ []))
    (λ j. Declaration.Scope ((c.value.ensures ∙ c.in_ok-next_word-2.ensures.value ∙ c.keep.ensures.value) j) (c.token.ensures j)) opened in
    then_ok c.next_end.result _ _ _
    (λ u l. carried most i _ c.next_end.new.feed b.placed (record { phrase = x; line = (token_of c.next_end.new.feed).line })
    (ended most i b.placed Keyword.Scope c.next_end.new.feed (type ∷ name ∷ []) x (passed_test _ 6 l.1)
    (ap (option_map HeaderPhrase.Declares) (whole_test _ (Declaration.Scope type name) l.1)) refl l.0) holds)
    (c.next_end.ensures.reads most i b.placed (keyword_text Keyword.Scope ∷ type ∷ name ∷ []) (scope_asks_end most b.placed type name) (λ x. x) r2.0)
