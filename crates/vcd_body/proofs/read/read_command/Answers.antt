use Rattle.vcd_body.proofs.Cited.{sym, ap, ◌∙◌, err_from_is_err_and, keyword_of, BodyItem, phrases_of, token_of, regs_after, model_section}
use Rattle.vcd_body.proofs.Facts.{begin_passes, begin_inside, end_passes, end_outside, of_header, no_phrase, own_given, none_given, fault_given, known_so_far, comment_begun, refused_first, known_begin, known_end, not_comment}
use Rattle.vcd_body.specs.declared.item.Item.TheVariants as item
use Rattle.vcd_body.proofs.read.read_command.Goals as goal

pub returns-in_err-skip_comment-in-Some-Comment-clause-reads : goal.returns-in_err-skip_comment-in-Some-Comment-clause-reads
returns-in_err-skip_comment-in-Some-Comment-clause-reads g c =
    let p = err_from_is_err_and c.from_residual.result c.from_residual.ensures.1 in
    rw (p.1, p.2) (λ codes i front items b.
    let word = rw c.in-Some-Comment.field-0-is at c.in-Some-Comment.ensures in
    let e = sym c.token.ensures ∙ word in
    fault_given codes i front items b.placed _ c.skip_comment.new.feed b.items_are
    (c.in_err-skip_comment-in-Some-Comment.ensures.reads codes i front b.placed
    (comment_begun codes i front items c.args.feed.now c.args.regs.now b e)))

pub returns-then-is_some-clause-reads : goal.returns-then-is_some-clause-reads
returns-then-is_some-clause-reads g c = λ codes i front items b.
    let word = rw c.in-Some-Begin.field-0-is at c.in-Some-Begin.ensures in
    let s = model_section c.in-Some-Begin.section in
    refused_first codes i front items c.args.feed.now c.args.regs.now 4 b
    (begin_inside codes (phrases_of b.placed) (token_of c.args.feed.now).bytes c.args.regs.now
    (known_so_far codes i front items c.args.feed.now c.args.regs.now b) s (sym c.token.ensures ∙ word) (sym c.is_some.ensures ∙ c.if-is_some.true))

pub returns-else-is_some-clause-reads : goal.returns-else-is_some-clause-reads
returns-else-is_some-clause-reads g c = λ codes i front items b.
    let word = rw c.in-Some-Begin.field-0-is at c.in-Some-Begin.ensures in
    let s = c.in-Some-Begin.section in
    let closed = sym c.is_some.ensures ∙ c.if-is_some.false in
    own_given codes i front items c.args.feed.now c.args.regs.now (regs_after c.args.regs.now (item.Begin s)) (BodyItem.Begin (model_section s)) b
    (begin_passes codes (phrases_of b.placed) (token_of c.args.feed.now).bytes c.args.regs.now
    (known_so_far codes i front items c.args.feed.now c.args.regs.now b) (model_section s) (sym c.token.ensures ∙ word) closed)
    (known_begin items c.args.regs.now s closed b.known)

pub returns-then-is_some-2-clause-reads : goal.returns-then-is_some-2-clause-reads
returns-then-is_some-2-clause-reads g c = λ codes i front items b.
    let word = rw c.in-Some-End.field-0-is at c.in-Some-End.ensures in
    let inside = sym c.is_some-in-Some-End.ensures ∙ c.if-is_some-2.true in
    own_given codes i front items c.args.feed.now c.args.regs.now (regs_after c.args.regs.now item.End) BodyItem.End b
    (end_passes codes (phrases_of b.placed) (token_of c.args.feed.now).bytes c.args.regs.now
    (known_so_far codes i front items c.args.feed.now c.args.regs.now b) (sym c.token.ensures ∙ word) inside)
    (known_end items c.args.regs.now inside b.known)

pub returns-in_ok-skip_comment-in-Some-Comment-clause-reads : goal.returns-in_ok-skip_comment-in-Some-Comment-clause-reads
returns-in_ok-skip_comment-in-Some-Comment-clause-reads g c = λ codes i front items b.
    let word = rw c.in-Some-Comment.field-0-is at c.in-Some-Comment.ensures in
    let e = sym c.token.ensures ∙ word in
    let p = c.in_ok-skip_comment-in-Some-Comment.ensures.reads codes i front b.placed (comment_begun codes i front items c.args.feed.now c.args.regs.now b e) in
    none_given codes i front items c.args.feed.now c.skip_comment.new.feed c.args.regs.now p.0 b p.1

pub returns-else-is_some-2-clause-reads : goal.returns-else-is_some-2-clause-reads
returns-else-is_some-2-clause-reads g c = λ codes i front items b.
    let word = rw c.in-Some-End.field-0-is at c.in-Some-End.ensures in
    refused_first codes i front items c.args.feed.now c.args.regs.now 4 b
    (end_outside codes (phrases_of b.placed) (token_of c.args.feed.now).bytes c.args.regs.now
    (known_so_far codes i front items c.args.feed.now c.args.regs.now b) (sym c.token.ensures ∙ word) (sym c.is_some-in-Some-End.ensures
    ∙ c.if-is_some-2.false))

pub returns-in-Some-OfHeader-clause-reads : goal.returns-in-Some-OfHeader-clause-reads
returns-in-Some-OfHeader-clause-reads g c = λ codes i front items b.
    let word = rw c.in-Some-OfHeader.field-0-is at c.in-Some-OfHeader.ensures in
    refused_first codes i front items c.args.feed.now c.args.regs.now 4 b (of_header codes (phrases_of b.placed) (token_of c.args.feed.now).bytes word.0 (sym c.token.ensures ∙ word.1) word.2)

pub returns-in-None-clause-reads : goal.returns-in-None-clause-reads
returns-in-None-clause-reads g c = λ codes i front items b.
    refused_first codes i front items c.args.feed.now c.args.regs.now 3 b
    (no_phrase codes (phrases_of b.placed) (token_of c.args.feed.now).bytes c.requires.begins (ap keyword_of (sym c.token.ensures)
    ∙ c.in-None.ensures))

pub returns-in_err-skip_comment-in-Some-Comment-clause-ahead : goal.returns-in_err-skip_comment-in-Some-Comment-clause-ahead
returns-in_err-skip_comment-in-Some-Comment-clause-ahead g c = λ no.
    let word = rw c.in-Some-Comment.field-0-is at c.in-Some-Comment.ensures in
    absurd (not_comment _ (sym c.token.ensures ∙ word) no)

pub returns-in_ok-skip_comment-in-Some-Comment-clause-ahead : goal.returns-in_ok-skip_comment-in-Some-Comment-clause-ahead
returns-in_ok-skip_comment-in-Some-Comment-clause-ahead g c = λ no.
    let word = rw c.in-Some-Comment.field-0-is at c.in-Some-Comment.ensures in
    absurd (not_comment _ (sym c.token.ensures ∙ word) no)
