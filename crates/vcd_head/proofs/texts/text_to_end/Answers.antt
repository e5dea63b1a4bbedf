use Rattle.vcd_head.proofs.Cited.{◌≡◌, ◌∷◌, [], sym, ap, ◌∙◌, ◌++◌, err_from_is_err_and, token_of, join_with_byte, spaced}
use Rattle.vcd_head.proofs.Facts.{faultless, ends_at_once, one_first, runs_behind, ends_behind}
use Rattle.vcd_head.proofs.texts.text_to_end.Goals as goal

pub returns-in_err-next_ends-clause-reads : goal.returns-in_err-next_ends-clause-reads
returns-in_err-next_ends-clause-reads g c =
    let p = err_from_is_err_and c.from_residual.result c.from_residual.ensures.1 in
    rw (p.1, p.2) (λ most i placed before runs r. c.in_err-next_ends.ensures.reads most i placed before r)

pub returns-then-branch-clause-reads : goal.returns-then-branch-clause-reads
returns-then-branch-clause-reads g c = λ most i placed before runs r.
    ends_at_once most i placed before c.next_ends.new.feed {Grows = λ inner. c.new-text.result.items ≡ join_with_byte 32 inner}
    (sym c.in_ok-next_ends.ensures.end ∙ c.if-branch.true) (c.in_ok-next_ends.ensures.reads most i placed before r) c.new-text.ensures.items

pub returns-in_err-extend_from_slice-clause-reads : goal.returns-in_err-extend_from_slice-clause-reads
returns-in_err-extend_from_slice-clause-reads g c =
    let p = err_from_is_err_and c.from_residual-in_err-extend_from_slice.result c.from_residual-in_err-extend_from_slice.ensures.1 in
    rw (p.1, p.2) (λ most i placed before runs r.
    faultless most i placed before (token_of c.next_ends.new.feed).bytes c.next_ends.new.feed
    (one_first most i placed before c.next_ends.new.feed runs (sym c.in_ok-next_ends.ensures.end ∙ c.if-branch.false) (c.in_ok-next_ends.ensures.reads most i placed before r)))

pub returns-in_err-append_to_end-clause-reads : goal.returns-in_err-append_to_end-clause-reads
returns-in_err-append_to_end-clause-reads g c =
    let p = err_from_is_err_and c.from_residual-in_err-append_to_end.result c.from_residual-in_err-append_to_end.ensures.1 in
    rw (p.1, p.2) (λ most i placed before runs r.
    let t = (token_of c.next_ends.new.feed).bytes in
    let n = sym c.in_ok-next_ends.ensures.end ∙ c.if-branch.false in
    c.in_err-append_to_end.ensures.reads most i placed (before ++ t ∷ []) (runs_behind most placed before t n runs)
    (one_first most i placed before c.next_ends.new.feed runs n (c.in_ok-next_ends.ensures.reads most i placed before r)))

pub returns-clause-reads : goal.returns-clause-reads
returns-clause-reads g c = λ most i placed before runs r.
    let t = (token_of c.next_ends.new.feed).bytes in
    let n = sym c.in_ok-next_ends.ensures.end ∙ c.if-branch.false in
    let h = c.in_ok-append_to_end.ensures.reads most i placed (before ++ t ∷ []) (runs_behind most placed before t n runs)
    (one_first most i placed before c.next_ends.new.feed runs n (c.in_ok-next_ends.ensures.reads most i placed before r)) in
    ends_behind most i placed before t c.append_to_end.new.feed c.append_to_end.new.text.items n (record {
      inner = h.inner;
      none = h.none;
      token_read = h.token_read;
      ends = h.ends;
      grows = h.grows ∙ ap (λ x. x ++ spaced h.inner) (c.in_ok-extend_from_slice.ensures.items ∙ ap (λ x. x ++ c.token.result.now) c.new-text.ensures.items ∙ c.token.ensures);
    })
