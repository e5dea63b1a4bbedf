use Rattle.vcd_head.proofs.Cited.{◌∷◌, option_map, option_and_then, Some, refl, sym, ap, ◌∙◌, err_from_is_err_and, to_z, of_z, w8, first_failed, Keyword, keyword_text, HeaderPhrase, scale_of, phrases_of, token_of, until}
use Rattle.vcd_head.proofs.Facts.{then_ok, begun, ended, scale_asks_end, carried, passed_test, holds_scale, scale_in_range}
use Rattle.vcd_head.proofs.scale.read_timescale.Goals as goal

pub returns-in_err-exponent-clause-reads : goal.returns-in_err-exponent-clause-reads
returns-in_err-exponent-clause-reads g c =
    let p = err_from_is_err_and c.from_residual.result c.from_residual.ensures.1 in
    rw (p.1, p.2) (λ most i b. c.in_err-exponent.ensures.reads most i b.placed (begun most i b.placed Keyword.Timescale c.args.feed.now b.keyword refl refl b.token_read))

pub returns-clause-reads : goal.returns-clause-reads
returns-clause-reads g c = λ most i b.
    let s = c.in_ok-exponent.ensures.reads most i b.placed (begun most i b.placed Keyword.Timescale c.args.feed.now b.keyword refl refl b.token_read) in
    let x = to_z w8 (of_z w8 c.in_ok-exponent.exponent) in
    let f = c.next_end.new.feed in
    let is = s.scale_is ∙ ap Some (sym s.fits) in
    then_ok c.next_end.result _ _ _
    (λ u l. carried most i _ f b.placed (record { phrase = HeaderPhrase.Timescale x; line = (token_of f).line })
    (ended most i b.placed Keyword.Timescale f s.inner (HeaderPhrase.Timescale x) (ap first_failed (s.then_end (token_of f).bytes) ∙ passed_test _ 5 l.1)
    (ap (λ o. option_map HeaderPhrase.Timescale (option_and_then scale_of o)) (until s.inner (token_of f).bytes s.none l.1) ∙ ap (option_map HeaderPhrase.Timescale) is) refl l.0)
    (holds_scale most c.args.draft.now (phrases_of b.placed) (record { exponent = x }) b.holds (scale_in_range s.inner x is)))
    (c.next_end.ensures.reads most i b.placed (keyword_text Keyword.Timescale ∷ s.inner) (scale_asks_end most b.placed s.inner s.then_end) (λ x. x) s.reads)
