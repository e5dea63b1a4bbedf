use Rattle.vcd_body.proofs.Cited.{[], ◌∷◌, ◌++◌, refl, ap, subst, sym, ◌∙◌, Token, bytes_of, longest_of, passed_of, start_of, Passed, line_ahead}
use Rattle.vcd_body.proofs.Facts.{passed_on, words_more}
use Rattle.vcd_body.proofs.phrases.words_len.Goals as goal

pub words-init : goal.words-init
words-init c = (refl, refl, λ lines. ([], tt, c.requires))

pub words-preserved : goal.words-preserved
words-preserved c =
    let inv = c.words.invariant in
    let takes = c.in-Some.ensures.takes in
    let a = c.words.next in
    let b = c.word_ahead.new.ahead in
    let limit = longest_of c.args.ahead in
    let bytes = bytes_of c.args.ahead in (
      takes.same.0 ∙ inv.0,
      takes.same.1 ∙ inv.1,
      λ lines.
          let so_far = inv.2 lines in
          let t : Token = record { bytes = c.in-Some.field-0.now; line = line_ahead lines (bytes_of a) (start_of b c.in-Some.field-0.now) } in
          (so_far.0 ++ t ∷ [], words_more so_far.0 t so_far.1 c.in-Some.ensures.word, passed_on limit lines bytes a b c.in-Some.field-0.now inv.1 inv.0 so_far.0 takes so_far.2),
    )

pub returns : goal.returns
returns c = λ lines.
    let inv = c.words.invariant in
    let so_far = inv.2 lines in (
      so_far.0,
      so_far.1,
      subst (λ n. Passed (longest_of c.args.ahead) lines (bytes_of c.args.ahead) n so_far.0)
          (ap passed_of (sym (c.word_ahead.ensures.none c.in_default.is)) ∙ sym c.passed.ensures.passed) so_far.2,
    )
