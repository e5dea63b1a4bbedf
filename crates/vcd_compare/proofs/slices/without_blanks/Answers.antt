use Rattle.vcd_compare.proofs.Cited.{◌==◌, ◌++◌, ◌∷◌, [], not, ℕ, List, get_or, take, filter-append, slice_get-get_or, sym, ap, ◌∙◌, arith, no_blanks, take_all}
use Rattle.vcd_compare.proofs.Facts.{take_one}
use Rattle.vcd_compare.proofs.slices.without_blanks.Goals as goal

pub loop-byte-preserved : goal.loop-byte-preserved
loop-byte-preserved c =
    let text = c.args.text.now in
    let i = c.loop-byte.byte-index in
    let at = slice_get-get_or text i 0 (omega arith) in
    c.in_ok-push_no_blank.ensures ∙ ap (λ (l : List ℕ). l ++ no_blanks (get_or text i 0 ∷ [])) c.loop-byte.invariant
    ∙ sym (ap no_blanks (take_one text i (get_or text i 0) at) ∙ filter-append (λ b. not (b == 32)) (take i text) (get_or text i 0 ∷ []))

pub returns : goal.returns
returns c = c.loop-byte.invariant ∙ ap no_blanks (take_all c.loop-byte.byte-index c.args.text.now (omega (arith, c.loop-byte-test.false)))
