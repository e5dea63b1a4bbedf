use Rattle.vcd_compare.proofs.Cited.{[], cond, take, refl, rules, Declaration, path_of, counted, tail_of}
use Rattle.vcd_compare.proofs.Facts.{name_line, name_texts, texts_cut, texts_last, texts_more, texts_none}
use Rattle.vcd_compare.proofs.lines.put_name.Goals as goal

pub returns-in_err-put_path : goal.returns-in_err-put_path
returns-in_err-put_path g c = counted (search rules) (λ h name v views at.
    let path = path_of (take c.args.row h.declarations) (Declaration.Var v) in
    let tail = cond c.args.ranged (tail_of v) [] in
    let ts = name_texts path tail in
    texts_cut _ _ _ ts 0 _ refl (texts_none ts _) c.from_residual.result _
    (name_line c.args.ranged at.path path tail name v at.at.path_is refl at.name_is) c.from_residual.ensures.0
    (c.in_err-put_path.ensures.takes h (Declaration.Var v) views at.at.declared))

pub returns : goal.returns
returns g c = counted (search rules) (λ h name v views at.
    let path = path_of (take c.args.row h.declarations) (Declaration.Var v) in
    let tail = c.shown_tail.result.now in
    let ts = name_texts path tail in
    texts_last _ _ _ ts 1 _ refl (texts_more _ _ _ ts 0 _ refl (texts_none ts _)
    (c.in_ok-put_path.ensures.takes h (Declaration.Var v) views at.at.declared)) c.put_without_blanks.result _
    (name_line c.args.ranged at.path path tail name v at.at.path_is (c.shown_tail.ensures h v views at.at.declared) at.name_is)
    refl c.put_without_blanks.ensures.0)
