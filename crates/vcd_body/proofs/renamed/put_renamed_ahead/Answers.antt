use Rattle.vcd_body.proofs.Cited.{◌∷◌, ◌++◌, [], sym, ap, subst, ◌∙◌, new_code, Puts}
use Rattle.vcd_body.proofs.renamed.put_renamed_ahead.Goals as goal

pub returns-in-Some : goal.returns-in-Some
returns-in-Some g c =
    let p = c.in-Some.ensures in
    let code = new_code c.args.number in
    subst (λ l. Puts (g.W.Sink.device c.args.w.now) (g.W.Sink.device c.put_copied.new.w) l c.put_copied.result)
    (ap (λ l. l ++ (32 ∷ code ++ 10 ∷ [])) p.4 ∙ sym (p.3 code)) c.put_copied.ensures
