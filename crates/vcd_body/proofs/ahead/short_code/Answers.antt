use Rattle.vcd_body.proofs.Cited.{◌==◌, Some, drop, length, subst, sym, ap, ◌∙◌, Finds, Names}
use Rattle.vcd_body.proofs.Facts.{found_named, scalar_passes, first_byte, filled, some_of}
use Rattle.vcd_body.proofs.ahead.short_code.Goals as goal

pub after_first-code-requires : goal.after_first-code-requires
after_first-code-requires c = let b = c.requires.begins in some_of _ _ _ b.3

pub returns : goal.returns
returns c =
    let token = c.args.token.now in
    let b = c.requires.begins in
    let text = c.after_first-code.ensures in
    let x = c.in_ok-found.ensures.sized in
    record {
      code = λ h earlier v.
          let f = subst (λ t. Finds h.codes t (Some c.in_ok-found.found.position)) text (c.in_ok-found.ensures.found h v) in
          (f.0, f.1, scalar_passes h.codes earlier token b f.0 (filled (drop 1 token) (ap (λ l. length l == 0) (sym text) ∙ sym c.is_empty.ensures ∙ c.if-is_empty.false)) f.2);
      sound = (x.0, x.1, (b.0, b.2, first_byte token b.0 b.1 b.3));
      names = subst (Names c.args.view c.in_ok-found.found.position) text (found_named c.args.view c.in_ok-found.found.position c.after_first-code.result.now c.in_ok-found.ensures.found);
      sized = x;
    }
