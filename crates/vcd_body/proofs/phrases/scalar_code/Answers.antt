use Rattle.vcd_body.proofs.Cited.{◌==◌, Some, None, drop, length, subst, sym, ap, ◌∙◌, Finds, Names}
use Rattle.vcd_body.proofs.Facts.{filled, empty, some_of, no_code, unknown_code, scalar_passes, first_byte, found_named}
use Rattle.vcd_body.proofs.phrases.scalar_code.Goals as goal

pub after_first-code-requires : goal.after_first-code-requires
after_first-code-requires c = let b = c.requires.begins in some_of _ _ _ b.3

pub returns-then-is_empty-clause-refuses : goal.returns-then-is_empty-clause-refuses
returns-then-is_empty-clause-refuses c = λ h earlier v. (
  λ x. cc,
  no_code h.codes earlier c.args.token.now c.requires.begins
      (empty (drop 1 c.args.token.now) (ap (λ l. length l == 0) (sym c.after_first-code.ensures) ∙ sym c.is_empty.ensures ∙ c.if-is_empty.true)),
)

pub returns-in-Some-clause-finds : goal.returns-in-Some-clause-finds
returns-in-Some-clause-finds c =
    let token = c.args.token.now in
    let b = c.requires.begins in
    let text = c.after_first-code.ensures in
    let x = c.in-Some.ensures.sized in
    record {
      code = λ h earlier v.
          let f = subst (λ t. Finds h.codes t (Some c.in-Some.found.position)) text (c.in-Some.ensures.found h v) in
          (f.0, f.1, scalar_passes h.codes earlier token b f.0 (filled (drop 1 token) (ap (λ l. length l == 0) (sym text) ∙ sym c.is_empty.ensures ∙ c.if-is_empty.false)) f.2);
      sound = (x.0, x.1, (b.0, b.2, first_byte token b.0 b.1 b.3));
      names = subst (Names c.args.view c.in-Some.found.position) text (found_named c.args.view c.in-Some.found.position c.after_first-code.result.now c.in-Some.ensures.found);
      sized = x;
    }

pub returns-in-None-clause-refuses : goal.returns-in-None-clause-refuses
returns-in-None-clause-refuses c = λ h earlier v.
    let f = subst (λ t. Finds h.codes t None) c.after_first-code.ensures (c.in-None.ensures.found h v) in (
      λ x. cc,
      unknown_code h.codes earlier c.args.token.now c.requires.begins
          (filled (drop 1 c.args.token.now) (ap (λ l. length l == 0) (sym c.after_first-code.ensures) ∙ sym c.is_empty.ensures ∙ c.if-is_empty.false)) f,
    )
