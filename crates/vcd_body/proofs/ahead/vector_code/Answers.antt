use Rattle.vcd_body.proofs.Cited.{◌||◌, nat_le, true, drop, length, sym, ap, ◌∙◌, arith, list_all, is_value_digit, parts}
use Rattle.vcd_body.proofs.Facts.{vector_passes, same_room, vector_sound, found_named}
use Rattle.vcd_body.proofs.ahead.vector_code.Goals as goal

pub returns-then-may_have_digits : goal.returns-then-may_have_digits
returns-then-may_have_digits c =
    let t = c.args.token.now in
    let position = c.in_ok-found.found.position in
    let x = c.in_ok-found.ensures.sized in
    let text = c.in-Ok.ensures.text in
    let long = ap length text in
    let some = c.in-Ok.ensures.digits.0 in
    let takes = sym (c.may_have_digits.ensures x.0 x.1) ∙ c.if-may_have_digits.true in
    let room = ap (λ m. x.0.event || nat_le m x.0.size) (sym long) ∙ takes in
    record {
      code = λ h v.
          let f = c.in_ok-found.ensures.found h v in (
            f.0,
            f.1,
            λ earlier.
                let b = c.in-Ok.ensures.opens h.codes earlier in
                let p = vector_passes h.codes earlier t c.requires.begins c.args.code.now f.0 f.2 (same_room (parts c.args.view) h v position f.0 x.0 (length (drop 1 t)) true f.1 x.1 room) in
                record { begins = b.0; open_after = b.1; goes_on = p.0; whole = p.1 },
          );
      sound = vector_sound c.args.view.codes.now (drop 1 t) position x.0 x.1 (omega (arith, some, long)) (ap (list_all is_value_digit) (sym text) ∙ c.in-Ok.ensures.digits.1) room;
      names = found_named c.args.view position c.args.code.now c.in_ok-found.ensures.found;
      sized = x;
    }
