use Rattle.vcd_changes.proofs.Cited.{◌+◌, ◌^◌, ◌<◌, sym, arith, is_known}
use Rattle.vcd_changes.proofs.Facts.{fits_extended, number_extended}
use Rattle.vcd_changes.proofs.digits.known_in_all.Goals as goal

pub overflow_add-result : goal.overflow_add-result
overflow_add-result c =
    let xs = c.args.digits.now in
    let fits = fits_extended is_known xs c.requires.most in
    let before = c.known_before.ensures in
    let known = c.requires.known in
    let lt : c.known_before.result + c.args.known < 2 ^ 64 = rw (before, known) fits in
    omega arith

pub returns : goal.returns
returns c =
    let xs = c.args.digits.now in
    rw (c.known_before.ensures, c.requires.known) (sym (number_extended is_known xs c.requires.most))
