use Rattle.vcd_view.proofs.Cited.{◌≡◌, ◌<◌, Some, bit_xor, slice_get, sym, ap, ◌∙◌, arith, get_or_default_zero, slice_get-get_or, AreBytes, key_in}
use Rattle.vcd_view.proofs.Facts.{entry_found, found_at, text_within, code_of_shown, are_bytes, same_key, bytes_at_place, key_below}
use Rattle.vcd_view.proofs.look_up.find_in_entry.Goals as goal

pub returns-then-entry-key-clause-found : goal.returns-then-entry-key-clause-found
returns-then-entry-key-clause-found c = λ h v.
    let text = c.args.view.text.now in
    let e = c.in_ok-entry.entry.now in
    let at = bit_xor c.entry_of-own.result c.args.other in
    let there : slice_get c.args.view.entries.now at ≡ Some e = let l = c.in_ok-entry.ensures.lookup in slice_get-get_or c.args.view.entries.now at e l.3.0 ∙ ap Some (sym (l.3.1 e)) in
    let own : AreBytes c.args.code.now = are_bytes c.args.code.now (λ i d l. rw (get_or_default_zero c.args.code.now i d l) (let fit = c.type_inv.code i in omega (arith, fit))) in
    let told = entry_found text c.args.view.codes.now c.args.view.entries.now at e c.key_of-key.result c.args.view.right there c.if-key-eq0.false
    (omega (arith, c.key_of-key.ensures, key_below c.args.code.now own)) c.if-entry-key.true in
    let k = code_of_shown text c.args.view.codes.now h.codes e.position told.0 v.codes told.1 in
    let read = text_within text told.0.start told.0.len k.2.within ∙ k.2.text_is in
    let equal : key_in c.args.code.now ≡ key_in k.0.text = sym c.key_of-key.ensures ∙ told.2 ∙ ap key_in read in
    let bytes : AreBytes k.0.text = bytes_at_place h.codes e.position k.0 v.texts k.1 in
    let some : 0 < key_in c.args.code.now = omega (arith, c.if-key-eq0.false, c.key_of-key.ensures) in
    found_at h.codes c.args.view.index.now c.args.code.now e.position k.0 v.index k.1 (same_key c.args.code.now k.0.text own bytes equal some)

pub returns-then-entry-key-clause-sized : goal.returns-then-entry-key-clause-sized
returns-then-entry-key-clause-sized c =
    let e = c.in_ok-entry.entry.now in
    let at = bit_xor c.entry_of-own.result c.args.other in
    let there : slice_get c.args.view.entries.now at ≡ Some e = let l = c.in_ok-entry.ensures.lookup in slice_get-get_or c.args.view.entries.now at e l.3.0 ∙ ap Some (sym (l.3.1 e)) in
    let own : AreBytes c.args.code.now = are_bytes c.args.code.now (λ i d l. rw (get_or_default_zero c.args.code.now i d l) (let fit = c.type_inv.code i in omega (arith, fit))) in
    let told = entry_found c.args.view.text.now c.args.view.codes.now c.args.view.entries.now at e c.key_of-key.result c.args.view.right there c.if-key-eq0.false
    (omega (arith, c.key_of-key.ensures, key_below c.args.code.now own)) c.if-entry-key.true in
    (told.0, told.1, told.3)
