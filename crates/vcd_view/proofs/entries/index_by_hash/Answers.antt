use Rattle.vcd_view.proofs.Cited.{◌≢◌, subst, ◌∙◌, arith, get_or_default_zero, IfSome_then, IfSome, HasEntry, AreBytes, key_in}
use Rattle.vcd_view.proofs.Facts.{entry_at, are_bytes}
use Rattle.vcd_view.proofs.entries.index_by_hash.Goals as goal

pub returns-in-Some : goal.returns-in-Some
returns-in-Some c =
    let text : AreBytes c.args.text.now = are_bytes c.args.text.now (λ i d l. rw (get_or_default_zero c.args.text.now i d l) (let fit = c.type_inv.text i in omega (arith, fit))) in
    let own : AreBytes c.args.code.now = are_bytes c.args.code.now (λ i d l. rw (get_or_default_zero c.args.code.now i d l) (let fit = c.type_inv.code i in omega (arith, fit))) in
    let some : key_in c.args.code.now ≢ 0 = λ z. c.if-key-eq0.false (c.key_of-key.ensures ∙ z) in
    let has = subst (λ o. IfSome o (λ p. HasEntry c.args.entries.now c.key_of-key.result p)) c.in-Some.is c.index_beside.ensures in
    entry_at c.args.text.now c.args.codes.now c.args.entries.now c.args.code.now c.in-Some.position c.requires.right text own some
    (subst (λ k. HasEntry c.args.entries.now k c.in-Some.position) c.key_of-key.ensures has)

pub returns-in-None : goal.returns-in-None
returns-in-None c =
    let text : AreBytes c.args.text.now = are_bytes c.args.text.now (λ i d l. rw (get_or_default_zero c.args.text.now i d l) (let fit = c.type_inv.text i in omega (arith, fit))) in
    let own : AreBytes c.args.code.now = are_bytes c.args.code.now (λ i d l. rw (get_or_default_zero c.args.code.now i d l) (let fit = c.type_inv.code i in omega (arith, fit))) in
    let some : key_in c.args.code.now ≢ 0 = λ z. c.if-key-eq0.false (c.key_of-key.ensures ∙ z) in
    IfSome_then c.index_of_key.result c.index_of_key.ensures (λ p has.
    entry_at c.args.text.now c.args.codes.now c.args.entries.now c.args.code.now p c.requires.right text own some (subst (λ k. HasEntry c.args.entries.now k p) c.key_of-key.ensures has))
