use Rattle.vcd_head.proofs.Cited.{true, false, sym, ap, subst, ◌∙◌, [], ◌∷◌, ◌++◌, EntersKey, code_with, is_declared_as, length}
use Rattle.vcd_head.proofs.Facts.{all_bytes, entered_known, entered_new, entered_other}
use Rattle.vcd_head.proofs.code_place.enter_code.Goals as goal

pub returns-then-new-clause-codes : goal.returns-then-new-clause-codes
returns-then-new-clause-codes c = λ ds v h is is_size.
    let bytes = c.args.bytes.now in
    let before = c.args.known.now in
    let position = c.in_ok-position.position in
    let e : EntersKey bytes before c.enter_key.new.known position true = subst (EntersKey bytes before c.enter_key.new.known position) c.if-new.true (c.in_ok-position.ensures.enters h.rises) in
    entered_new c.args.text.now.items before _ ds v bytes c.args.size c.args.event position h is (all_bytes bytes c.type_inv.bytes)
    c.add_code.new.text.items is_size e.rises e.entered c.in_ok-add_code.ensures.text (c.in_ok-add_code.ensures.listed
    ∙ ap (λ l. l ++ code_with (length c.args.text.now.items) bytes c.args.size c.args.event ∷ []) e.list)

pub returns-then-not-is_declared_as-clause-codes : goal.returns-then-not-is_declared_as-clause-codes
returns-then-not-is_declared_as-clause-codes c = λ ds v h is is_size.
    let bytes = c.args.bytes.now in
    let before = c.args.known.now in
    let position = c.in_ok-position.position in
    let e : EntersKey bytes before c.enter_key.new.known position false = subst (EntersKey bytes before c.enter_key.new.known position) c.if-new.false (c.in_ok-position.ensures.enters h.rises) in
    let told = ap (λ l. is_declared_as l position c.args.size c.args.event) (sym e.list ∙ sym c.deref.ensures.value) ∙ sym c.is_declared_as.ensures in
    entered_other c.args.text.now.items before c.enter_key.new.known ds v bytes c.args.size c.args.event position h is
    (all_bytes bytes c.type_inv.bytes) e.rises e.entered e.list (told ∙ c.if-not-is_declared_as.true)

pub returns-clause-codes : goal.returns-clause-codes
returns-clause-codes c = λ ds v h is is_size.
    let bytes = c.args.bytes.now in
    let before = c.args.known.now in
    let position = c.in_ok-position.position in
    let e : EntersKey bytes before c.enter_key.new.known position false = subst (EntersKey bytes before c.enter_key.new.known position) c.if-new.false (c.in_ok-position.ensures.enters h.rises) in
    let told = ap (λ l. is_declared_as l position c.args.size c.args.event) (sym e.list ∙ sym c.deref.ensures.value) ∙ sym c.is_declared_as.ensures in
    entered_known c.args.text.now.items before c.enter_key.new.known ds v bytes c.args.size c.args.event position h is
    (all_bytes bytes c.type_inv.bytes) e.rises e.entered e.list (told ∙ c.if-not-is_declared_as.false)
