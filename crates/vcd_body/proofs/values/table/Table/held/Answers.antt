use Rattle.vcd_body.proofs.Cited.{◌≡◌, true, false, get_or, refl, sym, ap, ◌∙◌, arith, slice_get-get_or, held_by, held_from, len_of}
use Rattle.vcd_body.proofs.Facts.{blank, blank_share, held_here, part_here, share_there}
use Rattle.vcd_body.proofs.values.table.Table.held.Goals as goal

pub returns-then-not-holds_some : goal.returns-then-not-holds_some
returns-then-not-holds_some c = λ laid.
    let t = c.args.self.now in
    let slot = get_or t.slots.now c.args.code blank in
    let share = get_or t.shares.now c.args.code blank_share in
    let at = slice_get-get_or t.slots.now c.args.code blank c.if-code-self.false in
    let there = slice_get-get_or t.shares.now c.args.code blank_share c.if-code-self-2.false in
    let p = share_there t c.args.code slot share c.holding_of-holding.result c.holding_of-holding.ensures laid at there in
    let none = c.if-not-holds_some.ensures.no refl in
    absurd (omega (arith, p.1, none))

pub returns-in_err-rest : goal.returns-in_err-rest
returns-in_err-rest c = λ laid.
    let t = c.args.self.now in
    let slot = get_or t.slots.now c.args.code blank in
    let share = get_or t.shares.now c.args.code blank_share in
    let at = slice_get-get_or t.slots.now c.args.code blank c.if-code-self.false in
    let there = slice_get-get_or t.shares.now c.args.code blank_share c.if-code-self-2.false in
    let p = share_there t c.args.code slot share c.holding_of-holding.result c.holding_of-holding.ensures laid at there in
    let inside : false ≡ true = c.in_err-rest.ensures.lookup.1 (omega (arith, p.0), omega arith) in
    cc

pub returns-in_err-bytes : goal.returns-in_err-bytes
returns-in_err-bytes c = λ laid.
    let t = c.args.self.now in
    let slot = get_or t.slots.now c.args.code blank in
    let share = get_or t.shares.now c.args.code blank_share in
    let at = slice_get-get_or t.slots.now c.args.code blank c.if-code-self.false in
    let there = slice_get-get_or t.shares.now c.args.code blank_share c.if-code-self-2.false in
    let p = share_there t c.args.code slot share c.holding_of-holding.result c.holding_of-holding.ensures laid at there in
    let rest = c.in_ok-rest.ensures.lookup.0 in
    let inside : false ≡ true = c.in_err-bytes.ensures.lookup.1 (omega arith, omega (arith, p.0, rest.3, c.used_by.ensures)) in
    cc

pub returns : goal.returns
returns c = λ laid.
    let t = c.args.self.now in
    let slot = get_or t.slots.now c.args.code blank in
    let share = get_or t.shares.now c.args.code blank_share in
    let at = slice_get-get_or t.slots.now c.args.code blank c.if-code-self.false in
    let there = slice_get-get_or t.shares.now c.args.code blank_share c.if-code-self-2.false in
    let rest = c.in_ok-rest.ensures.lookup.0 in
    let part = c.in_ok-bytes.ensures.lookup.0 in
    held_here t c.args.code slot share at there
    ∙ ap (held_from t.values.now share.start) (sym c.holding_of-holding.ensures)
    ∙ sym (ap (held_by c.holding_of-holding.result.state (len_of c.holding_of-holding.result)) (part_here share.start _ _ t.values.now _ _ rest.2 part.2 c.used_by.ensures))
