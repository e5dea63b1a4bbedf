use Rattle.vcd_head.proofs.Cited.{◌++◌, ◌∷◌, [], map, string_bytes, subst, append_assoc, GoesOn}
use Rattle.vcd_head.proofs.Facts.{goes_both}
use Rattle.vcd_head.proofs.names.Group.follow_scope.Goals as goal

pub returns : goal.returns
returns c = λ front f.
    let names = map string_bytes c.args.self.now.names.now in
    let order = c.args.self.now.order.now in
    let component = c.args.component.now in
    let named = c.follow_bytes-named.ensures front f in
    let new = c.follow_byte.new.matched in
    subst (λ p. GoesOn names order c.args.matched.now new p c.follow_byte.result) (append_assoc front component (46 ∷ []))
    (goes_both names order c.args.matched.now c.follow_bytes-named.new.matched new (front ++ component)
    (46 ∷ []) c.follow_bytes-named.result c.follow_byte.result named (c.follow_byte.ensures (front ++ component) named.follows))
