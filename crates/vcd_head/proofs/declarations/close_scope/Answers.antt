use Rattle.vcd_head.proofs.Cited.{◌≡◌, [], ◌∷◌, ◌++◌, refl, arith, Declaration, declarations_of}
use Rattle.vcd_head.proofs.Facts.{closed_narrow, up_declared, holds_declared, popped, room, some_open}
use Rattle.vcd_view.specs.declared.view.Kind.TheVariants as kind
use Rattle.vcd_head.proofs.declarations.close_scope.Goals as goal

pub returns-clause-closes : goal.returns-clause-closes
returns-clause-closes c = λ most ps h start.
    let d = c.args.draft.now in
    let ds = declarations_of ps in
    let closed = c.unwrap_or-closed.result in
    let some = some_open most d ps h start in
    let items : d.scopes.items
    ≡ c.pop.new.self.items ++ closed ∷ [] = popped d.scopes.items c.pop.new.self.items c.pop.result closed _ c.pop.ensures.items c.unwrap_or-closed.ensures
    (c.pop.ensures.value 0 (omega (arith, some))) in
    holds_declared most d _ ps Declaration.Up h
    (up_declared most d _ ds closed _ h.declares (room most ps kind.Up start) refl
    (c.in_ok-push.ensures.items (record { parent = closed_narrow most d ds c.pop.new.self.items closed h.declares items; code = omega arith }))
    refl items refl)
    refl refl refl
