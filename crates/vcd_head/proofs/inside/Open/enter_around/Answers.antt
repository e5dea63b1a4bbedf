use Rattle.vcd_head.proofs.Cited.{map, take, string_bytes, inl, refl, scopes_text}
use Rattle.vcd_head.proofs.Facts.{left_first, left_next, entered_next}
use Rattle.vcd_head.proofs.inside.Open.enter_around.Goals as goal

pub loop-scope-init : goal.loop-scope-init
loop-scope-init c = record {
  left = λ h v l. left_first h c.args.row _ c.innermost-scopes.result (c.innermost-scopes.ensures h l);
  entered = λ h v l are. record { open_scopes = are; notes = λ p name at. inl refl };
}

pub loop-scope-preserved : goal.loop-scope-preserved
loop-scope-preserved c = record {
  left = λ h v l.
      let left = c.loop-scope.invariant.left h v l in
      (left_next h c.args.row c.loop-scope.scopes c.next.new.self c.in-Some.scope left (c.in-Some.ensures.gives h c.args.row left.rest v left.leaves)).left;
  entered = λ h v l are.
      let left = c.loop-scope.invariant.left h v l in
      let next = left_next h c.args.row c.loop-scope.scopes c.next.new.self c.in-Some.scope left (c.in-Some.ensures.gives h c.args.row left.rest v left.leaves) in
      let so_far = c.loop-scope.invariant.entered h v l are in
      entered_next h (map string_bytes c.args.group.now.names.now) c.args.group.now.order.now
      (scopes_text (take c.args.row h.declarations))
      c.args.matched.now c.loop-scope.matched c.enter.new.matched c.loop-scope.self c.enter.new.self c.in-Some.scope next.more so_far
      (c.enter.ensures h v next.within so_far.open_scopes);
}
