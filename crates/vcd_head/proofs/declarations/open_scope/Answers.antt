use Rattle.vcd_head.proofs.Cited.{◌≡◌, ◌^◌, ◌<◌, [], ◌∷◌, ◌++◌, length, suc, refl, sym, ap, subst, ◌∙◌, arith, Declaration, declarations_of}
use Rattle.vcd_head.proofs.Facts.{scope_declared, scope_narrow, holds_declared, room}
use Rattle.vcd_view.specs.declared.view.Kind.TheVariants as kind
use Rattle.vcd_head.proofs.declarations.open_scope.Goals as goal

pub returns-clause-opens : goal.returns-clause-opens
returns-clause-opens c = λ most ps h start.
    let d = c.args.draft.now in
    let ds = declarations_of ps in
    let type = c.args.type_text.now in
    let name = c.args.name.now in
    let len : c.len.result ≡ suc (length d.rows.items) = omega (arith, c.in_ok-push.ensures.len) in
    let from : c.len-start.result ≡ length d.text.items = omega arith in
    holds_declared most d _ ps (Declaration.Scope type name) h
    (scope_declared most d _ ds type name _ h.declares (room most ps kind.Scope start)
    (c.in_ok-extend_from_slice-2.ensures.items ∙ ap (λ t. t ++ name) c.in_ok-extend_from_slice.ensures.items)
    (c.in_ok-push.ensures.items (record {
      parent = subst (λ n. n < 2 ^ 32) (sym c.parent-parent.ensures)
          (scope_narrow most d ds h.declares);
      code = omega arith;
    })) refl
    (c.in_ok-push-2.ensures.items ∙ ap (λ n. d.scopes.items ++ n ∷ []) len)
    (λ j. record { kind = kind.Scope; parent = c.parent-parent.ensures j; start = from j; word = length type; name = length name; all = length name; code = 0 }))
    refl refl refl
