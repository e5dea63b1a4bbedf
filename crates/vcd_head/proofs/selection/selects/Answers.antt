use Rattle.vcd_head.proofs.Cited.{◌++◌, List, ℕ, take, sym, ap, ◌∙◌, slice_get_within, Declaration, name_of, selects_path, names_text, selects_after}
use Rattle.vcd_head.proofs.Facts.{match_component}
use Rattle.vcd_head.proofs.NamePaths.{match_first, match_next, match_all}
use Rattle.vcd_head.proofs.selection.selects.Goals as goal

pub loop-scope-init : goal.loop-scope-init
loop-scope-init c = λ h v is at. match_first h c.args.row (Declaration.Var v) c.new-scopes.result _ _ c.as_bytes-rest.ensures.value
    (c.new-scopes.ensures h (slice_get_within h.declarations c.args.row _ at))

pub loop-scope-preserved : goal.loop-scope-preserved
loop-scope-preserved c = λ h v is at.
    let d = Declaration.Var v in
    let m = c.loop-scope.invariant h v is at in
    let n = match_next h c.args.row c.in-Some.scope d c.loop-scope.scopes c.next.new.self _ _ m (c.in-Some.ensures.gives h c.args.row m.rest is m.leaves) in
    record {
      rest = n.others;
      leaves = n.leaves;
      decides = match_component h c.args.row c.in-Some.scope d c.next.new.self _ _ _ c.after_component.result n
          (c.name_of.ensures h n.is.declared is n.is.at) c.after_component.ensures.selects
          ∙ ap (λ k. selects_after k (names_text (take c.args.row h.declarations) n.others ++ name_of d)) c.in-Rest.is;
    }

pub returns-in-Selected : goal.returns-in-Selected
returns-in-Selected c = λ h v is at.
    let d = Declaration.Var v in
    let m = c.loop-scope.invariant h v is at in
    let n = match_next h c.args.row c.in-Some.scope d c.loop-scope.scopes c.next.new.self _ _ m (c.in-Some.ensures.gives h c.args.row m.rest is m.leaves) in
    sym (match_component h c.args.row c.in-Some.scope d c.next.new.self _ _ _ c.after_component.result n
    (c.name_of.ensures h n.is.declared is n.is.at) c.after_component.ensures.selects
    ∙ ap (λ k. selects_after k (names_text (take c.args.row h.declarations) n.others ++ name_of d)) c.in-Selected.is)

pub returns-in-Differs : goal.returns-in-Differs
returns-in-Differs c = λ h v is at.
    let d = Declaration.Var v in
    let m = c.loop-scope.invariant h v is at in
    let n = match_next h c.args.row c.in-Some.scope d c.loop-scope.scopes c.next.new.self _ _ m (c.in-Some.ensures.gives h c.args.row m.rest is m.leaves) in
    sym (match_component h c.args.row c.in-Some.scope d c.next.new.self _ _ _ c.after_component.result n
    (c.name_of.ensures h n.is.declared is n.is.at) c.after_component.ensures.selects
    ∙ ap (λ k. selects_after k (names_text (take c.args.row h.declarations) n.others ++ name_of d)) c.in-Differs.is)

pub returns : goal.returns
returns c = λ h v is at.
    let d = Declaration.Var v in
    let m = c.loop-scope.invariant h v is at in
    c.is_or_goes_on.ensures ∙ ap (λ (l : List ℕ). selects_path l c.loop-scope.rest.now) (c.name_of-2.ensures h d is at)
    ∙ sym (match_all h c.args.row d c.loop-scope.scopes _ _ m (c.in_default.ensures.gives h c.args.row m.rest is m.leaves))
