use Rattle.std.proofs.Common.{◌≡◌, ◌∙◌, ◌+◌, Some, ap, arith, slice_get, subst, sym, take, true}
use Rattle.std.proofs.lemmas.List.{take_all}
use Rattle.vcd_model.specs.Declarations.{Declaration}
use Rattle.vcd_view.proofs.RowLemmas.{rows_len}
use Rattle.vcd_strobe.proofs.LineSteps.{there_below}
use Rattle.vcd_strobe.proofs.NamedSteps.{HasFirst, all_first, apart_first, found_first, its_variable, none_first, other_first, same_first}
use Rattle.vcd_strobe.proofs.TaskSteps.{view_distinct}
use Rattle.vcd_strobe.specs.Named.{has_path}
use Rattle.vcd_strobe.proofs.named.row_at.Goals as goal
use Rattle.vcd_strobe.proofs.named.row_at.Goals.{in-None, in-Some+else-code_of}

pub loop-row-init : goal.loop-row-init
loop-row-init c = λ h views. none_first h c.args.path.now

pub loop-row-preserved-then-not-has_path : goal.loop-row-preserved-then-not-has_path
loop-row-preserved-then-not-has_path c = λ h views.
    let many = rows_len _ _ _ _ _ views.rows in
    let d = there_below h.declarations c.loop-row.row (omega (arith, many)) in
    other_first h c.args.path.now c.loop-row.row c.loop-row.first d.0 d.1 (sym (c.has_path.ensures h d.0 views d.1) ∙ c.if-not-has_path.true)
    (c.loop-row.invariant h views)

pub returns-then-code_of : goal.returns-then-code_of
returns-then-code_of c = λ h views.
    let many = rows_len _ _ _ _ _ views.rows in
    let path = c.args.path.now in
    let n = c.loop-row.row in
    let d = there_below h.declarations n (omega (arith, many)) in
    let its : has_path (take n h.declarations) path d.0 ≡ true = sym (c.has_path.ensures h d.0 views d.1) ∙ c.if-not-has_path.false in
    let v = its_variable h path n d.0 its in
    let at : slice_get h.declarations n ≡ Some (Declaration.Var v.0) = d.1 ∙ ap Some v.1 in
    let e : has_path (take n h.declarations) path (Declaration.Var v.0) ≡ true = ap (has_path (take n h.declarations) path) (sym v.1) ∙ its in
    let has : HasFirst h path n (Some c.in-Some.one) = subst (HasFirst h path n) c.in-Some.is (c.loop-row.invariant h views) in
    apart_first h path n v.0 at e c.in-Some.one c.code_of.result c.code_of-in-Some.result has (c.code_of.ensures h has.0 views has.2)
    (c.code_of-in-Some.ensures h v.0 views at) (view_distinct c.args.view h views) c.if-code_of.true

pub loop-row-preserved : goal.loop-row-preserved
loop-row-preserved c = λ h views.
    let many = rows_len _ _ _ _ _ views.rows in
    let path = c.args.path.now in
    let n = c.loop-row.row in
    let d = there_below h.declarations n (omega (arith, many)) in
    let its : has_path (take n h.declarations) path d.0 ≡ true = sym (c.has_path.ensures h d.0 views d.1) ∙ c.if-not-has_path.false in
    let v = its_variable h path n d.0 its in
    let at : slice_get h.declarations n ≡ Some (Declaration.Var v.0) = d.1 ∙ ap Some v.1 in
    let e : has_path (take n h.declarations) path (Declaration.Var v.0) ≡ true = ap (has_path (take n h.declarations) path) (sym v.1) ∙ its in
    elim c.match-first.branch [
      | in-None w ↦ subst (HasFirst h path (n + 1)) (sym w.first-is) (found_first h path n v.0 at e (subst (HasFirst h path n) w.in-None.is (c.loop-row.invariant h views)))
      | in-Some+else-code_of w ↦
          let has : HasFirst h path n (Some w.in-Some.one) = subst (HasFirst h path n) w.in-Some.is (c.loop-row.invariant h views) in
          subst (HasFirst h path (n + 1)) (sym w.first-is)
          (same_first h path n v.0 at e w.in-Some.one w.code_of.result w.code_of-in-Some.result has (w.code_of.ensures h has.0 views has.2)
          (w.code_of-in-Some.ensures h v.0 views at) w.if-code_of.false)
    ]

pub returns : goal.returns
returns c = λ h views.
    let many = rows_len _ _ _ _ _ views.rows in
    all_first h c.args.path.now c.loop-row.row c.loop-row.first (take_all c.loop-row.row h.declarations (omega (arith, many))) (c.loop-row.invariant h views)
