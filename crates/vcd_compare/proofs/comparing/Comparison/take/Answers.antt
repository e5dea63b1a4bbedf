use Rattle.vcd_compare.proofs.Cited.{◌≡◌, ℕ, true, List, [], ◌∷◌, ◌++◌, Option, refl, sym, ap, subst, ◌∙◌, same_Some, bytes_eq-Decides, gives_to, BodyItem, marks, Code, code_at, HasGoodText, IsItem, Item, AreTriggers, arith, model_asked, slice_get_within}
use Rattle.vcd_compare.proofs.Facts.{compares_still, compares_with, marks_changed, open_same, other_quiet, same_time, triggers_after}
use Rattle.vcd_compare.proofs.comparing.Comparison.take.Goals as goal

pub returns-in_default : goal.returns-in_default
returns-in_default c = record {
  ready = c.requires.ready;
  same = record { pairs = refl; asked = refl };
  on = λ w h exceptions ns items x views is before after stands.
      let quiet = other_quiet h.codes c.args.text.now c.args.item x c.requires.other c.in_default.not-Change is in
      (compares_still h exceptions ns items x c.args.self.now w stands quiet.0 quiet.1, open_same h exceptions ns items x c.args.self.now w stands quiet.0);
}

pub returns-clause-ready : goal.returns-clause-ready
returns-clause-ready c =
    let ready = c.requires.ready in
    let last = ready.rows.last in
    record {
      listed = c.touch.ensures.listed;
      laid = c.set_shortest.ensures.keeps.laid ready.laid;
      rows = record { linked = ready.rows.linked; last = omega (arith, last, c.touch.ensures.many); room = ready.rows.room };
    }

pub returns-clause-on : goal.returns-clause-on
returns-clause-on c = λ w h exceptions ns items x views is before after stands.
    let v = c.args.view in
    let own = c.args.self.now in
    let code = c.in-Change.code in
    let change = subst (λ (i : Item). IsItem h.codes c.args.text.now i x) c.in-Change.is is in
    let a = change.0 in
    let other : marks (x ∷ []) ≡ [] = ap (λ (y : BodyItem). marks (y ∷ [])) change.2 in
    let gives : gives_to a x ≡ true = ap (gives_to a) change.2 ∙ (bytes_eq-Decides a.text a.text).1 refl in
    let m = code_at v.text.now v.codes.now h.codes code a views.codes change.1 in
    let declared : m.0 ≡ c.in-Some.declared = same_Some m.0 c.in-Some.declared (sym m.1 ∙ sym c.in-Some.ensures) in
    let event = ap (λ (k : Code). k.event) (sym declared) ∙ m.2.event_is in
    let triggers = subst (λ (ts : List (Option ℕ)). AreTriggers ts h (items ++ x ∷ [])) (sym c.note_trigger.ensures)
    (triggers_after v h views items x code a change.1 gives (same_time items x other) c.args.regs before own.current.triggers.now c.in-Some.declared.event event stands.current.triggers) in
    let good = subst (λ (i : Item). HasGoodText v.codes.now c.args.text.now i) c.in-Change.is c.requires.sound in
    let held = c.set_shortest.ensures.held v h items x views good change stands.current.held in
    let touches = c.touch.ensures.touches stands.pairs.linked (let low = slice_get_within h.codes code a change.1 in let many = stands.pairs.codes in omega (arith, low, many)) stands.skips in
    let flags = marks_changed v h views own.current.pairs.now (model_asked own.current.asked exceptions) items x code a change.1 gives other own.touched.marks.now c.touch.new.touched.marks.now
    touches.0 stands.flags in (
      compares_with h exceptions ns items x own w stands other _ w refl refl refl (record { views = stands.current.views; held = held; triggers = triggers }) flags touches.1,
      open_same h exceptions ns items x own w stands other,
    )
