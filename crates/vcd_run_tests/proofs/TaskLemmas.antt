-- What the two small tasks do with an item.
use Rattle.std.proofs.Common.{◌≡◌, ℕ, Bool, false, List, [], ◌∷◌, ◌++◌, Result, Ok, Err, IfOk, refl, sym, ap, ◌∙◌, ◌||◌, append-nil, flat_map}
use Rattle.std.proofs.Math.Bool.{or-false}
use Rattle.std.proofs.lemmas.List.Concat.{flat_map-append}
use Rattle.std.proofs.lemmas.List.Folds.{list_any-append}
use Rattle.std.specs.Prelude.{⊤}
use Rattle.vcd_model.specs.Cut.{is_mark_above}
use Rattle.vcd_model.specs.Items.{BodyItem}
use Rattle.vcd_text.proofs.Writes.{appends-none}
use Rattle.vcd_text.specs.Device.{Device, Takes}
use Rattle.vcd_run_tests.specs.Plans.{tick, ticking_plan, until_plan}
use Rattle.vcd_run.specs.Plan.{Plan}
use Rattle.vcd_run.specs.Task.{TakesOne}

-- one more item of the first task
pub until_takes : {E : Type 0} (u : ℕ) (p : Plan) (items : List BodyItem) (x : BodyItem) (out : Device) (b : Bool) → p ≡ until_plan u → b ≡ is_mark_above u x → p.ends items ≡ false
    → TakesOne {E = E} (λ (l : List BodyItem). p ≡ until_plan u) (λ (l : List BodyItem) (text : List ℕ). ⊤) p items x out out (Ok b)
until_takes u p items x out b is past on = record {
  due = ([], rw is refl, appends-none out.held);
  ends = past ∙ sym (ap (λ (q : Plan). q.ends (items ++ x ∷ [])) is ∙ list_any-append (is_mark_above u) items (x ∷ [])
      ∙ ap (λ (c : Bool). c || (is_mark_above u x || false)) (ap (λ (q : Plan). q.ends items) (sym is) ∙ on) ∙ or-false (is_mark_above u x));
  keeps_on = λ e. is;
  tells_all = λ e. tt;
}

-- one more item of the second
pub ticking_takes : {E : Type 0} (p : Plan) (items : List BodyItem) (x : BodyItem) (out out' : Device) (result : Result Bool E) → p ≡ ticking_plan
    → Takes out out' (tick x) result → IfOk result (λ b. b ≡ false)
    → TakesOne {E = E} (λ (l : List BodyItem). p ≡ ticking_plan) (λ (l : List BodyItem) (text : List ℕ). ⊤) p items x out out' result
ticking_takes {E = E} p items x out out' result is takes off = record {
  due = (
    tick x,
    ap (λ (q : Plan). q.opens (items ++ x ∷ [])) is ∙ flat_map-append tick items (x ∷ [])
        ∙ ap (λ (l : List ℕ). flat_map tick items ++ l) (append-nil (tick x)) ∙ ap (λ (q : Plan). q.opens items ++ tick x) (sym is),
    takes,
  );
  ends = by_result result off;
  keeps_on = λ e. is;
  tells_all = λ e. tt;
}
  where
    by_result : (r : Result Bool E) → IfOk r (λ b. b ≡ false) → IfOk r (λ b. b ≡ p.ends (items ++ x ∷ []))
    by_result (Ok b) e = e ∙ ap (λ (q : Plan). q.ends (items ++ x ∷ [])) (sym is)
    by_result (Err e) none = tt
