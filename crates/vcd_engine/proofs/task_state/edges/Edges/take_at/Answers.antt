use Rattle.vcd_engine.proofs.Cited.{get_or, ◌≡◌, List, Some, ap, false, refl, sym, ◌∙◌, slice_get, slice_get-get_or, slice_get_within, Code, IsText, model_form, good_text}
use Rattle.vcd_engine.proofs.Facts.{shown_there}
use Rattle.vcd_model.specs.Items.{Change}
use Rattle.vcd_engine.proofs.task_state.edges.Edges.take_at.Goals as goal

-- what is read if there is no code
abbrev none : Code
none = record { start = 0; size = 0; len = 0; event = false }

pub returns-then-declared-clause-takes : goal.returns-then-declared-clause-takes
returns-then-declared-clause-takes c = λ v h items k same views there opens few is.
    let place = c.args.code in
    let shown = shown_there v h place (get_or c.args.codes.now place none) k views (ap (λ (l : List Code). slice_get l place) same
    ∙ slice_get-get_or c.args.codes.now place none (slice_get_within c.args.codes.now place c.requires.sound.0 c.requires.sound.1)) there in
    let mark : Change = record { code = k; form = model_form c.args.form; text = c.args.text.now } in record {
      marks_are = is.marks_are;
      tallied = c.count_trigger.ensures.takes v h items k mark views there (shown.1 ∙ c.if-declared.true) refl opens few is.tallied;
    }

pub returns-else-declared-clause-takes : goal.returns-else-declared-clause-takes
returns-else-declared-clause-takes c = λ v h items k same views there opens few is.
    let place = c.args.code in
    let form = c.args.form in
    let text = c.args.text.now in
    let codes = c.args.codes.now in
    let good : (d : Code) → slice_get v.codes.now place ≡ Some d
    → IsText form d text = λ d at. good_text codes text place form d c.requires.sound (ap (λ (l : List Code). slice_get l place) (sym same)
    ∙ at) in
    let shown = shown_there v h place (get_or c.args.codes.now place none) k views (ap (λ (l : List Code). slice_get l place) same
    ∙ slice_get-get_or c.args.codes.now place none (slice_get_within c.args.codes.now place c.requires.sound.0 c.requires.sound.1)) there in
    record {
      marks_are = is.marks_are;
      tallied = c.take_value.ensures.takes v h items k views there (shown.1 ∙ c.if-declared.false) shown.0 good few is.tallied;
    }
