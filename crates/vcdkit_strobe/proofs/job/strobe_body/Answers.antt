use Rattle.std.proofs.Common.{◌≡◌, ◌∙◌, Err, ap, length, map, refl, rules, slice_get, string_bytes, subst, sym}
use Rattle.std.proofs.lemmas.List.{with_items_is}
use Rattle.std.proofs.lemmas.Slice.Zip.{AllZip-long}
use Rattle.vcd_head.specs.Marks.{AreFlags, marks_of}
use Rattle.vcd_model.specs.Selection.{first_unmatched}
use Rattle.vcd_model.specs.Strobe.{clocks_of, no_clock}
use Rattle.vcd_view.specs.Views.{IsCode}
use Rattle.vcd_strobe.specs.Clocks.{AreClocks}
use Rattle.vcd_strobe.specs.Named.{model_name}
use Rattle.vcd_strobe.specs.Strobes.{AreFresh}
use Rattle.vcd_job.proofs.AfterLemmas.{no_room}
use Rattle.vcd_job.specs.declared.failure.Failure.TheVariants.{OutOfMemory}
use Rattle.vcdkit_strobe.proofs.EndLemmas.{unclocked, unmatched}
use Rattle.vcdkit_strobe.specs.Calls.{speech_in}
use Rattle.vcdkit_strobe.specs.Work.{work_in}
use Rattle.vcdkit_strobe.proofs.job.strobe_body.Goals as goal

pub returns-in_err-head-clause-ends : goal.returns-in_err-head-clause-ends
returns-in_err-head-clause-ends g c = λ h i front name views given.
    let e : c.from_residual.result ≡ Err OutOfMemory = search rules in
    rw e (no_room (work_in c.args.job.now) (speech_in c.args.job.now) _ _ i front h name _ c.args.feed.now _ refl given)

pub returns-in_err-codes-clause-ends : goal.returns-in_err-codes-clause-ends
returns-in_err-codes-clause-ends g c = λ h i front name views given.
    let e : c.from_residual-in_err-codes.result ≡ Err OutOfMemory = search rules in
    rw e (no_room (work_in c.args.job.now) (speech_in c.args.job.now) _ _ i front h name _ c.args.feed.now _ refl given)

pub returns-in_err-memory-clause-ends : goal.returns-in_err-memory-clause-ends
returns-in_err-memory-clause-ends g c = λ h i front name views given.
    let e : c.from_residual-in_err-memory.result ≡ Err OutOfMemory = search rules in
    rw e (no_room (work_in c.args.job.now) (speech_in c.args.job.now) _ _ i front h name _ c.args.feed.now _ refl given)

pub returns-in-Err-clause-ends : goal.returns-in-Err-clause-ends
returns-in-Err-clause-ends g c = λ h i front name views given.
    let clocks : c.args.job.now.clocks.items ≡ c.deref.result.now = search rules in
    let found = c.in-Err.ensures.finds h views in
    unclocked c.args.job.now _ _ i front h name _ c.args.feed.now _ refl given c.in-Err.index c.in-Err.why found.0
    (ap (λ l. slice_get (map model_name l) c.in-Err.index) clocks ∙ found.1) (ap (λ l. no_clock h (map model_name l)) clocks ∙ found.2)

pub returns-in-Err-select-clause-ends : goal.returns-in-Err-select-clause-ends
returns-in-Err-select-clause-ends g c = λ h i front name views given.
    let clocks : c.args.job.now.clocks.items ≡ c.deref.result.now = search rules in
    let names : c.args.job.now.names.items ≡ c.deref-2.result.now = search rules in
    unmatched c.args.job.now _ _ i front h name _ c.args.feed.now _ refl given c.in-Err-select.name
    (ap (λ l. no_clock h (map model_name l)) clocks ∙ (c.in_default.ensures.finds h views).0)
    (ap (λ l. first_unmatched (map string_bytes l) h.declarations) names ∙ c.in-Err-select.ensures.names h views)

pub strobe_in-requires-clause-selected : goal.strobe_in-requires-clause-selected
strobe_in-requires-clause-selected g c = λ h views.
    let head = c.in_ok-head.head in
    let clocks : c.args.job.now.clocks.items ≡ c.deref.result.now = search rules in
    let names : c.args.job.now.names.items ≡ c.deref-2.result.now = search rules in
    let found = c.in_default.ensures.finds h views in
    let set = with_items_is head.clocks c.find_clocks.new.clocks (c.find_clocks.auto.clocks ∙ c.deref_mut.ensures.len) in
    let marked = with_items_is head.marks c.select.new.marks (c.select.auto.marks ∙ c.deref_mut-2.ensures.len) in
    record {
      clocked = ap (λ l. no_clock h (map model_name l)) clocks ∙ found.0;
      matched = ap (λ l. first_unmatched (map string_bytes l) h.declarations) names ∙ c.in_default-select.ensures.names h views;
      clocks = subst (λ l. AreClocks h.codes l (clocks_of h (map model_name c.args.job.now.clocks.items))) (sym set)
          (subst (λ l. AreClocks h.codes c.find_clocks.new.clocks (clocks_of h (map model_name l))) (sym clocks) found.1);
      marks = marked ∙ c.in_default-select.ensures.marks h views ∙ ap (λ l. marks_of (map string_bytes l) h.declarations) (sym names);
    }

pub strobe_in-requires-clause-places : goal.strobe_in-requires-clause-places
strobe_in-requires-clause-places g c = λ h views.
    let head = c.in_ok-head.head in
    let names : c.args.job.now.names.items ≡ c.deref-2.result.now = search rules in
    let asked = map string_bytes c.deref-2.result.now in
    let marked = with_items_is head.marks c.select.new.marks (c.select.auto.marks ∙ c.deref_mut-2.ensures.len) in
    let flagged = with_items_is head.flags c.flag_codes.new.flags (c.flag_codes.auto.flags ∙ c.deref_mut-3.ensures.len) in
    let set = with_items_is c.in_ok-memory.memory.roles c.set_roles.new.roles (c.set_roles.auto.roles ∙ c.deref_mut-5.ensures.len) in
    let many : length c.deref_mut-5.result.now ≡ length c.args.view.codes.now = search rules in
    let fresh = c.set_roles.ensures.fresh h asked (subst (AreFlags h asked) (sym (c.deref-4.ensures.value ∙ flagged))
    (c.flag_codes.ensures.flags h asked views (c.deref-3.ensures.value ∙ marked ∙ c.in_default-select.ensures.marks h views)))
    (many ∙ sym (AllZip-long (IsCode c.args.view.text.now) c.args.view.codes.now h.codes views.codes)) in (
      c.places_of-places.ensures h views,
      subst (λ l. AreFresh h (map string_bytes l) c.deref_mut-9.result.now) (sym names) (subst (AreFresh h asked) (sym (c.deref_mut-9.ensures.value ∙ set)) fresh),
    )
