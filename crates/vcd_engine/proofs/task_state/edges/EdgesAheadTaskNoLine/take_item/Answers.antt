use Rattle.vcd_engine.proofs.Cited.{◌≡◌, [], ◌∷◌, ◌++◌, Some, is_some, refl, sym, ap, subst, ◌∙◌, slice_get, BodyItem, leaves_open, Code, HasBits, IsSizedItem, HasGoodText, IsItem, IsText, regs_after, Item, Regs, AreEdges, AreTallied, good_text, other_gives}
use Rattle.vcd_engine.proofs.Facts.{section_is, none_on, sized_there, still_tallied}
use Rattle.vcd_engine.proofs.task_state.edges.EdgesAheadTaskNoLine.take_item.Goals as goal

pub returns-in_default-clause-takes : goal.returns-in_default-clause-takes
returns-in_default-clause-takes g c = λ h items before x views known re read few is. (
  ([], refl, none_on _ (g.W.Sink.device c.args._out.now)),
  record {
    marks_are = is.marks_are;
    tallied = still_tallied c.args.self.now.table h items x (other_gives h.codes c.args.scanned.text.now c.args.scanned.item x read c.in_default.not-Change) is.tallied;
  },
)

pub returns-then-scanned-eq0-clause-takes : goal.returns-then-scanned-eq0-clause-takes
returns-then-scanned-eq0-clause-takes g c = λ h items before x views known re read few is.
    let change = subst (λ (i : Item). IsItem h.codes c.args.scanned.text.now i x) c.in-Change.is read in
    let opens : is_some c.args.regs.section ≡ leaves_open items = ap (λ (r : Regs). is_some r.section) (re ∙ ap (regs_after before) c.in-Change.is) ∙ section_is items before known in (
      ([], refl, none_on _ (g.W.Sink.device c.args._out.now)),
      subst (λ (y : BodyItem). AreEdges c.take_at.new.self h (items ++ y ∷ [])) (sym change.2)
          (c.take_at.ensures.takes c.args.view h items change.0 refl views change.1 (c.is_some.ensures ∙ opens) few is),
    )

pub returns-clause-takes : goal.returns-clause-takes
returns-clause-takes g c = λ h items before x views known re read few is.
    let place = c.in-Change.code in
    let form = c.in-Change.form in
    let p = c.args.scanned in
    let text = p.text.now in
    let codes = c.args.view.codes.now in
    let change = subst (λ (i : Item). IsItem h.codes text i x) c.in-Change.is read in
    let sound = subst (λ (i : Item). HasGoodText codes text i) c.in-Change.is c.requires.next.good in
    let sized = subst (λ (i : Item). IsSizedItem codes i p.size_or_zero) c.in-Change.is (c.requires.next.sized c.if-scanned-eq0.false) in
    let good : (d : Code) → slice_get codes place ≡ Some d → IsText form d text = λ d there. good_text codes text place form d sound there in
    let told = sized_there c.args.view h place p.size_or_zero change.0 views sized change.1 c.if-scanned-eq0.false in
    let tallied = c.take_value.ensures.takes c.args.view h items change.0 views change.1 told.1 told.0 good few is.tallied in (
      ([], refl, none_on _ (g.W.Sink.device c.args._out.now)),
      record { marks_are = is.marks_are; tallied = subst (λ (y : BodyItem). AreTallied c.take_value.new.table h (items ++ y ∷ [])) (sym change.2) tallied },
    )

pub take_value-requires : goal.take_value-requires
take_value-requires g c = let p = c.args.scanned in record { bits = subst (λ (i : Item). HasBits i p.text.now p.bits) c.in-Change.is c.requires.next.bits }
