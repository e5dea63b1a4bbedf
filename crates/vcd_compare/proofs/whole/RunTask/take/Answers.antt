use Rattle.vcd_compare.proofs.Cited.{◌≡◌, ◌∙◌, ◌++◌, ◌∷◌, [], ap, refl, subst, sym, BodyItem, AreRegsAfter, IsItem, regs_after}
use Rattle.vcd_compare.proofs.Facts.{takes_quiet, takes_section, takes_time, time_forth}
use Rattle.vcd_body.specs.declared.item.Item.{Item}
use Rattle.vcd_compare.proofs.whole.RunTask.take.Goals as goal

pub returns-in-Time-clause-takes : goal.returns-in-Time-clause-takes
returns-in-Time-clause-takes g c = λ p h items before x views known next r read few has on.
    let t = c.in-Time.time in
    let is : x ≡ BodyItem.Time t = subst (λ (i : Item). IsItem h.codes c.args.text.now i x) c.in-Time.is read in
    let forth = time_forth items t before c.args.regs (r ∙ ap (regs_after before) c.in-Time.is) (subst (λ (y : BodyItem). AreRegsAfter (items ++ y ∷ []) c.args.regs) is next) in
    let takes = c.take_time.ensures.takes h has.exceptions has.ns items views forth (record { compares = has.stands.compares; differs = has.stands.differs }) in
    takes_time c.args.self.now c.take_time.new.self p h items has c.take_time.ensures.same.asked x t is forth c.take_time.ensures.same.last
    (g.W.Sink.device c.args.out.now) (g.W.Sink.device c.take_time.new.out) c.take_time.result takes

pub returns-in-Change-clause-takes : goal.returns-in-Change-clause-takes
returns-in-Change-clause-takes g c = λ p h items before x views known next r read few has on.
    let same : c.args.regs ≡ before = r ∙ ap (regs_after before) c.in-Change.is in
    let after : regs_after c.args.regs c.args.item ≡ c.args.regs = ap (regs_after c.args.regs) c.in-Change.is in
    let quiet = c.take.ensures.on c.args.self.now.watched h has.exceptions has.ns items x views read (subst (AreRegsAfter items) (sym same) known)
    (subst (AreRegsAfter (items ++ x ∷ [])) (sym after) next) has.stands.compares in
    takes_quiet c.args.self.now _ p h items has c.take.ensures.same.asked x (g.W.Sink.device c.args.out.now) quiet.0 quiet.1 refl

pub returns-in-Begin-clause-takes : goal.returns-in-Begin-clause-takes
returns-in-Begin-clause-takes g c = λ p h items before x views known next r read few has on.
    takes_section c.args.self.now p h items has c.args.text.now x c.args.item (g.W.Sink.device c.args.out.now) c.in-Begin.is read
