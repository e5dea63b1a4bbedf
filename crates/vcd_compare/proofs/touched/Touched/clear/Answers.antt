use Rattle.vcd_compare.proofs.Cited.{false, refl, arith, ◌≤◌}
use Rattle.vcd_compare.specs.Touched.{candidates}
use Rattle.vcd_compare.proofs.Facts.{gone_all, gone_first, gone_taken, none_listed}
use Rattle.vcd_compare.proofs.touched.Touched.clear.Goals as goal

pub loop-index-init : goal.loop-index-init
loop-index-init c = gone_first c.args.self.now 0 (λ _. false)

pub loop-index-preserved : goal.loop-index-preserved
loop-index-preserved c =
    gone_taken c.args.self.now c.loop-index.self 0 (λ _. false) c.loop-index.index c.loop-index.invariant c.candidate-class.result c.candidate-class.ensures _
    (λ e. omega (arith, e)) refl c.take_mark.ensures.marks refl refl

pub returns-clause-many : goal.returns-clause-many
returns-clause-many c = c.loop-index.invariant.many

pub returns-clause-cleared : goal.returns-clause-cleared
returns-clause-cleared c =
    let all : candidates c.args.self.now ≤ c.loop-index.index = omega (arith, c.loop-index-test.false, c.candidates-index-end.ensures) in
    gone_all c.args.self.now c.loop-index.self 0 (λ _. false) c.loop-index.index c.requires c.loop-index.invariant all

pub returns-clause-listed : goal.returns-clause-listed
returns-clause-listed c = none_listed c.args.self.now.marks.now c.loop-index.self.marks.now c.loop-index.self.classes.now 0 (λ e. omega (arith, e)) (returns-clause-cleared c)
