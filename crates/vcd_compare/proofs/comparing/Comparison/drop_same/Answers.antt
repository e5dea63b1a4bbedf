use Rattle.vcd_compare.proofs.Cited.{◌≡◌, ◌+◌, ◌≤◌, ℕ, refl, sym, ap, subst, ◌∙◌, arith, candidates}
use Rattle.vcd_body.specs.Names.{IsLaidOut}
use Rattle.vcd_compare.proofs.Facts.{GoneThrough, gone_all, gone_first, gone_kept, gone_taken, still_listed}
use Rattle.vcd_compare.specs.Comparing.{differs_now}
use Rattle.vcd_compare.specs.Rows.{HaveRows}
use Rattle.vcd_compare.specs.declared.comparing.Comparison.{Comparison}
use Rattle.vcd_compare.specs.declared.touched.Touched.{Touched}
use Rattle.vcd_compare.proofs.comparing.Comparison.drop_same.Goals as goal
use Rattle.vcd_compare.proofs.comparing.Comparison.drop_same.Goals.{then-not-differs, else-not-differs}

pub loop-index-init : goal.loop-index-init
loop-index-init c = record { rest = refl; gone = gone_first c.args.self.now.touched 0 (λ k. differs_now c.args.self.now.current k c.args.at) }

pub loop-index-preserved : goal.loop-index-preserved
loop-index-preserved c =
    let own = c.args.self.now in
    let loop = c.loop-index.self in
    let next = c.if-not-differs.self in
    let s = c.loop-index.invariant in
    let stays = λ (k : ℕ). differs_now own.current k c.args.at in
    let class = c.candidate-class.result in
    let differs : c.differs.result ≡ stays class = c.differs.ensures ∙ ap (λ (k : Comparison). differs_now k.current class c.args.at) s.rest in
    elim c.if-not-differs.branch [
      | then-not-differs w ↦ record {
        rest = w.self-is ∙ ap (λ (t : Touched). record loop { touched = t }) (sym (ap (λ (k : Comparison). k.touched) w.self-is))
            ∙ ap (λ (k : Comparison). record k { touched = next.touched }) s.rest;
        gone = subst (λ (k : Comparison). GoneThrough own.touched k.touched 0 stays (c.loop-index.index + 1)) (sym w.self-is)
            (gone_taken own.touched loop.touched 0 stays c.loop-index.index s.gone class c.candidate-class.ensures _ (λ e. omega (arith, e)) (sym differs ∙ w.if-not-differs.true)
            w.take_mark.ensures.marks refl refl);
      }
      | else-not-differs w ↦ record {
        rest = w.self-is ∙ s.rest ∙ ap (λ (t : Touched). record own { touched = t }) (sym (ap (λ (k : Comparison). k.touched) w.self-is));
        gone = subst (λ (k : Comparison). GoneThrough own.touched k.touched 0 stays (c.loop-index.index + 1)) (sym w.self-is)
            (gone_kept own.touched loop.touched 0 stays c.loop-index.index s.gone class c.candidate-class.ensures (sym differs ∙ w.if-not-differs.false));
      }
    ]

pub returns : goal.returns
returns c =
    let own = c.args.self.now in
    let loop = c.loop-index.self in
    let s = c.loop-index.invariant in
    let stays = λ (k : ℕ). differs_now own.current k c.args.at in
    let all : candidates own.touched ≤ c.loop-index.index = omega (arith, c.loop-index-test.false, c.candidates-index-end.ensures) in
    let many = s.gone.many in
    let last = c.requires.rows.last in
    record {
      drops = record {
        rest = s.rest;
        ready = record {
          listed = still_listed own.touched loop.touched 0 stays c.loop-index.index c.requires.listed (λ e. omega (arith, e)) s.gone;
          laid = subst (λ (k : Comparison). IsLaidOut k.current.table) (sym s.rest) c.requires.laid;
          rows = subst (λ (k : Comparison). HaveRows k.current.pairs.now.rows.items loop.touched k.links k.due.now) (sym s.rest)
              (record { linked = c.requires.rows.linked; last = omega (arith, many, last); room = c.requires.rows.room });
        };
        flags = record { many = many; each = gone_all own.touched loop.touched 0 stays c.loop-index.index c.requires.listed s.gone all };
      };
    }
