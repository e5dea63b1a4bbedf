use Rattle.std.proofs.Common.{◌≡◌, ◌∙◌, ℕ, [], None, true, subst, arith, rules}
use Rattle.vcd_text.specs.Advances.{CallEnd}
use Rattle.vcd_text.proofs.AdvancesLemmas.{advances_nowhere, advances_on}
use Rattle.vcd_body.specs.Given.{GivesItem}
use Rattle.vcd_body.specs.Reads.{BodyHas}
use Rattle.vcd_body.proofs.CallerLemmas.{gave_nothing}
use Rattle.example_body.proofs.CountLemmas.{counted_most, none_yet, not_both, taken}
use Rattle.vcd_body.specs.Given.{GivesItem}
use Rattle.vcd_body.specs.Reads.{BodyHas}
use Rattle.vcd_body.specs.declared.item.Item.TheVariants.{Finish}
use Rattle.vcd_text.specs.Feed.{limit_of, seen}
use Rattle.example_body.proofs.count.Goals as goal

pub items-init : goal.items-init
items-init g c = (
  advances_nowhere g.S.Source.failures c.args.feed.now,
  omega arith,
  λ h i front views stands. ([], gave_nothing h.codes i front c.args.feed.now c.new-regs.result stands c.new-regs.ensures.known, none_yet),
)

pub returns-then-eq : goal.returns-then-eq
returns-then-eq g c =
    let is : c.in_ok-item.item ≡ Finish = search rules in record {
      reads = λ h i front views stands.
          let s = c.items.invariant.2 h i front views stands in
          let all = subst (GivesItem h.codes i front s.0 c.next_item.new.feed c.next_item.new.regs) is (c.in_ok-item.ensures.reads h i front s.0 views s.1) in
          let limit : limit_of c.next_item.new.feed ≡ limit_of c.args.feed.now = c.in_ok-item.ensures.advances.limit ∙ c.items.invariant.0.limit in
          record { items = s.0; body = subst (λ (n : ℕ). BodyHas h.codes i front n s.0 None) limit all.has; counts = s.2 };
    }

pub items-preserved : goal.items-preserved
items-preserved g c = (
  advances_on g.S.Source.failures c.args.feed.now c.items.feed c.next_item.new.feed CallEnd.GoesOn c.items.invariant.0 c.in_ok-item.ensures.advances,
  rw c.with-forms.ensures (counted_most c.items.forms c.in_ok-item.item (seen c.items.feed) (seen c.next_item.new.feed) c.items.invariant.1
      (c.in_ok-item.ensures.progress (λ is. let same : c.eq.result ≡ true = search rules in absurd (not_both c.eq.result same c.if-eq.false)))),
  λ h i front views stands.
      let s = c.items.invariant.2 h i front views stands in
      let gives = c.in_ok-item.ensures.reads h i front s.0 views s.1 in
      let t = taken s.0 c.items.forms s.2 h.codes i front c.next_item.new.feed c.next_item.new.regs c.in_ok-item.item gives in
      rw c.with-forms.ensures t,
)
