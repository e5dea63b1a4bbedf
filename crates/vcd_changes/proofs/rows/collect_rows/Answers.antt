use Rattle.vcd_changes.proofs.Cited.{◌≡◌, ◌∙◌, ◌++◌, ◌∷◌, List, [], true, ap, append_assoc, append-nil, arith, length, rules, subst, sym, take, err_from_is_err_and, BodyItem, CallEnd, advances_nowhere, advances_on, GivesItem, item_text, GaveItems, Finish, row_added, rows_of}
use Rattle.vcd_changes.proofs.Facts.{filled_ahead, filled_more, filled_none, not_both, taken}
use Rattle.vcd_changes.proofs.rows.collect_rows.Goals as goal

pub items-init : goal.items-init
items-init g c = (
  advances_nowhere g.S.Source.failures c.args.feed.now,
  omega arith,
  λ h i front items code views gave at. ([], subst (λ (l : List BodyItem). GaveItems h.codes i front l c.args.feed.now c.args.regs.now) (sym (append-nil items)) gave, filled_none code.text items),
)

pub returns-in_err-item-clause-reads : goal.returns-in_err-item-clause-reads
returns-in_err-item-clause-reads g c =
    let p = err_from_is_err_and c.from_residual.result c.from_residual.ensures.1 in
    rw (p.1, p.2) (λ h i front items code views gave at.
    let t = c.items.invariant.2 h i front items code views gave at in
    let s = filled_ahead code.text h.codes i front items t.0 _ _ _ _ t.2 (c.collect_ahead.ensures.reads h i front (items ++ t.0) code views t.1 at) in
    record { more = s.0; rows_are = s.2; ends = c.in_err-item.ensures.reads h i front (items ++ s.0) views s.1 })

pub returns-then-count-rows-clause-reads : goal.returns-then-count-rows-clause-reads
returns-then-count-rows-clause-reads g c = λ h i front items code views gave at.
    let t = c.items.invariant.2 h i front items code views gave at in
    let s = filled_ahead code.text h.codes i front items t.0 _ _ _ _ t.2 (c.collect_ahead.ensures.reads h i front (items ++ t.0) code views t.1 at) in
    let full : c.collect_ahead.result ≡ length c.collect_ahead.new.rows = omega arith in
    record { more = s.0; rows_are = s.2; ends = (s.1, full) }

pub returns-then-eq : goal.returns-then-eq
returns-then-eq g c =
    let is : c.in_ok-item.item ≡ Finish = search rules in record {
      reads = λ h i front items code views gave at.
          let t = c.items.invariant.2 h i front items code views gave at in
          let s = filled_ahead code.text h.codes i front items t.0 _ _ _ _ t.2 (c.collect_ahead.ensures.reads h i front (items ++ t.0) code views t.1 at) in
          record {
            more = s.0;
            rows_are = s.2;
            ends = subst (GivesItem h.codes i front (items ++ s.0) c.next_item.new.feed c.next_item.new.regs) is
                (c.in_ok-item.ensures.reads h i front (items ++ s.0) views s.1);
          };
      most = c.collect_ahead.ensures.most;
      advances = advances_on g.S.Source.failures c.args.feed.now c.collect_ahead.new.feed c.next_item.new.feed CallEnd.GoesOn
          (advances_on g.S.Source.failures c.args.feed.now c.items.feed c.collect_ahead.new.feed CallEnd.GoesOn c.items.invariant.0 c.collect_ahead.ensures.advances)
          c.in_ok-item.ensures.advances;
    }

pub items-preserved : goal.items-preserved
items-preserved g c = (
  advances_on g.S.Source.failures c.args.feed.now c.collect_ahead.new.feed c.next_item.new.feed CallEnd.GoesOn
      (advances_on g.S.Source.failures c.args.feed.now c.items.feed c.collect_ahead.new.feed CallEnd.GoesOn c.items.invariant.0 c.collect_ahead.ensures.advances)
      c.in_ok-item.ensures.advances,
  c.add_row.ensures.most,
  λ h i front items code views gave at.
      let a = c.items.invariant.2 h i front items code views gave at in
      let s = filled_ahead code.text h.codes i front items a.0 _ _ _ _ a.2 (c.collect_ahead.ensures.reads h i front (items ++ a.0) code views a.1 at) in
      let gives = c.in_ok-item.ensures.reads h i front (items ++ s.0) views s.1 in
      let t = taken h.codes _ views.index c.args.index code at i front
      (items ++ s.0) c.next_item.new.feed c.next_item.new.regs c.in_ok-item.item gives (λ is. let same : c.eq.result ≡ true = search rules in
      not_both c.eq.result same c.if-eq.false) in (
        s.0 ++ t.0 ∷ [],
        subst (λ (l : List BodyItem). GaveItems h.codes i front l c.next_item.new.feed c.next_item.new.regs) (append_assoc items s.0 (t.0 ∷ [])) t.1,
        filled_more code.text items s.0 (t.0 ∷ []) (take c.collect_ahead.result c.collect_ahead.new.rows)
            (row_added c.args.index c.next_item.new.regs.time (item_text c.next_item.new.feed c.in_ok-item.item) c.in_ok-item.item) s.2 t.2
            ∙ ap (λ l. rows_of code.text items ++ l) (sym c.add_row.ensures.rows),
      ),
)
