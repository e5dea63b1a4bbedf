use Rattle.vcd_engine.proofs.Cited.{◌≡◌, ◌+◌, ◌-◌, ◌<◌, [], length, get_or, refl, sym, ap, subst, ◌∙◌, arith, MatchBool, get_or-set_other, length-set, rows_len, HaveNoLine, IsSelectedAt}
use Rattle.vcd_engine.proofs.Facts.{LeadFrom, leads_past, leads_shown, mark_of_shown, no_rows}
use Rattle.vcd_engine.proofs.leads.lead_on.Goals as goal

pub loop-row-init : goal.loop-row-init
loop-row-init c = record {
  within = omega arith;
  len = refl;
  front = λ i l. refl;
  leads = λ h names views is. record { each = λ i low high. absurd (omega (arith, low, high)); none = no_rows names h.declarations (length c.args.marks.now) };
}

pub loop-row-preserved-then-has_line : goal.loop-row-preserved-then-has_line
loop-row-preserved-then-has_line c =
    let i = c.loop-row.row - 1 in
    let marks = c.loop-row.marks in
    let within : i < length marks = omega (arith, c.loop-row.invariant.within, c.loop-row-test.true) in
    record {
      within = omega (arith, within);
      len = c.loop-row.invariant.len;
      front = λ j l. c.loop-row.invariant.front j (omega (arith, l));
      leads = λ h names views is.
          let next : i + 1 ≡ c.loop-row.row = omega (arith, c.loop-row-test.true) in
          let so_far = subst (λ n. LeadFrom names h.declarations marks n c.loop-row.without) (sym next) (c.loop-row.invariant.leads h names views is) in
          let flag = ap (λ l. get_or l i 0) (sym is) ∙ sym (c.loop-row.invariant.front i (omega (arith, c.loop-row-test.true))) in
          let shown = subst (λ b. MatchBool b (IsSelectedAt names h.declarations i) (HaveNoLine names h.declarations i 1)) c.if-has_line.true (c.has_line.ensures h names views flag) in
          leads_shown names h.declarations marks i c.loop-row.without within so_far shown (sym flag ∙ mark_of_shown names h.declarations i shown);
    }

pub loop-row-preserved : goal.loop-row-preserved
loop-row-preserved c =
    let i = c.loop-row.row - 1 in
    let marks = c.loop-row.marks in
    let within : i < length marks = omega (arith, c.loop-row.invariant.within, c.loop-row-test.true) in
    record {
      within = omega (arith, c.loop-row.invariant.within, c.loop-row-test.true, length-set marks i c.flag_over.result);
      len = length-set marks i c.flag_over.result ∙ c.loop-row.invariant.len;
      front = λ j l. get_or-set_other marks i j c.flag_over.result 0 (λ e. omega (arith, e, l)) ∙ c.loop-row.invariant.front j (omega (arith, l));
      leads = λ h names views is.
          let next : i + 1 ≡ c.loop-row.row = omega (arith, c.loop-row-test.true) in
          let so_far = subst (λ n. LeadFrom names h.declarations marks n c.loop-row.without) (sym next) (c.loop-row.invariant.leads h names views is) in
          let flag = ap (λ l. get_or l i 0) (sym is) ∙ sym (c.loop-row.invariant.front i (omega (arith, c.loop-row-test.true))) in
          let none = subst (λ b. MatchBool b (IsSelectedAt names h.declarations i) (HaveNoLine names h.declarations i 1)) c.if-has_line.false (c.has_line.ensures h names views flag) in
          leads_past names h.declarations marks i c.loop-row.without within so_far none c.flag_over.result c.flag_over.ensures.other c.flag_over.ensures.within;
    }

pub returns-clause-leads : goal.returns-clause-leads
returns-clause-leads c = λ h names views is.
    let all = c.loop-row.invariant.leads h names views is in
    let rows = rows_len c.args.view.text.now h.codes [] c.args.view.rows.now h.declarations views.rows in
    record {
      each = λ i l. all.each i (omega (arith, c.loop-row-test.false)) l;
      len = omega (arith, c.loop-row.invariant.len, c.requires, rows);
    }
