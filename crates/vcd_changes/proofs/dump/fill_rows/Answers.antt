use Rattle.vcd_changes.proofs.Cited.{◌≡◌, ◌∙◌, ◌++◌, ℕ, Some, Err, ap, arith, inl, inr, refl, subst, whole, chunk_len_of, limit_of, token_of, call_end, fault_number, BodyHas, BodyFault, EndsSo}
use Rattle.vcd_changes.proofs.Facts.{body_fault_is, some_fault, ends_well, has_not_failed, is_after}
use Rattle.vcd_changes.proofs.dump.fill_rows.Goals as goal

pub returns-in-Ok-clause-finds : goal.returns-in-Ok-clause-finds
returns-in-Ok-clause-finds c = λ h dump front items code views gave at.
    let f = c.collect_rows-ended.new.feed in
    let s = c.collect_rows-ended.ensures.reads h (whole dump) front items code views gave at in
    let ends = subst (EndsSo h.codes (whole dump) front (items ++ s.more) f c.collect_rows-ended.new.regs c.collect_rows-ended.new.count c.collect_rows-ended.new.rows) c.in-Ok.is s.ends in
    let limit : limit_of f ≡ c.args.limit = c.collect_rows-ended.ensures.advances.limit ∙ c.requires.lengths.0 in
    let chunk : chunk_len_of f ≡ 8192 = c.collect_rows-ended.ensures.advances.chunk ∙ c.requires.lengths.1 in
    record {
      more = s.more;
      rows_are = s.rows_are;
      ends = rw (c.status_of.ensures, c.place_of-reading.ensures) (ends_well c.args.limit h.codes (whole dump) front
          (items ++ s.more) f c.collect_rows-ended.new.regs c.collect_rows-ended.new.count c.collect_rows-ended.new.rows c.in-Ok.filled _ ends limit refl
          (λ all. is_after c.args.limit h.codes (whole dump) front (items ++ s.more)
          f c.collect_rows-ended.new.regs c.offset.result c.requires.some all limit chunk c.offset.ensures.given c.offset.ensures.comes));
    }

pub returns-in-Err-clause-finds : goal.returns-in-Err-clause-finds
returns-in-Err-clause-finds c = λ h dump front items code views gave at.
    let f = c.collect_rows-ended.new.feed in
    let s = c.collect_rows-ended.ensures.reads h (whole dump) front items code views gave at in
    let fails = subst (EndsSo h.codes (whole dump) front (items ++ s.more) f c.collect_rows-ended.new.regs c.collect_rows-ended.new.count c.collect_rows-ended.new.rows) c.in-Err.is s.ends in
    let limit : limit_of f ≡ c.args.limit = c.collect_rows-ended.ensures.advances.limit ∙ c.requires.lengths.0 in
    let has = body_fault_is f (whole dump) h.codes front (items ++ s.more) c.in-Err.fault
    (λ e. let more = c.collect_rows-ended.ensures.advances.failed (ap call_end (c.in-Err.is ∙ ap (λ (x : BodyFault). Err x) e))
    (has_not_failed c.args.feed.now dump (front ++ gave.given) gave.stands) in absurd (omega arith)) fails in
    let number : c.from-reading.result ≡ fault_number c.in-Err.fault = omega arith in
    let told = some_fault (fault_number c.in-Err.fault) c.from-reading.result (token_of f).line c.line-reading.result number c.line-reading.ensures in
    record {
      more = s.more;
      rows_are = s.rows_are;
      ends = inr (inl (
        refl,
        subst (BodyHas h.codes (whole dump) front c.args.limit (items ++ s.more)) told
            (subst (λ (n : ℕ). BodyHas h.codes (whole dump) front n (items ++ s.more)
            (Some (record { number = fault_number c.in-Err.fault; line = (token_of f).line }))) limit has),
      ));
    }
