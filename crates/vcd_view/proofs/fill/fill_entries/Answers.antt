use Rattle.vcd_view.proofs.Cited.{length, ap, subst, ◌∙◌, arith, length-set, slice_get-get_or, MayHaveKey, are_right, is_right}
use Rattle.vcd_view.proofs.Facts.{all_written}
use Rattle.vcd_view.proofs.fill.fill_entries.Goals.{in-Some, in_default}
use Rattle.vcd_view.proofs.fill.fill_entries.Goals as goal

pub loop-position-preserved : goal.loop-position-preserved
loop-position-preserved c =
    let text = c.args.text.now in
    let codes = c.args.codes.now in
    let there = slice_get-get_or codes c.loop-position.position _ (omega arith) in
    elim c.match-free.branch [
      | in-Some w ↦ (
        λ h. ap (are_right text codes) w.entries-is ∙ all_written (is_right text codes) c.loop-position.entries w.in-Some.at w.entry_with.result
            (c.loop-position.invariant.0 h) (w.entry_with.ensures text codes there
            (subst (λ bytes. MayHaveKey bytes c.key_and_entry_for-key.result.0) c.text_in-bytes.ensures c.key_and_entry_for-key.ensures.key)),
        ap length w.entries-is ∙ length-set c.loop-position.entries w.in-Some.at w.entry_with.result ∙ c.loop-position.invariant.1,
      )
      | in_default w ↦ (
        λ h. ap (are_right text codes) w.entries-is ∙ c.loop-position.invariant.0 h,
        ap length w.entries-is ∙ c.loop-position.invariant.1,
      )
    ]
