use Rattle.vcd_engine.proofs.Cited.{◌≡◌, ◌++◌, Err, rules, item_line, appends-first, takes-twice, time_due, if_ok}
use Rattle.vcd_engine.proofs.Facts.{text_with, written_with}
use Rattle.vcd_engine.proofs.item_text.ItemText.put_with_time.Goals as goal

pub returns-in_err-put_time_unless-clause-text : goal.returns-in_err-put_time_unless-clause-text
returns-in_err-put_time_unless-clause-text g c = λ h before kept e views is at has tells.
    let t = c.args.self.now in
    let failed : c.from_residual.result ≡ Err c.in_err-put_time_unless.field-0.0 = search rules in
    rw failed (
      (
        time_due t.written c.args.time ++ item_line e.item,
        text_with before kept e c.args.time t at has tells,
        appends-first _ _ (time_due t.written c.args.time) (item_line e.item) c.in_err-put_time_unless.ensures.0,
      ),
      tt,
    )

pub returns-clause-text : goal.returns-clause-text
returns-clause-text g c = λ h before kept e views is at has tells.
    let t = c.args.self.now in (
      (
        time_due t.written c.args.time ++ item_line e.item,
        text_with before kept e c.args.time t at has tells,
        takes-twice _ _ _ (time_due t.written c.args.time) (item_line e.item) c.put_item.result c.in_ok-put_time_unless.ensures.0 (c.put_item.ensures.0 h e.item views is),
      ),
      if_ok c.put_item.result _ (written_with before kept e c.args.time at),
    )
