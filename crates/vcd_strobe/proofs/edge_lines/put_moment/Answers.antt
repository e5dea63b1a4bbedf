use Rattle.std.proofs.Common.{◌≡◌, ◌∙◌, ℕ, List, ap, false, rules, subst}
use Rattle.std.specs.Str.{str_to_ascii_lowercase}
use Rattle.vcd_model.specs.ItemText.{time_line}
use Rattle.vcd_model.specs.Strobe.{binary}
use Rattle.vcd_model.specs.Values.{Value, extend, value_line}
use Rattle.vcd_body.specs.Changes.{line_under}
use Rattle.vcd_body.specs.declared.item.Form.TheVariants.{Vector}
use Rattle.vcd_text.proofs.Writes.{puts-first, puts-twice}
use Rattle.vcd_text.specs.Device.{Puts}
use Rattle.vcd_strobe.proofs.BinaryDigits.{binary_value}
use Rattle.vcd_strobe.proofs.edge_lines.put_moment.Goals as goal

pub returns-in_err-put_time : goal.returns-in_err-put_time
returns-in_err-put_time g c =
    puts-first (g.W.Sink.device c.args.out.now) (g.W.Sink.device c.put_time.new.out) (time_line c.args.number)
    (value_line (record { text = c.args.id.now; size = 64; event = false }) (Value.Bits (binary 64 c.args.time))) c.from_residual.result
    (search rules) c.in_err-put_time.ensures

pub returns : goal.returns
returns g c =
    let line = λ (ds : List ℕ). value_line (record { text = c.args.id.now; size = 64; event = false }) (Value.Bits ds) in
    let text : line_under c.args.id.now 64 false Vector c.put_binary.new.digits ≡ line (binary 64 c.args.time) =
    ap (λ (ds : List ℕ). line (extend (str_to_ascii_lowercase ds) 64)) c.put_binary.ensures ∙ ap line (binary_value c.args.time) in
    puts-twice (g.W.Sink.device c.args.out.now) (g.W.Sink.device c.put_time.new.out) (g.W.Sink.device c.put_change.new.w) (time_line c.args.number)
    (line (binary 64 c.args.time)) c.put_change.result c.in_ok-put_time.ensures
    (subst (λ (l : List ℕ). Puts (g.W.Sink.device c.put_time.new.out) (g.W.Sink.device c.put_change.new.w) l c.put_change.result) text c.put_change.ensures)
