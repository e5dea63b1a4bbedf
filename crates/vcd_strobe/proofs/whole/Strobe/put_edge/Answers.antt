use Rattle.std.proofs.Common.{rules, ◌≡◌, ◌+◌, Err, arith, flat_map, length, refl, subst, sym}
use Rattle.vcd_model.specs.Strobe.{code_line, strobe_codes, time_code}
use Rattle.vcd_model.specs.Items.{time_after}
use Rattle.vcd_text.proofs.Writes.{AppendsSome, appends-first, appends-some, appends-twice}
use Rattle.vcd_text.specs.Device.{Appends}
use Rattle.vcd_strobe.proofs.WholeSteps.{edge_is, edge_stands, have_roles, moment_is, texts_are}
use Rattle.vcd_strobe.specs.Lines.{moment_lines}
use Rattle.vcd_strobe.proofs.whole.Strobe.put_edge.Goals as goal

pub returns-in_err-put_moment-clause-puts : goal.returns-in_err-put_moment-clause-puts
returns-in_err-put_moment-clause-puts g c = λ h names es items has is count few low.
    let s = c.args.self.now in
    let number = c.saturating_add-number.ensures in
    let moment = moment_is s h names es items has low s.id.now c.saturating_add-number.result c.args.time refl (omega (arith, number, count, few)) is in
    let first = subst (AppendsSome (g.W.Sink.device c.args.out.now).held (g.W.Sink.device c.put_moment.new.out).held) moment c.in_err-put_moment.ensures.0 in
    let e : c.from_residual.result ≡ Err c.in_err-put_moment.field-0.0 = search rules in
    rw e (
      subst (AppendsSome (g.W.Sink.device c.args.out.now).held (g.W.Sink.device c.put_moment.new.out).held) (sym (edge_is h names es items))
          (appends-first _ _ (moment_lines (time_code h).text (1 + length es) (time_after items)) (flat_map (code_line es items) (strobe_codes h names)) first),
      tt,
    )

pub returns-in_err-self-clause-puts : goal.returns-in_err-self-clause-puts
returns-in_err-self-clause-puts g c = λ h names es items has is count few low.
    let s = c.args.self.now in
    let number = c.saturating_add-number.ensures in
    let puts = c.in_err-self.ensures.puts in
    let moment = moment_is s h names es items has low s.id.now c.saturating_add-number.result c.args.time refl (omega (arith, number, count, few)) is in
    let first = subst (Appends (g.W.Sink.device c.args.out.now).held (g.W.Sink.device c.put_moment.new.out).held) moment c.in_ok-put_moment.ensures.0 in
    let text = texts_are s h names es items has low puts.0 puts.1 puts.2 c.args.time is in
    let second = subst (AppendsSome (g.W.Sink.device c.put_moment.new.out).held (g.W.Sink.device c.put_listed_lines.new.out).held) text
    (puts.3 h.codes has.places (have_roles s h names es items has low) has.laid) in
    let e : c.from_residual-in_err-self.result ≡ Err c.in_err-self.field-0.0 = search rules in
    rw e (
      subst (AppendsSome (g.W.Sink.device c.args.out.now).held (g.W.Sink.device c.put_listed_lines.new.out).held) (sym (edge_is h names es items))
          (appends-some _ _ _ (moment_lines (time_code h).text (1 + length es) (time_after items)) (flat_map (code_line es items) (strobe_codes h names)) first second),
      tt,
    )

pub returns-clause-puts : goal.returns-clause-puts
returns-clause-puts g c = λ h names es items has is count few low.
    let s = c.args.self.now in
    let number = c.saturating_add-number.ensures in
    let puts = c.in_ok-self.ensures.puts in
    let moment = moment_is s h names es items has low s.id.now c.saturating_add-number.result c.args.time refl (omega (arith, number, count, few)) is in
    let first = subst (Appends (g.W.Sink.device c.args.out.now).held (g.W.Sink.device c.put_moment.new.out).held) moment c.in_ok-put_moment.ensures.0 in
    let text = texts_are s h names es items has low puts.0 puts.1 puts.2 c.args.time is in
    let second = subst (Appends (g.W.Sink.device c.put_moment.new.out).held (g.W.Sink.device c.put_listed_lines.new.out).held) text
    (puts.3 h.codes has.places (have_roles s h names es items has low) has.laid) in (
      subst (Appends (g.W.Sink.device c.args.out.now).held (g.W.Sink.device c.put_listed_lines.new.out).held) (sym (edge_is h names es items))
          (appends-twice _ _ _ (moment_lines (time_code h).text (1 + length es) (time_after items)) (flat_map (code_line es items) (strobe_codes h names)) first second),
      edge_stands s h names es items has low puts.0 puts.1 puts.2 _ c.args.time is refl refl refl refl puts.4,
    )
