use Rattle.std.proofs.Common.{◌≡◌, ◌∙◌, [], List, Err, ap, inl, length, refl, rules, subst, sym, take}
use Rattle.std.specs.Prelude.{◌↔◌}
use Rattle.vcd_model.specs.Strobe.{edges_in, strobe_head}
use Rattle.vcd_text.specs.Feed.{limit_of, seen}
use Rattle.vcd_view.specs.declared.view.HeadView.{HeadView}
use Rattle.vcd_body.specs.declared.answer.Stop.TheVariants.{Write}
use Rattle.vcd_text.specs.Device.{Device, Writes, WritesSome}
use Rattle.vcd_text.specs.ReadAhead.ReadsAsNeeded.{Nothing}
use Rattle.vcd_strobe.proofs.EdgesLeft.{edges_left, told_more}
use Rattle.vcd_strobe.proofs.FixedSteps.{clocks_are}
use Rattle.vcd_strobe.proofs.HeadSteps.{begins_none, open_first}
use Rattle.vcd_strobe.specs.Clocks.{clocks_shown}
use Rattle.vcd_strobe.specs.declared.clocks.Clock.{Clock}
use Rattle.vcd_strobe.specs.Strobes.{strobe_plan}
use Rattle.vcd_strobe.proofs.run.strobe.Goals as goal

pub returns-in_err-put_strobe_head-clause-gives : goal.returns-in_err-put_strobe_head-clause-gives
returns-in_err-put_strobe_head-clause-gives g c = λ h names ks i front views marked has given.
    let e : c.from_residual.result ≡ Err Write = search rules in
    let out : Device = g.W.Sink.device c.args.out.now in
    let new : Device = g.W.Sink.device c.put_strobe_head.new.out in
    let puts = c.in_err-put_strobe_head.ensures in
    rw e (inl ([], begins_none h i front c.args.feed.now given, subst (WritesSome out new) (sym (open_first ks h names)) (puts.takes h names views marked has.stands.id, puts.counts)))

pub returns-clause-gives : goal.returns-clause-gives
returns-clause-gives g c = λ h names ks i front views marked has given.
    let out : Device = g.W.Sink.device c.args.out.now in
    let mid : Device = g.W.Sink.device c.put_strobe_head.new.out in
    let puts = c.in_ok-put_strobe_head.ensures in
    let s = c.args.strobe.now in
    let new = c.run_to_end.new.task in
    let same : clocks_shown new.places new.clocks.now ≡ has.ks = ap (λ (f : HeadView × List Clock). clocks_shown f.0 f.1) c.run_to_end.ensures.fixed
    ∙ clocks_are s.places h.codes has.stands.places s.clocks.now has.ks has.clocks in
    told_more (λ items text. new.edges ≡ length (edges_in (clocks_shown new.places new.clocks.now) items)) (λ items text. new.edges ≡ 0 ↔ edges_in ks items ≡ [])
    (λ items text is. edges_left ks has.ks h names has.names has.by_plan new.edges items (is ∙ ap (λ l. length (edges_in l items)) same))
    (strobe_plan ks h names) h i front (limit_of c.args.feed.now) (seen c.run_to_end.new.feed) out (g.W.Sink.device c.run_to_end.new.out) c.run_to_end.result
    (c.run_to_end.ensures.runs (strobe_plan ks h names) h i front out views given has refl
    (subst (Writes out mid) (sym (open_first ks h names)) (puts.takes h names views marked has.stands.id, puts.counts)))

pub returns-in_err-put_strobe_head-clause-needed : goal.returns-in_err-put_strobe_head-clause-needed
returns-in_err-put_strobe_head-clause-needed g c = λ h names ks i front views marked has given.
    let e : c.from_residual.result ≡ Err Write = search rules in
    let some = c.in_err-put_strobe_head.ensures.takes h names views marked has.stands.id in
    rw e (record { is_left = inl (refl, refl); read = Nothing refl; keeps_up = (take some.0 (strobe_head h names), some.1, Nothing refl) })

pub returns-clause-needed : goal.returns-clause-needed
returns-clause-needed g c = λ h names ks i front views marked has given.
    let out : Device = g.W.Sink.device c.args.out.now in
    let mid : Device = g.W.Sink.device c.put_strobe_head.new.out in
    let puts = c.in_ok-put_strobe_head.ensures in
    c.run_to_end.ensures.needed (strobe_plan ks h names) h i front out views given has refl
    (subst (Writes out mid) (sym (open_first ks h names)) (puts.takes h names views marked has.stands.id, puts.counts))
