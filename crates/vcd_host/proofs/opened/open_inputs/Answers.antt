use Rattle.vcd_host.proofs.Cited.{rules, ◌≡◌, Err}
use Rattle.vcd_host.proofs.Facts.{fresh-more, names-more, opened-more, stops-among}
use Rattle.vcd_host.proofs.opened.open_inputs.Goals as goal

pub returns-in_err-open_next-clause-stop : goal.returns-in_err-open_next-clause-stop
returns-in_err-open_next-clause-stop g c =
    let o = c.loop-name.invariant in
    let same : c.from_residual.result ≡ Err c.in_err-open_next.field-0.0 = search rules in
    rw same (stops-among g.H.Host.opens c.args.host.now c.args.asked.now c.loop-name.name-index _ c.loop-name.opened.readers.items c.loop-name.host c.open_next.new.host c.in_err-open_next.field-0.0
    c.loop-name-test.true o.opened c.in_err-open_next.ensures.stop)

pub loop-name-preserved : goal.loop-name-preserved
loop-name-preserved g c =
    let o = c.loop-name.invariant in
    let within = c.loop-name-test.true in
    record {
      opened = opened-more g.H.Host.opens g.H.Input.Source.failures c.args.host.now c.args.asked.now c.loop-name.name-index _ c.loop-name.opened.readers.items _ c.loop-name.host c.open_next.new.host within o.opened c.in_ok-open_next.ensures.opened;
      names = names-more c.args.asked.now c.loop-name.name-index _ _ _ within o.names c.in_ok-open_next.ensures.names;
      fresh = fresh-more g.H.Host.opens g.H.Input.Source.failures _ c.loop-name.host c.open_next.new.host c.loop-name.opened.readers.items _ o.fresh c.in_ok-open_next.ensures.opened;
    }
