use Rattle.std.proofs.Common.{◌∙◌, ap, arith, option_map, refl}
use Rattle.std.proofs.lemmas.Option.{slice_get-map, slice_get_read}
use Rattle.vcd_strobe.proofs.NamedSteps.{all_found, find_more, first_lost}
use Rattle.vcd_strobe.specs.Named.{model_name}
use Rattle.vcd_strobe.proofs.named.find_clocks.Goals as goal

pub returns-in-Err-clause-finds : goal.returns-in-Err-clause-finds
returns-in-Err-clause-finds c = λ h views.
    let names = c.args.names.now in
    let name = c.index-names-at.result in
    let there = slice_get_read names _ c.loop-at.at name refl (omega arith) c.index-names-at.is in (
      model_name name,
      slice_get-map model_name names c.loop-at.at ∙ ap (option_map model_name) there,
      first_lost h names c.loop-at.clocks c.loop-at.at name c.in-Err.why there (c.loop-at.invariant h views) (c.in-Err.ensures h views),
    )

pub loop-at-preserved : goal.loop-at-preserved
loop-at-preserved c = λ h views.
    let names = c.args.names.now in
    let name = c.index-names-at.result in
    let there = slice_get_read names _ c.loop-at.at name refl (omega arith) c.index-names-at.is in
    find_more h names c.loop-at.clocks c.loop-at.at c.in-Ok.clock name there (omega (arith, c.requires.clocks)) (c.loop-at.invariant h views)
    (c.in-Ok.ensures h views)

pub returns-clause-finds : goal.returns-clause-finds
returns-clause-finds c = λ h views. all_found h c.args.names.now c.loop-at.clocks c.loop-at.at (omega (arith, c.requires.clocks)) (omega arith)
    (c.loop-at.invariant h views)
