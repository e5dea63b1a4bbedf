use Rattle.vcd_program.proofs.Cited.{IfOk-weaker, map, text_of}
use Rattle.vcd_program.proofs.Facts.{inputs-are}
use Rattle.vcd_program.proofs.vcdkit_program.VcdkitProgram.inputs_of.Goals as goal

pub returns : goal.returns
returns c = IfOk-weaker c.inputs_of.result _ _ (λ names e. inputs-are c.args.matches.now c.args.job.now
    (map text_of names.items) c.is_merge.result c.requires c.is_merge.ensures e) c.inputs_of.ensures
