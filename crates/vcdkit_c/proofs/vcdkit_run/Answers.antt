use Rattle.std.proofs.Common.{◌≡◌, ◌∙◌, ◌∷◌, ap, codes, map, string_bytes, subst}
use Rattle.vcd_program.specs.Memory.{IsLeftIn}
use Rattle.vcd_program.specs.VcdkitProgram.{vcdkit_program}
use Rattle.vcdkit_c.specs.Calls.{RunsInto, bytes_of}
use Rattle.vcdkit_c.proofs.vcdkit_run.Goals as goal

pub returns-in-Some : goal.returns-in-Some
returns-in-Some c =
    let filled = c.in-Some.filled in
    let words : map string_bytes c.as_slice-words.result.now ≡ codes "vcdkit" ∷ map bytes_of c.args.words.now = ap (map string_bytes) c.as_slice-words.ensures.value ∙ c.in-Ok.ensures.words in
    RunsInto.Ran (subst (λ said.
    IsLeftIn vcdkit_program said c.args.files.now c.args.input.now c.run_into_memory.new.out filled.output c.run_into_memory.new.err filled.message filled.status)
    words c.in-Some.ensures)
