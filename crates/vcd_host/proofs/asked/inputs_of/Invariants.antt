use Rattle.vcd_host.proofs.Cited.{◌≡◌, map, take, input_named, text_of}
use Rattle.vcd_host.proofs.asked.inputs_of.Given as goal

-- the files before this index
abbrev pub invariant-loop-file : goal.invariant-loop-file
invariant-loop-file l = map text_of l.inputs.items ≡ map (λ file. input_named file.now) (take l.file-index l.files)
