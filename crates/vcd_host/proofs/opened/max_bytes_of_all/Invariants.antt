use Rattle.vcd_host.proofs.Cited.{◌≤◌, length, take, All, IfSome}
use Rattle.vcd_host.proofs.opened.max_bytes_of_all.Given as goal

-- those before this index give at most this many bytes
abbrev pub invariant-loop-input : goal.invariant-loop-input
invariant-loop-input g l = All (λ r. IfSome (g.H.Input.Source.rest r) (λ text. length text ≤ l.longest)) (take l.input-index l.inputs)
