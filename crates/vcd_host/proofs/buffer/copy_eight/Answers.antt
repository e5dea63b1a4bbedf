use Rattle.vcd_host.proofs.Cited.{◌≡◌, ◌+◌, ◌∙◌, ◌++◌, List, ℕ, ap, length, rules, take, arith, take-put_mid}
use Rattle.vcd_host.proofs.buffer.copy_eight.Goals as goal

pub returns-clause-copied : goal.returns-clause-copied
returns-clause-copied c =
    let position = c.args.position in
    let to = c.args.to.now in
    let room = c.requires.room in
    let same : c.copy_from_slice.new.self ≡ c.args.from = search rules in
    let long : length c.args.from ≡ 8 = search rules in
    take-put_mid position _ to c.copy_from_slice.new.self (position + 8) (omega (arith, ap length same, long)) (omega (arith, room)) ∙ ap (λ (l : List ℕ). take position to ++ l) same
