use Rattle.vcd_host.proofs.Cited.{◌≡◌, ◌+◌, ◌-◌, ◌≤◌, ◌∙◌, ap, sym, length, take, drop, arith, length-drop, drop-take, take-paste, paste}
use Rattle.vcd_host.proofs.buffer.Buffer.remove_front.Goals as goal

pub returns-clause-kept : goal.returns-clause-kept
returns-clause-kept c =
    let b = c.args.self.now in
    let xs = b.bytes.items in
    let n = c.args.n in
    let within = c.requires in
    let size = b.size in
    let room = b.room in
    let left = b.len - n in
    let fits : left ≤ length (drop n xs) = omega (arith, length-drop n xs) in
    let same : left ≡ 0 + left = omega arith in
    let all : n + left ≡ b.len = omega arith in
    ap (take left) c.copy_within.ensures.items ∙ ap (λ k. take k (paste xs 0 (drop n xs) left)) same ∙ take-paste xs 0 (drop n xs) left (omega arith) fits
    ∙ sym (drop-take n left xs) ∙ ap (λ k. drop n (take k xs)) all
