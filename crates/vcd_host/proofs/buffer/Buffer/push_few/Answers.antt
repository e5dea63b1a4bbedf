use Rattle.vcd_host.proofs.Cited.{◌≡◌, ◌+◌, ◌∙◌, ◌++◌, ℕ, List, ap, sym, length, take, drop, arith, length-take-le, take-take, take-append-add, take-append_seam}
use Rattle.vcd_host.proofs.buffer.Buffer.push_few.Goals as goal

pub returns-clause-bytes : goal.returns-clause-bytes
returns-clause-bytes c =
    let b = c.args.self.now in
    let xs = c.deref_mut.result.now in
    let bytes = c.args.few.bytes in
    let n = c.args.few.len in
    let few = c.args.few.few in
    let room = c.requires in
    let value = c.deref_mut.ensures.value in
    let held : length (take b.len xs) ≡ b.len = length-take-le b.len xs (omega (arith, ap length value, b.size, room)) in
    let new = c.copy_eight.new.to in
    let all : b.bytes.len ≡ length new = omega (arith, c.copy_eight.ensures.long, c.deref_mut.ensures.len, b.size) in
    ap (take (b.len + n)) (ap (λ k. take k (new ++ drop (length new) b.bytes.items)) all ∙ take-append_seam new (drop (length new) b.bytes.items))
    ∙ sym (take-take (b.len + n) (b.len + 8) new (omega (arith, few)))
    ∙ ap (take (b.len + n)) c.copy_eight.ensures.copied
    ∙ ap (λ k. take (k + n) (take b.len xs ++ bytes)) (sym held)
    ∙ take-append-add (take b.len xs) bytes n
    ∙ ap (λ (l : List ℕ). take b.len l ++ take n bytes) value
