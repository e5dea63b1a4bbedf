use Rattle.vcd_host.proofs.Cited.{◌≡◌, suc, ◌+◌, ◌∙◌, ◌∷◌, ◌++◌, ℕ, List, ap, sym, length, take, drop, arith, length-take-le, take-take, take-append-add, take-append_seam}
use Rattle.vcd_host.proofs.buffer.Buffer.push_parts.Goals as goal

pub returns-clause-bytes : goal.returns-clause-bytes
returns-clause-bytes c =
    let b = c.args.self.now in
    let xs = c.deref_mut.result.now in
    let first = c.args.first in
    let from = c.args.from.now in
    let n = c.args.n in
    let end = c.args.end.bytes in
    let m = c.args.end.len in
    let few = c.requires.few in
    let short = c.args.end.few in
    let there = c.requires.there in
    let room = c.requires.room in
    let value = c.deref_mut.ensures.value in
    let front = take b.len xs in
    let part = take n from in
    let held : length front ≡ b.len = length-take-le b.len xs (omega (arith, ap length value, b.size, room)) in
    let long : length part ≡ n = length-take-le n from (omega (arith, few, there)) in
    let new = c.copy_parts.new.to in
    let all : b.bytes.len ≡ length new = omega (arith, c.copy_parts.ensures.long, c.deref_mut.ensures.len, b.size) in
    let size : b.len + 1 + n + m ≡ length front + suc (n + m) = omega (arith, held) in
    ap (take (b.len + 1 + n + m)) (ap (λ k. take k (new ++ drop (length new) b.bytes.items)) all ∙ take-append_seam new (drop (length new) b.bytes.items))
    ∙ sym (take-take (b.len + 1 + n + m) (b.len + 1 + n + 8) new (omega (arith, short)))
    ∙ ap (take (b.len + 1 + n + m)) c.copy_parts.ensures.copied
    ∙ ap (λ k. take k (front ++ first ∷ (part ++ end))) size
    ∙ take-append-add front (first ∷ (part ++ end)) (suc (n + m))
    ∙ ap (λ k. front ++ first ∷ take (k + m) (part ++ end)) (sym long)
    ∙ ap (λ (l : List ℕ). front ++ first ∷ l) (take-append-add part end m)
    ∙ ap (λ (l : List ℕ). take b.len l ++ first ∷ (part ++ take m end)) value
