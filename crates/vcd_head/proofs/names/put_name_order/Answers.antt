use Rattle.vcd_head.proofs.Cited.{◌≡◌, sym, length, map, string_bytes, ◌<◌, ◌∙◌, ◌+◌, arith, rules, All-permutation, Contains-permutation, always_returns_same, comes_before, get_or-drop, length-map}
use Rattle.vcd_head.proofs.Facts.{before_weak, numbered_has, numbered_within, order_made}
use Rattle.vcd_head.proofs.names.put_name_order.Goals as goal

pub returns : goal.returns
returns c =
    let names = c.args.names.now in
    let n = length names in
    let texts = map string_bytes names in
    let old = c.put_indexes.new.positions in
    let new = c.sort_unstable_by.new.self in
    let count : length old ≡ n = omega (arith, c.put_indexes.ensures.len) in
    let moved = c.sort_unstable_by.ensures.permutation in
    order_made texts new _ n (sym (length-map names string_bytes)) (omega (arith, c.put_indexes.ensures.len)) c.requires.few
    (λ p l. Contains-permutation old new p moved (numbered_has old n count (λ i h. c.put_indexes.ensures.each i (omega (arith, h, count, c.put_indexes.ensures.len))) p l))
    (All-permutation (λ p. p < n) old new moved (numbered_within old n count (λ i h. c.put_indexes.ensures.each i (omega (arith, h, count, c.put_indexes.ensures.len)))))
    (c.sort_unstable_by.ensures.sorted (comes_before texts) (before_weak texts) (always_returns_same _ _ _ (λ a r g h. (search rules, search rules))))
    (λ i. get_or-drop n c.args.order.now i 0 ∙ c.requires.zeros (n + i))
