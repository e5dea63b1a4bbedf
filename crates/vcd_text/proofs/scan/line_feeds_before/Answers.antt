use Rattle.vcd_text.proofs.Cited.{◌≡◌, ◌==◌, ◌+◌, ◌-◌, ◌/◌, ◌^◌, ◌≤◌, List, ℕ, take, drop, map, ap, ◌∙◌, arith, w8, slice_range, count_ones, drop-map, drop-take, drop-drop, length-take-le, length-chunk, bitmask_splat, ones-mask_l, chunk, mask_l, line_feeds_in}
use Rattle.vcd_text.proofs.Facts.{mask-shifted, line_feeds_in-few}
use Rattle.std.proofs.lemmas.List.{length-drop}
use Rattle.vcd_text.proofs.scan.line_feeds_before.Goals as goal

-- the last n of the 64 bytes before an offset
last : (bytes : List ℕ) (end n : ℕ) → 64 ≤ end → n ≤ 64 → drop (64 - n) (chunk (end - 64) 64 bytes) ≡ slice_range bytes (end - n) end
last bytes end n le few =
    let all : 64 ≡ 64 - n + n = omega arith in
    let from : end - 64 + (64 - n) ≡ end - n = omega arith in
    let size : n ≡ end - (end - n) = omega arith in
    ap (λ m. drop (64 - n) (take m (drop (end - 64) bytes))) all ∙ drop-take (64 - n) n (drop (end - 64) bytes)
    ∙ ap (take n) (drop-drop (64 - n) (end - 64) bytes ∙ ap (λ k. drop k bytes) (omega arith))
    ∙ ap (λ m. take m (drop (end - n) bytes)) size

pub returns-clause-count : goal.returns-clause-count
returns-clause-count c =
    let bytes = c.args.bytes.now in
    let v = chunk (c.args.end - 64) 64 bytes in
    let long = length-chunk (c.args.end - 64) 64 bytes (omega (arith, c.requires.block)) in
    c.from.ensures
    ∙ ap (λ m. count_ones (m / 2 ^ (64 - c.args.n))) (bitmask_splat w8 (λ a b. a == b) v 64 10 long (omega arith))
    ∙ ap count_ones (mask-shifted (map (λ b. b == 10) v) (64 - c.args.n) ∙ ap mask_l (drop-map (λ b. b == 10) (64 - c.args.n) v))
    ∙ ones-mask_l (λ b. b == 10) (drop (64 - c.args.n) v)
    ∙ ap line_feeds_in (last bytes c.args.end c.args.n (omega (arith, c.requires.block)) (omega (arith, c.requires.some)))

pub returns-clause-few : goal.returns-clause-few
returns-clause-few c =
    let v = slice_range c.args.bytes.now (c.args.end - c.args.n) c.args.end in
    omega (
      arith,
      returns-clause-count c,
      line_feeds_in-few v,
      length-take-le (c.args.end - (c.args.end - c.args.n))
          (drop (c.args.end - c.args.n) c.args.bytes.now) (omega (
            arith,
            c.requires.block,
            c.requires.some,
            length-drop (c.args.end - c.args.n) c.args.bytes.now,
          )),
    )
