use Rattle.vcd_body.proofs.Cited.{◌≡◌, ◌+◌, rules, length, get_or, subst, arith, get_or-put_chunk_at, put_chunk}
use Rattle.vcd_body.proofs.values.packed.copy_packed.Goals as goal

pub returns-then-bytes-ge16 : goal.returns-then-bytes-ge16
returns-then-bytes-ge16 c = λ k less.
    let bytes = c.args.bytes.now in
    let packed = c.args.packed in
    let long : length packed ≡ 16 = search rules in
    let front : 0 + k ≡ k = omega arith in
    subst (λ j. get_or (put_chunk 0 bytes packed) j 0 ≡ get_or packed k 0) front
    (get_or-put_chunk_at 0 bytes packed k 0 (omega (arith, long, less, c.requires.few)) (omega (arith, long, c.if-bytes-ge16.true)))
