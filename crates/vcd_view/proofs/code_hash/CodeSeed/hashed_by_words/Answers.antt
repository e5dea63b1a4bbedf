use Rattle.vcd_view.proofs.Cited.{◌≡◌, ◌-◌, drop, length, take, sym, ap, ◌∙◌, arith, length-drop, take_all, hashed, mixed}
use Rattle.vcd_view.proofs.Facts.{word_first}
use Rattle.vcd_view.proofs.code_hash.CodeSeed.hashed_by_words.Goals as goal

pub loop-rest-preserved : goal.loop-rest-preserved
loop-rest-preserved c =
    let s = c.args.self in
    let rest = c.loop-rest.rest.now in
    let all : take (length rest - 8) (drop 8 rest) ≡ drop 8 rest = take_all (length rest - 8) (drop 8 rest) (omega (arith, length-drop 8 rest)) in
    let word = c.mixed-hash.ensures ∙ ap (mixed s c.loop-rest.hash) c.from_le_bytes.ensures in
    ap (hashed s c.mixed-hash.result) all ∙ ap (λ h. hashed s h (drop 8 rest)) word ∙ sym (word_first s c.loop-rest.hash rest (omega (arith, c.in-len8-up.len_at_least))) ∙ c.loop-rest.invariant
