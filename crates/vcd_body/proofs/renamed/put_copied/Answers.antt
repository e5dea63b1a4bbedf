use Rattle.vcd_body.proofs.Cited.{List, ℕ, [], ◌∷◌, ◌+◌, ◌-◌, ◌++◌, ◌∙◌, ap, ap₂, sym, subst, take, arith, slice_index, slice_range, new_code, Puts}
use Rattle.vcd_body.proofs.Facts.{end_is, one_byte}
use Rattle.vcd_body.proofs.renamed.put_copied.Goals as goal

pub returns : goal.returns
returns g c =
    let bytes = c.args.bytes.now in
    let from = c.args.from in
    let end = c.args.end in
    let rest = from + 1 + c.args.left_out in
    let few = c.requires.few in
    let within = c.requires.within in
    let first = one_byte bytes from (omega (arith, few, within)) in
    let copied = ap (take (end - rest)) (end_is bytes rest) in
    let line = 32 ∷ new_code c.args.number ++ 10 ∷ [] in
    let all = ap₂ (λ (l r : List ℕ). slice_index bytes from ∷ l ++ r) copied c.in-Some.ensures ∙ ap (λ (l : List ℕ). (l ++ slice_range bytes rest end) ++ line) (sym first) in
    subst (λ l. Puts (g.W.Sink.device c.args.w.now) (g.W.Sink.device c.put_parts.new.w) l c.put_parts.result) all c.put_parts.ensures
