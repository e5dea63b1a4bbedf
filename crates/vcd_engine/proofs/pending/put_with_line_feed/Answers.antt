use Rattle.vcd_engine.proofs.Cited.{List, ℕ, [], ◌∷◌, ◌+◌, ◌-◌, ◌++◌, ◌∙◌, ap, sym, subst, take, arith, slice_index, slice_range, Puts, end_is, one_byte}
use Rattle.vcd_engine.proofs.pending.put_with_line_feed.Goals as goal

pub returns : goal.returns
returns g c =
    let bytes = c.args.bytes.now in
    let from = c.args.from in
    let to = c.args.to in
    let rest = from + 1 + c.args.n in
    let few = c.requires.within.0 in
    let within = c.requires.within.1 in
    let first = one_byte bytes from (omega (arith, few, within)) in
    let copied = ap (take (to - rest)) (end_is bytes rest) in
    let all = ap (λ (l : List ℕ). slice_index bytes from ∷ l ++ 10 ∷ []) copied ∙ ap (λ (l : List ℕ). (l ++ slice_range bytes rest to) ++ 10 ∷ []) (sym first) in
    subst (λ l. Puts (g.W.Sink.device c.args.out.now) (g.W.Sink.device c.put_parts.new.w) l c.put_parts.result) all c.put_parts.ensures
