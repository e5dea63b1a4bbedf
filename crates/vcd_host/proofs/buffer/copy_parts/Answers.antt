use Rattle.vcd_host.proofs.Cited.{◌≡◌, suc, ◌+◌, ◌∙◌, ◌∷◌, [], ◌++◌, ℕ, List, ap, sym, length, take, arith, slice_set, length-set, length-take-le, take-take, take-append-add, take-suc-set}
use Rattle.std.proofs.Common.{append_assoc}
use Rattle.vcd_host.proofs.buffer.copy_parts.Goals as goal

pub returns-clause-copied : goal.returns-clause-copied
returns-clause-copied c =
    let position = c.args.position in
    let to = c.args.to.now in
    let first = c.args.first in
    let from = c.args.from.now in
    let n = c.args.n in
    let end = c.args.end in
    let few = c.requires.few in
    let room = c.requires.room in
    let set = slice_set to position first in
    let begin = take position to ++ first ∷ [] in
    let next : position + 1 ≡ suc position = omega arith in
    let one = ap (λ k. take k set) next ∙ take-suc-set to position first (omega (arith, room)) in
    let held : length (take (position + 1) set) ≡ position + 1 = length-take-le (position + 1) set (omega (arith, length-set to position first, room)) in
    let short = c.copy_short.new.to in
    let front = sym (take-take (position + 1 + n) (position + 1 + 64) short (omega (arith, few)))
    ∙ ap (take (position + 1 + n)) c.copy_short.ensures.copied
    ∙ ap (λ k. take (k + n) (take (position + 1) set ++ take 64 from)) (sym held)
    ∙ take-append-add (take (position + 1) set) (take 64 from) n
    ∙ ap (λ (l : List ℕ). take (position + 1) set ++ l) (take-take n 64 from few)
    ∙ ap (λ (l : List ℕ). l ++ take n from) one in
    c.copy_eight.ensures.copied
    ∙ ap (λ (l : List ℕ). l ++ end) front
    ∙ append_assoc begin (take n from) end
    ∙ append_assoc (take position to) (first ∷ []) (take n from ++ end)
