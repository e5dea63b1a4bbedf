use Rattle.vcd_host.proofs.Cited.{◌≡◌, ◌+◌, ◌<◌, ◌∙◌, ◌∷◌, ◌++◌, List, ℕ, ap, arith, length, refl, suc, sym, take, length-take-le, take-append-add}
use Rattle.vcd_host.proofs.Facts.{front-copied, gained, none-gone}
use Rattle.vcd_host.proofs.lent_output.LentOutputSink.write_parts.Goals as goal

pub returns-clause-all : goal.returns-clause-all
returns-clause-all c = λ _.
    let sink = c.args.self.now in
    let xs = sink.bytes.now in
    let new = c.copy_parts.new.to in
    let first = c.args.first in
    let n = c.args.n in
    let m = c.args.end.len in
    let end = c.args.end.bytes in
    let part = take n c.args.from.now in
    let short = c.args.end.few in
    let fits : sink.used + 73 < length xs = omega (arith, c.if-self-le-PARTS.false, sink.within) in
    let none = none-gone sink.gone.bytes sink.used (length xs) sink.dropped sink.number (omega (arith, fits)) sink.order in
    let long : length part ≡ n = length-take-le n c.args.from.now c.requires in
    let all : sink.used + (1 + n + 8) ≡ sink.used + 1 + n + 8 = omega arith in
    let some : 1 + n + m ≡ suc (n + m) = omega arith in
    let front = front-copied xs new (first ∷ (part ++ end)) sink.used (1 + n + 8) (1 + n + m) sink.within (omega (arith, short)) (ap (λ k. take k new) all ∙ c.copy_parts.ensures.copied)
    ∙ ap (λ k. take sink.used xs ++ take k (first ∷ (part ++ end))) some
    ∙ ap (λ k. take sink.used xs ++ first ∷ take (k + m) (part ++ end)) (sym long)
    ∙ ap (λ (l : List ℕ). take sink.used xs ++ first ∷ l) (take-append-add part end m) in
    (gained sink.bytes.ghost_name xs new sink.gone.bytes (first ∷ (part ++ take m end)) sink.used (1 + n + m) none front, refl)
