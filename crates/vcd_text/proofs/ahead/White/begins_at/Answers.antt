use Rattle.vcd_text.proofs.Cited.{◌≡◌, ◌+◌, ◌-◌, true, subst, arith, bit_at, slice_index, is_white_space}
use Rattle.std.proofs.lemmas.Bool.{eqb-true}
use Rattle.vcd_text.proofs.ahead.White.begins_at.Goals as goal

pub returns-clause-set : goal.returns-clause-set
returns-clause-set c = λ e.
    let here : c.args.self.next + c.lowest.result - 64 ≡ c.args.at = eqb-true _ _ e in
    let ahead = c.requires.ahead c.lowest.result c.lowest.ensures.set in
    let bit : c.lowest.result ≡ c.args.at + 64 - c.args.self.next = omega arith in
    subst (λ k. bit_at c.args.self.bits k ≡ 1) bit c.lowest.ensures.set

pub returns-clause-white : goal.returns-clause-white
returns-clause-white c = λ e chunk stop m.
    let bit = c.lowest.result in
    let set = c.lowest.ensures.set in
    let here : c.args.self.next + bit - 64 ≡ c.args.at = eqb-true _ _ e in
    (omega (arith, m.inside bit set, m.ahead bit set, m.within), subst (λ i. is_white_space (slice_index chunk i) ≡ true) here (m.white bit set))
