use Rattle.vcd_body.proofs.Cited.{◌++◌, ◌∷◌, [], ℕ, List, refl, Bool, cond, subst, sym, ap, ◌∙◌, eq-eqb, ne_eqb, extend, short, Puts, digits_with, held_with, len_of}
use Rattle.vcd_body.proofs.Facts.{all_digits, line_is, some_digits}
use Rattle.vcd_body.proofs.values.held_text.put_value_line.Goals as goal

pub first_needed-requires : goal.first_needed-requires
first_needed-requires g c =
    let some = some_digits c.args.held.holding.state (len_of c.args.held.holding) c.args.held.bytes.now c.args.held.some c.in_default-2.not-Unset c.in_default-2.not-Real in
    (some, λ size fits. refl)

pub returns-in_default : goal.returns-in_default
returns-in_default g c event =
    let ds = digits_with c.args.held.holding c.args.held.bytes.now in
    let id = c.args.id.now in
    let some = some_digits c.args.held.holding.state (len_of c.args.held.holding) c.args.held.bytes.now c.args.held.some c.in_default.not-Unset c.in_default.not-Real in
    let is = all_digits c.args.held.holding.state (len_of c.args.held.holding) c.args.held.bytes.now c.in_default.not-Unset c.in_default.not-Real in
    let line = ap (λ (b : Bool). cond b (ds ++ (id ++ 10 ∷ [])) (98 ∷ short (extend ds c.args.size) ++ (32 ∷ id ++ 10 ∷ []))) (eq-eqb c.args.size 1 c.if-size-eq1.true) in
    subst (λ l. Puts (g.W.Sink.device c.args.w.now) (g.W.Sink.device c.put_bit_line.new.w) l c.put_bit_line.result) (sym line
    ∙ line_is c.args.size ds id event (held_with c.args.held.holding c.args.held.bytes.now) some is) c.put_bit_line.ensures

pub returns-in_default-2 : goal.returns-in_default-2
returns-in_default-2 g c event =
    let ds = digits_with c.args.held.holding c.args.held.bytes.now in
    let id = c.args.id.now in
    let some = some_digits c.args.held.holding.state (len_of c.args.held.holding) c.args.held.bytes.now c.args.held.some c.in_default-2.not-Unset c.in_default-2.not-Real in
    let is = all_digits c.args.held.holding.state (len_of c.args.held.holding) c.args.held.bytes.now c.in_default-2.not-Unset c.in_default-2.not-Real in
    let line = ap (λ (b : Bool). cond b (ds ++ (id ++ 10 ∷ [])) (98 ∷ short (extend ds c.args.size) ++ (32 ∷ id ++ 10 ∷ []))) (ne_eqb c.args.size 1 c.if-size-eq1.false) in
    let digits = ap (λ (short : List ℕ). 98 ∷ short ++ (32 ∷ id ++ 10 ∷ [])) (c.first_needed.ensures.value c.args.size) in
    subst (λ l. Puts (g.W.Sink.device c.args.w.now) (g.W.Sink.device c.put_vector.new.w) l c.put_vector.result) (digits ∙ sym line
    ∙ line_is c.args.size ds id event (held_with c.args.held.holding c.args.held.bytes.now) some is) c.put_vector.ensures
