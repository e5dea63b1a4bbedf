use Rattle.std.proofs.Common.{◌≡◌, ◌∙◌, ◌∷◌, ◌<◌, [], ℕ, List, ap, cond, slice_get, subst, sym}
use Rattle.std.specs.Str.{byte}
use Rattle.vcd_text.proofs.Writes.{appends-none}
use Rattle.vcd_text.specs.Device.{Appends, Takes}
use Rattle.vcd_model.specs.Bytes.{as_line}
use Rattle.vcd_model.specs.Cut.{line_if_set}
use Rattle.vcd_model.specs.Declarations.{IdCode}
use Rattle.vcd_model.specs.Strobe.{same_state}
use Rattle.vcd_body.specs.Contents.{codes_shown, held_at}
use Rattle.vcd_body.specs.Kept.{value_at_size}
use Rattle.vcd_strobe.proofs.LineSteps.{code_low, declared_is, declared_there, event_text, line_there, same_places, settled_within, shown_there, value_text}
use Rattle.vcd_strobe.specs.Lines.{in_places, place_of}
use Rattle.vcd_strobe.specs.Roles.{settled}
use Rattle.vcd_strobe.proofs.edge_lines.put_line.Goals as goal

pub returns-in_default-clause-takes : goal.returns-in_default-clause-takes
returns-in_default-clause-takes g c = λ codes k places there within laid.
    let few : c.settled.result < 4 = subst (λ n. n < 4) (sym c.settled.ensures) (settled_within c.args.role c.args.time within) in
    let at = c.place_of-settled.ensures (code_low c.args.places codes c.args.code k places there) few in
    absurd (declared_there c.args.places codes c.args.code k places there c.place_of-settled.result c.settled.result few at c.in_default.ensures)

pub returns-then-not-is_due-clause-takes : goal.returns-then-not-is_due-clause-takes
returns-then-not-is_due-clause-takes g c = λ codes k places there within laid.
    let few : c.settled.result < 4 = subst (λ n. n < 4) (sym c.settled.ensures) (settled_within c.args.role c.args.time within) in
    let at = c.place_of-settled.ensures (code_low c.args.places codes c.args.code k places there) few in
    let is = declared_is c.args.places codes c.args.code k places there c.place_of-settled.result c.settled.result c.in-Some.declared few at c.in-Some.ensures in
    let none =
    event_text (in_places c.args.table.now k.size c.args.code) k c.args.role c.args.time (ap (λ (y : IdCode). y.event) (sym is) ∙ c.if-declared.true)
    ∙ ap (λ b. cond b (as_line (byte "1" ∷ k.text)) []) (sym c.if-not-is_due.ensures) in
    subst (λ (l : List ℕ). Appends (g.W.Sink.device c.args.out.now).held (g.W.Sink.device c.args.out.now).held l) (sym none) (appends-none (g.W.Sink.device c.args.out.now).held)

pub returns-then-declared-clause-takes : goal.returns-then-declared-clause-takes
returns-then-declared-clause-takes g c = λ codes k places there within laid.
    let few : c.settled.result < 4 = subst (λ n. n < 4) (sym c.settled.ensures) (settled_within c.args.role c.args.time within) in
    let at = c.place_of-settled.ensures (code_low c.args.places codes c.args.code k places there) few in
    let is = declared_is c.args.places codes c.args.code k places there c.place_of-settled.result c.settled.result c.in-Some.declared few at c.in-Some.ensures in
    let text =
    event_text (in_places c.args.table.now k.size c.args.code) k c.args.role c.args.time (ap (λ (y : IdCode). y.event) (sym is) ∙ c.if-declared.true)
    ∙ ap (λ b. cond b (as_line (byte "1" ∷ k.text)) []) (sym c.if-not-is_due.ensures)
    ∙ ap (λ (y : IdCode). as_line (byte "1" ∷ y.text)) (sym is) in
    subst (λ (l : List ℕ). Takes (g.W.Sink.device c.args.out.now) (g.W.Sink.device c.put_event.new.out) l c.put_event.result) (sym text) c.put_event.ensures.0

pub returns-then-same_value-clause-takes : goal.returns-then-same_value-clause-takes
returns-then-same_value-clause-takes g c = λ codes k places there within laid.
    let low = code_low c.args.places codes c.args.code k places there in
    let few : c.settled.result < 4 = subst (λ n. n < 4) (sym c.settled.ensures) (settled_within c.args.role c.args.time within) in
    let at = c.place_of-settled.ensures low few in
    let is = declared_is c.args.places codes c.args.code k places there c.place_of-settled.result c.settled.result c.in-Some.declared few at c.in-Some.ensures in
    let same = same_places c.args.table.now c.args.code c.in-Some.declared.size c.args.role.written
    (settled c.args.role c.args.time) c.place_of.result c.place_of-settled.result c.same_value.result (c.place_of.ensures low within.written) (at
    ∙ ap (place_of c.args.code) c.settled.ensures) (c.same_value.ensures laid) in
    let sized = subst (λ (n : ℕ). same_state (in_places c.args.table.now n c.args.code c.args.role.written)
    (in_places c.args.table.now n c.args.code (settled c.args.role c.args.time)) ≡ c.same_value.result) (ap (λ (y : IdCode). y.size) is) same in
    let none =
    value_text (in_places c.args.table.now k.size c.args.code) k c.args.role c.args.time (ap (λ (y : IdCode). y.event) (sym is) ∙ c.if-declared.false)
    ∙ ap (λ b. cond b [] (line_if_set k (in_places c.args.table.now k.size c.args.code (settled c.args.role c.args.time)))) (sized ∙ c.if-same_value.true) in
    subst (λ (l : List ℕ). Appends (g.W.Sink.device c.args.out.now).held (g.W.Sink.device c.args.out.now).held l) (sym none) (appends-none (g.W.Sink.device c.args.out.now).held)

pub returns-clause-takes : goal.returns-clause-takes
returns-clause-takes g c = λ codes k places there within laid.
    let low = code_low c.args.places codes c.args.code k places there in
    let few : c.settled.result < 4 = subst (λ n. n < 4) (sym c.settled.ensures) (settled_within c.args.role c.args.time within) in
    let at = c.place_of-settled.ensures low few in
    let is = declared_is c.args.places codes c.args.code k places there c.place_of-settled.result c.settled.result c.in-Some.declared few at c.in-Some.ensures in
    let same = same_places c.args.table.now c.args.code c.in-Some.declared.size c.args.role.written
    (settled c.args.role c.args.time) c.place_of.result c.place_of-settled.result c.same_value.result (c.place_of.ensures low within.written) (at
    ∙ ap (place_of c.args.code) c.settled.ensures) (c.same_value.ensures laid) in
    let sized = subst (λ (n : ℕ). same_state (in_places c.args.table.now n c.args.code c.args.role.written)
    (in_places c.args.table.now n c.args.code (settled c.args.role c.args.time)) ≡ c.same_value.result) (ap (λ (y : IdCode). y.size) is) same in
    let here : c.place_of-settled.result ≡ place_of c.args.code (settled c.args.role c.args.time) = at ∙ ap (place_of c.args.code) c.settled.ensures in
    let text =
    value_text (in_places c.args.table.now k.size c.args.code) k c.args.role c.args.time (ap (λ (y : IdCode). y.event) (sym is) ∙ c.if-declared.false)
    ∙ ap (λ b. cond b [] (line_if_set k (in_places c.args.table.now k.size c.args.code (settled c.args.role c.args.time)))) (sized ∙ c.if-same_value.false)
    ∙ ap (λ i. line_if_set k (value_at_size k.size (held_at c.args.table.now i))) (sym here)
    ∙ sym (line_there (codes_shown c.args.places) c.args.table.now c.place_of-settled.result k (ap (λ i. slice_get (codes_shown c.args.places) i) at
    ∙ shown_there c.args.places codes c.args.code k places there c.settled.result few)) in
    subst (λ (l : List ℕ). Takes (g.W.Sink.device c.args.out.now) (g.W.Sink.device c.put_short.new.w) l c.put_short.result) (sym text) (c.put_short.ensures.takes laid)
