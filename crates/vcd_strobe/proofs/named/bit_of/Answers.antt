use Rattle.std.proofs.Common.{◌≡◌, ◌∙◌, Err, ap, arith, false, refl, rules, sym, true}
use Rattle.std.proofs.lemmas.Option.{same_Some}
use Rattle.vcd_model.specs.Compare.{Kind}
use Rattle.vcd_model.specs.Declarations.{code_of}
use Rattle.vcd_model.specs.Strobe.{bit_of, place_in}
use Rattle.vcd_view.proofs.RowLemmas.{code_at}
use Rattle.vcd_strobe.proofs.NamedSteps.{digits_kind, event_kind, real_kind}
use Rattle.vcd_strobe.proofs.named.bit_of.Goals as goal

pub returns-in_default : goal.returns-in_default
returns-in_default c = λ h v views at.
    let its = code_at c.args.view.text.now c.args.view.codes.now h.codes c.code_of-code.result (code_of v) views.codes (c.code_of-code.ensures h v views at) in
    let none = sym c.in_default.is ∙ c.code_at.ensures ∙ its.1 in
    absurd (cc)

pub returns-then-declared : goal.returns-then-declared
returns-then-declared c = λ h v views at.
    let its = code_at c.args.view.text.now c.args.view.codes.now h.codes c.code_of-code.result (code_of v) views.codes (c.code_of-code.ensures h v views at) in
    let same : c.in-Some.declared ≡ its.0 = same_Some c.in-Some.declared its.0 (sym c.in-Some.is ∙ c.code_at.ensures ∙ its.1) in
    let event : (code_of v).event ≡ true = sym its.2.event_is ∙ ap (λ x. x.event) (sym same) ∙ c.if-declared.true in
    ap (λ k. bit_of v c.args.falls (place_in k c.args.place)) (event_kind v event)

pub returns-then-is_real : goal.returns-then-is_real
returns-then-is_real c = λ h v views at.
    let its = code_at c.args.view.text.now c.args.view.codes.now h.codes c.code_of-code.result (code_of v) views.codes (c.code_of-code.ensures h v views at) in
    let same : c.in-Some.declared ≡ its.0 = same_Some c.in-Some.declared its.0 (sym c.in-Some.is ∙ c.code_at.ensures ∙ its.1) in
    let event : (code_of v).event ≡ false = sym its.2.event_is ∙ ap (λ x. x.event) (sym same) ∙ c.if-declared.false in
    ap (λ k. bit_of v c.args.falls (place_in k c.args.place)) (real_kind v event (sym (c.is_real.ensures h v views at) ∙ c.if-is_real.true))

pub returns-in_err-index : goal.returns-in_err-index
returns-in_err-index c = λ h v views at.
    let its = code_at c.args.view.text.now c.args.view.codes.now h.codes c.code_of-code.result (code_of v) views.codes (c.code_of-code.ensures h v views at) in
    let same : c.in-Some.declared ≡ its.0 = same_Some c.in-Some.declared its.0 (sym c.in-Some.is ∙ c.code_at.ensures ∙ its.1) in
    let event : (code_of v).event ≡ false = sym its.2.event_is ∙ ap (λ x. x.event) (sym same) ∙ c.if-declared.false in
    let size : c.in-Some.declared.size ≡ v.size = ap (λ x. x.size) same ∙ its.2.size_is in
    let kind = digits_kind v event (sym (c.is_real.ensures h v views at) ∙ c.if-is_real.false) in
    let e : c.from_residual.result ≡ Err c.in_err-index.field-0.0 = search rules in
    rw e (ap (λ k. bit_of v c.args.falls (place_in k c.args.place)) (kind ∙ ap Kind.Digits (sym size)) ∙ ap (bit_of v c.args.falls) c.in_err-index.ensures)

pub returns : goal.returns
returns c = λ h v views at.
    let its = code_at c.args.view.text.now c.args.view.codes.now h.codes c.code_of-code.result (code_of v) views.codes (c.code_of-code.ensures h v views at) in
    let same : c.in-Some.declared ≡ its.0 = same_Some c.in-Some.declared its.0 (sym c.in-Some.is ∙ c.code_at.ensures ∙ its.1) in
    let event : (code_of v).event ≡ false = sym its.2.event_is ∙ ap (λ x. x.event) (sym same) ∙ c.if-declared.false in
    let size : c.in-Some.declared.size ≡ v.size = ap (λ x. x.size) same ∙ its.2.size_is in
    let kind = digits_kind v event (sym (c.is_real.ensures h v views at) ∙ c.if-is_real.false) in
    let found = c.in_ok-index.ensures in
    let bit = found.2 in (
      record { code = code_of v; place = found.0; falls = c.args.falls },
      ap (λ k. bit_of v c.args.falls (place_in k c.args.place)) (kind ∙ ap Kind.Digits (sym size)) ∙ ap (bit_of v c.args.falls) found.1,
      record {
        there = c.code_of-code.ensures h v views at;
        bit = omega (arith, bit, size);
        falls = refl;
        event = event;
      },
    )
