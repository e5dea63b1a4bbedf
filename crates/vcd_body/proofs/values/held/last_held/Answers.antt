use Rattle.vcd_body.proofs.Cited.{◌≡◌, ◌≤◌, ◌-◌, suc, length, sym, ap, subst, ◌∙◌, arith, count_in, last_digit_in, value_at_size, held_by, some_by, used_by, len_of, State}
use Rattle.vcd_body.proofs.Facts.{proper, proper_count, last_number, last_of_state, last_packed}
use Rattle.vcd_body.proofs.values.held.last_held.Goals as goal

pub last_packed-requires : goal.last_packed-requires
last_packed-requires c =
    let some = subst (λ (s : State). 1 ≤ some_by s (len_of c.args.held.holding)) c.in-Packed.is c.args.held.some in
    let fits = subst (λ (s : State). used_by s (len_of c.args.held.holding) ≡ length c.args.held.bytes.now) c.in-Packed.is c.args.held.fits in
    omega (arith, some, fits)

pub returns-in-Packed : goal.returns-in-Packed
returns-in-Packed c size =
    let len = (len_of c.args.held.holding) in
    let bytes = c.args.held.bytes.now in
    let some = subst (λ (s : State). 1 ≤ some_by s len) c.in-Packed.is c.args.held.some in
    let fits = subst (λ (s : State). used_by s len ≡ length bytes) c.in-Packed.is c.args.held.fits in
    last_packed len c.last_packed.result bytes size some (c.last_packed.ensures len fits)
    ∙ sym (ap (λ (s : State). last_digit_in (value_at_size size (held_by s len bytes))) c.in-Packed.is)

pub last_binary-requires : goal.last_binary-requires
last_binary-requires c =
    let some = subst (λ (s : State). 1 ≤ some_by s (len_of c.args.held.holding)) c.in-Bits.is c.args.held.some in
    proper_count (len_of c.args.held.holding) (proper (len_of c.args.held.holding) some)

pub returns-in-Bits : goal.returns-in-Bits
returns-in-Bits c size =
    let len = (len_of c.args.held.holding) in
    let bytes = c.args.held.bytes.now in
    let some = subst (λ (s : State). 1 ≤ some_by s len) c.in-Bits.is c.args.held.some in
    let count = proper_count len (proper len some) in
    let one : count_in len ≡ suc (count_in len - 1) = omega (arith, count) in
    c.last_binary.ensures
    ∙ sym (last_number len size (count_in len - 1) some one bytes)
    ∙ sym (ap (λ (s : State). last_digit_in (value_at_size size (held_by s len bytes))) c.in-Bits.is)

pub returns-in_default : goal.returns-in_default
returns-in_default c size = c.digit_of_state.ensures ∙ last_of_state c.args.held.holding.state (len_of c.args.held.holding) c.args.held.bytes.now size c.in_default.not-Packed c.in_default.not-Bits
