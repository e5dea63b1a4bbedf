use Rattle.vcd_changes.proofs.Cited.{◌≡◌, ◌∙◌, ◌+◌, ◌*◌, ◌<◌, ℕ, List, cond, length, take, get_or, ap, refl, sym, arith, take_all, extend, digits_in, is_known, is_one, number_where, Digits}
use Rattle.vcd_changes.proofs.Facts.{number_one_more, ones_extended, room_for_one}
use Rattle.vcd_changes.proofs.digits.digits_of.Goals as goal

both : (v k v' k' : ℕ) → v ≡ v' → k ≡ k' → ◌≡◌ {A = Digits} (record { value = v; known = k }) (record { value = v'; known = k' })
both v k v' k' e f = rw (e, f) refl

pub with_digit-ones-requires : goal.with_digit-ones-requires
with_digit-ones-requires c = rw c.loop-digit.invariant.0 (room_for_one is_one c.last_digits-last.result.now c.loop-digit.digit-index (omega arith) c.last_digits-last.ensures.most)

pub with_digit-all-requires : goal.with_digit-all-requires
with_digit-all-requires c = rw c.loop-digit.invariant.1 (room_for_one is_known c.last_digits-last.result.now c.loop-digit.digit-index (omega arith) c.last_digits-last.ensures.most)

pub loop-digit-preserved : goal.loop-digit-preserved
loop-digit-preserved c =
    let last = c.last_digits-last.result.now in
    let i = c.loop-digit.digit-index in
    let lt : i < length last = omega arith in (
      c.with_digit-ones.ensures ∙ ap (λ (n : ℕ). 2 * n + cond (is_one (get_or last i 0)) 1 0) c.loop-digit.invariant.0 ∙ sym (number_one_more is_one last i lt),
      c.with_digit-all.ensures ∙ ap (λ b. 2 * c.loop-digit.known + cond b 1 0) c.is_known.ensures
          ∙ ap (λ (n : ℕ). 2 * n + cond (is_known (get_or last i 0)) 1 0) c.loop-digit.invariant.1 ∙ sym (number_one_more is_known last i lt),
    )

pub known_in_all-known-requires : goal.known_in_all-known-requires
known_in_all-known-requires c =
    let last = c.last_digits-last.result.now in
    let all : take c.loop-digit.digit-index last ≡ last = take_all c.loop-digit.digit-index last (omega arith) in
    record { most = c.last_digits-last.ensures.most; known = c.loop-digit.invariant.1 ∙ ap (number_where is_known) all }

pub returns : goal.returns
returns c =
    let last = c.last_digits-last.result.now in
    let all : take c.loop-digit.digit-index last ≡ last = take_all c.loop-digit.digit-index last (omega arith) in
    let value : c.loop-digit.value ≡ number_where is_one (extend last 64) = c.loop-digit.invariant.0 ∙ ap (number_where is_one) all ∙ sym (ones_extended last c.last_digits-last.ensures.most) in
    both _ _ _ _ value c.known_in_all-known.ensures ∙ ap (λ (l : List ℕ). digits_in (extend l 64)) c.last_digits-last.ensures.last
