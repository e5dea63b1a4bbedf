use Rattle.vcd_head.proofs.Cited.{◌≡◌, List, [], ◌∷◌, None, ap, nat_eq, position, length, refl, sym, subst, ◌∙◌, arith, err_from_is_err_and, list_any, key_in, Rises, is_key}
use Rattle.vcd_head.proofs.Facts.{enters_known, enters_number, last_in, last_is, none_above, none_keyed, none_there}
use Rattle.vcd_head.proofs.code_place.enter_key.Goals as goal

no_items : {X : Type 0} (xs : List X) → length xs ≡ 0 → xs ≡ []
no_items [] e = refl
no_items (x ∷ xs) e = absurd (omega (arith, e))

pub returns-then-key-last_rising-clause-enters : goal.returns-then-key-last_rising-clause-enters
returns-then-key-last_rising-clause-enters c = λ h.
    let none : c.args.known.now.keys.keys ≡ [] = no_items c.args.known.now.keys.keys (omega arith) in
    let last : c.last_rising.result ≡ last_in 0 c.args.known.now.rising.items = c.last_rising.ensures ∙ last_is c.deref.result.now ∙ ap (last_in 0) c.deref.ensures.value in
    enters_number c.args.bytes.now c.args.known.now _ refl h c.key_of-key.result c.len-position.result c.key_of-key.ensures none none c.in_ok-append.ensures.items (omega (arith, last)) (omega arith)

pub returns-in-Some-clause-enters : goal.returns-in-Some-clause-enters
returns-in-Some-clause-enters c = λ h.
    let found : position (nat_eq (key_in c.args.bytes.now)) c.args.known.now.rising.items ≡ position
    (nat_eq c.key_of-key.result) c.deref-2.result.now = λ j. position (nat_eq (sym c.key_of-key.ensures j)) (sym c.deref-2.ensures.value j) in
    enters_known c.args.bytes.now c.args.known.now _ refl h c.in-Some.position refl refl (found ∙ sym (c.in-Some.ensures (subst Rises (sym c.deref-2.ensures.value) h)))

pub returns-clause-enters : goal.returns-clause-enters
returns-clause-enters c = λ h.
    let found : position (nat_eq (key_in c.args.bytes.now)) c.args.known.now.rising.items ≡ position
    (nat_eq c.key_of-key.result) c.deref-2.result.now = λ j. position (nat_eq (sym c.key_of-key.ensures j)) (sym c.deref-2.ensures.value j) in
    let none : position (nat_eq (key_in c.args.bytes.now)) c.args.known.now.rising.items ≡ None = found
    ∙ sym (c.index_in_rising.ensures (subst Rises (sym c.deref-2.ensures.value) h)) ∙ c.in_default.is in
    c.enter_in_set.ensures.enters h (none_there (nat_eq (key_in c.args.bytes.now)) c.args.known.now.rising.items none)

pub returns-in_err-append-clause-refused : goal.returns-in_err-append-clause-refused
returns-in_err-append-clause-refused c = λ h.
    let xs = c.args.known.now.rising.items in
    let none : c.args.known.now.keys.keys ≡ [] = no_items c.args.known.now.keys.keys (omega arith) in
    let last : c.last_rising.result ≡ last_in 0 xs = c.last_rising.ensures ∙ last_is c.deref.result.now ∙ ap (last_in 0) c.deref.ensures.value in
    let absent = none_keyed c.args.bytes.now xs c.args.known.now.keys.keys (none_above 0 (key_in c.args.bytes.now) xs h (omega (arith, last))) ∙ ap (list_any (is_key c.args.bytes.now)) none in
    let p = err_from_is_err_and c.from_residual.result c.from_residual.ensures.1 in
    rw p.1 (λ _. absent)

pub returns-clause-refused : goal.returns-clause-refused
returns-clause-refused c = λ h.
    let found : position (nat_eq (key_in c.args.bytes.now)) c.args.known.now.rising.items ≡ position
    (nat_eq c.key_of-key.result) c.deref-2.result.now = λ j. position (nat_eq (sym c.key_of-key.ensures j)) (sym c.deref-2.ensures.value j) in
    let none : position (nat_eq (key_in c.args.bytes.now)) c.args.known.now.rising.items ≡ None = found
    ∙ sym (c.index_in_rising.ensures (subst Rises (sym c.deref-2.ensures.value) h)) ∙ c.in_default.is in
    c.enter_in_set.ensures.refused (none_there (nat_eq (key_in c.args.bytes.now)) c.args.known.now.rising.items none)
