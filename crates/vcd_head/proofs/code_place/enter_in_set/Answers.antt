use Rattle.vcd_head.proofs.Cited.{◌≡◌, Bool, None, Some, bytes_eq, position, refl, sym, ap, ◌∙◌, arith, list_any, is_key, same_shape, shape_of, CodeKey}
use Rattle.vcd_head.proofs.Facts.{enters_found, enters_set, none_keyed, none_there}
use Rattle.vcd_head.proofs.code_place.enter_in_set.Goals as goal

pub returns-in_default-index_among-clause-refused : goal.returns-in_default-index_among-clause-refused
returns-in_default-index_among-clause-refused c = λ none _.
    let test = is_key c.args.bytes.now in
    let keys = c.args.known.now.keys.keys in
    let absent : position test keys ≡ None = ap (position test) (sym c.as_slice.ensures.keys) ∙ sym c.index_among.ensures ∙ c.in_default-index_among.is in
    none_keyed c.args.bytes.now c.args.known.now.rising.items keys none ∙ none_there test keys absent

pub returns-in_default-clause-enters : goal.returns-in_default-clause-enters
returns-in_default-clause-enters c = λ h none.
    let test = is_key c.args.bytes.now in
    let found : position test c.args.known.now.keys.keys ≡ Some c.in-Some.position = ap (position test) (sym c.as_slice.ensures.keys) ∙ sym c.index_among.ensures ∙ c.in-Some.is in
    enters_found c.args.bytes.now c.args.known.now _ refl h c.in-Some.position c.in-Some-checked_add.position refl refl none found (omega arith)

pub returns-in_default-insert_full-clause-refused : goal.returns-in_default-insert_full-clause-refused
returns-in_default-insert_full-clause-refused c = λ none _.
    let keys = c.args.known.now.keys.keys in
    let test : same_shape c.in-Ok.key ≡ is_key c.args.bytes.now = ap (λ s. λ (k : CodeKey). bytes_eq s (shape_of k)) c.in-Ok.ensures in
    none_keyed c.args.bytes.now c.args.known.now.rising.items keys none ∙ ap (λ (p : CodeKey → Bool). list_any p keys) (sym test) ∙ c.in_default-insert_full.ensures.absent

pub returns-clause-enters : goal.returns-clause-enters
returns-clause-enters c = λ h none.
    enters_set c.args.bytes.now c.args.known.now _ refl h c.in-Ok.key c.in-Ok-insert_full.position c.in-Some-checked_add-2.position c.in-Ok-insert_full.new refl none c.in-Ok.ensures c.in-Ok-insert_full.ensures.added c.in-Ok-insert_full.ensures.keys c.in-Ok-insert_full.ensures.index c.in-Ok-insert_full.ensures.within
    (omega arith)
