use Rattle.vcd_head.proofs.Cited.{◌≡◌, ◌<◌, ◌+◌, ◌++◌, ◌∷◌, [], length, take, get_or, refl, sym, ap, subst, ◌∙◌, map, string_bytes, rules, append_assoc, take_more, GoesOn, NameRun}
use Rattle.vcd_head.proofs.Facts.{follows_along, goes_both, goes_nowhere}
use Rattle.vcd_head.proofs.names.Group.hop.Goals as goal

pub returns-in-Some-clause-run : goal.returns-in-Some-clause-run
returns-in-Some-clause-run c = λ front some f.
    let names = map string_bytes c.args.self.now.names.now in
    let order = c.args.self.now.order.now in
    let old = c.args.matched.now in
    let bytes = c.args.bytes.now in
    let r = c.args.run in
    let n = c.shared_by_run-shared.result in
    let along : NameRun = record { first = r.first; end = r.end; front_len = r.front_len + n; whole = r.whole } in
    let follows = follows_along names order old front bytes n r along f some c.shared_by_run-shared.ensures.within c.shared_by_run-shared.ensures.first c.shared_by_run-shared.ensures.last refl refl refl refl in
    let within : n < length bytes = search rules in
    let byte : c.in-Some.byte.now ≡ get_or bytes n 0 = search rules in
    subst (λ p. GoesOn names order old c.follow_byte.new.matched p c.follow_byte.result) (append_assoc front (take n bytes) (c.in-Some.byte.now ∷ [])
    ∙ ap (λ b. front ++ (take n bytes ++ b ∷ [])) byte ∙ ap (λ l. front ++ l) (sym (take_more bytes n 0 within)))
    (goes_both names order old old c.follow_byte.new.matched (front ++ take n bytes) (c.in-Some.byte.now ∷ []) along c.follow_byte.result
    (goes_nowhere names order old (front ++ take n bytes) along follows) (c.follow_byte.ensures (front ++ take n bytes) follows))

pub returns-in-None-clause-run : goal.returns-in-None-clause-run
returns-in-None-clause-run c = λ front some f.
    let names = map string_bytes c.args.self.now.names.now in
    let order = c.args.self.now.order.now in
    let r = c.args.run in
    let n = c.shared_by_run-shared.result in
    let along : NameRun = record { first = r.first; end = r.end; front_len = r.front_len + n; whole = r.whole } in
    goes_nowhere names order c.args.matched.now (front ++ take n c.args.bytes.now) along
    (follows_along names order c.args.matched.now front c.args.bytes.now n r along f some c.shared_by_run-shared.ensures.within c.shared_by_run-shared.ensures.first c.shared_by_run-shared.ensures.last refl refl refl refl)
