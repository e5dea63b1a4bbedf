use Rattle.vcd_compare.proofs.Cited.{◌≡◌, ℕ, List, ◌+◌, ◌++◌, ◌∷◌, [], take, sym, ap, subst, ◌∙◌, arith, map-append, take_more, Names, EntersNames, names_in, EntersPath, NamePair}
use Rattle.vcd_compare.proofs.Facts.{names_more}
use Rattle.vcd_compare.proofs.pairs.number_names.Goals as goal

pub loop-name-preserved : goal.loop-name-preserved
loop-name-preserved c = λ texts has.
    let i = c.loop-name.name-index in
    let names = c.args.names.now in
    let pair = c.name-item.result in
    let n : Names = (pair.one.items, pair.other.items) in
    let new = c.enter_path-in-loop-name.new.paths in
    let e = c.loop-name.invariant texts has in
    let a = subst (λ t. EntersPath (texts ++ e.0) c.enter_path.new.paths t c.in_ok-one.one) c.deref.ensures.value (c.in_ok-one.ensures (texts ++ e.0) e.1 (omega arith)) in
    let b = subst (λ t. EntersPath ((texts ++ e.0) ++ a.0) new t c.in_ok-other.other) c.deref-in-loop-name.ensures.value (c.in_ok-other.ensures ((texts ++ e.0) ++ a.0) a.1 (omega arith)) in
    let next : names_in (take (i + 1) names) ≡ names_in (take i names) ++ n ∷ [] =
    ap names_in (take_more names i pair (omega arith) ∙ ap (λ (x : NamePair). take i names ++ x ∷ []) (sym c.name-item.is))
    ∙ map-append (λ (p : NamePair). (p.one.items, p.other.items)) (take i names) (pair ∷ []) in
    subst (λ l. EntersNames texts new l c.push.new.self.items) (sym next)
    (subst (EntersNames texts new (names_in (take i names) ++ n ∷ [])) (sym {A = List (ℕ × ℕ)} c.in_ok-push.ensures.items)
    (names_more texts c.loop-name.paths c.enter_path.new.paths new
    (names_in (take i names)) c.loop-name.numbers.items n c.in_ok-one.one c.in_ok-other.other e a b))
