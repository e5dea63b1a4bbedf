use Rattle.vcd_compare.proofs.Cited.{◌≡◌, ◌+◌, ◌++◌, ◌∷◌, [], ℕ, List, map, take, sym, ap, subst, ◌∙◌, arith, Vec, map-append, take_more, EntersTexts, EntersPath}
use Rattle.vcd_compare.proofs.RowPaths.{texts_more}
use Rattle.vcd_compare.proofs.pairs.number_texts.Goals as goal

abbrev items_in : List (Vec ℕ) → List (List ℕ)
items_in ts = map (λ t. t.items) ts

pub loop-text-preserved : goal.loop-text-preserved
loop-text-preserved c = λ known has.
    let i = c.loop-text.text-index in
    let texts = c.args.texts.now in
    let text = c.text-item.result in
    let new = c.enter_path.new.paths in
    let e = c.loop-text.invariant known has in
    let a = subst (λ t. EntersPath (known ++ e.0) new t c.in_ok-enter_path.field-0) c.deref.ensures.value (c.in_ok-enter_path.ensures (known ++ e.0) e.1 (omega arith)) in
    let next : items_in (take (i + 1) texts) ≡ items_in (take i texts) ++ text.items ∷ [] =
    ap items_in (take_more texts i text (omega arith) ∙ ap (λ (x : Vec ℕ). take i texts ++ x ∷ []) (sym c.text-item.is))
    ∙ map-append (λ (t : Vec ℕ). t.items) (take i texts) (text ∷ []) in
    subst (λ l. EntersTexts known new l c.push.new.self.items) (sym next)
    (subst (EntersTexts known new (items_in (take i texts) ++ text.items ∷ [])) (sym {A = List ℕ} c.in_ok-push.ensures.items)
    (texts_more known c.loop-text.paths new (items_in (take i texts)) c.loop-text.numbers.items text.items c.in_ok-enter_path.field-0 e a))
