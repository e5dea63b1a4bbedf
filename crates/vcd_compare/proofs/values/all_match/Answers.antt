use Rattle.vcd_compare.proofs.Cited.{◌≡◌, ◌-◌, ℕ, List, length, drop, sym, ap, ap₂, ◌∙◌, arith, all_match, held_at, digits_held, rule_of}
use Rattle.vcd_compare.proofs.Facts.{few_match, lengths_match, shown_digits}
use Rattle.vcd_compare.proofs.values.all_match.Goals as goal

pub returns-then-count-count_of : goal.returns-then-count-count_of
returns-then-count-count_of c = λ ds es laid one other.
    sym (lengths_match (rule_of c.args.asked) ds es (λ e. c.if-count-count_of.true (c.count_of-count.ensures ds laid one ∙ e ∙ sym (c.count_of.ensures es laid other))))

pub returns : goal.returns
returns c = λ ds es laid one other.
    let r = rule_of c.args.asked in
    let t = c.args.table.now in
    let n = c.count_of-count.result in
    let many : length ds ≡ n = sym (c.count_of-count.ensures ds laid one) in
    let same : length es ≡ n = sym (c.if-count-count_of.false ∙ c.count_of.ensures es laid other) in
    let a = shown_digits c.args.view t c.args.one ds one in
    let b = shown_digits c.args.view t c.args.other es other in
    let last = c.saturating_add.result in
    c.last_match.ensures ds es laid many same one other
    ∙ ap₂ (λ (xs ys : List ℕ). all_match r (drop (n - last) xs) (drop (n - last) ys)) a.1 b.1
    ∙ few_match r (digits_held (held_at t c.args.one)) (digits_held (held_at t c.args.other)) a.0 b.0 c.max-held.result n last
    (let l = c.held_digits.ensures laid in omega (arith, l, c.max-held.ensures))
    (let l = c.held_digits-2.ensures laid in omega (arith, l, c.max-held.ensures))
    (sym many ∙ ap length a.1) (sym same ∙ ap length b.1)
    (omega (arith, c.saturating_add.ensures))
    ∙ sym (ap₂ (all_match r) a.1 b.1)
