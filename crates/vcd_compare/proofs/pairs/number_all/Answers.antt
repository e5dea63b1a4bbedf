use Rattle.vcd_compare.proofs.Cited.{◌+◌, ◌++◌, [], ℕ, length, map, sym, subst, ◌∙◌, Vec, AllZip, AreApart, AreNamedBelow, AreNumbered, IsNumberOf, both_names, names_in}
use Rattle.std.proofs.lemmas.List.{append_assoc}
use Rattle.vcd_compare.proofs.Facts.{named_below, texts_stay, zip_stays}
use Rattle.vcd_compare.proofs.pairs.number_all.Goals as goal

pub returns-clause-numbered : goal.returns-clause-numbered
returns-clause-numbered c = λ h q view except.
    let ns = names_in c.args.names.now in
    let es = map (λ (e : Vec ℕ). e.items) c.args.exceptions.now in
    let numbers = c.in_ok-names.names.items in
    let bound = c.len-named.result + 1 in
    let named = c.in_ok-names.ensures [] c.new-paths.ensures in
    let known = [] ++ named.0 in
    let left = c.in_ok-exceptions.ensures known named.1 in
    let entered = known ++ left.0 in
    let rows = c.in_ok-rows.ensures h entered view left.1 in
    let texts = entered ++ rows.0 in
    let has = rows.1 in
    let joined = append_assoc known left.0 rows.0 in
    record {
      texts = texts;
      has = has;
      are = c.in_ok-variables.ensures h texts view (subst (λ l. AreNumbered h texts l (length h.declarations)) (sym c.deref.ensures.value) rows.2) has.apart (has.len ∙ sym c.len.ensures.len);
      names = zip_stays entered rows.0 numbers ns (zip_stays known left.0 numbers ns named.2);
      below = subst (λ ts. AreNamedBelow ts (both_names ns) bound) (sym joined)
          (subst (λ n. AreNamedBelow (known ++ (left.0 ++ rows.0)) (both_names ns) (n + 1)) (named.1.len ∙ sym c.len-named.ensures.len)
          (named_below known (left.0 ++ rows.0) numbers ns (subst AreApart joined has.apart) named.2));
      exceptions = subst (AllZip (IsNumberOf texts) c.in_ok-exceptions.exceptions.items) (sym except) (texts_stay entered rows.0 c.in_ok-exceptions.exceptions.items es left.2);
    }
