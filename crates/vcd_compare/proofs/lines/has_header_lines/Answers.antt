use Rattle.vcd_compare.proofs.Cited.{◌≡◌, Bool, true, false, ◌&&◌, not, refl, sym, ap, ◌∙◌}
use Rattle.vcd_compare.proofs.Facts.{head_empty}
use Rattle.vcd_compare.proofs.lines.has_header_lines.Goals as goal
use Rattle.vcd_compare.proofs.lines.has_header_lines.Goals.{then-is_empty, else-is_empty, then-is_empty-2, else-is_empty-2}

-- the last of three tests, or one that fails
last_of : (a b d : Bool) → a ≡ true → b ≡ true → (a && b && d) ≡ d
last_of a b d e f = rw (e, f) refl

first_fails : (a b d : Bool) → a ≡ false → (a && b && d) ≡ false
first_fails a b d e = rw e refl

second_fails : (a b d : Bool) → a ≡ true → b ≡ false → (a && b && d) ≡ false
second_fails a b d e f = rw (e, f) refl

pub returns : goal.returns
returns c = λ h q ns pairs.
    let head = head_empty q h ns c.args.pairs.now pairs in
    elim c.if-is_empty-2.branch [
      | then-is_empty-2 w ↦
          elim c.if-is_empty.branch [
            | then-is_empty v ↦
                ap not (w.result-is ∙ w.is_empty-then-is_empty-2.ensures ∙ sym (head
                ∙ last_of _ _ _ (sym c.is_empty.ensures ∙ v.if-is_empty.true) (sym v.is_empty-then-is_empty.ensures ∙ sym v.value-is
                ∙ w.if-is_empty-2.true)))
            | else-is_empty v ↦ let no = sym w.if-is_empty-2.true ∙ v.value-is ∙ v.if-is_empty.false in absurd (cc)
          ]
      | else-is_empty-2 w ↦
          elim c.if-is_empty.branch [
            | then-is_empty v ↦
                ap not (w.result-is ∙ w.if-is_empty-2.false ∙ sym (head ∙ second_fails _ _ _ (sym c.is_empty.ensures ∙ v.if-is_empty.true)
                (sym v.is_empty-then-is_empty.ensures ∙ sym v.value-is ∙ w.if-is_empty-2.false)))
            | else-is_empty v ↦ ap not (w.result-is ∙ w.if-is_empty-2.false ∙ sym (head ∙ first_fails _ _ _ (sym c.is_empty.ensures ∙ v.if-is_empty.false)))
          ]
    ]
