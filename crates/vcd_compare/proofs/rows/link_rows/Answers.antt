use Rattle.std.proofs.Common.{◌≡◌, ◌∙◌, ◌<◌, ◌+◌, ℕ, false, List, Some, refl, arith, length, get_or, set, ap, sym, subst, slice_get}
use Rattle.std.proofs.lemmas.List.{length-set, length-map, get_or-map}
use Rattle.std.proofs.lemmas.Option.{slice_get-get_or}
use Rattle.vcd_compare.specs.Rows.{AreLinkedRows, classes_of}
use Rattle.vcd_compare.specs.declared.pairs.PairRow.{PairRow}
use Rattle.vcd_compare.proofs.RowLemmas.{linked_first, linked_next}
use Rattle.vcd_compare.proofs.rows.link_rows.Goals as goal

class_at : (rows : List PairRow) (i : ℕ) → i < length rows → slice_get (classes_of rows) i ≡ Some (get_or rows i (record { row = 0; ranged = false; class = 0 })).class
class_at rows i lt =
    let len = length-map rows (λ (r : PairRow). r.class) in
    slice_get-get_or (classes_of rows) i 0 (omega (arith, lt, len)) ∙ ap (λ n. Some n) (get_or-map (λ (r : PairRow). r.class) rows i (record { row = 0; ranged = false; class = 0 }) 0 lt)

pub loop-index-init : goal.loop-index-init
loop-index-init c = (refl, refl, linked_first (classes_of c.args.rows.now) c.args.last.now c.args.earlier.now c.requires.none)

pub loop-index-preserved : goal.loop-index-preserved
loop-index-preserved c =
    let rows = c.args.rows.now in
    let index = c.loop-index.index in
    let class = (get_or rows index (record { row = 0; ranged = false; class = 0 })).class in
    let last = c.loop-index.last in
    let earlier = c.loop-index.earlier in
    let long = length-map rows (λ (r : PairRow). r.class) in
    let next = linked_next (classes_of rows) last earlier index class (class_at rows index c.loop-index-test.true)
    (omega (arith, long, c.requires.room, c.loop-index.invariant.1)) c.loop-index.invariant.2 in (
      ap length c.put_at-in-loop-index.ensures ∙ length-set last class (index + 1) ∙ c.loop-index.invariant.0,
      ap length c.put_at.ensures ∙ length-set earlier index c.number_at.result ∙ c.loop-index.invariant.1,
      subst (λ (l : List ℕ). AreLinkedRows (classes_of rows) (index + 1) l c.put_at.new.numbers) (sym c.put_at-in-loop-index.ensures)
          (subst (λ (l : List ℕ). AreLinkedRows (classes_of rows) (index + 1) (set last class (index + 1)) l) (sym (c.put_at.ensures ∙ ap (set earlier index) c.number_at.ensures)) next),
    )
