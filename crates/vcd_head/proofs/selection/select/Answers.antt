use Rattle.vcd_head.proofs.Cited.{◌≡◌, None, Some, true, ◌==◌, [], ◌∷◌, ◌++◌, map, take, drop, length, slice_range, string_bytes, refl, sym, ap, subst, ◌∙◌, ◌+◌, List, ℕ, arith, eqb-true, length-map, length-take-le, map-append, take-append-drop, take_all, first_unmatched, marked_places, Marked, rows_len}
use Rattle.vcd_head.proofs.Facts.{take_group, some_taken, some_grouped, closed_zeros, marked_all, marked_group, unmatched_first, unmatched_later}
use Rattle.vcd_head.specs.Marks.{marks_of}
use Rattle.vcd_head.proofs.selection.select.Goals as goal

pub loop-done-preserved : goal.loop-done-preserved
loop-done-preserved c =
    let names = c.args.names.now in
    let from = c.loop-done.done in
    let to = c.min-done-in-loop-done.result in
    record {
      within = omega arith;
      some = λ l. omega (arith, l);
      len = c.mark_selected-in-loop-done.ensures.len ∙ c.loop-done.invariant.len;
      matched = λ h v.
          let ds = h.declarations in
          let now = sym (c.mark_selected-in-loop-done.ensures.names h v) ∙ c.in_default-mark_selected.is in
          ap (λ l. first_unmatched l ds) (ap (map string_bytes) (take_group from to names (omega arith) (omega arith)) ∙ map-append string_bytes (take from names) (slice_range names from to))
          ∙ unmatched_later (map string_bytes (take from names)) (map string_bytes (slice_range names from to)) ds None (c.loop-done.invariant.matched h v) (sym now);
      closed = λ h v closed. c.mark_selected-in-loop-done.ensures.closed h v (c.loop-done.invariant.closed h v closed);
      marks = λ h zeros v closed first.
          let split = ap (map string_bytes) (take_group from to names (omega arith) (omega arith)) ∙ map-append string_bytes (take from names) (slice_range names from to) in
          subst (λ l. Marked (marked_places l h.declarations) zeros c.mark_selected-in-loop-done.new.marks) (sym split)
          (marked_group (map string_bytes (take from names)) (map string_bytes (slice_range names from to)) h.declarations zeros c.loop-done.marks c.mark_selected-in-loop-done.new.marks
          (some_taken string_bytes from names (c.loop-done.invariant.some c.loop-done-test.true) (omega arith)) (some_grouped string_bytes from to names (omega arith) (omega arith))
          (c.loop-done.invariant.marks h zeros v closed first) (c.mark_selected-in-loop-done.ensures.marks h v (c.loop-done.invariant.closed h v closed)));
    }

no_element : {X : Type 0} (xs : List X) → (length xs == 0) ≡ true → xs ≡ []
no_element [] e = refl
no_element (x ∷ xs) e = absurd (omega (arith, eqb-true (length (x ∷ xs)) 0 e))

pub returns-then-is_empty-clause-marks : goal.returns-then-is_empty-clause-marks
unfolding marks_of
returns-then-is_empty-clause-marks c = λ h v.
    let ds = h.declarations in
    let zeros = c.fill.new.self in
    let rows = rows_len c.args.view.text.now h.codes [] c.args.view.rows.now h.declarations v.rows in
    let none = no_element c.args.names.now (sym c.is_empty.ensures ∙ c.if-is_empty.true) in
    subst (λ ns. c.mark_all.new.marks ≡ marks_of (map string_bytes ns) ds) (sym none)
    (marked_all (marked_places [] ds) zeros c.mark_all.new.marks (length ds) (omega (arith, rows, c.fill.ensures.len))
    (λ i l. c.fill.ensures.clones i 0 (omega (arith, rows)) refl)
    (c.mark_all.ensures.marks h v (closed_zeros ds zeros (λ i l. c.fill.ensures.clones i 0 (omega (arith, l, c.fill.ensures.len)) refl))))

pub returns-clause-marks : goal.returns-clause-marks
unfolding marks_of
returns-clause-marks c = λ h v.
    let ds = h.declarations in
    let names = c.args.names.now in
    let zeros = c.fill.new.self in
    let rows = rows_len c.args.view.text.now h.codes [] c.args.view.rows.now h.declarations v.rows in
    let closed = closed_zeros ds zeros (λ i l. c.fill.ensures.clones i 0 (omega (arith, l, c.fill.ensures.len)) refl) in
    let whole = subst (λ l. Marked (marked_places (map string_bytes l) ds) zeros c.loop-done.marks) (take_all c.loop-done.done names (omega arith))
    (c.loop-done.invariant.marks h zeros v (c.mark_selected.ensures.closed h v closed) (c.mark_selected.ensures.marks h v closed)) in
    marked_all (marked_places (map string_bytes names) ds) zeros c.loop-done.marks (length ds) (omega (arith, rows, c.fill.ensures.len))
    (λ i l. c.fill.ensures.clones i 0 (omega (arith, rows)) refl) whole

-- the names in two groups, by a number of them
split_at : {X : Type 0} (text : X → List ℕ) (n : ℕ) (xs : List X) → map text xs ≡ map text (take n xs) ++ map text (drop n xs)
split_at text n xs = ap (map text) (sym (take-append-drop n xs)) ∙ map-append text (take n xs) (drop n xs)

pub returns-in-Some-clause-names : goal.returns-in-Some-clause-names
returns-in-Some-clause-names c = λ h v.
    let names = c.args.names.now in
    let done = c.min-done.result in
    ap (λ l. first_unmatched l h.declarations) (split_at string_bytes done names)
    ∙ unmatched_first (map string_bytes (take done names)) (map string_bytes (drop done names)) h.declarations c.in-Some.position (sym (c.mark_selected.ensures.names h v) ∙ c.in-Some.is)

pub returns-in-Some-mark_selected-clause-names : goal.returns-in-Some-mark_selected-clause-names
returns-in-Some-mark_selected-clause-names c = λ h v.
    let ds = h.declarations in
    let names = c.args.names.now in
    let from = c.loop-done.done in
    let to = c.min-done-in-loop-done.result in
    let position = c.in-Some-mark_selected.position in
    let both = ap (map string_bytes) (take_group from to names (omega arith) (omega arith)) ∙ map-append string_bytes (take from names) (slice_range names from to) in
    let found = sym c.in-Some-mark_selected.is ∙ c.mark_selected-in-loop-done.ensures.names h v in
    let count : length (map string_bytes (take from names)) ≡ from = length-map (take from names) string_bytes ∙ length-take-le from names (omega arith) in
    let here = ap (λ l. first_unmatched l ds) both ∙ unmatched_later (map string_bytes (take from names))
    (map string_bytes (slice_range names from to)) ds (Some position) (c.loop-done.invariant.matched h v) found
    ∙ ap (λ n. Some (n + position)) count in
    ap (λ l. first_unmatched l ds) (split_at string_bytes to names) ∙ unmatched_first (map string_bytes (take to names)) (map string_bytes (drop to names)) ds (from + position) here

pub returns-clause-names : goal.returns-clause-names
returns-clause-names c = λ h v.
    ap (λ l. first_unmatched (map string_bytes l) h.declarations) (sym (take_all c.loop-done.done c.args.names.now (omega arith))) ∙ c.loop-done.invariant.matched h v
