use Rattle.vcd_compare.proofs.Cited.{◌≡◌, ◌≤◌, ◌<◌, ◌∙◌, ◌++◌, ℕ, false, List, [], ◌∷◌, Some, Err, flat_map, length, get_or, slice_get, take, sym, ap, subst, arith, rules, Appends, AppendsSome, AllZip, take_all, AllZip-long, Pair, value_line, side, appends-none, append-nil, counted, slice_get-get_or, slice_get_past, ltb-false}
use Rattle.std.proofs.lemmas.List.{get_or-take, length-take-le}
use Rattle.vcd_compare.proofs.Facts.{lines_cut, lines_more, zip_get}
use Rattle.vcd_compare.specs.LineTexts.{line_at}
use Rattle.vcd_compare.specs.Pairs.{IsPairAt}
use Rattle.vcd_compare.specs.declared.pairs.PairRow.{PairRow}
use Rattle.vcd_compare.proofs.lines.put_lines.Goals as goal
use Rattle.vcd_compare.proofs.lines.put_lines.Goals.{in-Some+in_ok-put_line, in_default}

-- the row at an index of the first ones
row_at : (due : List ℕ) (count index row : ℕ) → index < count → count ≤ length due → row ≡ get_or due index 0 → slice_get (take count due) index ≡ Some row
row_at due count index row lt within is =
    let len = length-take-le count due within in
    slice_get-get_or (take count due) index 0 (omega (arith, lt, len)) ∙ ap (λ n. Some n) (get_or-take count due index 0 lt ∙ sym is)

-- a row that is there
pair_at : (R : PairRow → Pair → Type 0) (rows its : List PairRow) (ps : List Pair) (row : ℕ) (pair d : PairRow) → AllZip R rows ps → its ≡ rows
    → row < length its → pair ≡ get_or its row d → (p : Pair) × (slice_get ps row ≡ Some p) × R pair p
pair_at R rows its ps row pair d all same low is =
    let at = zip_get R its ps row d (subst (λ l. AllZip R l ps) (sym same) all) low in
    (at.0, at.1, subst (λ r. R r at.0) (sym is) at.2)

pub returns-in_err-put_line : goal.returns-in_err-put_line
returns-in_err-put_line g c = counted (search rules) (λ h items ps views current late all.
    let now = c.args.comparison.now in
    let rows = take c.args.count now.due.now in
    let row = c.number_at-row.result in
    let line = λ (row : ℕ). line_at items c.args.time (slice_get ps row) in
    let pair = c.in-Some.ensures.lookup in
    let p = pair_at (IsPairAt h now.current.pairs.now.ends.items) now.current.pairs.now.rows.items c.deref.result.now ps row c.in-Some.pair.now
    (record { row = 0; ranged = false; class = 0 }) all c.deref.ensures.value pair.3.0
    (pair.3.1 (record { row = 0; ranged = false; class = 0 })) in
    let text : value_line (side items) (side items) p.0 c.args.time ≡ flat_map line (row ∷ []) = sym (ap (λ o. line_at items c.args.time o ++ []) p.1 ∙ append-nil _) in
    let e : c.from_residual.result ≡ Err c.in_err-put_line.field-0.0 = search rules in
    rw e (lines_cut line _ _ _ rows c.loop-index.index row
    (row_at now.due.now c.args.count c.loop-index.index row c.loop-index-test.true c.requires.within c.number_at-row.ensures)
    (c.loop-index.invariant.lines h items ps views current late all)
    (subst (AppendsSome (g.W.Sink.device c.loop-index.out).held (g.W.Sink.device c.put_line.new.out).held) text (c.in_err-put_line.ensures.0 h items p.0 views current p.2 late))))

pub loop-index-preserved : goal.loop-index-preserved
loop-index-preserved g c =
    let now = c.args.comparison.now in
    let rows = take c.args.count now.due.now in
    let row = c.number_at-row.result in
    let at : slice_get rows c.loop-index.index ≡ Some row = row_at now.due.now c.args.count c.loop-index.index row c.loop-index-test.true c.requires.within c.number_at-row.ensures in
    elim c.match-get.branch [
      | in-Some+in_ok-put_line w ↦
          rw w.out-is (record {
            same = w.in_ok-put_line.ensures.1 ∙ c.loop-index.invariant.same;
            lines = λ h items ps views current late all.
                let line = λ (row : ℕ). line_at items c.args.time (slice_get ps row) in
                let pair = w.in-Some.ensures.lookup in
                let p = pair_at (IsPairAt h now.current.pairs.now.ends.items)
                now.current.pairs.now.rows.items c.deref.result.now ps row w.in-Some.pair.now
                (record { row = 0; ranged = false; class = 0 }) all c.deref.ensures.value pair.3.0
                (pair.3.1 (record { row = 0; ranged = false; class = 0 })) in
                let text : value_line (side items) (side items) p.0 c.args.time ≡ flat_map line (row ∷ []) = sym (ap (λ o. line_at items c.args.time o ++ []) p.1 ∙ append-nil _) in
                lines_more line _ _ _ rows c.loop-index.index row at (c.loop-index.invariant.lines h items ps views current late all)
                (subst (λ (l : List ℕ). Appends (g.W.Sink.device c.loop-index.out).held (g.W.Sink.device w.put_line.new.out).held l) text
                (w.in_ok-put_line.ensures.0 h items p.0 views current p.2 late));
          })
      | in_default w ↦
          rw w.out-is (record {
            same = c.loop-index.invariant.same;
            lines = λ h items ps views current late all.
                let line = λ (row : ℕ). line_at items c.args.time (slice_get ps row) in
                let past : length c.deref.result.now ≤ row = ltb-false row (length c.deref.result.now) (sym w.in_default.ensures.lookup.0) in
                let long = AllZip-long (IsPairAt h now.current.pairs.now.ends.items) now.current.pairs.now.rows.items ps all in
                let same = ap length c.deref.ensures.value in
                let none : [] ≡ flat_map line (row ∷ []) = sym (ap (λ o. line_at items c.args.time o ++ []) (slice_get_past ps row (omega (arith, past, long, same)))) in
                lines_more line _ _ _ rows c.loop-index.index row at (c.loop-index.invariant.lines h items ps views current late all)
                (subst (λ (l : List ℕ). Appends (g.W.Sink.device c.loop-index.out).held (g.W.Sink.device c.loop-index.out).held l) none (appends-none (g.W.Sink.device c.loop-index.out).held));
          })
    ]

pub returns : goal.returns
returns g c = counted (search rules) (λ h items ps views current late all.
    let rows = c.args.comparison.now.due.now in
    let line = λ (row : ℕ). line_at items c.args.time (slice_get ps row) in
    let long = length-take-le c.args.count rows c.requires.within in
    let end : take c.loop-index.index (take c.args.count rows) ≡ take c.args.count rows = take_all c.loop-index.index (take c.args.count rows) (omega (arith, c.loop-index-test.false, long)) in
    subst (λ (l : List ℕ). Appends (g.W.Sink.device c.args.out.now).held (g.W.Sink.device c.loop-index.out).held (flat_map line l)) end
    (c.loop-index.invariant.lines h items ps views current late all))
