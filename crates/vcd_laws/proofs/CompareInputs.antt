-- Two dumps without a fault compared: the lines, of which only some are about time scales and ends.
use Rattle.vcd_laws.proofs.Cited.{◌≡◌, ℕ, Bool, true, false, cond, List, [], ◌∷◌, ◌++◌, length, Option, Some, None, is_some, refl, sym, ap, ◌∙◌, append_assoc, append-nil, codes, Input, Header, Dump, KeyedFault, Opened, Outcome, AreReadable, Asked}
use Rattle.vcd_model.specs.Merge.{first_fault}
use Rattle.vcd_model.specs.Outcome.{dumps_of}
use Rattle.vcd_model.specs.Compare.{Side, alone, answer, compared, dump_in, end_lines, ends_with, fault_answer, head_lines, in_ticks, over_both, pairs, unlike, up_to, value_lines}
use Rattle.vcd_laws.specs.CompareMerged.{alone_in_style, line_of_ends, lines_in_style, own_style, scale_line, side_of, unlike_in_style, values_in_style}
use Rattle.vcd_laws.proofs.DumpLaws.{merge_is_a_dump}
use Rattle.vcd_laws.proofs.WholeDumps.{whole_dump, dumps_whole}

-- ---- lists of lines

grouped : (s x y z v e : List ℕ) → (((s ++ x) ++ y) ++ z) ++ v ++ e ≡ s ++ (x ++ y ++ z ++ v) ++ e
grouped s x y z v e = simp append_assoc

grouped_first : (s x y z v : List ℕ) → (((s ++ x) ++ y) ++ z) ++ v ≡ s ++ (x ++ y ++ z ++ v) ++ []
grouped_first s x y z v = simp (append_assoc, append-nil)

-- ---- time scales

-- a header keeps its time scale beside another that has one too, or none
in_ticks_is : (h other : Header) → is_some h.scale ≡ is_some other.scale → in_ticks h other ≡ h
in_ticks_is h other e = by_scale (is_some other.scale) h.scale refl e
  where
    by_scale : (x : Bool) (scale : Option _) → h.scale ≡ scale → is_some h.scale ≡ x
        → cond x h (record h { scale = None }) ≡ h
    by_scale true scale f g = refl
    by_scale false None f g = ap (λ z. record h { scale = z }) (sym f)
    by_scale false (Some z) f g = let no : is_some h.scale ≡ true = rw f refl in cc

-- ---- two dumps

-- the comparison of two dumps whose first fault is this one
abbrev over_with : Asked → List (List ℕ) → Header → Header → Dump → Dump → Option KeyedFault → Outcome
over_with q names one other da db f =
    let hs = da.header ∷ db.header ∷ [] in
    let a = up_to f hs 0 da in
    let b = up_to f hs 1 db in
    let ps = pairs q one other in
    let front = head_lines q one other in
    let lines = value_lines q ps a b in
    cond (ends_with q.extent lines) (answer (length ps) (front ++ lines))
    (elim f [
      | Some e ↦ fault_answer (front ++ lines) names e
      | None ↦ answer (length ps) (front ++ lines ++ end_lines a b)
    ])

over_both_is : (q : Asked) (names : List (List ℕ)) (one other : Header) (da db : Dump)
    → over_both q names one other da db ≡ over_with q names one other da db (first_fault (da ∷ db ∷ []))
unfolding over_both
over_both_is q names one other da db = refl

both_lines : (q : Asked) (one other : Header) (a b : Side)
    → cond (ends_with q.extent (value_lines q (pairs q one other) a b))
    (answer (length (pairs q one other)) (head_lines q one other ++ value_lines q (pairs q one other) a b))
    (answer (length (pairs q one other)) (head_lines q one other ++ value_lines q (pairs q one other) a b ++ end_lines a b))
    ≡ answer (length (pairs q one other)) (scale_line one other ++ lines_in_style (own_style a) q one other a b
    ++ line_of_ends q one other a b)
unfolding head_lines value_lines
both_lines q one other a b = by_end (ends_with q.extent (value_lines q (pairs q one other) a b))
  where
    by_end : (x : Bool) → cond x
        (answer (length (pairs q one other)) (head_lines q one other ++ value_lines q (pairs q one other) a b))
        (answer (length (pairs q one other)) (head_lines q one other ++ value_lines q (pairs q one other) a b ++ end_lines a b))
        ≡ answer (length (pairs q one other)) (scale_line one other ++ lines_in_style (own_style a) q one other a b
        ++ cond x [] (end_lines a b))
    by_end true = ap (answer (length (pairs q one other))) (grouped_first (scale_line one other)
        (alone_in_style (own_style a) (codes "A") 1 (alone q one other))
        (alone_in_style (own_style a) (codes "B") 2 (alone q other one))
        (unlike_in_style (own_style a) (unlike q one other)) (values_in_style (own_style a) q (pairs q one other) a b))
    by_end false = ap (answer (length (pairs q one other))) (grouped (scale_line one other)
        (alone_in_style (own_style a) (codes "A") 1 (alone q one other))
        (alone_in_style (own_style a) (codes "B") 2 (alone q other one))
        (unlike_in_style (own_style a) (unlike q one other)) (values_in_style (own_style a) q (pairs q one other) a b)
        (end_lines a b))

module _ (q : Asked) (limit : ℕ) (names : List (List ℕ)) (inputs : List Input) (o p : Opened)
    (can : AreReadable limit names inputs (o ∷ p ∷ [])) where
  abbrev hs : List Header
  hs = o.header ∷ p.header ∷ []

  dumps : dumps_of (o ∷ p ∷ []) ≡ whole_dump o ∷ whole_dump p ∷ []
  dumps = let law = merge_is_a_dump limit names inputs (o ∷ p ∷ []) can in dumps_whole (o ∷ p ∷ []) law.0

  dump_one : dump_in hs o.header o ≡ whole_dump o
  unfolding dumps_of
  dump_one = let e = dumps in cc

  dump_other : dump_in hs p.header p ≡ whole_dump p
  unfolding dumps_of
  dump_other = let e = dumps in cc

  no_fault : first_fault (whole_dump o ∷ whole_dump p ∷ []) ≡ None
  no_fault = ap first_fault (sym dumps) ∙ (merge_is_a_dump limit names inputs (o ∷ p ∷ []) can).0

  pub directly_is : is_some o.header.scale ≡ is_some p.header.scale
      → compared q limit names inputs
      ≡ answer (length (pairs q o.header p.header)) (scale_line o.header p.header
      ++ lines_in_style (own_style (side_of hs o)) q o.header p.header (side_of hs o) (side_of hs p)
      ++ line_of_ends q o.header p.header (side_of hs o) (side_of hs p))
  unfolding compared
  directly_is scales =
      let one = in_ticks o.header p.header in
      let other = in_ticks p.header o.header in
      rw (can.opens, compared)
      (ap (λ (x : Header). over_both q names o.header p.header (dump_in (x ∷ other ∷ []) x o) (dump_in (x ∷ other ∷ []) other p))
      (in_ticks_is o.header p.header scales)
      ∙ ap (λ (x : Header). over_both q names o.header p.header (dump_in (o.header ∷ x ∷ []) o.header o) (dump_in (o.header ∷ x ∷ []) x p))
      (in_ticks_is p.header o.header (sym scales))
      ∙ ap (λ (d : Dump). over_both q names o.header p.header d (dump_in hs p.header p)) dump_one
      ∙ ap (λ (d : Dump). over_both q names o.header p.header (whole_dump o) d) dump_other
      ∙ over_both_is q names o.header p.header (whole_dump o) (whole_dump p)
      ∙ ap (over_with q names o.header p.header (whole_dump o) (whole_dump p)) no_fault
      ∙ both_lines q o.header p.header (side_of hs o) (side_of hs p))
