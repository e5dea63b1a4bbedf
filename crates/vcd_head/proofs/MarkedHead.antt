-- The marks that names give, and the header of these.
use Rattle.vcd_head.proofs.Cited.{◌≡◌, ◌⊎◌, inl, inr, ℕ, ◌+◌, ◌<◌, ◌≤◌, ◌==◌, Bool, true, false, cond, List, [], ◌∷◌, ◌++◌, length, map, flat_map, option_map, unwrap_or, refl, sym, ap, ◌∙◌, arith, AllByRecursion, range_with_len, length_push, length-map-range_with_len, get_or-map-range_with_len, slice_get_past, unwrap_or-slice_get, each_after, Declaration, enclosing, Header, rows_text, three_lines_of, end_line, Keyword, scale_text, is_among, is_selected, enclosing_below, Scale, is_marked, HeadShown, Views, before_or_from}
use Rattle.std.proofs.Common.{ne_eqb}
use Rattle.vcd_model.specs.HeadText.{head_text, head_for}
use Rattle.vcd_model.specs.Selection.{marked_places}
use Rattle.vcd_head.specs.Marks.{marks_of}

all_append : (P : ℕ → Type 0) (xs ys : List ℕ) → AllByRecursion P xs → AllByRecursion P ys → AllByRecursion P (xs ++ ys)
all_append P [] ys h k = k
all_append P (x ∷ xs) ys h k = (h.0, all_append P xs ys h.1 k)

all_weaker : (m n : ℕ) (xs : List ℕ) → m ≤ n → AllByRecursion (λ i. i < m) xs → AllByRecursion (λ i. i < n) xs
all_weaker m n [] h k = tt
all_weaker m n (x ∷ xs) h k = let first = k.0 in (omega arith, all_weaker m n xs h k.1)

marked_below : (names : List (List ℕ)) (e ds : List Declaration) (n : ℕ) → length e + length ds ≤ n
    → AllByRecursion (λ i. i < n) (flat_map (λ ps. ps) (each_after
    (λ earlier d. cond (is_selected names earlier d) (length earlier ∷ enclosing earlier) []) e ds))
marked_below names e [] n h = tt
marked_below names e (d ∷ ds) n h =
    all_append (λ i. i < n) _ _ (by_test (is_selected names e d)) (marked_below names (e ++ d ∷ []) ds n (omega (arith, length_push e d)))
  where
    by_test : (b : Bool) → AllByRecursion (λ i. i < n) (cond b (length e ∷ enclosing e) [])
    by_test true = (omega arith, all_weaker (length e) n (enclosing e) (omega arith) (enclosing_below e))
    by_test false = tt

among_none : (n i : ℕ) (ps : List ℕ) → n ≤ i → AllByRecursion (λ j. j < n) ps → is_among ps i ≡ false
among_none n i [] h all = refl
among_none n i (p ∷ ps) h all = let first = all.0 in rw (ne_eqb i p (λ e. omega arith)) (among_none n i ps h all.1)

places_below : (names : List (List ℕ)) (ds : List Declaration) → AllByRecursion (λ i. i < length ds) (marked_places names ds)
unfolding marked_places
places_below names ds = marked_below names [] ds (length ds) (omega arith)

mark_is : (b : Bool) → (cond b 1 0 == 1) ≡ b
mark_is true = refl
mark_is false = refl

mark_at : (names : List (List ℕ)) (ds : List Declaration) (i : ℕ) → is_marked (marks_of names ds) i ≡ is_among (marked_places names ds) i
unfolding marks_of
mark_at names ds i = by_place (before_or_from i (length ds))
  where
    positions : List ℕ
    positions = marked_places names ds

    mark : ℕ → ℕ
    mark j = cond (is_among positions j) 1 0

    marks : List ℕ
    marks = map mark (range_with_len 0 (length ds))

    by_place : (i < length ds) ⊎ (length ds ≤ i) → is_marked marks i ≡ is_among positions i
    by_place (inl l) = ap (λ n. n == 1) (unwrap_or-slice_get marks i 0 ∙ get_or-map-range_with_len mark 0 (length ds) i i 0 l (omega arith)) ∙ mark_is (is_among positions i)
    by_place (inr l) =
        ap (λ o. unwrap_or o 0 == 1) (slice_get_past marks i (omega (arith, length-map-range_with_len mark 0 (length ds)))) ∙ sym (among_none (length ds) i positions l (places_below names ds))

-- the marks of names are those indexes
pub marks_are : (names : List (List ℕ)) (ds : List Declaration) → is_marked (marks_of names ds) ≡ is_among (marked_places names ds)
marks_are names ds = λ j i. mark_at names ds i j

-- the head of these marks is that for the names
pub head_is : (h : Header) (names : List (List ℕ)) (marks : List ℕ) → marks ≡ marks_of names h.declarations → head_text h (is_marked marks) ≡ head_for h names
unfolding head_for
head_is h names marks e = ap (head_text h) (ap is_marked e ∙ marks_are names h.declarations)

-- ---- the whole header

-- a header's text in the parts that are written
abbrev pub head_parts : List ℕ → List ℕ → List ℕ → List ℕ → List ℕ
head_parts date version scale rows = (((three_lines_of Keyword.Date date ++ three_lines_of Keyword.Version version) ++ three_lines_of Keyword.Timescale scale) ++ rows) ++ end_line

pub head_of_parts : (s : HeadShown) (h : Header) (m : ℕ → Bool) (scale : List ℕ) → Views s h
    → scale ≡ unwrap_or (option_map scale_text (option_map (λ (x : Scale). x.exponent) s.scale)) []
    → head_parts s.date s.version scale (rows_text (λ code. code) m h.declarations) ≡ head_text h m
unfolding head_text
head_of_parts s h m scale v e =
    let rows = rows_text (λ code. code) m h.declarations in
    ap (λ d. head_parts d s.version scale rows) v.date ∙ ap (λ x. head_parts h.date x scale rows) v.version
    ∙ ap (λ x. head_parts h.date h.version x rows) (e ∙ ap (λ o. unwrap_or (option_map scale_text o) []) v.scale)
