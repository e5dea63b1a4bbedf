-- The path of a row, part by part from its end.
use Rattle.std.proofs.Common.{◌≡◌, ◌≢◌, ℕ, ◌<◌, Bool, true, false, List, [], ◌∷◌, ◌++◌, length, take, bytes_eq, slice_get, Some, None, refl, sym, ap, ◌∙◌, append_assoc}
use Rattle.std.proofs.lemmas.Bool.{false≢true}
use Rattle.std.proofs.lemmas.List.{append_cancel_right}
use Rattle.std.proofs.lemmas.Slice.Eq.{bytes_eq-Decides}
use Rattle.vcd_model.specs.Declarations.{Declaration, name_of, parent, path_of}
use Rattle.vcd_model.specs.Header.{Header}
use Rattle.vcd_head.proofs.InsideLemmas.{front_is, front_next}
use Rattle.vcd_head.proofs.PathLemmas.{path_is}
use Rattle.vcd_head.specs.Inside.{front}
use Rattle.vcd_head.specs.Paths.{scopes_text}
use Rattle.vcd_view.specs.Views.{counted_from_one}
use Rattle.vcd_strobe.proofs.LineSteps.{there_below}

-- ---- texts

differ : (a b : List ℕ) → a ≢ b → bytes_eq a b ≡ false
differ a b apart = by_test (bytes_eq a b) refl
  where
    by_test : (t : Bool) → bytes_eq a b ≡ t → t ≡ false
    by_test true e = absurd (apart ((bytes_eq-Decides a b).0 e))
    by_test false e = refl

same_test : (a b c d : List ℕ) → (a ≡ b → c ≡ d) → (c ≡ d → a ≡ b) → bytes_eq a b ≡ bytes_eq c d
same_test a b c d to from = by_test (bytes_eq a b) refl
  where
    by_test : (t : Bool) → bytes_eq a b ≡ t → t ≡ bytes_eq c d
    by_test true e = sym ((bytes_eq-Decides c d).1 (to ((bytes_eq-Decides a b).0 e)))
    by_test false e = sym (differ c d (λ q. false≢true (sym e ∙ (bytes_eq-Decides a b).1 (from q))))

pub turned : (a b : List ℕ) → bytes_eq a b ≡ bytes_eq b a
turned a b = same_test a b b a sym sym

-- ---- parts

inside : (ds : List Declaration) (i p : ℕ) (d e : Declaration) → parent (take i ds) ≡ Some p → slice_get ds p ≡ Some e
    → path_of (take i ds) d ≡ path_of (take p ds) e ++ 46 ∷ name_of d
inside ds i p d e q at =
    let scopes : scopes_text (take i ds) ≡ scopes_text (take p ds) ++ (name_of e ++ 46 ∷ []) = front_is ds i ∙ ap (λ o. front ds (counted_from_one o)) q ∙ front_next ds p e at in
    path_is (take i ds) d ∙ ap (λ l. l ++ name_of d) scopes ∙ ap (λ l. l ++ name_of d) (sym (append_assoc (scopes_text (take p ds)) (name_of e) (46 ∷ [])))
    ∙ append_assoc (scopes_text (take p ds) ++ name_of e) (46 ∷ []) (name_of d) ∙ ap (λ l. l ++ 46 ∷ name_of d) (sym (path_is (take p ds) e))

outside : (ds : List Declaration) (i : ℕ) (d : Declaration) → parent (take i ds) ≡ None → path_of (take i ds) d ≡ name_of d
outside ds i d q = path_is (take i ds) d ∙ ap (λ l. l ++ name_of d) (front_is ds i ∙ ap (λ o. front ds (counted_from_one o)) q)

-- a text is the path of a row if what is left of it is that of a part of the path
pub record HasPart (h : Header) (row : ℕ) (d : Declaration) (path : List ℕ) (part : ℕ) (rest : List ℕ) : Type 0 where
  pub declared : Declaration
  pub at : slice_get h.declarations part ≡ Some declared
  pub decides : bytes_eq (path_of (take row h.declarations) d) path ≡ bytes_eq (path_of (take part h.declarations) declared) rest

module _ (h : Header) (row : ℕ) (d : Declaration) (path : List ℕ) where
  pub part_first : (rest : List ℕ) → slice_get h.declarations row ≡ Some d → rest ≡ path → HasPart h row d path row rest
  part_first rest at same = record { declared = d; at = at; decides = ap (bytes_eq (path_of (take row h.declarations) d)) (sym same) }

  module _ (part : ℕ) (rest : List ℕ) (has : HasPart h row d path part rest) where
    abbrev pub own : List ℕ
    own = name_of has.declared

    abbrev whole : List ℕ
    whole = path_of (take part h.declarations) has.declared

    -- no scope is left
    pub part_last : parent (take part h.declarations) ≡ None → bytes_eq (path_of (take row h.declarations) d) path ≡ bytes_eq own rest
    part_last none = has.decides ∙ ap (λ l. bytes_eq l rest) (outside h.declarations part has.declared none)

    module _ (scope : ℕ) (before : scope < length h.declarations) (around : parent (take part h.declarations) ≡ Some scope) where
      its : (e : Declaration) × (slice_get h.declarations scope ≡ Some e)
      its = there_below h.declarations scope before

      abbrev outer : List ℕ
      outer = path_of (take scope h.declarations) its.0

      joined : whole ≡ outer ++ 46 ∷ own
      joined = inside h.declarations part scope has.declared its.0 around its.1

      -- the text does not end with the name
      pub part_other : ((front : List ℕ) → rest ≢ front ++ own) → bytes_eq (path_of (take row h.declarations) d) path ≡ false
      part_other apart = has.decides ∙ differ whole rest (λ q. apart (outer ++ 46 ∷ []) (sym q ∙ joined ∙ sym (append_assoc outer (46 ∷ []) own)))

      module _ (front : List ℕ) (ends : rest ≡ front ++ own) where
        -- there is no dot before it
        pub part_no_dot : ((f : List ℕ) → front ≢ f ++ 46 ∷ []) → bytes_eq (path_of (take row h.declarations) d) path ≡ false
        part_no_dot apart = has.decides ∙ differ whole rest (λ q. apart outer (append_cancel_right front (outer ++ 46 ∷ []) own
            (sym ends ∙ sym q ∙ joined ∙ sym (append_assoc outer (46 ∷ []) own))))

        pub part_next : (left : List ℕ) → front ≡ left ++ 46 ∷ [] → HasPart h row d path scope left
        part_next left dot =
            let split : rest ≡ left ++ 46 ∷ own = ends ∙ ap (λ l. l ++ own) dot ∙ append_assoc left (46 ∷ []) own in
            record {
              declared = its.0;
              at = its.1;
              decides = has.decides ∙ same_test whole rest outer left
                  (λ q. append_cancel_right outer left (46 ∷ own) (sym joined ∙ q ∙ split))
                  (λ q. joined ∙ ap (λ l. l ++ 46 ∷ own) q ∙ sym split);
            }
