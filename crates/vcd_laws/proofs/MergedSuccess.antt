-- The comparison of two inputs in what `merge` wrote has status 0 if all of the inputs matches.
use Rattle.vcd_laws.proofs.Cited.{◌≡◌, ℕ, List, [], ◌∷◌, ◌++◌, map, flat_map, inl, refl, sym, ap, ◌∙◌, subst, Input, BodyItem, Want, outcome, input_of, AreReadable, input_scope, Opened, items_in, Asked}
use Rattle.vcd_model.specs.Compare.{Pair, Side, alone, differs, pairs, unlike}
use Rattle.vcd_model.specs.Within.{alone_in, compared_in, side, turned, unlike_in}
use Rattle.vcd_laws.specs.CompareMerged.{asked_within, both_inputs, side_of}
use Rattle.vcd_laws.specs.Matching.{AllMatch, MergedSuccessIsAMatch}
use Rattle.vcd_laws.proofs.WrittenCodes.{In, from_contained, from_map, in_map, to_contained}
use Rattle.vcd_laws.proofs.CheckOfMerge.{merge_items}
use Rattle.vcd_laws.proofs.MergedPairs.{merged_pair, named_in}
use Rattle.vcd_laws.proofs.SameSides.{differs_alike}
use Rattle.vcd_laws.proofs.CompareOfMerge.{alike, items, paired_there}
use Rattle.vcd_laws.proofs.SuccessMatches.{both_none, parts_none, within_is_a_match}

map_none : {X Y : Type 0} (f : X → Y) (xs : List X) → map f xs ≡ [] → xs ≡ []
map_none f [] e = refl
map_none f (x ∷ xs) e = cc

module _ (q : Asked) (limit : ℕ) (names : List (List ℕ)) (inputs : List Input) (o p : Opened)
    (can : AreReadable limit names inputs (o ∷ p ∷ [])) (all : q.names ≡ []) (from to : ℕ) where
  abbrev a : Side
  a = side_of (o.header ∷ p.header ∷ []) o

  abbrev b : Side
  b = side_of (o.header ∷ p.header ∷ []) p

  abbrev asked : Asked
  asked = asked_within q from to

  abbrev ps : List Pair
  ps = pairs q o.header p.header

  abbrev P : Pair → Pair
  P x = merged_pair o.header p.header x

  abbrev k : Opened
  k = (merge_items limit names inputs (o ∷ p ∷ []) can).dump.dump

  -- what the two parts of the merge say, and what the two inputs say
  abbrev There : Type 0
  There = AllMatch asked.rule (side (items_in k)) (side (items_in k)) (compared_in asked k.header both_inputs)
      (flat_map (λ n. alone_in asked k.header n ++ alone_in asked k.header (turned n)) both_inputs)
      (unlike_in asked k.header both_inputs) asked.from asked.to

  abbrev Here : Type 0
  Here = AllMatch q.rule a b ps (alone q o.header p.header ++ alone q p.header o.header) (unlike q o.header p.header)
      asked.from asked.to

  same_difference : (x : Pair) (t : ℕ) → In x ps
      → differs asked.rule (side (items_in k)) (side (items_in k)) (P x) t ≡ differs q.rule a b x t
  same_difference x t i = let m = merge_items limit names inputs (o ∷ p ∷ []) can in
      ap (λ (l : List BodyItem). differs q.rule (side l) (side l) (P x) t) m.items
      ∙ differs_alike q a b o.header p.header (items q limit names inputs o p can all) ps (alike q limit names inputs o p can all) x t i

  from_there : There → Here
  from_there m =
      let paired = paired_there q limit names inputs o p can all from to in
      let first = alone_in asked k.header (input_scope 1, input_scope 2) in
      let second = alone_in asked k.header (input_scope 2, input_scope 1) in
      let both = parts_none first second (parts_none (first ++ second) [] m.none_alone).0 in
      record {
        some = λ e. m.some (paired.compared ∙ ap (map P) e);
        none_alone = both_none (alone q o.header p.header) (alone q p.header o.header)
            (map_none (named_in [] o.header) (alone q o.header p.header) (sym paired.first ∙ both.0))
            (map_none (named_in (o.header ∷ []) p.header) (alone q p.header o.header) (sym paired.second ∙ both.1));
        none_different = map_none P (unlike q o.header p.header) (sym paired.different ∙ m.none_different);
        states = λ x t i low high. let j = from_contained ps x i in
            sym (same_difference x t j) ∙ m.states (P x) t
            (to_contained (compared_in asked k.header both_inputs) (P x) (subst (In (P x)) (sym paired.compared) (in_map P ps x j))) low high;
      }

  from_here : Here → There
  from_here m =
      let paired = paired_there q limit names inputs o p can all from to in
      let first = alone_in asked k.header (input_scope 1, input_scope 2) in
      let second = alone_in asked k.header (input_scope 2, input_scope 1) in
      let both = parts_none (alone q o.header p.header) (alone q p.header o.header) m.none_alone in
      record {
        some = λ e. m.some (map_none P ps (sym paired.compared ∙ e));
        none_alone = both_none (first ++ second) [] (both_none first second
            (paired.first ∙ ap (map (named_in [] o.header)) both.0)
            (paired.second ∙ ap (map (named_in (o.header ∷ []) p.header)) both.1)) refl;
        none_different = paired.different ∙ ap (map P) m.none_different;
        states = λ y t i low high.
            let f = from_map P ps y (subst (In y) paired.compared (from_contained (compared_in asked k.header both_inputs) y i)) in
            ap (λ z. differs asked.rule (side (items_in k)) (side (items_in k)) z t) f.2
            ∙ same_difference f.0 t f.1 ∙ m.states f.0 t (to_contained ps f.0 f.1) low high;
      }

pub merged_success_is_a_match : MergedSuccessIsAMatch
merged_success_is_a_match q limit name names inputs o p can all from to =
    let d = (merge_items limit names inputs (o ∷ p ∷ []) can).dump in
    let law = within_is_a_match (asked_within q from to) limit both_inputs name
    (input_of (outcome Want.Merge limit names inputs).output) d.dump d.opens in (
      λ good. from_there q limit names inputs o p can all from to (law.0 good).1,
      λ m. law.1 (inl d.whole, from_here q limit names inputs o p can all from to m),
    )
