-- Which pairs of variables the outermost pairs of names select.
use Rattle.std.specs.Prelude.{◌≢◌, ◌↔◌, Option, is_some, List, filter, flat_map, AllPairs, Contains}
use Rattle.vcd_model.specs.Header.{Header}
use Rattle.vcd_model.specs.Compare.{Asked, Named}
use Rattle.vcd_model.specs.Within.{Names, alone_in, compared_in, outermost, places_of, turned, unlike_in}

-- what is in one of the two lists is in the other
abbrev pub HaveTheSame : {X : Type 0} → List X → List X → Type 0
HaveTheSame {X = X} xs ys = (x : X) → Contains xs x ↔ Contains ys x

-- each variable that names select and that has a counterpart, with it
abbrev pub with_counterparts : Asked → Header → List Names → List (Named × Option Named)
with_counterparts q h ns = flat_map (λ n. filter (λ p. is_some p.1) (places_of q h n)) ns

-- The outermost pairs of names select what all pairs of names select: the pairs of variables, of
-- which some are compared and the others are of different kinds, and on both sides the variables
-- without a counterpart.
abbrev pub OutermostHaveAllPairs : Type 0
OutermostHaveAllPairs = (q : Asked) (h : Header) (ns : List Names)
    → HaveTheSame (with_counterparts q h (outermost ns)) (with_counterparts q h ns)
    × HaveTheSame (compared_in q h (outermost ns)) (compared_in q h ns)
    × HaveTheSame (unlike_in q h (outermost ns)) (unlike_in q h ns)
    × HaveTheSame (flat_map (alone_in q h) (outermost ns)) (flat_map (alone_in q h) ns)
    × HaveTheSame (flat_map (λ n. alone_in q h (turned n)) (outermost ns))
    (flat_map (λ n. alone_in q h (turned n)) ns)

-- The outermost pairs of names select no pair of variables twice.
abbrev pub OutermostHaveEachPairOnce : Type 0
OutermostHaveEachPairOnce = (q : Asked) (h : Header) (ns : List Names)
    → AllPairs (λ p r. p ≢ r) (with_counterparts q h (outermost ns))
