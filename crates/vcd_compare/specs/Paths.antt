-- Paths that are stored as the number of the path around them, and their last part.
use Rattle.std.specs.Prelude.{◌≡◌, ℕ, zero, suc, ◌≤◌, ◌==◌, false, Bool, List, [], ◌∷◌, ◌++◌, length, get_or, map, slice_get, Some}
use Rattle.std.specs.List.{list_any}
use Rattle.std.specs.HashSet.{HashSet}
use Rattle.std.specs.Global.{Vec}
use Rattle.vcd_view.specs.declared.code_hash.CodeSeed.{CodeSeed}
use Rattle.vcd_compare.specs.declared.paths.Paths.{Paths}

-- the text of the path that consists of the one with this number, a dot and a part
abbrev pub joined : List (List ℕ) → ℕ → List ℕ → List ℕ
joined texts zero part = part
joined texts (suc i) part = get_or texts i [] ++ 46 ∷ part

abbrev pub has_dot : List ℕ → Bool
has_dot text = list_any (λ b. b == 46) text

-- what the path with this number consists of: the number of the path around it, and the index of its last part
abbrev pub node_at : List (ℕ × ℕ) → ℕ → ℕ × ℕ
node_at nodes zero = (0, 0)
node_at nodes (suc i) = get_or nodes i (0, 0)

-- the path at this index consists of an earlier one, or none, and of a part without a dot
pub record IsNode (parts texts : List (List ℕ)) (i : ℕ) (node : ℕ × ℕ) : Type 0 where
  pub around : node.0 ≤ i
  pub part : List ℕ
  pub part_is : slice_get parts node.1 ≡ Some part
  pub plain : has_dot part ≡ false
  pub text_is : slice_get texts i ≡ Some (joined texts node.0 part)

-- no text is there twice
abbrev pub AreApart : List (List ℕ) → Type 0
AreApart texts = (i j : ℕ) (t : List ℕ) → slice_get texts i ≡ Some t → slice_get texts j ≡ Some t → i ≡ j

-- these are the texts of the paths, in the order of their numbers
pub record AreTexts (parts : List (List ℕ)) (nodes : List (ℕ × ℕ)) (texts : List (List ℕ)) : Type 0 where
  pub len : length texts ≡ length nodes
  pub each : (i : ℕ) (node : ℕ × ℕ) → slice_get nodes i ≡ Some node → IsNode parts texts i node
  pub apart : AreApart texts
  pub parts_apart : AreApart parts

-- n is the number of this text
abbrev pub IsNumberOf : List (List ℕ) → ℕ → List ℕ → Type 0
IsNumberOf texts n t = (i : ℕ) × (n ≡ suc i) × (slice_get texts i ≡ Some t)

-- ---- the paths of the code

-- the texts of a set
abbrev pub texts_in : HashSet (Vec ℕ) CodeSeed → List (List ℕ)
texts_in set = map (λ v. v.items) set.keys

-- these are the texts of the paths, in the order of their numbers
abbrev pub HasTexts : Paths → List (List ℕ) → Type 0
HasTexts ps texts = AreTexts (texts_in ps.parts) ps.nodes.keys texts

-- the text is at this index, after the others if it was not there
abbrev pub EntersText : (old new : HashSet (Vec ℕ) CodeSeed) → List ℕ → ℕ → Type 0
EntersText old new t index =
    (more : List (List ℕ)) × (texts_in new ≡ texts_in old ++ more) × (slice_get (texts_in new) index ≡ Some t) × (AreApart (texts_in old) → AreApart (texts_in new))

-- the path has this number, after the others if it was not there
abbrev pub EntersPath : List (List ℕ) → Paths → List ℕ → ℕ → Type 0
EntersPath texts new t number = (more : List (List ℕ)) × HasTexts new (texts ++ more) × IsNumberOf (texts ++ more) number t
