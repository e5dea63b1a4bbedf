-- What the path of a declaration is written from.
use Rattle.std.specs.Prelude.{ℕ, List, [], ◌∷◌, ◌++◌, reverse, flat_map}
use Rattle.vcd_model.specs.Declarations.{Declaration, enclosing, names_at}

-- the names of the scopes at these indexes, each with a dot after it
abbrev pub names_text : List Declaration → List ℕ → List ℕ
names_text ds scopes = flat_map (λ name. name ++ 46 ∷ []) (names_at ds scopes)

-- the names of the scopes around a declaration that has these before it, outermost first, each with
-- a dot after it
unfoldable pub scopes_text : List Declaration → List ℕ
scopes_text earlier = names_text earlier (reverse (enclosing earlier))
