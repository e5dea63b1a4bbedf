-- What is kept of the distinct codes while a header is read.
use Rattle.std.specs.Prelude.{◌≡◌, ℕ, ◌==◌, ◌&&◌, ◌<◌, Bool, false, List, [], ◌∷◌, ◌++◌, map, slice_get, option_map, unwrap_or}
use Rattle.vcd_model.specs.HeaderChecks.{same_flag}
use Rattle.vcd_view.specs.declared.view.Code.{Code}
use Rattle.vcd_head.specs.declared.code_key.CodeKey.{CodeKey}
use Rattle.vcd_head.specs.declared.code_key.CodeKey.TheVariants as key
use Rattle.vcd_head.specs.declared.codes.Codes.{Codes}

-- the code has this size, and is an event or none
abbrev pub is_of : Code → ℕ → Bool → Bool
is_of c size event = (c.size == size) && same_flag c.event event

-- the code at an index has this size, and is an event or none; false if there is no such code
abbrev pub is_declared_as : List Code → ℕ → ℕ → Bool → Bool
is_declared_as codes p size event = unwrap_or (option_map (λ (c : Code). is_of c size event) (slice_get codes p)) false

-- there is no code yet
pub record HasNone (c : Codes) : Type 0 where
  pub no_codes : c.list.items ≡ []
  pub no_numbers : c.rising.items ≡ []
  pub no_keys : c.keys.keys ≡ []

-- each key is above the one before it, and the first above this one
abbrev pub RisesFrom : ℕ → List ℕ → Type 0
RisesFrom n [] = Unit {0}
RisesFrom n (x ∷ xs) = (n < x) × RisesFrom x xs

-- each key is above the one before it, and above 0
abbrev pub Rises : List ℕ → Type 0
Rises xs = RisesFrom 0 xs

-- the keys of codes, if those of the first ones are these
abbrev pub keys_behind : List ℕ → List CodeKey → List CodeKey
keys_behind rising keys = map (λ n. key.Short n) rising ++ keys

-- the keys of all codes, in order
abbrev pub keys_of : Codes → List CodeKey
keys_of c = keys_behind c.rising.items c.keys.keys
