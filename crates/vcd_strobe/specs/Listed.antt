-- The codes that may have a line at the next edge.
use Rattle.std.specs.Prelude.{◌≡◌, ℕ, ◌≤◌, ◌==◌, Bool, false, nat_lt, cond, List, [], ◌∷◌, ◌++◌, length, take, set, ◌<◌, slice_get, unwrap_or, option_map}
use Rattle.std.specs.List.{list_any}
use Rattle.vcd_run.specs.Listed.{times}
use Rattle.vcd_strobe.specs.Roles.{enlisted, followed, is_followed, is_idle, is_listed, settle}
use Rattle.vcd_strobe.specs.declared.clocks.Clock.{Clock}
use Rattle.vcd_strobe.specs.declared.role.Role.{Role}

-- the role of the code at an index says that it is listed
abbrev pub listed_at : List Role → ℕ → Bool
listed_at roles i = unwrap_or (option_map (λ (r : Role). is_listed r.wanted) (slice_get roles i)) false

-- the first codes are those whose roles say so, each once
pub record AreListed (roles : List Role) (codes : List ℕ) (count : ℕ) : Type 0 where
  pub within : count ≤ length codes
  pub once : (i : ℕ) → times i (take count codes) ≡ cond (listed_at roles i) 1 0

-- the code at an index got this role, and is listed if it has lines
pub record Enlists (q : Role) (code : ℕ) (roles roles' : List Role) (listed listed' : List ℕ) (count n : ℕ) : Type 0 where
  pub roles_are : roles' ≡ set roles code (enlisted q)
  pub within : count ≤ length listed → n ≤ length listed'
  pub long : length listed' ≡ length listed
  pub more : count < length listed → take n listed' ≡ take count listed ++ cond (is_idle q.wanted) (code ∷ []) []
  pub same : is_idle q.wanted ≡ false → take n listed' ≡ take count listed

-- an edge at this time settled the roles of these codes
abbrev pub SettlesEach : List ℕ → ℕ → List Role → List Role → Type 0
SettlesEach codes t old new = (i : ℕ) → slice_get new i ≡ option_map (λ (r : Role). cond (nat_lt 0 (times i codes)) (settle r t) r) (slice_get old i)

-- the values of the code at an index are kept
abbrev pub followed_at : List Role → ℕ → Bool
followed_at roles i = unwrap_or (option_map (λ (r : Role). is_followed r.wanted) (slice_get roles i)) false

-- the values of the codes of these clocks are kept, besides those that were
abbrev pub FollowsEach : List Clock → List Role → List Role → Type 0
FollowsEach clocks old new = (i : ℕ) → slice_get new i ≡ option_map (λ (r : Role). cond (list_any (λ (k : Clock). k.code == i) clocks) (followed r) r) (slice_get old i)
