-- What is kept of all codes, and how long the longest one is.
use Rattle.std.specs.Prelude.{◌≡◌, ℕ, max, fold, map, length, Bool, List, slice_get, Option, Some}
use Rattle.vcd_model.specs.Declarations.{IdCode}
use Rattle.vcd_model.specs.Items.{BodyItem}
use Rattle.vcd_model.specs.Values.{Value}
use Rattle.vcd_view.specs.declared.view.Code.{Code}
use Rattle.vcd_strobe.specs.Kept.{IsRole}
use Rattle.vcd_strobe.specs.declared.role.Role.{Role}

-- after these items and edges, each code has its role, by the values in its places; it has lines if
-- it passes
abbrev pub AreRoles : (at : IdCode → ℕ → ℕ → Option Value) → (lines : IdCode → Bool) → List IdCode → (es : List (List BodyItem)) → (items : List BodyItem) → List Role → Type 0
AreRoles at lines codes es items roles = (i : ℕ) (c : IdCode) → slice_get codes i ≡ Some c → (r : Role) × (slice_get roles i ≡ Some r) × IsRole (at c i) es items c (lines c) r

-- the length of the longest code
abbrev pub longest_text : List IdCode → ℕ
longest_text codes = fold max 0 (map (λ (c : IdCode). length c.text) codes)

-- the same by the lengths that a view has
abbrev pub longest_len : List Code → ℕ
longest_len codes = fold max 0 (map (λ (c : Code). c.len) codes)
