-- Which place has which value of a code.
use Rattle.std.specs.Prelude.{ℕ, Bool, true, false, cond, ◌||◌, ◌==◌, Option, Some, None}
use Rattle.vcd_strobe.specs.declared.role.Role.{Role}
use Rattle.vcd_strobe.specs.declared.role.Wanted.{Wanted}
use Rattle.vcd_strobe.specs.declared.role.Wanted.TheVariants.{Idle, Listed, Never, Silent}

-- the moment is this time
abbrev pub is_at : Option ℕ → ℕ → Bool
is_at (Some at) t = at == t
is_at None t = false

abbrev pub is_listed : Wanted → Bool
is_listed Listed = true
is_listed Idle = false
is_listed Silent = false
is_listed Never = false

abbrev pub is_idle : Wanted → Bool
is_idle Listed = false
is_idle Idle = true
is_idle Silent = false
is_idle Never = false

-- the code has lines
abbrev pub has_lines : Wanted → Bool
has_lines Listed = true
has_lines Idle = true
has_lines Silent = false
has_lines Never = false

-- the values of the code are kept
abbrev pub is_followed : Wanted → Bool
is_followed Listed = true
is_followed Idle = true
is_followed Silent = true
is_followed Never = false

-- the place of the value just before a time
abbrev pub settled : Role → ℕ → ℕ
settled r t = cond (is_at r.since t) r.before r.now

-- the place has a value that is needed
abbrev pub needs : Role → ℕ → Bool
needs r place = place == r.now || place == r.before || place == r.written

-- an event was triggered since the last edge, and before this time
abbrev pub is_due : Role → ℕ → Bool
is_due r t = cond (is_at r.since t) r.early (is_listed r.wanted)

-- the role after a change at a time, whose value is in this place
abbrev pub changed : Role → ℕ → ℕ → Bool → Role
changed r t place from_start =
    record {
      now = place;
      before = cond (is_at r.since t) r.before r.now;
      written = r.written;
      since = cond (is_at r.since t) r.since (cond from_start r.since (Some t));
      early = r.early;
      wanted = r.wanted;
    }

-- the role of an event after a trigger
abbrev pub triggered : Role → ℕ → Role
triggered r t = record { now = r.now; before = r.before; written = r.written; since = Some t; early = is_due r t; wanted = r.wanted }

-- the role of a listed code after an edge
abbrev pub settle : Role → ℕ → Role
settle r t = record { now = r.now; before = r.before; written = settled r t; since = r.since; early = false; wanted = cond (is_at r.since t) r.wanted Idle }

-- the role of a code that is listed, if it has lines
abbrev pub enlisted : Role → Role
enlisted r = record { now = r.now; before = r.before; written = r.written; since = r.since; early = r.early; wanted = cond (is_idle r.wanted) Listed r.wanted }

-- the role of a code whose values are kept
abbrev pub followed : Role → Role
followed r = record { now = r.now; before = r.before; written = r.written; since = r.since; early = r.early; wanted = cond (is_followed r.wanted) r.wanted Silent }

-- the role of a code before the first item, whether it has lines or not
abbrev pub fresh : Bool → Role
fresh lines = record { now = 0; before = 0; written = 0; since = None; early = false; wanted = cond lines Idle Never }
