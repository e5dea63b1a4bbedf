-- What is kept of a code, in terms of the items so far and of the edges among them.
use Rattle.std.specs.Prelude.{◌≡◌, ℕ, ◌+◌, ◌<◌, ◌≤◌, Bool, true, false, cond, List, [], ◌∷◌, length, Option, Some, None, IfSome}
use Rattle.std.specs.Str.{byte}
use Rattle.vcd_model.specs.Bytes.{as_line}
use Rattle.vcd_model.specs.Cut.{line_if_set}
use Rattle.vcd_model.specs.Declarations.{IdCode}
use Rattle.vcd_model.specs.History.{final_value}
use Rattle.vcd_model.specs.Items.{BodyItem, time_after}
use Rattle.vcd_model.specs.Strobe.{is_triggered, last_sampled, last_time, same_state, sampled}
use Rattle.vcd_model.specs.Values.{Value}
use Rattle.vcd_strobe.specs.Roles.{has_lines, is_at, is_due, is_followed, is_idle, is_listed, settled}
use Rattle.vcd_strobe.specs.declared.role.Role.{Role}

-- digits are as many as the size
abbrev pub IsFull : ℕ → Option Value → Type 0
IsFull size (Some (Value.Bits ds)) = length ds ≡ size
IsFull size (Some (Value.Real text)) = Unit {0}
IsFull size None = Unit {0}

-- the values of a code in its places, after these items and edges
pub record HasValues (at : ℕ → Option Value) (es : List (List BodyItem)) (items : List BodyItem) (c : IdCode) (r : Role) : Type 0 where
  pub now_is : at r.now ≡ final_value items c
  pub settled_is : at (settled r (time_after items)) ≡ sampled items c
  pub written_is : has_lines r.wanted ≡ true → at r.written ≡ last_sampled es c
  pub idle : is_idle r.wanted ≡ true → (last_sampled es c ≡ final_value items c) × (sampled items c ≡ final_value items c)
  pub full : IsFull c.size (final_value items c)
  pub fresh : final_value items c ≡ None → r.since ≡ None

-- when an event was triggered, if this is the time of all items
pub record HasTriggers (es : List (List BodyItem)) (items : List BodyItem) (c : IdCode) (r : Role) (t : ℕ) : Type 0 where
  pub here : is_triggered items c t (1 + t) ≡ is_at r.since t
  pub all : has_lines r.wanted ≡ true → is_triggered items c (last_time es) (1 + t) ≡ is_listed r.wanted
  pub due : has_lines r.wanted ≡ true → is_triggered items c (last_time es) t ≡ is_due r t

-- there are four places
pub record IsWithin (r : Role) : Type 0 where
  pub now : r.now < 4
  pub before : r.before < 4
  pub written : r.written < 4

-- the role of a code that has lines or not
pub record IsRole (at : ℕ → Option Value) (es : List (List BodyItem)) (items : List BodyItem) (c : IdCode) (lines : Bool) (r : Role) : Type 0 where
  pub within : IsWithin r
  pub low : IfSome r.since (λ u. u ≤ time_after items)
  pub lines_are : has_lines r.wanted ≡ lines
  -- if they are kept
  pub values : c.event ≡ false → is_followed r.wanted ≡ true → HasValues at es items c r
  pub triggers : c.event ≡ true → is_followed r.wanted ≡ true → HasTriggers es items c r (time_after items)

-- the line of a code of this role, at an edge of this time
abbrev pub role_line : (at : ℕ → Option Value) → IdCode → Role → ℕ → List ℕ
role_line at c r t =
    cond c.event
    (cond (is_due r t) (as_line (byte "1" ∷ c.text)) [])
    (cond (same_state (at r.written) (at (settled r t))) [] (line_if_set c (at (settled r t))))
