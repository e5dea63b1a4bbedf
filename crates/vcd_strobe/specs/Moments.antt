-- The edges so far.
use Rattle.std.specs.Prelude.{◌≡◌, ℕ, ◌≤◌, ◌==◌, List, length, map, Option, None, IfSome}
use Rattle.std.specs.List.{AllByRecursion, last_or, list_any}
use Rattle.vcd_model.specs.Items.{BodyItem, time_after}
use Rattle.vcd_model.specs.Strobe.{Clock, edges_in, turn_times}
use Rattle.vcd_strobe.specs.Roles.{is_at}

-- after these items there were this many edges, the last one at this time
pub record EdgesStand (ks : List Clock) (items : List BodyItem) (n : ℕ) (at : Option ℕ) : Type 0 where
  pub count : n ≡ length (edges_in ks items)
  pub last : at ≡ last_or None (map time_after (edges_in ks items))
  -- a turn at the time of the last item came after an edge
  pub turned : list_any (λ t. t == time_after items) (turn_times ks items) ≡ is_at at (time_after items)
  pub past : AllByRecursion (λ t. t ≤ time_after items) (turn_times ks items)
  pub low : IfSome at (λ u. u ≤ time_after items)
