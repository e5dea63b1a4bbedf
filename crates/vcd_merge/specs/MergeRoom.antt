-- What is lent to a merge counts at most the bound.
use Rattle.std.specs.Prelude.{ℕ, List, length, sum_by}
use Rattle.vcd_model.specs.Bound.{FitsBound, ViewSize, WindowSize, no_room}
use Rattle.vcd_model.specs.Header.{Header}
use Rattle.vcd_head.specs.Merged.{ShowHeaders}
use Rattle.vcd_view.specs.Needs.{view_size}
use Rattle.vcd_head.specs.Shown.{shown}
use Rattle.vcd_head.specs.declared.head.Head.{Head}
use Rattle.vcd_merge.specs.declared.windows.Windows.{Windows}

-- the lengths of what a head keeps
abbrev pub kept_of : Head → ViewSize
kept_of h = view_size (shown h)

-- the lengths of what all heads keep together
abbrev pub kept_in : List Head → ViewSize
kept_in heads = record {
  text = sum_by (λ (h : Head). (kept_of h).text) heads;
  rows = sum_by (λ (h : Head). (kept_of h).rows) heads;
  codes = sum_by (λ (h : Head). (kept_of h).codes) heads;
  index = sum_by (λ (h : Head). (kept_of h).index) heads;
  look_up = sum_by (λ (h : Head). (kept_of h).look_up) heads;
}

-- the lengths of windows
abbrev pub windows_size : Windows → WindowSize
windows_size w = record { chunk = length w.chunks.now; token = length w.tokens.now; value = length w.values.now }

-- no windows are lent
abbrev pub no_windows : WindowSize
no_windows = record { chunk = 0; token = 0; value = 0 }

-- what these heads keep and windows of these lengths count at most the bound of the headers that
-- are shown, with 512 bytes to spare for each input
abbrev pub MergeIsWithinBound : (limit : ℕ) → List Head → WindowSize → Type 0
MergeIsWithinBound limit heads w = (hs : List Header) → ShowHeaders heads hs → FitsBound limit hs w (kept_in heads) no_room
