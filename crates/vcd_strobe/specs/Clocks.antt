-- Clocks, and whether a change is a turn of one.
use Rattle.std.specs.Prelude.{◌≡◌, ℕ, ◌+◌, ◌-◌, ◌&&◌, ◌==◌, Bool, false, cond, List, Option, Some, filter_map, option_map, slice_get}
use Rattle.std.specs.List.{AllZip}
use Rattle.std.specs.Str.{byte}
use Rattle.vcd_model.specs.Declarations.{IdCode}
use Rattle.vcd_model.specs.Strobe.{Clock as ModelClock}
use Rattle.vcd_view.specs.declared.view.HeadView.{HeadView}
use Rattle.vcd_body.specs.Contents.{codes_shown, value_in}
use Rattle.vcd_body.specs.Kept.{digit_in, goes_from}
use Rattle.vcd_body.specs.declared.values.table.Table.{Table}
use Rattle.vcd_strobe.specs.Lines.{place_of}
use Rattle.vcd_strobe.specs.declared.clocks.Clock.{Clock}

-- the clock of a code of these: its bit, counted from the left
pub record IsClock (codes : List IdCode) (c : Clock) (k : ModelClock) : Type 0 where
  pub there : slice_get codes c.code ≡ Some k.code
  pub bit : c.index + 1 + k.place ≡ k.code.size
  pub falls : c.falls ≡ k.falls
  pub event : k.code.event ≡ false

abbrev pub AreClocks : List IdCode → List Clock → List ModelClock → Type 0
AreClocks codes clocks ks = AllZip (IsClock codes) clocks ks

-- the clock of a code of these places, each code of which has several
abbrev pub clock_shown : List IdCode → Clock → Option ModelClock
clock_shown places c = option_map (λ code. record { code = code; place = code.size - 1 - c.index; falls = c.falls }) (slice_get places (place_of c.code 0))

-- the clocks as the definitions have them
abbrev pub clocks_shown : HeadView → List Clock → List ModelClock
clocks_shown v clocks = filter_map (clock_shown (codes_shown v)) clocks

-- the digit goes as the clock's edges do
abbrev pub goes : Bool → Option ℕ → Option ℕ → Bool
goes falls before after = cond falls (goes_from (byte "1") (byte "0") before after) (goes_from (byte "0") (byte "1") before after)

-- the digit in a place of the code at an index
abbrev pub digit_at : HeadView → Table → ℕ → ℕ → ℕ → Option ℕ
digit_at v t code place index = digit_in (value_in (codes_shown v) t (place_of code place)) index

-- the clock turns if its code goes from the value in one place to that in another
abbrev pub turns_at : HeadView → Table → ℕ → ℕ → ℕ → Clock → Bool
turns_at v t code from to c = c.code == code && goes c.falls (digit_at v t code from c.index) (digit_at v t code to c.index)
