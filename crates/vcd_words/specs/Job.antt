-- What is done, among all that can be asked for.
use Rattle.std.specs.Prelude.{◌≡◌, ◌==◌, ◌||◌, ◌&&◌, ℕ, Bool, true, false, not, nat_le, is_some, List, [], length, map, string_bytes}
use Rattle.vcd_model.specs.Bytes.{is_empty}
use Rattle.vcd_model.specs.Job as model
use Rattle.vcd_model.specs.Job.{do_rise}
use Rattle.vcd_head.specs.Moments.{asked}
use Rattle.vcd_words.specs.declared.job.Want.{Want}
use Rattle.vcd_words.specs.declared.job.Want.TheVariants as want
use Rattle.vcd_words.specs.Ticks.{has_units, times_with}

-- what is wanted, as the definitions say it
abbrev pub model_want : Want → model.Want
model_want want.Check = model.Want.Check
model_want want.List = model.Want.Listing
model_want (want.Pick names) = model.Want.Pick (map string_bytes names.items)
model_want (want.Cut from to) = model.Want.Cut (asked from) (asked to)
model_want (want.Sample numbers units names) = model.Want.Sample (times_with numbers.items units.items) (map string_bytes names.items)
model_want (want.Edges names) = model.Want.Edges (map string_bytes names.items)
model_want want.Merge = model.Want.Merge

-- words may ask for it: without units its times are in order, and a sample has at least one time,
-- each with a unit or none
abbrev pub is_asked : Want → Bool
is_asked (want.Cut from to) = is_some from.unit || is_some to.unit || nat_le from.number to.number
is_asked (want.Sample numbers units names) = (length units.items == length numbers.items) && not (is_empty numbers.items) && (has_units units.items || do_rise numbers.items)
is_asked want = true

-- it may have several inputs
abbrev pub is_merge : Want → Bool
is_merge want.Merge = true
is_merge want = false

-- its times are ticks, except those of a cut
abbrev pub HasTicks : Want → Type 0
HasTicks want.Check = Unit {0}
HasTicks want.List = Unit {0}
HasTicks (want.Pick names) = Unit {0}
HasTicks (want.Cut from to) = Unit {0}
HasTicks (want.Sample numbers units names) = has_units units.items ≡ false
HasTicks (want.Edges names) = Unit {0}
HasTicks want.Merge = Unit {0}

-- the names that have to select something
abbrev pub names_asked : Want → List (List ℕ)
names_asked want.Check = []
names_asked want.List = []
names_asked (want.Pick names) = map string_bytes names.items
names_asked (want.Cut from to) = []
names_asked (want.Sample numbers units names) = map string_bytes names.items
names_asked (want.Edges names) = map string_bytes names.items
names_asked want.Merge = []
