-- Text that is due, and of which the last piece is not yet written.
use Rattle.std.specs.Prelude.{◌≡◌, ◌≢◌, ℕ, ◌+◌, ◌<◌, ◌≤◌, List, ◌++◌, length, slice_range, Result, Ok, Err, IfOk}
use Rattle.vcd_model.specs.ItemText.{time_line}
use Rattle.vcd_text.specs.Device.{Counts, Device, Writes, WritesSome}
use Rattle.vcd_view.specs.declared.view.HeadView.{HeadView}
use Rattle.vcd_body.specs.Given.{HasGoodText}
use Rattle.vcd_body.specs.Ahead.{HasBits, IsSizedItem}
use Rattle.vcd_body.specs.Changes.{AreBinaryIf}
use Rattle.vcd_body.specs.Spelled.{IsSpelled, line_without}
use Rattle.vcd_body.specs.declared.ahead.ScannedItem.{ScannedItem}
use Rattle.vcd_engine.specs.Cut.{IsNoTimestamp}
use Rattle.vcd_engine.specs.declared.pending.PendingCopy.{PendingCopy}

-- an item that is no timestamp; if its size is known, its bytes spell it
pub record IsNextItem (v : HeadView) (p : ScannedItem) : Type 0 where
  pub none : IsNoTimestamp p.item
  pub within : (p.begin ≤ p.end) × (p.end ≤ length p.bytes.now)
  pub good : HasGoodText v.codes.now p.text.now p.item
  pub sized : p.size_or_zero ≢ 0 → IsSizedItem v.codes.now p.item p.size_or_zero
  pub bits : HasBits p.item p.text.now p.bits
  pub binary : AreBinaryIf p.binary p.text.now
  pub spelled : p.size_or_zero ≢ 0 → IsSpelled v p

-- from one offset of these bytes up to the last one before another, and a line feed, is the line of
-- this time, or nothing is known of it
abbrev pub IsLine : List ℕ → ℕ × ℕ → ℕ → Type 0
IsLine bytes line time = line.0 < line.1 → (line.0 + 2 ≤ line.1) × (line.1 ≤ length bytes) × (line_without bytes line.0 line.1 0 ≡ time_line time)

-- the last piece is a part of these bytes
abbrev pub IsPart : List ℕ → PendingCopy → Type 0
IsPart bytes p = (p.from ≤ p.to) × (p.to ≤ length bytes)

-- the text that is pending: the last piece
abbrev pub pending_in : List ℕ → PendingCopy → List ℕ
pending_in bytes p = slice_range bytes p.from p.to

-- what was written and what is pending make the text that was pending and then what is due
abbrev pub PutsAll : List ℕ → List ℕ → Device → Device → List ℕ → Type 0
PutsAll pending pending' out out' due = (written : List ℕ) × (pending ++ due ≡ written ++ pending') × Writes out out' written

-- the same if the write succeeded; if a write failed, a prefix of that text was written
abbrev pub PutsOn : {A E : Type 0} → List ℕ → List ℕ → Device → Device → List ℕ → Result A E → Type 0
PutsOn pending pending' out out' due (Ok v) = PutsAll pending pending' out out' due
PutsOn pending pending' out out' due (Err e) = WritesSome out out' (pending ++ due)

-- the same, if what is pending is a piece of these bytes
abbrev pub PutsCopy : {A E : Type 0} → List ℕ → PendingCopy → PendingCopy → Device → Device → List ℕ → Result A E → Type 0
PutsCopy bytes p p' out out' due result = PutsOn (pending_in bytes p) (pending_in bytes p') out out' due result

-- this text was put after what is pending
pub record PutsBehind {A E : Type 0} (bytes : List ℕ) (p p' : PendingCopy) (out out' : Device) (due : List ℕ) (result : Result A E) : Type 0 where
  pub puts : PutsOn (pending_in bytes p) (pending_in bytes p') out out' due result
  pub counts : Counts out out' result
  pub part : IfOk result (λ _. IsPart bytes p')

-- what one text has more than the other was written, except what is pending at its end
abbrev pub GrowsBut : Device → Device → List ℕ → List ℕ → List ℕ → Type 0
GrowsBut out out' pending text more = (due : List ℕ) × (more ≡ text ++ (due ++ pending)) × Writes out out' due
