-- The text of kept items, and the item that was read last.
use Rattle.std.specs.Prelude.{◌≡◌, ℕ, ◌++◌, ◌∷◌, [], List, map, None, Result, IfOk, Bool, true, false, not, ◌&&◌, is_some, unwrap_or, option_map, slice_get}
use Rattle.std.specs.List.{last_or}
use Rattle.vcd_model.specs.Declarations.{IdCode}
use Rattle.vcd_model.specs.Header.{Header}
use Rattle.vcd_model.specs.Items.{BodyItem, Entry}
use Rattle.vcd_model.specs.ItemText.{text_after, time_due, time_unless}
use Rattle.vcd_text.specs.declared.device.Source.{Ghosts}
use Rattle.vcd_text.specs.declared.feed.Feed.{Feed}
use Rattle.vcd_view.specs.Views.{IsViewOf}
use Rattle.vcd_view.specs.declared.view.Code.{Code}
use Rattle.vcd_view.specs.declared.view.HeadView.{HeadView}
use Rattle.vcd_body.specs.Device.{DueBy}
use Rattle.vcd_body.specs.Given.{IsItem}
use Rattle.vcd_body.specs.Given.{item_text}
use Rattle.vcd_body.specs.declared.item.Item.{Item}
use Rattle.vcd_body.specs.declared.item.Item.TheVariants.{Time, Begin, End, Change, Finish}
use Rattle.vcd_body.specs.declared.item.Regs.{Regs}
use Rattle.vcd_engine.specs.declared.item_text.ItemText.{ItemText}

-- the times whose lines are written: these, and then those of kept entries
abbrev pub times_with : List ℕ → List Entry → List ℕ
times_with before kept = before ++ map (λ e. e.time) kept

-- the text of these kept entries, which comes after the lines of these times, was written: the time
-- whose line was written last is known
pub record HasWritten (before : List ℕ) (kept : List Entry) (t : ItemText) : Type 0 where
  pub last : t.written ≡ last_or None (times_with before kept)

-- if the line of this time was written, no other came after it: so the last tells if it is due
abbrev pub LastTells : List ℕ → ℕ → Type 0
LastTells written t = time_unless written t ≡ time_due (last_or None written) t

-- an item with this text is put as one more kept entry, at this time: `takes` holds of what is due
-- with it
abbrev pub PutsEntry : {A E : Type 0} → (List ℕ → Type 0) → HeadView → ℕ → Item → List ℕ → ItemText → ItemText → Result A E → Type 0
PutsEntry takes v time item text t t' result = (h : Header) (before : List ℕ) (kept : List Entry) (e : Entry) → IsViewOf v h
    → IsItem h.codes text item e.item → e.time ≡ time → HasWritten before kept t → LastTells (times_with before kept) time
    → DueBy takes (text_after before kept) (text_after before (kept ++ e ∷ [])) × IfOk result (λ _. HasWritten before (kept ++ e ∷ []) t')

-- the item that was read last, as an item of the definitions
abbrev pub AsItem : {X : Type 0} {g : Ghosts X} → List IdCode → Feed X g → Item → BodyItem → Type 0
AsItem codes f item x = IsItem codes (item_text f item) item x

-- the variables of the code at an index are events
abbrev pub is_event_at : HeadView → ℕ → Bool
is_event_at v index = unwrap_or (option_map (λ (c : Code). c.event) (slice_get v.codes.now index)) false

-- an item, after which the registers are these, may be kept: a section's begin or end, or a change
-- that is no event's inside a section
abbrev pub may_be_kept : HeadView → Regs → Item → Bool
may_be_kept v r (Time t) = false
may_be_kept v r (Begin s) = true
may_be_kept v r End = true
may_be_kept v r (Change index form) = not (is_some r.section && is_event_at v index)
may_be_kept v r Finish = false
