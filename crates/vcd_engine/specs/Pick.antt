-- What `pick` keeps, and which items it writes.
use Rattle.std.specs.Prelude.{ℕ, Bool, true, ◌&&◌, List, [], length, map, string_bytes}
use Rattle.vcd_model.specs.Header.{Header}
use Rattle.vcd_model.specs.Items.{BodyItem}
use Rattle.vcd_model.specs.Pick.{pick_kept}
use Rattle.vcd_view.specs.declared.view.HeadView.{HeadView}
use Rattle.vcd_head.specs.Marks.{AreFlags, is_marked}
use Rattle.vcd_body.specs.declared.item.Item.{Item}
use Rattle.vcd_body.specs.declared.item.Item.TheVariants.{Change}
use Rattle.vcd_body.specs.declared.item.Regs.{Regs}
use Rattle.vcd_engine.specs.ItemText.{HasWritten, may_be_kept}
use Rattle.vcd_engine.specs.declared.task_state.pick.Pick.{Pick}

-- the names that were asked for
abbrev pub names_in : Pick → List (List ℕ)
names_in p = map string_bytes p.names.now

-- how many flags it works with
abbrev pub flags_in : Pick → ℕ
flags_in p = length p.flags.now

-- over this header and after these items: the flags are those of the selected variables, and the
-- text is that of the kept items
pub record ArePicked (p : Pick) (h : Header) (items : List BodyItem) : Type 0 where
  pub chosen : AreFlags h (names_in p) p.flags.now
  pub written : HasWritten [] (pick_kept h (names_in p) items) p.text

-- an item is of a code whose flag is 1, or of none
abbrev pub is_of_chosen : List ℕ → Item → Bool
is_of_chosen flags (Change index form) = is_marked flags index
is_of_chosen flags item = true

-- an item, after which the registers are these, is kept
abbrev pub is_kept : List ℕ → HeadView → Regs → Item → Bool
is_kept flags v r item = is_of_chosen flags item && may_be_kept v r item
