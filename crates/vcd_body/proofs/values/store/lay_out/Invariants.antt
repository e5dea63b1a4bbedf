use Rattle.vcd_body.proofs.Cited.{◌≡◌, ℕ, ◌<◌, length, slice_get, Some, IsUnset, share_from, Share, Slot}
use Rattle.vcd_body.specs.Stored.{start_of}
use Rattle.vcd_body.proofs.values.store.lay_out.Given as goal

abbrev pub invariant-loop-index : goal.invariant-loop-index
invariant-loop-index l = (length l.slots ≡ length l.fn.slots) × (length l.shares ≡ length l.fn.shares) × (l.at ≡ start_of l.codes l.values l.index)
    × ((k : ℕ) (s : Slot) → k < l.index → slice_get l.slots k ≡ Some s → IsUnset s)
    × ((k : ℕ) (h : Share) → k < l.index → slice_get l.shares k ≡ Some h → h ≡ share_from (start_of l.codes l.values k))
