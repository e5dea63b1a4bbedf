-- The new codes of variables, by their rows.
use Rattle.vcd_head.proofs.Cited.{◌≡◌, ℕ, ◌<◌, length, slice_get, Some, slice_get_within, Declaration, Variable, code_of, Header, code_place, Row, HeadShown, Views, place_is, row_of}

-- the index of a variable's code, as its row says it
pub record PlaceRead (h : Header) (r : Row) (v : Variable) : Type 0 where
  pub within : r.code < length h.codes
  pub position : code_place h v.code ≡ r.code

pub place_read : (s : HeadShown) (h : Header) (i : ℕ) (r : Row) (v : Variable) → Views s h → slice_get s.rows i ≡ Some r
    → slice_get h.declarations i ≡ Some (Declaration.Var v) → PlaceRead h r v
place_read s h i r v views at is =
    let own = (row_of s h i r (Declaration.Var v) views at is).own in
    record { within = slice_get_within h.codes r.code (code_of v) own.2; position = place_is h.codes s.index r.code (code_of v) views.index own.2 }
