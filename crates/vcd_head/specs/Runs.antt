-- The names that begin with the front of a path.
use Rattle.std.specs.Prelude.{◌≡◌, ◌≢◌, ℕ, ◌+◌, ◌<◌, ◌≤◌, ◌⊎◌, Bool, true, false, get_or, List, ◌++◌, length}
use Rattle.vcd_model.specs.Selection.{selects_path}
use Rattle.vcd_head.specs.NameOrder.{AreSame, IsOrder, Notes, SelectsAll, next_in, text_at}
use Rattle.vcd_head.specs.declared.names.NameRun.{NameRun}

-- the name at an index of the order is flagged and selects all that continues after the front, as
-- is known, or it selects nothing of that
abbrev pub IsDecided : List (List ℕ) → (order : List ℕ) → List Bool → (front : List ℕ) → Bool → ℕ → Type 0
IsDecided names order flags front whole i = ((whole ≡ true) × (get_or flags (get_or order i 0) false ≡ true)
    × SelectsAll front (text_at names order i)) ⊎ ((text : List ℕ) → selects_path (front ++ text) (text_at names order i) ≡ false)

-- the names of the run begin with the front, and the others are decided
pub record Follows (names : List (List ℕ)) (order : List ℕ) (flags : List Bool) (front : List ℕ) (r : NameRun) : Type 0 where
  pub up : r.first ≤ r.end
  pub within : r.end ≤ length names
  pub front_len : r.first < r.end → r.front_len ≡ length front
  pub inside : (i : ℕ) → r.first ≤ i → i < r.end → (rest : List ℕ) × (text_at names order i ≡ front ++ rest)
  pub outside : (i : ℕ) → i < length names → (i < r.first) ⊎ (r.end ≤ i) → IsDecided names order flags front r.whole i
  pub whole : r.whole ≡ true → (i : ℕ) × (i < length names) × SelectsAll front (text_at names order i)
  pub same : AreSame names flags
  pub order_is : IsOrder names order

-- the names of a run that continue with this byte
pub record Narrows (names : List (List ℕ)) (order : List ℕ) (byte : ℕ) (old new : NameRun) : Type 0 where
  pub up : new.first ≤ new.end
  pub low : old.first ≤ new.first
  pub high : new.end ≤ old.end
  pub front_len : new.first < new.end → new.front_len ≡ old.front_len + 1
  pub has : (i : ℕ) → new.first ≤ i → i < new.end → next_in names order old.front_len i ≡ byte + 1
  pub others : (i : ℕ) → old.first ≤ i → i < old.end → (i < new.first) ⊎ (new.end ≤ i) → next_in names order old.front_len i ≢ byte + 1

-- the run is that of a longer front, and names that select all after it were flagged
pub record GoesOn (names : List (List ℕ)) (order : List ℕ) (old new : List Bool) (front : List ℕ) (r : NameRun) : Type 0 where
  pub follows : Follows names order new front r
  pub notes : Notes names front old new
