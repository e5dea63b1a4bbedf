-- How far a run reads, and how its output keeps up with the reads.
use Rattle.std.specs.Prelude.{◌≡◌, ℕ, Bool, false, nat_lt, List, length}
use Rattle.std.specs.Io.KnownBytes.{Appends}
use Rattle.vcd_model.specs.Declarations.{IdCode}
use Rattle.vcd_model.specs.Input.{Input}
use Rattle.vcd_model.specs.Items.{BodyItem}
use Rattle.vcd_model.specs.Tokens.{Token}
use Rattle.vcd_text.specs.Device.{Device, Supply}
use Rattle.vcd_text.specs.Feed.{chunk_len_of, limit_of, supply_of}
use Rattle.vcd_text.specs.ReadAhead.{ReadsAsNeeded}
use Rattle.vcd_text.specs.declared.device.Source.{Ghosts}
use Rattle.vcd_text.specs.declared.feed.Feed.{Feed}
use Rattle.vcd_body.specs.Asked.{HaveJust}

-- more is due with these first tokens than this many bytes
abbrev pub is_more_due : (due : List Token → List ℕ) → ℕ → List Token → Bool
is_more_due due written ts = nat_lt written (length (due ts))

-- The output keeps up with the reads: at most a chunk was read past the token with which more is
-- due than was written.
abbrev pub KeepsUp : (due : List Token → List ℕ) → (limit chunk : ℕ) → Input → List Token → (old new : Supply) → (out out' : Device) → Type 0
KeepsUp due limit chunk i front old new out out' = (written : List ℕ) × Appends out.held out'.held written × ReadsAsNeeded limit chunk old new i front (is_more_due due (length written))

-- No more of a body was read than any work needs that these items do not settle.
abbrev pub ReadsPast : {X : Type 0} {g : Ghosts X} → List IdCode → Input → List Token → List BodyItem → Feed X g → Type 0
ReadsPast codes i front items f = (before : Supply) (settled : List Token → Bool) → ((ts : List Token) → HaveJust codes items ts → settled ts ≡ false)
    → ReadsAsNeeded (limit_of f) (chunk_len_of f) before (supply_of f) i front settled
