-- What the tokens are that were asked for before the last one.
use Rattle.std.specs.Prelude.{◌≡◌, false, List}
use Rattle.vcd_model.specs.BodyReading.{body_items, read_body}
use Rattle.vcd_model.specs.Declarations.{IdCode}
use Rattle.vcd_model.specs.Items.{BodyItem}
use Rattle.vcd_model.specs.Settled.{is_faulty}
use Rattle.vcd_model.specs.Tokens.{Token}

-- these first tokens of a body have exactly these items, and no fault
abbrev pub HaveJust : List IdCode → List BodyItem → List Token → Type 0
HaveJust codes items ts = (is_faulty (read_body codes ts).ending ≡ false) × (body_items (read_body codes ts) ≡ items)
