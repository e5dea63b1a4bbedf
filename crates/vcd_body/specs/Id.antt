-- The code under which a change is written.
use Rattle.std.specs.Prelude.{ℕ, List}
use Rattle.vcd_model.specs.HeadText.{new_code}
use Rattle.vcd_body.specs.declared.id.Id.{Id}
use Rattle.vcd_body.specs.declared.id.Id.TheVariants.{Own, Number}

-- the bytes of the code
abbrev pub id_text : Id → List ℕ
id_text (Own code) = code.now
id_text (Number n) = new_code n
