-- What is known of a name and a path of which only a prefix is known.
use Rattle.std.specs.Prelude.{⊤, ◌≡◌, drop, ℕ, Bool, true, false, List}
use Rattle.vcd_model.specs.Selection.{selects_path}
use Rattle.vcd_head.specs.declared.selection.Match.{Match}
use Rattle.vcd_head.specs.declared.selection.Match.TheVariants.{Rest, Selected, Differs}

-- the name selects the path, of which this text comes after the known prefix
abbrev pub selects_after : Match → List ℕ → Bool
selects_after (Rest name) text = selects_path text name.now
selects_after Selected text = true
selects_after Differs text = false

-- what is left of the name is what comes after this many bytes
abbrev pub IsBehind : Match → List ℕ → ℕ → Type 0
IsBehind (Rest rest) name n = rest.now ≡ drop n name
IsBehind m name n = ⊤
