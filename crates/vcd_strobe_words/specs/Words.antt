-- The words of `vcdkit-strobe`: how they are read.
use Rattle.std.specs.Prelude.{true, false, codes, Some}
use Rattle.clap.specs.Words.{App, Rule, Text, new_app, new_rule, with_rule}
use Rattle.clap.specs.declared.builder.action.ArgAction.TheVariants as action
use Rattle.vcd_words.specs.Words.{input_rule, limit_rule, names_rule}

-- an option of this name for a clock, any number of times
abbrev pub clock_rule : Text → Rule
clock_rule name = record (new_rule name) { long = Some name; value_names = 1; action = Some action.Append }

-- `vcdkit-strobe` has a version (so `--version` and `-V`), and no commands
abbrev pub bare_app : App
bare_app = let program = new_app (codes "vcdkit-strobe") in record program { top = record program.top { has_version = true } }

-- `--rise CLOCK` and `--fall CLOCK`, `-i FILE`, `--token-limit N`, and `NAME..`
abbrev pub strobe_app : App
strobe_app = with_rule (with_rule (with_rule (with_rule (with_rule bare_app (clock_rule (codes "rise"))) (clock_rule (codes "fall"))) input_rule) limit_rule) (names_rule false)
