-- The words of `vcdkit-compare`: how they are read.
use Rattle.std.specs.Prelude.{true, codes, Some}
use Rattle.clap.specs.Words.{App, Rule, new_app, new_rule, with_rule}
use Rattle.clap.specs.declared.builder.action.ArgAction.TheVariants as action
use Rattle.vcd_words.specs.Words.{flag_rule, input_rule, names_rule, time_or_rule}

-- `--first` and `--always`
abbrev pub lines_app : App → App
lines_app app = with_rule (with_rule app (flag_rule (codes "first"))) (flag_rule (codes "always"))

-- `--from N` and `--to N`, without them from time 0 to the greatest time, `--x-of-a` and `--x-of-b`
abbrev pub values_app : App → App
values_app app =
    with_rule (with_rule (with_rule (with_rule app (time_or_rule (codes "from") (codes "0")))
    (time_or_rule (codes "to") (codes "18446744073709551615"))) (flag_rule (codes "x-of-a"))) (flag_rule (codes "x-of-b"))

-- `--except NAME`, any number of times
abbrev pub except_rule : Rule
except_rule = record (new_rule (codes "except")) { long = Some (codes "except"); value_names = 1; action = Some action.Append }

-- these, `-i FILE`, and `X=Y..`, which have to be there
abbrev pub names_app : App → App
names_app app = with_rule (with_rule (with_rule app except_rule) input_rule) (names_rule true)

-- `vcdkit-compare` has a version (so `--version` and `-V`), and no commands
abbrev pub bare_app : App
bare_app = let program = new_app (codes "vcdkit-compare") in record program { top = record program.top { has_version = true } }

abbrev pub compare_app : App
compare_app = names_app (values_app (lines_app bare_app))
