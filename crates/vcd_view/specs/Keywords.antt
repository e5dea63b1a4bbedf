-- Keywords as the definitions have them.
use Rattle.std.specs.Prelude.{◌≡◌, ℕ, false, List}
use Rattle.std.specs.List.{AllByRecursion}
use Rattle.vcd_model.specs.Keywords as model
use Rattle.vcd_model.specs.Keywords.{is_end}
use Rattle.vcd_view.specs.declared.keyword.Keyword.{Keyword}
use Rattle.vcd_view.specs.declared.keyword.Keyword.TheVariants.{Comment, Date, EndDefinitions, Scope, Timescale, Upscope, Var, Version, DumpAll, DumpOff, DumpOn, DumpVars, End}

-- the definitions' keyword
abbrev pub model_keyword : Keyword → model.Keyword
model_keyword Comment = model.Keyword.Comment
model_keyword Date = model.Keyword.Date
model_keyword EndDefinitions = model.Keyword.EndDefinitions
model_keyword Scope = model.Keyword.Scope
model_keyword Timescale = model.Keyword.Timescale
model_keyword Upscope = model.Keyword.Upscope
model_keyword Var = model.Keyword.Var
model_keyword Version = model.Keyword.Version
model_keyword DumpAll = model.Keyword.DumpAll
model_keyword DumpOff = model.Keyword.DumpOff
model_keyword DumpOn = model.Keyword.DumpOn
model_keyword DumpVars = model.Keyword.DumpVars
model_keyword End = model.Keyword.End

-- texts of which none is `$end`
abbrev pub NoEnds : List (List ℕ) → Type 0
NoEnds ts = AllByRecursion (λ t. is_end t ≡ false) ts
