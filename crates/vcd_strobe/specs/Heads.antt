-- The variable of the time of an edge.
use Rattle.std.specs.Prelude.{ℕ, List, [], ◌∷◌, ◌++◌, codes}
use Rattle.vcd_model.specs.HeadText.{scope_line, up_line, words}
use Rattle.vcd_model.specs.Keywords.{Keyword, keyword_text}

-- its declaration with this code, in its scope
abbrev pub variable_lines : List ℕ → List ℕ
variable_lines id = scope_line (codes "module") (codes "strobe") ++ words
    (keyword_text Keyword.Var ∷ codes "time" ∷ codes "64" ∷ id ∷ codes "time" ∷ keyword_text Keyword.End ∷ []) ++ up_line
