-- The report of `check`.
use Rattle.std.specs.Prelude.{ℕ, Bool, true, false, List, decimal}
use Rattle.std.specs.Borrow.{Bor}
use Rattle.vcd_model.specs.CheckAndList.{count_line}
use Rattle.vcd_view.specs.declared.view.Kind.{Kind}
use Rattle.vcd_view.specs.declared.view.Kind.TheVariants.{Scope, Up, Var}

-- a scope is opened
abbrev pub opens_scope : Kind → Bool
opens_scope Scope = true
opens_scope Up = false
opens_scope Var = false

-- a variable is declared
abbrev pub declares_variable : Kind → Bool
declares_variable Scope = false
declares_variable Up = false
declares_variable Var = true

-- a name and a number, as a line
abbrev pub named_line : Bor (List ℕ) × ℕ → List ℕ
named_line c = count_line c.0.now (decimal c.1)
