-- The rows of a view that declare variables are as many as the header's variables.
use Rattle.std.proofs.Common.{◌≡◌, ℕ, suc, ◌+◌, true, false, cond, List, [], ◌∷◌, ◌++◌, length, count_by, refl, ap, ◌∙◌, arith}
use Rattle.std.proofs.lemmas.List.Sums.{sum_by-append}
use Rattle.vcd_head.specs.Model.Declarations.{Declaration, IdCode, variables_of}
use Rattle.vcd_head.specs.Views.{AreRows}
use Rattle.vcd_head.specs.Row.{Row}
use Rattle.example_head.specs.Variables.{is_variable}

counted : (r : Row) (rs : List Row) → count_by (λ r. is_variable r.kind) (r ∷ rs) ≡ cond (is_variable r.kind) 1 0 + count_by (λ r. is_variable r.kind) rs
counted r rs = sum_by-append (λ (y : Row). cond (is_variable y.kind) 1 0) (r ∷ []) rs ∙ omega arith

none : (r : Row) (rs : List Row) (n : ℕ) → is_variable r.kind ≡ false → count_by (λ r. is_variable r.kind) rs ≡ n → count_by (λ r. is_variable r.kind) (r ∷ rs) ≡ n
none r rs n e f = counted r rs ∙ rw (e, f) (omega arith)

one : (r : Row) (rs : List Row) (n : ℕ) → is_variable r.kind ≡ true → count_by (λ r. is_variable r.kind) rs ≡ n → count_by (λ r. is_variable r.kind) (r ∷ rs) ≡ suc n
one r rs n e f = counted r rs ∙ rw (e, f) (omega arith)

pub variables_are : (text : List ℕ) (codes : List IdCode) (earlier : List Declaration) (rs : List Row) (ds : List Declaration)
    → AreRows text codes earlier rs ds → count_by (λ r. is_variable r.kind) rs ≡ length (variables_of ds)
variables_are text codes earlier [] [] a = refl
variables_are text codes earlier [] (d ∷ ds) a = absurd a
variables_are text codes earlier (r ∷ rs) [] a = absurd a
variables_are text codes earlier (r ∷ rs) (Declaration.Scope type name ∷ ds) a = none r rs (length (variables_of ds)) (ap is_variable a.0.own.0)
    (variables_are text codes (earlier ++ Declaration.Scope type name ∷ []) rs ds a.1)
variables_are text codes earlier (r ∷ rs) (Declaration.Up ∷ ds) a = none r rs (length (variables_of ds)) (ap is_variable a.0.own.0)
    (variables_are text codes (earlier ++ Declaration.Up ∷ []) rs ds a.1)
variables_are text codes earlier (r ∷ rs) (Declaration.Var v ∷ ds) a = one r rs (length (variables_of ds)) (ap is_variable a.0.own.0)
    (variables_are text codes (earlier ++ Declaration.Var v ∷ []) rs ds a.1)
