-- The lines of a time, and the flags by which a program knows them.
use Rattle.std.specs.Prelude.{◌≡◌, ℕ, ◌≤◌, Bool, true, false, not, cond, ◌&&◌, ◌||◌, ◌==◌, nat_le, max, fold, List, [], ◌∷◌, filter}
use Rattle.std.specs.List.{list_any}
use Rattle.vcd_model.specs.Header.{Header}
use Rattle.vcd_model.specs.Declarations.{IdCode}
use Rattle.vcd_model.specs.Items.{BodyItem, marks}
use Rattle.vcd_model.specs.Sample.{is_settled}
use Rattle.vcd_model.specs.Compare.{Asked, Extent, Rule, changes_at, differs, exactly, lines_at, match, state_at}
use Rattle.vcd_model.specs.Within.{Names, compared_in, side, times_in}

-- no number is below the one before it, and the first is not below a bound
abbrev pub DoNotFall : ℕ → List ℕ → Type 0
DoNotFall low [] = Unit {0}
DoNotFall low (m ∷ ms) = (low ≤ m) × DoNotFall m ms

-- the time at which values are compared next: the last timestamp, or the first time that is asked
-- for if that is greater
abbrev pub time_compared : Asked → List BodyItem → ℕ
time_compared q items = fold max q.from (marks items)

-- the states of two codes at a time do not match
abbrev pub codes_differ : Rule → List BodyItem → IdCode → IdCode → ℕ → Bool
codes_differ r items a b t = not (match (cond a.event exactly r) (state_at 1 items a t) (state_at 1 items b t))

-- they did not match at a time that is settled
abbrev pub had_line : Asked → List BodyItem → IdCode → IdCode → Bool
had_line q items a b = list_any (codes_differ q.rule items a b) (filter (is_settled items) (times_in q items))

-- one of the two codes has a change at the time
abbrev pub changed_at : List BodyItem → IdCode → IdCode → ℕ → Bool
changed_at items a b t = changes_at (side items) a t || changes_at (side items) b t

-- every change of a pair that differs has a line
abbrev pub is_always : Extent → Bool
is_always Extent.First = false
is_always Extent.EachPair = false
is_always Extent.Always = true

-- The flag of two codes: 1 if a line is due at the time that is compared, if no other item of this
-- time comes; 2 if they had their only line.
unfoldable pub flag_of : Asked → List BodyItem → IdCode → IdCode → ℕ
flag_of q items a b =
    let t = time_compared q items in
    let now = codes_differ q.rule items a b t in
    cond (is_always q.extent) (cond (now && (t == q.from || changed_at items a b t)) 1 0) (cond (had_line q items a b) 2 (cond now 1 0))

-- no pair differed at a time that is settled
abbrev pub IsQuiet : Asked → Header → List Names → List BodyItem → Type 0
IsQuiet q h ns items = list_any (λ u. list_any (λ p. differs q.rule (side items) (side items) p u) (compared_in q h ns)) (filter (is_settled items) (times_in q items)) ≡ false

-- the lines at the time that is compared, if that is asked for
unfoldable pub lines_due : Asked → Header → List Names → List BodyItem → List ℕ
lines_due q h ns items =
    cond (nat_le (time_compared q items) q.to) (lines_at q (compared_in q h ns) (side items) (side items) (times_in q items) (time_compared q items)) []
