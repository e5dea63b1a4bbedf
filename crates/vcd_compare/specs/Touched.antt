-- Which classes are touched: what the marks and the list say.
use Rattle.std.specs.Prelude.{◌≡◌, ℕ, ◌≤◌, true, cond, ◌==◌, nat_le, List, get_or, length, set, take}
use Rattle.std.specs.List.{list_any}
use Rattle.vcd_compare.specs.declared.touched.Touched.{Touched}

-- each of the classes with the mark 1 is listed, if there is room for all that were
abbrev pub AreListed : (marks classes : List ℕ) → ℕ → Type 0
AreListed marks classes listed = listed ≤ length classes → (class : ℕ) → get_or marks class 0 ≡ 1 → list_any (λ c. c == class) (take listed classes) ≡ true

abbrev pub IsListed : Touched → Type 0
IsListed t = AreListed t.marks.now t.classes.now t.listed

-- how many candidates there are for the classes with the mark 1: those that are listed, or all
abbrev pub candidates : Touched → ℕ
candidates t = cond (nat_le t.listed (length t.classes.now)) t.listed (length t.marks.now)

-- the candidate at an index
abbrev pub candidate : Touched → ℕ → ℕ
candidate t i = cond (nat_le t.listed (length t.classes.now)) (get_or t.classes.now i 0) i

-- the marks once a class was touched
abbrev pub touched : ℕ → List ℕ → List ℕ
touched class marks = cond (get_or marks class 1 == 0) (set marks class 1) marks

-- the marks once one that was 1 is another number
abbrev pub taken : (class after : ℕ) → List ℕ → List ℕ
taken class after marks = cond (get_or marks class 0 == 1) (set marks class after) marks

-- what becomes of a mark, or of a flag, that was 1
abbrev pub settled_as : ℕ → ℕ → ℕ
settled_as after f = cond (f == 1) after f
