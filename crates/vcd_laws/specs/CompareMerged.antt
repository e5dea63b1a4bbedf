-- The two inputs in what `merge` wrote compared with each other, and the two inputs themselves.
use Rattle.std.specs.Prelude.{◌≡◌, ℕ, ◌*◌, ◌/◌, min, true, cond, is_some, List, [], ◌∷◌, ◌++◌, length, map, flat_map, decimal, codes, bytes_eq}
use Rattle.vcd_model.specs.Input.{Input}
use Rattle.vcd_model.specs.Declarations.{code_of}
use Rattle.vcd_model.specs.Header.{Header}
use Rattle.vcd_model.specs.HeadText.{words}
use Rattle.vcd_model.specs.Items.{time_after}
use Rattle.vcd_model.specs.Merge.{factor}
use Rattle.vcd_model.specs.Sample.{shown}
use Rattle.vcd_model.specs.Outcome.{Opened, items_in}
use Rattle.vcd_model.specs.Job.{Want, outcome}
use Rattle.vcd_model.specs.Compare.{Asked, Named, Pair, Side, alone, answer, compared, end_lines, ends_with, full_name, is_due, kind_of, kind_shown, pairs, scale_shown, state_at, times, unlike, value_lines}
use Rattle.vcd_model.specs.Within.{Names, within}
use Rattle.vcd_laws.specs.Heads.{input_scope, under_input}
use Rattle.vcd_laws.specs.Dumps.{AreReadable, input_of}

-- how a comparison shows a time of both dumps, and a path of dump number 1 or 2
pub record Style : Type 0 where
  pub time : ℕ → ℕ
  pub path : ℕ → List ℕ → List ℕ

-- a line for each variable of one dump that the other does not have
abbrev pub alone_in_style : Style → List ℕ → ℕ → List Named → List ℕ
alone_in_style s letter n vs =
    flat_map (λ v. words (codes "alone" ∷ letter ∷ s.path n (full_name v) ∷ [])) vs

-- a line for each pair of different kinds
abbrev pub unlike_in_style : Style → List Pair → List ℕ
unlike_in_style s ps =
    flat_map (λ p. words (codes "size" ∷ s.path 1 p.path ∷ kind_shown (kind_of p.one)
    ∷ kind_shown (kind_of p.other) ∷ [])) ps

-- the line of a pair at a time: both states
abbrev pub value_in_style : Style → Side → Side → ℕ → Pair → List ℕ
value_in_style s a b t p =
    words (codes "differs" ∷ decimal (s.time t) ∷ s.path 1 p.path
    ∷ shown (state_at a.scale a.items (code_of p.one) t)
    ∷ shown (state_at b.scale b.items (code_of p.other) t) ∷ [])

-- the lines of values, at the times and of the pairs that `value_lines` has
abbrev pub values_in_style : Style → Asked → List Pair → Side → Side → List ℕ
values_in_style s q ps a b =
    let ts = times q a b in
    flat_map (λ t.
    flat_map (λ p. cond (is_due q a b ps ts t p) (value_in_style s a b t p) []) ps) ts

-- all lines that `Compare` and `Within` have in common
abbrev pub lines_in_style : Style → Asked → Header → Header → Side → Side → List ℕ
lines_in_style s q one other a b =
    alone_in_style s (codes "A") 1 (alone q one other)
    ++ alone_in_style s (codes "B") 2 (alone q other one)
    ++ unlike_in_style s (unlike q one other)
    ++ values_in_style s q (pairs q one other) a b

-- paths as they are, and times in ticks of the first dump
abbrev pub own_style : Side → Style
own_style a = record { time = λ t. t / a.scale; path = λ n path. path }

-- paths under the scope that `merge` gives each input, and times as they are in its output
abbrev pub merged_style : Style
merged_style = record { time = λ t. t; path = under_input }

-- a dump that is compared with another: all its items, in ticks of both
abbrev pub side_of : List Header → Opened → Side
side_of hs o = record { scale = factor hs o.header; items = items_in o; whole = true }

-- the same comparison of what `merge` wrote: from one time to another in its ticks, and with
-- exceptions under the scope of each input
abbrev pub asked_within : Asked → (from to : ℕ) → Asked
asked_within q from to = record {
  names = [];
  exceptions = map (under_input 1) q.exceptions ++ map (under_input 2) q.exceptions;
  from = from;
  to = to;
  rule = q.rule;
  extent = q.extent;
}

-- the same up to the end of the shorter dump
abbrev pub asked_of_merge : Asked → Side → Side → Asked
asked_of_merge q a b = asked_within q (a.scale * q.from)
    (min (a.scale * q.to) (min (a.scale * time_after a.items) (b.scale * time_after b.items)))

-- the scope of the first input with that of the second
abbrev pub both_inputs : List Names
both_inputs = (input_scope 1, input_scope 2) ∷ []

-- what only `Compare` writes: before all other lines that of the time scales, and after them that
-- of the ends, unless the first lines ended the comparison
abbrev pub scale_line : Header → Header → List ℕ
scale_line one other =
    cond (bytes_eq (scale_shown one) (scale_shown other)) []
    (words (codes "timescale" ∷ scale_shown one ∷ scale_shown other ∷ []))

abbrev pub line_of_ends : Asked → Header → Header → Side → Side → List ℕ
line_of_ends q one other a b =
    cond (ends_with q.extent (value_lines q (pairs q one other) a b)) [] (end_lines a b)

-- `Compare` over two dumps, and `Within` over what `merge` wrote of them, find the same: variables
-- without a counterpart, pairs of different kinds, and differences at the same times. Only
-- `Compare` writes of time scales and of ends.
pub record AreComparedAlike (q : Asked) (limit : ℕ) (name : List ℕ) (names : List (List ℕ))
    (inputs : List Input) (o p : Opened) (a b : Side) : Type 0 where
  pub directly : compared q limit names inputs
      ≡ answer (length (pairs q o.header p.header)) (scale_line o.header p.header
      ++ lines_in_style (own_style a) q o.header p.header a b
      ++ line_of_ends q o.header p.header a b)
  pub merged : within (asked_of_merge q a b) limit both_inputs name
      (input_of (outcome Want.Merge limit names inputs).output)
      ≡ answer (length (pairs q o.header p.header))
      (lines_in_style merged_style q o.header p.header a b)

-- for two dumps that can be merged and read again, both with a time scale or both without, all
-- whose variables are compared apart from exceptions
abbrev pub CompareOfMerge : Type 0
CompareOfMerge = (q : Asked) (limit : ℕ) (name : List ℕ) (names : List (List ℕ))
    (inputs : List Input) (o p : Opened)
    → AreReadable limit names inputs (o ∷ p ∷ [])
    → is_some o.header.scale ≡ is_some p.header.scale → q.names ≡ []
    → AreComparedAlike q limit name names inputs o p
    (side_of (o.header ∷ p.header ∷ []) o) (side_of (o.header ∷ p.header ∷ []) p)
