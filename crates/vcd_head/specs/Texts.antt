-- Phrases that run to the first `$end`.
use Rattle.std.specs.Prelude.{◌≡◌, ℕ, true, false, List, [], ◌∷◌, ◌++◌, flat_map, Some, None}
use Rattle.vcd_model.specs.Input.{Input}
use Rattle.vcd_model.specs.Keywords.{is_end}
use Rattle.vcd_model.specs.HeaderPhrases.{HeaderPhrase, header_phrase}
use Rattle.vcd_model.specs.HeaderChecks.{header_fault}
use Rattle.vcd_model.specs.Reading.{Placed, phrases_of}
use Rattle.vcd_text.specs.Feed.{token_of}
use Rattle.vcd_text.specs.declared.device.Source.{Ghosts}
use Rattle.vcd_text.specs.declared.feed.Feed.{Feed}
use Rattle.vcd_head.specs.Reads.{Reads, ReadsToken}
use Rattle.vcd_view.specs.Keywords.{NoEnds}

-- after these tokens any others may come, up to the first `$end`
abbrev pub RunsOn : ℕ → List (Placed HeaderPhrase) → List (List ℕ) → Type 0
RunsOn most placed before = (inner : List (List ℕ)) (t : List ℕ) → NoEnds inner
    → (header_fault most (phrases_of placed) (before ++ inner) t ≡ None) × (is_end t ≡ false → header_phrase (before ++ inner ++ t ∷ []) ≡ None)

-- tokens with a space before each
abbrev pub spaced : List (List ℕ) → List ℕ
spaced ts = flat_map (λ t. 32 ∷ t) ts

-- these tokens were read after the first ones, and a text has grown by them
pub record ReadsOn {X : Type 0} {g : Ghosts X} (most : ℕ) (i : Input) (placed : List (Placed HeaderPhrase)) (before : List (List ℕ)) (f : Feed X g)
    (Grows : List (List ℕ) → Type 0) : Type 0 where
  pub inner : List (List ℕ)
  pub none : NoEnds inner
  pub reads : Reads most i placed (before ++ inner) f
  pub grows : Grows inner

-- after these tokens the last one is `$end`
pub record EndsThere {X : Type 0} {g : Ghosts X} (most : ℕ) (i : Input) (placed : List (Placed HeaderPhrase)) (before : List (List ℕ)) (f : Feed X g)
    (Grows : List (List ℕ) → Type 0) : Type 0 where
  pub inner : List (List ℕ)
  pub none : NoEnds inner
  pub token_read : ReadsToken most i placed (before ++ inner) f
  pub ends : is_end (token_of f).bytes ≡ true
  pub grows : Grows inner

-- after these tokens any token but `$end` may come, and the phrase is not whole with it; `$end` has
-- the fault of this number
abbrev pub Welcomes : ℕ → List (Placed HeaderPhrase) → List (List ℕ) → ℕ → Type 0
Welcomes most placed before n = ((t : List ℕ) → is_end t ≡ false → (header_fault most (phrases_of placed) before t ≡ None) × (header_phrase (before ++ t ∷ []) ≡ None))
    × ((t : List ℕ) → is_end t ≡ true → header_fault most (phrases_of placed) before t ≡ Some n)

-- after these tokens any token but `$end` has the fault of this number
abbrev pub AsksEnd : ℕ → List (Placed HeaderPhrase) → List (List ℕ) → ℕ → Type 0
AsksEnd most placed before n = (t : List ℕ) → is_end t ≡ false → header_fault most (phrases_of placed) before t ≡ Some n
