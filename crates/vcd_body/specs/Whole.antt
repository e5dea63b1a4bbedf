-- Whether the next item lies completely in the chunk.
use Rattle.std.specs.Prelude.{◌≡◌, ◌⊎◌, ℕ, false, List, [], ◌∷◌}
use Rattle.vcd_model.specs.Tokens.{Token}
use Rattle.vcd_text.specs.Ahead.{ahead_of}
use Rattle.vcd_text.specs.Feed.{limit_of}
use Rattle.vcd_text.specs.Passed.{Passed}
use Rattle.vcd_text.specs.declared.device.Source.{Ghosts}
use Rattle.vcd_text.specs.declared.feed.Feed.{Feed}
use Rattle.vcd_body.specs.Words.{Begins, is_comment}
use Rattle.vcd_body.specs.declared.words.PhraseKind.{PhraseKind}
use Rattle.vcd_body.specs.declared.words.PhraseKind.TheVariants.{Vector, Real, Other}

-- a token that begins so is an item by itself
abbrev pub IsAlone : PhraseKind → List ℕ → Type 0
IsAlone Vector token = ⊥
IsAlone Real token = ⊥
IsAlone Other token = is_comment token ≡ false
IsAlone first token = Unit {0}

-- these are the tokens of an item: one, or two if it is the change of a vector or a real number
abbrev pub AreWhole : List Token → Type 0
AreWhole (t ∷ []) = (first : PhraseKind) × Begins t.bytes first × IsAlone first t.bytes
AreWhole (t ∷ u ∷ []) = Begins t.bytes Vector ⊎ Begins t.bytes Real
AreWhole tokens = ⊥

-- the next item lies completely in the chunk: these bytes begin with its tokens, each of at most
-- `limit` bytes
pub record HoldsItem (limit : ℕ) (bytes : List ℕ) : Type 0 where
  pub tokens : List Token
  pub n : ℕ
  pub passed : Passed limit 0 bytes n tokens
  pub whole : AreWhole tokens

-- A read may wait: no byte is kept back by then (`kept_back` says how many are). Or no read comes,
-- since the next item lies completely in the chunk.
abbrev pub IsPrompt : {X : Type 0} {g : Ghosts X} → ℕ → Feed X g → Type 0
IsPrompt kept_back f = (kept_back ≡ 0) ⊎ HoldsItem (limit_of f) (ahead_of f)
