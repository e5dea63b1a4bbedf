-- What a draft holds of the phrases read so far, besides the feed that they come from.
use Rattle.std.specs.Prelude.{◌≡◌, ℕ, suc, ◌+◌, ◌≤◌, List, [], ◌∷◌, ◌++◌, length, map, reverse, find, filter_map, count_by, sum_by, bytes_eq, Some, None, is_some, option_map, unwrap_or, slice_get, Bool, true, false, Option, IfSome}
use Rattle.std.specs.List.{AllByRecursion, list_any, last_or}
use Rattle.vcd_model.specs.Declarations.{Declaration, Variable, IdCode, code_of, codes_of, variables_of, has_text, is_scope, is_up, enclosing}
use Rattle.vcd_model.specs.HeaderChecks.{agrees}
use Rattle.vcd_model.specs.HeaderPhrases.{HeaderPhrase, declarations_of, date_of, version_of, timescale_of}
use Rattle.vcd_model.specs.Bound.{kept_bytes}
use Rattle.vcd_view.specs.declared.view.Scale.{Scale}
use Rattle.vcd_head.specs.declared.codes.Codes.{Codes}
use Rattle.vcd_view.specs.Views.{AreHeld, IsExponent, IsSize, AreRows}
use Rattle.vcd_head.specs.Codes.{HasNone, Rises, keys_of}
use Rattle.vcd_head.specs.Keys.{AreKeysOf}
use Rattle.vcd_head.specs.declared.draft.Draft.{Draft}
use Rattle.vcd_model.specs.Input.{Input}
use Rattle.vcd_model.specs.Keywords.{Keyword, keyword_of, keyword_text}
use Rattle.vcd_model.specs.Reading.{Placed, phrases_of}
use Rattle.vcd_text.specs.Feed.{token_of}
use Rattle.vcd_text.specs.declared.device.Source.{Ghosts}
use Rattle.vcd_text.specs.declared.feed.Feed.{Feed}
use Rattle.vcd_head.specs.Reads.{Reads, ReadsToken, ReadsWhole}
use Rattle.vcd_view.specs.Keywords.{model_keyword}
use Rattle.vcd_view.specs.declared.keyword.Keyword.{Keyword as WordOf}
use Rattle.vcd_view.specs.declared.keyword.Keyword.TheVariants as word

-- the codes of these declarations are held
pub record HasCodes (text : List ℕ) (c : Codes) (ds : List Declaration) : Type 0 where
  pub held : AreHeld text c.list.items (codes_of ds)
  pub keys : AreKeysOf (keys_of c) (codes_of ds)
  pub rises : Rises c.rising.items
  pub known : AllByRecursion (λ u. find (has_text u.code) (codes_of ds) ≡ Some (code_of u)) (variables_of ds)
  pub seen : (t : List ℕ) → list_any (λ u. bytes_eq u.code t) (variables_of ds) ≡ is_some (find (has_text t) (codes_of ds))
  pub sizes : AllByRecursion (λ (c : IdCode). IsSize c.size) (codes_of ds)

-- the draft holds these declarations, of which `most` are allowed
pub record Declares (most : ℕ) (d : Draft) (ds : List Declaration) : Type 0 where
  pub codes : HasCodes d.text.items d.codes ds
  pub rows : AreRows d.text.items (codes_of ds) [] d.rows.items ds
  pub nested : d.scopes.items ≡ map suc (reverse (enclosing ds))
  pub balance : length (enclosing ds) + count_by is_up ds ≡ count_by is_scope ds
  pub held : length d.text.items ≤ sum_by kept_bytes ds
  pub few : length ds ≤ most
  pub allowed : most ≤ 16777216

-- the draft holds these phrases
pub record IsDraftOf (most : ℕ) (d : Draft) (ps : List HeaderPhrase) : Type 0 where
  pub declares : Declares most d (declarations_of ps)
  pub date : d.date.items ≡ unwrap_or (last_or None (filter_map date_of ps)) []
  pub version : d.version.items ≡ unwrap_or (last_or None (filter_map version_of ps)) []
  pub scale : option_map (λ (x : Scale). x.exponent) d.scale ≡ last_or None (filter_map timescale_of ps)
  pub scaled : IfSome d.scale (λ (x : Scale). IsExponent x.exponent)

-- the code of the variable is held, at this index, in a text that has grown by its bytes or not
pub record CodeHeld (old new : List ℕ) (codes : Codes) (ds : List Declaration) (v : Variable) (position : ℕ) : Type 0 where
  pub held_codes : HasCodes new codes (ds ++ Declaration.Var v ∷ [])
  pub held_at : slice_get (codes_of (ds ++ Declaration.Var v ∷ [])) position ≡ Some (code_of v)
  pub more : List ℕ
  pub grown : new ≡ old ++ more
  pub short : length more ≤ length v.code

-- the code of a variable is held at the index given; `None` if it does not agree with those of
-- other variables, and then the text is the same
abbrev pub IsEntered : (old new : List ℕ) → Codes → List Declaration → Variable → Option ℕ → Type 0
IsEntered old new codes ds v (Some position) = (agrees ds v ≡ true) × CodeHeld old new codes ds v position
IsEntered old new codes ds v None = (agrees ds v ≡ false) × (new ≡ old) × HasCodes new codes ds

-- nothing was read yet
pub record IsNew (d : Draft) : Type 0 where
  pub no_text : d.text.items ≡ []
  pub no_rows : d.rows.items ≡ []
  pub no_codes : HasNone d.codes
  pub no_date : d.date.items ≡ []
  pub no_version : d.version.items ≡ []
  pub no_scale : d.scale ≡ None
  pub no_scopes : d.scopes.items ≡ []

-- the draft holds the phrases that were read, and the feed shows the last token of them
pub record DraftsUpTo {X : Type 0} {g : Ghosts X} (most : ℕ) (i : Input) (d : Draft) (f : Feed X g) : Type 0 where
  pub placed : List (Placed HeaderPhrase)
  pub reads : Reads most i placed [] f
  pub holds : IsDraftOf most d (phrases_of placed)

-- the draft holds the phrases that were read, and the feed is after the keyword that begins the
-- next one
pub record AtKeyword {X : Type 0} {g : Ghosts X} (most : ℕ) (i : Input) (k : Keyword) (d : Draft) (f : Feed X g) : Type 0 where
  pub placed : List (Placed HeaderPhrase)
  pub token_read : ReadsToken most i placed [] f
  pub keyword : (token_of f).bytes ≡ keyword_text k
  pub holds : IsDraftOf most d (phrases_of placed)

-- the feed is after a token that is no keyword
pub record AtOther {X : Type 0} {g : Ghosts X} (most : ℕ) (i : Input) (d : Draft) (f : Feed X g) : Type 0 where
  pub placed : List (Placed HeaderPhrase)
  pub token_read : ReadsToken most i placed [] f
  pub other : keyword_of (token_of f).bytes ≡ None
  pub holds : IsDraftOf most d (phrases_of placed)

-- the feed is after the first token of a phrase, which is this keyword or none
abbrev pub AtFirstToken : {X : Type 0} {g : Ghosts X} → ℕ → Input → Option WordOf → Draft → Feed X g → Type 0
AtFirstToken most i (Some k) d f = AtKeyword most i (model_keyword k) d f
AtFirstToken most i None d f = AtOther most i d f

-- the draft holds the phrases that were read, of which the last one ends the header
pub record DraftsAll {X : Type 0} {g : Ghosts X} (most : ℕ) (i : Input) (d : Draft) (f : Feed X g) : Type 0 where
  pub placed : List (Placed HeaderPhrase)
  pub reads : ReadsWhole most i placed f
  pub holds : IsDraftOf most d (phrases_of placed)

-- others may follow a phrase that begins with this keyword, or with none
abbrev pub goes_on : Option WordOf → Bool
goes_on (Some word.EndDefinitions) = false
goes_on k = true
