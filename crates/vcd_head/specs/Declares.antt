-- What the declarations of a header are checked for, and what becomes of a draft that takes one.
use Rattle.std.specs.Prelude.{◌≡◌, ℕ, List, [], ◌∷◌, ◌++◌, Some, None}
use Rattle.vcd_model.specs.Checks.{first_failed}
use Rattle.vcd_model.specs.Declarations.{Declaration}
use Rattle.vcd_model.specs.HeaderChecks.{start_checks}
use Rattle.vcd_model.specs.HeaderPhrases.{HeaderPhrase, declarations_of}
use Rattle.vcd_model.specs.Keywords.{Keyword}
use Rattle.vcd_view.specs.declared.view.Kind.{Kind}
use Rattle.vcd_view.specs.declared.view.Kind.TheVariants as kind
use Rattle.vcd_head.specs.Draft.{IsDraftOf}
use Rattle.vcd_head.specs.declared.draft.Draft.{Draft}
use Rattle.vcd_head.specs.declared.fault.HeadFault.{HeadFault}
use Rattle.vcd_head.specs.declared.fault.HeadFault.TheVariants.{TooMany, TooDeep, NoScope}

-- the keyword of a declaration
abbrev pub keyword_for : Kind → Keyword
keyword_for kind.Scope = Keyword.Scope
keyword_for kind.Up = Keyword.Upscope
keyword_for kind.Var = Keyword.Var

-- after these phrases a declaration of this kind may come, if `most` are allowed
abbrev pub MayStart : ℕ → List HeaderPhrase → Kind → Type 0
MayStart most ps k = first_failed (start_checks most (declarations_of ps) (keyword_for k)) ≡ None

-- no declaration may come, because of this fault
abbrev pub IsBarred : ℕ → List HeaderPhrase → Kind → HeadFault → Type 0
IsBarred most ps k TooMany = first_failed (start_checks most (declarations_of ps) (keyword_for k)) ≡ Some 11
IsBarred most ps k TooDeep = first_failed (start_checks most (declarations_of ps) (keyword_for k)) ≡ Some 10
IsBarred most ps k NoScope = first_failed (start_checks most (declarations_of ps) (keyword_for k)) ≡ Some 9
IsBarred most ps k fault = ⊥

-- if a declaration of this kind may come, the draft now holds this one too
abbrev pub Takes : Kind → Declaration → Draft → Draft → Type 0
Takes k x old new = (most : ℕ) (ps : List HeaderPhrase) → IsDraftOf most old ps → MayStart most ps k → IsDraftOf most new (ps ++ HeaderPhrase.Declares x ∷ [])
