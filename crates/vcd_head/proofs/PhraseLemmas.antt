-- One token on in a phrase that begins with a keyword.
use Rattle.vcd_head.proofs.Cited.{◌≡◌, ℕ, true, false, cond, List, [], ◌∷◌, ◌++◌, Option, Some, None, option_map, option_and_then, refl, ap, subst, ◌∙◌, Input, Keyword, keyword_of, keyword_text, is_end, first_failed, ◌or_fault◌, is_decimal, decimal_value, Declaration, HeaderPhrase, phrase_with, phrase_behind, variable_with, until_end, declarations_of, start_checks, start_of, inner_checks, inner_of, timescale_checks, is_last, Placed, phrases_of, token_of, Ghosts, Feed, IsBarred, keyword_for, Reads, ReadsToken, ReadsWhole, Fails, FailsAtToken, HeadFault, TokenTooLong, EndOfInput, UnknownCommand, OutOfPlace, BadTimescale, BadScope, BadVariable, CodeDiffers, NoScope, TooDeep, TooMany, InputTooLong, ReadFailed, OutOfMemory, Kind, NoEnds, AsksEnd, RunsOn, Welcomes, until, not_until, keyword_of-text}
use Rattle.vcd_model.specs.Keywords.{is_unknown_command}
use Rattle.vcd_model.specs.HeaderPhrases.{header_phrase}
use Rattle.vcd_model.specs.HeaderChecks.{header_fault}
use Rattle.vcd_head.proofs.TokenSteps.{taken, taken_phrase, taken_last, refused}

pub start_fault : (most : ℕ) (ps : List HeaderPhrase) (k : Keyword) → header_fault most ps [] (keyword_text k) ≡ first_failed (start_checks most (declarations_of ps) k)
unfolding header_fault
start_fault most ps k = ap (λ o. first_failed (start_of most (declarations_of ps) (keyword_text k) o)) (keyword_of-text k)

pub inner_fault : (most : ℕ) (ps : List HeaderPhrase) (k : Keyword) (before : List (List ℕ)) (t : List ℕ)
    → header_fault most ps (keyword_text k ∷ before) t ≡ first_failed (inner_checks (declarations_of ps) k before t)
unfolding header_fault
inner_fault most ps k before t = ap (λ o. first_failed (inner_of (declarations_of ps) o before t)) (keyword_of-text k)

pub phrase_is : (k : Keyword) (ts : List (List ℕ)) → header_phrase (keyword_text k ∷ ts) ≡ phrase_with k ts
unfolding header_phrase
phrase_is k ts = ap (phrase_behind (keyword_text k) ts) (keyword_of-text k)

module _ {X : Type 0} {g : Ghosts X} (most : ℕ) (i : Input) (placed : List (Placed HeaderPhrase)) (k : Keyword) (f : Feed X g) where
  -- the keyword passes its checks
  pub begun : (token_of f).bytes ≡ keyword_text k → first_failed (start_checks most (declarations_of (phrases_of placed)) k) ≡ None
      → phrase_with k [] ≡ None → ReadsToken most i placed [] f → Reads most i placed (keyword_text k ∷ []) f
  begun e c q l =
      subst (λ (t : List ℕ). Reads most i placed (t ∷ []) f) e
      (taken most i placed [] f (ap (header_fault most (phrases_of placed) []) e ∙ start_fault most (phrases_of placed) k ∙ c)
      (ap (λ (t : List ℕ). header_phrase (t ∷ [])) e ∙ phrase_is k [] ∙ q) l)

  -- it does not
  pub not_begun : (n : ℕ) → (token_of f).bytes ≡ keyword_text k → first_failed (start_checks most (declarations_of (phrases_of placed)) k) ≡ Some n
      → ReadsToken most i placed [] f → FailsAtToken most i n f
  not_begun n e c l = refused most i placed [] f n (ap (header_fault most (phrases_of placed) []) e ∙ start_fault most (phrases_of placed) k ∙ c) l

  module _ (before : List (List ℕ)) where
    -- a later token passes its checks, and the phrase is not whole with it
    pub inside : first_failed (inner_checks (declarations_of (phrases_of placed)) k before (token_of f).bytes) ≡ None
        → phrase_with k (before ++ (token_of f).bytes ∷ []) ≡ None → ReadsToken most i placed (keyword_text k ∷ before) f
        → Reads most i placed (keyword_text k ∷ (before ++ (token_of f).bytes ∷ [])) f
    inside c q l = taken most i placed (keyword_text k ∷ before) f (inner_fault most (phrases_of placed) k before (token_of f).bytes ∙ c)
        (phrase_is k (before ++ (token_of f).bytes ∷ []) ∙ q) l

    -- a later token passes its checks, and a phrase is whole with it
    pub ended : (p : HeaderPhrase) → first_failed (inner_checks (declarations_of (phrases_of placed)) k before (token_of f).bytes) ≡ None
        → phrase_with k (before ++ (token_of f).bytes ∷ []) ≡ Some p → is_last p ≡ false → ReadsToken most i placed (keyword_text k ∷ before) f
        → Reads most i (placed ++ record { phrase = p; line = (token_of f).line } ∷ []) [] f
    ended p c q last l = taken_phrase most i placed (keyword_text k ∷ before) f p (inner_fault most (phrases_of placed) k before (token_of f).bytes
        ∙ c) (phrase_is k (before ++ (token_of f).bytes ∷ []) ∙ q) last l

    -- a later token passes its checks, and the last phrase is whole with it
    pub ended_all : (p : HeaderPhrase) → first_failed (inner_checks (declarations_of (phrases_of placed)) k before (token_of f).bytes) ≡ None
        → phrase_with k (before ++ (token_of f).bytes ∷ []) ≡ Some p → is_last p ≡ true → ReadsToken most i placed (keyword_text k ∷ before) f
        → ReadsWhole most i (placed ++ record { phrase = p; line = (token_of f).line } ∷ []) f
    ended_all p c q last l = taken_last most i placed (keyword_text k ∷ before) f p (inner_fault most (phrases_of placed) k before (token_of f).bytes
        ∙ c) (phrase_is k (before ++ (token_of f).bytes ∷ []) ∙ q) last l

    -- a check of a later token fails
    pub refused_inside : (n : ℕ) → first_failed (inner_checks (declarations_of (phrases_of placed)) k before (token_of f).bytes) ≡ Some n
        → ReadsToken most i placed (keyword_text k ∷ before) f → FailsAtToken most i n f
    refused_inside n c l = refused most i placed (keyword_text k ∷ before) f n (inner_fault most (phrases_of placed) k before (token_of f).bytes ∙ c) l

-- a phrase without checks that is whole at the first `$end`
pub runs_freely : (most : ℕ) (placed : List (Placed HeaderPhrase)) (k : Keyword) (before : List (List ℕ))
    → ((inner : List (List ℕ)) (t : List ℕ) → inner_checks (declarations_of (phrases_of placed)) k (before ++ inner) t ≡ [])
    → ((inner : List (List ℕ)) (t : List ℕ) → NoEnds inner → is_end t ≡ false → phrase_with k (before ++ inner ++ t ∷ []) ≡ None) → RunsOn most placed (keyword_text k ∷ before)
runs_freely most placed k before free whole inner t none =
    (inner_fault most (phrases_of placed) k (before ++ inner) t ∙ ap first_failed (free inner t), λ e. phrase_is k (before ++ inner ++ t ∷ []) ∙ whole inner t none e)

-- ---- commands that the standard does not have

pub no_keyword_of : (u : List ℕ) → is_unknown_command u ≡ true → keyword_of u ≡ None
unfolding is_unknown_command
no_keyword_of u h = by_keyword (keyword_of u) refl
  where
    by_keyword : (o : Option Keyword) → keyword_of u ≡ o → o ≡ None
    by_keyword None e = refl
    by_keyword (Some k) e = let b = rw e at h in cc

pub unknown_free : (most : ℕ) (ps : List HeaderPhrase) (u : List ℕ) (before : List (List ℕ)) (t : List ℕ) → is_unknown_command u ≡ true → header_fault most ps (u ∷ before) t ≡ None
unfolding header_fault
unknown_free most ps u before t h = ap (λ o. first_failed (inner_of (declarations_of ps) o before t)) (no_keyword_of u h)

pub unknown_is : (u : List ℕ) (ts : List (List ℕ)) → is_unknown_command u ≡ true → header_phrase (u ∷ ts) ≡ option_map (HeaderPhrase.Unknown u) (until_end ts)
unfolding header_phrase
unknown_is u ts h = ap (phrase_behind u ts) (no_keyword_of u h) ∙ ap (λ b. cond b (option_map (HeaderPhrase.Unknown u) (until_end ts)) None) h

pub unknown_runs : (most : ℕ) (placed : List (Placed HeaderPhrase)) (u : List ℕ) → is_unknown_command u ≡ true → RunsOn most placed (u ∷ [])
unknown_runs most placed u h inner t none =
    (unknown_free most (phrases_of placed) u inner t h, λ e. unknown_is u (inner ++ t ∷ []) h ∙ ap (option_map (HeaderPhrase.Unknown u)) (not_until inner t none e))

-- ---- what may follow

pub scope_asks_end : (most : ℕ) (placed : List (Placed HeaderPhrase)) (type name : List ℕ) → AsksEnd most placed (keyword_text Keyword.Scope ∷ type ∷ name ∷ []) 6
scope_asks_end most placed type name t e = inner_fault most (phrases_of placed) Keyword.Scope (type ∷ name ∷ []) t ∙ rw e refl

pub upscope_asks_end : (most : ℕ) (placed : List (Placed HeaderPhrase)) → AsksEnd most placed (keyword_text Keyword.Upscope ∷ []) 6
upscope_asks_end most placed t e = inner_fault most (phrases_of placed) Keyword.Upscope [] t ∙ rw e refl

pub header_asks_end : (most : ℕ) (placed : List (Placed HeaderPhrase)) → AsksEnd most placed (keyword_text Keyword.EndDefinitions ∷ []) 4
header_asks_end most placed t e = inner_fault most (phrases_of placed) Keyword.EndDefinitions [] t ∙ rw e refl

pub scale_asks_end : (most : ℕ) (placed : List (Placed HeaderPhrase)) (inner : List (List ℕ))
    → ((t : List ℕ) → timescale_checks inner t ≡ (is_end t or_fault 5) ∷ []) → AsksEnd most placed (keyword_text Keyword.Timescale ∷ inner) 5
scale_asks_end most placed inner then t e = inner_fault most (phrases_of placed) Keyword.Timescale inner t ∙ ap first_failed (then t) ∙ rw e refl

pub scope_welcomes_type : (most : ℕ) (placed : List (Placed HeaderPhrase)) → Welcomes most placed (keyword_text Keyword.Scope ∷ []) 6
scope_welcomes_type most placed = (
  λ t e. (inner_fault most (phrases_of placed) Keyword.Scope [] t ∙ rw e refl, phrase_is Keyword.Scope (t ∷ [])),
  λ t e. inner_fault most (phrases_of placed) Keyword.Scope [] t ∙ rw e refl,
)

pub scope_welcomes_name : (most : ℕ) (placed : List (Placed HeaderPhrase)) (type : List ℕ) → Welcomes most placed (keyword_text Keyword.Scope ∷ type ∷ []) 6
scope_welcomes_name most placed type = (
  λ t e. (
    inner_fault most (phrases_of placed) Keyword.Scope (type ∷ []) t
        ∙ rw e refl,
    phrase_is Keyword.Scope (type ∷ t ∷ []),
  ),
  λ t e. inner_fault most (phrases_of placed) Keyword.Scope (type ∷ []) t ∙ rw e refl,
)

pub var_welcomes_type : (most : ℕ) (placed : List (Placed HeaderPhrase)) → Welcomes most placed (keyword_text Keyword.Var ∷ []) 7
var_welcomes_type most placed = (
  λ t e. (inner_fault most (phrases_of placed) Keyword.Var [] t ∙ rw e refl, phrase_is Keyword.Var (t ∷ [])),
  λ t e. inner_fault most (phrases_of placed) Keyword.Var [] t ∙ rw e refl,
)

pub var_welcomes_reference : (most : ℕ) (placed : List (Placed HeaderPhrase)) (type size code : List ℕ) → Welcomes most placed (keyword_text Keyword.Var ∷ type ∷ size ∷ code ∷ []) 7
var_welcomes_reference most placed type size code = (
  λ t e. (
    inner_fault most (phrases_of placed) Keyword.Var (type ∷ size ∷ code ∷ []) t
        ∙ rw e refl,
    phrase_is Keyword.Var (type ∷ size ∷ code ∷ t ∷ [])
        ∙ ap (λ o. option_map HeaderPhrase.Declares (option_and_then (variable_with type size code) o)) (not_until [] t tt e),
  ),
  λ t e. inner_fault most (phrases_of placed) Keyword.Var (type ∷ size ∷ code ∷ []) t ∙ rw e refl,
)

pub var_runs : (most : ℕ) (placed : List (Placed HeaderPhrase)) (type size code first : List ℕ) → is_end first ≡ false
    → RunsOn most placed (keyword_text Keyword.Var ∷ type ∷ size ∷ code ∷ first ∷ [])
var_runs most placed type size code first n =
    runs_freely most placed Keyword.Var (type ∷ size ∷ code ∷ first ∷ []) (λ inner t. refl)
    (λ inner t none e. ap (λ o. option_map HeaderPhrase.Declares (option_and_then (variable_with type size code) o)) (not_until (first ∷ inner) t (n, none) e))

-- a variable is whole
pub var_whole : (type digits code first : List ℕ) (inner : List (List ℕ)) (t : List ℕ) → is_end first ≡ false → NoEnds inner → is_end t ≡ true → is_decimal digits ≡ true
    → phrase_with Keyword.Var (type ∷ digits ∷ code ∷ first ∷ (inner ++ t ∷ [])) ≡ Some
    (HeaderPhrase.Declares (Declaration.Var (record { type = type; size = decimal_value digits; code = code; reference = first ∷ inner })))
var_whole type digits code first inner t n none e d =
    ap (λ o. option_map HeaderPhrase.Declares (option_and_then (variable_with type digits code) o)) (until (first ∷ inner) t (n, none) e)
    ∙ ap (λ b. option_map HeaderPhrase.Declares (cond b (Some (Declaration.Var (record { type = type; size = decimal_value digits; code = code; reference = first ∷ inner }))) None)) d

-- a declaration that is not allowed here
pub barred : {X : Type 0} {g : Ghosts X} (most : ℕ) (i : Input) (placed : List (Placed HeaderPhrase)) (k : Kind) (f : Feed X g) (fault : HeadFault)
    → (token_of f).bytes ≡ keyword_text (keyword_for k) → IsBarred most (phrases_of placed) k fault → ReadsToken most i placed [] f
    → Fails most i fault f
barred most i placed k f TooMany e b l = not_begun most i placed (keyword_for k) f 11 e b l
barred most i placed k f TooDeep e b l = not_begun most i placed (keyword_for k) f 10 e b l
barred most i placed k f NoScope e b l = not_begun most i placed (keyword_for k) f 9 e b l
barred most i placed k f TokenTooLong e b l = absurd b
barred most i placed k f EndOfInput e b l = absurd b
barred most i placed k f UnknownCommand e b l = absurd b
barred most i placed k f OutOfPlace e b l = absurd b
barred most i placed k f BadTimescale e b l = absurd b
barred most i placed k f BadScope e b l = absurd b
barred most i placed k f BadVariable e b l = absurd b
barred most i placed k f CodeDiffers e b l = absurd b
barred most i placed k f InputTooLong e b l = absurd b
barred most i placed k f ReadFailed e b l = absurd b
barred most i placed k f OutOfMemory e b l = absurd b
