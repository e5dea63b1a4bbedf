-- How the calls that build an argument or a command change what a parse reads of it.
use Rattle.vcd_words.proofs.Cited.{◌≡◌, ◌∙◌, ◌∷◌, [], ℕ, Bool, true, Option, Some, ap, ap₂, Bor, app_of_fields, AddsArg, App, Rule, Text, rule_of, with_rule, Arg, ArgAction, One, Command, out-Command, ValueRange, IsLocal, IsWhole}

-- ---- arguments

module _ (old new : Arg) (r : Rule) (before : IsLocal old r) where
  -- `-s`
  pub with_short : (s : ℕ) → new ≡ record old { short = Some s } → IsLocal new (record r { short = Some s })
  with_short s e = (ap rule_of e ∙ ap (λ (r : Rule). record r { short = Some s }) before.0, ap (λ (a : Arg). a.global) e ∙ before.1)

  -- `--name`
  pub with_long : (name : Bor Text) → new ≡ record old { long = Some name } → IsLocal new (record r { long = Some name.now })
  with_long name e = (ap rule_of e ∙ ap (λ (r : Rule). record r { long = Some name.now }) before.0, ap (λ (a : Arg). a.global) e ∙ before.1)

  -- a name of its value
  pub with_value_name : (name : Bor Text) → new ≡ record old { val_names = One name } → IsLocal new (record r { value_names = 1 })
  with_value_name name e = (ap rule_of e ∙ ap (λ (r : Rule). record r { value_names = 1 }) before.0, ap (λ (a : Arg). a.global) e ∙ before.1)

  -- how many words it takes
  pub with_range : (range : ValueRange) → new ≡ record old { num_vals = new.num_vals } → new.num_vals ≡ Some range → IsLocal new (record r { range = Some range })
  with_range range e is = (ap rule_of e ∙ ap₂ (λ (r : Rule) (n : Option ValueRange). record r { range = n }) before.0 is, ap (λ (a : Arg). a.global) e ∙ before.1)

  -- whether it has to be there
  pub with_required : (required : Bool) → new ≡ record old { required = required } → IsLocal new (record r { required = required })
  with_required required e = (ap rule_of e ∙ ap (λ (r : Rule). record r { required = required }) before.0, ap (λ (a : Arg). a.global) e ∙ before.1)

  -- the word that is taken where there is none
  pub with_default : (word : Bor Text) → new ≡ record old { default_vals = One word } → IsLocal new (record r { defaults = word.now ∷ [] })
  with_default word e = (ap rule_of e ∙ ap (λ (r : Rule). record r { defaults = word.now ∷ [] }) before.0, ap (λ (a : Arg). a.global) e ∙ before.1)

  -- whether help shows that word, which no parse reads
  pub with_hidden_default : (hidden : Bool) → new ≡ record old { hide_default_value = hidden } → IsLocal new r
  with_hidden_default hidden e = (ap rule_of e ∙ before.0, ap (λ (a : Arg). a.global) e ∙ before.1)

  -- what a use of it does
  pub with_action : (action : ArgAction) → new ≡ record old { action = Some action } → IsLocal new (record r { action = Some action })
  with_action action e = (ap rule_of e ∙ ap (λ (r : Rule). record r { action = Some action }) before.0, ap (λ (a : Arg). a.global) e ∙ before.1)

  -- its help, which no parse reads
  pub with_help : (text : Bor Text) → new ≡ record old { help = Some text } → IsLocal new r
  with_help text e = (ap rule_of e ∙ before.0, ap (λ (a : Arg). a.global) e ∙ before.1)

-- ---- commands

module _ (old new : Command) (app : App) (before : IsWhole old app) where
  -- texts of its help, which no parse reads
  pub with_about : (text : Bor Text) → out-Command new ≡ record (out-Command old) { about = Some text } → IsWhole new app
  with_about text e = (ap app_of_fields e ∙ before.0, ap (λ f. f.is_broken) e ∙ before.1)

  pub with_usage : (text : Bor Text) → out-Command new ≡ record (out-Command old) { usage_str = Some text } → IsWhole new app
  with_usage text e = (ap app_of_fields e ∙ before.0, ap (λ f. f.is_broken) e ∙ before.1)

  pub with_after_help : (text : Bor Text) → out-Command new ≡ record (out-Command old) { after_help = Some text } → IsWhole new app
  with_after_help text e = (ap app_of_fields e ∙ before.0, ap (λ f. f.is_broken) e ∙ before.1)

  -- a version
  pub with_version : (text : Bor Text) → out-Command new ≡ record (out-Command old) { version = Some text } → IsWhole new (record app { top = record app.top { has_version = true } })
  with_version text e =
      (ap app_of_fields e ∙ ap (λ (a : App). record a { top = record a.top { has_version = true } }) before.0, ap (λ f. f.is_broken) e ∙ before.1)

  -- a command has to follow
  pub with_subcommand_required : out-Command new ≡ record (out-Command old) { subcommand_required = true } → IsWhole new (record app { top = record app.top { subcommand_required = true } })
  with_subcommand_required e =
      (ap app_of_fields e ∙ ap (λ (a : App). record a { top = record a.top { subcommand_required = true } }) before.0, ap (λ f. f.is_broken) e ∙ before.1)

  -- no command `help`
  pub without_help : out-Command new ≡ record (out-Command old) { disable_help_subcommand = true } → IsWhole new (record app { top = record app.top { disable_help_subcommand = true } })
  without_help e =
      (ap app_of_fields e ∙ ap (λ (a : App). record a { top = record a.top { disable_help_subcommand = true } }) before.0, ap (λ f. f.is_broken) e ∙ before.1)

  -- one more argument
  pub with_arg : (a : Arg) (r : Rule) → AddsArg old a new → IsLocal a r → IsWhole new (with_rule app r)
  with_arg a r adds is = (adds.shape is.1 ∙ ap₂ with_rule before.0 is.0, adds.broken ∙ before.1)
