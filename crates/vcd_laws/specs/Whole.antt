-- What `pick` and `cut` write, as a whole: all declarations and all changes, events too.
use Rattle.std.specs.Prelude.{◌≡◌, ◌++◌, ℕ, Bool, cond, not, List, [], ◌∷◌, length, take, filter, filter_map, flat_map, Option, Some, None, option_map, Ok}
use Rattle.vcd_model.specs.Backward.{each}
use Rattle.vcd_model.specs.Input.{Input}
use Rattle.vcd_model.specs.Declarations.{Declaration, IdCode, enclosing}
use Rattle.vcd_model.specs.Header.{Header}
use Rattle.vcd_model.specs.Items.{BodyItem, Entry, entries, change_of}
use Rattle.vcd_model.specs.Values.{Value, value_of}
use Rattle.vcd_model.specs.History.{value_before}
use Rattle.vcd_model.specs.Selection.{marked_places, is_among}
use Rattle.vcd_model.specs.Pick.{pick_kept}
use Rattle.vcd_model.specs.Cut.{within, cut_kept}
use Rattle.vcd_model.specs.Ticks.{Moment, moment_ticks}
use Rattle.vcd_model.specs.Outcome.{Opened, items_in, fault_in}
use Rattle.vcd_model.specs.Job.{Want, IsJob}
use Rattle.vcd_laws.specs.KeptValues.{Opens, written_by}
use Rattle.vcd_laws.specs.Dumps.{input_of, IsReadable}

-- ---- declarations

-- an `$upscope` for each of these scopes that is marked
abbrev pub ups_kept : (ℕ → Bool) → List ℕ → List Declaration
ups_kept marked scopes = flat_map (λ i. cond (marked i) (Declaration.Up ∷ []) []) scopes

-- what is left of a declaration that has these before it; an `$upscope` is left if the scope that
-- it closes is marked
abbrev pub row_kept : (ℕ → Bool) → List Declaration → Declaration → List Declaration
row_kept marked earlier (Declaration.Scope type name) =
    cond (marked (length earlier)) (Declaration.Scope type name ∷ []) []
row_kept marked earlier (Declaration.Var v) =
    cond (marked (length earlier)) (Declaration.Var v ∷ []) []
row_kept marked earlier Declaration.Up = ups_kept marked (take 1 (enclosing earlier))

-- what is left of declarations: the variables that names select, the scopes around them, the
-- `$upscope` of each of these that is closed, and at the end one for each that is still open
abbrev pub declarations_kept : List (List ℕ) → List Declaration → List Declaration
declarations_kept names ds =
    let marked = is_among (marked_places names ds) in
    flat_map (λ l. l) (each (row_kept marked) ds) ++ ups_kept marked (enclosing ds)

-- ---- changes

-- what a change gives: at which time, inside a section or not, to which code, and which value; an
-- event has none
pub record Given : Type 0 where
  pub time : ℕ
  pub inside : Bool
  pub code : IdCode
  pub value : Option Value

-- what an entry gives, if it is a change
abbrev pub given_by : Entry → Option Given
given_by e = option_map (λ c. record {
  time = e.time;
  inside = e.inside;
  code = c.code;
  value = cond c.code.event None (Some (value_of c));
}) (change_of e.item)

-- what entries give, in order
abbrev pub given : List Entry → List Given
given es = filter_map given_by es

-- what the start section of a cut gives at time a: to each code that is no event its value before
-- a, if it has one
abbrev pub given_before : Header → ℕ → List BodyItem → List Given
given_before h a items = filter_map (λ c. option_map (λ v. record {
  time = a;
  inside = Bool.true;
  code = c;
  value = Some v;
}) (value_before items c a)) (filter (λ c. not c.event) h.codes)

-- ---- the laws

-- a text is a dump with these declarations, whose changes give this
pub record IsWholeDump (limit : ℕ) (text : List ℕ) (ds : List Declaration) (all : List Given)
    : Type 0 where
  pub dump : Opened
  pub opens : Opens limit (input_of text) dump
  pub whole : fault_in dump ≡ None
  pub declarations : dump.header.declarations ≡ ds
  pub changes : given (entries (items_in dump)) ≡ all

-- what `pick` wrote declares the selected variables in the scopes that they had, of the types that
-- these had, and has all their changes that are kept, in the order and at the times that they had
abbrev pub PickKeepsAll : Type 0
PickKeepsAll = (limit : ℕ) (name : List ℕ) (names : List (List ℕ)) (input : Input) (o : Opened)
    → IsReadable (Want.Pick names) limit name input o
    → IsWholeDump limit (written_by (Want.Pick names) limit name input)
    (declarations_kept names o.header.declarations)
    (given (pick_kept o.header names (items_in o)))

-- what `cut` wrote declares all variables so, and has the values before its first time and then all
-- changes that are kept
abbrev pub CutKeepsAll : Type 0
CutKeepsAll = (limit : ℕ) (name : List ℕ) (from to : Moment) (input : Input) (o : Opened) (a b : ℕ)
    → IsJob (Want.Cut from to) → IsReadable (Want.Cut from to) limit name input o
    → moment_ticks o.header.scale from Bool.true ≡ Ok a
    → moment_ticks o.header.scale to Bool.false ≡ Ok b
    → IsWholeDump limit (written_by (Want.Cut from to) limit name input)
    (declarations_kept [] o.header.declarations)
    (given_before o.header a (within b (items_in o)) ++ given (cut_kept a b (items_in o)))
