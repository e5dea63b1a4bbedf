-- A strobe over a body.
use Rattle.std.specs.Prelude.{◌≡◌, ◌≢◌, ℕ, ◌+◌, ◌<◌, ◌≤◌, ◌^◌, Bool, true, false, List, [], ◌∷◌, ◌++◌, length, take, cond, flat_map, slice_get, option_map, Option, Some, None, Result, IfOk}
use Rattle.std.specs.List.Sorted.{IsNonDecreasing, IsPermutation}
use Rattle.vcd_model.specs.Declarations.{IdCode, same_code}
use Rattle.vcd_model.specs.History.{gives_to}
use Rattle.vcd_model.specs.Values.{value_of, value_with}
use Rattle.vcd_body.specs.declared.item.Section.{Section}
use Rattle.vcd_body.specs.declared.item.Section.TheVariants as section
use Rattle.vcd_body.specs.declared.values.slot.Shown.{Shown}
use Rattle.vcd_body.specs.declared.values.slot.Shown.TheVariants as shown
use Rattle.std.specs.List.{AllByRecursion, list_any}
use Rattle.vcd_body.specs.Device.{TakesDue}
use Rattle.vcd_body.specs.Given.{IsText}
use Rattle.vcd_body.specs.declared.item.Form.{Form}
use Rattle.vcd_view.specs.declared.view.Code.{Code}
use Rattle.vcd_strobe.specs.Roles.{fresh, needs}
use Rattle.vcd_body.specs.Items.{AreRegsAfter, model_form}
use Rattle.vcd_body.specs.declared.item.Regs.{Regs}
use Rattle.vcd_strobe.specs.Kept.{IsFull}
use Rattle.vcd_model.specs.Header.{Header}
use Rattle.vcd_model.specs.Items.{BodyItem, Change, leaves_open, time_after}
use Rattle.vcd_model.specs.Selection.{selected, selects_code}
use Rattle.vcd_model.specs.Strobe.{Clock as ModelClock, edge_text, edges_in, is_turn, last_time, strobe_open, time_code}
use Rattle.vcd_text.specs.Device.{Device, Takes}
use Rattle.vcd_view.specs.Views.{IsViewOf}
use Rattle.vcd_view.specs.declared.view.HeadView.{HeadView}
use Rattle.vcd_body.specs.Contents.{IsLaidOut, codes_shown, kept_at}
use Rattle.vcd_body.specs.Kept.{Kept}
use Rattle.vcd_body.specs.Stored.{room_of, share_of}
use Rattle.vcd_body.specs.declared.values.table.Table.{Table}
use Rattle.vcd_run.specs.Plan.{Plan}
use Rattle.vcd_strobe.specs.Clocks.{AreClocks, turns_at}
use Rattle.vcd_strobe.specs.Codes.{AreRoles}
use Rattle.vcd_strobe.specs.Lines.{ArePlaces, HaveRoles, in_places, line_at, place_of}
use Rattle.vcd_run.specs.Listed.{times}
use Rattle.vcd_strobe.specs.Listed.{AreListed, SettlesEach, followed_at, listed_at}
use Rattle.vcd_strobe.specs.Moments.{EdgesStand}
use Rattle.vcd_strobe.specs.declared.clocks.Clock.{Clock}
use Rattle.vcd_strobe.specs.declared.role.Role.{Role}
use Rattle.vcd_strobe.specs.declared.whole.Strobe.{Strobe}

-- each place of each code has room for all values that the code may have
abbrev pub HasShares : Table → List IdCode → Type 0
HasShares t codes = (code place : ℕ) (c : IdCode) → place < 4 → slice_get codes code ≡ Some c → (k : Kept) × (kept_at t (place_of code place) ≡ Some k) × (share_of c.size ≤ k.room)

-- a code is one of a selected variable
abbrev pub has_lines_in : Header → List (List ℕ) → IdCode → Bool
has_lines_in h names = selects_code (selected names h.declarations)

-- what is kept of all codes after these items and edges
pub record Stands (s : Strobe) (h : Header) (names : List (List ℕ)) (es : List (List BodyItem)) (items : List BodyItem) : Type 0 where
  pub places : ArePlaces (codes_shown s.places) h.codes
  pub laid : IsLaidOut s.table
  pub shares : HasShares s.table h.codes
  pub roles_are : AreRoles (λ c code place. in_places s.table c.size code place) (has_lines_in h names) h.codes es items s.roles.now
  pub many : length s.roles.now ≡ length h.codes
  pub list : AreListed s.roles.now s.listed.now s.count
  pub room : length h.codes ≤ length s.listed.now
  pub id : s.id.now ≡ (time_code h).text
  -- the values of the clocks' codes are kept
  pub clocked : AllByRecursion (λ (k : Clock). followed_at s.roles.now k.code ≡ true) s.clocks.now

-- the roles of the codes that were listed go on after an edge at this time, and those that stay
-- listed are the first ones of the list
pub record SettlesListed (sorted : List ℕ) (t : ℕ) (roles roles' : List Role) (listed listed' : List ℕ) (n : ℕ) : Type 0 where
  pub settles : SettlesEach sorted t roles roles'
  pub many : length roles' ≡ length roles
  pub within : n ≤ length listed'
  pub long : length listed' ≡ length listed
  pub kept : (i : ℕ) → times i (take n listed') ≡ cond (listed_at roles' i) (times i sorted) 0

-- the lines of the codes that were listed were put, in order
abbrev pub PutsListed : {E : Type 0} → HeadView → Table → (roles roles' : List Role) → (listed listed' : List ℕ) → (count t : ℕ) → Device → Device → Result ℕ E → Type 0
PutsListed v table roles roles' listed listed' count t out out' result =
    (sorted : List ℕ) × IsPermutation (take count listed) sorted × IsNonDecreasing sorted
    × ((codes : List IdCode) → ArePlaces (codes_shown v) codes → HaveRoles roles codes → IsLaidOut table → Takes out out' (flat_map (line_at codes table roles t) sorted) result)
    × IfOk result (λ n. SettlesListed sorted t roles roles' listed listed' n)

-- an edge at this time was put
abbrev pub PutsEdge : {A E : Type 0} → Strobe → Strobe → ℕ → Device → Device → Result A E → Type 0
PutsEdge s s' t out out' result = (h : Header) (names : List (List ℕ)) (es : List (List BodyItem)) (items : List BodyItem)
    → Stands s h names es items → t ≡ time_after items → s.edges ≡ length es → length es < 2 ^ 63 → last_time es ≤ time_after items
    → Takes out out' (edge_text h names es items) result × IfOk result (λ _. Stands s' h names (es ++ items ∷ []) items)

-- a change of the code at an index, which gives no other code anything
pub record ChangesOnly (h : Header) (code : ℕ) (a : IdCode) (d : Change) : Type 0 where
  pub declared : slice_get h.codes code ≡ Some a
  pub gives : same_code a d.code ≡ true
  pub others : (i : ℕ) (c : IdCode) → slice_get h.codes i ≡ Some c → i ≢ code → gives_to c (BodyItem.Changes d) ≡ false

-- an event was triggered at this time
abbrev pub Triggers : Strobe → Strobe → ℕ → ℕ → Type 0
Triggers s s' code t = (h : Header) (names : List (List ℕ)) (es : List (List BodyItem)) (items : List BodyItem) (a : IdCode) (d : Change)
    → Stands s h names es items → ChangesOnly h code a d → a.event ≡ true → leaves_open items ≡ false → last_time es ≤ time_after items
    → t ≡ time_after items → Stands s' h names es (items ++ BodyItem.Changes d ∷ [])

-- a code that is no event got the value that this place of it has
abbrev pub TakesValue : Strobe → Strobe → Regs → ℕ → ℕ → Type 0
TakesValue s s' r code place = (h : Header) (names : List (List ℕ)) (es : List (List BodyItem)) (items : List BodyItem) (a : IdCode) (d : Change)
    → Stands s h names es items → ChangesOnly h code a d → a.event ≡ false → AreRegsAfter items r
    → in_places s.table a.size code place ≡ Some (value_of d) → IsFull a.size (Some (value_of d))
    → Stands s' h names es (items ++ BodyItem.Changes d ∷ [])

-- a change of a code with this value before it, in this section, is from the start
abbrev pub is_start : Shown → Option Section → Bool
is_start shown.Unset (Some section.Vars) = true
is_start shown.Unset (Some section.Off) = false
is_start shown.Unset (Some section.On) = false
is_start shown.Unset (Some section.All) = false
is_start shown.Unset None = false
is_start shown.Bits o = false
is_start shown.Real o = false

-- a value was set in a place of a code that is not needed
abbrev pub SetsPlace : Strobe → Strobe → ℕ → ℕ → Form → List ℕ → Type 0
SetsPlace s s' code place form text = (h : Header) (names : List (List ℕ)) (es : List (List BodyItem)) (items : List BodyItem) (a : IdCode)
    (c : Code) → Stands s h names es items → slice_get h.codes code ≡ Some a
    → ((r : Role) → slice_get s.roles.now code ≡ Some r → needs r place ≡ false) → IsText form c text → c.event ≡ false → c.size ≡ a.size
    → Stands s' h names es items × (in_places s'.table a.size code place ≡ Some (value_with a.size (model_form form) text))

-- the edge that an item is was put, if it is one by the clocks
abbrev pub PutsTurn : {A E : Type 0} → Strobe → Strobe → (t code from to : ℕ) → Device → Device → Result A E → Type 0
PutsTurn s s' t code from to out out' result = (h : Header) (names : List (List ℕ)) (ks : List ModelClock) (items : List BodyItem) (x : BodyItem)
    → Stands s h names (edges_in ks items) items → EdgesStand ks items s.edges s.last → t ≡ time_after items
    → time_after (items ++ x ∷ []) ≡ time_after items → length items < 2 ^ 63 → code < 2 ^ 60 → from < 4 → to < 4
    → list_any (turns_at s.places s.table code from to) s.clocks.now ≡ is_turn ks items x
    → TakesDue out out' (strobe_open ks h names items) (strobe_open ks h names (items ++ x ∷ [])) result
    × IfOk result (λ _. Stands s' h names (edges_in ks (items ++ x ∷ [])) items × EdgesStand ks (items ++ x ∷ []) s'.edges s'.last)

-- the edges stay
pub record SameEdges (s s' : Strobe) : Type 0 where
  pub edges : s'.edges ≡ s.edges
  pub last : s'.last ≡ s.last

-- it is the last one
pub record IsPast (s s' : Strobe) (t : ℕ) : Type 0 where
  pub edges : s.edges < 2 ^ 63 → s'.edges ≡ s.edges + 1
  pub last : s'.last ≡ Some t

-- what no call changes
pub record SameStrobe (s s' : Strobe) : Type 0 where
  pub places : s'.places ≡ s.places
  pub clocks : s'.clocks ≡ s.clocks
  pub id : s'.id ≡ s.id

-- the output by some first items
abbrev pub strobe_plan : List ModelClock → Header → List (List ℕ) → Plan
strobe_plan ks h names = record { opens = strobe_open ks h names; closes = λ items. []; ends = λ items. false }

-- a strobe that goes by this plan has handled these items
pub record HasStrobed (s : Strobe) (p : Plan) (h : Header) (items : List BodyItem) : Type 0 where
  pub names : List (List ℕ)
  pub ks : List ModelClock
  pub by_plan : p ≡ strobe_plan ks h names
  pub clocks : AreClocks h.codes s.clocks.now ks
  pub edges : EdgesStand ks items s.edges s.last
  pub stands : Stands s h names (edges_in ks items) items

-- no two codes have the same text
abbrev pub AreDistinct : List IdCode → Type 0
AreDistinct codes = (i j : ℕ) (a b : IdCode) → slice_get codes i ≡ Some a → slice_get codes j ≡ Some b → same_code a b ≡ true → i ≡ j

-- a change of the code at an index, which is no event, was handled
abbrev pub TakesChange : {A E : Type 0} → Strobe → Strobe → Regs → ℕ → Form → List ℕ → Device → Device → Result A E → Type 0
TakesChange s s' r code form text out out' result =
    (p : Plan) (h : Header) (items : List BodyItem) (a : IdCode) (c : Code) → HasStrobed s p h items → AreRegsAfter items r
    → ChangesOnly h code a (record { code = a; form = model_form form; text = text }) → AreDistinct h.codes → a.event ≡ false → IsText form c text
    → c.event ≡ false → c.size ≡ a.size → 0 < a.size → length items < 2 ^ 63
    → TakesDue out out' (p.opens items) (p.opens (items ++ BodyItem.Changes (record { code = a; form = model_form form; text = text }) ∷ [])) result
    × IfOk result (λ _. HasStrobed s' p h (items ++ BodyItem.Changes (record { code = a; form = model_form form; text = text }) ∷ []))

-- a change of the code at an index was handled
abbrev pub TakesAny : {A E : Type 0} → HeadView → Strobe → Strobe → Regs → ℕ → Form → List ℕ → Device → Device → Result A E → Type 0
TakesAny v s s' r code form text out out' result =
    (p : Plan) (h : Header) (items : List BodyItem) (a : IdCode) → IsViewOf v h → HasStrobed s p h items → AreRegsAfter items r → slice_get h.codes code ≡ Some a → length items < 2 ^ 63
    → TakesDue out out' (p.opens items) (p.opens (items ++ BodyItem.Changes (record { code = a; form = model_form form; text = text }) ∷ [])) result
    × IfOk result (λ _. HasStrobed s' p h (items ++ BodyItem.Changes (record { code = a; form = model_form form; text = text }) ∷ []))

-- a role for each code before the first item: a code has lines if a selected variable has it
pub record AreFresh (h : Header) (names : List (List ℕ)) (roles : List Role) : Type 0 where
  pub many : length roles ≡ length h.codes
  pub each : (i : ℕ) → slice_get roles i ≡ option_map (λ c. fresh (has_lines_in h names c)) (slice_get h.codes i)

-- what a caller lends suffices for a strobe of these codes, of which it has the clocks and the code
-- of the time
pub record Suffices (v : HeadView) (bytes room : ℕ) (roles : List Role) (clocks : List Clock) (id : List ℕ) (h : Header) (names : List (List ℕ)) (ks : List ModelClock) : Type 0 where
  pub places : ArePlaces (codes_shown v) h.codes
  pub bytes_fit : room_of v.codes.now ≤ bytes
  pub list_fits : length h.codes ≤ room
  pub roles_are : AreFresh h names roles
  pub clocks_are : AreClocks h.codes clocks ks
  pub id_is : id ≡ (time_code h).text
