-- What a step of any task leaves: with an item, at the end of a body, and at a fault.
use Rattle.std.proofs.Common.{◌≡◌, ◌≢◌, ◌^◌, ◌<◌, ◌≤◌, length, arith, inl, inr, ℕ, Bool, true, false, List, [], ◌∷◌, ◌++◌, Result, Ok, Err, refl, sym, ap, subst, ◌∙◌, append-nil, append_assoc}
use Rattle.vcd_model.proofs.BodyPrefix.{items_begin}
use Rattle.vcd_model.specs.Declarations.{IdCode}
use Rattle.vcd_model.specs.Header.{Header}
use Rattle.vcd_model.specs.Input.{Input}
use Rattle.vcd_model.specs.Items.{BodyItem}
use Rattle.vcd_model.specs.Tokens.{Token}
use Rattle.std.proofs.lemmas.List.{length-append}
use Rattle.vcd_text.proofs.Writes.{appends-none, both-written, some-behind}
use Rattle.vcd_text.specs.Device.{Counts, Device, Writes, WritesSome}
use Rattle.vcd_text.specs.Feed.{HasGiven, limit_of, seen, token_of}
use Rattle.vcd_text.specs.declared.device.Source.{Ghosts}
use Rattle.vcd_text.specs.declared.feed.Feed.{Feed}
use Rattle.vcd_body.proofs.CallerLemmas.{gave_nothing}
use Rattle.vcd_body.specs.Answer.{stop_of_body}
use Rattle.vcd_body.specs.Device.{Grows, GrowsSome}
use Rattle.vcd_body.specs.Given.{GivesItem, IsItem, item_text, text_of}
use Rattle.vcd_body.specs.Items.{AreRegsAfter, model_form, model_section}
use Rattle.vcd_body.specs.Reads.{Fails, GaveAll, GaveItem, GaveItems}
use Rattle.vcd_body.specs.declared.answer.Done.{Done}
use Rattle.vcd_body.specs.declared.answer.Done.TheVariants.{Early, Whole}
use Rattle.vcd_body.specs.declared.answer.More.{More}
use Rattle.vcd_body.specs.declared.answer.More.TheVariants.{Again, Ended}
use Rattle.vcd_body.specs.declared.answer.Stop.{Stop}
use Rattle.vcd_body.specs.declared.answer.Stop.TheVariants.{Dump, Read, Unmatched, Write}
use Rattle.vcd_body.specs.declared.fault.BodyFault.{BodyFault}
use Rattle.vcd_body.specs.declared.fault.BodyFault.TheVariants.{ReadFailed}
use Rattle.vcd_body.specs.declared.item.Item.{Item}
use Rattle.vcd_body.specs.declared.item.Item.TheVariants.{Begin, Change, End, Finish, Time}
use Rattle.vcd_body.specs.declared.item.Regs.{Regs}
use Rattle.vcd_run.specs.Plan.{Plan}
use Rattle.vcd_run.specs.Run.{BodyBegins, BodyGives, HasTaken, StepGives}
use Rattle.vcd_run.specs.Task.{TakesOne}

-- what one text has more than what stands was written, or a prefix of it
pub written_behind : (begin out new : Device) (text more : List ℕ) → Writes begin out text → Grows out new text more → Writes begin new more
written_behind begin out new text more w due = subst (Writes begin new) (sym due.1) (both-written begin out new text due.0 w due.2)

pub some_written : (begin out new : Device) (text more : List ℕ) → Writes begin out text → GrowsSome out new text more → WritesSome begin new more
some_written begin out new text more w due = subst (WritesSome begin new) (sym due.1) (some-behind begin out new text due.0 w due.2)

-- nothing was written since
pub still_written : (begin out new : Device) (text : List ℕ) → Writes begin out text → Writes out new [] → Writes begin new text
still_written begin out new text w none = subst (Writes begin new) (append-nil text) (both-written begin out new text [] w none)

-- what was given comes first in the body
pub begins_with : {X : Type 0} {g : Ghosts X} (h : Header) (i : Input) (front : List Token) (items : List BodyItem) (f : Feed X g) (r : Regs)
    → GaveItems h.codes i front items f r → BodyBegins h i front (limit_of f) items
begins_with h i front items f r gave =
    let first = gave.stands.given_first in
    let b = items_begin h.codes gave.given first.0 gave.placed gave.so_far in
    record {
      rest = gave.given ++ first.0;
      tokens = first.1 ∙ append_assoc front gave.given first.0;
      begins = (b.0, b.1 ∙ ap (λ l. l ++ b.0) gave.items_are);
    }

-- the item that was given, in the definitions' terms
pub item_given : {X : Type 0} {g : Ghosts X} (h : Header) (i : Input) (front : List Token) (items : List BodyItem) (new : Feed X g) (item : Item)
    (r : Regs) → item ≢ Finish → GivesItem h.codes i front items new r item → (x : BodyItem) × IsItem h.codes (item_text new item) item x
    × GaveItem h.codes i front items x new r
item_given h i front items new (Time t) r other given = (BodyItem.Time t, refl, given)
item_given h i front items new (Begin s) r other given = (BodyItem.Begin (model_section s), refl, given)
item_given h i front items new End r other given = (BodyItem.End, refl, given)
item_given h i front items new (Change code form) r other given = (BodyItem.Changes (record { code = given.0; form = model_form form; text = text_of form new }), (given.0, given.1, refl), given.2)
item_given h i front items new Finish r other given = absurd (other refl)

-- at its end the body has just the items that were given
pub all_given : {X : Type 0} {g : Ghosts X} (codes : List IdCode) (i : Input) (front : List Token) (items : List BodyItem) (f : Feed X g) (r : Regs)
    (x : Item) → x ≡ Finish → GivesItem codes i front items f r x → GaveAll codes i front items f r
all_given codes i front items f r x is given = subst (GivesItem codes i front items f r) is given

none_few : (n : ℕ) → 0 ≤ n
none_few n = omega arith

module _ {T X : Type 0} {g : Ghosts X} (keeps : T → Plan → Header → List BodyItem → Type 0) (p : Plan) (h : Header) (i : Input) (front : List Token) where
  -- before the first item
  pub taken_none : (task : T) (r : Regs) (f : Feed X g) → HasGiven i front f → AreRegsAfter [] r → keeps task p h [] → p.ends [] ≡ false → HasTaken keeps p h i front [] task r f
  taken_none task r f given known stands on = record { gave = gave_nothing h.codes i front f r given known; stands = stands; on = on; few = none_few (seen f) }

  module _ (items : List BodyItem) (task : T) (r : Regs) (f : Feed X g) (s : HasTaken keeps p h i front items task r f) where
    -- there are fewer items than a counter can count
    pub few_items : (f' : Feed X g) → seen f < seen f' → seen f' < 2 ^ 63 → length items < 2 ^ 63
    few_items f' further bounded = let n = s.few in omega (arith, n)

    module _ (told : List BodyItem → List ℕ → Type 0) (task' : T) (r' : Regs) (f' : Feed X g) (out out' : Device) where
      abbrev Gives : Result More Stop → Type 0
      Gives = StepGives keeps p h i front told items task' r' f' out out'

      -- an item that does not end the run, one that does, and one whose output was not written
      pub taken_on : {E : Type 0} (b : Bool) (x : BodyItem) → seen f < seen f' → b ≡ false → GaveItem h.codes i front items x f' r'
          → TakesOne {E = E} (keeps task' p h) told p items x out out' (Ok b) → Counts {A = Bool} {E = E} out out' (Ok b) → Gives (Ok Again)
      taken_on b x further off gave takes counts = (
        x,
        gave,
        record {
          gave = gave.gave;
          stands = takes.keeps_on (ap (λ c. Ok c) off);
          on = sym takes.ends ∙ off;
          few = let n = s.few in omega (arith, length-append items (x ∷ []));
        },
        (takes.due.0, takes.due.1, (takes.due.2, counts)),
      )

      pub taken_last : {E : Type 0} (b : Bool) (x : BodyItem) → b ≡ true → GaveItem h.codes i front items x f' r'
          → TakesOne {E = E} (keeps task' p h) told p items x out out' (Ok b) → Counts {A = Bool} {E = E} out out' (Ok b) → Gives (Ok (Ended Early))
      taken_last b x over gave takes counts = (x, gave, sym takes.ends ∙ over, (takes.due.0, takes.due.1, (takes.due.2, counts)), takes.tells_all (ap (λ c. Ok c) over))

      pub take_fails : {E : Type 0} (e : E) (x : BodyItem) → GaveItem h.codes i front items x f' r'
          → TakesOne (keeps task' p h) told p items x out out' (Err e) → Counts {A = Bool} out out' (Err e) → Gives (Err Write)
      take_fails e x gave takes counts = inl (x, gave, (takes.due.0, takes.due.1, (takes.due.2, counts)))

-- a fault, with which nothing is written
pub stopped : {T X : Type 0} {g : Ghosts X} (keeps : T → Plan → Header → List BodyItem → Type 0) (p : Plan) (h : Header) (i : Input)
    (front : List Token) (told : List BodyItem → List ℕ → Type 0) (items : List BodyItem) (task : T) (r : Regs) (f : Feed X g) (out : Device)
    (fault : BodyFault) (line : ℕ) → line ≡ (token_of f).line
    → Fails h.codes i front items fault f → StepGives keeps p h i front told items task r f out out (Err (stop_of_body fault 0 line))
stopped keeps p h i front told items task r f out ReadFailed line is fails = (refl, fails.0, fails.1, (appends-none out.held, refl))
stopped keeps p h i front told items task r f out fault line is fails = (refl, refl, is, fails, (appends-none out.held, refl))

-- ---- what a run has left that ends with a step

module _ {T X : Type 0} {g : Ghosts X} (keeps : T → Plan → Header → List BodyItem → Type 0) (told : List BodyItem → List ℕ → Type 0) (p : Plan)
    (h : Header) (i : Input) (front : List Token) (items : List BodyItem) (task : T) (r : Regs) (f : Feed X g) (begin out out' : Device)
    (on : p.ends items ≡ false) (written : Writes begin out (p.opens items)) where
  abbrev Leaves : Result Done Stop → Type 0
  Leaves = BodyGives told p h i front (limit_of f) (seen f) begin out'

  -- the end of the run
  pub ended : (done : Done) → StepGives keeps p h i front told items task r f out out' (Ok (Ended done)) → Leaves (Ok done)
  ended Whole (all, close, says) = (items, all.has, on, both-written begin out out' (p.opens items) (p.closes items) written close, says)
  ended Early (x, gave, ends, grows, says) =
      (items ++ x ∷ [], begins_with h i front (items ++ x ∷ []) f r gave.gave, ends, written_behind begin out out' (p.opens items) (p.opens (items ++ x ∷ [])) written grows, says)

  -- what stopped it
  pub stops : (stop : Stop) → StepGives keeps p h i front told items task r f out out' (Err stop) → Leaves (Err stop)
  stops (Dump input line fault) (first, other, is, fails, none) =
      (items, first, other, rw is fails.0, on, still_written begin out out' (p.opens items) written none)
  stops (Read input) (first, fails, rest, none) =
      (items, (token_of f).line, first, fails.0, on, still_written begin out out' (p.opens items) written none)
  stops Write (inl (x, gave, grows)) = inl (
    items ++ x ∷ [],
    begins_with h i front (items ++ x ∷ []) f r gave.gave,
    some_written begin out out' (p.opens items) (p.opens (items ++ x ∷ [])) written grows,
  )
  stops Write (inr (all, some)) = inr (items, all.has, on, some-behind begin out out' (p.opens items) (p.closes items) written some)
  stops (Unmatched name) none = absurd none

-- a write failed before a read
pub pass_fails : {X : Type 0} {g : Ghosts X} (told : List BodyItem → List ℕ → Type 0) (p : Plan) (h : Header) (i : Input) (front : List Token)
    (items : List BodyItem) (r : Regs) (f : Feed X g) (read : ℕ) (begin out' : Device) → GaveItems h.codes i front items f r
    → WritesSome begin out' (p.opens items)
    → BodyGives told p h i front (limit_of f) read begin out' (Err Write)
pass_fails told p h i front items r f read begin out' gave some = inl (items, begins_with h i front items f r gave, some)
