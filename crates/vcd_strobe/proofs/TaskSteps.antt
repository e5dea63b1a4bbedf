-- What a strobe does as a task: with an event's change, with any other item, and with its output.
use Rattle.std.proofs.Common.{◌≡◌, ◌≢◌, ◌⊎◌, inl, inr, ℕ, zero, suc, ◌<◌, ◌+◌, Bool, true, false, cond, count_by, is_some, ◌&&◌, List, [], ◌∷◌, ◌++◌, slice_get, option_map, unwrap_or, Option, Some, Ok, Err, refl, sym, ap, subst, ◌∙◌, append-nil, arith}
use Rattle.std.proofs.lemmas.Bool.{le-ltb, lt-ltb}
use Rattle.std.proofs.lemmas.Option.{none-some, same_Some}
use Rattle.std.proofs.lemmas.Slice.Eq.{bytes_eq-Decides}
use Rattle.std.specs.List.{AllByRecursion, list_any}
use Rattle.vcd_model.specs.Declarations.{IdCode, same_code}
use Rattle.vcd_model.specs.Header.{Header}
use Rattle.vcd_model.specs.History.{final_value, gives_to}
use Rattle.vcd_model.specs.Items.{BodyItem, Change, is_begin, is_end_of_section, leaves_open, time_after}
use Rattle.vcd_model.specs.Strobe.{Clock as ModelClock, digit_after, digit_before, edges_in, has_digit, is_edge, is_turn, is_turn_of}
use Rattle.vcd_model.specs.Values.{value_of}
use Rattle.vcd_model.proofs.Times.{time_after-append}
use Rattle.vcd_text.proofs.Writes.{AppendsSome, appends-none}
use Rattle.vcd_text.specs.Device.{Appends, Device}
use Rattle.vcd_view.proofs.LookUpLemmas.{same_place}
use Rattle.vcd_view.specs.Views.{IsSize, IsViewOf}
use Rattle.vcd_view.specs.declared.view.HeadView.{HeadView}
use Rattle.vcd_body.specs.Device.{DueBy}
use Rattle.vcd_body.specs.Given.{IsItem}
use Rattle.vcd_body.specs.Items.{AreRegsAfter, regs_after}
use Rattle.vcd_body.specs.declared.item.Item.{Item}
use Rattle.vcd_body.specs.declared.item.Item.TheVariants as item
use Rattle.vcd_body.specs.declared.item.Regs.{Regs}
use Rattle.vcd_body.specs.declared.item.Section.{Section}
use Rattle.vcd_run.specs.Plan.{Plan}
use Rattle.vcd_run.specs.Task.{TakesOne}
use Rattle.vcd_strobe.proofs.ChangeSteps.{edges_as}
use Rattle.vcd_strobe.proofs.EdgeSteps.{edges_more, edges_still, open_still}
use Rattle.vcd_strobe.proofs.ItemSteps.{stands_other, stands_time}
use Rattle.vcd_strobe.proofs.Sampled.{time_still}
use Rattle.vcd_strobe.specs.Clocks.{AreClocks}
use Rattle.vcd_strobe.specs.Listed.{followed_at}
use Rattle.vcd_strobe.specs.declared.role.Role.{Role}
use Rattle.vcd_strobe.specs.Strobes.{AreDistinct, ChangesOnly, HasStrobed, SameEdges, Stands}
use Rattle.vcd_strobe.specs.declared.clocks.Clock.{Clock}
use Rattle.vcd_strobe.specs.declared.whole.Strobe.{Strobe}

-- ---- the codes of a view

pub view_distinct : (v : HeadView) (h : Header) → IsViewOf v h → AreDistinct h.codes
view_distinct v h views = λ i j a b one other same. same_place h.codes v.index.now i j a b views.index one other ((bytes_eq-Decides a.text b.text).0 same)

-- a code has some bit
pub some_bit : (cs : List IdCode) (i : ℕ) (a : IdCode) → AllByRecursion (λ (c : IdCode). IsSize c.size) cs → slice_get cs i ≡ Some a → 0 < a.size
some_bit [] i a all there = absurd (none-some a there)
some_bit (c ∷ cs) zero a all there = subst (λ (x : IdCode). 0 < x.size) (same_Some c a there) all.0.some
some_bit (c ∷ cs) (suc i) a all there = some_bit cs i a all.1 there

-- a change of one code gives no other anything
pub changes_only : (h : Header) → AreDistinct h.codes → (code : ℕ) (d : Change) → slice_get h.codes code ≡ Some d.code → ChangesOnly h code d.code d
changes_only h distinct code d declared = record {
  declared = declared;
  gives = itself;
  others = λ i c there apart. by_test i c there apart (same_code c d.code) refl;
}
  where
    itself : same_code d.code d.code ≡ true
    itself = (bytes_eq-Decides d.code.text d.code.text).1 refl

    by_test : (i : ℕ) (c : IdCode) → slice_get h.codes i ≡ Some c → i ≢ code → (b : Bool) → same_code c d.code ≡ b → b ≡ false
    by_test i c there apart true e = absurd (apart (distinct i code c d.code there declared e))
    by_test i c there apart false e = refl

-- the view says whether a code is an event
pub event_is : (h : Header) (code : ℕ) (a : IdCode) (b : Bool) {told : Bool}
    → told ≡ unwrap_or (option_map (λ (c : IdCode). c.event) (slice_get h.codes code)) false → slice_get h.codes code ≡ Some a → told ≡ b
    → a.event ≡ b
event_is h code a b told declared is = ap (λ (o : Option IdCode). unwrap_or (option_map (λ (c : IdCode). c.event) o) false) (sym declared) ∙ sym told ∙ is

-- the registers say whether a section is open
pub section_is : (items : List BodyItem) (r : Regs) (b : Bool) → AreRegsAfter items r → is_some r.section ≡ b → leaves_open items ≡ b
section_is items r b known e = by_test (is_some r.section) known.ended ∙ e
  where
    by_test : (b : Bool) → count_by is_begin items ≡ count_by is_end_of_section items + cond b 1 0 → leaves_open items ≡ b
    by_test true e = lt-ltb (count_by is_end_of_section items) (count_by is_begin items) (omega (arith, e))
    by_test false e = le-ltb (count_by is_end_of_section items) (count_by is_begin items) (omega (arith, e))

-- ---- items that are no turn

none_passes : {X : Type 0} (f : X → Bool) → ((x : X) → f x ≡ false) → (xs : List X) → list_any f xs ≡ false
none_passes f none [] = refl
none_passes f none (x ∷ xs) = rw (none x, none_passes f none xs) refl

-- a change of an event
pub event_turn : (codes : List IdCode) → AreDistinct codes → (code : ℕ) (d : Change) → slice_get codes code ≡ Some d.code → d.code.event ≡ true
    → (items : List BodyItem) (clocks : List Clock) (ks : List ModelClock) → AreClocks codes clocks ks → is_turn ks items (BodyItem.Changes d) ≡ false
event_turn codes distinct code d there event items [] [] are = refl
event_turn codes distinct code d there event items [] (k ∷ ks) are = absurd are
event_turn codes distinct code d there event items (c ∷ clocks) [] are = absurd are
event_turn codes distinct code d there event items (c ∷ clocks) (k ∷ ks) are = rw (one, event_turn codes distinct code d there event items clocks ks are.1) refl
  where
    differ : (b : Bool) → same_code k.code d.code ≡ b → b ≡ false
    differ true e =
        let place = distinct c.code code k.code d.code are.0.there there e in
        let same : k.code ≡ d.code = same_Some k.code d.code (sym are.0.there ∙ ap (slice_get codes) place ∙ there) in
        sym event ∙ ap (λ (y : IdCode). y.event) (sym same) ∙ are.0.event
    differ false e = refl

    one : is_turn_of k items (BodyItem.Changes d) ≡ false
    one = ap (λ b. b && has_digit k.place (digit_before k) (final_value items k.code) && has_digit k.place (digit_after k) (Some (value_of d))) (differ (same_code k.code d.code) refl)

-- a change of a code whose values are not kept
pub ignored_turn : (codes : List IdCode) → AreDistinct codes → (code : ℕ) (d : Change) → slice_get codes code ≡ Some d.code
    → (roles : List Role) → followed_at roles code ≡ false
    → (items : List BodyItem) (clocks : List Clock) (ks : List ModelClock) → AreClocks codes clocks ks
    → AllByRecursion (λ (k : Clock). followed_at roles k.code ≡ true) clocks → is_turn ks items (BodyItem.Changes d) ≡ false
ignored_turn codes distinct code d there roles ignored items [] [] are all = refl
ignored_turn codes distinct code d there roles ignored items [] (k ∷ ks) are all = absurd are
ignored_turn codes distinct code d there roles ignored items (c ∷ clocks) [] are all = absurd are
ignored_turn codes distinct code d there roles ignored items (c ∷ clocks) (k ∷ ks) are all =
    rw (one, ignored_turn codes distinct code d there roles ignored items clocks ks are.1 all.1) refl
  where
    differ : (b : Bool) → same_code k.code d.code ≡ b → b ≡ false
    differ true e =
        let place = distinct c.code code k.code d.code are.0.there there e in
        absurd (let no = sym all.0 ∙ ap (followed_at roles) place ∙ ignored in cc)
    differ false e = refl

    one : is_turn_of k items (BodyItem.Changes d) ≡ false
    one = ap (λ b. b && has_digit k.place (digit_before k) (final_value items k.code) && has_digit k.place (digit_after k) (Some (value_of d))) (differ (same_code k.code d.code) refl)

-- ---- an item that is no turn

module _ (s s' : Strobe) (p : Plan) (h : Header) (items : List BodyItem) (has : HasStrobed s p h items) (x : BodyItem) (turn : is_turn has.ks items x ≡ false) where
  abbrev after : List BodyItem
  after = items ++ x ∷ []

  edge : is_edge has.ks items x ≡ false
  edge = rw turn refl

  opens_still : p.opens after ≡ p.opens items
  opens_still = ap (λ (q : Plan). q.opens after) has.by_plan ∙ open_still has.ks h has.names items x edge ∙ ap (λ (q : Plan). q.opens items) (sym has.by_plan)

  -- nothing is due
  pub due_none : (out : Device) → DueBy (Appends out.held out.held) (p.opens items) (p.opens after)
  due_none out = ([], opens_still ∙ sym (append-nil (p.opens items)), appends-none out.held)

  -- the edges stay
  pub strobed_still : s'.clocks ≡ s.clocks → SameEdges s s' → Stands s' h has.names (edges_in has.ks items) after → HasStrobed s' p h after
  strobed_still clocks same stands = record {
    names = has.names;
    ks = has.ks;
    by_plan = has.by_plan;
    clocks = subst (λ (b : _). AreClocks h.codes b.now has.ks) (sym clocks) has.clocks;
    edges = edges_as has.ks after _ _ _ _ same.edges same.last (edges_still has.ks items x s.edges s.last has.edges turn);
    stands = subst (λ es. Stands s' h has.names es after) (sym (edges_more has.ks items x false edge ∙ append-nil (edges_in has.ks items))) stands;
  }

-- ---- as a task

-- no item ends the run
strobe_goes : (s : Strobe) (p : Plan) (h : Header) (items : List BodyItem) → HasStrobed s p h items → (more : List BodyItem) → p.ends more ≡ false
strobe_goes s p h items has more = ap (λ (q : Plan). q.ends more) has.by_plan

pub takes_on : {E : Type 0} {T : List BodyItem → List ℕ → Type 0} (s : Strobe) (p : Plan) (h : Header) (items : List BodyItem) (x : BodyItem) (out out' : Device)
    → DueBy (Appends out.held out'.held) (p.opens items) (p.opens (items ++ x ∷ [])) → HasStrobed s p h (items ++ x ∷ [])
    → TakesOne {E = E} (HasStrobed s p h) T p items x out out' (Ok false)
takes_on s p h items x out out' due has = record { due = due; ends = sym (strobe_goes s p h (items ++ x ∷ []) has (items ++ x ∷ [])); keeps_on = λ e. has; tells_all = λ e. absurd (cc) }

pub takes_failed : {E : Type 0} {T : List BodyItem → List ℕ → Type 0} (s : Strobe) (p : Plan) (h : Header) (items : List BodyItem) (x : BodyItem) (out out' : Device) (failed : E)
    → DueBy (AppendsSome out.held out'.held) (p.opens items) (p.opens (items ++ x ∷ []))
    → TakesOne {E = E} (HasStrobed s p h) T p items x out out' (Err failed)
takes_failed s p h items x out out' failed due = record { due = due; ends = tt; keeps_on = λ e. absurd (cc); tells_all = λ e. absurd (cc) }

-- an item that is no change
pub takes_rest : {E : Type 0} {T : List BodyItem → List ℕ → Type 0} (s : Strobe) (p : Plan) (h : Header) (items : List BodyItem) (has : HasStrobed s p h items) (text : List ℕ)
    (x : BodyItem) (one : Item) (before r : Regs) (out : Device) → AreRegsAfter (items ++ x ∷ []) r → r ≡ regs_after before one
    → IsItem h.codes text one x
    → ((t : ℕ) × (one ≡ item.Time t)) ⊎ (((b : Section) × (one ≡ item.Begin b)) ⊎ ((one ≡ item.End) ⊎ (one ≡ item.Finish)))
    → TakesOne {E = E} (HasStrobed s p h) T p items x out out (Ok false)
takes_rest {E = E} {T = T} s p h items has text x one before r out known next read is = by_item is
  where
    same : SameEdges s s
    same = record { edges = refl; last = refl }

    Takes : BodyItem → Type 0
    Takes y = TakesOne {E = E} (HasStrobed s p h) T p items y out out (Ok false)

    read_as : (other : Item) → one ≡ other → IsItem h.codes text other x
    read_as other e = subst (λ (i : Item). IsItem h.codes text i x) e read

    quiet : (y : BodyItem) → is_turn has.ks items y ≡ false → Stands s h has.names (edges_in has.ks items) (items ++ y ∷ []) → Takes y
    quiet y turn stands = takes_on s p h items y out out (due_none s s p h items has y turn out) (strobed_still s s p h items has y turn refl same stands)

    time : (t : ℕ) → one ≡ item.Time t → x ≡ BodyItem.Time t → Takes (BodyItem.Time t)
    time t e is =
        let now : r.time ≡ t = ap (λ (q : Regs). q.time) (next ∙ ap (regs_after before) e) in
        let known_as = subst (λ y. AreRegsAfter (items ++ y ∷ []) r) is known in
        let last = known_as.time_is in
        let up = time_after-append items (BodyItem.Time t ∷ []) in
        quiet (BodyItem.Time t) (none_passes (λ k. is_turn_of k items (BodyItem.Time t)) (λ k. refl) has.ks)
        (stands_time s h has.names (edges_in has.ks items) items has.stands t (omega (arith, now, last, up)))

    other : (y : BodyItem) → time_after (items ++ y ∷ []) ≡ time_after items → ((k : ModelClock) → is_turn_of k items y ≡ false) → ((c : IdCode) → gives_to c y ≡ false) → Takes y
    other y still turn none = quiet y (none_passes (λ k. is_turn_of k items y) turn has.ks) (stands_other s h has.names (edges_in has.ks items) items has.stands y still none)

    by_item : ((t : ℕ) × (one ≡ item.Time t)) ⊎ (((b : Section) × (one ≡ item.Begin b)) ⊎ ((one ≡ item.End) ⊎ (one ≡ item.Finish))) → Takes x
    by_item (inl t) = let e = read_as (item.Time t.0) t.1 in subst Takes (sym e) (time t.0 t.1 e)
    by_item (inr (inl b)) = rw (read_as (item.Begin b.0) b.1) (other _ (time_still items _ refl) (λ k. refl) (λ c. refl))
    by_item (inr (inr (inl e))) = rw (read_as item.End e) (other BodyItem.End (time_still items BodyItem.End refl) (λ k. refl) (λ c. refl))
    by_item (inr (inr (inr e))) = absurd (read_as item.Finish e)
