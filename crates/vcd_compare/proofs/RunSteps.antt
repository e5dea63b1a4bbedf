-- What a run does as a task: with a timestamp, with any other item, and at the end of a body.
use Rattle.vcd_compare.proofs.Cited.{◌≡◌, ◌⊎◌, inl, inr, ℕ, ◌≤◌, max, Bool, false, not, List, [], ◌∷◌, ◌++◌, Result, Ok, Err, refl, sym, ap, subst, ◌∙◌, append-nil, arith, is_empty, body_items, read_body, Header, Input, gives_to, IdCode, BodyItem, marks, time_after, Token, ends_run, within_close, within_open, appends-none, Device, Takes, HasGiven, limit_of, Ghosts, WriteFailed, Feed, IfOk, IsItem, Item, AreRegsAfter, regs_after, Regs, BodyBegins, Plan, TakesOne, model_asked, Compares, HasHandled, RunStands, TellsEnd, Tells, plan_within, settled_by, Run}
use Rattle.vcd_body.specs.declared.item.Item.TheVariants as item
use Rattle.vcd_body.specs.declared.item.Section.{Section}
use Rattle.vcd_compare.specs.declared.asked.Asked.{Asked}
use Rattle.vcd_compare.specs.Lines.{lines_due}
use Rattle.vcd_compare.proofs.CompareSteps.{compares_still, open_same, section_quiet, time_more}
use Rattle.vcd_compare.proofs.RunEnds.{not_ended, open_settled}
use Rattle.vcd_compare.proofs.TimeSteps.{left_due}
use Rattle.vcd_model.specs.Compare.{Asked as ModelAsked}

-- a timestamp is not before those that were given
pub time_forth : (items : List BodyItem) (t : ℕ) (r r' : Regs) → r' ≡ regs_after r (item.Time t) → AreRegsAfter (items ++ BodyItem.Time t ∷ []) r' → time_after items ≤ t
time_forth items t r r' e known =
    let is : r'.time ≡ t = ap (λ (x : Regs). x.time) e in
    let grown : r'.time ≡ max (time_after items) t = known.time_is ∙ time_more items t in
    omega arith

-- no item was given yet
pub begins_none : {X : Type 0} {g : Ghosts X} (h : Header) (i : Input) (front : List Token) (f : Feed X g) → HasGiven i front f → BodyBegins h i front (limit_of f) []
begins_none h i front f given = record {
  rest = given.given_first.0;
  tokens = given.given_first.1;
  begins = (body_items (read_body h.codes given.given_first.0), refl);
}

module _ (run run' : Run) (p : Plan) (h : Header) (items : List BodyItem) (has : HasHandled run p h items) where
  abbrev own : ModelAsked
  own = model_asked run.comparison.current.asked has.exceptions

  module _ (same : run'.comparison.current.asked ≡ run.comparison.current.asked) where
    goes : (more : List BodyItem) → RunStands h has.exceptions has.ns more run' → HasHandled run' p h more
    goes more stands = record {
      exceptions = has.exceptions;
      ns = has.ns;
      by_plan = has.by_plan ∙ ap (λ (a : Asked). plan_within (model_asked a has.exceptions) h has.ns) (sym same);
      stands = stands;
    }

    -- a timestamp
    module _ (x : BodyItem) (t : ℕ) (is : x ≡ BodyItem.Time t) (forth : time_after items ≤ t) (last : run'.last ≡ t) (out out' : Device) where
      abbrev after : List BodyItem
      after = items ++ BodyItem.Time t ∷ []

      opens : p.opens after ≡ p.opens items ++ settled_by own h has.ns items t
      opens =
          ap (λ (q : Plan). q.opens after) has.by_plan
          ∙ open_settled own h has.ns items t has.stands.compares.up forth
          ∙ ap (λ (q : Plan). q.opens items ++ settled_by own h has.ns items t) (sym has.by_plan)

      now : t ≡ time_after after
      now = let grown = time_more items t in omega arith

      pub takes_time : (result : Result Bool WriteFailed) → Takes out out' (settled_by own h has.ns items t) result × IfOk result (TellsEnd own h has.exceptions has.ns after run')
          → TakesOne (HasHandled run' p h) (Tells run'.differs run'.last) p items x out out' result
      takes_time (Ok ended) takes = rw is (record {
        due = (settled_by own h has.ns items t, opens, takes.0);
        ends = takes.1.ended ∙ ap (λ (q : Plan). q.ends after) (sym has.by_plan);
        keeps_on = λ e. let on : ended ≡ false = cc in goes after (takes.1.stands on);
        tells_all = λ e. (takes.1.differs ∙ ap (λ (q : Plan). not (is_empty (q.opens after))) (sym has.by_plan), last ∙ now);
      })
      takes_time (Err e) takes = rw is (record { due = (settled_by own h has.ns items t, opens, takes.0); ends = tt; keeps_on = λ e. absurd (cc); tells_all = λ e. absurd (cc) })

    -- an item with which nothing is due
    pub takes_quiet : (x : BodyItem) (out : Device) → Compares h has.exceptions has.ns (items ++ x ∷ []) run'.comparison run'.watched
        → within_open own h has.ns (items ++ x ∷ []) ≡ within_open own h has.ns items → run'.differs ≡ run.differs
        → TakesOne {E = WriteFailed} (HasHandled run' p h) (Tells run'.differs run'.last) p items x out out (Ok false)
    takes_quiet x out compares same_open differs =
        let on = not_ended h has.exceptions has.ns (items ++ x ∷ []) run'.comparison run'.watched compares in
        record {
          due = (
            [],
            ap (λ (q : Plan). q.opens (items ++ x ∷ [])) has.by_plan ∙ same_open ∙ ap (λ (q : Plan). q.opens items) (sym has.by_plan)
                ∙ sym (append-nil (p.opens items)),
            appends-none out.held,
          );
          ends = sym (ap (λ (q : Plan). q.ends (items ++ x ∷ [])) has.by_plan ∙ subst (λ (a : Asked). ends_run (model_asked a has.exceptions) h has.ns (items ++ x ∷ []) ≡ false) same on);
          keeps_on = λ e.
              goes (items ++ x ∷ []) (record {
                compares = compares;
                differs = differs ∙ has.stands.differs ∙ ap (λ l. not (is_empty l)) (sym same_open)
                    ∙ ap (λ (a : Asked). not (is_empty (within_open (model_asked a has.exceptions) h has.ns (items ++ x ∷ [])))) (sym same);
              });
          tells_all = λ e. absurd (cc);
        }

  -- the end of the body
  module _ (r : Regs) (known : AreRegsAfter items r) (last : run'.last ≡ r.time) (out out' : Device) where
    pub closes : (result : Result (Unit {0}) WriteFailed) → Takes out out' (lines_due own h has.ns items) result
        → IfOk result (λ _. run'.differs ≡ not (is_empty (within_open own h has.ns items ++ within_close own h has.ns items)))
        → Takes out out' (p.closes items) result × IfOk result (λ _. Tells run'.differs run'.last items (p.opens items ++ p.closes items))
    closes result puts differs =
        subst (λ (q : Plan). Takes out out' (q.closes items) result × IfOk result (λ _. Tells run'.differs run'.last items (q.opens items ++ q.closes items))) (sym has.by_plan)
        (rw (left_due h has.exceptions has.ns items run has.stands) puts, by_result result differs)
      where
        by_result : (a : Result (Unit {0}) WriteFailed) → IfOk a (λ _. run'.differs ≡ not
            (is_empty (within_open own h has.ns items ++ within_close own h has.ns items)))
            → IfOk a (λ _. Tells run'.differs run'.last items (within_open own h has.ns items ++ within_close own h has.ns items))
        by_result (Ok v) is = (is, last ∙ known.time_is)
        by_result (Err e) none = tt

-- the begin or the end of a section
pub takes_section : (run : Run) (p : Plan) (h : Header) (items : List BodyItem) (has : HasHandled run p h items) (text : List ℕ) (x : BodyItem)
    (one : Item) (out : Device) → ((s : Section) × (one ≡ item.Begin s)) ⊎ ((one ≡ item.End) ⊎ (one ≡ item.Finish)) → IsItem h.codes text one x
    → TakesOne {E = WriteFailed} (HasHandled run p h) (Tells run.differs run.last) p items x out out (Ok false)
takes_section run p h items has text x one out is read =
    takes_quiet run run p h items has refl x out
    (compares_still h has.exceptions has.ns items x run.comparison run.watched has.stands.compares quiet.0 quiet.1)
    (open_same h has.exceptions has.ns items x run.comparison run.watched has.stands.compares quiet.0) refl
  where
    read_as : (other : Item) → one ≡ other → IsItem h.codes text other x
    read_as other e = subst (λ (i : Item). IsItem h.codes text i x) e read

    by_item : ((s : Section) × (one ≡ item.Begin s)) ⊎ ((one ≡ item.End) ⊎ (one ≡ item.Finish)) → (marks (x ∷ []) ≡ []) × ((d : IdCode) → gives_to d x ≡ false)
    by_item (inl b) = section_quiet h.codes text (item.Begin b.0) x tt (read_as (item.Begin b.0) b.1)
    by_item (inr (inl e)) = section_quiet h.codes text item.End x tt (read_as item.End e)
    by_item (inr (inr e)) = absurd (read_as item.Finish e)

    quiet : (marks (x ∷ []) ≡ []) × ((d : IdCode) → gives_to d x ≡ false)
    quiet = by_item is
