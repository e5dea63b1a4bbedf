-- The dump that an input is in a merge: its items up to its first timestamp that is too large, or
-- up to its own fault.
use Rattle.vcd_merge.proofs.Cited.{◌≡◌, ℕ, true, false, List, [], ◌∷◌, ◌++◌, Option, Some, sym, ap, subst, ◌∙◌, append_assoc, AllByRecursion, Input, Token, stream_of, Header, BodyItem, BodyPhrase, read_body, body_fault_of, is_too_large, Fault, Placed, phrases_begin, dump_marked, dump_whole, limit_of, token_of, Ghosts, Feed, BodyHas, GaveItem, Regs, HasDump}
use Rattle.vcd_model.specs.BodyPhrases.BodyPhrase.{Gives}

module _ (scale limit : ℕ) (h : Header) (front : List Token) (i : Input) (items : List BodyItem) (small : AllByRecursion (λ x. is_too_large scale x ≡ false) items) where
  -- the body has these items, and this fault or none
  pub has_dump : (fault : Option Fault) → BodyHas h.codes i front limit items fault → HasDump scale limit h front i items fault
  has_dump fault b =
      let r = read_body h.codes b.rest in
      let own = body_fault_of (stream_of limit i) r in
      record {
        rest = b.rest;
        tokens = b.tokens;
        is = dump_whole scale h own r (subst (AllByRecursion (λ x. is_too_large scale x ≡ false)) (sym b.items_are) small)
            ∙ ap (λ (l : List BodyItem). record { header = h; items = l; fault = own }) b.items_are
            ∙ ap (λ (f : Option Fault). record { header = h; items = items; fault = f }) b.fault_is;
      }

  -- a timestamp that was given, and that is too large
  pub marked_dump : {X : Type 0} {g : Ghosts X} (f : Feed X g) (time : ℕ) (r : Regs) → limit_of f ≡ limit
      → is_too_large scale (BodyItem.Time time) ≡ true → GaveItem h.codes i front items (BodyItem.Time time) f r
      → HasDump scale limit h front i items (Some (record { number = 20; line = (token_of f).line }))
  marked_dump f time r same large m =
      let first = m.gave.stands.given_first in
      let rest = m.gave.given ++ first.0 in
      let b = phrases_begin h.codes m.gave.given first.0 m.gave.placed m.gave.so_far in
      let p : Placed BodyPhrase = record { phrase = Gives (BodyItem.Time time); line = (token_of f).line } in
      let own = body_fault_of (stream_of limit i) (read_body h.codes rest) in
      let are = b.1 ∙ ap (λ l. l ++ b.0) m.last ∙ append_assoc m.before (p ∷ []) b.0 in
      record {
        rest = rest;
        tokens = ap (λ n. (stream_of n i).tokens) (sym same) ∙ first.1 ∙ append_assoc front m.gave.given first.0;
        is = dump_marked scale h own (read_body h.codes rest) m.before b.0 p are (subst (AllByRecursion (λ x. is_too_large scale x ≡ false)) (sym m.before_are) small) large
            ∙ ap (λ (l : List BodyItem). record { header = h; items = l; fault = Some (record { number = 20; line = (token_of f).line }) }) m.before_are;
      }
