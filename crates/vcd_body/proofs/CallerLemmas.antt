-- What callers use: nothing was given yet, and what was given comes first in the body.
use Rattle.vcd_body.proofs.Cited.{ℕ, List, [], ◌++◌, refl, sym, subst, append-nil, arith, Input, Token, IdCode, BodyItem, BodyPhrase, body_grammar, Placed, IsSoFar, so_far-nothing, HasGiven, token_of, Ghosts, Feed, Regs, AreRegsAfter, GaveItem, GaveItems, GaveAhead, GaveLast}
use Rattle.vcd_body.proofs.AskedLemmas.{not_nil}

-- nothing was given after the header
pub gave_nothing : {X : Type 0} {g : Ghosts X} (codes : List IdCode) (i : Input) (front : List Token) (f : Feed X g) (r : Regs) → HasGiven i front f
    → AreRegsAfter [] r → GaveItems codes i front [] f r
gave_nothing codes i front f r s k = record {
  given = [];
  placed = [];
  stands = subst (λ (l : List Token). HasGiven i l f) (sym (append-nil front)) s;
  so_far = so_far-nothing (body_grammar codes);
  items_are = refl;
  known = k;
}

-- ---- ahead of the feed

-- nothing was taken ahead
pub gave_none_ahead : (codes : List IdCode) (limit lines : ℕ) (bytes : List ℕ) (before : List BodyItem) → GaveAhead codes limit lines bytes 0 before []
gave_none_ahead codes limit lines bytes before = record {
  tokens = [];
  passed = refl;
  placed = [];
  items_are = refl;
  so_far = λ given earlier e s.
      subst (λ (l : List (Placed BodyPhrase)). IsSoFar (body_grammar codes) (given ++ []) l []) (sym (append-nil earlier))
      (subst (λ (l : List Token). IsSoFar (body_grammar codes) l earlier []) (sym (append-nil given)) s);
  last = λ front x e. not_nil front x (sym e);
  few = omega arith;
}

-- an item that was given is the last one
pub last_given : {X : Type 0} {g : Ghosts X} (codes : List IdCode) (i : Input) (front : List Token) (items : List BodyItem) (x : BodyItem)
    (f : Feed X g) (r : Regs) → GaveItem codes i front items x f r → GaveLast codes i front items x f r
last_given codes i front items x f r m = record {
  gave = m.gave;
  first = m.gave.given;
  rest = [];
  given_are = sym (append-nil m.gave.given);
  before = m.before;
  before_are = m.before_are;
  line = (token_of f).line;
  so_far = subst (λ (ps : List (Placed BodyPhrase)). IsSoFar (body_grammar codes) m.gave.given ps []) m.last m.gave.so_far;
  near = m.near;
}
