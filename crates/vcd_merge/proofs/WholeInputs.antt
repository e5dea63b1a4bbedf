-- An input of a merge as a whole: after the items so far come others, or it has ended.
use Rattle.vcd_merge.proofs.Cited.{◌≡◌, ℕ, true, false, List, [], ◌++◌, length, Option, None, sym, ap, subst, ◌∙◌, append_assoc, append-nil, find, AllByRecursion, before_first, stream_of, BodyItem, items_of, read_body, body_fault_of, is_too_large, placed_is_too_large, Fault, phrases_of, phrases_begin, dump_begins, mark_or, AtSeat, HasDump, Lane, Spot}

-- what an input is as a whole, that has given these items
pub record Goes (scale limit : ℕ) (l : Lane) (items : List BodyItem) : Type 0 where
  pub more : List BodyItem
  pub fault : Option Fault
  pub has : HasDump scale limit l.header l.front l.input (items ++ more) fault

module _ (scale first limit : ℕ) (l : Lane) (items : List BodyItem) (s : Spot) (a : AtSeat scale first l items s) (len : length s.token ≡ limit) where
  -- whatever comes, it begins with them
  pub goes_on : Goes scale limit l items
  goes_on =
      let begun = a.gave.stands.given_first in
      let rest = a.gave.given ++ begun.0 in
      let b = phrases_begin l.header.codes a.gave.given begun.0 a.gave.placed a.gave.so_far in
      let r = read_body l.header.codes rest in
      let own = body_fault_of (stream_of limit l.input) r in
      let later = items_of (phrases_of (before_first (placed_is_too_large scale) b.0)) in
      let fault = mark_or own (find (placed_is_too_large scale) b.0) in
      record {
        more = later;
        fault = fault;
        has = record {
          rest = rest;
          tokens = ap (λ n. (stream_of n l.input).tokens) (sym len) ∙ begun.1 ∙ append_assoc l.front a.gave.given begun.0;
          is = dump_begins scale l.header own r a.gave.placed b.0 b.1 (subst (AllByRecursion (λ x. is_too_large scale x ≡ false)) (sym a.gave.items_are) a.small)
              ∙ ap (λ (i : List BodyItem). record { header = l.header; items = i ++ later; fault = fault }) a.gave.items_are;
        };
      }

  -- where it has finished, they are all, and it has no fault
  pub finished : s.seat.finished ≡ true → HasDump scale limit l.header l.front l.input (items ++ []) None
  finished e = subst (λ (n : ℕ). HasDump scale n l.header l.front l.input (items ++ []) None) len
      (subst (λ (i : List BodyItem). HasDump scale (length s.token) l.header l.front l.input i None) (sym (append-nil items)) (a.finished e))
