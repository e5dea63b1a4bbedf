-- The begin of a run, and what is known of timestamps after one item more.
use Rattle.vcd_engine.proofs.Cited.{◌≡◌, ℕ, ◌||◌, Bool, true, false, List, [], ◌∷◌, ◌++◌, None, refl, sym, ap, ◌∙◌, append-nil, last_or, list_any, filter_map-append, IdCode, Header, BodyItem, marks, time_mark, last_mark, Request, names_of, writes-none, regs_after, model_section, Item, Time, Begin, End, Change, Finish, Regs, Device, StopsAtStart, last_time_of, IsItem, IsFirstUnmatched, Stop, Dump, Read, Write, Unmatched, last_or-snoc}

-- ---- the begin

-- a name that selects nothing stops a run before anything is written
pub stops_unmatched : (t : Request) (h : Header) (out : Device) (stop : Stop) → IsFirstUnmatched (names_of t) h stop → StopsAtStart t h out out stop
stops_unmatched t h out (Unmatched place) is = (is, writes-none out)
stops_unmatched t h out Write is = absurd is
stops_unmatched t h out (Dump input line fault) is = absurd is
stops_unmatched t h out (Read input) is = absurd is

-- ---- lists that grow

pub marks_push : (items : List BodyItem) (x : BodyItem) → marks (items ++ x ∷ []) ≡ marks items ++ marks (x ∷ [])
marks_push items x = filter_map-append time_mark items (x ∷ [])

-- an item that is no timestamp
pub marks_stay : (items : List BodyItem) (x : BodyItem) → marks (x ∷ []) ≡ [] → marks (items ++ x ∷ []) ≡ marks items
marks_stay items x e = marks_push items x ∙ ap (λ l. marks items ++ l) e ∙ append-nil (marks items)

-- one item more that does not end the run
pub none_at : (test : BodyItem → Bool) (p : List BodyItem) (x : BodyItem) → list_any test p ≡ false → test x ≡ false → list_any test (p ++ x ∷ []) ≡ false
none_at test [] x h e = rw e refl
none_at test (y ∷ p) x h e = both_false (test y) (list_any test p) (list_any test (p ++ x ∷ [])) h (λ k. none_at test p x k e)
  where
    both_false : (b c d : Bool) → (b || c) ≡ false → (c ≡ false → d ≡ false) → (b || d) ≡ false
    both_false true c d h k = cc
    both_false false c d h k = k h

-- ---- the last timestamp

-- after one item more
pub last_more : (codes : List IdCode) (text : List ℕ) (items : List BodyItem) (r : Regs) (item : Item) (x : BodyItem) → IsItem codes text item x
    → last_time_of r ≡ last_mark items → last_time_of (regs_after r item) ≡ last_mark (items ++ x ∷ [])
last_more codes text items r (Time t) x is last = rw is (sym (ap (last_or None) (marks_push items (BodyItem.Time t)) ∙ last_or-snoc None (marks items) t))
last_more codes text items r (Begin s) x is last = rw is (last ∙ sym (ap (last_or None) (marks_stay items (BodyItem.Begin (model_section s)) refl)))
last_more codes text items r End x is last = rw is (last ∙ sym (ap (last_or None) (marks_stay items BodyItem.End refl)))
last_more codes text items r (Change code form) x is last = rw is.2 (last ∙ sym (ap (last_or None) (marks_stay items (BodyItem.Changes _) refl)))
last_more codes text items r Finish x is last = absurd is
