-- The dump that an input is in a merge, by the first phrases of its body: all their items if
-- these are small.
use Rattle.vcd_model.proofs.Cited.{◌≡◌, ℕ, Bool, true, false, List, [], ◌∷◌, ◌++◌, Option, Some, None, refl, sym, ap, ◌∙◌, one-add, find, AllByRecursion, before_first, map-append, filter_map-append, Header, BodyItem, BodyPhrase, items_of, Comment, Gives, body_items, is_too_large, placed_is_too_large, Fault, Placed, Reading, phrases_of}
use Rattle.std.proofs.Common.{append-nil}
use Rattle.vcd_model.specs.Merge.{dump_of}

pub before_past : {X : Type 0} (test : X → Bool) (xs more : List X) → AllByRecursion (λ x. test x ≡ false) xs → before_first test (xs ++ more) ≡ xs ++ before_first test more
before_past test [] more h = refl
before_past test (x ∷ xs) more h = rw (h.0, one-add) (ap (λ l. x ∷ l) (before_past test xs more h.1))

pub find_past : {X : Type 0} (test : X → Bool) (xs more : List X) → AllByRecursion (λ x. test x ≡ false) xs → find test (xs ++ more) ≡ find test more
find_past test [] more h = refl
find_past test (x ∷ xs) more h = rw h.0 (find_past test xs more h.1)

before_none : {X : Type 0} (test : X → Bool) (x : X) (xs : List X) → test x ≡ true → before_first test (x ∷ xs) ≡ []
before_none test x xs h = rw h refl

find_first : {X : Type 0} (test : X → Bool) (x : X) (xs : List X) → test x ≡ true → find test (x ∷ xs) ≡ Some x
find_first test x xs h = rw h refl

-- phrases whose items are small
placed_small : (scale : ℕ) (ps : List (Placed BodyPhrase)) → AllByRecursion (λ x. is_too_large scale x ≡ false) (items_of (phrases_of ps))
    → AllByRecursion (λ p. placed_is_too_large scale p ≡ false) ps
placed_small scale [] h = tt
placed_small scale (p ∷ ps) h = by_phrase p.phrase p.line h (placed_small scale ps)
  where
    by_phrase : (q : BodyPhrase) (line : ℕ) → AllByRecursion (λ x. is_too_large scale x ≡ false) (items_of (q ∷ phrases_of ps))
        → (AllByRecursion (λ x. is_too_large scale x ≡ false) (items_of (phrases_of ps))
        → AllByRecursion (λ r. placed_is_too_large scale r ≡ false) ps)
        → AllByRecursion (λ r. placed_is_too_large scale r ≡ false) (record { phrase = q; line = line } ∷ ps)
    by_phrase (Comment inner) line h more = (refl, more h)
    by_phrase (Gives x) line h more = (h.0, more h.1)

pub items_append : (a b : List (Placed BodyPhrase)) → items_of (phrases_of (a ++ b)) ≡ items_of (phrases_of a) ++ items_of (phrases_of b)
items_append a b = rw (map-append, filter_map-append) refl

-- the fault of a timestamp that is too large, if there is one
abbrev pub mark_or : Option Fault → Option (Placed BodyPhrase) → Option Fault
mark_or own o = elim o [ Some p ↦ Some (record { number = 20; line = p.line }) | None ↦ own ]

-- a reading that begins with phrases whose items are small: the dump begins with these items
pub dump_begins : (scale : ℕ) (h : Header) (own : Option Fault) (r : Reading BodyPhrase) (ps more : List (Placed BodyPhrase)) → r.placed ≡ ps ++ more
    → AllByRecursion (λ x. is_too_large scale x ≡ false) (items_of (phrases_of ps))
    → dump_of scale h own r ≡ record {
      header = h;
      items = items_of (phrases_of ps) ++ items_of
          (phrases_of (before_first (placed_is_too_large scale) more));
      fault = mark_or own (find (placed_is_too_large scale) more);
    }
unfolding dump_of
dump_begins scale h own r ps more e small =
    let t = placed_is_too_large scale in
    let s = placed_small scale ps small in
    ap (λ (l : List (Placed BodyPhrase)). record { header = h; items = items_of (phrases_of (before_first t l)); fault = mark_or own (find t l) }) e
    ∙ ap (λ (l : List (Placed BodyPhrase)). record { header = h; items = items_of (phrases_of l); fault = mark_or own (find t (ps ++ more)) }) (before_past t ps more s)
    ∙ ap (λ (o : Option (Placed BodyPhrase)). record { header = h; items = items_of (phrases_of (ps ++ before_first t more)); fault = mark_or own o }) (find_past t ps more s)
    ∙ ap (λ (l : List BodyItem). record { header = h; items = l; fault = mark_or own (find t more) }) (items_append ps (before_first t more))

-- if all items are small, the dump has all of them and the body's own fault
pub dump_whole : (scale : ℕ) (h : Header) (own : Option Fault) (r : Reading BodyPhrase)
    → AllByRecursion (λ x. is_too_large scale x ≡ false) (body_items r)
    → dump_of scale h own r ≡ record { header = h; items = body_items r; fault = own }
dump_whole scale h own r small = dump_begins scale h own r r.placed [] (sym (append-nil r.placed)) small ∙ ap (λ l. record { header = h; items = l; fault = own }) (append-nil (body_items r))

-- if a timestamp that is too large follows, it ends the dump
pub dump_marked : (scale : ℕ) (h : Header) (own : Option Fault) (r : Reading BodyPhrase) (ps more : List (Placed BodyPhrase)) (p : Placed BodyPhrase)
    → r.placed ≡ ps ++ p ∷ more → AllByRecursion (λ x. is_too_large scale x ≡ false) (items_of (phrases_of ps))
    → placed_is_too_large scale p ≡ true → dump_of scale h own r ≡ record { header = h; items = items_of (phrases_of ps); fault = Some (record { number = 20; line = p.line }) }
dump_marked scale h own r ps more p e small large =
    let t = placed_is_too_large scale in
    dump_begins scale h own r ps (p ∷ more) e small
    ∙ ap (λ (l : List (Placed BodyPhrase)). record {
      header = h;
      items = items_of (phrases_of ps) ++ items_of (phrases_of l);
      fault = mark_or own
          (find t (p ∷ more));
    }) (before_none t p more large)
    ∙ ap (λ (o : Option (Placed BodyPhrase)). record { header = h; items = items_of (phrases_of ps) ++ []; fault = mark_or own o }) (find_first t p more large)
    ∙ ap (λ (l : List BodyItem). record { header = h; items = l; fault = Some (record { number = 20; line = p.line }) }) (append-nil (items_of (phrases_of ps)))
