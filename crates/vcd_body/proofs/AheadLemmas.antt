-- One item more that lies ahead.
use Rattle.vcd_body.proofs.Cited.{◌≡◌, ◌≢◌, ℕ, ◌<◌, ◌≤◌, List, [], ◌∷◌, ◌++◌, map, take, drop, Option, None, Some, IfSome, refl, sym, ap, subst, ◌∙◌, append-nil, arith, slice_get, map-append, filter_map-append, Input, Token, IdCode, BodyItem, ChangeForm, time_after, BodyPhrase, items_of, body_grammar, Placed, phrases_of, IsSoFar, so_far-token, so_far-phrase, Passed, line_ahead, HasGiven, HasReadTo, Ghosts, Feed, Found, Form, Item, Regs, AreRegsAfter, model_form, regs_after, GaveItems, Passes, IsItem, EndsAhead, GaveAhead, GaveLast, HasBits, PassBoth, ReadsOn, binary_digits, Bits}
use Rattle.std.proofs.Common.{length-append}
use Rattle.std.proofs.lemmas.List.{append_assoc}
use Rattle.vcd_model.specs.Items.{Change}
use Rattle.vcd_body.specs.declared.item.Form.TheVariants as form
use Rattle.vcd_body.specs.declared.item.Item.TheVariants as item
use Rattle.vcd_body.proofs.AskedLemmas.{ends_are}
use Rattle.vcd_body.proofs.ReadLemmas.{known_change, known_time}

-- a look ahead that was at one place passes one token more, which is on this line, and is at
-- place n
abbrev PassesOne : ℕ → ℕ → List ℕ → ℕ → ℕ → List ℕ → ℕ → Type 0
PassesOne limit lines bytes at n token line = (ts : List Token) → Passed limit lines bytes at ts → Passed limit lines bytes n (ts ++ record { bytes = token; line = line } ∷ [])

-- over the same bytes
pub passes_same : (limit limit' lines : ℕ) (bytes bytes' : List ℕ) (at n start : ℕ) (token : List ℕ) → limit' ≡ limit → bytes' ≡ bytes
    → PassesOne limit' lines bytes' at n token (line_ahead lines bytes' start) → PassesOne limit lines bytes at n token (line_ahead lines bytes start)
passes_same limit limit' lines bytes bytes' at n start token e f h = subst (λ k. PassesOne k lines bytes at n token (line_ahead lines bytes start)) e
    (subst (λ (b : List ℕ). PassesOne limit' lines b at n token (line_ahead lines b start)) f h)

-- some bytes have some tokens
some_tokens : (limit lines : ℕ) (bytes : List ℕ) (n : ℕ) (ts : List Token) → 0 < n → Passed limit lines bytes n ts → ts ≢ []
some_tokens limit lines bytes n [] less p e = absurd (omega arith)
some_tokens limit lines bytes n (t ∷ ts) less p e = cc

-- phrases that give one item each
items_each : (items : List BodyItem) → items_of (map BodyPhrase.Gives items) ≡ items
items_each [] = refl
items_each (x ∷ items) = ap (λ l. x ∷ l) (items_each items)

some_is : {A : Type 0} {x y : A} → Some x ≡ Some y → x ≡ y
some_is e = cc

-- what is so of a code that was found, if one was
pub found_all : (found : Option Found) {P : Found → Type 0} → ((f : Found) → found ≡ Some f → P f) → IfSome found P
found_all None h = tt
found_all (Some f) h = h f refl

-- one phrase more
items_push : (items : List BodyItem) (placed : List (Placed BodyPhrase)) (p : Placed BodyPhrase) → items_of (phrases_of placed) ≡ items
    → items_of (phrases_of (placed ++ p ∷ [])) ≡ items ++ items_of (p.phrase ∷ [])
items_push items placed p e = rw (map-append, filter_map-append) (ap (λ (l : List BodyItem). l ++ items_of (p.phrase ∷ [])) e)

module _ (codes : List IdCode) (limit lines : ℕ) (bytes : List ℕ) (before items : List BodyItem) where
  -- the items of the phrases before the feed and of those ahead
  pub items_so_far : (earlier placed : List (Placed BodyPhrase)) → items_of (phrases_of earlier) ≡ before → items_of (phrases_of placed) ≡ items
      → items_of (phrases_of (earlier ++ placed)) ≡ before ++ items
  items_so_far earlier placed e f = rw (map-append, filter_map-append) (ap (λ (l : List BodyItem). l ++ items_of (phrases_of placed)) e ∙ ap (λ (l : List BodyItem). before ++ l) f)

  -- the feed has passed them
  module _ {X : Type 0} {g : Ghosts X} (i : Input) (front : List Token) (n : ℕ) (old new : Feed X g) (first last : Regs)
      (h : GaveItems codes i front before old first) (a : GaveAhead codes limit lines bytes n before items)
      (stands : HasGiven i ((front ++ h.given) ++ a.tokens) new) (k : AreRegsAfter (before ++ items) last) where
    pub gave_passed : GaveItems codes i front (before ++ items) new last
    gave_passed = record {
      given = h.given ++ a.tokens;
      placed = h.placed ++ a.placed;
      stands = subst (λ (l : List Token). HasGiven i l new) (append_assoc front h.given a.tokens) stands;
      so_far = a.so_far h.given h.placed h.items_are h.so_far;
      items_are = items_so_far h.placed a.placed h.items_are a.items_are;
      known = k;
    }

  -- these tokens are one phrase more, after any phrases with the items so far
  abbrev pub GoesOn : List Token → Placed BodyPhrase → Type 0
  GoesOn ts p = (given : List Token) (earlier : List (Placed BodyPhrase)) → items_of (phrases_of earlier) ≡ before ++ items
      → IsSoFar (body_grammar codes) given earlier [] → IsSoFar (body_grammar codes) (given ++ ts) (earlier ++ p ∷ []) []

  read_on : (n : ℕ) (ts : List Token) (p : Placed BodyPhrase) (g : GaveAhead codes limit lines bytes n before items) → GoesOn ts p → ReadsOn codes before (g.tokens ++ ts) (g.placed ++ p ∷ [])
  read_on n ts p g on given earlier e s =
      subst (λ (l : List (Placed BodyPhrase)). IsSoFar (body_grammar codes) (given ++ (g.tokens ++ ts)) l []) (append_assoc earlier g.placed (p ∷ []))
      (subst (λ (l : List Token). IsSoFar (body_grammar codes) l (earlier ++ g.placed ++ p ∷ []) []) (append_assoc given g.tokens ts)
      (on (given ++ g.tokens) (earlier ++ g.placed) (items_so_far earlier g.placed e g.items_are) (g.so_far given earlier e s)))

  grown : (n n' : ℕ) (x : BodyItem) (ts : List Token) (line : ℕ) (g : GaveAhead codes limit lines bytes n before items) → n < n'
      → Passed limit lines bytes n' (g.tokens ++ ts) → GoesOn ts (record { phrase = BodyPhrase.Gives x; line = line })
      → GaveAhead codes limit lines bytes n' before (items ++ x ∷ [])
  grown n n' x ts line g less p on =
      let one : Placed BodyPhrase = record { phrase = BodyPhrase.Gives x; line = line } in
      let ended : EndsAhead codes limit lines bytes before items x (g.tokens ++ ts) = record {
        end = n';
        some = omega (arith, less);
        first = g.tokens ++ ts;
        rest = [];
        tokens_are = sym (append-nil (g.tokens ++ ts));
        passed = p;
        placed = g.placed;
        items_are = g.items_are;
        line = line;
        so_far = read_on n ts one g on;
      } in
      record {
        tokens = g.tokens ++ ts;
        passed = p;
        placed = g.placed ++ one ∷ [];
        items_are = items_push items g.placed one g.items_are;
        so_far = read_on n ts one g on;
        last = λ front y e.
            let same = ends_are items front x y e in
            subst (λ (l : List BodyItem). EndsAhead codes limit lines bytes before l y (g.tokens ++ ts)) same.0
            (subst (λ (z : BodyItem). EndsAhead codes limit lines bytes before items z (g.tokens ++ ts)) same.1 ended);
        few = let f = g.few in omega (arith, length-append items (x ∷ []));
      }

  -- a phrase that gives no item
  pub passed_over : (n n' : ℕ) (ts : List Token) (p : Placed BodyPhrase) (g : GaveAhead codes limit lines bytes n before items) → n ≤ n'
      → Passed limit lines bytes n' (g.tokens ++ ts) → items_of (p.phrase ∷ []) ≡ [] → GoesOn ts p → GaveAhead codes limit lines bytes n' before items
  passed_over n n' ts p g le passed none on = record {
    tokens = g.tokens ++ ts;
    passed = passed;
    placed = g.placed ++ p ∷ [];
    items_are = items_push items g.placed p g.items_are ∙ ap (λ (l : List BodyItem). items ++ l) none ∙ append-nil items;
    so_far = read_on n ts p g on;
    last = λ front x e.
        let l = g.last front x e in record {
          end = l.end;
          some = l.some;
          first = l.first;
          rest = l.rest ++ ts;
          tokens_are = ap (λ (us : List Token). us ++ ts) l.tokens_are ∙ append_assoc l.first l.rest ts;
          passed = l.passed;
          placed = l.placed;
          items_are = l.items_are;
          line = l.line;
          so_far = l.so_far;
        };
    few = let f = g.few in omega (arith, le);
  }

  one_on : (t : Token) (x : BodyItem) → ((earlier : List BodyPhrase) → items_of earlier ≡ before ++ items → Passes codes earlier t.bytes x)
      → GoesOn (t ∷ []) (record { phrase = BodyPhrase.Gives x; line = t.line })
  one_on t x h given earlier e s = let p = h (phrases_of earlier) e in so_far-phrase (body_grammar codes) given earlier [] t (BodyPhrase.Gives x) s p.0 p.1 refl

  two_on : (t u : Token) (x : BodyItem) → ((earlier : List BodyPhrase) → items_of earlier ≡ before ++ items
      → PassBoth codes earlier t.bytes u.bytes x) → GoesOn (t ∷ u ∷ []) (record { phrase = BodyPhrase.Gives x; line = u.line })
  two_on t u x h given earlier e s =
      let p = h (phrases_of earlier) e in
      let first = so_far-token (body_grammar codes) given earlier [] t s p.begins p.open_after in
      subst (λ (l : List Token). IsSoFar (body_grammar codes) l (earlier ++ record { phrase = BodyPhrase.Gives x; line = u.line } ∷ []) []) (append_assoc given (t ∷ []) (u ∷ []))
      (so_far-phrase (body_grammar codes) (given ++ t ∷ []) earlier (t.bytes ∷ []) u (BodyPhrase.Gives x) first p.goes_on p.whole refl)

  -- a token of its own
  pub one_more : (n n' : ℕ) (t : Token) (x : BodyItem) (g : GaveAhead codes limit lines bytes n before items) → n < n' → Passed limit lines bytes n' (g.tokens ++ t ∷ [])
      → ((earlier : List BodyPhrase) → items_of earlier ≡ before ++ items → Passes codes earlier t.bytes x) → GaveAhead codes limit lines bytes n' before (items ++ x ∷ [])
  one_more n n' t x g less p h = grown n n' x (t ∷ []) t.line g less p (one_on t x h)

  -- two tokens
  two_more : (n n' : ℕ) (t u : Token) (x : BodyItem) (g : GaveAhead codes limit lines bytes n before items) → n < n' → Passed limit lines bytes n' ((g.tokens ++ t ∷ []) ++ u ∷ [])
      → ((earlier : List BodyPhrase) → items_of earlier ≡ before ++ items → PassBoth codes earlier t.bytes u.bytes x) → GaveAhead codes limit lines bytes n' before (items ++ x ∷ [])
  two_more n n' t u x g less p h = grown n n' x (t ∷ u ∷ []) u.line g less (subst (Passed limit lines bytes n') (append_assoc g.tokens (t ∷ []) (u ∷ [])) p) (two_on t u x h)

  -- ---- what an item leaves

  -- an item more was taken
  abbrev pub TakesOne : ℕ → Regs → Item → List ℕ → Type 0
  TakesOne n r item text = (x : BodyItem) × IsItem codes text item x × GaveAhead codes limit lines bytes n before (items ++ x ∷ []) × AreRegsAfter (before ++ (items ++ x ∷ [])) r

  known_more : (r : Regs) (c : Change) → AreRegsAfter (before ++ items) r → AreRegsAfter (before ++ (items ++ BodyItem.Changes c ∷ [])) r
  known_more r c k = subst (λ (l : List BodyItem). AreRegsAfter l r) (append_assoc before items (BodyItem.Changes c ∷ [])) (known_change (before ++ items) r c k)

  known_mark : (r : Regs) (t : ℕ) → time_after (before ++ items) ≤ t → AreRegsAfter (before ++ items) r
      → AreRegsAfter (before ++ (items ++ BodyItem.Time t ∷ [])) (regs_after r (item.Time t))
  known_mark r t less k = subst (λ (l : List BodyItem). AreRegsAfter l (regs_after r (item.Time t))) (append_assoc before items (BodyItem.Time t ∷ [])) (known_time (before ++ items) r t less k)

  -- the token is a change of the code at this index, or this timestamp
  abbrev IsScalar : List BodyPhrase → List ℕ → ℕ → Type 0
  IsScalar earlier token position = (c : IdCode) × (slice_get codes position ≡ Some c)
      × Passes codes earlier token (BodyItem.Changes (record { code = c; form = ChangeForm.Scalar; text = take 1 token }))

  abbrev IsMark : List BodyPhrase → List ℕ → ℕ → Type 0
  IsMark earlier token time = Passes codes earlier token (BodyItem.Time time) × (time_after (items_of earlier) ≤ time)

  module _ (n : ℕ) (r : Regs) (g : GaveAhead codes limit lines bytes n before items) (k : AreRegsAfter (before ++ items) r) where
    -- a digit with its code
    pub scalar_taken : (n' position line : ℕ) (token text : List ℕ) → n < n' → Passed limit lines bytes n' (g.tokens ++ record { bytes = token; line = line } ∷ []) → text ≡ take 1 token
        → ((earlier : List BodyPhrase) → IsScalar earlier token position) → TakesOne n' r (item.Change position form.Scalar) text
    scalar_taken n' position line token text less p is h =
        let c = (h []).0 in
        let x : Change = record { code = c; form = ChangeForm.Scalar; text = text } in
        let same : (o : IdCode) → slice_get codes position ≡ Some o → o ≡ c = λ o e. some_is (sym e ∙ (h []).1) in (
          BodyItem.Changes x,
          (c, (h []).1, refl),
          one_more n n' (record { bytes = token; line = line }) (BodyItem.Changes x) g less p
              (λ earlier e. let q = h earlier in
              subst (λ (l : List ℕ). Passes codes earlier token (BodyItem.Changes (record { code = c; form = ChangeForm.Scalar; text = l }))) (sym is)
              (subst (λ (o : IdCode). Passes codes earlier token (BodyItem.Changes (record { code = o; form = ChangeForm.Scalar; text = take 1 token }))) (same q.0 q.1) q.2)),
          known_more r x k,
        )

    -- a value, and the code after it
    pub both_taken : (f : Form) (n' position line line' : ℕ) (token code text : List ℕ) → n < n'
        → Passed limit lines bytes n' ((g.tokens ++ record { bytes = token; line = line } ∷ []) ++ record { bytes = code; line = line' } ∷ [])
        → text ≡ drop 1 token
        → (c : IdCode) → slice_get codes position ≡ Some c → ((earlier : List BodyPhrase)
        → PassBoth codes earlier token code (BodyItem.Changes (record { code = c; form = model_form f; text = drop 1 token })))
        → TakesOne n' r (item.Change position f) text
    both_taken f n' position line line' token code text less p is c at h =
        let x : Change = record { code = c; form = model_form f; text = text } in (
          BodyItem.Changes x,
          (c, at, refl),
          two_more n n' (record { bytes = token; line = line }) (record { bytes = code; line = line' }) (BodyItem.Changes x) g less p
              (λ earlier e. subst (λ (l : List ℕ). PassBoth codes earlier token code (BodyItem.Changes (record { code = c; form = model_form f; text = l }))) (sym is) (h earlier)),
          known_more r x k,
        )

    -- a timestamp
    pub mark_taken : (n' time line : ℕ) (token : List ℕ) → n < n'
        → Passed limit lines bytes n' (g.tokens ++ record { bytes = token; line = line } ∷ [])
        → ((earlier : List BodyPhrase) → AreRegsAfter (items_of earlier) r → IsMark earlier token time)
        → TakesOne n' (regs_after r (item.Time time)) (item.Time time) []
    mark_taken n' time line token less p h =
        let known : (earlier : List BodyPhrase) → items_of earlier ≡ before ++ items
        → AreRegsAfter (items_of earlier) r = λ earlier e. subst (λ (l : List BodyItem). AreRegsAfter l r) (sym e) k in
        let are = items_each (before ++ items) in
        let late : time_after (before ++ items) ≤ time = subst (λ (l : List BodyItem). time_after l ≤ time) are
        (h (map BodyPhrase.Gives (before ++ items)) (known (map BodyPhrase.Gives (before ++ items)) are)).1 in (
          BodyItem.Time time,
          refl,
          one_more n n' (record { bytes = token; line = line }) (BodyItem.Time time) g less p (λ earlier e. (h earlier (known earlier e)).0),
          known_mark r time late k,
        )

-- the feed has passed items of which this is the last
pub gave_last : {X : Type 0} {g : Ghosts X} (codes : List IdCode) (limit lines : ℕ) (bytes : List ℕ) (before items : List BodyItem) (x : BodyItem)
    (i : Input) (front : List Token) (n : ℕ) (old new : Feed X g) (first last : Regs) (h : GaveItems codes i front before old first)
    (a : GaveAhead codes limit lines bytes n before (items ++ x ∷ [])) → HasGiven i ((front ++ h.given) ++ a.tokens) new
    → ((end : ℕ) (ts : List Token) → ts ≢ [] → Passed limit lines bytes end ts → HasReadTo i ((front ++ h.given) ++ ts) new)
    → AreRegsAfter (before ++ (items ++ x ∷ [])) last → GaveLast codes i front (before ++ items) x new last
unfolding gave_passed
gave_last codes limit lines bytes before items x i front n old new first last h a stands near k =
    let l = a.last items x refl in
    let one : Placed BodyPhrase = record { phrase = BodyPhrase.Gives x; line = l.line } in
    let all = gave_passed codes limit lines bytes before (items ++ x ∷ []) i front n old new first last h a stands k in
    let same = append_assoc before items (x ∷ []) in
    record {
      gave = record {
        given = all.given;
        placed = all.placed;
        stands = all.stands;
        so_far = all.so_far;
        items_are = all.items_are
            ∙ sym same;
        known = subst (λ (l : List BodyItem). AreRegsAfter l last) (sym same) all.known;
      };
      first = h.given ++ l.first;
      rest = l.rest;
      given_are = ap (λ (ts : List Token). h.given ++ ts) l.tokens_are ∙ sym (append_assoc h.given l.first l.rest);
      before = h.placed ++ l.placed;
      before_are = items_so_far codes limit lines bytes before items h.placed l.placed h.items_are l.items_are;
      line = l.line;
      so_far = subst (λ (ps : List (Placed BodyPhrase)). IsSoFar (body_grammar codes) (h.given ++ l.first) ps [])
          (sym (append_assoc h.placed l.placed (one ∷ []))) (l.so_far h.given h.placed h.items_are h.so_far);
      near = subst (λ (ts : List Token). HasReadTo i ts new) (append_assoc front h.given l.first) (near l.end l.first (some_tokens limit lines bytes l.end l.first l.some l.passed) l.passed);
    }

-- ---- the digits of a vector as a number

pub has_bits : (position : ℕ) (text : List ℕ) (bits : Option Bits) → IfSome bits (λ b. text ≡ binary_digits b.len b.number) → HasBits (item.Change position form.Vector) text bits
has_bits position text None h = tt
has_bits position text (Some b) h = (position, refl, h)
