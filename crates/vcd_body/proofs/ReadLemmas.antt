-- One item more, and what is known after it.
use Rattle.vcd_body.proofs.Cited.{◌≡◌, ℕ, ◌+◌, ◌≤◌, max, Bool, true, false, cond, not, List, [], ◌∷◌, ◌++◌, take, fold, count_by, filter_map, Option, Some, None, is_some, refl, sym, ap, subst, ◌∙◌, arith, append-nil, MatchBool, last_or, le-ltb, lt-ltb, map-append, filter_map-append, sum_by-append, is_empty, Input, Token, Stream, IdCode, BodyItem, ChangeForm, marks, time_mark, time_after, leaves_open, open_section, section_of, is_begin, is_end_of_section, BodyPhrase, items_of, body_fault, Keyword, keyword_text, Placed, phrases_of, fold-append, token_of, limit_of, Ghosts, Feed, BodyFault, Section, Regs, AreRegsAfter, regs_after, model_section, GaveItems, GaveItem, GaveAll, Begun, Looks, Reads, ReadsAll, ReadsPhrase, BodyHas, FailsOver, Fails, Passes, Refuses}
use Rattle.vcd_model.specs.Items.{Change}
use Rattle.vcd_body.specs.declared.item.Item.TheVariants as item
use Rattle.vcd_body.proofs.TokenLemmas.{taken_phrase, begun, refused_at, fails, stopped_at_end, ended, ended_open}
use Rattle.vcd_body.proofs.PhraseLemmas.{section_open, comment_begins}

-- ---- lists that grow

last_push : {A : Type 0} (o : Option A) (xs : List A) (y : A) → last_or o (xs ++ y ∷ []) ≡ Some y
last_push o [] y = refl
last_push o (x ∷ xs) y = last_push (Some x) xs y

filled_push : (xs : List ℕ) (y : ℕ) → not (is_empty (xs ++ y ∷ [])) ≡ true
filled_push [] y = refl
filled_push (x ∷ xs) y = refl

count_push : (p : BodyItem → Bool) (xs : List BodyItem) (x : BodyItem) → count_by p (xs ++ x ∷ []) ≡ count_by p xs + cond (p x) 1 0
count_push p xs x = sum_by-append (λ y. cond (p y) 1 0) xs (x ∷ []) ∙ omega arith

marks_push : (items : List BodyItem) (x : BodyItem) → marks (items ++ x ∷ []) ≡ marks items ++ marks (x ∷ [])
marks_push items x = filter_map-append time_mark items (x ∷ [])

-- an item that is no timestamp leaves the timestamps
marks_stay : (items : List BodyItem) (x : BodyItem) → marks (x ∷ []) ≡ [] → marks (items ++ x ∷ []) ≡ marks items
marks_stay items x e = marks_push items x ∙ ap (λ l. marks items ++ l) e ∙ append-nil (marks items)

-- the section that is open, by how many began and ended
open_at : (items : List BodyItem) (b : Bool) → leaves_open items ≡ b → open_section items ≡ cond b (last_or None (filter_map section_of items)) None
open_at items b e = ap (λ x. cond x (last_or None (filter_map section_of items)) None) e

-- an item that neither begins nor ends a section leaves it as it was
section_stays : (items : List BodyItem) (x : BodyItem) → is_begin x ≡ false → is_end_of_section x ≡ false → section_of x ≡ None → open_section (items ++ x ∷ []) ≡ open_section items
section_stays items x b e s = rw (
  count_push is_begin items x,
  count_push is_end_of_section items x,
  b,
  e,
  filter_map-append section_of items (x ∷ []),
  s,
  append-nil,
  same_sum (count_by is_begin items),
  same_sum (count_by is_end_of_section items),
) refl
  where
    same_sum : (n : ℕ) → n + 0 ≡ n
    same_sum n = omega arith

-- ---- what is known after one item more

pub known_change : (items : List BodyItem) (r : Regs) (c : Change) → AreRegsAfter items r → AreRegsAfter (items ++ BodyItem.Changes c ∷ []) r
known_change items r c k = record {
  time_is = k.time_is ∙ sym (ap (fold max 0) (marks_stay items (BodyItem.Changes c) refl));
  marked_is = k.marked_is ∙ sym (ap (λ l. not (is_empty l)) (marks_stay items (BodyItem.Changes c) refl));
  section_is = k.section_is ∙ sym (section_stays items (BodyItem.Changes c) refl refl refl);
  ended = let e = k.ended in let b = count_push is_begin items (BodyItem.Changes c) in let n = count_push is_end_of_section items (BodyItem.Changes c) in omega arith;
}

pub known_time : (items : List BodyItem) (r : Regs) (t : ℕ) → time_after items ≤ t → AreRegsAfter items r → AreRegsAfter (items ++ BodyItem.Time t ∷ []) (regs_after r (item.Time t))
known_time items r t less k = record {
  time_is = sym (ap (fold max 0) (marks_push items (BodyItem.Time t)) ∙ (fold-append max 0 (marks items) (t ∷ []) ∙ omega arith));
  marked_is = sym (ap (λ l. not (is_empty l)) (marks_push items (BodyItem.Time t)) ∙ filled_push (marks items) t);
  section_is = k.section_is ∙ sym (section_stays items (BodyItem.Time t) refl refl refl);
  ended = let e = k.ended in let b = count_push is_begin items (BodyItem.Time t) in let n = count_push is_end_of_section items (BodyItem.Time t) in omega arith;
}

pub known_begin : (items : List BodyItem) (r : Regs) (s : Section) → is_some r.section ≡ false → AreRegsAfter items r
    → AreRegsAfter (items ++ BodyItem.Begin (model_section s) ∷ []) (regs_after r (item.Begin s))
known_begin items r s closed k =
    let x = BodyItem.Begin (model_section s) in
    let even : count_by is_begin items ≡ count_by is_end_of_section items + 0 = k.ended ∙ ap (λ (o : Bool). count_by is_end_of_section items + cond o 1 0) closed in
    let b = count_push is_begin items x in
    let n = count_push is_end_of_section items x in
    record {
      time_is = k.time_is ∙ sym (ap (fold max 0) (marks_stay items x refl));
      marked_is = k.marked_is ∙ sym (ap (λ l. not (is_empty l)) (marks_stay items x refl));
      section_is = sym (open_at (items ++ x ∷ []) true (lt-ltb (count_by is_end_of_section (items ++ x ∷ [])) (count_by is_begin (items ++ x ∷ []))
          (omega arith)) ∙ ap (last_or None) (filter_map-append section_of items (x ∷ []))
          ∙ last_push None (filter_map section_of items) (model_section s));
      ended = omega arith;
    }

pub known_end : (items : List BodyItem) (r : Regs) → is_some r.section ≡ true → AreRegsAfter items r → AreRegsAfter (items ++ BodyItem.End ∷ []) (regs_after r item.End)
known_end items r inside k =
    let x = BodyItem.End in
    let odd : count_by is_begin items ≡ count_by is_end_of_section items + 1 = k.ended ∙ ap (λ (o : Bool). count_by is_end_of_section items + cond o 1 0) inside in
    let b = count_push is_begin items x in
    let n = count_push is_end_of_section items x in
    record {
      time_is = k.time_is ∙ sym (ap (fold max 0) (marks_stay items x refl));
      marked_is = k.marked_is ∙ sym (ap (λ l. not (is_empty l)) (marks_stay items x refl));
      section_is = sym (open_at (items ++ x ∷ []) false (le-ltb (count_by is_end_of_section (items ++ x ∷ [])) (count_by is_begin (items ++ x ∷ [])) (omega arith)));
      ended = omega arith;
    }

-- ---- what was given

items_push : (placed : List (Placed BodyPhrase)) (p : Placed BodyPhrase) → items_of (phrases_of (placed ++ p ∷ [])) ≡ items_of (phrases_of placed) ++ items_of (p.phrase ∷ [])
items_push placed p = rw (map-append, filter_map-append) refl

module _ {X : Type 0} {g : Ghosts X} (codes : List IdCode) (i : Input) (front : List Token) (items : List BodyItem) where
  pub item_given : (old new : Feed X g) (r r' : Regs) (x : BodyItem) (b : Begun codes i front items old r)
      → ReadsPhrase codes i front b.placed new (BodyPhrase.Gives x) → AreRegsAfter (items ++ x ∷ []) r' → GaveItem codes i front items x new r'
  item_given old new r r' x b p k = record {
    gave = record {
      given = p.reads.given;
      placed = b.placed ++ record { phrase = BodyPhrase.Gives x; line = (token_of new).line } ∷ [];
      stands = p.reads.stands;
      so_far = p.reads.so_far;
      items_are = items_push b.placed (record { phrase = BodyPhrase.Gives x; line = (token_of new).line }) ∙ ap (λ l. l ++ x ∷ []) b.items_are;
      known = k;
    };
    before = b.placed;
    before_are = b.items_are;
    last = refl;
    near = p.near;
  }

  -- an item of one token
  pub own_given : (f : Feed X g) (r r' : Regs) (x : BodyItem) (b : Begun codes i front items f r)
      → Passes codes (phrases_of b.placed) (token_of f).bytes x → AreRegsAfter (items ++ x ∷ []) r' → GaveItem codes i front items x f r'
  own_given f r r' x b p k = item_given f f r r' x b (taken_phrase codes i front b.placed [] f (BodyPhrase.Gives x) p.0 p.1 b.looks) k

  -- a comment gives none
  pub none_given : (old new : Feed X g) (r : Regs) (inner : List (List ℕ)) (b : Begun codes i front items old r)
      → ReadsPhrase codes i front b.placed new (BodyPhrase.Comment inner) → GaveItems codes i front items new r
  none_given old new r inner b p = record {
    given = p.reads.given;
    placed = b.placed ++ record { phrase = BodyPhrase.Comment inner; line = (token_of new).line } ∷ [];
    stands = p.reads.stands;
    so_far = p.reads.so_far;
    items_are = items_push b.placed (record { phrase = BodyPhrase.Comment inner; line = (token_of new).line }) ∙ append-nil (items_of (phrases_of b.placed)) ∙ b.items_are;
    known = b.known;
  }

  -- what is known of the phrases that were read
  pub known_so_far : (f : Feed X g) (r : Regs) (b : Begun codes i front items f r) → AreRegsAfter (items_of (phrases_of b.placed)) r
  known_so_far f r b = subst (λ (l : List BodyItem). AreRegsAfter l r) (sym b.items_are) b.known

  -- a fault after the items that were given
  pub fault_given : (placed : List (Placed BodyPhrase)) (fault : BodyFault) (f : Feed X g) → items_of (phrases_of placed) ≡ items
      → Fails codes i front (items_of (phrases_of placed)) fault f → Fails codes i front items fault f
  fault_given placed fault f e h = subst (λ (l : List BodyItem). Fails codes i front l fault f) e h

  pub reads_of : (f : Feed X g) (r : Regs) (h : GaveItems codes i front items f r) → Reads codes i front h.placed [] f
  reads_of f r h = record { given = h.given; stands = h.stands; so_far = h.so_far }

  pub begun_of : (old new : Feed X g) (r : Regs) (h : GaveItems codes i front items old r) → Looks codes i front h.placed [] new → Begun codes i front items new r
  begun_of old new r h l = record { placed = h.placed; looks = l; items_are = h.items_are; known = h.known }

  -- a token has come
  pub begun_at : (old new : Feed X g) (r : Regs) (more : Bool) → more ≡ true → (h : GaveItems codes i front items old r)
      → MatchBool more (Looks codes i front h.placed [] new) (ReadsAll codes i front h.placed [] new) → Begun codes i front items new r
  begun_at old new r more e h m = begun_of old new r h (subst (λ (b : Bool). MatchBool b (Looks codes i front h.placed [] new) (ReadsAll codes i front h.placed [] new)) e m)

  -- the end, outside a section and inside one
  pub ends_clean : (old new : Feed X g) (r : Regs) (h : GaveItems codes i front items old r) → ReadsAll codes i front h.placed [] new
      → is_some r.section ≡ false → GaveAll codes i front items new r
  ends_clean old new r h a closed = record {
    gave = record { given = a.given; placed = h.placed; stands = a.stands; so_far = a.so_far; items_are = h.items_are; known = h.known };
    all = ap (λ (s : Stream). s.tokens) a.all;
    has = subst (λ (l : List BodyItem). BodyHas codes i front (limit_of new) l None) h.items_are
        (ended codes i front h.placed (limit_of new) a.given (token_of new).line a.so_far a.all (ap leaves_open h.items_are
        ∙ section_open codes items r false h.known closed));
  }

  pub ends_inside : (old new : Feed X g) (r : Regs) (h : GaveItems codes i front items old r) → ReadsAll codes i front h.placed [] new
      → is_some r.section ≡ true → FailsOver codes i front items 2 new
  ends_inside old new r h a inside =
      subst (λ (l : List BodyItem). FailsOver codes i front l 2 new) h.items_are (
        ended_open codes i front h.placed (limit_of new) a.given (token_of new).line a.so_far a.all (ap leaves_open h.items_are
            ∙ section_open codes items r true h.known inside),
        stopped_at_end codes i front h.placed [] new (limit_of new) a.given None
            (token_of new).line refl a.stands a.so_far a.all,
      )

  -- a comment begins
  pub comment_begun : (f : Feed X g) (r : Regs) (b : Begun codes i front items f r) → (token_of f).bytes ≡ keyword_text Keyword.Comment
      → Reads codes i front b.placed (keyword_text Keyword.Comment ∷ []) f
  comment_begun f r b e =
      let p = comment_begins codes (phrases_of b.placed) (token_of f).bytes e in
      subst (λ (t : List ℕ). Reads codes i front b.placed (t ∷ []) f) e (begun codes i front b.placed f p.0 p.1 b.looks)

  -- a check of the first token fails
  pub refused_first : (f : Feed X g) (r : Regs) (n : ℕ) (b : Begun codes i front items f r)
      → body_fault codes (phrases_of b.placed) [] (token_of f).bytes ≡ Some n → FailsOver codes i front items n f
  refused_first f r n b e = subst (λ (l : List BodyItem). FailsOver codes i front l n f) b.items_are (refused_at codes i front b.placed [] f n e b.looks)

  pub refused_own : (f : Feed X g) (r : Regs) (t : List ℕ) (fault : BodyFault) (b : Begun codes i front items f r) → t ≡ (token_of f).bytes
      → Refuses codes (phrases_of b.placed) t fault → Fails codes i front items fault f
  refused_own f r t fault b e h = fault_given b.placed fault f b.items_are (fails codes i front b.placed [] f fault h.0 (ap (body_fault codes (phrases_of b.placed) []) (sym e) ∙ h.1) b.looks)

  -- a change of one token
  pub scalar_given : (f : Feed X g) (r : Regs) (t : List ℕ) (c : IdCode) (b : Begun codes i front items f r) → t ≡ (token_of f).bytes
      → Passes codes (phrases_of b.placed) t (BodyItem.Changes (record { code = c; form = ChangeForm.Scalar; text = take 1 t }))
      → GaveItem codes i front items (BodyItem.Changes (record { code = c; form = ChangeForm.Scalar; text = take 1 (token_of f).bytes })) f r
  scalar_given f r t c b e p =
      let x : Change = record { code = c; form = ChangeForm.Scalar; text = take 1 (token_of f).bytes } in
      own_given f r r (BodyItem.Changes x) b (subst (λ (l : List ℕ). Passes codes (phrases_of b.placed) l
      (BodyItem.Changes (record { code = c; form = ChangeForm.Scalar; text = take 1 l }))) e p) (known_change items r x b.known)

  pub change_given : (old new : Feed X g) (r : Regs) (x : Change) (b : Begun codes i front items old r)
      → ReadsPhrase codes i front b.placed new (BodyPhrase.Gives (BodyItem.Changes x)) → GaveItem codes i front items (BodyItem.Changes x) new r
  change_given old new r x b p = item_given old new r r (BodyItem.Changes x) b p (known_change items r x b.known)

  pub time_given : (f : Feed X g) (r : Regs) (t : List ℕ) (time : ℕ) (b : Begun codes i front items f r) → t ≡ (token_of f).bytes
      → Passes codes (phrases_of b.placed) t (BodyItem.Time time) × (time_after (items_of (phrases_of b.placed)) ≤ time)
      → GaveItem codes i front items (BodyItem.Time time) f (regs_after r (item.Time time))
  time_given f r t time b e p =
      let q : Passes codes (phrases_of b.placed) (token_of f).bytes (BodyItem.Time time) = subst (λ (l : List ℕ). Passes codes (phrases_of b.placed) l (BodyItem.Time time)) e p.0 in
      own_given f r (regs_after r (item.Time time)) (BodyItem.Time time) b q (known_time items r time (subst (λ (l : List BodyItem). time_after l ≤ time) b.items_are p.1) b.known)
