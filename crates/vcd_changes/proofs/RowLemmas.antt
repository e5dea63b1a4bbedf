-- The rows of a code, with one item more.
use Rattle.vcd_changes.proofs.Cited.{◌≡◌, ◌∙◌, ◌==◌, ℕ, max, Bool, true, false, cond, List, [], ◌∷◌, ◌++◌, ap, refl, sym, subst, fold, bytes_eq, filter_map, slice_get, Some, None, append-nil, inl, inr, eqb_tells, filter_map-append, bytes_eq-Decides, IdCode, Input, BodyItem, Change, Entry, entries, entry_after, marks, time_after, time_mark, Token, entries-append, Ghosts, Feed, IsIndex, same_place, GivesItem, IsItem, item_text, text_of, model_form, model_section, GaveItems, IsSection, Form, Item, Time, Begin, End, Finish, Regs, GaveRows, row_added, row_in, row_of, rows_of, ChangeRow}
use Rattle.std.proofs.lemmas.List.{append_assoc}
use Rattle.vcd_body.specs.declared.item.Item.TheVariants as item

-- a section's begin or end adds none
pub no_row : (index time : ℕ) (text : List ℕ) (it : Item) → IsSection it → row_added index time text it ≡ []
no_row index time text (Begin s) is = refl
no_row index time text End is = refl
no_row index time text (Time t) is = absurd is
no_row index time text (item.Change code form) is = absurd is
no_row index time text Finish is = absurd is

-- one item more
rows_more : (code : List ℕ) (items : List BodyItem) (x : BodyItem) → rows_of code (items ++ x ∷ []) ≡ rows_of code items ++ filter_map (row_in code) (entry_after items x ∷ [])
rows_more code items x = ap (filter_map (row_in code)) (entries-append items (x ∷ [])) ∙ filter_map-append (row_in code) (entries items) (entry_after items x ∷ [])

-- a change is no timestamp
time_stays : (items : List BodyItem) (d : Change) → time_after (items ++ BodyItem.Changes d ∷ []) ≡ time_after items
time_stays items d = ap (fold max 0) (filter_map-append time_mark items (BodyItem.Changes d ∷ []) ∙ append-nil (marks items))

one_row : (b : Bool) (r : ChangeRow) (code : List ℕ) (e : Entry) → row_in code e ≡ cond b (Some r) None → filter_map (row_in code) (e ∷ []) ≡ cond b (r ∷ []) []
one_row true r code e h = rw h refl
one_row false r code e h = rw h refl

not_true : (b : Bool) → (b ≡ true → ⊥) → b ≡ false
not_true true n = absurd (n refl)
not_true false n = refl

module _ (codes : List IdCode) (index : List ℕ) (is : IsIndex codes index) (place : ℕ) (c : IdCode) (at : slice_get codes place ≡ Some c) where
  -- two codes of a header have one text where they have one index
  same_text : (code : ℕ) (k : IdCode) → slice_get codes code ≡ Some k → bytes_eq k.text c.text ≡ (code == place)
  same_text code k there = elim (eqb_tells code place) [
    | inl h ↦
        let one : Some k ≡ Some c = sym there ∙ ap (slice_get codes) h.1 ∙ at in
        let text : k.text ≡ c.text = let e : k ≡ c = cc in ap (λ (x : IdCode). x.text) e in
        (bytes_eq-Decides k.text c.text).1 text ∙ sym h.0
    | inr h ↦ not_true (bytes_eq k.text c.text) (λ t. h.1 (same_place codes index code place k c is there at ((bytes_eq-Decides k.text c.text).0 t))) ∙ sym h.0
  ]

  row_here : (code : ℕ) (k : IdCode) → slice_get codes code ≡ Some k → (items : List BodyItem) (time : ℕ) (form : Form) (text : List ℕ)
      → time ≡ time_after (items ++ BodyItem.Changes (record { code = k; form = model_form form; text = text }) ∷ [])
      → filter_map (row_in c.text) (entry_after items (BodyItem.Changes (record { code = k; form = model_form form; text = text })) ∷ []) ≡ row_added place time text (item.Change code form)
  row_here code k there items time form text e =
      let d : Change = record { code = k; form = model_form form; text = text } in
      let same : time ≡ time_after items = e ∙ time_stays items d in
      one_row (code == place) (row_of time (model_form form) text) c.text (entry_after items (BodyItem.Changes d))
      (ap (λ b. cond b (Some (row_of (time_after items) (model_form form) text)) None) (same_text code k there)
      ∙ ap (λ t. cond (code == place) (Some (row_of t (model_form form) text)) None) (sym same))

  -- an item adds its row
  pub row_more : (text : List ℕ) (r : Regs) (items : List BodyItem) (it : Item) (x : BodyItem) → IsItem codes text it x
      → r.time ≡ time_after (items ++ x ∷ []) → rows_of c.text (items ++ x ∷ []) ≡ rows_of c.text items ++ row_added place r.time text it
  row_more text r items (Time t) x is e = rw is (rows_more c.text items (BodyItem.Time t))
  row_more text r items (Begin s) x is e = rw is (rows_more c.text items (BodyItem.Begin (model_section s)))
  row_more text r items End x is e = rw is (rows_more c.text items BodyItem.End)
  row_more text r items (item.Change code form) x is e =
      let d : Change = record { code = is.0; form = model_form form; text = text } in
      let known = subst (λ (y : BodyItem). r.time ≡ time_after (items ++ y ∷ [])) is.2 e in
      rw is.2 (rows_more c.text items (BodyItem.Changes d) ∙ ap (λ l. rows_of c.text items ++ l) (row_here code is.0 is.1 items r.time form text known))
  row_more text r items Finish x is e = absurd is

  abbrev Took : {X : Type 0} {g : Ghosts X} → Input → List Token → List BodyItem → Feed X g → Regs → Item → Type 0
  Took i front items f r it = (x : BodyItem) × GaveItems codes i front (items ++ x ∷ []) f r
      × (rows_of c.text (items ++ x ∷ []) ≡ rows_of c.text items ++ row_added place r.time (item_text f it) it)

  -- the item that was given, and the row that it adds
  pub taken : {X : Type 0} {g : Ghosts X} (i : Input) (front : List Token) (items : List BodyItem) (f : Feed X g) (r : Regs) (it : Item)
      → GivesItem codes i front items f r it → (it ≡ Finish → ⊥) → Took i front items f r it
  taken i front items f r (Time t) h n = (BodyItem.Time t, h.gave, row_more [] r items (Time t) _ refl h.gave.known.time_is)
  taken i front items f r (Begin s) h n = (BodyItem.Begin (model_section s), h.gave, row_more [] r items (Begin s) _ refl h.gave.known.time_is)
  taken i front items f r End h n = (BodyItem.End, h.gave, row_more [] r items End _ refl h.gave.known.time_is)
  taken i front items f r (item.Change code form) h n = (
    BodyItem.Changes (record { code = h.0; form = model_form form; text = text_of form f }),
    h.2.gave,
    row_more (text_of form f) r items (item.Change code form) _ (h.0, h.1, refl) h.2.gave.known.time_is,
  )
  taken i front items f r Finish h n = absurd (n refl)

module _ (code : List ℕ) where
  -- the rows hold the changes of these items, which are after those of an earlier call
  abbrev pub Filled : List BodyItem → List BodyItem → List ChangeRow → Type 0
  Filled items more rows = rows_of code (items ++ more) ≡ rows_of code items ++ rows

  pub filled_more : (items more others : List BodyItem) (rows added : List ChangeRow) → Filled items more rows
      → rows_of code ((items ++ more) ++ others) ≡ rows_of code (items ++ more) ++ added → Filled items (more ++ others) (rows ++ added)
  filled_more items more others rows added h e =
      ap (rows_of code) (sym (append_assoc items more others)) ∙ e ∙ ap (λ l. l ++ added) h ∙ append_assoc (rows_of code items) rows added

  pub filled_none : (items : List BodyItem) → Filled items [] []
  filled_none items = ap (rows_of code) (append-nil items) ∙ sym (append-nil (rows_of code items))

  -- none was given ahead
  pub none_ahead : {X : Type 0} {g : Ghosts X} (codes : List IdCode) (i : Input) (front : List Token) (items : List BodyItem) (f : Feed X g)
      (r : Regs) (rows : List ChangeRow) → GaveItems codes i front items f r → GaveRows codes i front items code f r rows rows
  none_ahead codes i front items f r rows gave = record {
    more = [];
    added = [];
    gave = subst (λ (l : List BodyItem). GaveItems codes i front l f r) (sym (append-nil items)) gave;
    rows_are = filled_none items;
    new_are = sym (append-nil rows);
  }

  -- others were given ahead, and their rows were added
  pub filled_ahead : {X : Type 0} {g : Ghosts X} (codes : List IdCode) (i : Input) (front : List Token) (items more : List BodyItem) (f : Feed X g)
      (r : Regs) (old new : List ChangeRow) → Filled items more old → GaveRows codes i front (items ++ more) code f r old new
      → (all : List BodyItem) × GaveItems codes i front (items ++ all) f r × Filled items all new
  filled_ahead codes i front items more f r old new h gave = (
    more ++ gave.more,
    subst (λ (l : List BodyItem). GaveItems codes i front l f r) (append_assoc items more gave.more) gave.gave,
    filled_more items more gave.more old gave.added h gave.rows_are ∙ ap (λ l. rows_of code items ++ l) (sym gave.new_are),
  )

pub not_both : (b : Bool) → b ≡ true → b ≡ false → ⊥
not_both true e f = cc
not_both false e f = cc
