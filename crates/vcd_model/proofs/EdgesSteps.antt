-- `edges` with one item more.
use Rattle.vcd_model.proofs.Cited.{◌≡◌, suc, ◌+◌, ◌≤◌, Bool, true, false, not, cond, ◌&&◌, List, [], ◌∷◌, ◌++◌, length, filter, count_by, drop, Option, Some, None, refl, sym, ap, ◌∙◌, arith, option_map, filter_map, last_or, byte, append-nil, filter-append, filter_map-append, count_by-le-length, length-filter, sum_by-append, length-zip, each_after, IdCode, same_code, BodyItem, Change, Entry, change_of, entries, entry_after, leaves_open, Value, same_value, value_of, final_value, gives_to, values_of, Counts, counts_for, counts_of, event_count, goes, neighbours}
use Rattle.vcd_model.proofs.Growing.{entries-append}
use Rattle.vcd_model.proofs.Latest.{gives_at, last_value_is, latest, newer, newer-false}

-- ---- the values of a code

-- the value that an item gives
abbrev given : BodyItem → Option Value
given item = option_map value_of (change_of item)

module _ (c : IdCode) (items : List BodyItem) where
  values_more : (x : BodyItem) → values_of (items ++ x ∷ []) c ≡ values_of items c ++ filter_map given (filter (gives_to c) (x ∷ []))
  values_more x = ap (filter_map given) (filter-append (gives_to c) items (x ∷ [])) ∙ filter_map-append given (filter (gives_to c) items) (filter (gives_to c) (x ∷ []))

  -- an item that gives this code none
  pub values_other : (x : BodyItem) → gives_to c x ≡ false → values_of (items ++ x ∷ []) c ≡ values_of items c
  values_other x e = values_more x ∙ ap (λ (b : Bool). values_of items c ++ filter_map given (cond b (x ∷ []) [])) e ∙ append-nil (values_of items c)

  -- a change of it gives one more
  pub values_new : (d : Change) → same_code c d.code ≡ true → values_of (items ++ BodyItem.Changes d ∷ []) c ≡ values_of items c ++ value_of d ∷ []
  values_new d e = values_more (BodyItem.Changes d) ∙ ap (λ (b : Bool). values_of items c ++ filter_map given (cond b (BodyItem.Changes d ∷ []) [])) e

-- ---- the last of them

last_newer : (o : Option Value) (vs : List Value) → last_or o vs ≡ newer true o (last_or None vs)
last_newer o [] = refl
last_newer o (v ∷ vs) = last_newer (Some v) vs ∙ over (last_or None vs) ∙ ap (newer true o) (sym (last_newer (Some v) vs))
  where
    over : (l : Option Value) → newer true (Some v) l ≡ newer true o (newer true (Some v) l)
    over (Some x) = refl
    over None = refl

latest_given : (c : IdCode) (earlier items : List BodyItem) → latest (gives_at c (λ u. true)) (each_after entry_after earlier items) ≡ last_or None (values_of items c)
latest_given c earlier [] = refl
latest_given c earlier (x ∷ items) = by_item x (gives_to c x) refl (latest_given c (earlier ++ x ∷ []) items)
  where
    rest : Option Value
    rest = latest (gives_at c (λ u. true)) (each_after entry_after (earlier ++ x ∷ []) items)

    by_item : (y : BodyItem) (b : Bool) → gives_to c y ≡ b → rest ≡ last_or None (values_of items c)
        → newer (gives_to c y && true) (given y) rest ≡ last_or None
        (filter_map given (cond (gives_to c y) (y ∷ filter (gives_to c) items) (filter (gives_to c) items)))
    by_item y false e h = rw e (newer-false (given y) rest ∙ h)
    by_item (BodyItem.Changes d) true e h = rw e (ap (newer true (Some (value_of d))) h ∙ sym (last_newer (Some (value_of d)) (values_of items c)))
    by_item (BodyItem.Time t) true e h = cc
    by_item (BodyItem.Begin s) true e h = cc
    by_item BodyItem.End true e h = cc

-- the final value is the last one
pub final_is : (c : IdCode) (items : List BodyItem) → final_value items c ≡ last_or None (values_of items c)
final_is c items = last_value_is c (λ u. true) items ∙ latest_given c [] items

-- ---- the counts

-- a value beside the one before it, if there is one
abbrev beside : Option Value → Value → List (Value × Value)
beside None v = []
beside (Some u) v = (u, v) ∷ []

neighbours-more : (vs : List Value) (v : Value) → neighbours (vs ++ v ∷ []) ≡ neighbours vs ++ beside (last_or None vs) v
neighbours-more [] v = refl
neighbours-more (u ∷ []) v = refl
neighbours-more (u ∷ w ∷ vs) v = ap (λ l. (u, w) ∷ l) (neighbours-more (w ∷ vs) v)

-- counts with one value more, if this one was the last
abbrev pub with_value : Counts → Option Value → Value → Counts
with_value n None v = n
with_value n (Some u) v = record {
  changes = n.changes + cond (not (same_value u v)) 1 0;
  rises = n.rises + cond (goes (byte "0") (byte "1") (u, v)) 1 0;
  falls = n.falls + cond (goes (byte "1") (byte "0") (u, v)) 1 0;
}

-- counts with one trigger more of an event, inside a section or not
abbrev pub with_mark : Counts → Bool → Counts
with_mark n inside = record { changes = n.changes + cond (not inside) 1 0; rises = n.rises; falls = n.falls }

counts_more : (vs : List Value) (v : Value) → counts_of (vs ++ v ∷ []) ≡ with_value (counts_of vs) (last_or None vs) v
counts_more vs v = ap counted (neighbours-more vs v) ∙ by_last (last_or None vs)
  where
    counted : List (Value × Value) → Counts
    counted ps = record {
      changes = count_by (λ p. not (same_value p.0 p.1)) ps;
      rises = count_by (goes (byte "0") (byte "1")) ps;
      falls = count_by (goes (byte "1") (byte "0")) ps;
    }

    one : (p : Value × Value → Bool) (u : Value) → count_by p (neighbours vs ++ (u, v) ∷ []) ≡ count_by p (neighbours vs) + cond (p (u, v)) 1 0
    one p u = sum_by-append (λ y. cond (p y) 1 0) (neighbours vs) ((u, v) ∷ []) ∙ omega arith

    by_last : (o : Option Value) → counted (neighbours vs ++ beside o v) ≡ with_value (counts_of vs) o v
    by_last None = ap counted (append-nil (neighbours vs))
    by_last (Some u) = rw (one (λ p. not (same_value p.0 p.1)) u, one (goes (byte "0") (byte "1")) u, one (goes (byte "1") (byte "0")) u) refl

module _ (c : IdCode) (items : List BodyItem) where
  events_more : (x : BodyItem) → event_count c (items ++ x ∷ []) ≡ event_count c items + cond (gives_to c x && not (leaves_open items)) 1 0
  events_more x =
      ap (count_by (λ e. gives_to c e.item && not e.inside)) (entries-append items (x ∷ []))
      ∙ sum_by-append (λ e. cond (gives_to c e.item && not e.inside) 1 0) (entries items) (entry_after items x ∷ [])
      ∙ omega arith

  -- an item that gives this code no value
  pub counts_other : (x : BodyItem) → gives_to c x ≡ false → counts_for (items ++ x ∷ []) c ≡ counts_for items c
  counts_other x e = rw (events_more x, e, values_other c items x e) (by_event c.event)
    where
      by_event : (b : Bool) → cond b (record { changes = event_count c items + 0; rises = 0; falls = 0 }) (counts_of (values_of items c)) ≡ cond b
          (record { changes = event_count c items; rises = 0; falls = 0 }) (counts_of (values_of items c))
      by_event true = let n : event_count c items + 0 ≡ event_count c items = omega arith in rw n refl
      by_event false = refl

  -- a change of it that is no event
  pub counts_new : (d : Change) → same_code c d.code ≡ true → c.event ≡ false
      → counts_for (items ++ BodyItem.Changes d ∷ []) c ≡ with_value (counts_for items c) (final_value items c) (value_of d)
  counts_new d e event = rw (event, values_new c items d e, counts_more (values_of items c) (value_of d), final_is c items) refl

  -- a trigger of it, if it is one
  pub counts_mark : (d : Change) → same_code c d.code ≡ true → c.event ≡ true → counts_for (items ++ BodyItem.Changes d ∷ []) c ≡ with_mark (counts_for items c) (leaves_open items)
  counts_mark d e event = rw (event, events_more (BodyItem.Changes d), e) refl

-- ---- their bounds

-- no more than there are items
pub record AreFew (n : Counts) (items : List BodyItem) : Type 0 where
  pub changes : n.changes ≤ length items
  pub rises : n.rises ≤ length items
  pub falls : n.falls ≤ length items

given_few : (items : List BodyItem) → length (filter_map given items) ≤ length items
given_few [] = omega arith
given_few (BodyItem.Changes d ∷ items) = let h = given_few items in omega arith
given_few (BodyItem.Time t ∷ items) = let h = given_few items in omega arith
given_few (BodyItem.Begin s ∷ items) = let h = given_few items in omega arith
given_few (BodyItem.End ∷ items) = let h = given_few items in omega arith

values_few : (c : IdCode) (items : List BodyItem) → length (values_of items c) ≤ length items
values_few c items =
    let g = given_few (filter (gives_to c) items) in
    let l = length-filter (gives_to c) items in
    let n = count_by-le-length (gives_to c) items in
    omega arith

pairs_few : (p : Value × Value → Bool) (c : IdCode) (items : List BodyItem) → count_by p (neighbours (values_of items c)) ≤ length items
pairs_few p c items =
    let vs = values_of items c in
    let n = count_by-le-length p (neighbours vs) in
    let l = length-zip vs (drop 1 vs) in
    let v = values_few c items in
    omega arith

length_each : (earlier items : List BodyItem) → length (each_after entry_after earlier items) ≡ length items
length_each earlier [] = refl
length_each earlier (x ∷ items) = ap suc (length_each (earlier ++ x ∷ []) items)

pub are_few : (c : IdCode) (items : List BodyItem) → AreFew (counts_for items c) items
are_few c items = by_event c.event
  where
    by_event : (b : Bool) → AreFew (cond b (record { changes = event_count c items; rises = 0; falls = 0 }) (counts_of (values_of items c))) items
    by_event true =
        let n = count_by-le-length (λ (e : Entry). gives_to c e.item && not e.inside) (entries items) in
        let l = length_each [] items in
        record { changes = omega arith; rises = omega arith; falls = omega arith }
    by_event false = record {
      changes = pairs_few (λ p. not (same_value p.0 p.1)) c items;
      rises = pairs_few (goes (byte "0") (byte "1")) c items;
      falls = pairs_few (goes (byte "1") (byte "0")) c items;
    }
