-- A table of current values when it is new, and with one item more.
use Rattle.vcd_body.proofs.Cited.{◌≡◌, ◌≢◌, ℕ, zero, suc, ◌≤◌, ◌<◌, ◌==◌, ◌&&◌, Bool, true, false, List, [], ◌∷◌, ◌++◌, length, drop, slice_get, list_all, length-map, length-drop, to_ascii_lowercase, str_to_ascii_lowercase, is_value_digit, Value, extend, short, short_is_shortest, Option, Some, refl, sym, ap, subst, ◌∙◌, arith, option_map, unwrap_or, eqb-true, eqb-false, bytes_eq-Decides, IdCode, same_code, Header, final_value, gives_to, BodyItem, value_with, final_new, final_other, parts, IsViewOf, Code, HeadView, same_sum, sum_fits, HasBits, binary_digits, ChangesCode, SetsCode, IsLaidOut, held_at, kept_at, HasGoodText, IsText, model_form, Held, Kept, unset, value_at_size, with_text, room_of, share_of, Bits, Form, Vector, Item, Time, Begin, End, Change, Finish, Table, IsItem, AreHeld, HasShares, table_bytes, same_Some}
use Rattle.vcd_view.proofs.LookUpLemmas.{same_place}
use Rattle.vcd_view.proofs.RowLemmas.{code_at}
use Rattle.vcd_body.specs.Changes.{extended}
use Rattle.vcd_body.specs.Current.{GivesSame, HoldsOneMore}
use Rattle.vcd_body.proofs.CompareLemmas.{length_extended}
use Rattle.vcd_body.proofs.Shortest.{not_empty}
use Rattle.vcd_body.proofs.TableLemmas.{room_needed}

-- ---- a new table

-- the bytes that a header needs are enough for all shares
pub room_enough : (v : HeadView) (h : Header) (n : ℕ) → IsViewOf v h → table_bytes v ≤ n → room_of v.codes.now ≤ n
room_enough v h n views le =
    let needed = room_needed v h views in
    let same = same_sum v.text.now v.codes.now h.codes views.codes in
    let few = sum_fits (parts v) h views in
    omega (arith, needed, same, few, le)

-- what a new table promises of its codes
abbrev pub IsNew : HeadView → Table → Type 0
IsNew v t = (code : ℕ) (c : Code) → slice_get v.codes.now code ≡ Some c → kept_at t code ≡ Some (unset (share_of c.size))

pub new_holds : (v : HeadView) (h : Header) (t : Table) → IsViewOf v h → IsLaidOut t → IsNew v t → AreHeld t h []
new_holds v h t views laid is = record {
  values = record {
    laid = laid;
    each = λ place c declared event.
        let m = code_at v.text.now v.codes.now h.codes place c views.codes declared in
        ap (λ (o : Option Kept). value_at_size c.size (unwrap_or (option_map (λ (k : Kept). k.held) o) Held.Unset)) (is place m.0 m.1);
  };
  shares = λ place c declared.
      let m = code_at v.text.now v.codes.now h.codes place c views.codes declared in
      let size = m.2.size_is in
      (unset (share_of m.0.size), is place m.0 m.1, omega (arith, ap share_of size));
}

-- ---- an item more

-- one that gives no code a value
pub held_still : (t : Table) (h : Header) (items : List BodyItem) (x : BodyItem) → ((c : IdCode) → gives_to c x ≡ false) → AreHeld t h items → AreHeld t h (items ++ x ∷ [])
held_still t h items x none held = record {
  values = record { laid = held.values.laid; each = λ place c declared event. held.values.each place c declared event ∙ sym (final_other c items x (none c)) };
  shares = held.shares;
}

-- what a call that sets the value of a code promises
abbrev pub SetsValue : Form → List ℕ → ℕ → Table → Table → Type 0
SetsValue form text code old new = (c : Code) (k : Kept) → IsText form c text → c.event ≡ false → kept_at old code ≡ Some k
    → share_of c.size ≤ k.room → value_at_size c.size (held_at new code) ≡ Some (value_with c.size (model_form form) text)

module _ (v : HeadView) (h : Header) (old new : Table) (items : List BodyItem) (place : ℕ) (form : Form) (text : List ℕ) (c : IdCode)
    (views : IsViewOf v h) (declared : slice_get h.codes place ≡ Some c) (held : AreHeld old h items)
    (f : Kept → Kept) (room : (k : Kept) → (f k).room ≡ k.room) (changes : ChangesCode place f old new) where
  -- the room of all codes stays
  room_stays : (other : ℕ) (k : Kept) → kept_at old other ≡ Some k → (k' : Kept) × (kept_at new other ≡ Some k') × (k'.room ≡ k.room)
  room_stays other k was = by_test (other == place) refl
    where
      by_test : (b : Bool) → (other == place) ≡ b → (k' : Kept) × (kept_at new other ≡ Some k') × (k'.room ≡ k.room)
      by_test true e = (f k, changes other ∙ rw (e, was) refl, room k)
      by_test false e = (k, changes other ∙ rw e was, refl)

  shares_stay : HasShares new h
  shares_stay other d there =
      let s = held.shares other d there in
      let r = room_stays other s.0 s.1 in
      let more = s.2 in let room = r.2 in
      (r.0, r.1, omega (arith, more, room))

  -- and what is held of the others
  others_stay : (other : ℕ) → (other == place) ≡ false → held_at new other ≡ held_at old other
  others_stay other e =
      let same : kept_at new other ≡ kept_at old other = changes other ∙ rw e refl in
      ap (λ (o : Option Kept). unwrap_or (option_map (λ (k : Kept). k.held) o) Held.Unset) same

  -- the item that sets the value
  abbrev setting : BodyItem
  setting = BodyItem.Changes (record { code = c; form = model_form form; text = text })

  -- the code that is set has the value of the item
  set_there : ((d : Code) → slice_get v.codes.now place ≡ Some d → IsText form d text) → SetsValue form text place old new → c.event ≡ false
      → value_at_size c.size (held_at new place) ≡ final_value (items ++ setting ∷ []) c
  set_there good sets event =
      let m = code_at v.text.now v.codes.now h.codes place c views.codes declared in
      let k = held.shares place c declared in
      let size = m.2.size_is in
      let more = k.2 in
      let value = sets m.0 k.0 (good m.0 m.1) (m.2.event_is ∙ event) k.1 (omega (arith, ap share_of size, more)) in
      subst (λ n. value_at_size n (held_at new place) ≡ Some (value_with n (model_form form) text)) size value
      ∙ sym (final_new c items (record { code = c; form = model_form form; text = text }) ((bytes_eq-Decides c.text c.text).1 refl))

  -- of another code it says nothing
  gives_none : (other : ℕ) (d : IdCode) → slice_get h.codes other ≡ Some d → (other == place) ≡ false → (b : Bool) → same_code d c ≡ b → b ≡ false
  gives_none other d there apart true same =
      let one = same_place h.codes (parts v).index other place d c views.index there declared ((bytes_eq-Decides d.text c.text).0 same) in
      absurd (eqb-false other place apart one)
  gives_none other d there apart false same = refl

  pub change_holds : IsLaidOut new → ((d : Code) → slice_get v.codes.now place ≡ Some d → IsText form d text) → SetsValue form text place old new → AreHeld new h (items ++ setting ∷ [])
  change_holds laid good sets = record {
    values = record { laid = laid; each = λ other d there event. by_test other d there event (other == place) refl };
    shares = shares_stay;
  }
    where
      by_test : (other : ℕ) (d : IdCode) → slice_get h.codes other ≡ Some d → d.event ≡ false → (b : Bool) → (other == place) ≡ b
          → value_at_size d.size (held_at new other) ≡ final_value (items ++ setting ∷ []) d
      by_test other d there event true e =
          let one = eqb-true other place e in
          let same : d ≡ c = same_Some d c (sym there ∙ ap (slice_get h.codes) one ∙ declared) in
          rw (same, one) (set_there good sets (ap (λ (y : IdCode). y.event) (sym same) ∙ event))
      by_test other d there event false e =
          ap (value_at_size d.size) (others_stay other e) ∙ held.values.each other d there event
          ∙ sym (final_other d items setting (gives_none other d there e (same_code d c) refl))

-- so it is where the text alone was set
pub set_holds : (v : HeadView) (h : Header) (old new : Table) (items : List BodyItem) (place : ℕ) (form : Form) (text : List ℕ) (c : IdCode)
    → IsViewOf v h → slice_get h.codes place ≡ Some c → AreHeld old h items → ChangesCode place (with_text form text) old new → IsLaidOut new
    → ((d : Code) → slice_get v.codes.now place ≡ Some d → IsText form d text) → SetsValue form text place old new
    → AreHeld new h (items ++ BodyItem.Changes (record { code = c; form = model_form form; text = text }) ∷ [])
set_holds v h old new items place form text c views declared held changes = change_holds v h old new items place form text c views declared held (with_text form text) (λ k. refl) changes

-- ---- a text without the digits that its value does not need

all_rest : (k : ℕ) (ds : List ℕ) → list_all is_value_digit ds ≡ true → list_all is_value_digit (drop k ds) ≡ true
all_rest zero ds e = e
all_rest (suc k) [] e = e
all_rest (suc k) (d ∷ ds) e = all_rest k ds (second (is_value_digit d) (list_all is_value_digit ds) e)
  where
    second : (a b : Bool) → (a && b) ≡ true → b ≡ true
    second true b e = e
    second false b e = cc

some_digits : (ds : List ℕ) → ds ≢ [] → 0 < length ds
some_digits [] n = absurd (n refl)
some_digits (d ∷ ds) n = omega arith

-- gives the same value
pub short_gives : (text : List ℕ) (k : ℕ) → ((size : ℕ) → str_to_ascii_lowercase (drop k text) ≡ short (extended text size)) → GivesSame Vector text (drop k text)
short_gives text k rest code (some, digits, fits) =
    let n = code.size in
    let v = extended text n in
    let m = length-map text to_ascii_lowercase in
    let l = length_extended (str_to_ascii_lowercase text) n in
    let q = short_is_shortest v (not_empty v (omega (arith, l, m, some))) in
    let left = length-map (drop k text) to_ascii_lowercase in
    let there = ap length (rest n) in
    let filled = some_digits (short v) q.0 in
    let dropped = length-drop k text in
    let few : code.event ≡ false → length (drop k text) ≤ n = λ event. let all = fits event in omega (arith, dropped, all) in (
      (omega (arith, left, there, filled), all_rest k text digits, few),
      λ event.
          let all = fits event in
          let long : length v ≡ n = omega (arith, l, m, all) in
          ap Value.Bits (ap (λ (ds : List ℕ). extend ds n) (rest n) ∙ ap (extend (short v)) (sym long) ∙ q.1),
    )

pub gives_same : (form : Form) (text other : List ℕ) (place : ℕ) (old new : Table) → GivesSame form text other → SetsValue form other place old new → SetsValue form text place old new
gives_same form text other place old new same sets = λ c k good event kept room. sets c k (same c good).0 event kept room ∙ ap Some ((same c good).1 event)

-- ---- the item that was read last

-- a change of this code has a text that the code may have
pub good_text : (codes : List Code) (text : List ℕ) (place : ℕ) (form : Form) (d : Code) → HasGoodText codes text (Change place form) → slice_get codes place ≡ Some d → IsText form d text
good_text codes text place form d good there =
    let same : good.0 ≡ d = same_Some good.0 d (sym good.1 ∙ there) in
    subst (λ (y : Code). IsText form y text) same good.2

-- a change sets a text of the same value
pub text_holds : (item : Item) (place : ℕ) (form : Form) (text other : List ℕ) (old new : Table) → item ≡ Change place form → GivesSame form text other
    → SetsCode place (with_text form other) old new → (IsLaidOut old → SetsValue form other place old new) → HoldsOneMore old new item text
text_holds item place form text other old new is same sets value view h items x views good read held =
    let codes = view.codes.now in
    let change = subst (λ (i : Item). IsItem h.codes text i x) is read in
    let sound = subst (λ (i : Item). HasGoodText codes text i) is good in
    let fits : (d : Code) → slice_get codes place ≡ Some d → IsText form d text = λ d there. good_text codes text place form d sound there in
    let laid = held.values.laid in
    subst (λ (y : BodyItem). AreHeld new h (items ++ y ∷ [])) (sym change.2)
    (change_holds view h old new items place form text change.0 views change.1 held (with_text form other) (λ k. refl) (sets.changes laid) (sets.keeps.laid laid) fits
    (gives_same form text other place old new same (value laid)))

-- what is read gives no value where it is no change
pub other_gives : (codes : List IdCode) (text : List ℕ) (item : Item) (x : BodyItem) → IsItem codes text item x
    → ((place : ℕ) (form : Form) → item ≢ Change place form) → (c : IdCode) → gives_to c x ≡ false
other_gives codes text (Time t) x is none c = rw is refl
other_gives codes text (Begin s) x is none c = rw is refl
other_gives codes text End x is none c = rw is refl
other_gives codes text (Change place form) x is none c = absurd (none place form refl)
other_gives codes text Finish x is none c = absurd is

-- ---- a change whose text is given as a number too

-- the code has the value of its digits
pub bits_hold : (v : HeadView) (h : Header) (old new : Table) (items : List BodyItem) (i : Item) (text : List ℕ) (b : Bits) (place : ℕ) (form : Form)
    (x : BodyItem) → IsViewOf v h → AreHeld old h items → i ≡ Change place form → HasBits i text (Some b) → HasGoodText v.codes.now text i
    → IsItem h.codes text i x
    → ((k : Kept) → kept_at old place ≡ Some k → 8 ≤ k.room → ChangesCode place (with_text Vector (binary_digits b.len b.number)) old new)
    → IsLaidOut new → SetsValue Vector (binary_digits b.len b.number) place old new → AreHeld new h (items ++ x ∷ [])
bits_hold v h old new items i text b place form x views held is has good read changes laid sets =
    let digits = binary_digits b.len b.number in
    let codes = v.codes.now in
    let same : place ≡ has.0 = let one = sym is ∙ has.1 in cc in
    let change = subst (λ (j : Item). IsItem h.codes text j x) has.1 read in
    let sound = subst (λ (j : Item). HasGoodText codes text j) has.1 good in
    let there = ap (slice_get h.codes) same ∙ change.1 in
    let k = held.shares place change.0 there in
    let enough = k.2 in
    let fits : (d : Code) → slice_get codes place ≡ Some d → IsText Vector d digits = λ d there. subst (IsText Vector d) has.2
    (good_text codes text has.0 Vector d sound (ap (slice_get codes) (sym same) ∙ there)) in
    subst (λ (y : BodyItem). AreHeld new h (items ++ y ∷ [])) (sym (rw (sym has.2) change.2))
    (set_holds v h old new items place Vector digits change.0 views there held (changes k.0 k.1 (omega (arith, enough))) laid fits sets)
