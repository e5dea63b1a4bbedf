-- The line of the item that was read last, and the text with it.
use Rattle.vcd_engine.proofs.Cited.{◌≡◌, ℕ, ◌<◌, Bool, true, false, ◌&&◌, List, [], ◌∷◌, ◌++◌, length, map, slice_get, Some, None, is_some, refl, sym, ap, subst, ◌∙◌, append-nil, append_assoc, arith, last_or, map-append, IdCode, Header, BodyItem, Entry, leaves_open, time_after, item_line, may_keep, text_after, time_unless, text_after-append, leaves_open_is, change_line, HeadShown, parts, text_in, IsCode, Views, Code, HeadView, code_at, text_within, IsText, AreRegsAfter, model_form, regs_after, Regs, Form, Scalar, Vector, RealText, Item, Time, Begin, End, Change, Finish, time_due, IsItem, HasWritten, LastTells, is_event_at, may_be_kept, times_with, ItemText, last_or-snoc}

-- the text of a sound change is not empty
pub some_text : (form : Form) (code : Code) (text : List ℕ) → IsText form code text → 0 < length text
some_text Scalar code text t = let e = ap length t.2 in omega arith
some_text Vector code text t = t.0
some_text RealText code text t = t.0

-- the code that the view has at this index is the header's
code_is : (s : HeadShown) (h : Header) (place : ℕ) (c : IdCode) (code : Code) → Views s h → slice_get h.codes place ≡ Some c → slice_get s.codes place ≡ Some code → IsCode s.text code c
code_is s h place c code views declared there =
    let m = code_at s.text s.codes h.codes place c views.codes declared in
    let known = m.1 in
    let same : m.0 ≡ code = cc in
    subst (λ (y : Code). IsCode s.text y c) same m.2

-- so what is written for a change is the line of its item
pub change_is : (s : HeadShown) (h : Header) (place : ℕ) (form : Form) (x : BodyItem) (code : Code) (id text : List ℕ) → Views s h
    → IsItem h.codes text (Change place form) x → slice_get s.codes place ≡ Some code
    → id ≡ text_in s.text code.start code.len
    → change_line (record { code = record { text = id; size = code.size; event = code.event }; form = model_form form; text = text }) ≡ item_line x
change_is s h place form x code id text views is there ids =
    let k = code_is s h place is.0 code views is.1 there in
    let name : id ≡ is.0.text = ids ∙ text_within s.text code.start code.len k.within ∙ k.text_is in
    let same : record { text = id; size = code.size; event = code.event } ≡ is.0 = rw (name, k.size_is, k.event_is) refl in
    ap (λ (c : IdCode). change_line (record { code = c; form = model_form form; text = text })) same ∙ ap item_line (sym is.2)

-- ---- the text with one entry more

-- the line of its time, where that is due, and its own line
pub text_with : (before : List ℕ) (kept : List Entry) (e : Entry) (time : ℕ) (t : ItemText) → e.time ≡ time → HasWritten before kept t
    → LastTells (times_with before kept) time → text_after before (kept ++ e ∷ []) ≡ text_after before kept ++
    (time_due t.written time ++ item_line e.item)
text_with before kept e time t is has tells =
    text_after-append before kept (e ∷ [])
    ∙ ap (λ l. text_after before kept ++ l)
    (append-nil (time_unless (times_with before kept) e.time ++ item_line e.item)
    ∙ ap (λ l. l ++ item_line e.item) (ap (time_unless (times_with before kept)) is ∙ tells ∙ ap (λ o. time_due o time) (sym has.last)))

-- and then its time was written last
pub written_with : (before : List ℕ) (kept : List Entry) (e : Entry) (time : ℕ) → e.time ≡ time → HasWritten before (kept ++ e ∷ []) (record { written = Some time })
written_with before kept e time is = record {
  last = ap (λ t. Some t) (sym is) ∙ sym (ap (last_or None) (ap (λ l. before ++ l) (map-append (λ (x : Entry). x.time) kept (e ∷ []))
      ∙ sym (append_assoc before (map (λ x. x.time) kept) (e.time ∷ []))) ∙ last_or-snoc None (times_with before kept) e.time);
}

-- ---- the registers

-- a section is open
pub section_is : (items : List BodyItem) (r : Regs) → AreRegsAfter items r → is_some r.section ≡ leaves_open items
section_is items r known = sym (leaves_open_is items (time_after items) (is_some r.section) (record { time = refl; opens = known.ended }))

-- ---- which items may be kept

and_swap : (a b : Bool) → (a && b) ≡ (b && a)
and_swap true true = refl
and_swap true false = refl
and_swap false true = refl
and_swap false false = refl

-- the variables of a code are events where the header says so
event_is : (v : HeadView) (h : Header) (place : ℕ) (c : IdCode) → Views (parts v) h → slice_get h.codes place ≡ Some c → is_event_at v place ≡ c.event
event_is v h place c views declared = let m = code_at (parts v).text (parts v).codes h.codes place c views.codes declared in rw m.1 m.2.event_is

-- an item may be kept where the definitions may keep it
pub may_is : (v : HeadView) (h : Header) (items : List BodyItem) (before : Regs) (text : List ℕ) (item : Item) (x : BodyItem) → Views (parts v) h
    → AreRegsAfter items before → IsItem h.codes text item x → may_be_kept v (regs_after before item) item ≡ may_keep x (leaves_open items)
may_is v h items before text (Time t) x views known e = rw e refl
may_is v h items before text (Begin s) x views known e = rw e refl
may_is v h items before text End x views known e = rw e refl
may_is v h items before text (Change place form) x views known e =
    rw (e.2, section_is items before known, event_is v h place e.0 views e.1, and_swap (leaves_open items) e.0.event) refl
may_is v h items before text Finish x views known e = absurd e
