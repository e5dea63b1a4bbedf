-- Which items `pick` keeps, and what that makes of its text.
use Rattle.vcd_engine.proofs.Cited.{◌≡◌, ℕ, Bool, true, false, ◌&&◌, cond, List, [], ◌∷◌, ◌++◌, Option, Some, None, refl, sym, ap, ap₂, subst, ◌∙◌, append-nil, append_assoc, Header, head_for, BodyItem, Entry, entry_after, time_after, closing, last_mark, text_after, pick_kept, keeps, kept_more, kept_same, picked_by, time_unless_last, parts, Views, HeadView, AreRegsAfter, regs_after, Item, Time, Begin, End, Change, Finish, Regs, DueBy, last_time_of, IsItem, HasWritten, LastTells, times_with, ArePicked, is_kept, is_of_chosen, names_in, ItemText, Pick}
use Rattle.vcd_model.specs.Pick.{pick_open, pick_close}
use Rattle.vcd_engine.proofs.ItemTextLemmas.{may_is}

module _ (v : HeadView) (h : Header) (items : List BodyItem) (before : Regs) (p : Pick) (views : Views (parts v) h) (known : AreRegsAfter items before) (is : ArePicked p h items) where
  -- the item is kept where the definitions keep it
  pub kept_is : (text : List ℕ) (item : Item) (x : BodyItem) → IsItem h.codes text item x → is_kept p.flags.now v (regs_after before item) item ≡ keeps (picked_by h (names_in p)) items x
  kept_is text item x e = ap₂ (λ p q. p && q) (chosen_is item x e) (may_is v h items before text item x views known e)
    where
      chosen_is : (i : Item) (y : BodyItem) → IsItem h.codes text i y → is_of_chosen p.flags.now i ≡ picked_by h (names_in p) (entry_after items y)
      chosen_is (Time t) y e = rw e refl
      chosen_is (Begin s) y e = rw e refl
      chosen_is End y e = rw e refl
      chosen_is (Change place form) y e = rw e.2 (is.chosen place e.0 e.1)
      chosen_is Finish y e = absurd e

  -- and then the time is that of all items before it
  pub kept_time : (item : Item) → is_kept p.flags.now v (regs_after before item) item ≡ true → (regs_after before item).time ≡ time_after items
  kept_time (Time t) k = cc
  kept_time (Begin s) k = known.time_is
  kept_time End k = known.time_is
  kept_time (Change place form) k = known.time_is
  kept_time Finish k = cc

-- ---- the kept entries

-- the time that was written last tells of the time of all items
pub last_tells : (h : Header) (names : List (List ℕ)) (items : List BodyItem) (t : ℕ) → t ≡ time_after items → LastTells (times_with [] (pick_kept h names items)) t
last_tells h names items t e =
    subst (λ (u : ℕ). LastTells (times_with [] (pick_kept h names items)) u) (sym e)
    (time_unless_last (picked_by h names) items)

module _ (h : Header) (names : List (List ℕ)) (items : List BodyItem) (x : BodyItem) where
  -- what is due with an entry is due with its item
  pub due_one : (takes : List ℕ → Type 0) → keeps (picked_by h names) items x ≡ true
      → DueBy takes (text_after [] (pick_kept h names items)) (text_after [] (pick_kept h names items ++ entry_after items x ∷ []))
      → DueBy takes (pick_open h names items) (pick_open h names (items ++ x ∷ []))
  unfolding pick_open
  due_one takes k d = (
    d.0,
    ap (λ es. head_for h names ++ text_after [] es) (kept_more (picked_by h names) items x true k) ∙ ap (λ l. head_for h names ++ l) d.1
        ∙ sym (append_assoc (head_for h names) (text_after [] (pick_kept h names items)) d.0),
    d.2,
  )

  -- and nothing with an item that is not kept
  pub none_due : keeps (picked_by h names) items x ≡ false → pick_open h names (items ++ x ∷ []) ≡ pick_open h names items ++ []
  unfolding pick_open
  none_due k = ap (λ es. head_for h names ++ text_after [] es) (kept_same (picked_by h names) items x k) ∙ sym (append-nil (pick_open h names items))

module _ (h : Header) (items : List BodyItem) (p : Pick) (is : ArePicked p h items) (x : BodyItem) where
  -- what is kept after an item that was written
  pub picks_on : (t : ItemText) → keeps (picked_by h (names_in p)) items x ≡ true
      → HasWritten [] (pick_kept h (names_in p) items ++ entry_after items x ∷ []) t
      → ArePicked (record { names = p.names; flags = p.flags; text = t }) h (items ++ x ∷ [])
  picks_on t k w = record { chosen = is.chosen; written = subst (λ (es : List Entry). HasWritten [] es t) (sym (kept_more (picked_by h (names_in p)) items x true k)) w }

  -- and after one that was not
  pub picks_still : keeps (picked_by h (names_in p)) items x ≡ false → ArePicked p h (items ++ x ∷ [])
  picks_still k = record { chosen = is.chosen; written = subst (λ (es : List Entry). HasWritten [] es p.text) (sym (kept_same (picked_by h (names_in p)) items x k)) is.written }

-- the end of the text closes it
pub closes : (h : Header) (names : List (List ℕ)) (items : List BodyItem) (last : Option ℕ) → last ≡ last_mark items
    → closing (times_with [] (pick_kept h names items)) last ≡ pick_close h names items
unfolding pick_close
closes h names items last e = ap (closing (times_with [] (pick_kept h names items))) e

-- the last timestamp, where there is one, is the time of all items
pub last_time : (items : List BodyItem) (r : Regs) (t : ℕ) → AreRegsAfter items r → last_time_of r ≡ Some t → t ≡ time_after items
last_time items r t known e = by_mark r.marked e
  where
    by_mark : (b : Bool) → cond b (Some r.time) None ≡ Some t → t ≡ time_after items
    by_mark true e = let s = known.time_is in cc
    by_mark false e = cc
