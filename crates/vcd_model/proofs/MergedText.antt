-- The text of a merge, if one item more comes after all others.
use Rattle.vcd_model.proofs.Cited.{◌≡◌, ℕ, ◌+◌, ◌*◌, ◌≤◌, Bool, true, false, cond, ◌&&◌, List, [], ◌∷◌, ◌++◌, map, Option, Some, None, refl, sym, ap, ◌∙◌, subst, arith, inl, inr, AllByRecursion, last_or, map-append, each_after, Header, code_place, new_code, renamed, merged_head, BodyItem, Change, Entry, leaves_open, time_after, change_line, item_line, time_unless, time_due, text_after, may_keep, kept_by, Dump, Key, key_lt, Keyed, factor, is_change, keyed_after, merge_kept, due_with, entry_for, is_merged, keyed_own, keyed_rest, written_with}
use Rattle.std.proofs.Common.{append-nil, append_assoc}
use Rattle.vcd_model.specs.Merge.{merge_open}
use Rattle.vcd_model.proofs.BodyFacts.{all_append}
use Rattle.vcd_model.proofs.Growing.{text_after-append, kept_by-append}
use Rattle.vcd_model.proofs.KeptLines.{Rise, last_is_enough, last_or-snoc}
use Rattle.vcd_model.proofs.MergeOrder.{Before, IsSorted, key_before, not_behind}
use Rattle.vcd_model.proofs.MergeOrder as order

-- the times of the changes that are kept
abbrev merged_times : List Keyed → List ℕ
merged_times ks = map (λ e. e.time) (merge_kept ks)

-- an item is written at the time of its key
abbrev pub IsTimed : Keyed → Type 0
IsTimed k = k.entry.time ≡ k.key.time

timed_own : (hs : List Header) (n : ℕ) (es : List Header) (h : Header) (before items : List BodyItem)
    → AllByRecursion IsTimed (each_after (keyed_after (factor hs h) n (renamed es h)) before items)
timed_own hs n es h before [] = tt
timed_own hs n es h before (x ∷ items) = (refl, timed_own hs n es h (before ++ x ∷ []) items)

pub timed_rest : (hs : List Header) (n : ℕ) (es : List Header) (ds : List Dump) → AllByRecursion IsTimed (keyed_rest hs n es ds)
timed_rest hs n es [] = tt
timed_rest hs n es (d ∷ ds) = all_append IsTimed (keyed_own hs n es d) (keyed_rest hs (n + 1) (es ++ d.header ∷ []) ds)
    (timed_own hs n es d.header [] d.items) (timed_rest hs (n + 1) (es ++ d.header ∷ []) ds)

-- ---- a look at the last time is enough

rise_kept : (low t : ℕ) (ks : List Keyed) → IsSorted ks → AllByRecursion IsTimed ks → AllByRecursion (λ k. low ≤ k.key.time) ks
    → AllByRecursion (λ k. k.key.time ≤ t) ks → low ≤ t → Rise low t (merged_times ks)
rise_kept low t [] sorted timed least most fits = fits
rise_kept low t (k ∷ ks) sorted timed least most fits =
    by_keep (is_change k.entry.item && may_keep k.entry.item k.entry.inside)
    (rise_kept k.key.time t ks sorted.1 timed.1 (order.all_more (λ y. key_lt y.key k.key ≡ false) (λ y. k.key.time ≤ y.key.time) ks
    (λ y n. (not_behind y.key k.key n).time) sorted.0) most.1 most.0)
    (rise_kept low t ks sorted.1 timed.1 least.1 most.1 fits)
  where
    by_keep : (b : Bool) → Rise k.key.time t (merged_times ks) → Rise low t (merged_times ks) → Rise low t (map (λ e. e.time) (cond b (k.entry ∷ merge_kept ks) (merge_kept ks)))
    by_keep true later same = let e = timed.0 in let l = least.0 in (omega arith, subst (λ (n : ℕ). Rise n t (merged_times ks)) (sym e) later)
    by_keep false later same = same

zero_least : (ks : List Keyed) → AllByRecursion (λ k. 0 ≤ k.key.time) ks
zero_least [] = tt
zero_least (k ∷ ks) = (omega arith, zero_least ks)

-- if all items are at times up to t
pub unless_last : (ks : List Keyed) (t : ℕ) → IsSorted ks → AllByRecursion IsTimed ks → AllByRecursion (λ k. k.key.time ≤ t) ks
    → time_unless (merged_times ks) t ≡ time_due (last_or None (merged_times ks)) t
unless_last ks t sorted timed most = by_times (merged_times ks) (rise_kept 0 t ks sorted timed (zero_least ks) most (omega arith))
  where
    by_times : (ts : List ℕ) → Rise 0 t ts → time_unless ts t ≡ time_due (last_or None ts) t
    by_times [] r = refl
    by_times (u ∷ ts) r = last_is_enough t u ts r.1

-- ---- one item more

kept_more : (ks : List Keyed) (y : Keyed) (b : Bool) → is_merged y.entry ≡ b → merge_kept (ks ++ y ∷ []) ≡ merge_kept ks ++ cond b (y.entry ∷ []) []
kept_more ks y b e =
    ap (kept_by (λ e. is_change e.item)) (map-append (λ (k : Keyed). k.entry) ks (y ∷ []))
    ∙ kept_by-append (λ e. is_change e.item) (map (λ k. k.entry) ks) (y.entry ∷ [])
    ∙ ap (λ (c : Bool). merge_kept ks ++ cond c (y.entry ∷ []) []) e

-- an item that is not before another has no greater time
time_before : (a b : Key) → key_lt a b ≡ true → a.time ≤ b.time
time_before a b h = by_case (key_before a b h)
  where
    by_case : Before a b → a.time ≤ b.time
    by_case (inl l) = omega arith
    by_case (inr r) = let e = r.0 in omega arith

-- the time whose line was written last
pub written_more : (ks : List Keyed) (y : Keyed) (written : Option ℕ) → written ≡ last_or None (merged_times ks) → written_with written y.entry ≡ last_or None (merged_times (ks ++ y ∷ []))
written_more ks y written is = by_keep (is_merged y.entry) refl
  where
    by_keep : (b : Bool) → is_merged y.entry ≡ b → cond b (Some y.entry.time) written ≡ last_or None (merged_times (ks ++ y ∷ []))
    by_keep true e = sym (ap (λ es. last_or None (map (λ e. e.time) es)) (kept_more ks y true e)
        ∙ ap (last_or None) (map-append (λ (e : Entry). e.time) (merge_kept ks) (y.entry ∷ [])) ∙ last_or-snoc None (merged_times ks) y.entry.time)
    by_keep false e = is ∙ sym (ap (λ es. last_or None (map (λ e. e.time) es)) (kept_more ks y false e ∙ append-nil (merge_kept ks)))

-- the text with it
pub text_more : (hs : List Header) (ks : List Keyed) (y : Keyed) (written : Option ℕ) → written ≡ last_or None (merged_times ks) → IsSorted ks
    → AllByRecursion IsTimed ks → IsTimed y → AllByRecursion (λ k. key_lt k.key y.key ≡ true) ks
    → merge_open hs (ks ++ y ∷ []) ≡ merge_open hs ks ++ due_with written y.entry
unfolding merge_open
text_more hs ks y written is sorted timed own before = by_keep (is_merged y.entry) refl
  where
    by_keep : (b : Bool) → is_merged y.entry ≡ b → merged_head hs ++ text_after [] (merge_kept (ks ++ y ∷ [])) ≡
        (merged_head hs ++ text_after [] (merge_kept ks)) ++ cond b (time_due written y.entry.time ++ item_line y.entry.item) []
    by_keep false e = ap (λ es. merged_head hs ++ text_after [] es) (kept_more ks y false e ∙ append-nil (merge_kept ks)) ∙ sym (append-nil (merged_head hs ++ text_after [] (merge_kept ks)))
    by_keep true e =
        let most = order.all_more (λ k. key_lt k.key y.key ≡ true) (λ k. k.key.time ≤ y.entry.time) ks (λ k l. let m = time_before k.key y.key l in let n = own in omega arith) before in
        ap (λ es. merged_head hs ++ text_after [] es) (kept_more ks y true e)
        ∙ ap (λ l. merged_head hs ++ l) (text_after-append [] (merge_kept ks) (y.entry ∷ [])
        ∙ ap (λ l. text_after [] (merge_kept ks) ++ l) (append-nil (time_unless (merged_times ks) y.entry.time ++ item_line y.entry.item)
        ∙ ap (λ l. l ++ item_line y.entry.item) (unless_last ks y.entry.time sorted timed most ∙ ap (λ o. time_due o y.entry.time) (sym is))))
        ∙ sym (append_assoc (merged_head hs) (text_after [] (merge_kept ks)) (time_due written y.entry.time ++ item_line y.entry.item))

-- ---- what is due with a change

module _ (scale first : ℕ) (h : Header) (items : List BodyItem) (c : Change) (written : Option ℕ) where
  -- an event inside a section is left out
  pub left_out : (c.code.event && leaves_open items) ≡ true → due_with written (entry_for scale first h items (BodyItem.Changes c)) ≡ []
  left_out e = rw e refl

  pub left_time : (c.code.event && leaves_open items) ≡ true → written ≡ written_with written (entry_for scale first h items (BodyItem.Changes c))
  left_time e = rw e refl

  -- any other change is written, with its new code
  pub line_due : (c.code.event && leaves_open items) ≡ false → due_with written (entry_for scale first h items (BodyItem.Changes c))
      ≡ time_due written (scale * time_after items) ++ change_line
      (record {
        code = record {
          text = new_code
              (first + code_place h c.code.text);
          size = c.code.size;
          event = c.code.event;
        };
        form = c.form;
        text = c.text;
      })
  line_due e = rw e refl

  pub time_written : (c.code.event && leaves_open items) ≡ false → Some (scale * time_after items) ≡ written_with written (entry_for scale first h items (BodyItem.Changes c))
  time_written e = rw e refl
