-- What `cut` writes, and that it keeps values.
use Rattle.vcd_laws.proofs.Cited.{◌≡◌, ℕ, zero, suc, ◌^◌, ◌<◌, ◌≤◌, Bool, true, false, cond, not, ◌||◌, ◌==◌, nat_le, List, [], ◌∷◌, ◌++◌, filter, flat_map, Option, Some, None, IsTrue, refl, sym, ap, ◌∙◌, subst, arith, ◌⊎◌, inl, inr, list_any, append_assoc, append-nil, or_parts, IdCode, Header, BodyItem, Entry, time_after, Value, value_at, value_before, time_unless, text_after, closing, last_mark, declared_code, head_for, is_mark_above, ends_cut, within, cut_kept, start_section, is_started, times_of, closing_above, Opened, items_in, fault_in, KeepsValues, CutKeeps, cut_text, AreFit, time_behind, open_behind, entries_from, at_start, entries_are, plain_line, IsRead, stands_behind, last_time, Parts, parts_items, parts_text, parts_read, last_mark_is, time_behind_small, fit_front, AreCodes, IsGoodInput, filter_words, at_contained, all_within, none_kept, all_below, within_is, times_within, start_items, start_text, cuts, cut_mark, closing_above_is, above_is, cut_parts, cut_values, cut_facts, later_none, last_below}
use Rattle.vcd_model.specs.Items.{marks}
use Rattle.vcd_model.specs.Cut.{cut_open, cut_close}
use Rattle.vcd_laws.proofs.OpenedBodies.{opened_fit, opened_shut, opens_good}
use Rattle.vcd_model.proofs.CutSplit.{ended}

regroup : (h s t u : List ℕ) → h ++ s ++ t ++ u ≡ h ++ (s ++ (t ++ u))
regroup h s t u = append_assoc (h ++ s) t u ∙ append_assoc h s (t ++ u)

-- the text after the head
abbrev pub cut_body : Header → ℕ → ℕ → List BodyItem → List ℕ
cut_body h a b items =
    start_section h a (within b items)
    ++ (text_after (a ∷ []) (cut_kept a b items) ++ closing (a ∷ times_of (cut_kept a b items)) (cut_mark a b (ends_cut b items) (last_mark (within b items))))

not_started : (a : ℕ) (q : List BodyItem) → is_started a q ≡ false → time_after q < a
not_started a q h =
    let o = or_parts (a == 0) (list_any (nat_le a) (marks q)) h in
    all_below a 0 (marks q) [] (above_zero a o.0) (ap (list_any (nat_le a)) (append-nil (marks q)) ∙ o.1)
  where
    above_zero : (a : ℕ) → (a == 0) ≡ false → 0 < a
    above_zero zero e = cc
    above_zero (suc a) e = omega arith

text_case : (hd section text mark above : List ℕ) (ends started : Bool) → (ends ≡ true → started ≡ true) → (started ≡ false → text ≡ [])
    → cond ends (hd ++ cond started section [] ++ text ++ cond ends mark [])
    (hd ++ cond started section [] ++ text ++ cond ends mark [] ++ (cond started [] section ++ above)) ≡ hd ++
    (section ++ (text ++ cond ends mark above))
text_case hd section text mark above true true f g = regroup hd section text mark
text_case hd section text mark above true false f g = let e = f refl in cc
text_case hd section text mark above false true f g = ap (λ l. l ++ above) (append-nil (hd ++ section ++ text)) ∙ regroup hd section text above
text_case hd section text mark above false false f g =
    rw (g refl) (ap (λ l. l ++ (section ++ above)) (append-nil (hd ++ [] ++ []) ∙ append-nil (hd ++ []) ∙ append-nil hd))

as_cond : (b : Bool) (x y : List ℕ) → ◌≡◌ {A = List ℕ} (elim b [ true ↦ x | false ↦ y ]) (cond b x y)
as_cond true x y = refl
as_cond false x y = refl

mark_case : (a b : ℕ) (ts : List ℕ) (ends : Bool) (m : Option ℕ) → cond ends (time_unless (a ∷ ts) b) (closing_above a ts m) ≡ closing (a ∷ ts) (cut_mark a b ends m)
mark_case a b ts true m = refl
mark_case a b ts false m = closing_above_is a ts m

-- a cut of a cut
within_again : (b : ℕ) (items : List BodyItem) → (within b (within b items) ≡ within b items) × (ends_cut b (within b items) ≡ ends_cut b items)
within_again b [] = (refl, refl)
within_again b (x ∷ xs) = by_mark (is_mark_above b x) refl (within_again b xs)
  where
    by_mark : (m : Bool) → is_mark_above b x ≡ m → (within b (within b xs) ≡ within b xs) × (ends_cut b (within b xs) ≡ ends_cut b xs)
        → ((x ∷ cond (is_mark_above b x) [] (within b (cond m [] (within b xs)))) ≡ x ∷ cond m [] (within b xs))
        × ((is_mark_above b x || ends_cut b (cond m [] (within b xs))) ≡ (m || ends_cut b xs))
    by_mark true e more = (rw e refl, rw e refl)
    by_mark false e more = (rw e (ap (λ l. x ∷ l) more.0), rw e more.1)

open_within : (h : Header) (a b : ℕ) (items : List BodyItem) → cut_open h a b (within b items) ≡ cut_open h a b items
unfolding cut_open
open_within h a b items = let w = within_again b items in rw (w.0, w.1) refl

cut_text_is : (h : Header) (a b : ℕ) (items : List BodyItem) → (ends_cut b items ≡ true → is_started a (within b items) ≡ true)
    → cut_text h a b items ≡ head_for h [] ++ cut_body h a b items
unfolding cut_open cut_close
cut_text_is h a b items f =
    let ks = cut_kept a b items in
    let q = within b items in
    as_cond (ends_cut b items) (cut_open h a b (within b items)) (cut_open h a b items ++ cut_close h a b items)
    ∙ ap (λ l. cond (ends_cut b items) l (cut_open h a b items ++ cut_close h a b items)) (open_within h a b items)
    ∙ text_case (head_for h []) (start_section h a q) (text_after (a ∷ []) ks) (time_unless (a ∷ times_of ks) b)
    (closing_above a (times_of ks) (last_mark q)) (ends_cut b items) (is_started a q) f
    (λ s. ap (text_after (a ∷ [])) (none_kept a q s))
    ∙ ap (λ l. head_for h [] ++ (start_section h a q ++ (text_after (a ∷ []) ks ++ l))) (mark_case a b (times_of ks) (ends_cut b items) (last_mark q))

-- ---- the law

time_is : (codes : List IdCode) (q : List BodyItem) → AreFit codes 0 false q → time_after q ≡ time_behind 0 q
time_is codes q fit = (stands_behind codes [] 0 false q at_start fit).time

pub within_fit : (codes : List IdCode) (b : ℕ) (items : List BodyItem) → AreFit codes 0 false items → AreFit codes 0 false (within b items)
within_fit codes b items fit = let w = within_is b items in fit_front codes 0 false (within b items) w.rest (subst (AreFit codes 0 false) w.whole fit)

pub within_shut : (codes : List IdCode) (b : ℕ) (items : List BodyItem) → AreFit codes 0 false items → (ends_cut b items ≡ true)
    ⊎ (open_behind false items ≡ false) → open_behind false (within b items) ≡ false
within_shut codes b items fit h = by_end (ends_cut b items) refl h
  where
    by_end : (e : Bool) → ends_cut b items ≡ e → (ends_cut b items ≡ true) ⊎ (open_behind false items ≡ false) → open_behind false (within b items) ≡ false
    by_end true e g = (ended codes b 0 false items fit e).1
    by_end false e (inl g) = cc
    by_end false e (inr g) = ap (open_behind false) (all_within b items e) ∙ g

mark_last : (codes : List IdCode) (a b : ℕ) (items : List BodyItem) (ends : Bool) (e : ℕ) → a ≤ b → AreCodes codes → AreFit codes 0 false items
    → open_behind false (within b items) ≡ false → ends_cut b items ≡ ends
    → cut_mark a b ends (last_mark (within b items)) ≡ Some e → (last_time a (filter (cuts a) (entries_from 0 false (within b items))) ≤ e) × (e < 2 ^ 64)
mark_last codes a b items true e l are fit shut h m =
    let same : b ≡ e = cc in
    let late = (ended codes b 0 false items fit h).0 in
    let small = time_behind_small codes 0 false (within b items) (omega arith) (within_fit codes b items fit) in
    let last = last_below b a (filter (cuts a) (entries_from 0 false (within b items))) l
    (filter_words (λ x. x.time ≤ b) (cuts a) (entries_from 0 false (within b items)) (times_within b 0 false items (omega arith))) in
    (omega arith, omega arith)
mark_last codes a b items false e l are fit shut h m =
    let g = above_is a (last_mark (within b items)) e m in
    let s = last_mark_is 0 (within b items) e g.1 in
    let small = time_behind_small codes 0 false (within b items) (omega arith) (within_fit codes b items fit) in
    let above = g.0 in
    let facts = cut_facts codes a (within b items) are (within_fit codes b items fit) shut in
    let last = facts.last (omega arith) in
    (omega arith, omega arith)

cut_keeps_items : (h : Header) (a b : ℕ) (items : List BodyItem) (text : List ℕ) → a < 2 ^ 64 → a ≤ b → AreCodes h.codes
    → AreFit h.codes 0 false items → open_behind false (within b items) ≡ false → text ≡ cut_body h a b items
    → KeepsValues h.codes text (λ t. (a ≤ t) × (t ≤ b)) items
cut_keeps_items h a b items text small l are fit shut e =
    let q = within b items in
    let fitq = within_fit h.codes b items fit in
    let ks = filter (cuts a) (entries_from 0 false q) in
    let mark = cut_mark a b (ends_cut b items) (last_mark q) in
    let vals : IdCode → Option Value = λ c. value_before q c a in
    let cs = filter (λ c. not c.event) h.codes in
    let parts = cut_parts h.codes a b q mark small are fitq shut (λ x m. mark_last h.codes a b items (ends_cut b items) x l are fit shut refl m) in
    let es = entries_are h.codes [] 0 false q at_start fitq in
    let is : IsRead h.codes text (parts_items (start_items a vals cs) (a ∷ []) ks mark)
    = parts_read h.codes (start_items a vals cs) (a ∷ []) ks mark text parts
    (e ∙ (ap (λ r. start_section h a q ++ (text_after (a ∷ []) (filter (cuts a) r) ++ closing (a ∷ times_of (filter (cuts a) r)) mark)) es
    ∙ ap (λ r. r ++ (text_after (a ∷ []) ks ++ closing (a ∷ times_of ks) mark)) (start_text h a q))) in
    record {
      whole = is.whole;
      values = λ c t in_list quiet in_time.
          let declared = at_contained (λ (d : IdCode). declared_code h.codes d.text ≡ Some d) h.codes c are.found in_list in
          ap (λ (r : List _). value_at r c t) is.items
          ∙ cut_values h.codes a b q mark c t are fitq shut parts declared quiet in_time.0
          ∙ sym (later_none h.codes b items c t fit in_time.1);
    }

-- ---- what is written after the head

pub ends_or_shut : (o : Opened) (b : ℕ) → IsGoodInput o → IsTrue (ends_cut b (items_in o)) ⊎ (fault_in o ≡ None) → (ends_cut b (items_in o) ≡ true)
    ⊎ (open_behind false (items_in o) ≡ false)
ends_or_shut o b good (inl h) = inl h
ends_or_shut o b good (inr none) = inr (opened_shut o good none)

started : (codes : List IdCode) (a b : ℕ) (items : List BodyItem) → a ≤ b → (s : Bool) → is_started a (within b items) ≡ s → ends_cut b items ≡ true
    → AreFit codes 0 false items → is_started a (within b items) ≡ true
started codes a b items l true s h fit = s
started codes a b items l false s h fit =
    let low = not_started a (within b items) s in
    let same = time_is codes (within b items) (within_fit codes b items fit) in
    let high = (ended codes b 0 false items fit h).0 in
    absurd (omega arith)

abbrev pub cut_entries : ℕ → ℕ → List BodyItem → List Entry
cut_entries a b items = filter (cuts a) (entries_from 0 false (within b items))

abbrev pub cut_start : Header → ℕ → ℕ → List BodyItem → List BodyItem
cut_start h a b items = start_items a (λ c. value_before (within b items) c a) (filter (λ c. not c.event) h.codes)

abbrev pub cut_end : ℕ → ℕ → List BodyItem → Option ℕ
cut_end a b items = cut_mark a b (ends_cut b items) (last_mark (within b items))

-- the text of a cut is its head, the start section and what is kept
pub cut_text_after_head : (o : Opened) (a b : ℕ) → a ≤ b → IsGoodInput o → cut_text o.header a b (items_in o) ≡ head_for o.header [] ++ cut_body o.header a b (items_in o)
cut_text_after_head o a b l good =
    let h = o.header in
    let items = items_in o in
    cut_text_is h a b items (λ e. started h.codes a b items l (is_started a (within b items)) refl e (opened_fit o good))

-- the items of what is written
pub record CutBehind (h : Header) (a b : ℕ) (items : List BodyItem) : Type 0 where
  pub text : cut_text h a b items ≡ head_for h [] ++ flat_map plain_line (parts_items (cut_start h a b items) (a ∷ []) (cut_entries a b items) (cut_end a b items))
  pub parts : Parts h.codes (cut_start h a b items) (a ∷ []) (cut_entries a b items) (cut_end a b items)
  pub fit : AreFit h.codes 0 false (within b items)
  pub keeps : KeepsValues h.codes (flat_map plain_line (parts_items (cut_start h a b items) (a ∷ []) (cut_entries a b items) (cut_end a b items))) (λ t. (a ≤ t) × (t ≤ b)) items

pub cut_behind : (o : Opened) (a b : ℕ) → a < 2 ^ 64 → a ≤ b → IsGoodInput o → IsTrue (ends_cut b (items_in o)) ⊎ (fault_in o ≡ None) → CutBehind o.header a b (items_in o)
cut_behind o a b small l good ends =
    let h = o.header in
    let items = items_in o in
    let q = within b items in
    let fit = opened_fit o good in
    let fitq = within_fit h.codes b items fit in
    let shut = within_shut h.codes b items fit (ends_or_shut o b good ends) in
    let ks = cut_entries a b items in
    let mark = cut_end a b items in
    let parts = cut_parts h.codes a b q mark small good.codes fitq shut (λ x m. mark_last h.codes a b items (ends_cut b items) x l good.codes fit shut refl m) in
    let es = entries_are h.codes [] 0 false q at_start fitq in
    let text = flat_map plain_line (parts_items (cut_start h a b items) (a ∷ []) ks mark) in
    let body : cut_body h a b items ≡ text
    = ap (λ r. start_section h a q ++ (text_after (a ∷ []) (filter (cuts a) r) ++ closing (a ∷ times_of (filter (cuts a) r)) mark)) es
    ∙ ap (λ r. r ++ (text_after (a ∷ []) ks ++ closing (a ∷ times_of ks) mark)) (start_text h a q)
    ∙ parts_text h.codes (cut_start h a b items) (a ∷ []) ks mark parts in
    record {
      text = cut_text_is h a b items (λ e. started h.codes a b items l (is_started a q) refl e fit) ∙ ap (λ t. head_for h [] ++ t) body;
      parts = parts;
      fit = fitq;
      keeps = cut_keeps_items h a b items text small l good.codes fit shut (sym body);
    }

-- ---- the law

pub cut_keeps : CutKeeps
cut_keeps limit input o a b small l opens ends =
    let good = opens_good limit input o opens in
    let items = items_in o in
    let fit = opened_fit o good in
    let shut = within_shut o.header.codes b items fit (ends_or_shut o b good ends) in
    let text = cut_body o.header a b items in (
      text,
      cut_text_is o.header a b items (λ h. started o.header.codes a b items l (is_started a (within b items)) refl h fit),
      cut_keeps_items o.header a b items text small l good.codes fit shut refl,
    )
