-- A run, one byte of a path after the other.
use Rattle.vcd_head.proofs.Cited.{◌≡◌, ◌≢◌, ◌⊎◌, ℕ, zero, suc, ◌+◌, ◌-◌, ◌<◌, ◌≤◌, Bool, true, false, ◌&&◌, ◌||◌, ◌==◌, List, [], ◌∷◌, ◌++◌, length, take, drop, get_or, bytes_eq, slice_get, Some, inl, inr, refl, sym, ap, subst, ◌∙◌, arith, slice_cmp, list_any, nat_cmp, is_lt, drop-append_seam, take-append-add, cases_eq, cases_lt, eq-eqb, eqb-true, and_parts, false_from_ne_true, append_assoc, append-nil, length-take-le, take-append-drop, selects_path, same_bytes, take-take, Matches, AreShared, Notes, SelectsAll, first_of, next_bytes, next_in, text_at, Follows, GoesOn, IsDecided, Narrows, NameRun}
use Rattle.std.proofs.Common.{length-append}
use Rattle.vcd_head.proofs.MatchLemmas.{any_none, or_false, or_true}
use Rattle.vcd_head.proofs.RunLemmas.{all_behind, between, byte_first, cancel, ends_at_point, ends_elsewhere, equal_bytes, found_at, is_itself, next_is, none_behind, not_shorter, other_byte, some_passes, text_is, who_passes}

-- ---- one byte more

-- a byte that is a point, after a name that is the front
is_at_point : (byte : ℕ) (name front : List ℕ) → ((byte == 46) && bytes_eq name front) ≡ true → (byte ≡ 46) × (name ≡ front)
is_at_point byte name front e = let both = and_parts (byte == 46) (bytes_eq name front) e in (eqb-true byte 46 both.0, same_bytes name front both.1)

selects_behind : (byte : ℕ) (name front : List ℕ) → (byte ≡ 46) × (name ≡ front) → SelectsAll (front ++ byte ∷ []) name
selects_behind byte name front e = λ t.
    ap (λ l. selects_path l name) (append_assoc front (byte ∷ []) t ∙ ap (λ b. front ++ b ∷ t) e.0) ∙ ap (selects_path (front ++ 46 ∷ t)) e.1 ∙ ends_at_point front t

module _ (names : List (List ℕ)) (order : List ℕ) (old new : List Bool) (front : List ℕ) (byte : ℕ) (r s : NameRun) (ends : Bool) (f : Follows names order old front r)
    (m : Matches (λ name. (byte == 46) && bytes_eq name front) names old new ends) (n : Narrows names order byte r s) (whole : s.whole ≡ (r.whole || ends)) where
  kept : (i : ℕ) → i < length names → get_or old (get_or order i 0) false ≡ true → get_or new (get_or order i 0) false ≡ true
  kept i l e = m.flags (get_or order i 0) (text_at names order i) (text_is names order f.order_is i l) ∙ ap (λ b. b || ((byte == 46) && bytes_eq (text_at names order i) front)) e

  still_decided : (i : ℕ) → i < length names → IsDecided names order old front r.whole i → IsDecided names order new (front ++ byte ∷ []) s.whole i
  still_decided i l (inl d) = inl (whole ∙ ap (λ b. b || ends) d.0, kept i l d.1, all_behind front (byte ∷ []) (text_at names order i) d.2)
  still_decided i l (inr none) = inr (none_behind front (byte ∷ []) (text_at names order i) none)

  now_decided : (i : ℕ) (l : r.first ≤ i) (h : i < r.end) → next_in names order r.front_len i ≢ byte + 1 → IsDecided names order new (front ++ byte ∷ []) s.whole i
  now_decided i l h other = by_rest (f.inside i l h).0 (f.inside i l h).1
    where
      one_more : (a : ℕ) → a + 1 ≡ suc a
      one_more a = omega arith

      within : i < length names
      within = omega (arith, h, f.within)

      behind : (k : ℕ) → r.first ≤ k → k < r.end → (rest : List ℕ) → text_at names order k ≡ front ++ rest → drop r.front_len (text_at names order k) ≡ rest
      behind k a b rest e = ap (λ p. drop p (text_at names order k)) (f.front_len (omega (arith, a, b))) ∙ ap (drop (length front)) e ∙ drop-append_seam front rest

      by_rest : (rest : List ℕ) → text_at names order i ≡ front ++ rest → IsDecided names order new (front ++ byte ∷ []) s.whole i
      by_rest [] e =
          let is_front : text_at names order i ≡ front = e ∙ append-nil front in
          elim (cases_eq byte 46) [
            | inl point ↦
                let here : ((byte == 46) && bytes_eq (text_at names order i) front) ≡ true = rw (eq-eqb byte 46 point) (equal_bytes (text_at names order i) front is_front) in
                let text = text_is names order f.order_is i within in
                inl (
                  whole ∙ or_true r.whole ends (m.any ∙ some_passes (λ name. (byte == 46) && bytes_eq name front) names (get_or order i 0) (text_at names order i) text here),
                  m.flags (get_or order i 0) (text_at names order i) text ∙ or_true (get_or old (get_or order i 0) false) _ here,
                  selects_behind byte (text_at names order i) front (point, is_front),
                )
            | inr no_point ↦ inr (λ t. ap (λ l. selects_path l (text_at names order i)) (append_assoc front (byte ∷ []) t)
                ∙ ap (selects_path (front ++ byte ∷ t)) is_front ∙ ends_elsewhere front byte t no_point)
          ]
      by_rest (b ∷ rest) e = inr (λ t.
          ap (λ l. selects_path l (text_at names order i)) (append_assoc front (byte ∷ []) t) ∙ ap (selects_path (front ++ byte ∷ t)) e
          ∙ other_byte front t rest byte b (λ same. other (ap first_of (behind i l h (b ∷ rest) e) ∙ ap suc (sym same) ∙ sym (one_more byte))))

  pub follows_step : Follows names order new (front ++ byte ∷ []) s
  follows_step = record {
    up = n.up;
    within = omega (arith, n.high, f.within);
    front_len = λ l. n.front_len l ∙ ap (λ k. k + 1) (f.front_len (omega (arith, l, n.low, n.high))) ∙ sym (length-append front (byte ∷ []));
    inside = λ i l h.
        let il : r.first ≤ i = omega (arith, l, n.low) in
        let ih : i < r.end = omega (arith, h, n.high) in
        let x = f.inside i il ih in
        let y = byte_first x.0 byte (sym (next_is names order old front r f i il ih) ∙ n.has i l h) in
        (y.0, x.1 ∙ ap (λ q. front ++ q) y.1 ∙ sym (append_assoc front (byte ∷ []) y.0));
    outside = λ i l o. elim (cases_lt i r.first) [
      | inl b ↦ still_decided i l (f.outside i l (inl b))
      | inr b ↦ elim (cases_lt i r.end) [
        | inl a ↦ now_decided i b a (n.others i b a o)
        | inr a ↦ still_decided i l (f.outside i l (inr a))
      ]
    ];
    whole = λ e. some_whole r.whole ends refl refl (sym whole ∙ e);
    same = λ p q name a b. m.flags p name a ∙ ap (λ k. k || ((byte == 46) && bytes_eq name front)) (f.same p q name a b) ∙ sym (m.flags q name b);
    order_is = f.order_is;
  }
    where
      some_whole : (w e : Bool) → r.whole ≡ w → ends ≡ e → (w || e) ≡ true → (i : ℕ) × (i < length names) × SelectsAll (front ++ byte ∷ []) (text_at names order i)
      some_whole true e a b h = let x = f.whole a in (x.0, x.1, all_behind front (byte ∷ []) (text_at names order x.0) x.2)
      some_whole false true a b h =
          let who = who_passes (λ name. (byte == 46) && bytes_eq name front) names (sym m.any ∙ b) in
          let i = found_at names order f.order_is who.0 who.1 who.2 in
          (i.0, i.1, subst (SelectsAll (front ++ byte ∷ [])) (sym i.3) (selects_behind byte who.1 front (is_at_point byte who.1 front who.3)))
      some_whole false false a b h = cc

  pub notes_step : Notes names (front ++ byte ∷ []) old new
  notes_step p name at = by_test ((byte == 46) && bytes_eq name front) refl
    where
      by_test : (b : Bool) → ((byte == 46) && bytes_eq name front) ≡ b → (get_or new p false ≡ get_or old p false) ⊎ ((get_or new p false ≡ true) × SelectsAll (front ++ byte ∷ []) name)
      by_test false e = inl (m.flags p name at ∙ or_false (get_or old p false) _ e)
      by_test true e = inr (m.flags p name at ∙ or_true (get_or old p false) _ e, selects_behind byte name front (is_at_point byte name front e))

-- ---- bytes that all names of the run continue with

-- first bytes that are the same
same_taken : (n : ℕ) (a b : List ℕ) → n ≤ length b → AreShared a b n → take n a ≡ take n b
same_taken zero a b l s = refl
same_taken (suc n) [] b l s = absurd (omega (arith, s.0))
same_taken (suc n) (x ∷ a) [] l s = absurd (omega (arith, l))
same_taken (suc n) (x ∷ a) (y ∷ b) l s = λ j. s.1 0 (omega arith) j ∷ same_taken n a b (omega (arith, l)) (omega (arith, s.0), λ i h. s.1 (suc i) (omega (arith, h))) j

module _ (names : List (List ℕ)) (order : List ℕ) (flags : List Bool) (front bytes : List ℕ) (n : ℕ) (r s : NameRun)
    (f : Follows names order flags front r) (some : r.first < r.end) (within : n ≤ length bytes)
    (low : AreShared (next_bytes names order r.front_len r.first) bytes n) (high : AreShared (next_bytes names order r.front_len (r.end - 1)) bytes n)
    (first : s.first ≡ r.first) (end : s.end ≡ r.end) (front_len : s.front_len ≡ r.front_len + n) (whole : s.whole ≡ r.whole) where
  begins : (i : ℕ) (l : r.first ≤ i) (m : i < r.end) → AreShared (next_bytes names order r.front_len i) bytes n → (f.inside i l m).0 ≡ take n bytes ++ drop n (f.inside i l m).0
  begins i l m same =
      let x = f.inside i l m in
      let rest : next_bytes names order r.front_len i ≡ x.0 = ap (λ p. drop p (text_at names order i)) (f.front_len some) ∙ ap (drop (length front)) x.1 ∙ drop-append_seam front x.0 in
      sym (take-append-drop n x.0) ∙ ap (λ k. k ++ drop n x.0) (same_taken n x.0 bytes within (subst (λ t. AreShared t bytes n) rest same))

  between_all : (i : ℕ) → r.first ≤ i → i < r.end → (rest : List ℕ) × (text_at names order i ≡ (front ++ take n bytes) ++ rest)
  between_all i l m =
      let lf : r.first ≤ r.first = omega arith in
      let last : r.end - 1 < r.end = omega (arith, some) in
      let ll : r.first ≤ r.end - 1 = omega (arith, some) in
      let x = f.inside r.first lf some in
      let y = f.inside i l m in
      let z = f.inside (r.end - 1) ll last in
      let a = begins r.first lf some low in
      let b = begins (r.end - 1) ll last high in
      let under = f.order_is.rising r.first i l (omega (arith, m, f.within)) in
      let over = f.order_is.rising i (r.end - 1) (omega (arith, m)) (omega (arith, last, f.within)) in
      let below : is_lt (slice_cmp nat_cmp y.0 (take n bytes ++ drop n x.0)) ≡ false = ap is_lt (sym (cancel front y.0 (take n bytes ++ drop n x.0)))
      ∙ (λ j. is_lt (slice_cmp nat_cmp (sym y.1 j) (front ++ sym a j))) ∙ ap (λ t. is_lt (slice_cmp nat_cmp (text_at names order i) t)) (sym x.1)
      ∙ under in
      let above : is_lt (slice_cmp nat_cmp (take n bytes ++ drop n z.0) y.0) ≡ false = ap is_lt (sym (cancel front (take n bytes ++ drop n z.0) y.0))
      ∙ (λ j. is_lt (slice_cmp nat_cmp (front ++ sym b j) (sym y.1 j))) ∙ ap (λ t. is_lt (slice_cmp nat_cmp t (text_at names order i))) (sym z.1)
      ∙ over in
      let rest = between (take n bytes) (drop n x.0) y.0 (drop n z.0) below above in
      (rest.0, y.1 ∙ ap (λ t. front ++ t) rest.1 ∙ sym (append_assoc front (take n bytes) rest.0))

  pub follows_along : Follows names order flags (front ++ take n bytes) s
  follows_along = record {
    up = omega (arith, first, end, f.up);
    within = omega (arith, end, f.within);
    front_len = λ l. front_len ∙ ap (λ p. p + n) (f.front_len some) ∙ ap (λ k. length front + k) (sym (length-take-le n bytes within)) ∙ sym (length-append front (take n bytes));
    inside = λ i l m. between_all i (omega (arith, l, first)) (omega (arith, m, end));
    outside = λ i l o. decided i (f.outside i l (elim o [ inl b ↦ inl (omega (arith, b, first)) | inr a ↦ inr (omega (arith, a, end)) ]));
    whole = λ e. let x = f.whole (sym whole ∙ e) in (x.0, x.1, all_behind front (take n bytes) (text_at names order x.0) x.2);
    same = f.same;
    order_is = f.order_is;
  }
    where
      decided : (i : ℕ) → IsDecided names order flags front r.whole i → IsDecided names order flags (front ++ take n bytes) s.whole i
      decided i (inl d) = inl (whole ∙ d.0, d.1, all_behind front (take n bytes) (text_at names order i) d.2)
      decided i (inr none) = inr (none_behind front (take n bytes) (text_at names order i) none)

-- ---- byte after byte

-- some bytes, and some of the others
pub take_on : (a b : ℕ) (xs : List ℕ) → a + b ≤ length xs → take (a + b) xs ≡ take a xs ++ take b (take (length xs - a) (drop a xs))
take_on a b xs l =
    let few = length-take-le a xs (omega (arith, l)) in
    ap (λ n. take (n + b) xs) (sym few) ∙ ap (take (length (take a xs) + b)) (sym (take-append-drop a xs)) ∙ take-append-add (take a xs) (drop a xs) b
    ∙ ap (λ t. take a xs ++ t) (sym (take-take b (length xs - a) (drop a xs) (omega (arith, l))))

pub notes_behind : (names : List (List ℕ)) (p q : List ℕ) (old new : List Bool) → Notes names p old new → Notes names (p ++ q) old new
notes_behind names p q old new n i name at = elim (n i name at) [ inl e ↦ inl e | inr x ↦ inr (x.0, all_behind p q name x.1) ]

pub notes_both : (names : List (List ℕ)) (p : List ℕ) (old mid new : List Bool) → Notes names p old mid → Notes names p mid new → Notes names p old new
notes_both names p old mid new a b i name at = elim (b i name at) [
  | inl e ↦ elim (a i name at) [ inl d ↦ inl (e ∙ d) | inr x ↦ inr (e ∙ x.0, x.1) ]
  | inr x ↦ inr x
]

pub goes_nowhere : (names : List (List ℕ)) (order : List ℕ) (flags : List Bool) (front : List ℕ) (r : NameRun) → Follows names order flags front r → GoesOn names order flags flags front r
goes_nowhere names order flags front r f = record { follows = f; notes = λ p name at. inl refl }

pub goes_both : (names : List (List ℕ)) (order : List ℕ) (old mid new : List Bool) (front more : List ℕ) (r s : NameRun)
    → GoesOn names order old mid front r → GoesOn names order mid new (front ++ more) s → GoesOn names order old new (front ++ more) s
goes_both names order old mid new front more r s a b = record {
  follows = b.follows;
  notes = notes_both names (front ++ more) old mid new (notes_behind names front more old mid a.notes) b.notes;
}

-- where no name is in the run, none is in it after any bytes
pub goes_empty : (names : List (List ℕ)) (order : List ℕ) (old new : List Bool) (front more : List ℕ) (r : NameRun) → r.end ≤ r.first
    → GoesOn names order old new front r → GoesOn names order old new (front ++ more) r
goes_empty names order old new front more r none g =
    let f = g.follows in
    record {
      follows = record {
        up = f.up;
        within = f.within;
        front_len = λ l. absurd (omega (arith, l, none));
        inside = λ i l h. absurd (omega (arith, l, h, none));
        outside = λ i l o. decided i (f.outside i l o);
        whole = λ e. let x = f.whole e in (x.0, x.1, all_behind front more (text_at names order x.0) x.2);
        same = f.same;
        order_is = f.order_is;
      };
      notes = notes_behind names front more old new g.notes;
    }
  where
    decided : (i : ℕ) → IsDecided names order new front r.whole i → IsDecided names order new (front ++ more) r.whole i
    decided i (inl d) = inl (d.0, d.1, all_behind front more (text_at names order i) d.2)
    decided i (inr none_is) = inr (none_behind front more (text_at names order i) none_is)

-- ---- a whole path

module _ (names : List (List ℕ)) (order : List ℕ) (old mid new : List Bool) (path : List ℕ) (r : NameRun) (ends : Bool)
    (g : GoesOn names order old mid path r) (m : Matches (λ name. bytes_eq name path) names mid new ends) where
  f : Follows names order mid path r
  f = g.follows

  -- a name selects the path where it is the path, or selects all after it
  selects_or_not : (i : ℕ) → i < length names → ((r.whole ≡ true) × (get_or mid (get_or order i 0) false ≡ true)
      × SelectsAll path (text_at names order i)) ⊎ ((selects_path path (text_at names order i) ≡ bytes_eq (text_at names order i) path))
  selects_or_not i l = elim (cases_lt i r.first) [
    | inl b ↦ out (f.outside i l (inl b))
    | inr b ↦ elim (cases_lt i r.end) [ inl a ↦ inr (by_rest (f.inside i b a).0 (f.inside i b a).1) | inr a ↦ out (f.outside i l (inr a)) ]
  ]
    where
      text : List ℕ
      text = text_at names order i

      other : selects_path path text ≡ false → selects_path path text ≡ bytes_eq text path
      other none = none ∙ sym (false_from_ne_true (bytes_eq text path) (λ e. let yes = ap (selects_path path) (same_bytes text path e) ∙ is_itself path in cc))

      by_rest : (rest : List ℕ) → text ≡ path ++ rest → selects_path path text ≡ bytes_eq text path
      by_rest [] e = let same : text ≡ path = e ∙ append-nil path in ap (selects_path path) same ∙ is_itself path ∙ sym (equal_bytes text path same)
      by_rest (b ∷ rest) e = other (ap (selects_path path) e ∙ not_shorter path b rest)

      out : IsDecided names order mid path r.whole i → ((r.whole ≡ true) × (get_or mid (get_or order i 0) false ≡ true) × SelectsAll path text)
          ⊎ (selects_path path text ≡ bytes_eq text path)
      out (inl d) = inl d
      out (inr none) = inr (other (ap (λ l. selects_path l text) (sym (append-nil path)) ∙ none []))

  all_selects : (name : List ℕ) → SelectsAll path name → selects_path path name ≡ true
  all_selects name all = ap (λ l. selects_path l name) (sym (append-nil path)) ∙ all []

  flag_is : (p : ℕ) (name : List ℕ) → slice_get names p ≡ Some name → get_or new p false ≡ (get_or old p false || selects_path path name)
  flag_is p name at =
      let i = found_at names order f.order_is p name at in
      elim (selects_or_not i.0 i.1) [
        | inl d ↦
            let set_mid : get_or mid p false ≡ true = ap (λ k. get_or mid k false) (sym i.2) ∙ d.1 in
            let yes : selects_path path name ≡ true = all_selects name (subst (SelectsAll path) i.3 d.2) in
            m.flags p name at ∙ ap (λ b. b || bytes_eq name path) set_mid ∙ sym (or_true (get_or old p false) (selects_path path name) yes)
        | inr d ↦ by_test (selects_path path name) refl (subst (λ n. selects_path path n ≡ bytes_eq n path) i.3 d)
      ]
    where
      by_note : (get_or mid p false ≡ get_or old p false) ⊎ ((get_or mid p false ≡ true) × SelectsAll path name) → selects_path path name ≡ false
          → get_or mid p false ≡ get_or old p false
      by_note (inl e) none = e
      by_note (inr x) none = let yes = all_selects name x.1 in cc

      by_test : (b : Bool) → selects_path path name ≡ b → selects_path path name ≡ bytes_eq name path → get_or new p false ≡ (get_or old p false || selects_path path name)
      by_test true e d = m.flags p name at ∙ or_true (get_or mid p false) (bytes_eq name path) (sym d ∙ e) ∙ sym (or_true (get_or old p false) (selects_path path name) e)
      by_test false e d = m.flags p name at ∙ or_false (get_or mid p false) (bytes_eq name path) (sym d ∙ e) ∙ by_note (g.notes p name at) e
          ∙ sym (or_false (get_or old p false) (selects_path path name) e)

  some_is : (r.whole || ends) ≡ list_any (selects_path path) names
  some_is = by_parts r.whole ends refl refl
    where
      by_parts : (w e : Bool) → r.whole ≡ w → ends ≡ e → (w || e) ≡ list_any (selects_path path) names
      by_parts true e a b =
          let x = f.whole a in
          sym (some_passes (selects_path path) names (get_or order x.0 0) (text_at names order x.0) (text_is names order f.order_is x.0 x.1) (all_selects (text_at names order x.0) x.2))
      by_parts false true a b =
          let who = who_passes (λ name. bytes_eq name path) names (sym m.any ∙ b) in
          sym (some_passes (selects_path path) names who.0 who.1 who.2 (ap (selects_path path) (same_bytes who.1 path who.3) ∙ is_itself path))
      by_parts false false a b = sym (any_none (selects_path path) names (λ p name at.
          let i = found_at names order f.order_is p name at in
          elim (selects_or_not i.0 i.1) [
            | inl d ↦ let yes = d.0 in cc
            | inr d ↦ subst (λ n. selects_path path n ≡ bytes_eq n path) i.3 d
                ∙ false_from_ne_true (bytes_eq name path) (λ e. let yes = some_passes (λ n. bytes_eq n path) names p name at e in let any = m.any in
                cc)
          ]))

  pub path_selected : Matches (selects_path path) names old new (r.whole || ends)
  path_selected = record { flags = flag_is; any = some_is }
