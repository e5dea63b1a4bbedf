-- The pairs of a header, one more at a time.
use Rattle.vcd_compare.proofs.Cited.{◌≡◌, ◌⊎◌, ℕ, suc, ◌*◌, ◌<◌, ◌≤◌, nat_lt, Bool, true, false, not, cond, List, [], ◌∷◌, ◌++◌, length, get_or, slice_get, Option, Some, None, inl, inr, refl, sym, ap, subst, ◌∙◌, arith, Vec, AllZip, length-append, ltb-false, ltb-true, get_or_from_slice_get, Variable, code_of, Header, Kind, Named, Pair, all_named, is_fit, kind_of, same_kind, all_zip_push, slice_get-front, slice_get-seam, EntersClass, HasPairs, alone_at, compared_at, compared_of, unlike_at, unlike_of, HasEnd, HoldsPairs, IsClassOf, IsPairAt, IsShownAt, IsUnlikeAt, IsNamedAt, AreVariables, IsFound, IsNumberOf, IsPathOf, Variables, full_name, is_some, name_in, named_by, only_at, UnlikeRows, End, PairRow, Pairs}
use Rattle.std.proofs.lemmas.List.{append-nil}
pub use Rattle.vcd_compare.proofs.SliceLemmas.{zip_at, zip_weaker}

module _ (h : Header) (ends more : List End) where
  end_stays : (i : ℕ) (v : Variable) → HasEnd h ends i v → HasEnd h (ends ++ more) i v
  end_stays i v e = (e.0, slice_get-front ends more i e.0 e.1, e.2)

  class_stays : (class : ℕ) (p : Pair) → IsClassOf h ends class p → IsClassOf h (ends ++ more) class p
  class_stays class p c = record { one = end_stays (2 * class) p.one c.one; other = end_stays (suc (2 * class)) p.other c.other }

  pair_stays : (r : PairRow) (p : Pair) → IsPairAt h ends r p → IsPairAt h (ends ++ more) r p
  pair_stays r p at = record { at = at.at; class = class_stays r.class p at.class }

-- the class of two codes is that of their variables
class_of : (h : Header) (keys new_keys : List (ℕ × ℕ)) (ends new_ends : List End) (last new_last : List ℕ) (codes : ℕ × ℕ) (class : ℕ) (p : Pair)
    → EntersClass keys new_keys ends new_ends last new_last codes class
    → slice_get h.codes codes.0 ≡ Some (code_of p.one) → slice_get h.codes codes.1 ≡ Some (code_of p.other) → IsClassOf h new_ends class p
class_of h keys new_keys ends new_ends last new_last codes class p e one other =
    let is = e.has.each class codes e.at in
    record {
      one = (is.0.0, is.0.1, ap (slice_get h.codes) is.0.2 ∙ one);
      other = (is.1.0, is.1.1, ap (slice_get h.codes) is.1.2 ∙ other);
    }

-- one class more at most
one_more : (n m class : ℕ) → ((other : ℕ) → other < m → (other < n) ⊎ (other ≡ class)) → m ≤ suc n
one_more n m class each = by_test (nat_lt (suc n) m) refl
  where
    by_test : (b : Bool) → nat_lt (suc n) m ≡ b → m ≤ suc n
    by_test false q = ltb-false (suc n) m q
    by_test true q =
        let l = ltb-true (suc n) m q in
        elim (each n (omega (arith, l))) [
          | inl below ↦ absurd (omega (arith, below))
          | inr one ↦ elim (each (suc n) l) [
            | inl below ↦ absurd (omega (arith, below))
            | inr two ↦ absurd (omega (arith, one, two))
          ]
        ]

-- one pair more that is compared
pub pair_more : (h : Header) (old new : Pairs) (keys new_keys : List (ℕ × ℕ)) (codes : ℕ × ℕ) (row : ℕ) (ranged : Bool) (class : ℕ) (p : Pair)
    (compared unlike : List Pair) (ones others : List Named) → HoldsPairs old h compared unlike ones others
    → EntersClass keys new_keys old.ends.items new.ends.items old.last.items new.last.items codes class → length keys ≡ old.classes → length new_keys ≡ new.classes
    → new.rows.items ≡ old.rows.items ++ record { row = row; ranged = ranged; class = class } ∷ [] → new.alone_one.items ≡ old.alone_one.items
    → new.alone_other.items ≡ old.alone_other.items → new.unlike.items ≡ old.unlike.items
    → IsShownAt h row ranged p.path p.one → is_fit p ≡ true → slice_get h.codes codes.0 ≡ Some (code_of p.one)
    → slice_get h.codes codes.1 ≡ Some (code_of p.other) → HoldsPairs new h (compared ++ p ∷ []) unlike ones others
pair_more h old new keys new_keys codes row ranged class p compared unlike ones others holds e keys_len new_len rows one_rows other_rows unlike_rows at fits one other =
    let r : PairRow = record { row = row; ranged = ranged; class = class } in
    let is = class_of h keys new_keys old.ends.items new.ends.items old.last.items new.last.items codes class p e one other in
    let grown = zip_weaker (IsPairAt h old.ends.items) (IsPairAt h new.ends.items) old.rows.items compared
    (λ x y z. subst (λ l. IsPairAt h l x y) (sym e.grows) (pair_stays h old.ends.items e.more x y z)) holds.rows in
    record {
      rows = subst (λ l. AllZip (IsPairAt h new.ends.items) l (compared ++ p ∷ [])) (sym rows)
          (all_zip_push (IsPairAt h new.ends.items) old.rows.items compared r p grown (record { at = at; class = is }));
      alone_one = subst (λ l. AllZip (IsNamedAt h) l ones) (sym one_rows) holds.alone_one;
      alone_other = subst (λ l. AllZip (IsNamedAt h) l others) (sym other_rows) holds.alone_other;
      unlike = subst (λ l. AllZip (IsUnlikeAt h) l unlike) (sym unlike_rows) holds.unlike;
      linked = e.has.linked;
      codes = e.room ∙ holds.codes;
      classes = ap (λ n. n * 2) (sym new_len) ∙ e.has.count;
      few = let f = holds.few in let m = one_more (length keys) (length new_keys) class e.old_or_new in
          let l = ap length rows ∙ length-append old.rows.items (r ∷ []) in omega (arith, f, m, l, keys_len, new_len);
      fit = λ k l. elim (e.old_or_new k (subst (λ n. k < n) (sym new_len) l)) [
        | inl before ↦
            let f = holds.fit k (subst (λ n. k < n) keys_len before) in
            (f.0, f.1, subst (λ x. IsClassOf h x k f.0) (sym e.grows) (class_stays h old.ends.items e.more k f.0 f.2))
        | inr same ↦ (p, fits, subst (λ c. IsClassOf h new.ends.items c p) (sym same) is)
      ];
      covered = λ k l. elim (e.old_or_new k (subst (λ n. k < n) (sym new_len) l)) [
        | inl before ↦
            let f = holds.covered k (subst (λ n. k < n) keys_len before) in
            (f.0, f.1, ap (λ x. slice_get x f.0) rows ∙ slice_get-front old.rows.items (r ∷ []) f.0 f.1 f.2, f.3)
        | inr same ↦ (length old.rows.items, r, ap (λ x. slice_get x (length old.rows.items)) rows ∙ slice_get-seam old.rows.items r [], sym same)
      ];
    }

-- what is compared is what is of one kind
pub fits_as : (p : Pair) (one other : Kind) (b : Bool) → one ≡ kind_of p.one → other ≡ kind_of p.other → b ≡ same_kind one other → b ≡ is_fit p
fits_as p one other b a c e = e ∙ ap (λ k. same_kind k other) a ∙ ap (same_kind (kind_of p.one)) c

-- ---- what is held, one place more

module _ (keys : List (ℕ × ℕ)) (h : Header) (compared other_kinds : List Pair) (ones others : List Named) where
  -- a variable without a counterpart
  pub held_alone : (old : Pairs) (alone : Vec ℕ) (row : ℕ) (v : Named) → alone.items ≡ old.alone_one.items ++ row ∷ [] → IsNamedAt h row v
      → HasPairs keys old h compared other_kinds ones others → HasPairs keys (record old { alone_one = alone }) h compared other_kinds
      (ones ++ v ∷ []) others
  held_alone old alone row v is at s = record {
    holds = record {
      rows = s.holds.rows;
      alone_one = subst (λ l. AllZip (IsNamedAt h) l (ones ++ v ∷ [])) (sym is) (all_zip_push (IsNamedAt h) old.alone_one.items ones row v s.holds.alone_one at);
      alone_other = s.holds.alone_other;
      unlike = s.holds.unlike;
      linked = s.holds.linked;
      codes = s.holds.codes;
      classes = s.holds.classes;
      few = s.holds.few;
      fit = s.holds.fit;
      covered = s.holds.covered;
    };
    has = s.has;
    count = s.count;
  }

  -- a pair of two kinds
  pub held_unlike : (old : Pairs) (unlike : Vec UnlikeRows) (r : UnlikeRows) (p : Pair) → unlike.items ≡ old.unlike.items ++ r ∷ []
      → IsUnlikeAt h r p → HasPairs keys old h compared other_kinds ones others
      → HasPairs keys (record old { unlike = unlike }) h compared (other_kinds ++ p ∷ []) ones others
  held_unlike old unlike r p is at s = record {
    holds = record {
      rows = s.holds.rows;
      alone_one = s.holds.alone_one;
      alone_other = s.holds.alone_other;
      unlike = subst (λ l. AllZip (IsUnlikeAt h) l (other_kinds ++ p ∷ [])) (sym is) (all_zip_push (IsUnlikeAt h) old.unlike.items other_kinds r p s.holds.unlike at);
      linked = s.holds.linked;
      codes = s.holds.codes;
      classes = s.holds.classes;
      few = s.holds.few;
      fit = s.holds.fit;
      covered = s.holds.covered;
    };
    has = s.has;
    count = s.count;
  }

  -- a pair by its kinds: one of two kinds is not compared, and the other is
  pub kind_apart : (ps : Pairs) (p : Pair) → is_fit p ≡ false → HasPairs keys ps h compared (other_kinds ++ p ∷ []) ones others
      → HasPairs keys ps h (compared ++ compared_of p) (other_kinds ++ unlike_of p) ones others
  kind_apart ps p fits s =
      let none : compared ++ compared_of p ≡ compared = ap (λ b. compared ++ cond b (p ∷ []) []) fits ∙ append-nil compared in
      let one : unlike_of p ≡ p ∷ [] = ap (λ b. cond (not b) (p ∷ []) []) fits in
      subst (λ l. HasPairs keys ps h l (other_kinds ++ unlike_of p) ones others) (sym none) (subst (λ l. HasPairs keys ps h compared (other_kinds ++ l) ones others) (sym one) s)

  pub kind_same : (ps : Pairs) (p : Pair) → is_fit p ≡ true → HasPairs keys ps h (compared ++ p ∷ []) other_kinds ones others
      → HasPairs keys ps h (compared ++ compared_of p) (other_kinds ++ unlike_of p) ones others
  kind_same ps p fits s =
      let one : compared_of p ≡ p ∷ [] = ap (λ b. cond b (p ∷ []) []) fits in
      let none : other_kinds ++ unlike_of p ≡ other_kinds = ap (λ b. other_kinds ++ cond (not b) (p ∷ []) []) fits ∙ append-nil other_kinds in
      subst (λ l. HasPairs keys ps h (compared ++ l) (other_kinds ++ unlike_of p) ones others) (sym one) (subst (λ l. HasPairs keys ps h (compared ++ p ∷ []) l ones others) (sym none) s)

  -- more of the others
  pub held_other : (old : Pairs) (alone : Vec ℕ) (more : List Named) → AllZip (IsNamedAt h) alone.items more
      → HasPairs keys old h compared other_kinds ones others → HasPairs keys (record old { alone_other = alone }) h compared other_kinds ones more
  held_other old alone more are s = record {
    holds = record {
      rows = s.holds.rows;
      alone_one = s.holds.alone_one;
      alone_other = are;
      unlike = s.holds.unlike;
      linked = s.holds.linked;
      codes = s.holds.codes;
      classes = s.holds.classes;
      few = s.holds.few;
      fit = s.holds.fit;
      covered = s.holds.covered;
    };
    has = s.has;
    count = s.count;
  }

-- ---- a variable by its place

-- the row of the variable at an index
pub named_row : (h : Header) (rows : List ℕ) (i row : ℕ) (v : Named) → AllZip (IsNamedAt h) rows (all_named h) → slice_get (all_named h) i ≡ Some v
    → row ≡ get_or rows i 0 → IsNamedAt h row v
named_row h rows i row v all at is =
    let x = zip_at (IsNamedAt h) rows (all_named h) i v all at in
    subst (λ r. IsNamedAt h r v) (sym (is ∙ get_or_from_slice_get rows i x.0 0 x.1)) x.2

-- the number of its path
pub path_number : (h : Header) (texts : List (List ℕ)) (vs : Variables) (i n : ℕ) (v : Named) → AreVariables h texts vs
    → slice_get (all_named h) i ≡ Some v → n ≡ get_or vs.paths.items i 0 → IsNumberOf texts n v.path
path_number h texts vs i n v are at is =
    let x = zip_at (IsPathOf texts) vs.paths.items (all_named h) i v are.paths at in
    subst (λ m. IsNumberOf texts m v.path) (sym (is ∙ get_or_from_slice_get vs.paths.items i x.0 0 x.1)) x.2

-- how lines name it
pub shown_name : (h : Header) (v : Named) (p : Option ℕ) (ranged : Bool) → IsFound h (only_at (all_named h) v.path) p → is_some p ≡ not ranged
    → named_by ranged v.path v.variable ≡ name_in h v
shown_name h v p ranged found is =
    by_range ranged ∙ ap (λ b. cond b v.path (full_name v)) (sym is ∙ by_found p found)
  where
    by_range : (b : Bool) → named_by b v.path v.variable ≡ cond (not b) v.path (full_name v)
    by_range true = refl
    by_range false = refl

    by_found : (p : Option ℕ) → IsFound h (only_at (all_named h) v.path) p → is_some p ≡ is_some (only_at (all_named h) v.path)
    by_found None e = sym (ap is_some e)
    by_found (Some j) e = sym (ap is_some e.1)

module _ (keys : List (ℕ × ℕ)) (h : Header) (compared other_kinds : List Pair) (ones others : List Named) (ps : Pairs) (v : Named) (found : Option Named) where
  -- what is held once the place is taken
  abbrev pub HeldWith : Option Named → Type 0
  HeldWith o = HasPairs keys ps h (compared ++ compared_at h ((v, o) ∷ [])) (other_kinds ++ unlike_at h ((v, o) ∷ [])) (ones ++ alone_at ((v, o) ∷ [])) others

  pub place_missing : found ≡ None → HasPairs keys ps h compared other_kinds (ones ++ v ∷ []) others → HeldWith found
  place_missing is s =
      subst HeldWith (sym is) (subst (λ l. HasPairs keys ps h l (other_kinds ++ []) (ones ++ v ∷ []) others) (sym (append-nil compared))
      (subst (λ l. HasPairs keys ps h compared l (ones ++ v ∷ []) others) (sym (append-nil other_kinds)) s))

  pub place_both : (w : Named) → found ≡ Some w → (let p : Pair = record { path = name_in h v; one = v.variable; other = w.variable } in
      HasPairs keys ps h (compared ++ compared_of p) (other_kinds ++ unlike_of p) ones others) → HeldWith found
  place_both w is s =
      let p : Pair = record { path = name_in h v; one = v.variable; other = w.variable } in
      subst HeldWith (sym is) (subst (λ l. HasPairs keys ps h (compared ++ compared_of p) (other_kinds ++ unlike_of p) l others) (sym (append-nil ones)) s)
