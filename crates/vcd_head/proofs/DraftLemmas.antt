-- A draft that holds some declarations holds one more.
use Rattle.vcd_head.proofs.Cited.{◌≡◌, ◌≢◌, ℕ, suc, ◌+◌, ◌-◌, ◌^◌, ◌<◌, ◌≤◌, cond, List, [], ◌∷◌, ◌++◌, length, map, reverse, take, drop, slice_range, slice_get, find, filter_map, sum_by, bytes_eq, Option, Some, None, IfSome, is_some, option_map, unwrap_or, refl, sym, ap, subst, ◌∙◌, arith, Vec, AllByRecursion, list_any, join_with_byte, last_or, append_assoc, append-nil, length-append, length_push, reverse-append, length-reverse, length-map, map-append, filter_map-append, sum_by_push, kept_bytes, Declaration, Variable, IdCode, code_of, codes_of, variables_of, variable_of, has_text, is_scope, is_up, first_token, parent, enclosing, open_scopes, HeaderPhrase, declarations_of, declaration_of, date_of, version_of, timescale_of, Row, Scale, Codes, AreHeld, HasTexts, IsRow, AreRows, IsExponent, IsSize, counted_from_one, keys_of, AreKeysOf, Code, Draft, spaced, HasCodes, Declares, IsDraftOf, slice_get_within, enclosing-scope, enclosing-up, enclosing-var, innermost, codes_few, rows_len, slice_get-seam}
use Rattle.vcd_view.specs.declared.view.Kind.TheVariants as kind
use Rattle.vcd_head.proofs.DraftGrows.{are_codes_grow, are_rows_grow, are_rows_push, codes-other, codes_grown, variables_push}
use Rattle.vcd_head.proofs.TextSteps.{joined}

-- ---- texts

drop_front : (a b : List ℕ) → drop (length a) (a ++ b) ≡ b
drop_front [] b = refl
drop_front (x ∷ a) b = drop_front a b

pub take_front : (a b : List ℕ) → take (length a) (a ++ b) ≡ a
take_front [] b = refl
take_front (x ∷ a) b = ap (λ l. x ∷ l) (take_front a b)

pub range_at : (a b c : List ℕ) (m n : ℕ) → m ≡ length a → n ≡ length a + length b → slice_range (a ++ (b ++ c)) m n ≡ b
range_at a b c m n e f =
    let k : n - m ≡ length b = omega arith in
    ap (λ j. take (n - m) (drop j (a ++ (b ++ c)))) e ∙ ap (take (n - m)) (drop_front a (b ++ c)) ∙ ap (λ j. take j (b ++ c)) k ∙ take_front b c

first_joined : (reference : List (List ℕ)) → (rest : List ℕ) × (join_with_byte 32 reference ≡ first_token reference ++ rest)
first_joined [] = ([], refl)
first_joined (t ∷ ts) = (spaced ts, joined t ts)

-- a reference that has a first token
pub some_token : (t : List ℕ) (ts : List (List ℕ)) → t ∷ ts ≢ []
some_token t ts e = cc

-- the texts of a row that were put to the text
pub texts_there : (text type : List ℕ) (reference : List (List ℕ)) (more : List ℕ) (r : Row) → reference ≢ [] → r.start ≡ length text
    → r.word ≡ length type → r.all ≡ length (join_with_byte 32 reference) → r.name ≡ length (first_token reference)
    → HasTexts (text ++ (type ++ (join_with_byte 32 reference ++ more))) r type reference
texts_there text type reference more r t s w a n =
    let j = join_with_byte 32 reference in
    let f = first_joined reference in
    let split : text ++ (type ++ (j ++ more)) ≡ (text ++ type) ++ (j ++ more) = sym (append_assoc text type (j ++ more)) in
    let names : text ++ (type ++ (j ++ more)) ≡ (text ++ type) ++ (first_token reference ++ (f.0 ++ more)) = split
    ∙ ap (λ l. (text ++ type) ++ l) (ap (λ l. l ++ more) f.1 ∙ append_assoc (first_token reference) f.0 more) in
    let len = length-append text type in
    let flen : length j ≡ length (first_token reference) + length f.0 = ap length f.1 ∙ length-append (first_token reference) f.0 in
    record {
      within = omega (arith, ap length split, length-append (text ++ type) (j ++ more), length-append j more);
      word_len = w;
      word_is = range_at text type (j ++ more) r.start (r.start + r.word) s (omega arith);
      all_len = a;
      all_is = ap (λ l. slice_range l (r.start + r.word) (r.start + r.word + r.all)) split
          ∙ range_at (text ++ type) j more (r.start + r.word) (r.start + r.word + r.all) (omega arith) (omega arith);
      some_token = t;
      name_within = omega arith;
      name_is = ap (λ l. slice_range l (r.start + r.word) (r.start + r.word + r.name)) names
          ∙ range_at (text ++ type) (first_token reference) (f.0 ++ more) (r.start + r.word) (r.start + r.word + r.name) (omega arith) (omega arith);
    }

-- ---- codes, where no variable is declared

pub held_grow : (text more : List ℕ) (list : List Code) (cs : List IdCode) → AreHeld text list cs → AreHeld (text ++ more) list cs
held_grow text more list cs h = record { stand = are_codes_grow text more list cs h.stand; distinct = h.distinct; texts = h.texts }

pub has_codes_grow : (text more : List ℕ) (es : Codes) (ds : List Declaration) → HasCodes text es ds → HasCodes (text ++ more) es ds
has_codes_grow text more es ds h = record { held = held_grow text more es.list.items (codes_of ds) h.held; keys = h.keys; rises = h.rises; known = h.known; seen = h.seen; sizes = h.sizes }

same_variables : (ds : List Declaration) (d : Declaration) → variable_of d ≡ None → variables_of (ds ++ d ∷ []) ≡ variables_of ds
same_variables ds d h = variables_push ds d ∙ rw h (append-nil (variables_of ds))

pub has_codes_other : (text : List ℕ) (es : Codes) (ds : List Declaration) (d : Declaration) → variable_of d ≡ None → HasCodes text es ds → HasCodes text es (ds ++ d ∷ [])
has_codes_other text es ds d n h =
    let c = sym (codes-other ds d n) in
    let v = sym (same_variables ds d n) in
    record {
      held = subst (AreHeld text es.list.items) c h.held;
      keys = subst (AreKeysOf (keys_of es)) c h.keys;
      rises = h.rises;
      known = subst (λ ks. AllByRecursion (λ u. find (has_text u.code) ks ≡ Some (code_of u)) (variables_of (ds ++ d ∷ []))) c
          (subst (λ vs. AllByRecursion (λ u. find (has_text u.code) (codes_of ds) ≡ Some (code_of u)) vs) v h.known);
      seen = λ t. ap (list_any (λ u. bytes_eq u.code t)) (sym v) ∙ h.seen t ∙ ap (λ ks. is_some (find (has_text t) ks)) c;
      sizes = subst (λ ks. AllByRecursion (λ (k : IdCode). IsSize k.size) ks) c h.sizes;
    }

-- ---- scopes

-- 1 plus the row of the innermost open scope
pub parent_is : (ds : List Declaration) (os : List ℕ) → os ≡ map suc (reverse (enclosing ds)) → unwrap_or (slice_get os (length os - 1)) 0 ≡ counted_from_one (parent ds)
parent_is ds os e = by_cases (enclosing ds) refl e
  where
    by_cases : (ps : List ℕ) → enclosing ds ≡ ps → os ≡ map suc (reverse ps) → unwrap_or (slice_get os (length os - 1)) 0 ≡ counted_from_one (parent ds)
    by_cases [] p q = rw (q, p, parent) refl
    by_cases (x ∷ ps) p q =
        let o : os ≡ map suc (reverse ps) ++ suc x ∷ [] = q ∙ ap (map suc) (reverse-append (x ∷ []) ps) ∙ map-append suc (reverse ps) (x ∷ []) in
        let l : length os - 1 ≡ length (map suc (reverse ps)) = omega (arith, ap length o, length_push (map suc (reverse ps)) (suc x)) in
        rw (l, o, p, parent, slice_get-seam (map suc (reverse ps)) (suc x) []) refl

-- 32 bits hold it
pub scope_narrow : (most : ℕ) (d : Draft) (ds : List Declaration) → Declares most d ds → unwrap_or (slice_get d.scopes.items (length d.scopes.items - 1)) 0 < 2 ^ 32
scope_narrow most d ds h = by_cases (enclosing ds) refl
  where
    by_cases : (ps : List ℕ) → enclosing ds ≡ ps → unwrap_or (slice_get d.scopes.items (length d.scopes.items - 1)) 0 < 2 ^ 32
    by_cases [] e =
        let none : unwrap_or (slice_get d.scopes.items (length d.scopes.items - 1)) 0 ≡ 0 = parent_is ds d.scopes.items h.nested ∙ rw (e, parent) refl in
        omega (arith, none)
    by_cases (p ∷ ps) e =
        let one : unwrap_or (slice_get d.scopes.items (length d.scopes.items - 1)) 0 ≡ suc p = parent_is ds d.scopes.items h.nested ∙ rw (e, parent) refl in
        let inner = innermost ds p ps e in
        omega (arith, one, inner.before, h.few, h.allowed)

-- so they do that of the scope that is closed
pub closed_narrow : (most : ℕ) (d : Draft) (ds : List Declaration) (others : List ℕ) (closed : ℕ) → Declares most d ds → d.scopes.items ≡ others ++ closed ∷ [] → closed < 2 ^ 32
closed_narrow most d ds others closed h e =
    let last : length d.scopes.items - 1 ≡ length others = omega (arith, ap length e, length_push others closed) in
    let is : unwrap_or (slice_get d.scopes.items (length d.scopes.items - 1)) 0 ≡ closed = rw (last, e, slice_get-seam others closed []) refl in
    subst (λ n. n < 2 ^ 32) is (scope_narrow most d ds h)

-- and the index of a code
pub code_narrow : (most : ℕ) (d : Draft) (ds : List Declaration) (v : Variable) (position : ℕ) → Declares most d ds → length ds < most
    → slice_get (codes_of (ds ++ Declaration.Var v ∷ [])) position ≡ Some (code_of v) → position < 2 ^ 32
code_narrow most d ds v position h few at =
    let within = slice_get_within (codes_of (ds ++ Declaration.Var v ∷ [])) position (code_of v) at in
    omega (arith, within, codes_few (ds ++ Declaration.Var v ∷ []), length_push ds (Declaration.Var v), h.allowed)

-- the facts of a declaration that is no variable, where only texts, rows and scopes change
module _ (most : ℕ) (d d' : Draft) (ds : List Declaration) (x : Declaration) (more : List ℕ) (r : Row) (h : Declares most d ds) (other : variable_of x ≡ None) (few : length ds < most)
    (text : d'.text.items ≡ d.text.items ++ more) (rows : d'.rows.items ≡ d.rows.items ++ r ∷ []) (codes : d'.codes ≡ d.codes) where
  codes_kept : HasCodes d'.text.items d'.codes (ds ++ x ∷ [])
  codes_kept = rw (text, codes) (has_codes_other (d.text.items ++ more) d.codes ds x other (has_codes_grow d.text.items more d.codes ds h.codes))

  rows_kept : IsRow d'.text.items (codes_of ds) ds r x → AreRows d'.text.items (codes_of (ds ++ x ∷ [])) [] d'.rows.items (ds ++ x ∷ [])
  rows_kept is =
      rw (rows, codes-other ds x other)
      (are_rows_push d'.text.items (codes_of ds) [] d.rows.items ds r x
      (subst (λ t. AreRows t (codes_of ds) [] d.rows.items ds) (sym text)
      (subst (λ ks. AreRows (d.text.items ++ more) ks [] d.rows.items ds) (append-nil (codes_of ds))
      (are_rows_grow d.text.items more (codes_of ds) [] [] d.rows.items ds h.rows))) is)

  held_kept : length more ≤ kept_bytes x → length d'.text.items ≤ sum_by kept_bytes (ds ++ x ∷ [])
  held_kept le = let held = h.held in omega (arith, ap length text, length-append d.text.items more, sum_by_push kept_bytes ds x)

  few_kept : length (ds ++ x ∷ []) ≤ most
  few_kept = omega (arith, length_push ds x)

pub scope_declared : (most : ℕ) (d d' : Draft) (ds : List Declaration) (type name : List ℕ) (r : Row) → Declares most d ds → length ds < most
    → d'.text.items ≡ (d.text.items ++ type) ++ name → d'.rows.items ≡ d.rows.items ++ r ∷ [] → d'.codes ≡ d.codes
    → d'.scopes.items ≡ d.scopes.items ++ suc (length d.rows.items) ∷ []
    → r ≡ record {
      kind = kind.Scope;
      parent = unwrap_or (slice_get d.scopes.items (length d.scopes.items - 1))
          0;
      start = length d.text.items;
      word = length type;
      name = length name;
      all = length name;
      code = 0;
    }
    → Declares most d' (ds ++ Declaration.Scope type name ∷ [])
scope_declared most d d' ds type name r h few text rows codes scopes is =
    let x = Declaration.Scope type name in
    let grown : d'.text.items ≡ d.text.items ++ (type ++ name) = text ∙ append_assoc d.text.items type name in
    let there : d'.text.items ≡ d.text.items ++ (type ++ (name ++ [])) = grown ∙ ap (λ l. d.text.items ++ (type ++ l)) (sym (append-nil name)) in
    let up = sum_by_push (λ e. cond (is_up e) 1 0) ds x in
    let down = sum_by_push (λ e. cond (is_scope e) 1 0) ds x in
    let balance = h.balance in
    record {
      codes = codes_kept most d d' ds x (type ++ name) r h refl few grown rows codes;
      rows = rows_kept most d d' ds x (type ++ name) r h refl few grown rows codes (record {
        parent_is = ap (λ (q : Row). q.parent) is ∙ parent_is ds d.scopes.items h.nested;
        own = (
          ap (λ (q : Row). q.kind) is,
          subst (λ t. HasTexts t r type (name ∷ [])) (sym there)
              (texts_there d.text.items type (name ∷ []) [] r (some_token name []) (ap (λ (q : Row). q.start) is) (ap (λ (q : Row). q.word) is)
              (ap (λ (q : Row). q.all) is) (ap (λ (q : Row). q.name) is)),
          ap (λ (q : Row). q.code) is,
        );
      });
      nested = scopes ∙ ap (λ l. l ++ suc (length d.rows.items) ∷ []) h.nested
          ∙ ap (λ n. map suc (reverse (enclosing ds)) ++ suc n ∷ []) (rows_len d.text.items (codes_of ds) [] d.rows.items ds h.rows)
          ∙ sym (map-append suc (reverse (enclosing ds)) (length ds ∷ [])) ∙ ap (map suc) (sym (reverse-append (length ds ∷ []) (enclosing ds)))
          ∙ ap (λ l. map suc (reverse l)) (sym (enclosing-scope ds type name));
      balance = rw (enclosing-scope ds type name) (omega arith);
      held = held_kept most d d' ds x (type ++ name) r h refl few grown rows codes (omega (arith, length-append type name));
      few = few_kept most d d' ds x (type ++ name) r h refl few grown rows codes;
      allowed = h.allowed;
    }

last_same : (xs ys : List ℕ) (x y : ℕ) → xs ++ x ∷ [] ≡ ys ++ y ∷ [] → (xs ≡ ys) × (x ≡ y)
last_same [] [] x y q = let s : x ≡ y = cc in (refl, s)
last_same [] (b ∷ ys) x y q = absurd (omega (arith, ap length q, length_push ys y))
last_same (a ∷ xs) [] x y q = absurd (omega (arith, ap length q, length_push xs x))
last_same (a ∷ xs) (b ∷ ys) x y q = let s : a ≡ b = cc in let t : xs ++ x ∷ [] ≡ ys ++ y ∷ [] = cc in let m = last_same xs ys x y t in ((λ i. s i ∷ m.0 i), m.1)

-- the innermost scope is closed
pub up_declared : (most : ℕ) (d d' : Draft) (ds : List Declaration) (closed : ℕ) (r : Row) → Declares most d ds → length ds < most
    → d'.text.items ≡ d.text.items → d'.rows.items ≡ d.rows.items ++ r ∷ [] → d'.codes ≡ d.codes → d.scopes.items ≡ d'.scopes.items ++ closed ∷ []
    → r ≡ record { kind = kind.Up; parent = closed; start = 0; word = 0; name = 0; all = 0; code = 0 }
    → Declares most d' (ds ++ Declaration.Up ∷ [])
up_declared most d d' ds closed r h few text rows codes scopes is = by_cases (enclosing ds) refl
  where
    by_cases : (ps : List ℕ) → enclosing ds ≡ ps → Declares most d' (ds ++ Declaration.Up ∷ [])
    by_cases [] e =
        let none : d.scopes.items ≡ [] = h.nested ∙ ap (λ l. map suc (reverse l)) e in
        absurd (omega (arith, ap length none, ap length scopes, length_push d'.scopes.items closed))
    by_cases (p ∷ ps) e =
        let x = Declaration.Up in
        let grown : d'.text.items ≡ d.text.items ++ [] = text ∙ sym (append-nil d.text.items) in
        let open_is : d.scopes.items ≡ map suc (reverse ps) ++ suc p ∷ [] = h.nested ∙ ap (λ l. map suc (reverse l)) e
        ∙ ap (map suc) (reverse-append (p ∷ []) ps) ∙ map-append suc (reverse ps) (p ∷ []) in
        let last = last_same d'.scopes.items (map suc (reverse ps)) closed (suc p) (sym scopes ∙ open_is) in
        let inner : enclosing (ds ++ x ∷ []) ≡ ps = enclosing-up ds ∙ ap (drop 1) e in
        let up = sum_by_push (λ y. cond (is_up y) 1 0) ds x in
        let down = sum_by_push (λ y. cond (is_scope y) 1 0) ds x in
        let balance = h.balance in
        let len : length (enclosing ds) ≡ suc (length ps) = ap length e in
        record {
          codes = codes_kept most d d' ds x [] r h refl few grown rows codes;
          rows = rows_kept most d d' ds x [] r h refl few grown rows codes (record {
            parent_is = ap (λ (q : Row). q.parent) is ∙ last.1 ∙ rw (e, parent) refl;
            own = (ap (λ (q : Row). q.kind) is, ap (λ (q : Row). q.start) is, ap (λ (q : Row). q.word) is, ap (λ (q : Row). q.name) is, ap (λ (q : Row). q.all) is, ap (λ (q : Row). q.code) is);
          });
          nested = last.0 ∙ ap (λ l. map suc (reverse l)) (sym inner);
          balance = rw inner (omega arith);
          held = held_kept most d d' ds x [] r h refl few grown rows codes (omega arith);
          few = few_kept most d d' ds x [] r h refl few grown rows codes;
          allowed = h.allowed;
        }

-- how many scopes are open
pub open_is : (most : ℕ) (d : Draft) (ds : List Declaration) → Declares most d ds → length d.scopes.items ≡ open_scopes ds
open_is most d ds h = let balance = h.balance in omega (arith, ap length h.nested, length-map (reverse (enclosing ds)) suc, length-reverse (enclosing ds))

-- ---- phrases

declared_more : (ps : List HeaderPhrase) (x : Declaration) → declarations_of (ps ++ HeaderPhrase.Declares x ∷ []) ≡ declarations_of ps ++ x ∷ []
declared_more ps x = filter_map-append declaration_of ps (HeaderPhrase.Declares x ∷ [])

pub holds_declared : (most : ℕ) (d d' : Draft) (ps : List HeaderPhrase) (x : Declaration) → IsDraftOf most d ps
    → Declares most d' (declarations_of ps ++ x ∷ []) → d'.date.items ≡ d.date.items → d'.version.items ≡ d.version.items → d'.scale ≡ d.scale
    → IsDraftOf most d' (ps ++ HeaderPhrase.Declares x ∷ [])
holds_declared most d d' ps x h k date version scale = record {
  declares = subst (Declares most d') (sym (declared_more ps x)) k;
  date = date ∙ h.date ∙ ap (λ l. unwrap_or (last_or None l) []) (sym (filter_map-append date_of ps (HeaderPhrase.Declares x ∷ []) ∙ append-nil (filter_map date_of ps)));
  version = version ∙ h.version ∙ ap (λ l. unwrap_or (last_or None l) []) (sym (filter_map-append version_of ps (HeaderPhrase.Declares x ∷ []) ∙ append-nil (filter_map version_of ps)));
  scale = ap (option_map (λ (s : Scale). s.exponent)) scale ∙ h.scale
      ∙ ap (last_or None) (sym (filter_map-append timescale_of ps (HeaderPhrase.Declares x ∷ []) ∙ append-nil (filter_map timescale_of ps)));
  scaled = subst (λ o. IfSome o (λ (s : Scale). IsExponent s.exponent)) (sym scale) h.scaled;
}

-- a phrase of which f has nothing to say
pub not_said : {X : Type 0} (f : HeaderPhrase → Option X) (ps : List HeaderPhrase) (p : HeaderPhrase) → f p ≡ None → filter_map f (ps ++ p ∷ []) ≡ filter_map f ps
not_said f ps p h = filter_map-append f ps (p ∷ []) ∙ rw h (append-nil (filter_map f ps))

-- a phrase that declares nothing and says nothing
pub holds_plain : (most : ℕ) (d : Draft) (ps : List HeaderPhrase) (p : HeaderPhrase) → declaration_of p ≡ None → date_of p ≡ None
    → version_of p ≡ None → timescale_of p ≡ None → IsDraftOf most d ps → IsDraftOf most d (ps ++ p ∷ [])
holds_plain most d ps p a b c e h = record {
  declares = subst (Declares most d) (sym (not_said declaration_of ps p a)) h.declares;
  date = h.date ∙ ap (λ l. unwrap_or (last_or None l) []) (sym (not_said date_of ps p b));
  version = h.version ∙ ap (λ l. unwrap_or (last_or None l) []) (sym (not_said version_of ps p c));
  scale = h.scale ∙ ap (last_or None) (sym (not_said timescale_of ps p e));
  scaled = h.scaled;
}

last_push : {X : Type 0} (o : Option X) (xs : List X) (x : X) → last_or o (xs ++ x ∷ []) ≡ Some x
last_push o [] x = refl
last_push o (y ∷ xs) x = last_push (Some y) xs x

pub holds_date : (most : ℕ) (d : Draft) (ps : List HeaderPhrase) (inner : List (List ℕ)) (v : Vec ℕ) → IsDraftOf most d ps
    → v.items ≡ join_with_byte 32 inner → IsDraftOf most (record d { date = v }) (ps ++ HeaderPhrase.Date inner ∷ [])
holds_date most d ps inner v h e = record {
  declares = again (sym (filter_map-append declaration_of ps (HeaderPhrase.Date inner ∷ []) ∙ append-nil (declarations_of ps))) h.declares;
  date = e ∙ ap (λ (o : Option (List ℕ)). unwrap_or o []) (sym (ap (last_or None) (filter_map-append date_of ps (HeaderPhrase.Date inner ∷ []))
      ∙ last_push None (filter_map date_of ps) (join_with_byte 32 inner)));
  version = h.version ∙ ap (λ l. unwrap_or (last_or None l) []) (sym (filter_map-append version_of ps (HeaderPhrase.Date inner ∷ []) ∙ append-nil (filter_map version_of ps)));
  scale = h.scale ∙ ap (last_or None) (sym (filter_map-append timescale_of ps (HeaderPhrase.Date inner ∷ []) ∙ append-nil (filter_map timescale_of ps)));
  scaled = h.scaled;
}
  where
    again : {ds es : List Declaration} → ds ≡ es → Declares most d ds → Declares most (record d { date = v }) es
    again q k = subst (Declares most (record d { date = v })) q (record { codes = k.codes; rows = k.rows; nested = k.nested; balance = k.balance; held = k.held; few = k.few; allowed = k.allowed })

pub holds_version : (most : ℕ) (d : Draft) (ps : List HeaderPhrase) (inner : List (List ℕ)) (v : Vec ℕ) → IsDraftOf most d ps
    → v.items ≡ join_with_byte 32 inner → IsDraftOf most (record d { version = v }) (ps ++ HeaderPhrase.Version inner ∷ [])
holds_version most d ps inner v h e = record {
  declares = again (sym (filter_map-append declaration_of ps (HeaderPhrase.Version inner ∷ []) ∙ append-nil (declarations_of ps))) h.declares;
  date = h.date ∙ ap (λ l. unwrap_or (last_or None l) []) (sym (filter_map-append date_of ps (HeaderPhrase.Version inner ∷ []) ∙ append-nil (filter_map date_of ps)));
  version = e ∙ ap (λ (o : Option (List ℕ)). unwrap_or o []) (sym
      (ap (last_or None) (filter_map-append version_of ps (HeaderPhrase.Version inner ∷ []))
      ∙ last_push None (filter_map version_of ps) (join_with_byte 32 inner)));
  scale = h.scale ∙ ap (last_or None) (sym (filter_map-append timescale_of ps (HeaderPhrase.Version inner ∷ []) ∙ append-nil (filter_map timescale_of ps)));
  scaled = h.scaled;
}
  where
    again : {ds es : List Declaration} → ds ≡ es → Declares most d ds → Declares most (record d { version = v }) es
    again q k = subst (Declares most (record d { version = v })) q (record { codes = k.codes; rows = k.rows; nested = k.nested; balance = k.balance; held = k.held; few = k.few; allowed = k.allowed })

pub holds_scale : (most : ℕ) (d : Draft) (ps : List HeaderPhrase) (x : Scale) → IsDraftOf most d ps → IsExponent x.exponent
    → IsDraftOf most (record d { scale = Some x }) (ps ++ HeaderPhrase.Timescale x.exponent ∷ [])
holds_scale most d ps x h in_range = record {
  declares = again (sym (filter_map-append declaration_of ps (HeaderPhrase.Timescale x.exponent ∷ []) ∙ append-nil (declarations_of ps))) h.declares;
  date = h.date ∙ ap (λ l. unwrap_or (last_or None l) []) (sym (filter_map-append date_of ps (HeaderPhrase.Timescale x.exponent ∷ []) ∙ append-nil (filter_map date_of ps)));
  version = h.version ∙ ap (λ l. unwrap_or (last_or None l) []) (sym (filter_map-append version_of ps (HeaderPhrase.Timescale x.exponent ∷ []) ∙ append-nil (filter_map version_of ps)));
  scale = sym (ap (last_or None) (filter_map-append timescale_of ps (HeaderPhrase.Timescale x.exponent ∷ [])) ∙ last_push None (filter_map timescale_of ps) x.exponent);
  scaled = in_range;
}
  where
    again : {ds es : List Declaration} → ds ≡ es → Declares most d ds → Declares most (record d { scale = Some x }) es
    again q k = subst (Declares most (record d { scale = Some x })) q
        (record { codes = k.codes; rows = k.rows; nested = k.nested; balance = k.balance; held = k.held; few = k.few; allowed = k.allowed })

-- a variable, the bytes of whose code come before its own or after them
pub var_entered : (most : ℕ) (d d' : Draft) (ds : List Declaration) (v : Variable) (r : Row) (before more : List ℕ) → Declares most d ds → length ds < most → v.reference ≢ []
    → d'.text.items ≡ d.text.items ++ (before ++ (v.type ++ (join_with_byte 32 v.reference ++ more))) → length before + length more ≤ length v.code
    → d'.rows.items ≡ d.rows.items ++ r ∷ [] → HasCodes d'.text.items d'.codes (ds ++ Declaration.Var v ∷ [])
    → slice_get (codes_of (ds ++ Declaration.Var v ∷ [])) r.code ≡ Some (code_of v) → d'.scopes.items ≡ d.scopes.items → r.kind ≡ kind.Var
    → r.parent ≡ unwrap_or (slice_get d.scopes.items (length d.scopes.items - 1)) 0 → r.start ≡ length (d.text.items ++ before)
    → r.word ≡ length v.type
    → r.all ≡ length (join_with_byte 32 v.reference) → r.name ≡ length (first_token v.reference) → Declares most d' (ds ++ Declaration.Var v ∷ [])
var_entered most d d' ds v r before more h few named text short rows codes at scopes kind parent start word all name =
    let x = Declaration.Var v in
    let own = v.type ++ (join_with_byte 32 v.reference ++ more) in
    let tail = before ++ own in
    let apart : d'.text.items ≡ (d.text.items ++ before) ++ own = text ∙ sym (append_assoc d.text.items before own) in
    let grown = codes_grown ds v in
    let up = sum_by_push (λ e. cond (is_up e) 1 0) ds x in
    let down = sum_by_push (λ e. cond (is_scope e) 1 0) ds x in
    let balance = h.balance in
    let held = h.held in
    record {
      codes = codes;
      rows = rw rows (are_rows_push d'.text.items (codes_of (ds ++ x ∷ [])) [] d.rows.items ds r x
          (subst (λ t. AreRows t (codes_of (ds ++ x ∷ [])) [] d.rows.items ds) (sym text)
          (subst (λ ks. AreRows (d.text.items ++ tail) ks [] d.rows.items ds) (sym grown.1)
          (are_rows_grow d.text.items tail (codes_of ds) grown.0 [] d.rows.items ds h.rows)))
          (record {
            parent_is = parent ∙ parent_is ds d.scopes.items h.nested;
            own = (kind, subst (λ t. HasTexts t r v.type v.reference) (sym apart) (texts_there (d.text.items ++ before) v.type v.reference more r named start word all name), at);
          }));
      nested = scopes ∙ h.nested ∙ ap (λ l. map suc (reverse l)) (sym (enclosing-var ds v));
      balance = rw (enclosing-var ds v) (omega arith);
      held = omega (
        arith,
        ap length text,
        length-append d.text.items tail,
        length-append before own,
        length-append v.type (join_with_byte 32 v.reference ++ more),
        length-append (join_with_byte 32 v.reference) more,
        sum_by_push kept_bytes ds x,
      );
      few = omega (arith, length_push ds x);
      allowed = h.allowed;
    }
