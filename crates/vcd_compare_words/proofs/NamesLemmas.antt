-- The words of names, one after the other.
use Rattle.vcd_compare_words.proofs.Cited.{◌≡◌, ◌∙◌, append-nil, ap₂, ◌∷◌, ◌++◌, ◌<◌, [], ℕ, suc, Bool, false, true, List, length, take, drop, get_or, filter_map, Option, Some, None, Result, Ok, Err, ap, refl, sym, bytes_eq, take-append-drop, drop-cons, take-suc, map-append, filter_map-append, Bor, Text, NamePair, Names, UseFault, HasFault, names_asked, names_in, names_of, texts, two_names, two_or_fault, with_names}

-- two names that are not the same
pub two-are : (word : Text) (two : Names) → Some two ≡ two_names word → bytes_eq two.0 two.1 ≡ false → names_of word ≡ Ok two
two-are word two e differ = ap (two_or_fault word) (sym e) ∙ kept
  where
    kept : two_or_fault word (Some two) ≡ Ok two
    kept = rw differ refl

-- one more word that has names
pub names-push : (words : List Text) (word : Text) (ns : List Names) (n : Names) → names_asked words ≡ Ok ns → names_of word ≡ Ok n
    → names_asked (words ++ word ∷ []) ≡ Ok (ns ++ n ∷ [])
names-push [] word ns n e t = let none : [] ≡ ns = cc in rw (t, ← none) refl
names-push (w ∷ words) word ns n e t = by_first (names_of w) (names_asked words) refl refl e (λ xs h. names-push words word xs n h t)
  where
    by_first : (a : Result Names Text) (b : Result (List Names) Text) → names_of w ≡ a → names_asked words ≡ b → with_names a b ≡ Ok ns
        → ((xs : List Names) → names_asked words ≡ Ok xs → names_asked (words ++ word ∷ []) ≡ Ok (xs ++ n ∷ []))
        → with_names (names_of w) (names_asked (words ++ word ∷ [])) ≡ Ok (ns ++ n ∷ [])
    by_first (Ok x) (Ok xs) ea eb f more = let same : x ∷ xs ≡ ns = cc in rw (ea, more xs eb, ← same) refl
    by_first (Ok x) (Err y) ea eb f more = cc
    by_first (Err y) b ea eb f more = cc

-- a word that has none, after some that have
names-fail : (words : List Text) (word : Text) (more : List Text) (ns : List Names) (why : Text) → names_asked words ≡ Ok ns
    → names_of word ≡ Err why → names_asked (words ++ word ∷ more) ≡ Err why
names-fail [] word more ns why e t = rw t refl
names-fail (w ∷ words) word more ns why e t = by_first (names_of w) (names_asked words) refl refl e (λ xs h. names-fail words word more xs why h t)
  where
    by_first : (a : Result Names Text) (b : Result (List Names) Text) → names_of w ≡ a → names_asked words ≡ b → with_names a b ≡ Ok ns
        → ((xs : List Names) → names_asked words ≡ Ok xs → names_asked (words ++ word ∷ more) ≡ Err why)
        → with_names (names_of w) (names_asked (words ++ word ∷ more)) ≡ Err why
    by_first (Ok x) (Ok xs) ea eb h others = rw (ea, others xs eb) refl
    by_first (Ok x) (Err y) ea eb h others = cc
    by_first (Err y) b ea eb h others = cc

-- the names are those of the words that have some
pub names-kept : (words : List Text) (ns : List Names) → names_asked words ≡ Ok ns → filter_map two_names words ≡ ns
names-kept [] ns e = cc
names-kept (w ∷ words) ns e = by_first (two_names w) (names_asked words) refl refl e (λ xs h. names-kept words xs h)
  where
    kept : (two x : Names) → two_or_fault w (Some two) ≡ Ok x → two ≡ x
    kept two x e = by_test (bytes_eq two.0 two.1) refl
      where
        by_test : (b : Bool) → bytes_eq two.0 two.1 ≡ b → two ≡ x
        by_test true h = let bad : Err _ ≡ Ok x = rw h at e in cc
        by_test false h = let same : Ok two ≡ Ok x = rw h at e in cc

    by_kept : (o : Names) (a : Result Names Text) (b : Result (List Names) Text) → two_or_fault w (Some o) ≡ a → names_asked words ≡ b
        → with_names a b ≡ Ok ns → ((xs : List Names) → names_asked words ≡ Ok xs → filter_map two_names words ≡ xs)
        → o ∷ filter_map two_names words ≡ ns
    by_kept o (Ok x) (Ok xs) ea eb h more = let same : x ∷ xs ≡ ns = cc in rw (more xs eb, kept o x ea) same
    by_kept o (Ok x) (Err y) ea eb h more = cc
    by_kept o (Err y) b ea eb h more = cc

    by_first : (o : Option Names) (b : Result (List Names) Text) → two_names w ≡ o → names_asked words ≡ b → with_names (two_or_fault w o) b ≡ Ok ns
        → ((xs : List Names) → names_asked words ≡ Ok xs → filter_map two_names words ≡ xs) → filter_map two_names (w ∷ words) ≡ ns
    by_first (Some o) b eo eb h more = rw eo (by_kept o (two_or_fault w (Some o)) b refl eb h more)
    by_first None b eo eb h more = cc

-- the copies with one more
pub named-push : (old new : List NamePair) (p : NamePair) (two : Names) (word : Text) → new ≡ old ++ p ∷ [] → p.one.items ≡ two.0
    → p.other.items ≡ two.1 → Some two ≡ two_names word → names_in new ≡ names_in old ++ filter_map two_names (word ∷ [])
named-push old new p two word e one other t = ap names_in e ∙ map-append (λ (n : NamePair). (n.one.items, n.other.items)) old (p ∷ []) ∙ ap (λ l. names_in old ++ l) same
  where
    pair : (p.one.items, p.other.items) ≡ two
    pair = ap₂ (λ (a b : Text). (a, b)) one other

    same : (p.one.items, p.other.items) ∷ [] ≡ filter_map two_names (word ∷ [])
    same = rw (← t) (ap (λ (n : Names). n ∷ []) pair)

pub named-none : (given : List Names) (word : Text) → None ≡ two_names word → given ≡ given ++ filter_map two_names (word ∷ [])
named-none given word t = sym (append-nil given) ∙ ap (λ l. given ++ l) none
  where
    none : [] ≡ filter_map two_names (word ∷ [])
    none = rw (← t) refl

-- ---- some first words of a list

module _ (all : List (Bor Text)) (n : ℕ) (d : Bor Text) (below : n < length all) where
  next_texts : texts (take (suc n) all) ≡ texts (take n all) ++ (get_or all n d).now ∷ []
  next_texts = ap texts (take-suc all n d below) ∙ map-append (λ (w : Bor Text). w.now) (take n all) (get_or all n d ∷ [])

  whole_texts : texts all ≡ texts (take n all) ++ (get_or all n d).now ∷ texts (drop (suc n) all)
  whole_texts =
      ap texts (sym (take-append-drop n all) ∙ ap (λ rest. take n all ++ rest) (drop-cons all n d below))
      ∙ map-append (λ (w : Bor Text). w.now) (take n all) (get_or all n d ∷ drop (suc n) all)

  pub names-next : (m : ℕ) (ns : List Names) (two : Names) → m ≡ suc n → names_asked (texts (take n all)) ≡ Ok ns
      → names_of (get_or all n d).now ≡ Ok two → names_asked (texts (take m all)) ≡ Ok (ns ++ two ∷ [])
  names-next m ns two is e t = ap (λ k. names_asked (texts (take k all))) is ∙ ap names_asked next_texts ∙ names-push (texts (take n all)) (get_or all n d).now ns two e t

  pub names-end : (ns : List Names) (fault : UseFault) → names_asked (texts (take n all)) ≡ Ok ns → HasFault fault (names_of (get_or all n d).now) → HasFault fault (names_asked (texts all))
  names-end ns fault e h = (h.0, ap names_asked whole_texts ∙ names-fail (texts (take n all)) (get_or all n d).now (texts (drop (suc n) all)) ns _ e h.1)

  pub two-next : (m : ℕ) (given more : List Names) → m ≡ suc n → given ≡ filter_map two_names (texts (take n all))
      → more ≡ given ++ filter_map two_names ((get_or all n d).now ∷ []) → more ≡ filter_map two_names (texts (take m all))
  two-next m given more is e next =
      next ∙ ap (λ l. l ++ filter_map two_names ((get_or all n d).now ∷ [])) e ∙ sym (filter_map-append two_names (texts (take n all)) ((get_or all n d).now ∷ []))
      ∙ ap (filter_map two_names) (sym next_texts) ∙ ap (λ k. filter_map two_names (texts (take k all))) (sym is)
