-- One token more: what a reading so far becomes.
use Rattle.vcd_model.proofs.Cited.{◌≡◌, ℕ, Bool, true, false, List, [], ◌∷◌, ◌++◌, Option, Some, None, refl, sym, ap, ◌∙◌, Token, Placed, phrases_of, Reading, Grammar, read_from, AtFault, AtEnd, AtLast, IsSoFar, IsWhole}
use Rattle.vcd_model.specs.Reading.{reading_of}

module _ {P : Type 0} (g : Grammar P) where
  -- reading on after a phrase, which may be the last of its kind
  abbrev pub behind_phrase : List (Placed P) → List Token → Bool → Reading P
  behind_phrase placed ts true = record { placed = placed; before = []; ending = AtLast; rest = ts }
  behind_phrase placed ts false = read_from g placed [] ts

  -- reading on at a token with this fault, if this phrase is whole with it
  abbrev pub at_token : List (Placed P) → List (List ℕ) → Token → List Token → Option ℕ → Option P → Reading P
  at_token placed before t ts (Some n) q = record { placed = placed; before = before; ending = AtFault (record { number = n; line = t.line }); rest = t ∷ ts }
  at_token placed before t ts None None = read_from g placed (before ++ t.bytes ∷ []) ts
  at_token placed before t ts None (Some p) = behind_phrase (placed ++ record { phrase = p; line = t.line } ∷ []) ts (g.is_last p)

  behind_is : (placed : List (Placed P)) (ts : List Token) (b : Bool) →
      elim b [
        | true ↦ record { placed = placed; before = []; ending = AtLast; rest = ts }
        | false ↦ read_from g placed [] ts
      ] ≡ behind_phrase placed ts b
  behind_is placed ts true = refl
  behind_is placed ts false = refl

  pub token_step : (placed : List (Placed P)) (before : List (List ℕ)) (t : Token) (ts : List Token) (o : Option ℕ) (q : Option P)
      → g.fault (phrases_of placed) before t.bytes ≡ o → g.phrase (before ++ t.bytes ∷ []) ≡ q
      → read_from g placed before (t ∷ ts) ≡ at_token placed before t ts o q
  token_step placed before t ts (Some n) q e f = rw (e, read_from) refl
  token_step placed before t ts None None e f = rw (e, read_from, f) refl
  token_step placed before t ts None (Some p) e f = rw (e, read_from, f) (behind_is (placed ++ record { phrase = p; line = t.line } ∷ []) ts (g.is_last p))

  -- a reading that ends with its tokens continues from there
  abbrev GoesOn : List Token → Type 0
  GoesOn xs = (placed placed' : List (Placed P)) (before before' : List (List ℕ)) (ys : List Token)
      → read_from g placed before xs ≡ record { placed = placed'; before = before'; ending = AtEnd; rest = [] } → read_from g placed before (xs ++ ys) ≡ read_from g placed' before' ys

  on_behind : (xs : List Token) → GoesOn xs → (placed placed' : List (Placed P)) (before' : List (List ℕ)) (ys : List Token) (b : Bool)
      → behind_phrase placed xs b ≡ record { placed = placed'; before = before'; ending = AtEnd; rest = [] } → behind_phrase placed (xs ++ ys) b ≡ read_from g placed' before' ys
  on_behind xs more placed placed' before' ys true h = let bad : AtLast ≡ AtEnd = ap (λ r. r.ending) h in cc
  on_behind xs more placed placed' before' ys false h = more placed placed' [] before' ys h

  on_token : (t : Token) (xs : List Token) → GoesOn xs → (placed placed' : List (Placed P)) (before before' : List (List ℕ)) (ys : List Token) (o : Option ℕ) (q : Option P)
      → at_token placed before t xs o q ≡ record { placed = placed'; before = before'; ending = AtEnd; rest = [] } → at_token placed before t (xs ++ ys) o q ≡ read_from g placed' before' ys
  on_token t xs more placed placed' before before' ys (Some n) q h = let bad : AtFault (record { number = n; line = t.line }) ≡ AtEnd = ap (λ r. r.ending) h in cc
  on_token t xs more placed placed' before before' ys None None h = more placed placed' (before ++ t.bytes ∷ []) before' ys h
  on_token t xs more placed placed' before before' ys None (Some p) h = on_behind xs more (placed ++ record { phrase = p; line = t.line } ∷ []) placed' before' ys (g.is_last p) h

  goes_on : (xs : List Token) → GoesOn xs
  goes_on [] placed placed' before before' ys h = ap (λ (r : Reading P). read_from g r.placed r.before ys) h
  goes_on (t ∷ xs) placed placed' before before' ys h =
      let step = token_step placed before t xs (g.fault (phrases_of placed) before t.bytes) (g.phrase (before ++ t.bytes ∷ [])) refl refl in
      token_step placed before t (xs ++ ys) (g.fault (phrases_of placed) before t.bytes) (g.phrase (before ++ t.bytes ∷ [])) refl refl
      ∙ on_token t xs (goes_on xs) placed placed' before before' ys (g.fault (phrases_of placed) before t.bytes) (g.phrase (before ++ t.bytes ∷ [])) (sym step ∙ h)

  -- ---- what callers use

  pub so_far-nothing : IsSoFar g [] [] []
  unfolding reading_of
  so_far-nothing = refl

  reads_on : (given : List Token) (placed : List (Placed P)) (before : List (List ℕ)) (ts : List Token) → IsSoFar g given placed before
      → reading_of g (given ++ ts) ≡ read_from g placed before ts
  unfolding reading_of
  reads_on given placed before ts h = goes_on given [] placed [] before ts h

  at_next : (given : List Token) (placed : List (Placed P)) (before : List (List ℕ)) (t : Token) (ts : List Token) (o : Option ℕ) (q : Option P)
      → IsSoFar g given placed before → g.fault (phrases_of placed) before t.bytes ≡ o
      → g.phrase (before ++ t.bytes ∷ []) ≡ q → reading_of g (given ++ t ∷ ts) ≡ at_token placed before t ts o q
  at_next given placed before t ts o q h e f = reads_on given placed before (t ∷ ts) h ∙ token_step placed before t ts o q e f

  -- a token that passes its checks, and with which no phrase is whole
  pub so_far-token : (given : List Token) (placed : List (Placed P)) (before : List (List ℕ)) (t : Token) → IsSoFar g given placed before → g.fault (phrases_of placed) before t.bytes ≡ None
      → g.phrase (before ++ t.bytes ∷ []) ≡ None → IsSoFar g (given ++ t ∷ []) placed (before ++ t.bytes ∷ [])
  so_far-token given placed before t h e f = at_next given placed before t [] None None h e f

  -- a token that passes its checks, and with which a phrase is whole that others follow
  pub so_far-phrase : (given : List Token) (placed : List (Placed P)) (before : List (List ℕ)) (t : Token) (p : P) → IsSoFar g given placed before
      → g.fault (phrases_of placed) before t.bytes ≡ None
      → g.phrase (before ++ t.bytes ∷ []) ≡ Some p → g.is_last p ≡ false → IsSoFar g (given ++ t ∷ []) (placed ++ record { phrase = p; line = t.line } ∷ []) []
  so_far-phrase given placed before t p h e f l = at_next given placed before t [] None (Some p) h e f ∙ ap (behind_phrase (placed ++ record { phrase = p; line = t.line } ∷ []) []) l

  -- a token that passes its checks, and with which the last phrase of the kind is whole
  pub whole-phrase : (given : List Token) (placed : List (Placed P)) (before : List (List ℕ)) (t : Token) (p : P) → IsSoFar g given placed before
      → g.fault (phrases_of placed) before t.bytes ≡ None
      → g.phrase (before ++ t.bytes ∷ []) ≡ Some p → g.is_last p ≡ true → IsWhole g (given ++ t ∷ []) (placed ++ record { phrase = p; line = t.line } ∷ [])
  whole-phrase given placed before t p h e f l = at_next given placed before t [] None (Some p) h e f ∙ ap (behind_phrase (placed ++ record { phrase = p; line = t.line } ∷ []) []) l

  -- a token with a failed check: the reading of all tokens ends there, whatever follows
  pub faulty-token : (given : List Token) (placed : List (Placed P)) (before : List (List ℕ)) (t : Token) (more : List Token) (n : ℕ)
      → IsSoFar g given placed before → g.fault (phrases_of placed) before t.bytes ≡ Some n
      → reading_of g (given ++ t ∷ more) ≡ record { placed = placed; before = before; ending = AtFault (record { number = n; line = t.line }); rest = t ∷ more }
  faulty-token given placed before t more n h e = at_next given placed before t more (Some n) (g.phrase (before ++ t.bytes ∷ [])) h e refl

  -- ---- after the last phrase of the kind nothing is read

  abbrev Stops : List Token → Type 0
  Stops xs = (placed placed' : List (Placed P)) (before : List (List ℕ)) (ys : List Token)
      → read_from g placed before xs ≡ record { placed = placed'; before = []; ending = AtLast; rest = [] }
      → read_from g placed before (xs ++ ys) ≡ record { placed = placed'; before = []; ending = AtLast; rest = ys }

  stop_behind : (xs : List Token) → Stops xs → (placed placed' : List (Placed P)) (ys : List Token) (b : Bool)
      → behind_phrase placed xs b ≡ record { placed = placed'; before = []; ending = AtLast; rest = [] }
      → behind_phrase placed (xs ++ ys) b ≡ record { placed = placed'; before = []; ending = AtLast; rest = ys }
  stop_behind xs more placed placed' ys true h = ap (λ (r : Reading P). record { placed = r.placed; before = []; ending = AtLast; rest = r.rest ++ ys }) h
  stop_behind xs more placed placed' ys false h = more placed placed' [] ys h

  stop_token : (t : Token) (xs : List Token) → Stops xs → (placed placed' : List (Placed P)) (before : List (List ℕ)) (ys : List Token) (o : Option ℕ) (q : Option P)
      → at_token placed before t xs o q ≡ record { placed = placed'; before = []; ending = AtLast; rest = [] }
      → at_token placed before t (xs ++ ys) o q ≡ record { placed = placed'; before = []; ending = AtLast; rest = ys }
  stop_token t xs more placed placed' before ys (Some n) q h = let bad : AtFault (record { number = n; line = t.line }) ≡ AtLast = ap (λ r. r.ending) h in cc
  stop_token t xs more placed placed' before ys None None h = more placed placed' (before ++ t.bytes ∷ []) ys h
  stop_token t xs more placed placed' before ys None (Some p) h = stop_behind xs more (placed ++ record { phrase = p; line = t.line } ∷ []) placed' ys (g.is_last p) h

  stops : (xs : List Token) → Stops xs
  stops [] placed placed' before ys h = let bad : AtEnd ≡ AtLast = ap (λ r. r.ending) h in cc
  stops (t ∷ xs) placed placed' before ys h =
      let step = token_step placed before t xs (g.fault (phrases_of placed) before t.bytes) (g.phrase (before ++ t.bytes ∷ [])) refl refl in
      token_step placed before t (xs ++ ys) (g.fault (phrases_of placed) before t.bytes) (g.phrase (before ++ t.bytes ∷ [])) refl refl
      ∙ stop_token t xs (stops xs) placed placed' before ys (g.fault (phrases_of placed) before t.bytes) (g.phrase (before ++ t.bytes ∷ [])) (sym step ∙ h)

  pub whole-more : (given : List Token) (placed : List (Placed P)) (more : List Token) → IsWhole g given placed
      → reading_of g (given ++ more) ≡ record { placed = placed; before = []; ending = AtLast; rest = more }
  unfolding reading_of
  whole-more given placed more h = stops given [] placed [] more h

  -- ---- before the last token

  -- where reading continues after these tokens and one more, it continues after them; if all are
  -- whole phrases, the last one is whole with the last token
  pub record AllButLast (placed : List (Placed P)) (before : List (List ℕ)) (xs : List Token) (whole : List (Placed P)) (inner : List (List ℕ)) : Type 0 where
    pub earlier : List (Placed P)
    pub begun : List (List ℕ)
    pub reads : read_from g placed before xs ≡ record { placed = earlier; before = begun; ending = AtEnd; rest = [] }
    pub last : inner ≡ [] → (p : Placed P) × (whole ≡ earlier ++ p ∷ [])

  abbrev CutsLast : List Token → Type 0
  CutsLast xs = (placed whole : List (Placed P)) (before inner : List (List ℕ)) (t : Token)
      → read_from g placed before (xs ++ t ∷ []) ≡ record { placed = whole; before = inner; ending = AtEnd; rest = [] } → AllButLast placed before xs whole inner

  not_begun : {A : Type 0} (ts : List (List ℕ)) (t : List ℕ) → ts ++ t ∷ [] ≡ [] → A
  not_begun [] t e = cc
  not_begun (u ∷ ts) t e = cc

  last_behind : (placed whole : List (Placed P)) (before inner : List (List ℕ)) (p : Placed P) (b : Bool)
      → behind_phrase (placed ++ p ∷ []) [] b ≡ record { placed = whole; before = inner; ending = AtEnd; rest = [] } → AllButLast placed before [] whole inner
  last_behind placed whole before inner p true h = let bad : AtLast ≡ AtEnd = ap (λ r. r.ending) h in cc
  last_behind placed whole before inner p false h = record { earlier = placed; begun = before; reads = refl; last = λ none. (p, sym (ap (λ r. r.placed) h)) }

  last_token : (placed whole : List (Placed P)) (before inner : List (List ℕ)) (t : Token) (o : Option ℕ) (q : Option P)
      → at_token placed before t [] o q ≡ record { placed = whole; before = inner; ending = AtEnd; rest = [] } → AllButLast placed before [] whole inner
  last_token placed whole before inner t (Some n) q h = let bad : AtFault (record { number = n; line = t.line }) ≡ AtEnd = ap (λ r. r.ending) h in cc
  last_token placed whole before inner t None None h = record { earlier = placed; begun = before; reads = refl; last = λ none. not_begun before t.bytes (ap (λ r. r.before) h ∙ none) }
  last_token placed whole before inner t None (Some p) h = last_behind placed whole before inner (record { phrase = p; line = t.line }) (g.is_last p) h

  -- one token on
  cut_on : (placed placed' whole : List (Placed P)) (before before' inner : List (List ℕ)) (x : Token) (xs : List Token)
      → read_from g placed before (x ∷ xs) ≡ read_from g placed' before' xs → AllButLast placed' before' xs whole inner
      → AllButLast placed before (x ∷ xs) whole inner
  cut_on placed placed' whole before before' inner x xs step a = record { earlier = a.earlier; begun = a.begun; reads = step ∙ a.reads; last = a.last }

  cut_behind : (xs : List Token) → CutsLast xs → (placed whole : List (Placed P)) (before inner : List (List ℕ)) (x t : Token) (p : Placed P)
      (b : Bool) → read_from g placed before (x ∷ xs) ≡ behind_phrase (placed ++ p ∷ []) xs b
      → behind_phrase (placed ++ p ∷ []) (xs ++ t ∷ []) b ≡ record { placed = whole; before = inner; ending = AtEnd; rest = [] } → AllButLast placed before (x ∷ xs) whole inner
  cut_behind xs more placed whole before inner x t p true step h = let bad : AtLast ≡ AtEnd = ap (λ r. r.ending) h in cc
  cut_behind xs more placed whole before inner x t p false step h = cut_on placed (placed ++ p ∷ []) whole before [] inner x xs step (more (placed ++ p ∷ []) whole [] inner t h)

  cut_token : (xs : List Token) → CutsLast xs → (placed whole : List (Placed P)) (before inner : List (List ℕ)) (x t : Token) (o : Option ℕ)
      (q : Option P) → read_from g placed before (x ∷ xs) ≡ at_token placed before x xs o q
      → at_token placed before x (xs ++ t ∷ []) o q ≡ record { placed = whole; before = inner; ending = AtEnd; rest = [] } → AllButLast placed before (x ∷ xs) whole inner
  cut_token xs more placed whole before inner x t (Some n) q step h = let bad : AtFault (record { number = n; line = x.line }) ≡ AtEnd = ap (λ r. r.ending) h in cc
  cut_token xs more placed whole before inner x t None None step h = cut_on placed placed whole before (before ++ x.bytes ∷ []) inner x xs step
      (more placed whole (before ++ x.bytes ∷ []) inner t h)
  cut_token xs more placed whole before inner x t None (Some p) step h = cut_behind xs more placed whole before inner x t (record { phrase = p; line = x.line }) (g.is_last p) step h

  cuts_last : (xs : List Token) → CutsLast xs
  cuts_last [] placed whole before inner t h =
      last_token placed whole before inner t (g.fault (phrases_of placed) before t.bytes) (g.phrase (before ++ t.bytes ∷ []))
      (sym (token_step placed before t [] (g.fault (phrases_of placed) before t.bytes) (g.phrase (before ++ t.bytes ∷ [])) refl refl) ∙ h)
  cuts_last (x ∷ xs) placed whole before inner t h =
      let o = g.fault (phrases_of placed) before x.bytes in
      let q = g.phrase (before ++ x.bytes ∷ []) in
      cut_token xs (cuts_last xs) placed whole before inner x t o q (token_step placed before x xs o q refl refl) (sym (token_step placed before x (xs ++ t ∷ []) o q refl refl) ∙ h)

  -- tokens after which reading continues, without the last of them
  pub without-last : (xs : List Token) (t : Token) (whole : List (Placed P)) (inner : List (List ℕ)) → IsSoFar g (xs ++ t ∷ []) whole inner → AllButLast [] [] xs whole inner
  unfolding reading_of
  without-last xs t whole inner h = cuts_last xs [] whole [] inner t h

  pub earlier-so_far : (xs : List Token) (whole : List (Placed P)) (inner : List (List ℕ)) (a : AllButLast [] [] xs whole inner) → IsSoFar g xs a.earlier a.begun
  unfolding reading_of
  earlier-so_far xs whole inner a = a.reads
