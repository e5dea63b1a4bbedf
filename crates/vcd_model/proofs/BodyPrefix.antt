-- Items that were given are the first ones of their body, whatever follows.
use Rattle.vcd_model.proofs.Cited.{◌≡◌, ℕ, List, [], ◌∷◌, ◌++◌, Option, Some, None, refl, sym, ap, subst, ◌∙◌, map-append, filter_map-append, Token, IdCode, BodyItem, BodyPhrase, items_of, body_grammar, body_items, Placed, Reading, reading_of, phrases_of, IsSoFar}
use Rattle.std.proofs.Common.{append-nil, append_assoc}
use Rattle.vcd_model.specs.BodyReading.{read_body}
use Rattle.vcd_model.proofs.SoFarLemmas.{so_far-token, so_far-phrase, faulty-token}

module _ (codes : List IdCode) where
  -- the reading of all these tokens has these phrases first
  abbrev Begins : List Token → List (Placed BodyPhrase) → Type 0
  Begins ts placed = (more : List (Placed BodyPhrase)) × ((reading_of (body_grammar codes) ts).placed ≡ placed ++ more)

  -- one token and one phrase further
  token_on : (given : List Token) (t : Token) (ts : List Token) (placed : List (Placed BodyPhrase)) → Begins ((given ++ t ∷ []) ++ ts) placed → Begins (given ++ t ∷ ts) placed
  token_on given t ts placed b = subst (λ l. Begins l placed) (append_assoc given (t ∷ []) ts) b

  phrase_on : (ts : List Token) (placed : List (Placed BodyPhrase)) (p : Placed BodyPhrase) → Begins ts (placed ++ p ∷ []) → Begins ts placed
  phrase_on ts placed p b = (p ∷ b.0, b.1 ∙ append_assoc placed (p ∷ []) b.0)

  -- what follows any tokens read so far
  abbrev OnFrom : List Token → Type 0
  OnFrom ts = (given : List Token) (placed : List (Placed BodyPhrase)) (before : List (List ℕ)) → IsSoFar (body_grammar codes) given placed before → Begins (given ++ ts) placed

  by_phrase : (t : Token) (ts given : List Token) (placed : List (Placed BodyPhrase)) (before : List (List ℕ))
      → IsSoFar (body_grammar codes) given placed before → OnFrom ts → (q : Option BodyPhrase)
      → (body_grammar codes).phrase (before ++ t.bytes ∷ []) ≡ q
      → (body_grammar codes).fault (phrases_of placed) before t.bytes ≡ None → Begins (given ++ t ∷ ts) placed
  by_phrase t ts given placed before s on None f e = token_on given t ts placed
      (on (given ++ t ∷ []) placed (before ++ t.bytes ∷ []) (so_far-token (body_grammar codes) given placed before t s e f))
  by_phrase t ts given placed before s on (Some p) f e =
      let next : Placed BodyPhrase = record { phrase = p; line = t.line } in
      token_on given t ts placed (phrase_on ((given ++ t ∷ []) ++ ts) placed next
      (on (given ++ t ∷ []) (placed ++ next ∷ []) [] (so_far-phrase (body_grammar codes) given placed before t p s e f refl)))

  by_fault : (t : Token) (ts given : List Token) (placed : List (Placed BodyPhrase)) (before : List (List ℕ))
      → IsSoFar (body_grammar codes) given placed before → OnFrom ts → (o : Option ℕ)
      → (body_grammar codes).fault (phrases_of placed) before t.bytes ≡ o
      → Begins (given ++ t ∷ ts) placed
  by_fault t ts given placed before s on None e = by_phrase t ts given placed before s on ((body_grammar codes).phrase (before ++ t.bytes ∷ [])) refl e
  by_fault t ts given placed before s on (Some n) e = ([], ap (λ (r : Reading BodyPhrase). r.placed) (faulty-token (body_grammar codes) given placed before t ts n s e) ∙ sym (append-nil placed))

  begins : (ts : List Token) → OnFrom ts
  begins [] given placed before s = ([], ap (λ l. (reading_of (body_grammar codes) l).placed) (append-nil given) ∙ ap (λ (r : Reading BodyPhrase). r.placed) s ∙ sym (append-nil placed))
  begins (t ∷ ts) given placed before s = by_fault t ts given placed before s (begins ts) ((body_grammar codes).fault (phrases_of placed) before t.bytes) refl

  -- the body after these tokens has these phrases first
  pub phrases_begin : (given rest : List Token) (placed : List (Placed BodyPhrase)) → IsSoFar (body_grammar codes) given placed []
      → (more : List (Placed BodyPhrase)) × ((read_body codes (given ++ rest)).placed ≡ placed ++ more)
  unfolding read_body
  phrases_begin given rest placed s = begins rest given placed [] s

  -- the body after these tokens has these items first
  pub items_begin : (given rest : List Token) (placed : List (Placed BodyPhrase)) → IsSoFar (body_grammar codes) given placed []
      → (more : List BodyItem) × (body_items (read_body codes (given ++ rest)) ≡ items_of (phrases_of placed) ++ more)
  unfolding read_body
  items_begin given rest placed s =
      let b = begins rest given placed [] s in
      (items_of (phrases_of b.0), ap (λ l. items_of (phrases_of l)) b.1 ∙ rw (map-append, filter_map-append) refl)
