-- One token on in a phrase that runs to the first `$end`.
use Rattle.vcd_head.proofs.Cited.{◌≡◌, ℕ, true, false, List, [], ◌∷◌, ◌++◌, None, sym, ap, subst, ◌∙◌, join_with_byte, append_assoc, append-nil, Input, is_end, HeaderPhrase, header_phrase, header_fault, Placed, phrases_of, token_of, Ghosts, Feed, Reads, ReadsToken, IsGoodSoFar, NoEnds, RunsOn, spaced, ReadsOn, EndsThere, no_ends_more}
use Rattle.vcd_head.proofs.TokenSteps.{taken, faultless}

pub spaced_more : (ts : List (List ℕ)) (t : List ℕ) → spaced (ts ++ t ∷ []) ≡ spaced ts ++ 32 ∷ t
spaced_more [] t = append-nil (32 ∷ t)
spaced_more (u ∷ ts) t = ap (λ l. 32 ∷ u ++ l) (spaced_more ts t) ∙ sym (append_assoc (32 ∷ u) (spaced ts) (32 ∷ t))

pub joined : (t : List ℕ) (ts : List (List ℕ)) → join_with_byte 32 (t ∷ ts) ≡ t ++ spaced ts
joined t [] = sym (append-nil t)
joined t (u ∷ ts) = ap (λ l. t ++ 32 ∷ l) (joined u ts)

module _ {X : Type 0} {g : Ghosts X} (most : ℕ) (i : Input) (placed : List (Placed HeaderPhrase)) (before : List (List ℕ)) (f : Feed X g) where
  pub one_more : (inner : List (List ℕ)) → RunsOn most placed before → NoEnds inner → is_end (token_of f).bytes ≡ false
      → ReadsToken most i placed (before ++ inner) f → Reads most i placed (before ++ (inner ++ (token_of f).bytes ∷ [])) f
  one_more inner runs none e l =
      let step = runs inner (token_of f).bytes none in
      subst (λ (b : List (List ℕ)). Reads most i placed b f) (append_assoc before inner ((token_of f).bytes ∷ [])) (taken most i placed (before ++ inner) f step.0 (step.1 e) l)

  -- the first token
  pub one_first : RunsOn most placed before → is_end (token_of f).bytes ≡ false → ReadsToken most i placed before f → Reads most i placed (before ++ (token_of f).bytes ∷ []) f
  one_first runs e l = one_more [] runs tt e (subst (λ (b : List (List ℕ)). ReadsToken most i placed b f) (sym (append-nil before)) l)

  -- the first token is `$end`
  pub ends_at_once : {Grows : List (List ℕ) → Type 0} → is_end (token_of f).bytes ≡ true → ReadsToken most i placed before f → Grows [] → EndsThere most i placed before f Grows
  ends_at_once e l grows = record { inner = []; none = tt; token_read = subst (λ (b : List (List ℕ)). ReadsToken most i placed b f) (sym (append-nil before)) l; ends = e; grows = grows }

  -- a token more was read on
  pub reads_more : {Grows' : List (List ℕ) → Type 0} (inner : List (List ℕ)) → RunsOn most placed before → NoEnds inner
      → is_end (token_of f).bytes ≡ false → ReadsToken most i placed (before ++ inner) f → Grows' (inner ++ (token_of f).bytes ∷ [])
      → ReadsOn most i placed before f Grows'
  reads_more inner runs none e l grows = record { inner = inner ++ (token_of f).bytes ∷ []; none = no_ends_more inner (token_of f).bytes none e; reads = one_more inner runs none e l; grows = grows }

  -- so it has no fault
  pub faultless_more : (inner : List (List ℕ)) → RunsOn most placed before → NoEnds inner → is_end (token_of f).bytes ≡ false
      → ReadsToken most i placed (before ++ inner) f → IsGoodSoFar most i f
  faultless_more inner runs none e l = let step = runs inner (token_of f).bytes none in
      faultless most i placed (before ++ inner) (token_of f).bytes f (taken most i placed (before ++ inner) f step.0 (step.1 e) l)

-- a first token, and then others with a space before each
pub ends_behind : {X : Type 0} {g : Ghosts X} (most : ℕ) (i : Input) (placed : List (Placed HeaderPhrase)) (before : List (List ℕ)) (t : List ℕ)
    (f : Feed X g) (text : List ℕ) → is_end t ≡ false
    → EndsThere most i placed (before ++ t ∷ []) f (λ inner. text ≡ t ++ spaced inner) → EndsThere most i placed before f (λ inner. text ≡ join_with_byte 32 inner)
ends_behind most i placed before t f text e h = record {
  inner = t ∷ h.inner;
  none = (e, h.none);
  token_read = subst (λ (b : List (List ℕ)). ReadsToken most i placed b f) (append_assoc before (t ∷ []) h.inner) h.token_read;
  ends = h.ends;
  grows = h.grows ∙ sym (joined t h.inner);
}

-- what runs on does so after one token more
pub runs_behind : (most : ℕ) (placed : List (Placed HeaderPhrase)) (before : List (List ℕ)) (t : List ℕ) → is_end t ≡ false
    → RunsOn most placed before → RunsOn most placed (before ++ t ∷ [])
runs_behind most placed before t e runs inner u none =
    let step = runs (t ∷ inner) u (e, none) in (
      subst (λ (b : List (List ℕ)). header_fault most (phrases_of placed) b u ≡ None) (sym (append_assoc before (t ∷ []) inner)) step.0,
      λ n. subst (λ (b : List (List ℕ)). header_phrase (b ++ u ∷ []) ≡ None) (sym (append_assoc before (t ∷ []) inner)) (step.1 n),
    )
