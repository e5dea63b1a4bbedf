-- One token on in the reading of a body.
use Rattle.vcd_body.proofs.Cited.{◌≡◌, ◌≢◌, ℕ, true, false, List, [], ◌∷◌, ◌++◌, Option, Some, None, refl, sym, ap, subst, ◌∙◌, Input, IsPrefixOf, Token, Stream, stream_of, IdCode, BodyItem, leaves_open, BodyPhrase, body_phrase, items_of, body_fault, body_grammar, body_items, body_fault_of, Placed, phrases_of, reading_of, IsSoFar, so_far-token, so_far-phrase, faulty-token, Ends, HasGiven, HasReadTo, token_of, limit_of, read_to_shown, Ghosts, Feed, BodyFault, fault_number, Reads, ReadsPhrase, Looks, BodyHas, StopsAt, FailsOver, Fails, OpensPhrase, Refuses, AtToken, AtEnd}
use Rattle.std.proofs.lemmas.List.{append_assoc}
use Rattle.vcd_model.specs.BodyReading.{read_body}
use Rattle.vcd_body.specs.declared.fault.BodyFault.TheVariants as fault

-- a fault that is not the source's is one of the input as it is
pub own_fault : {X : Type 0} {g : Ghosts X} (codes : List IdCode) (i : Input) (front : List Token) (items : List BodyItem) (b : BodyFault)
    (f : Feed X g) → b ≢ fault.ReadFailed → FailsOver codes i front items (fault_number b) f → Fails codes i front items b f
own_fault codes i front items fault.ReadFailed f own h = absurd (own refl)
own_fault codes i front items fault.TokenTooLong f own h = h
own_fault codes i front items fault.EndOfInput f own h = h
own_fault codes i front items fault.UnknownCommand f own h = h
own_fault codes i front items fault.OutOfPlace f own h = h
own_fault codes i front items fault.BadTime f own h = h
own_fault codes i front items fault.TimeBack f own h = h
own_fault codes i front items fault.BadValue f own h = h
own_fault codes i front items fault.UnknownCode f own h = h
own_fault codes i front items fault.TooWide f own h = h
own_fault codes i front items fault.RealTooLong f own h = h
own_fault codes i front items fault.TimeInSection f own h = h
own_fault codes i front items fault.InputTooLong f own h = h

-- at most a chunk was read past a token that was not looked at
looked_near : {X : Type 0} {g : Ghosts X} (codes : List IdCode) (i : Input) (front : List Token) (placed : List (Placed BodyPhrase))
    (before : List (List ℕ)) (f : Feed X g) (l : Looks codes i front placed before f) → HasReadTo i (front ++ l.given ++ token_of f ∷ []) f
looked_near codes i front placed before f l = read_to_shown i (front ++ l.given) f l.stands

module _ (codes : List IdCode) (i : Input) (front : List Token) (placed : List (Placed BodyPhrase)) where
  -- a token is missing: the input's stream is halted there
  pub halted : (limit : ℕ) (given : List Token) (before : List (List ℕ)) (n line : ℕ) → IsSoFar (body_grammar codes) given placed before → Ends limit i (front ++ given) (Some n) line
      → BodyHas codes i front limit (items_of (phrases_of placed)) (Some (record { number = n; line = line }))
  unfolding read_body
  halted limit given before n line h e = record {
    rest = given;
    tokens = ap (λ s. s.tokens) e;
    items_are = ap body_items h;
    fault_is = subst (λ (s : Stream). body_fault_of s (reading_of (body_grammar codes) given) ≡ Some (record { number = n; line = line })) (sym e)
        (ap (body_fault_of (record { tokens = front ++ given; halt = Some n; line = line })) h);
  }

  -- a token is missing: the input has ended within a phrase
  pub cut_short : (limit : ℕ) (given : List Token) (first : List ℕ) (before : List (List ℕ)) (line : ℕ)
      → IsSoFar (body_grammar codes) given placed (first ∷ before) → Ends limit i (front ++ given) None line
      → BodyHas codes i front limit (items_of (phrases_of placed)) (Some (record { number = 2; line = line }))
  unfolding read_body
  cut_short limit given first before line h e = record {
    rest = given;
    tokens = ap (λ s. s.tokens) e;
    items_are = ap body_items h;
    fault_is = subst (λ (s : Stream). body_fault_of s (reading_of (body_grammar codes) given) ≡ Some (record { number = 2; line = line })) (sym e)
        (ap (body_fault_of (record { tokens = front ++ given; halt = None; line = line })) h);
  }

  -- the input has ended between phrases
  pub ended : (limit : ℕ) (given : List Token) (line : ℕ) → IsSoFar (body_grammar codes) given placed [] → Ends limit i (front ++ given) None line
      → leaves_open (items_of (phrases_of placed)) ≡ false
      → BodyHas codes i front limit (items_of (phrases_of placed)) None
  unfolding read_body
  ended limit given line h e o = record {
    rest = given;
    tokens = ap (λ s. s.tokens) e;
    items_are = ap body_items h;
    fault_is = subst (λ (s : Stream). body_fault_of s (reading_of (body_grammar codes) given) ≡ None) (sym e)
        (ap (body_fault_of (record { tokens = front ++ given; halt = None; line = line })) h ∙ rw o refl);
  }

  -- the input has ended in a section
  pub ended_open : (limit : ℕ) (given : List Token) (line : ℕ) → IsSoFar (body_grammar codes) given placed []
      → Ends limit i (front ++ given) None line → leaves_open (items_of (phrases_of placed)) ≡ true
      → BodyHas codes i front limit (items_of (phrases_of placed)) (Some (record { number = 2; line = line }))
  unfolding read_body
  ended_open limit given line h e o = record {
    rest = given;
    tokens = ap (λ s. s.tokens) e;
    items_are = ap body_items h;
    fault_is = subst (λ (s : Stream). body_fault_of s (reading_of (body_grammar codes) given) ≡ Some (record { number = 2; line = line })) (sym e)
        (ap (body_fault_of (record { tokens = front ++ given; halt = None; line = line })) h ∙ rw o refl);
  }

  module _ {X : Type 0} {g : Ghosts X} (before : List (List ℕ)) (f : Feed X g) where
    -- the token passes its checks, and no phrase is whole with it
    pub taken : body_fault codes (phrases_of placed) before (token_of f).bytes ≡ None → body_phrase codes (before ++ (token_of f).bytes ∷ []) ≡ None
        → Looks codes i front placed before f → Reads codes i front placed (before ++ (token_of f).bytes ∷ []) f
    taken e q l = record {
      given = l.given ++ token_of f ∷ [];
      stands = subst (λ (t : List Token). HasGiven i t f) (append_assoc front l.given (token_of f ∷ [])) l.stands;
      so_far = so_far-token (body_grammar codes) l.given placed before (token_of f) l.so_far e q;
    }

    -- the token passes its checks, and a phrase is whole with it
    pub taken_own : (p : BodyPhrase) → body_fault codes (phrases_of placed) before (token_of f).bytes ≡ None
        → body_phrase codes (before ++ (token_of f).bytes ∷ []) ≡ Some p → Looks codes i front placed before f
        → Reads codes i front (placed ++ record { phrase = p; line = (token_of f).line } ∷ []) [] f
    taken_own p e q l = record {
      given = l.given ++ token_of f ∷ [];
      stands = subst (λ (t : List Token). HasGiven i t f) (append_assoc front l.given (token_of f ∷ [])) l.stands;
      so_far = so_far-phrase (body_grammar codes) l.given placed before (token_of f) p l.so_far e q refl;
    }

    pub taken_phrase : (p : BodyPhrase) → body_fault codes (phrases_of placed) before (token_of f).bytes ≡ None
        → body_phrase codes (before ++ (token_of f).bytes ∷ []) ≡ Some p → Looks codes i front placed before f → ReadsPhrase codes i front placed f p
    unfolding taken_own
    taken_phrase p e q l = record { reads = taken_own p e q l; near = subst (λ ts. HasReadTo i ts f) (append_assoc front l.given (token_of f ∷ [])) (looked_near codes i front placed before f l) }

    -- a check of the token fails
    pub refused : (n : ℕ) → body_fault codes (phrases_of placed) before (token_of f).bytes ≡ Some n → Looks codes i front placed before f
        → BodyHas codes i front (limit_of f) (items_of (phrases_of placed)) (Some (record { number = n; line = (token_of f).line }))
    unfolding read_body
    refused n e l =
        let first : IsPrefixOf (front ++ l.given ++ token_of f ∷ []) (stream_of (limit_of f) i).tokens = l.stands.given_first in
        let reads = faulty-token (body_grammar codes) l.given placed before (token_of f) first.0 n l.so_far e in
        record {
          rest = l.given ++ token_of f ∷ first.0;
          tokens = first.1 ∙ append_assoc (front ++ l.given) (token_of f ∷ []) first.0 ∙ append_assoc front l.given (token_of f ∷ first.0);
          items_are = ap body_items reads;
          fault_is = ap (body_fault_of (stream_of (limit_of f) i)) reads;
        }

    pub stopped : Looks codes i front placed before f → StopsAt codes i front (items_of (phrases_of placed)) f
    stopped l = AtToken placed before refl l (looked_near codes i front placed before f l)

    pub refused_at : (n : ℕ) → body_fault codes (phrases_of placed) before (token_of f).bytes ≡ Some n → Looks codes i front placed before f
        → FailsOver codes i front (items_of (phrases_of placed)) n f
    refused_at n e l = (refused n e l, stopped l)

    pub fails : (b : BodyFault) → b ≢ fault.ReadFailed → body_fault codes (phrases_of placed) before (token_of f).bytes ≡ Some (fault_number b)
        → Looks codes i front placed before f → Fails codes i front (items_of (phrases_of placed)) b f
    fails b own e l = own_fault codes i front (items_of (phrases_of placed)) b f own (refused_at (fault_number b) e l)

    -- the reading stops where no token is left
    pub stopped_at_end : (limit : ℕ) (given : List Token) (halt : Option ℕ) (line : ℕ) → limit_of f ≡ limit → HasGiven i (front ++ given) f
        → IsSoFar (body_grammar codes) given placed before → Ends limit i (front ++ given) halt line
        → StopsAt codes i front (items_of (phrases_of placed)) f
    stopped_at_end limit given halt line l stands h e = AtEnd placed before refl
        (record {
          reads = record { given = given; stands = stands; so_far = h };
          all = ap (λ n. (stream_of n i).tokens) l
              ∙ ap (λ (s : Stream). s.tokens) e;
        })

  -- a halt is where a token is asked for
  pub halted_at : {X : Type 0} {g : Ghosts X} (limit : ℕ) (given : List Token) (before : List (List ℕ)) (n : ℕ) (f : Feed X g) → limit_of f ≡ limit
      → IsSoFar (body_grammar codes) given placed before → Ends limit i (front ++ given) (Some n) (token_of f).line
      → HasGiven i (front ++ given) f → FailsOver codes i front (items_of (phrases_of placed)) n f
  halted_at limit given before n f l h e stands = (
    halted (limit_of f) given before n (token_of f).line h (subst (λ m. Ends m i (front ++ given) (Some n) (token_of f).line) (sym l) e),
    stopped_at_end before f limit given (Some n) (token_of f).line l stands h e,
  )

  -- the first token of a phrase passes its checks, and others follow
  pub begun : {X : Type 0} {g : Ghosts X} (f : Feed X g) → body_fault codes (phrases_of placed) [] (token_of f).bytes ≡ None
      → body_phrase codes ((token_of f).bytes ∷ []) ≡ None → Looks codes i front placed [] f → Reads codes i front placed ((token_of f).bytes ∷ []) f
  begun f e q l = taken [] f e q l

  -- the same of a text that is the feed's token
  module _ {X : Type 0} {g : Ghosts X} (f : Feed X g) (t : List ℕ) where
    pub opened_text : t ≡ (token_of f).bytes → OpensPhrase codes (phrases_of placed) t → Looks codes i front placed [] f → Reads codes i front placed ((token_of f).bytes ∷ []) f
    opened_text e h l = begun f (ap (body_fault codes (phrases_of placed) []) (sym e) ∙ h.0) (ap (λ (x : List ℕ). body_phrase codes (x ∷ [])) (sym e) ∙ h.1) l

    pub refused_text : (fault : BodyFault) → t ≡ (token_of f).bytes → Refuses codes (phrases_of placed) t fault → Looks codes i front placed [] f
        → Fails codes i front (items_of (phrases_of placed)) fault f
    refused_text fault e h l = fails [] f fault h.0 (ap (body_fault codes (phrases_of placed) []) (sym e) ∙ h.1) l

-- what a kept token leaves
pub kept : {X : Type 0} {g : Ghosts X} (codes : List IdCode) (i : Input) (front : List Token) (placed : List (Placed BodyPhrase))
    (before : List (List ℕ)) (old new : Feed X g) → ((j : Input) (given : List Token) → HasGiven j given old → HasGiven j given new)
    → Reads codes i front placed before old → Reads codes i front placed before new
kept codes i front placed before old new h r = record { given = r.given; stands = h i (front ++ r.given) r.stands; so_far = r.so_far }
