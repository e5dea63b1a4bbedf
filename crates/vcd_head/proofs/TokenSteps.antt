-- One token on in the reading of a header.
use Rattle.vcd_head.proofs.Cited.{◌≡◌, ◌≢◌, ℕ, true, false, List, [], ◌∷◌, ◌++◌, Option, Some, None, unwrap_or, Result, Ok, Err, MatchResult, refl, sym, ap, subst, ◌∙◌, append_assoc, Input, IsPrefixOf, Token, Stream, stream_of, HeaderPhrase, header_phrase, header_fault, header_grammar, header_fault_of, is_last, Placed, Reading, phrases_of, reading_of, IsSoFar, so_far-nothing, so_far-token, so_far-phrase, whole-phrase, faulty-token, without-last, earlier-so_far, Advances, CallEnd, Ends, HasGiven, token_of, limit_of, read_to_shown, Ghosts, Feed, Reads, ReadsToken, ReadsWhole, IsFaultless, HasFault, FailsAtEnd, FailsAtToken, IsGoodSoFar, StandsStill, Welcomes, is_end}
use Rattle.vcd_model.specs.HeaderReading.{read_header}

-- a token is missing: the input's stream has no more
pub missing_token : (most limit : ℕ) (i : Input) (given : List Token) (placed : List (Placed HeaderPhrase)) (before : List (List ℕ))
    (halt : Option ℕ) (line : ℕ) → IsSoFar (header_grammar most) given placed before → Ends limit i given halt line
    → HasFault most limit i (unwrap_or halt 2) line
unfolding read_header
missing_token most limit i given placed before halt line h e =
    subst (λ (s : Stream). header_fault_of s (reading_of (header_grammar most) s.tokens) ≡ Some (record { number = unwrap_or halt 2; line = line })) (sym e)
    (ap (λ (r : Reading HeaderPhrase). header_fault_of (record { tokens = given; halt = halt; line = line }) r) h)

-- a token is missing, and the feed shows none
pub fails_at_end : {X : Type 0} {g : Ghosts X} (most limit : ℕ) (i : Input) (given : List Token) (placed : List (Placed HeaderPhrase))
    (before : List (List ℕ)) (halt : Option ℕ) (f : Feed X g) → limit_of f ≡ limit → IsSoFar (header_grammar most) given placed before
    → Ends limit i given halt (token_of f).line → (token_of f).bytes ≡ [] → HasGiven i given f → FailsAtEnd most i (unwrap_or halt 2) f
fails_at_end most limit i given placed before halt f l h e none stands =
    let e' = subst (λ n. Ends n i given halt (token_of f).line) (sym l) e in
    (missing_token most (limit_of f) i given placed before halt (token_of f).line h e', none, given, stands, ap (λ (s : Stream). s.tokens) e', ap (λ r. r.ending) h)

module _ {X : Type 0} {g : Ghosts X} (most : ℕ) (i : Input) (placed : List (Placed HeaderPhrase)) (before : List (List ℕ)) (f : Feed X g) where
  -- the token passes its checks, and no phrase is whole with it
  pub taken : header_fault most (phrases_of placed) before (token_of f).bytes ≡ None → header_phrase (before ++ (token_of f).bytes ∷ []) ≡ None
      → ReadsToken most i placed before f → Reads most i placed (before ++ (token_of f).bytes ∷ []) f
  taken e q l = record {
    given = l.given ++ token_of f ∷ [];
    stands = l.stands;
    so_far = so_far-token (header_grammar most) l.given placed before
        (token_of f) l.so_far e q;
    last = λ n. (l.given, refl);
  }

  -- the token passes its checks, and a phrase that others follow is whole with it
  pub taken_phrase : (p : HeaderPhrase) → header_fault most (phrases_of placed) before (token_of f).bytes ≡ None
      → header_phrase (before ++ (token_of f).bytes ∷ []) ≡ Some p → is_last p ≡ false → ReadsToken most i placed before f
      → Reads most i (placed ++ record { phrase = p; line = (token_of f).line } ∷ []) [] f
  taken_phrase p e q l k = record {
    given = k.given ++ token_of f ∷ [];
    stands = k.stands;
    so_far = so_far-phrase
        (header_grammar most) k.given placed before (token_of f) p k.so_far e q l;
    last = λ n. (k.given, refl);
  }

  -- the token passes its checks, and the last phrase is whole with it
  pub taken_last : (p : HeaderPhrase) → header_fault most (phrases_of placed) before (token_of f).bytes ≡ None
      → header_phrase (before ++ (token_of f).bytes ∷ []) ≡ Some p → is_last p ≡ true → ReadsToken most i placed before f
      → ReadsWhole most i (placed ++ record { phrase = p; line = (token_of f).line } ∷ []) f
  taken_last p e q l k = record {
    given = k.given;
    stands = k.stands;
    going = ap (λ r. r.ending) k.so_far;
    whole = whole-phrase
        (header_grammar most) k.given placed before (token_of f) p k.so_far e q l;
  }

  -- a check of the token fails
  pub refused : (n : ℕ) → header_fault most (phrases_of placed) before (token_of f).bytes ≡ Some n → ReadsToken most i placed before f → FailsAtToken most i n f
  unfolding read_header
  refused n e l =
      let first : IsPrefixOf (l.given ++ token_of f ∷ []) (stream_of (limit_of f) i).tokens = l.stands.given_first in (
        ap (header_fault_of (stream_of (limit_of f) i)) (ap (reading_of (header_grammar most)) (first.1
            ∙ append_assoc l.given (token_of f ∷ []) first.0) ∙ faulty-token (header_grammar most) l.given placed before
            (token_of f) first.0 n l.so_far e),
        l.given,
        (l.stands, read_to_shown i l.given f l.stands),
        ap (λ r. r.ending) l.so_far,
      )

-- what was read on ends with the token that the feed shows, and has no fault
good_so_far : {X : Type 0} {g : Ghosts X} (most : ℕ) (i : Input) (placed : List (Placed HeaderPhrase)) (before : List (List ℕ)) (f : Feed X g)
    (r : Reads most i placed before f) → r.given ≢ [] → IsGoodSoFar most i f
good_so_far most i placed before f r n =
    let at = r.last n in
    let so_far = subst (λ ts. IsSoFar (header_grammar most) ts placed before) at.1 r.so_far in
    let stands = subst (λ ts. HasGiven i ts f) at.1 r.stands in
    let going = earlier-so_far (header_grammar most) at.0 placed before (without-last (header_grammar most) at.0 (token_of f) placed before so_far) in
    (at.0, (stands, read_to_shown i at.0 f stands), ap (λ r. r.ending) going, rw (so_far, IsFaultless) tt)

-- where no token was given, nothing was read
nothing_read : (most : ℕ) (given : List Token) (placed : List (Placed HeaderPhrase)) (before : List (List ℕ))
    → IsSoFar (header_grammar most) given placed before → given ≡ [] → (placed ≡ []) × (before ≡ [])
nothing_read most given placed before h e =
    let same = sym h ∙ ap (reading_of (header_grammar most)) e ∙ so_far-nothing (header_grammar most) in
    (ap (λ r. r.placed) same, ap (λ r. r.before) same)

pub append_not_nil : {A : Type 0} (xs : List A) (x : A) → xs ++ x ∷ [] ≡ [] → ⊥
append_not_nil [] x e = cc
append_not_nil (y ∷ ys) x e = cc

-- where memory is refused in a phrase
pub faultless : {X : Type 0} {g : Ghosts X} (most : ℕ) (i : Input) (placed : List (Placed HeaderPhrase)) (before : List (List ℕ)) (t : List ℕ)
    (f : Feed X g) → Reads most i placed (before ++ t ∷ []) f → IsGoodSoFar most i f
faultless most i placed before t f r = good_so_far most i placed (before ++ t ∷ []) f r (λ e. append_not_nil before t (nothing_read most r.given placed (before ++ t ∷ []) r.so_far e).1)

-- and after one
pub faultless_phrase : {X : Type 0} {g : Ghosts X} (most : ℕ) (i : Input) (placed : List (Placed HeaderPhrase)) (p : Placed HeaderPhrase)
    (f : Feed X g) → Reads most i (placed ++ p ∷ []) [] f → IsGoodSoFar most i f
faultless_phrase most i placed p f r = good_so_far most i (placed ++ p ∷ []) [] f r (λ e. append_not_nil placed p (nothing_read most r.given (placed ++ p ∷ []) [] r.so_far e).0)

-- and after the last
pub faultless_whole : {X : Type 0} {g : Ghosts X} (most : ℕ) (i : Input) (placed : List (Placed HeaderPhrase)) (f : Feed X g) → ReadsWhole most i placed f → IsGoodSoFar most i f
faultless_whole most i placed f r = (r.given, (r.stands, read_to_shown i r.given f r.stands), r.going, rw (r.whole, IsFaultless) tt)

-- a word passes its checks
pub welcomed : {X : Type 0} {g : Ghosts X} (most : ℕ) (i : Input) (placed : List (Placed HeaderPhrase)) (before : List (List ℕ)) (n : ℕ)
    (f : Feed X g) → Welcomes most placed before n → is_end (token_of f).bytes ≡ false → ReadsToken most i placed before f
    → Reads most i placed (before ++ (token_of f).bytes ∷ []) f
welcomed most i placed before n f w e l = let step = w.0 (token_of f).bytes e in taken most i placed before f step.0 step.1 l

-- a token is kept
pub kept : {X : Type 0} {g : Ghosts X} (most : ℕ) (i : Input) (placed : List (Placed HeaderPhrase)) (before : List (List ℕ)) (f f' : Feed X g)
    → StandsStill f f' → token_of f' ≡ token_of f → Reads most i placed before f → Reads most i placed before f'
kept most i placed before f f' still same r = record {
  given = r.given;
  stands = still.stands i r.given r.stands;
  so_far = r.so_far;
  last = λ some. let at = r.last some in (at.0, at.1 ∙ ap (λ t. at.0 ++ t ∷ []) (sym same));
}

-- what is so if a call succeeds
pub then_ok : {A E : Type 0} (r : Result A E) (P Q : A → Type 0) (F : E → Type 0) → ((x : A) → P x → Q x) → MatchResult r P F → MatchResult r Q F
then_ok (Ok x) P Q F h m = h x m
then_ok (Err e) P Q F h m = m

-- a reading that went on and is then refused
pub ends_on : {X : Type 0} {g : Ghosts X} (failures : X → ℕ) (old new : Feed X g) (e : CallEnd) → e ≡ CallEnd.Ends → Advances failures old new CallEnd.GoesOn → Advances failures old new e
ends_on failures old new e is a = rw is (record {
  loans = a.loans;
  limit = a.limit;
  chunk = a.chunk;
  on = λ q. cc;
  goes = λ q o. cc;
  failed = λ q o.
      cc;
  last = λ q o. cc;
  same = λ q. a.same (λ x. cc);
})

-- a call that ends before a token is read
pub stays : {X : Type 0} {g : Ghosts X} (failures : X → ℕ) (f : Feed X g) (e : CallEnd) → e ≡ CallEnd.Ends → Advances failures f f e
stays failures f e is = rw is
    (record {
      loans = record { source = refl; chunk = refl; token = refl; value = refl };
      limit = refl;
      chunk = refl;
      on = λ q. cc;
      goes = λ q o.
          cc;
      failed = λ q o. cc;
      last = λ q o. cc;
      same = λ q. refl;
    })
