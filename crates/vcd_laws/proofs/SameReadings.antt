-- Texts that are on other lines, under codes in another order, are read alike.
use Rattle.vcd_laws.proofs.Cited.{◌≡◌, ℕ, Bool, true, false, cond, List, [], ◌∷◌, ◌++◌, Option, Some, None, refl, sym, ap, ◌∙◌, ⊤, map-append, Token, Stream, IdCode, ChangeForm, Scalar, Vector, RealText, Fault, missing, Placed, phrases_of, Ending, Reading, texts_of, Grammar, read_from, AtFault, AtEnd, AtLast, first_failed, BodyPhrase, Start, start_of, declared_code, change_with, change_behind, items_of, Digit, Digits, Number, Other, start_checks, inner_checks, body_grammar, body_items, ends_well, body_fault_of}
use Rattle.vcd_model.specs.Reading.{reading_of}
use Rattle.vcd_model.specs.BodyPhrases.{phrase_with, body_phrase}
use Rattle.vcd_model.specs.BodyPhrases.Start.{Command, Mark}
use Rattle.vcd_model.specs.BodyChecks.{body_fault}
use Rattle.vcd_model.specs.BodyReading.{read_body}

-- one grammar says of tokens what the other says
record Alike {P : Type 0} (g h : Grammar P) : Type 0 where
  fault : (earlier : List P) (before : List (List ℕ)) (token : List ℕ)
      → g.fault earlier before token ≡ h.fault earlier before token
  phrase : (ts : List (List ℕ)) → g.phrase ts ≡ h.phrase ts
  last : (p : P) → g.is_last p ≡ h.is_last p

abbrev SameEnding : Ending → Ending → Type 0
SameEnding (AtFault f) (AtFault g) = f.number ≡ g.number
SameEnding AtEnd AtEnd = ⊤
SameEnding AtLast AtLast = ⊤
SameEnding e f = ⊥

-- two readings that are one, but for lines
pub record SameReading {P : Type 0} (r s : Reading P) : Type 0 where
  pub phrases : phrases_of r.placed ≡ phrases_of s.placed
  pub before : r.before ≡ s.before
  pub ending : SameEnding r.ending s.ending

module _ {P : Type 0} (g h : Grammar P) (alike : Alike g h) where
  phrases_more : (done done' : List (Placed P)) (p q : Placed P)
      → phrases_of done ≡ phrases_of done' → p.phrase ≡ q.phrase
      → phrases_of (done ++ p ∷ []) ≡ phrases_of (done' ++ q ∷ [])
  phrases_more done done' p q e f = map-append (λ (x : Placed P). x.phrase) done (p ∷ [])
      ∙ ap (λ l. l ++ p.phrase ∷ []) e ∙ ap (λ x. phrases_of done' ++ x ∷ []) f
      ∙ sym (map-append (λ (x : Placed P). x.phrase) done' (q ∷ []))

  same_from : (ts us : List Token) (done done' : List (Placed P)) (before : List (List ℕ))
      → texts_of ts ≡ texts_of us → phrases_of done ≡ phrases_of done'
      → SameReading (read_from g done before ts) (read_from h done' before us)
  same_from [] [] done done' before e same = record { phrases = same; before = refl; ending = tt }
  same_from [] (u ∷ us) done done' before e same = cc
  same_from (t ∷ ts) [] done done' before e same = cc
  same_from (t ∷ ts) (u ∷ us) done done' before e same =
      let head : t.bytes ≡ u.bytes = cc in
      let tail : texts_of ts ≡ texts_of us = cc in
      let fault : g.fault (phrases_of done) before t.bytes
      ≡ h.fault (phrases_of done') before u.bytes =
      rw (head, same) (alike.fault (phrases_of done') before u.bytes) in
      let phrase : g.phrase (before ++ t.bytes ∷ []) ≡ h.phrase (before ++ u.bytes ∷ []) =
      rw head (alike.phrase (before ++ u.bytes ∷ [])) in
      by_fault (h.fault (phrases_of done') before u.bytes) fault refl
      (h.phrase (before ++ u.bytes ∷ [])) phrase refl
      (ap (λ l. before ++ l ∷ []) head) (λ p. same_from ts us (done ++ p.0 ∷ []) (done' ++ p.1 ∷ [])
      [] tail) (same_from ts us done done' (before ++ u.bytes ∷ []) tail same)
    where
      by_last : (p : P) (b : Bool) → g.is_last p ≡ b → h.is_last p ≡ b
          → ((pair : Placed P × Placed P)
          → phrases_of (done ++ pair.0 ∷ []) ≡ phrases_of (done' ++ pair.1 ∷ [])
          → SameReading (read_from g (done ++ pair.0 ∷ []) [] ts)
          (read_from h (done' ++ pair.1 ∷ []) [] us))
          → SameReading
          (elim (g.is_last p) [
            | true ↦ record {
              placed = done ++ record { phrase = p; line = t.line } ∷ [];
              before = [];
              ending = AtLast;
              rest = ts;
            }
            | false ↦ read_from g
                (done ++ record { phrase = p; line = t.line } ∷ []) [] ts
          ])
          (elim (h.is_last p) [
            | true ↦ record {
              placed = done' ++ record { phrase = p; line = u.line } ∷ [];
              before = [];
              ending = AtLast;
              rest = us;
            }
            | false ↦ read_from h
                (done' ++ record { phrase = p; line = u.line } ∷ []) [] us
          ])
      by_last p true e f more =
          rw (e, f) (record {
            phrases =
                phrases_more done done' (record { phrase = p; line = t.line })
                (record { phrase = p; line = u.line }) same refl;
            before = refl;
            ending = tt;
          })
      by_last p false e f more =
          rw (e, f) (more (
            record { phrase = p; line = t.line },
            record { phrase = p; line = u.line },
          )
          (phrases_more done done' (record { phrase = p; line = t.line })
          (record { phrase = p; line = u.line }) same refl))

      by_fault : (o : Option ℕ) → g.fault (phrases_of done) before t.bytes ≡ o
          → h.fault (phrases_of done') before u.bytes ≡ o → (q : Option P)
          → g.phrase (before ++ t.bytes ∷ []) ≡ q → h.phrase (before ++ u.bytes ∷ []) ≡ q
          → before ++ t.bytes ∷ [] ≡ before ++ u.bytes ∷ []
          → ((pair : Placed P × Placed P)
          → phrases_of (done ++ pair.0 ∷ []) ≡ phrases_of (done' ++ pair.1 ∷ [])
          → SameReading (read_from g (done ++ pair.0 ∷ []) [] ts)
          (read_from h (done' ++ pair.1 ∷ []) [] us))
          → SameReading (read_from g done (before ++ u.bytes ∷ []) ts)
          (read_from h done' (before ++ u.bytes ∷ []) us)
          → SameReading (read_from g done before (t ∷ ts)) (read_from h done' before (u ∷ us))
      by_fault (Some n) e f q a b c more on =
          rw (e, f, read_from) (record { phrases = same; before = refl; ending = refl })
      by_fault None e f None a b c more on = rw (e, f, read_from, a, b, c) on
      by_fault None e f (Some p) a b c more on =
          rw (e, f, read_from, a, b) (by_last p (h.is_last p) (alike.last p) refl more)

-- ---- bodies

module _ (xs ys : List IdCode) (same : (text : List ℕ)
    → declared_code xs text ≡ declared_code ys text) where
  starts_alike : (earlier : List BodyPhrase) (s : Start)
      → first_failed (start_checks xs (items_of earlier) s)
      ≡ first_failed (start_checks ys (items_of earlier) s)
  starts_alike earlier (Command k) = refl
  starts_alike earlier (Mark digits) = refl
  starts_alike earlier (Digit digit code) = rw (same code) refl
  starts_alike earlier (Digits digits) = refl
  starts_alike earlier (Number text) = refl
  starts_alike earlier Other = refl

  inners_alike : (s : Start) (token : List ℕ)
      → first_failed (inner_checks xs s token) ≡ first_failed (inner_checks ys s token)
  inners_alike (Command k) token = refl
  inners_alike (Mark digits) token = refl
  inners_alike (Digit digit code) token = refl
  inners_alike (Digits digits) token = rw (same token) refl
  inners_alike (Number text) token = rw (same token) refl
  inners_alike Other token = refl

  faults_alike : (earlier : List BodyPhrase) (before : List (List ℕ)) (token : List ℕ)
      → body_fault xs earlier before token ≡ body_fault ys earlier before token
  unfolding body_fault
  faults_alike earlier [] token = starts_alike earlier (start_of token)
  faults_alike earlier (first ∷ before) token = inners_alike (start_of first) token

  changes_alike : (form : ChangeForm) (text code : List ℕ)
      → change_with xs form text code ≡ change_with ys form text code
  changes_alike form text code = rw (same code) refl

  behind_alike : (form : ChangeForm) (text : List ℕ) (ts : List (List ℕ))
      → change_behind xs form text ts ≡ change_behind ys form text ts
  behind_alike form text [] = refl
  behind_alike form text (code ∷ []) = changes_alike form text code
  behind_alike form text (code ∷ t ∷ ts) = refl

  withs_alike : (s : Start) (ts : List (List ℕ)) → phrase_with xs s ts ≡ phrase_with ys s ts
  withs_alike (Command k) ts = refl
  withs_alike (Mark digits) ts = refl
  withs_alike (Digit digit code) [] = changes_alike Scalar (digit ∷ []) code
  withs_alike (Digit digit code) (t ∷ ts) = refl
  withs_alike (Digits digits) ts = behind_alike Vector digits ts
  withs_alike (Number text) ts = behind_alike RealText text ts
  withs_alike Other ts = refl

  phrases_alike : (ts : List (List ℕ)) → body_phrase xs ts ≡ body_phrase ys ts
  unfolding body_phrase
  phrases_alike [] = refl
  phrases_alike (t ∷ ts) = withs_alike (start_of t) ts

  pub bodies_alike : (ts us : List Token) → texts_of ts ≡ texts_of us
      → SameReading (read_body xs ts) (read_body ys us)
  unfolding read_body reading_of
  bodies_alike ts us e = same_from (body_grammar xs) (body_grammar ys)
      (record { fault = faults_alike; phrase = phrases_alike; last = λ p. refl }) ts us [] [] [] e
      refl

pub same_items : (r s : Reading BodyPhrase) → SameReading r s → body_items r ≡ body_items s
same_items r s same = ap items_of same.phrases

whole_of : (stream other : Stream) (r s : Reading BodyPhrase) → stream.halt ≡ other.halt
    → phrases_of r.placed ≡ phrases_of s.placed → r.before ≡ s.before
    → ends_well stream r ≡ ends_well other s
whole_of stream other r s h p b = rw (h, p, b) refl

-- if one of two such readings is whole, the other is
pub same_whole : (stream other : Stream) (r s : Reading BodyPhrase) → stream.halt ≡ other.halt
    → SameReading r s → body_fault_of other s ≡ None → body_fault_of stream r ≡ None
same_whole stream other r s h same none =
    by_ending r.ending s.ending refl refl (whole_of stream other r s h same.phrases same.before)
    same.ending none
  where
    ends : (b : Bool) (f : Fault) → ◌≡◌ {A = Option Fault} (cond b None (Some f)) None → b ≡ true
    ends true f e = refl
    ends false f e = cc

    by_ending : (e f : Ending) → r.ending ≡ e → s.ending ≡ f
        → ends_well stream r ≡ ends_well other s → SameEnding e f
        → ◌≡◌ {A = Option Fault} (elim f [
          | AtFault g ↦ Some g
          | AtEnd ↦ cond (ends_well other s)
              None (Some (missing other))
          | AtLast ↦ None
        ]) None
        → body_fault_of stream r ≡ None
    by_ending (AtFault f) (AtFault g) a b w same n = cc
    by_ending (AtFault f) AtEnd a b w same n = absurd same
    by_ending (AtFault f) AtLast a b w same n = absurd same
    by_ending AtEnd (AtFault g) a b w same n = absurd same
    by_ending AtEnd AtEnd a b w same n = rw (a, w, ends (ends_well other s) (missing other) n) refl
    by_ending AtEnd AtLast a b w same n = absurd same
    by_ending AtLast (AtFault g) a b w same n = absurd same
    by_ending AtLast AtEnd a b w same n = absurd same
    by_ending AtLast AtLast a b w same n = rw a refl
