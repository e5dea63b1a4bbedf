-- What an item that lies whole ahead says of its first token.
use Rattle.vcd_body.proofs.Cited.{◌≡◌, ℕ, ◌⊎◌, Bool, true, false, List, [], ◌∷◌, inl, inr, refl, sym, ap, subst, ◌∙◌, arith, IsTrue, ◌==◌, ◌||◌, Result, Ok, byte, eqb-true, Keyword, keyword_text, Token, ahead_of, LieAhead, StandsStill, limit_of, source_of, token_of, AreFirst, Passed, Ghosts, Feed, NeedsOneToken, AreWhole, HoldsItem, IsAlone, Begins, BeginsOther, is_comment, is_either, BodyFault, PhraseKind, Timestamp, Bit, Scalar, Real, Other}
use Rattle.vcd_model.specs.BodyPhrases.{is_value_digit}
use Rattle.vcd_body.specs.Calls.{TakesToken}
use Rattle.vcd_body.specs.declared.words.PhraseKind.TheVariants.{Vector}
use Rattle.vcd_body.proofs.WordLemmas.{bit_digit}

-- ---- first bytes

not_both : {A : Type 0} (b : Bool) → b ≡ true → b ≡ false → A
not_both b t f = absurd (cc)

either_is : (a b d : ℕ) → IsTrue (is_either a b d) → (d ≡ a) ⊎ (d ≡ b)
either_is a b d is = by_tests (d == a) (d == b) refl refl is
  where
    by_tests : (p q : Bool) → (d == a) ≡ p → (d == b) ≡ q → IsTrue (p || (q || false)) → (d ≡ a) ⊎ (d ≡ b)
    by_tests true q e f h = inl (eqb-true d a e)
    by_tests false true e f h = inr (eqb-true d b f)
    by_tests false false e f h = absurd (cc)

-- the first byte of a vector or a real number
abbrev IsLetter : ℕ → Type 0
IsLetter l = (l ≡ 98) ⊎ (l ≡ 66) ⊎ (l ≡ 114) ⊎ (l ≡ 82)

-- no letter is a digit of a value
no_digit : (l : ℕ) → IsLetter l → is_value_digit l ≡ false
unfolding is_value_digit
no_digit l (inl e) = rw e refl
no_digit l (inr (inl e)) = rw e refl
no_digit l (inr (inr (inl e))) = rw e refl
no_digit l (inr (inr (inr e))) = rw e refl

no_mark : (l : ℕ) → IsLetter l → l ≡ 35 → ⊥
no_mark l (inl e) f = omega arith
no_mark l (inr (inl e)) f = omega arith
no_mark l (inr (inr (inl e))) f = omega arith
no_mark l (inr (inr (inr e))) f = omega arith

letter : (token : List ℕ) → Begins token Vector ⊎ Begins token Real → (l : ℕ) × (rest : List ℕ) × (token ≡ l ∷ rest) × IsLetter l
letter token (inl v) = (v.0, v.1, v.3, elim (either_is 98 66 v.0 v.2) [ inl e ↦ inl e | inr e ↦ inr (inl e) ])
letter token (inr r) = (r.0, r.1, r.3, elim (either_is 114 82 r.0 r.2) [ inl e ↦ inr (inr (inl e)) | inr e ↦ inr (inr (inr e)) ])

other_begins : (token : List ℕ) (b : ℕ) (rest : List ℕ) → token ≡ b ∷ rest → Begins token Other → BeginsOther (b ∷ rest)
other_begins token b rest e o = subst BeginsOther e o

first_same : (token : List ℕ) (a b : ℕ) (xs ys : List ℕ) → token ≡ a ∷ xs → token ≡ b ∷ ys → a ≡ b
first_same token a b xs ys e f = cc

letter_other : (token : List ℕ) → Begins token Other → Begins token Vector ⊎ Begins token Real → ⊥
letter_other token b (inl v) = let o = other_begins token v.0 v.1 v.3 b in not_both (is_either (byte "b") (byte "B") v.0) v.2 o.2
letter_other token b (inr r) = let o = other_begins token r.0 r.1 r.3 b in not_both (is_either (byte "r") (byte "R") r.0) r.2 o.3

-- a token by itself is no vector and no real number, and no comment
alone_letter : (token : List ℕ) (k : PhraseKind) → Begins token k → IsAlone k token → Begins token Vector ⊎ Begins token Real → ⊥
alone_letter token Vector b a v = a
alone_letter token Real b a v = a
alone_letter token Timestamp b a v = let l = letter token v in no_mark l.0 l.3 (first_same token l.0 (byte "#") l.1 b.0 l.2 b.1)
alone_letter token Bit b a v = let l = letter token v in not_both (is_value_digit b.0) (bit_digit b.0 b.2) (ap is_value_digit (first_same token b.0 l.0 b.1 l.1 b.3 l.2) ∙ no_digit l.0 l.3)
alone_letter token Scalar b a v = let l = letter token v in not_both (is_value_digit b.0) b.2 (ap is_value_digit (first_same token b.0 l.0 b.1 l.1 b.4 l.2) ∙ no_digit l.0 l.3)
alone_letter token Other b a v = letter_other token b v

alone_other : (token : List ℕ) (k : PhraseKind) → Begins token k → IsAlone k token → Begins token Other → is_comment token ≡ false
alone_other token Vector b a o = absurd a
alone_other token Real b a o = absurd a
alone_other token Timestamp b a o = let p = other_begins token (byte "#") b.0 b.1 o in not_both true refl p.0
alone_other token Bit b a o = let p = other_begins token b.0 b.1 b.3 o in not_both (is_value_digit b.0) (bit_digit b.0 b.2) p.1
alone_other token Scalar b a o = let p = other_begins token b.0 b.1 b.4 o in not_both (is_value_digit b.0) b.2 p.1
alone_other token Other b a o = a

-- ---- the first token

-- what follows where a token was given of an item that lies whole ahead
pub record FirstOfItem {X : Type 0} {g : Ghosts X} (old new : Feed X g) (result : Result Bool BodyFault) : Type 0 where
  pub given : result ≡ Ok true
  pub source_is : source_of new ≡ source_of old
  pub letter_more : Begins (token_of new).bytes Vector ⊎ Begins (token_of new).bytes Real → (t : Token) × (ts : List Token) × LieAhead new (t ∷ ts)
  pub no_comment : Begins (token_of new).bytes Other → is_comment (token_of new).bytes ≡ false

of_tokens : {X : Type 0} {g : Ghosts X} (old new : Feed X g) (result : Result Bool BodyFault) (ts : List Token) (n : ℕ) → TakesToken old new result
    → Passed (limit_of old) 0 (ahead_of old) n ts → AreWhole ts → FirstOfItem old new result
of_tokens old new result [] n takes p w = absurd w
of_tokens old new result (t ∷ []) n takes p w =
    let a = takes t [] (0, n, p) in
    record {
      given = a.0;
      source_is = a.1.source;
      letter_more = λ v. absurd (alone_letter t.bytes w.0 w.1 w.2 (subst (λ bs. Begins bs Vector ⊎ Begins bs Real) a.1.given v));
      no_comment = λ o. ap is_comment a.1.given ∙ alone_other t.bytes w.0 w.1 w.2 (subst (λ bs. Begins bs Other) a.1.given o);
    }
of_tokens old new result (t ∷ u ∷ []) n takes p w =
    let a = takes t (u ∷ []) (0, n, p) in
    record {
      given = a.0;
      source_is = a.1.source;
      letter_more = λ v. (u, [], a.1.rest);
      no_comment = λ o. absurd (letter_other t.bytes (subst (λ bs. Begins bs Other) a.1.given o) w);
    }
of_tokens old new result (t ∷ u ∷ v ∷ ts) n takes p w = absurd w

pub first_of_item : {X : Type 0} {g : Ghosts X} (old new : Feed X g) (result : Result Bool BodyFault) → TakesToken old new result
    → HoldsItem (limit_of old) (ahead_of old) → FirstOfItem old new result
first_of_item old new result takes h = of_tokens old new result h.tokens h.n takes h.passed h.whole

pub begins_as : (token bytes : List ℕ) (j k : PhraseKind) → Begins token j → j ≡ k → token ≡ bytes → Begins bytes k
begins_as token bytes j k b e f = subst (λ bs. Begins bs k) f (subst (Begins token) e b)

pub not_comment : (token : List ℕ) → token ≡ keyword_text Keyword.Comment → is_comment token ≡ false → ⊥
not_comment token e other = not_both (is_comment token) (rw e refl) other

-- ---- what is read

-- another token was kept before
pub kept_ahead : {X : Type 0} {g : Ghosts X} (old mid new : Feed X g) → StandsStill old mid → NeedsOneToken mid new → NeedsOneToken old new
kept_ahead old mid new still needs = λ t ts w.
    needs t ts (subst (λ n. AreFirst n (ahead_of mid) (t ∷ ts)) (sym still.limit) (subst (λ bs. AreFirst (limit_of old) bs (t ∷ ts)) (sym still.same_ahead) w)) ∙ still.same_source

-- where the item lay whole ahead at first it still does, and nothing was read
pub still_first : {X : Type 0} {g : Ghosts X} (first f : Feed X g) → (HoldsItem (limit_of first) (ahead_of first) → f ≡ first)
    → HoldsItem (limit_of first) (ahead_of first) → HoldsItem (limit_of f) (ahead_of f) × (source_of f ≡ source_of first)
still_first first f same w = let e = same w in (subst (λ h. HoldsItem (limit_of h) (ahead_of h)) (sym e) w, ap source_of e)
