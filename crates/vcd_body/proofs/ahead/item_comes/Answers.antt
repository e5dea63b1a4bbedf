use Rattle.vcd_body.proofs.Cited.{◌≡◌, ℕ, List, [], ◌∷◌, ◌⊎◌, inl, inr, refl, sym, subst, ◌∙◌, Bool, not, true, false, Option, None, Some, is_some, IfSome, Bor, Token, TakesToken, bytes_of, longest_of, passed_of, start_of, Passed, line_ahead, Ahead, HoldsItem, IsAlone, Begins, is_comment, PhraseKind, Timestamp, Bit, Scalar, Real, Other}
use Rattle.vcd_body.specs.declared.words.PhraseKind.TheVariants.{Vector}
use Rattle.vcd_body.proofs.ahead.item_comes.Goals as goal

-- a token that is whole ahead
abbrev taken : Ahead → Ahead → List ℕ → Token
taken a a' token = record { bytes = token; line = line_ahead 0 (bytes_of a) (start_of a' token) }

one : (a a' : Ahead) (token : List ℕ) (first : PhraseKind) → passed_of a ≡ 0 → TakesToken a a' token → Begins token first → IsAlone first token → HoldsItem (longest_of a) (bytes_of a)
one a a' token first none t begins alone = record { tokens = taken a a' token ∷ []; n = passed_of a'; passed = t.gives 0 [] none; whole = (first, begins, alone) }

two : (a b c : Ahead) (token next : List ℕ) → passed_of a ≡ 0 → TakesToken a b token → TakesToken b c next → Begins token Vector ⊎ Begins token Real
    → HoldsItem (longest_of a) (bytes_of a)
two a b c token next none t u begins =
    let first = taken a b token in
    let passed = subst (λ bs. Passed (longest_of a) 0 bs (passed_of b) (first ∷ [])) (sym t.same.0) (t.gives 0 [] none) in
    let both = u.gives 0 (first ∷ []) (subst (λ n. Passed n 0 (bytes_of b) (passed_of b) (first ∷ [])) (sym t.same.1) passed) in
    record {
      tokens = first ∷ taken b c next ∷ [];
      n = passed_of c;
      passed = subst (λ n. Passed n 0 (bytes_of a) (passed_of c) (first ∷ taken b c next ∷ [])) t.same.1
          (subst (λ bs. Passed (longest_of b) 0 bs (passed_of c) (first ∷ taken b c next ∷ [])) t.same.0 both);
      whole = begins;
    }

alone : (first : PhraseKind) (token : List ℕ) → (first ≡ Bit) ⊎ (first ≡ Scalar) ⊎ (first ≡ Timestamp) → IsAlone first token
alone first token (inl e) = subst (λ (f : PhraseKind). IsAlone f token) (sym e) tt
alone first token (inr (inl e)) = subst (λ (f : PhraseKind). IsAlone f token) (sym e) tt
alone first token (inr (inr e)) = subst (λ (f : PhraseKind). IsAlone f token) (sym e) tt

either : (first : PhraseKind) (token : List ℕ) → Begins token first → (first ≡ Vector) ⊎ (first ≡ Real) → Begins token Vector ⊎ Begins token Real
either first token begins (inl e) = inl (subst (Begins token) e begins)
either first token begins (inr e) = inr (subst (Begins token) e begins)

pub returns-in-Bit : goal.returns-in-Bit
returns-in-Bit c = λ _.
    one c.args.ahead c.next_slowly.new.self c.in-Some.token.now c.phrase_kind.result c.requires c.in-Some.ensures.takes c.phrase_kind.ensures
    (alone c.phrase_kind.result c.in-Some.token.now c.in-Bit.is)

pub returns-in-Vector : goal.returns-in-Vector
returns-in-Vector c = λ some. by_next c.next_slowly-in-Vector.result (sym c.is_some.ensures ∙ some) c.next_slowly-in-Vector.ensures.takes
  where
    by_next : (o : Option (Bor (List ℕ))) → is_some o ≡ true → IfSome o
        (λ token. TakesToken c.next_slowly.new.self c.next_slowly-in-Vector.new.self token.now)
        → HoldsItem (longest_of c.args.ahead) (bytes_of c.args.ahead)
    by_next None e t = cc
    by_next (Some next) e t = two c.args.ahead c.next_slowly.new.self c.next_slowly-in-Vector.new.self c.in-Some.token.now next.now c.requires c.in-Some.ensures.takes t
        (either c.phrase_kind.result c.in-Some.token.now c.phrase_kind.ensures c.in-Vector.is)

other : (first : PhraseKind) (token : List ℕ) (b : Bool) → first ≡ Other → b ≡ is_comment token → not b ≡ true → IsAlone first token
other first token b e is no_comment = subst (λ (f : PhraseKind). IsAlone f token) (sym e) (sym is ∙ by_case b no_comment)
  where
    by_case : (c : Bool) → not c ≡ true → c ≡ false
    by_case true e = cc
    by_case false e = refl

pub returns-in-Other : goal.returns-in-Other
returns-in-Other c = λ told.
    one c.args.ahead c.next_slowly.new.self c.in-Some.token.now c.phrase_kind.result c.requires c.in-Some.ensures.takes c.phrase_kind.ensures
    (other c.phrase_kind.result c.in-Some.token.now c.is_comment.result c.in-Other.is c.is_comment.ensures told)
