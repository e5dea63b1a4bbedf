-- A dump in memory under two token limits: up to a token that is longer than the lower one, it is
-- read alike.
use Rattle.vcd_changes.proofs.Cited.{◌≡◌, ◌∙◌, ◌⊎◌, inl, inr, ℕ, zero, suc, ◌+◌, ◌-◌, ◌^◌, ◌<◌, ◌≤◌, Bool, true, false, List, [], ◌∷◌, ◌++◌, length, take, drop, Option, Some, None, ap, refl, sym, subst, append_assoc, arith, slice_index, unwrap_or, length-take-le, is_white_space, Clean, IsPrefixOf, Stream, Token, stream_of, Ends, whole, HasGivenTo, HasGivenAt, InPhase, HasLookedAt, phase_at, registers_at, Offset, Parked, Phase, Going, Ended, parked-stands, before_or_from, live-end, live-first, live-others, live-whites, token_to, clean-stream, given-first, long-stream, much-stream}

module _ (a b : ℕ) (le : a ≤ b) where
  -- what was looked at under the lower limit was under the other
  more_room : (text : List ℕ) (p r : ℕ) (given : List Token) → HasLookedAt a text p r given → HasLookedAt b text p r given
  more_room text p r given l = record {
    order = l.order;
    counted = l.counted;
    apart = l.apart;
    run = l.run;
    room = omega (arith, l.room, le);
    ended = l.ended;
    short = λ i lt begins. omega (arith, l.short i lt begins, le);
    gave = l.gave;
  }

  -- the streams are the same, or a token is too long for the lower limit, and the other stream
  -- begins with the tokens before it
  abbrev pub AreAlike : List ℕ → Type 0
  AreAlike text = (stream_of a (whole text) ≡ stream_of b (whole text))
      ⊎ (((stream_of a (whole text)).halt ≡ Some 1) × IsPrefixOf (stream_of a (whole text)).tokens (stream_of b (whole text)).tokens)

  -- ---- byte by byte

  -- from offset p on, with n bytes left
  abbrev IsAlikeFrom : List ℕ → ℕ → Type 0
  IsAlikeFrom text n = (p r : ℕ) (given : List Token) → HasLookedAt a text p r given → p + n ≡ length text → AreAlike text

  at_white : (text : List ℕ) (n : ℕ) → IsAlikeFrom text n → (p r : ℕ) (given : List Token) → HasLookedAt a text p r given → p + suc n ≡ length text
      → p + 1 < 2 ^ 63 → is_white_space (slice_index text p) ≡ true → AreAlike text
  at_white text n on p r given l all small white = elim (before_or_from r p) [
    | inl begun ↦ on (p + 1) (p + 1) (given ++ token_to text r p ∷ []) (live-end a text p r given white begun small (omega (arith, all)) l) (omega (arith, all))
    | inr after ↦
        let same : r ≡ p = omega (arith, after, l.order) in
        let here : HasLookedAt a text p p given = subst (λ k. HasLookedAt a text p k given) same l in
        on (p + 1) (p + 1) given (live-whites a text p 1 given (λ k lt. let e : p ≡ p + k = omega arith in
        subst (λ j. is_white_space (slice_index text j) ≡ true) e white) small here) (omega (arith, all))
  ]

  at_other : (text : List ℕ) (n : ℕ) → IsAlikeFrom text n → (p r : ℕ) (given : List Token) → HasLookedAt a text p r given → p + suc n ≡ length text
      → p + 1 < 2 ^ 63 → is_white_space (slice_index text p) ≡ false → AreAlike text
  at_other text n on p r given l all small other = elim (before_or_from p (r + a)) [
    | inl room ↦ on (p + 1) r given (live-others a text p 1 r given (λ k lt. let e : p ≡ p + k = omega arith in
        subst (λ j. is_white_space (slice_index text j) ≡ false) e other) small (omega (arith, room)) l) (omega (arith, all))
    | inr full ↦
        let fits : p ≤ length text = omega (arith, all) in
        let at : p ≡ r + a = omega (arith, full, l.room) in
        let halts = long-stream a text p r given l fits Clean at (omega (arith, all)) small other in
        let first = given-first b text p r given (more_room text p r given l) fits Clean in
        inr (ap (λ (s : Stream). s.halt) halts, subst (λ (ts : List Token). IsPrefixOf ts (stream_of b (whole text)).tokens) (sym (ap (λ (s : Stream). s.tokens) halts)) first)
  ]

  at_byte : (text : List ℕ) (n : ℕ) → IsAlikeFrom text n → (p r : ℕ) (given : List Token) → HasLookedAt a text p r given → p + suc n ≡ length text
      → p + 1 < 2 ^ 63 → (w : Bool) → is_white_space (slice_index text p) ≡ w → AreAlike text
  at_byte text n on p r given l all small true white = at_white text n on p r given l all small white
  at_byte text n on p r given l all small false other = at_other text n on p r given l all small other

  alike_from : (text : List ℕ) (n : ℕ) → IsAlikeFrom text n
  alike_from text zero p r given l all =
      let fits : p ≤ length text = omega (arith, all) in
      let end : length text ≡ p = omega (arith, all) in
      inl (clean-stream a text p r given l fits end ∙ sym (clean-stream b text p r given (more_room text p r given l) fits end))
  alike_from text (suc n) p r given l all = elim (before_or_from (p + 1) (2 ^ 63)) [
    | inl small ↦ at_byte text n (alike_from text n) p r given l all small (is_white_space (slice_index text p)) refl
    | inr much ↦
        let fits : p ≤ length text = omega (arith, all) in
        let at : p ≡ 2 ^ 63 - 1 = omega (arith, much, l.counted) in
        let more : p < length text = omega (arith, all) in
        inl (much-stream a text p r given l fits Clean at more ∙ sym (much-stream b text p r given (more_room text p r given l) fits Clean at more))
  ]

  pub are_alike : (text : List ℕ) → AreAlike text
  are_alike text = alike_from text (length text) 0 0 [] (live-first a text) (omega arith)

  -- ---- what was given

  pub first_tokens : (text : List ℕ) (front : List Token) → IsPrefixOf front (stream_of a (whole text)).tokens → IsPrefixOf front (stream_of b (whole text)).tokens
  first_tokens text front first = elim (are_alike text) [
    | inl same ↦ subst (λ (s : Stream). IsPrefixOf front s.tokens) same first
    | inr halted ↦ (first.0 ++ halted.1.0, halted.1.1 ∙ ap (λ l. l ++ halted.1.0) first.1 ∙ append_assoc front first.0 halted.1.0)
  ]

  ends_clean : (text : List ℕ) (given : List Token) (line : ℕ) → Ends a (whole text) given None line → Ends b (whole text) given None line
  ends_clean text given line ends = elim (are_alike text) [
    | inl same ↦ sym same ∙ ends
    | inr halted ↦ let no : ◌≡◌ {A = Option ℕ} (Some 1) None = sym halted.0 ∙ ap (λ (s : Stream). s.halt) ends in absurd (cc)
  ]

  given_in : (phase : Phase) → (phase ≡ Going) ⊎ (phase ≡ Ended)
      → (rest : Option (List ℕ)) (chunk : List ℕ) (p : Parked) (text : List ℕ) (given : List Token) → InPhase phase a rest chunk p (whole text) given
      → InPhase phase b rest chunk p (whole text) given
  given_in phase (inl is) rest chunk p text given h =
      let going : InPhase Going a rest chunk p (whole text) given = subst (λ q. InPhase q a rest chunk p (whole text) given) is h in
      let place = going.1.place in
      subst (λ q. InPhase q b rest chunk p (whole text) given) (sym is) (
        going.0,
        record {
          place = record { more = place.more; known = place.known; ahead = place.ahead; within = place.within; live = more_room text _ _ given place.live; line_feeds_are = place.line_feeds_are };
          begun = going.1.begun;
        },
      )
  given_in phase (inr is) rest chunk p text given h =
      let ended : InPhase Ended a rest chunk p (whole text) given = subst (λ q. InPhase q a rest chunk p (whole text) given) is h in
      subst (λ q. InPhase q b rest chunk p (whole text) given) (sym is) (ended.0, ends_clean text given _ ended.1, ended.2)

  open_phase : (n : ℕ) → n ≤ 1 → (unwrap_or (phase_at n) Going ≡ Going) ⊎ (unwrap_or (phase_at n) Going ≡ Ended)
  open_phase zero le = inl refl
  open_phase (suc zero) le = inr refl
  open_phase (suc (suc n)) le = absurd (omega (arith, le))

  -- a feed that was not halted has given the same tokens under the other limit
  pub given_to : (chunk : ℕ) (o : Offset) (text : List ℕ) (given : List Token) → o.answer ≤ 1 → HasGivenTo chunk a o (whole text) given → HasGivenTo chunk b o (whole text) given
  given_to chunk o text given «open» to = λ c t same full.
      let rest : Option (List ℕ) = Some (drop o.bytes text) in
      let size : length (take a t) ≡ a = length-take-le a t (omega (arith, le, full)) in
      let at : HasGivenAt a rest c (registers_at o) (whole text) given = subst (λ n. HasGivenAt n rest c (registers_at o) (whole text) given) size (to c (take a t) same size).at in
      parked-stands rest c t b (registers_at o) (whole text) given full
      (given_in (registers_at o).phase (open_phase o.answer «open») rest c (registers_at o) text given at) (λ some. absurd (omega (arith, some)))
