-- What each token of a body is: its fault, and the phrase that it is.
use Rattle.vcd_body.proofs.Cited.{◌≡◌, ◌≢◌, ◌⊎◌, inl, inr, ℕ, ◌+◌, ◌^◌, ◌<◌, ◌≤◌, Bool, true, false, cond, not, ◌&&◌, ◌||◌, nat_lt, nat_le, List, [], ◌∷◌, ◌++◌, length, take, drop, count_by, Some, None, is_some, option_map, refl, sym, ap, ◌∙◌, arith, list_all, le-ltb, lt-ltb, le-leb, and_parts, is_decimal, decimal_value, is_empty, Keyword, keyword_text, is_end, IdCode, SectionKind, BodyItem, ChangeForm, time_after, leaves_open, is_begin, is_end_of_section, BodyPhrase, Start, is_value_digit, declared_code, section_keyword, phrase_with, items_of, Command, Mark, Digit, Digits, Number, start_checks, inner_checks, command_checks, first_failed, start_of-keyword, start_of-mark, start_of-digit, start_of-digits, start_of-number, NoEnds, until, not_until, Regs, AreRegsAfter, RefusesTimestamp, BodyFault, Begins, IsScalar, is_of_header, Passes, Refuses}
use Rattle.vcd_model.specs.Keywords.{keyword_of}
use Rattle.vcd_model.specs.BodyPhrases.{start_of, body_phrase}
use Rattle.vcd_model.specs.BodyChecks.{body_fault}
use Rattle.vcd_body.specs.declared.words.PhraseKind.TheVariants as kind

-- ---- the parts of a first token

head_and_rest : (token : List ℕ) (b : ℕ) (rest : List ℕ) → token ≡ b ∷ rest → token ≡ b ∷ drop 1 token
head_and_rest token b rest e = e ∙ ap (λ l. b ∷ l) (sym (ap (drop 1) e))

pub first_byte : (token : List ℕ) (b : ℕ) (rest : List ℕ) → token ≡ b ∷ rest → take 1 token ≡ b ∷ []
first_byte token b rest e = ap (take 1) e

-- a fault of a mark that may not be where it is
pub mark_own : (r : Regs) (time : ℕ) (fault : BodyFault) → RefusesTimestamp r time fault → fault ≢ BodyFault.ReadFailed
mark_own r time fault (inl e) = rw e.0 (λ x. cc)
mark_own r time fault (inr e) = rw e.0 (λ x. cc)

pub mark_misplaced : (r : Regs) (time : ℕ) (fault : BodyFault) → RefusesTimestamp r time fault → (is_some r.section ≡ true) ⊎ (time < r.time)
mark_misplaced r time fault (inl e) = inl e.1
mark_misplaced r time fault (inr e) = inr e.2

module _ (codes : List IdCode) where
  start_mark : (token : List ℕ) → Begins token kind.Timestamp → start_of token ≡ Mark (drop 1 token)
  start_mark token b = ap start_of (head_and_rest token 35 b.0 b.1) ∙ start_of-mark codes (drop 1 token)

  start_digit : (token : List ℕ) (b : IsScalar token) → start_of token ≡ Digit b.0 (drop 1 token)
  start_digit token b = ap start_of (head_and_rest token b.0 b.1 b.3) ∙ start_of-digit codes b.0 (drop 1 token) b.2

  start_digits : (token : List ℕ) → Begins token kind.Vector → start_of token ≡ Digits (drop 1 token)
  start_digits token b = ap start_of (head_and_rest token b.0 b.1 b.3) ∙ start_of-digits codes b.0 (drop 1 token) b.2

  start_number : (token : List ℕ) → Begins token kind.Real → start_of token ≡ Number (drop 1 token)
  start_number token b = ap start_of (head_and_rest token b.0 b.1 b.3) ∙ start_of-number codes b.0 (drop 1 token) b.2

  start_keyword : (token : List ℕ) (k : Keyword) → token ≡ keyword_text k → start_of token ≡ Command k
  start_keyword token k e = ap start_of e ∙ start_of-keyword codes k

  -- ---- faults and phrases, by what the first token is

  start_fault : (earlier : List BodyPhrase) (token : List ℕ) (s : Start) → start_of token ≡ s → body_fault codes earlier [] token ≡ first_failed (start_checks codes (items_of earlier) s)
  unfolding body_fault
  start_fault earlier token s e = ap (λ x. first_failed (start_checks codes (items_of earlier) x)) e

  inner_fault : (earlier : List BodyPhrase) (token : List ℕ) (before : List (List ℕ)) (t : List ℕ) (s : Start) → start_of token ≡ s
      → body_fault codes earlier (token ∷ before) t ≡ first_failed (inner_checks codes s t)
  unfolding body_fault
  inner_fault earlier token before t s e = ap (λ x. first_failed (inner_checks codes x t)) e

  phrase_is : (token : List ℕ) (ts : List (List ℕ)) (s : Start) → start_of token ≡ s → body_phrase codes (token ∷ ts) ≡ phrase_with codes s ts
  unfolding body_phrase
  phrase_is token ts s e = ap (λ x. phrase_with codes x ts) e

  -- ---- what the registers tell

  open_is : (b e : ℕ) (o : Bool) → b ≡ e + cond o 1 0 → nat_lt e b ≡ o
  open_is b e true h = lt-ltb e b (omega arith)
  open_is b e false h = le-ltb e b (omega arith)

  pub section_open : (items : List BodyItem) (r : Regs) (o : Bool) → AreRegsAfter items r → is_some r.section ≡ o → leaves_open items ≡ o
  section_open items r o k e = open_is (count_by is_begin items) (count_by is_end_of_section items) (is_some r.section) k.ended ∙ e

  -- ---- timestamps

  module _ (earlier : List BodyPhrase) (token : List ℕ) (b : Begins token kind.Timestamp) where
    pub bad_time : (is_decimal (drop 1 token) && nat_lt (decimal_value (drop 1 token)) (2 ^ 64)) ≡ false → body_fault codes earlier [] token ≡ Some 13
    bad_time h = start_fault earlier token (Mark (drop 1 token)) (start_mark token b) ∙ rw h refl

    module _ (r : Regs) (k : AreRegsAfter (items_of earlier) r) (h : (is_decimal (drop 1 token) && nat_lt (decimal_value (drop 1 token)) (2 ^ 64)) ≡ true) where
      pub time_in_section : is_some r.section ≡ true → body_fault codes earlier [] token ≡ Some 19
      time_in_section o = start_fault earlier token (Mark (drop 1 token)) (start_mark token b) ∙ rw (h, section_open (items_of earlier) r true k o) refl

      pub time_back : is_some r.section ≡ false → decimal_value (drop 1 token) < r.time → body_fault codes earlier [] token ≡ Some 14
      time_back o less =
          let t = k.time_is in
          let back : nat_le (time_after (items_of earlier)) (decimal_value (drop 1 token)) ≡ false = lt-leb-false (decimal_value (drop 1 token)) (time_after (items_of earlier)) (omega arith) in
          start_fault earlier token (Mark (drop 1 token)) (start_mark token b) ∙ rw (h, section_open (items_of earlier) r false k o, back) refl
        where
          lt-leb-false : (x y : ℕ) → x < y → nat_le y x ≡ false
          lt-leb-false x y l = grind arith

      pub mark_refused : (fault : BodyFault) → RefusesTimestamp r (decimal_value (drop 1 token)) fault → Refuses codes earlier token fault
      mark_refused fault (inl e) = rw e.0 (λ x. cc, time_in_section e.1)
      mark_refused fault (inr e) = rw e.0 (λ x. cc, time_back e.1 e.2)

      pub time_passes : is_some r.section ≡ false → r.time ≤ decimal_value (drop 1 token)
          → Passes codes earlier token (BodyItem.Time (decimal_value (drop 1 token))) × (time_after (items_of earlier) ≤ decimal_value (drop 1 token))
      time_passes o less =
          let t = k.time_is in
          let within : time_after (items_of earlier) ≤ decimal_value (drop 1 token) = omega arith in
          let forth : nat_le (time_after (items_of earlier)) (decimal_value (drop 1 token)) ≡ true = le-leb (time_after (items_of earlier)) (decimal_value (drop 1 token)) within in
          let d = and_parts (is_decimal (drop 1 token)) (nat_lt (decimal_value (drop 1 token)) (2 ^ 64)) h in (
            (
              start_fault earlier token (Mark (drop 1 token)) (start_mark token b) ∙ rw (h, section_open (items_of earlier) r false k o, forth) refl,
              phrase_is token [] (Mark (drop 1 token)) (start_mark token b) ∙ rw d.0 refl,
            ),
            within,
          )

  -- ---- a digit and a code

  module _ (earlier : List BodyPhrase) (token : List ℕ) (b : IsScalar token) where
    pub no_code : is_empty (drop 1 token) ≡ true → body_fault codes earlier [] token ≡ Some 15
    no_code h = start_fault earlier token (Digit b.0 (drop 1 token)) (start_digit token b) ∙ rw h refl

    pub unknown_code : is_empty (drop 1 token) ≡ false → declared_code codes (drop 1 token) ≡ None → body_fault codes earlier [] token ≡ Some 16
    unknown_code h d = start_fault earlier token (Digit b.0 (drop 1 token)) (start_digit token b) ∙ rw (h, d) refl

    pub scalar_passes : (c : IdCode) → is_empty (drop 1 token) ≡ false → declared_code codes (drop 1 token) ≡ Some c
        → Passes codes earlier token (BodyItem.Changes (record { code = c; form = ChangeForm.Scalar; text = take 1 token }))
    scalar_passes c h d = (
      start_fault earlier token (Digit b.0 (drop 1 token)) (start_digit token b) ∙ rw (h, d) refl,
      phrase_is token [] (Digit b.0 (drop 1 token)) (start_digit token b)
          ∙ rw d (ap (λ t. Some (BodyPhrase.Gives (BodyItem.Changes (record { code = c; form = ChangeForm.Scalar; text = t }))))
          (sym (first_byte token b.0 b.1 b.3))),
    )

  -- ---- digits, and the code after them

  module _ (earlier : List BodyPhrase) (token : List ℕ) (b : Begins token kind.Vector) where
    pub bad_digits : (not (is_empty (drop 1 token)) && list_all is_value_digit (drop 1 token)) ≡ false → body_fault codes earlier [] token ≡ Some 15
    bad_digits h = start_fault earlier token (Digits (drop 1 token)) (start_digits token b) ∙ rw h refl

    pub digits_begin : (not (is_empty (drop 1 token)) && list_all is_value_digit (drop 1 token)) ≡ true → (body_fault codes earlier [] token ≡ None)
        × (body_phrase codes (token ∷ []) ≡ None)
    digits_begin h = (start_fault earlier token (Digits (drop 1 token)) (start_digits token b) ∙ rw h refl, phrase_is token [] (Digits (drop 1 token)) (start_digits token b))

    pub digits_ask : (t : List ℕ) → declared_code codes t ≡ None → body_fault codes earlier (token ∷ []) t ≡ Some 16
    digits_ask t d = inner_fault earlier token [] t (Digits (drop 1 token)) (start_digits token b) ∙ rw d refl

    pub too_wide : (t : List ℕ) (c : IdCode) → declared_code codes t ≡ Some c → (c.event || nat_le (length (drop 1 token)) c.size) ≡ false
        → body_fault codes earlier (token ∷ []) t ≡ Some 17
    too_wide t c d f = inner_fault earlier token [] t (Digits (drop 1 token)) (start_digits token b) ∙ rw (d, f) refl

    pub vector_passes : (t : List ℕ) (c : IdCode) → declared_code codes t ≡ Some c → (c.event || nat_le (length (drop 1 token)) c.size) ≡ true
        → (body_fault codes earlier (token ∷ []) t ≡ None) × (body_phrase codes (token ∷ t ∷ []) ≡ Some
        (BodyPhrase.Gives (BodyItem.Changes (record { code = c; form = ChangeForm.Vector; text = drop 1 token }))))
    vector_passes t c d f = (
      inner_fault earlier token [] t (Digits (drop 1 token)) (start_digits token b) ∙ rw (d, f) refl,
      phrase_is token (t ∷ []) (Digits (drop 1 token)) (start_digits token b) ∙ rw d refl,
    )

  -- ---- the text of a real number, and the code after it

  module _ (earlier : List BodyPhrase) (token : List ℕ) (b : Begins token kind.Real) where
    pub no_number : is_empty (drop 1 token) ≡ true → body_fault codes earlier [] token ≡ Some 15
    no_number h = start_fault earlier token (Number (drop 1 token)) (start_number token b) ∙ rw h refl

    pub number_too_long : is_empty (drop 1 token) ≡ false → 64 < length (drop 1 token) → body_fault codes earlier [] token ≡ Some 18
    number_too_long h less =
        let long : nat_le (length (drop 1 token)) 64 ≡ false = lt-leb-false 64 (length (drop 1 token)) less in
        start_fault earlier token (Number (drop 1 token)) (start_number token b) ∙ rw (h, long) refl
      where
        lt-leb-false : (x y : ℕ) → x < y → nat_le y x ≡ false
        lt-leb-false x y l = grind arith

    pub number_begins : is_empty (drop 1 token) ≡ false → length (drop 1 token) ≤ 64 → (body_fault codes earlier [] token ≡ None) × (body_phrase codes (token ∷ []) ≡ None)
    number_begins h less = (
      start_fault earlier token (Number (drop 1 token)) (start_number token b) ∙ rw (h, le-leb (length (drop 1 token)) 64 less) refl,
      phrase_is token [] (Number (drop 1 token)) (start_number token b),
    )

    pub number_asks : (t : List ℕ) → declared_code codes t ≡ None → body_fault codes earlier (token ∷ []) t ≡ Some 16
    number_asks t d = inner_fault earlier token [] t (Number (drop 1 token)) (start_number token b) ∙ rw d refl

    pub real_passes : (t : List ℕ) (c : IdCode) → declared_code codes t ≡ Some c
        → (body_fault codes earlier (token ∷ []) t ≡ None) × (body_phrase codes (token ∷ t ∷ []) ≡ Some
        (BodyPhrase.Gives (BodyItem.Changes (record { code = c; form = ChangeForm.RealText; text = drop 1 token }))))
    real_passes t c d = (
      inner_fault earlier token [] t (Number (drop 1 token)) (start_number token b) ∙ rw d refl,
      phrase_is token (t ∷ []) (Number (drop 1 token)) (start_number token b) ∙ rw d refl,
    )

  -- ---- comments

  pub comment_begins : (earlier : List BodyPhrase) (token : List ℕ) → token ≡ keyword_text Keyword.Comment
      → (body_fault codes earlier [] token ≡ None) × (body_phrase codes (token ∷ []) ≡ None)
  comment_begins earlier token e = (
    start_fault earlier token (Command Keyword.Comment) (start_keyword token Keyword.Comment e),
    phrase_is token [] (Command Keyword.Comment) (start_keyword token Keyword.Comment e),
  )

  pub comment_goes_on : (earlier : List BodyPhrase) (inner : List (List ℕ)) (t : List ℕ) → body_fault codes earlier (keyword_text Keyword.Comment ∷ inner) t ≡ None
  comment_goes_on earlier inner t = inner_fault earlier (keyword_text Keyword.Comment) inner t (Command Keyword.Comment) (start_of-keyword codes Keyword.Comment)

  pub comment_open : (inner : List (List ℕ)) (t : List ℕ) → NoEnds inner → is_end t ≡ false → body_phrase codes (keyword_text Keyword.Comment ∷ inner ++ t ∷ []) ≡ None
  comment_open inner t none e = phrase_is (keyword_text Keyword.Comment) (inner ++ t ∷ []) (Command Keyword.Comment)
      (start_of-keyword codes Keyword.Comment) ∙ ap (option_map BodyPhrase.Comment) (not_until inner t none e)

  pub comment_whole : (inner : List (List ℕ)) (t : List ℕ) → NoEnds inner → is_end t ≡ true
      → body_phrase codes (keyword_text Keyword.Comment ∷ inner ++ t ∷ []) ≡ Some (BodyPhrase.Comment inner)
  comment_whole inner t none e = phrase_is (keyword_text Keyword.Comment) (inner ++ t ∷ []) (Command Keyword.Comment)
      (start_of-keyword codes Keyword.Comment) ∙ ap (option_map BodyPhrase.Comment) (until inner t none e)

  -- ---- sections, and what is no phrase

  module _ (earlier : List BodyPhrase) (token : List ℕ) (r : Regs) (k : AreRegsAfter (items_of earlier) r) where
    pub begin_passes : (s : SectionKind) → token ≡ keyword_text (section_keyword s) → is_some r.section ≡ false → Passes codes earlier token (BodyItem.Begin s)
    begin_passes SectionKind.Vars e o = (
      start_fault earlier token (Command Keyword.DumpVars) (start_keyword token Keyword.DumpVars e)
          ∙ rw (section_open (items_of earlier) r false k o) refl,
      phrase_is token [] (Command Keyword.DumpVars)
          (start_keyword token Keyword.DumpVars e),
    )
    begin_passes SectionKind.Off e o = (
      start_fault earlier token (Command Keyword.DumpOff) (start_keyword token Keyword.DumpOff e)
          ∙ rw (section_open (items_of earlier) r false k o) refl,
      phrase_is token [] (Command Keyword.DumpOff) (start_keyword token Keyword.DumpOff e),
    )
    begin_passes SectionKind.On e o = (
      start_fault earlier token (Command Keyword.DumpOn) (start_keyword token Keyword.DumpOn e)
          ∙ rw (section_open (items_of earlier) r false k o) refl,
      phrase_is token [] (Command Keyword.DumpOn) (start_keyword token Keyword.DumpOn e),
    )
    begin_passes SectionKind.All e o = (
      start_fault earlier token (Command Keyword.DumpAll) (start_keyword token Keyword.DumpAll e)
          ∙ rw (section_open (items_of earlier) r false k o) refl,
      phrase_is token [] (Command Keyword.DumpAll) (start_keyword token Keyword.DumpAll e),
    )

    pub begin_inside : (s : SectionKind) → token ≡ keyword_text (section_keyword s) → is_some r.section ≡ true → body_fault codes earlier [] token ≡ Some 4
    begin_inside SectionKind.Vars e o = start_fault earlier token (Command Keyword.DumpVars) (start_keyword token Keyword.DumpVars e) ∙ rw (section_open (items_of earlier) r true k o) refl
    begin_inside SectionKind.Off e o = start_fault earlier token (Command Keyword.DumpOff) (start_keyword token Keyword.DumpOff e) ∙ rw (section_open (items_of earlier) r true k o) refl
    begin_inside SectionKind.On e o = start_fault earlier token (Command Keyword.DumpOn) (start_keyword token Keyword.DumpOn e) ∙ rw (section_open (items_of earlier) r true k o) refl
    begin_inside SectionKind.All e o = start_fault earlier token (Command Keyword.DumpAll) (start_keyword token Keyword.DumpAll e) ∙ rw (section_open (items_of earlier) r true k o) refl

    pub end_passes : token ≡ keyword_text Keyword.End → is_some r.section ≡ true → Passes codes earlier token BodyItem.End
    end_passes e o = (
      start_fault earlier token (Command Keyword.End) (start_keyword token Keyword.End e)
          ∙ rw (section_open (items_of earlier) r true k o) refl,
      phrase_is token [] (Command Keyword.End) (start_keyword token Keyword.End e),
    )

    pub end_outside : token ≡ keyword_text Keyword.End → is_some r.section ≡ false → body_fault codes earlier [] token ≡ Some 4
    end_outside e o = start_fault earlier token (Command Keyword.End) (start_keyword token Keyword.End e) ∙ rw (section_open (items_of earlier) r false k o) refl

  pub of_header : (earlier : List BodyPhrase) (token : List ℕ) (k : Keyword) → token ≡ keyword_text k → is_of_header k ≡ true → body_fault codes earlier [] token ≡ Some 4
  of_header earlier token k e h = start_fault earlier token (Command k) (start_keyword token k e) ∙ misplaced k h
    where
      misplaced : (x : Keyword) → is_of_header x ≡ true → first_failed (command_checks (items_of earlier) x) ≡ Some 4
      misplaced Keyword.Comment h = cc
      misplaced Keyword.DumpAll h = cc
      misplaced Keyword.DumpOff h = cc
      misplaced Keyword.DumpOn h = cc
      misplaced Keyword.DumpVars h = cc
      misplaced Keyword.End h = cc
      misplaced Keyword.Date h = refl
      misplaced Keyword.EndDefinitions h = refl
      misplaced Keyword.Scope h = refl
      misplaced Keyword.Timescale h = refl
      misplaced Keyword.Upscope h = refl
      misplaced Keyword.Var h = refl
      misplaced Keyword.Version h = refl

  pub no_phrase : (earlier : List BodyPhrase) (token : List ℕ) → Begins token kind.Other → keyword_of token ≡ None → body_fault codes earlier [] token ≡ Some 3
  unfolding start_of body_fault keyword_of
  no_phrase earlier [] b k = refl
  no_phrase earlier (x ∷ rest) b k = rw (k, b.0, b.1, b.2, b.3) refl
