-- What a call finds under a lower token limit it finds under the other, unless a token is too long.
use Rattle.vcd_changes.proofs.Cited.{◌≡◌, ◌≢◌, ◌∙◌, ◌⊎◌, inl, inr, ℕ, ◌≤◌, IsTrue, false, List, [], ◌∷◌, ◌++◌, length, replicate, Option, Some, None, ap, refl, sym, subst, append_assoc, length-replicate, BodyPhrase, body_fault_of, body_grammar, body_items, read_body, IdCode, HeaderPhrase, header_fault_of, header_grammar, read_header, BodyItem, IsPrefixOf, Ending, Fault, Grammar, IsReading, missing, AtFault, AtEnd, AtLast, Stream, Token, stream_of, body_reading_is_unique, header_reading_is_unique, whole, HasGivenTo, Offset, BodyHas, EndsAt, FindsUnder, GoesOnUnder, HasCodes, IsAfter, IsLimitEnough, Place, ChangeRow}
use Rattle.vcd_model.specs.Reading.{Ends, Reading}
use Rattle.vcd_changes.specs.declared.reading.Reading as reading
use Rattle.vcd_changes.proofs.LimitLemmas.{are_alike, first_tokens, given_to}

-- ---- a reading that has met a fault

-- the same reading, with other tokens after it
abbrev with_more : {P : Type 0} → Reading P → List Token → Reading P
with_more r ys = record { placed = r.placed; before = r.before; ending = r.ending; rest = r.rest ++ ys }

module _ {P : Type 0} (g : Grammar P) where
  ends_more : (r : Reading P) (before : List Token) (ending : Ending) (rest ys : List Token) (f : Fault) → ending ≡ AtFault f
      → Ends g r before ending rest → Ends g (with_more r ys) before ending (rest ++ ys)
  ends_more r before (AtFault f) [] ys h is ends = absurd ends
  ends_more r before (AtFault f) (t ∷ rest) ys h is ends = ends
  ends_more r before AtEnd rest ys h is ends = absurd (cc)
  ends_more r before AtLast rest ys h is ends = absurd (cc)

  reads_more : (xs ys : List Token) (r : Reading P) (f : Fault) → r.ending ≡ AtFault f → IsReading g xs r → IsReading g (xs ++ ys) (with_more r ys)
  reads_more xs ys r f is reads = record {
    done = reads.done;
    before = reads.before;
    tokens = ap (λ l. l ++ ys) reads.tokens ∙ append_assoc (reads.done ++ reads.before) r.rest ys;
    good = reads.good;
    texts = reads.texts;
    passed = reads.passed;
    unfinished = reads.unfinished;
    ends = ends_more r reads.before r.ending r.rest ys f is reads.ends;
  }

faulty_body : (codes : List IdCode) (xs ys : List Token) (f : Fault) → (read_body codes xs).ending ≡ AtFault f → with_more (read_body codes xs) ys ≡ read_body codes (xs ++ ys)
faulty_body codes xs ys f is =
    (body_reading_is_unique codes (xs ++ ys) (with_more (read_body codes xs) ys)).0
    (reads_more (body_grammar codes) xs ys (read_body codes xs) f is ((body_reading_is_unique codes xs (read_body codes xs)).1 refl))

-- a phrase of a body may be followed by another
no_last : (codes : List IdCode) (ts : List Token) → (read_body codes ts).ending ≡ AtLast → ⊥
no_last codes ts is =
    let reads = (body_reading_is_unique codes ts (read_body codes ts)).1 refl in
    let ends : Ends (body_grammar codes) (read_body codes ts) reads.before AtLast (read_body codes ts).rest = subst
    (λ e. Ends (body_grammar codes) (read_body codes ts) reads.before e (read_body codes ts).rest) is reads.ends in
    let last : IsTrue false = ends.4 in absurd (cc)

faulty_header : (most : ℕ) (s t : Stream) (ys : List Token) (f : Fault) → t.tokens ≡ s.tokens ++ ys → (read_header most s).ending ≡ AtFault f
    → with_more (read_header most s) ys ≡ read_header most t
faulty_header most s t ys f more is =
    let reads = reads_more (header_grammar most) s.tokens ys (read_header most s) f is ((header_reading_is_unique most s (read_header most s)).1 refl) in
    (header_reading_is_unique most t (with_more (read_header most s) ys)).0 (subst (λ (l : List Token). IsReading (header_grammar most) l (with_more (read_header most s) ys)) (sym more) reads)

-- ---- one that has met none, of a stream that a token halts

one_missing : (s : Stream) → s.halt ≡ Some 1 → (missing s).number ≡ 1
one_missing s is = rw is refl

body_missing : (s : Stream) (r : Reading BodyPhrase) → s.halt ≡ Some 1 → r.ending ≡ AtEnd → body_fault_of s r ≡ Some (missing s)
body_missing s r halt is = rw (is, halt) refl

-- ---- the lower limit, and the other

module _ (a b : ℕ) (le : a ≤ b) (text : List ℕ) where
  abbrev low : Stream
  low = stream_of a (whole text)

  abbrev high : Stream
  high = stream_of b (whole text)

  body_more : (codes : List IdCode) (front : List Token) (items : List BodyItem) (fault : Option Fault)
      → ((f : Fault) → fault ≡ Some f → f.number ≢ 1) → BodyHas codes (whole text) front a items fault
      → BodyHas codes (whole text) front b items fault
  body_more codes front items fault fits has = elim (are_alike a b le text) [
    | inl same ↦ record {
      rest = has.rest;
      tokens = ap (λ (s : Stream). s.tokens) (sym same) ∙ has.tokens;
      items_are = has.items_are;
      fault_is = ap (λ (s : Stream). body_fault_of s (read_body codes has.rest)) (sym same) ∙ has.fault_is;
    }
    | inr halted ↦ by_ending halted.0 halted.1 (read_body codes has.rest).ending refl
  ]
    where
      by_ending : low.halt ≡ Some 1 → IsPrefixOf low.tokens high.tokens → (e : Ending) → (read_body codes has.rest).ending ≡ e → BodyHas codes (whole text) front b items fault
      by_ending halt more (AtFault f) is =
          let reads = faulty_body codes has.rest more.0 f is in
          let found : body_fault_of low (read_body codes has.rest) ≡ Some f = rw is refl in
          let again : body_fault_of high (with_more (read_body codes has.rest) more.0) ≡ Some f = rw is refl in
          record {
            rest = has.rest ++ more.0;
            tokens = more.1 ∙ ap (λ l. l ++ more.0) has.tokens ∙ append_assoc front has.rest more.0;
            items_are = ap (λ (r : Reading BodyPhrase). body_items r) (sym reads) ∙ has.items_are;
            fault_is = ap (λ (r : Reading BodyPhrase). body_fault_of high r) (sym reads) ∙ again ∙ sym found ∙ has.fault_is;
          }
      by_ending halt more AtEnd is = absurd (fits (missing low) (sym has.fault_is ∙ body_missing low (read_body codes has.rest) halt is) (one_missing low halt))
      by_ending halt more AtLast is = absurd (no_last codes has.rest is)

  header_more : (most : ℕ) (f : Fault) → f.number ≢ 1 → header_fault_of low (read_header most low) ≡ Some f → header_fault_of high (read_header most high) ≡ Some f
  header_more most f fits has = elim (are_alike a b le text) [
    | inl same ↦ subst (λ (s : Stream). header_fault_of s (read_header most s) ≡ Some f) same has
    | inr halted ↦ by_ending halted.0 halted.1 (read_header most low).ending refl
  ]
    where
      by_ending : low.halt ≡ Some 1 → IsPrefixOf low.tokens high.tokens → (e : Ending) → (read_header most low).ending ≡ e → header_fault_of high (read_header most high) ≡ Some f
      by_ending halt more (AtFault g) is =
          let found : header_fault_of low (read_header most low) ≡ Some g = rw is refl in
          let again : header_fault_of high (with_more (read_header most low) more.0) ≡ Some g = rw is refl in
          ap (λ (r : Reading HeaderPhrase). header_fault_of high r) (sym (faulty_header most low high more.0 g more.1 is)) ∙ again ∙ sym found ∙ has
      by_ending halt more AtEnd is =
          let found : header_fault_of low (read_header most low) ≡ Some (missing low) = rw is refl in
          let same : missing low ≡ f = let e = sym found ∙ has in cc in
          absurd (fits (ap (λ (x : Fault). x.number) (sym same) ∙ one_missing low halt))
      by_ending halt more AtLast is =
          let found : header_fault_of low (read_header most low) ≡ None = rw is refl in
          let no : None ≡ Some f = sym found ∙ has in absurd (cc)

  codes_more : (front : List Token) (codes : List IdCode) → HasCodes a text front codes → HasCodes b text front codes
  codes_more front codes has = record { placed = has.placed; first = first_tokens a b le text front has.first; header = has.header; codes_are = has.codes_are }

  after_more : (codes : List IdCode) (front : List Token) (items : List BodyItem) (p : Place) → p.offset.answer ≤ 1
      → IsAfter a codes (whole text) front items p → IsAfter b codes (whole text) front items p
  after_more codes front items p «open» after = record {
    given = after.given;
    placed = after.placed;
    begun = after.begun;
    comes = after.comes;
    stands = given_to a b le 8192 p.offset text (front ++ after.given) «open» after.stands;
    short = after.short;
    so_far = after.so_far;
    items_are = after.items_are;
    known = after.known;
  }

  ends_at_more : (codes : List IdCode) (front : List Token) (items : List BodyItem) (r : reading.Reading) (rows : List ChangeRow) (status : ℕ)
      → IsLimitEnough r status → EndsAt a codes (whole text) front items r rows status → EndsAt b codes (whole text) front items r rows status
  ends_at_more codes front items r rows status enough (inl done) = inl (done.0, body_more codes front items None (λ f e. absurd (cc)) done.1, after_more codes front items r.place enough.open done.2)
  ends_at_more codes front items r rows status enough (inr (inl faulty)) = inr
      (inl (
        faulty.0,
        body_more codes front items (Some (record { number = r.fault; line = r.line }))
            (λ f e. λ one. enough.fits faulty.0 (number_is f e ∙ one)) faulty.1,
      ))
    where
      number_is : (f : Fault) → ◌≡◌ {A = Option Fault} (Some (record { number = r.fault; line = r.line })) (Some f) → r.fault ≡ f.number
      number_is f e = let same : ◌≡◌ {A = Fault} (record { number = r.fault; line = r.line }) f = cc in ap (λ (x : Fault). x.number) same
  ends_at_more codes front items r rows status enough (inr (inr full)) = inr (inr (full.0, full.1, after_more codes front items r.place enough.open full.2))

  pub finds_more : (items : List BodyItem) (code : List ℕ) (r : reading.Reading) (rows : List ChangeRow) (status : ℕ) → IsLimitEnough r status
      → FindsUnder a text items code r rows status → FindsUnder b text items code r rows status
  finds_more items code r rows status enough (FindsUnder.Found front codes has finds) =
      FindsUnder.Found front codes
      (codes_more front codes has) (record {
        more = finds.more;
        rows_are = finds.rows_are;
        ends = ends_at_more codes front
            (items ++ finds.more) r rows status enough finds.ends;
      })
  finds_more items code r rows status enough (FindsUnder.NoCode front codes has none count_is status_is) = FindsUnder.NoCode front codes (codes_more front codes has) none count_is status_is
  finds_more items code r rows status enough (FindsUnder.BadHeader fault none status_is) = FindsUnder.BadHeader
      (header_more 16777216 (record { number = r.fault; line = r.line }) (enough.fits status_is) fault) none status_is
  finds_more items code r rows status enough (FindsUnder.NoMemory count_is status_is) = FindsUnder.NoMemory count_is status_is

-- ---- where a call resumes

-- the first tokens of the dump under this limit too
first_given : (limit : ℕ) (o : Offset) (text : List ℕ) (front more : List Token) → HasGivenTo 8192 limit o (whole text) (front ++ more) → IsPrefixOf front (stream_of limit (whole text)).tokens
first_given limit o text front more to =
    let c : List ℕ = replicate 8192 0 in
    let t : List ℕ = replicate limit 0 in
    let same : length c ≡ 8192 = length-replicate {A = ℕ} 8192 0 in
    let full : length t ≡ limit = length-replicate {A = ℕ} limit 0 in
    let first = subst (λ n. IsPrefixOf (front ++ more) (stream_of n (whole text)).tokens) full (to c t same full).given_first in
    (more ++ first.0, first.1 ∙ append_assoc front more first.0)

-- a reading that has come there under the lower limit
pub goes_on_lower : (limit : ℕ) (text : List ℕ) (items : List BodyItem) (p : Place) → (p.limit ≡ 0) ⊎ (p.limit ≡ 65536)
    → GoesOnUnder limit text items p → GoesOnUnder 65536 text items p
goes_on_lower limit text items p lower (GoesOnUnder.AtBegin new none) = GoesOnUnder.AtBegin new none
goes_on_lower limit text items p (inl new) (GoesOnUnder.Behind front codes has after) = absurd (after.begun new)
goes_on_lower limit text items p (inr is) (GoesOnUnder.Behind front codes has after) =
    let stands = after.short is in
    GoesOnUnder.Behind front codes
    (record { placed = has.placed; first = first_given 65536 p.offset text front after.given stands; header = has.header; codes_are = has.codes_are })
    (record {
      given = after.given;
      placed = after.placed;
      begun = after.begun;
      comes = after.comes;
      stands = stands;
      short = λ _.
          stands;
      so_far = after.so_far;
      items_are = after.items_are;
      known = after.known;
    })
