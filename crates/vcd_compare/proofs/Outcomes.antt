-- The outcome of a body, by its first items or by all of them.
use Rattle.vcd_compare.proofs.Cited.{◌≡◌, ◌⊎◌, inl, inr, ℕ, ◌<◌, ◌≤◌, ◌==◌, Bool, true, false, not, cond, ◌&&◌, ◌||◌, nat_lt, List, [], ◌∷◌, ◌++◌, length, None, Result, Ok, Err, refl, sym, ap, subst, ◌∙◌, append-nil, append_assoc, arith, AllByRecursion, cases_lt, eqb-true, eqb-false, le-ltb, lt-ltb, map-append, AllZip-long, is_empty, body_fault_of, body_items, read_body, IdCode, Header, header_of, HeaderPhrase, header_fault_of, header_grammar, Input, BodyItem, marks, IsPrefixOf, Opened, declarations_allowed, Placed, Reading, phrases_of, reading_of, texts_of, AtLast, IsWhole, Stream, Token, stream_of, Asked, count_line, Names, compared_in, within_open, all_back, body_fit, stream_words, AreFit, fault_output, whole-more, IsWord, Stop, Dump, Read, Write, Unmatched, DoNotFall, lines_due, time_compared, AnswersGiveOutcomes, Belongs, BodiesGiveOutcomes, left_of, IsPairAt, Answer, Answers, done_of, plan_within, ways_within, IsSound, KeepOutput, gives_outcome}
use Rattle.vcd_model.specs.HeaderReading.{read_header}
use Rattle.vcd_model.specs.Outcome.{body_of, open_from}
use Rattle.vcd_model.specs.Within.{within, within_dump}
use Rattle.vcd_run.specs.Outcomes.{over_plan}
use Rattle.vcd_compare.proofs.EarlyEnd.{ended, up_front}
use Rattle.vcd_compare.proofs.OpenGrows.{open_again, open_later, open_other}

-- ---- the timestamps of a body

fit_up : (codes : List IdCode) (t : ℕ) (o : Bool) (items : List BodyItem) → AreFit codes t o items → DoNotFall t (marks items)
fit_up codes t o [] fit = tt
fit_up codes t o (BodyItem.Time u ∷ items) fit = (fit.0.0, fit_up codes u o items fit.1)
fit_up codes t o (BodyItem.Begin s ∷ items) fit = fit_up codes t true items fit.1
fit_up codes t o (BodyItem.End ∷ items) fit = fit_up codes t false items fit.1
fit_up codes t o (BodyItem.Changes c ∷ items) fit = fit_up codes t o items fit.1

-- they do not fall
pub body_up : (codes : List IdCode) (limit : ℕ) (i : Input) (front rest : List Token) → (stream_of limit i).tokens ≡ front ++ rest → DoNotFall 0 (marks (body_items (read_body codes rest)))
body_up codes limit i front rest e =
    let words = subst (AllByRecursion IsWord) (ap texts_of e ∙ map-append (λ (x : Token). x.bytes) front rest) (stream_words limit i) in
    fit_up codes 0 false (body_items (read_body codes rest)) (body_fit codes rest (all_back IsWord (texts_of front) (texts_of rest) words))

-- ---- what is due with more items

module _ (q : Asked) (h : Header) (ns : List Names) where
  one_more : (items : List BodyItem) (x : BodyItem) → DoNotFall 0 (marks (items ++ x ∷ [])) → IsPrefixOf (within_open q h ns items) (within_open q h ns (items ++ x ∷ []))
  one_more items (BodyItem.Time t) up = by_order (cases_lt (time_compared q items) t)
    where
      by_order : (time_compared q items < t) ⊎ (t ≤ time_compared q items) → IsPrefixOf (within_open q h ns items) (within_open q h ns (items ++ BodyItem.Time t ∷ []))
      by_order (inl high) = (lines_due q h ns items, open_later q h ns items t (up_front items (BodyItem.Time t ∷ []) up) up high)
      by_order (inr low) = ([], open_again q h ns items t (up_front items (BodyItem.Time t ∷ []) up) up low ∙ sym (append-nil (within_open q h ns items)))
  one_more items (BodyItem.Begin s) up = ([], open_other q h ns items (BodyItem.Begin s) refl ∙ sym (append-nil (within_open q h ns items)))
  one_more items BodyItem.End up = ([], open_other q h ns items BodyItem.End refl ∙ sym (append-nil (within_open q h ns items)))
  one_more items (BodyItem.Changes c) up = ([], open_other q h ns items (BodyItem.Changes c) refl ∙ sym (append-nil (within_open q h ns items)))

  -- it begins with what was due
  pub open_more : (items more : List BodyItem) → DoNotFall 0 (marks (items ++ more)) → IsPrefixOf (within_open q h ns items) (within_open q h ns (items ++ more))
  open_more items [] up = ([], ap (within_open q h ns) (append-nil items) ∙ sym (append-nil (within_open q h ns items)))
  open_more items (x ∷ more) up =
      let next : items ++ x ∷ more ≡ (items ++ x ∷ []) ++ more = sym (append_assoc items (x ∷ []) more) in
      let up' = subst (λ l. DoNotFall 0 (marks l)) next up in
      let one = one_more items x (up_front (items ++ x ∷ []) more up') in
      let rest = open_more (items ++ x ∷ []) more up' in
      (one.0 ++ rest.0, ap (within_open q h ns) next ∙ rest.1 ∙ ap (λ l. l ++ rest.0) one.1 ∙ append_assoc (within_open q h ns items) one.0 rest.0)

  -- no item takes a line back, and none after those that end a run counts
  pub sound : IsSound (plan_within q h ns) h.codes
  sound limit i front rest items more tokens is =
      let up = subst (λ l. DoNotFall 0 (marks l)) is (body_up h.codes limit i front rest tokens) in
      (open_more items more up, λ ends. ended q h ns items more up ends)

  module _ (name : List ℕ) where
    kept : KeepOutput (ways_within q h ns name)
    kept = record {
      early = λ lines. (count_line (length (compared_in q h ns)), refl);
      well = λ items lines. (count_line (length (compared_in q h ns)), refl);
      faulty = λ lines f. fault_output lines name f;
    }

    -- the outcome of the definitions is that of the plan
    planned : (stream : Stream) (rest : List Token) → within_dump q ns name (record { header = h; stream = stream; rest = rest }) ≡ over_plan
        (plan_within q h ns) (ways_within q h ns name) (body_items (read_body h.codes rest)) (body_fault_of stream (read_body h.codes rest))
    unfolding within_dump body_of over_plan
    planned stream rest = refl

-- ---- the header

-- the header is read
abbrev head_of : ℕ → Input → Reading HeaderPhrase
head_of limit i = read_header declarations_allowed (stream_of limit i)

abbrev opened_as : ℕ → Input → Reading HeaderPhrase → Opened
opened_as limit i r = record { header = header_of (phrases_of r.placed); stream = stream_of limit i; rest = r.rest }

opened_is : (limit : ℕ) (i : Input) → header_fault_of (stream_of limit i) (head_of limit i) ≡ None → open_from limit [] (i ∷ []) ≡ Ok (opened_as limit i (head_of limit i) ∷ [])
unfolding open_from
opened_is limit i e = rw (e, open_from) refl

opened_outcome : (q : Asked) (limit : ℕ) (ns : List Names) (name : List ℕ) (i : Input) → header_fault_of (stream_of limit i) (head_of limit i) ≡ None
    → within q limit ns name i ≡ within_dump q ns name (opened_as limit i (head_of limit i))
unfolding within
opened_outcome q limit ns name i e = rw (opened_is limit i e, within) refl

-- tokens of a whole header, and these after it
over_header : (q : Asked) (limit : ℕ) (ns : List Names) (name : List ℕ) (i : Input) (front rest : List Token) (placed : List (Placed HeaderPhrase))
    → IsWhole (header_grammar declarations_allowed) front placed → (stream_of limit i).tokens ≡ front ++ rest
    → within q limit ns name i ≡ within_dump q ns name (record { header = header_of (phrases_of placed); stream = stream_of limit i; rest = rest })
unfolding read_header
over_header q limit ns name i front rest placed whole e =
    let reading : head_of limit i ≡ record { placed = placed; before = []; ending = AtLast; rest = rest } =
    ap (reading_of (header_grammar declarations_allowed)) e ∙ whole-more (header_grammar declarations_allowed) front placed rest whole in
    opened_outcome q limit ns name i (ap (header_fault_of (stream_of limit i)) reading) ∙ ap (λ r. within_dump q ns name (opened_as limit i r)) reading

-- ---- what a body gives

-- the same is left of the input
pub left_same : (i : Input) (read : ℕ) (result : Result Answer Stop) → left_of i read (done_of result) ≡ left_of i read result
left_same i read (Ok answer) = refl
left_same i read (Err (Dump input line fault)) = refl
left_same i read (Err (Read input)) = refl
left_same i read (Err Write) = refl
left_same i read (Err (Unmatched index)) = refl

pub bodies_give_outcomes : BodiesGiveOutcomes
bodies_give_outcomes q ns name i front placed limit read out out' result whole given =
    let h = header_of (phrases_of placed) in
    let gives = gives_outcome (plan_within q h ns) (ways_within q h ns name) (kept q h ns name) (Answers result) h (sound q h ns) i front limit read out out' (done_of result) given in
    let left = left_of i read (done_of result) in
    let all = over_header q limit ns name left front gives.rest placed whole gives.tokens ∙ planned q h ns name (stream_of limit left) gives.rest in
    let belongs = subst (λ o. Belongs (Answers result) (ways_within q h ns name) o out out' (done_of result)) (sym all) gives.belongs in
    subst (λ (l : Input). Belongs (Answers result) (ways_within q h ns name) (within q limit ns name l) out out' (done_of result)) (left_same i read result) belongs

-- ---- the answer

status_is : (e : Bool) (n : ℕ) → ◌≡◌ {A = ℕ} (cond (e && nat_lt 0 n) 0 1) (cond (not e || n == 0) 1 0)
status_is false n = refl
status_is true n = by_test (n == 0) refl
  where
    by_test : (b : Bool) → (n == 0) ≡ b → ◌≡◌ {A = ℕ} (cond (nat_lt 0 n) 0 1) (cond b 1 0)
    by_test true e = let none = eqb-true n 0 e in rw (le-ltb 0 n (omega arith)) refl
    by_test false e = let some = eqb-false n 0 e in rw (lt-ltb 0 n (omega (arith, some))) refl

pub answers_give_outcomes : AnswersGiveOutcomes
answers_give_outcomes q h ns ps lines differs are is =
    let many : length (compared_in q h ns) ≡ length ps.rows.items = AllZip-long (IsPairAt h ps.ends.items) ps.rows.items (compared_in q h ns) are.rows in
    rw (is, many, status_is (is_empty lines) (length ps.rows.items)) refl
