-- How much was read of an input for its header, and why a header ends a run.
use Rattle.vcd_job.proofs.Cited.{◌≡◌, ◌≢◌, ◌==◌, ℕ, ◌+◌, Bool, true, false, nat_lt, ◌++◌, inl, inr, List, [], ◌∷◌, length, Some, None, Err, refl, sym, ap, subst, ◌∙◌, arith, IfSome, nat_tests, append-nil, Input, Work, due_at, due_by, settled_at, settled_by, IsPrefixOf, is_over, IsWhole, HeaderPhrase, header_of, header_fault_of, header_grammar, Ending, Reading, Placed, phrases_of, reading_of, AtEnd, AtLast, Token, end_of_tokens, halt_place, stream_of, body_grammar, so_far-nothing, whole-more, failed_after, Supply, Near, ReadsAsNeeded, Nothing, ToToken, ToEnd, HasGiven, HasGivenParked, chunk_len_of, limit_of, parked_answer, parked_of, supply_of, token_of, seen, Parked, AreRegsAfter, Head, Seat, Ghosts, Feed, Fails, FailsAtEnd, FailsAtToken, GivesHead, HasFault, HasReadToShown, IsGoing, HeadShown, shown, HeadFault, TokenTooLong, EndOfInput, InputTooLong, ReadFailed, IsLeft, is_more_due, Fits, HasNotFailed, IsSeated, Lane, Dump, Failure, head_failure, CountsRead, EndsAtRead, Begins, HasFailed, IsBegun, IsNew}
use Rattle.vcd_model.specs.Settled.{is_header_over}
use Rattle.vcd_model.specs.HeaderReading.{read_header}
use Rattle.vcd_head.specs.Fault.{fault_number}
use Rattle.vcd_head.specs.declared.fault.HeadFault.TheVariants.{OutOfMemory}
use Rattle.vcd_text.specs.declared.answer.Halt.TheVariants as halt
use Rattle.vcd_job.specs.Work.{due_of, settled_of}
use Rattle.vcd_job.specs.declared.failure.Failure.TheVariants as failure

-- ---- what settles a run

-- a header that continues is not over
pub going_header : (most : ℕ) (given : List Token) → IsGoing most given → is_header_over most given ≡ false
unfolding is_header_over
going_header most given e = rw e refl

settled_going : (w : Work) (name : List ℕ) (r : Reading HeaderPhrase) (x : Ending) → is_over x ≡ false → settled_at w name r x ≡ false
settled_going w name r AtEnd e = refl
settled_going w name r x e = cc

-- and settles no run
pub unsettled_header : (w : Work) (name : List ℕ) (most : ℕ) (given : List Token) → is_header_over most given ≡ false → settled_of w name most given ≡ false
unfolding is_header_over settled_of
unsettled_header w name most given e = settled_going w name (reading_of (header_grammar most) given) (reading_of (header_grammar most) given).ending e

-- a whole header leaves it to the tokens after it
pub settled_run : (w : Work) (name : List ℕ) (most : ℕ) (given ts : List Token) (placed : List (Placed HeaderPhrase)) → IsWhole (header_grammar most) given placed
    → settled_of w name most (given ++ ts) ≡ settled_by (w.course name (header_of (phrases_of placed))) (header_of (phrases_of placed)) ts
unfolding settled_of
settled_run w name most given ts placed whole = rw (whole-more (header_grammar most) given placed ts whole) refl

pub settled_header : (most : ℕ) (given ts : List Token) (placed : List (Placed HeaderPhrase)) → IsWhole (header_grammar most) given placed → is_header_over most (given ++ ts) ≡ true
unfolding is_header_over
settled_header most given ts placed w = rw (whole-more (header_grammar most) given placed ts w) refl

-- nothing is due before a header is whole
undue_going : (w : Work) (name : List ℕ) (r : Reading HeaderPhrase) (x : Ending) → is_over x ≡ false → due_at w name r x ≡ []
undue_going w name r AtLast e = cc
undue_going w name r x e = refl

pub undue_header : (w : Work) (name : List ℕ) (most written : ℕ) (given : List Token) → is_header_over most given ≡ false → is_more_due (due_of w name most) written given ≡ false
unfolding is_header_over due_of
undue_header w name most written given e =
    let none : nat_lt written 0 ≡ false = grind (arith, nat_tests) in
    ap (λ text. nat_lt written (length text)) (undue_going w name (reading_of (header_grammar most) given) (reading_of (header_grammar most) given).ending e) ∙ none

-- a whole header leaves it to the tokens after it
pub due_run : (w : Work) (name : List ℕ) (most : ℕ) (given ts : List Token) (placed : List (Placed HeaderPhrase)) → IsWhole (header_grammar most) given placed
    → due_of w name most (given ++ ts) ≡ due_by (w.course name (header_of (phrases_of placed))) (header_of (phrases_of placed)) ts
unfolding due_of
due_run w name most given ts placed whole = rw (whole-more (header_grammar most) given placed ts whole) refl

-- what was read for work was read for work that takes longer
pub reads_for : (limit chunk : ℕ) (old new : Supply) (i : Input) (front : List Token) (settled later : List Token → Bool) → ((ts : List Token) → settled ts ≡ false → later ts ≡ false)
    → ReadsAsNeeded limit chunk old new i front settled → ReadsAsNeeded limit chunk old new i front later
reads_for limit chunk old new i front settled later on (Nothing same) = Nothing same
reads_for limit chunk old new i front settled later on (ToToken asked last first so_far near) = ToToken asked last first (on asked so_far) near
reads_for limit chunk old new i front settled later on (ToEnd asked all so_far near) = ToEnd asked all (on asked so_far) near

-- ---- a header that was read

-- before the first item
nothing_known : AreRegsAfter [] (record { time = 0; marked = false; section = None })
nothing_known = record { time_is = refl; marked_is = refl; section_is = refl; ended = refl }

module _ {X : Type 0} {x : Ghosts X} (most limit chunk : ℕ) (i : Input) (before : Supply) (feed : Feed X x) (l : limit_of feed ≡ limit) (size : chunk_len_of feed ≡ chunk) where
  pub begun : (s : HeadShown) → (supply_of feed).failures ≡ before.failures → (g : GivesHead most i feed s)
      → IsBegun most limit chunk i (record { header = header_of (phrases_of g.placed); input = i; front = g.given }) before (supply_of feed)
  begun s same g = record {
    input_is = refl;
    placed = g.placed;
    whole = g.whole;
    header_is = refl;
    given_first = subst (λ n. IsPrefixOf g.given (stream_of n i).tokens) l g.stands.given_first;
    near = subst (λ n. Near n (supply_of feed).rest (end_of_tokens i.bytes (length g.given)) i) size g.near;
    before = g.front;
    last = g.last;
    is = g.is;
    going = g.going;
    failures = same;
  }

  -- its head shows it, and its feed is parked in a seat
  pub begins : (head : Head) (seat : Seat) → (supply_of feed).failures ≡ before.failures → (g : GivesHead most i feed (shown head))
      → seat.parked ≡ parked_of feed → seat.regs ≡ record { time = 0; marked = false; section = None }
      → Begins most limit chunk i head seat feed.chunk.now feed.token.now before (supply_of feed)
  begins head seat same g is new = record {
    lane = record { header = header_of (phrases_of g.placed); input = i; front = g.given };
    begun = begun (shown head) same g;
    views = g.views;
    gave = record {
      given = [];
      placed = [];
      stands = subst (λ (p : Parked). HasGivenParked (supply_of feed).rest feed.chunk.now feed.token.now p i (g.given ++ [])) (sym is)
          (subst (λ (ts : List Token). HasGiven i ts feed) (sym (append-nil g.given)) g.stands);
      so_far = so_far-nothing (body_grammar (header_of (phrases_of g.placed)).codes);
      items_are = refl;
      known = subst (AreRegsAfter []) (sym new) nothing_known;
    };
  }

  -- whatever the input is, the seat is a new one, and its feed fits its windows
  pub seated : (seat : Seat) (p : Parked) → Fits p (chunk_len_of feed) (limit_of feed) → p ≡ parked_of feed → HasNotFailed feed → seat.parked ≡ p
      → seat.regs ≡ record { time = 0; marked = false; section = None } → seat.finished ≡ false
      → IsSeated chunk limit seat × IsNew seat
  seated seat p fits is on same new unfinished = (
    record {
      fits = subst (λ (q : Parked). Fits q chunk limit) (sym same) (subst (λ n. Fits p chunk n) l (subst (λ n. Fits p n (limit_of feed)) size fits));
      on = subst (λ (q : Parked). parked_answer q ≢ Some (Err halt.ReadFailed)) (sym (same ∙ is)) on;
    },
    record { regs_are = new; unfinished = unfinished },
  )

  -- ---- a header that ends the run

  -- the header was read to the token that is shown
  read_to_token : (given : List Token) → HasReadToShown i given feed → IsGoing most given → ReadsAsNeeded limit chunk before (supply_of feed) i [] (is_header_over most)
  read_to_token given h e =
      ToToken given (token_of feed) (subst (λ n. IsPrefixOf (given ++ token_of feed ∷ []) (stream_of n i).tokens) l h.0.given_first) (going_header most given e)
      (subst (λ n. Near n (supply_of feed).rest (end_of_tokens i.bytes (length (given ++ token_of feed ∷ []))) i) size h.1)

  -- or to where no token is left
  read_to_end : (left : Input) (given : List Token) → HasGiven left given feed → (stream_of (limit_of feed) left).tokens ≡ given → IsGoing most given
      → ReadsAsNeeded limit chunk before (supply_of feed) left [] (is_header_over most)
  read_to_end left given h all e =
      ToEnd given (ap (λ n. (stream_of n left).tokens) (sym l) ∙ all) (going_header most given e)
      (subst (λ n. IfSome (halt_place limit left) (λ place. Near n (supply_of feed).rest place left)) size
      (subst (λ n. IfSome (halt_place n left) (λ place. Near (chunk_len_of feed) (supply_of feed).rest place left)) l h.near_halt))

  module _ (place line : ℕ) (is : line ≡ (token_of feed).line) where
    -- this ended the run
    abbrev EndsWith : Failure → Type 0
    EndsWith why = HasFailed most limit chunk place i before (supply_of feed) why

    -- the fault has the line
    placed : (n : ℕ) (left : Input) → HasFault most (limit_of feed) left n (token_of feed).line → HasFault most limit left n line
    placed n left f = ap (λ m. header_fault_of (stream_of m left) (read_header most (stream_of m left))) (sym l) ∙ f ∙ ap (λ m. Some (record { number = n; line = m })) (sym is)

    at_token : (n : ℕ) → (n == 31) ≡ false → (supply_of feed).failures ≡ before.failures → FailsAtToken most i n feed → EndsWith (failure.Stopped (Dump place line n))
    at_token n d e f = record {
      left = i;
      is_left = inl (e, refl);
      read = read_to_token f.1 f.2 f.3;
      is_why = (refl, d, placed n i f.0);
    }

    at_end : (n : ℕ) → (n == 31) ≡ false → (supply_of feed).failures ≡ before.failures → FailsAtEnd most i n feed → EndsWith (failure.Stopped (Dump place line n))
    at_end n d e f = record {
      left = i;
      is_left = inl (e, refl);
      read = read_to_end i f.2 f.3 f.4 f.5;
      is_why = (refl, d, placed n i f.0);
    }

    ended : (fault : HeadFault) → CountsRead place before.failures (supply_of feed).failures (Some (head_failure fault place line))
        → Fails most i fault feed → EndsWith (head_failure fault place line)
    ended ReadFailed counted f =
        let left = failed_after (seen feed) i in
        record {
          left = left;
          is_left = inr (counted.1, seen feed, refl, f.1);
          read = read_to_end left f.0.2 f.0.3 f.0.4 f.0.5;
          is_why = (refl, line, placed 31 left f.0.0);
        }
    ended OutOfMemory counted f = record {
      left = i;
      is_left = inl (counted, refl);
      read = read_to_token f.0 f.1 f.2;
      is_why = tt;
    }
    ended TokenTooLong counted f = at_end 1 refl counted f
    ended EndOfInput counted f = at_end 2 refl counted f
    ended InputTooLong counted f = at_end 21 refl counted f
    ended fault counted f = at_token (fault_number fault) refl counted f

  -- the same of the failure that was answered
  pub failed : (place : ℕ) (why : Failure) → CountsRead place before.failures (supply_of feed).failures (Some why)
      → ((fault : HeadFault) × (why ≡ head_failure fault place (token_of feed).line) × Fails most i fault feed)
      → HasFailed most limit chunk place i before (supply_of feed) why
  failed place why counted (fault, is, f) =
      let same = subst (λ (q : Failure). CountsRead place before.failures (supply_of feed).failures (Some q)) is counted in
      subst (λ (q : Failure). HasFailed most limit chunk place i before (supply_of feed) q) (sym is) (ended place (token_of feed).line refl fault same f)

-- a read that a header ended with was the last one of its reader
pub head_last : (last_failed : Bool) (fault : HeadFault) (place line : ℕ) → (fault ≡ ReadFailed → last_failed ≡ true) → EndsAtRead last_failed (Some (head_failure fault place line))
head_last last_failed ReadFailed place line e = λ input is. e refl
head_last last_failed fault place line e = λ input is. absurd (cc)

-- memory ran out before anything was read
pub none_read : (most limit chunk place : ℕ) (i : Input) (before : Supply) → HasFailed most limit chunk place i before before failure.OutOfMemory
none_read most limit chunk place i before = record {
  left = i;
  is_left = inl (refl, refl);
  read = Nothing refl;
  is_why = tt;
}

-- ---- after the header

module _ (most limit chunk : ℕ) (i : Input) (l : Lane) (before mid : Supply) (b : IsBegun most limit chunk i l before mid) where
  -- nothing was read after the header
  pub header_only : (after : Supply) → after.rest ≡ mid.rest → ReadsAsNeeded limit chunk before after i [] (is_header_over most)
  header_only after same =
      ToToken b.before b.last (subst (λ ts. IsPrefixOf ts (stream_of limit i).tokens) b.is b.given_first) (going_header most b.before b.going)
      (subst (λ rest. Near chunk rest (end_of_tokens i.bytes (length (b.before ++ b.last ∷ []))) i) (sym same)
      (subst (λ ts. Near chunk mid.rest (end_of_tokens i.bytes (length ts)) i) b.is b.near))

  -- and then memory ran out
  pub begun_only : (place : ℕ) → HasFailed most limit chunk place i before mid failure.OutOfMemory
  begun_only place = record {
    left = i;
    is_left = inl (b.failures, refl);
    read = header_only mid refl;
    is_why = tt;
  }

  -- what is left after the header is what is left of the input
  pub left_since : (after : Supply) (left : Input) → IsLeft i mid after left → IsLeft i before after left
  left_since after left (inl is) = inl (is.0 ∙ b.failures, is.1)
  left_since after left (inr is) = inr (is.0 ∙ ap (λ n. n + 1) b.failures, is.1, is.2, is.3)

  -- what was read, for work that the tokens after the header settle
  module _ (settled behind : List Token → Bool) (on : (ts : List Token) → is_header_over most ts ≡ false → settled ts ≡ false)
      (since : (ts : List Token) → behind ts ≡ false → settled (l.front ++ ts) ≡ false) where
    pub all_read : (after : Supply) (left : Input) → IsLeft i mid after left → ReadsAsNeeded limit chunk mid after left l.front behind → ReadsAsNeeded limit chunk before after left [] settled
    all_read after left (inl is) (Nothing same) =
        subst (λ j. ReadsAsNeeded limit chunk before after j [] settled) (sym is.1)
        (reads_for limit chunk before after i [] (is_header_over most) settled on (header_only after (ap (λ (s : Supply). s.rest) same)))
    all_read after left (inr is) (Nothing same) = let e = ap (λ (s : Supply). s.failures) same in let f = is.0 in absurd (omega arith)
    all_read after left is (ToToken asked last first so_far near) = ToToken (l.front ++ asked) last first (since asked so_far) near
    all_read after left is (ToEnd asked all so_far near) = ToEnd (l.front ++ asked) all (since asked so_far) near

  -- ---- its reading

  reading_is : (left : Input) (rest : List Token) → (stream_of limit left).tokens ≡ l.front ++ rest
      → read_header most (stream_of limit left) ≡ record { placed = b.placed; before = []; ending = AtLast; rest = rest }
  unfolding read_header
  reading_is left rest e = ap (reading_of (header_grammar most)) e ∙ whole-more (header_grammar most) l.front b.placed rest b.whole

  -- a reading of the whole input has no fault in its header
  pub no_fault : (left : Input) (rest : List Token) → (stream_of limit left).tokens ≡ l.front ++ rest → header_fault_of (stream_of limit left) (read_header most (stream_of limit left)) ≡ None
  no_fault left rest e = ap (header_fault_of (stream_of limit left)) (reading_is left rest e)

  -- it has this header
  pub header_read : (left : Input) (rest : List Token) → (stream_of limit left).tokens ≡ l.front ++ rest → header_of (phrases_of (read_header most (stream_of limit left)).placed) ≡ l.header
  header_read left rest e = ap (λ (r : Reading HeaderPhrase). header_of (phrases_of r.placed)) (reading_is left rest e) ∙ sym b.header_is

  -- and these tokens after it
  pub rest_read : (left : Input) (rest : List Token) → (stream_of limit left).tokens ≡ l.front ++ rest → (read_header most (stream_of limit left)).rest ≡ rest
  rest_read left rest e = ap (λ (r : Reading HeaderPhrase). r.rest) (reading_is left rest e)
