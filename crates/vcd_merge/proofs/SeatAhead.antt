-- The position of an input of a merge after items that lie ahead in its feed's chunk.
use Rattle.vcd_merge.proofs.Cited.{◌≡◌, ◌≢◌, ℕ, ◌*◌, Bool, true, false, List, [], ◌∷◌, ◌++◌, Option, Result, Ok, Err, length, refl, sym, ap, subst, ◌∙◌, arith, append-nil, append_assoc, inl, AllByRecursion, BodyItem, is_too_large, Token, end_of_tokens, all_append, HasNotFailed, ahead_of, lines_of, Device, HasGiven, HasReadTo, limit_of, source_of, chunk_len_of, Passed, looked, gone_on, Ghosts, Feed, near-more, parked-stands, passed_within, ahead_fits, gone_fits, pass_stands, pass_far, GaveAhead, GaveLast, AreRegsAfter, GaveItems, Regs, gave_last, gave_none_ahead, IsAhead, OneAhead, RunsAhead, StageAhead, TrailAhead, seat_with, AheadTurns, Reaches, Stage, TakesOn, Trail, stage_with, AtSeat, GivesOne, Lane, spot_with, Write, Seat}
use Rattle.vcd_merge.specs.MergeAhead.{Further, Stands}
use Rattle.vcd_merge.proofs.SeatLemmas.{no_more_at_last, out_of}
use Rattle.vcd_merge.proofs.SeatTrails.{reaches_on, turns_at}

module _ {X : Type 0} {g : Ghosts X} (scale first : ℕ) (l : Lane) (behind : List BodyItem) (s : Seat) (f : Feed X g)
    (at : AtSeat scale first l behind (spot_with s f)) (on : s.finished ≡ false) where
  abbrev LiesAhead : ℕ → List BodyItem → Regs → ℕ → Type 0
  LiesAhead n items r time = IsAhead scale l.header (limit_of f) (lines_of f) (ahead_of f) behind n items r time

  abbrev TakesAhead : StageAhead → BodyItem → ℕ → Regs → ℕ → Option ℕ → Device → Type 0
  TakesAhead b x n r time written out = OneAhead scale first l.header (limit_of f) (lines_of f) (ahead_of f) behind b x n r time written out

  -- at first none is taken
  pub lies_first : LiesAhead 0 [] s.regs s.time
  lies_first = record {
    gave = gave_none_ahead l.header.codes (limit_of f) (lines_of f) (ahead_of f) behind;
    known = subst (λ xs. AreRegsAfter xs s.regs) (sym (append-nil behind)) at.gave.known;
    small = tt;
    time_is = at.time_is ∙ ap (λ n. scale * n) (sym at.gave.known.time_is);
  }

  -- once a feed has given them
  pub seat_at : (new : Feed X g) (all : List BodyItem) (n : ℕ) (items : List BodyItem) (r : Regs) (time : ℕ) → all ≡ behind ++ items
      → LiesAhead n items r time → GaveItems l.header.codes l.input l.front all new r → AtSeat scale first l all (spot_with (seat_with s r time) new)
  seat_at new all n items r time e a gave = record {
    gave = record { given = gave.given; placed = gave.placed; stands = gave.stands; so_far = gave.so_far; items_are = gave.items_are; known = gave.known };
    small = subst (AllByRecursion (λ x. is_too_large scale x ≡ false)) (sym e) (all_append (λ x. is_too_large scale x ≡ false) behind items at.small a.small);
    factor_is = at.factor_is;
    time_is = a.time_is ∙ ap (λ n. scale * n) gave.known.time_is;
    first_is = at.first_is;
    few = at.few;
    finished = λ e. cc (sym on ∙ e);
  }

  pub one_at : (new : Feed X g) (b : StageAhead) (x : BodyItem) (n : ℕ) (r : Regs) (time : ℕ) (written : Option ℕ) (out : Device)
      → TakesAhead b x n r time written out → GaveLast l.header.codes l.input l.front (behind ++ b.items) x new r
      → GivesOne scale first l (behind ++ b.items) b.written written (spot_with (seat_with s r time) new) x
  one_at new b x n r time written out one last = (
    on,
    seat_at new _ n (b.items ++ x ∷ []) r time
        (append_assoc behind b.items (x ∷ [])) one.ahead last.gave,
    one.written_is,
    no_more_at_last l l.input (behind ++ b.items) new x r last,
  )

  -- ---- the feed as it would be after some of them

  module _ (n : ℕ) (ts : List Token) (passed : Passed (limit_of f) (lines_of f) (ahead_of f) n ts) where
    feed_at : Feed X g
    feed_at =
        let within = ahead_fits f.parked.phase f.chunk.now f.parked (length f.token.now) n f.fits (passed_within _ _ _ 0 n ts (omega arith) passed) in
        record {
          source = f.source;
          chunk = f.chunk;
          token = f.token;
          value = f.value;
          parked = gone_on f.chunk.now f.parked n;
          chunk_some = f.chunk_some;
          token_some = f.token_some;
          same_limit = f.same_limit;
          fits = gone_fits f.chunk.now f.parked (length f.token.now) n f.fits within;
        }

    feed_stands : (given : List Token) → HasGiven l.input given f → HasGiven l.input (given ++ ts) feed_at
    unfolding feed_at
    feed_stands given st =
        let rest = g.rest f.source.now in
        let on = pass_stands f.parked.phase (length f.token.now) rest f.chunk.now f.parked l.input given ts n f.fits passed st.at in
        parked-stands rest f.chunk.now f.token.now (length f.token.now) (gone_on f.chunk.now f.parked n) l.input (given ++ ts) refl on (λ some. absurd (omega arith))

    -- at most a chunk was read past the first of them
    feed_near : (given : List Token) (end : ℕ) (first : List Token) → first ≢ [] → Passed (limit_of f) (lines_of f) (ahead_of f) end first
        → HasGiven l.input given f → HasReadTo l.input (given ++ first) feed_at
    unfolding feed_at
    feed_near given end first some to st =
        let rest = g.rest f.source.now in
        let far = pass_far f.parked.phase (length f.token.now) rest f.chunk.now f.parked l.input given first end f.fits some to st.at in
        near-more (length f.chunk.now) rest (looked f.parked) (end_of_tokens l.input.bytes (length (given ++ first))) l.input far st.read_ahead

  feed_gave : (n : ℕ) (items : List BodyItem) (x : BodyItem) (r : Regs) (time : ℕ) (a : LiesAhead n (items ++ x ∷ []) r time)
      → GaveLast l.header.codes l.input l.front (behind ++ items) x (feed_at n a.gave.tokens a.gave.passed) r
  feed_gave n items x r time a =
      let h = out_of scale first l behind s f at in
      let ts = a.gave.tokens in
      let given = l.front ++ h.given in
      gave_last l.header.codes (limit_of f) (lines_of f) (ahead_of f) behind items x l.input l.front n f
      (feed_at n ts a.gave.passed) s.regs r h a.gave (feed_stands n ts a.gave.passed given h.stands)
      (λ end first some to. feed_near n ts a.gave.passed given end first some to h.stands) a.known

  -- ---- a run of them

  module _ (failures : X → ℕ) (k before : ℕ) (written0 : Option ℕ) (out0 : Device) (open_still : HasNotFailed f) where
    abbrev start : Stage X
    start = stage_with behind written0 s f out0

    abbrev Trails : StageAhead → Type 0
    Trails b = TrailAhead scale first l.header (limit_of f) (lines_of f) (ahead_of f) behind before (record { at = 0; items = []; regs = s.regs; time = s.time; written = written0; out = out0 }) b

    -- the stages of the run, over the feed as it would be
    reaches : (b : StageAhead) → Trails b → Reaches g.rest failures scale first l before start (stage_with (behind ++ b.items) b.written s f b.out)
    unfolding feed_at
    reaches b Stands = record {
      mid = start;
      trail = Trail.Stands;
      items_are = sym
          (append-nil behind);
      written_is = refl;
      out_is = refl;
      rest_is = refl;
      failures_are = refl;
      chunk = refl;
      token = refl;
    }
    reaches _ (Further b c x so_far items_are one early) =
        let new = feed_at c.at one.ahead.gave.tokens one.ahead.gave.passed in
        let from : Stage X = stage_with (behind ++ b.items) b.written s f b.out in
        let to : Stage X = stage_with ((behind ++ b.items) ++ x ∷ []) c.written (seat_with s c.regs c.time) new c.out in
        let by : TakesOn g.rest failures scale first l before from to = record {
          item = x;
          items_are = refl;
          one = one_at new b x c.at c.regs c.time c.written c.out one (feed_gave c.at b.items x c.regs c.time one.ahead);
          writes = one.writes;
          early = early;
          failures_are = refl;
          seated = record { fits = new.fits; on = open_still };
          chunk = refl;
          token = refl;
        } in
        let t = reaches_on (reaches b so_far) to by in
        record {
          mid = t.mid;
          trail = t.trail;
          items_are = t.items_are ∙ append_assoc behind b.items (x ∷ [])
              ∙ ap (λ xs. behind ++ xs)
              (sym items_are);
          written_is = t.written_is;
          out_is = t.out_is;
          rest_is = t.rest_is;
          failures_are = t.failures_are;
          chunk = t.chunk;
          token = t.token;
        }

    -- once the feed has passed them
    module _ (new : Feed X g) (n : ℕ) (r : Regs) (time : ℕ) (written : Option ℕ) (out : Device) (source : source_of new ≡ source_of f)
        (limit : limit_of new ≡ limit_of f) (chunk : chunk_len_of new ≡ chunk_len_of f)
        (gives : (items : List BodyItem) → GaveAhead l.header.codes (limit_of f) (lines_of f) (ahead_of f) n behind items
        → AreRegsAfter (behind ++ items) r → GaveItems l.header.codes l.input l.front (behind ++ items) new r)
        (ends : (items : List BodyItem) (x : BodyItem) → GaveAhead l.header.codes (limit_of f) (lines_of f) (ahead_of f) n behind (items ++ x ∷ [])
        → AreRegsAfter (behind ++ (items ++ x ∷ [])) r → GaveLast l.header.codes l.input l.front (behind ++ items) x new r) where
      abbrev Runs : {E : Type 0} → Result Bool E → Type 0
      Runs result = RunsAhead scale first l.header (limit_of f) (lines_of f) (ahead_of f) behind before
          (record { at = 0; items = []; regs = s.regs; time = s.time; written = written0; out = out0 }) n r time written out result

      pub ahead_turns : {E : Type 0} (result : Result Bool E) → Runs result → AheadTurns g.rest failures k scale first l before start written (seat_with s r time) new out result
      ahead_turns (Ok false) t =
          let m = t.mid in
          let a = t.ends.0 in
          let q = reaches m t.trail in (
            behind ++ m.items,
            seat_at new (behind ++ m.items) n m.items r time refl a (gives m.items a.gave a.known),
            record {
              mid = q.mid;
              trail = q.trail;
              items_are = q.items_are;
              written_is = q.written_is ∙ sym t.ends.1;
              out_is = q.out_is
                  ∙ sym t.ends.2;
              rest_is = q.rest_is ∙ ap g.rest (sym source);
              failures_are = q.failures_are
                  ∙ ap failures (sym source);
              chunk = q.chunk ∙ sym chunk;
              token = q.token ∙ sym limit;
            },
          )
      ahead_turns (Ok true) t =
          let m = t.mid in
          let x = t.ends.0 in
          let one = t.ends.1 in
          let last = ends m.items x one.ahead.gave one.ahead.known in
          turns_at (reaches m t.trail) k written (spot_with (seat_with s r time) new) out (Ok true) (inl (x, one_at new m x n r time written out one last, one.writes))
      ahead_turns (Err e) t =
          let m = t.mid in
          let x = t.ends.0 in
          let a = t.ends.1 in
          let last = ends m.items x a.gave a.known in
          turns_at (reaches m t.trail) k written (spot_with (seat_with s r time) new) out (Err Write)
          (x, seat_at new _ n (m.items ++ x ∷ []) r time (append_assoc behind m.items (x ∷ [])) a last.gave, t.ends.2, no_more_at_last l l.input (behind ++ m.items) new x r last)
