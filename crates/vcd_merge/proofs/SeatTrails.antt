-- Items of one input of a merge, taken one after another over its feed.
use Rattle.vcd_merge.proofs.Cited.{◌≡◌, ℕ, ◌<◌, true, false, List, [], ◌∷◌, ◌++◌, Option, Result, Ok, Err, ◌⊎◌, refl, sym, ap, subst, ◌∙◌, inl, inr, BodyItem, HasNotFailed, due_with, entry_for, Device, Writes, WritesSome, both-written, some-behind, chunk_len_of, limit_of, source_of, Ghosts, Feed, Reaches, RunTurns, Stage, StaysBack, TakesOn, Trail, Further, Stands, stage_with, AtSeat, Lane, Spot, Turns, spot_with, Stop, Read, Write, Unmatched, Seat}
use Rattle.vcd_body.specs.declared.answer.Stop.TheVariants.{Dump as Faulty}

-- ---- trails

module _ {X : Type 0} {rest : X → Option (List ℕ)} {failures : X → ℕ} {scale first : ℕ} {l : Lane} {before : ℕ} {a b : Stage X} (r : Reaches rest failures scale first l before a b) where
  -- from a stage like another the same items follow
  pub reaches_on : (c : Stage X) → TakesOn rest failures scale first l before b c → Reaches rest failures scale first l before a c
  reaches_on c on = record { mid = c; trail = Further r.mid c r.trail on_like; items_are = refl; written_is = refl; out_is = refl; rest_is = refl; failures_are = refl; chunk = refl; token = refl }
    where
      on_like : TakesOn rest failures scale first l before r.mid c
      on_like = record {
        item = on.item;
        items_are = on.items_are ∙ ap (λ (xs : List BodyItem). xs ++ on.item ∷ []) (sym r.items_are);
        one = rw (r.written_is, r.items_are) on.one;
        writes = rw (r.out_is, r.written_is, r.items_are) on.writes;
        early = on.early;
        failures_are = on.failures_are ∙ sym r.failures_are;
        seated = on.seated;
        chunk = on.chunk ∙ sym r.chunk;
        token = on.token ∙ sym r.token;
      }

-- and a trail
module _ {X : Type 0} {rest : X → Option (List ℕ)} {failures : X → ℕ} {scale first : ℕ} {l : Lane} {before : ℕ} {a b : Stage X} (r : Reaches rest failures scale first l before a b) where
  along : (c : Stage X) → Trail rest failures scale first l before b c → Reaches rest failures scale first l before a c
  along c Stands = r
  along _ (Further d c so_far on) = reaches_on (along d so_far) c on

  pub reaches_to : {c : Stage X} → Reaches rest failures scale first l before b c → Reaches rest failures scale first l before a c
  reaches_to s =
      let q = along s.mid s.trail in
      record {
        mid = q.mid;
        trail = q.trail;
        items_are = q.items_are ∙ s.items_are;
        written_is = q.written_is ∙ s.written_is;
        out_is = q.out_is
            ∙ s.out_is;
        rest_is = q.rest_is ∙ s.rest_is;
        failures_are = q.failures_are ∙ s.failures_are;
        chunk = q.chunk ∙ s.chunk;
        token = q.token
            ∙ s.token;
      }

  -- and the step that ends them
  pub turns_at : {A : Type 0} (k : ℕ) (written : Option ℕ) (s : Spot) (out : Device) (result : Result A Stop)
      → Turns k scale first l b.items b.written written s b.out out result → RunTurns rest failures k scale first l before a written s out result
  turns_at k written s out result t = record { mid = r.mid; trail = r.trail; last = inl (rw (r.out_is, r.written_is, r.items_are) t) }

  -- or what is kept back was not passed on
  pub stays_at : {A : Type 0} (k : ℕ) (written : Option ℕ) (s : Spot) (out : Device) → WritesSome b.out out [] → s.rest ≡ rest b.source
      → RunTurns {A = A} rest failures k scale first l before a written s out (Err Write)
  stays_at k written s out some same = record { mid = r.mid; trail = r.trail; last = inr (rw r.out_is some, same ∙ sym r.rest_is) }

pub at_once : {X : Type 0} (rest : X → Option (List ℕ)) (failures : X → ℕ) (scale first : ℕ) (l : Lane) (before : ℕ) (a : Stage X) → Reaches rest failures scale first l before a a
at_once rest failures scale first l before a = record { mid = a; trail = Stands; items_are = refl; written_is = refl; out_is = refl; rest_is = refl; failures_are = refl; chunk = refl; token = refl }

-- a run from there is one from where the items began
module _ {X A : Type 0} {rest : X → Option (List ℕ)} {failures : X
    → ℕ} {k scale first : ℕ} {l : Lane} {before : ℕ} {a b : Stage X} {written : Option ℕ} {s : Spot} {out : Device}
    (r : Reaches rest failures scale first l before a b) where
  pub run_on : (result : Result A Stop) → RunTurns rest failures k scale first l before b written s out result → RunTurns rest failures k scale first l before a written s out result
  run_on result t = by_last result t.last
    where
      by_last : (result : Result A Stop) → Turns k scale first l t.mid.items t.mid.written written s t.mid.out out result
          ⊎ StaysBack rest t.mid s out result → RunTurns rest failures k scale first l before a written s out result
      by_last result (inl turns) = turns_at (along r t.mid t.trail) k written s out result turns
      by_last (Err Write) (inr back) = stays_at (along r t.mid t.trail) k written s out back.0 back.1
      by_last (Ok u) (inr back) = absurd back
      by_last (Err (Faulty input line fault)) (inr back) = absurd back
      by_last (Err (Read input)) (inr back) = absurd back
      by_last (Err (Unmatched place)) (inr back) = absurd back

-- what it answered does not count, where it has ended or a write failed
pub ended_as : {X A B : Type 0} {rest : X → Option (List ℕ)} {failures : X
    → ℕ} {k scale first : ℕ} {l : Lane} {before : ℕ} {a : Stage X} {written : Option ℕ} {s : Spot} {out : Device} {v : B} (u : A)
    → RunTurns {A = B} rest failures k scale first l before a written s out (Ok v)
    → RunTurns {A = A} rest failures k scale first l before a written s out (Ok u)
ended_as u t = record { mid = t.mid; trail = t.trail; last = t.last }

pub cut_as : {X A B : Type 0} {rest : X → Option (List ℕ)} {failures : X
    → ℕ} {k scale first : ℕ} {l : Lane} {before : ℕ} {a : Stage X} {written : Option ℕ} {s : Spot} {out : Device}
    → RunTurns {A = B} rest failures k scale first l before a written s out (Err Write)
    → RunTurns {A = A} rest failures k scale first l before a written s out (Err Write)
cut_as t = record { mid = t.mid; trail = t.trail; last = t.last }

-- ---- an output that nothing was added to before

-- where what is kept back was passed on first
pub turns_after : {A : Type 0} (k scale first : ℕ) (l : Lane) (items : List BodyItem) (written written' : Option ℕ) (s : Spot) (out mid new : Device)
    (result : Result A Stop) → Writes out mid [] → Turns k scale first l items written written' s mid new result
    → Turns k scale first l items written written' s out new result
turns_after k scale first l items written written' s out mid new (Ok u) w (inl t) = inl (t.0, t.1, both-written out mid new [] (due_with written (entry_for scale first l.header items t.0)) w t.2)
turns_after k scale first l items written written' s out mid new (Ok u) w (inr t) = inr (t.0, t.1, t.2, both-written out mid new [] [] w t.3, t.4)
turns_after k scale first l items written written' s out mid new (Err (Faulty input line fault)) w t = (t.0, t.1, t.2, both-written out mid new [] [] w t.3, t.4)
turns_after k scale first l items written written' s out mid new (Err (Read input)) w t = (t.0, t.1, both-written out mid new [] [] w t.2)
turns_after k scale first l items written written' s out mid new (Err Write) w t = (t.0, t.1, some-behind out mid new [] (due_with written (entry_for scale first l.header items t.0)) w t.2, t.3)
turns_after k scale first l items written written' s out mid new (Err (Unmatched place)) w t = absurd t

-- .. and after items
pub turns_then : {X A : Type 0} {rest : X → Option (List ℕ)} {failures : X → ℕ} {scale first : ℕ} {l : Lane} {before : ℕ} {a b : Stage X}
    (r : Reaches rest failures scale first l before a b) (k : ℕ) (written : Option ℕ) (s : Spot) (mid out : Device) (result : Result A Stop)
    → Writes b.out mid [] → Turns k scale first l b.items b.written written s mid out result → RunTurns rest failures k scale first l before a written s out result
turns_then {scale = scale} {first = first} {l = l} {b = b} r k written s mid out result w t = turns_at r k written s out result
    (turns_after k scale first l b.items b.written written s b.out mid out result w t)

-- ---- over a feed

module _ {X A : Type 0} {g : Ghosts X} (failures : X → ℕ) (k scale first : ℕ) (l : Lane) (before : ℕ) (a : Stage X) (xs : List BodyItem)
    (written written' : Option ℕ) (seat seat' : Seat) (feed feed' : Feed X g) (out out' : Device) (u : A) where
  -- an input that has not finished and is still early continues by an item
  pub goes_on : seat'.finished ≡ false → seat'.time < before → failures (source_of feed') ≡ failures (source_of feed) → HasNotFailed feed'
      → chunk_len_of feed' ≡ chunk_len_of feed → limit_of feed' ≡ limit_of feed
      → Reaches g.rest failures scale first l before a (stage_with xs written seat feed out) → Turns k scale first l xs written written' (spot_with seat' feed') out out' (Ok u)
      → (ys : List BodyItem) × AtSeat scale first l ys (spot_with seat' feed') × Reaches g.rest failures scale first l before a (stage_with ys written' seat' feed' out')
  goes_on on early same open_still chunk limit so_far (inl t) =
      let on_by : TakesOn g.rest failures scale first l before (stage_with xs written seat feed out) (stage_with (xs ++ t.0 ∷ []) written' seat' feed' out') = record {
        item = t.0;
        items_are = refl;
        one = t.1;
        writes = t.2;
        early = early;
        failures_are = same;
        seated = record { fits = feed'.fits; on = open_still };
        chunk = chunk;
        token = limit;
      } in
      (xs ++ t.0 ∷ [], t.1.1, reaches_on so_far (stage_with (xs ++ t.0 ∷ []) written' seat' feed' out') on_by)
  goes_on on early same open_still chunk limit so_far (inr t) = let e : true ≡ false = sym t.0 ∙ on in cc

-- the run from where the feed was resumed is the run from the seat
pub run_from : {X A : Type 0} {g : Ghosts X} (failures : X → ℕ) (k scale first : ℕ) (l : Lane) (before : ℕ) (items : List BodyItem)
    (written written' : Option ℕ) (seat : Seat) (f : Feed X g) (source : X) (chunk token : List ℕ) (s : Spot) (out out' : Device) (r : Result A Stop)
    → f.source.now ≡ source → f.chunk.now ≡ chunk → f.token.now ≡ token → f.parked ≡ seat.parked
    → RunTurns g.rest failures k scale first l before (stage_with items written seat f out) written' s out' r
    → RunTurns g.rest failures k scale first l before (record { items = items; written = written; seat = seat; source = source; chunk = chunk; token = token; out = out }) written' s out' r
run_from {X} {A} {g} failures k scale first l before items written written' seat f source chunk token s out out' r a b c d t =
    let e : stage_with items written seat f out ≡ record { items = items; written = written; seat = seat; source = source; chunk = chunk; token = token; out = out } = rw (a, b, c, d) refl in
    subst (λ (z : Stage X). RunTurns g.rest failures k scale first l before z written' s out' r) e t
