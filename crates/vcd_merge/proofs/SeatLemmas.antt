-- Where an input of a merge is after one item more, at its end, and at a fault, and how much
-- of it was read.
use Rattle.vcd_merge.proofs.Cited.{◌≡◌, ℕ, ◌+◌, ◌*◌, ◌^◌, ◌<◌, ◌≤◌, Bool, true, false, List, [], ◌∷◌, ◌++◌, Option, None, Err, refl, sym, ap, ◌∙◌, arith, le-leb, lt-leb, BodyItem, time_after, is_too_large, Input, Token, all_append, chunk_len_of, limit_of, token_of, seen, supply_of, Ghosts, Feed, GaveLast, GivesItem, AreRegsAfter, GaveAll, GaveItem, GaveItems, Fails, StopsAt, BodyFault, ReadFailed, Finish, Regs, Device, Supply, ReadsAsNeeded, Nothing, ToToken, ToEnd, stop_of_body, AtSeat, GaveParked, Lane, ReadsNoMore, Turns, spot_with, Seat, writes-none, last_given, asked_to_end, asked_to_item, asked_to_stop}
use Rattle.vcd_merge.proofs.Dumps.{has_dump}

-- ---- how much was read

-- what holds whatever the source was before holds however many of its reads have failed
however_many : (limit chunk : ℕ) (new : Supply) (i : Input) (front : List Token) (settled : List Token → Bool)
    → ((old : Supply) → ReadsAsNeeded limit chunk old new i front settled) → (old : Supply) (failures : ℕ)
    → ReadsAsNeeded limit chunk old (record { rest = new.rest; failures = failures }) i front settled
however_many limit chunk new i front settled asked old failures = by_extent (asked (record { rest = new.rest; failures = new.failures + 1 }))
  where
    by_extent : ReadsAsNeeded limit chunk (record { rest = new.rest; failures = new.failures + 1 }) new i front settled
        → ReadsAsNeeded limit chunk old (record { rest = new.rest; failures = failures }) i front settled
    by_extent (Nothing same) = let e = ap (λ (s : Supply). s.failures) same in absurd (omega (arith, e))
    by_extent (ToToken asked last first so_far near) = ToToken asked last first so_far near
    by_extent (ToEnd asked all so_far near) = ToEnd asked all so_far near

module _ {X : Type 0} {g : Ghosts X} (l : Lane) (left : Input) (items : List BodyItem) (f : Feed X g) where
  abbrev NoMore : Type 0
  NoMore = ReadsNoMore (limit_of f) (chunk_len_of f) l items left (supply_of f).rest

  -- where the body was refused, where it has ended, and at an item
  pub no_more_at_stop : StopsAt l.header.codes left l.front items f → NoMore
  no_more_at_stop s = λ old failures settled on. however_many (limit_of f) (chunk_len_of f) (supply_of f) left l.front settled
      (λ before. asked_to_stop l.header.codes left l.front items f before settled on s) old failures

  pub no_more_at_end : (r : Regs) → GaveAll l.header.codes left l.front items f r → NoMore
  no_more_at_end r a = λ old failures settled on. however_many (limit_of f) (chunk_len_of f) (supply_of f) left l.front settled
      (λ before. asked_to_end l.header.codes left l.front items f before settled on r a) old failures

  -- even where its line is not known
  pub no_more_at_last : (x : BodyItem) (r : Regs) → GaveLast l.header.codes left l.front items x f r → NoMore
  no_more_at_last x r m = λ old failures settled on. however_many (limit_of f) (chunk_len_of f) (supply_of f) left l.front settled
      (λ before. asked_to_item l.header.codes left l.front items f before settled on x r m) old failures

  pub no_more_at_item : (x : BodyItem) (r : Regs) → GaveItem l.header.codes left l.front items x f r → NoMore
  no_more_at_item x r m = no_more_at_last x r (last_given l.header.codes left l.front items x f r m)

-- ---- its position

-- the seat after an item
abbrev pub seat_with : Seat → Regs → ℕ → Bool → Seat
seat_with s r time b = record { parked = s.parked; regs = r; factor = s.factor; time = time; first = s.first; finished = b }

module _ {X : Type 0} {g : Ghosts X} (scale first : ℕ) (l : Lane) (items : List BodyItem) where
  -- what the feed has given, while it is out
  pub out_of : (s : Seat) (f : Feed X g) → AtSeat scale first l items (spot_with s f) → GaveItems l.header.codes l.input l.front items f s.regs
  out_of s f a = record { given = a.gave.given; placed = a.gave.placed; stands = a.gave.stands; so_far = a.gave.so_far; items_are = a.gave.items_are; known = a.gave.known }

  parks : (more : List BodyItem) (f : Feed X g) (r : Regs) → GaveItems l.header.codes l.input l.front more f r
      → GaveParked l.header.codes l.input l.front more (g.rest f.source.now) f.chunk.now f.token.now f.parked r
  parks more f r a = record { given = a.given; placed = a.placed; stands = a.stands; so_far = a.so_far; items_are = a.items_are; known = a.known }

  -- after one item more
  pub turned : (s : Seat) (r : Regs) (time : ℕ) (b : Bool) (old new : Feed X g) (x : BodyItem) → AtSeat scale first l items (spot_with s old)
      → GaveItems l.header.codes l.input l.front (items ++ x ∷ []) new r → is_too_large scale x ≡ false
      → time ≡ scale * r.time → b ≡ false → AtSeat scale first l (items ++ x ∷ []) (spot_with (seat_with s r time b) new)
  turned s r time b old new x a gave small at on = record {
    gave = parks (items ++ x ∷ []) new r gave;
    small = all_append (λ y. is_too_large scale y ≡ false) items (x ∷ []) a.small (small, tt);
    factor_is = a.factor_is;
    time_is = at ∙ ap (λ n. scale * n) gave.known.time_is;
    first_is = a.first_is;
    few = a.few;
    finished = λ e. cc (sym on ∙ e);
  }

  -- at its end
  pub ended : (s : Seat) (r : Regs) (b : Bool) (old new : Feed X g) → AtSeat scale first l items (spot_with s old)
      → GivesItem l.header.codes l.input l.front items new r Finish → AtSeat scale first l items (spot_with (seat_with s r s.time b) new)
  ended s r b old new a end = record {
    gave = parks items new r end.gave;
    small = a.small;
    factor_is = a.factor_is;
    time_is = a.time_is;
    first_is = a.first_is;
    few = a.few;
    finished = λ e. has_dump scale (limit_of new) l.header l.front l.input items a.small None end.has;
  }

  -- at a fault of its body
  pub faulty : (A : Type 0) (k : ℕ) (s : Seat) (r : Regs) (time : ℕ) (b : Bool) (old new : Feed X g) (written : Option ℕ) (out : Device)
      (fault : BodyFault) (line : ℕ) → AtSeat scale first l items (spot_with s old) → line ≡ (token_of new).line
      → Fails l.header.codes l.input l.front items fault new
      → Turns {A = A} k scale first l items written written (spot_with (seat_with s r time b) new) out out (Err (stop_of_body fault k line))
  faulty A k s r time b old new written out ReadFailed line a is fails = (
    refl,
    (
      seen new,
      line,
      rw is (has_dump scale (limit_of new) l.header l.front _ items a.small _ fails.0.0),
      no_more_at_stop l _ items new fails.0.1,
      fails.1,
    ),
    writes-none out,
  )
  faulty A k s r time b old new written out fault line a is fails = (
    refl,
    refl,
    rw is (has_dump scale (limit_of new) l.header l.front _ items a.small _ fails.0),
    writes-none out,
    no_more_at_stop l l.input items new fails.1,
  )

-- whether a time is too large once it is scaled
pub large : (scale time : ℕ) → 2 ^ 64 ≤ time * scale → is_too_large scale (BodyItem.Time time) ≡ true
large scale time h = le-leb (2 ^ 64) (time * scale) h

pub not_large : (scale time : ℕ) → time * scale < 2 ^ 64 → is_too_large scale (BodyItem.Time time) ≡ false
not_large scale time h = lt-leb (2 ^ 64) (time * scale) h

-- an item that is no timestamp leaves the time
pub timed : (scale : ℕ) (items : List BodyItem) (s : Seat) (r : Regs) → AreRegsAfter items s.regs → r.time ≡ s.regs.time → s.time ≡ scale * time_after items → s.time ≡ scale * r.time
timed scale items s r known e time = time ∙ ap (λ n. scale * n) (sym known.time_is ∙ sym e)
