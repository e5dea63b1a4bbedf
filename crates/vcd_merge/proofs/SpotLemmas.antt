-- What belongs to an input of a merge, before a step of it and after.
use Rattle.vcd_merge.proofs.Cited.{◌≡◌, ℕ, ◌*◌, ◌<◌, ◌≤◌, ◌⊎◌, List, length, take, slice_get, Option, Some, None, refl, sym, ap, subst, ◌∙◌, arith, option_map, slice_get_within, same_Some, Header, first_number, Dump, factor, shown, Views, Head, AreGiven, Holds, IsReady, Standing, IsNext, part, part_len, spot_at, AtSeat, Lane, Spot, Seat, there}
use Rattle.vcd_merge.proofs.PartLemmas.{part_long}
use Rattle.vcd_merge.proofs.MergeSteps.{AtTurn, dump_at, lane_at, len_map, same_header, seat_spot, spot_parts, spot_seat}
use Rattle.vcd_merge.proofs.PartLemmas.{same_part}

-- all that belongs to the input whose turn it is
pub record Found {X : Type 0} (rest : X → Option (List ℕ)) (hs : List Header) (lanes : List Lane) (ds : List Dump) (s : Standing X) (k : ℕ) : Type 0 where
  pub lane : Lane
  pub dump : Dump
  pub head : Head
  pub spot : Spot
  pub turn : AtTurn rest hs lanes ds s k lane dump
  pub head_there : slice_get s.heads k ≡ Some head
  pub spot_there : spot_at rest s.seats s.sources s.chunks s.tokens k ≡ Some spot
  pub views : Views (shown head) lane.header
  pub is : AtSeat (factor hs lane.header) (first_number (take k hs)) lane dump.items spot

pub found : {X : Type 0} (rest : X → Option (List ℕ)) (hs : List Header) (lanes : List Lane) (ds : List Dump) (s : Standing X) (k : ℕ)
    → Holds rest hs lanes ds s → IsReady s → IsNext s.seats k → Found rest hs lanes ds s k
found rest hs lanes ds s k holds ready next =
    let g = holds.given in
    let w = slice_get_within s.seats k next.seat next.there in
    let l = lane_at rest hs lanes ds s g k w in
    let d = dump_at rest hs lanes ds s g k w in
    let h = there s.heads k (subst (λ n. k < n) (sym ready.heads) w) in
    let p = seat_spot rest s k next.seat ready.sources next.there in
    record {
      lane = l.0;
      dump = d.0;
      head = h.0;
      spot = p.0;
      turn = record { holds = holds; next = next; dump_at = d.1; lane_at = l.1 };
      head_there = h.1;
      spot_there = p.1;
      views = g.views k h.0 l.0 h.1 l.1;
      is = g.at k l.0 d.0 p.0 l.1 d.1 p.1;
    }

-- how long a part of a window is, by the window before
part_in : (n n' k : ℕ) (xs xs' ys : List ℕ) → n' ≡ n → length xs' ≡ length xs → n * part_len n xs ≡ length xs → k < n
    → part (part_len n' xs') k xs' ≡ ys → length ys ≡ part_len n xs
part_in n n' k xs xs' ys e l all w is =
    let same : part_len n' xs' ≡ part_len n xs = same_part n n' xs xs' e l in
    let whole : n' * part_len n' xs' ≡ length xs' = rw (same, e, l) all in
    ap length (sym is) ∙ part_long (part_len n' xs') n' k xs' whole (omega (arith, w, e)) ∙ same

module _ {X : Type 0} (rest : X → Option (List ℕ)) (s s' : Standing X) (k : ℕ) (p : Spot) (ready : IsReady s) (w : k < length s.seats)
    (seats : length s'.seats ≡ length s.seats) (at : spot_at rest s'.seats s'.sources s'.chunks s'.tokens k ≡ Some p) where
  -- how long the part of an input is in the chunks' window, and in the tokens'
  pub chunk_len : length s'.chunks ≡ length s.chunks → length p.chunk ≡ part_len (length s.seats) s.chunks
  chunk_len chunks = part_in (length s.seats) (length s'.seats) k s.chunks s'.chunks p.chunk seats chunks ready.parts.chunks_are w (spot_parts rest s' k p at).2

  pub token_len : length s'.tokens ≡ length s.tokens → length p.token ≡ part_len (length s.seats) s.tokens
  token_len tokens = part_in (length s.seats) (length s'.seats) k s.tokens s'.tokens p.token seats tokens ready.parts.tokens_are w (spot_parts rest s' k p at).3

-- the parts for tokens have this length
abbrev pub IsLong : {X : Type 0} → (X → Option (List ℕ)) → ℕ → Standing X → Type 0
IsLong rest limit s = (k : ℕ) (p : Spot) → spot_at rest s.seats s.sources s.chunks s.tokens k ≡ Some p → length p.token ≡ limit

pub long_of : {X : Type 0} (rest : X → Option (List ℕ)) (s s' : Standing X) (limit : ℕ) → part_len (length s.seats) s.tokens ≡ limit → IsReady s
    → length s'.seats ≡ length s.seats → length s'.tokens ≡ length s.tokens → IsLong rest limit s'
long_of rest s s' limit is_limit ready seats tokens = λ k p at. let w = slice_get_within s'.seats k p.seat (spot_seat rest s' k p at) in
    token_len rest s s' k p ready (omega (arith, w, seats)) seats at tokens ∙ is_limit

-- what is known of the input at an index
pub record Known {X : Type 0} (hs : List Header) (limit : ℕ) (s : Standing X) (k : ℕ) (l : Lane) (d : Dump) : Type 0 where
  pub spot : Spot
  pub there : slice_get s.seats k ≡ Some spot.seat
  pub at : AtSeat (factor hs l.header) (first_number (take k hs)) l d.items spot
  pub long : length spot.token ≡ limit
  pub same : l.header ≡ d.header

pub known : {X : Type 0} {rest : X → Option (List ℕ)} {hs : List Header} {lanes : List Lane} {ds : List Dump} {s : Standing X}
    → AreGiven rest hs lanes ds s → {limit : ℕ} → IsLong rest limit s → (k : ℕ) (l : Lane) (d : Dump) → slice_get lanes k ≡ Some l
    → slice_get ds k ≡ Some d → Known hs limit s k l d
known {rest = rest} {hs = hs} {lanes = lanes} {ds = ds} {s = s} g long k l d at_l at_d =
    let many = g.many in
    let a = ap (λ (x : List Header). length x) g.dumps_are in
    let b = len_map (λ (x : Dump). x.header) ds in
    let c = slice_get_within ds k d at_d in
    let seat = there s.seats k (omega (arith, many, a, b, c)) in
    let p = seat_spot rest s k seat.0 g.sources_are seat.1 in
    record { spot = p.0; there = seat.1 ∙ ap (λ (x : Seat). Some x) (sym p.2); at = g.at k l d p.0 at_l at_d p.1; long = long k p.0 p.1; same = same_header rest hs lanes ds s g k l d at_l at_d }

of_map : {X : Type 0} (rest : X → Option (List ℕ)) (x : Option X) (r : Option (List ℕ)) → option_map rest x ≡ Some r → (y : X) × (x ≡ Some y) × (r ≡ rest y)
of_map rest (Some y) r e = (y, refl, sym (same_Some (rest y) r e))
of_map rest None r e = absurd (cc)

-- the source of a spot
pub spot_source : {X : Type 0} (rest : X → Option (List ℕ)) (s : Standing X) (k : ℕ) (p : Spot)
    → spot_at rest s.seats s.sources s.chunks s.tokens k ≡ Some p → (y : X) × (slice_get s.sources k ≡ Some y) × (p.rest ≡ rest y)
spot_source rest s k p at = of_map rest (slice_get s.sources k) p.rest (spot_parts rest s k p at).1

by_least : (s t j k : ℕ) → (s < t) ⊎ ((s ≡ t) × (j ≤ k)) → (t < s) ⊎ ((t ≡ s) × (k ≤ j)) → j ≡ k
by_least s t j k x y = grind arith

-- it is the turn of one input
pub same_next : (seats : List Seat) (j k : ℕ) → IsNext seats j → IsNext seats k → j ≡ k
same_next seats j k a b = by_least a.seat.time b.seat.time j k (a.least k b.seat b.there b.unfinished) (b.least j a.seat a.there a.unfinished)

-- seats whose spots stay
pub seats_stay : {X : Type 0} (rest : X → Option (List ℕ)) (s s' : Standing X) (j : ℕ) → length s.sources ≡ length s.seats
    → length s'.sources ≡ length s'.seats → spot_at rest s'.seats s'.sources s'.chunks s'.tokens j
    ≡ spot_at rest s.seats s.sources s.chunks s.tokens j
    → slice_get s'.seats j ≡ slice_get s.seats j
seats_stay {X} rest s s' j same sources spots = by_seats (slice_get s.seats j) refl (slice_get s'.seats j) refl
  where
    by_seats : (o : Option Seat) → slice_get s.seats j ≡ o → (o' : Option Seat) → slice_get s'.seats j ≡ o' → slice_get s'.seats j ≡ slice_get s.seats j
    by_seats None e None e' = e' ∙ sym e
    by_seats (Some y) e o' e' =
        let p = seat_spot rest s j y same e in
        spot_seat rest s' j p.0 (spots ∙ p.1) ∙ ap (λ (z : Seat). Some z) p.2 ∙ sym e
    by_seats None e (Some y) e' =
        let p = seat_spot rest s' j y sources e' in
        let there = spot_seat rest s j p.0 (sym spots ∙ p.1) in
        cc
