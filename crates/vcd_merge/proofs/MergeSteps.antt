-- What a merge holds after one item more of the input whose turn it is, and where that input has
-- finished.
use Rattle.vcd_merge.proofs.Cited.{◌≡◌, ◌≢◌, ℕ, suc, ◌*◌, ◌<◌, ◌≤◌, true, false, List, [], ◌∷◌, ◌++◌, length, take, map, slice_get, Option, Some, None, refl, sym, ap, ◌∙◌, arith, ◌⊎◌, Bool, inl, inr, option_map, AllByRecursion, slice_get_within, Header, first_number, BodyItem, time_after, Dump, key_lt, factor, headers_of, key_after, Before, before_key, AreGiven, Holds, Standing, IsNext, part, part_len, spot_at, spot_of, AtSeat, Lane, Spot, Seat, keyed_rest, with_item, later_key, key_chain, all_with_item, headers_stay, there, same_or_not, get_other, get_set, get_mapped}
use Rattle.vcd_model.proofs.MergeOrder as order
use Rattle.vcd_merge.specs.MergeStep.{GoBefore}

-- ---- positions

pub len_map : {X Y : Type 0} (f : X → Y) (xs : List X) → length (map f xs) ≡ length xs
len_map f [] = refl
len_map f (x ∷ xs) = ap suc (len_map f xs)

apart : (k j : ℕ) → j ≢ k → k ≤ j → k < j
apart k j other h = grind arith

-- by a flag
pub by_flag : {P : Type 0} (b : Bool) → (b ≡ true → P) → (b ≡ false → P) → P
by_flag true on off = on refl
by_flag false on off = off refl

-- what a spot is made of
spot_is : (o : Option Seat) (r : Option (Option (List ℕ))) (c t : List ℕ) (p : Spot) → spot_of o r c t ≡ Some p → (o ≡ Some p.seat)
    × (r ≡ Some p.rest) × (c ≡ p.chunk) × (t ≡ p.token)
spot_is (Some s) (Some rest) c t p e = let same : record { seat = s; rest = rest; chunk = c; token = t } ≡ p = cc in
    (ap (λ (q : Spot). Some q.seat) same, ap (λ (q : Spot). Some q.rest) same, ap (λ (q : Spot). q.chunk) same, ap (λ (q : Spot). q.token) same)
spot_is (Some s) None c t p e = absurd (cc)
spot_is None r c t p e = absurd (cc)

module _ {X : Type 0} (rest : X → Option (List ℕ)) (s : Standing X) where
  pub spot_parts : (k : ℕ) (p : Spot) → spot_at rest s.seats s.sources s.chunks s.tokens k ≡ Some p
      → (slice_get s.seats k ≡ Some p.seat) × (option_map rest (slice_get s.sources k) ≡ Some p.rest)
      × (part (part_len (length s.seats) s.chunks) k s.chunks ≡ p.chunk) × (part (part_len (length s.seats) s.tokens) k s.tokens ≡ p.token)
  spot_parts k p e = spot_is (slice_get s.seats k) (option_map rest (slice_get s.sources k)) (part (part_len (length s.seats) s.chunks) k s.chunks)
      (part (part_len (length s.seats) s.tokens) k s.tokens) p e

  pub spot_seat : (k : ℕ) (p : Spot) → spot_at rest s.seats s.sources s.chunks s.tokens k ≡ Some p → slice_get s.seats k ≡ Some p.seat
  spot_seat k p e = (spot_parts k p e).0

  -- a seat that there is has a spot
  pub seat_spot : (k : ℕ) (x : Seat) → length s.sources ≡ length s.seats → slice_get s.seats k ≡ Some x → (p : Spot)
      × (spot_at rest s.seats s.sources s.chunks s.tokens k ≡ Some p) × (p.seat ≡ x)
  seat_spot k x same at =
      let w = slice_get_within s.seats k x at in
      let y = there s.sources k (omega arith) in (
        record { seat = x; rest = rest y.0; chunk = part (part_len (length s.seats) s.chunks) k s.chunks; token = part (part_len (length s.seats) s.tokens) k s.tokens },
        rw (at, y.1) refl,
        refl,
      )

module _ {X : Type 0} (rest : X → Option (List ℕ)) (hs : List Header) (lanes : List Lane) (ds : List Dump) (s : Standing X) (g : AreGiven rest hs lanes ds s) where
  -- lane and dump of a seat, under one header
  pub lane_at : (k : ℕ) → k < length s.seats → (l : Lane) × (slice_get lanes k ≡ Some l)
  lane_at k h = let e = ap (λ (x : List Header). length x) g.lanes_are in let m = g.many in let n = len_map (λ (l : Lane). l.header) lanes in there lanes k (omega arith)

  pub dump_at : (k : ℕ) → k < length s.seats → (d : Dump) × (slice_get ds k ≡ Some d)
  dump_at k h = let e = ap (λ (x : List Header). length x) g.dumps_are in let m = g.many in let n = len_map (λ (d : Dump). d.header) ds in there ds k (omega arith)

  pub same_header : (k : ℕ) (l : Lane) (d : Dump) → slice_get lanes k ≡ Some l → slice_get ds k ≡ Some d → l.header ≡ d.header
  same_header k l d a b =
      let x = get_mapped (λ (y : Lane). y.header) lanes k l a in
      let y = get_mapped (λ (z : Dump). z.header) ds k d b in
      let u = ap (λ (h : List Header). slice_get h k) g.lanes_are in
      let v = ap (λ (h : List Header). slice_get h k) g.dumps_are in
      let e : Some l.header ≡ Some d.header = sym x ∙ u ∙ sym v ∙ y in
      cc

  -- the scaled time of an input
  pub time_at : (k : ℕ) (d : Dump) (x : Seat) → slice_get ds k ≡ Some d → slice_get s.seats k ≡ Some x → x.time ≡ factor hs d.header * time_after d.items
  time_at k d x b c =
      let w = slice_get_within s.seats k x c in
      let l = lane_at k w in
      let p = seat_spot rest s k x g.sources_are c in
      let a = g.at k l.0 d p.0 l.1 b p.1 in
      ap (λ (y : Seat). y.time) (sym p.2) ∙ a.time_is ∙ ap (λ (h : Header). factor hs h * time_after d.items) (same_header k l.0 d l.1 b)

-- the input whose turn it is, of a merge
pub record AtTurn {X : Type 0} (rest : X → Option (List ℕ)) (hs : List Header) (lanes : List Lane) (ds : List Dump) (s : Standing X) (k : ℕ) (l : Lane) (d : Dump) : Type 0 where
  pub holds : Holds rest hs lanes ds s
  pub next : IsNext s.seats k
  pub dump_at : slice_get ds k ≡ Some d
  pub lane_at : slice_get lanes k ≡ Some l

-- what is left after a step of it: the same but for this input, which is at p
pub record Leaves {X : Type 0} (rest : X → Option (List ℕ)) (s s' : Standing X) (k : ℕ) (p : Spot) : Type 0 where
  pub heads : s'.heads ≡ s.heads
  pub many : length s'.seats ≡ length s.seats
  pub sources : length s'.sources ≡ length s'.seats
  pub spot : spot_at rest s'.seats s'.sources s'.chunks s'.tokens k ≡ Some p
  pub others : (j : ℕ) → j ≢ k → spot_at rest s'.seats s'.sources s'.chunks s'.tokens j ≡ spot_at rest s.seats s.sources s.chunks s.tokens j
  pub stay : (j : ℕ) → j ≢ k → slice_get s'.sources j ≡ slice_get s.sources j
  pub token : length p.token ≡ part_len (length s.seats) s.tokens
  pub chunk : length p.chunk ≡ part_len (length s.seats) s.chunks

module _ {X : Type 0} {rest : X
    → Option (List ℕ)} {hs : List Header} {lanes : List Lane} {ds : List Dump} {s : Standing X} {k : ℕ} {l : Lane} {d : Dump}
    (t : AtTurn rest hs lanes ds s k l d) where
  g : AreGiven rest hs lanes ds s
  g = t.holds.given

  -- all items come before the position where the next one comes
  pub all_before : AllByRecursion (λ y. key_lt y.key (key_after (factor hs d.header) k d.items) ≡ true) (keyed_rest hs 0 [] ds)
  all_before = g.before k d t.next.seat t.dump_at t.next.there t.next.unfinished

  -- the position of the next item goes before those of the other inputs
  pub next_first : (j : ℕ) (c : Dump) (y : Seat) → j ≢ k → slice_get ds j ≡ Some c → slice_get s.seats j ≡ Some y → y.finished ≡ false
      → key_lt (key_after (factor hs d.header) k d.items) (key_after (factor hs c.header) j c.items) ≡ true
  next_first j c y other a b on =
      before_key (key_after (factor hs d.header) k d.items) (key_after (factor hs c.header) j c.items)
      (by_least (t.next.least j y b on) (time_at rest hs lanes ds s g k d t.next.seat t.dump_at t.next.there)
      (time_at rest hs lanes ds s g j c y a b))
    where
      by_least : (t.next.seat.time < y.time) ⊎ ((t.next.seat.time ≡ y.time) × (k ≤ j)) → t.next.seat.time ≡ factor hs d.header * time_after d.items
          → y.time ≡ factor hs c.header * time_after c.items → Before (key_after (factor hs d.header) k d.items)
          (key_after (factor hs c.header) j c.items)
      by_least (inl m) x u = inl (omega arith)
      by_least (inr m) x u = let e = m.0 in inr (omega arith, inl (apart k j other m.1))

  module _ {s' : Standing X} {p : Spot} (v : Leaves rest s s' k p) where
    other_seat : (j : ℕ) (y : Seat) → j ≢ k → slice_get s'.seats j ≡ Some y → slice_get s.seats j ≡ Some y
    other_seat j y other b =
        let q = seat_spot rest s' j y v.sources b in
        spot_seat rest s j q.0 (sym (v.others j other) ∙ q.1) ∙ ap (λ (z : Seat). Some z) q.2

    -- .. if these are its items then
    given_by : (es : List Dump) (e : Dump) → slice_get es k ≡ Some e → ((j : ℕ) → j ≢ k → slice_get es j ≡ slice_get ds j) → headers_of es ≡ hs
        → AtSeat (factor hs l.header) (first_number (take k hs)) l e.items p → GoBefore hs es s'.seats → AreGiven rest hs lanes es s'
    given_by es e own dumps headers a before = record {
      lanes_are = g.lanes_are;
      dumps_are = headers;
      many = g.many ∙ sym v.many;
      sources_are = v.sources;
      views = λ j h m b c. g.views j h m (ap (λ z. slice_get z j) (sym v.heads) ∙ b) c;
      at = λ j m c q at_m at_c at_q. elim (same_or_not j k) [
        | inl here ↦
            let el : l ≡ m = cc (sym t.lane_at ∙ ap (λ i. slice_get lanes i) (sym here) ∙ at_m) in
            let ec : e ≡ c = cc (sym own ∙ ap (λ i. slice_get es i) (sym here) ∙ at_c) in
            let eq : p ≡ q = cc (sym v.spot ∙ ap (λ i. spot_at rest s'.seats s'.sources s'.chunks s'.tokens i) (sym here) ∙ at_q) in
            rw (← el, ← ec, ← eq, here) a
        | inr other ↦ g.at j m c q at_m (sym (dumps j other) ∙ at_c) (sym (v.others j other) ∙ at_q)
      ];
      before = before;
    }

    -- one item more
    pub given_more : (x : BodyItem) → AtSeat (factor hs l.header) (first_number (take k hs)) l (d.items ++ x ∷ []) p → AreGiven rest hs lanes (with_item ds k d x) s'
    given_more x a = given_by (with_item ds k d x) more own (λ j other. get_other ds k j more other) (headers_stay ds k d x t.dump_at
        ∙ g.dumps_are) a (λ j c y at_c at_y on. before_place j c y (same_or_not j k) at_c at_y on)
      where
        more : Dump
        more = record { header = d.header; items = d.items ++ x ∷ []; fault = d.fault }

        own : slice_get (with_item ds k d x) k ≡ Some more
        own = get_set ds k more (slice_get_within ds k d t.dump_at)

        before_place : (j : ℕ) (c : Dump) (y : Seat) → (j ≡ k) ⊎ (j ≢ k) → slice_get (with_item ds k d x) j ≡ Some c → slice_get s'.seats j ≡ Some y
            → y.finished ≡ false → AllByRecursion (λ z. key_lt z.key (key_after (factor hs c.header) j c.items) ≡ true)
            (keyed_rest hs 0 [] (with_item ds k d x))
        before_place j c y (inl here) at_c at_y on =
            let ec : more ≡ c = cc (sym own ∙ ap (λ i. slice_get (with_item ds k d x) i) (sym here) ∙ at_c) in
            let later = later_key (factor hs d.header) k d.items x [] in
            let all = order.all_more (λ z. key_lt z.key (key_after (factor hs d.header) k d.items) ≡ true)
            (λ z. key_lt z.key (key_after (factor hs d.header) k (d.items ++ x ∷ [])) ≡ true) (keyed_rest hs 0 [] ds)
            (λ z h. key_chain z.key (key_after (factor hs d.header) k d.items) (key_after (factor hs d.header) k (d.items ++ x ∷ [])) h later) all_before in
            rw (← ec, here) (all_with_item hs ds k d x g.dumps_are t.dump_at (λ z. key_lt z.key (key_after (factor hs d.header) k (d.items ++ x ∷ [])) ≡ true) all later)
        before_place j c y (inr other) at_c at_y on =
            let ac = sym (get_other ds k j more other) ∙ at_c in
            let ay = other_seat j y other at_y in
            all_with_item hs ds k d x g.dumps_are t.dump_at (λ z. key_lt z.key (key_after (factor hs c.header) j c.items) ≡ true) (g.before j c y ac ay on) (next_first j c y other ac ay on)

    -- none, and it has finished
    pub given_still : p.seat.finished ≡ true → AtSeat (factor hs l.header) (first_number (take k hs)) l d.items p → AreGiven rest hs lanes ds s'
    given_still done a = given_by ds d t.dump_at (λ j other. refl) g.dumps_are a (λ j c y at_c at_y on. elim (same_or_not j k) [
      | inl here ↦
          let own : p.seat ≡ y = cc (sym (spot_seat rest s' k p v.spot) ∙ ap (λ i. slice_get s'.seats i) (sym here) ∙ at_y) in
          let f : true ≡ false = sym done ∙ ap (λ (z : Seat). z.finished) own ∙ on in
          cc
      | inr other ↦ g.before j c y at_c (other_seat j y other at_y) on
    ])
