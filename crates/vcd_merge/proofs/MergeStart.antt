-- Where a merge begins: its seats are set one after the other, and it holds the dumps of inputs
-- that have given no item.
use Rattle.vcd_merge.proofs.Cited.{◌≡◌, ℕ, zero, suc, ◌+◌, ◌<◌, ◌≤◌, true, false, List, [], ◌∷◌, ◌++◌, ◌^◌, length, take, map, slice_get, slice_set, get_or, Option, Some, None, refl, sym, ap, subst, ◌∙◌, arith, inl, inr, append-nil, append_assoc, All, SomeIff, ℤ, nat_abs, option_map, unwrap_or, ◌-ℤ◌, AllByRecursion, pow-le-pow_right, cases_lt, get_or_from_slice_get, slice_get-get_or, slice_get_within, AllZip-long, Header, first_number, merged_head, Dump, by_key, factor, headers_of, key_after, key_lt, merged_items, keyed_rest, Token, stream_of, merged_by, Fits, parked_answer, Head, ShowHeaders, shown, IsExponent, Views, few_powers, numbers_fit, Merge, Seat, Windows, AreParts, AreSeated, part, part_len, spot_at, spot_of, AreBegun, AreOpen, HasBegun, HaveNoItems, begun, no_items, Holds, IsReady, last_written, standing_of, AtSeat, GaveParked, IsSeated, Lane, Spot, there, same_or_not, get_other, get_set, get_mapped}
use Rattle.vcd_model.specs.Merge.{merge_open}
use Rattle.vcd_merge.proofs.MergeSteps.{spot_seat}
use Rattle.vcd_merge.proofs.PartLemmas.{part_long}

-- ---- seats that are set one after the other

-- R holds of the first n, as they were and as they are; the others are as they were
pub record SetSoFar (R : ℕ → Seat → Seat → Type 0) (n : ℕ) (old new : List Seat) : Type 0 where
  pub done : (j : ℕ) (s s' : Seat) → j < n → slice_get old j ≡ Some s → slice_get new j ≡ Some s' → R j s s'
  pub left : (j : ℕ) → n ≤ j → slice_get new j ≡ slice_get old j

pub one_more : (R : ℕ → Seat → Seat → Type 0) (n : ℕ) (old mid : List Seat) (v : Seat) → SetSoFar R n old mid → n < length mid
    → ((s : Seat) → slice_get old n ≡ Some s → R n s v) → SetSoFar R (n + 1) old (slice_set mid n v)
one_more R n old mid v h l here = record {
  done = λ j s s' below a b. elim (same_or_not j n) [
    | inl e ↦
        let at : slice_get old n ≡ Some s = ap (slice_get old) (sym e) ∙ a in
        let both : Some v ≡ Some s' = sym (get_set mid n v l) ∙ ap (slice_get (slice_set mid n v)) (sym e) ∙ b in
        let same : v ≡ s' = cc in
        subst (λ i. R i s s') (sym e) (subst (λ (x : Seat). R n s x) same (here s at))
    | inr other ↦ h.done j s s' (below_n j below other) a (sym (get_other mid n j v other) ∙ b)
  ];
  left = λ j m. get_other mid n j v (λ e. omega arith) ∙ h.left j (omega arith);
}
  where
    below_n : (j : ℕ) → j < n + 1 → (j ≡ n → ⊥) → j < n
    below_n j m other = elim (cases_lt j n) [ inl less ↦ less | inr more ↦ absurd (other (omega arith)) ]

-- the seat at an index, with what the merge adds
pub as_begun : (seats : List Seat) (n : ℕ) (s d : Seat) (a b scale first : ℕ) → slice_get seats n ≡ Some s → a ≡ scale → b ≡ first
    → begun a b (get_or seats n d) ≡ begun scale first s
as_begun seats n s d a b scale first at e f = ap (begun a b) (get_or_from_slice_get seats n s d at) ∙ ap (λ x. begun x b s) e ∙ ap (λ x. begun scale x s) f

pub all_set : (R : ℕ → Seat → Seat → Type 0) (n : ℕ) (old new : List Seat) → SetSoFar R n old new → length old ≤ n → (j : ℕ) (s s' : Seat)
    → slice_get old j ≡ Some s → slice_get new j ≡ Some s' → R j s s'
all_set R n old new h l j s s' a b = let w = slice_get_within old j s a in h.done j s s' (omega arith) a b

-- ---- no items

headers_are : (lanes : List Lane) → headers_of (no_items lanes) ≡ map (λ (l : Lane). l.header) lanes
headers_are [] = refl
headers_are (l ∷ lanes) = ap (λ hs. l.header ∷ hs) (headers_are lanes)

no_keyed : (hs : List Header) (n : ℕ) (es : List Header) (lanes : List Lane) → keyed_rest hs n es (no_items lanes) ≡ []
no_keyed hs n es [] = refl
no_keyed hs n es (l ∷ lanes) = no_keyed hs (n + 1) (es ++ l.header ∷ []) lanes

pub none_merged : (hs : List Header) (lanes : List Lane) → map (λ (l : Lane). l.header) lanes ≡ hs → merged_items (no_items lanes) ≡ []
none_merged hs lanes e = merged_by hs (no_items lanes) (headers_are lanes ∙ e) ∙ ap by_key (no_keyed hs 0 [] lanes)

-- the text of a merge that has begun is its header
pub opens_with : (hs : List Header) → merge_open hs [] ≡ merged_head hs
unfolding merge_open
opens_with hs = append-nil (merged_head hs)

pub opens : (hs : List Header) (lanes : List Lane) → map (λ (l : Lane). l.header) lanes ≡ hs → merge_open hs (merged_items (no_items lanes)) ≡ merged_head hs
opens hs lanes e = ap (merge_open hs) (none_merged hs lanes e) ∙ opens_with hs

-- ---- an input that has given none

items_of_same : (d e : Dump) → Some d ≡ Some e → d.items ≡ e.items
items_of_same d e same = let is : d ≡ e = cc in ap (λ (x : Dump). x.items) is

shown_at : (heads : List Head) (hs : List Header) (k : ℕ) (head : Head) (h : Header) → ShowHeaders heads hs → slice_get heads k ≡ Some head
    → slice_get hs k ≡ Some h → Views (shown head) h
shown_at [] hs k head h s a b = cc
shown_at (x ∷ heads) [] k head h s a b = absurd s
shown_at (x ∷ heads) (y ∷ hs) zero head h s a b = let p : x ≡ head = cc in let q : y ≡ h = cc in subst (λ (z : Head). Views (shown z) h) p (subst (Views (shown x)) q s.0)
shown_at (x ∷ heads) (y ∷ hs) (suc k) head h s a b = shown_at heads hs k head h s.1 a b

-- the same spot with another seat
other_seat : (o o' : Option Seat) (r : Option (Option (List ℕ))) (c t : List ℕ) (p : Spot) (s : Seat) → spot_of o r c t ≡ Some p → o' ≡ Some s
    → spot_of o' r c t ≡ Some (record { seat = s; rest = p.rest; chunk = p.chunk; token = p.token })
other_seat None o' r c t p s e f = cc
other_seat (Some x) o' None c t p s e f = cc
other_seat (Some x) None (Some r) c t p s e f = cc
other_seat (Some x) (Some y) (Some r) c t p s e f =
    let same : record { seat = x; rest = r; chunk = c; token = t } ≡ p = cc in
    let seat : y ≡ s = cc in
    ap (λ (q : Spot). Some (record { seat = y; rest = q.rest; chunk = q.chunk; token = q.token })) same
    ∙ ap (λ (z : Seat). Some (record { seat = z; rest = p.rest; chunk = p.chunk; token = p.token })) seat

at_first : (scale first : ℕ) (l : Lane) (s : Seat) (p : Spot) → p.seat ≡ begun scale first s → first + length l.header.codes < 2 ^ 64
    → GaveParked l.header.codes l.input l.front [] p.rest p.chunk p.token s.parked s.regs → AtSeat scale first l [] p
at_first scale first l s p e fits gave = record {
  gave = subst (λ (x : Seat). GaveParked l.header.codes l.input l.front [] p.rest p.chunk p.token x.parked x.regs) (sym e) gave;
  small = tt;
  factor_is = ap (λ (x : Seat). x.factor) e;
  time_is = let zero_time : p.seat.time ≡ 0 = ap (λ (x : Seat). x.time) e in omega arith;
  first_is = ap (λ (x : Seat). x.first) e;
  few = fits;
  finished = λ f. let e : false ≡ true = sym (ap (λ (x : Seat). x.finished) e) ∙ f in absurd cc;
}

-- ---- a merge that has begun

-- Over the seats that are set, it holds the dumps of inputs that have given no item.
pub begins : {X : Type 0} (rest : X → Option (List ℕ)) (hs : List Header) (lanes : List Lane) (heads : List Head) (old new : List Seat) (sources : List X) (chunks tokens values : List ℕ)
    → ShowHeaders heads hs → length heads ≤ 64 → map (λ (l : Lane). l.header) lanes ≡ hs → length heads ≡ length old → length new ≡ length old
    → length sources ≡ length old → AreBegun hs old new
    → HaveNoItems rest lanes old sources chunks tokens → Holds rest hs lanes (no_items lanes)
    (record { heads = heads; seats = new; written = None; sources = sources; chunks = chunks; tokens = tokens; values = values })
begins {X} rest hs lanes heads old new sources chunks tokens values show few lanes_are heads_many many sources_many set gave = record {
  given = record {
    lanes_are = lanes_are;
    dumps_are = headers_are lanes ∙ lanes_are;
    many = omega (arith, long);
    sources_are = omega arith;
    views = λ k head l a b. shown_at heads hs k head l.header show a (header_there k l b);
    at = λ k l d p a b spot.
        let same : Some (record { header = l.header; items = []; fault = None }) ≡ Some d = sym
        (get_mapped (λ (x : Lane). record { header = x.header; items = []; fault = None }) lanes k l a) ∙ b in
        let none : [] ≡ d.items = items_of_same (record { header = l.header; items = []; fault = None }) d same in
        subst (λ items. AtSeat (factor hs l.header) (first_number (take k hs)) l items p) none (at_place k l p a spot);
    before = λ k d s a b f. subst (AllByRecursion (λ y. key_lt y.key (key_after (factor hs d.header) k d.items) ≡ true)) (sym (no_keyed hs 0 [] lanes)) tt;
  };
  written = ap last_written (sym (none_merged hs lanes lanes_are));
}
  where
    long : length hs ≡ length heads
    long = AllZip-long _ heads hs show

    header_there : (k : ℕ) (l : Lane) → slice_get lanes k ≡ Some l → slice_get hs k ≡ Some l.header
    header_there k l a = ap (λ (x : List Header). slice_get x k) (sym lanes_are) ∙ get_mapped (λ (x : Lane). x.header) lanes k l a

    at_place : (k : ℕ) (l : Lane) (p : Spot) → slice_get lanes k ≡ Some l → spot_at rest new sources chunks tokens k ≡ Some p
        → AtSeat (factor hs l.header) (first_number (take k hs)) l [] p
    at_place k l p a spot =
        let at = spot_seat rest (record { heads = heads; seats = new; written = None; sources = sources; chunks = chunks; tokens = tokens; values = values }) k p spot in
        let w = slice_get_within new k p.seat at in
        let s = there old k (omega arith) in
        let head = there heads k (omega arith) in
        let is = set k l.header s.0 p.seat (header_there k l a) s.1 at in
        let v = shown_at heads hs k head.0 l.header show head.1 (header_there k l a) in
        let spot_old = other_seat (slice_get new k) (slice_get old k) (option_map rest (slice_get sources k))
        (part (part_len (length old) chunks) k chunks) (part (part_len (length old) tokens) k tokens) p s.0
        (subst (λ n. spot_of (slice_get new k) (option_map rest (slice_get sources k)) (part (part_len n chunks) k chunks) (part (part_len n tokens) k tokens) ≡ Some p) many spot) s.1 in
        at_first (factor hs l.header) (first_number (take k hs)) l s.0 p is (numbers_fit heads hs k l.header head.0 show (omega arith) v)
        (gave k l (record { seat = s.0; rest = p.rest; chunk = p.chunk; token = p.token }) a spot_old)

-- ---- whatever the inputs are

seated_still : (c t : ℕ) (old new : List Seat) → length new ≡ length old → AreOpen old new → All (IsSeated c t) old → All (IsSeated c t) new
seated_still c t old new many set h = λ k d l.
    let is = set k (get_or old k d) (get_or new k d) (slice_get-get_or old k d (omega arith)) (slice_get-get_or new k d l) in
    let was = h k d (omega arith) in
    record {
      fits = subst (λ (x : Seat). Fits x.parked c t) (sym is) was.fits;
      on = λ e. was.on (ap (λ (x : Seat). parked_answer x.parked) (sym is) ∙ e);
    }

-- The first input is next.
pub ready_at_first : {X : Type 0} (heads : List Head) (old new : List Seat) (sources : List X) (chunks tokens values : List ℕ) → 0 < length old
    → length heads ≡ length old → length new ≡ length old → length sources ≡ length old
    → AreParts (length old) chunks tokens values → AreSeated chunks tokens old → AreOpen old new
    → IsReady (record { heads = heads; seats = new; written = None; sources = sources; chunks = chunks; tokens = tokens; values = values })
ready_at_first heads old new sources chunks tokens values some heads_many many sources_many parts seated set = record {
  heads = omega arith;
  sources = omega arith;
  parts = subst (λ n. AreParts n chunks tokens values) (sym many) parts;
  seated = subst (λ n. All (IsSeated (part_len n chunks) (part_len n tokens)) new) (sym many) (seated_still (part_len (length old) chunks) (part_len (length old) tokens) old new many set seated);
  some =
      let first = there new 0 (omega arith) in (
        0,
        record {
          seat = first.0;
          there = first.1;
          unfinished = (as_set 0 first.0 first.1).1;
          least = λ j s at f. inr (let a = (as_set 0 first.0 first.1).0 in let b = (as_set j s at).0 in (omega arith, omega arith));
        },
      );
}
  where
    as_set : (j : ℕ) (s : Seat) → slice_get new j ≡ Some s → (s.time ≡ 0) × (s.finished ≡ false)
    as_set j s at =
        let w = slice_get_within new j s at in
        let was = there old j (omega arith) in
        let is = set j was.0 s was.1 at in
        (ap (λ (x : Seat). x.time) is, ap (λ (x : Seat). x.finished) is)

-- ---- and over the merge itself

pub holds_begun : {X : Type 0} (rest : X → Option (List ℕ)) (hs : List Header) (lanes : List Lane) (heads : List Head) (old : List Seat) (m : Merge) (sources : List X) (windows : Windows)
    → ShowHeaders heads hs → length heads ≤ 64 → map (λ (l : Lane). l.header) lanes ≡ hs → length heads ≡ length old → length sources ≡ length old
    → HasBegun heads old m → AreBegun hs old m.seats.now
    → HaveNoItems rest lanes old sources windows.chunks.now windows.tokens.now → Holds rest hs lanes (no_items lanes) (standing_of m sources windows)
holds_begun rest hs lanes heads old m sources windows show few lanes_are heads_many sources_many begun set gave =
    rw (
      begun.heads_are,
      begun.written,
    ) (begins rest hs lanes heads old m.seats.now sources windows.chunks.now windows.tokens.now windows.values.now show few lanes_are heads_many begun.many sources_many set gave)

pub ready_begun : {X : Type 0} (heads : List Head) (old : List Seat) (m : Merge) (sources : List X) (windows : Windows)
    → 0 < length old → length heads ≡ length old → length sources ≡ length old → HasBegun heads old m
    → AreParts (length old) windows.chunks.now windows.tokens.now windows.values.now → AreSeated windows.chunks.now windows.tokens.now old
    → IsReady (standing_of m sources windows)
ready_begun heads old m sources windows some heads_many sources_many begun parts seated =
    rw (
      begun.heads_are,
      begun.written,
    ) (ready_at_first heads old m.seats.now sources windows.chunks.now windows.tokens.now windows.values.now some heads_many begun.many sources_many parts seated begun.open_seats)

-- each input begins with the tokens of its header
pub heads_given : {X : Type 0} (rest : X → Option (List ℕ)) (lanes : List Lane) (seats : List Seat) (sources : List X)
    (chunks tokens values : List ℕ) → AreParts (length seats) chunks tokens values → length lanes ≡ length seats → length sources ≡ length seats
    → HaveNoItems rest lanes seats sources chunks tokens → (k : ℕ) (l : Lane) → slice_get lanes k ≡ Some l → (more : List Token)
    × ((stream_of (part_len (length seats) tokens) l.input).tokens ≡ l.front ++ more)
heads_given rest lanes seats sources chunks tokens values parts lanes_many sources_many none k l at =
    let w = slice_get_within lanes k l at in
    let x = there seats k (omega arith) in
    let y = there sources k (omega arith) in
    let n = length seats in
    let chunk = part (part_len n chunks) k chunks in
    let token = part (part_len n tokens) k tokens in
    let spot : spot_at rest seats sources chunks tokens k ≡ Some
    (record { seat = x.0; rest = rest y.0; chunk = chunk; token = token }) = λ j. spot_of (x.1 j) (option_map rest (y.1 j)) chunk token in
    let gave = none k l (record { seat = x.0; rest = rest y.0; chunk = chunk; token = token }) at spot in
    let begun = gave.stands.given_first in
    let len = part_long (part_len n tokens) n k tokens parts.tokens_are (omega arith) in
    (gave.given ++ begun.0, ap (λ m. (stream_of m l.input).tokens) (sym len) ∙ begun.1 ∙ append_assoc l.front gave.given begun.0)

-- ---- factors

-- a power that fits is found
pub power_of : (o : Option ℕ) (n d : ℕ) → SomeIff o (n < 2 ^ 64) n → n < 2 ^ 64 → unwrap_or o d ≡ n
power_of None n d h fits = absurd (h fits)
power_of (Some x) n d h fits = h.1

pub power_fits : (a b : ℤ) → IsExponent a → IsExponent b → 10 ^ nat_abs (a -ℤ b) < 2 ^ 64
power_fits a b p q =
    let few = few_powers a b p q in
    let most : 10 ^ nat_abs (a -ℤ b) ≤ 10 ^ 17 = pow-le-pow_right {n = 10} (omega arith) few in
    omega (arith, most)
