-- Inputs after one was read on its turn: none of the others comes before the key that it reached.
use Rattle.vcd_merge.proofs.Cited.{◌≡◌, ◌≢◌, ℕ, true, List, [], ◌∷◌, ◌++◌, slice_get, Option, Some, inl, inr, refl, sym, ap, subst, ◌∙◌, append-nil, append_assoc, slice_get_within, same_Some, Header, Input, BodyItem, Dump, Key, factor, key_after, key_lt, with_item, still_later, IsNext, Standing, GoOn, IsReached, ReadInTurn, Lane, ReadsNoMore, Seat, same_or_not, get_other, get_set}
use Rattle.vcd_merge.proofs.MergeSteps.{AtTurn, next_first, same_header, seat_spot}

-- ---- inputs that continue

pub go_still : (ds : List Dump) (seats : List Seat) → GoOn ds seats ds seats
go_still ds seats = λ k d y at_d at_y on. record { dump = d; seat = y; dump_at = at_d; seat_at = at_y; unfinished = on; header = refl; more = []; items = sym (append-nil d.items) }

pub go_through : (ds ms es : List Dump) (seats mids news : List Seat) → GoOn ds seats ms mids → GoOn ms mids es news → GoOn ds seats es news
go_through ds ms es seats mids news first second = λ k e y at_e at_y on.
    let g = second k e y at_e at_y on in
    let f = first k g.dump g.seat g.dump_at g.seat_at g.unfinished in
    record {
      dump = f.dump;
      seat = f.seat;
      dump_at = f.dump_at;
      seat_at = f.seat_at;
      unfinished = f.unfinished;
      header = g.header ∙ f.header;
      more = f.more ++ g.more;
      items = g.items ∙ ap (λ (l : List BodyItem). l ++ g.more) f.items ∙ append_assoc f.dump.items f.more g.more;
    }

-- one input alone continues, which had not finished
module _ (ds es : List Dump) (seats news : List Seat) (k : ℕ) (next : IsNext seats k) (seats_stay : (j : ℕ) → j ≢ k
    → slice_get news j ≡ slice_get seats j) (d : Dump) (at : slice_get ds k ≡ Some d) where
  go_by : (e : Dump) (more : List BodyItem) → slice_get es k ≡ Some e → e.header ≡ d.header → e.items ≡ d.items ++ more
      → ((j : ℕ) → j ≢ k → slice_get es j ≡ slice_get ds j) → GoOn ds seats es news
  go_by e more own header items dumps_stay = λ j c y at_c at_y on. elim (same_or_not j k) [
    | inl here ↦
        let both : Some e ≡ Some c = sym own ∙ ap (slice_get es) (sym here) ∙ at_c in
        let is : e ≡ c = same_Some e c both in
        record {
          dump = d;
          seat = next.seat;
          dump_at = ap (slice_get ds) here ∙ at;
          seat_at = ap (slice_get seats) here ∙ next.there;
          unfinished = next.unfinished;
          header = ap (λ (z : Dump). z.header) (sym is) ∙ header;
          more = more;
          items = ap (λ (z : Dump). z.items) (sym is) ∙ items;
        }
    | inr other ↦ record {
      dump = c;
      seat = y;
      dump_at = sym (dumps_stay j other) ∙ at_c;
      seat_at = sym (seats_stay j other)
          ∙ at_y;
      unfinished = on;
      header = refl;
      more = [];
      items = sym (append-nil c.items);
    }
  ]

-- by no item, and by one
pub go_same : (ds : List Dump) (seats news : List Seat) (k : ℕ) → IsNext seats k → ((j : ℕ) → j ≢ k → slice_get news j ≡ slice_get seats j)
    → (d : Dump) → slice_get ds k ≡ Some d → GoOn ds seats ds news
go_same ds seats news k next stay d at = go_by ds ds seats news k next stay d at d [] at refl (sym (append-nil d.items)) (λ j other. refl)

pub go_item : (ds : List Dump) (seats news : List Seat) (k : ℕ) → IsNext seats k → ((j : ℕ) → j ≢ k → slice_get news j ≡ slice_get seats j)
    → (d : Dump) (x : BodyItem) → slice_get ds k ≡ Some d → GoOn ds seats (with_item ds k d x) news
go_item ds seats news k next stay d x at =
    let e : Dump = record { header = d.header; items = d.items ++ x ∷ []; fault = d.fault } in
    go_by ds (with_item ds k d x) seats news k next stay d at e (x ∷ []) (get_set ds k e (slice_get_within ds k d at)) refl refl (λ j other. get_other ds k j e other)

-- ---- a key that was reached

pub reached_on : (hs : List Header) (ds es : List Dump) (seats news : List Seat) (k : ℕ) (place : Key) → GoOn ds seats es news → IsReached hs ds seats k place → IsReached hs es news k place
reached_on hs ds es seats news k place go reached = λ j e y other at_e at_y on.
    let g = go j e y at_e at_y on in
    let r = still_later place (factor hs g.dump.header) j g.dump.items g.more (reached j g.dump g.seat other g.dump_at g.seat_at g.unfinished) in
    subst (λ (h : Header). key_lt place (key_after (factor hs h) j e.items) ≡ true) (sym g.header)
    (subst (λ (l : List BodyItem). key_lt place (key_after (factor hs g.dump.header) j l) ≡ true) (sym g.items) r)

pub turn_on : (limit chunk : ℕ) (hs : List Header) (ds es : List Dump) (seats news : List Seat) (k : ℕ) (l : Lane) (left : Input)
    (rest : Option (List ℕ)) → GoOn ds seats es news → ReadInTurn limit chunk hs ds seats k l left rest
    → ReadInTurn limit chunk hs es news k l left rest
turn_on limit chunk hs ds es seats news k l left rest go r = record {
  items = r.items;
  small = r.small;
  reached = reached_on hs ds es seats news k
      (key_after (factor hs l.header) k r.items) go r.reached;
  no_more = r.no_more;
}

-- the input whose turn it is was read
pub in_turn : {X : Type 0} {rest : X → Option (List ℕ)} {hs : List Header} {lanes : List Lane} {ds : List Dump} {s : Standing X} {k : ℕ} {l : Lane} {d : Dump} → AtTurn rest hs lanes ds s k l d
    → (limit chunk : ℕ) (left : Input) (more : Option (List ℕ)) (es : List Dump) (news : List Seat) → GoOn ds s.seats es news
    → ReadsNoMore limit chunk l d.items left more → ReadInTurn limit chunk hs es news k l left more
in_turn {rest = rest} {hs = hs} {lanes = lanes} {ds = ds} {s = s} {k = k} {l = l} {d = d} t limit chunk left more es news go no_more =
    let g = t.holds.given in
    let p = seat_spot rest s k t.next.seat g.sources_are t.next.there in
    let reached : IsReached hs ds s.seats k (key_after (factor hs l.header) k d.items) = rw
    (same_header rest hs lanes ds s g k l d t.lane_at t.dump_at) (λ j c y other a b on. next_first t j c y other a b on) in
    record {
      items = d.items;
      small = (g.at k l d p.0 t.lane_at t.dump_at p.1).small;
      reached = reached_on hs ds es s.seats news k
          (key_after (factor hs l.header) k d.items) go reached;
      no_more = no_more;
    }
