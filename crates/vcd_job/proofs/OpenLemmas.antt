-- The loop that reads the headers of inputs in order.
use Rattle.vcd_job.proofs.Cited.{◌≡◌, ◌≢◌, ℕ, zero, suc, ◌+◌, ◌-◌, ◌/◌, ◌<◌, ◌≤◌, ◌⊎◌, inl, inr, List, [], ◌∷◌, ◌++◌, length, map, slice_get, slice_set, Option, Some, Result, Ok, Err, refl, sym, ap, ap₂, subst, ◌∙◌, arith, append_assoc, All, MatchResult, get_or, slice_index, sum_by, append-nil, length-append, length-map, map-append, AllZip, All-push, sum_by-append, get_or-map, length-set, set-append_seam, Header, allowed_after, declarations_allowed, whole, Supply, supply, shown, Views, Head, all_zip_push, there, rows_len, part, part_len, SameLengths, GaveParked, IsSeated, Lane, Spot, Windows, Read, Seat, map_set, Failure, Stopped, OutOfMemory, failure_of, CountsRead, CountsReads, BegunInput, AreBegun, AreParked, AreShown, Begins, BeginsAt, HasFailed, HaveBegun, IsBegun, IsNew, SameParts, Stops, headers_in, place_of, get_other, get_set, slice_get_within}
use Rattle.vcd_job.proofs.HeaderLemmas.{begun_only, none_read}

-- ---- one input more

-- the header of one more input was read
pub begun_more : (limit chunk : ℕ) (earlier : List Header) (texts : List (List ℕ)) (old new : List Supply) (lanes : List Lane) (text : List ℕ)
    (s t : Supply) (l : Lane) → AreBegun limit chunk earlier texts old new lanes
    → IsBegun (allowed_after (earlier ++ headers_in lanes)) limit chunk (whole text) l s t
    → AreBegun limit chunk earlier (texts ++ text ∷ []) (old ++ s ∷ []) (new ++ t ∷ []) (lanes ++ l ∷ [])
begun_more limit chunk earlier [] [] [] [] text s t l b one = (subst (λ hs. IsBegun (allowed_after hs) limit chunk (whole text) l s t) (append-nil earlier) one, tt)
begun_more limit chunk earlier (u ∷ texts) (a ∷ old) (c ∷ new) (m ∷ lanes) text s t l b one = (
  b.0,
  begun_more limit chunk (earlier ++ m.header ∷ []) texts old new lanes text s t l b.1
      (subst (λ hs. IsBegun (allowed_after hs) limit chunk (whole text) l s t) (sym (append_assoc earlier (m.header ∷ []) (headers_in lanes))) one),
)
begun_more limit chunk earlier texts old new lanes text s t l b one = absurd b

-- or it ended the run, before any after it was read
pub stops_at : (limit chunk place : ℕ) (earlier : List Header) (texts more : List (List ℕ)) (old new behind : List Supply) (lanes : List Lane)
    (text : List ℕ) (s t : Supply) (at : ℕ) (why : Failure) → AreBegun limit chunk earlier texts old new lanes
    → at ≡ place + length texts → length behind ≡ length more → HasFailed (allowed_after (earlier ++ headers_in lanes)) limit chunk at (whole text) s t why
    → Stops limit chunk place earlier (texts ++ text ∷ more) (old ++ s ∷ behind) (new ++ t ∷ behind) why
stops_at limit chunk place earlier [] more [] [] behind [] text s t at why b here long one =
    let e : at ≡ place = omega arith in
    inl (
      subst (λ n. HasFailed (allowed_after earlier) limit chunk n (whole text) s t why) e
          (subst (λ hs. HasFailed (allowed_after hs) limit chunk at (whole text) s t why) (append-nil earlier) one),
      refl,
      long,
    )
stops_at limit chunk place earlier (u ∷ texts) more (a ∷ old) (c ∷ new) behind (m ∷ lanes) text s t at why b here long one =
    let e : at ≡ suc place + length texts = omega arith in
    inr (
      m,
      b.0,
      stops_at limit chunk (suc place) (earlier ++ m.header ∷ []) texts more old new behind lanes text s t at why b.1 e long
          (subst (λ hs. HasFailed (allowed_after hs) limit chunk at (whole text) s t why) (sym (append_assoc earlier (m.header ∷ []) (headers_in lanes))) one),
    )
stops_at limit chunk place earlier texts more old new behind lanes text s t at why b here long one = absurd b

-- ---- an element that was pushed

pub get_front : {X : Type 0} (xs : List X) (y : X) (j : ℕ) → j < length xs → slice_get (xs ++ y ∷ []) j ≡ slice_get xs j
get_front [] y j h = absurd (omega arith)
get_front (x ∷ xs) y zero h = refl
get_front (x ∷ xs) y (suc j) h = get_front xs y j (omega arith)

pub get_last : {X : Type 0} (xs : List X) (y : X) → slice_get (xs ++ y ∷ []) (length xs) ≡ Some y
get_last [] y = refl
get_last (x ∷ xs) y = get_last xs y

pub get_place : {X : Type 0} (xs : List X) (y : X) (j : ℕ) (x : X) → slice_get (xs ++ y ∷ []) j ≡ Some x
    → ((j < length xs) × (slice_get xs j ≡ Some x)) ⊎ ((j ≡ length xs) × (y ≡ x))
get_place [] y zero x e = inr (refl, cc)
get_place [] y (suc j) x e = cc
get_place (z ∷ xs) y zero x e = inl (omega arith, e)
get_place (z ∷ xs) y (suc j) x e = elim (get_place xs y j x e) [ inl h ↦ (let a = h.0 in inl (omega arith, h.1)) | inr h ↦ inr (ap suc h.0, h.1) ]

-- ---- failed reads

-- a bound on the failures of all stays
pub still_low : {X : Type 0} (f : X → ℕ) (bound : ℕ) (old now : List X) → map f now ≡ map f old → All (λ r. f r < bound) old → All (λ r. f r < bound) now
still_low f bound old now same low k d within =
    let long : length now ≡ length old = sym (length-map now f) ∙ ap length same ∙ length-map old f in
    let e : f (get_or now k d) ≡ f (get_or old k d) = sym (get_or-map f now k d) ∙ ap (λ l. get_or l k (f d)) same ∙ get_or-map f old k d in
    let h = low k d (omega arith) in
    rw e h

set_own : {X : Type 0} (f : X → ℕ) (xs : List X) (k : ℕ) (x y : X) → slice_get xs k ≡ Some x → f y ≡ f x → map f (slice_set xs k y) ≡ map f xs
set_own f [] k x y at e = refl
set_own f (z ∷ xs) zero x y at e = let same : z ≡ x = cc in ap (λ n. n ∷ map f xs) (e ∙ ap f (sym same))
set_own f (z ∷ xs) (suc k) x y at e = ap (λ l. f z ∷ l) (set_own f xs k x y at e)

read_at : {X : Type 0} (f : X → ℕ) (xs : List X) (k : ℕ) (x : X) → slice_get xs k ≡ Some x → slice_index (map f xs) k ≡ f x
read_at f [] k x at = cc
read_at f (z ∷ xs) zero x at = let same : z ≡ x = cc in ap f same
read_at f (z ∷ xs) (suc k) x at = read_at f xs k x at

-- a read of the reader at an index failed, and of no other
pub counts_at : {X : Type 0} (f : X → ℕ) (old xs : List X) (k : ℕ) (x y : X) (why : Option Failure) → map f xs ≡ map f old → slice_get xs k ≡ Some x
    → CountsRead k (f x) (f y) why → CountsReads (map f old) (map f (slice_set xs k y)) why
counts_at f old xs k x y (Some (Stopped (Read input))) same at c =
    let within = slice_get_within xs k x at in
    let long : length (map f old) ≡ length xs = ap length (sym same) ∙ length-map xs f in
    let here = c.0 in
    let e : f y ≡ slice_index (map f old) input + 1 = c.1 ∙ ap (λ n. n + 1) (sym (read_at f xs k x at) ∙ ap₂ slice_index same (sym here)) in
    (omega arith, map_set f xs k y ∙ ap₂ (λ l n. slice_set l k n) same e ∙ ap (λ p. slice_set (map f old) p (slice_index (map f old) input + 1)) (sym here))
counts_at f old xs k x y why same at c = set_own f xs k x y at c ∙ same

-- none failed
pub none_failed : {X : Type 0} (f : X → ℕ) (old xs : List X) (k : ℕ) (x y : X) → map f xs ≡ map f old → slice_get xs k ≡ Some x → f y ≡ f x → map f (slice_set xs k y) ≡ map f old
none_failed f old xs k x y same at e = set_own f xs k x y at e ∙ same

-- ---- readers with these texts

module _ {X : Type 0} (limit chunk n : ℕ) (rest : X → Option (List ℕ)) (failures : X → ℕ) (texts : List (List ℕ)) (old : List X) where
  -- the headers of the first k readers were read, and the others were not touched
  pub record BegunSoFar (now : List X) (k left : ℕ) (heads : List Head) (seats : List Seat) (chunks tokens : List ℕ) : Type 0 where
    pub before : List X
    pub done : List X
    pub more : List X
    pub read : List (List ℕ)
    pub unread : List (List ℕ)
    pub lanes : List Lane
    pub old_are : old ≡ before ++ more
    pub now_are : now ≡ done ++ more
    pub texts_are : texts ≡ read ++ unread
    pub rests : map rest more ≡ map (λ text. Some text) unread
    pub many : length done ≡ k
    pub many_read : length read ≡ k
    pub many_lanes : length lanes ≡ k
    pub begun : AreBegun limit chunk [] read (map (supply rest failures) before) (map (supply rest failures) done) lanes
    pub left_is : left ≡ allowed_after (headers_in lanes)
    pub views : AreShown heads lanes
    pub parked : AreParked n rest lanes seats now chunks tokens

  pub nothing_begun : (chunks tokens : List ℕ) → map rest old ≡ map (λ text. Some text) texts → BegunSoFar old 0 declarations_allowed [] [] chunks tokens
  nothing_begun chunks tokens h = record {
    before = [];
    done = [];
    more = old;
    read = [];
    unread = texts;
    lanes = [];
    old_are = refl;
    now_are = refl;
    texts_are = refl;
    rests = h;
    many = refl;
    many_read = refl;
    many_lanes = refl;
    begun = tt;
    left_is = refl;
    views = tt;
    parked = λ k l s a b. cc;
  }

  module _ (now : List X) (k left : ℕ) (heads : List Head) (seats : List Seat) (chunks tokens : List ℕ) (b : BegunSoFar now k left heads seats chunks tokens) where
    -- the reader whose turn it is
    pub record Turn : Type 0 where
      pub reader : X
      pub text : List ℕ
      pub behind : List X
      pub unread : List (List ℕ)
      pub more_is : b.more ≡ reader ∷ behind
      pub unread_is : b.unread ≡ text ∷ unread
      pub rest_is : rest reader ≡ Some text
      pub rests : map rest behind ≡ map (λ text. Some text) unread

    pub turn : k < length now → Turn
    turn within = by_more b.more b.unread b.rests refl refl (omega (arith, ap length b.now_are, length-append b.done b.more))
      where
        by_more : (more : List X) (unread : List (List ℕ)) → map rest more ≡ map (λ text. Some text) unread → b.more ≡ more → b.unread ≡ unread → 0 < length b.more → Turn
        by_more [] unread e m u some = absurd (omega (arith, ap length m))
        by_more (r ∷ more) [] e m u some = cc
        by_more (r ∷ more) (text ∷ unread) e m u some = record { reader = r; text = text; behind = more; unread = unread; more_is = m; unread_is = u; rest_is = cc; rests = cc }

    module _ (t : Turn) where
      at_end : slice_get (b.done ++ t.reader ∷ t.behind) (length b.done) ≡ Some t.reader
      at_end = by_front b.done
        where
          by_front : (xs : List X) → slice_get (xs ++ t.reader ∷ t.behind) (length xs) ≡ Some t.reader
          by_front [] = refl
          by_front (x ∷ xs) = by_front xs

      now_is : now ≡ b.done ++ t.reader ∷ t.behind
      now_is = b.now_are ∙ ap (λ l. b.done ++ l) t.more_is

      pub reader_at : slice_get now k ≡ Some t.reader
      reader_at = ap₂ slice_get now_is (sym b.many) ∙ at_end

      set_at : (after : X) → slice_set now k after ≡ b.done ++ after ∷ t.behind
      set_at after = ap₂ (λ l p. slice_set l p after) now_is (sym b.many) ∙ set-append_seam b.done t.reader t.behind after

      old_is : map (supply rest failures) old ≡ map (supply rest failures) b.before ++ supply rest failures t.reader ∷ map (supply rest failures) t.behind
      old_is = ap (map (supply rest failures)) (b.old_are ∙ ap (λ l. b.before ++ l) t.more_is) ∙ map-append (supply rest failures) b.before (t.reader ∷ t.behind)

      -- the reading of its header ends the run
      pub stops_here : (after : X) (why : Failure) → HasFailed left limit chunk k (whole t.text) (supply rest failures t.reader) (supply rest failures after) why
          → Stops limit chunk 0 [] texts (map (supply rest failures) old) (map (supply rest failures) (slice_set now k after)) why
      stops_here after why h =
          let f = supply rest failures in
          let new_is : map f (slice_set now k after) ≡ map f b.done ++ f after ∷ map f t.behind = ap (map f) (set_at after) ∙ map-append f b.done (after ∷ t.behind) in
          let texts_is : texts ≡ b.read ++ t.text ∷ t.unread = b.texts_are ∙ ap (λ l. b.read ++ l) t.unread_is in
          let long : length (map f t.behind) ≡ length t.unread = length-map t.behind f ∙ sym (length-map t.behind rest) ∙ ap length t.rests ∙ length-map t.unread (λ text. Some text) in
          let stops = stops_at limit chunk 0 [] b.read t.unread (map f b.before) (map f b.done) (map f t.behind) b.lanes t.text (f t.reader)
          (f after) k why b.begun (let e = b.many_read in omega arith) long
          (subst (λ (m : ℕ). HasFailed m limit chunk k (whole t.text) (f t.reader) (f after) why) b.left_is h) in
          subst (λ (l : List (List ℕ)). Stops limit chunk 0 [] l (map f old) (map f (slice_set now k after)) why) (sym texts_is)
          (subst (λ (l : List Supply). Stops limit chunk 0 [] (b.read ++ t.text ∷ t.unread) l (map f (slice_set now k after)) why) (sym old_is)
          (subst (λ (l : List Supply). Stops limit chunk 0 [] (b.read ++ t.text ∷ t.unread) (map f b.before ++ f t.reader ∷ map f t.behind) l why) (sym new_is) stops))

      -- its header was read
      module _ (after : X) (head : Head) (seat : Seat) (chunks' tokens' : List ℕ) (heads_many : length heads ≡ k) (seats_many : length seats ≡ k)
          (g : Begins left limit chunk (whole t.text) head seat (part chunk k chunks') (part limit k tokens') (supply rest failures t.reader) (supply rest failures after)) where
        -- and memory ran out
        pub stops_behind : Stops limit chunk 0 [] texts (map (supply rest failures) old) (map (supply rest failures) (slice_set now k after)) OutOfMemory
        stops_behind = stops_here after OutOfMemory (begun_only left limit chunk (whole t.text) g.lane (supply rest failures t.reader) (supply rest failures after) g.begun k)

        shown_more : AreShown (heads ++ head ∷ []) (b.lanes ++ g.lane ∷ [])
        shown_more =
            subst (λ (hs : List Header). AllZip (λ (h : Head) (x : Header). Views (shown h) x) (heads ++ head ∷ []) hs) (sym (map-append (λ (l : Lane). l.header) b.lanes (g.lane ∷ [])))
            (all_zip_push (λ (h : Head) (x : Header). Views (shown h) x) heads (headers_in b.lanes) head g.lane.header b.views g.views)

        module _ (within : k < length now) (cl : length chunks' ≡ length chunks) (tl : length tokens' ≡ length tokens)
            (chunk_is : part_len n chunks ≡ chunk) (limit_is : part_len n tokens ≡ limit)
            (others : (j : ℕ) → j ≢ k → (part (part_len n chunks) j chunks' ≡ part (part_len n chunks) j chunks)
            × (part (part_len n tokens) j tokens' ≡ part (part_len n tokens) j tokens)) where
          chunk_same : part_len n chunks' ≡ part_len n chunks
          chunk_same = ap (λ m. m / n) cl

          limit_same : part_len n tokens' ≡ part_len n tokens
          limit_same = ap (λ m. m / n) tl

          -- the others are as they were
          place_before : (j : ℕ) → j < k → place_of n rest (seats ++ seat ∷ []) (slice_set now k after) chunks' tokens' j ≡ place_of n rest seats now chunks tokens j
          place_before j below =
              let apart : j ≢ k = λ e. absurd (omega (arith, e)) in
              let a = get_front seats seat j (omega arith) in
              let r = get_other now k j after apart in
              let o = others j apart in
              let p = o.0 in
              let q = o.1 in
              rw (chunk_same, limit_same, a, r, p, q) refl

          place_here : place_of n rest (seats ++ seat ∷ []) (slice_set now k after) chunks' tokens' k ≡ Some
              (record { seat = seat; rest = rest after; chunk = part chunk k chunks'; token = part limit k tokens' })
          place_here =
              let a : slice_get (seats ++ seat ∷ []) k ≡ Some seat = ap (slice_get (seats ++ seat ∷ [])) (sym seats_many) ∙ get_last seats seat in
              let r = get_set now k after within in
              rw (chunk_same, limit_same, chunk_is, limit_is, a, r) refl

          parked_more : AreParked n rest (b.lanes ++ g.lane ∷ []) (seats ++ seat ∷ []) (slice_set now k after) chunks' tokens'
          parked_more j l s a c = by_place (get_place b.lanes g.lane j l a)
            where
              by_place : ((j < length b.lanes) × (slice_get b.lanes j ≡ Some l)) ⊎ ((j ≡ length b.lanes) × (g.lane ≡ l))
                  → GaveParked l.header.codes l.input l.front [] s.rest s.chunk s.token s.seat.parked s.seat.regs
              by_place (inl p) = let e = b.many_lanes in let h = p.0 in b.parked j l s p.1 (sym (place_before j (omega arith)) ∙ c)
              by_place (inr p) =
                  let here : j ≡ k = p.0 ∙ b.many_lanes in
                  let spot : Spot = record { seat = seat; rest = rest after; chunk = part chunk k chunks'; token = part limit k tokens' } in
                  let found : Some spot ≡ Some s = sym place_here ∙ ap (place_of n rest (seats ++ seat ∷ []) (slice_set now k after) chunks' tokens') (sym here) ∙ c in
                  let same : spot ≡ s = cc in
                  subst (λ (p : Spot). GaveParked l.header.codes l.input l.front [] p.rest p.chunk p.token p.seat.parked p.seat.regs) same
                  (subst (λ (x : Lane). GaveParked x.header.codes x.input x.front [] (rest after) (part chunk k chunks')
                  (part limit k tokens') seat.parked seat.regs) p.1 g.gave)

          -- so far, with one input more
          pub one_more : (left' : ℕ) → left' ≡ left - length (shown head).rows → BegunSoFar (slice_set now k after) (k + 1) left' (heads ++ head ∷ []) (seats ++ seat ∷ []) chunks' tokens'
          one_more left' fewer =
              let f = supply rest failures in
              let hs = headers_in b.lanes in
              let rows = rows_len _ _ [] (shown head).rows g.lane.header.declarations g.views.rows in
              let sums : sum_by (λ (h : Header). length h.declarations) (hs ++ g.lane.header ∷ []) ≡ sum_by (λ (h : Header). length h.declarations) hs + length g.lane.header.declarations =
              sum_by-append (λ (h : Header). length h.declarations) hs (g.lane.header ∷ []) ∙ omega arith in
              let e = b.left_is in
              record {
                before = b.before ++ t.reader ∷ [];
                done = b.done ++ after ∷ [];
                more = t.behind;
                read = b.read ++ t.text ∷ [];
                unread = t.unread;
                lanes = b.lanes ++ g.lane ∷ [];
                old_are = b.old_are ∙ ap (λ l. b.before ++ l) t.more_is ∙ sym (append_assoc b.before (t.reader ∷ []) t.behind);
                now_are = set_at after ∙ sym (append_assoc b.done (after ∷ []) t.behind);
                texts_are = b.texts_are ∙ ap (λ l. b.read ++ l) t.unread_is ∙ sym (append_assoc b.read (t.text ∷ []) t.unread);
                rests = t.rests;
                many = length-append b.done (after ∷ []) ∙ ap (λ m. m + 1) b.many;
                many_read = length-append b.read (t.text ∷ []) ∙ ap (λ m. m + 1) b.many_read;
                many_lanes = length-append b.lanes (g.lane ∷ []) ∙ ap (λ m. m + 1) b.many_lanes;
                begun = subst (λ (l : List Supply). AreBegun limit chunk [] (b.read ++ t.text ∷ []) l (map f (b.done ++ after ∷ []))
                    (b.lanes ++ g.lane ∷ [])) (sym (map-append f b.before (t.reader ∷ [])))
                    (subst (λ (l : List Supply). AreBegun limit chunk [] (b.read ++ t.text ∷ []) (map f b.before ++ f t.reader ∷ []) l
                    (b.lanes ++ g.lane ∷ [])) (sym (map-append f b.done (after ∷ [])))
                    (begun_more limit chunk [] b.read (map f b.before) (map f b.done) b.lanes t.text (f t.reader) (f after) g.lane b.begun
                    (subst (λ (m : ℕ). IsBegun m limit chunk (whole t.text) g.lane (f t.reader) (f after)) e g.begun)));
                left_is = fewer ∙ omega (arith, e, rows, sums) ∙ ap allowed_after (sym (map-append (λ (l : Lane). l.header) b.lanes (g.lane ∷ [])));
                views = shown_more;
                parked = parked_more;
              }

  -- all of them
  pub all_begun : (now : List X) (left : ℕ) (heads : List Head) (seats : List Seat) (chunks tokens : List ℕ)
      → BegunSoFar now (length now) left heads seats chunks tokens → HaveBegun limit chunk n rest failures texts old now heads seats chunks tokens
  all_begun now left heads seats chunks tokens b =
      let f = supply rest failures in
      let none : b.more ≡ [] = empty b.more (omega (arith, ap length b.now_are, length-append b.done b.more, b.many)) in
      let unread_none : b.unread ≡ [] = empty b.unread (omega (arith, sym (length-map b.unread (λ text. Some text)) ∙ ap length (sym b.rests) ∙ length-map b.more rest ∙ ap length none)) in
      let old_is : old ≡ b.before = b.old_are ∙ ap (λ l. b.before ++ l) none ∙ append-nil b.before in
      let now_is : now ≡ b.done = b.now_are ∙ ap (λ l. b.done ++ l) none ∙ append-nil b.done in
      let texts_is : texts ≡ b.read = b.texts_are ∙ ap (λ l. b.read ++ l) unread_none ∙ append-nil b.read in
      record {
        lanes = b.lanes;
        begun = subst (λ (l : List (List ℕ)). AreBegun limit chunk [] l (map f old) (map f now) b.lanes) (sym texts_is)
            (subst (λ (l : List X). AreBegun limit chunk [] b.read (map f l) (map f now) b.lanes) (sym old_is)
            (subst (λ (l : List X). AreBegun limit chunk [] b.read (map f b.before) (map f l) b.lanes) (sym now_is) b.begun));
        views = b.views;
        parked = b.parked;
      }
    where
      empty : {Y : Type 0} (ys : List Y) → length ys ≡ 0 → ys ≡ []
      empty [] h = refl
      empty (y ∷ ys) h = absurd (omega arith)

-- ---- the loop

-- after k readers: no read failed, and over readers with these texts the headers are those of the
-- definitions
pub record Opening {X : Type 0} (rest : X → Option (List ℕ)) (failures : X → ℕ) (old now : List X) (windows windows' : Windows) (k left : ℕ)
    (heads : List Head) (seats : List Seat) : Type 0 where
  pub many : length now ≡ length old
  pub few : left ≤ 16777216
  pub heads_many : length heads ≡ k
  pub seats_many : length seats ≡ k
  pub counts : map failures now ≡ map failures old
  pub lengths : SameLengths windows windows'
  pub seated : All (λ (seat : Seat). IsSeated (part_len (length old) windows.chunks.now) (part_len (length old) windows.tokens.now) seat × IsNew seat) seats
  pub told : (texts : List (List ℕ)) → map rest old ≡ map (λ text. Some text) texts
      → BegunSoFar (part_len (length old) windows.tokens.now) (part_len (length old) windows.chunks.now)
      (length old) rest failures texts old now k left heads seats windows'.chunks.now windows'.tokens.now

-- one reader more
module _ {X : Type 0} (rest : X → Option (List ℕ)) (failures : X → ℕ) (old now now' : List X) (w w1 w2 : Windows) (k left : ℕ) (heads : List Head)
    (seats : List Seat) (result : Result BegunInput Failure)
    (o : Opening rest failures old now w w1 k left heads seats) (within : k < length now) (begins : (r : X) → slice_get now k ≡ Some r
    → BeginsAt (length now) k left rest failures r now now' w1 w2 result) where
  limit_is : part_len (length now) w1.tokens.now ≡ part_len (length old) w.tokens.now
  limit_is = ap₂ (λ a b. a / b) o.lengths.tokens o.many

  chunk_is : part_len (length now) w1.chunks.now ≡ part_len (length old) w.chunks.now
  chunk_is = ap₂ (λ a b. a / b) o.lengths.chunks o.many

  tells : (r : X) (at : slice_get now k ≡ Some r) (text : List ℕ) → rest r ≡ Some text → MatchResult result
      (λ begun. Begins left (part_len (length old) w.tokens.now) (part_len (length old) w.chunks.now) (whole text) begun.head begun.seat
      (part (part_len (length old) w.chunks.now) k w2.chunks.now) (part (part_len (length old) w.tokens.now) k w2.tokens.now) (supply rest failures r) (supply rest failures (begins r at).after))
      (HasFailed left (part_len (length old) w.tokens.now) (part_len (length old) w.chunks.now) k (whole text) (supply rest failures r) (supply rest failures (begins r at).after))
  tells r at text e = rw (limit_is, chunk_is) at ((begins r at).gives text e)

  -- how the reading stops
  abbrev pub StopsWith : Failure → Type 0
  StopsWith why = (texts : List (List ℕ)) → map rest old ≡ map (λ text. Some text) texts
      → Stops (part_len (length old) w.tokens.now) (part_len (length old) w.chunks.now) 0 [] texts (map (supply rest failures) old) (map (supply rest failures) now') why

  pub stops : (why : Failure) → result ≡ Err why → StopsWith why
  stops why e texts h =
      let limit = part_len (length old) w.tokens.now in
      let chunk = part_len (length old) w.chunks.now in
      let b = o.told texts h in
      let t = turn limit chunk (length old) rest failures texts old now k left heads seats w1.chunks.now w1.tokens.now b within in
      let at = reader_at limit chunk (length old) rest failures texts old now k left heads seats w1.chunks.now w1.tokens.now b t in
      let one = begins t.reader at in
      subst (λ (l : List X). Stops limit chunk 0 [] texts (map (supply rest failures) old) (map (supply rest failures) l) why) (sym one.readers)
      (stops_here limit chunk (length old) rest failures texts old now k left heads seats w1.chunks.now w1.tokens.now b t one.after why (rw e at (tells t.reader at t.text t.rest_is)))

  pub counted : (why : Failure) → failure_of result ≡ Some why → CountsReads (map failures old) (map failures now') (Some why)
  counted why e =
      let (r, at) = there now k within in
      let one = begins r at in
      subst (λ (l : List X). CountsReads (map failures old) (map failures l) (Some why)) (sym one.readers)
      (counts_at failures old now k r one.after (Some why) o.counts at (subst (CountsRead k (failures r) (failures one.after)) e one.counts))

  module _ (begun : BegunInput) (ok : result ≡ Ok begun) where
    pub still : map failures now' ≡ map failures old
    still =
        let (r, at) = there now k within in
        let one = begins r at in
        let same : failures one.after ≡ failures r = rw ok at one.counts in
        ap (map failures) one.readers ∙ none_failed failures old now k r one.after o.counts at same

    pub stops_full : StopsWith OutOfMemory
    stops_full texts h =
        let limit = part_len (length old) w.tokens.now in
        let chunk = part_len (length old) w.chunks.now in
        let b = o.told texts h in
        let t = turn limit chunk (length old) rest failures texts old now k left heads seats w1.chunks.now w1.tokens.now b within in
        let at = reader_at limit chunk (length old) rest failures texts old now k left heads seats w1.chunks.now w1.tokens.now b t in
        let one = begins t.reader at in
        subst (λ (l : List X). Stops limit chunk 0 [] texts (map (supply rest failures) old) (map (supply rest failures) l) OutOfMemory) (sym one.readers)
        (stops_behind limit chunk
        (length old) rest failures texts old now k left heads seats w1.chunks.now w1.tokens.now b t one.after begun.head begun.seat w2.chunks.now w2.tokens.now o.heads_many o.seats_many
        (rw ok at (tells t.reader at t.text t.rest_is)))

    pub goes_on : (left' : ℕ) → left' ≡ left - length (shown begun.head).rows → SameLengths w1 w2 → ((j : ℕ) → j ≢ k → SameParts (length now) j w1 w2)
        → IsSeated (part_len (length now) w1.chunks.now) (part_len (length now) w1.tokens.now) begun.seat × IsNew begun.seat
        → Opening rest failures old now' w w2 (k + 1) left' (heads ++ begun.head ∷ []) (seats ++ begun.seat ∷ [])
    goes_on left' fewer same others seated =
        let limit = part_len (length old) w.tokens.now in
        let chunk = part_len (length old) w.chunks.now in
        let (r, at) = there now k within in
        let many' : length now' ≡ length now = ap length (begins r at).readers ∙ length-set now k (begins r at).after in
        let h = o.few in
        record {
          many = many' ∙ o.many;
          few = omega (arith, fewer);
          heads_many = length-append heads (begun.head ∷ []) ∙ ap (λ m. m + 1) o.heads_many;
          seats_many = length-append seats (begun.seat ∷ []) ∙ ap (λ m. m + 1) o.seats_many;
          counts = still;
          lengths = record { chunks = same.chunks ∙ o.lengths.chunks; tokens = same.tokens ∙ o.lengths.tokens; values = same.values ∙ o.lengths.values };
          seated = All-push (λ (seat : Seat). IsSeated chunk limit seat × IsNew seat) seats begun.seat o.seated (rw (limit_is, chunk_is) at seated);
          told = λ texts h.
              let b = o.told texts h in
              let t = turn limit chunk (length old) rest failures texts old now k left heads seats w1.chunks.now w1.tokens.now b within in
              let here = reader_at limit chunk (length old) rest failures texts old now k left heads seats w1.chunks.now w1.tokens.now b t in
              let one = begins t.reader here in
              let e : part_len (length old) w1.chunks.now ≡ chunk = ap (λ m. m / length old) o.lengths.chunks in
              let e' : part_len (length old) w1.tokens.now ≡ limit = ap (λ m. m / length old) o.lengths.tokens in
              subst (λ (l : List X). BegunSoFar limit chunk (length old) rest failures texts old l (k + 1) left' (heads ++ begun.head ∷ [])
              (seats ++ begun.seat ∷ []) w2.chunks.now w2.tokens.now) (sym one.readers)
              (one_more limit chunk
              (length old) rest failures texts old now k left heads seats w1.chunks.now w1.tokens.now b t one.after begun.head begun.seat w2.chunks.now w2.tokens.now o.heads_many o.seats_many
              (rw ok at (tells t.reader here t.text t.rest_is)) within same.chunks same.tokens e e'
              (λ j apart. let p = others j apart in (rw (ap (λ m. length w1.chunks.now / m) o.many) at p.chunks, rw (ap (λ m. length w1.tokens.now / m) o.many) at p.tokens)) left' fewer);
        }

-- memory ran out before anything was read of readers, of which there is one at least
pub nothing_stops : {X : Type 0} (limit chunk : ℕ) (rest : X → Option (List ℕ)) (failures : X → ℕ) (old : List X) (texts : List (List ℕ))
    → 0 < length old → map rest old ≡ map (λ text. Some text) texts
    → Stops limit chunk 0 [] texts (map (supply rest failures) old) (map (supply rest failures) old) OutOfMemory
nothing_stops limit chunk rest failures [] texts some h = absurd (omega arith)
nothing_stops limit chunk rest failures (r ∷ old) [] some h = cc
nothing_stops limit chunk rest failures (r ∷ old) (text ∷ texts) some h =
    let behind : map rest old ≡ map (λ text. Some text) texts = cc in
    inl (
      none_read (allowed_after []) limit chunk 0 (whole text) (supply rest failures r),
      refl,
      length-map old (supply rest failures)
          ∙ sym (length-map old rest) ∙ ap length behind ∙ length-map texts (λ text. Some text),
    )
