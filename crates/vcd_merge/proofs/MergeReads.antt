-- How a merge has read its inputs, one by one, through its steps.
use Rattle.vcd_merge.proofs.Cited.{◌≡◌, ◌≢◌, ℕ, zero, suc, ◌+◌, Bool, false, List, [], ◌∷◌, length, map, slice_get, Option, Some, None, Result, refl, sym, ap, subst, ◌∙◌, arith, ◌⊎◌, inl, inr, IfSome, get_or, get_or_from_slice_get, slice_get_within, length-set, Clean, Input, Header, Dump, Token, failed_after, Supply, supply, HasRest, ReadsAsNeeded, Nothing, IsLeft, reads_failed, part_len, Holds, ReadsOne, Standing, cut_at, failures_with, GoOn, ReadInTurn, HaveJust, Lane, ReadsNoMore, Seat, Stop, there, same_or_not, get_set, get_mapped}
use Rattle.vcd_merge.proofs.InTurn.{in_turn, turn_on}
use Rattle.vcd_merge.proofs.MergeSteps.{AtTurn, len_map}

-- ---- lists

pub unmap : {X Y : Type 0} (f : X → Y) (xs : List X) (k : ℕ) (y : Y) → slice_get (map f xs) k ≡ Some y → (x : X) × (slice_get xs k ≡ Some x) × (f x ≡ y)
unmap f [] k y e = cc
unmap f (x ∷ xs) zero y e = (x, refl, cc)
unmap f (x ∷ xs) (suc k) y e = unmap f xs k y e

-- a step counts the failures of the source whose turn it was
module _ {X A : Type 0} (f : X → ℕ) (xs ys : List X) (k : ℕ) (result : Result A Stop) (counts : map f ys ≡ failures_with (map f xs) k result) where
  pub as_many : length ys ≡ length xs
  as_many = sym (len_map f ys) ∙ ap length counts ∙ length-set (map f xs) k _ ∙ len_map f xs

  own_failures : (y : X) → slice_get ys k ≡ Some y → (x : X) × (slice_get xs k ≡ Some x) × (f y ≡ f x + reads_failed result)
  own_failures y at =
      let w = slice_get_within ys k y at in
      let m = as_many in
      let x = there xs k (omega (arith, w, m)) in
      let n = len_map f xs in
      let set = get_set (map f xs) k (get_or (map f xs) k 0 + reads_failed result) (omega (arith, w, m, n)) in
      let e : Some (f y) ≡ Some (get_or (map f xs) k 0 + reads_failed result) = sym (get_mapped f ys k y at) ∙ ap (λ l. slice_get l k) counts ∙ set in
      let g = get_or_from_slice_get (map f xs) k (f x.0) 0 (get_mapped f xs k x.0 x.1) in
      let v : f y ≡ get_or (map f xs) k 0 + reads_failed result = cc in
      (x.0, x.1, v ∙ ap (λ n. n + reads_failed result) g)

-- ---- reads

-- of an input nothing was read, or on its turn
abbrev pub IsReadSo : (limit chunk : ℕ) → List Header → List Dump → List Seat → ℕ → Lane → (old new : Supply) → Input → Type 0
IsReadSo limit chunk hs ds seats k l old new left = (new ≡ old) ⊎ ReadInTurn limit chunk hs ds seats k l left new.rest

-- what is left of it, and how it was read
abbrev pub IsRead : (limit chunk : ℕ) → List Header → List Dump → List Seat → ℕ → Lane → (old new : Supply) → Input → Type 0
IsRead limit chunk hs ds seats k l old new left = IsLeft l.input old new left × IsReadSo limit chunk hs ds seats k l old new left

-- other inputs may continue
still_so : (limit chunk : ℕ) (hs : List Header) (ds es : List Dump) (seats news : List Seat) (k : ℕ) (l : Lane) (old new : Supply) (left : Input)
    → GoOn ds seats es news → IsReadSo limit chunk hs ds seats k l old new left → IsReadSo limit chunk hs es news k l old new left
still_so limit chunk hs ds es seats news k l old new left go (inl same) = inl same
still_so limit chunk hs ds es seats news k l old new left go (inr r) = inr (turn_on limit chunk hs ds es seats news k l left new.rest go r)

-- no more was read than what settles work that tokens with just these items do not settle
module _ {X : Type 0} (rest : X → Option (List ℕ)) (failures : X → ℕ) (limit chunk : ℕ) (hs : List Header) (ds : List Dump) (seats : List Seat)
    (k : ℕ) (l : Lane) (old new : Supply) (left : Input) (x : X) (is : supply rest failures x ≡ new) (settled : List Token → Bool) where
  pub reads_for : ((r : ReadInTurn limit chunk hs ds seats k l left new.rest) (ts : List Token) → HaveJust l.header.codes r.items ts
      → settled ts ≡ false) → IsReadSo limit chunk hs ds seats k l old new left → ReadsAsNeeded limit chunk old new left l.front settled
  reads_for on (inl same) = Nothing same
  reads_for on (inr r) =
      let of_x : ReadsNoMore limit chunk l r.items left (rest x) = subst (λ (z : Supply). ReadsNoMore limit chunk l r.items left z.rest) (sym is) r.no_more in
      subst (λ (z : Supply). ReadsAsNeeded limit chunk old z left l.front settled) is (of_x old (failures x) settled (on r))

module _ {X : Type 0} (rest : X → Option (List ℕ)) (failures : X → ℕ) (hs : List Header) (limit chunk : ℕ) (lanes : List Lane) (olds : List Supply) where
  abbrev pub supplies : List X → List Supply
  supplies xs = map (supply rest failures) xs

  -- The sources were these olds before the merge: none of their reads has failed in it, and each
  -- was read on its turn alone. After that the inputs have these items and seats.
  pub record AreReadSoFar (ds : List Dump) (seats : List Seat) (xs : List X) : Type 0 where
    pub each : (j : ℕ) (l : Lane) (old new : Supply) → slice_get lanes j ≡ Some l → slice_get olds j ≡ Some old
        → slice_get (supplies xs) j ≡ Some new → (new.failures ≡ old.failures) × IsReadSo limit chunk hs ds seats j l old new l.input

  -- other inputs may continue
  pub still_read : (ds es : List Dump) (seats news : List Seat) (xs : List X) → GoOn ds seats es news → AreReadSoFar ds seats xs → AreReadSoFar es news xs
  still_read ds es seats news xs go so_far = record {
    each = λ j l old new at_l at_old at_new. let e = so_far.each j l old new at_l at_old at_new in (e.0, still_so limit chunk hs ds es seats news j l old new l.input go e.1);
  }

  -- after reads of which each left its source as it was, or came on its turn
  pub read_along : (ds es : List Dump) (seats news : List Seat) (ss ms : List X) → GoOn ds seats es news → map failures ms ≡ map failures ss
      → ((j : ℕ) (l : Lane) (x : X) → slice_get lanes j ≡ Some l → slice_get ms j ≡ Some x → (slice_get ss j ≡ Some x)
      ⊎ ReadInTurn limit chunk hs es news j l l.input (rest x)) → AreReadSoFar ds seats ss → AreReadSoFar es news ms
  read_along ds es seats news ss ms go same reads so_far = record {
    each = λ j l old new at_l at_old at_new.
        let x = unmap (supply rest failures) ms j new at_new in
        elim (reads j l x.0 at_l x.1) [
          | inl at_s ↦
              let e = so_far.each j l old new at_l at_old (get_mapped (supply rest failures) ss j x.0 at_s ∙ ap (λ (z : Supply). Some z) x.2) in
              (e.0, still_so limit chunk hs ds es seats news j l old new l.input go e.1)
          | inr turn ↦
              let y = unmap failures ss j (failures x.0) (ap (λ (ns : List ℕ). slice_get ns j) (sym same) ∙ get_mapped failures ms j x.0 x.1) in
              let before = so_far.each j l old (supply rest failures y.0) at_l at_old (get_mapped (supply rest failures) ss j y.0 y.1) in
              (ap (λ (z : Supply). z.failures) (sym x.2) ∙ sym y.2 ∙ before.0, inr (subst (λ (z : Supply). ReadInTurn limit chunk hs es news j l l.input z.rest) x.2 turn))
        ];
  }

  -- each input is left whole
  pub left_whole : (ds : List Dump) (seats : List Seat) (xs : List X) → AreReadSoFar ds seats xs → (j : ℕ) (l : Lane) (old new : Supply)
      → slice_get lanes j ≡ Some l → slice_get olds j ≡ Some old → slice_get (supplies xs) j ≡ Some new
      → IsRead limit chunk hs ds seats j l old new l.input
  left_whole ds seats xs so_far j l old new at_l at_old at_new = let e = so_far.each j l old new at_l at_old at_new in (inl (e.0, refl), e.1)

  -- a step, after which the inputs have these items and seats
  module _ {A : Type 0} (ds es : List Dump) (news : List Seat) (s s' : Standing X) (k : ℕ) (result : Result A Stop) (cut : Option ℕ)
      (holds : Holds rest hs lanes ds s) (go : GoOn ds s.seats es news) (so_far : AreReadSoFar ds s.seats s.sources)
      (r : ReadsOne rest lanes ds s s' k cut) (counts : map failures s'.sources ≡ failures_with (map failures s.sources) k result)
      (limit_is : part_len (length s.seats) s.tokens ≡ limit) (chunk_is : part_len (length s.seats) s.chunks ≡ chunk) where
    turn : ReadInTurn limit chunk hs es news k r.lane (cut_at cut r.lane.input) (rest r.source)
    turn =
        let more : ReadsNoMore limit chunk r.lane r.dump.items (cut_at cut r.lane.input) (rest r.source) = rw (← limit_is, ← chunk_is) r.no_more in
        let t : AtTurn rest hs lanes ds s k r.lane r.dump = record { holds = holds; next = r.next; dump_at = r.dump_at; lane_at = r.lane_at } in
        in_turn t limit chunk (cut_at cut r.lane.input) (rest r.source) es news go more

    -- of the input whose turn it was
    own : (l : Lane) (old new : Supply) → slice_get lanes k ≡ Some l → slice_get olds k ≡ Some old → slice_get (supplies s'.sources) k ≡ Some new
        → (new.failures ≡ old.failures + reads_failed result) × ReadInTurn limit chunk hs es news k l (cut_at cut l.input) new.rest
        × IfSome cut (λ n. l.input.mark ≡ Clean → HasRest new.rest n l.input)
    own l old new at_l at_old at_new =
        let x = unmap (supply rest failures) s'.sources k new at_new in
        let y = own_failures failures s.sources s'.sources k result counts x.0 x.1 in
        let before = so_far.each k l old (supply rest failures y.0) at_l at_old (get_mapped (supply rest failures) s.sources k y.0 y.1) in
        let source : r.source ≡ x.0 = cc (sym r.source_at ∙ x.1) in
        let lane : r.lane ≡ l = cc (sym r.lane_at ∙ at_l) in
        let is : supply rest failures r.source ≡ new = ap (supply rest failures) source ∙ x.2 in (
          ap (λ (z : Supply). z.failures) (sym x.2) ∙ y.2 ∙ ap (λ n. n + reads_failed result) before.0,
          subst (λ (m : Lane). ReadInTurn limit chunk hs es news k m (cut_at cut m.input) new.rest) lane
              (subst (λ (z : Supply). ReadInTurn limit chunk hs es news k r.lane (cut_at cut r.lane.input) z.rest) is turn),
          subst (λ (m : Lane). IfSome cut (λ n. m.input.mark ≡ Clean → HasRest new.rest n m.input)) lane
              (subst (λ (z : Supply). IfSome cut (λ n. r.lane.input.mark ≡ Clean → HasRest z.rest n r.lane.input)) is r.has_rest),
        )

    -- and of another
    other : (j : ℕ) (new : Supply) → j ≢ k → slice_get (supplies s'.sources) j ≡ Some new → slice_get (supplies s.sources) j ≡ Some new
    other j new apart at_new =
        let x = unmap (supply rest failures) s'.sources j new at_new in
        get_mapped (supply rest failures) s.sources j x.0 (sym (r.others j apart) ∙ x.1) ∙ ap (λ (z : Supply). Some z) x.2

    -- an input whose turn it was not is left whole
    pub other_left : (j : ℕ) (l : Lane) (old new : Supply) → j ≢ k → slice_get lanes j ≡ Some l → slice_get olds j ≡ Some old
        → slice_get (supplies s'.sources) j ≡ Some new → IsRead limit chunk hs es news j l old new l.input
    other_left j l old new apart at_l at_old at_new = left_whole es news s.sources (still_read ds es s.seats news s.sources go so_far) j l old new at_l at_old (other j new apart at_new)

    -- no read failed
    pub read_more : cut ≡ None → reads_failed result ≡ 0 → AreReadSoFar es news s'.sources
    read_more whole none = record {
      each = λ j l old new at_l at_old at_new. elim (same_or_not j k) [
        | inl e ↦
            let one = own l old new (ap (slice_get lanes) (sym e) ∙ at_l) (ap (slice_get olds) (sym e) ∙ at_old) (ap (slice_get (supplies s'.sources)) (sym e) ∙ at_new) in
            let read = subst (λ (c : Option ℕ). ReadInTurn limit chunk hs es news k l (cut_at c l.input) new.rest) whole one.1 in
            (one.0 ∙ ap (λ n. old.failures + n) none ∙ omega arith, inr (subst (λ (i : ℕ). ReadInTurn limit chunk hs es news i l l.input new.rest) (sym e) read))
        | inr apart ↦
            let e = so_far.each j l old new at_l at_old (other j new apart at_new) in
            (e.0, still_so limit chunk hs ds es s.seats news j l old new l.input go e.1)
      ];
    }

    -- a read failed after n bytes: the input is cut there
    pub cut_left : (n : ℕ) → cut ≡ Some n → reads_failed result ≡ 1 → (l : Lane) (old new : Supply) → slice_get lanes k ≡ Some l
        → slice_get olds k ≡ Some old → slice_get (supplies s'.sources) k ≡ Some new
        → IsRead limit chunk hs es news k l old new (failed_after n l.input)
    cut_left n at_n one l old new at_l at_old at_new =
        let was = own l old new at_l at_old at_new in
        let read = subst (λ (c : Option ℕ). ReadInTurn limit chunk hs es news k l (cut_at c l.input) new.rest) at_n was.1 in
        let has = subst (λ (c : Option ℕ). IfSome c (λ n. l.input.mark ≡ Clean → HasRest new.rest n l.input)) at_n was.2 in
        (inr (was.0 ∙ ap (λ m. old.failures + m) one, n, refl, has), inr read)
