-- What does not settle a merge: the first tokens of one input, where its items come before the
-- faults of all others.
use Rattle.vcd_merge.proofs.Cited.{◌≡◌, ◌≢◌, ℕ, zero, suc, ◌+◌, Bool, true, false, ◌&&◌, ◌||◌, List, [], ◌∷◌, map, slice_get, slice_set, Option, Some, None, inl, inr, refl, sym, ap, subst, ◌∙◌, arith, AllByRecursion, slice_get_within, Header, BodyItem, Token, read_body, Ending, Fault, AtFault, AtEnd, AtLast, is_faulty, Dump, Key, KeyedFault, factor, first_fault, headers_of, is_too_large, key_after, key_lt, Opened, dump_whole, key_never, AreLate, first_late, SeenBody, are_past, dump_seen, fault_met, is_at_its_end, is_past, known_first, known_whole, settles_among, HaveJust, and-false, same_or_not, get_other, get_set, get_mapped}
use Rattle.vcd_model.specs.Merge.{dump_of}
use Rattle.vcd_model.specs.Outcome.{body_of}
use Rattle.vcd_model.proofs.MergeOutcome.{dump_under}
use Rattle.vcd_merge.proofs.MergeCounts.{map_set}

-- ---- lists

-- an element that is set where it is
set_same : {X : Type 0} (xs : List X) (k : ℕ) (x : X) → slice_get xs k ≡ Some x → slice_set xs k x ≡ xs
set_same [] k x at = refl
set_same (y ∷ xs) zero x at = let same : y ≡ x = cc in ap (λ z. z ∷ xs) (sym same)
set_same (y ∷ xs) (suc k) x at = ap (λ l. y ∷ l) (set_same xs k x at)

-- from what is known of the fault at each index
late_each : (b : Key) (hs : List Header) (n : ℕ) (ds : List Dump)
    → ((i : ℕ) (d : Dump) (f : Fault) → slice_get ds i ≡ Some d → d.fault ≡ Some f
    → key_lt (key_after (factor hs d.header) (n + i) d.items) b ≡ false) → AreLate b hs n ds
late_each b hs n [] each = tt
late_each b hs n (d ∷ ds) each = (
  λ f e. let i : n + 0 ≡ n = omega arith in subst (λ (m : ℕ). key_lt (key_after (factor hs d.header) m d.items) b ≡ false) i (each 0 d f refl e),
  late_each b hs (n + 1) ds (λ i c f at e. let j : n + suc i ≡ n + 1 + i = omega arith in
      subst (λ (m : ℕ). key_lt (key_after (factor hs c.header) m c.items) b ≡ false) j (each (suc i) c f at e)),
)

not_past : (f : Option KeyedFault) (hs : List Header) (n k : ℕ) (ss : List SeenBody) (s : SeenBody) → slice_get ss k ≡ Some s
    → (is_at_its_end s (dump_seen hs s) || is_past f hs (n + k) (dump_seen hs s)) ≡ false → are_past f hs n ss ≡ false
not_past f hs n k [] s at e = cc
not_past f hs n zero (t ∷ ss) s at e =
    let same : s ≡ t = cc in
    let i : n + 0 ≡ n = omega arith in
    let here : (is_at_its_end t (dump_seen hs t) || is_past f hs n (dump_seen hs t)) ≡ false = subst
    (λ (x : SeenBody). (is_at_its_end x (dump_seen hs x) || is_past f hs n (dump_seen hs x)) ≡ false) same
    (subst (λ (m : ℕ). (is_at_its_end s (dump_seen hs s) || is_past f hs m (dump_seen hs s)) ≡ false) i e) in
    ap (λ (b : Bool). b && are_past f hs (n + 1) ss) here
not_past f hs n (suc k) (t ∷ ss) s at e =
    let i : n + suc k ≡ n + 1 + k = omega arith in
    let more = not_past f hs (n + 1) k ss s at (subst (λ (m : ℕ). (is_at_its_end s (dump_seen hs s) || is_past f hs m (dump_seen hs s)) ≡ false) i e) in
    ap (λ (b : Bool). (is_at_its_end t (dump_seen hs t) || is_past f hs n (dump_seen hs t)) && b) more ∙ and-false _

-- ---- dumps

none_met : (e : Ending) → is_faulty e ≡ false → fault_met e ≡ None
none_met (AtFault f) e = cc
none_met AtEnd e = refl
none_met AtLast e = refl

-- first tokens without a fault, whose items have no time that is too large
first_dump : (hs : List Header) (h : Header) (items : List BodyItem) (ts : List Token) → HaveJust h.codes items ts
    → AllByRecursion (λ x. is_too_large (factor hs h) x ≡ false) items
    → dump_seen hs (known_first h ts) ≡ record { header = h; items = items; fault = None }
first_dump hs h items ts have small =
    let r = read_body h.codes ts in
    dump_whole (factor hs h) h (fault_met r.ending) r (subst (AllByRecursion (λ x. is_too_large (factor hs h) x ≡ false)) (sym have.1) small)
    ∙ ap (λ (l : List BodyItem). record { header = h; items = l; fault = fault_met r.ending }) have.1
    ∙ ap (λ (f : Option Fault). record { header = h; items = items; fault = f }) (none_met r.ending have.0)

-- inputs of which all is known
whole_dumps : (hs : List Header) (os : List Opened) → map (dump_seen hs) (map known_whole os) ≡ map (dump_under hs) os
unfolding dump_under body_of
whole_dumps hs [] = refl
whole_dumps hs (o ∷ os) = ap (λ (l : List Dump). dump_seen hs (known_whole o) ∷ l) (whole_dumps hs os)

whole_headers : (os : List Opened) → map (λ (s : SeenBody). s.header) (map known_whole os) ≡ map (λ (o : Opened). o.header) os
whole_headers [] = refl
whole_headers (o ∷ os) = ap (λ (l : List Header). o.header ∷ l) (whole_headers os)

seen_headers : (hs : List Header) (ss : List SeenBody) → headers_of (map (dump_seen hs) ss) ≡ map (λ (s : SeenBody). s.header) ss
unfolding dump_of
seen_headers hs [] = refl
seen_headers hs (s ∷ ss) = ap (λ (l : List Header). s.header ∷ l) (seen_headers hs ss)

-- ---- the merge is not settled

module _ (hs : List Header) (os : List Opened) (ds : List Dump) (k : ℕ) (o : Opened) (items : List BodyItem)
    (headers : map (λ (o : Opened). o.header) os ≡ hs) (dumps : map (dump_under hs) os ≡ ds) (at : slice_get os k ≡ Some o)
    (small : AllByRecursion (λ x. is_too_large (factor hs o.header) x ≡ false) items)
    (later : (i : ℕ) (d : Dump) (f : Fault) → i ≢ k → slice_get ds i ≡ Some d → d.fault ≡ Some f
    → key_lt (key_after (factor hs o.header) k items) (key_after (factor hs d.header) i d.items) ≡ true) where
  abbrev here : Key
  here = key_after (factor hs o.header) k items

  abbrev own : Dump
  own = record { header = o.header; items = items; fault = None }

  -- no fault of the others comes before its position
  late : AreLate here hs 0 (slice_set ds k own)
  late = late_each here hs 0 (slice_set ds k own) (λ i d f at_d e. let z : i ≡ 0 + i = omega arith in
      subst (λ (m : ℕ). key_lt (key_after (factor hs d.header) m d.items) here ≡ false) z (elim (same_or_not i k) [
        | inr other ↦ key_never here (key_after (factor hs d.header) i d.items) (later i d f other (sym (get_other ds k i own other) ∙ at_d) e)
        | inl same ↦
            let within = slice_get_within ds k (dump_under hs o) (ap (λ (l : List Dump). slice_get l k) (sym dumps) ∙ get_mapped (dump_under hs) os k o at) in
            let both : Some own ≡ Some d = sym (get_set ds k own within) ∙ ap (slice_get (slice_set ds k own)) (sym same) ∙ at_d in
            let is : own ≡ d = cc in
            let none : None ≡ Some f = ap (λ (c : Dump). c.fault) is ∙ e in
            cc
      ]))

  module _ (ts : List Token) (have : HaveJust o.header.codes items ts) where
    abbrev first : SeenBody
    first = known_first o.header ts

    abbrev ss : List SeenBody
    ss = slice_set (map known_whole os) k (known_first o.header ts)

    same_headers : map (λ (s : SeenBody). s.header) ss ≡ hs
    same_headers =
        map_set (λ (s : SeenBody). s.header) (map known_whole os) k first
        ∙ ap (λ (l : List Header). slice_set l k o.header) (whole_headers os)
        ∙ set_same (map (λ (o : Opened). o.header) os) k o.header (get_mapped (λ (o : Opened). o.header) os k o at)
        ∙ headers

    own_is : dump_seen hs first ≡ own
    own_is = first_dump hs o.header items ts have small

    seen_is : map (dump_seen hs) ss ≡ slice_set ds k own
    seen_is =
        map_set (dump_seen hs) (map known_whole os) k first
        ∙ ap (λ (l : List Dump). slice_set l k (dump_seen hs first)) (whole_dumps hs os ∙ dumps)
        ∙ ap (slice_set ds k) own_is

    there : slice_get ss k ≡ Some first
    there = get_set (map known_whole os) k first (slice_get_within (map known_whole os) k (known_whole o) (get_mapped known_whole os k o at))

    by_first : (f : Option KeyedFault) → first_fault (map (dump_seen hs) ss) ≡ f → are_past f hs 0 ss ≡ false
    by_first None e = not_past None hs 0 k ss first there (ap (λ (d : Dump). is_at_its_end first d || is_past None hs (0 + k) d) own_is)
    by_first (Some f) e =
        let z : 0 + k ≡ k = omega arith in
        let last = first_late here hs (map (dump_seen hs) ss) f (seen_headers hs ss ∙ same_headers) e (subst (AreLate here hs 0) (sym seen_is) late) in
        not_past (Some f) hs 0 k ss first there
        (ap (λ (m : ℕ). is_at_its_end first (dump_seen hs first) || is_past (Some f) hs m (dump_seen hs first)) z
        ∙ ap (λ (d : Dump). is_at_its_end first d || is_past (Some f) hs k d) own_is ∙ last)

    pub unsettled : settles_among os k o.header ts ≡ false
    unsettled = ap (λ (l : List Header). are_past (first_fault (map (dump_seen l) ss)) l 0 ss) same_headers ∙ by_first (first_fault (map (dump_seen hs) ss)) refl
