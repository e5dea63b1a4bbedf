-- What a step of one input counts: failed reads, and how much is left.
use Rattle.vcd_merge.proofs.Cited.{◌≡◌, ℕ, zero, suc, ◌+◌, ◌-◌, ◌^◌, ◌<◌, Bool, true, false, cond, List, [], ◌∷◌, length, map, slice_get, slice_set, Some, Err, refl, sym, ap, ◌∙◌, arith, All, get_or, sum_by, slice_get-get_or, IsSeated, sum_by-append, parked_seen, NamesInput, writes_failed, Stop, Read, Write, Unmatched, failures_with, left_of, Seat, get_mapped, get_or-map, get_set}
use Rattle.vcd_merge.proofs.MergeSteps.{by_flag}
use Rattle.vcd_body.specs.declared.answer.Stop.TheVariants.{Dump}

pub map_set : {X Y : Type 0} (f : X → Y) (xs : List X) (k : ℕ) (x : X) → map f (slice_set xs k x) ≡ slice_set (map f xs) k (f x)
map_set f [] k x = refl
map_set f (y ∷ xs) zero x = refl
map_set f (y ∷ xs) (suc k) x = ap (λ l. f y ∷ l) (map_set f xs k x)

pub get_map_or : {X : Type 0} (f : X → ℕ) (xs : List X) (k : ℕ) (x : X) → x ≡ get_or xs k x → k < length xs → get_or (map f xs) k 0 ≡ f x
get_map_or f xs k x e h = get_or-map f xs k x 0 h ∙ ap f (sym e)

-- of the elements of which one was set, what this says of that one
pub set_last : {X : Type 0} (f : X → Bool) (xs : List X) (k : ℕ) (x : X) → k < length xs → f x ≡ true → slice_get (map f (slice_set xs k x)) k ≡ Some true
set_last f xs k x h e = get_mapped f (slice_set xs k x) k x (get_set xs k x h) ∙ ap (λ (b : Bool). Some b) e

-- what is left of an input
abbrev pub left_in : Seat → ℕ
left_in s = cond s.finished 0 (2 ^ 63 - parked_seen s.parked)

one_and : (x : Seat) (xs : List Seat) → sum_by left_in (x ∷ xs) ≡ left_in x + sum_by left_in xs
one_and x xs = sum_by-append left_in (x ∷ []) xs ∙ omega arith

pub left_falls : (seats : List Seat) (k : ℕ) (s s' : Seat) → slice_get seats k ≡ Some s → left_in s' < left_in s → left_of (slice_set seats k s') < left_of seats
left_falls [] k s s' at less = cc
left_falls (x ∷ seats) zero s s' at less =
    let same : x ≡ s = cc in
    let e = ap left_in same in
    let a = one_and x seats in
    let b = one_and s' seats in
    omega (arith, e, a, b, less)
left_falls (x ∷ seats) (suc k) s s' at less =
    let a = one_and x seats in
    let b = one_and x (slice_set seats k s') in
    let more = left_falls seats k s s' at less in
    omega (arith, a, b, more)

-- an input that has moved on has less left
pub less_left : (s s' : Seat) → s.finished ≡ false → parked_seen s.parked < 2 ^ 63 → parked_seen s'.parked < 2 ^ 63
    → (s'.finished ≡ false → parked_seen s.parked < parked_seen s'.parked) → left_in s' < left_in s
less_left s s' on below below' moved = by_flag s'.finished (λ e. rw (e, on) (omega arith)) (λ e. let m = moved e in rw (e, on) (omega (arith, m)))

-- a step of one input leaves less
pub left_moved : (seats : List Seat) (k : ℕ) (d s' : Seat) (c t : ℕ) → k < length seats → All (IsSeated c t) seats
    → ((s : Seat) → slice_get seats k ≡ Some s → s.finished ≡ false) → parked_seen s'.parked < 2 ^ 63
    → (s'.finished ≡ false → parked_seen (get_or seats k d).parked < parked_seen s'.parked) → left_of (slice_set seats k s') < left_of seats
left_moved seats k d s' c t within seated on below moved =
    let at = slice_get-get_or seats k d within in
    let fits = (seated k d within).fits in
    let a = fits.at in let b = fits.counted in
    left_falls seats k (get_or seats k d) s' at (less_left (get_or seats k d) s' (on (get_or seats k d) at) (omega (arith, a, b)) below moved)

-- a stop counts the same, and names the same input, whatever else would have been returned
pub still_named : (A B : Type 0) (k : ℕ) (stop : Stop) → NamesInput {A = A} k (Err stop) → NamesInput {A = B} k (Err stop)
still_named A B k (Dump input line fault) named = tt
still_named A B k (Read input) named = named
still_named A B k Write named = tt
still_named A B k (Unmatched name) named = tt

pub still_counted : (A B : Type 0) (stop : Stop) (ns ms : List ℕ) (k : ℕ) → ms ≡ failures_with {A = A} ns k (Err stop) → ms ≡ failures_with {A = B} ns k (Err stop)
still_counted A B (Dump input line fault) ns ms k e = e
still_counted A B (Read input) ns ms k e = e
still_counted A B Write ns ms k e = e
still_counted A B (Unmatched name) ns ms k e = e

pub still_written : (A B : Type 0) (stop : Stop) → writes_failed {A = A} (Err stop) ≡ writes_failed {A = B} (Err stop)
still_written A B (Dump input line fault) = refl
still_written A B (Read input) = refl
still_written A B Write = refl
still_written A B (Unmatched name) = refl
