-- The inputs of a merge as wholes: from what is known of each to a list.
use Rattle.vcd_merge.proofs.Cited.{◌≡◌, ℕ, zero, suc, ◌+◌, List, [], ◌∷◌, length, map, slice_get, Option, Some, refl, sym, ap, subst, ◌∙◌, arith, ⊤, Header, Input, BodyItem, stream_of, Fault, Dump, factor, Opened, HasDump, Lane, same_Some}
use Rattle.vcd_merge.proofs.PartLemmas.{none_is}

-- the index of the first of a list that begins at n, and of the others
pub at_first : (n : ℕ) → n ≡ n + 0
at_first n = omega arith

pub at_next : (n k : ℕ) → n + 1 + k ≡ n + suc k
at_next n k = omega arith

pub from_first : (k : ℕ) → k ≡ 0 + k
from_first k = omega arith

-- lists of the same length
pub no_more : {A : Type 0} (x : A) (xs : List A) → length (x ∷ xs) ≡ 0 → ⊥
no_more x xs e = omega arith

pub same_rest : {A B : Type 0} (x : A) (xs : List A) (y : B) (ys : List B) → length (y ∷ ys) ≡ length (x ∷ xs) → length ys ≡ length xs
same_rest x xs y ys e = omega arith

-- an input: its lane, what was merged of it so far, what is left of it, and its dump
pub record Whole (hs : List Header) (limit : ℕ) : Type 0 where
  pub lane : Lane
  pub dump : Dump
  pub same : lane.header ≡ dump.header
  pub left : Input
  pub items : List BodyItem
  pub fault : Option Fault
  pub has : HasDump (factor hs lane.header) limit lane.header lane.front left items fault

module _ (hs : List Header) (limit : ℕ) where
  abbrev pub entire : Whole hs limit → Dump
  entire w = record { header = w.dump.header; items = w.items; fault = w.fault }

  abbrev pub opened_of : Whole hs limit → Opened
  opened_of w = record { header = w.lane.header; stream = stream_of limit w.left; rest = w.has.rest }

  abbrev pub lanes_of : List (Whole hs limit) → List Lane
  lanes_of ws = map (λ (w : Whole hs limit). w.lane) ws

  abbrev pub so_far : List (Whole hs limit) → List Dump
  so_far ws = map (λ (w : Whole hs limit). w.dump) ws

  abbrev pub lefts_of : List (Whole hs limit) → List Input
  lefts_of ws = map (λ (w : Whole hs limit). w.left) ws

  abbrev pub entire_of : List (Whole hs limit) → List Dump
  entire_of ws = map entire ws

  -- what holds of each, with its index
  abbrev pub AllFit : (ℕ → Whole hs limit → Type 0) → ℕ → List (Whole hs limit) → Type 0
  AllFit P n [] = ⊤
  AllFit P n (w ∷ ws) = P n w × AllFit P (n + 1) ws

  pub record Wholes (P : ℕ → Whole hs limit → Type 0) (n : ℕ) (ls : List Lane) (ds : List Dump) : Type 0 where
    pub list : List (Whole hs limit)
    pub lanes_are : lanes_of list ≡ ls
    pub dumps_are : so_far list ≡ ds
    pub fit : AllFit P n list

  -- from one at each index to a list of them
  pub choose : (P : ℕ → Whole hs limit → Type 0) (n : ℕ) (ls : List Lane) (ds : List Dump) → length ds ≡ length ls
      → ((k : ℕ) (l : Lane) (d : Dump) → slice_get ls k ≡ Some l → slice_get ds k ≡ Some d → (w : Whole hs limit) × (w.lane ≡ l) × (w.dump ≡ d) × P (n + k) w) → Wholes P n ls ds
  choose P n [] [] e each = record { list = []; lanes_are = refl; dumps_are = refl; fit = tt }
  choose P n [] (d ∷ ds) e each = absurd (no_more d ds e)
  choose P n (l ∷ ls) [] e each = absurd (no_more l ls (sym e))
  choose P n (l ∷ ls) (d ∷ ds) e each =
      let one = each 0 l d refl refl in
      let more = choose P (n + 1) ls ds (same_rest l ls d ds e) (λ k m c a b. let w = each (suc k) m c a b in (w.0, w.1, w.2, subst (λ (j : ℕ). P j w.0) (sym (at_next n k)) w.3)) in
      record {
        list = one.0 ∷ more.list;
        lanes_are = ap (λ (x : Lane). x ∷ lanes_of more.list) one.1 ∙ ap (λ (x : List Lane). l ∷ x) more.lanes_are;
        dumps_are = ap (λ (x : Dump). x ∷ so_far more.list) one.2 ∙ ap (λ (x : List Dump). d ∷ x) more.dumps_are;
        fit = (subst (λ (j : ℕ). P j one.0) (sym (at_first n)) one.3, more.fit);
      }

  pub choose_all : (P : ℕ → Whole hs limit → Type 0) (ls : List Lane) (ds : List Dump) → length ds ≡ length ls
      → ((k : ℕ) (l : Lane) (d : Dump) → slice_get ls k ≡ Some l → slice_get ds k ≡ Some d → (w : Whole hs limit) × (w.lane ≡ l) × (w.dump ≡ d) × P k w) → Wholes P 0 ls ds
  choose_all P ls ds e each = choose P 0 ls ds e (λ k l d a b. let w = each k l d a b in (w.0, w.1, w.2, subst (λ (j : ℕ). P j w.0) (from_first k) w.3))

  pub fit_at : (P : ℕ → Whole hs limit → Type 0) (n k : ℕ) (ws : List (Whole hs limit)) (w : Whole hs limit) → slice_get ws k ≡ Some w → AllFit P n ws → P (n + k) w
  fit_at P n k [] w at fit = absurd (none_is w at)
  fit_at P n zero (x ∷ ws) w at fit = subst (λ (j : ℕ). P j w) (at_first n) (subst (P n) (same_Some x w at) fit.0)
  fit_at P n (suc k) (x ∷ ws) w at fit = subst (λ (j : ℕ). P j w) (at_next n k) (fit_at P (n + 1) k ws w at fit.1)
