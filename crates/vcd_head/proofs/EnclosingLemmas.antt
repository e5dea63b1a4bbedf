-- The scopes around a declaration: what rows say of them, and a walk outwards that holds the last
-- ones.
use Rattle.vcd_head.proofs.Cited.{◌≡◌, ◌≢◌, ℕ, zero, suc, ◌+◌, ◌-◌, ◌%◌, ◌<◌, ◌≤◌, List, [], ◌∷◌, ◌++◌, length, take, reverse, set, get_or, slice_get, min, Some, None, inl, inr, refl, sym, ap, subst, ◌∙◌, arith, AllByRecursion, take-append_seam, cases_eq, append_assoc, append-nil, reverse-append, get_or-set_other, get_or-set_same, length-append, length-set, length-take, length-take-le, take_min, Declaration, enclosing, parent, Header, enclosing_below, innermost, slice_get-take, Enclosing, GivesNext, IsHeld, LeavesScopes, Walks, slice_get-front, slice_get-seam, around_some, around_none, parent_before}

-- fewer scopes than declarations
few_by : (n : ℕ) (ds : List Declaration) → length ds ≤ n → (ps : List ℕ) → enclosing ds ≡ ps → length ps ≤ length ds
few_by n ds l [] e = omega arith
few_by zero ds l (p ∷ ps) e = let inner = innermost ds p ps e in absurd (omega (arith, inner.before))
few_by (suc n) ds l (p ∷ ps) e =
    let inner = innermost ds p ps e in
    let cut = length-take-le p ds (omega (arith, inner.before)) in
    let outer = few_by n (take p ds) (omega (arith, inner.before)) ps inner.outer in
    omega (arith, inner.before)

pub few_around : (ds : List Declaration) (i : ℕ) → length (enclosing (take i ds)) ≤ i
few_around ds i = let few = few_by (length (take i ds)) (take i ds) (omega arith) (enclosing (take i ds)) refl in omega (arith, length-take i ds)

-- each is declared earlier
pub each_before : (ds : List Declaration) (i k p : ℕ) → slice_get (enclosing (take i ds)) k ≡ Some p → p < i
each_before ds i k p at = let before = among (enclosing (take i ds)) k at (enclosing_below (take i ds)) in omega (arith, length-take i ds)
  where
    among : (ps : List ℕ) (j : ℕ) → slice_get ps j ≡ Some p → AllByRecursion (λ x. x < length (take i ds)) ps → p < length (take i ds)
    among [] j q all = cc
    among (x ∷ ps) zero q all = let same : x ≡ p = cc in subst (λ y. y < length (take i ds)) same all.0
    among (x ∷ ps) (suc j) q all = among ps j q all.1

-- ---- the walk

other_place : (k n : ℕ) → k < n → n < k + 128 → k % 128 ≢ n % 128
other_place k n l m e = absurd (omega arith)

held_none : (rows : List ℕ) (held : ℕ) → length rows ≡ 128 → IsHeld [] rows held
held_none rows held l = record { room = l; at = λ k b. absurd (omega arith) }

-- one more index
held_more : (positions rows : List ℕ) (n q : ℕ) → n ≡ length positions → IsHeld positions rows 128 → IsHeld (positions ++ q ∷ []) (set rows (n % 128) q) 128
held_more positions rows n q e h = record {
  room = length-set rows (n % 128) q ∙ h.room;
  at = λ k b m.
      let len = length-append positions (q ∷ []) in
      elim (cases_eq k n) [
        | inl same ↦
            rw (same ∙ e) (slice_get-seam positions q [] ∙ ap Some (sym (ap (λ j. get_or (set rows (n % 128) q) (j % 128) 0) (sym e)
            ∙ get_or-set_same rows (n % 128) q 0 (let r = h.room in omega arith))))
        | inr other ↦
            let below : k < length positions = omega arith in
            slice_get-front positions (q ∷ []) k (get_or rows (k % 128) 0) (h.at k below (omega arith))
            ∙ ap Some (sym (get_or-set_other rows (n % 128) (k % 128) q 0 (other_place k n (omega arith) (omega arith))))
      ];
}

-- this many scopes were passed, and the walk is at this row
pub record HasWalked (h : Header) (row : ℕ) (rows : List ℕ) (passed scope : ℕ) : Type 0 where
  pub inner : List ℕ
  pub split : enclosing (take row h.declarations) ≡ inner ++ enclosing (take scope h.declarations)
  pub count : passed ≡ length inner
  pub holds : IsHeld inner rows 128
  pub within : scope < length h.declarations

pub walk_first : (h : Header) (row : ℕ) (rows : List ℕ) → row < length h.declarations → length rows ≡ 128 → HasWalked h row rows 0 row
walk_first h row rows l r = record { inner = []; split = refl; count = refl; holds = held_none rows 128 r; within = l }

pub walk_next : (h : Header) (row : ℕ) (rows : List ℕ) (passed scope outer : ℕ) → HasWalked h row rows passed scope
    → Some outer ≡ parent (take scope h.declarations) → HasWalked h row (set rows (passed % 128) outer) (passed + 1) outer
walk_next h row rows passed scope outer w e =
    let before = parent_before h.declarations scope outer (sym e) in
    record {
      inner = w.inner ++ outer ∷ [];
      split = w.split ∙ ap (λ l. w.inner ++ l) (around_some h.declarations scope outer (sym e)) ∙ sym (append_assoc w.inner (outer ∷ []) (enclosing (take outer h.declarations)));
      count = let c = w.count in omega (arith, length-append w.inner (outer ∷ []));
      holds = held_more w.inner rows passed outer w.count w.holds;
      within = omega (arith, w.within);
    }

walked : (h : Header) (row most : ℕ) (rows : List ℕ) (passed scope : ℕ) (w : HasWalked h row rows passed scope)
    → passed ≡ min most (length (enclosing (take row h.declarations))) → Walks h row most rows passed
walked h row most rows passed scope w e =
    let cut : take passed (enclosing (take row h.declarations)) ≡ w.inner = ap (take passed) w.split
    ∙ ap (λ n. take n (w.inner ++ enclosing (take scope h.declarations))) w.count
    ∙ take-append_seam w.inner (enclosing (take scope h.declarations)) in
    record { count = e; holds = subst (λ l. IsHeld l rows 128) (sym cut) w.holds }

-- no scope is around the last one
pub walk_ends : (h : Header) (row most : ℕ) (rows : List ℕ) (passed scope : ℕ) → HasWalked h row rows passed scope
    → None ≡ parent (take scope h.declarations) → passed < most → Walks h row most rows passed
walk_ends h row most rows passed scope w e l =
    let all : enclosing (take row h.declarations) ≡ w.inner = w.split ∙ ap (λ l. w.inner ++ l) (around_none h.declarations scope (sym e)) ∙ append-nil w.inner in
    walked h row most rows passed scope w (let c = w.count in omega (arith, ap length all))

-- enough were passed
pub walk_stops : (h : Header) (row most : ℕ) (rows : List ℕ) (passed scope : ℕ) → HasWalked h row rows passed scope → passed ≡ most → Walks h row most rows most
walk_stops h row most rows passed scope w e =
    subst (Walks h row most rows) e (walked h row most rows passed scope w (let c = w.count in omega (arith, ap length w.split, length-append w.inner (enclosing (take scope h.declarations)))))

-- ---- one scope after the other

pub all_around : (h : Header) (row : ℕ) → take row (enclosing (take row h.declarations)) ≡ enclosing (take row h.declarations)
all_around h row =
    let ps = enclosing (take row h.declarations) in
    sym (take_min row ps) ∙ ap (λ n. take n ps) (let few = few_around h.declarations row in let m : min row (length ps) ≡ length ps = omega arith in m) ∙ take-all ps
  where
    take-all : (xs : List ℕ) → take (length xs) xs ≡ xs
    take-all [] = refl
    take-all (x ∷ xs) = ap (λ l. x ∷ l) (take-all xs)

-- the innermost ones alone
pub leaves_most : (h : Header) (row most : ℕ) (e : Enclosing) → row < length h.declarations → e.row ≡ row → e.left ≡ most → e.held ≡ 0
    → length e.rows ≡ 128 → LeavesScopes h row (reverse (take most (enclosing (take row h.declarations)))) e
leaves_most h row most e l from left held room = record {
  from = from;
  within = l;
  rest_are = ap (λ n. reverse (take n (enclosing (take row h.declarations)))) (sym left);
  holds = record { room = room; at = λ k b m. absurd (omega arith) };
  known = λ some. absurd (omega arith);
  few = omega arith;
}

-- the scopes that are left, of which some are held unless none is left
pub record IsReady (h : Header) (row : ℕ) (rest rows : List ℕ) (left held : ℕ) : Type 0 where
  pub rest_are : rest ≡ reverse (take left (enclosing (take row h.declarations)))
  pub holds : IsHeld (take left (enclosing (take row h.declarations))) rows held
  pub known : left ≤ length (enclosing (take row h.declarations))
  pub few : held ≤ left
  pub some : 0 < left → 0 < held

-- after a walk
pub ready_by_walk : (h : Header) (row : ℕ) (rest : List ℕ) (e : Enclosing) (rows : List ℕ) (left held : ℕ) → LeavesScopes h row rest e
    → Walks h e.row e.left rows left → held ≡ min left 128 → IsReady h row rest rows left held
ready_by_walk h row rest e rows left held l walks m =
    let ps = enclosing (take row h.declarations) in
    let w = subst (λ r. Walks h r e.left rows left) l.from walks in
    let count = w.count in
    let same : take e.left ps ≡ take left ps = sym (take_min e.left ps) ∙ ap (λ n. take n ps) (sym count) in
    record {
      rest_are = l.rest_are ∙ ap reverse same;
      holds = record { room = w.holds.room; at = λ k b c. w.holds.at k b (omega arith) };
      known = omega arith;
      few = omega arith;
      some = λ s. omega arith;
    }

-- where some are held
pub ready_as_held : (h : Header) (row : ℕ) (rest : List ℕ) (e : Enclosing) → LeavesScopes h row rest e → 0 < e.held → IsReady h row rest e.rows e.left e.held
ready_as_held h row rest e l s = record { rest_are = l.rest_are; holds = l.holds; known = l.known s; few = l.few; some = λ k. s }

take-more : (xs : List ℕ) (n x : ℕ) → slice_get xs n ≡ Some x → take (suc n) xs ≡ take n xs ++ x ∷ []
take-more [] n x at = cc
take-more (y ∷ xs) zero x at = let same : y ≡ x = cc in ap (λ z. z ∷ []) same
take-more (y ∷ xs) (suc n) x at = ap (λ l. y ∷ l) (take-more xs n x at)

pub gives_some : (h : Header) (row : ℕ) (rest rows : List ℕ) (left held : ℕ) (e : Enclosing) → row < length h.declarations
    → IsReady h row rest rows left held → left ≡ suc e.left → e.held ≡ held - 1 → e.rows ≡ rows → e.row ≡ row
    → GivesNext h row rest e (Some (get_or rows (e.left % 128) 0))
gives_some h row rest rows left held e l r n m same from =
    let ps = enclosing (take row h.declarations) in
    let some = r.some (omega arith) in
    let known = r.known in
    let few = r.few in
    let x = get_or rows (e.left % 128) 0 in
    let len : length (take left ps) ≡ left = length-take-le left ps known in
    let at : slice_get ps e.left ≡ Some x = sym (slice_get-take ps left e.left (omega arith)) ∙ r.holds.at e.left (omega arith) (omega arith) in
    let more : take left ps ≡ take e.left ps ++ x ∷ [] = ap (λ k. take k ps) n ∙ take-more ps e.left x at in
    let short : length (take e.left ps) ≡ e.left = length-take-le e.left ps (omega arith) in (
      reverse (take e.left ps),
      r.rest_are ∙ ap reverse more ∙ reverse-append (take e.left ps) (x ∷ []),
      each_before h.declarations row e.left x at,
      record {
        from = from;
        within = l;
        rest_are = refl;
        holds = record {
          room = ap length same ∙ r.holds.room;
          at = λ k b c.
              slice_get-take ps e.left k (omega arith) ∙ sym (slice_get-take ps left k (omega arith)) ∙ r.holds.at k (omega arith) (omega arith)
              ∙ ap (λ l. Some (get_or l (k % 128) 0)) (sym same);
        };
        known = λ s. omega arith;
        few = omega arith;
      },
    )
