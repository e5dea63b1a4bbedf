-- What bytes that were lent are filled with.
use Rattle.vcd_host.proofs.Cited.{◌≡◌, ◌+◌, ◌<◌, ◌≤◌, ◌^◌, ◌∙◌, ◌∷◌, ◌++◌, [], ℕ, List, ap, sym, refl, length, take, suc, zero, arith, append-nil, length-take-le, take-take, take-append-add}

-- where there is room, nothing was let go
pub none-gone : (gone : List ℕ) (used size dropped : ℕ) → (dropped < 2 ^ 63 → dropped ≡ length gone) → used < size → (0 < dropped → used ≡ size) → gone ≡ []
none-gone [] used size dropped number lt order = refl
none-gone (g ∷ gone) used size zero number lt order = let none : 0 ≡ suc (length gone) = number (omega arith) in absurd (omega (arith, none))
none-gone (g ∷ gone) used size (suc dropped) number lt order = let full : used ≡ size = order (omega arith) in absurd (omega (arith, full, lt))

-- a front of what was copied
pub front-copied : (xs new add : List ℕ) (used k n : ℕ) → used ≤ length xs → n ≤ k → take (used + k) new ≡ take used xs ++ add → take (used + n) new ≡ take used xs ++ take n add
front-copied xs new add used k n within few is =
    let long : length (take used xs) ≡ used = length-take-le used xs within in
    sym (take-take (used + n) (used + k) new (omega (arith, few))) ∙ ap (take (used + n)) is ∙ ap (λ u. take (u + n) (take used xs ++ add)) (sym long) ∙ take-append-add (take used xs) add n

-- what was written, and more that found room
pub gained : (name : ℕ) (xs new gone add : List ℕ) (used k : ℕ) → gone ≡ [] → take (used + k) new ≡ take used xs ++ add
    → name ∷ (take (used + k) new ++ gone) ≡ (name ∷ (take used xs ++ gone)) ++ add
gained name xs new gone add used k none is =
    ap (λ l. name ∷ l) (ap (λ g. take (used + k) new ++ g) none ∙ append-nil (take (used + k) new) ∙ is
    ∙ ap (λ l. l ++ add) (sym (append-nil (take used xs)) ∙ ap (λ g. take used xs ++ g) (sym none)))
