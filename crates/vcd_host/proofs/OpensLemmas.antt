-- Inputs that are opened one by one.
use Rattle.vcd_host.proofs.Cited.{◌≡◌, ◌<◌, ◌+◌, ℕ, List, [], ◌∷◌, ◌++◌, length, map, take, drop, get_or, refl, sym, subst, ap, ◌∙◌, inl, inr, suc, All, Option, Result, Ok, Err, Bor, append_assoc, drop_more, map-append, take-append-drop, take_more, All-push, Text, called, text_of, Opens, OpensOne, StopsAmong, StopsAt, OpenFault, OpenStop}
use Rattle.vcd_host.specs.declared.host.OpenFault.TheVariants as fault
use Rattle.vcd_host.specs.declared.opened.OpenStop.TheVariants as stop

-- one input more
pub opens-push : {H I : Type 0} (opens : H → Option Text → Result I OpenFault → H → Type 0) (host : H) (names : List (Option Text)) (inputs : List I)
    (next : H) (name : Option Text) (input : I) (after : H)
    → Opens opens host names inputs next → opens next name (Ok input) after → Opens opens host (names ++ name ∷ []) (inputs ++ input ∷ []) after
opens-push opens host [] [] next name input after o p = (after, subst (λ h. opens h name (Ok input) after) o p, refl)
opens-push opens host [] (i ∷ inputs) next name input after o p = absurd o
opens-push opens host (n ∷ names) [] next name input after o p = absurd o
opens-push opens host (n ∷ names) (i ∷ inputs) next name input after o p = (o.0, o.1, opens-push opens o.0 names inputs next name input after (o.2) p)

-- as many as there are names
pub opens-many : {H I : Type 0} (opens : H → Option Text → Result I OpenFault → H → Type 0) (host : H) (names : List (Option Text)) (inputs : List I)
    (after : H) → Opens opens host names inputs after → length inputs ≡ length names
opens-many opens host [] [] after o = refl
opens-many opens host [] (i ∷ inputs) after o = absurd o
opens-many opens host (n ∷ names) [] after o = absurd o
opens-many opens host (n ∷ names) (i ∷ inputs) after o = ap suc (opens-many opens o.0 names inputs after (o.2))

-- ---- a step of the loop, at the index i

-- what a function makes of the first elements, with one element more
pub mapped-more : {A B : Type 0} (f : A → B) (xs : List A) (i : ℕ) (d : A) → i < length xs → map f (take (i + 1) xs) ≡ map f (take i xs) ++ f (get_or xs i d) ∷ []
mapped-more f xs i d lt = ap (map f) (take_more xs i d lt) ∙ map-append f (take i xs) (get_or xs i d ∷ [])

pub opened-more : {H I : Type 0} (opens : H → Option Text → Result I OpenFault → H → Type 0) (failures : I → ℕ) (host : H)
    (asked : List (Option (Bor Text))) (i : ℕ) (d : Option (Bor Text)) (inputs inputs' : List I) (next after : H)
    → i < length asked → Opens opens host (map text_of (take i asked)) inputs next → OpensOne opens failures (text_of (get_or asked i d)) next after inputs inputs'
    → Opens opens host (map text_of (take (i + 1) asked)) inputs' after
opened-more opens failures host asked i d inputs inputs' next after lt o one =
    let both = opens-push opens host (map text_of (take i asked)) inputs next (text_of (get_or asked i d)) one.0 after o one.1 in
    let named = subst (λ names. Opens opens host names (inputs ++ one.0 ∷ []) after) (sym (mapped-more text_of asked i d lt)) both in
    subst (λ all. Opens opens host (map text_of (take (i + 1) asked)) all after) (sym one.3) named

pub names-more : (asked : List (Option (Bor Text))) (i : ℕ) (d : Option (Bor Text)) (old new : List Text) → i < length asked
    → old ≡ map called (map text_of (take i asked)) → new ≡ old ++ called (text_of (get_or asked i d)) ∷ []
    → new ≡ map called (map text_of (take (i + 1) asked))
names-more asked i d old new lt before one =
    one ∙ ap (λ l. l ++ called (text_of (get_or asked i d)) ∷ []) before
    ∙ sym (ap (map called) (mapped-more text_of asked i d lt) ∙ map-append called (map text_of (take i asked)) (text_of (get_or asked i d) ∷ []))

pub fresh-more : {H I : Type 0} (opens : H → Option Text → Result I OpenFault → H → Type 0) (failures : I → ℕ) (name : Option Text) (next after : H) (inputs inputs' : List I)
    → All (λ r. failures r ≡ 0) inputs → OpensOne opens failures name next after inputs inputs' → All (λ r. failures r ≡ 0) inputs'
fresh-more opens failures name next after inputs inputs' all one =
    subst (λ l. All (λ r. failures r ≡ 0) l) (sym one.3) (All-push (λ r. failures r ≡ 0) inputs one.0 all one.2)

-- the names are those before the index, the one there, and those after it
pub split-at : {A B : Type 0} (f : A → B) (xs : List A) (i : ℕ) (d : A) → i < length xs → map f xs ≡ map f (take i xs) ++ f (get_or xs i d) ∷ map f (drop (i + 1) xs)
split-at f xs i d lt =
    ap (map f) (sym (take-append-drop i xs) ∙ ap (λ l. take i xs ++ l) (drop_more xs i d lt)) ∙ map-append f (take i xs) (get_or xs i d ∷ drop (i + 1) xs)

-- why the loop stops
pub stops-among : {H I : Type 0} (opens : H → Option Text → Result I OpenFault → H → Type 0) (host : H) (asked : List (Option (Bor Text))) (i : ℕ)
    (d : Option (Bor Text)) (inputs : List I) (next after : H) (why : OpenStop)
    → i < length asked → Opens opens host (map text_of (take i asked)) inputs next → StopsAt opens (text_of (get_or asked i d)) next after why
    → StopsAmong opens (map text_of asked) host after why
stops-among opens host asked i d inputs next after (stop.Unopened said) lt o at =
    let names = split-at text_of asked i d lt in (
      map text_of (take i asked),
      map text_of (drop (i + 1) asked),
      names
          ∙ ap (λ name. map text_of (take i asked) ++ name ∷ map text_of (drop (i + 1) asked)) (sym at.0),
      inputs,
      next,
      o,
      subst (λ name. opens next name (Err fault.Unopened) after) (sym at.0) at.1,
    )
stops-among opens host asked i d inputs next after stop.OutOfMemory lt o (inl one) =
    let names = split-at text_of asked i d lt in
    let before = map text_of (take i asked) in
    let name = text_of (get_or asked i d) in (
      before ++ name ∷ [],
      map text_of (drop (i + 1) asked),
      names ∙ sym (append_assoc before (name ∷ []) (map text_of (drop (i + 1) asked))),
      inputs ++ one.0 ∷ [],
      after,
      opens-push opens host before inputs next name one.0 after o one.1,
      inl refl,
    )
stops-among opens host asked i d inputs next after stop.OutOfMemory lt o (inr failed) = (
  map text_of (take i asked),
  text_of (get_or asked i d) ∷ map text_of (drop (i + 1) asked),
  split-at text_of asked i d lt,
  inputs,
  next,
  o,
  inr (text_of (get_or asked i d), map text_of (drop (i + 1) asked), refl, failed),
)
