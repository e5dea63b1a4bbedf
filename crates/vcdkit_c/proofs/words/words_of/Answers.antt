use Rattle.std.proofs.Common.{◌≡◌, ◌<◌, ◌+◌, ◌∙◌, ◌∷◌, ◌++◌, ℕ, List, ap, sym, length, map, take, drop, get_or}
use Rattle.std.proofs.lemmas.List.{drop_more, map-append, take-append-drop}
use Rattle.vcdkit_c.specs.Calls.{bytes_of}
use Rattle.vcdkit_c.proofs.words.words_of.Goals as goal

-- the words are those before the index, the one there, and those after it
split-at : {A B : Type 0} (f : A → B) (xs : List A) (i : ℕ) (d : A) → i < length xs → map f xs ≡ map f (take i xs) ++ f (get_or xs i d) ∷ map f (drop (i + 1) xs)
split-at f xs i d lt = ap (map f) (sym (take-append-drop i xs) ∙ ap (λ l. take i xs ++ l) (drop_more xs i d lt)) ∙ map-append f (take i xs) (get_or xs i d ∷ drop (i + 1) xs)

pub returns-in_default-clause-refused : goal.returns-in_default-clause-refused
returns-in_default-clause-refused c =
    let xs = c.args.words.now in
    let i = c.loop-word.word-index in
    (map bytes_of (take i xs), map bytes_of (drop (i + 1) xs), _, split-at bytes_of xs i _ c.loop-word-test.true, c.in_default.ensures.cases.0)
