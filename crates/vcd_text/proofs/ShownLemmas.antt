-- What a token that is shown says of how much was read.
use Rattle.vcd_text.proofs.Cited.{◌≢◌, ℕ, List, [], ◌∷◌, ◌++◌, arith, subst, AllByRecursion, Input, Token, texts_of, IsWord, stream_words, HasGiven, HasReadTo, token_of, limit_of, Ghosts, Feed}

word_in : (given : List Token) (t : Token) (rest : List Token) → AllByRecursion IsWord (texts_of ((given ++ t ∷ []) ++ rest)) → IsWord t.bytes
word_in [] t rest h = h.0
word_in (x ∷ given) t rest h = word_in given t rest h.1

word_filled : (bytes : List ℕ) → IsWord bytes → bytes ≢ []
word_filled [] w e = absurd (let h = w.filled in omega arith)
word_filled (b ∷ bytes) w e = cc

-- at most a chunk was read past the last token given, which is shown
pub read_to_shown : {X : Type 0} {g : Ghosts X} (i : Input) (given : List Token) (f : Feed X g) → HasGiven i (given ++ token_of f ∷ []) f → HasReadTo i (given ++ token_of f ∷ []) f
read_to_shown i given f h =
    let first = h.given_first in
    h.near_token (word_filled (token_of f).bytes (word_in given (token_of f) first.0 (subst (λ ts. AllByRecursion IsWord (texts_of ts)) first.1 (stream_words (limit_of f) i))))
