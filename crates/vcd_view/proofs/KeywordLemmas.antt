-- Tokens that are keywords, and those up to `$end`.
use Rattle.vcd_view.proofs.Cited.{◌≡◌, ℕ, true, false, List, [], ◌∷◌, ◌++◌, bytes_eq, Some, None, refl, sym, ap, ◌∙◌, bytes_eq-Decides, Keyword, keyword_of, keyword_text, is_end, until_end, NoEnds, keyword_of-text}

pub keyword_found : (k : Keyword) (token : List ℕ) → bytes_eq (keyword_text k) token ≡ true → Some k ≡ keyword_of token
keyword_found k token e = sym (ap keyword_of (sym ((bytes_eq-Decides (keyword_text k) token).0 e)) ∙ keyword_of-text k)

-- ---- up to `$end`

pub not_until : (ts : List (List ℕ)) (t : List ℕ) → NoEnds ts → is_end t ≡ false → until_end (ts ++ t ∷ []) ≡ None
not_until [] t h e = rw e refl
not_until (u ∷ ts) t h e = rw (h.0, not_until ts t h.1 e) refl

pub until : (ts : List (List ℕ)) (t : List ℕ) → NoEnds ts → is_end t ≡ true → until_end (ts ++ t ∷ []) ≡ Some ts
until [] t h e = rw e refl
until (u ∷ ts) t h e = rw (h.0, until ts t h.1 e) refl

pub no_ends_more : (ts : List (List ℕ)) (t : List ℕ) → NoEnds ts → is_end t ≡ false → NoEnds (ts ++ t ∷ [])
no_ends_more [] t h e = (e, tt)
no_ends_more (u ∷ ts) t h e = (h.0, no_ends_more ts t h.1 e)
