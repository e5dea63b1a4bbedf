-- A reading that resumes finds the header that it began with.
use Rattle.vcd_changes.proofs.Cited.{◌≡◌, ◌∙◌, ℕ, List, [], ap, refl, subst, sym, IdCode, header_of, HeaderPhrase, header_grammar, Input, BodyItem, IsPrefixOf, Placed, phrases_of, Token, stream_of, whole, limit_of, Ghosts, Feed, HeadShown, GivesHead, Reading, ChangeRow, Finds, GoesOnUnder, HasCodes, IsAfter, Place}
use Rattle.vcd_changes.proofs.HeaderLemmas.{one_whole}

abbrev pub codes_in : List (Placed HeaderPhrase) → List IdCode
codes_in placed = (header_of (phrases_of placed)).codes

pub has_codes : {X : Type 0} {g : Ghosts X} (f : Feed X g) (limit : ℕ) (dump : List ℕ) (s : HeadShown) (head : GivesHead 16777216 (whole dump) f s)
    → limit_of f ≡ limit → HasCodes limit dump head.given (codes_in head.placed)
has_codes f limit dump s head is = record {
  placed = head.placed;
  first = subst
      (λ (n : ℕ). IsPrefixOf head.given (stream_of n (whole dump)).tokens) is head.stands.given_first;
  header = head.whole;
  codes_are = refl;
}

same_header : (limit : ℕ) (dump : List ℕ) (front front' : List Token) (codes codes' : List IdCode) → HasCodes limit dump front codes
    → HasCodes limit dump front' codes' → (front ≡ front') × (codes ≡ codes')
same_header limit dump front front' codes codes' a b =
    let same = one_whole (header_grammar 16777216) front front' a.first.0 b.first.0 a.placed b.placed a.header b.header (sym a.first.1 ∙ b.first.1) in
    (same.0, a.codes_are ∙ ap codes_in same.1 ∙ sym b.codes_are)

-- at the begin there are no items
pub none_before : (limit : ℕ) (dump : List ℕ) (items : List BodyItem) (p : Place) → GoesOnUnder limit dump items p → p.limit ≡ 0 → items ≡ []
none_before limit dump items p (GoesOnUnder.AtBegin new none) zero = none
none_before limit dump items p (GoesOnUnder.Behind front codes has after) zero = absurd (after.begun zero)

-- elsewhere those of the header that is read again
pub goes_behind : (limit : ℕ) (dump : List ℕ) (items : List BodyItem) (p : Place) → GoesOnUnder limit dump items p → (p.limit ≡ 0 → ⊥)
    → (front : List Token) (codes : List IdCode) → HasCodes limit dump front codes → IsAfter limit codes (whole dump) front items p
goes_behind limit dump items p (GoesOnUnder.AtBegin new none) some front codes has = absurd (some new)
goes_behind limit dump items p (GoesOnUnder.Behind front' codes' has' after) some front codes has =
    let same = same_header limit dump front' front codes' codes has' has in
    subst (λ (l : List Token). IsAfter limit codes (whole dump) l items p) same.0 (subst (λ (l : List IdCode). IsAfter limit l (whole dump) front' items p) same.1 after)

-- the same after the same items, and for the same code
pub finds_for : (limit : ℕ) (codes : List IdCode) (i : Input) (front : List Token) (items items' : List BodyItem) (text text' : List ℕ) (r : Reading)
    (rows : List ChangeRow) (status : ℕ) → items' ≡ items → text' ≡ text → Finds limit codes i front items text r rows status
    → Finds limit codes i front items' text' r rows status
finds_for limit codes i front items items' text text' r rows status e f finds =
    subst (λ (t : List ℕ). Finds limit codes i front items' t r rows status) (sym f) (subst (λ (l : List BodyItem). Finds limit codes i front l text r rows status) (sym e) finds)
