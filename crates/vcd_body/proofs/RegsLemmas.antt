-- A change whose code comes after its value.
use Rattle.vcd_body.proofs.Cited.{◌≡◌, ℕ, ◌<◌, ◌≤◌, Bool, true, false, ◌||◌, nat_le, List, [], ◌∷◌, length, drop, Some, sym, ap, subst, ◌∙◌, slice_get, list_all, same_Some, leb-true, Input, Token, IdCode, BodyItem, ChangeForm, BodyPhrase, declared_code, is_value_digit, Placed, phrases_of, token_of, value_of, Ghosts, Feed, Code, HeadShown, Views, Header, Begins, Looks, ReadsPhrase, IsGoodText}
use Rattle.vcd_body.specs.declared.item.Form.TheVariants as form
use Rattle.vcd_body.specs.declared.words.PhraseKind.TheVariants as kind
use Rattle.vcd_body.proofs.TokenLemmas.{taken_phrase}
use Rattle.vcd_body.proofs.FindLemmas.{code_at}
use Rattle.vcd_body.proofs.PhraseLemmas.{real_passes, vector_passes}

module _ {X : Type 0} {g : Ghosts X} (codes : List IdCode) (i : Input) (front : List Token) (placed : List (Placed BodyPhrase)) (f : Feed X g) (t : List ℕ) where
  -- the code's token was looked at, and is declared
  abbrev FoundBehind : ℕ → Type 0
  FoundBehind position = (c : IdCode) × (slice_get codes position ≡ Some c) × (declared_code codes (token_of f).bytes ≡ Some c) × Looks codes i front placed (t ∷ []) f

  -- so a change was read
  abbrev ReadBehind : ChangeForm → ℕ → Type 0
  ReadBehind k position = (c : IdCode) × (slice_get codes position ≡ Some c)
      × ReadsPhrase codes i front placed f (BodyPhrase.Gives (BodyItem.Changes (record { code = c; form = k; text = drop 1 (value_of f) })))

  pub real_read : Begins t kind.Real → (position : ℕ) → value_of f ≡ t → FoundBehind position → ReadBehind ChangeForm.RealText position
  real_read b position e h =
      let p = real_passes codes (phrases_of placed) t b (token_of f).bytes h.0 h.2 in (
        h.0,
        h.1,
        subst (λ (x : List ℕ). ReadsPhrase codes i front placed f (BodyPhrase.Gives (BodyItem.Changes (record { code = h.0; form = ChangeForm.RealText; text = drop 1 x })))) (sym e)
            (taken_phrase codes i front placed (t ∷ []) f (BodyPhrase.Gives (BodyItem.Changes (record { code = h.0; form = ChangeForm.RealText; text = drop 1 t }))) p.0 p.1 h.3),
      )

  pub vector_read : Begins t kind.Vector → (position : ℕ) → value_of f ≡ t → (h : FoundBehind position)
      → (h.0.event || nat_le (length (drop 1 t)) h.0.size) ≡ true → ReadBehind ChangeForm.Vector position
  vector_read b position e h fits =
      let p = vector_passes codes (phrases_of placed) t b (token_of f).bytes h.0 h.2 fits in (
        h.0,
        h.1,
        subst (λ (x : List ℕ). ReadsPhrase codes i front placed f (BodyPhrase.Gives (BodyItem.Changes (record { code = h.0; form = ChangeForm.Vector; text = drop 1 x })))) (sym e)
            (taken_phrase codes i front placed (t ∷ []) f (BodyPhrase.Gives (BodyItem.Changes (record { code = h.0; form = ChangeForm.Vector; text = drop 1 t }))) p.0 p.1 h.3),
      )

pub real_sound : (codes : List Code) (text : List ℕ) (position : ℕ) (x : Code) → slice_get codes position ≡ Some x → 0 < length text
    → length text ≤ 64 → IsGoodText codes position form.RealText text
real_sound codes text position x there some few = (x, there, (some, few))

-- a code of this size that is no event has room for the digits
fits_within : (event : Bool) (digits size : ℕ) → (event || nat_le digits size) ≡ true → event ≡ false → digits ≤ size
fits_within true digits size h e = cc
fits_within false digits size h e = leb-true digits size h

pub vector_sound : (codes : List Code) (text : List ℕ) (position : ℕ) (x : Code) → slice_get codes position ≡ Some x → 0 < length text
    → list_all is_value_digit text ≡ true → (x.event || nat_le (length text) x.size) ≡ true
    → IsGoodText codes position form.Vector text
vector_sound codes text position x there some digits fits = (x, there, (some, digits, fits_within x.event (length text) x.size fits))

room_of : (x : Code) (event : Bool) (size digits : ℕ) (b : Bool) → x.size ≡ size → x.event ≡ event → (x.event || nat_le digits x.size) ≡ b → (event || nat_le digits size) ≡ b
room_of x event size digits b e f r = ap (λ y. y || nat_le digits size) (sym f) ∙ ap (λ n. x.event || nat_le digits n) (sym e) ∙ r

-- the header's code has room where the view's has
pub same_room : (s : HeadShown) (h : Header) → Views s h → (position : ℕ) (c : IdCode) (x : Code) (digits : ℕ) (b : Bool)
    → slice_get h.codes position ≡ Some c → slice_get s.codes position ≡ Some x → (x.event || nat_le digits x.size) ≡ b
    → (c.event || nat_le digits c.size) ≡ b
same_room s h v position c x digits b e there r =
    let k = code_at s h v position c e in
    room_of k.0 c.event c.size digits b k.2.size_is k.2.event_is (ap (λ (y : Code). y.event || nat_le digits y.size) (same_Some k.0 x (sym k.1 ∙ there)) ∙ r)
