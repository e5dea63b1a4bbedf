-- The lines of an edge, one after the other.
use Rattle.std.proofs.Common.{◌≡◌, ℕ, zero, suc, ◌+◌, ◌<◌, ◌^◌, Bool, true, false, cond, List, [], ◌∷◌, ◌++◌, length, take, drop, slice_get, flat_map, option_map, Option, Some, None, refl, sym, ap, ap₂, subst, unwrap_or, ◌∙◌, arith, bytes_eq}
use Rattle.std.specs.Bool.{Decides}
use Rattle.std.proofs.lemmas.List.{take-append-drop}
use Rattle.std.proofs.lemmas.List.Concat.{flat_map-append}
use Rattle.std.proofs.lemmas.Option.{same_Some, slice_get-map, slice_get_within}
use Rattle.std.proofs.lemmas.Slice.Eq.{bytes_eq-Decides}
use Rattle.vcd_model.specs.Declarations.{IdCode}
use Rattle.vcd_model.specs.Strobe.{same_state}
use Rattle.vcd_model.specs.Values.{Value}
use Rattle.vcd_text.proofs.Writes.{AppendsSome, appends-first, appends-some, appends-twice}
use Rattle.vcd_text.specs.Device.{Appends}
use Rattle.vcd_view.specs.declared.view.Code.{Code}
use Rattle.vcd_view.specs.declared.view.HeadView.{HeadView}
use Rattle.std.specs.Prelude.{option_and_then}
use Rattle.std.specs.Str.{byte}
use Rattle.vcd_model.specs.Bytes.{as_line}
use Rattle.vcd_model.specs.Cut.{line_if_set}
use Rattle.vcd_body.specs.Contents.{codes_shown, held_at, line_of, shown_code, value_in}
use Rattle.vcd_body.specs.Kept.{value_at_size}
use Rattle.vcd_body.specs.declared.values.table.Table.{Table}
use Rattle.vcd_strobe.specs.Kept.{IsWithin, role_line}
use Rattle.vcd_strobe.specs.Lines.{ArePlaces, in_places, line_with, place_of}
use Rattle.vcd_strobe.specs.Roles.{is_at, is_due, settled}
use Rattle.vcd_strobe.specs.declared.role.Role.{Role}

pub take_next : {X : Type 0} (xs : List X) (i : ℕ) (x : X) → slice_get xs i ≡ Some x → take (i + 1) xs ≡ take i xs ++ x ∷ []
take_next [] i x at = cc
take_next (y ∷ xs) zero x at = let same : y ≡ x = cc in ap (λ z. z ∷ []) same
take_next (y ∷ xs) (suc i) x at = let one : suc i + 1 ≡ suc (i + 1) = omega arith in rw one (ap (λ l. y ∷ l) (take_next xs i x at))

pub there_below : {X : Type 0} (xs : List X) (i : ℕ) → i < length xs → (x : X) × (slice_get xs i ≡ Some x)
there_below [] i lt = absurd (omega (arith, lt))
there_below (x ∷ xs) zero lt = (x, refl)
there_below (x ∷ xs) (suc i) lt = there_below xs i (omega (arith, lt))

module _ {X : Type 0} (f : X → List ℕ) (old mid new : Option (List ℕ)) (xs : List X) (i : ℕ) (x : X) (at : slice_get xs i ≡ Some x) (front : Appends old mid (flat_map f (take i xs))) where
  next_is : flat_map f (take (i + 1) xs) ≡ flat_map f (take i xs) ++ flat_map f (x ∷ [])
  next_is = ap (flat_map f) (take_next xs i x at) ∙ flat_map-append f (take i xs) (x ∷ [])

  -- that of one more
  pub lines_more : Appends mid new (flat_map f (x ∷ [])) → Appends old new (flat_map f (take (i + 1) xs))
  lines_more line = subst (Appends old new) (sym next_is) (appends-twice old mid new (flat_map f (take i xs)) (flat_map f (x ∷ [])) front line)

  -- a first part of it
  pub lines_cut : AppendsSome mid new (flat_map f (x ∷ [])) → AppendsSome old new (flat_map f xs)
  lines_cut some =
      let rest = flat_map f (drop (i + 1) xs) in
      let whole : flat_map f xs ≡ (flat_map f (take i xs) ++ flat_map f (x ∷ [])) ++ rest =
      ap (flat_map f) (sym (take-append-drop (i + 1) xs)) ∙ flat_map-append f (take (i + 1) xs) (drop (i + 1) xs) ∙ ap (λ l. l ++ rest) next_is in
      subst (AppendsSome old new) (sym whole)
      (appends-first old new (flat_map f (take i xs) ++ flat_map f (x ∷ [])) rest (appends-some old mid new (flat_map f (take i xs)) (flat_map f (x ∷ [])) front some))

-- ---- the places of a code

pub settled_within : (r : Role) (t : ℕ) → IsWithin r → settled r t < 4
settled_within r t within = by_test (is_at r.since t)
  where
    by_test : (b : Bool) → cond b r.before r.now < 4
    by_test true = within.before
    by_test false = within.now

module _ (v : HeadView) (codes : List IdCode) (code : ℕ) (c : IdCode) (places : ArePlaces (codes_shown v) codes) (there : slice_get codes code ≡ Some c) where
  pub code_low : code < 2 ^ 60
  code_low = let within = slice_get_within codes code c there in let few = places.few in omega (arith, within, few)

  pub shown_there : (p : ℕ) → p < 4 → slice_get (codes_shown v) (place_of code p) ≡ Some c
  shown_there p lt = places.each code p lt ∙ there

  -- its declaration in the view
  pub declared_is : (i p : ℕ) (d : Code) → p < 4 → i ≡ place_of code p → Some d ≡ slice_get v.codes.now i → shown_code v.text.now d ≡ c
  declared_is i p d lt is e =
      same_Some (shown_code v.text.now d) c (ap (option_map (shown_code v.text.now)) e ∙ sym (slice_get-map (shown_code v.text.now) v.codes.now i)
      ∙ ap (slice_get (codes_shown v)) is ∙ shown_there p lt)

  pub declared_there : (i p : ℕ) → p < 4 → i ≡ place_of code p → None ≡ slice_get v.codes.now i → ⊥
  declared_there i p lt is e = let no = ap (option_map (shown_code v.text.now)) e ∙ sym (slice_get-map (shown_code v.text.now) v.codes.now i)
      ∙ ap (slice_get (codes_shown v)) is ∙ shown_there p lt in cc

-- ---- two values

pub same_decided : (b : Bool) (u w : Option Value) → Decides b (u ≡ w) → same_state u w ≡ b
same_decided b u w d = by_bool b d
  where
    bits : (ds es : List ℕ) → Some (Value.Bits ds) ≡ Some (Value.Bits es) → ds ≡ es
    bits ds es e = cc

    reals : (ds es : List ℕ) → Some (Value.Real ds) ≡ Some (Value.Real es) → ds ≡ es
    reals ds es e = cc

    itself : (o : Option Value) → same_state o o ≡ true
    itself None = refl
    itself (Some (Value.Bits ds)) = (bytes_eq-Decides ds ds).1 refl
    itself (Some (Value.Real text)) = (bytes_eq-Decides text text).1 refl

    differ : (a b : Option Value) → (a ≡ b → ⊥) → same_state a b ≡ false
    differ None None other = absurd (other refl)
    differ None (Some w) other = refl
    differ (Some v) None other = refl
    differ (Some (Value.Bits ds)) (Some (Value.Real es)) other = refl
    differ (Some (Value.Real ds)) (Some (Value.Bits es)) other = refl
    differ (Some (Value.Bits ds)) (Some (Value.Bits es)) other = by_eq (bytes_eq ds es) refl
      where
        by_eq : (x : Bool) → bytes_eq ds es ≡ x → x ≡ false
        by_eq true e = absurd (other (ap (λ l. Some (Value.Bits l)) ((bytes_eq-Decides ds es).0 e)))
        by_eq false e = refl
    differ (Some (Value.Real ds)) (Some (Value.Real es)) other = by_eq (bytes_eq ds es) refl
      where
        by_eq : (x : Bool) → bytes_eq ds es ≡ x → x ≡ false
        by_eq true e = absurd (other (ap (λ l. Some (Value.Real l)) ((bytes_eq-Decides ds es).0 e)))
        by_eq false e = refl

    by_bool : (x : Bool) → Decides x (u ≡ w) → same_state u w ≡ x
    by_bool true d = subst (λ o. same_state u o ≡ true) (d.0 refl) (itself u)
    by_bool false d = differ u w (λ e. let no = d.1 e in cc)

-- ---- the line of one code

module _ (at : ℕ → Option Value) (c : IdCode) (r : Role) (t : ℕ) where
  pub event_text : c.event ≡ true → role_line at c r t ≡ cond (is_due r t) (as_line (byte "1" ∷ c.text)) []
  event_text e = ap (λ b. cond b (cond (is_due r t) (as_line (byte "1" ∷ c.text)) []) (cond (same_state (at r.written) (at (settled r t))) [] (line_if_set c (at (settled r t))))) e

  pub value_text : c.event ≡ false → role_line at c r t ≡ cond (same_state (at r.written) (at (settled r t))) [] (line_if_set c (at (settled r t)))
  value_text e = ap (λ b. cond b (cond (is_due r t) (as_line (byte "1" ∷ c.text)) []) (cond (same_state (at r.written) (at (settled r t))) [] (line_if_set c (at (settled r t))))) e

-- whether two places have the same value
pub same_places : (t : Table) (code size written before one other : ℕ) (b : Bool) → one ≡ place_of code written → other ≡ place_of code before
    → Decides b (value_at_size size (held_at t one) ≡ value_at_size size (held_at t other))
    → same_state (in_places t size code written) (in_places t size code before) ≡ b
same_places t code size written before one other b e f d =
    ap₂ (λ i j. same_state (value_at_size size (held_at t i)) (value_at_size size (held_at t j))) (sym e) (sym f)
    ∙ same_decided b (value_at_size size (held_at t one)) (value_at_size size (held_at t other)) d

-- the line of a value in a place
pub line_there : (cs : List IdCode) (t : Table) (i : ℕ) (c : IdCode) → slice_get cs i ≡ Some c → line_of cs t i ≡ line_if_set c (value_at_size c.size (held_at t i))
line_there cs t i c e =
    ap (λ o. unwrap_or (option_map (λ (d : IdCode). line_if_set d (value_in cs t i)) o) []) e
    ∙ ap (λ o. line_if_set c (option_and_then (λ (d : IdCode). value_at_size d.size (held_at t i)) o)) e

pub no_role : (t : Table) (time code : ℕ) (o : Option IdCode) → line_with t time code o None ≡ []
no_role t time code None = refl
no_role t time code (Some c) = refl
