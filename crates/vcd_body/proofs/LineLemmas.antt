-- Changes that are in some bytes, and their lines.
use Rattle.vcd_body.proofs.Cited.{◌≡◌, ◌≢◌, ℕ, zero, suc, ◌+◌, ◌-◌, ◌≤◌, ◌<◌, ◌==◌, Bool, true, false, not, ◌&&◌, List, [], ◌∷◌, ◌++◌, length, take, drop, get_or, Some, Result, Ok, Err, IfOk, ◌⊎◌, inl, inr, refl, sym, ap, ap₂, subst, ◌∙◌, append_assoc, arith, bit_and, nat_le, ◌^◌, slice_get, slice_index, slice_range, to_ascii_lowercase, str_to_ascii_lowercase, result_ok, and_parts, cases_lt, eqb-true, ne_eqb, drop-drop, drop-take, take-take, bytes_eq-Decides, decimal_value, is_decimal, is_white_space, Header, IdCode, has_text, BodyItem, ChangeForm, extend, short, item_line, find_passes, AreWhite, slice_range-append, HeadView, IsViewOf, IsCode, size_or_zero_of, Finds, IsSized, length-slice_range, Code, parts, Form, model_form, IsItem, HasToken, HasChange, HasTimestamp, HasPlaces, Names}
use Rattle.vcd_body.specs.declared.item.Form.TheVariants as form
use Rattle.vcd_body.specs.declared.item.Item.TheVariants as item
use Rattle.vcd_body.proofs.FindLemmas.{code_at}
use Rattle.vcd_body.proofs.WordLemmas.{byte_there, lower_alone}

-- ---- what was found

some_is : {A : Type 0} {x y : A} → Some x ≡ Some y → x ≡ y
some_is e = cc

-- the code that was found has the bytes that were looked for
pub found_named : (v : HeadView) (position : ℕ) (text : List ℕ) → ((h : Header) → IsViewOf v h → Finds h.codes text (Some position)) → Names v position text
found_named v position text f h c view e =
    let k = f h view in
    let same = some_is (sym k.1 ∙ e) in
    sym ((bytes_eq-Decides text c.text).0 (find_passes (has_text text) h.codes c (k.2 ∙ ap Some same)))

-- what is so of what was found
pub of_found : {A E : Type 0} (P : A → Type 0) (found : Result A E) (f : A) → Some f ≡ result_ok found → IfOk found P → P f
of_found P (Ok p) f e n = subst P (some_is (sym e)) n
of_found P (Err p) f e n = cc

-- the header's change that an item with this text and this code is, where the view shows that code
pub of_shown : (v : HeadView) (h : Header) → IsViewOf v h → (position : ℕ) (y : Code) → slice_get v.codes.now position ≡ Some y
    → (f : Form) (text code : List ℕ) → Names v position code → (x : BodyItem) → IsItem h.codes text (item.Change position f) x
    → (k : IdCode) × (x ≡ BodyItem.Changes (record { code = k; form = model_form f; text = text })) × (k.text ≡ code) × (length code ≡ y.len) × (y.size ≡ k.size) × (y.event ≡ k.event)
of_shown v h view position y there f text code named x (k, at, is) =
    let z = code_at (parts v) h view position k at in
    let same = some_is (sym there ∙ z.1) in
    let shown = subst (λ o. IsCode v.text.now o k) (sym same) z.2 in
    let name = named h k view at in
    let len : y.start + y.len - y.start ≡ y.len = omega arith in
    (k, is, name, ap length (sym name ∙ sym shown.text_is) ∙ length-slice_range v.text.now y.start (y.start + y.len) shown.within ∙ len, shown.size_is, shown.event_is)

-- the size that was found, where it is one
sized_is : (y : Code) (most : ℕ) → most ≡ size_or_zero_of y → most ≢ 0 → (y.event ≡ false) × (y.size ≡ most)
sized_is y most is some = by_parts y.event (nat_le (2 ^ 32) y.size) refl refl
  where
    by_parts : (e b : Bool) → y.event ≡ e → nat_le (2 ^ 32) y.size ≡ b → (y.event ≡ false) × (y.size ≡ most)
    by_parts true b h g = absurd (some (is ∙ rw h refl))
    by_parts false true h g = absurd (some (is ∙ rw (h, g) refl))
    by_parts false false h g = (h, sym (is ∙ rw (h, g) refl))

-- the change of the code whose size was found, at its offsets
pub of_sized : (v : HeadView) (h : Header) → IsViewOf v h → (position most : ℕ)
    → IsSized v.codes.now (record { position = position; size_or_zero = most }) → most ≢ 0
    → (f : Form) (text code bytes : List ℕ) (from to at start : ℕ) → Names v position code → HasPlaces bytes from to at start text code
    → (x : BodyItem) → IsItem h.codes text (item.Change position f) x
    → (k : IdCode) × (x ≡ BodyItem.Changes (record { code = k; form = model_form f; text = text })) × (k.text ≡ code)
    × (length code ≡ to - 1 - start) × (k.size ≡ most) × (k.event ≡ false)
of_sized v h view position most (y, there, is) some f text code bytes from to at start named positions x i =
    let k = of_shown v h view position y there f text code named x i in
    let z = sized_is y most is some in
    let ends = positions.ends in
    (k.0, k.1, k.2, omega (arith, ends), sym k.4 ∙ z.1, sym k.5 ∙ z.0)

-- ---- tokens ahead

-- a token that was given ahead
pub token_there : (bytes : List ℕ) (from to : ℕ) (token : List ℕ) → from + length token + 1 ≤ to → to ≤ length bytes
    → AreWhite bytes from (to - length token - 1) → token ≡ slice_range bytes (to - length token - 1) (to - 1) → HasToken bytes from to token
token_there bytes from to token further within before position = record { start = to - length token - 1; before = before; ends = omega arith; within = within; token_is = position }

-- before it there is only white space
pub begins_after : (bytes : List ℕ) (from to : ℕ) (token : List ℕ) → HasToken bytes from to token → AreWhite bytes from (to - 1 - length token)
begins_after bytes from to token t =
    let ends = t.ends in
    let start : t.start ≡ to - 1 - length token = omega arith in
    subst (AreWhite bytes from) start t.before

-- so it is from its first byte on
pub token_begun : (bytes : List ℕ) (from to : ℕ) (token : List ℕ) → HasToken bytes from to token → HasToken bytes (to - 1 - length token) to token
token_begun bytes from to token t =
    let ends = t.ends in
    let start : t.start ≡ to - 1 - length token = omega arith in
    record {
      start = to - 1 - length token;
      before = record { order = omega arith; white = λ k on less. absurd (omega (arith, on, less)) };
      ends = omega arith;
      within = t.within;
      token_is = t.token_is ∙ ap (λ a. slice_range bytes a (to - 1)) start;
    }

-- a digit and a code right after it
pub scalar_there : (bytes : List ℕ) (from to : ℕ) (token text : List ℕ) (digit : ℕ) (rest : List ℕ) → token ≡ digit ∷ rest → text ≡ take 1 token
    → HasToken bytes from to token → HasChange bytes from to form.Scalar text (drop 1 token)
scalar_there bytes from to token text digit rest e is t = (digit, is ∙ ap (take 1) e, subst (HasToken bytes from to) (e ∙ ap (λ l. digit ∷ drop 1 l) (sym e)) t)

-- a letter and a text, and a code after them
pub both_there : (bytes bytes' : List ℕ) (from middle to : ℕ) (token text code : List ℕ) (letter : ℕ) (rest : List ℕ) → token ≡ letter ∷ rest
    → text ≡ drop 1 token → bytes' ≡ bytes → HasToken bytes from middle token → HasToken bytes' middle to code
    → HasChange bytes from to form.Vector text code
both_there bytes bytes' from middle to token text code letter rest e is same t u =
    (letter, middle, subst (HasToken bytes from middle) (e ∙ ap (λ l. letter ∷ l) (sym (is ∙ ap (drop 1) e))) t, subst (λ b. HasToken b middle to code) same u)

-- a text within a token is at its own offset
part_there : (bytes : List ℕ) (start end k : ℕ) (token : List ℕ) → token ≡ slice_range bytes start end → length token ≡ end - start → start ≤ end
    → k ≤ length token → drop k token ≡ slice_range bytes (start + k) end
part_there bytes start end k token is long order few =
    let all : end - start ≡ k + (end - (start + k)) = omega arith in
    ap (drop k) (is ∙ ap (λ n. take n (drop start bytes)) all) ∙ drop-take k (end - (start + k)) (drop start bytes)
    ∙ ap (take (end - (start + k))) (drop-drop k start bytes ∙ ap (λ n. drop n bytes) (omega arith))

length_rest : (digit : ℕ) (rest token : List ℕ) → token ≡ digit ∷ rest → (length (drop 1 token) + 1 ≡ length token) × (length (take 1 token) ≡ 1)
length_rest digit rest token e = rw e (omega arith, refl)

-- the offsets of a digit and of the code right after it
pub scalar_places : (bytes : List ℕ) (from to : ℕ) (token text : List ℕ) (digit : ℕ) (rest : List ℕ) → token ≡ digit ∷ rest → text ≡ take 1 token
    → (t : HasToken bytes from to token) → HasPlaces bytes from to (to - 1 - length token) (to - 1 - length token + 1) text (drop 1 token)
scalar_places bytes from to token text digit rest e is t =
    let ends = t.ends in
    let order = t.before.order in
    let one = length_rest digit rest token e in
    let long = ap length is ∙ one.1 in
    let some = one.0 in
    let start : t.start ≡ to - 1 - length token = omega arith in
    let position : token ≡ slice_range bytes (to - 1 - length token) (to - 1) = t.token_is ∙ ap (λ a. slice_range bytes a (to - 1)) start in
    let last : to - 1 ≡ to - 1 - length token + 1 + length (drop 1 token) = omega arith in
    record {
      after = omega arith;
      apart = omega arith;
      ends = omega arith;
      within = t.within;
      text_is = is ∙ first_there bytes (to - 1 - length token) (to - 1) token text long position (omega arith);
      code_is = part_there bytes (to - 1 - length token) (to - 1) 1 token position (omega arith) (omega arith) (omega arith) ∙ ap (slice_range bytes (to - 1 - length token + 1)) last;
    }
  where
    first_there : (bytes : List ℕ) (start end : ℕ) (token text : List ℕ) → length text ≡ 1 → token ≡ slice_range bytes start end → start < end
        → take 1 token ≡ slice_range bytes start (start + length text)
    first_there bytes start end token text long position less =
        let m : start + length text - start ≡ 1 = omega arith in
        ap (take 1) position ∙ take-take 1 (end - start) (drop start bytes) (omega arith) ∙ ap (λ k. take k (drop start bytes)) (sym m)

-- those of a text after its letter, and of the code
pub both_places : (bytes bytes' : List ℕ) (from middle to : ℕ) (token text code : List ℕ) (letter : ℕ) (rest : List ℕ) → token ≡ letter ∷ rest
    → text ≡ drop 1 token → bytes' ≡ bytes → HasToken bytes from middle token → HasToken bytes' middle to code
    → HasPlaces bytes from to (middle - 1 - length token + 1) (to - 1 - length code) text code
both_places bytes bytes' from middle to token text code letter rest e is same t u =
    let ends = t.ends in
    let order = t.before.order in
    let ends' = u.ends in
    let order' = u.before.order in
    let long = ap length is in
    let some = (length_rest letter rest token e).0 in
    let start : t.start ≡ middle - 1 - length token = omega arith in
    let start' : u.start ≡ to - 1 - length code = omega arith in
    let position : token ≡ slice_range bytes (middle - 1 - length token) (middle - 1) = t.token_is ∙ ap (λ a. slice_range bytes a (middle - 1)) start in
    let last : middle - 1 ≡ middle - 1 - length token + 1 + length text = omega arith in
    let last' : to - 1 ≡ to - 1 - length code + length code = omega arith in
    record {
      after = omega arith;
      apart = omega arith;
      ends = omega arith;
      within = subst (λ b. to ≤ length b) same u.within;
      text_is = is ∙ part_there bytes (middle - 1 - length token) (middle - 1) 1 token position (omega arith) (omega arith) (omega arith)
          ∙ ap (slice_range bytes (middle - 1 - length token + 1)) last;
      code_is = u.token_is ∙ ap₂ (slice_range bytes') start' last' ∙ ap (λ b. slice_range b (to - 1 - length code) (to - 1 - length code + length code)) same;
    }

-- the bytes after the first one of a token
pub rest_there : (bytes : List ℕ) (from to : ℕ) (token : List ℕ) → 0 < length token → HasToken bytes from to token → drop 1 token ≡ slice_range bytes (to - 1 - length token + 1) (to - 1)
rest_there bytes from to token some t =
    let ends = t.ends in
    let order = t.before.order in
    let within = t.within in
    let start : t.start ≡ to - 1 - length token = omega arith in
    let position : token ≡ slice_range bytes (to - 1 - length token) (to - 1) = t.token_is ∙ ap (λ a. slice_range bytes a (to - 1)) start in
    part_there bytes (to - 1 - length token) (to - 1) 1 token position (omega arith) (omega arith) (omega arith)

-- those of a timestamp's digits
pub mark_there : (bytes : List ℕ) (from to : ℕ) (token : List ℕ) (time : ℕ) → 0 < length token → (is_decimal (drop 1 token) ≡ true)
    × (decimal_value (drop 1 token) ≡ time) × (time < 2 ^ 64) → HasToken bytes from to token
    → HasTimestamp bytes from to (to - 1 - length token + 1) time
mark_there bytes from to token time some told t =
    let ends = t.ends in
    let order = t.before.order in
    let digits = rest_there bytes from to token some t in
    record {
      after = omega arith;
      before = omega arith;
      within = t.within;
      digits = ap is_decimal (sym digits) ∙ told.0;
      value = ap decimal_value (sym digits) ∙ told.1;
      fits = told.2;
    }

-- ---- a line

pub flip : (b : Bool) → not b ≡ true → b ≡ false
flip true e = cc
flip false e = refl

pub one_byte : (bytes : List ℕ) (p : ℕ) → p < length bytes → slice_range bytes p (p + 1) ≡ slice_index bytes p ∷ []
one_byte bytes p inside =
    let one : p + 1 - p ≡ 1 = omega arith in
    ap (λ n. take n (drop p bytes)) one ∙ front bytes p inside
  where
    front : (bytes : List ℕ) (p : ℕ) → p < length bytes → take 1 (drop p bytes) ≡ get_or bytes p 0 ∷ []
    front [] p inside = absurd (omega arith)
    front (b ∷ bytes) zero inside = refl
    front (b ∷ bytes) (suc p) inside = front bytes p (omega arith)

-- the digit of a change is at its offset
pub digit_there : (bytes : List ℕ) (from to at start : ℕ) (text code : List ℕ) → HasChange bytes from to form.Scalar text code
    → HasPlaces bytes from to at start text code → (at < length bytes) × (text ≡ slice_index bytes at ∷ [])
digit_there bytes from to at start text code (digit, is, t) positions =
    let long = ap (λ (l : List ℕ). length l) is in
    let apart = positions.apart in
    let ends = positions.ends in
    let within = positions.within in
    let inside : at < length bytes = omega arith in
    let one : at + length text ≡ at + 1 = omega arith in
    (inside, positions.text_is ∙ ap (slice_range bytes at) one ∙ one_byte bytes at inside)

-- a token that begins right here, and the byte after it
pub token_line : (bytes : List ℕ) (from to : ℕ) (token : List ℕ) (x : ℕ) → HasToken bytes from to token → to ≡ from + length token + 1
    → slice_index bytes (to - 1) ≡ x → slice_range bytes from to ≡ token ++ x ∷ []
token_line bytes from to token x t e last =
    let n = length token in
    let within = t.within in
    let ends = t.ends in
    let start : t.start ≡ from = omega arith in
    let end : to - 1 ≡ from + n = omega arith in
    let is : token ≡ slice_range bytes from (from + n) = t.token_is ∙ ap₂ (slice_range bytes) start end in
    let one : slice_range bytes (from + n) (from + n + 1) ≡ x ∷ [] = one_byte bytes (from + n) (omega arith) ∙ ap (λ b. b ∷ []) (ap (slice_index bytes) (sym end) ∙ last) in
    ap (slice_range bytes from) e ∙ sym (slice_range-append bytes from (from + n) 1 (omega arith)) ∙ ap₂ (λ (a b : List ℕ). a ++ b) (sym is) one

-- without that byte
token_text : (bytes : List ℕ) (from to : ℕ) (token : List ℕ) → HasToken bytes from to token → to ≡ from + length token + 1 → slice_range bytes from (to - 1) ≡ token
token_text bytes from to token t e =
    let ends = t.ends in
    let start : t.start ≡ from = omega arith in
    sym (t.token_is ∙ ap (λ a. slice_range bytes a (to - 1)) start)

-- two tokens with a blank between them
pub both_line : (bytes : List ℕ) (from middle to : ℕ) (letter first : ℕ) (text code : List ℕ) → HasToken bytes from middle (letter ∷ text)
    → HasToken bytes middle to code → to ≡ from + length text + length code + 3
    → slice_index bytes from ≡ first → slice_index bytes (from + 1 + length text) ≡ 32 → slice_range bytes from (to - 1) ≡ first ∷ text ++ (32 ∷ code)
both_line bytes from middle to letter first text code t u e begins blank =
    let one = t.before.order in
    let two = u.before.order in
    let ends = t.ends in
    let ends' = u.ends in
    let first_end : middle ≡ from + length (letter ∷ text) + 1 = omega arith in
    let second_end : to ≡ middle + length code + 1 = omega arith in
    let between : middle - 1 ≡ from + 1 + length text = omega arith in
    let start : t.start ≡ from = omega arith in
    let end : middle - 1 ≡ from + length (letter ∷ text) = omega arith in
    let whole : middle + (to - 1 - middle) ≡ to - 1 = omega arith in
    let none : from + 0 ≡ from = omega arith in
    let is : letter ∷ text ≡ slice_range bytes from (from + length (letter ∷ text)) = t.token_is ∙ ap₂ (slice_range bytes) start end in
    let same : letter ≡ first = byte_there (letter ∷ text) bytes from (length (letter ∷ text)) 0 (omega arith) is ∙ ap (slice_index bytes) none ∙ begins in
    let front : slice_range bytes from middle ≡ (first ∷ text) ++ 32 ∷ [] = token_line bytes from middle (letter ∷ text) 32 t first_end
    (ap (slice_index bytes) between ∙ blank) ∙ ap (λ d. (d ∷ text) ++ 32 ∷ []) same in
    let back : slice_range bytes middle (to - 1) ≡ code = token_text bytes middle to code u second_end in
    ap (slice_range bytes from) (sym whole) ∙ sym (slice_range-append bytes from middle (to - 1 - middle) (omega arith))
    ∙ ap₂ (λ (a b : List ℕ). a ++ b) front (ap (slice_range bytes middle) whole ∙ back) ∙ append_assoc (first ∷ text) (32 ∷ []) code

-- where the first byte is not white, a token begins with it
begins_there : (bytes : List ℕ) (from start first : ℕ) → AreWhite bytes from start → slice_index bytes from ≡ first → is_white_space first ≡ false → start ≡ from
begins_there bytes from start first before here other = by_order (cases_lt from start)
  where
    by_order : (from < start) ⊎ (start ≤ from) → start ≡ from
    by_order (inl less) = let w = before.white from (omega arith) less in let z : is_white_space (slice_index bytes from) ≡ false = ap is_white_space here ∙ other in cc
    by_order (inr less) = let order = before.order in omega arith

-- so does the text after its letter
text_of : (bytes : List ℕ) (from middle : ℕ) (letter : ℕ) (text : List ℕ) (t : HasToken bytes from middle (letter ∷ text)) → t.start ≡ from
    → text ≡ slice_range bytes (from + 1) (from + 1 + length text)
text_of bytes from middle letter text t start =
    let n = length text in
    let ends = t.ends in
    let long : middle - 1 - from ≡ 1 + n = omega arith in
    let rest : from + 1 + n - (from + 1) ≡ n = omega arith in
    ap (drop 1) (t.token_is ∙ ap (λ a. take (middle - 1 - a) (drop a bytes)) start ∙ ap (λ k. take k (drop from bytes)) long)
    ∙ drop-take 1 n (drop from bytes) ∙ ap (take n) (drop-drop 1 from bytes) ∙ ap (λ k. take k (drop (from + 1) bytes)) (sym rest)

module _ (bytes : List ℕ) (from to first code_at : ℕ) (text : List ℕ)
    (e : (((from + 1 + length text + 1 == code_at) && (slice_index bytes from == first)) && (slice_index bytes (from + 1 + length text) == 32))
    ≡ true) where
  pub text_there : (code : List ℕ) → HasChange bytes from to form.Vector text code → is_white_space first ≡ false → text ≡ slice_range bytes (from + 1) (from + 1 + length text)
  text_there code (letter, middle, t, u) other =
      let p = and_parts ((from + 1 + length text + 1 == code_at) && (slice_index bytes from == first)) (slice_index bytes (from + 1 + length text) == 32) e in
      let q = and_parts (from + 1 + length text + 1 == code_at) (slice_index bytes from == first) p.0 in
      text_of bytes from middle letter text t (begins_there bytes from t.start first t.before (eqb-true (slice_index bytes from) first q.1) other)

  pub both_line_there : (code : List ℕ) → HasChange bytes from to form.Vector text code → to ≡ code_at + length code + 1 → slice_range bytes from (to - 1) ≡ first ∷ text ++ (32 ∷ code)
  both_line_there code (letter, middle, t, u) long =
      let p = and_parts ((from + 1 + length text + 1 == code_at) && (slice_index bytes from == first)) (slice_index bytes (from + 1 + length text) == 32) e in
      let q = and_parts (from + 1 + length text + 1 == code_at) (slice_index bytes from == first) p.0 in
      let room = eqb-true (from + 1 + length text + 1) code_at q.0 in
      let one = t.before.order in
      let two = u.before.order in
      let ends = t.ends in
      let ends' = u.ends in
      both_line bytes from middle to letter first text code t u (omega arith) (eqb-true (slice_index bytes from) first q.1) (eqb-true (slice_index bytes (from + 1 + length text)) 32 p.1)

-- a digit in lower case and its code
pub bit_line_there : (bytes : List ℕ) (from to code_at : ℕ) (text code : List ℕ)
    → ((from + 1 == code_at) && not (bit_and (slice_index bytes from) 32 == 0)) ≡ true → HasChange bytes from to form.Scalar text code
    → to ≡ code_at + length code + 1 → slice_index bytes from < 256
    → slice_range bytes from (to - 1) ≡ str_to_ascii_lowercase text ++ code
bit_line_there bytes from to code_at text code e (digit, is, t) long fits =
    let p = and_parts (from + 1 == code_at) (not (bit_and (slice_index bytes from) 32 == 0)) e in
    let room = eqb-true (from + 1) code_at p.0 in
    let ends = t.ends in
    let order = t.before.order in
    let start : t.start ≡ from = omega arith in
    let end : to - 1 ≡ from + length (digit ∷ code) = omega arith in
    let none : from + 0 ≡ from = omega arith in
    let here : digit ≡ slice_index bytes from = byte_there (digit ∷ code) bytes from (length (digit ∷ code)) 0 (omega arith) (t.token_is
    ∙ ap₂ (slice_range bytes) start end) ∙ ap (slice_index bytes) none in
    let lower : to_ascii_lowercase digit ≡ digit = subst (λ d. to_ascii_lowercase d ≡ d) (sym here) (lower_alone (slice_index bytes from) fits (flip _ p.1)) in
    token_text bytes from to (digit ∷ code) t (omega arith) ∙ ap (λ d. d ∷ code) (sym lower) ∙ ap (λ l. str_to_ascii_lowercase l ++ code) (sym is)

-- ---- digits

-- ---- lines of items

module _ (c : IdCode) (text : List ℕ) (none : c.event ≡ false) where
  -- a digit of a code of one bit
  pub bit_item : (d : ℕ) → text ≡ d ∷ [] → c.size ≡ 1 → item_line (BodyItem.Changes (record { code = c; form = ChangeForm.Scalar; text = text }))
      ≡ str_to_ascii_lowercase text ++ (c.text ++ 10 ∷ [])
  bit_item d is size = rw (none, size, is) refl

  -- digits of a code of any other size
  pub vector_item : c.size ≢ 1 → item_line (BodyItem.Changes (record { code = c; form = ChangeForm.Vector; text = text })) ≡ 98 ∷ short
      (extend (str_to_ascii_lowercase text) c.size) ++ (32 ∷ c.text ++ 10 ∷ [])
  vector_item size = rw (none, ne_eqb c.size 1 size) (append_assoc (98 ∷ short (extend (str_to_ascii_lowercase text) c.size)) (32 ∷ c.text) (10 ∷ []))

  -- the text of a real number
  pub real_item : item_line (BodyItem.Changes (record { code = c; form = ChangeForm.RealText; text = text })) ≡ 114 ∷ text ++ (32 ∷ c.text ++ 10 ∷ [])
  real_item = rw none (append_assoc (114 ∷ text) (32 ∷ c.text) (10 ∷ []))
