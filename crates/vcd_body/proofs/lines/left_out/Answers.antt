use Rattle.vcd_body.proofs.Cited.{◌≡◌, ◌≢◌, ◌<◌, ℕ, false, List, [], ◌∷◌, ◌++◌, ◌-◌, append_assoc, refl, sym, ap, subst, ◌∙◌, arith, str_to_ascii_lowercase, IdCode, item_line, BodyItem, line_under, model_form, Form, Change, IsSizedItem, IsItem, IsSpelledAs}
use Rattle.vcd_body.proofs.Facts.{bit_within, if_some_more, without_none, of_sized, bit_item}
use Rattle.vcd_body.specs.declared.item.Form.TheVariants as form
use Rattle.vcd_body.proofs.lines.left_out.Goals as goal

-- a size was found
some_size : (size most : ℕ) → (size ≡ most) × (0 < size) → most ≢ 0
some_size size most told = λ none. let is = told.0 in let some = told.1 in absurd (omega (arith, is, some, none))

pub is_bit_line-requires : goal.is_bit_line-requires
is_bit_line-requires c =
    let s = subst (IsSpelledAs c.requires.0 c.args.scanned) (c.in-Change.is ∙ ap (Change c.in-Change.code) c.in-Scalar.is) (c.requires.1 (some_size _ _ c.in_ok-size.ensures.told)) in
    (c.args.scanned.text.now, s.0, s.1)

pub returns-in-Scalar-clause-within : goal.returns-in-Scalar-clause-within
returns-in-Scalar-clause-within c =
    let same = c.in-Change.is ∙ ap (Change c.in-Change.code) c.in-Scalar.is in
    let there = subst (IsSpelledAs c.requires.0 c.args.scanned) same (c.requires.1 (some_size _ _ c.in_ok-size.ensures.told)) in
    let within = bit_within c.args.scanned.bytes.now c.args.scanned.begin c.args.scanned.end c.args.scanned.text.now there.0 there.1 in
    (omega arith, there.3.within)

pub returns-in-Scalar-clause-line : goal.returns-in-Scalar-clause-line
returns-in-Scalar-clause-line c =
    let text = c.args.scanned.text.now in
    let told = c.in_ok-size.ensures.told in
    let size : c.args.scanned.size_or_zero ≡ 1 = sym told.0 ∙ c.if-size-eq1.true in
    let same = c.in-Change.is ∙ ap (Change c.in-Change.code) c.in-Scalar.is in
    let there = subst (IsSpelledAs c.requires.0 c.args.scanned) same (c.requires.1 (some_size _ _ c.in_ok-size.ensures.told)) in
    let within = bit_within c.args.scanned.bytes.now c.args.scanned.begin c.args.scanned.end text there.0 there.1 in
    λ v h x spelled known sized views i.
    let s = subst (IsSpelledAs v c.args.scanned) same (spelled (some_size _ _ c.in_ok-size.ensures.told)) in
    let k = of_sized v h views c.in-Change.code c.args.scanned.size_or_zero
    (subst (λ it. IsSizedItem v.codes.now it c.args.scanned.size_or_zero) same (sized (some_size _ _ c.in_ok-size.ensures.told)))
    (λ z. absurd (omega (
      arith,
      size,
      z,
    ))) form.Scalar text s.0 c.args.scanned.bytes.now c.args.scanned.begin c.args.scanned.end c.args.scanned.at c.args.scanned.code_at s.2 s.3 x
    (subst (λ it. IsItem h.codes text it x) same i) in
    ap (λ l. l ++ 10 ∷ []) (without_none c.args.scanned.bytes.now c.args.scanned.begin (c.args.scanned.end - 1) (omega arith)
    ∙ c.is_bit_line.ensures c.if-is_bit_line.true text s.0 s.1 s.3.ends)
    ∙ append_assoc (str_to_ascii_lowercase text) s.0 (10 ∷ [])
    ∙ ap (λ l. str_to_ascii_lowercase text ++ (l ++ 10 ∷ [])) (sym k.2)
    ∙ sym (bit_item k.0 text k.5 s.1.0 s.1.1 (k.4 ∙ size)) ∙ sym (ap item_line k.1)

pub left_out_of_text-requires : goal.left_out_of_text-requires
left_out_of_text-requires c =
    let s = subst (IsSpelledAs c.requires.0 c.args.scanned) c.in-Change.is (c.requires.1 (some_size _ _ c.in_ok-size.ensures.told)) in
    (s.0, s.1)

pub returns-in_default-form-clause-within : goal.returns-in_default-form-clause-within
returns-in_default-form-clause-within c =
    let s = subst (IsSpelledAs c.requires.0 c.args.scanned) c.in-Change.is (c.requires.1 (some_size _ _ c.in_ok-size.ensures.told)) in
    if_some_more c.left_out_of_text.result (λ n p. (p.0, s.3.within)) c.left_out_of_text.ensures

pub returns-in_default-form-clause-line : goal.returns-in_default-form-clause-line
returns-in_default-form-clause-line c =
    let text = c.args.scanned.text.now in
    let told = c.in_ok-size.ensures.told in
    let is = told.0 in
    let some = told.1 in
    let size : 0 < c.args.scanned.size_or_zero = omega (arith, is, some) in
    let same = c.in-Change.is in
    if_some_more c.left_out_of_text.result (λ n p. (
    λ v h x spelled known sized views i.
    let s = subst (IsSpelledAs v c.args.scanned) same (spelled (some_size _ _ c.in_ok-size.ensures.told)) in
    let k = of_sized v h views c.in-Change.code c.args.scanned.size_or_zero
    (subst (λ it. IsSizedItem v.codes.now it c.args.scanned.size_or_zero) same (sized (some_size _ _ c.in_ok-size.ensures.told)))
    (λ z. absurd (omega (
      arith,
      size,
      z,
    ))) c.in-Change.form text s.0 c.args.scanned.bytes.now c.args.scanned.begin c.args.scanned.end c.args.scanned.at c.args.scanned.code_at s.2 s.3 x
    (subst (λ it. IsItem h.codes text it x) same i) in
    ap (λ l. l ++ 10 ∷ []) (p.4 s.0 s.1 s.3.ends known)
    ∙ append_assoc p.1 (32 ∷ s.0) (10 ∷ [])
    ∙ sym (p.3 s.0)
    ∙ line_of k.0 s.0 c.in_ok-size.size c.args.scanned.size_or_zero c.in-Change.form text k.2 is k.4 k.5
    ∙ sym (ap item_line k.1)
    )) c.left_out_of_text.ensures
  where
    line_of : (c : IdCode) (code : List ℕ) (size most : ℕ) (f : Form) (text : List ℕ) → c.text ≡ code → size ≡ most → c.size ≡ most → c.event ≡ false
        → line_under code size false f text ≡ item_line (BodyItem.Changes (record { code = c; form = model_form f; text = text }))
    line_of c code size most form.Scalar text name told is none = rw (sym name, told, sym is, none) refl
    line_of c code size most form.Vector text name told is none = rw (sym name, told, sym is, none) refl
    line_of c code size most form.RealText text name told is none = rw (sym name, none) refl
