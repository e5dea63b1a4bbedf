-- A change by a digit with its code right after it, of which the code was found.
use Rattle.vcd_body.proofs.Cited.{◌≡◌, ◌⊎◌, ℕ, ◌+◌, ◌-◌, ◌∙◌, ◌<◌, ◌≤◌, false, List, [], ◌∷◌, None, length, take, drop, sym, subst, arith, Bor, false≢true, Token, bytes_of, longest_of, passed_of, start_of, line_ahead, Ahead, Found, HeadView, IsFoundScalar, Opens, TakesItem, Opening, Regs}
use Rattle.vcd_body.specs.declared.item.Form.TheVariants as form
use Rattle.vcd_body.specs.declared.item.Item.TheVariants as item
use Rattle.vcd_body.specs.declared.words.PhraseKind.TheVariants as kind
use Rattle.vcd_body.proofs.AheadLemmas.{passes_same, scalar_taken}
use Rattle.vcd_body.proofs.LineLemmas.{begins_after, token_begun, token_there, scalar_there, scalar_places}
use Rattle.vcd_body.proofs.WordLemmas.{scalar_begins}

-- where its token was taken, it was
pub scalar_takes : (v : HeadView) (a a' : Ahead) (r : Regs) (o : Opening) (f : Found) (text : Bor (List ℕ)) → Opens a a' o → (o.kind ≡ kind.Bit) ⊎ (o.kind ≡ kind.Scalar)
    → IsFoundScalar v o.token.now f → text.now ≡ take 1 o.token.now → (bytes : Bor (List ℕ)) → bytes.now ≡ bytes_of a' → (end : ℕ) → end ≡ passed_of a'
    → TakesItem v a a' r
    (record { item = item.Change f.position form.Scalar; text = text; size_or_zero = f.size_or_zero; bytes = bytes; begin = passed_of a' - 1 - length o.token.now; at = passed_of a' - 1 - length o.token.now; code_at = passed_of a' - 1 - length o.token.now + 1; end = end; bits = None; binary = false })
scalar_takes v a a' r o f text opens is found text_is there_in there_is end ends =
    let token = o.token.now in
    let bytes = bytes_of a in
    let from = passed_of a in
    let to = passed_of a' in
    let taken = opens.token in
    let further = taken.further in
    let less : from < to = omega (arith, further) in
    let begins = scalar_begins token o.kind is opens.begins in
    let there = token_there bytes from to token taken.further taken.within taken.before taken.place in
    let begun = token_begun bytes from to token there in
    record {
      gives = λ h limit lines bytes before items views over k g.
          let one = passes_same limit (longest_of a) lines bytes (bytes_of a) from to (start_of a' token) token over.0 over.1 (taken.gives lines) g.tokens g.passed in
          scalar_taken h.codes limit lines bytes before items from r g k to f.position
          (line_ahead lines bytes (start_of a' token)) token text.now less one text_is (λ earlier. found.code h earlier views);
      passes = λ limit lines bytes ts over p.
          let t : Token = record { bytes = token; line = line_ahead lines bytes (start_of a' token) } in
          (t ∷ [], passes_same limit (longest_of a) lines bytes (bytes_of a) from to (start_of a' token) token over.0 over.1 (taken.gives lines) ts p);
      sound = rw text_is found.sound;
      scanned = tt;
      sized = found.sized;
      bits = tt;
      binary = λ e. absurd (false≢true e);
      bytes = there_is;
      before = begins_after bytes from to token there;
      ends = ends;
      spelled = rw (there_is ∙ taken.same.0, ends) (
        drop 1 token,
        scalar_there bytes _ _ token _ begins.0 begins.1 begins.3 text_is begun,
        found.names,
        scalar_places bytes _ _ token _ begins.0 begins.1 begins.3 text_is begun,
      );
      further = less;
      within = subst (λ (bs : _). to ≤ length bs) (sym taken.same.0) taken.within;
      same = taken.same;
    }
