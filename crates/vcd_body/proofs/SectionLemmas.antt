-- The begin or the end of a section that lies ahead.
use Rattle.vcd_body.proofs.Cited.{◌≡◌, ℕ, ◌-◌, ◌<◌, ◌≤◌, ◌∙◌, false, List, [], ◌∷◌, ◌++◌, append_assoc, is_some, length, None, refl, sym, subst, arith, false≢true, BodyPhrase, items_of, IdCode, BodyItem, Token, bytes_of, longest_of, passed_of, start_of, AreWhite, Passed, line_ahead, Ahead, HeadView, GaveAhead, HasBits, IsPlain, IsSizedItem, HasGoodText, AreRegsAfter, model_section, regs_after, IsSpelledAs, IsSection, IsSectionAt, Opens, TakesItem, Opening, ScannedItem, Item, Begin, Change, End, Finish, Time, Regs}
use Rattle.vcd_body.proofs.AheadLemmas.{TakesOne, one_more, passes_same}
use Rattle.vcd_body.proofs.LineLemmas.{begins_after, token_there}
use Rattle.vcd_body.proofs.PhraseLemmas.{begin_passes, end_passes}
use Rattle.vcd_body.proofs.ReadLemmas.{known_begin, known_end}

module _ (codes : List IdCode) (limit lines : ℕ) (bytes : List ℕ) (before items : List BodyItem) (n : ℕ) (r : Regs)
    (g : GaveAhead codes limit lines bytes n before items) (k : AreRegsAfter (before ++ items) r) where
  -- what is known after the items so far, and after this one
  known : (earlier : List BodyPhrase) → items_of earlier ≡ before ++ items → AreRegsAfter (items_of earlier) r
  known earlier e = subst (λ (l : List BodyItem). AreRegsAfter l r) (sym e) k

  known_after : (x : BodyItem) (r' : Regs) → AreRegsAfter ((before ++ items) ++ x ∷ []) r' → AreRegsAfter (before ++ (items ++ x ∷ [])) r'
  known_after x r' after = subst (λ (l : List BodyItem). AreRegsAfter l r') (append_assoc before items (x ∷ [])) after

  -- its keyword is a phrase of its own
  section_taken : (n' line : ℕ) (token text : List ℕ) (it : Item) → n < n'
      → Passed limit lines bytes n' (g.tokens ++ record { bytes = token; line = line } ∷ []) → IsSectionAt (is_some r.section) token it
      → TakesOne codes limit lines bytes before items n' (regs_after r it) it text
  section_taken n' line token text (Begin s) less p is =
      let x = BodyItem.Begin (model_section s) in (
        x,
        refl,
        one_more codes limit lines bytes before items n n' (record { bytes = token; line = line }) x g less p
            (λ earlier e. begin_passes codes earlier token r (known earlier e) (model_section s) is.0 is.1),
        known_after x _ (known_begin (before ++ items) r s is.1 k),
      )
  section_taken n' line token text End less p is = (
    BodyItem.End,
    refl,
    one_more codes limit lines bytes before items n n' (record { bytes = token; line = line }) BodyItem.End g less p (λ earlier e. end_passes codes earlier token r (known earlier e) is.0 is.1),
    known_after BodyItem.End _ (known_end (before ++ items) r is.1 k),
  )
  section_taken n' line token text (Time t) less p is = absurd is
  section_taken n' line token text (Change place form) less p is = absurd is
  section_taken n' line token text Finish less p is = absurd is

-- where its token was taken, it was
module _ (v : HeadView) (a a' : Ahead) (r : Regs) (o : Opening) (p : ScannedItem) (opens : Opens a a' o) where
  less : passed_of a < passed_of a'
  less = let further = opens.token.further in omega (arith, further)

  ordered : (it : Item) → IsSectionAt (is_some r.section) o.token.now it → p.begin ≤ p.end → IsSpelledAs v p it
  ordered (Begin s) is le = le
  ordered End is le = le
  ordered (Time t) is le = absurd is
  ordered (Change place form) is le = absurd is
  ordered Finish is le = absurd is

  -- it has no text and no size
  plain : (it : Item) → IsSectionAt (is_some r.section) o.token.now it → p.text.now ≡ [] → HasGoodText v.codes.now p.text.now it × IsPlain p.text.now it × IsSizedItem v.codes.now it 0
  plain (Begin s) is none = (tt, none, refl)
  plain End is none = (tt, none, refl)
  plain (Time t) is none = absurd is
  plain (Change place form) is none = absurd is
  plain Finish is none = absurd is

  pub section_takes : p.text.now ≡ [] → p.size_or_zero ≡ 0 → p.bytes.now ≡ bytes_of a' → p.begin ≡ passed_of a' - 1 - length o.token.now
      → p.end ≡ passed_of a' → p.bits ≡ None → p.binary ≡ false → IsSectionAt (is_some r.section) o.token.now p.item → TakesItem v a a' r p
  section_takes none size there_is begin ends bits binary is =
      let token = o.token.now in
      let taken = opens.token in
      let from = passed_of a in
      let to = passed_of a' in
      let facts = plain p.item is none in
      record {
        gives = λ h limit lines bytes before items views over k g.
            let one = passes_same limit (longest_of a) lines bytes (bytes_of a) from to (start_of a' token) token over.0 over.1 (taken.gives lines) g.tokens g.passed in
            section_taken h.codes limit lines bytes before items from r g k to (line_ahead lines bytes (start_of a' token)) token p.text.now p.item less one is;
        passes = λ limit lines bytes ts over passed.
            let t : Token = record { bytes = token; line = line_ahead lines bytes (start_of a' token) } in
            (t ∷ [], passes_same limit (longest_of a) lines bytes (bytes_of a) from to (start_of a' token) token over.0 over.1 (taken.gives lines) ts passed);
        sound = facts.0;
        scanned = facts.1;
        sized = subst (IsSizedItem v.codes.now p.item) (sym size) facts.2;
        bits = subst (HasBits p.item p.text.now) (sym bits) tt;
        binary = λ e. absurd (false≢true (sym binary ∙ e));
        bytes = there_is;
        before = subst (AreWhite (bytes_of a) from) (sym begin) (begins_after (bytes_of a) from to token (token_there (bytes_of a) from to token taken.further taken.within taken.before taken.place));
        ends = ends;
        spelled = ordered p.item is (omega (arith, begin, ends));
        further = less;
        within = subst (λ (bs : List ℕ). to ≤ length bs) (sym taken.same.0) taken.within;
        same = taken.same;
      }

-- it leaves the time
pub section_time : (r : Regs) (it : Item) → IsSection it → (regs_after r it).time ≡ r.time
section_time r (Begin s) is = refl
section_time r End is = refl
section_time r (Time t) is = absurd is
section_time r (Change place form) is = absurd is
section_time r Finish is = absurd is
