-- Rows of items that lie ahead in a feed's chunk, one item after the other.
use Rattle.vcd_changes.proofs.Cited.{◌≡◌, ◌∙◌, ℕ, Bool, true, false, cond, List, [], ◌∷◌, ◌++◌, Result, Ok, Err, Some, ap, append_assoc, append-nil, refl, slice_get, subst, sym, IdCode, Header, BodyItem, time_after, Token, bytes_of, longest_of, passed_of, Passed, Ahead, WriteFailed, IsViewOf, HeadView, GaveAhead, LooksOver, PassesNoItem, AreRegsAfter, Begins, Further, Past, Trail, Walks, stage_at, Regs, gave_none_ahead, row_added, Added, Came, HasRoom, RowStage, SameRows, TakesRow, filled, is_full, passed_at, passed_with, rows_at, ChangeRow, Collecting, Rows, WalkEnd, AtItem, AtLines, Over}
use Rattle.vcd_changes.proofs.RowLemmas.{filled_more, filled_none, row_more}

module _ (v : HeadView) (stands : Collecting → Rows → List ℕ → Regs → Type 0) (s : RowStage) where
  -- where the rows are not full, all that was taken is passed
  all_passed : (z : RowStage) → is_full z.visit ≡ false → passed_at z ≡ passed_of z.ahead
  all_passed z e = ap (λ (b : Bool). cond b z.visit.end (passed_of z.ahead)) e

  module _ (b c : RowStage) (came : Came v s b) (n : TakesRow v b c (Ok tt)) where
    over_on : LooksOver (longest_of s.ahead) (bytes_of s.ahead) c.ahead
    over_on = (n.item.same.1 ∙ came.over.0, n.item.same.0 ∙ came.over.1)

    same_on : SameRows s c
    same_on = record { index = n.same.index ∙ came.same.index; loan = n.same.loan ∙ came.same.loan }

    -- once the rows are full, nothing is added
    came_full : is_full b.visit ≡ true → Came v s c
    came_full e =
        let same = n.full e in
        let here : passed_at b ≡ passed_at c = ap (λ (f : Bool). cond f b.visit.end (passed_of b.ahead)) e
        ∙ sym (ap (λ (f : Bool). cond f b.visit.end (passed_of c.ahead)) e) ∙ sym (ap (passed_with c.ahead) same.0) in record {
          over = over_on;
          same = same_on;
          room = n.room;
          passed = λ lines. let p = came.passed lines in (p.0, subst (λ (k : ℕ). Passed (longest_of s.ahead) lines (bytes_of s.ahead) k p.0) here p.1);
          adds = λ h lines items code views known at.
              let a = came.adds h lines items code views known at in record {
                more = a.more;
                added = a.added;
                gave = subst (λ (k : ℕ). GaveAhead h.codes (longest_of s.ahead) lines (bytes_of s.ahead) k items a.more) here a.gave;
                known = subst (AreRegsAfter (items ++ a.more)) (sym same.2) a.known;
                rows_are = a.rows_are;
                filled_are = same.1 ∙ a.filled_are;
              };
        }

    -- else the item adds its row
    adds_row : is_full b.visit ≡ false → (h : Header) (lines : ℕ) (items : List BodyItem) (code : IdCode) → IsViewOf v h → AreRegsAfter items s.regs
        → slice_get h.codes s.visit.index ≡ Some code → Added s h lines items code c
    adds_row e h lines items code views known at =
        let a = came.adds h lines items code views known at in
        let gave = subst (λ (k : ℕ). GaveAhead h.codes (longest_of s.ahead) lines (bytes_of s.ahead) k items a.more) (all_passed b e) a.gave in
        let one = n.item.gives h (longest_of s.ahead) lines (bytes_of s.ahead) items a.more views came.over a.known gave in
        let after = subst (AreRegsAfter (items ++ (a.more ++ one.0 ∷ []))) (sym n.regs) one.3 in
        let time = subst (λ (l : List BodyItem). c.regs.time ≡ time_after l) (sym (append_assoc items a.more (one.0 ∷ []))) after.time_is in
        let here = subst (λ (k : ℕ). slice_get h.codes k ≡ Some code) (sym came.same.index) at in
        let row : List ChangeRow = row_added b.visit.index c.regs.time n.scanned.text.now n.scanned.item in
        let more = row_more h.codes _ views.index b.visit.index code here n.scanned.text.now c.regs (items ++ a.more) n.scanned.item one.0 one.1 time in record {
          more = a.more ++ one.0 ∷ [];
          added = a.added ++ row;
          gave = subst (λ (k : ℕ). GaveAhead h.codes (longest_of s.ahead) lines (bytes_of s.ahead) k items (a.more ++ one.0 ∷ [])) (sym (n.end e)) one.2;
          known = after;
          rows_are = filled_more code.text items a.more (one.0 ∷ []) a.added row a.rows_are more;
          filled_are = n.added e ∙ ap (λ l. l ++ row) a.filled_are ∙ append_assoc (filled s) a.added row;
        }

    came_on : (full : Bool) → is_full b.visit ≡ full → Came v s c
    came_on true e = came_full e
    came_on false e = record {
      over = over_on;
      same = same_on;
      room = n.room;
      passed = λ lines.
          let p = came.passed lines in
          let q = n.item.passes (longest_of s.ahead) lines (bytes_of s.ahead) p.0 came.over (subst (λ (k : ℕ). Passed (longest_of s.ahead) lines (bytes_of s.ahead) k p.0) (all_passed b e) p.1) in
          (p.0 ++ q.0, subst (λ (k : ℕ). Passed (longest_of s.ahead) lines (bytes_of s.ahead) k (p.0 ++ q.0)) (sym (n.end e)) q.1);
      adds = adds_row e;
    }

  -- no item was passed, so that all bytes up to there are passed unless the rows are full
  at_past : (b : RowStage) (there : Ahead) (passes : ℕ → Type 0) → (passes (passed_of b.ahead) → passes (passed_of there)) → passes (passed_at b) → passes (passed_with there b.visit)
  at_past b there passes on = by_full (is_full b.visit)
    where
      by_full : (full : Bool) → passes (cond full b.visit.end (passed_of b.ahead)) → passes (cond full b.visit.end (passed_of there))
      by_full true p = p
      by_full false p = on p

  came_past : (b : RowStage) (there : Ahead) → Came v s b → PassesNoItem b.ahead there → Came v s (stage_at there b.regs b.visit b.command b.out)
  came_past b there came none = record {
    over = (none.same.1 ∙ came.over.0, none.same.0 ∙ came.over.1);
    same = record { index = came.same.index; loan = came.same.loan };
    room = came.room;
    passed = λ lines.
        at_past b there (λ n. (ts : List Token) × Passed (longest_of s.ahead) lines (bytes_of s.ahead) n ts)
        (λ p. let q = none.passes (longest_of s.ahead) lines (bytes_of s.ahead) p.0 came.over p.1 in (p.0 ++ q.0, q.1))
        (came.passed lines);
    adds = λ h lines items code views known at.
        let a = came.adds h lines items code views known at in record {
          more = a.more;
          added = a.added;
          gave = at_past b there (λ n. GaveAhead h.codes (longest_of s.ahead) lines (bytes_of s.ahead) n items a.more)
              (none.gives h.codes (longest_of s.ahead) lines (bytes_of s.ahead) items a.more came.over) a.gave;
          known = a.known;
          rows_are = a.rows_are;
          filled_are = a.filled_are;
        };
  }

  module _ (new : passed_of s.ahead ≡ 0) (room : is_full s.visit ≡ false) (most : HasRoom s.visit s.command) where
    begins : Came v s s
    begins =
        let none : 0 ≡ passed_at s = sym (all_passed s room ∙ new) in record {
          over = (refl, refl);
          same = record { index = refl; loan = refl };
          room = most;
          passed = λ lines. ([], subst (λ (k : ℕ). Passed (longest_of s.ahead) lines (bytes_of s.ahead) k []) none refl);
          adds = λ h lines items code views known at. record {
            more = [];
            added = [];
            gave = subst (λ (k : ℕ). GaveAhead h.codes (longest_of s.ahead) lines (bytes_of s.ahead) k items []) none (gave_none_ahead h.codes (longest_of s.ahead) lines (bytes_of s.ahead) items);
            known = subst (λ (l : List BodyItem). AreRegsAfter l s.regs) (sym (append-nil items)) known;
            rows_are = filled_none code.text items;
            filled_are = sym (append-nil (filled s));
          };
        }

    along : (z : RowStage) → Trail TakesRow stands (λ _. false) v s z → Came v s z
    along z Begins = begins
    along _ (Further b c so_far one on) = came_on b c (along b so_far) one.did (is_full b.visit) refl
    along _ (Past b c so_far there none is) = rw is (came_past b there (along b so_far) none)

    -- no write fails, and no walk is over
    pub walk_came : (z : RowStage) (ended : Result WalkEnd WriteFailed) → Walks TakesRow stands (λ _. false) v s z ended → Came v s z
    walk_came z (Ok AtLines) on = absurd on
    walk_came z (Ok AtItem) on = along z on.trail
    walk_came z (Ok Over) on = let e = on.3 in absurd (cc)
    walk_came z (Err f) on = let e = on.2.did.done in absurd (cc)

-- whatever the output is, which has no part in it
pub came_by : (v : HeadView) (s z : RowStage) → Came v s z → Came v (rows_at s.ahead s.regs s.visit s.command) (rows_at z.ahead z.regs z.visit z.command)
came_by v s z came = record {
  over = came.over;
  same = record { index = came.same.index; loan = came.same.loan };
  room = came.room;
  passed = came.passed;
  adds = λ h lines items code views known at.
      let a = came.adds h lines items code views known at in record { more = a.more; added = a.added; gave = a.gave; known = a.known; rows_are = a.rows_are; filled_are = a.filled_are };
}
