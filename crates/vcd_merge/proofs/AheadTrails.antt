-- Items of one input of a merge that lie ahead in its feed's chunk, taken one after the other.
use Rattle.vcd_merge.proofs.Cited.{◌≡◌, ℕ, ◌+◌, ◌*◌, ◌^◌, ◌<◌, Bool, true, false, List, [], ◌∷◌, ◌++◌, length, Option, Result, Ok, Err, refl, sym, ap, subst, ◌∙◌, mul_comm, nat_le, arith, IfOk, leb-false, IdCode, Header, BodyItem, is_too_large, due_with, entry_for, written_with, all_append, bytes_of, longest_of, passed_of, Counts, Takes, Writes, WritesSome, WriteFailed, appends-none, IsViewOf, HeadView, GaveAhead, LooksOver, IsItem, AreRegsAfter, regs_after, IsSection, TakesItem, Begins, Past, Walks, ScannedItem, Form, Item, Begin, End, Finish, Time, Regs, section_time, IsAhead, MergeStage, OneAhead, PutsDue, RunsAhead, SameMerging, StageAhead, TakesNext, Merging, WalkEnd, AtItem, AtLines, Over, over_of}
use Rattle.vcd_body.specs.Walk.{Further as Goes_further, Trail}
use Rattle.vcd_body.specs.declared.item.Item.TheVariants.{Change}
use Rattle.vcd_merge.specs.MergeAhead.{Further}
use Rattle.vcd_merge.proofs.SeatLemmas.{not_large}

-- ---- a section's begin or end

small_section : (factor : ℕ) (codes : List IdCode) (text : List ℕ) (it : Item) (x : BodyItem) → IsSection it → IsItem codes text it x → is_too_large factor x ≡ false
small_section factor codes text (Begin s) x is at = rw at refl
small_section factor codes text End x is at = rw at refl
small_section factor codes text (Time t) x is at = absurd is
small_section factor codes text (Change place f) x is at = absurd is
small_section factor codes text Finish x is at = absurd is

none_due : (written : Option ℕ) (scale first : ℕ) (h : Header) (items : List BodyItem) (text : List ℕ) (it : Item) (x : BodyItem) → IsSection it
    → IsItem h.codes text it x → (due_with written (entry_for scale first h items x) ≡ [])
    × (written_with written (entry_for scale first h items x) ≡ written)
none_due written scale first h items text (Begin s) x is at = rw at (refl, refl)
none_due written scale first h items text End x is at = rw at (refl, refl)
none_due written scale first h items text (Time t) x is at = absurd is
none_due written scale first h items text (Change place f) x is at = absurd is
none_due written scale first h items text Finish x is at = absurd is

-- ---- one item

same_merging : (m m' : Merging) → m' ≡ m → SameMerging m m'
same_merging m m' e = rw e (record { factor = refl; first = refl; before = refl })

module _ (v : HeadView) (s t : MergeStage) (p : ScannedItem) (item : TakesItem v s.ahead t.ahead s.regs p) where
  pub change_taken : (place : ℕ) (f : Form) (result : Result (Unit {0}) WriteFailed) → p.item ≡ Change place f → t.regs ≡ s.regs → t.visit ≡ s.visit
      → PutsDue v.codes.now p.text.now p.item s.regs s.visit.time s.visit.first s.command t.command s.out t.out result → TakesNext v s t result
  change_taken place f result e regs visit puts = record {
    scanned = p;
    item = item;
    regs = subst (λ (i : Item). t.regs ≡ regs_after s.regs i) (sym e) regs;
    same = same_merging s.visit t.visit visit;
    time = λ scale factor time. rw (visit, regs) time;
    small = λ codes text x at. let read = subst (λ (i : Item). IsItem codes text i x) e at in rw read.2 refl;
    puts = puts;
  }

  pub mark_taken : (time : ℕ) → p.item ≡ Time time → time * s.visit.factor < 2 ^ 64 → SameMerging s.visit t.visit → t.regs ≡ regs_after s.regs p.item
      → t.visit.time ≡ time * s.visit.factor → t.command ≡ s.command → t.out ≡ s.out → TakesNext v s t (Ok tt)
  mark_taken time e fits same regs is written out = record {
    scanned = p;
    item = item;
    regs = regs;
    same = same;
    time = λ scale factor now. is ∙ mul_comm time s.visit.factor ∙ ap (λ n. n * time) factor
        ∙ ap (λ n. scale * n) (sym (ap (λ (r : Regs). r.time) regs ∙ ap (λ (i : Item). (regs_after s.regs i).time) e));
    small = λ codes text x at. let y : x ≡ BodyItem.Time time = subst (λ (i : Item). IsItem codes text i x) e at in
        subst (λ (z : BodyItem). is_too_large s.visit.factor z ≡ false) (sym y) (not_large s.visit.factor time fits);
    puts = λ w scale first h items x same views known now number few at.
        let y : x ≡ BodyItem.Time time = subst (λ (i : Item). IsItem h.codes p.text.now i x) e at in
        rw (y, written, out) (appends-none s.out.held, refl);
  }

  pub section_taken : IsSection p.item → t.regs ≡ regs_after s.regs p.item → t.visit ≡ s.visit → t.command ≡ s.command → t.out ≡ s.out → TakesNext v s t (Ok tt)
  section_taken is regs visit written out = record {
    scanned = p;
    item = item;
    regs = regs;
    same = same_merging s.visit t.visit visit;
    time = λ scale factor time. ap (λ (m : Merging). m.time) visit ∙ time ∙ ap (λ n. scale * n) (sym (ap (λ (r : Regs). r.time) regs ∙ section_time s.regs p.item is));
    small = λ codes text x at. small_section s.visit.factor codes text p.item x is at;
    puts = λ w scale first h items x same views known now number few at.
        let none = none_due s.command scale first h items p.text.now p.item x is at in
        rw (none.0, none.1, written, out) (appends-none s.out.held, refl);
  }

-- ---- one item more after others

module _ {scale first : ℕ} {h : Header} {limit lines : ℕ} {bytes : List ℕ} {behind : List BodyItem} {v : HeadView} {s t : MergeStage} {result : Result
    (Unit {0}) WriteFailed} (few : first + length h.codes < 2 ^ 64) (views : IsViewOf v h) (n : TakesNext v s t result)
    (over : LooksOver limit bytes s.ahead) (factor : s.visit.factor ≡ scale) (first_is : s.visit.first ≡ first) {items : List BodyItem}
    (at : IsAhead scale h limit lines bytes behind (passed_of s.ahead) items s.regs s.visit.time) where
  pub one : (x : BodyItem) × IsItem h.codes n.scanned.text.now n.scanned.item x
      × GaveAhead h.codes limit lines bytes (passed_of t.ahead) behind (items ++ x ∷ [])
      × AreRegsAfter (behind ++ (items ++ x ∷ [])) (regs_after s.regs n.scanned.item)
  one = n.item.gives h limit lines bytes behind items views over at.known at.gave

  abbrev pub next_item : BodyItem
  next_item = one.0

  abbrev pub stage : StageAhead
  stage = record { at = passed_of s.ahead; items = items; regs = s.regs; time = s.visit.time; written = s.command; out = s.out }

  pub ahead_next : IsAhead scale h limit lines bytes behind (passed_of t.ahead) (items ++ next_item ∷ []) t.regs t.visit.time
  ahead_next =
      let small = subst (λ m. is_too_large m next_item ≡ false) factor (n.small h.codes n.scanned.text.now next_item one.1) in record {
        gave = one.2;
        known = subst (AreRegsAfter (behind ++ (items ++ next_item ∷ []))) (sym n.regs) one.3;
        small = all_append (λ y. is_too_large scale y ≡ false) items (next_item ∷ []) at.small (small, tt);
        time_is = n.time scale factor at.time_is;
      }

  put : Takes s.out t.out (due_with s.command (entry_for scale first h (behind ++ items) next_item)) result
      × IfOk result (λ _. t.command ≡ written_with s.command (entry_for scale first h (behind ++ items) next_item))
  put = n.puts v scale first h (behind ++ items) next_item refl views at.known (at.time_is ∙ ap (λ m. scale * m) at.known.time_is) first_is few one.1

  -- what is due with it was written
  pub one_next : result ≡ Ok tt → Counts s.out t.out result → OneAhead scale first h limit lines bytes behind stage next_item (passed_of t.ahead) t.regs t.visit.time t.command t.out
  one_next e counts = record {
    ahead = ahead_next;
    written_is = subst (λ (r : Result (Unit {0}) WriteFailed). IfOk r (λ _. t.command ≡ written_with s.command (entry_for scale first h (behind ++ items) next_item))) e put.1;
    writes = (
      subst (λ (r : Result (Unit {0}) WriteFailed). Takes s.out t.out
          (due_with s.command (entry_for scale first h (behind ++ items) next_item)) r) e put.0,
      subst (λ (r : Result (Unit {0}) WriteFailed). Counts s.out t.out r) e counts,
    );
  }

  -- or a prefix of that
  pub some_next : (e : WriteFailed) → result ≡ Err e → Counts s.out t.out result → WritesSome s.out t.out (due_with s.command (entry_for scale first h (behind ++ items) next_item))
  some_next f e counts = (
    subst (λ (r : Result (Unit {0}) WriteFailed). Takes s.out t.out
        (due_with s.command (entry_for scale first h (behind ++ items) next_item)) r) e put.0,
    subst (λ (r : Result (Unit {0}) WriteFailed). Counts s.out t.out r) e counts,
  )

-- ---- a run of items, one of which is the next

module _ (scale first : ℕ) (h : Header) (limit lines : ℕ) (bytes : List ℕ) (behind : List BodyItem) (few : first + length h.codes < 2 ^ 64)
    (v : HeadView) (views : IsViewOf v h) (s t : MergeStage) (result : Result (Unit {0}) WriteFailed) (n : TakesNext v s t result)
    (counts : Counts s.out t.out result) (over : LooksOver limit bytes s.ahead) (factor : s.visit.factor ≡ scale) (first_is : s.visit.first ≡ first)
    (before : ℕ) (start : StageAhead) where
  abbrev RunsTo : MergeStage → Result Bool WriteFailed → Type 0
  RunsTo z ended = RunsAhead scale first h limit lines bytes behind {E = WriteFailed} before start (passed_of z.ahead) z.regs z.visit.time z.command z.out ended

  module _ (r : RunsTo s (Ok false)) where
    next : BodyItem
    next = next_item few views n over factor first_is r.ends.0

    one_more : result ≡ Ok tt → OneAhead scale first h limit lines bytes behind r.mid next (passed_of t.ahead) t.regs t.visit.time t.command t.out
    unfolding next
    one_more e =
        let m = r.mid in
        let (at, same, out_is) = r.ends in
        let o = one_next few views n over factor first_is at e counts in record {
          ahead = o.ahead;
          written_is = o.written_is ∙ ap (λ w. written_with w (entry_for scale first h (behind ++ m.items) next)) same;
          writes = subst (λ w. Writes m.out t.out (due_with w (entry_for scale first h (behind ++ m.items) next))) same
              (subst (λ d. Writes d t.out (due_with s.command (entry_for scale first h (behind ++ m.items) next))) out_is o.writes);
        }

    -- the run continues with it
    pub runs_on : result ≡ Ok tt → t.visit.time < before → RunsTo t (Ok false)
    runs_on e early =
        let m = r.mid in
        let o = one_more e in
        let c : StageAhead = record { at = passed_of t.ahead; items = m.items ++ next ∷ []; regs = t.regs; time = t.visit.time; written = t.command; out = t.out } in
        record { mid = c; trail = Further m c next r.trail refl o early; ends = (o.ahead, refl, refl) }

    -- it is the last one
    pub runs_out : result ≡ Ok tt → RunsTo t (Ok true)
    runs_out e = record { mid = r.mid; trail = r.trail; ends = (next, one_more e) }

    -- a write of what is due with it failed
    pub runs_failed : (f : WriteFailed) → result ≡ Err f → RunsTo t (Err f)
    unfolding next
    runs_failed f e =
        let m = r.mid in
        let (at, same, out_is) = r.ends in
        let some = some_next few views n over factor first_is at f e counts in
        let due = subst (λ w. WritesSome m.out t.out (due_with w (entry_for scale first h (behind ++ m.items) next))) same
        (subst (λ d. WritesSome d t.out (due_with s.command (entry_for scale first h (behind ++ m.items) next))) out_is some) in
        record { mid = m; trail = r.trail; ends = (next, ahead_next few views n over factor first_is at, due) }

-- ---- a walk

module _ (v : HeadView) (stands : Merging → Option ℕ → List ℕ → Regs → Type 0) (s : MergeStage) where
  abbrev pub is_out : Merging → Bool
  is_out m = nat_le m.before m.time

  -- where a run continues, the walk takes more items, and it continues after them or ends
  abbrev pub Runs : MergeStage → Result Bool WriteFailed → Type 0
  Runs z ended = (scale first lines : ℕ) (h : Header) (behind : List BodyItem) (start : StageAhead) → IsViewOf v h → s.visit.factor ≡ scale
      → s.visit.first ≡ first → first + length h.codes < 2 ^ 64
      → RunsAhead scale first h (longest_of s.ahead) lines (bytes_of s.ahead) behind {E = WriteFailed} s.visit.before start (passed_of s.ahead) s.regs s.visit.time s.command s.out (Ok false)
      → RunsAhead scale first h (longest_of s.ahead) lines (bytes_of s.ahead) behind {E = WriteFailed} s.visit.before start (passed_of z.ahead) z.regs z.visit.time z.command z.out ended

  -- over the same bytes, and for the same input
  record Comes (z : MergeStage) : Type 0 where
    over : LooksOver (longest_of s.ahead) (bytes_of s.ahead) z.ahead
    same : SameMerging s.visit z.visit
    runs : Runs z (Ok false)

  early : (z : MergeStage) → z.visit.before ≡ s.visit.before → is_out z.visit ≡ false → z.visit.time < s.visit.before
  early z e on = let less = leb-false z.visit.before z.visit.time on in omega (arith, e, less)

  along : (z : MergeStage) → Trail TakesNext stands is_out v s z → Comes z
  along z Begins = record { over = (refl, refl); same = same_merging s.visit s.visit refl; runs = λ scale first lines h behind start views factor first_is few r. r }
  along _ (Goes_further b c so_far one on) =
      let so = along b so_far in
      let n = one.did in
      let before = n.same.before ∙ so.same.before in
      record {
        over = (n.item.same.1 ∙ so.over.0, n.item.same.0 ∙ so.over.1);
        same = record { factor = n.same.factor ∙ so.same.factor; first = n.same.first ∙ so.same.first; before = before };
        runs = λ scale first lines h behind start views factor first_is few r.
            runs_on scale first h (longest_of s.ahead) lines (bytes_of s.ahead) behind few v views b c (Ok tt) n one.counts so.over (so.same.factor
            ∙ factor) (so.same.first ∙ first_is) s.visit.before start (so.runs scale first lines h behind start views factor first_is few r) refl
            (early c before on);
      }
  along _ (Past b c so_far there none is) =
      let so = along b so_far in
      rw is (record {
        over = (none.same.1 ∙ so.over.0, none.same.0 ∙ so.over.1);
        same = so.same;
        runs = λ scale first lines h behind start views factor first_is few r.
            let run = so.runs scale first lines h behind start views factor first_is few r in
            let at = run.ends.0 in
            let gave = none.gives h.codes (longest_of s.ahead) lines (bytes_of s.ahead) behind run.mid.items so.over at.gave in
            record { mid = run.mid; trail = run.trail; ends = (record { gave = gave; known = at.known; small = at.small; time_is = at.time_is }, run.ends.1, run.ends.2) };
      })

  -- it ends so
  pub walk_runs : (z : MergeStage) (ended : Result WalkEnd WriteFailed) → Walks TakesNext stands is_out v s z ended → Runs z (over_of ended)
  walk_runs z (Ok AtLines) w = absurd w
  walk_runs z (Ok AtItem) w = (along z w.trail).runs
  walk_runs z (Ok Over) w = λ scale first lines h behind start views factor first_is few r.
      let m = w.0 in
      let so = along m w.1.trail in
      let one = w.2 in
      runs_out scale first h (longest_of s.ahead) lines (bytes_of s.ahead) behind few v views m z (Ok tt) one.did one.counts so.over (so.same.factor
      ∙ factor) (so.same.first ∙ first_is) s.visit.before start (so.runs scale first lines h behind start views factor first_is few r) refl
  walk_runs z (Err f) w = λ scale first lines h behind start views factor first_is few r.
      let m = w.0 in
      let so = along m w.1.trail in
      let one = w.2 in
      runs_failed scale first h (longest_of s.ahead) lines (bytes_of s.ahead) behind few v views m z (Err f) one.did one.counts so.over
      (so.same.factor ∙ factor) (so.same.first ∙ first_is) s.visit.before start
      (so.runs scale first lines h behind start views factor first_is few r) f refl
