-- Items that a strobe takes ahead in a chunk, one after the other.
use Rattle.std.proofs.Common.{◌≡◌, ◌⊎◌, inl, inr, ℕ, ◌+◌, ◌<◌, ◌≤◌, ◌^◌, false, List, [], ◌∷◌, ◌++◌, length, Result, Ok, Err, refl, sym, ap, subst, ◌∙◌, arith, append-nil, append_assoc, length-append}
use Rattle.std.specs.Prelude.{IfOk, ⊤}
use Rattle.std.proofs.lemmas.Bool.{false≢true}
use Rattle.vcd_model.specs.Header.{Header}
use Rattle.vcd_model.specs.Items.{BodyItem}
use Rattle.vcd_text.proofs.Writes.{appends-none, appends-some, appends-twice, counts-on}
use Rattle.vcd_text.specs.Ahead.{bytes_of, longest_of, passed_of}
use Rattle.vcd_text.specs.Device.{Appends, Counts, Device}
use Rattle.vcd_text.specs.declared.ahead.Ahead.{Ahead}
use Rattle.vcd_text.specs.declared.device.WriteFailed.{WriteFailed}
use Rattle.vcd_view.specs.Views.{IsViewOf}
use Rattle.vcd_view.specs.declared.view.HeadView.{HeadView}
use Rattle.vcd_body.proofs.WalkLemmas.{walk_passes}
use Rattle.vcd_body.proofs.CallerLemmas.{gave_none_ahead}
use Rattle.vcd_body.specs.Ahead.{GaveAhead, LooksOver, PassesNoItem}
use Rattle.vcd_body.specs.Device.{TakesDue}
use Rattle.vcd_body.specs.Given.{IsItem}
use Rattle.vcd_body.specs.Items.{AreRegsAfter, regs_after}
use Rattle.vcd_body.specs.Taken.{IsSection}
use Rattle.vcd_body.specs.Walk.{Begins, Further, Past, Stage, Trail, Walks, as_done, stage_at}
use Rattle.vcd_body.specs.declared.item.Item.{Item}
use Rattle.vcd_body.specs.declared.item.Item.TheVariants as item
use Rattle.vcd_body.specs.declared.item.Regs.{Regs}
use Rattle.vcd_body.specs.declared.item.Section.{Section}
use Rattle.vcd_body.specs.declared.walk.WalkEnd.{WalkEnd}
use Rattle.vcd_body.specs.declared.walk.WalkEnd.TheVariants.{AtItem, AtLines, Over}
use Rattle.vcd_run.specs.Plan.{Plan}
use Rattle.vcd_run.specs.Task.{EndsAhead, RunsOver}
use Rattle.vcd_strobe.proofs.FixedSteps.{same_itself, same_then}
use Rattle.vcd_strobe.proofs.TaskSteps.{takes_rest}
use Rattle.vcd_strobe.specs.Ahead.{IsReady, StrobesOne}
use Rattle.vcd_strobe.specs.Strobes.{HasStrobed, SameStrobe}
use Rattle.vcd_strobe.specs.declared.ahead.EachItem.{EachItem}
use Rattle.vcd_strobe.specs.declared.whole.Strobe.{Strobe}

-- ---- an item that is no change

abbrev Rests : Item → Type 0
Rests one = ((t : ℕ) × (one ≡ item.Time t)) ⊎ (((b : Section) × (one ≡ item.Begin b)) ⊎ ((one ≡ item.End) ⊎ (one ≡ item.Finish)))

pub section_rests : (one : Item) → IsSection one → Rests one
section_rests (item.Begin b) is = inr (inl (b, refl))
section_rests item.End is = inr (inr (inl refl))
section_rests (item.Time t) is = absurd is
section_rests (item.Change code form) is = absurd is
section_rests item.Finish is = absurd is

pub rest_next : (s : Strobe) (p : Plan) (h : Header) (items : List BodyItem) (has : HasStrobed s p h items) (text : List ℕ) (x : BodyItem)
    (one : Item) (before : Regs) (out : Device)
    → AreRegsAfter (items ++ x ∷ []) (regs_after before one) → IsItem h.codes text one x → Rests one
    → TakesDue {A = Unit {0}} {E = WriteFailed} out out (p.opens items) (p.opens (items ++ x ∷ [])) (Ok tt) × HasStrobed s p h (items ++ x ∷ [])
rest_next s p h items has text x one before out known read is =
    let t = takes_rest {E = WriteFailed} {T = λ (l : List BodyItem) (t : List ℕ). ⊤} s p h items has text x one before (regs_after before one) out known refl read is in (t.due, t.keeps_on refl)

-- ---- a walk

module _ (v : HeadView) (s : Stage EachItem Strobe) where
  -- after the items before, some that lie ahead were taken, and what was due with them was written
  record Taken (p : Plan) (h : Header) (lines : ℕ) (before : List BodyItem) (z : Stage EachItem Strobe) : Type 0 where
    pub more : List BodyItem
    pub gave : GaveAhead h.codes (longest_of s.ahead) lines (bytes_of s.ahead) (passed_of z.ahead) before more
    pub known : AreRegsAfter (before ++ more) z.regs
    pub has : HasStrobed z.command p h (before ++ more)
    pub due : List ℕ
    pub due_is : p.opens (before ++ more) ≡ p.opens before ++ due
    pub written : Appends s.out.held z.out.held due

  -- the same after any items
  record HasTaken (z : Stage EachItem Strobe) : Type 0 where
    pub over : LooksOver (longest_of s.ahead) (bytes_of s.ahead) z.ahead
    pub within : passed_of z.ahead ≤ length (bytes_of s.ahead)
    pub takes : (p : Plan) (h : Header) (lines : ℕ) (before : List BodyItem) → IsViewOf v h → AreRegsAfter before s.regs
        → length before + length (bytes_of s.ahead) < 2 ^ 63 → HasStrobed s.command p h before → Taken p h lines before z

  -- one item more, or a failed write of what is due with it
  module _ (b c : Stage EachItem Strobe) (so_far : HasTaken b) (p : Plan) (h : Header) (lines : ℕ) (before : List BodyItem) (views : IsViewOf v h)
      (known : AreRegsAfter before s.regs)
      (few : length before + length (bytes_of s.ahead) < 2 ^ 63) (has : HasStrobed s.command p h before) (result : Result (Unit {0}) WriteFailed)
      (one : StrobesOne v b c result) where
    abbrev t : Taken p h lines before b
    t = so_far.takes p h lines before views known few has

    n : (x : BodyItem) × IsItem h.codes one.scanned.text.now one.scanned.item x
        × GaveAhead h.codes (longest_of s.ahead) lines (bytes_of s.ahead) (passed_of c.ahead) before (t.more ++ x ∷ [])
        × AreRegsAfter (before ++ (t.more ++ x ∷ [])) (regs_after b.regs one.scanned.item)
    n = one.item.gives h (longest_of s.ahead) lines (bytes_of s.ahead) before t.more views so_far.over t.known t.gave

    assoc : (before ++ t.more) ++ n.0 ∷ [] ≡ before ++ (t.more ++ n.0 ∷ [])
    assoc = append_assoc before t.more (n.0 ∷ [])

    fewer : length (before ++ t.more) < 2 ^ 63
    fewer = let each = t.gave.few in let within = so_far.within in omega (arith, length-append before t.more, each, within, few)

    did : TakesDue b.out c.out (p.opens (before ++ t.more)) (p.opens ((before ++ t.more) ++ n.0 ∷ [])) result
        × IfOk result (λ _. HasStrobed c.command p h ((before ++ t.more) ++ n.0 ∷ []))
    did = one.on p h (before ++ t.more) n.0 views n.1 t.known (subst (λ (l : List BodyItem). AreRegsAfter l (regs_after b.regs one.scanned.item))
        (sym assoc) n.3) fewer t.has

    known_then : AreRegsAfter (before ++ (t.more ++ n.0 ∷ [])) c.regs
    known_then = subst (AreRegsAfter (before ++ (t.more ++ n.0 ∷ []))) (sym one.regs) n.3

    due_then : p.opens (before ++ (t.more ++ n.0 ∷ [])) ≡ p.opens before ++ (t.due ++ did.0.0)
    due_then = ap p.opens (sym assoc) ∙ did.0.1 ∙ ap (λ l. l ++ did.0.0) t.due_is ∙ append_assoc (p.opens before) t.due did.0.0

  one_more : (b c : Stage EachItem Strobe) → HasTaken b → StrobesOne v b c (Ok tt) → HasTaken c
  one_more b c so_far one = record {
    over = (one.item.same.1 ∙ so_far.over.0, one.item.same.0 ∙ so_far.over.1);
    within = subst (λ (bs : List ℕ). passed_of c.ahead ≤ length bs) (one.item.same.0 ∙ so_far.over.1) one.item.within;
    takes = λ p h lines before views known few has.
        let t = so_far.takes p h lines before views known few has in
        let x = n b c so_far p h lines before views known few has (Ok tt) one in
        let d = did b c so_far p h lines before views known few has (Ok tt) one in
        record {
          more = t.more ++ x.0 ∷ [];
          gave = x.2;
          known = known_then b c so_far p h lines before views known few has (Ok tt) one;
          has = subst (HasStrobed c.command p h) (assoc b c so_far p h lines before views known few has (Ok tt) one) d.1;
          due = t.due ++ d.0.0;
          due_is = due_then b c so_far p h lines before views known few has (Ok tt) one;
          written = appends-twice s.out.held b.out.held c.out.held t.due d.0.0 t.written d.0.2;
        };
  }

  none_more : (b : Stage EachItem Strobe) (there : Ahead) → HasTaken b → PassesNoItem b.ahead there → HasTaken (stage_at there b.regs b.visit b.command b.out)
  none_more b there so_far none = record {
    over = (none.same.1 ∙ so_far.over.0, none.same.0 ∙ so_far.over.1);
    within = subst (λ (bs : List ℕ). passed_of there ≤ length bs) (none.same.0 ∙ so_far.over.1)
        (none.within (subst (λ (bs : List ℕ). passed_of b.ahead ≤ length bs) (sym so_far.over.1) so_far.within));
    takes = λ p h lines before views known few has.
        let t = so_far.takes p h lines before views known few has in
        record {
          more = t.more;
          gave = none.gives h.codes (longest_of s.ahead) lines (bytes_of s.ahead) before t.more so_far.over t.gave;
          known = t.known;
          has = t.has;
          due = t.due;
          due_is = t.due_is;
          written = t.written;
        };
  }

  module _ (first : passed_of s.ahead ≡ 0) where
    none_yet : HasTaken s
    none_yet = record {
      over = (refl, refl);
      within = omega (arith, first);
      takes = λ p h lines before views known few has.
          let nil = append-nil before in
          record {
            more = [];
            gave = subst (λ (n : ℕ). GaveAhead h.codes (longest_of s.ahead) lines (bytes_of s.ahead) n before []) (sym first)
                (gave_none_ahead h.codes (longest_of s.ahead) lines (bytes_of s.ahead) before);
            known = subst (λ (l : List BodyItem). AreRegsAfter l s.regs) (sym nil) known;
            has = subst (HasStrobed s.command p h) (sym nil) has;
            due = [];
            due_is = ap p.opens nil ∙ sym (append-nil (p.opens before));
            written = appends-none s.out.held;
          };
    }

    along : (z : Stage EachItem Strobe) → Trail StrobesOne IsReady (λ _. false) v s z → HasTaken z
    along z Begins = none_yet
    along _ (Further b c so_far one on) = one_more b c (along b so_far) one.did
    along _ (Past b c so_far there none is) = rw is (none_more b there (along b so_far) none)

  module _ (z : Stage EachItem Strobe) where
    abbrev Walked : Result WalkEnd WriteFailed → Type 0
    Walked ended = Walks StrobesOne IsReady (λ _. false) v s z ended

    goes : (p : Plan) (h : Header) (before more : List BodyItem) → HasStrobed s.command p h before → p.ends more ≡ false
    goes p h before more has = ap (λ (q : Plan). q.ends more) has.by_plan

    counts : (ended : Result WalkEnd WriteFailed) → Walked ended → Counts s.out z.out (as_done ended)
    counts (Ok AtLines) w = absurd w
    counts (Ok AtItem) w = w.failures
    counts (Ok Over) w = absurd (false≢true w.3)
    counts (Err e) w = counts-on {A = Unit {0}} s.out w.0.out z.out (Err e) w.1.failures w.2.counts

    along_same : (y : Stage EachItem Strobe) → Trail StrobesOne IsReady (λ _. false) v s y → SameStrobe s.command y.command
    along_same y Begins = same_itself s.command
    along_same _ (Further b c so_far one on) = same_then s.command b.command c.command (along_same b so_far) one.did.same
    along_same _ (Past b c so_far there none is) = rw is (along_same b so_far)

    -- the clocks stay, even if a write failed
    pub same_ahead : (ended : Result WalkEnd WriteFailed) → Walked ended → SameStrobe s.command z.command
    same_ahead (Ok AtLines) w = absurd w
    same_ahead (Ok AtItem) w = along_same z w.trail
    same_ahead (Ok Over) w = absurd (false≢true w.3)
    same_ahead (Err e) w = let b = w.0 in same_then s.command b.command z.command (along_same b w.1.trail) w.2.did.same

    pub ready_ahead : (ended : Result WalkEnd WriteFailed) → Walked ended → IfOk (as_done ended) (λ _. z.command.count ≤ length z.command.listed.now)
    ready_ahead (Ok AtLines) w = absurd w
    ready_ahead (Ok AtItem) w = w.on
    ready_ahead (Ok Over) w = absurd (false≢true w.3)
    ready_ahead (Err e) w = tt

    gives : (ended : Result WalkEnd WriteFailed) → Walked ended → (p : Plan) (h : Header) (lines : ℕ) (before : List BodyItem) → IsViewOf v h
        → AreRegsAfter before s.regs
        → length before + length (bytes_of s.ahead) < 2 ^ 63 → HasStrobed s.command p h before → p.ends before ≡ false → passed_of s.ahead ≡ 0
        → (items : List BodyItem) × EndsAhead HasStrobed p h (longest_of s.ahead) lines (bytes_of s.ahead)
        (passed_of z.ahead) z.command z.regs s.out z.out (as_done ended) before items
    gives (Ok AtLines) w p h lines before views known few has on first = absurd w
    gives (Ok AtItem) w p h lines before views known few has on first =
        let t = (along first z w.trail).takes p h lines before views known few has in
        (t.more, (t.gave, t.known, t.has, goes p h before (before ++ t.more) has, (t.due, t.due_is, (t.written, w.failures))))
    gives (Ok Over) w p h lines before views known few has on first = absurd (false≢true w.3)
    gives (Err e) w p h lines before views known few has on first =
        let b = w.0 in
        let so_far = along first b w.1.trail in
        let t = so_far.takes p h lines before views known few has in
        let x = n b z so_far p h lines before views known few has (Err e) w.2.did in
        let d = did b z so_far p h lines before views known few has (Err e) w.2.did in (
          t.more ++ x.0 ∷ [],
          (
            x.2,
            known_then b z so_far p h lines before views known few has (Err e) w.2.did,
            (
              t.due ++ d.0.0,
              due_then b z so_far p h lines before views known few has (Err e) w.2.did,
              (appends-some s.out.held b.out.held z.out.held t.due d.0.0 t.written d.0.2, counts (Err e) w),
            ),
          ),
        )

    pub runs_ahead : (ended : Result WalkEnd WriteFailed) → Walked ended
        → RunsOver HasStrobed v s.ahead s.regs s.command z.command s.out z.out (record { passed = passed_of z.ahead; regs = z.regs; written = as_done ended })
    runs_ahead ended w = record {
      gives = gives ended w;
      passes = λ lines first. (walk_passes StrobesOne IsReady (λ _. false) v s (longest_of s.ahead) lines (bytes_of s.ahead) []
          (refl, refl) first z ended w).1;
      counts = counts ended w;
    }
