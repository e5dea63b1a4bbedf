-- Items that a run takes ahead in a chunk, one after the other.
use Rattle.vcd_compare.proofs.Cited.{◌≡◌, ℕ, false, not, List, [], ◌∷◌, ◌++◌, Result, Ok, Err, refl, sym, ap, subst, ◌∙◌, append-nil, append_assoc, is_empty, Header, BodyItem, Names, within_open, appends-none, bytes_of, longest_of, passed_of, Device, Writes, Ahead, WriteFailed, IsViewOf, HeadView, GaveAhead, LooksOver, PassesNoItem, AreRegsAfter, regs_after, Begins, Further, Past, Stage, Trail, Walks, stage_at, Regs, gave_none_ahead, walk_passes, Plan, RunsOver, model_asked, Compares, ComparesOne, HasHandled, CanGoOn, SameRequest, plan_within, Comparison, Watched, Run, WalkEnd, AtItem, AtLines, Over}
use Rattle.vcd_compare.specs.declared.asked.Asked.{Asked}
use Rattle.vcd_compare.proofs.RunEnds.{not_ended}

abbrev pub Ready : Watched → Comparison → List ℕ → Regs → Type 0
Ready w c bytes r = CanGoOn c

module _ (v : HeadView) (s : Stage Watched Comparison) where
  -- after the items before, some that lie ahead were taken, and nothing was due with them
  record Taken (h : Header) (exceptions : List (List ℕ)) (ns : List Names) (lines : ℕ) (before : List BodyItem) (z : Stage Watched Comparison) : Type 0 where
    pub more : List BodyItem
    pub gave : GaveAhead h.codes (longest_of s.ahead) lines (bytes_of s.ahead) (passed_of z.ahead) before more
    pub known : AreRegsAfter (before ++ more) z.regs
    pub compares : Compares h exceptions ns (before ++ more) z.command z.visit
    pub same_open : within_open (model_asked s.command.current.asked exceptions) h ns (before ++ more) ≡ within_open (model_asked s.command.current.asked exceptions) h ns before

  -- the same after any items
  record HasTaken (z : Stage Watched Comparison) : Type 0 where
    pub over : LooksOver (longest_of s.ahead) (bytes_of s.ahead) z.ahead
    pub same : SameRequest s.command z.command
    pub out : z.out ≡ s.out
    pub takes : (h : Header) (exceptions : List (List ℕ)) (ns : List Names) (lines : ℕ) (before : List BodyItem) → IsViewOf v h
        → AreRegsAfter before s.regs → Compares h exceptions ns before s.command s.visit → Taken h exceptions ns lines before z

  taken_on : (b c : Stage Watched Comparison) → HasTaken b → ComparesOne v b c (Ok tt) → HasTaken c
  taken_on b c so_far one = record {
    over = (one.item.same.1 ∙ so_far.over.0, one.item.same.0 ∙ so_far.over.1);
    same = record { pairs = one.same.pairs ∙ so_far.same.pairs; asked = one.same.asked ∙ so_far.same.asked };
    out = one.out ∙ so_far.out;
    takes = λ h exceptions ns lines before views known compares.
        let t = so_far.takes h exceptions ns lines before views known compares in
        let n = one.item.gives h (longest_of s.ahead) lines (bytes_of s.ahead) before t.more views so_far.over t.known t.gave in
        let assoc = append_assoc before t.more (n.0 ∷ []) in
        let on = one.on h exceptions ns (before ++ t.more) n.0 views n.1 t.known (subst (λ (l : List BodyItem). AreRegsAfter l (regs_after b.regs one.scanned.item)) (sym assoc) n.3) t.compares in
        let open_is = subst (λ (a : Asked). within_open (model_asked a exceptions) h ns ((before ++ t.more) ++ n.0 ∷ []) ≡ within_open
        (model_asked a exceptions) h ns (before ++ t.more)) so_far.same.asked on.1 in
        record {
          more = t.more ++ n.0 ∷ [];
          gave = n.2;
          known = subst (AreRegsAfter (before ++ (t.more ++ n.0 ∷ []))) (sym one.regs) n.3;
          compares = subst (λ (l : List BodyItem). Compares h exceptions ns l c.command c.visit) assoc on.0;
          same_open = ap (within_open (model_asked s.command.current.asked exceptions) h ns) (sym assoc) ∙ open_is ∙ t.same_open;
        };
  }

  taken_past : (b : Stage Watched Comparison) (there : Ahead) → HasTaken b → PassesNoItem b.ahead there → HasTaken (stage_at there b.regs b.visit b.command b.out)
  taken_past b there so_far none = record {
    over = (none.same.1 ∙ so_far.over.0, none.same.0 ∙ so_far.over.1);
    same = record { pairs = so_far.same.pairs; asked = so_far.same.asked };
    out = so_far.out;
    takes = λ h exceptions ns lines before views known compares.
        let t = so_far.takes h exceptions ns lines before views known compares in
        record {
          more = t.more;
          gave = none.gives h.codes (longest_of s.ahead) lines (bytes_of s.ahead) before t.more so_far.over t.gave;
          known = t.known;
          compares = t.compares;
          same_open = t.same_open;
        };
  }

  module _ (first : passed_of s.ahead ≡ 0) where
    taken_none : HasTaken s
    taken_none = record {
      over = (refl, refl);
      same = record { pairs = refl; asked = refl };
      out = refl;
      takes = λ h exceptions ns lines before views known compares.
          let nil = sym (append-nil before) in
          record {
            more = [];
            gave = subst (λ (n : ℕ). GaveAhead h.codes (longest_of s.ahead) lines (bytes_of s.ahead) n before []) (sym first)
                (gave_none_ahead h.codes (longest_of s.ahead) lines (bytes_of s.ahead) before);
            known = subst (λ (l : List BodyItem). AreRegsAfter l s.regs) nil known;
            compares = subst (λ (l : List BodyItem). Compares h exceptions ns l s.command s.visit) nil compares;
            same_open = ap (within_open (model_asked s.command.current.asked exceptions) h ns) (append-nil before);
          };
    }

    along : (z : Stage Watched Comparison) → Trail ComparesOne Ready (λ _. false) v s z → HasTaken z
    along z Begins = taken_none
    along _ (Further b c so_far one on) = taken_on b c (along b so_far) one.did
    along _ (Past b c so_far there none is) = rw is (taken_past b there (along b so_far) none)

    all_taken : (z : Stage Watched Comparison) (ended : Result WalkEnd WriteFailed) → Walks ComparesOne Ready (λ _. false) v s z ended → HasTaken z
    all_taken z (Ok AtLines) on = absurd on
    all_taken z (Ok AtItem) on = along z on.trail
    all_taken z (Ok Over) on = let e = on.3 in absurd (cc)
    all_taken z (Err f) on = let e = on.2.did.done in absurd (cc)

  -- no write fails, and no walk is over
  still : (z : Stage Watched Comparison) (ended : Result WalkEnd WriteFailed) → Walks ComparesOne Ready (λ _. false) v s z ended
      → (z.out.failures ≡ s.out.failures) × CanGoOn z.command
  still z (Ok AtLines) on = absurd on
  still z (Ok AtItem) on = (on.failures, on.on)
  still z (Ok Over) on = let e = on.3 in absurd (cc)
  still z (Err f) on = let e = on.2.did.done in absurd (cc)

module _ (v : HeadView) (a a' : Ahead) (r r' : Regs) (run run' : Run) (out out' : Device) (ended : Result WalkEnd WriteFailed)
    (walks : Walks ComparesOne Ready (λ _. false) v (stage_at a r run.watched run.comparison out)
    (stage_at a' r' run'.watched run'.comparison out') ended) where
  abbrev begin : Stage Watched Comparison
  begin = stage_at a r run.watched run.comparison out

  abbrev end : Stage Watched Comparison
  end = stage_at a' r' run'.watched run'.comparison out'

  pub ready_ahead : CanGoOn run'.comparison
  ready_ahead = (still v begin end ended walks).1

  pub runs_ahead : run'.differs ≡ run.differs → RunsOver HasHandled v a r run run' out out' (record { passed = passed_of a'; regs = r'; written = Ok tt })
  runs_ahead differs = record {
    gives = λ p h lines before views known few has on first.
        let all = all_taken v begin first end ended walks in
        let t = all.takes h has.exceptions has.ns lines before views known has.stands.compares in
        let by_plan : p ≡ plan_within (model_asked run'.comparison.current.asked has.exceptions) h has.ns = has.by_plan
        ∙ ap (λ (x : Asked). plan_within (model_asked x has.exceptions) h has.ns) (sym all.same.asked) in (
          t.more,
          (
            t.gave,
            t.known,
            record {
              exceptions = has.exceptions;
              ns = has.ns;
              by_plan = by_plan;
              stands = record {
                compares = t.compares;
                differs = differs ∙ has.stands.differs ∙ ap (λ l. not (is_empty l)) (sym t.same_open)
                    ∙ ap (λ (x : Asked). not (is_empty (within_open (model_asked x has.exceptions) h has.ns (before ++ t.more))))
                    (sym all.same.asked);
              };
            },
            ap (λ (q : Plan). q.ends (before ++ t.more)) by_plan ∙ not_ended h has.exceptions has.ns (before ++ t.more) run'.comparison run'.watched t.compares,
            (
              [],
              ap (λ (q : Plan). q.opens (before ++ t.more)) has.by_plan ∙ t.same_open ∙ ap (λ (q : Plan). q.opens before) (sym has.by_plan) ∙ sym (append-nil (p.opens before)),
              subst (λ (o : Device). Writes out o []) (sym all.out) (appends-none out.held, refl),
            ),
          ),
        );
    passes = λ lines first. (walk_passes ComparesOne Ready (λ _. false) v begin (longest_of a) lines (bytes_of a) [] (refl, refl) first end ended walks).1;
    counts = (still v begin end ended walks).0;
  }
