-- A walk over the items ahead, step by step.
use Rattle.vcd_body.proofs.Cited.{◌≡◌, ◌≤◌, ◌<◌, ◌+◌, Bool, true, false, List, ℕ, [], ◌++◌, length, Result, Ok, Err, IfOk, refl, sym, ap, subst, ◌∙◌, append_assoc, append-nil, arith, result_and, Token, bytes_of, passed_of, Counts, Device, Passed, Ahead, WriteFailed, HeadView, LooksOver, PassesNoItem, Further, HasCome, Past, Stage, TakesOne, Trail, Walks, as_done, stage_at, over_of, TakesItem, ScannedItem, Regs, WalkEnd, AtItem, AtLines, Over}
use Rattle.vcd_body.specs.Walk.{Begins}

-- what a result is done with does not matter
pub and_done : {A : Type 0} (result : Result (Unit {0}) WriteFailed) (a : A) → as_done (result_and result (Ok a)) ≡ as_done result
and_done (Ok tt) a = refl
and_done (Err e) a = refl

module _ {V C : Type 0} (takes : HeadView → Stage V C → Stage V C → Result (Unit {0}) WriteFailed → Type 0) (stands : V → C → List ℕ → Regs → Type 0)
    (v : HeadView) (a a' : Ahead) (r : Regs) (p : ScannedItem) (item : TakesItem v a a' r p) where
  -- the visit may take the item that lies in these bytes
  pub stands_there : (visit : V) (command : C) → stands visit command (bytes_of a) r → stands visit command p.bytes.now r
  stands_there visit command s = subst (λ bs. stands visit command bs r) (sym (item.bytes ∙ item.same.0)) s

  -- it has taken it
  pub one_taken : (r' : Regs) (visit visit' : V) (command command' : C) (out out' : Device) (result : Result (Unit {0}) WriteFailed)
      → takes v (stage_at a r visit command out) (stage_at a' r' visit' command' out') result → Counts out out' result
      → IfOk result (λ _. stands visit' command' p.bytes.now r')
      → TakesOne takes stands v (stage_at a r visit command out) (stage_at a' r' visit' command' out') (as_done result)
  one_taken r' visit visit' command command' out out'
      (Ok tt) did counts on = record {
        scanned = p;
        item = item;
        did = did;
        counts = counts;
        on = subst
            (λ bs. stands visit' command' bs r') item.bytes on;
      }
  one_taken r' visit visit' command command' out out' (Err e) did counts on = record { scanned = p; item = item; did = did; counts = counts; on = tt }

module _ {V C : Type 0} (takes : HeadView → Stage V C → Stage V C → Result (Unit {0}) WriteFailed → Type 0) (stands : V → C → List ℕ → Regs → Type 0)
    (over : V → Bool) (v : HeadView) where
  -- it begins with no item
  pub come_begins : (a : Stage V C) → stands a.visit a.command (bytes_of a.ahead) a.regs → passed_of a.ahead ≤ length (bytes_of a.ahead) → HasCome takes stands over v a a
  come_begins a s within = record { trail = Begins; on = s; failures = refl; same = refl; further = omega arith; within = within }

  -- one item more was taken
  pub come_on : (a b c : Stage V C) → HasCome takes stands over v a b → TakesOne takes stands v b c (Ok tt) → over c.visit ≡ false → HasCome takes stands over v a c
  come_on a b c come one on =
      let p = come.further in
      let n = one.item in
      let q = n.further in
      record {
        trail = Further b c come.trail one on;
        on = one.on;
        failures = one.counts ∙ come.failures;
        same = n.same.0 ∙ come.same;
        further = omega (arith, p, q);
        within = n.within;
      }

  -- no item was passed
  pub come_past : (a b : Stage V C) (there : Ahead) → HasCome takes stands over v a b → PassesNoItem b.ahead there → HasCome takes stands over v a (stage_at there b.regs b.visit b.command b.out)
  come_past a b there come none =
      let p = come.further in
      let q = none.further in
      record {
        trail = Past b _ come.trail there none refl;
        on = subst (λ (bs : List ℕ). stands b.visit b.command bs b.regs) (sym none.same.0) come.on;
        failures = come.failures;
        same = none.same.0 ∙ come.same;
        further = omega (arith, p, q);
        within = none.within come.within;
      }

  module _ (a b : Stage V C) (first : Trail takes stands over v a b) where
    both : (c : Stage V C) → Trail takes stands over v b c → Trail takes stands over v a c
    both c Begins = first
    both _ (Further m c so_far one on) = Further m c (both m so_far) one on
    both _ (Past m c so_far there none is) = Past m c (both m so_far) there none is

  come_further : (a b c : Stage V C) → HasCome takes stands over v a b → HasCome takes stands over v b c → HasCome takes stands over v a c
  come_further a b c come more =
      let p = come.further in
      let q = more.further in
      record {
        trail = both a b come.trail c more.trail;
        on = more.on;
        failures = more.failures ∙ come.failures;
        same = more.same ∙ come.same;
        further = omega (arith, p, q);
        within = more.within;
      }

  -- it continues, and ends as it then does
  pub walks_further : (a b z : Stage V C) (ended : Result WalkEnd WriteFailed) → HasCome takes stands over v a b → Walks takes stands over v b z ended → Walks takes stands over v a z ended
  walks_further a b z (Ok AtLines) come more = absurd more
  walks_further a b z (Ok AtItem) come more = come_further a b z come more
  walks_further a b z (Ok Over) come more = (more.0, come_further a b more.0 come more.1, more.2, more.3)
  walks_further a b z (Err e) come more = (more.0, come_further a b more.0 come more.1, more.2)

  -- failures of the output are counted
  pub walk_counts : (a z : Stage V C) (ended : Result WalkEnd WriteFailed) → Walks takes stands over v a z ended → Counts a.out z.out (over_of ended)
  walk_counts a z (Ok AtLines) w = absurd w
  walk_counts a z (Ok AtItem) w = w.failures
  walk_counts a z (Ok Over) w = w.2.counts ∙ w.1.failures
  walk_counts a z (Err e) w = w.2.counts ∙ ap (λ n. n + 1) w.1.failures

  -- where the visit is over, some bytes were passed
  pub walk_further : (a z : Stage V C) (ended : Result WalkEnd WriteFailed) → over_of ended ≡ Ok true → Walks takes stands over v a z ended → passed_of a.ahead < passed_of z.ahead
  walk_further a z (Ok AtLines) is w = absurd w
  walk_further a z (Ok AtItem) is w = absurd (cc)
  walk_further a z (Ok Over) is w =
      let further = w.1.further in
      let more = w.2.item.further in
      omega (arith, further, more)
  walk_further a z (Err e) is w = absurd (cc)

  module _ (a : Stage V C) (limit lines : ℕ) (bytes : List ℕ) (ts : List Token) (looks : LooksOver limit bytes a.ahead) (passed : Passed limit lines bytes (passed_of a.ahead) ts) where
    abbrev pub PassesTo : Stage V C → Type 0
    PassesTo z = LooksOver limit bytes z.ahead × ((more : List Token) × Passed limit lines bytes (passed_of z.ahead) (ts ++ more))

    one_more : (b c : Stage V C) (result : Result (Unit {0}) WriteFailed) → TakesOne takes stands v b c result → PassesTo b → PassesTo c
    one_more b c result one so_far =
        let more = so_far.1 in
        let n = one.item.passes limit lines bytes (ts ++ more.0) so_far.0 more.1 in
        ((one.item.same.1 ∙ so_far.0.0, one.item.same.0 ∙ so_far.0.1), (more.0 ++ n.0, subst (Passed limit lines bytes (passed_of c.ahead)) (append_assoc ts more.0 n.0) n.1))

    along : (z : Stage V C) → Trail takes stands over v a z → PassesTo z
    along z Begins = (looks, ([], rw (append-nil ts) passed))
    along _ (Further b c so_far one on) = one_more b c (Ok tt) one (along b so_far)
    along _ (Past b c so_far there none is) =
        let o = along b so_far in
        let n = none.passes limit lines bytes (ts ++ o.1.0) o.0 o.1.1 in
        rw is ((none.same.1 ∙ o.0.0, none.same.0 ∙ o.0.1), (o.1.0 ++ n.0, subst (Passed limit lines bytes (passed_of there)) (append_assoc ts o.1.0 n.0) n.1))

    -- whole tokens were passed
    pub walk_passes : (z : Stage V C) (ended : Result WalkEnd WriteFailed) → Walks takes stands over v a z ended → PassesTo z
    walk_passes z (Ok AtLines) w = absurd w
    walk_passes z (Ok AtItem) w = along z w.trail
    walk_passes z (Ok Over) w = one_more w.0 z (Ok tt) w.2 (along w.0 w.1.trail)
    walk_passes z (Err e) w = one_more w.0 z (Err e) w.2 (along w.0 w.1.trail)
