use Rattle.vcd_compare.proofs.Cited.{◌≡◌, ℕ, List, Err, codes, flat_map, sym, subst, rules, AllZip, alone_lines, unlike_lines, alone_in, turned, unlike_in, Takes, AppendsSome, appends-first, appends-some, appends-twice, counted, takes-twice, IsUnlikeAt}
use Rattle.vcd_compare.proofs.Facts.{head_is}
use Rattle.vcd_compare.specs.Pairs.{IsNamedAt}
use Rattle.vcd_compare.proofs.lines.put_header_lines.Goals as goal

pub returns-in_err-put_alone : goal.returns-in_err-put_alone
returns-in_err-put_alone g c = counted (search rules) (λ h q ns views pairs.
    let others = alone_lines (codes "B") (flat_map (λ n. alone_in q h (turned n)) ns) in
    let one = c.in_err-put_alone.ensures.0 h (flat_map (alone_in q h) ns) views (subst (λ l. AllZip (IsNamedAt h) l (flat_map (alone_in q h) ns)) (sym c.deref.ensures.value) pairs.alone_one) in
    let e : c.from_residual.result ≡ Err c.in_err-put_alone.field-0.0 = search rules in
    rw e (subst (AppendsSome (g.W.Sink.device c.args.out.now).held (g.W.Sink.device c.put_alone.new.out).held) (head_is q h ns)
    (appends-first _ _ _ (unlike_lines (unlike_in q h ns)) (appends-first _ _ _ others one))))

pub returns-in_err-put_alone-2 : goal.returns-in_err-put_alone-2
returns-in_err-put_alone-2 g c = counted (search rules) (λ h q ns views pairs.
    let others = alone_lines (codes "B") (flat_map (λ n. alone_in q h (turned n)) ns) in
    let one = c.in_ok-put_alone.ensures.0 h (flat_map (alone_in q h) ns) views (subst (λ l. AllZip (IsNamedAt h) l (flat_map (alone_in q h) ns)) (sym c.deref.ensures.value) pairs.alone_one) in
    let other = c.in_err-put_alone-2.ensures.0 h (flat_map (λ n. alone_in q h (turned n)) ns) views
    (subst (λ l. AllZip (IsNamedAt h) l (flat_map (λ n. alone_in q h (turned n)) ns)) (sym c.deref-2.ensures.value) pairs.alone_other) in
    let e : c.from_residual-in_err-put_alone-2.result ≡ Err c.in_err-put_alone-2.field-0.0 = search rules in
    rw e (subst (AppendsSome (g.W.Sink.device c.args.out.now).held (g.W.Sink.device c.put_alone-2.new.out).held) (head_is q h ns)
    (appends-first _ _ _ (unlike_lines (unlike_in q h ns)) (appends-some _ _ _ _ others one other))))

pub returns : goal.returns
returns g c = counted (search rules) (λ h q ns views pairs.
    let one = c.in_ok-put_alone.ensures.0 h (flat_map (alone_in q h) ns) views (subst (λ l. AllZip (IsNamedAt h) l (flat_map (alone_in q h) ns)) (sym c.deref.ensures.value) pairs.alone_one) in
    let other = c.in_ok-put_alone-2.ensures.0 h (flat_map (λ n. alone_in q h (turned n)) ns) views
    (subst (λ l. AllZip (IsNamedAt h) l (flat_map (λ n. alone_in q h (turned n)) ns)) (sym c.deref-2.ensures.value) pairs.alone_other) in
    let unlike = c.put_unlike.ensures.0 h (unlike_in q h ns) views (subst (λ l. AllZip (IsUnlikeAt h) l (unlike_in q h ns)) (sym c.deref-3.ensures.value) pairs.unlike) in
    subst (λ (l : List ℕ). Takes (g.W.Sink.device c.args.out.now) (g.W.Sink.device c.put_unlike.new.out) l c.put_unlike.result) (head_is q h ns)
    (takes-twice _ _ _ _ (unlike_lines (unlike_in q h ns)) c.put_unlike.result (appends-twice _ _ _ _ (alone_lines (codes "B") (flat_map (λ n. alone_in q h (turned n)) ns)) one other) unlike))
