use Rattle.vcd_compare.proofs.Cited.{◌≡◌, ◌==◌, ◌++◌, ◌∷◌, [], if◌then◌else◌, suc, cond, arith, length, vec_len, get_or, list_any, set, ap, ◌∙◌, same_key, used_by, Users}
use Rattle.vcd_compare.proofs.variables.add_variable.Goals as goal

pub returns : goal.returns
returns c =
    let old = c.args.variables.now in
    let counts = c.args.counts.now.items in
    let slice = c.in_ok-slice.slice in
    let was : c.in_ok-nth.nth ≡ get_or counts slice 0 = c.in_ok-nth.ensures.0 in
    let long : vec_len old.rows ≡ length old.rows.items = omega (arith, old.rows.ok.0) in
    record {
      slice = slice;
      slices = c.in_ok-slice.ensures;
      rows = c.in_ok-push.ensures.items;
      paths = c.in_ok-push-2.ensures.items;
      keys = c.in-Ok.ensures.keys ∙ ap (λ n. if list_any (same_key (slice, n)) old.keys.keys then old.keys.keys else old.keys.keys ++ (slice, n) ∷ []) was;
      counts = λ n. c.in_ok-nth.ensures.1 n ∙ ap (λ m. cond (n == slice) (suc m) (get_or counts n 0)) was;
      users = c.use_path.ensures ∙ ap (λ m. set old.users.items c.args.path (used_by m (get_or old.users.items c.args.path Users.None))) (c.len.ensures ∙ long);
    }
