use Rattle.vcd_compare.proofs.Cited.{[], take, sym, ap, subst, ◌∙◌, add-one, AllZip, take_all, get_or_from_slice_get, path_of, there, rows_len, IsNumberOf, HasSome, HasUsers, IsKeyOf, IsNamedAt, IsPathOf, named_in, arith}
use Rattle.vcd_compare.proofs.variables.variables_of.Goals as goal

pub loop-row-init : goal.loop-row-init
loop-row-init c = λ h texts view are apart len.
    subst (HasSome h texts 0 c.in_ok-variables.variables) (sym c.in_ok-counts.ensures.items) (c.in_ok-variables.ensures h texts len)

pub loop-row-preserved : goal.loop-row-preserved
loop-row-preserved c = λ h texts view are apart len.
    let row = c.loop-row.row in
    let s = c.loop-row.invariant h texts view are apart len in
    let rows = rows_len c.args.view.text.now h.codes [] c.args.view.rows.now h.declarations view.rows in
    let d = there h.declarations row (omega (arith, rows)) in
    let n = are.each row d.0 (omega (arith, rows)) d.1 in
    let path = c.number_at-path.ensures ∙ get_or_from_slice_get c.args.numbers.now row n.0 0 n.1 in
    let number = subst (λ m. IsNumberOf texts m (path_of (take row h.declarations) d.0)) (sym path) n.2 in
    subst (λ r. HasSome h texts r c.take_row.new.variables c.take_row.new.counts.items) (sym (add-one row)) (c.in_ok-take_row.ensures h d.0 texts view apart d.1 number s)

pub returns : goal.returns
returns c = λ h texts view are apart len.
    let s = c.loop-row.invariant h texts view are apart len in
    let rows = rows_len c.args.view.text.now h.codes [] c.args.view.rows.now h.declarations view.rows in
    let all = ap named_in (take_all c.loop-row.row h.declarations (omega (arith, rows))) in
    record {
      rows = subst (AllZip (IsNamedAt h) c.loop-row.variables.rows.items) all s.rows;
      paths = subst (AllZip (IsPathOf texts) c.loop-row.variables.paths.items) all s.paths;
      list = s.list;
      slices = s.slices;
      keys = subst (AllZip (IsKeyOf s.list) c.loop-row.variables.keys.keys) all s.keys;
      users = subst (λ vs. HasUsers texts vs c.loop-row.variables.users.items) all s.users;
    }
