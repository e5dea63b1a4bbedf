use Rattle.vcd_head.proofs.Cited.{◌++◌, map, string_bytes}
use Rattle.vcd_head.proofs.Facts.{path_selected}
use Rattle.vcd_head.proofs.names.Group.note_selecting.Goals as goal

pub returns : goal.returns
returns c = λ front f.
    let names = map string_bytes c.args.self.now.names.now in
    let path = front ++ c.args.own.now in
    let named = c.follow_bytes-named.ensures front f in
    path_selected names c.args.self.now.order.now c.args.matched.now c.follow_bytes-named.new.matched c.note-ends.new.matched path c.follow_bytes-named.result c.note-ends.result named
    (c.note-ends.ensures path named.follows)
