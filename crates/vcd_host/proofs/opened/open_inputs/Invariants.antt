use Rattle.vcd_host.proofs.Cited.{◌≡◌, map, take, string_bytes, All, called, text_of, Opens}
use Rattle.vcd_host.proofs.opened.open_inputs.Given as goal

-- those before this index were opened
abbrev pub invariant-loop-name : goal.invariant-loop-name
invariant-loop-name g l = record {
  opened : Opens g.H.Host.opens l.fn.host (map text_of (take l.name-index l.asked)) l.opened.readers.items l.host;
  names : map string_bytes l.opened.names.items ≡ map called (map text_of (take l.name-index l.asked));
  fresh : All (λ r. g.H.Input.Source.failures r ≡ 0) l.opened.readers.items;
}
