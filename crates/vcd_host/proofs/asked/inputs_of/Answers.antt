use Rattle.vcd_host.proofs.Cited.{rules, ◌≡◌, map, true, Some, option_map, ap, sym, ◌∙◌, List, ℕ, Bor, files_asked, some_of}
use Rattle.vcd_host.proofs.Facts.{given-files}
use Rattle.vcd_host.proofs.asked.inputs_of.Goals as goal

pub returns : goal.returns
returns c =
    let merge : c.args.merge ≡ true = search rules in
    let found : Some (map (λ (file : Bor (List ℕ)). file.now) c.in-Some.files.now) ≡ some_of (files_asked c.args.matches.now) =
    ap (option_map (λ (files : Bor (List (Bor (List ℕ)))). map (λ (file : Bor (List ℕ)). file.now) files.now)) (sym c.in-Some.is) ∙ c.files_of.ensures in
    rw merge (given-files c.in-Some.files.now _ _ c.loop-file.file-index found c.loop-file-test.false c.loop-file.invariant)
