-- Which inputs words ask for: worked by hand.
use Rattle.vcd_host.proofs.Cited.{◌≡◌, [], ◌∷◌, codes, refl, Some, None, Command, inputs_of}

no_file : inputs_of Command.Check None ≡ None ∷ []
no_file = refl

a_file : inputs_of (Command.Cut (codes "0") (codes "5")) (Some (codes "a.vcd")) ≡ Some (codes "a.vcd") ∷ []
a_file = refl

-- standard input by its word, and a file of that name
hyphen : inputs_of Command.Listing (Some (codes "-")) ≡ None ∷ []
hyphen = refl

hyphen_in_a_directory : inputs_of Command.Listing (Some (codes "./-")) ≡ Some (codes "./-") ∷ []
hyphen_in_a_directory = refl

hyphen_among_files : inputs_of (Command.Merge (codes "b.vcd" ∷ codes "-" ∷ codes "--" ∷ [])) None ≡ Some (codes "b.vcd") ∷ None ∷ Some (codes "--") ∷ []
hyphen_among_files = refl
