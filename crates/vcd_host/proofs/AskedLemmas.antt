-- How many inputs a job has, and which they are.
use Rattle.vcd_host.proofs.Cited.{◌≡◌, ◌<◌, ◌≤◌, ◌&&◌, ◌==◌, ℕ, Bool, true, false, not, List, [], ◌∷◌, length, map, take, take_all, refl, ap, subst, sym, ◌∙◌, arith, cond, lit<, lit≤, Option, Some, None, Result, Ok, Err, count_by, nat_lt, option_map, option_and_then, unwrap_or, codes, Bor, slice_split, byte, bytes_eq, ltb-false, length-map, Text, subcommand_name_of, ArgMatches, is_empty, Want, has_unit, do_rise, Moment, Command, Job, UseFault, Words, cut_of, has_words, is_standard_input, job_with, limit_of, sample_of, time_of, times_of, want_of, command_named, command_used, cut_between, files_asked, input_asked, job_asked, some_of, values_after, word_after, input_named, inputs_asked, inputs_for, inputs_of}
use Rattle.vcd_model.specs.Words.{job_of}

-- which command is a merge, and which job
abbrev pub merges : Command → Bool
merges (Command.Merge files) = true
merges command = false

abbrev pub wants_merge : Want → Bool
wants_merge Want.Merge = true
wants_merge want = false

-- what a job wants
abbrev want-in : Result Job UseFault → Result Want UseFault
want-in (Ok j) = Ok j.want
want-in (Err f) = Err f

-- a job is wanted by its command, which has the words that it needs
job-parts : (w : Words) (want : Want) (limit : ℕ) → job_of (Some w) ≡ Ok (record { want = want; limit = limit }) → (has_words w.command ≡ true) × (want_of w.command ≡ Ok want)
unfolding job_of
job-parts w want limit e = by_words (has_words w.command) refl e
  where
    by_parts : (l : Result ℕ UseFault) (k : Result Want UseFault) → job_with l k ≡ Ok (record { want = want; limit = limit }) → k ≡ Ok want
    by_parts (Ok n) (Ok other) h = ap want-in h
    by_parts (Ok n) (Err f) h = cc
    by_parts (Err f) k h = cc

    by_words : (b : Bool) → has_words w.command ≡ b → cond b (job_with (limit_of w.limit) (want_of w.command)) (Err UseFault.BadWords) ≡ Ok
        (record { want = want; limit = limit }) → (has_words w.command ≡ true) × (want_of w.command ≡ Ok want)
    by_words true is h = (is, by_parts (limit_of w.limit) (want_of w.command) h)
    by_words false is h = cc

no-job : (want : Want) (limit : ℕ) → job_of None ≡ Ok (record { want = want; limit = limit }) → ⊥
unfolding job_of
no-job want limit e = cc

-- a cut and a sample are no merge
cut-merges : (a b : Result Moment UseFault) (want : Want) → cut_of a b ≡ Ok want → wants_merge want ≡ false
cut-merges (Ok a) (Ok b) want e = by_test (not (has_unit (a ∷ b ∷ [])) && nat_lt b.number a.number) e
  where
    by_test : (t : Bool) → cond t (Err UseFault.FromAboveTo) (Ok (Want.Cut a b)) ≡ Ok want → wants_merge want ≡ false
    by_test true h = cc
    by_test false h = let same : Want.Cut a b ≡ want = cc in subst (λ w. wants_merge w ≡ false) same refl
cut-merges (Ok a) (Err f) want e = cc
cut-merges (Err f) b want e = cc

sample-merges : (names : List (List ℕ)) (times : Result (List Moment) UseFault) (want : Want) → sample_of names times ≡ Ok want → wants_merge want ≡ false
sample-merges names (Ok times) want e = by_test (not (has_unit times) && not (do_rise (map (λ m. m.number) times))) e
  where
    by_test : (t : Bool) → cond t (Err UseFault.NotRising) (Ok (Want.Sample times names)) ≡ Ok want → wants_merge want ≡ false
    by_test true h = cc
    by_test false h = let same : Want.Sample times names ≡ want = cc in subst (λ w. wants_merge w ≡ false) same refl
sample-merges names (Err f) want e = cc

-- a merge is wanted by a merge alone
pub merges-is : (c : Command) (want : Want) → want_of c ≡ Ok want → wants_merge want ≡ merges c
merges-is Command.Check want e = let same : Want.Check ≡ want = cc in subst (λ w. wants_merge w ≡ false) same refl
merges-is Command.Listing want e = let same : Want.Listing ≡ want = cc in subst (λ w. wants_merge w ≡ false) same refl
merges-is (Command.Pick names) want e = let same : Want.Pick names ≡ want = cc in subst (λ w. wants_merge w ≡ false) same refl
merges-is (Command.Cut from to) want e = cut-merges (time_of from) (time_of to) want e
merges-is (Command.Sample at names) want e = sample-merges names (times_of (slice_split (λ b. b == byte ",") at)) want e
merges-is (Command.Edges names) want e = let same : Want.Edges names ≡ want = cc in subst (λ w. wants_merge w ≡ false) same refl
merges-is (Command.Merge files) want e = by_test (nat_lt 64 (length files)) (nat_lt 1 (count_by is_standard_input files)) e
  where
    by_test : (many twice : Bool) → cond many (Err UseFault.TooManyFiles) (cond twice (Err UseFault.InputTwice) (Ok Want.Merge)) ≡ Ok want → wants_merge want ≡ true
    by_test true twice h = cc
    by_test false true h = cc
    by_test false false h = let same : Want.Merge ≡ want = cc in subst (λ w. wants_merge w ≡ true) same refl

few-files : (files : List (List ℕ)) (want : Want) → want_of (Command.Merge files) ≡ Ok want → length files ≤ 64
few-files files want e = by_test (nat_lt 64 (length files)) refl e
  where
    by_test : (many : Bool) → nat_lt 64 (length files) ≡ many → cond many (Err UseFault.TooManyFiles)
        (cond (nat_lt 1 (count_by is_standard_input files)) (Err UseFault.InputTwice) (Ok Want.Merge)) ≡ Ok want → length files ≤ 64
    by_test true is h = cc
    by_test false is h = ltb-false 64 (length files) is

some-files : (files : List (List ℕ)) → not (is_empty files) ≡ true → 0 < length files
some-files [] e = cc
some-files (f ∷ files) e = omega arith

-- a job has 1 to 64 inputs, and one where it is no merge
pub record Counted (want : Want) (names : List (Option Text)) : Type 0 where
  pub some : 0 < length names
  pub few : length names ≤ 64
  pub alone : wants_merge want ≡ false → length names ≡ 1

one-input : (want : Want) (name : Option Text) → Counted want (name ∷ [])
one-input want name = record { some = lit< tt; few = lit≤ tt; alone = λ _. refl }

counted : (c : Command) (want : Want) (file : Option Text) → has_words c ≡ true → want_of c ≡ Ok want → Counted want (inputs_of c file)
counted Command.Check want file h e = one-input want (option_and_then input_named file)
counted Command.Listing want file h e = one-input want (option_and_then input_named file)
counted (Command.Pick names) want file h e = one-input want (option_and_then input_named file)
counted (Command.Cut from to) want file h e = one-input want (option_and_then input_named file)
counted (Command.Sample at names) want file h e = one-input want (option_and_then input_named file)
counted (Command.Edges names) want file h e = one-input want (option_and_then input_named file)
counted (Command.Merge files) want file h e =
    let many = length-map files input_named in
    let is = merges-is (Command.Merge files) want e in
    record {
      some = let least = some-files files h in omega (arith, many, least);
      few = let most = few-files files want e in omega (arith, many, most);
      alone = λ other. let bad : true ≡ false = sym is ∙ other in cc;
    }

-- ---- the files of a merge are those that the matches name

past : (t : Bool) (other rest : Option Command) (files : List Text) → (other ≡ Some (Command.Merge files) → ⊥)
    → cond t other rest ≡ Some (Command.Merge files) → rest ≡ Some (Command.Merge files)
past true other rest files apart e = absurd (apart e)
past false other rest files apart e = e

no-cut : (from to : Option Text) (files : List Text) → cut_between from to ≡ Some (Command.Merge files) → ⊥
no-cut (Some from) (Some to) files e = cc
no-cut (Some from) None files e = cc
no-cut None to files e = cc

no-sample : (at : Option Text) (names : List Text) (files : List Text) → option_map (λ word. Command.Sample word names) at ≡ Some (Command.Merge files) → ⊥
no-sample (Some at) names files e = cc
no-sample None names files e = cc

files-named : (name : Text) (m : ArgMatches) (files : List Text) → command_named name m ≡ Some (Command.Merge files) → files_asked m ≡ files
files-named name m files e =
    let e1 = past (bytes_eq name (codes "check")) (Some Command.Check) _ files (λ h. cc) e in
    let e2 = past (bytes_eq name (codes "list")) (Some Command.Listing) _ files (λ h. cc) e1 in
    let e3 = past (bytes_eq name (codes "pick")) (Some (Command.Pick (values_after m (codes "names")))) _ files (λ h. cc) e2 in
    let e4 = past (bytes_eq name (codes "cut")) (cut_between (word_after m (codes "from")) (word_after m (codes "to"))) _ files
    (no-cut (word_after m (codes "from")) (word_after m (codes "to")) files) e3 in
    let e5 = past (bytes_eq name (codes "sample")) (option_map (λ at. Command.Sample at (values_after m (codes "names")))
    (word_after m (codes "at"))) _ files (no-sample (word_after m (codes "at")) (values_after m (codes "names")) files) e4 in
    let e6 = past (bytes_eq name (codes "edges")) (Some (Command.Edges (values_after m (codes "names")))) _ files (λ h. cc) e5 in
    by_test (bytes_eq name (codes "merge")) e6
  where
    by_test : (t : Bool) → cond t (Some (Command.Merge (values_after m (codes "files")))) None ≡ Some (Command.Merge files) → values_after m (codes "files") ≡ files
    by_test true h = cc
    by_test false h = cc

files-used : (m : ArgMatches) (files : List Text) → command_used m ≡ Some (Command.Merge files) → files_asked m ≡ files
files-used m files e = by_name (subcommand_name_of m) e
  where
    by_name : (o : Option Text) → option_and_then (λ name. command_named name m) o ≡ Some (Command.Merge files) → files_asked m ≡ files
    by_name (Some name) h = files-named name m files h
    by_name None h = cc

-- those that the job has are those of its command
inputs-same : (c : Command) (want : Want) (m : ArgMatches) → command_used m ≡ Some c → want_of c ≡ Ok want → inputs_for (wants_merge want) m ≡ inputs_of c (input_asked m)
inputs-same c want m used e = ap (λ b. inputs_for b m) (merges-is c want e) ∙ by_command c used
  where
    by_command : (c : Command) → command_used m ≡ Some c → inputs_for (merges c) m ≡ inputs_of c (input_asked m)
    by_command Command.Check h = refl
    by_command Command.Listing h = refl
    by_command (Command.Pick names) h = refl
    by_command (Command.Cut from to) h = refl
    by_command (Command.Sample at names) h = refl
    by_command (Command.Edges names) h = refl
    by_command (Command.Merge files) h = ap (map input_named) (files-used m files h)

-- those of a command that was used, with this file after `-i`
abbrev inputs-among : Option Text → Option Command → List (Option Text)
inputs-among file used = unwrap_or (option_map (λ command. inputs_of command file) used) []

-- which inputs the matches of a job ask for, and how many
pub asked-is : (m : ArgMatches) (want : Want) (limit : ℕ) → job_asked m ≡ Ok (record { want = want; limit = limit })
    → (inputs_for (wants_merge want) m ≡ inputs_asked m) × Counted want (inputs_asked m)
asked-is m want limit e = by_command (command_used m) refl e
  where
    by_command : (o : Option Command) → command_used m ≡ o → job_of
        (option_map (λ command. record { command = command; limit = word_after m (codes "token-limit") }) o) ≡ Ok
        (record { want = want; limit = limit })
        → (inputs_for (wants_merge want) m ≡ inputs-among (input_asked m) o) × Counted want (inputs-among (input_asked m) o)
    by_command None is h = absurd (no-job want limit h)
    by_command (Some c) is h =
        let parts = job-parts (record { command = c; limit = word_after m (codes "token-limit") }) want limit h in
        (inputs-same c want m is parts.1, counted c want (input_asked m) parts.0 parts.1)

-- ---- the inputs that words name

each-named : (files : List (Bor Text)) → map (λ (file : Bor Text). input_named file.now) files ≡ map input_named (map (λ (file : Bor Text). file.now) files)
each-named [] = refl
each-named (f ∷ files) = ap (λ l. input_named f.now ∷ l) (each-named files)

pub given-files : (files : List (Bor Text)) (xs : List Text) (names : List (Option Text)) (n : ℕ)
    → Some (map (λ (file : Bor Text). file.now) files) ≡ some_of xs → length files ≤ n
    → names ≡ map (λ (file : Bor Text). input_named file.now) (take n files)
    → names ≡ map input_named xs
given-files files xs names n found all copied =
    copied ∙ ap (map (λ (file : Bor Text). input_named file.now)) (take_all n files all) ∙ each-named files ∙ ap (map input_named) (by_list xs found)
  where
    by_list : (xs : List Text) → Some (map (λ (file : Bor Text). file.now) files) ≡ some_of xs → map (λ (file : Bor Text). file.now) files ≡ xs
    by_list [] e = cc
    by_list (x ∷ xs) e = cc
