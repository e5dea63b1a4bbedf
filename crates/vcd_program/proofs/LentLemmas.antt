-- What a program leaves in bytes that were lent.
use Rattle.vcd_program.proofs.Cited.{◌≡◌, ◌∷◌, ◌++◌, [], ℕ, List, Bool, true, false, ap, sym, refl, subst, get_or, Text, Device, IsLeftAs, IsLeftIn, OpensIn, noted, Fills, held, written, Finishes, KeepsNoneBack, Programs, RunsOn, Memory, MemoryFile, LentOutput}
use Rattle.vcd_program.proofs.MemoryLemmas.{bytes_of, holding, left-by, left-flushed, no_failures, none_failed}

-- what such an output says of itself
abbrev output_device : LentOutput → Device
output_device sink = holding false (held sink)

-- it keeps nothing back
abbrev nothing_kept : LentOutput → ℕ
nothing_kept sink = 0

abbrev flushes : LentOutput → Bool → LentOutput → Type 0
flushes old done new = (done ≡ true) × (new ≡ old)

-- the loan is as it was
same-loan : (n n' : ℕ) (xs ws : List ℕ) → n' ∷ ws ≡ (n ∷ []) ++ xs → n' ≡ n
same-loan n n' xs ws e = ap (λ l. get_or l 0 0) e

-- what is left in the end: the same loans, and in them what the program leaves
pub left-in-outputs : {P J : Type 0} (p : Programs P J) (words : List Text) (files : List MemoryFile) (input : Text) (host after : Memory)
    (status : ℕ) (out out' err err' : LentOutput) → host.files.now ≡ files → host.input.now ≡ input → noted host ≡ [] → written out ≡ []
    → written err ≡ []
    → Finishes p.name output_device flushes (λ now err_now n. RunsOn p words OpensIn bytes_of no_failures none_failed host after (output_device out)
    (output_device now) (output_device err) err_now n (KeepsNoneBack nothing_kept out now)) out' (output_device err') status
    → (out'.bytes.ghost_name ≡ out.bytes.ghost_name) × (err'.bytes.ghost_name ≡ err.bytes.ghost_name) × IsLeftAs p words files input (written out') (written err') status
left-in-outputs p words files input host after status out out' err err' f i n no_out no_err fin =
    let Quiet = KeepsNoneBack nothing_kept out in
    let now = left-flushed p output_device Quiet flushes words host after (output_device out) (output_device err) out' (output_device err') status (λ old new done h. h) fin in
    let from_out = subst (λ l. RunsOn p words OpensIn bytes_of no_failures none_failed host after (holding false (out.bytes.ghost_name ∷ l))
    (output_device out') (output_device err) (output_device err') status (Quiet out')) no_out now in
    let from_err = subst (λ l. RunsOn p words OpensIn bytes_of no_failures none_failed host after (holding false (out.bytes.ghost_name ∷ []))
    (output_device out') (holding false (err.bytes.ghost_name ∷ l)) (output_device err') status (Quiet out')) no_err from_out in
    let left = left-by false false (out.bytes.ghost_name ∷ []) (err.bytes.ghost_name ∷ []) p files input host after
    (record { opened = noted after; output = written out'; message = written err'; status = status }) (held out') (held err') status f i n
    (refl, refl, refl, refl) words (Quiet out') from_err in (
      same-loan out.bytes.ghost_name out'.bytes.ghost_name (written out') (written out') left.1.0,
      same-loan err.bytes.ghost_name err'.bytes.ghost_name (written err') (written err') left.1.1,
      (noted after, left.0),
    )

-- the same in the bytes that were lent, once the outputs are given up
pub left-in-lent : {P J : Type 0} (p : Programs P J) (words : List Text) (files : List MemoryFile) (input : Text) (out err : LentOutput)
    (filled_out : List ℕ) (used_out : ℕ) (filled_err : List ℕ) (used_err status : ℕ) → filled_out ≡ out.bytes.now → filled_err ≡ err.bytes.now
    → IsLeftAs p words files input (written out) (written err) status → Fills out.bytes.now used_out (written out)
    → Fills err.bytes.now used_err (written err) → IsLeftIn p words files input filled_out used_out filled_err used_err status
left-in-lent p words files input out err filled_out used_out filled_err used_err status is_out is_err left fills_out fills_err =
    record {
      left = record { opened = left.0; output = written out; message = written err; status = status };
      is_left = left.1;
      on_out = subst (λ l. Fills l used_out (written out)) (sym is_out) fills_out;
      on_err = subst (λ l. Fills l used_err (written err)) (sym is_err) fills_err;
      status_is = refl;
    }
