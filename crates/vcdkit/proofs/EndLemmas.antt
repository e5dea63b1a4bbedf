-- How a run over its inputs ends, and what it leaves then.
use Rattle.vcdkit.proofs.Cited.{◌≡◌, ◌==◌, ℕ, ◌+◌, ◌*◌, ◌/◌, ◌<◌, ◌≤◌, Bool, true, false, List, [], length, map, Option, Result, Ok, Err, refl, sym, ap, subst, ◌∙◌, arith, add-zero, get_or, slice_set, set-get_or, mul-div_cancel_left, mul-le, map_map, Head, AreParts, part_len, Seat, Input, Want, is_header_over, is_settled, Opened, Outcome, dumps_of, fault_outcome, merge_outcome, name_at, open_from, Fault, Token, Device, Supply, Writes, supply, NamesInput, MergeIsWithinBound, windows_size, AreLentWithin, failures_with, Lane, Done, Stop, Dump, Read, Write, Unmatched, Windows, Failure, Stopped, OutOfMemory, failure_of, merge_end, CountsReads, CountsReadsOf, AreBegun, AreParked, AreShown, HaveBegun, Stops, failure_message, failure_status, program_name, Tells, AreNeeded, EndsAll, HasRun, LeavesAll, InBodies, InHeaders, WithOutcome, NoMemory, Whole, Part, is_merge, names_asked, model_want}
use Rattle.vcd_model.specs.Job.{outcome, request_of}
use Rattle.vcd_body.proofs.Results.{writes-none}
use Rattle.vcd_merge.specs.MergeRun.{Belongs, Follows}
use Rattle.vcd_body.specs.declared.answer.Done.TheVariants as done
use Rattle.vcdkit.proofs.InputsLemmas.{HaveStopped, merged_read, stops_read, unsettled_header}
use Rattle.vcd_words.specs.declared.job.Want as words
use Rattle.vcdkit.proofs.WorkLemmas.{merge_wanted}
use Rattle.vcdkit.proofs.NeededLemmas.{merge_needed, needed_all, none_passed}

-- ---- what is said

-- the message and the status of a merge
abbrev pub said : (names asked : List (List ℕ)) → Result Done Failure → List ℕ
said names asked (Ok done) = []
said names asked (Err failure) = failure_message names asked failure

abbrev pub exits : Result Done Failure → ℕ
exits (Ok done) = 0
exits (Err failure) = failure_status 1 failure

-- a run that ends so, and whose line and status these are, leaves the outcome of its inputs
module _ (limit chunk : ℕ) (names texts : List (List ℕ)) (old new : List Supply) (out out' err err' : Device) (status : ℕ) where
  abbrev Ends : Result Done Failure → Type 0
  Ends end = EndsAll limit chunk names texts old new out out' end

  abbrev Says : Result Done Failure → Type 0
  Says end = Tells program_name err err' (said names [] end)

  abbrev Runs : Type 0
  Runs = HasRun Want.Merge limit chunk names texts old new out out' err err' status

  abbrev Counts : Result Done Failure → Type 0
  Counts end = CountsReadsOf (λ (s : Supply). s.failures) old new (failure_of end)

  abbrev due : (end : Result Done Failure) → Ends end → Outcome
  due end e = outcome Want.Merge limit names e.lefts

  pub has_run : (end : Result Done Failure) → Ends end → Counts end → status ≡ exits end → Says end → Runs
  has_run (Ok d) e n k s =
      let o = due (Ok d) e in
      WithOutcome e.lefts e.read e.needed e.in_turn (Whole e.leaves.1
      (subst (λ (l : List ℕ). Tells program_name err err' l) (sym (ap (λ (o : Outcome). o.message) e.leaves.0)) s) (k
      ∙ sym (ap (λ (o : Outcome). o.status) e.leaves.0)))
  has_run (Err (Stopped (Dump input line fault))) e n k s =
      let o = due (Err (Stopped (Dump input line fault))) e in
      let message : o.message ≡ said names [] (Err (Stopped (Dump input line fault))) = ap (λ (o : Outcome). o.message) e.leaves.0 ∙ rw (e.leaves.1, fault_outcome) refl in
      let is : o.status ≡ 1 = ap (λ (o : Outcome). o.status) e.leaves.0 ∙ rw (e.leaves.1, fault_outcome) refl in
      WithOutcome e.lefts e.read e.needed e.in_turn (Whole e.leaves.2 (subst (λ (l : List ℕ). Tells program_name err err' l) (sym message) s) (k ∙ sym is))
  has_run (Err (Stopped (Read input))) e n k s =
      let o = due (Err (Stopped (Read input))) e in
      let message : o.message ≡ said names [] (Err (Stopped (Read input))) = ap (λ (o : Outcome). o.message) e.leaves.0.1 in
      WithOutcome e.lefts e.read e.needed e.in_turn (Whole e.leaves.1 (subst (λ (l : List ℕ). Tells program_name err err' l) (sym message) s) (k
      ∙ sym (ap (λ (o : Outcome). o.status) e.leaves.0.1)))
  has_run (Err (Stopped Write)) e n k s = WithOutcome e.lefts e.read e.needed e.in_turn (Part e.leaves s k)
  has_run (Err (Stopped (Unmatched place))) e n k s = absurd e.leaves
  has_run (Err OutOfMemory) e n k s = NoMemory e.lefts e.read e.needed e.in_turn n e.leaves s k

-- a merge that ends so
pub merged_run : (wanted : words.Want) → is_merge wanted ≡ true
    → (limit chunk : ℕ) (names texts : List (List ℕ)) (old new : List Supply) (out out' err err' : Device) (status : ℕ) (end : Result Done Failure)
    → EndsAll limit chunk names texts old new out out' end
    → CountsReadsOf (λ (s : Supply). s.failures) old new (failure_of end) → status ≡ exits end
    → Tells program_name err err' (said names (names_asked wanted) end)
    → HasRun (model_want wanted) limit chunk names texts old new out out' err err' status
merged_run wanted is limit chunk names texts old new out out' err err' status end ends counts k says =
    let merge = merge_wanted wanted is in
    subst (λ (w : Want). HasRun w limit chunk names texts old new out out' err err' status) (sym merge.0)
    (has_run limit chunk names texts old new out out' err err' status end ends counts k (subst (λ (asked : List (List ℕ)). Tells program_name err err' (said names asked end)) merge.1 says))

-- the failed reads of readers are counted by what is supplied
pub counted_reads : {X : Type 0} (rest : X → Option (List ℕ)) (failures : X → ℕ) (old new : List X) (why : Option Failure)
    → CountsReadsOf failures old new why → CountsReadsOf (λ (s : Supply). s.failures) (map (supply rest failures) old)
    (map (supply rest failures) new) why
counted_reads rest failures old new why counts = rw (map_map (supply rest failures) (λ (s : Supply). s.failures) old, map_map (supply rest failures) (λ (s : Supply). s.failures) new) counts

-- ---- headers that end a run

-- a header has a fault
at_fault : (want : Want) (limit : ℕ) (names : List (List ℕ)) (inputs : List Input) (place : ℕ) (f : Fault)
    → open_from limit [] inputs ≡ Err (place, f) → outcome want limit names inputs ≡ fault_outcome [] (name_at names place) f
unfolding outcome
at_fault want limit names inputs place f e = rw (e, outcome) refl

no_output : (name : List ℕ) (f : Fault) → (fault_outcome [] name f).output ≡ []
no_output name f = by_number (f.number == 31) refl
  where
    by_number : (b : Bool) → (f.number == 31) ≡ b → (fault_outcome [] name f).output ≡ []
    by_number true e = rw (e, fault_outcome) refl
    by_number false e = rw (e, fault_outcome) refl

-- an outcome of a fault without output
faulted : (o : Outcome) (name : List ℕ) (f : Fault) (out : Device) → o ≡ fault_outcome [] name f → (o ≡ fault_outcome o.output name f) × Writes out out o.output
faulted o name f out e =
    let none : o.output ≡ [] = ap (λ (o : Outcome). o.output) e ∙ no_output name f in
    (e ∙ ap (λ l. fault_outcome l name f) (sym none), subst (λ (l : List ℕ). Writes out out l) (sym none) (writes-none out))

module _ (limit chunk : ℕ) (names texts : List (List ℕ)) (old new : List Supply) (out : Device) where
  stops : (settled : ℕ → List Token → Bool) → ((most : ℕ) (ts : List Token) → is_header_over most ts ≡ false → settled most ts ≡ false)
      → (why : Failure) → Stops limit chunk 0 [] texts old new why → HaveStopped settled limit chunk [] texts old new why
  stops settled on why h = stops_read settled on limit chunk 0 [] texts old new why refl h

  needed : (settled : ℕ → List Token → Bool) (why : Failure) (s : HaveStopped settled limit chunk [] texts old new why) → AreNeeded Want.Merge limit chunk old new s.lefts
  needed settled why s = needed_all limit chunk old new s.lefts (s.needed s.lefts [] refl (none_passed limit))

  pub stopped : (why : Failure) → Stops limit chunk 0 [] texts old new why → EndsAll limit chunk names texts old new out out (Err why)
  stopped (Stopped (Dump input line fault)) h =
      let s = stops (is_settled Want.Merge) (unsettled_header Want.Merge) _ h in
      let o = faulted (outcome Want.Merge limit names s.lefts) (name_at names input) (record { number = fault; line = line }) out (at_fault Want.Merge limit names s.lefts input _ s.first.1) in
      record { lefts = s.lefts; read = s.read; needed = needed _ _ s; in_turn = InHeaders _ h; leaves = (o.0, s.first.0, o.1) }
  stopped (Stopped (Read input)) h =
      let s = stops (is_settled Want.Merge) (unsettled_header Want.Merge) _ h in
      let o = faulted (outcome Want.Merge limit names s.lefts) (name_at names input) (record { number = 31; line = s.first.0 }) out (at_fault Want.Merge limit names s.lefts input _ s.first.1) in
      record { lefts = s.lefts; read = s.read; needed = needed _ _ s; in_turn = InHeaders _ h; leaves = ((s.first.0, o.0), o.1) }
  stopped (Stopped stop) h = let s = stops (is_settled Want.Merge) (unsettled_header Want.Merge) _ h in absurd s.first
  stopped OutOfMemory h =
      let s = stops is_header_over (λ most ts e. e) _ h in
      record { lefts = s.lefts; read = s.read; needed = needed _ _ s; in_turn = InHeaders _ h; leaves = writes-none out }

-- ---- a merge after its headers

merge_due : (limit : ℕ) (names : List (List ℕ)) (inputs : List Input) (opened : List Opened) → open_from limit [] inputs ≡ Ok opened
    → outcome Want.Merge limit names inputs ≡ merge_outcome names (dumps_of opened)
unfolding outcome request_of
merge_due limit names inputs opened e = rw (e, outcome) refl

-- what a merge leaves, by its outcome
merge_leaves : (names : List (List ℕ)) (o o' : Outcome) (out out' : Device) (result : Result Done Stop) → o' ≡ o → Belongs o names out out' result
    → LeavesAll names o' out out' (merge_end result)
merge_leaves names o o' out out' (Ok done.Whole) e b = subst (λ (x : Outcome). LeavesAll names x out out' (Ok done.Whole)) (sym e) b
merge_leaves names o o' out out' (Ok done.Early) e b = absurd b
merge_leaves names o o' out out' (Err (Dump input line fault)) e b = subst (λ (x : Outcome). LeavesAll names x out out' (Err (Stopped (Dump input line fault)))) (sym e) b
merge_leaves names o o' out out' (Err (Read input)) e b = subst (λ (x : Outcome). LeavesAll names x out out' (Err (Stopped (Read input)))) (sym e) b
merge_leaves names o o' out out' (Err Write) e b = subst (λ (x : Outcome). LeavesAll names x out out' (Err (Stopped Write))) (sym e) b
merge_leaves names o o' out out' (Err (Unmatched place)) e b = absurd b

module _ (limit chunk : ℕ) (names texts : List (List ℕ)) (old mid new : List Supply) (lanes : List Lane) (out out' : Device) (b : AreBegun limit chunk [] texts old mid lanes) where
  pub merged : (result : Result Done Stop) → Follows limit chunk lanes names mid new out out' result → EndsAll limit chunk names texts old new out out' (merge_end result)
  merged (Ok d) f =
      let r = merged_read limit chunk [] texts old mid new lanes f.lefts f.opened b f.are_left f.are_opened in
      record {
        lefts = f.lefts;
        read = r.0;
        needed = merge_needed limit chunk texts old mid new lanes f.lefts f.opened b f.are_left f.are_opened f.needed;
        in_turn = InBodies lanes mid b f.on_turn;
        leaves = merge_leaves names _
            (outcome Want.Merge limit names f.lefts) out out' (Ok d) (merge_due limit names f.lefts f.opened r.1) f.belongs;
      }
  merged (Err stop) f =
      let r = merged_read limit chunk [] texts old mid new lanes f.lefts f.opened b f.are_left f.are_opened in
      record {
        lefts = f.lefts;
        read = r.0;
        needed = merge_needed limit chunk texts old mid new lanes f.lefts f.opened b f.are_left f.are_opened f.needed;
        in_turn = InBodies lanes mid b f.on_turn;
        leaves = merge_leaves names _
            (outcome Want.Merge limit names f.lefts) out out' (Err stop) (merge_due limit names f.lefts f.opened r.1) f.belongs;
      }

-- over readers with these texts
pub merge_ends : {X : Type 0} (n n' limit limit1 limit2 chunk chunk1 chunk2 : ℕ) (rest : X → Option (List ℕ)) (failures : X → ℕ)
    (names texts : List (List ℕ)) (old mid new : List X) (heads : List Head) (seats : List Seat) (chunks tokens : List ℕ) (out out' : Device)
    (result : Result Done Stop)
    → n' ≡ n → limit1 ≡ limit → limit2 ≡ limit → chunk1 ≡ chunk → chunk2 ≡ chunk
    → HaveBegun limit1 chunk1 n rest failures texts old mid heads seats chunks tokens
    → ((lanes : List Lane) (names : List (List ℕ)) → AreShown heads lanes → AreParked n' rest lanes seats mid chunks tokens
    → Follows limit2 chunk2 lanes names (map (supply rest failures) mid) (map (supply rest failures) new) out out' result)
    → EndsAll limit chunk names texts (map (supply rest failures) old) (map (supply rest failures) new) out out' (merge_end result)
merge_ends n n' limit limit1 limit2 chunk chunk1 chunk2 rest failures names texts old mid new heads seats chunks tokens out out' result e l1 l2 c1 c2 b follows =
    let f = supply rest failures in
    let parked = subst (λ (m : ℕ). AreParked m rest b.lanes seats mid chunks tokens) (sym e) b.parked in
    let followed = follows b.lanes names b.views parked in
    let begun = subst (λ (m : ℕ). AreBegun m chunk [] texts (map f old) (map f mid) b.lanes) l1 (subst (λ (m : ℕ). AreBegun limit1 m [] texts (map f old) (map f mid) b.lanes) c1 b.begun) in
    let due = subst (λ (m : ℕ). Follows m chunk b.lanes names (map f mid) (map f new) out out' result) l2
    (subst (λ (m : ℕ). Follows limit2 m b.lanes names (map f mid) (map f new) out out' result) c2 followed) in
    merged limit chunk names texts (map f old) (map f mid) (map f new) b.lanes out out' begun result due

-- ---- windows in parts

pub part_is : (n size : ℕ) (xs : List ℕ) → 0 < n → length xs ≡ n * size → part_len n xs ≡ size
part_is n size xs some e = ap (λ m. m / n) e ∙ mul-div_cancel_left size {n = n} some

part_all : (n size : ℕ) (xs : List ℕ) → 0 < n → length xs ≡ n * size → n * part_len n xs ≡ length xs
part_all n size xs some e = ap (λ m. n * m) (part_is n size xs some e) ∙ sym e

pub parts_of : (n chunk limit : ℕ) (cs ts vs : List ℕ) → 0 < n → 0 < chunk → 0 < limit → length cs ≡ n * chunk → length ts ≡ n * limit
    → length vs ≡ n * limit → AreParts n cs ts vs
parts_of n chunk limit cs ts vs some c l ec et ev = record {
  chunks_are = part_all n chunk cs some ec;
  tokens_are = part_all n limit ts some et;
  values_are = ev ∙ sym et;
  chunk_some = rw (part_is n chunk cs some ec) c;
  token_some = rw (part_is n limit ts some et) l;
}

-- ---- what a merge is lent

-- windows of n inputs under these limits
pub lends_within : (n chunk limit seats : ℕ) (heads : List Head) (w : Windows) → AreLentWithin n w heads → 0 < n → chunk ≤ 65536
    → length w.chunks.now ≡ n * chunk → length w.tokens.now ≡ n * limit → length w.values.now ≡ n * limit → seats ≡ n
    → MergeIsWithinBound (part_len seats w.tokens.now) heads (windows_size w)
lends_within n chunk limit seats heads w fits some small lc lt lv alike =
    let here = part_is n limit w.tokens.now some lt in
    let chunks : length w.chunks.now ≤ n * 65536 = rw lc (mul-le n chunk n 65536 (omega arith) small) in
    rw (alike, here) (fits limit (record { chunk = chunks; token = omega (arith, lt); value = omega (arith, lv) }))

-- ---- the reads of a merge

-- a read of the input that the answer names failed, and of no other
pub counts_merge : (before mid after : List ℕ) (k : ℕ) (result : Result Done Stop) → mid ≡ before → k < length mid
    → after ≡ failures_with mid k result → NamesInput k result → CountsReads before after (failure_of (merge_end result))
counts_merge before mid after k (Err (Read input)) same within e named =
    let long = ap length same in
    (omega (arith, named), e ∙ ap (λ l. slice_set l k (get_or l k 0 + 1)) same ∙ ap (λ p. slice_set before p (get_or before p 0 + 1)) (sym named))
counts_merge before mid after k result same within e named = e ∙ ap (slice_set mid k) (add-zero (get_or mid k 0)) ∙ set-get_or mid k 0 ∙ same
