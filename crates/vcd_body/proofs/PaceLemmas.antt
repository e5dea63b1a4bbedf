-- How much a run has read for what it does, and for what is due of its output.
use Rattle.vcd_body.proofs.Cited.{◌≡◌, ◌∙◌, ℕ, ◌≤◌, Bool, false, refl, nat_lt, List, ◌++◌, length, ap, arith, subst, Appends, nat_tests, length-append, Input, Token, IdCode, BodyItem, Supply, ReadsAsNeeded, supply_of, limit_of, chunk_len_of, Ghosts, Feed, HaveJust, GaveAll, GaveLast, StopsAt, Regs}
use Rattle.vcd_text.proofs.Writes.{appends-twice}
use Rattle.vcd_text.specs.Device.{Device}
use Rattle.vcd_text.specs.ReadAhead.ReadsAsNeeded.{Nothing}
use Rattle.vcd_body.specs.Pace.{KeepsUp, ReadsPast, is_more_due}
use Rattle.vcd_body.proofs.AskedLemmas.{asked_to_end, asked_to_item, asked_to_stop}

-- ---- one read

module _ {X : Type 0} {g : Ghosts X} (codes : List IdCode) (i : Input) (front : List Token) (items : List BodyItem) (f : Feed X g) where
  -- up to where the body is refused
  pub past_stop : StopsAt codes i front items f → ReadsPast codes i front items f
  past_stop s before settled still = asked_to_stop codes i front items f before settled still s

  -- up to its end
  pub past_end : (r : Regs) → GaveAll codes i front items f r → ReadsPast codes i front items f
  past_end r a before settled still = asked_to_end codes i front items f before settled still r a

  -- up to one item more
  pub past_item : (x : BodyItem) (r : Regs) → GaveLast codes i front items x f r → ReadsPast codes i front items f
  past_item x r m before settled still = asked_to_item codes i front items f before settled still x r m

-- ---- all reads

-- no more was read than what settles the work, nor than that with which more is due than was
-- written, once this text was
pub record HasReadFor (settled : List Token → Bool) (due : List Token → List ℕ) (limit chunk : ℕ) (i : Input) (front : List Token) (text : List ℕ) (old new : Supply) : Type 0 where
  pub task : ReadsAsNeeded limit chunk old new i front settled
  pub output : (written : ℕ) → length text ≤ written → ReadsAsNeeded limit chunk old new i front (is_more_due due written)

module _ (settled : List Token → Bool) (due : List Token → List ℕ) (limit chunk : ℕ) (i : Input) (front : List Token) where
  -- nothing was read
  pub read_nothing : (text : List ℕ) (s : Supply) → HasReadFor settled due limit chunk i front text s s
  read_nothing text s = record { task = Nothing refl; output = λ written le. Nothing refl }

  -- more was written
  pub read_still : (text more : List ℕ) (old new : Supply) → HasReadFor settled due limit chunk i front text old new → HasReadFor settled due limit chunk i front (text ++ more) old new
  read_still text more old new read = record { task = read.task; output = λ written le. read.output written (omega (arith, length-append text more, le)) }

  -- what is due with tokens that have just these items is no more than what was written
  pub read_past : {X : Type 0} {g : Ghosts X} (codes : List IdCode) (items : List BodyItem) (f : Feed X g) (before : Supply) (text : List ℕ)
      → limit_of f ≡ limit → chunk_len_of f ≡ chunk → ((ts : List Token) → HaveJust codes items ts → settled ts ≡ false)
      → ((ts : List Token) → HaveJust codes items ts → due ts ≡ text)
      → ReadsPast codes i front items f → HasReadFor settled due limit chunk i front text before (supply_of f)
  read_past {X} {g} codes items f before text same size still is reads = record {
    task = under settled (reads before settled still);
    output = λ written le. under (is_more_due due written) (reads before (is_more_due due written) (λ ts have.
        let no : nat_lt written (length text) ≡ false = grind (arith, nat_tests) in ap (λ l. nat_lt written (length l)) (is ts have) ∙ no));
  }
    where
      under : (test : List Token → Bool) → ReadsAsNeeded (limit_of f) (chunk_len_of f) before (supply_of f) i front test → ReadsAsNeeded limit chunk before (supply_of f) i front test
      under test read = subst (λ n. ReadsAsNeeded n chunk before (supply_of f) i front test) same (subst (λ n. ReadsAsNeeded (limit_of f) n before (supply_of f) i front test) size read)

  -- all that is due was written, and then maybe more
  pub keeping_up : (text more : List ℕ) (old new : Supply) (out mid out' : Device) → HasReadFor settled due limit chunk i front text old new
      → Appends out.held mid.held text → Appends mid.held out'.held more → KeepsUp due limit chunk i front old new out out'
  keeping_up text more old new out mid out' read all then =
      (text ++ more, appends-twice out.held mid.held out'.held text more all then, read.output (length (text ++ more)) (omega (arith, length-append text more)))
