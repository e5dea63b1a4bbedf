-- A merge of one input: its dump is the input's own.
use Rattle.vcd_laws.proofs.Cited.{◌≡◌, ℕ, ◌*◌, ◌^◌, ◌<◌, ℤ, nat_abs, ◌-ℤ◌, Bool, true, false, List, [], ◌∷◌, Option, Some, None, refl, sym, ap, ◌∙◌, subst, arith, AllByRecursion, lt-leb, ints, IdCode, Header, exponent, BodyItem, Fault, Dump, dump_of, is_too_large, Outcome, Opened, clean_outcome, fault_outcome, body_of, items_in, fault_in, dump_whole, AreFit, IsGoodInput}
use Rattle.vcd_model.specs.HeadText.{least_exponent}
use Rattle.vcd_model.specs.Merge.{factor, first_fault}
use Rattle.vcd_model.specs.Outcome.{dumps_of, merge_outcome}
use Rattle.vcd_laws.proofs.OpenedBodies.{opened_fit}

-- its times are not scaled
factor_one : (h : Header) → factor (h ∷ []) h ≡ 1
unfolding factor least_exponent
factor_one h = ap (λ n. 10 ^ n) (same (exponent h))
  where
    same : (e : ℤ) → nat_abs (e -ℤ e) ≡ 0
    same e = omega (arith, ints)

all_small : (codes : List IdCode) (t : ℕ) (o : Bool) (items : List BodyItem) → AreFit codes t o items
    → AllByRecursion (λ x. is_too_large 1 x ≡ false) items
all_small codes t o [] fit = tt
all_small codes t o (BodyItem.Time u ∷ items) fit =
    let f = fit.0 in
    let u64 : u < 2 ^ 64 = f.1 in
    (lt-leb (2 ^ 64) (u * 1) (omega arith), all_small codes u o items fit.1)
all_small codes t o (BodyItem.Begin s ∷ items) fit = (refl, all_small codes t true items fit.1)
all_small codes t o (BodyItem.End ∷ items) fit = (refl, all_small codes t false items fit.1)
all_small codes t o (BodyItem.Changes c ∷ items) fit = (refl, all_small codes t o items fit.1)

pub one_dump : (o : Opened) → IsGoodInput o
    → dumps_of (o ∷ []) ≡ record { header = o.header; items = items_in o; fault = fault_in o } ∷ []
unfolding dumps_of
one_dump o good =
    ap (λ n. dump_of n o.header (fault_in o) (body_of o) ∷ []) (factor_one o.header)
    ∙ ap (λ (d : Dump). d ∷ []) (dump_whole 1 o.header (fault_in o) (body_of o)
    (all_small o.header.codes 0 false (items_in o) (opened_fit o good)))

-- an outcome without this fault, or with it
abbrev pub ended : List ℕ → List ℕ → Option Fault → Outcome
ended output name None = clean_outcome output
ended output name (Some f) = fault_outcome output name f

pub merge_alone : (name : List ℕ) (o : Opened) → IsGoodInput o
    → (output : List ℕ) × (merge_outcome (name ∷ []) (dumps_of (o ∷ [])) ≡ ended output name (fault_in o))
unfolding merge_outcome first_fault
merge_alone name o good =
    subst (λ (ds : List Dump). (output : List ℕ) × (merge_outcome (name ∷ []) ds ≡ ended output name (fault_in o)))
    (sym (one_dump o good)) (by_fault (fault_in o))
  where
    by_fault : (f : Option Fault) → (output : List ℕ)
        × (merge_outcome (name ∷ []) (record { header = o.header; items = items_in o; fault = f } ∷ []) ≡ ended output name f)
    by_fault None = (_, refl)
    by_fault (Some f) = (_, refl)
