-- What follows where a call succeeds, and where nothing is written.
use Rattle.vcd_body.proofs.Cited.{[], Result, Ok, Err, refl, IfOk, Device, Writes, appends-none}

pub if_ok : {A E : Type 0} (r : Result A E) (P : Type 0) → P → IfOk r (λ a. P)
if_ok (Ok a) P p = p
if_ok (Err e) P p = tt

-- what follows from one fact follows where the call succeeds
pub if_ok_more : {A E : Type 0} (r : Result A E) (P Q : Type 0) → (P → Q) → IfOk r (λ _. P) → IfOk r (λ _. Q)
if_ok_more (Ok x) P Q f p = f p
if_ok_more (Err e) P Q f p = tt

-- nothing is written
pub writes-none : (out : Device) → Writes out out []
writes-none out = (appends-none out.held, refl)
