-- What several calls leave of a feed.
use Rattle.vcd_text.proofs.Cited.{ℕ, ◌+◌, refl, ap, ◌∙◌, arith, Advances, CallEnd, GoesOn, Ghosts, Feed}

-- what two parts of a reading leave of a feed
pub advances_on : {X : Type 0} {g : Ghosts X} (failures : X → ℕ) (old mid new : Feed X g) (end : CallEnd) → Advances failures old mid GoesOn
    → Advances failures mid new end → Advances failures old new end
advances_on failures old mid new end a b = record {
  loans = record { source = b.loans.source ∙ a.loans.source; chunk = b.loans.chunk ∙ a.loans.chunk; token = b.loans.token ∙ a.loans.token; value = b.loans.value ∙ a.loans.value };
  limit = b.limit ∙ a.limit;
  chunk = b.chunk ∙ a.chunk;
  on = λ e. let first = a.on refl in let second = b.on e in omega arith;
  goes = λ e o. b.goes e (a.goes refl o);
  failed = λ e o. b.failed e (a.goes refl o) ∙ ap (λ n. n + 1) (a.same (λ x. cc));
  last = λ e o. b.last e (a.goes refl o);
  same = λ e. b.same e ∙ a.same (λ x. cc);
}

-- nothing was read
pub advances_nowhere : {X : Type 0} {g : Ghosts X} (failures : X → ℕ) (f : Feed X g) → Advances failures f f GoesOn
advances_nowhere failures f = record {
  loans = record { source = refl; chunk = refl; token = refl; value = refl };
  limit = refl;
  chunk = refl;
  on = λ e.
      omega arith;
  goes = λ e o. o;
  failed = λ e o. cc;
  last = λ e o. cc;
  same = λ e. refl;
}
