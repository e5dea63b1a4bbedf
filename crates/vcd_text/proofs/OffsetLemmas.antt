-- A feed that continues at an offset has given what the other had.
use Rattle.vcd_text.proofs.Cited.{◌≡◌, ◌∙◌, ◌+◌, ◌-◌, ◌≤◌, ℕ, List, Option, Some, ap, refl, sym, subst, length, take, drop, slice_range, unwrap_or, length-append, length-drop, arith, add-zero, IfSome, IfSome_then, Input, Token, halt_place, HasGivenParked, HasGivenTo, At, InPhase, HasLookedAt, Near, answer_number, looked, offset_of, phase_at, registers_at, line_feeds_in, TokenTooLong, InputTooLong, ReadFailed, Parked, Phase, Going, Ended, Halted}
use Rattle.vcd_text.proofs.Streams.{no-halt}

module _ (rest : Option (List ℕ)) (chunk c : List ℕ) (same : length c ≡ length chunk) (limit : ℕ) (p : Parked) (i : Input) (given : List Token) where
  abbrev q : Parked
  q = registers_at (offset_of p)

  abbrev left : List ℕ
  left = drop (looked p) i.bytes

  -- what was not looked at is near any later offset
  near : (place : ℕ) → looked p ≤ place → Near (length c) (Some left) place i
  near place le = let l : length left ≡ length i.bytes - looked p = length-drop (looked p) i.bytes in omega arith

  at_place : At limit rest chunk p i.bytes given 0 → At limit (Some left) c q i.bytes given 0
  at_place a = record {
    place = record {
      more = left;
      known = refl;
      ahead = rw add-zero refl;
      within = let w = a.place.within in omega arith;
      live = subst (λ x. HasLookedAt limit i.bytes x (x - 0) given) (sym (add-zero (looked p))) a.place.live;
      line_feeds_are = subst (λ x. p.line_feeds ≡ line_feeds_in (take x i.bytes)) (sym (add-zero (looked p))) a.place.line_feeds_are;
    };
    begun = omega arith;
  }

  in_phase : (phase : Phase) → InPhase phase limit rest chunk p i given → InPhase (unwrap_or (phase_at (answer_number phase)) Going) limit (Some left) c q i given
  in_phase Going h = (h.0, at_place h.1)
  in_phase Ended h = (near (looked q) (omega arith), h.1, h.2)
  in_phase (Halted TokenTooLong) h = (near (looked q) (omega arith), h.1, h.2, subst (λ x. IfSome (halt_place limit i) (λ place. x ≤ place)) (sym (add-zero (looked p))) h.3)
  in_phase (Halted InputTooLong) h = (near (looked q) (omega arith), h.1, h.2, subst (λ x. IfSome (halt_place limit i) (λ place. x ≤ place)) (sym (add-zero (looked p))) h.3)
  in_phase (Halted ReadFailed) h = (near (looked q) (omega arith), h.1, h.2, subst (λ x. IfSome (halt_place limit i) (λ place. x ≤ place)) (sym (add-zero (looked p))) h.3)

  -- what the source had left when it was known to be near an offset
  near_still : (more : List ℕ) → length more ≤ length i.bytes - looked p → (place : ℕ) → length i.bytes ≤ place + length chunk + length more → Near (length c) (Some left) place i
  near_still more le place n = let l : length left ≡ length i.bytes - looked p = length-drop (looked p) i.bytes in omega arith

  halt_near : (phase : Phase) → InPhase phase limit rest chunk p i given → IfSome (halt_place limit i) (λ place. Near (length chunk) rest place i)
      → IfSome (halt_place limit i) (λ place. Near (length c) (Some left) place i)
  halt_near Going h n =
      let a = h.1.place in
      let le : length a.more ≤ length i.bytes - looked p = let e = ap length a.ahead ∙ length-append (slice_range chunk p.at p.end) a.more in
      let l = length-drop (looked p) i.bytes in omega arith in
      IfSome_then (halt_place limit i) n (λ place m. near_still a.more le place (subst (λ r. Near (length chunk) r place i) a.known m))
  halt_near Ended h n = no-halt limit i given (p.line_feeds + 1) (λ place. Near (length c) (Some left) place i) h.1
  halt_near (Halted halt) h n = IfSome_then (halt_place limit i) h.3 (λ place m. near place m)

-- if a feed is parked, another may continue
pub goes_on_at : (rest : Option (List ℕ)) (chunk token : List ℕ) (p : Parked) (i : Input) (given : List Token)
    → HasGivenParked rest chunk token p i given → HasGivenTo (length chunk) (length token) (offset_of p) i given
goes_on_at rest chunk token p i given h c t same limit = record {
  at = subst (λ n. InPhase (unwrap_or (phase_at (answer_number p.phase)) Going) n (Some (drop (looked p) i.bytes)) c
      (registers_at (offset_of p)) i given) (sym limit) (in_phase rest chunk c same (length token) p i given p.phase h.at);
  given_first = rw limit h.given_first;
  read_ahead = near rest chunk c same (length token) p i given (looked (registers_at (offset_of p))) (omega arith);
  near_token = λ some. absurd (some refl);
  near_halt = rw limit (halt_near rest chunk c same (length token) p i given p.phase h.at h.near_halt);
}

-- the phase of a number is the one that has it
pub phase_back : (phase : Phase) → phase_at (answer_number phase) ≡ Some phase
phase_back Going = refl
phase_back Ended = refl
phase_back (Halted TokenTooLong) = refl
phase_back (Halted InputTooLong) = refl
phase_back (Halted ReadFailed) = refl
