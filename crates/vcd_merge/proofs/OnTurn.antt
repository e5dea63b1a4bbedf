-- Inputs of a merge that were each read on its turn, by what the inputs are.
use Rattle.vcd_merge.proofs.Cited.{◌≡◌, ℕ, ◌⊎◌, true, List, slice_get, Option, Some, None, inl, inr, sym, subst, Header, Input, Dump, Key, factor, key_after, key_lt, Supply, BeginsWith, ReadOnTurn, AreGiven, Standing, IsReached, HasDump, Lane}
use Rattle.vcd_merge.specs.MergeRun.{NoneBefore}
use Rattle.vcd_merge.proofs.MergeReads.{IsReadSo}
use Rattle.vcd_merge.proofs.SpotLemmas.{IsLong, known}
use Rattle.vcd_merge.proofs.MergeSteps.{by_flag}
use Rattle.vcd_merge.proofs.WholeInputs.{goes_on}

module _ {X : Type 0} {rest : X → Option (List ℕ)} {hs : List Header} {lanes : List Lane} {ds : List Dump} {s : Standing X}
    (g : AreGiven rest hs lanes ds s) {limit : ℕ} (long : IsLong rest limit s) where
  pub begins : (k : ℕ) (l : Lane) (d : Dump) → slice_get lanes k ≡ Some l → slice_get ds k ≡ Some d → BeginsWith limit hs l d.items
  begins k l d at_l at_d =
      let a = known g long k l d at_l at_d in
      let o = goes_on (factor hs l.header) _ limit l d.items a.spot a.at a.long in
      (o.more, o.fault, o.has)

  -- none that has not finished comes before the key: so none that has not ended
  none_before : (k : ℕ) (key : Key) → IsReached hs ds s.seats k key → NoneBefore limit hs lanes ds k key
  none_before k key reached j l d other at_l at_d =
      let a = known g long j l d at_l at_d in
      by_flag a.spot.seat.finished (λ e. inl (subst (λ (n : ℕ). HasDump (factor hs l.header) n l.header l.front l.input d.items None) a.long (a.at.finished e)))
      (λ e. inr (subst (λ (h : Header). key_lt key (key_after (factor hs h) j d.items) ≡ true) (sym a.same) (reached j d a.spot.seat other at_d a.there e)))

  pub on_turn : (chunk k : ℕ) (l : Lane) (old new : Supply) (left : Input) → IsReadSo limit chunk hs ds s.seats k l old new left → (new ≡ old)
      ⊎ ReadOnTurn limit chunk hs lanes ds k l left new.rest
  on_turn chunk k l old new left (inl same) = inl same
  on_turn chunk k l old new left (inr r) = inr (record { items = r.items; first = none_before k _ r.reached; no_more = r.no_more })
