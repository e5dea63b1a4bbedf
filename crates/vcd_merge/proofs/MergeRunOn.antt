-- A run so far, and where a turn of one input has taken it before its last step.
use Rattle.vcd_merge.proofs.Cited.{◌≡◌, ℕ, Bool, List, length, Option, Result, sym, subst, ◌∙◌, inl, inr, Header, Dump, merge_open, merged_items, Device, Supply, Writes, both-written, part_len, Holds, IsReady, Standing, RunGives, Lane, More, Stop}
use Rattle.vcd_merge.proofs.MergeReads.{AreReadSoFar, read_along}
use Rattle.vcd_merge.proofs.PartLemmas.{same_part}

-- the merge holds these items, its parts have these lengths, each input was read on its turn alone,
-- and what is due is on the output
pub record IsSoFar {X : Type 0} (rest : X → Option (List ℕ)) (failures : X → ℕ) (hs : List Header) (lanes : List Lane) (limit chunk : ℕ)
    (olds : List Supply) (begin : Device) (ds : List Dump) (s : Standing X) (out : Device) : Type 0 where
  pub holds : Holds rest hs lanes ds s
  pub ready : IsReady s
  pub limit_is : part_len (length s.seats) s.tokens ≡ limit
  pub chunk_is : part_len (length s.seats) s.chunks ≡ chunk
  pub reads : AreReadSoFar rest failures hs limit chunk lanes olds ds s.seats s.sources
  pub writes : Writes begin out (merge_open hs (merged_items ds))

pub run_on : {X : Type 0} {rest : X → Option (List ℕ)} {failures : X
    → ℕ} {hs : List Header} {lanes : List Lane} {limit chunk : ℕ} {olds : List Supply} {begin : Device} {ds : List Dump} {s : Standing X} {out : Device}
    → IsSoFar rest failures hs lanes limit chunk olds begin ds s out
    → {alone : Bool} {s' : Standing X} {new : Device} {result : Result More Stop} (r : RunGives rest failures hs lanes alone ds s s' out new result)
    → IsSoFar rest failures hs lanes limit chunk olds begin r.dumps r.mid r.between
run_on {X} {rest} {failures} {hs} {lanes} {limit} {chunk} {olds} {begin} {ds} {s} {out} b r = record {
  holds = r.holds;
  ready = r.ready;
  limit_is = same_part (length s.seats) (length r.mid.seats) s.tokens r.mid.tokens r.seats r.tokens ∙ b.limit_is;
  chunk_is = same_part (length s.seats) (length r.mid.seats) s.chunks r.mid.chunks r.seats r.chunks ∙ b.chunk_is;
  reads = read_along rest failures hs limit chunk lanes olds ds r.dumps s.seats r.mid.seats s.sources r.mid.sources r.goes r.failures_are
      (λ j l x at_l at_x. elim (r.reads j l x at_l at_x) [ inl same ↦ inl same | inr turn ↦ inr (rw (← b.limit_is, ← b.chunk_is) turn) ]) b.reads;
  writes = subst (Writes begin r.between) (sym r.grows.1) (both-written begin out r.between (merge_open hs (merged_items ds)) r.grows.0 b.writes r.grows.2);
}
