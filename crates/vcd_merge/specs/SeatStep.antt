-- What a step of one input leaves of its feed, whatever the input is.
use Rattle.std.specs.Prelude.{◌≡◌, ℕ, ◌+◌, ◌^◌, ◌<◌, false, Result, IfOk}
use Rattle.vcd_text.specs.Feed.{SameLoans, limit_of, chunk_len_of, seen, source_of}
use Rattle.vcd_text.specs.Device.{Device, failures_then}
use Rattle.vcd_text.specs.declared.device.Source.{Ghosts}
use Rattle.vcd_text.specs.declared.feed.Feed.{Feed}
use Rattle.vcd_text.specs.Advances.{HasNotFailed}
use Rattle.vcd_body.specs.Answer.{EndsAtRead, reads_failed, writes_failed}
use Rattle.vcd_body.specs.declared.answer.Stop.{Stop}
use Rattle.vcd_merge.specs.declared.seat.Seat.{Seat}

-- the loans and lengths stay; a failed read is returned if the source failed, in its last read; and
-- the feed has moved on, or it has finished
pub record Moved {X : Type 0} {g : Ghosts X} {A : Type 0} (failures : X → ℕ) (old new : Feed X g) (s : Seat) (result : Result A Stop) : Type 0 where
  pub loans : SameLoans old new
  pub limit : limit_of new ≡ limit_of old
  pub chunk : chunk_len_of new ≡ chunk_len_of old
  pub goes : HasNotFailed old → IfOk result (λ _. HasNotFailed new)
  pub failed : HasNotFailed old → failures (source_of new) ≡ failures (source_of old) + reads_failed result
  pub last : HasNotFailed old → EndsAtRead (g.last_failed (source_of new)) result
  pub progress : IfOk result (λ _. s.finished ≡ false → seen old < seen new)
  pub bounded : seen new < 2 ^ 63

-- if the step stopped at a failed write, one has failed, the last one; otherwise none has
abbrev pub CountsWrites : {A : Type 0} → Device → Device → Result A Stop → Type 0
CountsWrites out out' result = failures_then (writes_failed result) out' ≡ out.failures + writes_failed result
