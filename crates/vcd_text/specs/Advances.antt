-- What a call that reads tokens leaves of a feed, whatever the tokens are.
use Rattle.std.specs.Prelude.{◌≡◌, ◌≢◌, ℕ, ◌+◌, ◌^◌, ◌<◌, ◌≤◌, true, OnOk, Result, Some, Err}
use Rattle.vcd_text.specs.Feed.{SameLoans, limit_of, chunk_len_of, answer_of, seen, source_of}
use Rattle.vcd_text.specs.declared.device.Source.{Ghosts}
use Rattle.vcd_text.specs.declared.feed.Feed.{Feed}
use Rattle.vcd_text.specs.declared.answer.Halt.TheVariants as halt

-- how a call ends: the reading continues, or it has ended or is refused, or the source has failed
pub data CallEnd : Type 0 where
  GoesOn : CallEnd
  Ends : CallEnd
  Fails : CallEnd

-- no failed read was returned
abbrev pub HasNotFailed : {X : Type 0} {g : Ghosts X} → Feed X g → Type 0
HasNotFailed f = answer_of f ≢ Some (Err halt.ReadFailed)

-- The loans and lengths stay, and what was looked at grows. The end is a failure of the source if
-- and only if the source failed, and nothing was read after that.
pub record Advances {X : Type 0} {g : Ghosts X} (failures : X → ℕ) (old new : Feed X g) (end : CallEnd) : Type 0 where
  pub loans : SameLoans old new
  pub limit : limit_of new ≡ limit_of old
  pub chunk : chunk_len_of new ≡ chunk_len_of old
  pub on : end ≡ GoesOn → seen old ≤ seen new
  pub goes : end ≡ GoesOn → HasNotFailed old → HasNotFailed new
  pub failed : end ≡ Fails → HasNotFailed old → failures (source_of new) ≡ failures (source_of old) + 1
  pub last : end ≡ Fails → HasNotFailed old → g.last_failed (source_of new) ≡ true
  pub same : end ≢ Fails → failures (source_of new) ≡ failures (source_of old)

-- So it advances, by a byte or more if the call succeeds, and not beyond the bytes that an input
-- may have.
pub record GoesFurther {X A E : Type 0} {g : Ghosts X} (failures : X → ℕ) (old new : Feed X g) (end : CallEnd) (result : Result A E) : Type 0 where
  pub advances : Advances failures old new end
  pub progress : OnOk result (seen old < seen new)
  pub bounded : seen new < 2 ^ 63
