-- What a watch knows besides its device.
use Rattle.std.specs.Prelude.{ℕ, Bool}
use Rattle.vcd_text.specs.declared.device.Watch.{Watch}

-- how many calls of the device have failed
abbrev pub failed_calls : {D : Type 0} → Watch D → ℕ
failed_calls w = w.failures

-- whether the last of them did
abbrev pub has_just_failed : {D : Type 0} → Watch D → Bool
has_just_failed w = w.last_failed
