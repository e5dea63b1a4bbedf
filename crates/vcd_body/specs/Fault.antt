-- The numbers of the faults of a body.
use Rattle.std.specs.Prelude.{ℕ, Result, Ok, Err}
use Rattle.vcd_text.specs.Advances.{CallEnd}
use Rattle.vcd_body.specs.declared.fault.BodyFault.{BodyFault}
use Rattle.vcd_body.specs.declared.fault.BodyFault.TheVariants.{TokenTooLong, EndOfInput, UnknownCommand, OutOfPlace, BadTime, TimeBack, BadValue, UnknownCode, TooWide, RealTooLong, TimeInSection, InputTooLong, ReadFailed}

-- the fault's number
abbrev pub fault_number : BodyFault → ℕ
fault_number TokenTooLong = 1
fault_number EndOfInput = 2
fault_number UnknownCommand = 3
fault_number OutOfPlace = 4
fault_number BadTime = 13
fault_number TimeBack = 14
fault_number BadValue = 15
fault_number UnknownCode = 16
fault_number TooWide = 17
fault_number RealTooLong = 18
fault_number TimeInSection = 19
fault_number InputTooLong = 21
fault_number ReadFailed = 31

-- how a call ends that reads the tokens of a body
abbrev pub call_end : {A : Type 0} → Result A BodyFault → CallEnd
call_end (Ok x) = CallEnd.GoesOn
call_end (Err ReadFailed) = CallEnd.Fails
call_end (Err fault) = CallEnd.Ends
