-- The numbers of the faults of a header.
use Rattle.std.specs.Prelude.{◌≡◌, ℕ, Result, Ok, Err}
use Rattle.vcd_text.specs.Advances.{CallEnd}
use Rattle.vcd_head.specs.declared.fault.HeadFault.{HeadFault}
use Rattle.vcd_head.specs.declared.fault.HeadFault.TheVariants.{TokenTooLong, EndOfInput, UnknownCommand, OutOfPlace, BadTimescale, BadScope, BadVariable, CodeDiffers, NoScope, TooDeep, TooMany, InputTooLong, ReadFailed, OutOfMemory}

-- the fault's number
abbrev pub fault_number : HeadFault → ℕ
fault_number TokenTooLong = 1
fault_number EndOfInput = 2
fault_number UnknownCommand = 3
fault_number OutOfPlace = 4
fault_number BadTimescale = 5
fault_number BadScope = 6
fault_number BadVariable = 7
fault_number CodeDiffers = 8
fault_number NoScope = 9
fault_number TooDeep = 10
fault_number TooMany = 11
fault_number InputTooLong = 21
fault_number ReadFailed = 31
fault_number OutOfMemory = 32

-- how a call ends that reads the tokens of a header
abbrev pub call_end : {A : Type 0} → Result A HeadFault → CallEnd
call_end (Ok x) = CallEnd.GoesOn
call_end (Err ReadFailed) = CallEnd.Fails
call_end (Err fault) = CallEnd.Ends

-- it is a fault of a token, and not of the source
abbrev pub IsFound : HeadFault → Type 0
IsFound fault = call_end {A = Unit {0}} (Err fault) ≡ CallEnd.Ends
