-- The numbers and names that report a signer's faults and a serving's.
use Rattle.std.specs.Prelude.{ℕ, List, codes}
use Rattle.sign_core.specs.declared.fault.ServeFault.{ServeFault}
use Rattle.sign_core.specs.declared.fault.ServeFault.TheVariants as serving
use Rattle.sign_core.specs.declared.fault.SignFault.{SignFault}
use Rattle.sign_core.specs.declared.fault.SignFault.TheVariants.{Changed, Damaged, DeviceFailed, Exhausted, Illegal}
use Rattle.sign_core.specs.declared.fault.SignFault.TheVariants.{KeyThere, LedgerFull, LongName, MessageRead, Moved}
use Rattle.sign_core.specs.declared.fault.SignFault.TheVariants.{NoKey, NoMemoryToOpen, OutOfMemory, RandomFailed}
use Rattle.sign_core.specs.declared.fault.SignFault.TheVariants.{RandomRepeated, RetireRange, Stopped, StoreFailed}
use Rattle.sign_core.specs.declared.fault.SignFault.TheVariants.{Unreadable}

abbrev pub sign_fault_number : SignFault → ℕ
sign_fault_number Changed = 21
sign_fault_number Exhausted = 22
sign_fault_number RandomFailed = 23
sign_fault_number RandomRepeated = 24
sign_fault_number StoreFailed = 25
sign_fault_number Stopped = 26
sign_fault_number MessageRead = 27
sign_fault_number (Damaged slot) = 28
sign_fault_number OutOfMemory = 29
sign_fault_number LedgerFull = 30
sign_fault_number Moved = 31
sign_fault_number RetireRange = 32
sign_fault_number LongName = 33
sign_fault_number NoKey = 40
sign_fault_number (Unreadable slot) = 43
sign_fault_number (Illegal slot) = 44
sign_fault_number DeviceFailed = 45
sign_fault_number NoMemoryToOpen = 46
sign_fault_number KeyThere = 50

-- the names that are printed beside them
abbrev pub sign_fault_name : SignFault → List ℕ
sign_fault_name Changed = codes "Changed"
sign_fault_name Exhausted = codes "Exhausted"
sign_fault_name RandomFailed = codes "RandomFailed"
sign_fault_name RandomRepeated = codes "RandomRepeated"
sign_fault_name StoreFailed = codes "StoreFailed"
sign_fault_name Stopped = codes "Stopped"
sign_fault_name MessageRead = codes "MessageRead"
sign_fault_name (Damaged slot) = codes "Damaged"
sign_fault_name OutOfMemory = codes "OutOfMemory"
sign_fault_name LedgerFull = codes "LedgerFull"
sign_fault_name Moved = codes "Moved"
sign_fault_name RetireRange = codes "RetireRange"
sign_fault_name LongName = codes "LongName"
sign_fault_name NoKey = codes "NoKey"
sign_fault_name (Unreadable slot) = codes "Damaged"
sign_fault_name (Illegal slot) = codes "Illegal"
sign_fault_name DeviceFailed = codes "DeviceFailed"
sign_fault_name NoMemoryToOpen = codes "OutOfMemory"
sign_fault_name KeyThere = codes "KeyThere"

abbrev pub serve_fault_number : ServeFault → ℕ
serve_fault_number serving.MessageRead = 27
serve_fault_number serving.FrameCut = 35
serve_fault_number serving.WriteFailed = 36

abbrev pub serve_fault_name : ServeFault → List ℕ
serve_fault_name serving.MessageRead = codes "MessageRead"
serve_fault_name serving.FrameCut = codes "FrameCut"
serve_fault_name serving.WriteFailed = codes "WriteFailed"
