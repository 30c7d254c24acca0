-- `eof::fault::put_fault` meets its contract: nothing, or one field.
use Rattle.eof.proofs.Faults.{fault_stored}
use Rattle.eof.proofs.fault.put_fault.Goals as goal

pub returns-in-Some : goal.returns-in-Some
returns-in-Some c = fault_stored _ _ c.in-Some.is _ _ _ c.requires.0 c.requires.1 c.put_number.ensures
