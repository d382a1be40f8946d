-- What the reader's own contracts say of faults.
use Rattle.std.specs.Prelude.{ℕ}
use Rattle.line_reader.specs.declared.fault.Fault.{Fault}
use Rattle.line_reader.specs.declared.fault.Fault.TheVariants.{Bad as BadLine, Memory as NoRoom}
use Rattle.script_lang.specs.declared.bad.ParseFault.{ParseFault}
use Rattle.script_lang.specs.declared.bad.ParseFault.TheVariants.{Bad, Memory}

-- the fault of a line
abbrev pub fault_at : ℕ → Fault → ParseFault
fault_at n (BadLine reason) = Bad (record { line = n; reason = reason })
fault_at n NoRoom = Memory
