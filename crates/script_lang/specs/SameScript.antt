-- That `==` of a script's parts holds of equal ones alone.
use Rattle.std.specs.Prelude.{◌≡◌, ℕ, Bool, List}
use Rattle.std.specs.Bool.{Decides}
use Rattle.std.proofs.Common.{rules, ap}
use Rattle.std.proofs.lemmas.Bool.Decides.{Decides-like}
use Rattle.dk_base.specs.Words.{bytes_exact, field_exact, flag_exact, last_exact, lists_exact, process_exact as pid_exact}
use Rattle.line_forms.specs.Words.{line_exact}
use Rattle.script_lang.specs.Types.{Line}
use Rattle.line_text.specs.Types.{Pid}
use Rattle.script_lang.specs.declared.script.Part.{Part}
use Rattle.script_lang.specs.declared.script.Procedure.{Procedure}
use Rattle.script_lang.specs.declared.script.ScriptProcess.{ScriptProcess}
use Rattle.script_lang.specs.declared.script.ScriptThread.{ScriptThread}
use Rattle.script_lang.specs.contracts.script.PartPartialEq.TheImpl as part_eq
use Rattle.script_lang.specs.contracts.script.ProcedurePartialEq.TheImpl as procedure_eq
use Rattle.script_lang.specs.contracts.script.ScriptProcessPartialEq.TheImpl as process_eq
use Rattle.script_lang.specs.contracts.script.ScriptThreadPartialEq.TheImpl as thread_eq

pub part_exact : (a b : Part) → Decides ((part_eq.ghosts).eq a b) (a ≡ b)
part_exact = search rules

pub script_process_exact : (a b : ScriptProcess) → Decides ((process_eq.ghosts).eq a b) (a ≡ b)
script_process_exact = search rules

abbrev thread_fields : ScriptThread → List ℕ × (Pid × (Bool × (List Line × Unit {0})))
thread_fields thread = (thread.name, (thread.process, (thread.spare, (thread.body, tt))))

abbrev thread_of_fields : List ℕ × (Pid × (Bool × (List Line × Unit {0}))) → ScriptThread
thread_of_fields fields = record { name = fields.0; process = fields.1.0; spare = fields.1.1.0; body = fields.1.1.1.0 }

pub script_thread_exact : (a b : ScriptThread) → Decides ((thread_eq.ghosts).eq a b) (a ≡ b)
script_thread_exact a b =
    Decides-like ((thread_eq.ghosts).eq a b) (ap thread_of_fields) (ap thread_fields)
    (field_exact bytes_exact (field_exact pid_exact (field_exact flag_exact (last_exact (lists_exact line_exact)))) (thread_fields a) (thread_fields b))

abbrev procedure_fields : Procedure → List ℕ × (Pid × (List Line × Unit {0}))
procedure_fields procedure = (procedure.name, (procedure.process, (procedure.body, tt)))

abbrev procedure_of_fields : List ℕ × (Pid × (List Line × Unit {0})) → Procedure
procedure_of_fields fields = record { name = fields.0; process = fields.1.0; body = fields.1.1.0 }

pub script_procedure_exact : (a b : Procedure) → Decides ((procedure_eq.ghosts).eq a b) (a ≡ b)
script_procedure_exact a b =
    Decides-like ((procedure_eq.ghosts).eq a b) (ap procedure_of_fields) (ap procedure_fields)
    (field_exact bytes_exact (field_exact pid_exact (last_exact (lists_exact line_exact))) (procedure_fields a) (procedure_fields b))
