use Rattle.std.proofs.Common.{◌≤◌, List, [], ◌∷◌, Option, None, Some, length, arith}
use Rattle.dk_base.specs.declared.object.Obj.{Obj}
use Rattle.spec_records.specs.Words.{objects_of}
use Rattle.test_tables.proofs.forking.are_copied.Goals as goal

-- a table names no more objects than it has rows
few_objects : (t : List (Option Obj)) → length (objects_of t) ≤ length t
few_objects [] = omega arith
few_objects (None ∷ t) = omega (arith, few_objects t)
few_objects (Some o ∷ t) = omega (arith, few_objects t)

pub fork_rows-requires-clause-room : goal.fork_rows-requires-clause-room
fork_rows-requires-clause-room c = omega (arith, few_objects c.args.parent.now, c.len.ensures, c.if-len-ne3.false, c.requires.room)
