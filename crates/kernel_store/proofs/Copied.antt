-- Rows of a table are references.
use Rattle.std.proofs.Common.{◌≤◌, ℕ, List, Option, arith}
use Rattle.spec_records.specs.Words.{count_object, objects_of, table_in}
use Rattle.spec_kernel.specs.Types.{Call, Name, Obj}
use Rattle.kernel_holdings.specs.Words.{references_to}
use Rattle.kernel_holdings.proofs.Referring.{references_to-parts}
use Rattle.kernel_holdings.proofs.TableCounts.{count_in-close_all}

pub table_held :
    (tables : List (List (Option Obj))) (names : List Name) (calls : List Call) (p : ℕ) (o : Obj) →
    count_object o (objects_of (table_in tables p)) ≤ references_to tables names calls o
table_held tables names calls p o = omega (arith, references_to-parts tables names calls o, count_in-close_all o tables p)
