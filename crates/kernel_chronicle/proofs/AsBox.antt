-- A handle that has a value owns what a box at the same types owns.
use mir.Syntax.{impl, tnil, dnil}
use mathlib.Core.List.{[]}
use denote.Signature.{Slot, plain}
use Rattle.std_alloc.proofs.BoxSteps.Form.{Bx}
use Rattle.std_heap.specs.contracts.Global as Heap
use Rattle.std_heap.specs.contracts.GlobalAllocator.TheImpl.{ghosts, dict}
use Rattle.std_heap.proofs.Global.TheLaws as heap
use Rattle.kernel_chronicle.specs.contracts.chronicle.Chronicle as Kernel
use Rattle.kernel_chronicle.proofs.chronicle.Chronicle.TheLaws as kernel
use Rattle.kernel_chronicle.specs.contracts.loose.Loose as Loose
use Rattle.kernel_chronicle.specs.contracts.handle.Handle as Handle

abbrev pub E : Bx
E = record { row = Kernel.the_row; laws = kernel.the_row_laws; al = record { row = Heap.the_row; laws = heap.the_row_laws; g = ghosts; d = dict; drops = impl [] tnil dnil } }

abbrev pub FromParts : Slot 0
FromParts = plain (λ _. Loose.the_row Kernel.the_row Heap.the_row ghosts)

abbrev pub FromHandle : Slot 0
FromHandle = plain (λ _. Handle.the_row)
