-- What a handle owns: where it has a value, the box of a kernel with its history and names.
use base.Fml.{Fml, ftrue}
use denote.RawPtr.{Ptr}
use Rattle.std.specs.Prelude.{Option, Some, None}
use Rattle.std.specs.Box.Ownership.{box_owns}
use Rattle.std.specs.Global.{Global}
use Rattle.std_heap.specs.contracts.GlobalAllocator.TheImpl.{ghosts}
use Rattle.spec_kernel.specs.Words.{no_process}
use Rattle.spec_histories.specs.Histories.{begun}
use Rattle.history_text.specs.Words.{no_names}
use Rattle.kernel_chronicle.specs.contracts.chronicle.Chronicle.{the_row}

abbrev pub handle_owns : Global → Ptr → Option the_row.Denot → Fml
handle_owns alloc at None = ftrue
handle_owns alloc at (Some value) = box_owns (ghosts.dealloc_token alloc) the_row at value

-- what a handle holds; of an empty one the history of no process
abbrev pub held : Option the_row.Denot → the_row.Denot
held None = record { history = begun no_process; names = no_names }
held (Some value) = value
