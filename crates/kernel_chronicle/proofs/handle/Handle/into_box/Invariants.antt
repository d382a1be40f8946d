use Rattle.kernel_chronicle.specs.Handles.{held}
use Rattle.kernel_chronicle.proofs.handle.Handle.into_box.Given as goal

abbrev pub ghost-into_parts : goal.ghost-into_parts
ghost-into_parts g a = held a.self.value
