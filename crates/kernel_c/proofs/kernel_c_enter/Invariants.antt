use Rattle.kernel_chronicle.specs.Handles.{held}
use Rattle.kernel_c.proofs.kernel_c_enter.Given as goal

abbrev pub ghost-into_box : goal.ghost-into_box
ghost-into_box g a = held a.self.value
