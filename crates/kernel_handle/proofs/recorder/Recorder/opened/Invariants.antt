use Rattle.kernel_handle.proofs.recorder.Recorder.opened.Given as goal

abbrev pub ghost-begin : goal.ghost-begin
ghost-begin g a = g.opening
