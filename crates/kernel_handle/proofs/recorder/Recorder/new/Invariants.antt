use Rattle.kernel_handle.proofs.recorder.Recorder.new.Given as goal

abbrev pub ghost-opened : goal.ghost-opened
ghost-opened g a = g.K.Answers.keeps a.kernel
