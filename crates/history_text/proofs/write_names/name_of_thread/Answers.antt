use Rattle.history_text.proofs.write_names.name_of_thread.Goals as goal

pub returns-clause-short : goal.returns-clause-short
returns-clause-short c = rw c.thread_name.ensures (c.requires.threads c.args.thread)
