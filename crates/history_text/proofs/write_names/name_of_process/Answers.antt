use Rattle.history_text.proofs.write_names.name_of_process.Goals as goal

pub returns-clause-short : goal.returns-clause-short
returns-clause-short c = rw c.process_name.ensures (c.requires.processes c.args.process)
