use Rattle.history_text.proofs.write_names.name_of_procedure.Goals as goal

pub returns-clause-short : goal.returns-clause-short
returns-clause-short c = rw c.procedure_name.ensures (c.requires.procedures c.args.entry)
