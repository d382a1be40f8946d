use Rattle.history_text.proofs.write_names.name_of_path.Goals as goal

pub returns-clause-short : goal.returns-clause-short
returns-clause-short c = rw c.path_name.ensures (c.requires.paths c.args.path)
