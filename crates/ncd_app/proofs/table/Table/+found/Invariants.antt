use Rattle.ncd_app.proofs.table.Table.+found.Given as goal

abbrev pub decreases-found : goal.decreases-found
decreases-found l = l.left
