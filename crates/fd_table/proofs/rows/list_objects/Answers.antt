use Rattle.std.proofs.Common.{ap, ◌∙◌, arith}
use Rattle.fd_table.proofs.Listed.{listed_none, listed_one}
use Rattle.fd_table.proofs.rows.list_objects.Goals as goal
use Rattle.fd_table.proofs.rows.list_objects.Goals.{in-Some, in_default}

pub loop-row-preserved : goal.loop-row-preserved
loop-row-preserved c =
    let rows = c.args.rows.now in
    let i = c.loop-row.row-index in
    elim c.match-row.branch [
      | in-Some w ↦ record {
        listed = ap (λ r. r.items) w.into-is
            ∙ w.push.ensures.items
            ∙ listed_one rows i w.in-Some.object c.args.into.now.items c.loop-row.into.items c.loop-row-test.true w.in-Some.is c.loop-row.invariant.listed;
        roomy = let same = ap (λ r. r.spare) w.into-is in omega arith;
      }
      | in_default w ↦ record {
        listed = ap (λ r. r.items) w.into-is
            ∙ listed_none rows i c.args.into.now.items c.loop-row.into.items c.loop-row-test.true w.in_default.is c.loop-row.invariant.listed;
        roomy = let same = ap (λ r. r.spare) w.into-is in omega arith;
      }
    ]
