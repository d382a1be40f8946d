use Rattle.std.proofs.Common.{◌≡◌, ◌<◌, ℕ, zero, suc, List, [], ◌∷◌, Option, Some, None, length, slice_get, slice_set, refl, ap, ◌∙◌, arith}
use Rattle.dk_base.specs.declared.object.Obj.{Obj}
use Rattle.spec_records.specs.Words.{object_in}
use Rattle.fork_step.proofs.forking.fork_row.Goals as goal

-- a row that names nothing stays so
same_row : (rows : List (Option Obj)) (i : ℕ) → i < length rows → object_in (slice_get rows i) ≡ None → rows ≡ slice_set rows i None
same_row [] i h e = refl
same_row (None ∷ rows) zero h e = refl
same_row (Some o ∷ rows) zero h e = cc
same_row (row ∷ rows) (suc i) h e = ap (λ xs. row ∷ xs) (same_row rows i (omega arith) e)

pub returns-in-None-clause-row : goal.returns-in-None-clause-row
returns-in-None-clause-row c =
    same_row c.args.child.now c.args.fd.0 c.requires.below c.requires.free ∙ ap (λ (o : Option Obj). slice_set c.args.child.now c.args.fd.0 o) c.in-None.ensures
