-- A call that brings no objects leaves the tables, and what a caller is told depends on them alone.
use Rattle.std.proofs.Common.{◌≡◌, ℕ, zero, suc, ◌-◌, ◌==◌, Bool, true, false, List, [], ◌∷◌, Option, Some, None, if◌then◌else◌, slice_get, slice_set, unwrap_or, refl, ap, ◌∙◌}
use Rattle.spec_kernel.specs.Types.{Call, CallStage, Obj}
use Rattle.spec_records.specs.declared.record.CallStage.TheVariants as stage
use Rattle.spec_records.specs.Words.{table_in, with_table}
use Rattle.spec_kernel.specs.Words.{State, collect_answer, collect_answer_in, has_room, tables_after_collect, tables_with}

-- a table that is put back changes nothing

put_back : {X : Type 0} (xs : List X) (i : ℕ) (x : X) → slice_set xs i (unwrap_or (slice_get xs i) x) ≡ xs
put_back [] i x = refl
put_back (y ∷ ys) zero x = refl
put_back (y ∷ ys) (suc i) x = ap (λ zs. y ∷ zs) (put_back ys i x)

table_put_back : (tables : List (List (Option Obj))) (p : ℕ) → with_table tables p (table_in tables p) ≡ tables
table_put_back tables p =
    elim (p == 0) as (λ b. (if b then tables else slice_set tables (p - 1) (unwrap_or (if b then None else slice_get tables (p - 1)) [])) ≡ tables)
    [ true ↦ refl | false ↦ put_back tables (p - 1) [] ]

pub nothing_collected : (m : State) (p : ℕ) → tables_after_collect m p [] ≡ m.tables
nothing_collected m p = go (has_room m p [])
  where
    go : (b : Bool) → (if b then tables_with m p [] else m.tables) ≡ m.tables
    go true = table_put_back m.tables p
    go false = refl

-- what a caller is told depends on the tables alone
pub told_alike : (m n : State) (p : ℕ) (o : Option Call) → n.tables ≡ m.tables → collect_answer_in n p o ≡ collect_answer_in m p o
told_alike m n p o e = with_tables o ∙ ap (λ tables. collect_answer_in (record m { tables = tables }) p o) e
  where
    at_stage : (r : Call) (s : CallStage) → collect_answer n p r s ≡ collect_answer (record m { tables = n.tables }) p r s
    at_stage r (stage.Returned bytes objects) = refl
    at_stage r (stage.Ended x) = refl
    at_stage r stage.Queued = refl
    at_stage r (stage.Given u) = refl
    at_stage r (stage.Entered u) = refl
    at_stage r (stage.Answered k) = refl
    at_stage r stage.Gone = refl

    with_tables : (o : Option Call) → collect_answer_in n p o ≡ collect_answer_in (record m { tables = n.tables }) p o
    with_tables None = refl
    with_tables (Some r) = at_stage r r.stage
