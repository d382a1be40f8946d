-- The table of a process that has free descriptors, read and written at its place.
use Rattle.std.proofs.Common.{◌≡◌, ℕ, zero, suc, ◌-◌, ◌<◌, ◌==◌, Bool, true, false, List, [], ◌∷◌, Option, None, if◌then◌else◌, get_or, set, unwrap_or, slice_get, slice_set, refl, ap, ◌∙◌, arith}
use Rattle.dk_base.specs.declared.object.Obj.{Obj}
use Rattle.spec_records.specs.Words.{free_rows, table_in, with_table}

read_there : (ts : List (List (Option Obj))) (i : ℕ) (d : List (Option Obj)) → 0 < free_rows (unwrap_or (slice_get ts i) []) → get_or ts i d ≡ unwrap_or (slice_get ts i) []
read_there [] i d h = absurd (omega arith)
read_there (t ∷ ts) zero d h = refl
read_there (t ∷ ts) (suc i) d h = read_there ts i d h

pub table_read :
    (items tables : List (List (Option Obj))) (p : ℕ) (t : List (Option Obj)) → t ≡ get_or items (p - 1) t → items ≡ tables → 0 < free_rows (table_in tables p) →
    t ≡ table_in tables p
table_read items tables p t read same h = read ∙ ap (λ ts. get_or ts (p - 1) t) same ∙ go (p == 0) h
  where
    go : (b : Bool) → 0 < free_rows (unwrap_or (if b then None else slice_get tables (p - 1)) []) → get_or tables (p - 1) t ≡ unwrap_or (if b then None else slice_get tables (p - 1)) []
    go true k = absurd (omega arith)
    go false k = read_there tables (p - 1) t k

pub table_written :
    (items tables : List (List (Option Obj))) (p : ℕ) (t : List (Option Obj)) → items ≡ tables → 0 < free_rows (table_in tables p) →
    set items (p - 1) t ≡ with_table tables p t
table_written items tables p t same h = ap (λ ts. set ts (p - 1) t) same ∙ go (p == 0) h
  where
    go : (b : Bool) → 0 < free_rows (unwrap_or (if b then None else slice_get tables (p - 1)) []) → set tables (p - 1) t ≡ (if b then tables else slice_set tables (p - 1) t)
    go true k = absurd (omega arith)
    go false k = refl
