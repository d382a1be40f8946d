-- One of the tables of all processes is written over while another one is read.
use Rattle.std.proofs.Common.{◌≡◌, ℕ, zero, suc, ◌-◌, ◌<◌, ◌≤◌, List, [], ◌∷◌, ◌++◌, Option, drop, get_or, length, slice_set, take, unwrap_or, refl, sym, ap, ◌∙◌, arith}
use Rattle.std.proofs.lemmas.Option.{slice_get-get_or}
use Rattle.std.proofs.lemmas.List.{length-set}
use Rattle.spec_records.specs.Words.{table_in, with_table}
use Rattle.spec_records.proofs.Lists.{at_number-suc, with_at_number-suc}
use Rattle.spec_kernel.specs.Types.{Obj}

-- the first table of those behind is written over
set_behind : {X : Type 0} (front back : List X) (x : X) → slice_set (front ++ back) (length front) x ≡ front ++ slice_set back 0 x
set_behind [] back x = refl
set_behind (y ∷ ys) back x = ap (λ zs. y ∷ zs) (set_behind ys back x)

-- as many as there were are taken of what is written back
all_taken : {X : Type 0} (xs ys : List X) → length xs ≡ length ys → take (length ys) (xs ++ drop (length xs) ys) ≡ xs
all_taken [] [] h = refl
all_taken [] (y ∷ ys) h = absurd (omega (arith, h))
all_taken (x ∷ xs) [] h = absurd (omega (arith, h))
all_taken (x ∷ xs) (y ∷ ys) h = ap (λ zs. x ∷ zs) (all_taken xs ys (omega (arith, h)))

pub written_over :
    (ts front back : List (List (Option Obj))) (t : List (Option Obj)) (q n : ℕ) →
    ts ≡ front ++ back → length front ≡ q - 1 → 0 < q → n ≡ length ts →
    take n ((front ++ slice_set back 0 t) ++ drop (length (front ++ slice_set back 0 t)) ts) ≡ with_table ts q t
written_over ts front back t zero n is long some all = absurd (omega (arith, some))
written_over ts front back t (suc i) n is long some all =
    let place : length front ≡ i = omega (arith, long) in
    let set : slice_set ts i t ≡ front ++ slice_set back 0 t = ap (λ us. slice_set us i t) is ∙ ap (λ j. slice_set (front ++ back) j t) (sym place) ∙ set_behind front back t in
    let as_long : length (front ++ slice_set back 0 t) ≡ length ts = ap length (sym set) ∙ length-set ts i t in
    ap (λ m. take m ((front ++ slice_set back 0 t) ++ drop (length (front ++ slice_set back 0 t)) ts)) all
    ∙ all_taken (front ++ slice_set back 0 t) ts as_long
    ∙ sym set
    ∙ sym (with_at_number-suc ts i t)

pub read_there : (ts : List (List (Option Obj))) (p : ℕ) (other : List (Option Obj)) → 0 < p → p ≤ length ts → get_or ts (p - 1) other ≡ table_in ts p
read_there ts zero other some within = absurd (omega (arith, some))
read_there ts (suc i) other some within =
    let place : suc i - 1 ≡ i = omega arith in
    ap (λ j. get_or ts j other) place
    ∙ sym (ap (λ o. unwrap_or o []) (at_number-suc ts i ∙ slice_get-get_or ts i other (omega (arith, within))))
