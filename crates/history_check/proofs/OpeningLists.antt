-- The processes and threads that are declared, one after the other.
use Rattle.std.proofs.Common.{◌≡◌, ℕ, ◌+◌, ◌<◌, Bool, List, [], ◌∷◌, ◌++◌, Option, Some, None, false, length, map, take, get_or, suc, zero, sym, ap, ◌∙◌, arith, option_map, unwrap_or}
use Rattle.std.specs.Prelude.{option_and_then, slice_get}
use Rattle.std.proofs.lemmas.Option.{slice_get-get_or}
use Rattle.dk_base.specs.ByNumber.{at_number}
use Rattle.spec_records.proofs.Lists.{at_number-suc}
use Rattle.spec_kernel.specs.Types.{Pid}
use Rattle.spec_histories.specs.declared.opening.OpeningProcess.{OpeningProcess}
use Rattle.spec_histories.specs.declared.opening.OpeningThread.{OpeningThread}
use Rattle.history_text.specs.declared.named.NamedProcess.{NamedProcess}
use Rattle.history_text.specs.declared.named.NamedThread.{NamedThread}
use Rattle.history_text.specs.Changes.{is_spare}
use Rattle.history_text.specs.Lookups.{limit_of, parent_of, process_of}
use Rattle.history_text.specs.Names.{Names}
use Rattle.history_check.specs.Openings.{opening_process, opening_thread}

next_item : {X Y : Type 0} (f : X → Y) (xs : List X) (i : ℕ) (x : X) → slice_get xs i ≡ Some x → map f (take i xs) ++ f x ∷ [] ≡ map f (take (suc i) xs)
next_item f [] i x e = cc
next_item f (y ∷ xs) zero x e = let same : y ≡ x = cc in ap (λ z. f z ∷ []) (sym same)
next_item f (y ∷ xs) (suc i) x e = ap (λ zs. f y ∷ zs) (next_item f xs i x e)

-- the item at a place, by its number
at_place : {X : Type 0} (xs : List X) (i : ℕ) (d : X) → i < length xs → at_number xs (i + 1) ≡ Some (get_or xs i d)
at_place xs i d within =
    let more : i + 1 ≡ suc i = omega arith in
    ap (at_number xs) more ∙ at_number-suc xs i ∙ slice_get-get_or xs i d within

no_process : NamedProcess
no_process = record { declared = []; given = None; limit = 0; parent = None; mentioned = false }

pub process_after :
    (names : Names) (i limit : ℕ) (parent : Option Pid) (before after : List OpeningProcess) → i < length names.processes →
    limit ≡ limit_of names (record { 0 = i + 1 }) → parent ≡ parent_of names (i + 1) → before ≡ map opening_process (take i names.processes) →
    after ≡ before ++ record { limit = limit; parent = parent } ∷ [] → after ≡ map opening_process (take (i + 1) names.processes)
process_after names i limit parent before after within l p b a =
    let x : NamedProcess = get_or names.processes i no_process in
    let there : at_number names.processes (i + 1) ≡ Some x = at_place names.processes i no_process within in
    let limit_is : limit ≡ x.limit = l ∙ ap (λ (o : Option NamedProcess). unwrap_or (option_map (λ found. found.limit) o) 0) there in
    let parent_is : parent ≡ x.parent = p ∙ ap (λ (o : Option NamedProcess). option_and_then (λ found. found.parent) o) there in
    let more : i + 1 ≡ suc i = omega arith in
    a ∙ ap (λ (xs : List OpeningProcess). xs ++ record { limit = limit; parent = parent } ∷ []) b
    ∙ ap (λ (n : ℕ). map opening_process (take i names.processes) ++ record { limit = n; parent = parent } ∷ []) limit_is
    ∙ ap (λ (q : Option Pid). map opening_process (take i names.processes) ++ record { limit = x.limit; parent = q } ∷ []) parent_is
    ∙ next_item opening_process names.processes i x (slice_get-get_or names.processes i no_process within)
    ∙ ap (λ (n : ℕ). map opening_process (take n names.processes)) (sym more)

no_thread : NamedThread
no_thread = record { declared = []; given = None; process = 0; spare = false }

pub thread_after :
    (names : Names) (i process : ℕ) (spare : Bool) (before after : List OpeningThread) → i < length names.threads →
    process ≡ process_of names (record { 0 = i + 1 }) → spare ≡ is_spare names (record { 0 = i + 1 }) → before ≡ map opening_thread (take i names.threads) →
    after ≡ before ++ record { process = record { 0 = process }; spare = spare } ∷ [] → after ≡ map opening_thread (take (i + 1) names.threads)
thread_after names i process spare before after within p s b a =
    let x : NamedThread = get_or names.threads i no_thread in
    let there : at_number names.threads (i + 1) ≡ Some x = at_place names.threads i no_thread within in
    let process_is : process ≡ x.process = p ∙ ap (λ (o : Option NamedThread). unwrap_or (option_map (λ found. found.process) o) 0) there in
    let spare_is : spare ≡ x.spare = s ∙ ap (λ (o : Option NamedThread). unwrap_or (option_map (λ found. found.spare) o) false) there in
    let more : i + 1 ≡ suc i = omega arith in
    a ∙ ap (λ (xs : List OpeningThread). xs ++ record { process = record { 0 = process }; spare = spare } ∷ []) b
    ∙ ap (λ (n : ℕ). map opening_thread (take i names.threads) ++ record { process = record { 0 = n }; spare = spare } ∷ []) process_is
    ∙ ap (λ (q : Bool). map opening_thread (take i names.threads) ++ record { process = record { 0 = x.process }; spare = q } ∷ []) spare_is
    ∙ next_item opening_thread names.threads i x (slice_get-get_or names.threads i no_thread within)
    ∙ ap (λ (n : ℕ). map opening_thread (take n names.threads)) (sym more)
