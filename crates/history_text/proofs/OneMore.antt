-- One process or thread more of an opening.
use Rattle.std.proofs.Common.{◌≡◌, ◌<◌, ◌+◌, ℕ, List, [], ◌∷◌, ◌++◌, take, get_or, length, zero, suc, refl, ap, sym, subst, ◌∙◌, arith}
use Rattle.spec_histories.specs.declared.opening.OpeningProcess.{OpeningProcess}
use Rattle.spec_histories.specs.declared.opening.OpeningThread.{OpeningThread}
use Rattle.history_text.specs.Types.{NamedProcess, NamedThread}
use Rattle.history_text.specs.DefaultNames.{default_process, default_processes, default_thread, default_threads}

next_process :
    (ps : List OpeningProcess) (n i : ℕ) (d : OpeningProcess) → i < length ps →
    default_processes n (take (suc i) ps) ≡ default_processes n (take i ps) ++ default_process (n + i + 1) (get_or ps i d) ∷ []
next_process [] n i d h = absurd (omega (arith, h))
next_process (p ∷ ps) n zero d h =
    let e : n + 1 ≡ n + 0 + 1 = omega arith in
    ap (λ k. default_process k p ∷ []) e
next_process (p ∷ ps) n (suc i) d h =
    let e : n + 1 + i + 1 ≡ n + suc i + 1 = omega arith in
    ap (λ (xs : List NamedProcess). default_process (n + 1) p ∷ xs)
    (next_process ps (n + 1) i d (omega (arith, h)) ∙ ap (λ k. default_processes (n + 1) (take i ps) ++ default_process k (get_or ps i d) ∷ []) e)

pub one_process :
    (ps : List OpeningProcess) (i : ℕ) (d : OpeningProcess) → i < length ps →
    default_processes 0 (take (i + 1) ps) ≡ default_processes 0 (take i ps) ++ default_process (i + 1) (get_or ps i d) ∷ []
one_process ps i d h =
    let e : suc i ≡ i + 1 = omega arith in
    let z : 0 + i + 1 ≡ i + 1 = omega arith in
    ap (λ k. default_processes 0 (take k ps)) (sym e) ∙ next_process ps 0 i d h
    ∙ ap (λ k. default_processes 0 (take i ps) ++ default_process k (get_or ps i d) ∷ []) z

next_thread :
    (ts : List OpeningThread) (n i : ℕ) (d : OpeningThread) → i < length ts →
    default_threads n (take (suc i) ts) ≡ default_threads n (take i ts) ++ default_thread (n + i + 1) (get_or ts i d) ∷ []
next_thread [] n i d h = absurd (omega (arith, h))
next_thread (t ∷ ts) n zero d h =
    let e : n + 1 ≡ n + 0 + 1 = omega arith in
    ap (λ k. default_thread k t ∷ []) e
next_thread (t ∷ ts) n (suc i) d h =
    let e : n + 1 + i + 1 ≡ n + suc i + 1 = omega arith in
    ap (λ (xs : List NamedThread). default_thread (n + 1) t ∷ xs)
    (next_thread ts (n + 1) i d (omega (arith, h)) ∙ ap (λ k. default_threads (n + 1) (take i ts) ++ default_thread k (get_or ts i d) ∷ []) e)

pub one_thread :
    (ts : List OpeningThread) (i : ℕ) (d : OpeningThread) → i < length ts →
    default_threads 0 (take (i + 1) ts) ≡ default_threads 0 (take i ts) ++ default_thread (i + 1) (get_or ts i d) ∷ []
one_thread ts i d h =
    let e : suc i ≡ i + 1 = omega arith in
    let z : 0 + i + 1 ≡ i + 1 = omega arith in
    ap (λ k. default_threads 0 (take k ts)) (sym e) ∙ next_thread ts 0 i d h
    ∙ ap (λ k. default_threads 0 (take i ts) ++ default_thread k (get_or ts i d) ∷ []) z

pub count_processes : (n : ℕ) (ps : List OpeningProcess) → length (default_processes n ps) ≡ length ps
count_processes n [] = refl
count_processes n (p ∷ ps) = omega (arith, count_processes (n + 1) ps)

pub count_threads : (n : ℕ) (ts : List OpeningThread) → length (default_threads n ts) ≡ length ts
count_threads n [] = refl
count_threads n (t ∷ ts) = omega (arith, count_threads (n + 1) ts)
