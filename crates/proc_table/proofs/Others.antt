-- Whether an item of a list meets a test, by the numbers of those that do.
use Rattle.std.proofs.Common.{◌≡◌, ℕ, zero, suc, ◌≤◌, ◌==◌, ◌&&◌, ◌||◌, Bool, true, false, if◌then◌else◌, not, List, [], ◌∷◌, Option, Some, None, length, slice_get, refl, sym, ap, ap₂, ◌∙◌, subst}
use Rattle.std.specs.List.{list_any}
use Rattle.dk_base.specs.ByNumber.{at_number}
use Rattle.spec_records.specs.declared.record.Thread.{Thread}
use Rattle.spec_records.specs.Words.{is_active, is_idle, is_idle_thread, keeps_alive, state_in}
use Rattle.spec_records.proofs.Lists.{at_number-suc, numbered_within}
use Rattle.proc_table.specs.Crews.{is_of}
use Rattle.dk_base.specs.declared.thread_set.ThreadSet.{ThreadSet}
use Rattle.dk_base.specs.Words.{has, with_thread}

-- an item, if there is one, meets a test
abbrev pub meets : {X : Type 0} → (X → Bool) → Option X → Bool
meets f None = false
meets f (Some x) = f x

any_placed : {X : Type 0} (f : X → Bool) (xs : List X) (k : ℕ) → meets f (slice_get xs k) ≡ true → list_any f xs ≡ true
any_placed f [] k e = cc
any_placed f (x ∷ xs) zero e = ap (λ b. b || list_any f xs) e
any_placed f (x ∷ xs) (suc k) e = ap (λ b. f x || b) (any_placed f xs k e) ∙ always (f x)
  where
    always : (b : Bool) → (b || true) ≡ true
    always true = refl
    always false = refl

none_placed : {X : Type 0} (f : X → Bool) (xs : List X) → ((k : ℕ) → meets f (slice_get xs k) ≡ false) → list_any f xs ≡ false
none_placed f [] e = refl
none_placed f (x ∷ xs) e = ap₂ (λ a b. a || b) (e 0) (none_placed f xs (λ k. e (suc k)))

pub any_numbered : {X : Type 0} (f : X → Bool) (xs : List X) (k : ℕ) → meets f (at_number xs k) ≡ true → list_any f xs ≡ true
any_numbered f xs zero e = cc
any_numbered f xs (suc k) e = any_placed f xs k (sym (ap (meets f) (at_number-suc xs k)) ∙ e)

pub none_numbered : {X : Type 0} (f : X → Bool) (xs : List X) → ((k : ℕ) → meets f (at_number xs k) ≡ false) → list_any f xs ≡ false
none_numbered f xs e = none_placed f xs (λ k. sym (ap (meets f) (at_number-suc xs k)) ∙ e (suc k))

pub meets_idle : (o : Option Thread) → is_idle (state_in o) ≡ meets is_idle_thread o
meets_idle None = refl
meets_idle (Some x) = refl

-- the other threads of a process that keep it from ending
pub meets_other :
    (xs : List Thread) (t p u : ℕ) (both result : Bool) → ((x : Thread) → at_number xs u ≡ Some x → x.number ≡ u) →
    both ≡ (is_of p (at_number xs u) && is_active (state_in (at_number xs u))) → (u ≤ length xs → result ≡ (if u == t then false else both)) → (both ≡ false → result ≡ false) →
    result ≡ meets (keeps_alive t p) (at_number xs u)
meets_other xs t p u both result numbered is within none = go (at_number xs u) refl
  where
    moved : (a b c : Bool) → (if b then false else (a && c)) ≡ (a && not b && c)
    moved true true c = refl
    moved true false c = refl
    moved false true c = refl
    moved false false c = refl

    go : (o : Option Thread) → at_number xs u ≡ o → result ≡ meets (keeps_alive t p) o
    go None e = none (is ∙ ap (λ o. is_of p o && is_active (state_in o)) e)
    go (Some x) e =
        let n : x.number ≡ u = numbered x e in
        within (numbered_within xs u x e).1
        ∙ ap (λ b. if u == t then false else b) (is ∙ ap (λ o. is_of p o && is_active (state_in o)) e)
        ∙ moved (x.process.0 == p) (u == t) (is_active x.state)
        ∙ ap (λ k. (x.process.0 == p) && not (k == t) && is_active x.state) (sym n)

pub others :
    (xs : List Thread) (t p count : ℕ) (crew active both result : ThreadSet) → ((u : ℕ) (x : Thread) → at_number xs u ≡ Some x → x.number ≡ u) →
    ((u : ℕ) → has crew u ≡ is_of p (at_number xs u)) → ((u : ℕ) → has active u ≡ is_active (state_in (at_number xs u))) →
    ((u : ℕ) → has both u ≡ (has crew u && has active u)) → count ≡ length xs → ((u : ℕ) → u ≤ count → has result u ≡ with_thread both t false u) →
    ((u : ℕ) → has both u ≡ false → has result u ≡ false) → (u : ℕ) → has result u ≡ meets (keeps_alive t p) (at_number xs u)
others xs t p count crew active both result numbered of at and all within none u =
    meets_other xs t p u (has both u) (has result u) (numbered u) (and u ∙ ap₂ (λ a b. a && b) (of u) (at u)) (λ l. within u (subst (λ n. u ≤ n) (sym all) l)) (none u)
