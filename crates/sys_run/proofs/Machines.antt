-- Lists of machines, of which each stands where the journal leads.
use Rattle.std.proofs.Common.{◌≡◌, ℕ, ◌+◌, ◌<◌, List, [], ◌∷◌, ◌++◌, length, Some, true, false, arith, refl, sym, subst, ◌∙◌, zero, suc, ◌⊎◌, inl, inr, eq-eqb}
use Rattle.std.specs.Prelude.{slice_get, slice_set, ◌==◌}
use Rattle.std.proofs.lemmas.Bool.Decides.{nat_tests}
use Rattle.spec_kernel.specs.Types.{Answer, Event}
use Rattle.dk_base.specs.declared.answer.Answer.TheVariants as answer
use Rattle.script_lang.specs.Words.{ScriptValue}
use Rattle.thread_machine.specs.declared.machine.Machine.{Machine}
use Rattle.thread_machine.specs.Words.{HasDeclaredEntry, IsMachine, Stands}
use Rattle.spec_requests.specs.Words.{IsDeclaredAnswer, first_frame, frame_after_answer, frame_of}
use Rattle.spec_scripts.proofs.Histories.{frame_of-append}
use Rattle.sys_run.specs.Sys.{MachineStands, AllStandFrom}

-- one machine more
pub AllStandFrom_push :
    (script : ScriptValue) (xs : List Machine) (x : Machine) (t : ℕ) →
    AllStandFrom script [] t xs → IsMachine script x → Stands script x (first_frame script (t + length xs)) →
    AllStandFrom script [] t (xs ++ x ∷ [])
AllStandFrom_push script [] x t h machine stands =
    let here : t + 0 ≡ t = omega arith in (record { machine = machine; stands = rw here at stands }, tt)
AllStandFrom_push script (y ∷ ys) x t h machine stands =
    let next : t + suc (length ys) ≡ suc t + length ys = omega arith
    in (h.0, AllStandFrom_push script ys x (suc t) h.1 machine (rw next at stands))

-- the machine of a thread
pub stands-at :
    (script : ScriptValue) (es : List Event) (xs : List Machine) (t k : ℕ) (x : Machine) →
    AllStandFrom script es t xs → slice_get xs k ≡ Some x → MachineStands script es (t + k) x
stands-at script es [] t k x h e = cc
stands-at script es (y ∷ ys) t zero x h e =
    let here : t + 0 ≡ t = omega arith
    in let same : y ≡ x = cc
    in rw here (subst (MachineStands script es t) same h.0)
stands-at script es (y ∷ ys) t (suc k) x h e =
    let next : t + suc k ≡ suc t + k = omega arith in rw next (stands-at script es ys (suc t) k x h.1 e)

other-test : (a b : ℕ) → (a < b) ⊎ (b < a) → (a == b) ≡ false
other-test a b h = grind (arith, nat_tests)

-- another thread's event leaves a machine where it stands
stands-other :
    (script : ScriptValue) (es : List Event) (e : Event) (t : ℕ) (x : Machine) →
    (e.thread.0 == t) ≡ false → MachineStands script es t x → MachineStands script (es ++ e ∷ []) t x
stands-other script es e t x other h =
    let same : frame_of script t (es ++ e ∷ []) ≡ frame_of script t es = frame_of-append script t es e ∙ rw other refl
    in record { machine = h.machine; stands = subst (Stands script x) (sym same) h.stands }

-- an event of a thread before these leaves them where they stand
AllStandFrom-others :
    (script : ScriptValue) (es : List Event) (e : Event) (xs : List Machine) (t : ℕ) →
    AllStandFrom script es t xs → e.thread.0 < t → AllStandFrom script (es ++ e ∷ []) t xs
AllStandFrom-others script es e [] t h before = tt
AllStandFrom-others script es e (y ∷ ys) t h before = (
  stands-other script es e t y (other-test e.thread.0 t (inl before)) h.0,
  AllStandFrom-others script es e ys (suc t) h.1 (omega arith),
)

-- one event of thread t + k more: the others stay, that one's machine takes it
pub AllStandFrom-turn :
    (script : ScriptValue) (es : List Event) (e : Event) (xs : List Machine) (t k : ℕ) (x : Machine) →
    AllStandFrom script es t xs → e.thread.0 ≡ t + k → MachineStands script (es ++ e ∷ []) (t + k) x →
    AllStandFrom script (es ++ e ∷ []) t (slice_set xs k x)
AllStandFrom-turn script es e [] t k x h same new = tt
AllStandFrom-turn script es e (y ∷ ys) t zero x h same new =
    let here : t + 0 ≡ t = omega arith
    in let before : e.thread.0 < suc t = omega arith
    in (rw here at new, AllStandFrom-others script es e ys (suc t) h.1 before)
AllStandFrom-turn script es e (y ∷ ys) t (suc k) x h same new =
    let next : t + suc k ≡ suc t + k = omega arith
    in let after : t < e.thread.0 = omega arith
    in (
      stands-other script es e t y (other-test e.thread.0 t (inr after)) h.0,
      AllStandFrom-turn script es e ys (suc t) k x h.1 (same ∙ next) (rw next at new),
    )

-- no event more
pub AllStandFrom-same :
    (script : ScriptValue) (es : List Event) (xs : List Machine) (t k : ℕ) (x : Machine) →
    AllStandFrom script es t xs → MachineStands script es (t + k) x → AllStandFrom script es t (slice_set xs k x)
AllStandFrom-same script es [] t k x h new = tt
AllStandFrom-same script es (y ∷ ys) t zero x h new =
    let here : t + 0 ≡ t = omega arith in (rw here at new, h.1)
AllStandFrom-same script es (y ∷ ys) t (suc k) x h new =
    let next : t + suc k ≡ suc t + k = omega arith in (h.0, AllStandFrom-same script es ys (suc t) k x h.1 (rw next at new))

-- a machine that takes an event of its thread stands after it
pub stands-frame_after_answer :
    (script : ScriptValue) (es : List Event) (e : Event) (t : ℕ) (x : Machine) →
    e.thread.0 ≡ t → IsMachine script x → Stands script x (frame_after_answer script (frame_of script t es) e.answer) →
    MachineStands script (es ++ e ∷ []) t x
stands-frame_after_answer script es e t x own machine stands =
    let test : (e.thread.0 == t) ≡ true = eq-eqb e.thread.0 t own
    in let same : frame_of script t (es ++ e ∷ []) ≡ frame_after_answer script (frame_of script t es) e.answer = frame_of-append script t es e ∙ rw test refl
    in record { machine = machine; stands = subst (Stands script x) (sym same) stands }

-- the procedure of a declared answer is declared
pub entered-declared : (script : ScriptValue) (a : Answer) → IsDeclaredAnswer script a → HasDeclaredEntry script a
entered-declared script (answer.Entered call entry cookie bytes fds) h = h
entered-declared script (answer.EnteredNotice notice entry cookie) h = h
entered-declared script a h = tt
