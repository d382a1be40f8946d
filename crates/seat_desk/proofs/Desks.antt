-- A desk: what its kernel stands for keeps the names of the opening state, and goes on with each call.
use Rattle.std.proofs.Common.{◌≡◌, ℕ, suc, ◌<◌, ◌≤◌, List, [], ◌∷◌, ◌++◌, Bool, true, false, if◌then◌else◌, Option, None, Some, length, option_map, refl, ap, sym, subst, ◌∙◌, arith}
use Rattle.dk_base.specs.ByNumber.{at_number}
use Rattle.dk_base.specs.declared.limits.TheConstants.{EVENTS_MAX}
use Rattle.dk_base.specs.declared.request.Request.TheVariants as request
use Rattle.spec_records.specs.Words.{parent_in}
use Rattle.spec_records.proofs.Lists.{same_numbered}
use Rattle.spec_kernel.specs.Types.{Pid, Process, Request}
use Rattle.spec_kernel.specs.Words.{IsFit, IsOpening, StandsFor, State, Turn, forget, parent_of, process_of, step}
use Rattle.spec_kernel.proofs.Opening.{forget-opening}
use Rattle.spec_kernel.proofs.Runs.{events-state_after}
use Rattle.spec_kernel.proofs.Steps.{ProcessIdentity, process_identity, process_of-step, processes-step, step-keeps, threads-step}
use Rattle.spec_histories.specs.declared.call.SeatAct.{SeatAct}
use Rattle.spec_histories.specs.declared.call.SeatAct.TheVariants.{Enter, GoOn}
use Rattle.spec_histories.specs.declared.entry.SeatEntry.{SeatEntry}
use Rattle.seat_table.specs.declared.limits.TheConstants.{HISTORY_MAX}
use Rattle.seat_desk.specs.Desk.{IsDesk}
use Rattle.seat_desk.specs.History.{Follows, IsFitAct, IsLegal, answered, by, is_allowed, is_answered, reply_of, request_of, state_after, state_by, turns}
use Rattle.seat_desk.proofs.Histories.{legal-snoc, runs, state-snoc}

-- what a request may name is the same

record NamesAs (m n : State) : Type 0 where
  threads : length n.process_table.threads ≡ length m.process_table.threads
  processes : length n.process_table.processes ≡ length m.process_table.processes
  process : (t : ℕ) → process_of n t ≡ process_of m t
  parent : (p : ℕ) → parent_of n p ≡ parent_of m p

parent_of-step : (m : State) (t p : ℕ) (q : Option Request) → parent_of (step m t q).state p ≡ parent_of m p
parent_of-step m t p q =
    from_identity (at_number (step m t q).state.process_table.processes p)
    ∙ ap in_identity
    (same_numbered process_identity (step m t q).state.process_table.processes m.process_table.processes p (step-keeps m t q).processes)
    ∙ sym (from_identity (at_number m.process_table.processes p))
  where
    in_identity : Option ProcessIdentity → Option Pid
    in_identity None = None
    in_identity (Some x) = x.parent

    from_identity : (o : Option Process) → parent_in o ≡ in_identity (option_map process_identity o)
    from_identity None = refl
    from_identity (Some x) = refl

names_by : (m : State) (t : ℕ) (a : SeatAct) (b : Bool) → NamesAs m (if b then (step m t (request_of a)).state else m)
names_by m t a true =
    record {
      threads = threads-step m t (request_of a);
      processes = processes-step m t (request_of a);
      process = λ u. process_of-step m t u (request_of a);
      parent = λ p. parent_of-step m t p (request_of a);
    }
names_by m t a false = record { threads = refl; processes = refl; process = λ u. refl; parent = λ p. refl }

names_after : (m : State) (es : List SeatEntry) → NamesAs m (state_after m es)
names_after m [] = record { threads = refl; processes = refl; process = λ u. refl; parent = λ p. refl }
names_after m (e ∷ es) =
    let h = names_by m e.thread.0 e.act (is_answered m e.thread.0 e.act) in
    let g = names_after (state_by m e.thread.0 e.act) es in
    record {
      threads = g.threads ∙ h.threads;
      processes = g.processes ∙ h.processes;
      process = λ u. g.process u ∙ h.process u;
      parent = λ p. g.parent p ∙ h.parent p;
    }

fit_kept : (m n : State) → NamesAs m n → (t : ℕ) (r : Request) → IsFit m t r → is_allowed r ≡ true → IsFit n t r
fit_kept m n s t (request.Create entry cookie attrs) f a = tt
fit_kept m n s t (request.Call door bytes pass rsize) f a = tt
fit_kept m n s t (request.Return bytes pass) f a = tt
fit_kept m n s t (request.Revoke fd) f a = tt
fit_kept m n s t (request.Bind fd) f a = tt
fit_kept m n s t request.Unbind f a = tt
fit_kept m n s t (request.Info fd) f a = tt
fit_kept m n s t request.InfoQuery f a = tt
fit_kept m n s t (request.GetParam fd param) f a = tt
fit_kept m n s t (request.SetParam fd param value) f a = tt
fit_kept m n s t request.Cred f a = tt
fit_kept m n s t request.TestCancel f a = tt
fit_kept m n s t (request.Close fd) f a = tt
fit_kept m n s t (request.Dup fd) f a = tt
fit_kept m n s t (request.Attach fd path) f a = tt
fit_kept m n s t (request.Detach path) f a = tt
fit_kept m n s t (request.Open path) f a = tt
fit_kept m n s t (request.Await path) f a = tt
fit_kept m n s t request.Pipe f a = tt
fit_kept m n s t (request.Write fd bytes) f a = tt
fit_kept m n s t (request.Read fd max) f a = f
fit_kept m n s t request.PortCreate f a = tt
fit_kept m n s t (request.Associate port object events user) f a = tt
fit_kept m n s t (request.Dissociate port object) f a = tt
fit_kept m n s t (request.Get port wait) f a = tt
fit_kept m n s t (request.GetN port max nget wait) f a = f
fit_kept m n s t (request.Send port events user) f a = tt
fit_kept m n s t (request.SendN ports events user) f a = tt
fit_kept m n s t (request.Alert port mode events user) f a = tt
fit_kept m n s t (request.TimerCreate port user) f a = tt
fit_kept m n s t (request.TimerSet timer first interval) f a = f
fit_kept m n s t (request.TimerDelete timer) f a = tt
fit_kept m n s t (request.Advance by) f a = absurd (cc a)
fit_kept m n s t (request.Interrupt thread) f a = (f.0, omega (arith, f.1, s.threads))
fit_kept m n s t (request.Kill process) f a = (f.0, omega (arith, f.1, s.processes))
fit_kept m n s t request.Exit f a = tt
fit_kept m n s t (request.Fork child) f a = s.parent child.0 ∙ f ∙ ap (λ p. Some record { 0 = p }) (sym (s.process t))
fit_kept m n s t (request.Work op bytes) f a = absurd (cc a)
fit_kept m n s t (request.Ncd line) f a = absurd (cc a)

fit_act_kept : (m n : State) → NamesAs m n → (t : ℕ) (a : SeatAct) → IsFitAct m t a → IsFitAct n t a
fit_act_kept m n s t (Enter r) f = (fit_kept m n s t r f.0 f.1, f.1)
fit_act_kept m n s t GoOn f = tt

-- what is fit in the opening state is fit after a history
pub fit_after : (m : State) (es : List SeatEntry) (t : ℕ) (a : SeatAct) → IsFitAct m t a → IsFitAct (state_after m es) t a
fit_after m es t a = fit_act_kept m (state_after m es) (names_after m es) t a

-- and of what a kernel keeps of it
pub fit_forgotten : (m : State) (t : ℕ) (a : SeatAct) → IsFitAct m t a → IsFitAct (forget m) t a
fit_forgotten m t a =
    fit_act_kept m (forget m) (record { threads = refl; processes = refl; process = λ u. refl; parent = λ p. refl }) t a

-- a desk's kernel can take another event
few_events : (opening kernel : State) (es : List SeatEntry) → IsDesk opening kernel es → length es ≤ HISTORY_MAX → kernel.events < EVENTS_MAX
few_events opening kernel es d few =
    let run = runs opening [] es d.legal in
    let xs : List Turn = turns (answered es) in
    let many : (state_after opening es).events ≡ length xs =
    omega (arith, ap (λ (n : State). n.events) run.state, events-state_after opening xs, d.no_event) in
    omega (arith, ap (λ (n : State). n.events) d.stands, many, length-turns (answered es), run.few, few)
  where
    length-turns : (es : List SeatEntry) → length (turns es) ≡ length es
    length-turns [] = refl
    length-turns (e ∷ es) = ap suc (length-turns es)

-- a kernel in its opening state, which is put into the box, is a desk without entries
pub opened :
    (opening kernel box : State) (es : List SeatEntry) → box ≡ kernel → es ≡ [] → kernel ≡ opening → (kernel.events ≡ 0 → IsOpening kernel) →
    kernel.events ≡ 0 → IsDesk opening box es
opened opening kernel box es boxed empty is opens none =
    let begins : IsOpening opening = subst IsOpening is (opens none) in
    record {
      opens = begins;
      no_event = sym (ap (λ (n : State). n.events) is) ∙ none;
      legal = subst (IsLegal opening) (sym empty) tt;
      stands = subst (λ es. StandsFor box (state_after opening es)) (sym empty) (boxed ∙ (is ∙ sym (forget-opening begins)));
    }

-- and gives the kernel back as it was
pub closed : (opening kernel : State) (es : List SeatEntry) → IsDesk opening kernel es → es ≡ [] → kernel ≡ opening
closed opening kernel es d none =
    d.stands ∙ (ap (λ es. forget (state_after opening es)) none ∙ forget-opening d.opens)

-- an entry is pushed to a history with room for it
pub grown : (all now es : List SeatEntry) (x e : SeatEntry) → all ≡ now ++ x ∷ [] → now ≡ es → x ≡ e → all ≡ es ++ e ∷ []
grown all now es x e pushed same is = pushed ∙ (λ i. same i ++ is i ∷ [])

-- one more call
pub called :
    (opening kernel : State) (es all : List SeatEntry) (e : SeatEntry) (before : State) → IsDesk opening before es → all ≡ es ++ e ∷ [] →
    Follows (state_after opening es) es e → StandsFor kernel (state_by (state_after opening es) e.thread.0 e.act) → IsDesk opening kernel all
called opening kernel es all e before d is f stands =
    record {
      opens = d.opens;
      no_event = d.no_event;
      legal = subst (IsLegal opening) (sym is) (legal-snoc opening [] es e d.legal f);
      stands = subst (λ es. StandsFor kernel (state_after opening es)) (sym is) (subst (StandsFor kernel) (sym (state-snoc opening es e)) stands);
    }

-- the kernel in the box may be asked
pub record MayReply (kernel : State) (t : ℕ) (a : SeatAct) : Type 0 where
  pub fit : IsFitAct kernel t a
  pub few : kernel.events < EVENTS_MAX

pub may_reply :
    (opening kernel box : State) (es log : List SeatEntry) (t : ℕ) (a : SeatAct) → kernel ≡ box → IsDesk opening box es → es ≡ log →
    IsFitAct opening t a → length log ≤ HISTORY_MAX → MayReply kernel t a
may_reply opening kernel box es log t a is desk seen fit few =
    let d : IsDesk opening kernel es = subst (λ m. IsDesk opening m es) (sym is) desk in
    record {
      fit = subst (λ m. IsFitAct m t a) (sym d.stands) (fit_forgotten (state_after opening es) t a (fit_after opening es t a fit));
      few = few_events opening kernel es d (subst (λ (l : List SeatEntry). length l ≤ HISTORY_MAX) (sym seen) few);
    }

-- and after its reply the desk has one entry more
pub made :
    (opening kernel box after : State) (es log all : List SeatEntry) (e : SeatEntry) → kernel ≡ box → IsDesk opening box es → es ≡ log →
    all ≡ es ++ e ∷ [] → e.number ≡ length (by e.seat log) → IsFitAct opening e.thread.0 e.act →
    ((m : State) → StandsFor kernel m → e.reply ≡ reply_of m e.thread.0 e.act) →
    ((m : State) → StandsFor kernel m → StandsFor after (state_by m e.thread.0 e.act)) → IsDesk opening after all
made opening kernel box after es log all e is desk seen more number fit reply state =
    let d : IsDesk opening kernel es = subst (λ m. IsDesk opening m es) (sym is) desk in
    called opening after es all e kernel d more
    record {
      reply = reply (state_after opening es) d.stands;
      number = number ∙ ap (λ (l : List SeatEntry). length (by e.seat l)) (sym seen);
      fit = fit_after opening es e.thread.0 e.act fit;
    }
    (state (state_after opening es) d.stands)
