-- Legal histories: one more entry, and the run that the answered calls are.
use Rattle.std.proofs.Common.{◌≡◌, ℕ, ◌+◌, ◌<◌, ◌≤◌, List, [], ◌∷◌, ◌++◌, Bool, true, false, cond, if◌then◌else◌, not, ◌&&◌, length, map, refl, ap, sym, subst, ◌∙◌, arith, append_assoc}
use Rattle.std.proofs.lemmas.List.{append-nil}
use Rattle.dk_base.specs.declared.limits.TheConstants.{EVENTS_MAX}
use Rattle.spec_kernel.specs.Words.{IsRun, MayTurn, State, answers_of, is_runnable, is_running, state_after as state_after_turns, step}
use Rattle.spec_kernel.proofs.Steps.{events-step}
use Rattle.spec_histories.specs.declared.call.SeatAct.{SeatAct}
use Rattle.spec_histories.specs.declared.call.SeatAct.TheVariants.{Enter, GoOn}
use Rattle.spec_histories.specs.declared.entry.SeatEntry.{SeatEntry}
use Rattle.spec_histories.specs.declared.call.SeatReply.TheVariants.{Answer}
use Rattle.seat_desk.specs.History.{AreAnswers, Follows, IsFitAct, IsLegal, IsLegalAfter, answered, is_answer, is_answered, refusal, replies, reply_of, request_of, state_after, state_by, turns}

pub state-snoc :
    (m : State) (es : List SeatEntry) (e : SeatEntry) → state_after m (es ++ e ∷ []) ≡ state_by (state_after m es) e.thread.0 e.act
state-snoc m [] e = refl
state-snoc m (x ∷ es) e = state-snoc (state_by m x.thread.0 x.act) es e

pub legal-snoc :
    (m : State) (before es : List SeatEntry) (e : SeatEntry) → IsLegalAfter m before es → Follows (state_after m es) (before ++ es) e →
    IsLegalAfter m before (es ++ e ∷ [])
legal-snoc m before [] e l f = (subst (λ (b : List SeatEntry). Follows m b e) (append-nil before) f, tt)
legal-snoc m before (x ∷ es) e l f =
    let now : State = state_by m x.thread.0 x.act in (
      l.0,
      legal-snoc now (before ++ x ∷ []) es e l.1
          (subst (λ (b : List SeatEntry). Follows (state_after now es) b e) (sym (append_assoc before (x ∷ []) es)) f),
    )

-- an entry at the end of a legal history may come there
pub legal-last :
    (m : State) (before es : List SeatEntry) (e : SeatEntry) → IsLegalAfter m before (es ++ e ∷ []) → Follows (state_after m es) (before ++ es) e
legal-last m before [] e l = subst (λ (b : List SeatEntry). Follows m b e) (sym (append-nil before)) l.0
legal-last m before (x ∷ es) e l =
    let now : State = state_by m x.thread.0 x.act in
    subst (λ (b : List SeatEntry). Follows (state_after now es) b e) (append_assoc before (x ∷ []) es)
    (legal-last now (before ++ x ∷ []) es e l.1)

-- a reply is an answer where the kernel answers the call

answers : (m : State) (t : ℕ) (a : SeatAct) → is_answer (reply_of m t a) ≡ is_answered m t a
answers m t a = go a (is_answered m t a)
  where
    go : (a : SeatAct) (b : Bool) → is_answer (if b then Answer (step m t (request_of a)).answer else refusal m t a) ≡ b
    go a true = refl
    go (Enter r) false = refl
    go GoOn false = refl

both : (a b : Bool) → (a && b) ≡ true → (a ≡ true) × (b ≡ true)
both true b e = (refl, e)
both false b e = cc

no_true : (b : Bool) → not b ≡ true → b ≡ false
no_true true e = cc
no_true false e = refl

may_turn : (m : State) (t : ℕ) (a : SeatAct) → IsFitAct m t a → is_answered m t a ≡ true → m.events < EVENTS_MAX → MayTurn m t (request_of a)
may_turn m t (Enter r) f h few = record { running = h; fit = f.0; few = few }
may_turn m t GoOn f h few =
    let can = both (is_runnable m t) (not (is_running m t)) h in
    record { runnable = can.0; waits = no_true (is_running m t) can.1; few = few }

-- `xs` are the answered entries of a history
pub record IsRunOf (m : State) (es xs : List SeatEntry) : Type 0 where
  pub run : m.events + length xs ≤ EVENTS_MAX → IsRun m (turns xs)
  pub answers : replies xs ≡ map Answer (answers_of m (turns xs))
  pub state : state_after m es ≡ state_after_turns m (turns xs)
  pub few : length xs ≤ length es

runs_with :
    (m : State) (before es : List SeatEntry) (e : SeatEntry) → Follows m before e →
    IsRunOf (state_by m e.thread.0 e.act) es (answered es) → (b : Bool) → is_answered m e.thread.0 e.act ≡ b →
    IsRunOf m (e ∷ es) (answered (e ∷ es))
runs_with m before es e f rest true h =
    let t : ℕ = e.thread.0 in
    let after : State = (step m t (request_of e.act)).state in
    let next : state_by m t e.act ≡ after = ap (λ c. if c then after else m) h in
    let on : IsRunOf after es (answered es) = subst (λ n. IsRunOf n es (answered es)) next rest in
    let reply : e.reply ≡ Answer (step m t (request_of e.act)).answer =
    f.reply ∙ ap (λ c. if c then Answer (step m t (request_of e.act)).answer else refusal m t e.act) h in
    let told : is_answer e.reply ≡ true = ap is_answer f.reply ∙ (answers m t e.act ∙ h) in
    subst (IsRunOf m (e ∷ es)) (sym (ap (λ c. cond c (e ∷ answered es) (answered es)) told))
    record {
      run =
          λ few. (
            may_turn m t e.act f.fit h (omega arith),
            on.run (omega (arith, events-step m t (request_of e.act))),
          );
      answers = λ i. reply i ∷ on.answers i;
      state = ap (λ n. state_after n es) next ∙ on.state;
      few = omega (arith, on.few);
    }
runs_with m before es e f rest false h =
    let t : ℕ = e.thread.0 in
    let next : state_by m t e.act ≡ m = ap (λ c. if c then (step m t (request_of e.act)).state else m) h in
    let on : IsRunOf m es (answered es) = subst (λ n. IsRunOf n es (answered es)) next rest in
    let told : is_answer e.reply ≡ false = ap is_answer f.reply ∙ (answers m t e.act ∙ h) in
    subst (IsRunOf m (e ∷ es)) (sym (ap (λ c. cond c (e ∷ answered es) (answered es)) told))
    record {
      run = on.run;
      answers = on.answers;
      state = ap (λ n. state_after n es) next ∙ on.state;
      few = omega (arith, on.few);
    }

pub runs : (m : State) (before es : List SeatEntry) → IsLegalAfter m before es → IsRunOf m es (answered es)
runs m before [] l = record { run = λ _. tt; answers = refl; state = refl; few = omega arith }
runs m before (e ∷ es) l =
    runs_with m before es e l.0 (runs (state_by m e.thread.0 e.act) (before ++ e ∷ []) es l.1) (is_answered m e.thread.0 e.act) refl

pub answered-all : (es : List SeatEntry) → AreAnswers es → answered es ≡ es
answered-all [] h = refl
answered-all (e ∷ es) h =
    ap (λ c. cond c (e ∷ answered es) (answered es)) h.0 ∙ ap (λ xs. e ∷ xs) (answered-all es h.1)

pub all_are_run :
    (m : State) (es : List SeatEntry) → IsLegal m es → AreAnswers es →
    replies es ≡ map Answer (answers_of m (turns es))
all_are_run m es l h =
    subst (λ xs. replies xs ≡ map Answer (answers_of m (turns xs))) (answered-all es h) (runs m [] es l).answers
