-- What is known of pipes and ports at each place of a run, and how one of them changes.
use Rattle.std.specs.Prelude.{ℕ, ◌≡◌, ◌+◌, ◌==◌, ◌≤◌, ◌⊎◌, List, [], Option, Bool, true, false, if◌then◌else◌, Some, None, is_some, length, slice_get}
use Rattle.std.specs.Option.{option_map}
use Rattle.std.proofs.Common.{refl, sym, ap, subst, ◌∙◌, inl, inr}
use native.Mathlib.Omega.{arith}
use Rattle.std.proofs.lemmas.Bool.Decides.{nat_tests}
use Rattle.spec_kernel.specs.Types.{Answer, Errno, Request, ThreadState}
use Rattle.dk_base.specs.ByNumber.{at_number}
use Rattle.spec_records.specs.declared.record.ThreadState.TheVariants as is
use Rattle.spec_records.specs.Words.{change_at_number, change_found, no_associations, no_timers}
use Rattle.dk_base.specs.declared.answer.Answer.TheVariants as answer
use Rattle.spec_records.proofs.Lists.{at_number-renumbered_there, numbered_there}
use Rattle.spec_kernel.specs.Words.{IsOpening, IsRun, State, Turn, act, effect, state_at, state_of, unless_refused}
use Rattle.spec_kernel.proofs.Moves.{IsFree}
use Rattle.spec_kernel.proofs.Opening.{opened, state_of-opening}
use Rattle.spec_kernel.proofs.Runs.{MayTurn_at, state_at_more}
use Rattle.law_channels.specs.Channels.{AreChannels, IsAmong}
use Rattle.law_channels.proofs.Acts.{step_fits}
use Rattle.law_channels.proofs.Runs.{opening_fits}
use Rattle.law_places.specs.Places.{answer_at, process_at}
use Rattle.law_places.proofs.Known.{Known, stays}
use Rattle.law_runs.specs.Channels.{is_at_port}
use Rattle.law_runs.specs.Tasks.{is_at_task}
use Rattle.law_runs.proofs.RowChanges.{answers, pipes-turn}
use Rattle.law_runs.proofs.Tables.{not_refused}

-- besides what is known of each run
pub record KnownChannels (m : State) (xs : List Turn) : Type 0 where
  pub known : Known m xs
  pub empty : m.channels ≡ record { pipes = []; ports = []; associations = no_associations; timers = no_timers }
  pub none_waits : (t : ℕ) → is_at_port (state_of m t) ≡ false
  pub none_works : (t : ℕ) → is_at_task (state_of m t) ≡ false
  pub fits : (i : ℕ) → i ≤ length xs → AreChannels (state_at m xs i)

pub known_channels : (m : State) (xs : List Turn) → IsOpening m → IsRun m xs → Known m xs → KnownChannels m xs
known_channels m xs opens run k =
    record {
      known = k;
      empty = (opened opens).channels;
      none_waits = λ t. none is_at_port refl refl refl t (state_of-opening opens t);
      none_works = λ t. none is_at_task refl refl refl t (state_of-opening opens t);
      fits = λ i l. stays m xs AreChannels 0 one i (omega arith) l (opening_fits m opens);
    }
  where
    none :
        (f : ThreadState → Bool) → f is.Running ≡ false → f is.Dormant ≡ false → f is.Done ≡ false → (t : ℕ) →
        (state_of m t ≡ is.Running) ⊎ (state_of m t ≡ is.Dormant) ⊎ (state_of m t ≡ is.Done) → f (state_of m t) ≡ false
    none f r d o t (inl e) = ap f e ∙ r
    none f r d o t (inr (inl e)) = ap f e ∙ d
    none f r d o t (inr (inr e)) = ap f e ∙ o

    one : (a : ℕ) (x : Turn) → 0 ≤ a → slice_get xs a ≡ Some x → AreChannels (state_at m xs a) → AreChannels (state_at m xs (a + 1))
    one a x h f g =
        subst AreChannels (sym (state_at_more m xs a x f))
        (step_fits (state_at m xs a) x.thread x.request g (MayTurn_at m xs a x run f))

-- one record of a list changes

pub at_number-change_at_number :
    {X : Type 0} (xs : List X) (n k : ℕ) (change : X → X) →
    at_number (change_at_number xs n change) k ≡ (if k == n then option_map change (at_number xs n) else at_number xs k)
at_number-change_at_number {X} xs n k change = go (at_number xs n) refl
  where
    there : (b : Bool) → (k == n) ≡ b → at_number xs n ≡ None → at_number xs k ≡ (if b then None else at_number xs k)
    there true f e = ap (at_number xs) (grind (arith, nat_tests)) ∙ e
    there false f e = refl

    go : (o : Option X) → at_number xs n ≡ o → at_number (change_found xs n change o) k ≡ (if k == n then option_map change o else at_number xs k)
    go None e = there (k == n) refl e
    go (Some x) e = at_number-renumbered_there xs n k (change x) x e

pub changed_here :
    {X : Type 0} (xs : List X) (n : ℕ) (x : X) (change : X → X) → at_number xs n ≡ Some x →
    at_number (change_at_number xs n change) n ≡ Some (change x)
changed_here {X} xs n x change e =
    at_number-change_at_number xs n n change
    ∙ ap (λ (b : Bool). if b then option_map change (at_number xs n) else at_number xs n) same
    ∙ ap (option_map change) e
  where
    same : (n == n) ≡ true
    same = grind (arith, nat_tests)

pub changed_elsewhere :
    {X : Type 0} (xs : List X) (n k : ℕ) (change : X → X) → (k == n) ≡ false → at_number (change_at_number xs n change) k ≡ at_number xs k
changed_elsewhere xs n k change e =
    at_number-change_at_number xs n k change ∙ ap (λ (b : Bool). if b then option_map change (at_number xs n) else at_number xs k) e

-- there is one of a number that was made
pub record IsThere {X : Type 0} (o : Option X) : Type 0 where
  pub it : X
  pub there : o ≡ Some it

pub is_among : {X : Type 0} (xs : List X) (n : ℕ) → IsAmong (length xs) n → IsThere (at_number xs n)
is_among {X} xs n h = go (at_number xs n) (numbered_there xs n h.0 h.1)
  where
    go : (o : Option X) → is_some o ≡ true → IsThere o
    go (Some x) e = record { it = x; there = refl }
    go None e = absurd (cc e)

-- what the turn of a place leaves

module _ (m : State) (xs : List Turn) (k : Known m xs) (i : ℕ) (x : Turn) (e : slice_get xs i ≡ Some x) where
  pub answer_of : answer_at m xs i x ≡ (act (state_at m xs i) x.thread x.request).answer
  answer_of = answers (state_at m xs i) x.thread x.request

  -- of an entry that is not refused

  pub entry_acted :
      (r : Request) → x.request ≡ Some r → IsFree (state_at m xs i) x.thread r →
      (act (state_at m xs i) x.thread x.request).state ≡ (effect (state_at m xs i) x.thread (process_at m xs i x.thread) r).state
  entry_acted r f g =
      ap (λ q. (act (state_at m xs i) x.thread q).state) f
      ∙ ap (λ o. (unless_refused (state_at m xs i) o (effect (state_at m xs i) x.thread (process_at m xs i x.thread) r)).state) g

  pub entry_pipes :
      (r : Request) → x.request ≡ Some r → IsFree (state_at m xs i) x.thread r →
      (state_at m xs (i + 1)).channels.pipes ≡ (effect (state_at m xs i) x.thread (process_at m xs i x.thread) r).state.channels.pipes
  entry_pipes r f g = pipes-turn m xs k i x e ∙ ap (λ (n : State). n.channels.pipes) (entry_acted r f g)

  pub entry_answer :
      (r : Request) → x.request ≡ Some r → IsFree (state_at m xs i) x.thread r →
      answer_at m xs i x ≡ (effect (state_at m xs i) x.thread (process_at m xs i x.thread) r).answer
  entry_answer r f g =
      answer_of
      ∙ ap (λ q. (act (state_at m xs i) x.thread q).answer) f
      ∙ ap (λ o. (unless_refused (state_at m xs i) o (effect (state_at m xs i) x.thread (process_at m xs i x.thread) r)).answer) g

  -- one that answers no error is not
  pub is_free : (r : Request) (a : Answer) → x.request ≡ Some r → answer_at m xs i x ≡ a → ((y : Errno) → a ≡ answer.Failure y → ⊥) → IsFree (state_at m xs i) x.thread r
  is_free r a f g h = not_refused (state_at m xs i) x.thread x.request r a f g h
