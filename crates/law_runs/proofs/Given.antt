-- A call that was given to a thread stays with it until it is accepted or ends.
use Rattle.std.specs.Prelude.{ℕ, ◌≡◌, ◌+◌, ◌<◌, ◌≤◌, ◌⊎◌, List, Option, Some, None, length, slice_get}
use Rattle.std.proofs.Common.{refl, sym, ap, subst, ◌∙◌, inl, inr}
use native.Mathlib.Omega.{arith}
use Rattle.std.proofs.lemmas.Option.{slice_get_within}
use Rattle.spec_kernel.specs.Types.{Answer, Call, CallStage, Fd, Request}
use Rattle.dk_base.specs.declared.error.Errno.TheVariants.{EINTR}
use Rattle.dk_base.specs.declared.answer.Answer.TheVariants as answer
use Rattle.spec_records.specs.declared.record.CallStage.TheVariants as stage
use Rattle.spec_records.specs.Words.{tid}
use Rattle.spec_kernel.specs.Words.{State, Turn, door_of, state_at}
use Rattle.law_states.specs.Arrows.{EndsNow, Interrupts}
use Rattle.law_states.specs.Arrows.Interrupts.{asked, forked}
use Rattle.law_states.specs.Arrows.EndsBy.{door_invalid, server_full, interrupted, server_ended}
use Rattle.law_states.specs.Coherent.{AreAtDoors, bound_for}
use Rattle.law_states.specs.Core.{core, door_in}
use Rattle.law_states.specs.Records.{owner_in, record_of, stage_in, stage_of}
use Rattle.law_places.specs.Places.{IsAccept, MayServe, answer_at}
use Rattle.law_runs.specs.Given.{StaysGiven, GivenMoves, IsCallWith, IsGiven}
use Rattle.law_places.proofs.Changes.{Change, gone_stage, rank_in, rank_of}
use Rattle.law_places.proofs.Changes.Change.{made, given, entered, returned, ended, broken_off, left, results_collected, nothing_collected, error_collected}
use Rattle.law_places.proofs.Known.{ChangeAt, Known, never_falls, never_less, rank_at, stays, stays_or_changes}
use Rattle.law_runs.proofs.Forking.{forks_there}
use Rattle.law_runs.proofs.Once.{owner_same}
use Rattle.law_runs.proofs.Readers.{number_of}
use Rattle.law_places.proofs.Counts.{may_serve}
use Rattle.law_places.proofs.Rows.{some_stage}

abbrev IsHad : Option CallStage → ℕ → Type 0
IsHad s t = (s ≡ Some (stage.Given (tid t))) ⊎ (s ≡ Some (stage.Entered (tid t)))

abbrev thread_of : Option CallStage → ℕ
thread_of (Some (stage.Given u)) = u.0
thread_of (Some (stage.Entered u)) = u.0
thread_of _ = 0

of_thread : (s : Option CallStage) (t : ℕ) → IsHad s t → thread_of s ≡ t
of_thread s t (inl e) = ap thread_of e
of_thread s t (inr e) = ap thread_of e

not_both : (s a b : CallStage) → s ≡ a → Some s ≡ Some b → (a ≡ b → ⊥) → ⊥
not_both s a b e f h = h (cc (e, f))

not_had : (s a : CallStage) (t : ℕ) → s ≡ a → ((u : ℕ) → a ≡ stage.Given (tid u) → ⊥) → ((u : ℕ) → a ≡ stage.Entered (tid u) → ⊥) → IsHad (Some s) t → ⊥
not_had s a t e g h (inl f) = g t (cc (e, f))
not_had s a t e g h (inr f) = h t (cc (e, f))

-- what a change makes of one that was given or entered: it stays with its thread, or has left it
had_then :
    (m : State) (t : ℕ) (q : Option Request) (a : Answer) (n : State) (o p : Option Call) (u : ℕ) → Change m t q a n o p →
    IsHad (stage_in o) u → IsHad (stage_in p) u ⊎ (4 ≤ rank_in p)
had_then m t q a n o p u (made d rsize fd bytes pass s e f v k w) (inl h) = absurd (cc h)
had_then m t q a n o p u (made d rsize fd bytes pass s e f v k w) (inr h) = absurd (cc h)
had_then m t q a n o p u (given r v e) h = absurd (not_had r.stage stage.Queued u e (λ z l. cc) (λ z l. cc) h)
had_then m t q a n o p u (entered r e f g k v) h =
    let same : t ≡ u = sym (ap (λ (s : CallStage). thread_of (Some s)) g) ∙ of_thread (Some r.stage) u h in
    inl (inr (ap (λ (z : ℕ). Some (stage.Entered (tid z))) same))
had_then m t q a n o p u (left r l e) h = inr (omega (arith, ap rank_of (gone_stage r.stage r l)))
had_then m t q a n o p u (returned r bytes pass e x f g k) h = inr (omega arith)
had_then m t q a n o p u (ended r x e) h = inr (omega arith)
had_then m t q a n o p u (broken_off r v e f d) h = inr (omega arith)
had_then m t q a n o p u (results_collected r bytes objects e f g k l z) h = inr (omega arith)
had_then m t q a n o p u (nothing_collected r bytes objects e f g k l z) h = inr (omega arith)
had_then m t q a n o p u (error_collected r x e f g k l) h = inr (omega arith)

had_rank : (o : Option Call) (t : ℕ) → IsHad (stage_in o) t → (2 ≤ rank_in o) × (rank_in o < 4)
had_rank None t (inl e) = absurd (cc e)
had_rank None t (inr e) = absurd (cc e)
had_rank (Some r) t (inl e) = let f : rank_of r.stage ≡ 2 = ap rank_of (some_stage r.stage (stage.Given (tid t)) e) in (omega (arith, f), omega (arith, f))
had_rank (Some r) t (inr e) = let f : rank_of r.stage ≡ 3 = ap rank_of (some_stage r.stage (stage.Entered (tid t)) e) in (omega (arith, f), omega (arith, f))

queued_rank : (o : Option Call) → stage_in o ≡ Some stage.Queued → rank_in o ≡ 1
queued_rank o e = grind arith

module _ (m : State) (xs : List Turn) (k : Known m xs) where
  rank_grows : (c i j : ℕ) → i ≤ j → j ≤ length xs → rank_at m xs k c i ≤ rank_at m xs k c j
  rank_grows c i j l b = never_falls (rank_at m xs k c) (length xs) (never_less m xs k c) i j l b

  abbrev StaysWith : ℕ → ℕ → ℕ → Type 0
  StaysWith j c t = IsCallWith (state_at m xs j) c t ⊎ (4 ≤ rank_at m xs k c j)

  stays_next : (j c t : ℕ) (x : Turn) → slice_get xs j ≡ Some x → StaysWith j c t → StaysWith (j + 1) c t
  stays_next j c t x f (inr r) =
      let within : j < length xs = slice_get_within xs j x f in
      inr (omega (arith, r, rank_grows c j (j + 1) (omega arith) (omega (arith, within))))
  stays_next j c t x f (inl w) = by (stays_or_changes m xs k c j x f)
    where
      by :
          (record_of (state_at m xs (j + 1)) c ≡ record_of (state_at m xs j) c)
          ⊎ ChangeAt m xs j x (record_of (state_at m xs j) c) (record_of (state_at m xs (j + 1)) c) →
          StaysWith (j + 1) c t
      by (inl same) = inl (subst (λ o. IsHad (stage_in o) t) (sym same) w)
      by (inr d) = had_then _ _ _ _ _ _ _ t d w

  stays_with : (i j c t : ℕ) → i ≤ j → j ≤ length xs → IsCallWith (state_at m xs i) c t → StaysWith j c t
  stays_with i j c t l b w = stays m xs (λ n. IsCallWith n c t ⊎ (4 ≤ rank_in (record_of n c))) i (λ a x h f. stays_next a c t x f) j l b (inl w)

  waits_no_more :
      (i j c t : ℕ) → i ≤ j → j ≤ length xs → IsCallWith (state_at m xs i) c t → stage_of (state_at m xs j) c ≡ Some stage.Queued → ⊥
  waits_no_more i j c t l b w e =
      let first : 2 ≤ rank_at m xs k c i = (had_rank (record_of (state_at m xs i) c) t w).0 in
      let last : rank_at m xs k c j ≡ 1 = queued_rank (record_of (state_at m xs j) c) e in
      omega (arith, first, last, rank_grows c i j l b)

  same_thread :
      (i j c t u : ℕ) → i ≤ j → j ≤ length xs → IsCallWith (state_at m xs i) c t → IsCallWith (state_at m xs j) c u → u ≡ t
  same_thread i j c t u l b w v = go (stays_with i j c t l b w)
    where
      go : StaysWith j c t → u ≡ t
      go (inl h) = sym (of_thread (stage_of (state_at m xs j) c) u v) ∙ of_thread (stage_of (state_at m xs j) c) t h
      go (inr r) = absurd (omega (arith, r, (had_rank (record_of (state_at m xs j) c) u v).1))

  moves : (i c t : ℕ) (x : Turn) → slice_get xs i ≡ Some x → IsGiven (state_at m xs i) c t → GivenMoves m xs i x c t
  moves i c t x e w = first (stays_or_changes m xs k c i x e)
    where
      same : (r : Call) (u : ℕ) → r.stage ≡ stage.Given (tid u) → record_of (state_at m xs i) c ≡ Some r → u ≡ t
      same r u g f = ap thread_of (ap (λ (s : CallStage). Some s) (sym g) ∙ sym (ap stage_in f) ∙ w)

      other : (r : Call) (s : CallStage) → record_of (state_at m xs i) c ≡ Some r → r.stage ≡ s → (s ≡ stage.Given (tid t) → ⊥) → ⊥
      other r s f g h = not_both r.stage s (stage.Given (tid t)) g (sym (ap stage_in f) ∙ w) h

      number : (r : Call) → record_of (state_at m xs i) c ≡ Some r → r.number ≡ c
      number r f = number_of (state_at m xs i) c r f

      accepted :
          (entry cookie : ℕ) (bytes : List ℕ) (fds : List Fd) (d : ℕ) → answer_at m xs i x ≡ answer.Entered d entry cookie bytes fds →
          d ≡ c → IsAccept m xs i x c
      accepted entry cookie bytes fds d a f =
          record {
            entry = entry;
            cookie = cookie;
            bytes = bytes;
            descriptors = fds;
            answer = a ∙ ap (λ (n : ℕ). answer.Entered n entry cookie bytes fds) f;
          }

      by_interrupt :
          (r : Call) → record_of (state_at m xs i) c ≡ Some r → Interrupts (state_at m xs i) x.thread x.request r.caller.0 →
          stage_of (state_at m xs (i + 1)) c ≡ Some (stage.Ended EINTR) → GivenMoves m xs i x c t
      by_interrupt r f (asked q) s = GivenMoves.caller_interrupted r f q s
      by_interrupt r f (forked child q free own other) s =
          GivenMoves.caller_forked r child f q (forks_there m xs i x child q free).answered own (λ same. other (sym same)) s

      by :
          (o p : Option Call) → record_of (state_at m xs i) c ≡ o → record_of (state_at m xs (i + 1)) c ≡ p → ChangeAt m xs i x o p →
          GivenMoves m xs i x c t
      by o p f g (made d rsize fd bytes pass s h y v z b) = absurd (cc (sym (ap stage_in f) ∙ w))
      by o p f g (given r u h) = absurd (other r stage.Queued f h (λ l. cc))
      by o p f g (entered r q s h room a) =
          GivenMoves.enters (same r x.thread h f)
          (accepted _ _ _ _ r.number a (number r f))
          (ap stage_in g ∙ ap (λ (u : ℕ). Some (stage.Entered (tid u))) (same r x.thread h f))
      by o p f g (returned r bytes pass q y h b a) = absurd (other r _ f h (λ l. cc))
      by o p f g (ended r y (door_invalid h v u d)) = absurd (other r _ f h (λ l. cc))
      by o p f g (ended r y (server_full q s h full a)) =
          GivenMoves.fails (same r x.thread h f) (a ∙ ap (λ (n : ℕ). answer.EnterFailed n) (number r f)) (ap stage_in g)
      by o p f g (ended r y (interrupted q v d)) = by_interrupt r f q (ap stage_in g)
      by o p f g (ended r y (server_ended u (inl h) v d)) =
          GivenMoves.thread_ends (subst (λ z. EndsNow (state_at m xs i) (state_at m xs (i + 1)) z) (same r u h f) v) (ap stage_in g)
      by o p f g (ended r y (server_ended u (inr h) v d)) = absurd (other r _ f h (λ l. cc))
      by o p f g (broken_off r u q h d) = absurd (other r _ f h (λ l. cc))
      by o p f g (left r l h) = GivenMoves.caller_ends r f h (ap stage_in g ∙ ap (λ (s : CallStage). Some s) (gone_stage r.stage r l))
      by o p f g (results_collected r bytes objects q s y h room a) = absurd (other r _ f h (λ l. cc))
      by o p f g (nothing_collected r bytes objects q s y h room a) = absurd (other r _ f h (λ l. cc))
      by o p f g (error_collected r z q s y h a) = absurd (other r _ f h (λ l. cc))

      first :
          (record_of (state_at m xs (i + 1)) c ≡ record_of (state_at m xs i) c)
          ⊎ ChangeAt m xs i x (record_of (state_at m xs i) c) (record_of (state_at m xs (i + 1)) c) → GivenMoves m xs i x c t
      first (inl g) = GivenMoves.stays (ap stage_in g ∙ w)
      first (inr d) = by _ _ refl refl d

  given_to_pool :
      (i t c : ℕ) (r : Call) → i ≤ length xs → record_of (state_at m xs i) c ≡ Some r → r.stage ≡ stage.Given (tid t) →
      MayServe (state_at m xs i) t r.door
  given_to_pool i t c r l e f =
      may_serve (state_at m xs i) t r.door
      (ap (λ o. owner_in (door_of (state_at m xs i) (door_in o))) (sym e) ∙ h.given_owner c t given)
      (h.given_bound c t given ∙ ap (λ o. bound_for (door_in o) (door_of (state_at m xs i) (door_in o))) e)
    where
      h : AreAtDoors (core (state_at m xs i)).call (core (state_at m xs i)).door (core (state_at m xs i)).process (core (state_at m xs i)).bound
      h = (k.invariant i l).consistent.coherent.at_doors

      given : stage_of (state_at m xs i) c ≡ Some (stage.Given (tid t))
      given = ap stage_in e ∙ ap (λ (s : CallStage). Some s) f

  pub given_holds : StaysGiven m xs
  given_holds =
      record {
        given_waits = λ i t c l. ((k.invariant i l).consistent.coherent.waits.given c t, (k.invariant i l).consistent.coherent.waits.given_back c t);
        given_to_owner = λ i t c l w. owner_same (state_at m xs i) (record_of (state_at m xs i) c) _ w ∙ (k.invariant i l).consistent.coherent.at_doors.given_owner c t w;
        given_to_pool = given_to_pool;
        moves = moves;
        waits_no_more = waits_no_more;
        same_thread = same_thread;
      }
