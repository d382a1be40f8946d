-- What becomes of one call where one more caller, server or door leaves, and the parts of leaving together.
use Rattle.std.proofs.lemmas.Bool.Decides.{nat_tests}
use Rattle.std.proofs.Common.{◌≡◌, ◌<◌, ◌≤◌, ◌==◌, ℕ, Bool, true, false, List, [], ◌∷◌, Some, find, filter, map, if◌then◌else◌, refl, sym, ap, ap₂, ◌∙◌, arith, subst}
use Rattle.dk_base.specs.declared.error.Errno.TheVariants.{EBADF, EINTR}
use Rattle.spec_records.specs.declared.record.Call.{Call}
use Rattle.spec_records.specs.declared.record.CallStage.TheVariants as stage
use Rattle.spec_records.specs.Words.{CallTree, IsAscending, Leaving, call_number, interruption, is_live, is_live_call, is_queued, is_queued_as, is_served_by, is_to_collect, left_call, thread_end, without_arguments_at}
use Rattle.spec_records.proofs.Places.{change_first-none}
use Rattle.spec_records.proofs.NumberedLists.{ascending-filter}
use Rattle.call_tree.specs.Words.{is_call}
use Rattle.call_tree.specs.Calls.{is_called_by, leaving_for}
use Rattle.call_tree.specs.LiveCalls.{AreLive}
use Rattle.call_tree.specs.Parting.{LeftSoFar, PartsOfLeaving, and_one, call_so_far, nothing_left}
use Rattle.call_tree.specs.Sound.{AreSound}
use Rattle.call_tree.proofs.Looks.{same_some}
use Rattle.call_tree.proofs.Keys.{live_same}
use Rattle.call_tree.proofs.Parting.{number_first, Each, Lone, after, each_found, each_map, live_change, live_kept, live_twice, lone_by, stepped}
use Rattle.call_tree.proofs.Ties.{and_first, is_of_true}

-- what is known of each call
pub record IsPart (calls : List Call) (r : Call) : Type 0 where
  pub found : find (is_call r.number) calls ≡ Some r
  pub live : is_live r.stage ≡ true
  pub plain : r.abandoned ≡ true → is_to_collect r.stage ≡ true

-- the caller and the number stay

caller_kept : (d : LeftSoFar) (r : Call) → (call_so_far d r).caller.0 ≡ r.caller.0
caller_kept d r = grind (arith, nat_tests)

number_kept : (d : LeftSoFar) (r : Call) → (call_so_far d r).number ≡ r.number
number_kept d r = grind (arith, nat_tests)

-- a caller that ends
module _ (d : LeftSoFar) (t : ℕ) where
  abbrev with_ended : LeftSoFar
  with_ended = record d { ended = and_one d.ended t }

  ends_same : (r : Call) → is_called_by t r ≡ false → call_so_far with_ended r ≡ call_so_far d r
  ends_same r e = grind (arith, nat_tests)

  ends_one : (r : Call) → is_called_by t r ≡ true → after (is_called_by t) (left_call (thread_end t)) (call_so_far d r ∷ []) ≡ filter is_live_call (call_so_far with_ended r ∷ [])
  ends_one r e = grind (arith, nat_tests)

-- a caller that is interrupted, where no server has ended and no call was refused
module _ (d : LeftSoFar) (t : ℕ) (no_server : (u : ℕ) → d.servers u ≡ false) (no_call : (c : ℕ) → d.refused c ≡ false) where
  abbrev with_interrupted : LeftSoFar
  with_interrupted = record d { interrupted = and_one d.interrupted t }

  interrupts_same : (r : Call) → is_called_by t r ≡ false → call_so_far with_interrupted r ≡ call_so_far d r
  interrupts_same r e = grind (arith, nat_tests)

  interrupts_one : (r : Call) → is_live r.stage ≡ true → is_called_by t r ≡ true → after (is_called_by t) (left_call (interruption t)) (call_so_far d r ∷ []) ≡ filter is_live_call (call_so_far with_interrupted r ∷ [])
  interrupts_one r live e = grind (arith, nat_tests, no_server, no_call)

-- a thread that ends
module _ (d : LeftSoFar) (u : ℕ) where
  abbrev with_server : LeftSoFar
  with_server = record d { servers = and_one d.servers u }

  abbrev lost : Call → Call
  lost = without_arguments_at (stage.Ended EINTR)

  serves_same : (r : Call) → (r.abandoned ≡ true → is_to_collect r.stage ≡ true) → is_served_by u r ≡ false → call_so_far with_server r ≡ call_so_far d r
  serves_same r plain e = grind (arith, nat_tests)

  serves_one : (r : Call) → is_live r.stage ≡ true → is_served_by u r ≡ true → after (is_served_by u) lost (call_so_far d r ∷ []) ≡ filter is_live_call (call_so_far with_server r ∷ [])
  serves_one r live e = grind (arith, nat_tests)

  -- what serves a call did so before
  serves_passes : (r : Call) → is_served_by u (call_so_far d r) ≡ true → is_served_by u r ≡ true
  serves_passes r h = grind (arith, nat_tests)

-- a waiting call that is refused
module _ (d : LeftSoFar) (c : ℕ) where
  abbrev with_refused : LeftSoFar
  with_refused = record d { refused = and_one d.refused c }

  abbrev barred : Call → Call
  barred = without_arguments_at (stage.Ended EBADF)

  refuses_same : (r : Call) → is_queued_as c r ≡ false → call_so_far with_refused r ≡ call_so_far d r
  refuses_same r e = grind (arith, nat_tests)

  refuses_one : (r : Call) → is_live r.stage ≡ true → is_queued_as c r ≡ true → after (is_queued_as c) barred (call_so_far d r ∷ []) ≡ filter is_live_call (call_so_far with_refused r ∷ [])
  refuses_one r live e = grind (arith, nat_tests)

  refuses_passes : (r : Call) → is_queued_as c (call_so_far d r) ≡ true → is_queued_as c r ≡ true
  refuses_passes r h = grind (arith, nat_tests)

-- the parts together

nothing_same : (r : Call) → call_so_far nothing_left r ≡ r
nothing_same r = grind (arith, nat_tests)

nothing_changed : (rs : List Call) → map (call_so_far nothing_left) rs ≡ rs
nothing_changed [] = refl
nothing_changed (r ∷ rs) = ap₂ (λ x xs. x ∷ xs) (nothing_same r) (nothing_changed rs)

module _ (d : LeftSoFar) (who : Leaving) (ended : (t : ℕ) → d.ended t ≡ who.ends t) (interrupted : (t : ℕ) → d.interrupted t ≡ who.interrupts t) (servers : (u : ℕ) → d.servers u ≡ who.ends u) where
  done_one : (r : Call) → (r.stage ≡ stage.Queued → d.refused r.number ≡ who.loses r.door) → call_so_far d r ≡ left_call who r
  done_one r h = grind (arith, nat_tests, ended, interrupted, servers)

  done_all : (rs : List Call) → Each (λ r. r.stage ≡ stage.Queued → d.refused r.number ≡ who.loses r.door) rs → map (call_so_far d) rs ≡ map (left_call who) rs
  done_all [] h = refl
  done_all (r ∷ rs) h = ap₂ (λ x xs. x ∷ xs) (done_one r h.0) (done_all rs h.1)

alive : (p : Call → Bool) (r : Call) (rs : List Call) → find p rs ≡ Some r → AreLive rs → is_live r.stage ≡ true
alive p r [] e a = absurd (cc)
alive p r (x ∷ rs) e a = by_test (p x) e (λ q. alive p r rs q a.1)
  where
    by_test : (b : Bool) → (if b then Some x else find p rs) ≡ Some r → (find p rs ≡ Some r → is_live r.stage ≡ true) → is_live r.stage ≡ true
    by_test true q ih = ap (λ y. is_live y.stage) (sym (same_some x r q)) ∙ a.0
    by_test false q ih = ih q

each_part : (tree : CallTree) → AreSound tree → Each (IsPart tree.calls) tree.calls
each_part tree s =
    each_map (λ r w. record { found = w.0; live = alive (is_call r.number) r tree.calls w.0 s.live; plain = s.abandoned (is_call r.number) r w.0 }) tree.calls
    (each_found 0 tree.made tree.calls s.ascending)

ascending_kept : (d : LeftSoFar) (rs : List Call) (low made : ℕ) → IsAscending call_number low made rs → IsAscending call_number low made (map (call_so_far d) rs)
ascending_kept d [] low made h = tt
ascending_kept d (r ∷ rs) low made h =
    subst (λ n. (low < n) × (n ≤ made) × IsAscending call_number n made (map (call_so_far d) rs)) (sym (number_kept d r)) (h.0, h.1, ascending_kept d rs r.number made h.2)

pub parts_of_leaving : (tree : CallTree) → AreSound tree → PartsOfLeaving tree
parts_of_leaving tree s =
    let parts = each_part tree s in
    let lone_caller : (t : ℕ) → Lone (is_called_by t) tree.calls = λ t. lone_by (is_called_by t) tree.calls 0 tree.made s.ascending parts (λ r x h k p q. one_caller t r x h k p q) in
    let lone_server : (u : ℕ) → Lone (is_served_by u) tree.calls = λ u. lone_by (is_served_by u) tree.calls 0 tree.made s.ascending parts (λ r x h k p q. one_server u r x h k p q) in
    let lone_queued : (c : ℕ) → Lone (is_queued_as c) tree.calls = λ c. lone_by (is_queued_as c) tree.calls 0 tree.made s.ascending parts (λ r x h k p q. is_of_true r.number c (and_first _ _ p) ∙ sym (is_of_true x.number c (and_first _ _ q))) in
    record {
      begins = ap (λ rs. record { made = tree.made; calls = rs }) (ap (filter is_live_call) (nothing_changed tree.calls) ∙ live_same tree.calls s.live);
      none_called = λ d t why e. ap (λ rs. record { made = tree.made; calls = rs })
          (ap (filter is_live_call) (change_first-none (is_called_by t) (left_call (leaving_for why t)) _ e) ∙ live_twice (map (call_so_far d) tree.calls));
      ends = λ d t. ap (λ rs. record { made = tree.made; calls = rs })
          (stepped (is_called_by t) (left_call (thread_end t)) {P = IsPart tree.calls} (is_called_by t) (call_so_far d) (call_so_far (with_ended d t)) (λ r h e. ap (λ n. n == t) (sym (caller_kept d r)) ∙ e) (λ r h e. ends_same d t r e) (λ r h e. ends_one d t r e) tree.calls parts (lone_caller t));
      interrupts = λ d t n m. ap (λ rs. record { made = tree.made; calls = rs })
          (stepped (is_called_by t) (left_call (interruption t)) {P = IsPart tree.calls} (is_called_by t) (call_so_far d) (call_so_far (with_interrupted d t n m)) (λ r h e. ap (λ k. k == t) (sym (caller_kept d r)) ∙ e) (λ r h e. interrupts_same d t n m r e) (λ r h e. interrupts_one d t n m r h.live e) tree.calls parts (lone_caller t));
      serves = λ d u. ap (λ rs. record { made = tree.made; calls = rs })
          (sym (live_same _ (live_change (is_served_by u) (lost d u) (λ r. refl) _ (live_kept (map (call_so_far d) tree.calls))))
          ∙ stepped (is_served_by u) (lost d u) {P = IsPart tree.calls} (is_served_by u) (call_so_far d) (call_so_far (with_server d u)) (λ r h e. serves_passes d u r e) (λ r h e. serves_same d u r h.plain e) (λ r h e. serves_one d u r h.live e) tree.calls parts (lone_server u));
      refuses = λ d c h. ap (λ rs. record { made = tree.made; calls = rs })
          (number_first is_queued c (barred d c) 0 tree.made (filter is_live_call (map (call_so_far d) tree.calls)) (ascending-filter call_number is_live_call _ 0 tree.made (ascending_kept d tree.calls 0 tree.made s.ascending)) h
          ∙ sym (live_same _ (live_change (is_queued_as c) (barred d c) (λ r. refl) _ (live_kept (map (call_so_far d) tree.calls))))
          ∙ stepped (is_queued_as c) (barred d c) {P = IsPart tree.calls} (is_queued_as c) (call_so_far d) (call_so_far (with_refused d c)) (λ r k e. refuses_passes d c r e) (λ r k e. refuses_same d c r e) (λ r k e. refuses_one d c r k.live e) tree.calls parts (lone_queued c));
      done = λ d who e i v q. ap (λ rs. record { made = tree.made; calls = rs })
          (ap (filter is_live_call) (done_all d who e i v tree.calls (each_map (λ r w. q (is_call r.number) r w.found) tree.calls parts)));
    }
  where
    one_caller : (t : ℕ) (r x : Call) → IsPart tree.calls r → IsPart tree.calls x → is_called_by t r ≡ true → is_called_by t x ≡ true → r.number ≡ x.number
    one_caller t r x h k p q =
        let e = is_of_true r.caller.0 t p ∙ sym (is_of_true x.caller.0 t q) in
        ap (λ y. y.number) (same_some r x (sym (s.caller (is_call r.number) r h.found) ∙ ap (λ n. find (is_called_by n) tree.calls) e ∙ s.caller (is_call x.number) x k.found))

    one_server : (u : ℕ) (r x : Call) → IsPart tree.calls r → IsPart tree.calls x → is_served_by u r ≡ true → is_served_by u x ≡ true → r.number ≡ x.number
    one_server u r x h k p q = ap (λ y. y.number) (same_some r x (sym (s.server (is_call r.number) r u h.found p) ∙ s.server (is_call x.number) x u k.found q))
