-- What leaves transit where a call is left.
use Rattle.std.proofs.Common.{◌≡◌, ◌+◌, ℕ, Bool, true, false, cond, if◌then◌else◌, List, [], ◌∷◌, ◌++◌, Option, Some, None, find, filter, flat_map, refl, sym, ap, ◌∙◌, arith}
use Rattle.std.proofs.lemmas.Bool.Decides.{nat_tests}
use Rattle.std.proofs.lemmas.List.Sums.{sum_by-append}
use Rattle.dk_base.specs.declared.error.Errno.{Errno}
use Rattle.dk_base.specs.declared.error.Errno.TheVariants.{EINTR}
use Rattle.dk_base.specs.declared.object.Obj.{Obj}
use Rattle.spec_records.specs.declared.record.Call.{Call}
use Rattle.spec_records.specs.declared.record.CallStage.TheVariants as stage
use Rattle.spec_records.specs.Words.{CallTree, change_first, count_object, is_live_call, is_object, is_served_by, left_call, without_arguments_at}
use Rattle.call_tree.specs.Calls.{dropped_objects, is_called_by, is_waiting, is_waiting_as, leaving_for}
use Rattle.call_tree.specs.Sound.{AreSound}
use Rattle.call_tree.specs.Transit.{DropsInTransit, transit_count, transit_in}
use Rattle.call_tree.proofs.Parting.{number_first, number_found}
use Rattle.call_tree.specs.Walks.{argument_objects}
use Rattle.call_tree.specs.declared.parts.Leave.{Leave}
use Rattle.call_tree.specs.declared.parts.Leave.TheVariants.{Finished, Interrupted}

count_object-append : (o : Obj) (xs ys : List Obj) → count_object o (xs ++ ys) ≡ count_object o xs + count_object o ys
count_object-append o xs ys = sum_by-append (λ x. cond (is_object o x) 1 0) xs ys

one_more : (o : Obj) (r : Call) (rs : List Call) → transit_count o (r ∷ rs) ≡ count_object o (transit_in r) + transit_count o rs
one_more o r rs = count_object-append o (transit_in r) (flat_map transit_in rs)

-- a call that is not live has nothing in transit
live_transit : (o : Obj) (rs : List Call) → transit_count o (filter is_live_call rs) ≡ transit_count o rs
live_transit o [] = refl
live_transit o (r ∷ rs) = by_test (is_live_call r) refl (live_transit o rs)
  where
    dead : is_live_call r ≡ false → transit_in r ≡ []
    dead e = grind (arith, nat_tests)

    by_test : (b : Bool) → is_live_call r ≡ b → transit_count o (filter is_live_call rs) ≡ transit_count o rs → transit_count o (cond b (r ∷ filter is_live_call rs) (filter is_live_call rs)) ≡ transit_count o (r ∷ rs)
    by_test true e ih = omega (arith, one_more o r (filter is_live_call rs), one_more o r rs, ih)
    by_test false e ih = omega (arith, one_more o r rs, ap (count_object o) (dead e), ih)

-- the first call that passes changes, and so much leaves transit
changed_transit :
    (o : Obj) (p : Call → Bool) (f : Call → Call) (left : Option Call → List Obj) → left None ≡ [] →
    ((r : Call) → p r ≡ true → count_object o (transit_in r) ≡ count_object o (transit_in (f r)) + count_object o (left (Some r))) →
    (rs : List Call) → transit_count o rs ≡ transit_count o (change_first p f rs) + count_object o (left (find p rs))
changed_transit o p f left none goes [] = omega (arith, ap (count_object o) none)
changed_transit o p f left none goes (r ∷ rs) = by_test (p r) refl (changed_transit o p f left none goes rs)
  where
    by_test : (b : Bool) → p r ≡ b → transit_count o rs ≡ transit_count o (change_first p f rs) + count_object o (left (find p rs)) → transit_count o (r ∷ rs) ≡ transit_count o (if b then f r ∷ rs else r ∷ change_first p f rs) + count_object o (left (cond b (Some r) (find p rs)))
    by_test true e ih = omega (arith, one_more o r rs, one_more o (f r) rs, goes r e)
    by_test false e ih = omega (arith, one_more o r rs, one_more o r (change_first p f rs), ih)

interrupted_one : (o : Obj) (t : ℕ) (r : Call) → is_called_by t r ≡ true → count_object o (transit_in r) ≡ count_object o (transit_in (left_call (leaving_for Interrupted t) r)) + count_object o (dropped_objects Interrupted (Some r))
interrupted_one o t r e = grind (arith, nat_tests)

finished_one : (o : Obj) (t : ℕ) (r : Call) → is_called_by t r ≡ true → count_object o (transit_in r) ≡ count_object o (transit_in (left_call (leaving_for Finished t) r)) + count_object o (dropped_objects Finished (Some r))
finished_one o t r e = grind (arith, nat_tests)

abandoned_one : (o : Obj) (t : ℕ) (why : Leave) (r : Call) → is_called_by t r ≡ true → count_object o (transit_in r) ≡ count_object o (transit_in (left_call (leaving_for why t) r)) + count_object o (dropped_objects why (Some r))
abandoned_one o t Interrupted r e = interrupted_one o t r e
abandoned_one o t Finished r e = finished_one o t r e

served_one : (o : Obj) (u : ℕ) (r : Call) → is_served_by u r ≡ true → count_object o (transit_in r) ≡ count_object o (transit_in (without_arguments_at (stage.Ended EINTR) r)) + count_object o (argument_objects (Some r))
served_one o u r e = grind (arith, nat_tests)

refused_one : (o : Obj) (c : ℕ) (e : Errno) (r : Call) → is_waiting_as c r ≡ true → count_object o (transit_in r) ≡ count_object o (transit_in (without_arguments_at (stage.Ended e) r)) + count_object o (argument_objects (Some r))
refused_one o c e r h = grind (arith, nat_tests)

pub drops_in_transit : (tree : CallTree) → AreSound tree → DropsInTransit tree
drops_in_transit tree s =
    record {
      abandons = λ t why o.
          let f = left_call (leaving_for why t) in
          changed_transit o (is_called_by t) f (dropped_objects why) refl (abandoned_one o t why) tree.calls
          ∙ ap (λ n. n + count_object o (dropped_objects why (find (is_called_by t) tree.calls))) (sym (live_transit o (change_first (is_called_by t) f tree.calls)));
      serves = λ u o. changed_transit o (is_served_by u) (without_arguments_at (stage.Ended EINTR)) argument_objects refl (served_one o u) tree.calls;
      refuses = λ c e o h.
          rw (number_first is_waiting c (without_arguments_at (stage.Ended e)) 0 tree.made tree.calls s.ascending h, number_found is_waiting c 0 tree.made tree.calls s.ascending h)
          (changed_transit o (is_waiting_as c) (without_arguments_at (stage.Ended e)) argument_objects refl (refused_one o c e) tree.calls);
    }
