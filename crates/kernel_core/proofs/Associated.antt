-- How many more associations and timers there are after an act: one at most.
use Rattle.std.proofs.Common.{◌≡◌, ℕ, ◌+◌, ◌≤◌, Bool, List, [], ◌∷◌, Option, filter, length, ap, arith}
use Rattle.std.proofs.lemmas.List.{length-append}
use Rattle.std.proofs.lemmas.List.Sums.{count_by-le-length, length-filter}
use Rattle.spec_records.specs.declared.association.Association.{Association}
use Rattle.spec_records.specs.Words.{AssociationList, arming_at, associations_of, events_found, has_other_key, has_other_number, is_other_timer, is_timer, new_association, new_timer, port_of, retrieve_association, retrieve_associations, with_arming}
use Rattle.spec_records.proofs.Places.{length-change_first}
use Rattle.spec_kernel.specs.Types.{Answer, Request}
use Rattle.spec_kernel.specs.Words.{ActResult, Channels, State, act, associations_in, key_at, object_at, port_at, process_of, settle_pools, take_found, timers_in, watched}
use Rattle.spec_kernel.proofs.Moves.{IsMaking, IsPassing, Moves, act_moves}
use Rattle.spec_kernel.proofs.Settling.{channels-settle_pools}

abbrev pub count_associations : State → ℕ
count_associations m = length (associations_in m)

fewer_left : (keep : Association → Bool) (xs : List Association) → length (filter keep xs) ≤ length xs
fewer_left keep xs = omega (arith, length-filter keep xs, count_by-le-length keep xs)

retrieved_fewer : (list : AssociationList) (ns : List ℕ) → length (retrieve_associations list ns).associations ≤ length list.associations
retrieved_fewer list [] = omega arith
retrieved_fewer list (n ∷ ns) = omega (arith, retrieved_fewer (retrieve_association list n) ns, fewer_left (has_other_number n) list.associations)

taken_fewer : (c : Channels) (q max : ℕ) → length (take_found c q max).associations.associations ≤ length c.associations.associations
taken_fewer c q max = retrieved_fewer c.associations (associations_of (events_found max (port_of c.ports q)))

passed_one : (m : State) (t : ℕ) (r : Request) (c : Channels) (a : Answer) → IsPassing m t r c a → length c.associations.associations ≤ count_associations m + 1
passed_one m t r c a (IsPassing.gets fd wait f e) = omega (arith, taken_fewer m.channels (port_at m (process_of m t) fd) 1)
passed_one m t r c a (IsPassing.gets_many fd max nget wait f some e) = omega (arith, taken_fewer m.channels (port_at m (process_of m t) fd) max)
passed_one m t r c a (IsPassing.associates port object events user f) =
    let key = key_at m (process_of m t) port object in
    let xs = filter (has_other_key key) (associations_in m) in
    omega (arith, fewer_left (has_other_key key) (associations_in m), length-append xs (new_association (m.channels.associations.made + 1) key (watched (object_at m (process_of m t) object)) events user ∷ []))
passed_one m t r c a (IsPassing.dissociates port object f) = omega (arith, fewer_left (has_other_key (key_at m (process_of m t) port object)) (associations_in m))
passed_one m t r c a _ = omega arith

moved_one : (m : State) (t : ℕ) (q : Option Request) (a : ActResult) → Moves m t q a → count_associations a.state ≤ count_associations m + 1
moved_one m t q a (Moves.passes r c x p) = passed_one m t r c x p
moved_one m t q a (Moves.makes_channel r c objects x (IsMaking.makes_pipe f)) = omega arith
moved_one m t q a (Moves.makes_channel r c objects x (IsMaking.makes_port f)) = omega arith
moved_one m t q a (Moves.retrieves port max nget one h) = omega (arith, taken_fewer m.channels port max)
moved_one m t q a _ = omega arith

pub counted-act : (m : State) (t : ℕ) (q : Option Request) → count_associations (act m t q).state ≤ count_associations m + 1
counted-act m t q = moved_one m t q (act m t q) (act_moves m t q)

-- timers

abbrev pub count_timers : State → ℕ
count_timers m = length (timers_in m)

passed_timer : (m : State) (t : ℕ) (r : Request) (c : Channels) (a : Answer) → IsPassing m t r c a → length c.timers.timers ≤ count_timers m + 1
passed_timer m t r c a (IsPassing.creates_timer port user f) = omega (arith, length-append (timers_in m) (new_timer m.channels.timers (process_of m t) (port_at m (process_of m t) port) user ∷ []))
passed_timer m t r c a (IsPassing.sets_timer timer first interval f) =
    omega (arith, length-change_first (is_timer (process_of m t) timer) (with_arming (arming_at m.channels.timers.clock first interval)) (timers_in m))
passed_timer m t r c a (IsPassing.deletes_timer timer f) =
    omega (arith, length-filter (is_other_timer (process_of m t) timer) (timers_in m), count_by-le-length (is_other_timer (process_of m t) timer) (timers_in m))
passed_timer m t r c a _ = omega arith

moved_timer : (m : State) (t : ℕ) (q : Option Request) (a : ActResult) → Moves m t q a → count_timers a.state ≤ count_timers m + 1
moved_timer m t q a (Moves.passes r c x p) = passed_timer m t r c x p
moved_timer m t q a (Moves.makes_channel r c objects x (IsMaking.makes_pipe f)) = omega arith
moved_timer m t q a (Moves.makes_channel r c objects x (IsMaking.makes_port f)) = omega arith
moved_timer m t q a _ = omega arith

pub timed-act : (m : State) (t : ℕ) (q : Option Request) → count_timers (act m t q).state ≤ count_timers m + 1
timed-act m t q = moved_timer m t q (act m t q) (act_moves m t q)

-- what follows an act makes neither

pub timed_pools : (before m : State) → count_timers (settle_pools before m) ≡ count_timers m
timed_pools before m = ap (λ (c : Channels). length c.timers.timers) (channels-settle_pools before m)

pub counted_pools : (before m : State) → count_associations (settle_pools before m) ≡ count_associations m
counted_pools before m = ap (λ (c : Channels). length c.associations.associations) (channels-settle_pools before m)
