-- What an act leaves of each row.
use Rattle.std.specs.Prelude.{ℕ, ◌≡◌, ◌≤◌, ◌+◌, ◌==◌, ◌&&◌, ◌||◌, List, [], ◌∷◌, Option, Bool, true, false, if◌then◌else◌, not, Some, None, is_none, length, nat_lt}
use Rattle.std.specs.List.{list_any}
use Rattle.std.proofs.Common.{refl, ap₂, subst}
use native.Mathlib.Omega.{arith}
use Rattle.std.proofs.lemmas.Bool.Decides.{nat_tests}
use Rattle.spec_kernel.specs.Types.{Errno, Fd, Name, Obj, Pass, PathId, Pid, Request}
use Rattle.dk_base.specs.declared.error.Errno.TheVariants.{EAGAIN, EMFILE}
use Rattle.dk_base.specs.declared.object.Obj.TheVariants as obj
use Rattle.dk_base.specs.declared.request.Request.TheVariants as request
use Rattle.spec_records.specs.Words.{close_row, close_table, door_attached, free_place, free_rows, insert_rows, is_last, is_ready_for, is_to_collect_as, lowest_free, object_named, refused_where, release_rows, table_in, with_row, with_table}
use Rattle.spec_records.proofs.Passing.{releases}
use Rattle.spec_kernel.specs.Words.{ActResult, State, act, await_name, effect, exit, find_call, fork, get_from, get_many, has_invalid_door, has_room, is_live_process, is_unborn_process, kill, leave_process, leave_thread, name_of, object_at, objects_collected_in, port, port_at, process_of, refusal_of, retrieve, return, return_parked, return_unbound, table_of, tables_after_collect, tables_with, tell_queued, unless_refused, wait_for}
use Rattle.spec_kernel.proofs.Moves.{IsFree, Moves, act_moves}
use Rattle.spec_kernel.proofs.Refusals.{not_held}
use Rattle.law_channels.specs.Changed.{UnbornHaveNoRows}
use Rattle.law_channels.specs.Closed.{Closing, closed_by, closes, is_closed, is_descriptor, released}
use Rattle.law_channels.proofs.Rows.{IsRowAfter, by_table, close_all, close_one, fill_lowest, fill_some, release_some, stays, was_free}

-- tests

unclosed : (b : Bool) (r s : Option Obj) → IsRowAfter (b && false) r s → IsRowAfter false r s
unclosed true r s h = h
unclosed false r s h = h

all_closed : (b : Bool) (r s : Option Obj) → IsRowAfter (b && true) r s → IsRowAfter b r s
all_closed true r s h = h
all_closed false r s h = h

one_closed : (b c : Bool) (r s : Option Obj) → IsRowAfter (b && c) r s → IsRowAfter (b && (c || false)) r s
one_closed b true r s h = h
one_closed b false r s h = h

acted : (b : Bool) (r s : Option Obj) → IsRowAfter b r s → IsRowAfter (b && true) r s
acted true r s h = h
acted false r s h = h

refused : (b : Bool) (r : Option Obj) → IsRowAfter (b && false) r r
refused true r = stays r
refused false r = stays r

released_are : (fd : Fd) (pass : List Pass) → list_any (releases fd) pass ≡ list_any (is_descriptor fd) (released pass)
released_are fd [] = refl
released_are fd (x ∷ xs) = go x.release (released_are fd xs)
  where
    go :
        (b : Bool) → list_any (releases fd) xs ≡ list_any (is_descriptor fd) (released xs) →
        (b && (x.fd.0 == fd.0)) || list_any (releases fd) xs ≡ list_any (is_descriptor fd) (if b then x.fd ∷ released xs else released xs)
    go true rest = ap₂ (λ (c d : Bool). c || d) (grind (arith, nat_tests)) rest
    go false rest = rest

-- tables that a process changes

module _ (m : State) (own : ℕ) where
  abbrev AreLeft : Closing → List (List (Option Obj)) → Type 0
  AreLeft closing tables = (p : ℕ) (fd : Fd) → IsRowAfter (is_closed closing p fd) (object_at m p fd) (object_named (table_in tables p) fd)

  unchanged : AreLeft Closing.nothing m.tables
  unchanged p fd = stays (object_at m p fd)

  added :
      (t : List (Option Obj)) → ((fd : Fd) → IsRowAfter false (object_named (table_of m own) fd) (object_named t fd)) →
      AreLeft Closing.nothing (with_table m.tables own t)
  added t h p fd = unclosed (p == own) _ _ (by_table m.tables own t (λ g. false) h p fd)

  filled : (r : Option Obj) → is_none (lowest_free (table_of m own)) ≡ false → AreLeft Closing.nothing (with_table m.tables own (with_row (table_of m own) (free_place (table_of m own)) r))
  filled r e = added (with_row (table_of m own) (free_place (table_of m own)) r) (λ fd. fill_lowest (table_of m own) r fd e)

  filled_some : (os : List Obj) → length os ≤ free_rows (table_of m own) → AreLeft Closing.nothing (tables_with m own os)
  filled_some os h = added (insert_rows (table_of m own) os) (λ fd. fill_some (table_of m own) os fd h)

  collected : (os : List Obj) → AreLeft Closing.nothing (tables_after_collect m own os)
  collected os = go (has_room m own os) refl
    where
      go : (b : Bool) → has_room m own os ≡ b → AreLeft Closing.nothing (if b then tables_with m own os else m.tables)
      go true e = filled_some os (grind (arith, nat_tests))
      go false e = unchanged

  closed_one : (g : Fd) → AreLeft (Closing.rows own (g ∷ [])) (with_table m.tables own (close_row (table_of m own) g.0))
  closed_one g p fd =
      one_closed (p == own) (fd.0 == g.0) _ _
      (by_table m.tables own (close_row (table_of m own) g.0) (λ f. f.0 == g.0) (λ f. close_one (table_of m own) g f) p fd)

  released_some : (pass : List Pass) → AreLeft (Closing.rows own (released pass)) (with_table m.tables own (release_rows (table_of m own) pass))
  released_some pass p fd =
      by_table m.tables own (release_rows (table_of m own) pass) (λ f. list_any (is_descriptor f) (released pass))
      (λ f. subst (λ b. IsRowAfter b (object_named (table_of m own) f) (object_named (release_rows (table_of m own) pass) f)) (released_are f pass)
      (release_some (table_of m own) pass f)) p fd

  closed_table : AreLeft (Closing.process own) (with_table m.tables own (close_table (table_of m own)))
  closed_table p fd =
      all_closed (p == own) _ _
      (by_table m.tables own (close_table (table_of m own)) (λ f. true) (λ f. close_all (table_of m own) f) p fd)

-- acts

module _ (m : State) (t : ℕ) where
  abbrev owner : ℕ
  owner = process_of m t

  abbrev Leaves : Closing → ActResult → Type 0
  Leaves closing a = AreLeft m owner closing a.state.tables

  await_leaves : (path : PathId) (o : Option Name) → Leaves Closing.nothing (await_name m t path o)
  await_leaves path None = unchanged m owner
  await_leaves path (Some n) = unchanged m owner

  return_leaves : (bytes : List ℕ) (pass : List Pass) → Leaves (Closing.rows owner (released pass)) (return m t owner bytes pass)
  return_leaves bytes pass = go (has_invalid_door m t)
    where
      go :
          (b : Bool) → Leaves (Closing.rows owner (released pass)) (if b then return_unbound m t owner bytes pass else return_parked m t owner bytes pass)
      go true = released_some m owner pass
      go false = released_some m owner pass

  kill_leaves : (p : ℕ) → Leaves (if is_live_process m p then Closing.process p else Closing.nothing) (kill m p)
  kill_leaves p = go (is_live_process m p)
    where
      go : (b : Bool) → AreLeft m owner (if b then Closing.process p else Closing.nothing) (if b then leave_process m p else m).tables
      go true = closed_table m p
      go false = unchanged m owner

  exit_leaves : Leaves (if is_last m.process_table t owner then Closing.process owner else Closing.nothing) (exit m t owner)
  exit_leaves = go (is_last m.process_table t owner)
    where
      go :
          (b : Bool) →
          AreLeft m owner (if b then Closing.process owner else Closing.nothing) (if b then leave_process m owner else leave_thread m t).tables
      go true = closed_table m owner
      go false = unchanged m owner

  get_leaves : (q max nget : ℕ) (one : Bool) → Leaves Closing.nothing (get_from m t q max nget one)
  get_leaves q max nget one = go (is_ready_for nget (port m q))
    where
      go : (b : Bool) → Leaves Closing.nothing (if b then retrieve m q max one else wait_for m t q max nget one)
      go true = unchanged m owner
      go false = unchanged m owner

  get_many_leaves : (fd : Fd) (max nget : ℕ) → Leaves Closing.nothing (get_many m t owner fd max nget)
  get_many_leaves fd max nget = go (max == 0)
    where
      go :
          (b : Bool) →
          Leaves Closing.nothing (if b then tell_queued m (port_at m owner fd) else get_from m t (port_at m owner fd) max nget false)
      go true = unchanged m owner
      go false = get_leaves (port_at m owner fd) max nget false

  two_free : IsFree m t request.Pipe → 2 ≤ free_rows (table_of m owner)
  two_free f =
      let few : nat_lt (free_rows (table_of m owner)) 2 ≡ false = not_held [] (refused_where (nat_lt (free_rows (table_of m owner)) 2) EMFILE) [] f in
      grind (arith, nat_tests, few)

  -- a child that begins had no row
  fork_leaves : (child : Pid) → UnbornHaveNoRows m → IsFree m t (request.Fork child) → Leaves Closing.nothing (fork m t owner child.0)
  fork_leaves child h f p fd =
      unclosed (p == child.0) _ _
      (by_table m.tables child.0 (table_of m owner) (λ g. false)
      (λ g. was_free (object_at m child.0 g) (object_at m owner g) (h child.0 g unborn))
      p fd)
    where
      unborn : is_unborn_process m child.0 ≡ true
      unborn = go (is_unborn_process m child.0) refl (not_held [] (refused_where (not (is_unborn_process m child.0)) EAGAIN) [] f)
        where
          go : (b : Bool) → is_unborn_process m child.0 ≡ b → not b ≡ false → b ≡ true
          go true e g = refl
          go false e g = cc

  effect_leaves : UnbornHaveNoRows m → (r : Request) → IsFree m t r → Leaves (closed_by m t owner r) (effect m t owner r)
  effect_leaves h (request.Create entry cookie attrs) f = filled m owner (Some (obj.Door (length m.doors + 1))) (not_held (_ ∷ []) _ [] f)
  effect_leaves h (request.Call fd bytes pass rsize) f = released_some m owner pass
  effect_leaves h (request.Return bytes pass) f = return_leaves bytes pass
  effect_leaves h (request.Revoke fd) f = closed_one m owner fd
  effect_leaves h (request.Close fd) f = closed_one m owner fd
  effect_leaves h (request.Dup fd) f = filled m owner (object_at m owner fd) (not_held (_ ∷ []) _ [] f)
  effect_leaves h (request.Open path) f = filled m owner (Some (obj.Door (door_attached (name_of m path)))) (not_held (_ ∷ []) _ [] f)
  effect_leaves h (request.Await path) f = await_leaves path (name_of m path)
  effect_leaves h (request.Kill p) f = kill_leaves p.0
  effect_leaves h request.Exit f = exit_leaves
  effect_leaves h (request.Fork child) f = fork_leaves child h f
  effect_leaves h request.Pipe f = filled_some m owner (obj.PipeIn (length m.channels.pipes + 1) ∷ obj.PipeOut (length m.channels.pipes + 1) ∷ []) (two_free f)
  effect_leaves h request.PortCreate f = filled m owner (Some (obj.Port (length m.channels.ports + 1))) (not_held [] _ [] f)
  effect_leaves h (request.Get fd wait) f = get_leaves (port_at m owner fd) 1 1 true
  effect_leaves h (request.GetN fd max nget wait) f = get_many_leaves fd max nget
  effect_leaves h r f = unchanged m owner

  waited_leaves : (a : ActResult) → Moves m t None a → Leaves Closing.nothing a
  waited_leaves a (Moves.enters r g room) = filled_some m owner r.objects (grind (arith, nat_tests))
  waited_leaves a (Moves.collects c g) = collected m owner (objects_collected_in (find_call m (is_to_collect_as c)))
  waited_leaves a x = unchanged m owner

  -- a row that the act closes names nothing after it, and another that was open names what it named
  pub act_leaves :
      UnbornHaveNoRows m → (q : Option Request) (p : ℕ) (fd : Fd) →
      IsRowAfter (closes m t q p fd) (object_at m p fd) (object_at (act m t q).state p fd)
  act_leaves h None p fd = waited_leaves (act m t None) (act_moves m t None) p fd
  act_leaves h (Some r) p fd = go (refusal_of m t owner r) refl
    where
      go :
          (o : Option Errno) → refusal_of m t owner r ≡ o →
          IsRowAfter (is_closed (closed_by m t owner r) p fd && is_none o) (object_at m p fd)
          (object_at (unless_refused m o (effect m t owner r)).state p fd)
      go (Some e) f = refused (is_closed (closed_by m t owner r) p fd) (object_at m p fd)
      go None f = acted (is_closed (closed_by m t owner r) p fd) _ _ (effect_leaves h r f p fd)
