-- What an act leaves of pipes and of associations.
use Rattle.std.specs.Prelude.{ℕ, ◌≡◌, ◌+◌, ◌≤◌, length, List, [], ◌∷◌, Option, Bool, true, false, Some, None, is_none, filter, All, Contains}
use Rattle.std.proofs.Common.{refl, sym, ap, subst, ◌∙◌}
use native.Mathlib.Omega.{arith}
use Rattle.std.proofs.lemmas.Bool.Decides.{nat_tests}
use Rattle.std.proofs.lemmas.List.Elements.{All-contains_itself, All-filter, All-push, All-weaker}
use Rattle.spec_kernel.specs.Types.{Answer, Fd, Obj, Request}
use Rattle.dk_base.specs.declared.error.Errno.TheVariants.{EBADFD}
use Rattle.dk_base.specs.declared.object.Obj.TheVariants as obj
use Rattle.spec_records.specs.declared.association.Association.{Association}
use Rattle.spec_records.specs.Words.{AssociationList, associations_of, bytes_of, events_found, has_other_key, has_other_number, is_number, is_this_object, new_association, object_named, port_of, read_pipe, refused_where, retrieve_association, retrieve_associations, table_in, without_oldest, write_pipe, written}
use Rattle.spec_kernel.specs.Words.{ActResult, Channels, State, act, associations_in, held_in, key_at, object_at, pipe_at, port_at, port_tests, process_of, settle_pools, watched}
use Rattle.spec_kernel.proofs.Moves.{IsMaking, IsPassing, Moves, act_moves}
use Rattle.spec_kernel.proofs.Refusals.{not_held}
use Rattle.spec_kernel.proofs.Settling.{channels-settle_pools, processes-settle_pools, settle_pools-alone}
use Rattle.law_channels.proofs.Rows.{IsRowAfter}
use Rattle.law_channels.specs.Closed.{closes}
use Rattle.law_channels.specs.Changed.{Changes, IsAfterAct, IsMade, Stands, UnbornHaveNoRows, readied, touched_pipe}
use Rattle.law_channels.specs.Ends.{HasNoMore}
use Rattle.law_channels.proofs.Closed.{act_leaves}
use Rattle.law_channels.proofs.Pipes.{holds_less, holds_more, made_bytes, other_bytes}

-- rows

kept_row : (c : Bool) (r s : Option Obj) (o : Obj) → IsRowAfter c r s → r ≡ Some o → c ≡ false → s ≡ Some o
kept_row false r s o h e f = subst (λ z. IsRowAfter false z s) e h
kept_row true r s o h e f = cc

gone_row : (c : Bool) (r s : Option Obj) → IsRowAfter c r s → c ≡ true → s ≡ None
gone_row true r s h f = h
gone_row false r s h f = cc

same_row : (c : Bool) (r s : Option Obj) (o x : Obj) → IsRowAfter c r s → r ≡ Some o → s ≡ Some x → x ≡ o
same_row true r s o x h e f = cc
same_row false r s o x h e f = let there : s ≡ Some o = subst (λ z. IsRowAfter false z s) e h in cc

-- pipes

module _ (m : State) (t : ℕ) where
  abbrev Holds : Option Request → Channels → Type 0
  Holds q c = (k : ℕ) → is_number k (touched_pipe m t q) ≡ false → held_in (record m { channels = c }) k ≡ held_in m k

  passing_bytes : (r : Request) (c : Channels) (a : Answer) → IsPassing m t r c a → Holds (Some r) c
  passing_bytes r c a (IsPassing.writes fd bytes f) k e = other_bytes m.channels.pipes (pipe_at m (process_of m t) fd) k (written bytes) e
  passing_bytes r c a (IsPassing.reads fd max f) k e = other_bytes m.channels.pipes (pipe_at m (process_of m t) fd) k (without_oldest max) e
  passing_bytes r c a x k e = refl

  move_bytes : (q : Option Request) (a : ActResult) → Moves m t q a → Holds q a.state.channels
  move_bytes q a (Moves.passes r c x p) k e = passing_bytes r c x p k e
  move_bytes q a (Moves.makes_channel r c objects x (IsMaking.makes_pipe f)) k e = made_bytes m.channels.pipes k
  move_bytes q a (Moves.makes_channel r c objects x (IsMaking.makes_port f)) k e = refl
  move_bytes q a x k e = refl

  -- who has more to read, or more room

  abbrev Readies : Option Request → Channels → Type 0
  Readies q c = (o : Obj) → is_this_object o (readied m t q) ≡ false → HasNoMore m.channels.pipes c.pipes o

  as_long : (held later : List ℕ) → later ≡ held → (length later ≤ length held) × (length held ≤ length later)
  as_long held later e = (omega (arith, ap length e), omega (arith, ap length e))

  same_more : (c : Channels) → ((k : ℕ) → bytes_of c.pipes k ≡ bytes_of m.channels.pipes k) → (o : Obj) → HasNoMore m.channels.pipes c.pipes o
  same_more c h (obj.PipeIn k) = (as_long (bytes_of m.channels.pipes k) (bytes_of c.pipes k) (h k)).0
  same_more c h (obj.PipeOut k) = (as_long (bytes_of m.channels.pipes k) (bytes_of c.pipes k) (h k)).1
  same_more c h (obj.Door k) = tt
  same_more c h (obj.Port k) = tt

  write_more :
      (p : ℕ) (bytes : List ℕ) (o : Obj) → is_this_object o (Some (obj.PipeIn p)) ≡ false →
      HasNoMore m.channels.pipes (write_pipe m.channels.pipes p bytes) o
  write_more p bytes (obj.PipeIn k) e =
      (as_long (bytes_of m.channels.pipes k) (bytes_of (write_pipe m.channels.pipes p bytes) k)
      (other_bytes m.channels.pipes p k (written bytes) (grind (arith, nat_tests)))).0
  write_more p bytes (obj.PipeOut k) e = holds_more m.channels.pipes p k bytes
  write_more p bytes (obj.Door k) e = tt
  write_more p bytes (obj.Port k) e = tt

  read_more :
      (p max : ℕ) (o : Obj) → is_this_object o (Some (obj.PipeOut p)) ≡ false →
      HasNoMore m.channels.pipes (read_pipe m.channels.pipes p max) o
  read_more p max (obj.PipeIn k) e = holds_less m.channels.pipes p k max
  read_more p max (obj.PipeOut k) e =
      (as_long (bytes_of m.channels.pipes k) (bytes_of (read_pipe m.channels.pipes p max) k)
      (other_bytes m.channels.pipes p k (without_oldest max) (grind (arith, nat_tests)))).1
  read_more p max (obj.Door k) e = tt
  read_more p max (obj.Port k) e = tt

  passing_more : (r : Request) (c : Channels) (a : Answer) → IsPassing m t r c a → Readies (Some r) c
  passing_more r c a (IsPassing.writes fd bytes f) o e = write_more (pipe_at m (process_of m t) fd) bytes o e
  passing_more r c a (IsPassing.reads fd max f) o e = read_more (pipe_at m (process_of m t) fd) max o e
  passing_more r c a x o e = same_more c (λ k. refl) o

  move_more : (q : Option Request) (a : ActResult) → Moves m t q a → Readies q a.state.channels
  move_more q a (Moves.passes r c x p) o e = passing_more r c x p o e
  move_more q a (Moves.makes_channel r c objects x (IsMaking.makes_pipe f)) o e = same_more c (made_bytes m.channels.pipes) o
  move_more q a (Moves.makes_channel r c objects x (IsMaking.makes_port f)) o e = same_more c (λ k. refl) o
  move_more q a x o e = same_more m.channels (λ k. refl) o

-- what an act changes

pub row_after :
    (m : State) (t : ℕ) (q : Option Request) (n : State) → UnbornHaveNoRows m → IsAfterAct m t q n → (p : ℕ) (fd : Fd) →
    IsRowAfter (closes m t q p fd) (object_at m p fd) (object_at n p fd)
row_after m t q n u h p fd =
    subst (λ tables. IsRowAfter (closes m t q p fd) (object_at m p fd) (object_named (table_in tables p) fd)) (sym h.tables) (act_leaves m t u q p fd)

pub changes : (m : State) (t : ℕ) (q : Option Request) (n : State) → UnbornHaveNoRows m → IsAfterAct m t q n → Changes m t q n
changes m t q n u h =
    record {
      kept = λ p fd o e f. kept_row (closes m t q p fd) _ _ o (row_after m t q n u h p fd) e f;
      gone = λ p fd f. gone_row (closes m t q p fd) _ _ (row_after m t q n u h p fd) f;
      same = λ p fd o x e f. same_row (closes m t q p fd) _ _ o x (row_after m t q n u h p fd) e f;
      bytes = λ k e. ap (λ (c : Channels). held_in (record m { channels = c }) k) h.channels ∙ move_bytes m t q (act m t q) (act_moves m t q) k e;
      no_more = λ o e. subst (λ (c : Channels). HasNoMore m.channels.pipes c.pipes o) (sym h.channels) (move_more m t q (act m t q) (act_moves m t q) o e);
    }

pub act_is_after : (m : State) (t : ℕ) (q : Option Request) → IsAfterAct m t q (act m t q).state
act_is_after m t q = record { processes = refl; tables = refl; channels = refl }

pub pools_are_after : (m : State) (t : ℕ) (q : Option Request) → IsAfterAct m t q (settle_pools m (act m t q).state)
pools_are_after m t q =
    record {
      processes = processes-settle_pools m (act m t q).state;
      tables = ap (λ (n : State). n.tables) (settle_pools-alone m (act m t q).state);
      channels = channels-settle_pools m (act m t q).state;
    }

-- associations

watched_there : (r : Option Obj) → is_none r ≡ false → r ≡ Some (watched r)
watched_there None e = absurd (cc e)
watched_there (Some o) e = refl

module _ (P : Association → Type 0) where
  left_all : (ns : List ℕ) (list : AssociationList) → All P list.associations → All P (retrieve_associations list ns).associations
  left_all [] list h = h
  left_all (n ∷ ns) list h = left_all ns (retrieve_association list n) (All-filter (has_other_number n) P list.associations h)

  module _ (m : State) (t : ℕ) (all : All P (associations_in m)) where
    passing_all :
        (r : Request) (c : Channels) (a : Answer) → IsPassing m t r c a → ((b : Association) → IsMade m t (Some r) b → P b) →
        All P c.associations.associations
    passing_all r c a (IsPassing.gets fd wait f g) h =
        left_all (associations_of (events_found 1 (port_of m.channels.ports (port_at m (process_of m t) fd)))) m.channels.associations all
    passing_all r c a (IsPassing.gets_many fd max nget wait f z g) h =
        left_all (associations_of (events_found max (port_of m.channels.ports (port_at m (process_of m t) fd)))) m.channels.associations all
    passing_all r c a (IsPassing.dissociates port object f) h =
        All-filter (has_other_key (key_at m (process_of m t) port object)) P (associations_in m) all
    passing_all r c a (IsPassing.associates port object events user f) h =
        All-push P (filter (has_other_key (key_at m (process_of m t) port object)) (associations_in m)) new
        (All-filter (has_other_key (key_at m (process_of m t) port object)) P (associations_in m) all)
        (h new
        (record {
          port = port;
          object = object;
          events = events;
          user = user;
          asked = refl;
          not_refused = f;
          names =
              watched_there (object_at m (process_of m t) object)
              (not_held (port_tests (object_at m (process_of m t) port)) (refused_where (is_none (object_at m (process_of m t) object)) EBADFD) [] f);
          made = refl;
        }))
      where
        new : Association
        new =
            new_association (m.channels.associations.made + 1) (key_at m (process_of m t) port object) (watched (object_at m (process_of m t) object))
            events user
    passing_all r c a x h = all

    move_all : (q : Option Request) (a : ActResult) → Moves m t q a → ((b : Association) → IsMade m t q b → P b) → All P (associations_in a.state)
    move_all q a (Moves.passes r c x p) h = passing_all r c x p h
    move_all q a (Moves.retrieves port max nget one p) h =
        left_all (associations_of (events_found max (port_of m.channels.ports port))) m.channels.associations all
    move_all q a (Moves.makes_channel r c objects x (IsMaking.makes_pipe f)) h = all
    move_all q a (Moves.makes_channel r c objects x (IsMaking.makes_port f)) h = all
    move_all q a x h = all

    -- what holds of all that stood and of the one that is made holds of all after the act
    pub act_all :
        (q : Option Request) (n : State) → IsAfterAct m t q n → ((b : Association) → IsMade m t q b → P b) → All P (associations_in n)
    act_all q n k h =
        subst (λ (c : Channels). All P c.associations.associations) (sym k.channels) (move_all q (act m t q) (act_moves m t q) h)

pub stand : (m : State) (t : ℕ) (q : Option Request) (n : State) → IsAfterAct m t q n → All (Stands m t q) (associations_in n)
stand m t q n k =
    act_all (Stands m t q) m t
    (All-weaker (Contains (associations_in m)) (Stands m t q) (λ a. Stands.stood) (associations_in m) (All-contains_itself (associations_in m)))
    q n k (λ b. Stands.is_new)
