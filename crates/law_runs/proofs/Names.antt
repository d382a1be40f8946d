-- What a path has before and after an event.
use Rattle.std.specs.Prelude.{ℕ, ◌≡◌, ◌+◌, ◌==◌, List, [], ◌∷◌, ◌++◌, Option, Bool, true, false, if◌then◌else◌, not, Some, None, is_none, is_some, slice_get}
use Rattle.std.specs.Option.{option_or}
use Rattle.std.proofs.Common.{refl, sym, ap, subst, ◌∙◌}
use native.Mathlib.Omega.{arith}
use Rattle.std.proofs.lemmas.Bool.Decides.{nat_tests}
use Rattle.std.proofs.lemmas.List.Folds.{find-append}
use Rattle.spec_kernel.specs.Types.{Fd, Name, Obj, PathId, Request}
use Rattle.dk_base.specs.declared.error.Errno.TheVariants.{EBADF, EBUSY, EINVAL}
use Rattle.dk_base.specs.declared.object.Obj.TheVariants as obj
use Rattle.dk_base.specs.declared.request.Request.TheVariants as request
use Rattle.dk_base.specs.declared.answer.Answer.TheVariants as answer
use Rattle.spec_records.specs.Words.{has_path, name_in, refused_where, with_name, without_name}
use Rattle.spec_kernel.specs.Words.{ActResult, State, Turn, act, door_named, effect, is_door, name_of, object_at, state_at, step, process_of, unless_refused}
use Rattle.spec_kernel.proofs.Moves.{IsFree, IsNaming, Moves, act_moves}
use Rattle.spec_kernel.proofs.Settling.{names-settle}
use Rattle.law_runs.specs.Names.{Attaches, IsAttached, NameChange, Names}
use Rattle.law_places.specs.Places.{answer_at, process_at}
use Rattle.law_places.proofs.Known.{Known, next}
use Rattle.law_runs.proofs.RowChanges.{answers}
use Rattle.law_runs.proofs.Tables.{not_refused}
use Rattle.spec_kernel.proofs.Refusals.{not_held}

same_path : (a b : PathId) → (b.0 == a.0) ≡ true → a ≡ b
same_path a b e = ap (λ (n : ℕ). record { 0 = n }) (grind (arith, nat_tests))

or_none : (o : Option Name) → option_or o None ≡ o
or_none None = refl
or_none (Some n) = refl

is_none_of : (o : Option Name) → is_some o ≡ false → o ≡ None
is_none_of None e = refl
is_none_of (Some n) e = absurd (cc e)

door_is : (o : Option Obj) → not (is_door o) ≡ false → o ≡ Some (obj.Door (door_named o))
door_is (Some (obj.Door d)) e = refl
door_is _ e = absurd (cc e)

-- a name that is added, and one that is taken away

added : (names : List Name) (n : Name) (path : PathId) → has_path path n ≡ false → name_in (names ++ n ∷ []) path ≡ name_in names path
added names n path e =
    find-append (has_path path) names (n ∷ [])
    ∙ ap (λ (b : Bool). option_or (name_in names path) (if b then Some n else None)) e
    ∙ or_none (name_in names path)

added_here :
    (names : List Name) (n : Name) (path : PathId) → has_path path n ≡ true → name_in names path ≡ None → name_in (names ++ n ∷ []) path ≡ Some n
added_here names n path e f =
    find-append (has_path path) names (n ∷ [])
    ∙ ap (λ (b : Bool). option_or (name_in names path) (if b then Some n else None)) e
    ∙ ap (λ o. option_or o (Some n)) f

gone : (names : List Name) (path : PathId) → name_in (without_name names path) path ≡ None
gone [] path = refl
gone (n ∷ names) path = go (has_path path n) refl (gone names path)
  where
    go :
        (b : Bool) → has_path path n ≡ b → name_in (without_name names path) path ≡ None →
        name_in (if not b then n ∷ without_name names path else without_name names path) path ≡ None
    go true e ih = ih
    go false e ih = ap (λ (b : Bool). if b then Some n else name_in (without_name names path) path) e ∙ ih

kept : (names : List Name) (path other : PathId) → (path.0 == other.0) ≡ false → name_in (without_name names path) other ≡ name_in names other
kept [] path other e = refl
kept (n ∷ names) path other e = go (has_path path n) refl (kept names path other e)
  where
    go :
        (b : Bool) → has_path path n ≡ b → name_in (without_name names path) other ≡ name_in names other →
        name_in (if not b then n ∷ without_name names path else without_name names path) other ≡ name_in (n ∷ names) other
    go true f ih =
        let apart : has_path other n ≡ false = grind (arith, nat_tests, e, f) in
        ih ∙ sym (ap (λ (b : Bool). if b then Some n else name_in names other) apart)
    go false f ih = ap (λ z. if has_path other n then Some n else z) ih

-- an event leaves the names that its act leaves

names-step : (m : State) (t : ℕ) (q : Option Request) → (step m t q).state.names ≡ (act m t q).state.names
unfolding step
names-step m t q = names-settle m (act m t q).state

names-effect :
    (m : State) (t : ℕ) (r : Request) → IsFree m t r → (step m t (Some r)).state.names ≡ (effect m t (process_of m t) r).state.names
names-effect m t r f =
    names-step m t (Some r) ∙ ap (λ o. (unless_refused m o (effect m t (process_of m t) r)).state.names) f

module _ (m : State) (xs : List Turn) (k : Known m xs) (i : ℕ) (x : Turn) (e : slice_get xs i ≡ Some x) where
  abbrev before : State
  before = state_at m xs i

  abbrev new : Fd → PathId → Name
  new fd path = record { path = path; door = door_named (object_at (state_at m xs i) (process_at m xs i x.thread) fd) }

  attaches :
      (fd : Fd) (path : PathId) → IsFree (state_at m xs i) x.thread (request.Attach fd path) → x.request ≡ Some (request.Attach fd path) →
      Attaches m xs i x path (new fd path)
  attaches fd path f g =
      record {
        fd = fd;
        asked = g;
        named =
            door_is (object_at (state_at m xs i) (process_at m xs i x.thread) fd)
            (not_held (_ ∷ []) _ (_ ∷ []) f);
      }

  was_free : (fd : Fd) (path : PathId) → IsFree (state_at m xs i) x.thread (request.Attach fd path) → name_of (state_at m xs i) path ≡ None
  was_free fd path f =
      is_none_of (name_of (state_at m xs i) path)
      (not_held
      (refused_where (is_none (object_at (state_at m xs i) (process_at m xs i x.thread) fd)) EBADF
      ∷ refused_where (not (is_door (object_at (state_at m xs i) (process_at m xs i x.thread) fd))) EINVAL ∷ [])
      (refused_where (is_some (name_of (state_at m xs i) path)) EBUSY) [] f)

  there :
      (fd : Fd) (path : PathId) → IsFree (state_at m xs i) x.thread (request.Attach fd path) →
      name_in (with_name (state_at m xs i).names path (new fd path).door) path ≡ Some (new fd path)
  there fd path f = added_here (state_at m xs i).names (new fd path) path (grind (arith, nat_tests)) (was_free fd path f)

  change_as : (path : PathId) (a b c d : Option Name) → a ≡ b → c ≡ d → NameChange m xs i x path b d → NameChange m xs i x path a c
  change_as path a b c d f g h =
      subst (λ z. NameChange m xs i x path z c) (sym f) (subst (λ z. NameChange m xs i x path b z) (sym g) h)

  act_names :
      (q : Option Request) (a : ActResult) (other : PathId) → Moves (state_at m xs i) x.thread q a → x.request ≡ q → answer_at m xs i x ≡ a.answer →
      NameChange m xs i x other (name_of (state_at m xs i) other) (name_in a.state.names other)
  act_names q a other (Moves.nothing y s) g h = NameChange.stays
  act_names q a other (Moves.names r names (IsNaming.attaches fd path f)) g h = go (path.0 == other.0) refl
    where
      go : (b : Bool) → (path.0 == other.0) ≡ b → NameChange m xs i x other (name_of (state_at m xs i) other) (name_in names other)
      go true l =
          subst (λ z. NameChange m xs i x z (name_of (state_at m xs i) z) (name_in names z)) (sym (same_path other path l))
          (change_as path _ None _ (Some (new fd path)) (was_free fd path f) (there fd path f)
          (NameChange.attached (new fd path) (attaches fd path f g) h))
      go false l = change_as other _ _ _ _ refl (added (state_at m xs i).names (new fd path) other l) NameChange.stays
  act_names q a other (Moves.names r names (IsNaming.detaches path f)) g h = go (path.0 == other.0) refl
    where
      by : (o : Option Name) → name_of (state_at m xs i) path ≡ o → NameChange m xs i x path (name_of (state_at m xs i) path) None
      by None l = change_as path _ None None None l refl NameChange.stays
      by (Some n) l = change_as path _ (Some n) None None l refl (NameChange.detached n g h)

      go : (b : Bool) → (path.0 == other.0) ≡ b → NameChange m xs i x other (name_of (state_at m xs i) other) (name_in names other)
      go true l =
          subst (λ z. NameChange m xs i x z (name_of (state_at m xs i) z) (name_in names z)) (sym (same_path other path l))
          (change_as path _ _ _ None refl (gone (state_at m xs i).names path) (by (name_of (state_at m xs i) path) refl))
      go false l = change_as other _ _ _ _ refl (kept (state_at m xs i).names path other l) NameChange.stays
  act_names q a other _ g h = NameChange.stays

  each : (path : PathId) → NameChange m xs i x path (name_of (state_at m xs i) path) (name_of (state_at m xs (i + 1)) path)
  each path =
      change_as path _ _ _ _ refl
      (ap (λ (n : State). name_in n.names path) (next m xs k i x e) ∙ ap (λ ns. name_in ns path) (names-step (state_at m xs i) x.thread x.request))
      (act_names x.request _ path (act_moves (state_at m xs i) x.thread x.request) refl (answers (state_at m xs i) x.thread x.request))

  names_of : (r : Request) → x.request ≡ Some r → IsFree (state_at m xs i) x.thread r → (state_at m xs (i + 1)).names ≡ (effect (state_at m xs i) x.thread (process_at m xs i x.thread) r).state.names
  names_of r f g =
      ap (λ (n : State). n.names) (next m xs k i x e)
      ∙ ap (λ q. (step (state_at m xs i) x.thread q).state.names) f
      ∙ names-effect (state_at m xs i) x.thread r g

  free : (r : Request) → x.request ≡ Some r → answer_at m xs i x ≡ answer.Done → IsFree (state_at m xs i) x.thread r
  free r f g = not_refused (state_at m xs i) x.thread x.request r answer.Done f g (λ y h. cc)

  attached :
      (fd : Fd) (path : PathId) → x.request ≡ Some (request.Attach fd path) → answer_at m xs i x ≡ answer.Done → IsAttached m xs i x path
  attached fd path f g =
      let h : IsFree (state_at m xs i) x.thread (request.Attach fd path) = free (request.Attach fd path) f g in
      record {
        name = new fd path;
        attaches = attaches fd path h f;
        there = ap (λ ns. name_in ns path) (names_of (request.Attach fd path) f h) ∙ there fd path h;
      }

  detached : (path : PathId) → x.request ≡ Some (request.Detach path) → answer_at m xs i x ≡ answer.Done → name_of (state_at m xs (i + 1)) path ≡ None
  detached path f g =
      ap (λ ns. name_in ns path) (names_of (request.Detach path) f (free (request.Detach path) f g)) ∙ gone (state_at m xs i).names path

pub names_hold : (m : State) (xs : List Turn) → Known m xs → Names m xs
names_hold m xs k =
    record {
      each = λ i x path e. each m xs k i x e path;
      attached = λ i x fd path e. attached m xs k i x e fd path;
      detached = λ i x path e. detached m xs k i x e path;
    }
