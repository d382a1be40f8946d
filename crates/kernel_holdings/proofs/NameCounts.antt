-- How often names name a door, with one name fewer.
use Rattle.std.proofs.Common.{◌≡◌, ℕ, ◌+◌, ◌-◌, ◌≤◌, ◌==◌, not, Bool, true, false, cond, nat_eq, List, [], ◌∷◌, Option, Some, None, Ok, ok_or, option_map, map, refl, ap, ◌∙◌, arith}
use Rattle.std.proofs.lemmas.Bool.Decides.{nat_tests}
use Rattle.std.proofs.lemmas.Map.Keys.{IsDistinct-head, IsDistinct-tail}
use Rattle.std.specs.List.{AllByRecursion}
use Rattle.dk_base.specs.declared.error.Errno.{Errno}
use Rattle.dk_base.specs.declared.number.PathId.{PathId}
use Rattle.dk_base.specs.declared.object.Obj.TheVariants as obj
use Rattle.spec_records.specs.Words.{count_object, has_path, name_in, without_name}
use Rattle.spec_kernel.specs.Types.{Call, Name, Obj}
use Rattle.spec_kernel.specs.Words.{named_object}
use Rattle.name_space.specs.Words.{HaveDistinctPaths, attached_door, door_of_name, path_number}
use Rattle.unref_notice.specs.Words.{ObjectCounts, count_of}
use Rattle.kernel_holdings.specs.Words.{IsCountOf}
use Rattle.kernel_holdings.proofs.Referring.{count_object-cons, references_to-parts}

-- of one object, among what names name
abbrev named : Obj → List Name → ℕ
named o ns = count_object o (map named_object ns)

named-cons : (o : Obj) (n : Name) (ns : List Name) → named o (n ∷ ns) ≡ count_object o (obj.Door n.door ∷ []) + named o ns
named-cons o n ns = count_object-cons o (named_object n) (map named_object ns)

-- names of other paths all stay
all_kept :
    (path : PathId) (k : ℕ) → (k == path.0) ≡ true → (ns : List Name) → AllByRecursion (λ q. nat_eq k q ≡ false) (map path_number ns) →
    without_name ns path ≡ ns
all_kept path k h [] d = refl
all_kept path k h (n ∷ ns) d =
    let apart : (n.path.0 == path.0) ≡ false = grind (arith, nat_tests, d.0, h) in
    ap (λ b. cond (not b) (n ∷ without_name ns path) (without_name ns path)) apart ∙ ap (λ l. n ∷ l) (all_kept path k h ns d.1)

-- with no path twice, one name fewer is one fewer of its door
without_one :
    (o : Obj) (path : PathId) (door : ℕ) (ns : List Name) → HaveDistinctPaths ns → attached_door ns path ≡ Some door →
    named o (without_name ns path) + count_object o (obj.Door door ∷ []) ≡ named o ns
without_one o path door [] d e = cc
without_one o path door (n ∷ ns) d e =
    go (has_path path n) refl e (without_one o path door ns (IsDistinct-tail nat_eq n.path.0 (map path_number ns) d))
  where
    go :
        (b : Bool) → has_path path n ≡ b → option_map door_of_name (cond b (Some n) (name_in ns path)) ≡ Some door →
        (attached_door ns path ≡ Some door → named o (without_name ns path) + count_object o (obj.Door door ∷ []) ≡ named o ns) →
        named o (cond (not b) (n ∷ without_name ns path) (without_name ns path)) + count_object o (obj.Door door ∷ []) ≡ named o (n ∷ ns)
    go true h e ih =
        let same : n.door ≡ door = cc in
        let kept = all_kept path n.path.0 h ns (IsDistinct-head nat_eq n.path.0 (map path_number ns) d) in
        omega (arith, ap (named o) kept, named-cons o n ns, ap (λ k. count_object o (obj.Door k ∷ [])) same)
    go false h e ih = omega (arith, ih e, named-cons o n (without_name ns path), named-cons o n ns)

-- a door that is attached is named
pub attached_within :
    (o : Obj) (path : PathId) (door : ℕ) (ns : List Name) → attached_door ns path ≡ Some door →
    count_object o (obj.Door door ∷ []) ≤ named o ns
attached_within o path door [] e = cc
attached_within o path door (n ∷ ns) e = go (has_path path n) e (attached_within o path door ns)
  where
    go :
        (b : Bool) → option_map door_of_name (cond b (Some n) (name_in ns path)) ≡ Some door →
        (attached_door ns path ≡ Some door → count_object o (obj.Door door ∷ []) ≤ named o ns) →
        count_object o (obj.Door door ∷ []) ≤ named o (n ∷ ns)
    go true e ih =
        let same : n.door ≡ door = cc in
        omega (arith, named-cons o n ns, ap (λ k. count_object o (obj.Door k ∷ [])) same)
    go false e ih = omega (arith, ih e, named-cons o n ns)

pub found_door : (x : Option ℕ) (error : Errno) (door : ℕ) → Ok door ≡ ok_or x error → x ≡ Some door
found_door None error door e = cc
found_door (Some n) error door e = cc

module _ (counts : ObjectCounts) (tables : List (List (Option Obj))) (names : List Name) (calls : List Call) (held : IsCountOf counts tables names calls) where
  -- a door that is detached has one reference fewer
  pub name_fewer :
      (lowered : ObjectCounts) (path : PathId) (error : Errno) (door : ℕ) → HaveDistinctPaths names → Ok door ≡ ok_or (attached_door names path) error →
      ((o : Obj) → count_of lowered o ≡ count_of counts o - count_object o (obj.Door door ∷ [])) →
      IsCountOf lowered tables (without_name names path) calls
  name_fewer lowered path error door distinct found down = λ o.
      omega (
        arith,
        held o,
        down o,
        without_one o path door names distinct (found_door (attached_door names path) error door found),
        references_to-parts tables names calls o,
        references_to-parts tables (without_name names path) calls o,
      )
