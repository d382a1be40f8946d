-- Changed objects, as they are listed.
use Rattle.std.proofs.Common.{◌≡◌, ℕ, ◌+◌, ◌<◌, ◌==◌, ◌||◌, Bool, true, false, List, [], ◌∷◌, ◌++◌, get_or, length, take, refl, sym, ap, ap₂, ◌∙◌, arith}
use Rattle.std.proofs.lemmas.Bool.Decides.{nat_tests}
use Rattle.std.proofs.lemmas.List.Folds.{list_any-append, list_any_at, list_any_more}
use Rattle.std.specs.List.{list_any}
use Rattle.dk_base.specs.declared.object.Obj.{Obj}
use Rattle.dk_base.specs.declared.object.Obj.TheVariants as obj
use Rattle.spec_records.specs.declared.association.Association.{Association}
use Rattle.spec_records.specs.Words.{is_object}
use Rattle.kernel_ports.specs.declared.changed.Changed.{Changed}
use Rattle.kernel_ports.specs.Firing.{is_watched_among, is_watched_by}
use Rattle.kernel_ports.specs.Ready.{other_end}

pub or_false : (b : Bool) → (b || false) ≡ b
or_false true = refl
or_false false = refl

pub or_more : (a b c : Bool) → ((a || b) || c) ≡ (a || (b || c))
or_more true b c = refl
or_more false b c = refl

pub watched_more : (cs : List Changed) (c : Changed) (a : Association) → is_watched_among (cs ++ c ∷ []) a ≡ (is_watched_among cs a || is_object c.object a.object)
watched_more cs c a = list_any-append (is_watched_by a) cs (c ∷ []) ∙ ap (λ b. is_watched_among cs a || b) (or_false (is_object c.object a.object))

either_way : (m n : ℕ) → (m == n) ≡ (n == m)
either_way m n = grind (arith, nat_tests)

pub same_itself : (o : Obj) → is_object o o ≡ true
same_itself (obj.Door d) = grind (arith, nat_tests)
same_itself (obj.Port p) = grind (arith, nat_tests)
same_itself (obj.PipeIn p) = grind (arith, nat_tests)
same_itself (obj.PipeOut p) = grind (arith, nat_tests)

pub other_back : (o : Obj) → other_end (other_end o) ≡ o
other_back (obj.Door d) = refl
other_back (obj.Port p) = refl
other_back (obj.PipeIn p) = refl
other_back (obj.PipeOut p) = refl

other_way : (o g : Obj) → is_object (other_end g) o ≡ is_object (other_end o) g
other_way (obj.Door a) (obj.Door b) = either_way _ _
other_way (obj.Port a) (obj.Port b) = either_way _ _
other_way (obj.PipeIn a) (obj.PipeOut b) = either_way _ _
other_way (obj.PipeOut a) (obj.PipeIn b) = either_way _ _
other_way (obj.Door a) (obj.Port b) = refl
other_way (obj.Door a) (obj.PipeIn b) = refl
other_way (obj.Door a) (obj.PipeOut b) = refl
other_way (obj.Port a) (obj.Door b) = refl
other_way (obj.Port a) (obj.PipeIn b) = refl
other_way (obj.Port a) (obj.PipeOut b) = refl
other_way (obj.PipeIn a) (obj.Door b) = refl
other_way (obj.PipeIn a) (obj.Port b) = refl
other_way (obj.PipeIn a) (obj.PipeIn b) = refl
other_way (obj.PipeOut a) (obj.Door b) = refl
other_way (obj.PipeOut a) (obj.Port b) = refl
other_way (obj.PipeOut a) (obj.PipeOut b) = refl

-- an object is the other end of one of these
abbrev pub is_other_of : Obj → Obj → Bool
is_other_of o g = is_object (other_end g) o

pub others_among : (o : Obj) (gone : List Obj) → list_any (is_other_of o) gone ≡ list_any (is_object (other_end o)) gone
others_among o [] = refl
others_among o (g ∷ gs) = ap₂ (λ x y. x || y) (other_way o g) (others_among o gs)

-- one more of those that have no references is listed by its other end

module _ (gone : List Obj) (i : ℕ) (d e : Obj) (lt : i < length gone) (is : e ≡ other_end (get_or gone i d)) where
  pub next_none : (refs : Obj → ℕ) → ((o : Obj) → list_any (is_object o) gone ≡ true → refs o ≡ 0) → refs (other_end e) ≡ 0
  next_none refs h =
      let g = get_or gone i d in ap refs (ap other_end is ∙ other_back g) ∙ h g (list_any_at (is_object g) gone i d lt (same_itself g))

  pub next_watched :
      (o : Obj) (x y z : Bool) → z ≡ (y || is_object e o) → y ≡ (x || list_any (is_other_of o) (take i gone)) →
      z ≡ (x || list_any (is_other_of o) (take (i + 1) gone))
  next_watched o x y z more before =
      more
      ∙ ap₂ (λ b p. b || is_object p o) before is
      ∙ or_more x (list_any (is_other_of o) (take i gone)) (is_other_of o (get_or gone i d))
      ∙ ap (λ b. x || b) (sym (list_any_more (is_other_of o) gone i d lt))
