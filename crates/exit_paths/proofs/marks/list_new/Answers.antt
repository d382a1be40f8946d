use Rattle.std.proofs.Common.{◌≡◌, ◌&&◌, ◌++◌, Bool, true, false, ap, ap₂, map, not, refl, ◌∙◌, arith}
use Rattle.dk_base.specs.declared.limits.TheConstants.{THREADS_MAX}
use Rattle.spec_records.specs.Words.{tid}
use Rattle.dk_base.proofs.NumbersWhere.{numbers_where-same}
use Rattle.exit_paths.proofs.Walked.{few_members, members_are}
use Rattle.dk_base.specs.ThreadSets.{members}
use Rattle.exit_paths.proofs.marks.list_new.Goals as goal

pub list-requires : goal.list-requires
list-requires c = omega (arith, few_members c.without.result, c.requires.spare)

pub returns : goal.returns
returns c = λ was is a b.
    c.into_list.ensures ∙ c.list.ensures ∙ ap (λ xs. xs ++ map tid (members c.without.result)) c.requires.empty
    ∙ ap (map tid) (members_are c.without.result)
    ∙ ap (map tid) (numbers_where-same _ (λ t. not (was t) && is t) (λ t. c.without.ensures t ∙ ap₂ (λ x y. x && not y) (b t) (a t) ∙ swapped (is t) (was t)) THREADS_MAX)
  where
    swapped : (x y : Bool) → (x && not y) ≡ (not y && x)
    swapped true true = refl
    swapped true false = refl
    swapped false true = refl
    swapped false false = refl
