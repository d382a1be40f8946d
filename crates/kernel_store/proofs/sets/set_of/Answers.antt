use Rattle.std.proofs.Common.{◌≡◌, ℕ, zero, suc, ◌<◌, ◌==◌, true, if◌then◌else◌, List, [], ◌∷◌, get_or, length, take, ap, ◌∙◌, add-one, arith}
use Rattle.std.proofs.lemmas.Bool.Decides.{nat_tests}
use Rattle.std.proofs.lemmas.List.{take_all}
use Rattle.std.specs.List.{list_any}
use Rattle.dk_base.specs.declared.number.Tid.{Tid}
use Rattle.kernel_store.proofs.sets.set_of.Goals as goal

-- one thread more
one_more :
    (ts : List Tid) (i t : ℕ) (d : Tid) → i < length ts →
    (if t == (get_or ts i d).0 then true else list_any (λ (u : Tid). u.0 == t) (take i ts)) ≡ list_any (λ (u : Tid). u.0 == t) (take (suc i) ts)
one_more [] i t d l = absurd (omega arith)
one_more (u ∷ us) zero t d l = grind (arith, nat_tests)
one_more (u ∷ us) (suc i) t d l = let ih = one_more us i t d (omega arith) in grind (arith, nat_tests, ih)

pub loop-t-preserved : goal.loop-t-preserved
loop-t-preserved c = λ t.
    let ts = c.args.threads.now in
    let i = c.loop-t.t-index in
    rw add-one
    (c.put.ensures t
    ∙ ap (λ b. if t == (get_or ts i (record { 0 = 0 })).0 then true else b) (c.loop-t.invariant t)
    ∙ one_more ts i t (record { 0 = 0 }) c.loop-t-test.true)

pub returns : goal.returns
returns c = λ t. c.loop-t.invariant t ∙ ap (list_any (λ (u : Tid). u.0 == t)) (take_all c.loop-t.t-index c.args.threads.now c.loop-t-test.false)
