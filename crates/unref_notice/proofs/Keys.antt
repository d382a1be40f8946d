-- The counts of objects as one of them changes.
use Rattle.std.proofs.Common.{◌≡◌, ℕ, ◌==◌, ◌||◌, Bool, true, false, cond, if◌then◌else◌, List, ◌∷◌, Option, Some, unwrap_or, refl, ap, ◌∙◌, arith}
use Rattle.std.proofs.lemmas.Bool.Decides.{nat_tests}
use Rattle.dk_base.specs.declared.object.Obj.{Obj}
use Rattle.dk_base.specs.declared.object.Obj.TheVariants as obj
use Rattle.spec_records.specs.Words.{is_object}
use Rattle.unref_notice.specs.declared.key.Key.{Key}
use Rattle.unref_notice.specs.declared.key.Key.TheVariants as key
use Rattle.std.specs.Map.{lookup}
use Rattle.unref_notice.specs.Counting.{IsStill, ObjectCounts, count_at, count_of, is_touched, key_of, same_key}

either_way : (a b : ℕ) → (a == b) ≡ (b == a)
either_way a b = grind (arith, nat_tests)

pub key_alike : (a b : Obj) → same_key (key_of a) (key_of b) ≡ is_object b a
key_alike (obj.Door a) (obj.Door b) = either_way a b
key_alike (obj.Port a) (obj.Port b) = either_way a b
key_alike (obj.PipeIn a) (obj.PipeIn b) = either_way a b
key_alike (obj.PipeOut a) (obj.PipeOut b) = either_way a b
key_alike (obj.Door a) (obj.Port b) = refl
key_alike (obj.Door a) (obj.PipeIn b) = refl
key_alike (obj.Door a) (obj.PipeOut b) = refl
key_alike (obj.Port a) (obj.Door b) = refl
key_alike (obj.Port a) (obj.PipeIn b) = refl
key_alike (obj.Port a) (obj.PipeOut b) = refl
key_alike (obj.PipeIn a) (obj.Door b) = refl
key_alike (obj.PipeIn a) (obj.Port b) = refl
key_alike (obj.PipeIn a) (obj.PipeOut b) = refl
key_alike (obj.PipeOut a) (obj.Door b) = refl
key_alike (obj.PipeOut a) (obj.Port b) = refl
key_alike (obj.PipeOut a) (obj.PipeIn b) = refl

pub flipped : (a b : Key) → same_key b a ≡ same_key a b
flipped (key.Door a) (key.Door b) = either_way b a
flipped (key.Port a) (key.Port b) = either_way b a
flipped (key.PipeIn a) (key.PipeIn b) = either_way b a
flipped (key.PipeOut a) (key.PipeOut b) = either_way b a
flipped (key.Door a) (key.Port b) = refl
flipped (key.Door a) (key.PipeIn b) = refl
flipped (key.Door a) (key.PipeOut b) = refl
flipped (key.Port a) (key.Door b) = refl
flipped (key.Port a) (key.PipeIn b) = refl
flipped (key.Port a) (key.PipeOut b) = refl
flipped (key.PipeIn a) (key.Door b) = refl
flipped (key.PipeIn a) (key.Port b) = refl
flipped (key.PipeIn a) (key.PipeOut b) = refl
flipped (key.PipeOut a) (key.Door b) = refl
flipped (key.PipeOut a) (key.Port b) = refl
flipped (key.PipeOut a) (key.PipeIn b) = refl

pub same_keys : (a b : Key) → same_key a b ≡ true → a ≡ b
same_keys (key.Door a) (key.Door b) e = let h : a ≡ b = grind (arith, nat_tests) in ap (λ n. key.Door n) h
same_keys (key.Port a) (key.Port b) e = let h : a ≡ b = grind (arith, nat_tests) in ap (λ n. key.Port n) h
same_keys (key.PipeIn a) (key.PipeIn b) e = let h : a ≡ b = grind (arith, nat_tests) in ap (λ n. key.PipeIn n) h
same_keys (key.PipeOut a) (key.PipeOut b) e = let h : a ≡ b = grind (arith, nat_tests) in ap (λ n. key.PipeOut n) h
same_keys (key.Door a) (key.Port b) e = cc
same_keys (key.Door a) (key.PipeIn b) e = cc
same_keys (key.Door a) (key.PipeOut b) e = cc
same_keys (key.Port a) (key.Door b) e = cc
same_keys (key.Port a) (key.PipeIn b) e = cc
same_keys (key.Port a) (key.PipeOut b) e = cc
same_keys (key.PipeIn a) (key.Door b) e = cc
same_keys (key.PipeIn a) (key.Port b) e = cc
same_keys (key.PipeIn a) (key.PipeOut b) e = cc
same_keys (key.PipeOut a) (key.Door b) e = cc
same_keys (key.PipeOut a) (key.Port b) e = cc
same_keys (key.PipeOut a) (key.PipeIn b) e = cc

-- the counts as one key gets another

module _ (old new : ObjectCounts) (k : Key) (v : ℕ) (inserted : (q : Key) → lookup (same_key q) new ≡ cond (same_key k q) (Some v) (lookup (same_key q) old)) where
  -- that of now: what is still to come stays as it is
  pub settled : (now : ObjectCounts) (ks : List Key) → v ≡ count_at now k → IsStill now old (k ∷ ks) → IsStill now new ks
  settled now ks e still q apart =
      ap (λ y. unwrap_or y 0) (inserted q) ∙ go (same_key k q) refl
    where
      go : (b : Bool) → same_key k q ≡ b → unwrap_or (cond b (Some v) (lookup (same_key q) old)) 0 ≡ count_at now q
      go true same = e ∙ ap (count_at now) (same_keys k q same)
      go false other = still q (ap (λ b. b || is_touched ks q) (flipped k q ∙ other) ∙ apart)
