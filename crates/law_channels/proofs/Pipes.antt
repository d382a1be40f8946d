-- The bytes of a pipe, where another is written or read, and where one is made.
use Rattle.std.specs.Prelude.{ℕ, ◌≡◌, ◌+◌, ◌≤◌, ◌==◌, ◌&&◌, List, Option, Bool, true, false, if◌then◌else◌, Some, None, is_some, length}
use Rattle.std.proofs.Common.{refl, sym, ap, subst, ◌∙◌}
use native.Mathlib.Omega.{arith}
use Rattle.std.proofs.lemmas.Bool.Decides.{nat_tests}
use Rattle.std.proofs.lemmas.List.{length-append, length-drop}
use Rattle.dk_base.specs.ByNumber.{at_number, with_at_number}
use Rattle.spec_records.specs.Words.{Pipe, bytes_in, bytes_of, change_at_number, change_found, fitting, make_pipe, new_pipe, read_pipe, without_oldest, write_pipe, written}
use Rattle.spec_records.proofs.ChangedNumbers.{change_at_number-none}
use Rattle.spec_records.proofs.Lists.{at_number-renumbered_there, at_number-with_at_number, numbered_past, numbered_push}

pub other_bytes :
    (pipes : List Pipe) (p n : ℕ) (change : Pipe → Pipe) → (p == n) ≡ false → bytes_of (change_at_number pipes p change) n ≡ bytes_of pipes n
other_bytes pipes p n change e = go (at_number pipes p)
  where
    other : (n == p) ≡ false
    other = grind (arith, nat_tests)

    go : (o : Option Pipe) → bytes_of (change_found pipes p change o) n ≡ bytes_of pipes n
    go None = refl
    go (Some x) =
        ap bytes_in
        (at_number-with_at_number pipes p n (change x)
        ∙ ap (λ (b : Bool). if b && is_some (at_number pipes p) then Some (change x) else at_number pipes n) other)

pub made_bytes : (pipes : List Pipe) (n : ℕ) → bytes_of (make_pipe pipes) n ≡ bytes_of pipes n
made_bytes pipes n = ap bytes_in (numbered_push pipes (new_pipe (length pipes + 1)) n) ∙ go (n == length pipes + 1) refl
  where
    go : (b : Bool) → (n == length pipes + 1) ≡ b → bytes_in (if b then Some (new_pipe (length pipes + 1)) else at_number pipes n) ≡ bytes_of pipes n
    go true e =
        let next : n ≡ length pipes + 1 = grind (arith, nat_tests) in
        sym (ap bytes_in (numbered_past pipes n (omega (arith, next))))
    go false e = refl

-- each pipe holds no less, or no more, where this is so of the one that is changed
module _ (R : List ℕ → List ℕ → Type 0) (same : (held : List ℕ) → R held held) where
  pub changed_bytes :
      (pipes : List Pipe) (p n : ℕ) (change : Pipe → Pipe) → ((x : Pipe) → R x.bytes (change x).bytes) →
      R (bytes_of pipes n) (bytes_of (change_at_number pipes p change) n)
  changed_bytes pipes p n change h = go (p == n) refl (at_number pipes p) refl
    where
      go :
          (b : Bool) → (p == n) ≡ b → (o : Option Pipe) → at_number pipes p ≡ o →
          R (bytes_of pipes n) (bytes_of (change_at_number pipes p change) n)
      go false e o f = subst (R (bytes_of pipes n)) (sym (other_bytes pipes p n change e)) (same (bytes_of pipes n))
      go true e None f = subst (λ xs. R (bytes_of pipes n) (bytes_of xs n)) (sym (change_at_number-none pipes p change f)) (same (bytes_of pipes n))
      go true e (Some x) f =
          let place : p ≡ n = grind (arith, nat_tests) in
          let before : bytes_of pipes n ≡ x.bytes = ap bytes_in (ap (at_number pipes) (sym place) ∙ f) in
          let there : at_number (with_at_number pipes p (change x)) n ≡ Some (change x) = at_number-renumbered_there pipes p n (change x) x f ∙ grind (arith, nat_tests) in
          let after : bytes_of (change_at_number pipes p change) n ≡ (change x).bytes = ap (λ o. bytes_of (change_found pipes p change o) n) f ∙ ap bytes_in there in
          subst (λ held. R held (bytes_of (change_at_number pipes p change) n)) (sym before) (subst (R x.bytes) (sym after) (h x))

pub holds_more : (pipes : List Pipe) (p n : ℕ) (bytes : List ℕ) → length (bytes_of pipes n) ≤ length (bytes_of (write_pipe pipes p bytes) n)
holds_more pipes p n bytes =
    changed_bytes (λ held later. length held ≤ length later) (λ held. omega arith) pipes p n (written bytes)
    (λ x. omega (arith, length-append x.bytes (fitting x.bytes bytes)))

pub holds_less : (pipes : List Pipe) (p n max : ℕ) → length (bytes_of (read_pipe pipes p max) n) ≤ length (bytes_of pipes n)
holds_less pipes p n max =
    changed_bytes (λ held later. length later ≤ length held) (λ held. omega arith) pipes p n (without_oldest max)
    (λ x. omega (arith, length-drop max x.bytes))
