-- What an object is ready for depends on the bytes of its pipe and on whether the other end has a reference; and an association that
-- waited fires only where one of these has changed.
use Rattle.std.specs.Prelude.{ℕ, suc, ◌≡◌, ◌≤◌, ◌==◌, ◌&&◌, List, Bool, true, false, not, bit_and, bit_or, nat_lt, length}
use Rattle.std.proofs.Common.{true≢false, refl, sym, ap, ap₂, ◌∙◌}
use native.Mathlib.Omega.{arith}
use Rattle.std.proofs.lemmas.Bool.Decides.{nat_tests}
use Rattle.std.proofs.lemmas.Nat.{and_assoc, and_le_l, and_or_self}
use Rattle.dk_base.specs.declared.object.Obj.{Obj}
use Rattle.dk_base.specs.declared.object.Obj.TheVariants as obj
use Rattle.dk_base.specs.declared.set.PollSet.{PollSet}
use Rattle.dk_base.specs.declared.set.TheConstants.PollSet.{IN, OUT, ERR, HUP}
use Rattle.spec_records.specs.declared.association.Association.{Association}
use Rattle.spec_records.specs.Words.{Pipe, bytes_of, events_where, is_full_of, is_to_fire, ready_in, ready_object, ready_out, told_events}
use Rattle.law_channels.specs.Ends.{HasNoMore, is_end, other_end}

-- the pipe whose end an object is, 0 for none
abbrev pub pipe_of : Obj → ℕ
pipe_of (obj.PipeIn n) = n
pipe_of (obj.PipeOut n) = n
pipe_of _ = 0

has_some : (n : ℕ) → nat_lt 0 n ≡ not (n == 0)
has_some n = grind (arith, nat_tests)

same_in : (held : List ℕ) (k l : ℕ) → (k == 0) ≡ (l == 0) → ready_in held k ≡ ready_in held l
same_in held k l e =
    ap (λ (b : Bool). record { 0 = bit_or (events_where (nat_lt 0 (length held)) IN) (events_where b HUP) }) e

same_out : (held : List ℕ) (k l : ℕ) → (k == 0) ≡ (l == 0) → ready_out held k ≡ ready_out held l
same_out held k l e =
    ap₂ (λ (b c : Bool). record { 0 = bit_or (events_where (not (is_full_of held) && b) OUT) (events_where c ERR) })
    (has_some k ∙ ap not e ∙ sym (has_some l)) e

module _ (pipes later : List Pipe) (refs after : Obj → ℕ) where
  pub ready_same :
      (o : Obj) → bytes_of later (pipe_of o) ≡ bytes_of pipes (pipe_of o) → (after (other_end o) == 0) ≡ (refs (other_end o) == 0) →
      ready_object later after o ≡ ready_object pipes refs o
  ready_same (obj.PipeIn n) e f =
      ap (λ held. ready_in held (after (obj.PipeOut n))) e ∙ same_in (bytes_of pipes n) (after (obj.PipeOut n)) (refs (obj.PipeOut n)) f
  ready_same (obj.PipeOut n) e f =
      ap (λ held. ready_out held (after (obj.PipeIn n))) e ∙ same_out (bytes_of pipes n) (after (obj.PipeIn n)) (refs (obj.PipeIn n)) f
  ready_same (obj.Door n) e f = refl
  ready_same (obj.Port n) e f = refl

-- the same pipes, and other references
pub fires_alike :
    (pipes : List Pipe) (refs after : Obj → ℕ) (a : Association) → (after (other_end a.object) == 0) ≡ (refs (other_end a.object) == 0) →
    is_to_fire (ready_object pipes after) a ≡ is_to_fire (ready_object pipes refs) a
fires_alike pipes refs after a e =
    ap (λ r. a.armed && not (told_events r a.events == 0)) (ready_same pipes pipes refs after a.object refl e)

-- err and hup are told, asked for or not

abbrev tells : PollSet → PollSet → Bool
tells ready asked = not (told_events ready asked == 0)

-- what has err or hup in it
has_any : (k x asked : ℕ) → bit_and x 24 ≡ suc k → not (bit_and x (bit_or asked 24) == 0) ≡ true
has_any k x asked e = go (bit_and x (bit_or asked 24) == 0) refl
  where
    shared : bit_and (bit_and x (bit_or asked 24)) 24 ≡ suc k
    shared = and_assoc 24 x (bit_or asked 24) ∙ ap (bit_and x) (and_or_self 24 asked) ∙ e

    go : (b : Bool) → (bit_and x (bit_or asked 24) == 0) ≡ b → not b ≡ true
    go false f = refl
    go true f =
        let none : bit_and x (bit_or asked 24) ≡ 0 = grind (arith, nat_tests) in
        absurd (omega (arith, shared, ap (λ n. bit_and n 24) none))

tells_hup : (held : List ℕ) (writers : ℕ) (asked : PollSet) → (writers == 0) ≡ true → tells (ready_in held writers) asked ≡ true
tells_hup held writers asked e =
    ap (λ (b : Bool). tells (record { 0 = bit_or (events_where (nat_lt 0 (length held)) IN) (events_where b HUP) }) asked) e
    ∙ go (nat_lt 0 (length held))
  where
    go : (b : Bool) → tells (record { 0 = bit_or (events_where b IN) HUP.0 }) asked ≡ true
    go true = has_any 15 17 asked.0 refl
    go false = has_any 15 16 asked.0 refl

tells_err : (held : List ℕ) (readers : ℕ) (asked : PollSet) → (readers == 0) ≡ true → tells (ready_out held readers) asked ≡ true
tells_err held readers asked e =
    ap (λ (b : Bool). tells (record { 0 = bit_or (events_where (not (is_full_of held) && nat_lt 0 readers) OUT) (events_where b ERR) }) asked) e
    ∙ go (not (is_full_of held) && nat_lt 0 readers)
  where
    go : (b : Bool) → tells (record { 0 = bit_or (events_where b OUT) ERR.0 }) asked ≡ true
    go true = has_any 7 12 asked.0 refl
    go false = has_any 7 8 asked.0 refl

is_armed : (armed told : Bool) → armed && told ≡ true → armed ≡ true
is_armed true told e = refl
is_armed false told e = e

is_told : (armed told : Bool) → armed && told ≡ true → told ≡ true
is_told true told e = e
is_told false told e = cc

tells_both : (armed told : Bool) → armed ≡ true → told ≡ true → armed && told ≡ true
tells_both true told e f = f
tells_both false told e f = e

-- what is told is told where more is there

tells_nothing : (asked : PollSet) → tells (record { 0 = 0 }) asked ≡ true → ⊥
tells_nothing asked e =
    let least : bit_and 0 (bit_or asked.0 24) ≤ 0 = and_le_l 0 (bit_or asked.0 24) in
    let none : bit_and 0 (bit_or asked.0 24) ≡ 0 = omega (arith, least) in
    true≢false (sym e ∙ ap (λ n. not (n == 0)) none)

abbrev some_in : Bool → Bool → PollSet
some_in held none = record { 0 = bit_or (events_where held IN) (events_where none HUP) }

abbrev some_out : Bool → Bool → PollSet
some_out room none = record { 0 = bit_or (events_where room OUT) (events_where none ERR) }

more_in : (b c none : Bool) (asked : PollSet) → (b ≡ true → c ≡ true) → tells (some_in b none) asked ≡ true → tells (some_in c none) asked ≡ true
more_in true true none asked h e = e
more_in true false none asked h e = cc (h refl)
more_in false false none asked h e = e
more_in false true true asked h e = has_any 15 17 asked.0 refl
more_in false true false asked h e = absurd (tells_nothing asked e)

more_out : (b c none : Bool) (asked : PollSet) → (b ≡ true → c ≡ true) → tells (some_out b none) asked ≡ true → tells (some_out c none) asked ≡ true
more_out true true none asked h e = e
more_out true false none asked h e = cc (h refl)
more_out false false none asked h e = e
more_out false true true asked h e = has_any 7 12 asked.0 refl
more_out false true false asked h e = absurd (tells_nothing asked e)

more_held :
    (held later : List ℕ) (k l : ℕ) (asked : PollSet) → length later ≤ length held → (l == 0) ≡ (k == 0) →
    tells (ready_in later l) asked ≡ true → tells (ready_in held k) asked ≡ true
more_held held later k l asked less same e =
    more_in (nat_lt 0 (length later)) (nat_lt 0 (length held)) (k == 0) asked (λ f. grind (arith, nat_tests))
    (ap (λ r. tells r asked) (same_in later k l (sym same)) ∙ e)

more_room :
    (held later : List ℕ) (k l : ℕ) (asked : PollSet) → length held ≤ length later → (l == 0) ≡ (k == 0) →
    tells (ready_out later l) asked ≡ true → tells (ready_out held k) asked ≡ true
more_room held later k l asked more same e =
    more_out (not (is_full_of later) && nat_lt 0 k) (not (is_full_of held) && nat_lt 0 k) (k == 0) asked (λ f. grind (arith, nat_tests))
    (ap (λ r. tells r asked) (same_out later k l (sym same)) ∙ e)

module _ (pipes later : List Pipe) (refs after : Obj → ℕ) (a : Association) where
  abbrev was_to_fire : Obj → Bool
  was_to_fire o = a.armed && tells (ready_object pipes refs o) a.events

  abbrev fires_now : Obj → Bool
  fires_now o = a.armed && tells (ready_object later after o) a.events

  -- it has not waited where the other end had no reference
  other_had : (o : Obj) → was_to_fire o ≡ false → fires_now o ≡ true → (refs (other_end o) == 0) ≡ true → ⊥
  other_had (obj.PipeIn n) e f g =
      true≢false (sym (tells_both a.armed _ (is_armed a.armed _ f) (tells_hup (bytes_of pipes n) (refs (obj.PipeOut n)) a.events g)) ∙ e)
  other_had (obj.PipeOut n) e f g =
      true≢false (sym (tells_both a.armed _ (is_armed a.armed _ f) (tells_err (bytes_of pipes n) (refs (obj.PipeIn n)) a.events g)) ∙ e)
  other_had (obj.Door n) e f g = true≢false (sym f ∙ e)
  other_had (obj.Port n) e f g = true≢false (sym f ∙ e)

  -- nor where the references of the other end are as before, and no more is there
  told_before :
      (o : Obj) → was_to_fire o ≡ false → fires_now o ≡ true → HasNoMore pipes later o →
      (after (other_end o) == 0) ≡ (refs (other_end o) == 0) → ⊥
  told_before (obj.PipeIn n) e f less same =
      true≢false
      (sym (tells_both a.armed _ (is_armed a.armed _ f)
      (more_held (bytes_of pipes n) (bytes_of later n) (refs (obj.PipeOut n)) (after (obj.PipeOut n)) a.events less same (is_told a.armed _ f)))
      ∙ e)
  told_before (obj.PipeOut n) e f more same =
      true≢false
      (sym (tells_both a.armed _ (is_armed a.armed _ f)
      (more_room (bytes_of pipes n) (bytes_of later n) (refs (obj.PipeIn n)) (after (obj.PipeIn n)) a.events more same (is_told a.armed _ f)))
      ∙ e)
  told_before (obj.Door n) e f more same = true≢false (sym f ∙ e)
  told_before (obj.Port n) e f more same = true≢false (sym f ∙ e)

  fires_at :
      (o : Obj) → was_to_fire o ≡ false → fires_now o ≡ true → HasNoMore pipes later o →
      not (refs (other_end o) == 0) && (after (other_end o) == 0) ≡ true
  fires_at o e f more = go (refs (other_end o) == 0) refl (after (other_end o) == 0) refl
    where
      go : (b : Bool) → (refs (other_end o) == 0) ≡ b → (c : Bool) → (after (other_end o) == 0) ≡ c → not b && c ≡ true
      go true g c h = absurd (other_had o e f g)
      go false g true h = refl
      go false g false h = absurd (told_before o e f more (h ∙ sym g))

  fires_end : (o : Obj) → was_to_fire o ≡ false → fires_now o ≡ true → is_end o ≡ true
  fires_end (obj.PipeIn n) e f = refl
  fires_end (obj.PipeOut n) e f = refl
  fires_end (obj.Door n) e f = absurd (true≢false (sym f ∙ e))
  fires_end (obj.Port n) e f = absurd (true≢false (sym f ∙ e))

  -- what waited and is to fire now, no more being there: the other end had references, and has none
  pub fires_since :
      is_to_fire (ready_object pipes refs) a ≡ false → is_to_fire (ready_object later after) a ≡ true → HasNoMore pipes later a.object →
      is_end a.object && (not (refs (other_end a.object) == 0) && (after (other_end a.object) == 0)) ≡ true
  fires_since e f more =
      ap (λ b. b && (not (refs (other_end a.object) == 0) && (after (other_end a.object) == 0))) (fires_end a.object e f)
      ∙ fires_at a.object e f more
