-- What a pipe holds before and after an event.
use Rattle.std.specs.Prelude.{ℕ, ◌≡◌, ◌+◌, ◌-◌, ◌==◌, ◌++◌, ◌≤◌, List, [], ◌∷◌, Option, Bool, true, false, if◌then◌else◌, not, Some, None, drop, length, slice_get, suc, take, zero}
use Rattle.std.proofs.Common.{refl, sym, ap, subst, ◌∙◌}
use native.Mathlib.Omega.{arith}
use Rattle.std.proofs.lemmas.Bool.Decides.{nat_tests}
use Rattle.std.proofs.lemmas.List.{length-take, take-append-drop}
use Rattle.std.proofs.Math.Nat.{min_comm}
use Rattle.std.proofs.lemmas.Option.{slice_get_within}
use Rattle.spec_kernel.specs.Types.{Answer, Fd, Obj, Request}
use Rattle.dk_base.specs.declared.error.Errno.TheVariants.{EBADF}
use Rattle.dk_base.specs.declared.limits.TheConstants.{PIPE_MAX}
use Rattle.dk_base.specs.declared.object.Obj.TheVariants as obj
use Rattle.dk_base.specs.declared.request.Request.TheVariants as request
use Rattle.dk_base.specs.declared.answer.Answer.TheVariants as answer
use Rattle.dk_base.specs.ByNumber.{at_number}
use Rattle.spec_records.specs.Words.{Pipe, bytes_in, change_at_number, fitting, make_pipe, new_pipe, oldest, read_pipe, read_tests, refused_where, without_oldest, write_pipe, write_tests, written}
use Rattle.spec_records.proofs.Lists.{numbered_past, numbered_push}
use Rattle.spec_kernel.specs.Words.{ActResult, Channels, State, Turn, act, held_in, is_reading_end, is_writing_end, object_at, pipe_at, pipe_named, readers_of, state_at, writers_of}
use Rattle.spec_kernel.proofs.Moves.{IsFree, IsMaking, IsPassing, Moves, act_moves}
use Rattle.spec_kernel.proofs.Refusals.{not_held}
use Rattle.law_channels.proofs.Elements.{All-at_number}
use Rattle.law_places.specs.Places.{answer_at, process_at}
use Rattle.law_runs.specs.Bytes.{Bytes, IsRead, IsWritten, PipeChange}
use Rattle.law_runs.specs.Channels.{Names}
use Rattle.law_runs.proofs.RowChanges.{pipes-turn}
use Rattle.law_runs.proofs.Channels.{IsThere, KnownChannels, answer_of, changed_elsewhere, changed_here, entry_answer, entry_pipes, is_among, is_free}
use Rattle.law_runs.proofs.RowChanges.{rows_hold}

writing_end_is : (o : Option Obj) → not (is_writing_end o) ≡ false → o ≡ Some (obj.PipeOut (pipe_named o))
writing_end_is (Some (obj.PipeOut n)) e = refl
writing_end_is None e = absurd (cc e)
writing_end_is (Some (obj.Door d)) e = absurd (cc e)
writing_end_is (Some (obj.Port q)) e = absurd (cc e)
writing_end_is (Some (obj.PipeIn n)) e = absurd (cc e)

reading_end_is : (o : Option Obj) → not (is_reading_end o) ≡ false → o ≡ Some (obj.PipeIn (pipe_named o))
reading_end_is (Some (obj.PipeIn n)) e = refl
reading_end_is None e = absurd (cc e)
reading_end_is (Some (obj.Door d)) e = absurd (cc e)
reading_end_is (Some (obj.Port q)) e = absurd (cc e)
reading_end_is (Some (obj.PipeOut n)) e = absurd (cc e)

none_of_none : (n : ℕ) → at_number {X = Pipe} [] n ≡ None
none_of_none n = grind (arith, nat_tests)

-- the first so many as there are
take_again : {X : Type 0} (n : ℕ) (xs : List X) → take (length (take n xs)) xs ≡ take n xs
take_again zero xs = refl
take_again (suc n) [] = refl
take_again (suc n) (x ∷ xs) = ap (λ ys. x ∷ ys) (take_again n xs)

module _ (m : State) (xs : List Turn) (k : KnownChannels m xs) (i : ℕ) (x : Turn) (e : slice_get xs i ≡ Some x) where
  abbrev own : ℕ
  own = process_at m xs i x.thread

  abbrev pipes : List Pipe
  pipes = (state_at m xs i).channels.pipes

  abbrev pipes_after : List Pipe
  pipes_after = (state_at m xs (i + 1)).channels.pipes

  -- the pipe of an end that a descriptor names

  pipe_of_writer : (fd : Fd) (n : ℕ) → Names m xs i x fd (obj.PipeOut n) → IsThere (at_number pipes n)
  pipe_of_writer fd n f =
      is_among pipes n ((k.fits i (omega (arith, slice_get_within xs i x e))).refers.rows own fd (obj.PipeOut n) f)

  pipe_of_reader : (fd : Fd) (n : ℕ) → Names m xs i x fd (obj.PipeIn n) → IsThere (at_number pipes n)
  pipe_of_reader fd n f =
      is_among pipes n ((k.fits i (omega (arith, slice_get_within xs i x e))).refers.rows own fd (obj.PipeIn n) f)

  names_writer :
      (fd : Fd) (bytes : List ℕ) → IsFree (state_at m xs i) x.thread (request.Write fd bytes) →
      Names m xs i x fd (obj.PipeOut (pipe_at (state_at m xs i) own fd))
  names_writer fd bytes f =
      writing_end_is (object_at (state_at m xs i) own fd)
      (not_held [] (refused_where (not (is_writing_end (object_at (state_at m xs i) own fd))) EBADF)
      (write_tests (held_in (state_at m xs i) (pipe_at (state_at m xs i) own fd)) bytes (readers_of (state_at m xs i) (pipe_at (state_at m xs i) own fd)))
      f)

  names_reader :
      (fd : Fd) (max : ℕ) → IsFree (state_at m xs i) x.thread (request.Read fd max) →
      Names m xs i x fd (obj.PipeIn (pipe_at (state_at m xs i) own fd))
  names_reader fd max f =
      reading_end_is (object_at (state_at m xs i) own fd)
      (not_held [] (refused_where (not (is_reading_end (object_at (state_at m xs i) own fd))) EBADF)
      (read_tests (held_in (state_at m xs i) (pipe_at (state_at m xs i) own fd)) (writers_of (state_at m xs i) (pipe_at (state_at m xs i) own fd)))
      f)

  -- a write and a read

  write_done :
      (fd : Fd) (bytes : List ℕ) → IsFree (state_at m xs i) x.thread (request.Write fd bytes) →
      pipes_after ≡ write_pipe pipes (pipe_at (state_at m xs i) own fd) bytes →
      IsWritten m xs i x fd bytes (length (fitting (held_in (state_at m xs i) (pipe_at (state_at m xs i) own fd)) bytes))
  write_done fd bytes f g = go (pipe_of_writer fd n (names_writer fd bytes f))
    where
      n : ℕ
      n = pipe_at (state_at m xs i) own fd

      go : IsThere (at_number pipes n) → IsWritten m xs i x fd bytes (length (fitting (bytes_in (at_number pipes n)) bytes))
      go p =
          subst (λ (o : Option Pipe). IsWritten m xs i x fd bytes (length (fitting (bytes_in o) bytes))) (sym p.there)
          (record {
            number = n;
            pipe = p.it;
            names = names_writer fd bytes f;
            there = p.there;
            as_many = length-take (PIPE_MAX - length p.it.bytes) bytes ∙ min_comm (PIPE_MAX - length p.it.bytes) (length bytes);
            after =
                ap (λ ps. at_number ps n) g
                ∙ changed_here pipes n p.it (written bytes) p.there
                ∙ ap (λ bs. Some (record { number = p.it.number; bytes = p.it.bytes ++ bs })) (sym (take_again (PIPE_MAX - length p.it.bytes) bytes));
          })

  read_done :
      (fd : Fd) (max : ℕ) → IsFree (state_at m xs i) x.thread (request.Read fd max) →
      pipes_after ≡ read_pipe pipes (pipe_at (state_at m xs i) own fd) max →
      IsRead m xs i x fd max (oldest (held_in (state_at m xs i) (pipe_at (state_at m xs i) own fd)) max)
  read_done fd max f g = go (pipe_of_reader fd n (names_reader fd max f))
    where
      n : ℕ
      n = pipe_at (state_at m xs i) own fd

      go : IsThere (at_number pipes n) → IsRead m xs i x fd max (oldest (bytes_in (at_number pipes n)) max)
      go p =
          subst (λ (o : Option Pipe). IsRead m xs i x fd max (oldest (bytes_in o) max)) (sym p.there)
          (record {
            number = n;
            pipe = p.it;
            names = names_reader fd max f;
            there = p.there;
            as_many = length-take max p.it.bytes;
            rest = drop max p.it.bytes;
            oldest = sym (take-append-drop max p.it.bytes);
            after = ap (λ ps. at_number ps n) g ∙ changed_here pipes n p.it (without_oldest max) p.there;
          })

  -- each pipe

  abbrev Change : ℕ → Option Pipe → Option Pipe → Type 0
  Change n o p = PipeChange m xs i x n o p

  change_as : (n : ℕ) (a b c d : Option Pipe) → a ≡ b → c ≡ d → Change n b d → Change n a c
  change_as n a b c d f g h = subst (λ z. Change n z c) (sym f) (subst (λ z. Change n b z) (sym g) h)

  -- where one of them changes
  one_changes :
      (number n : ℕ) (change : Pipe → Pipe) → pipes_after ≡ change_at_number pipes number change →
      Change number (at_number pipes number) (at_number pipes_after number) → Change n (at_number pipes n) (at_number pipes_after n)
  one_changes number n change f h = go (n == number) refl
    where
      go : (b : Bool) → (n == number) ≡ b → Change n (at_number pipes n) (at_number pipes_after n)
      go true g =
          let same : number ≡ n = grind (arith, nat_tests, g) in
          subst (λ z. Change z (at_number pipes z) (at_number pipes_after z)) same h
      go false g =
          change_as n _ _ _ _ refl (ap (λ ps. at_number ps n) f ∙ changed_elsewhere pipes number n change g) PipeChange.stays

  makes :
      (n : ℕ) (reading writing : Fd) → x.request ≡ Some request.Pipe → answer_at m xs i x ≡ answer.TwoFds reading writing →
      pipes_after ≡ make_pipe pipes → Change n (at_number pipes n) (at_number pipes_after n)
  makes n reading writing f g h = go (n == length pipes + 1) refl
    where
      pushed : at_number pipes_after n ≡ (if n == length pipes + 1 then Some (new_pipe (length pipes + 1)) else at_number pipes n)
      pushed = ap (λ ps. at_number ps n) h ∙ numbered_push pipes (new_pipe (length pipes + 1)) n

      go : (b : Bool) → (n == length pipes + 1) ≡ b → Change n (at_number pipes n) (at_number pipes_after n)
      go true l =
          let same : n ≡ length pipes + 1 = grind (arith, nat_tests, l) in
          change_as n _ None _ (Some (record { number = n; bytes = [] }))
          (numbered_past pipes n (omega (arith, same)))
          (pushed
          ∙ ap (λ (b : Bool). if b then Some (new_pipe (length pipes + 1)) else at_number pipes n) l
          ∙ ap (λ z. Some (new_pipe z)) (sym same))
          (PipeChange.made reading writing f g same)
      go false l =
          change_as n _ _ _ _ refl
          (pushed ∙ ap (λ (b : Bool). if b then Some (new_pipe (length pipes + 1)) else at_number pipes n) l)
          PipeChange.stays

  same_pipes : (n : ℕ) → pipes_after ≡ pipes → Change n (at_number pipes n) (at_number pipes_after n)
  same_pipes n f = change_as n _ _ _ _ refl (ap (λ ps. at_number ps n) f) PipeChange.stays

  passes :
      (n : ℕ) (r : Request) (c : Channels) (a : Answer) → IsPassing (state_at m xs i) x.thread r c a → x.request ≡ Some r →
      answer_at m xs i x ≡ a → pipes_after ≡ c.pipes → Change n (at_number pipes n) (at_number pipes_after n)
  unfolding write_done read_done
  passes n r c a (IsPassing.writes fd bytes f) g h l = one_changes w.number n (written bytes) l there
    where
      count : ℕ
      count = length (fitting (held_in (state_at m xs i) (pipe_at (state_at m xs i) own fd)) bytes)

      w : IsWritten m xs i x fd bytes count
      w = write_done fd bytes f l

      there : Change w.number (at_number pipes w.number) (at_number pipes_after w.number)
      there = change_as w.number _ _ _ _ w.there w.after (PipeChange.written w.pipe fd bytes count g w.names h)
  passes n r c a (IsPassing.reads fd max f) g h l = one_changes w.number n (without_oldest max) l there
    where
      w : IsRead m xs i x fd max (oldest (held_in (state_at m xs i) (pipe_at (state_at m xs i) own fd)) max)
      w = read_done fd max f l

      there : Change w.number (at_number pipes w.number) (at_number pipes_after w.number)
      there = change_as w.number _ _ _ _ w.there w.after (PipeChange.read w.pipe fd max _ w.rest g w.names h w.oldest)
  passes n r c a _ g h l = same_pipes n l

  making :
      (n : ℕ) (r : Request) (c : Channels) (objects : List Obj) (a : Answer) → IsMaking (state_at m xs i) x.thread r c objects a →
      x.request ≡ Some r → answer_at m xs i x ≡ a → pipes_after ≡ c.pipes → Change n (at_number pipes n) (at_number pipes_after n)
  making n r c objects a (IsMaking.makes_pipe f) g h l = makes n _ _ g h l
  making n r c objects a (IsMaking.makes_port f) g h l = same_pipes n l

  moves :
      (n : ℕ) (q : Option Request) (a : ActResult) → Moves (state_at m xs i) x.thread q a → x.request ≡ q → answer_at m xs i x ≡ a.answer →
      pipes_after ≡ a.state.channels.pipes → Change n (at_number pipes n) (at_number pipes_after n)
  moves n q a (Moves.passes r c y p) g h l = passes n r c y p g h l
  moves n q a (Moves.makes_channel r c objects y p) g h l = making n r c objects y p g h l
  moves n q a (Moves.retrieves port max nget one p) g h l = same_pipes n l
  moves n q a _ g h l = same_pipes n l

  each : (n : ℕ) → Change n (at_number pipes n) (at_number pipes_after n)
  each n =
      moves n x.request (act (state_at m xs i) x.thread x.request) (act_moves (state_at m xs i) x.thread x.request) refl
      (answer_of m xs k.known i x e)
      (pipes-turn m xs k.known i x e)

  -- what a request does that is done

  same_count : (a b : ℕ) → answer.Count a ≡ answer.Count b → b ≡ a
  same_count a b f = cc

  same_data : (a b : List ℕ) → answer.Data a ≡ answer.Data b → b ≡ a
  same_data a b f = cc

  writes : (fd : Fd) (bytes : List ℕ) (count : ℕ) → x.request ≡ Some (request.Write fd bytes) → answer_at m xs i x ≡ answer.Count count → IsWritten m xs i x fd bytes count
  writes fd bytes count f g =
      let free : IsFree (state_at m xs i) x.thread (request.Write fd bytes) = is_free m xs k.known i x e (request.Write fd bytes) (answer.Count count) f g (λ y h. cc) in
      subst (IsWritten m xs i x fd bytes)
      (same_count count _ (sym g ∙ entry_answer m xs k.known i x e (request.Write fd bytes) f free))
      (write_done fd bytes free (entry_pipes m xs k.known i x e (request.Write fd bytes) f free))

  reads : (fd : Fd) (max : ℕ) (bytes : List ℕ) → x.request ≡ Some (request.Read fd max) → answer_at m xs i x ≡ answer.Data bytes → IsRead m xs i x fd max bytes
  reads fd max bytes f g =
      let free : IsFree (state_at m xs i) x.thread (request.Read fd max) = is_free m xs k.known i x e (request.Read fd max) (answer.Data bytes) f g (λ y h. cc) in
      subst (IsRead m xs i x fd max)
      (same_data bytes _ (sym g ∙ entry_answer m xs k.known i x e (request.Read fd max) f free))
      (read_done fd max free (entry_pipes m xs k.known i x e (request.Read fd max) f free))

  is_made :
      (reading writing : Fd) → answer_at m xs i x ≡ answer.TwoFds reading writing →
      at_number pipes_after (length pipes + 1) ≡ Some (new_pipe (length pipes + 1))
  is_made reading writing g =
      ap (λ ps. at_number ps (length pipes + 1)) (entry_pipes m xs k.known i x e request.Pipe asked free)
      ∙ numbered_push pipes (new_pipe (length pipes + 1)) (length pipes + 1)
      ∙ grind (arith, nat_tests)
    where
      asked : x.request ≡ Some request.Pipe
      asked = ((rows_hold m xs k.known).piped i x reading writing e g).makes.asked

      free : IsFree (state_at m xs i) x.thread request.Pipe
      free = is_free m xs k.known i x e request.Pipe (answer.TwoFds reading writing) asked g (λ y h. cc)

pub bytes_hold : (m : State) (xs : List Turn) → KnownChannels m xs → Bytes m xs
bytes_hold m xs k =
    record {
      none_at_first = λ n. ap (λ (c : Channels). at_number c.pipes n) k.empty ∙ none_of_none n;
      each = λ i n x e. each m xs k i x e n;
      made = λ i x reading writing e. is_made m xs k i x e reading writing;
      written = λ i x fd bytes count e. writes m xs k i x e fd bytes count;
      read = λ i x fd max bytes e. reads m xs k i x e fd max bytes;
      at_most = λ i n p l f. All-at_number (λ (y : Pipe). length y.bytes ≤ PIPE_MAX) (state_at m xs i).channels.pipes n p (k.fits i l).pipes.bounded f;
    }
