-- What a line that is spelled keeps: short names, descriptors of a variable up to the 16th, and loops with a turn.
use Rattle.std.proofs.Common.{◌≡◌, ℕ, ◌≤◌, Bool, true, false, List, [], ◌∷◌, length, inl, inr, refl, arith, zero, suc}
use Rattle.std.specs.Prelude.{◌&&◌, nat_le, slice_get, codes}
use Rattle.std.proofs.lemmas.Bool.{false≢true}
use Rattle.std.proofs.lemmas.Bool.Decides.{nat_tests}
use Rattle.std.specs.List.{list_all}
use Rattle.line_text.specs.Words.{SpellsName, is_letter, is_name, is_name_byte}
use Rattle.script_lang.specs.Types.{FdArg, Line, PassArg}
use Rattle.line_forms.specs.declared.line.FdArg.TheVariants.{Number, Of as OfFd}
use Rattle.line_forms.specs.declared.line.Kind.TheVariants.{Loop}
use Rattle.line_forms.specs.declared.line.Line.TheVariants as line
use Rattle.line_forms.specs.Words.{Each, First, Spelling, SpellsFd, SpellsLine, SpellsPass, Tables, Then, kind_of}
use Rattle.spec_requests.specs.Words.{times_of, vars_of}
use Rattle.thread_machine.specs.Bodies.{IsSpelledLine}
use Rattle.thread_machine.specs.Slots.{IsShort, greatest_name}

and_left : (a b : Bool) → (a && b) ≡ true → a ≡ true
and_left true b h = refl
and_left false b h = h

and_right : (a b : Bool) → (a && b) ≡ true → b ≡ true
and_right true b h = h
and_right false b h = absurd (false≢true h)

at_most : (m n : ℕ) → nat_le m n ≡ true → m ≤ n
at_most m n h = grind (arith, nat_tests)

pub name-short : (name : List ℕ) → is_name name ≡ true → length name ≤ greatest_name
unfolding greatest_name
name-short [] h = omega arith
name-short (b ∷ bs) h =
    let few : length bs ≤ 15 =
    at_most (length bs) 15 (and_right (is_letter b) (nat_le (length bs) 15) (and_left _ (list_all is_name_byte bs) h))
    in omega arith

-- the variable of a command is its first operand
var-short :
    (keyword var : List ℕ) (Next : Spelling) (words : List (List ℕ)) → Then keyword (First (SpellsName var) Next) words →
    length var ≤ greatest_name
var-short keyword var Next [] h = absurd h
var-short keyword var Next (k ∷ []) h = absurd h.1
var-short keyword var Next (k ∷ w ∷ words) h = name-short var h.1.0.0

-- and that of `pipe` its second too
second-short :
    (keyword reading writing : List ℕ) (Next : Spelling) (words : List (List ℕ)) →
    Then keyword (First (SpellsName reading) (First (SpellsName writing) Next)) words → length writing ≤ greatest_name
second-short keyword reading writing Next [] h = absurd h
second-short keyword reading writing Next (k ∷ []) h = absurd h.1
second-short keyword reading writing Next (k ∷ w ∷ []) h = absurd h.1.1
second-short keyword reading writing Next (k ∷ w ∷ v ∷ words) h = name-short writing h.1.1.0.0

one-short : (var : List ℕ) (k : ℕ) → length var ≤ greatest_name → IsShort (slice_get (var ∷ []) k)
one-short var zero h = h
one-short var (suc k) h = tt

two-short :
    (var other : List ℕ) (k : ℕ) → length var ≤ greatest_name → length other ≤ greatest_name →
    IsShort (slice_get (var ∷ other ∷ []) k)
two-short var other zero h i = h
two-short var other (suc zero) h i = i
two-short var other (suc (suc k)) h i = tt

spelled-vars :
    (x : Line) (tables : Tables) (process : ℕ) (words : List (List ℕ)) (k : ℕ) → SpellsLine tables process x words →
    IsShort (slice_get (vars_of x) k)
spelled-vars (line.Create var entry cookie attrs) tables process words k h = one-short var k (var-short (codes "create") var _ words h)
spelled-vars (line.Call var fd bytes pass rsize) tables process words k h = one-short var k (var-short (codes "call") var _ words h)
spelled-vars (line.Dup var fd) tables process words k h = one-short var k (var-short (codes "dup") var _ words h)
spelled-vars (line.Open var path) tables process words k h = one-short var k (var-short (codes "open") var _ words h)
spelled-vars (line.Pipe reading writing) tables process words k h =
    two-short
    reading
    writing
    k
    (var-short (codes "pipe") reading _ words h)
    (second-short (codes "pipe") reading writing _ words h)
spelled-vars (line.Read var fd most) tables process words k h = one-short var k (var-short (codes "read") var _ words h)
spelled-vars (line.PortCreate var) tables process words k h = one-short var k (var-short (codes "pcreate") var _ words h)
spelled-vars (line.Work var op bytes) tables process words k h = one-short var k (var-short (codes "work") var _ words h)
spelled-vars (line.Ncd var bytes) tables process words k h = one-short var k (var-short (codes "ncd") var _ words h)
spelled-vars x tables process words k h = tt

pub vars-short : (x : Line) (k : ℕ) → IsSpelledLine x → IsShort (slice_get (vars_of x) k)
vars-short x k h = spelled-vars x h.tables h.process h.words k h.spells

-- a loop has a turn

spelled-times :
    (x : Line) (tables : Tables) (process : ℕ) (words : List (List ℕ)) → SpellsLine tables process x words → kind_of x ≡ Loop →
    1 ≤ times_of x
spelled-times (line.Repeat times) tables process [] h loop = absurd h
spelled-times (line.Repeat times) tables process (k ∷ []) h loop = absurd h.1
spelled-times (line.Repeat times) tables process (k ∷ w ∷ words) h loop = h.1.0.0
spelled-times x tables process words h loop = cc

pub loop-times : (x : Line) → IsSpelledLine x → kind_of x ≡ Loop → 1 ≤ times_of x
loop-times x h loop = spelled-times x h.tables h.process h.words h.spells loop

-- descriptors

abbrev pub IsInRange : FdArg → Type 0
IsInRange (Number n) = Unit {0}
IsInRange (OfFd var k) = k ≤ 15

abbrev pub AreInRange : List FdArg → Type 0
AreInRange [] = Unit {0}
AreInRange (fd ∷ fds) = IsInRange fd × AreInRange fds

abbrev pub ArePassesInRange : List PassArg → Type 0
ArePassesInRange [] = Unit {0}
ArePassesInRange (pass ∷ passes) = IsInRange pass.fd × ArePassesInRange passes

fd-in-range : (fd : FdArg) (word : List ℕ) → SpellsFd fd word → IsInRange fd
fd-in-range (Number n) word h = tt
fd-in-range (OfFd var k) word (inl h) = let zero_th : k ≡ 0 = h.0 in omega arith
fd-in-range (OfFd var k) word (inr h) = h.1

pub each-fd : (fds : List FdArg) (Next : Spelling) (words : List (List ℕ)) → Each SpellsFd fds Next words → AreInRange fds
each-fd [] Next words h = tt
each-fd (fd ∷ fds) Next [] h = absurd h
each-fd (fd ∷ fds) Next (w ∷ words) h = (fd-in-range fd w h.0, each-fd fds Next words h.1)

pub each-pass : (passes : List PassArg) (Next : Spelling) (words : List (List ℕ)) → Each SpellsPass passes Next words → ArePassesInRange passes
each-pass [] Next words h = tt
each-pass (pass ∷ passes) Next [] h = absurd h
each-pass (pass ∷ passes) Next (w ∷ words) h = (fd-in-range pass.fd h.0.front h.0.spells_fd, each-pass passes Next words h.1)

-- the descriptor of a command is its first operand, or stands after its variable
pub fd-first :
    (keyword : List ℕ) (fd : FdArg) (Next : Spelling) (words : List (List ℕ)) → Then keyword (First (SpellsFd fd) Next) words →
    IsInRange fd
fd-first keyword fd Next [] h = absurd h
fd-first keyword fd Next (k ∷ []) h = absurd h.1
fd-first keyword fd Next (k ∷ w ∷ words) h = fd-in-range fd w h.1.0

pub fd-second :
    (keyword : List ℕ) (P : List ℕ → Type 0) (fd : FdArg) (Next : Spelling) (words : List (List ℕ)) →
    Then keyword (First P (First (SpellsFd fd) Next)) words → IsInRange fd
fd-second keyword P fd Next [] h = absurd h
fd-second keyword P fd Next (k ∷ []) h = absurd h.1
fd-second keyword P fd Next (k ∷ w ∷ []) h = absurd h.1.1
fd-second keyword P fd Next (k ∷ w ∷ v ∷ words) h = fd-in-range fd v h.1.1.0
