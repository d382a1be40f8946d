-- A command makes the same request by what a machine holds of the variables.
use Rattle.std.proofs.Common.{◌≡◌, ℕ, ◌<◌, ◌≤◌, List, [], ◌∷◌, take, refl, ap, ◌∙◌, arith}
use Rattle.std.specs.Prelude.{map, slice_get, codes}
use Rattle.line_text.specs.Types.{Fd, Pass}
use Rattle.dk_base.specs.declared.request.Request.TheVariants as request
use Rattle.script_lang.specs.Types.{FdArg, Line, PassArg, Piece}
use Rattle.line_forms.specs.declared.line.FdArg.TheVariants.{Number, Of as OfFd}
use Rattle.line_forms.specs.declared.line.Line.TheVariants as line
use Rattle.line_forms.specs.declared.line.Piece.TheVariants.{Text, Of, Fill}
use Rattle.line_forms.specs.Words.{First, Spelling, SpellsLine, SpellsMorePieces, SpellsPassList, SpellsPieces, Tables, Then}
use Rattle.spec_requests.specs.Words.{Value, Variables, data_of, fd_of, greatest_data, or_no_descriptor, pass_of, piece_bytes, request_at}
use Rattle.thread_machine.specs.Bodies.{IsSpelledLine}
use Rattle.thread_machine.specs.Slots.{Slot, slot_value, Holds, greatest_descriptors}
use Rattle.thread_machine.proofs.Cuts.{take-take, take-flat_map, slice_get-take}
use Rattle.thread_machine.proofs.SpelledLines.{IsInRange, AreInRange, ArePassesInRange, each-fd, each-pass, fd-first, fd-second}

-- operands

few-descriptors : (k : ℕ) → k ≤ 15 → k < greatest_descriptors
unfolding greatest_descriptors
few-descriptors k h = omega arith

pub fd-same : (slots : List Slot) (values : Variables) (fd : FdArg) → Holds slots values → IsInRange fd → fd_of (slot_value slots) fd ≡ fd_of values fd
fd-same slots values (Number n) h r = refl
fd-same slots values (OfFd var k) h r =
    let few : k < greatest_descriptors = few-descriptors k r
    in ap (λ (value : Value). or_no_descriptor (slice_get value.descriptors k)) (h var)
    ∙ ap or_no_descriptor (slice_get-take greatest_descriptors k (values var).descriptors few)

pub fds-same :
    (slots : List Slot) (values : Variables) (fds : List FdArg) → Holds slots values → AreInRange fds →
    map (fd_of (slot_value slots)) fds ≡ map (fd_of values) fds
fds-same slots values [] h r = refl
fds-same slots values (fd ∷ fds) h r =
    let first : fd_of (slot_value slots) fd ≡ fd_of values fd = fd-same slots values fd h r.0
    in let others : map (fd_of (slot_value slots)) fds ≡ map (fd_of values) fds = fds-same slots values fds h r.1
    in ap (λ (x : Fd). x ∷ map (fd_of (slot_value slots)) fds) first ∙ ap (λ (xs : List Fd). fd_of values fd ∷ xs) others

pub passes-same :
    (slots : List Slot) (values : Variables) (passes : List PassArg) → Holds slots values → ArePassesInRange passes →
    map (pass_of (slot_value slots)) passes ≡ map (pass_of values) passes
passes-same slots values [] h r = refl
passes-same slots values (pass ∷ passes) h r =
    let first : fd_of (slot_value slots) pass.fd ≡ fd_of values pass.fd = fd-same slots values pass.fd h r.0
    in let others : map (pass_of (slot_value slots)) passes ≡ map (pass_of values) passes = passes-same slots values passes h r.1
    in ap
    (λ (x : Fd). let p : Pass = record { fd = x; release = pass.release } in p ∷ map (pass_of (slot_value slots)) passes)
    first
    ∙ ap (λ (xs : List Pass). pass_of values pass ∷ xs) others

piece-same :
    (slots : List Slot) (values : Variables) → Holds slots values → (piece : Piece) →
    take greatest_data (piece_bytes (slot_value slots) piece) ≡ take greatest_data (piece_bytes values piece)
piece-same slots values h (Text bytes) = refl
piece-same slots values h (Of var) =
    ap (λ (value : Value). take greatest_data value.bytes) (h var)
    ∙ take-take greatest_data greatest_data (values var).bytes (omega arith)
piece-same slots values h (Fill n) = refl

pub data-same : (slots : List Slot) (values : Variables) (pieces : List Piece) → Holds slots values → data_of (slot_value slots) pieces ≡ data_of values pieces
data-same slots values pieces h =
    take-flat_map greatest_data (piece_bytes (slot_value slots)) (piece_bytes values) pieces (piece-same slots values h)

-- what may be passed stands after data

passes-in : (passes : List PassArg) (Next : Spelling) (words : List (List ℕ)) → SpellsPassList passes Next words → ArePassesInRange passes
passes-in [] Next words h = tt
passes-in (pass ∷ passes) Next [] h = absurd h.1
passes-in (pass ∷ passes) Next (w ∷ words) h = each-pass (pass ∷ passes) Next words h.1.1

more-pieces-then :
    (pieces : List Piece) (passes : List PassArg) (Next : Spelling) (words : List (List ℕ)) →
    SpellsMorePieces pieces (SpellsPassList passes Next) words → ArePassesInRange passes
more-pieces-then [] passes Next words h = passes-in passes Next words h
more-pieces-then (piece ∷ pieces) passes Next [] h = absurd h
more-pieces-then (piece ∷ pieces) passes Next (k ∷ []) h = absurd h.1
more-pieces-then (piece ∷ pieces) passes Next (k ∷ w ∷ words) h = more-pieces-then pieces passes Next words h.1.1

pieces-then :
    (pieces : List Piece) (passes : List PassArg) (Next : Spelling) (words : List (List ℕ)) →
    SpellsPieces pieces (SpellsPassList passes Next) words → ArePassesInRange passes
pieces-then [] passes Next words h = absurd h
pieces-then (piece ∷ pieces) passes Next [] h = absurd h
pieces-then (piece ∷ pieces) passes Next (w ∷ words) h = more-pieces-then pieces passes Next words h.1

call-passes :
    (keyword : List ℕ) (P Q : List ℕ → Type 0) (pieces : List Piece) (passes : List PassArg) (Next : Spelling) (words : List (List ℕ)) →
    Then keyword (First P (First Q (SpellsPieces pieces (SpellsPassList passes Next)))) words → ArePassesInRange passes
call-passes keyword P Q pieces passes Next [] h = absurd h
call-passes keyword P Q pieces passes Next (k ∷ []) h = absurd h.1
call-passes keyword P Q pieces passes Next (k ∷ w ∷ []) h = absurd h.1.1
call-passes keyword P Q pieces passes Next (k ∷ w ∷ v ∷ words) h = pieces-then pieces passes Next words h.1.1.1

return-passes :
    (keyword : List ℕ) (pieces : List Piece) (passes : List PassArg) (Next : Spelling) (words : List (List ℕ)) →
    Then keyword (SpellsPieces pieces (SpellsPassList passes Next)) words → ArePassesInRange passes
return-passes keyword pieces passes Next [] h = absurd h
return-passes keyword pieces passes Next (k ∷ words) h = pieces-then pieces passes Next words h.1

sendn-ports :
    (events user : ℕ) (ports : List FdArg) (tables : Tables) (process : ℕ) (words : List (List ℕ)) →
    SpellsLine tables process (line.SendN events user ports) words → AreInRange ports
sendn-ports events user ports tables process [] h = absurd h
sendn-ports events user ports tables process (k ∷ []) h = absurd h.1
sendn-ports events user ports tables process (k ∷ w ∷ []) h = absurd h.1.1
sendn-ports events user ports tables process (k ∷ w ∷ v ∷ words) h = each-fd ports _ words h.1.1.1.2

spelled-same :
    (slots : List Slot) (values : Variables) (x : Line) (tables : Tables) (process : ℕ) (words : List (List ℕ)) →
    Holds slots values → SpellsLine tables process x words → request_at (slot_value slots) x ≡ request_at values x
spelled-same slots values (line.Call var fd bytes pass rsize) tables process words h s =
    rw (
      fd-same slots values fd h (fd-second (codes "call") _ fd _ words s),
      data-same slots values bytes h,
      passes-same slots values pass h (call-passes (codes "call") _ _ bytes pass _ words s),
    )
    refl
spelled-same slots values (line.Return bytes pass) tables process words h s =
    rw
    (data-same slots values bytes h, passes-same slots values pass h (return-passes (codes "return") bytes pass _ words s))
    refl
spelled-same slots values (line.Revoke fd) tables process words h s =
    ap request.Revoke (fd-same slots values fd h (fd-first (codes "revoke") fd _ words s))
spelled-same slots values (line.Bind fd) tables process words h s =
    ap request.Bind (fd-same slots values fd h (fd-first (codes "bind") fd _ words s))
spelled-same slots values (line.Info fd) tables process words h s =
    ap request.Info (fd-same slots values fd h (fd-first (codes "info") fd _ words s))
spelled-same slots values (line.GetParam fd param) tables process words h s =
    ap (λ (x : Fd). request.GetParam x param) (fd-same slots values fd h (fd-first (codes "getparam") fd _ words s))
spelled-same slots values (line.SetParam fd param value) tables process words h s =
    ap (λ (x : Fd). request.SetParam x param value) (fd-same slots values fd h (fd-first (codes "setparam") fd _ words s))
spelled-same slots values (line.Close fd) tables process words h s =
    ap request.Close (fd-same slots values fd h (fd-first (codes "close") fd _ words s))
spelled-same slots values (line.Dup var fd) tables process words h s =
    ap request.Dup (fd-same slots values fd h (fd-second (codes "dup") _ fd _ words s))
spelled-same slots values (line.Attach fd path) tables process words h s =
    ap (λ (x : Fd). request.Attach x path) (fd-same slots values fd h (fd-first (codes "attach") fd _ words s))
spelled-same slots values (line.Write fd bytes) tables process words h s =
    rw (fd-same slots values fd h (fd-first (codes "write") fd _ words s), data-same slots values bytes h) refl
spelled-same slots values (line.Read var fd most) tables process words h s =
    ap (λ (x : Fd). request.Read x most) (fd-same slots values fd h (fd-second (codes "read") _ fd _ words s))
spelled-same slots values (line.Associate port object events user) tables process words h s =
    rw (
      fd-same slots values port h (fd-first (codes "associate") port _ words s),
      fd-same slots values object h (fd-second (codes "associate") _ object _ words s),
    )
    refl
spelled-same slots values (line.Dissociate port object) tables process words h s =
    rw (
      fd-same slots values port h (fd-first (codes "dissociate") port _ words s),
      fd-same slots values object h (fd-second (codes "dissociate") _ object _ words s),
    )
    refl
spelled-same slots values (line.Get port wait) tables process words h s =
    ap (λ (x : Fd). request.Get x wait) (fd-same slots values port h (fd-first (codes "get") port _ words s))
spelled-same slots values (line.GetN port most least wait) tables process words h s =
    ap (λ (x : Fd). request.GetN x most least wait) (fd-same slots values port h (fd-first (codes "getn") port _ words s))
spelled-same slots values (line.Send port events user) tables process words h s =
    ap (λ (x : Fd). request.Send x events user) (fd-same slots values port h (fd-first (codes "send") port _ words s))
spelled-same slots values (line.SendN events user ports) tables process words h s =
    ap
    (λ (xs : List Fd). request.SendN xs events user)
    (fds-same slots values ports h (sendn-ports events user ports tables process words s))
spelled-same slots values (line.Alert port mode events user) tables process words h s =
    ap (λ (x : Fd). request.Alert x mode events user) (fd-same slots values port h (fd-first (codes "alert") port _ words s))
spelled-same slots values (line.TimerCreate port user) tables process words h s =
    ap (λ (x : Fd). request.TimerCreate x user) (fd-same slots values port h (fd-first (codes "tcreate") port _ words s))
spelled-same slots values (line.Work var op bytes) tables process words h s =
    ap (λ (xs : List ℕ). request.Work op xs) (data-same slots values bytes h)
spelled-same slots values (line.Ncd var bytes) tables process words h s = ap request.Ncd (data-same slots values bytes h)
spelled-same slots values x tables process words h s = refl

pub request-same :
    (slots : List Slot) (values : Variables) (x : Line) → Holds slots values → IsSpelledLine x →
    request_at (slot_value slots) x ≡ request_at values x
request-same slots values x h s = spelled-same slots values x s.tables s.process s.words h s.spells
