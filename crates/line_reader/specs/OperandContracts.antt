-- What the reader's own contracts say.
use Rattle.std.specs.Prelude.{ℕ, ◌≡◌, List, [], ◌∷◌, Option, Some, None, Result, Ok, Err, MatchResult}
use Rattle.line_reader.specs.Types.{Reason}
use Rattle.line_reader.specs.declared.fault.Fault.{Fault}
use Rattle.line_reader.specs.declared.fault.Fault.TheVariants.{Bad}
use Rattle.line_reader.specs.Combinators.{Rest, Reader}

-- a fault is the reading's reason, or want of memory
abbrev pub Fails : {A : Type 0} → Result A Reason → Fault → Type 0
Fails answer fault = (reason : Reason) → fault ≡ Bad reason → answer ≡ Err reason

-- a call gave what this reader gives, and left what it leaves
abbrev pub Gives : {A : Type 0} → Reader A → Rest → A → Rest → Type 0
Gives read old value new = read old ≡ Ok (value, new)

abbrev pub Reads : {A : Type 0} → Reader A → Rest → Result A Fault → Rest → Type 0
Reads read old result new = MatchResult result (λ value. Gives read old value new) (λ fault. Fails (read old) fault)

-- a call gave what this reader gives, with what it leaves; after a fault nothing is left to read
abbrev pub ReadsOn : {A : Type 0} → Reader A → Rest → Result (A × Rest) Fault → Type 0
ReadsOn read old result = MatchResult result (λ found. read old ≡ Ok found) (λ fault. Fails (read old) fault)

abbrev pub first_word : List (List ℕ) → Option (List ℕ)
first_word [] = None
first_word (word ∷ words) = Some word
