-- The steps of a body: its commands in their order with every `repeat` written out as copies of its block, and its tests.
-- They are those of the tree of its items with the loops copied: Trees.antt says it so, and `steps_of_body::trees` that both
-- agree. A body is a flat list of lines, in which an `end` closes the block that was opened last; so here the lines are
-- taken from the last to the first, with a list of steps for each block that is open.
use Rattle.std.specs.Prelude.{ℕ, zero, suc, Bool, List, [], ◌∷◌, ◌++◌, length, if◌then◌else◌}
use Rattle.script_lang.specs.Types.{Cond, Kind, Line}
use Rattle.line_forms.specs.declared.line.Cond.TheVariants.{Good}
use Rattle.line_forms.specs.declared.line.Kind.TheVariants.{Act, Loop, Test, Closing}
use Rattle.line_forms.specs.declared.line.Line.TheVariants.{Repeat, If}
use Rattle.line_forms.specs.Words.{kind_of}

pub data BodyStep : Type 0 where
  -- a command
  Do : Line → BodyStep
  -- the next so many steps are taken where this holds
  When : Cond → ℕ → BodyStep

-- how often the block of a `repeat` is run
abbrev pub times_of : Line → ℕ
times_of (Repeat times) = times
times_of line = 0

-- what an `if` tests
abbrev pub tested_condition : Line → Cond
tested_condition (If cond) = cond
tested_condition line = Good

abbrev pub copies : ℕ → List BodyStep → List BodyStep
copies zero steps = []
copies (suc n) steps = steps ++ copies n steps

abbrev pub innermost_block : List (List BodyStep) → List BodyStep
innermost_block [] = []
innermost_block (block ∷ blocks) = block

abbrev pub outer_blocks : List (List BodyStep) → List (List BodyStep)
outer_blocks [] = []
outer_blocks (block ∷ blocks) = blocks

-- these steps before the rest of the innermost block
abbrev pub before_innermost : List BodyStep → List (List BodyStep) → List (List BodyStep)
before_innermost steps blocks = (steps ++ innermost_block blocks) ∷ outer_blocks blocks

abbrev pub tested_steps : Cond → List BodyStep → List BodyStep
tested_steps cond block = When cond (length block) ∷ block

-- A line before lines whose blocks are these: a `repeat` and an `if` begin the innermost of them, an `end` ends one of its
-- own.
abbrev pub line_before : Line → Kind → List (List BodyStep) → List (List BodyStep)
line_before line Act blocks = before_innermost (Do line ∷ []) blocks
line_before line Loop blocks = before_innermost (copies (times_of line) (innermost_block blocks)) (outer_blocks blocks)
line_before line Test blocks = before_innermost (tested_steps (tested_condition line) (innermost_block blocks)) (outer_blocks blocks)
line_before line Closing blocks = [] ∷ blocks

-- from a place of a body on: what is left of each block that is open there, innermost first and the body itself last
abbrev pub blocks_of : List Line → List (List BodyStep)
blocks_of [] = []
blocks_of (line ∷ lines) = line_before line (kind_of line) (blocks_of lines)

-- the steps of a body
abbrev pub steps_of_body : List Line → List BodyStep
steps_of_body body = innermost_block (blocks_of body)

-- The steps from the next command on, where so many are left out: a test that does not hold leaves out those after it.
abbrev pub next_steps : (Cond → Bool) → ℕ → List BodyStep → List BodyStep
next_steps is_met skip [] = []
next_steps is_met (suc skip) (step ∷ steps) = next_steps is_met skip steps
next_steps is_met zero (Do line ∷ steps) = Do line ∷ steps
next_steps is_met zero (When cond n ∷ steps) = next_steps is_met (if is_met cond then 0 else n) steps
