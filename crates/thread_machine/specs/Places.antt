-- Where a machine stands in a body: before a line, in blocks of which some turns are left.
use Rattle.std.specs.Prelude.{ℕ, zero, suc, ◌+◌, ◌-◌, ◌==◌, ◌≡◌, ◌<◌, ◌≤◌, Bool, true, false, if◌then◌else◌, List, [], ◌∷◌, ◌++◌, length, drop}
use Rattle.script_lang.specs.Types.{Cond, Kind, Line}
use Rattle.line_forms.specs.declared.line.Kind.TheVariants.{Act, Loop, Test, Closing}
use Rattle.line_forms.specs.Words.{kind_of}
use Rattle.spec_requests.specs.Words.{BodyStep, blocks_of, copies, innermost_block, next_steps, outer_blocks, steps_of_body, times_of}
use Rattle.thread_machine.specs.declared.place.Place.{Place}
use Rattle.thread_machine.specs.declared.stack.Turns.{Turns}

-- what is ahead: the rest of the innermost block, the copies of it that are left, and then the blocks around it
abbrev pub steps_from_blocks : List Line → List Turns → List (List BodyStep) → List BodyStep
steps_from_blocks body [] blocks = innermost_block blocks
steps_from_blocks body (turns ∷ outer) blocks =
    innermost_block blocks ++ (copies turns.left (steps_of_body (drop turns.start body)) ++ steps_from_blocks body outer (outer_blocks blocks))

abbrev pub blocks_at : List Line → ℕ → List (List BodyStep)
blocks_at body position = blocks_of (drop position body)

abbrev pub steps_from : List Line → Place → List BodyStep
steps_from body place = steps_from_blocks body place.blocks (blocks_at body place.position)

-- the first of these lines is a command, or none is left
abbrev pub AtCommand : List Line → Type 0
AtCommand [] = Unit {0}
AtCommand (line ∷ lines) = kind_of line ≡ Act

-- the first of these lines is a command
abbrev pub BeginsWithCommand : List Line → Type 0
BeginsWithCommand [] = ⊥
BeginsWithCommand (line ∷ lines) = kind_of line ≡ Act

-- a line with the lines after it, where so many blocks are open before it
abbrev pub IsNestedLine : Kind → ℕ → Line → List Line → (ℕ → Type 0) → Type 0
IsNestedLine Act depth line lines After = After depth
IsNestedLine Loop depth line lines After = (depth < 8) × (1 ≤ times_of line) × BeginsWithCommand lines × After (suc depth)
IsNestedLine Test depth line lines After = (depth < 8) × After (suc depth)
IsNestedLine Closing zero line lines After = ⊥
IsNestedLine Closing (suc depth) line lines After = After depth

-- These lines close each block of the so many that are open before them and of their own, and no other. At most 8 are open
-- at once, and each loop begins with a command.
abbrev pub IsNested : ℕ → List Line → Type 0
IsNested depth [] = depth ≡ 0
IsNested depth (line ∷ lines) = IsNestedLine (kind_of line) depth line lines (λ after. IsNested after lines)

-- where a turn of a block begins that is inside so many others
pub record IsStart (body : List Line) (start depth : ℕ) (blocks : List (List BodyStep)) : Type 0 where
  pub around : outer_blocks (blocks_at body start) ≡ outer_blocks blocks
  pub nested : IsNested (suc depth) (drop start body)
  pub command : BeginsWithCommand (drop start body)

-- each open block that has a turn left has its start
abbrev pub AreOpen : List Line → List Turns → List (List BodyStep) → Type 0
AreOpen body [] blocks = Unit {0}
AreOpen body (turns ∷ outer) blocks =
    (0 < turns.left → IsStart body turns.start (length outer) blocks) × AreOpen body outer (outer_blocks blocks)

pub record StandsAt (body : List Line) (place : Place) : Type 0 where
  pub few : length place.blocks ≤ 8
  pub nested : IsNested (length place.blocks) (drop place.position body)
  pub around : AreOpen body place.blocks (blocks_at body place.position)

-- before the first line
abbrev pub first_place : Place
first_place = record { position = 0; blocks = [] }

-- how a place moves

abbrev pub depth_after_line : ℕ → Kind → ℕ
depth_after_line depth Act = depth
depth_after_line depth Loop = depth + 1
depth_after_line depth Test = depth + 1
depth_after_line depth Closing = depth - 1

-- from a position in a block that is inside so many others to the one after the block
pub record Leaves (body : List Line) (depth from to : ℕ) : Type 0 where
  pub blocks : blocks_at body to ≡ outer_blocks (blocks_at body from)
  pub nested : IsNested depth (drop to body)
  pub later : from ≤ to

-- into a block of which so many turns are left after this one
abbrev pub place_in_block : Place → ℕ → Place
place_in_block place left =
    record {
      position = place.position + 1;
      blocks = record { start = place.position + 1; left = left } ∷ place.blocks;
    }

abbrev pub place_at_next_turn : ℕ → Turns → List Turns → Place
place_at_next_turn position turns outer =
    if turns.left == 0
    then record { position = position + 1; blocks = outer }
    else record { position = turns.start; blocks = record { start = turns.start; left = turns.left - 1 } ∷ outer }

-- at a block's end: to the start of its next turn, or after it
abbrev pub place_after_end_in : ℕ → List Turns → Place
place_after_end_in position [] = record { position = position; blocks = [] }
place_after_end_in position (turns ∷ outer) = place_at_next_turn position turns outer

abbrev pub place_after_end : Place → Place
place_after_end place = place_after_end_in place.position place.blocks

-- whether the block is left behind
abbrev pub is_left : List Turns → Bool
is_left [] = false
is_left (turns ∷ outer) = turns.left == 0

-- over a line that is no command, if one is there; where no other may follow, a command does
pub record PassesLine (body : List Line) (is_met : Cond → Bool) (old : Place) (more : Bool) (new : Place) : Type 0 where
  pub stands : StandsAt body new
  pub ahead : next_steps is_met 0 (steps_from body old) ≡ next_steps is_met 0 (steps_from body new)
  pub command : more ≡ false → AtCommand (drop new.position body)
  pub moved : more ≡ true → (old.position < new.position) × (old.position < length body)
