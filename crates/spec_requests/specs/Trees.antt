-- A body as the tree of its items, for a reader who doubts that its blocks are written out as they should be.
use Rattle.std.specs.Prelude.{ℕ, ◌≡◌, List, [], ◌∷◌, ◌++◌, Option, Some, None}
use Rattle.script_lang.specs.Types.{Cond, Line}
use Rattle.line_forms.specs.declared.line.Kind.TheVariants.{Act}
use Rattle.line_forms.specs.declared.line.Line.TheVariants.{Repeat, If, End}
use Rattle.line_forms.specs.Words.{depth_after, kind_of}
use Rattle.spec_requests.specs.Steps.{BodyStep, copies, tested_steps}
use Rattle.spec_requests.specs.Steps.BodyStep.{Do}

-- an item, and the items after it
pub data Tree : Type 0 where
  NoMore : Tree
  Command : Line → Tree → Tree
  -- how often its block is run, the block, and what is after it
  Loop : ℕ → Tree → Tree → Tree
  -- what it tests, the block that is run where this holds, and what is after it
  OnlyIf : Cond → Tree → Tree → Tree

abbrev pub AreCommands : Tree → Type 0
AreCommands NoMore = Unit {0}
AreCommands (Command line rest) = (kind_of line ≡ Act) × AreCommands rest
AreCommands (Loop times block rest) = AreCommands block × AreCommands rest
AreCommands (OnlyIf cond block rest) = AreCommands block × AreCommands rest

-- its lines
abbrev pub lines_of_tree : Tree → List Line
lines_of_tree NoMore = []
lines_of_tree (Command line rest) = line ∷ lines_of_tree rest
lines_of_tree (Loop times block rest) = Repeat times ∷ lines_of_tree block ++ End ∷ lines_of_tree rest
lines_of_tree (OnlyIf cond block rest) = If cond ∷ lines_of_tree block ++ End ∷ lines_of_tree rest

-- its commands and tests, with the loops copied
abbrev pub steps_of_tree : Tree → List BodyStep
steps_of_tree NoMore = []
steps_of_tree (Command line rest) = Do line ∷ steps_of_tree rest
steps_of_tree (Loop times block rest) = copies times (steps_of_tree block) ++ steps_of_tree rest
steps_of_tree (OnlyIf cond block rest) = tested_steps cond (steps_of_tree block) ++ steps_of_tree rest

abbrev pub depth_with : Option ℕ → (ℕ → Option ℕ) → Option ℕ
depth_with None after = None
depth_with (Some depth) after = after depth

-- how many blocks are open after these lines, where so many are before them; none where a line closes the body
abbrev pub depth_after_lines : ℕ → List Line → Option ℕ
depth_after_lines depth [] = Some depth
depth_after_lines depth (line ∷ lines) = depth_with (depth_after depth (kind_of line)) (λ after. depth_after_lines after lines)

-- every block of a body is closed in it
abbrev pub IsClosed : List Line → Type 0
IsClosed body = depth_after_lines 0 body ≡ Some 0

-- the tree of a body
pub record IsTreeOf (body : List Line) (tree : Tree) : Type 0 where
  pub commands : AreCommands tree
  pub lines : lines_of_tree tree ≡ body

pub record HasTree (body : List Line) : Type 0 where
  pub tree : Tree
  pub is_tree : IsTreeOf body tree
