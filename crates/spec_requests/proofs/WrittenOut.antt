-- Writing out the loops of a body gives what copying the loops of its tree gives.
use Rattle.std.proofs.Common.{◌≡◌, ℕ, ◌+◌, List, [], ◌∷◌, ◌++◌, Some, refl, ap, ◌∙◌, append_assoc, append-nil, arith, zero, suc}
use Rattle.script_lang.specs.Types.{Cond, Kind, Line}
use Rattle.line_forms.specs.declared.line.Kind.TheVariants as kind
use Rattle.line_forms.specs.declared.line.Line.TheVariants.{Repeat, If, End}
use Rattle.line_forms.specs.Words.{depth_after, kind_of}
use Rattle.spec_requests.specs.Steps.{BodyStep, blocks_of, innermost_block, outer_blocks, line_before, steps_of_body, times_of, tested_condition}
use Rattle.spec_requests.specs.Steps.BodyStep.{Do}
use Rattle.spec_requests.specs.Trees.{Tree, AreCommands, lines_of_tree, steps_of_tree, depth_with, depth_after_lines, IsClosed, IsTreeOf, HasTree}
use Rattle.spec_requests.specs.Trees.Tree.{NoMore, Command, Loop, OnlyIf}

-- the lines that open and close blocks

pub Loop-line : (line : Line) → kind_of line ≡ kind.Loop → line ≡ Repeat (times_of line)
Loop-line (Repeat times) h = refl
Loop-line line h = cc

pub Test-line : (line : Line) → kind_of line ≡ kind.Test → line ≡ If (tested_condition line)
Test-line (If cond) h = refl
Test-line line h = cc

pub Closing-line : (line : Line) → kind_of line ≡ kind.Closing → line ≡ End
Closing-line End h = refl
Closing-line line h = cc

-- a tree's lines stand before others: its steps are before those of the innermost block
record Stand (tree : Tree) (after : List Line) : Type 0 where
  first : innermost_block (blocks_of (lines_of_tree tree ++ after)) ≡ steps_of_tree tree ++ innermost_block (blocks_of after)
  others : outer_blocks (blocks_of (lines_of_tree tree ++ after)) ≡ outer_blocks (blocks_of after)

command-first :
    (line : Line) (blocks : List (List BodyStep)) → kind_of line ≡ kind.Act →
    innermost_block (line_before line (kind_of line) blocks) ≡ Do line ∷ innermost_block blocks
command-first line blocks h = rw h refl

command-others :
    (line : Line) (blocks : List (List BodyStep)) → kind_of line ≡ kind.Act →
    outer_blocks (line_before line (kind_of line) blocks) ≡ outer_blocks blocks
command-others line blocks h = rw h refl

lines_of_tree-stands : (tree : Tree) (after : List Line) → AreCommands tree → Stand tree after
lines_of_tree-stands NoMore after h = record { first = refl; others = refl }
lines_of_tree-stands (Command line rest) after h =
    let inner : Stand rest after = lines_of_tree-stands rest after h.1
    in record {
      first = command-first line (blocks_of (lines_of_tree rest ++ after)) h.0 ∙ ap (λ (steps : List BodyStep). Do line ∷ steps) inner.first;
      others = command-others line (blocks_of (lines_of_tree rest ++ after)) h.0 ∙ inner.others;
    }
lines_of_tree-stands (Loop times block rest) after h =
    let closed : Stand block (End ∷ lines_of_tree rest ++ after) = lines_of_tree-stands block (End ∷ lines_of_tree rest ++ after) h.0
    in let inner : Stand rest after = lines_of_tree-stands rest after h.1
    in record {
      first = rw (append_assoc (lines_of_tree block) (End ∷ lines_of_tree rest) after, closed.first, closed.others, append-nil, inner.first, append_assoc) refl;
      others = rw (append_assoc (lines_of_tree block) (End ∷ lines_of_tree rest) after, closed.others, inner.others) refl;
    }
lines_of_tree-stands (OnlyIf cond block rest) after h =
    let closed : Stand block (End ∷ lines_of_tree rest ++ after) = lines_of_tree-stands block (End ∷ lines_of_tree rest ++ after) h.0
    in let inner : Stand rest after = lines_of_tree-stands rest after h.1
    in record {
      first = rw (append_assoc (lines_of_tree block) (End ∷ lines_of_tree rest) after, closed.first, closed.others, append-nil, inner.first, append_assoc) refl;
      others = rw (append_assoc (lines_of_tree block) (End ∷ lines_of_tree rest) after, closed.others, inner.others) refl;
    }

lines_of_tree-steps_of_body : (tree : Tree) → AreCommands tree → steps_of_body (lines_of_tree tree) ≡ steps_of_tree tree
lines_of_tree-steps_of_body tree h =
    let e : innermost_block (blocks_of (lines_of_tree tree ++ [])) ≡ steps_of_tree tree ++ [] = (lines_of_tree-stands tree [] h).first
    in ap steps_of_body (append-nil-back (lines_of_tree tree)) ∙ e ∙ append-nil (steps_of_tree tree)
  where
    append-nil-back : (lines : List Line) → lines ≡ lines ++ []
    append-nil-back lines = rw append-nil refl

pub tree-copies : (body : List Line) (tree : Tree) → IsTreeOf body tree → steps_of_body body ≡ steps_of_tree tree
tree-copies body tree h =
    let same : lines_of_tree tree ≡ body = h.lines
    in rw (← same) (lines_of_tree-steps_of_body tree h.commands)

-- from a place of a body on: the tree of what is left of each block that is open there, innermost first

abbrev first_tree : List Tree → Tree
first_tree [] = NoMore
first_tree (tree ∷ trees) = tree

abbrev other_trees : List Tree → List Tree
other_trees [] = []
other_trees (tree ∷ trees) = trees

abbrev tree_before : Line → Kind → List Tree → List Tree
tree_before line kind.Act trees = Command line (first_tree trees) ∷ other_trees trees
tree_before line kind.Loop trees =
    Loop (times_of line) (first_tree trees) (first_tree (other_trees trees)) ∷ other_trees (other_trees trees)
tree_before line kind.Test trees =
    OnlyIf (tested_condition line) (first_tree trees) (first_tree (other_trees trees)) ∷ other_trees (other_trees trees)
tree_before line kind.Closing trees = NoMore ∷ trees

abbrev trees_of : List Line → List Tree
trees_of [] = []
trees_of (line ∷ lines) = tree_before line (kind_of line) (trees_of lines)

-- the lines of these trees, where so many blocks are open
abbrev flats : ℕ → List Tree → List Line
flats zero trees = lines_of_tree (first_tree trees)
flats (suc depth) trees = lines_of_tree (first_tree trees) ++ End ∷ flats depth (other_trees trees)

flats-Command :
    (line : Line) (depth : ℕ) (trees : List Tree) →
    flats depth (Command line (first_tree trees) ∷ other_trees trees) ≡ line ∷ flats depth trees
flats-Command line zero trees = refl
flats-Command line (suc depth) trees = refl

flats-Loop :
    (times depth : ℕ) (trees : List Tree) →
    flats depth (Loop times (first_tree trees) (first_tree (other_trees trees)) ∷ other_trees (other_trees trees))
    ≡ Repeat times ∷ flats (suc depth) trees
flats-Loop times zero trees = refl
flats-Loop times (suc depth) trees =
    ap
    (λ (lines : List Line). Repeat times ∷ lines)
    (append_assoc
    (lines_of_tree (first_tree trees))
    (End ∷ lines_of_tree (first_tree (other_trees trees)))
    (End ∷ flats depth (other_trees (other_trees trees))))

flats-OnlyIf :
    (cond : Cond) (depth : ℕ) (trees : List Tree) →
    flats depth (OnlyIf cond (first_tree trees) (first_tree (other_trees trees)) ∷ other_trees (other_trees trees))
    ≡ If cond ∷ flats (suc depth) trees
flats-OnlyIf cond zero trees = refl
flats-OnlyIf cond (suc depth) trees =
    ap
    (λ (lines : List Line). If cond ∷ lines)
    (append_assoc
    (lines_of_tree (first_tree trees))
    (End ∷ lines_of_tree (first_tree (other_trees trees)))
    (End ∷ flats depth (other_trees (other_trees trees))))

-- one line more, where what is said of the lines after it is known
trees-lines_of_tree-line :
    (line : Line) (lines : List Line) (k : Kind) (d : ℕ) → kind_of line ≡ k →
    ((e : ℕ) → depth_after_lines e lines ≡ Some 0 → flats e (trees_of lines) ≡ lines) →
    depth_with (depth_after d k) (λ after. depth_after_lines after lines) ≡ Some 0 →
    flats d (tree_before line k (trees_of lines)) ≡ line ∷ lines
trees-lines_of_tree-line line lines kind.Act d same inner nested =
    flats-Command line d (trees_of lines) ∙ ap (λ (after : List Line). line ∷ after) (inner d nested)
trees-lines_of_tree-line line lines kind.Loop d same inner nested =
    let e : line ≡ Repeat (times_of line) = Loop-line line same
    in let deeper : d + 1 ≡ suc d = omega arith
    in let there : flats (suc d) (trees_of lines) ≡ lines = rw deeper at (inner (d + 1) nested)
    in let loop : flats d (tree_before line kind.Loop (trees_of lines)) ≡ Repeat (times_of line) ∷ flats (suc d) (trees_of lines) =
    flats-Loop (times_of line) d (trees_of lines)
    in cc
trees-lines_of_tree-line line lines kind.Test d same inner nested =
    let e : line ≡ If (tested_condition line) = Test-line line same
    in let deeper : d + 1 ≡ suc d = omega arith
    in let there : flats (suc d) (trees_of lines) ≡ lines = rw deeper at (inner (d + 1) nested)
    in let choice : flats d (tree_before line kind.Test (trees_of lines)) ≡ If (tested_condition line) ∷ flats (suc d) (trees_of lines) =
    flats-OnlyIf (tested_condition line) d (trees_of lines)
    in cc
trees-lines_of_tree-line line lines kind.Closing zero same inner nested = cc
trees-lines_of_tree-line line lines kind.Closing (suc d) same inner nested =
    let e : line ≡ End = Closing-line line same in rw (inner d nested, e) refl

trees-lines_of_tree : (lines : List Line) (depth : ℕ) → depth_after_lines depth lines ≡ Some 0 → flats depth (trees_of lines) ≡ lines
trees-lines_of_tree [] depth h = let none : depth ≡ 0 = cc in rw none refl
trees-lines_of_tree (line ∷ lines) depth h = trees-lines_of_tree-line line lines (kind_of line) depth refl (λ e nested. trees-lines_of_tree lines e nested) h

abbrev AllCommands : List Tree → Type 0
AllCommands [] = Unit {0}
AllCommands (tree ∷ trees) = AreCommands tree × AllCommands trees

first-commands : (trees : List Tree) → AllCommands trees → AreCommands (first_tree trees)
first-commands [] h = tt
first-commands (tree ∷ trees) h = h.0

other-commands : (trees : List Tree) → AllCommands trees → AllCommands (other_trees trees)
other-commands [] h = tt
other-commands (tree ∷ trees) h = h.1

trees-commands : (lines : List Line) → AllCommands (trees_of lines)
trees-commands [] = tt
trees-commands (line ∷ lines) = by_kind (kind_of line) refl (trees_of lines) (trees-commands lines)
  where
    by_kind : (k : Kind) → kind_of line ≡ k → (trees : List Tree) → AllCommands trees → AllCommands (tree_before line k trees)
    by_kind kind.Act same trees h = ((same, first-commands trees h), other-commands trees h)
    by_kind kind.Loop same trees h =
        ((first-commands trees h, first-commands _ (other-commands trees h)), other-commands _ (other-commands trees h))
    by_kind kind.Test same trees h =
        ((first-commands trees h, first-commands _ (other-commands trees h)), other-commands _ (other-commands trees h))
    by_kind kind.Closing same trees h = (tt, h)

pub nested-tree : (body : List Line) → IsClosed body → HasTree body
nested-tree body h =
    record {
      tree = first_tree (trees_of body);
      is_tree = record { commands = first-commands (trees_of body) (trees-commands body); lines = trees-lines_of_tree body 0 h };
    }
