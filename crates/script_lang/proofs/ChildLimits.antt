-- What the limits of children leave as it is.
use Rattle.std.proofs.Common.{◌≡◌, List, [], ◌∷◌, ◌++◌, length, Option, Some, None, map, refl, sym, ap, ◌∙◌}
use Rattle.std.proofs.lemmas.List.{append_assoc, append-nil, length-map}
use Rattle.line_text.specs.Types.{Pid}
use Rattle.script_lang.specs.declared.script.ScriptProcess.{ScriptProcess}
use Rattle.script_lang.specs.Scripts.{process_item, process_item_of, with_limit_from, with_limits}

-- these processes with their limits, where those stand before
abbrev pub limited : List ScriptProcess → List ScriptProcess → List ScriptProcess
limited before [] = []
limited before (process ∷ processes) = with_limit_from before process.parent process ∷ limited (before ++ with_limit_from before process.parent process ∷ []) processes

pub with_limits-is : (before processes : List ScriptProcess) → with_limits before processes ≡ before ++ limited before processes
with_limits-is before [] = sym (append-nil before)
with_limits-is before (process ∷ processes) =
    let one : ScriptProcess = with_limit_from before process.parent process in
    with_limits-is (before ++ one ∷ []) processes ∙ append_assoc before (one ∷ []) (limited (before ++ one ∷ []) processes)

-- what is of a process whatever its limit is
pub record IsKept {A : Type 0} (of : ScriptProcess → A) : Type 0 where
  pub same : (before : List ScriptProcess) (process : ScriptProcess) → of (with_limit_from before process.parent process) ≡ of process

pub kept-limited : {A : Type 0} (of : ScriptProcess → A) → IsKept of → (before processes : List ScriptProcess) → map of (limited before processes) ≡ map of processes
kept-limited of kept before [] = refl
kept-limited of kept before (process ∷ processes) =
    rw (kept.same before process, kept-limited of kept (before ++ with_limit_from before process.parent process ∷ []) processes) refl

pub kept-with_limits : {A : Type 0} (of : ScriptProcess → A) → IsKept of → (processes : List ScriptProcess) → map of (with_limits [] processes) ≡ map of processes
kept-with_limits of kept processes = ap (map of) (with_limits-is [] processes) ∙ kept-limited of kept [] processes

name_at : (before : List ScriptProcess) (parent : Option Pid) (process : ScriptProcess) → (with_limit_from before parent process).name ≡ process.name
name_at before None process = refl
name_at before (Some parent) process = refl

pub name_kept : IsKept (λ process. process.name)
name_kept = record { same = λ before process. name_at before process.parent process }

parent_at : (before : List ScriptProcess) (parent : Option Pid) (process : ScriptProcess) → (with_limit_from before parent process).parent ≡ process.parent
parent_at before None process = refl
parent_at before (Some parent) process = refl

pub parent_kept : IsKept (λ process. process.parent)
parent_kept = record { same = λ before process. parent_at before process.parent process }

item_at : (before : List ScriptProcess) (parent : Option Pid) (process : ScriptProcess) → process_item_of parent (with_limit_from before parent process) ≡ process_item_of parent process
item_at before None process = refl
item_at before (Some parent) process = refl

pub item_kept : IsKept process_item
item_kept = record {
  same = λ before process.
      ap (λ parent. process_item_of parent (with_limit_from before process.parent process)) (parent_at before process.parent process) ∙ item_at before process.parent process;
}

pub length-with_limits : (processes : List ScriptProcess) → length (with_limits [] processes) ≡ length processes
length-with_limits processes =
    sym (length-map (with_limits [] processes) (λ process. process.name)) ∙ ap length (kept-with_limits (λ process. process.name) name_kept processes) ∙ length-map processes (λ process. process.name)
