-- Where an act leaves rows, references, pipes and processes as they are, and no other associations or timers, ports are told nothing.
use Rattle.std.specs.Prelude.{ℕ, ◌≡◌, ◌==◌, ◌&&◌, List, [], ◌∷◌, Option, true, false, not, length, filter, All}
use Rattle.std.proofs.Common.{refl, sym, ap, ap₂, subst, ◌∙◌}
use Rattle.std.proofs.lemmas.List.Elements.{All-filter, All-weaker}
use Rattle.dk_base.specs.declared.object.Obj.TheVariants as obj
use Rattle.dk_base.specs.ByNumber.{at_number}
use Rattle.spec_records.specs.declared.association.Association.{Association}
use Rattle.spec_records.specs.declared.timer.Timer.{Timer}
use Rattle.spec_records.specs.Words.{AssociationList, bytes_of, has_other_number, is_live_in, is_object, is_to_fire, names_its_object, ready_in, ready_out, retrieve_association, retrieve_associations, told_events}
use Rattle.spec_kernel.specs.Types.{Obj, Request}
use Rattle.spec_kernel.specs.Words.{Channels, State, act, associations_in, holdings, is_live_process, ready_at, references_of, settle_pools, step, timers_in}
use Rattle.spec_kernel.proofs.Settling.{channels-settle_pools, processes-settle_pools, settle_pools-alone}
use Rattle.law_states.specs.Told.{AreTold}
use Rattle.law_states.proofs.NoticeSteps.{holdings-settle}
use Rattle.law_states.proofs.Telling.{tells_nothing}

-- of an act before which nothing was to be told
pub record IsQuiet (m n : State) : Type 0 where
  pub tables : n.tables ≡ m.tables
  pub held : holdings n ≡ holdings m
  pub pipes : n.channels.pipes ≡ m.channels.pipes
  pub rows : All (λ a. names_its_object m.tables a ≡ true) (associations_in n)
  pub wait : All (λ a. is_to_fire (ready_at m) a ≡ false) (associations_in n)
  pub lives : (p : ℕ) → is_live_process n p ≡ is_live_process m p
  pub timers : All (λ t. is_live_process m t.process.0 ≡ true) (timers_in n)

-- those that are left when some are retrieved
retrieved_all :
    (P : Association → Type 0) (ns : List ℕ) (list : AssociationList) → All P list.associations → All P (retrieve_associations list ns).associations
retrieved_all P [] list h = h
retrieved_all P (n ∷ ns) list h = retrieved_all P ns (retrieve_association list n) (All-filter (has_other_number n) P list.associations h)

-- where only ports change
pub quiet_ports :
    (m n : State) → AreTold m → n.tables ≡ m.tables → holdings n ≡ holdings m → n.channels.pipes ≡ m.channels.pipes → associations_in n ≡ associations_in m →
    ((p : ℕ) → is_live_process n p ≡ is_live_process m p) → All (λ t. is_live_process m t.process.0 ≡ true) (timers_in n) → IsQuiet m n
quiet_ports m n h tables held pipes same lives timers =
    record {
      tables = tables;
      held = held;
      pipes = pipes;
      rows = subst (λ xs. All (λ (a : Association). names_its_object m.tables a ≡ true) xs) (sym same) h.rows;
      wait = subst (λ xs. All (λ (a : Association). is_to_fire (ready_at m) a ≡ false) xs) (sym same) h.wait;
      lives = lives;
      timers = timers;
    }

-- and where events are taken
pub quiet_taken :
    (m n : State) (ns : List ℕ) → AreTold m → n.tables ≡ m.tables → holdings n ≡ holdings m → n.channels.pipes ≡ m.channels.pipes →
    n.channels.associations ≡ retrieve_associations m.channels.associations ns → ((p : ℕ) → is_live_process n p ≡ is_live_process m p) →
    timers_in n ≡ timers_in m → IsQuiet m n
quiet_taken m n ns h tables held pipes same lives timers =
    record {
      tables = tables;
      held = held;
      pipes = pipes;
      rows =
          subst (λ (l : AssociationList). All (λ (a : Association). names_its_object m.tables a ≡ true) l.associations) (sym same)
          (retrieved_all (λ (a : Association). names_its_object m.tables a ≡ true) ns m.channels.associations h.rows);
      wait =
          subst (λ (l : AssociationList). All (λ (a : Association). is_to_fire (ready_at m) a ≡ false) l.associations) (sym same)
          (retrieved_all (λ (a : Association). is_to_fire (ready_at m) a ≡ false) ns m.channels.associations h.wait);
      lives = lives;
      timers = subst (λ ts. All (λ (t : Timer). is_live_process m t.process.0 ≡ true) ts) (sym timers) h.timers;
    }

module _ (m n : State) (h : IsQuiet m n) where
  settled_tables : (settle_pools m n).tables ≡ m.tables
  settled_tables = ap (λ (k : State). k.tables) (settle_pools-alone m n) ∙ h.tables

  settled_pipes : (settle_pools m n).channels.pipes ≡ m.channels.pipes
  settled_pipes = ap (λ (c : Channels). c.pipes) (channels-settle_pools m n) ∙ h.pipes

  settled_references : (o : Obj) → references_of (settle_pools m n) o ≡ references_of m o
  settled_references o = ap (λ os. length (filter (is_object o) os)) (holdings-settle m n ∙ h.held)

  settled_ready : (o : Obj) → ready_at (settle_pools m n) o ≡ ready_at m o
  settled_ready (obj.PipeIn p) = ap₂ ready_in (ap (λ ps. bytes_of ps p) settled_pipes) (settled_references (obj.PipeOut p))
  settled_ready (obj.PipeOut p) = ap₂ ready_out (ap (λ ps. bytes_of ps p) settled_pipes) (settled_references (obj.PipeIn p))
  settled_ready (obj.Door d) = refl
  settled_ready (obj.Port q) = refl

  settled_associations : associations_in (settle_pools m n) ≡ associations_in n
  settled_associations = ap (λ (c : Channels). c.associations.associations) (channels-settle_pools m n)

  settled_timers : timers_in (settle_pools m n) ≡ timers_in n
  settled_timers = ap (λ (c : Channels). c.timers.timers) (channels-settle_pools m n)

  settled_lives : (p : ℕ) → is_live_process (settle_pools m n) p ≡ is_live_process m p
  settled_lives p = ap (λ ps. is_live_in (at_number ps p)) (processes-settle_pools m n) ∙ h.lives p

  settled_told : AreTold (settle_pools m n)
  settled_told =
      record {
        rows =
            subst (λ ts. All (λ (a : Association). names_its_object ts a ≡ true) (associations_in (settle_pools m n))) (sym settled_tables)
            (subst (λ xs. All (λ (a : Association). names_its_object m.tables a ≡ true) xs) (sym settled_associations) h.rows);
        wait =
            subst (λ xs. All (λ (a : Association). is_to_fire (ready_at (settle_pools m n)) a ≡ false) xs) (sym settled_associations)
            (All-weaker (λ (a : Association). is_to_fire (ready_at m) a ≡ false) (λ (a : Association). is_to_fire (ready_at (settle_pools m n)) a ≡ false)
            (λ a w. ap (λ r. a.armed && not (told_events r a.events == 0)) (settled_ready a.object) ∙ w)
            (associations_in n) h.wait);
        timers =
            subst (λ ts. All (λ (t : Timer). is_live_process (settle_pools m n) t.process.0 ≡ true) ts) (sym settled_timers)
            (All-weaker (λ (t : Timer). is_live_process m t.process.0 ≡ true) (λ (t : Timer). is_live_process (settle_pools m n) t.process.0 ≡ true)
            (λ t w. settled_lives t.process.0 ∙ w) (timers_in n) h.timers);
      }

pub quiet-step : (m : State) (t : ℕ) (r : Option Request) → IsQuiet m (act m t r).state → (step m t r).state.channels ≡ (act m t r).state.channels
unfolding step
quiet-step m t r h =
    ap (λ (k : State). k.channels) (tells_nothing (settle_pools m (act m t r).state) (settled_told m (act m t r).state h))
    ∙ channels-settle_pools m (act m t r).state
