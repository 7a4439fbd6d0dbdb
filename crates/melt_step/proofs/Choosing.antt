-- All threads stand in one history, by whatever choices.
use Rattle.std.proofs.Common.{◌≡◌, ◌≢◌, ℕ, ◌<◌, true, false, List, [], ◌∷◌, ◌++◌, length, refl, sym, ◌∙◌, ap, subst}
use Rattle.std.proofs.Common.{inl, inr}
use Rattle.std.proofs.lemmas.Bool.{cases_eq}
use Rattle.std.proofs.lemmas.List.{length-replicate}
use Rattle.std.proofs.lemmas.List.Elements.{All-nil}
use Rattle.std.specs.Option.{is_some}
use Rattle.std.specs.Prelude.{All, Bool, Option, Some, IsSome, replicate}
use Rattle.melt_model.specs.History.{Legal}
use Rattle.melt_model.specs.Standing.{Stands}
use Rattle.melt_model.specs.Thread.{does}
use Rattle.melt_model.specs.declared.history.Act.{Act}
use Rattle.melt_model.specs.declared.history.Entry.{Entry}
use Rattle.melt_model.specs.declared.history.Value.{Value}
use Rattle.melt_model.specs.declared.history.Value.TheVariants.{Nil}
use Rattle.melt_model.specs.declared.operations.Op.{Op}
use Rattle.melt_model.specs.declared.operations.Op.TheVariants.{Collect}
use Rattle.melt_model.specs.declared.operations.Reply.{Reply}
use Rattle.melt_model.specs.declared.operations.Reply.TheVariants.{Done}
use Rattle.melt_model.proofs.Transcripts.{Stands_start, Stands_local, Transcript_so_far}
use Rattle.melt_scion.specs.Heaps.{OnDisk, no_homes_on, IsNewHeap}
use Rattle.melt_scion.specs.declared.heap.Heap.{Heap}
use Rattle.melt_scion.specs.declared.heap.Names as name_table
use Rattle.melt_scion.specs.declared.registers.Registers.{Registers}
use Rattle.melt_core.specs.Answering.{with_entry}
use Rattle.melt_core.specs.Views.{View, view, values_of, registers_in, held_values, names_in, IsQuiet, Standing}
use Rattle.melt_core.specs.Epochs.{no_registers, IsNewRest, AtRest, core_of, HasFinished, HasDropped, NamesWithin}
use Rattle.melt_core.specs.Advances.{AdvancesOver, KeepsOthers, IsAnswered, CallGoesOn, Refuses, TellsDisk}
use Rattle.melt_core.proofs.NoHomes.{as_told_by}
use Rattle.melt_core.specs.declared.machine.Rest.{Rest}
use Rattle.melt_core.specs.declared.answer.Pause.TheVariants as pause
use Rattle.melt_core.specs.declared.answer.Refusal.{Refusal}
use Rattle.melt_core.specs.declared.answer.Refusal.TheVariants as refusal
use Rattle.melt_core.specs.declared.answer.StepResult.{StepResult}
use Rattle.melt_core.specs.declared.answer.StepResult.TheVariants.{Going, Answered, Refused}
use Rattle.melt_core.proofs.Resting.{history_new, start_at_rest, stands_stopped}
use Rattle.melt_step.specs.Choices.{SoFar, nothing_yet, with_reply, SetsSoFar, SetsBy, CollectsRest, Chosen, AreTold}
use Rattle.melt_safepoint.proofs.TableModes.{dropped_keeps}
use Rattle.melt_safepoint.specs.Resting.{Beside, LeavesHeap, NamesHeap, with_names_held, rest_view}
use Rattle.melt_safepoint.proofs.Collecting.{RestsOver}
use Rattle.melt_safepoint.proofs.PlannedRest.{Carried, PlannedOver, carried, leaves_heap, planned_over}
use Rattle.melt_step.proofs.Resting.{beside_of, kept_still, names_kept, names_left, only_view}
use Rattle.melt_step.proofs.Starting.{registers_new}
use Rattle.melt_safepoint.proofs.Telling.{told_with, with_own, Stands_answers}

-- a thread stands in the history, and until it drops its registers these hold what it was told
record StandsSoFar (v : View) (t : ℕ) (s : SoFar) : Type 0 where
  pub registers : List Value
  pub stands : Stands v.log t s.ops s.replies registers
  pub in_registers : t < length v.held → s.over ≡ false → registers ≡ values_of v t

-- all threads do, over this disk
record AllStand (threads globals : ℕ) (disk : OnDisk) (v : View) (all : ℕ → SoFar) : Type 0 where
  pub stands : Standing true disk v
  pub has_threads : length v.held ≡ threads
  pub words : length v.globals ≡ globals
  pub each : (t : ℕ) → StandsSoFar v t (all t)
  pub own : All (λ (e : Entry). e.thread < threads) v.log

-- a thread stands as before, where the history does and its registers do
stands_as : (v w : View) (t : ℕ) (s : SoFar) → w.log ≡ v.log → length w.held ≡ length v.held
    → values_of w t ≡ values_of v t → StandsSoFar v t s → StandsSoFar w t s
stands_as v w t s log threads values st = record {
  registers = st.registers;
  stands = subst (λ (h : List Entry). Stands h t s.ops s.replies st.registers) (sym log) st.stands;
  in_registers = λ within open_. st.in_registers (subst (λ (n : ℕ). t < n) threads within) open_ ∙ sym values;
}

-- all threads stand as before, in a view with the same history and registers, over whatever disk it stands
all_as : {threads globals : ℕ} {disk later : OnDisk} {v w : View} {all : ℕ → SoFar}
    → AllStand threads globals disk v all → Standing true later w → w.log ≡ v.log → length w.held ≡ length v.held
    → length w.globals ≡ length v.globals → ((t : ℕ) → values_of w t ≡ values_of v t)
    → AllStand threads globals later w all
all_as {threads} {v} {w} {all} a stands log threads_stay words values = record {
  stands = stands;
  has_threads = threads_stay ∙ a.has_threads;
  words = words ∙ a.words;
  each = λ t. stands_as v w t (all t) log threads_stay (values t) (a.each t);
  own = subst (All (λ (e : Entry). e.thread < threads)) (sym log) a.own;
}

-- and in the same view, where what threads have behind them is the same
all_same : (threads globals : ℕ) (disk : OnDisk) (v : View) (all after : ℕ → SoFar)
    → AllStand threads globals disk v all → ((u : ℕ) → after u ≡ all u) → AllStand threads globals disk v after
all_same threads globals disk v all after a same = record {
  stands = a.stands;
  has_threads = a.has_threads;
  words = a.words;
  each = λ t. subst (StandsSoFar v t) (sym (same t)) (a.each t);
  own = a.own;
}

-- values of all threads stay, where an event leaves those of its own thread
all_values : (v w : View) (t : ℕ) → KeepsOthers v w t → values_of w t ≡ values_of v t → (u : ℕ)
    → values_of w u ≡ values_of v u
all_values v w t others own u = elim (cases_eq u t) [
  | inl same ↦ subst (λ (k : ℕ). values_of w k ≡ values_of v k) (sym same) own
  | inr differ ↦ others.values u differ
]

-- an event that leaves the history
event_stays : {threads globals : ℕ} {disk : OnDisk} {v w : View} {all : ℕ → SoFar} (after : ℕ → SoFar) {t : ℕ}
    → AllStand threads globals disk v all → Standing true disk w → KeepsOthers v w t → w.log ≡ v.log
    → values_of w t ≡ values_of v t → ((u : ℕ) → after u ≡ all u) → AllStand threads globals disk w after
event_stays {threads} {globals} {disk} {v} {w} {all} after {t} a stands others log values same =
    all_same threads globals disk w all after
    (all_as a stands log others.threads others.globals (all_values v w t others values)) same

-- what is left of history and registers by a call that paused
paused_stays : {threads globals : ℕ} {disk : OnDisk} {v w : View} {all : ℕ → SoFar} (after : ℕ → SoFar) {t : ℕ} (o : Op)
    (cause : Refusal) → AllStand threads globals disk v all → Standing true disk w → KeepsOthers v w t
    → Refuses (Unit {0}) disk v w t o cause → ((u : ℕ) → after u ≡ all u) → AllStand threads globals disk w after
paused_stays after {t} o (refusal.Pause pause.Asked) a stands others refused same =
    event_stays after a stands others (ap (λ (x : View). x.log) refused.same)
    (ap (λ (x : View). values_of x t) refused.same) same
paused_stays after {t} o (refusal.Pause (pause.Space need)) a stands others refused same =
    event_stays after a stands others refused.own.history refused.own.values same
paused_stays after {t} o (refusal.Pause pause.Forward) a stands others refused same =
    event_stays after a stands others refused.own.history refused.own.values same
paused_stays after {t} o refusal.DiskFault a stands others refused same =
    event_stays after a stands others refused.1.own.history refused.1.own.values same
paused_stays after {t} o (refusal.Damaged damaged) a stands others refused same =
    event_stays after a stands others refused.lost.own.history refused.lost.own.values same

-- a thread that was answered, and the others
answered_stands : {threads globals : ℕ} {disk : OnDisk} {v w : View} {all after : ℕ → SoFar} {t : ℕ} {o : Op}
    {reply : Reply} → AllStand threads globals disk v all → (all t).over ≡ false → t < length v.held
    → Standing true disk w → KeepsOthers v w t → IsAnswered disk v w t o reply
    → SetsSoFar all after t (with_reply (all t) o reply) → AllStand threads globals disk w after
answered_stands {threads} {globals} {v} {w} {all} {after} {t} {o} {reply} a open_ within stands others answered sets =
    let st : StandsSoFar v t (all t) = a.each t in
    let answers = answered.answers a.stands in
    let legal : Legal w.log (length v.globals) = subst (Legal w.log) others.globals (stands.legal refl) in
    let now : Stands v.log t (all t).ops (all t).replies (values_of v t) =
    subst (Stands v.log t (all t).ops (all t).replies) (st.in_registers within open_) st.stands in
    let told : Stands w.log t ((all t).ops ++ o ∷ []) ((all t).replies ++ reply ∷ []) (values_of w t) =
    Stands_answers (length v.globals) (a.stands.legal refl) legal now answers in
    let act : Option Act = (does v.log (values_of v t) o answers.value).act in
    let grown : w.log ≡ with_entry t v.log act = answers.history in
    let here : StandsSoFar w t (with_reply (all t) o reply) =
    record { registers = values_of w t; stands = told; in_registers = λ there stays. refl } in
    let elsewhere : (u : ℕ) → u ≢ t → StandsSoFar w u (all u) = λ u differ. let su : StandsSoFar v u (all u) =
    a.each u in record {
      registers = su.registers;
      stands = subst (λ (h : List Entry). Stands h u (all u).ops (all u).replies su.registers) (sym grown)
          (told_with t act differ su.stands);
      in_registers = λ there stays. su.in_registers (subst (λ (n : ℕ). u < n) others.threads there) stays
          ∙ sym (others.values u differ);
    } in
    record {
      stands = stands;
      has_threads = others.threads ∙ a.has_threads;
      words = others.globals ∙ a.words;
      each = λ u. elim (cases_eq u t) [
        | inl same ↦ subst (λ (k : ℕ). StandsSoFar w k (after k)) (sym same)
            (subst (StandsSoFar w t) (sym sets.here) here)
        | inr differ ↦ subst (StandsSoFar w u) (sym (sets.others u differ)) (elsewhere u differ)
      ];
      own = subst (All (λ (e : Entry). e.thread < threads)) (sym grown)
          (with_own v.log t threads act (subst (λ (n : ℕ). t < n) a.has_threads within) a.own);
    }

-- an event
event_stands : {threads globals : ℕ} {disk : OnDisk} {v w : View} {all : ℕ → SoFar} (after : ℕ → SoFar) {t : ℕ} {o : Op}
    (result : StepResult) → AllStand threads globals disk v all → (all t).over ≡ false → t < length v.held
    → AdvancesOver disk v w t o result → SetsBy all after t o result → AllStand threads globals disk w after
event_stands {disk} {v} {w} after {t} {o} Going a open_ within advances sets =
    let goes : CallGoesOn disk v w t o = advances.outcome in
    event_stays after a (advances.keeps true (λ told. tt) a.stands) advances.others goes.own.history goes.own.values
    sets
event_stands {disk} {v} {w} after {t} {o} (Answered reply) a open_ within advances sets =
    answered_stands a open_ within (advances.keeps true (λ told. tt) a.stands) advances.others advances.outcome sets
event_stands {disk} {v} {w} after {t} {o} (Refused cause) a open_ within advances sets =
    paused_stays after o cause a (advances.keeps true (λ told. tt) a.stands) advances.others advances.outcome sets

-- a `collect` was answered
collect_stands : {threads globals : ℕ} {disk : OnDisk} {v : View} {all after : ℕ → SoFar} {t : ℕ}
    → AllStand threads globals disk v all → SetsSoFar all after t (with_reply (all t) Collect Done)
    → AllStand threads globals disk v after
collect_stands {v} {all} {after} {t} a sets =
    let st : StandsSoFar v t (all t) = a.each t in
    let here : StandsSoFar v t (with_reply (all t) Collect Done) = record {
      registers = st.registers;
      stands = Stands_local v.log t (all t).ops (all t).replies st.registers Collect st.stands refl
          st.stands.references;
      in_registers = st.in_registers;
    } in
    record {
      stands = a.stands;
      has_threads = a.has_threads;
      words = a.words;
      each = λ u. elim (cases_eq u t) [
        | inl same ↦ subst (λ (k : ℕ). StandsSoFar v k (after k)) (sym same)
            (subst (StandsSoFar v t) (sym sets.here) here)
        | inr differ ↦ subst (StandsSoFar v u) (sym (sets.others u differ)) (a.each u)
      ];
      own = a.own;
    }

-- a thread dropped its registers
dropped_stands : {threads globals : ℕ} {disk : OnDisk} {v w : View} {all after : ℕ → SoFar} {t : ℕ}
    → AllStand threads globals disk v all → HasDropped v w t → KeepsOthers v w t
    → SetsSoFar all after t (record (all t) { over = true }) → AllStand threads globals disk w after
dropped_stands {threads} {globals} {disk} {v} {w} {all} {after} {t} a dropped others sets =
    let log : w.log ≡ v.log = ap (λ (x : View). x.log) dropped.only in
    let st : StandsSoFar v t (all t) = a.each t in
    let here : StandsSoFar w t (record (all t) { over = true }) = record {
      registers = st.registers;
      stands = subst (λ (h : List Entry). Stands h t (all t).ops (all t).replies st.registers) (sym log) st.stands;
      in_registers = λ within open_. absurd (cc);
    } in
    record {
      stands = dropped.keeps true disk a.stands;
      has_threads = others.threads ∙ a.has_threads;
      words = others.globals ∙ a.words;
      each = λ u. elim (cases_eq u t) [
        | inl same ↦ subst (λ (k : ℕ). StandsSoFar w k (after k)) (sym same)
            (subst (StandsSoFar w t) (sym sets.here) here)
        | inr differ ↦ subst (StandsSoFar w u) (sym (sets.others u differ))
            (stands_as v w u (all u) log others.threads (others.values u differ) (a.each u))
      ];
      own = subst (All (λ (e : Entry). e.thread < threads)) (sym log) a.own;
    }

-- a run begins
start_stands : {named : Bool} {threads globals words forward entries : ℕ} {heap : Heap} {rest : Rest}
    (all : ℕ → SoFar) → AtRest true no_homes_on heap rest → IsNewHeap words globals forward named heap
    → IsNewRest threads entries rest
    → ((t : ℕ) → all t ≡ nothing_yet) → AllStand threads globals no_homes_on (view (core_of heap rest)) all
start_stands {threads} {globals} {words} {heap} {rest} all at_rest new_heap new_rest none =
    let v : View = view (core_of heap rest) in
    let count : length rest.held.items ≡ threads = ap length new_rest.held ∙ length-replicate threads no_registers in
    let history : v.log ≡ [] = history_new (is_some heap.names) rest new_rest in
    let each : (t : ℕ) → StandsSoFar v t nothing_yet = λ t. record {
      registers = replicate 16 Nil;
      stands = subst (λ (h : List Entry). Stands h t [] [] (replicate 16 Nil)) (sym history) (Stands_start t);
      in_registers = λ within open_.
          sym (ap (held_values v.names)
          (ap (λ (held : List Registers). registers_in held t) new_rest.held
          ∙ registers_new threads t (subst (λ (n : ℕ). t < n) count within)));
    } in
    record {
      stands = at_rest.stands;
      has_threads = count;
      words = ap length new_heap.globals_hold_nothing ∙ length-replicate globals 0;
      each = λ t. subst (StandsSoFar v t) (sym (none t)) (each t);
      own = subst (All (λ (e : Entry). e.thread < threads)) (sym history)
          (All-nil (λ (e : Entry). e.thread < threads));
    }

-- a new epoch
epoch_stands : {threads globals : ℕ} {disk : OnDisk} {v : View} {all : ℕ → SoFar} {heap : Heap} {rest : Rest}
    → AllStand threads globals disk v all → AtRest true disk heap rest → HasFinished v (view (core_of heap rest))
    → AllStand threads globals disk (view (core_of heap rest)) all
epoch_stands {globals} {v} {rest} a at_rest finished =
    all_as a at_rest.stands finished.log (ap length finished.held) (ap length finished.globals) (λ t.
    ap (λ (names : Option name_table.Names). held_values names (registers_in rest.held.items t)) finished.names
    ∙ ap (λ (held : List Registers). held_values v.names (registers_in held t)) finished.held)

-- all threads stand over some disk with this end, which tells these words
record StandTold (threads globals end : ℕ) (image : Option (List ℕ)) (v : View) (all : ℕ → SoFar) : Type 0 where
  pub disk : OnDisk
  pub ends : disk.end ≡ end
  pub tells : TellsDisk image disk
  pub all_stand : AllStand threads globals disk v all

-- over the same disk, in another view
told_as : {threads globals end : ℕ} {image : Option (List ℕ)} {v w : View} {all after : ℕ → SoFar}
    → (s : StandTold threads globals end image v all) → AllStand threads globals s.disk w after
    → StandTold threads globals end image w after
told_as s stand =
    record { disk = s.disk; ends = s.ends; tells = s.tells; all_stand = stand }

-- a collection
collection_stands : {threads globals end end_after : ℕ} {image image_after : Option (List ℕ)} {all : ℕ → SoFar}
    {heap new : Heap} {rest after : Rest} → StandTold threads globals end image (view (core_of heap rest)) all
    → NamesWithin heap → IsQuiet (view (core_of heap rest))
    → CollectsRest end end_after image image_after heap rest new after → IsSome image_after → StandTold threads globals end_after image_after (view (core_of new after)) all
collection_stands {threads} {globals} {end} {end_after} {image} {image_after} {heap} {new} {rest} {after} s within
    quiet c told =
    let stands : Standing true s.disk (view (core_of heap rest)) = s.all_stand.stands in
    let b : Beside = beside_of heap rest in
    let registers : List Registers = after.held.items in
    let rests : RestsOver true s.disk heap b =
    record { stands = stands; quiet = quiet; names = names_kept heap stands.room within } in
    let over : PlannedOver true c.phase s.disk heap new b registers end_after image_after c.journal =
    planned_over true c.phase s.disk heap new b registers end end_after image image_after c.journal rests s.ends
    s.tells.1 c.collects in
    let leaves : LeavesHeap heap new =
    leaves_heap true c.phase s.disk heap new b registers end_after image_after c.journal rests over in
    let names : NamesHeap new (Some (names_in new)) = names_left heap new leaves in
    let moved : Carried true c.phase s.disk heap new b (Some (names_in new)) registers end_after image_after c.journal =
    carried true c.phase s.disk heap new b registers end_after image_after c.journal rests over (Some (names_in new))
    names (record { threads = c.only.threads; before = c.only.before; after = c.only.afterwards }) in
    let shows : rest_view new (with_names_held b (Some (names_in new)) registers) ≡ view (core_of new after) =
    only_view heap new rest after (kept_still heap.names new.names leaves.keeps_names) c.only in
    let same : (view (core_of new after)).log ≡ (view (core_of heap rest)).log =
    ap (λ (w : View). w.log) (sym shows) in
    record {
      disk = moved.was.later;
      ends = moved.was.ends;
      tells = (told, moved.was.shows);
      all_stand = all_as s.all_stand (subst (Standing true moved.was.later) shows moved.at_rest.stands) same
          c.only.threads moved.globals (λ t. ap (λ (w : View). values_of w t) (sym shows) ∙ moved.values t);
    }

-- they stand after each choice
chosen_stands : (threads globals end : ℕ) (image : Option (List ℕ)) (v : View) (all : ℕ → SoFar)
    → Chosen threads globals end image v all → StandTold threads globals end image v all
chosen_stands threads globals _ _ v all (Chosen.starts _ _ named words forward entries heap rest small few new_heap
    new_rest is none) =
    record {
      disk = no_homes_on;
      ends = refl;
      tells = (refl, λ k. refl);
      all_stand = subst (λ (x : View). AllStand threads globals no_homes_on x all) (sym is)
          (start_stands all (start_at_rest true small few new_heap new_rest) new_heap new_rest none);
    }
chosen_stands threads globals end image w after (Chosen.event _ _ v _ all _ t o result chosen open_ may advances sets) =
    let s : StandTold threads globals end image v all = chosen_stands threads globals end image v all chosen in
    told_as s
    (event_stands after result s.all_stand open_ may.asks.thread (as_told_by s.tells (advances.over s.disk s.ends))
    sets)
chosen_stands threads globals end image w all (Chosen.asks _ _ v _ _ chosen is) =
    let s : StandTold threads globals end image v all = chosen_stands threads globals end image v all chosen in
    told_as s (subst (λ (x : View). AllStand threads globals s.disk x all) (sym is)
    (all_as s.all_stand (stands_stopped s.disk true v s.all_stand.stands) refl refl refl (λ t. refl)))
chosen_stands threads globals end image v after (Chosen.collect _ _ _ all _ t chosen sets) =
    let s : StandTold threads globals end image v all = chosen_stands threads globals end image v all chosen in
    told_as s (collect_stands s.all_stand sets)
chosen_stands threads globals end image w after (Chosen.drops _ _ v _ all _ t chosen none dropped sets) =
    let s : StandTold threads globals end image v all = chosen_stands threads globals end image v all chosen in
    told_as s (dropped_stands s.all_stand dropped (dropped_keeps v w t dropped) sets)
chosen_stands threads globals end image w all (Chosen.epoch _ _ v _ _ heap rest chosen quiet rests finished settled
    is) =
    let s : StandTold threads globals end image v all = chosen_stands threads globals end image v all chosen in
    told_as s (subst (λ (x : View). AllStand threads globals s.disk x all) (sym is)
    (epoch_stands s.all_stand (rests true s.disk s.all_stand.stands) finished))
chosen_stands threads globals _ _ w all (Chosen.collection end end_after image image_after v _ _ heap new rest after
    chosen was within quiet collects told is) =
    let s : StandTold threads globals end image v all = chosen_stands threads globals end image v all chosen in
    subst (λ (x : View). StandTold threads globals end_after image_after x all) (sym is)
    (collection_stands (subst (λ (x : View). StandTold threads globals end image x all) was s) within
    (subst IsQuiet was quiet) collects told)

-- threads that stand in a history were told what it gives them
pub chosen_told : (threads globals end : ℕ) (image : Option (List ℕ)) (v : View) (all : ℕ → SoFar)
    → Chosen threads globals end image v all → AreTold threads globals end image v all
chosen_told threads globals end image v all chosen =
    let s : StandTold threads globals end image v all = chosen_stands threads globals end image v all chosen in
    let a : AllStand threads globals s.disk v all = s.all_stand in
    record {
      disk = s.disk;
      ends = s.ends;
      tells = s.tells;
      stands = a.stands;
      legal = subst (Legal v.log) a.words (a.stands.legal refl);
      transcripts = λ t more. let st : StandsSoFar v t (all t) =
          a.each t in Transcript_so_far v.log t (all t).ops more (all t).replies st.registers st.stands;
      own_threads = a.own;
    }
