-- Moments of a run: what stood in its history, and what its threads held.
use Rattle.std.specs.Prelude.{◌≡◌, ◌≢◌, ◌==◌, ℕ, zero, suc, ◌+◌, ◌*◌, ◌%◌, ◌<◌, ◌≤◌, ◌⊎◌, Bool, true, false, if◌then◌else◌, List}
use Rattle.std.specs.Prelude.{length, [], Contains}
use Rattle.std.specs.Prelude.{take, slice_get, Some}
use Rattle.std.specs.List.{count_by, IsDistinct}
use Rattle.melt_model.specs.Alive.{Alive, Held, words_of, CostsSum}
use Rattle.melt_model.specs.Thread.{Transcript, registers_after, value_in}
use Rattle.melt_model.specs.declared.config.Config.{Config}
use Rattle.melt_model.specs.declared.history.Entry.{Entry}
use Rattle.melt_model.specs.declared.history.Value.{Value}
use Rattle.melt_model.specs.declared.history.Value.TheVariants.{Nil}
use Rattle.melt_model.specs.declared.operations.Op.{Op}
use Rattle.melt_model.specs.declared.operations.Op.TheVariants.{Collect}
use Rattle.melt_model.specs.declared.operations.Reply.{Reply}
use Rattle.melt_model.specs.declared.reports.Journal.{Journal}
use Rattle.melt_model.specs.declared.reports.Phase.{Phase}
use Rattle.melt_model.specs.declared.reports.Phase.TheVariants.{Inactive, Mark, Move}
use Rattle.melt_core.specs.StaleBits.{Passed, Used}
use Rattle.melt_trace.specs.Script.{Script, operations}
use Rattle.melt_core.specs.Stages.{LooksAtStop}
use Rattle.melt_safepoint.specs.Asked.{collects, collections, total}
use Rattle.melt_safepoint.specs.Needs.{NeedsWords}

-- A moment of a run: how many entries the history had then, how many replies each thread had got, and which threads
-- had ended.
pub record Cut : Type 0 where
  pub entries : ℕ
  pub replies : ℕ → ℕ
  pub ended : ℕ → Bool

-- the history at the moment
abbrev pub history_at : List Entry → Cut → List Entry
history_at log cut = take cut.entries log

-- the registers of a thread at the moment; one that had ended holds nothing
abbrev pub registers_at : Script → List Entry → Cut → ℕ → ℕ → Value
registers_at script log cut t r =
    if cut.ended t then Nil else value_in (registers_after (history_at log cut) t (operations script t) (cut.replies t))
    r

-- after so many replies of a thread a silent collection is due
pub record IsDue (config : Config) (count : ℕ) : Type 0 where
  pub asked : config.every ≢ 0
  pub some : count ≢ 0
  pub divides : count % config.every ≡ 0

-- a thread has ended, or has its last silent collection still to come
abbrev pub IsOver : Script → Config → Cut → ℕ → Type 0
IsOver script config cut t = (cut.ended t ≡ true) ⊎ IsDue config (length (operations script t))

-- The replies that the threads had at the moment take exactly the entries that the history had. A thread that had ended
-- got no further one, and one with all its replies had ended, unless a silent collection was due after the last.
pub record IsCut (script : Script) (log : List Entry) (replies : ℕ → List Reply) (config : Config)
    (cut : Cut) : Type 0 where
  pub within : cut.entries ≤ length log
  pub few : (t : ℕ) → cut.replies t ≤ length (replies t)
  pub transcripts : (t : ℕ) → Transcript (history_at log cut) t (operations script t) (take (cut.replies t) (replies t))
  pub last : (t : ℕ) → cut.ended t ≡ true → cut.replies t ≡ length (replies t)
  pub over : (t : ℕ) → cut.replies t ≡ length (operations script t) → IsOver script config cut t

-- the moment at which a thread that had not ended had got so many replies
pub record IsCutAt (script : Script) (log : List Entry) (replies : ℕ → List Reply) (config : Config) (t k : ℕ)
    (cut : Cut) : Type 0 where
  pub is : IsCut script log replies config cut
  pub count : cut.replies t ≡ k
  pub alive : cut.ended t ≡ false

-- the words of the objects that registers hold at the moment
abbrev pub HoldsWords : Script → List Entry → Cut → ℕ → Type 0
HoldsWords script log cut words =
    CostsSum (words_of (history_at log cut)) (Held (registers_at script log cut)) words

-- the words of the objects that registers and globals reach at the moment
abbrev pub ReachesWords : Script → List Entry → Cut → ℕ → Type 0
ReachesWords script log cut words =
    CostsSum (words_of (history_at log cut)) (Alive (history_at log cut) (registers_at script log cut)) words

-- The moment of a collection. Its journal has the words that registers held then; and what registers and globals
-- reached had room in the words in use after it and in those of all homes on disk, of which the first is word 1.
pub record IsCollectedAt (script : Script) (log : List Entry) (entry : Journal) (cut : Cut) : Type 0 where
  pub holds : HoldsWords script log cut entry.held
  pub alive : ℕ
  pub reach : ReachesWords script log cut alive
  pub fits : alive + 1 ≤ entry.live + entry.end

-- the last operation of a thread is a collection
abbrev pub EndsWithCollect : List Op → Type 0
EndsWithCollect ops = (k : ℕ) × (length ops ≡ suc k) × (slice_get ops k ≡ Some Collect)

-- At the moment the next operation of the thread needs more words than the heap has beside those of the objects that
-- registers hold. All silent collections were made by then, but for those after a `collect` that was answered at the
-- same safepoint.
pub record LacksRoom (script : Script) (log : List Entry) (replies : ℕ → List Reply) (config : Config) (cut : Cut)
    (t held_words need : ℕ) : Type 0 where
  pub is_cut : IsCutAt script log replies config t (length (replies t)) cut
  pub over : (u : ℕ) → cut.replies u ≡ length (operations script u)
      → (cut.ended u ≡ true) ⊎ (IsDue config (length (operations script u)) × EndsWithCollect (operations script u))
  pub op : Op
  pub next : slice_get (operations script t) (length (replies t)) ≡ Some op
  pub needed : NeedsWords (history_at log cut) (registers_at script log cut) t op need
  pub holds : HoldsWords script log cut held_words
  pub above : config.heap < held_words + need

-- ---- the moments of a run, in its order

-- What happened at a moment: a collection of a phase, which took these objects away to the disk, or the end of a thread
-- whose operation needed so many words, where those of the objects that registers held were so many.
pub data Occasion : Type 0 where
  collection : (phase : Phase) (taken : List ℕ) → Occasion
  no_room : (thread held_words need : ℕ) → Occasion

pub record Moment : Type 0 where
  pub cut : Cut
  pub of : Occasion

abbrev pub is_collection : Occasion → Bool
is_collection (collection phase taken) = true
is_collection (no_room t held_words need) = false

-- how many of these are moments of collections
abbrev pub collections_among : List Moment → ℕ
collections_among moments = count_by (λ (m : Moment). is_collection m.of) moments

-- From one moment to another one entries and replies do not get fewer, and a thread that had ended has ended, with the
-- replies that it had.
pub record NotAfter (one other : Cut) : Type 0 where
  pub entries : one.entries ≤ other.entries
  pub replies : (t : ℕ) → one.replies t ≤ other.replies t
  pub ended : (t : ℕ) → one.ended t ≡ true → (other.ended t ≡ true) × (other.replies t ≡ one.replies t)

-- the replies of a thread at the moment
abbrev pub replies_at : (ℕ → List Reply) → Cut → ℕ → List Reply
replies_at replies cut t = take (cut.replies t) (replies t)

-- how many replies the first n threads had at the moment
abbrev pub replies_by : Cut → ℕ → ℕ
replies_by cut n = total cut.replies n

-- whether a silent collection is due after so many replies
abbrev pub is_due : (every count : ℕ) → Bool
is_due zero count = false
is_due (suc every) zero = false
is_due (suc every) (suc count) = suc count % suc every == 0

-- how many of the first n threads had not ended at the moment, and could have a silent collection still to come
abbrev pub due_by : Config → Cut → ℕ → ℕ
due_by config cut n =
    total (λ t. if cut.ended t then 0 else (if is_due config.every (cut.replies t) then 1 else 0)) n

-- So many collections had been made at the moment: no fewer than `collect`s had been answered; no fewer than these and
-- the silent ones that had fallen due, but for one of each thread that had not ended and of which one fell due with its
-- last reply; and no more than these and three for each reply and each thread.
pub record CountsBy (script : Script) (config : Config) (replies : ℕ → List Reply) (cut : Cut) (made : ℕ)
    : Type 0 where
  pub asked : collects script (replies_at replies cut) (length script.programs) ≤ made
  pub collected : collections script config (replies_at replies cut) (length script.programs)
      ≤ made + due_by config cut (length script.programs)
  pub bounded : made ≤ collections script config (replies_at replies cut) (length script.programs)
      + 3 * (replies_by cut (length script.programs) + length script.programs)

-- A thread waits at the moment: a silent collection is due after its last reply, or its next operation is a collection,
-- or looks at the stop word by what registers hold then.
abbrev pub WaitsAt : Script → List Entry → Config → Cut → ℕ → Type 0
WaitsAt script log config cut t = IsDue config (cut.replies t)
    ⊎ ((op : Op) × (slice_get (operations script t) (cut.replies t) ≡ Some op)
    × ((op ≡ Collect) ⊎ LooksAtStop (registers_at script log cut t) op))

-- Its last reply is that to a `collect`, and the moment of that collection, which is among these, has the history of
-- this one.
pub record HadOwn (script : Script) (moments : List Moment) (cut : Cut) (t : ℕ) : Type 0 where
  pub own : Moment
  pub place : ℕ
  pub among : slice_get moments place ≡ Some own
  pub collected : is_collection own.of ≡ true
  pub asked : slice_get (operations script t) (own.cut.replies t) ≡ Some Collect
  pub replies : cut.replies t ≡ suc (own.cut.replies t)
  pub entries : cut.entries ≡ own.cut.entries

-- The moment is a safepoint: each thread that has not ended waits, or has just had its own collection, after which
-- nothing but collections was done.
abbrev pub IsSafepoint : Script → List Entry → Config → (earlier : List Moment) → Cut → Type 0
IsSafepoint script log config earlier cut = (t : ℕ) → cut.ended t ≡ false
    → WaitsAt script log config cut t ⊎ HadOwn script earlier cut t

-- What is said of a moment, by what happened there, where so many collections had been made before it.
abbrev pub IsMoment : Script → List Entry → (ℕ → List Reply) → Config → List Journal → ℕ → Cut → Occasion → Type 0
IsMoment script log replies config journal made cut (collection phase taken) = IsCut script log replies config cut
    × ((entry : Journal) × (slice_get journal made ≡ Some entry) × IsCollectedAt script log entry cut)
IsMoment script log replies config journal made cut (no_room t held_words need) =
    LacksRoom script log replies config cut t held_words need

-- such a moment is one of these
abbrev pub IsAmong : List Moment → Occasion → Type 0
IsAmong moments of = (i : ℕ) × ((m : Moment) × (slice_get moments i ≡ Some m) × (m.of ≡ of))

-- ---- what leaves the heap, and what stays

-- a collection marks: after it those objects in use have the stale bit that no register holds
abbrev pub IsMarking : Occasion → Type 0
IsMarking (collection Inactive taken) = ⊥
IsMarking (collection Mark taken) = Unit {0}
IsMarking (collection Move taken) = Unit {0}
IsMarking (no_room t held_words need) = ⊥

-- the last of these moments at which a collection marked
pub record LastMarking (moments : List Moment) (m : Moment) : Type 0 where
  pub place : ℕ
  pub at : slice_get moments place ≡ Some m
  pub marks : IsMarking m.of
  pub none_later : (i : ℕ) (n : Moment) → place < i → slice_get moments i ≡ Some n → IsMarking n.of → ⊥

-- none marked
abbrev pub NoneMarked : List Moment → Type 0
NoneMarked moments = (i : ℕ) (n : Moment) → slice_get moments i ≡ Some n → IsMarking n.of → ⊥

-- At the last marking no register held the object, and it was not used since, by a history.
pub record IsStaleBy (script : Script) (h : List Entry) (moments : List Moment) (n : ℕ) : Type 0 where
  pub m : Moment
  pub last : LastMarking moments m
  pub unheld : Held (registers_at script h m.cut) n → ⊥
  pub unused : Used h m.cut.entries n → ⊥

-- Nothing marked yet; or at the last marking a register held the object, or it was used or passed since.
abbrev pub IsFreshBy : Script → List Entry → List Moment → ℕ → Type 0
IsFreshBy script h moments n = NoneMarked moments
    ⊎ ((m : Moment) × LastMarking moments m
    × (Held (registers_at script h m.cut) n ⊎ Passed h m.cut.entries n))

-- At one of these moments the object was taken away, and it was not used since.
pub record IsAwayBy (h : List Entry) (moments : List Moment) (n : ℕ) : Type 0 where
  pub m : Moment
  pub place : ℕ
  pub at : slice_get moments place ≡ Some m
  pub phase : Phase
  pub taken : List ℕ
  pub of : m.of ≡ collection phase taken
  pub contains : Contains taken n
  pub unused : Used h m.cut.entries n → ⊥

-- What a collection took away, after these moments and with this history: as many different objects as its journal tells
-- Bodies, none unless it was a Move. No register held one of them, and each was stale since the last marking. In a Move
-- everything else stayed that was alive and not on the disk: a register held it, or it was fresh.
pub record TakesAt (script : Script) (h : List Entry) (journal : List Journal) (earlier : List Moment) (cut : Cut)
    (phase : Phase) (taken : List ℕ) : Type 0 where
  pub entry : Journal
  pub written : slice_get journal (collections_among earlier) ≡ Some entry
  pub of_phase : entry.phase ≡ phase
  pub counts : length taken ≡ entry.bodies
  pub once : IsDistinct (λ a b. a == b) taken
  pub only_moves : phase ≢ Move → taken ≡ []
  pub unheld : (n : ℕ) → Contains taken n → Held (registers_at script h cut) n → ⊥
  pub stale : (n : ℕ) → Contains taken n → IsStaleBy script h earlier n
  pub stays : (n : ℕ) → phase ≡ Move → Alive h (registers_at script h cut) n → (Contains taken n → ⊥)
      → Held (registers_at script h cut) n ⊎ (IsFreshBy script h earlier n ⊎ IsAwayBy h earlier n)

-- The moments of a run, in its order: that of each collection, one after the other, and those at which threads ended
-- for want of room. Each is a safepoint. At all later ones such a thread has ended.
pub record AreMoments (script : Script) (log : List Entry) (replies : ℕ → List Reply) (config : Config)
    (journal : List Journal) (moments : List Moment) : Type 0 where
  pub each : (i : ℕ) (m : Moment) → slice_get moments i ≡ Some m
      → IsMoment script log replies config journal (collections_among (take i moments)) m.cut m.of
  pub safe : (i : ℕ) (m : Moment) → slice_get moments i ≡ Some m
      → IsSafepoint script log config (take i moments) m.cut
  pub counts : (i : ℕ) (m : Moment) → slice_get moments i ≡ Some m
      → CountsBy script config replies m.cut (collections_among (take i moments))
  pub takes : (i : ℕ) (m : Moment) (phase : Phase) (taken : List ℕ) → slice_get moments i ≡ Some m
      → m.of ≡ collection phase taken
      → TakesAt script (history_at log m.cut) journal (take i moments) m.cut phase taken
  pub order : (i j : ℕ) (m n : Moment) → i < j → slice_get moments i ≡ Some m → slice_get moments j ≡ Some n
      → NotAfter m.cut n.cut
  pub gone : (i j : ℕ) (m n : Moment) (t held_words need : ℕ) → i < j → slice_get moments i ≡ Some m
      → m.of ≡ no_room t held_words need → slice_get moments j ≡ Some n → n.cut.ended t ≡ true
  pub all : collections_among moments ≡ length journal
