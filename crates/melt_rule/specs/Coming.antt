-- What the steps of a load tell their thread that brings an object back from disk: the search through the forwarding
-- words, the claim and the stores of a copy, and its commit.
use Rattle.std.specs.Prelude.{◌≡◌, ◌≢◌, ◌⊎◌, ℕ, ◌+◌, ◌^◌, ◌<◌, ◌≤◌, true, List, [], ◌∷◌, ◌++◌, Option, None, Some}
use Rattle.atomic_table.specs.Table.{Me, Step}
use Rattle.melt_model.specs.History.{shape}
use Rattle.melt_model.specs.declared.history.Entry.{Entry}
use Rattle.melt_word.specs.Words.{cost_of}
use Rattle.melt_word.specs.declared.header.Shape.{Shape}
use Rattle.melt_record.specs.declared.head.Kind.TheVariants.{Body}
use Rattle.melt_scion.specs.Placed.{HeadIs}
use Rattle.melt_word.specs.declared.reference.Ref.TheVariants.{Disk}
use Rattle.melt_forward.specs.Forwarding.{Sends, probe}
use Rattle.melt_scion.specs.GhostMaps.{named}
use Rattle.melt_scion.specs.Heaps.{scion_in}
use Rattle.melt_core.specs.Stages.{further, retried}
use Rattle.melt_core.specs.declared.call.Activation.{Activation}
use Rattle.melt_core.specs.declared.call.Search.{Search}
use Rattle.melt_rule.specs.Making.{FirstFree}
use Rattle.melt_rule.specs.Plays.{Stays}
use Rattle.melt_rule.specs.Shown.{base_at, forward_place, word_place}
use Rattle.melt_rule.specs.Tells.{Sees, view_after, Reaches}
use Rattle.melt_rule.specs.declared.began.Began.{Began}
use Rattle.melt_rule.specs.declared.view.Doing.{Doing}
use Rattle.melt_rule.specs.declared.view.Doing.TheVariants.{Cleared, Copied, Copying, LackingCopy, Missed, Retrying}
use Rattle.melt_rule.specs.declared.view.Doing.TheVariants.{Searching}
use Rattle.melt_rule.specs.declared.view.View.{View}

-- A forwarding word was found: none, one that sends the home to an address, or one that sends another home. The object
-- of a home that is sent has no stale bit.
abbrev pub ProbesShared : View → View → Search → Doing → Doing → Option (ℕ × ℕ) → Type 0
ProbesShared v w search empty another None = Reaches v w (Some empty)
ProbesShared v w search empty another (Some sent) =
    (sent.0 ≡ search.home → Reaches v w (Some (Cleared search.place (Disk search.home) sent.1)))
    × (sent.0 ≢ search.home → Reaches v w (Some another))

-- what a forwarding word sends, and where
abbrev pub IsForward : ℕ → Option (ℕ × ℕ) → Type 0
IsForward word None = word ≡ 0
IsForward word (Some sent) = Sends word sent.0 sent.1

-- where the next forwarding word stands of a search
abbrev pub probe_place : Began → Search → ℕ
probe_place b search = forward_place b (probe search.home b.forwards search.tried)

-- The call searches, with a copy at hand or without.
abbrev pub IsSearching : View → Search → Type 0
IsSearching v search = (v.doing ≡ Some (Searching search))
    ⊎ ((a : Activation) × (v.doing ≡ Some (Retrying a)) × (a.search ≡ search))

-- All forwarding words send other homes, and the stop word was set.
abbrev pub Fills : View → View → Type 0
Fills v w = Sees v w.seen × (w ≡ record (view_after v w.seen v.known None) { forwarded = true })

-- where it is told, a Body of this shape stands at the home on disk, and the object of the home has the shape
abbrev pub HomeHas : View → List Entry → ℕ → Shape → Type 0
HomeHas v h home z = v.began.told ≡ true → HeadIs (base_at v.began) home (record { shape = z; kind = Body })
    × ((n : ℕ) → named v.began.maps.homes home ≡ Some n → shape h n ≡ Some (record { refs = z.refs; nums = z.nums }))

-- Words from the address on are for a copy of the Body of this shape, with these words after its head.
pub record ClaimsCopy (v w : View) (search : Search) (z : Shape) (rest : List ℕ) (address : ℕ) : Type 0 where
  pub sees : Sees v w.seen
  pub object : HomeHas v w.seen search.home z
  pub first : FirstFree v address
  pub fits : address + cost_of z ≤ v.began.size + 1
  pub is : w ≡ record (view_after v w.seen v.known
      (Some (Copying (record { search = search; address = address; shape = z }) 0))) {
        rest = rest;
        claimed = v.claimed + cost_of z;
      }

-- They end past the last word, which is a cause to stop.
pub record LacksCopy (v w : View) (search : Search) (z : Shape) : Type 0 where
  pub sees : Sees v w.seen
  pub object : HomeHas v w.seen search.home z
  pub found : ℕ
  pub first : FirstFree v found
  pub past : v.began.size + 1 < found + cost_of z
  pub is : w ≡ record (view_after v w.seen v.known (Some (LackingCopy search z))) {
    claimed = v.claimed + cost_of z;
    over = v.over + 1;
    spaced = true;
  }

-- a claim of words for a copy was answered by their address, or by none
abbrev pub CopyTells : View → View → Search → Shape → List ℕ → Option ℕ → Type 0
CopyTells v w search z rest None = LacksCopy v w search z
CopyTells v w search z rest (Some address) = ClaimsCopy v w search z rest address

-- The copy became the object of its home.
pub record Wins (v w : View) (a : Activation) : Type 0 where
  pub sees : Sees v w.seen
  pub object : ℕ
  pub named : v.began.told ≡ true → named v.began.maps.homes a.search.home ≡ Some object
  pub is : w ≡ record (view_after v w.seen (v.known ++ record { address = a.address; object = object } ∷ [])
      (Some (Cleared a.search.place (Disk a.search.home) a.address))) { won = v.won + 1 }

-- A commit found what its forwarding word sent by then: none, so that the copy is sent
-- there now; this home; or another.
abbrev pub Commits : View → View → Activation → Option (ℕ × ℕ) → Type 0
Commits v w a None = Wins v w a
Commits v w a (Some sent) = ProbesShared v w a.search (Copied a) (Retrying (retried a)) (Some sent)

-- a forwarding word was found in a search
pub record FindsForward (v w : View) (search : Search) (empty another : Doing) (found : ℕ) : Type 0 where
  pub sent : Option (ℕ × ℕ)
  pub is : IsForward found sent
  pub probes : ProbesShared v w search empty another sent

abbrev pub ProbePlay : Step ℕ → Me ℕ View → ℕ → Me ℕ View → Type 0
ProbePlay s m found w = Stays m w
    × ((search : Search) → m.0.doing ≡ Some (Searching search) → s.word ≡ probe_place m.0.began search
    → FindsForward m.0 w.0 search (Missed search) (Searching (further search)) found)

abbrev pub RetryPlay : Step ℕ → Me ℕ View → ℕ → Me ℕ View → Type 0
RetryPlay s m found w = Stays m w
    × ((a : Activation) → m.0.doing ≡ Some (Retrying a) → s.word ≡ probe_place m.0.began a.search
    → FindsForward m.0 w.0 a.search (Copied a) (Retrying (retried a)) found)

abbrev pub FillsPlay : Step ℕ → Me ℕ View → ℕ → Me ℕ View → Type 0
FillsPlay s m stored w = Stays m w × Fills m.0 w.0

-- the stale bit of the object that a Stub names was cleared
abbrev pub ClearStubPlay : Step ℕ → Me ℕ View → ℕ → Me ℕ View → Type 0
ClearStubPlay s m found w = Stays m w
    × ((search : Search) (scion target : ℕ) → m.0.doing ≡ Some (Missed search)
    → scion_in m.0.began.scions scion ≡ Some (record { home = search.home; address = target })
    → s.word ≡ word_place m.0.began target
    → Reaches m.0 w.0 (Some (Cleared search.place (Disk search.home) target)))

-- the first free place moved on by the words of a copy of this Body
abbrev pub CopyPlay : Shape → List ℕ → Step ℕ → Me ℕ View → ℕ → Me ℕ View → Type 0
CopyPlay z rest s m found w = Stays m w × (found + s.first < 2 ^ 64)
    × ((search : Search) → m.0.doing ≡ Some (Missed search)
    → (found + s.first ≤ m.0.began.size + 1 → ClaimsCopy m.0 w.0 search z rest found)
    × (m.0.began.size + 1 < found + s.first → LacksCopy m.0 w.0 search z))

-- a word of a copy was stored, after its header
abbrev pub FillCopyPlay : Step ℕ → Me ℕ View → ℕ → Me ℕ View → Type 0
FillCopyPlay s m stored w = Stays m w
    × ((a : Activation) (k : ℕ) → m.0.doing ≡ Some (Copying a k)
    → Reaches m.0 w.0 (Some (Copying a (k + 1))))

-- and its header
abbrev pub HeadCopyPlay : Step ℕ → Me ℕ View → ℕ → Me ℕ View → Type 0
HeadCopyPlay s m stored w = Stays m w
    × ((a : Activation) (k : ℕ) → m.0.doing ≡ Some (Copying a k) → Reaches m.0 w.0 (Some (Copied a)))

-- a forwarding word was exchanged with that of a copy, where it was empty
pub record FindsCommit (v w : View) (a : Activation) (found : ℕ) : Type 0 where
  pub sent : Option (ℕ × ℕ)
  pub is : IsForward found sent
  pub commits : Commits v w a sent

abbrev pub CommitPlay : Step ℕ → Me ℕ View → ℕ → Me ℕ View → Type 0
CommitPlay s m found w = Stays m w
    × ((a : Activation) → m.0.doing ≡ Some (Copied a) → s.word ≡ probe_place m.0.began a.search
    → FindsCommit m.0 w.0 a found)
