-- How the look of a call goes on from one stage to the next.
use Rattle.std.proofs.Common.{◌≡◌, ℕ, ◌+◌, inl, inr, List, refl, sym, ◌∙◌, ap}
use Rattle.std.proofs.lemmas.Bool.{cases_lt}
use Rattle.std.specs.Prelude.{Bool, true, false, ◌==◌, if◌then◌else◌, Option, None, Some}
use Rattle.melt_model.specs.declared.operations.Op.{Op}
use Rattle.melt_word.specs.Words.{ref_word, cost_of}
use Rattle.melt_word.specs.declared.header.Shape.{Shape}
use Rattle.melt_word.specs.declared.reference.Ref.TheVariants.{Stale, Disk}
use Rattle.melt_record.specs.declared.head.Kind.{Kind}
use Rattle.melt_record.specs.declared.head.Kind.TheVariants.{Body, Stub}
use Rattle.melt_scion.specs.State.{State}
use Rattle.melt_scion.specs.Placed.{Maps}
use Rattle.melt_core.specs.declared.call.Access.TheVariants.{Load, Store, Get, Put}
use Rattle.melt_core.specs.declared.call.Task.TheVariants.{Make, Use, LoadGlobal, StoreGlobal}
use Rattle.melt_core.specs.declared.call.Place.{Place}
use Rattle.melt_core.specs.declared.call.Place.TheVariants.{Field, Global}
use Rattle.melt_core.specs.declared.call.Search.{Search}
use Rattle.melt_core.specs.declared.call.Stage.{Stage}
use Rattle.melt_core.specs.declared.call.Stage.TheVariants.{Polled, Headed, Looked, Cleared, Claimed, Lacking}
use Rattle.melt_core.specs.declared.call.Stage.TheVariants.{Searching, Missed, HeadRead, BodyRead, Copying, Copied}
use Rattle.melt_core.specs.declared.call.Stage.TheVariants.{Retrying, LackingCopy}
use Rattle.melt_core.specs.Known.{word_in}
use Rattle.melt_core.specs.Stages.{FindsTag, Probes, ReadAs, Next, Nothing, change_of, further, retried, reached}
use Rattle.melt_core.specs.StaleBits.{Look, home_look, look_of}

-- A call without a look, which the event leaves without one; one that keeps its look; and one that looks now.
pub data LookGoes (s : State) (register : ℕ → ℕ) (before : Option Stage) (next : Stage) : Type 0 where
  none : look_of (Some next) ≡ None → LookGoes s register before next
  same : look_of (Some next) ≡ look_of before → LookGoes s register before next
  looks : (look : Look) → look_of (Some next) ≡ Some look → word_in s look.place ≡ ref_word look.found
      → ((rest : List ℕ) → change_of s register rest before ≡ Nothing) → LookGoes s register before next

module _ (s : State) (register : ℕ → ℕ) where
  finds_look : (before : Option Stage) (place : Place) (dst : ℕ) (next : Stage)
      → ((rest : List ℕ) → change_of s register rest before ≡ Nothing) → FindsTag (word_in s place) place dst next
      → LookGoes s register before next
  finds_look before place dst next still (inl stale) =
      looks (record { place = place; found = Stale stale.0 }) (ap (λ (g : Stage). look_of (Some g)) stale.2) stale.1
      still
  finds_look before place dst next still (inr home) =
      looks (record { place = place; found = Disk home.0 }) (ap (λ (g : Stage). look_of (Some g)) home.2) home.1 still

  is_look : (before : Option Stage) (from next : Stage) → look_of (Some from) ≡ look_of before → next ≡ from
      → LookGoes s register before next
  is_look before from next keeps is = same (ap (λ (g : Stage). look_of (Some g)) is ∙ keeps)

  is_none : (before : Option Stage) (from next : Stage) → look_of (Some from) ≡ None → next ≡ from
      → LookGoes s register before next
  is_none before from next keeps is = none (ap (λ (g : Stage). look_of (Some g)) is ∙ keeps)

  probes_look : (before : Option Stage) (search : Search) (empty another next : Stage)
      → look_of before ≡ Some (home_look search) → look_of (Some empty) ≡ Some (home_look search)
      → look_of (Some another) ≡ Some (home_look search) → Probes s search empty another next
      → LookGoes s register before next
  probes_look before search empty another next at at_empty at_another is = elim is.1 [
    | inl here ↦ is_look before (reached search here.0) next (sym at) here.2
    | inr other ↦ elim other [
      | inl nothing ↦ is_look before empty next (at_empty ∙ sym at) nothing.1
      | inr sent ↦ is_look before another next (at_another ∙ sym at) sent.1
    ]
  ]

  body_look : (search : Search) (shape : Shape) (whole : Bool)
      → look_of (Some (if whole then BodyRead search shape else HeadRead search shape)) ≡ Some (home_look search)
  body_look search shape true = refl
  body_look search shape false = refl

  read_look : (search : Search) (shape : Shape) (kind : Kind) (next : Stage) → ReadAs s search shape kind next
      → LookGoes s register (Some (Missed search)) next
  read_look search shape Body next is =
      same (ap (λ (g : Stage). look_of (Some g)) is ∙ body_look search shape (shape.refs + shape.nums == 0))
  read_look search shape (Stub scion) next is =
      is_look (Some (Missed search)) (Looked search.place (Disk search.home) is.0 search.dst) next refl is.2

  pub next_look : (maps : Maps) (stop : Bool) (o : Op) (before : Option Stage) (next : Stage)
      → Next maps s register stop o before next → LookGoes s register before next
  next_look maps stop o None next is = is_none None (Polled is.0) next refl is.3
  next_look maps stop o (Some (Polled (Make dst shape))) next is =
      elim (cases_lt (s.base.size + 1) (s.free + cost_of shape)) [
        | inl above ↦ is_none (Some (Polled (Make dst shape))) (Lacking (cost_of shape)) next refl (is.1 above)
        | inr below ↦ is_none (Some (Polled (Make dst shape))) (Claimed s.free shape 0 dst) next refl (is.0 below)
      ]
  next_look maps stop o (Some (Polled (Use r access))) next is =
      is_none (Some (Polled (Use r access))) (Headed (register r) is.0 access) next refl is.3
  next_look maps stop o (Some (Polled (LoadGlobal dst g))) next is =
      finds_look (Some (Polled (LoadGlobal dst g))) (Global g) dst next (λ rest. refl) is
  next_look maps stop o (Some (Polled (StoreGlobal g src))) next is = absurd is
  next_look maps stop o (Some (Headed address shape (Load dst i))) next is =
      finds_look (Some (Headed address shape (Load dst i))) (Field address i) dst next (λ rest. refl) is
  next_look maps stop o (Some (Headed address shape (Store i src))) next is = absurd is
  next_look maps stop o (Some (Headed address shape (Get j))) next is = absurd is
  next_look maps stop o (Some (Headed address shape (Put j v))) next is = absurd is
  next_look maps stop o (Some (Looked place found target dst)) next is =
      is_look (Some (Looked place found target dst)) (Cleared place found target dst) next refl is
  next_look maps stop o (Some (Cleared place found target dst)) next is = absurd is
  next_look maps stop o (Some (Claimed address shape stored dst)) next is =
      is_none (Some (Claimed address shape stored dst)) (Claimed address shape (stored + 1) dst) next refl is.1
  next_look maps stop o (Some (Lacking need)) next is = absurd is
  next_look maps stop o (Some (Searching search)) next is =
      probes_look (Some (Searching search)) search (Missed search) (Searching (further search)) next refl refl refl is
  next_look maps stop o (Some (Missed search)) next is = read_look search is.0 is.1 next is.2
  next_look maps stop o (Some (HeadRead search shape)) next is =
      is_look (Some (HeadRead search shape)) (BodyRead search shape) next refl is
  next_look maps stop o (Some (BodyRead search shape)) next is =
      elim (cases_lt (s.base.size + 1) (s.free + cost_of shape)) [
        | inl above ↦ is_look (Some (BodyRead search shape)) (LackingCopy search shape) next refl (is.1 above)
        | inr below ↦ is_look (Some (BodyRead search shape))
            (Copying (record { search = search; address = s.free; shape = shape }) 0) next refl (is.0 below)
      ]
  next_look maps stop o (Some (Copying a stored)) next is =
      elim (cases_lt (stored + 1) (cost_of a.shape)) [
        | inl more ↦ is_look (Some (Copying a stored)) (Copying a (stored + 1)) next refl (is.0 more)
        | inr all ↦ is_look (Some (Copying a stored)) (Copied a) next refl (is.1 all)
      ]
  next_look maps stop o (Some (Copied a)) next is =
      probes_look (Some (Copied a)) a.search (reached a.search a.address) (Retrying (retried a)) next refl refl refl is
  next_look maps stop o (Some (Retrying a)) next is =
      probes_look (Some (Retrying a)) a.search (Copied a) (Retrying (retried a)) next refl refl refl is
  next_look maps stop o (Some (LackingCopy search shape)) next is = absurd is
