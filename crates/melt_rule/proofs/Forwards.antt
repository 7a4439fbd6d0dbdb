-- What a seat gives a step on a forwarding word, and what the step gives back.
use Rattle.std.proofs.Common.{◌≡◌, ℕ, ◌<◌, refl, sym, ◌∙◌, ap, subst, inl, inr}
use Rattle.std.specs.Prelude.{Option, None, Some, MatchOption}
use native.Mathlib.Decide.{ℕ_discrete}
use Rattle.atomic_table.specs.declared.shared.Seat.{Seat}
use Rattle.melt_forward.proofs.Pairs.{forward_word-filled, one_pair}
use Rattle.melt_forward.specs.Forwarding.{IsForwarding, Sends, forward_word}
use Rattle.melt_core.specs.declared.call.Search.{Search}
use Rattle.melt_rule.proofs.Seating.{seated}
use Rattle.melt_rule.proofs.Standing.{words_in}
use Rattle.melt_rule.specs.Coming.{FindsForward, IsForward, ProbesShared, probe_place}
use Rattle.melt_rule.specs.Plays.{Stays}
use Rattle.melt_rule.specs.Seats.{EpochWords, IsSeat, knows_of}
use Rattle.melt_rule.specs.declared.began.Began.{Began}
use Rattle.melt_rule.specs.declared.view.Doing.{Doing}
use Rattle.melt_rule.specs.declared.view.View.{View}
use Rattle.melt_rule.specs.declared.words.Words.TheInside.{Inside}

-- where the next forwarding word of a search stands, as the seat says it
pub probe_at : {words : EpochWords} {seat : Seat ℕ View} → IsSeat words seat → (search : Search) (place : ℕ)
    → place ≡ probe_place words.start.began search → place ≡ probe_place (knows_of seat).began search
probe_at seat search place is = is ∙ ap (λ (b : Began). probe_place b search) (sym seat.began)

-- the table has it
pub has_forward : {words : EpochWords} (inside : Inside) → words_in inside ≡ words → (place : ℕ)
    → place < words.id.words → place < inside.table.shared.table_id.words
has_forward inside is place within = subst (λ (w : EpochWords). place < w.id.words) (sym is) within

-- what was found may be unpacked
pub may_unpack : (word : ℕ) (sent : Option (ℕ × ℕ)) → IsForward word sent → IsForwarding word
may_unpack word None is = inl is
may_unpack word (Some sent) is = inr (sent.0, sent.1, is)

-- and is unpacked to what it sends
pub same_sent : (word : ℕ) (a b : Option (ℕ × ℕ)) → IsForward word a
    → MatchOption b (word ≡ 0) (λ pair. Sends word pair.0 pair.1) → a ≡ b
same_sent word None None is also = refl
same_sent word None (Some sent) is also =
    let filled : word ≡ forward_word sent.0 sent.1 = also.is in
    absurd (forward_word-filled sent.0 sent.1 also.home_in_range (sym filled ∙ is))
same_sent word (Some sent) None is also =
    let filled : word ≡ forward_word sent.0 sent.1 = is.is in
    absurd (forward_word-filled sent.0 sent.1 is.home_in_range (sym filled ∙ also))
same_sent word (Some sent) (Some other) is also =
    let one = one_pair word sent.0 sent.1 other.0 other.1 is also in
    ap (λ (h : ℕ). Some (h, sent.1)) one.0 ∙ ap (λ (a : ℕ). Some (other.0, a)) one.1

-- so it is what the search finds
pub probed_as : {v w : View} {search : Search} {empty another : Doing} {word : ℕ} (sent : Option (ℕ × ℕ))
    → FindsForward v w search empty another word → MatchOption sent (word ≡ 0) (λ pair. Sends word pair.0 pair.1)
    → ProbesShared v w search empty another sent
probed_as {word} sent found is = rw (← same_sent word found.sent sent found.is is) found.probes

-- the seat after it
pub seated_probed : {words : EpochWords} {old new : Seat ℕ View} (search : Search) (empty another : Doing)
    (sent : Option (ℕ × ℕ)) → IsSeat words old → new.table_id ≡ old.table_id → Stays old.me new.me
    → ProbesShared (knows_of old) (knows_of new) search empty another sent → IsSeat words new
seated_probed search empty another None seat table stays probes = seated seat table stays probes.is refl refl
seated_probed search empty another (Some sent) seat table stays probes =
    elim (ℕ_discrete sent.0 search.home) [
      | yes same ↦ seated seat table stays (probes.0 same).is refl refl
      | no other ↦ seated seat table stays (probes.1 other).is refl refl
    ]
