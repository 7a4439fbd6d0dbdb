-- The commit of a copy: an exchange of the forwarding word that was empty keeps the rule, whether it was won or lost.
use Rattle.std.proofs.Common.{◌≡◌, ◌≢◌, ℕ, ◌+◌, ◌<◌, Bool, true, false, List, [], ◌∷◌, ◌++◌, get_or}
use Rattle.std.proofs.Common.{refl, sym, ◌∙◌, ap, subst, arith, inl, inr}
use Rattle.std.proofs.Math.ListN.{set, length-set}
use Rattle.std.proofs.lemmas.Bool.{cases_eq}
use Rattle.std.proofs.lemmas.Bool.Decides.{eqb_tells}
use Rattle.std.proofs.lemmas.List.{get_or-set_other}
use Rattle.std.specs.Option.{option_map}
use Rattle.std.specs.Prelude.{Option, None, Some, ◌==◌}
use lib.ListN.{get_elem?}
use mathlib.Core.Option.{some, none}
use prog.Atomic.{either}
use Rattle.atomic_table.specs.Table.{Me, Allows, step}
use Rattle.atomic_table.specs.declared.shared.Seat.{Seat}
use Rattle.melt_model.specs.declared.history.Value.TheVariants.{Ref as Object}
use Rattle.melt_word.specs.declared.header.Header.{Header}
use Rattle.melt_word.specs.declared.reference.Ref.TheVariants.{Disk}
use Rattle.melt_forward.proofs.Pairs.{forward_word-filled}
use Rattle.melt_forward.proofs.Probing.{probe_within}
use Rattle.melt_forward.specs.Forwarding.{forward_word, probe}
use Rattle.melt_scion.proofs.Committing.{copy_header}
use Rattle.melt_scion.proofs.Geometry.{one_header}
use Rattle.melt_scion.specs.Changes.{ForwardChanges, NameAppears}
use Rattle.melt_scion.specs.GhostMaps.{named}
use Rattle.melt_scion.specs.Placed.{Maps, HasObject}
use Rattle.melt_scion.specs.Regions.{Region, Apart}
use Rattle.melt_scion.specs.State.{State, IsFresh}
use Rattle.melt_core.proofs.Evolving.{evolves_event}
use Rattle.melt_core.proofs.Regions.{no_region_apart}
use Rattle.melt_core.proofs.Searching.{copy_more}
use Rattle.melt_core.proofs.Staying.{fresh_stays, looked_stays}
use Rattle.melt_core.specs.Events.{Event}
use Rattle.melt_core.specs.Events.Event.{commits}
use Rattle.melt_core.specs.Known.{Evolves, HoldsCopy, region}
use Rattle.melt_core.specs.StaleBits.{look_of}
use Rattle.melt_core.specs.Stages.{retried}
use Rattle.melt_core.specs.declared.call.Activation.{Activation}
use Rattle.melt_rule.proofs.Allowed.{loaded}
use Rattle.melt_rule.proofs.Forwards.{seated_probed}
use Rattle.melt_rule.proofs.Keeping.{IsStep, sees}
use Rattle.melt_rule.proofs.Loads.{snoc_old, snoc_new, snoc_here}
use Rattle.melt_rule.proofs.Makes.{appears, with_name}
use Rattle.melt_rule.proofs.Probing.{Probing, probed_word, probes}
use Rattle.melt_rule.proofs.Seating.{seated}
use Rattle.melt_rule.proofs.Showing.{filled_more, forward_changes}
use Rattle.melt_rule.proofs.Untagging.{either_yes, either_no}
use Rattle.melt_rule.proofs.Within.{allowed}
use Rattle.melt_rule.specs.Coming.{CommitPlay, Commits, FindsCommit, FindsForward, IsForward, ProbesShared, Wins}
use Rattle.melt_rule.specs.Coming.{probe_place}
use Rattle.melt_rule.specs.Plays.{Stays}
use Rattle.melt_rule.specs.Rule.{Has, SeatStands, Kept, Rule, filled_count, is_lacking, is_reading}
use Rattle.melt_rule.specs.Seats.{EpochWords, IsSeat, knows_of}
use Rattle.melt_rule.specs.Shown.{shows, owned, forward_place, Knows, staged}
use Rattle.melt_rule.specs.Tells.{CopyFits, IsWithin, view_after}
use Rattle.melt_rule.specs.declared.began.Began.{Began}
use Rattle.melt_rule.specs.declared.began.Pair.{Pair}
use Rattle.melt_rule.specs.declared.began.Start.{Start}
use Rattle.melt_rule.specs.declared.view.Doing.{Doing}
use Rattle.melt_rule.specs.declared.view.Doing.TheVariants.{Cleared, Copied, Retrying}
use Rattle.melt_rule.specs.declared.view.View.{View}

-- the number of the object of a home, where it is told; elsewhere any number will do
number_of : (told : Bool) (maps : Maps) (home : ℕ) → (told ≡ true → HasObject maps home)
    → (n : ℕ) × (told ≡ true → maps.home home ≡ Some n)
number_of true maps home has = ((has refl).0, λ is. (has refl).1)
number_of false maps home has = (0, λ is. absurd (cc))

module _ (start : Start) (words : List ℕ) (views : List View) (kept : Kept start words views) (id : ℕ) (v : View)
    (at : get_elem? views id ≡ some v) (live : 0 < v.parts) (a : Activation) (copied : v.doing ≡ Some (Copied a)) where
  abbrev now : State
  now = shows start.began words

  stood : SeatStands start.began kept.maps now kept.history v
  stood = kept.seats id v at live

  knows : HoldsCopy start.began.told kept.maps now v.rest a × (a.search.tried < start.began.forwards)
  knows = subst (Knows start.began.told kept.maps now v.rest) copied stood.doing

  pub commit_within : a.search.tried < start.began.forwards
  commit_within = knows.1

  -- the place of the forwarding word
  abbrev pub place : ℕ
  place = probe a.search.home start.began.forwards a.search.tried

  place_within : place < start.began.forwards
  place_within = probe_within a.search.home start.began.forwards a.search.tried knows.1

  -- the search may read the word, and goes on after it with the copy at hand
  searching : Probing start words views kept id v at live (ap is_lacking copied) (ap is_reading copied) a.search
      (Copied a)
      (Retrying (retried a))
  searching = record {
    searches = knows.0.searches;
    more = knows.1;
    misses = λ empty. knows;
    passes = λ another. copy_more start.began.told kept.maps now v.rest a knows.0 knows.1 another;
    look = ap (λ (doing : Option Doing). look_of (staged doing)) copied;
    empty_look = refl;
    another_look = refl;
    empty_owns = inl (sym (ap owned copied));
    another_owns = inl (sym (ap owned copied));
  }

  -- a word that is filled answers a commit as it answers a search
  filled_answers : (found : ℕ) (w : View) → found ≢ 0
      → FindsForward v w a.search (Copied a) (Retrying (retried a)) found → FindsCommit v w a found
  filled_answers found w some_ finds = go finds.sent finds.is finds.probes
    where
      go : (sent : Option (ℕ × ℕ)) → IsForward found sent
          → ProbesShared v w a.search (Copied a) (Retrying (retried a)) sent
          → FindsCommit v w a found
      go None none_ tells = absurd (some_ none_)
      go (Some sent) sends tells = record { sent = Some sent; is = sends; commits = tells }

  -- an exchange that was lost
  pub loses : now.forward place ≢ 0
      → (w : View) × IsStep start words words views kept id v at live w × FindsCommit v w a (now.forward place)
  loses some_ =
      let r = probes start words views kept id v at live (ap is_lacking copied) (ap is_reading copied) a.search
      (Copied a)
      (Retrying (retried a))
      searching in
      (r.0, r.1, filled_answers (now.forward place) r.0 some_ r.2)

  -- an exchange that was won: the address has the number of the object of the home
  module _ (n : ℕ) (number : start.began.told ≡ true → kept.maps.home a.search.home ≡ Some n)
      (empty : now.forward place ≡ 0) where
    abbrev word : ℕ
    word = forward_word a.search.home a.address

    abbrev after : List ℕ
    after = set words (forward_place start.began place) word

    abbrev new : State
    new = shows start.began after

    abbrev maps : Maps
    maps = with_name start words views kept id v at live a.address n

    abbrev mine : Region
    mine = region a.address a.shape

    abbrev pair : Pair
    pair = record { address = a.address; object = n }

    abbrev known : List Pair
    known = v.known ++ pair ∷ []

    abbrev doing : Doing
    doing = Cleared a.search.place (Disk a.search.home) a.address

    -- the view after it
    abbrev pub won : View
    won = record (view_after v kept.history known (Some doing)) { won = v.won + 1 }

    appeared : NameAppears kept.maps maps a.address n
    appeared = appears start words views kept id v at live a.address n

    changes : ForwardChanges now new place word
    changes = forward_changes start.began words place word place_within
        (let size = kept.size in let within = place_within in omega arith)

    event : Event start.began.told kept.history kept.maps maps now new mine 0 None
    event = commits a.search.home a.search.tried place n a.address a.shape v.rest (record {
      probed = knows.0.searches.probed;
      within = knows.1;
      place = refl;
      empty = empty;
      body = knows.0.body;
      copy = knows.0.copy;
      number = number;
    }) changes appeared

    evolves : Evolves kept.maps maps now new 0
    evolves = evolves_event start.began.told kept.history kept.maps maps now new mine 0 None kept.holds.formed event

    fresh_here : IsFresh new a.address
    fresh_here other starts = ap (λ (h : Header). h.stale)
        (one_header new a.address other (record { shape = a.shape; stale = false }) starts (record {
          in_range = knows.0.body.head.small;
          word = changes.word_stays a.address
              ∙ copy_header kept.maps now a.address a.search.home a.shape v.rest knows.0.copy;
        }))

    known_after : Knows start.began.told maps new v.rest (Some doing)
    known_after = (
      looked_stays kept.maps maps now new 0 kept.holds.formed evolves a.search.place (Disk a.search.home)
          knows.0.searches.looked,
      record {
        named = (n, appeared.here);
        same = λ told. ap (option_map Object) (appeared.home a.search.home ∙ (number told ∙ sym appeared.here));
      },
      fresh_here,
    )

    filled_now : filled_count new.forward start.began.forwards ≡ filled_count now.forward start.began.forwards + 1
    filled_now = filled_more now.forward new.forward start.began.forwards place place_within empty
        (λ none_. forward_word-filled a.search.home a.address knows.0.body.head.in_range (sym changes.here ∙ none_))
        changes.others

    stop_stays : get_or after 0 0 ≡ get_or words 0 0
    stop_stays = get_or-set_other words (forward_place start.began place) 0 word 0 (λ is. omega arith)

    winning : (s : IsStep start words after views kept id v at live won) × (s.act ≡ None)
    winning = (
      record {
        maps = maps;
        mine = mine;
        cleared = 0;
        act = None;
        event = event;
        mine_apart = λ i u other there alive. subst (λ (d : Option Doing). Apart (owned d) (owned u.doing)) copied
            (kept.apart id i v u (λ e. other (sym e)) at there live alive);
        size = length-set words (forward_place start.began place) word;
        names = λ b m is. elim (cases_eq b a.address) [
          | inl here ↦
              let one : n ≡ m =
              let e : Some n ≡ Some m = sym appeared.here ∙ (ap maps.address (sym here) ∙ is) in cc in
              inr (subst (λ (x : ℕ). Has known x m) (sym here)
              (subst (λ (x : ℕ). Has known a.address x) one (snoc_here v.known pair)))
          | inr other ↦ inl (sym (appeared.others b other) ∙ is)
        ];
        parts = refl;
        thread = refl;
        began = refl;
        away = refl;
        seen = refl;
        own_seen = refl;
        more = snoc_old v.known pair;
        known = λ b m has. elim (snoc_new v.known pair b m has) [
          | inl before ↦ evolves.names b m (stood.known b m before)
          | inr this ↦ subst (λ (x : Pair). maps.address x.address ≡ Some x.object) this appeared.here
        ];
        fresh = λ b m has. elim (snoc_new v.known pair b m has) [
          | inl before ↦ fresh_stays kept.maps maps now new 0 kept.holds.formed evolves b (m, stood.known b m before)
              (stood.fresh b m before)
          | inr this ↦ subst (λ (x : Pair). IsFresh new x.address) this fresh_here
        ];
        doing = known_after;
        apart = λ i u other there alive. no_region_apart (owned u.doing);
        sums = record {
          free = ap (λ (k : ℕ). k + v.claimed) changes.free;
          bound = inl (let e : new.free ≡ now.free = changes.free in omega arith);
          over = kept.sums.over id v at;
          won = let more = filled_now in omega arith;
        };
        stops = record {
          bit = inl stop_stays;
          causes = λ has. has;
          stopped = λ found. stop_stays ∙ kept.stop.stopped id v at found;
          spaced = λ found.
              let e : new.free ≡ now.free = changes.free in let past = kept.stop.spaced id v at found in omega arith;
          lacks = kept.stop.lacks id v at;
          sets = λ cause goes_on. stop_stays ∙ kept.stop.sets id v at cause (ap is_lacking copied);
          forwarded = λ found p below none_.
              let some_ : now.forward p ≢ 0 = kept.stop.forwarded id v at found p below in
              some_ (sym (evolves.forwards p below some_) ∙ none_);
        };
        bits = record {
          look = inr (refl, inl (sym (ap (λ (d : Option Doing). look_of (staged d)) copied)));
          reads = inl (ap is_reading copied);
          clears = λ some_. absurd (some_ refl);
          brings = λ b m is. elim (cases_eq b a.address) [
            | inl here ↦ inr (inr (ap Some (sym here)))
            | inr other ↦ inl (sym (appeared.others b other) ∙ is)
          ];
          gives = λ m gives. absurd (let e : None ≡ Some gives.0 = gives.1 in cc);
        };
      },
      refl,
    )

    pub wins : IsStep start words after views kept id v at live won × Wins v won a
    wins = (
      winning.0,
      record {
        sees = sees start words after views kept id v at live won winning.0 winning.1;
        object = n;
        named = λ told.
            ap (λ (b : Began). named b.maps.homes a.search.home) stood.began
            ∙ (sym (kept.maps_stand.homes a.search.home)
            ∙ number (sym (ap (λ (b : Began). b.told) stood.began) ∙ told));
        is = refl;
      },
    )

  -- which number it is, the search knows
  pub commits_won : now.forward place ≡ 0
      → let after : List ℕ = set words (forward_place start.began place) (forward_word a.search.home a.address) in
      (w : View) × IsStep start words after views kept id v at live w × FindsCommit v w a (now.forward place)
  commits_won empty =
      let n = number_of start.began.told kept.maps a.search.home knows.0.searches.object in
      let r = wins n.0 n.1 empty in
      (won n.0 n.1 empty, r.0, record { sent = None; is = empty; commits = r.1 })

pub commits_at : {start : Start} {slots : ℕ} (id : ℕ) {i word : ℕ} {a : Activation} {me : Me ℕ View} → 0 < me.0.parts
    → me.0.doing ≡ Some (Copied a) → i ≡ probe_place me.0.began a.search → word ≡ forward_word a.search.home a.address
    → Allows (Rule start) slots id me i (λ x. either (x == 0) word x) (CommitPlay (step slots i 0 word none) me)
commits_at {start} {slots} id {i} {word} {a} {me} live copied placed is =
    allowed slots id i me (λ x. either (x == 0) word x) (CommitPlay (step slots i 0 word none) me) live
    (λ words views kept at alive small.
    let p : ℕ = place start words views kept id me.0 at alive a copied in
    let x : ℕ = get_or words i 0 in
    let there : i ≡ forward_place start.began p =
    placed ∙ ap (λ (b : Began). probe_place b a.search) (kept.seats id me.0 at alive).began in
    let found : (shows start.began words).forward p ≡ x =
    sym (probed_word kept id me.0 at alive a.search (commit_within start words views kept id me.0 at alive a copied)
    placed) in
    let tells : (w : View) → FindsCommit me.0 w a ((shows start.began words).forward p) → (b : Activation)
    → me.0.doing ≡ Some (Copied b) → i ≡ probe_place me.0.began b.search → FindsCommit me.0 w b x =
    λ w finds b also at_b.
    let both : Some (Copied a) ≡ Some (Copied b) = sym copied ∙ also in
    let one : a ≡ b = cc in
    subst (λ (y : Activation). FindsCommit me.0 w y x) one (subst (FindsCommit me.0 w a) found finds) in
    elim (eqb_tells x 0) [
      | inl none_ ↦
          let r = commits_won start words views kept id me.0 at alive a copied (found ∙ none_.1) in (
            r.0,
            subst (λ (y : ℕ). IsStep start words (set words i y) views kept id me.0 at alive r.0)
                (sym (either_yes x 0 word none_.1))
                (subst (λ (y : ℕ). IsStep start words (set words i y) views kept id me.0 at alive r.0) (sym is)
                (subst (λ (j : ℕ). IsStep start words (set words j (forward_word a.search.home a.address)) views kept id
                me.0 at alive r.0) (sym there) r.1)),
            λ inside. ((refl, inside), tells r.0 r.2),
          )
      | inr some_ ↦
          let r = loses start words views kept id me.0 at alive a copied (λ e. some_.1 (sym found ∙ e)) in (
            r.0,
            subst (λ (y : ℕ). IsStep start words (set words i y) views kept id me.0 at alive r.0)
                (sym (either_no x 0 word some_.1))
                (loaded kept i r.1),
            λ inside. ((refl, inside), tells r.0 r.2),
          )
    ])

-- the seat after it
pub seated_committed : {words : EpochWords} {old new : Seat ℕ View} (a : Activation) (sent : Option (ℕ × ℕ))
    → IsSeat words old → new.table_id ≡ old.table_id → Stays old.me new.me
    → Commits (knows_of old) (knows_of new) a sent → IsSeat words new
seated_committed a None seat table stays wins = seated seat table stays wins.is refl refl
seated_committed a (Some sent) seat table stays tells =
    seated_probed a.search (Copied a) (Retrying (retried a)) (Some sent) seat table stays tells

-- the forwarding word of a copy is one of those that there are
pub copied_within : {v : View} {a : Activation} → IsWithin v → v.doing ≡ Some (Copied a)
    → CopyFits v.began a × (a.search.tried < v.began.forwards)
copied_within inside is = rw is at inside.doing
