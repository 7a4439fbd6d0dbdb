-- The search for the object of a home: what the forwarding word tells to which it has come, and its events.
use Rattle.std.proofs.Common.{◌≡◌, ℕ, ◌+◌, ◌-◌, ◌*◌, ◌/◌, ◌<◌, ◌≤◌, inl, inr, List, length, get_or, refl, sym, ◌∙◌}
use Rattle.std.proofs.Common.{ap, subst, arith, below_more}
use Rattle.std.proofs.lemmas.Bool.{cases_lt}
use Rattle.std.proofs.lemmas.List.{get_or_read_under}
use Rattle.std.specs.Prelude.{Bool, false, Option, Some, None, slice_index, slice_set}
use Rattle.melt_model.specs.declared.operations.Op.{Op}
use Rattle.melt_forward.specs.Forwarding.{Sends, SendsAnother, AllSendOthers, probe, forward_word}
use Rattle.melt_forward.proofs.Probing.{each_place_once, one_try, probe_within}
use Rattle.melt_scion.specs.State.{State, Forwards}
use Rattle.melt_scion.specs.Placed.{Maps, FormedWords}
use Rattle.melt_scion.specs.Commits.{Probed}
use Rattle.melt_scion.specs.Heaps.{OnDisk, register_in}
use Rattle.melt_scion.proofs.Searching.{sent_named, sent_fresh, sent_same, missed_record}
use Rattle.melt_core.specs.declared.answer.Pause.TheVariants.{Forward}
use Rattle.melt_core.specs.declared.answer.Refusal.TheVariants.{Pause}
use Rattle.melt_core.specs.declared.answer.StepResult.TheVariants.{Going, Refused}
use Rattle.melt_core.specs.declared.call.Activation.{Activation}
use Rattle.melt_core.specs.declared.call.Place.{Place}
use Rattle.melt_core.specs.declared.call.Search.{Search}
use Rattle.melt_core.specs.declared.call.Stage.{Stage}
use Rattle.melt_core.specs.declared.call.Stage.TheVariants.{Searching, Missed, Copied, Retrying}
use Rattle.melt_core.specs.declared.probing.Probe.{Probe}
use Rattle.melt_core.specs.declared.probing.Probe.TheVariants.{At, Empty, Another}
use Rattle.melt_core.specs.Known.{Known, Searches, HoldsCopy}
use Rattle.melt_core.specs.Stages.{Next, Nothing, Probes, SearchesOn, change_of, further, retried, reached}
use Rattle.melt_core.specs.Stages.{next_forward}
use Rattle.melt_core.specs.Changed.{TellsOf, probed_place, probed_word, stopped, with_call}
use Rattle.melt_core.specs.Advances.{Asks, AdvancesOver}
use Rattle.melt_core.specs.Views.{View, Standing, maps, state, rest_of, stage_of, claimed_in}
use Rattle.melt_core.proofs.Asked.{inside, known_at, known_so}
use Rattle.melt_core.proofs.Distinct.{few_distinct}
use Rattle.melt_core.proofs.Going.{go_advances}
use Rattle.melt_core.proofs.Looks.{searching_looks}
use Rattle.melt_core.proofs.Refusing.{pause_advances}
use Rattle.melt_core.proofs.Retaining.{still_retains}
use Rattle.melt_core.proofs.Standing.{call_here}
use Rattle.melt_core.proofs.Words.{same_words}

-- the word at the place to which a search has come was read
pub probed_read : (v : View) (search : Search) (place word : ℕ) → place ≡ probed_place v search
    → place < length v.forward → word ≡ get_or v.forward place word → word ≡ probed_word v search
probed_read v search place word at within is =
    get_or_read_under v.forward place (length v.forward) word 0 is within refl ∙ ap (slice_index v.forward) at

-- and is replaced there
pub forward_set : (v : View) (search : Search) (place address word : ℕ) → place ≡ probed_place v search
    → word ≡ forward_word search.home address
    → slice_set v.forward place word
    ≡ slice_set v.forward (probed_place v search) (forward_word search.home address)
forward_set v search place address word at is =
    ap (slice_set v.forward place) is
    ∙ ap (λ (p : ℕ). slice_set v.forward p (forward_word search.home address)) at

-- a search that is not over has a word to read
pub not_over : (tried count : ℕ) → (count ≤ tried → ⊥) → tried < count
not_over tried count more = elim (cases_lt tried count) [
  | inl below ↦ below
  | inr all ↦ absurd (more all)
]

-- the stage after a forwarding word, by what that tells of the home
abbrev pub after_word : Search → Stage → Stage → Probe → Stage
after_word search empty another (At address) = reached search address
after_word search empty another Empty = empty
after_word search empty another Another = another

-- one of the three
pub word_probes : (disk : OnDisk) (v : View) (search : Search) (empty another : Stage) (found : Probe)
    → search.tried < length v.forward → TellsOf v search found
    → Probes (state disk v) search empty another (after_word search empty another found)
word_probes disk v search empty another (At address) within tells = (within, inl (address, tells, refl))
word_probes disk v search empty another Empty within tells = (within, inr (inl (tells, refl)))
word_probes disk v search empty another Another within tells = (within, inr (inr (tells, refl)))

-- one forwarding word more was read that sends another home
pub probed_more : (s : State) (home tried : ℕ) → Probed s home tried → tried < s.base.forwards
    → SendsAnother (s.forward (probe home s.base.forwards tried)) home → Probed s home (tried + 1)
probed_more s home tried is within another = record {
  few = omega arith;
  others = below_more _ _ is.others another;
}

pub searches_more : (told : Bool) (m : Maps) (s : State) (place : Place) (home tried : ℕ)
    → Searches told m s place home tried → tried < s.base.forwards
    → SendsAnother (s.forward (probe home s.base.forwards tried)) home → Searches told m s place home (tried + 1)
searches_more told m s place home tried is within another = record {
  looked = is.looked;
  probed = probed_more s home tried is.probed within another;
  object = is.object;
}

-- the homes that the words send which were read differ, so that there are few of them
home_at : State → ℕ → ℕ → ℕ
home_at s home i = s.forward (probe home s.base.forwards i) / 4294967296

home_sent : (s : State) (home i other address : ℕ) → Sends (s.forward (probe home s.base.forwards i)) other address
    → home_at s home i ≡ other
unfolding home_at
home_sent s home i other address sends =
    let is : s.forward (probe home s.base.forwards i) ≡ 4294967296 * other + 4 * address = sends.is in
    let small : address < 1073741824 = sends.address_in_range.small in
    omega arith

few_probed : (m : Maps) (s : State) (home tried : ℕ) → FormedWords m s → Probed s home tried → tried < 4294967296
few_probed m s home tried formed is =
    let fits : tried ≤ 4294967295 = few_distinct (λ i. home_at s home i - 1) tried 4294967295
    (λ i less.
    let other = is.others i less in
    let same : home_at s home i ≡ other.0 = home_sent s home i other.0 other.1 other.3 in
    let some : 0 < other.0 = other.3.home_in_range.not_null in
    let small : other.0 < 4294967296 = other.3.home_in_range.small in
    omega arith)
    (λ i j less below same.
    let first = is.others i below in
    let second = is.others j (omega arith) in
    let first_is : home_at s home i ≡ first.0 = home_sent s home i first.0 first.1 first.3 in
    let second_is : home_at s home j ≡ second.0 = home_sent s home j second.0 second.1 second.3 in
    let some : 0 < first.0 = first.3.home_in_range.not_null in
    let some_too : 0 < second.0 = second.3.home_in_range.not_null in
    let few : tried ≤ s.base.forwards = is.few in
    let one : second.0 ≡ first.0 = omega arith in
    let place : probe home s.base.forwards i ≡ probe home s.base.forwards j =
    formed.one_forward (probe home s.base.forwards i) (probe home s.base.forwards j) first.0 first.1 second.1
    (probe_within home s.base.forwards i (omega arith)) (probe_within home s.base.forwards j (omega arith)) first.3
    (subst (λ (h : ℕ). Sends (s.forward (probe home s.base.forwards j)) h second.1) one second.3) in
    let tried_once : i ≡ j = one_try home s.base.forwards i j (omega arith) (omega arith) place in
    omega arith) in
    omega arith

-- so a search fits that has read one word more
pub few_more : (disk : OnDisk) (v : View) (search : Search) → Standing false disk v
    → Probed (state disk v) search.home search.tried → search.tried < length v.forward
    → SendsAnother (probed_word v search) search.home → search.tried + 1 < 4294967296
few_more disk v search s is within another =
    few_probed (maps v) (state disk v) search.home (search.tried + 1) s.holds.formed
    (probed_more (state disk v) search.home search.tried is within another)

-- A search that has a forwarding word to read, told or not.
pub record Reading (disk : OnDisk) (told : Bool) (v : View) (search : Search) : Type 0 where
  pub stands : Standing told disk v
  pub searches : Searches told (maps v) (state disk v) search.place search.home search.tried
  pub within : search.tried < length v.forward

-- The word sends the home: the object is at the address, and has no stale bit.
pub sent_known : (disk : OnDisk) (told : Bool) (v : View) (rest : List ℕ) (search : Search) (address : ℕ)
    → Reading disk told v search → Sends (probed_word v search) search.home address
    → Known told (maps v) (state disk v) rest (reached search address)
sent_known disk told v rest search address is sends =
    let sent : Forwards (state disk v) search.home address = record {
      place = probed_place v search;
      within = probe_within search.home (length v.forward) search.tried is.within;
      sends = sends;
    } in
    let formed : FormedWords (maps v) (state disk v) = is.stands.holds.formed in (
      is.searches.looked,
      record {
        named = sent_named (maps v) (state disk v) formed search.home address sent;
        same = λ tells. sent_same (maps v) (state disk v) formed v.log (is.stands.holds.tells tells) search.home
            address sent;
      },
      sent_fresh (maps v) (state disk v) formed search.home address sent,
    )

-- what is known of a search without a copy
search_known : (disk : OnDisk) (told : Bool) (v : View) (rest : List ℕ) (search : Search) (found : Probe)
    → Reading disk told v search → TellsOf v search found
    → Known told (maps v) (state disk v) rest (after_word search (Missed search) (Searching (further search)) found)
search_known disk told v rest search (At address) is tells = sent_known disk told v rest search address is tells
search_known disk told v rest search Empty is tells = (
  record { searches = is.searches; within = is.within },
  λ so. missed_record (maps v) (state disk v) is.stands.holds.formed v.log (is.stands.holds.tells so) search.home
      search.tried is.stands.holds.no_gaps is.searches.probed is.within tells (is.searches.object so),
)
search_known disk told v rest search Another is tells =
    searches_more told (maps v) (state disk v) search.place search.home search.tried is.searches is.within tells

-- a forwarding word was read
pub search_advances : (disk : OnDisk) (v : View) (t : ℕ) (o : Op) (search : Search) (found : Probe) → Asks disk v t o
    → stage_of v t ≡ Some (Searching search) → search.tried < length v.forward → TellsOf v search found
    → AdvancesOver disk v (with_call v t (Some (record {
      op = o;
      stage = after_word search (Missed search) (Searching (further search)) found;
    }))) t o Going
search_advances disk v t o search found asks at within tells =
    let next : Stage = after_word search (Missed search) (Searching (further search)) found in
    go_advances disk v t o next asks
    (subst (λ (g : Option Stage). change_of (state disk v) (register_in v.held t) (rest_of v t) g ≡ Nothing) (sym at)
    refl)
    (subst (λ (g : Option Stage). Next (maps v) (state disk v) (register_in v.held t) v.stop o g next) (sym at)
    (word_probes disk v search (Missed search) (Searching (further search)) found within tells))
    (λ told s. search_known disk told v (rest_of v t) search found (record {
      stands = s;
      searches = known_so told disk v t o (Searching search) asks at s;
      within = within;
    }) tells) (owns_nothing search o found)
  where
    owns_nothing : (search : Search) (o : Op) (found : Probe) → claimed_in (Some (record {
      op = o;
      stage = after_word search (Missed search) (Searching (further search)) found;
    })) ≡ 0
    owns_nothing search o (At address) = refl
    owns_nothing search o Empty = refl
    owns_nothing search o Another = refl

-- the copy at hand, and one forwarding word more that sends another home
pub copy_more : (told : Bool) (m : Maps) (s : State) (rest : List ℕ) (a : Activation) → HoldsCopy told m s rest a
    → a.search.tried < s.base.forwards → SendsAnother (next_forward s a.search) a.search.home
    → HoldsCopy told m s rest (retried a)
copy_more told m s rest a is within another = record {
  searches = searches_more told m s a.search.place a.search.home a.search.tried is.searches within another;
  body = is.body;
  copy = is.copy;
}

-- a forwarding word was read with a copy at hand
pub retry_advances : (disk : OnDisk) (v : View) (t : ℕ) (o : Op) (a : Activation) (found : Probe) → Asks disk v t o
    → stage_of v t ≡ Some (Retrying a) → a.search.tried < length v.forward → TellsOf v a.search found
    → AdvancesOver disk v (with_call v t (Some (record {
      op = o;
      stage = after_word a.search (Copied a) (Retrying (retried a)) found;
    }))) t o Going
retry_advances disk v t o a (At address) asks at within tells =
    go_advances disk v t o (reached a.search address) asks
    (subst (λ (g : Option Stage). change_of (state disk v) (register_in v.held t) (rest_of v t) g ≡ Nothing) (sym at)
    refl)
    (subst (λ (g : Option Stage). Next (maps v) (state disk v) (register_in v.held t) v.stop o g
    (reached a.search address)) (sym at)
    (word_probes disk v a.search (Copied a) (Retrying (retried a)) (At address) within tells))
    (λ told s. sent_known disk told v (rest_of v t) a.search address (record {
      stands = s;
      searches = (known_so told disk v t o (Retrying a) asks at s).searches;
      within = within;
    }) tells) refl
retry_advances disk v t o a Empty asks at within tells =
    still_retains disk v t o (Retrying a) (Copied a) asks at refl refl (refl, same_words disk v)
    (word_probes disk v a.search (Copied a) (Retrying (retried a)) Empty within tells)
    (λ told s. (known_so told disk v t o (Retrying a) asks at s, within))
retry_advances disk v t o a Another asks at within tells =
    still_retains disk v t o (Retrying a) (Retrying (retried a)) asks at refl refl (refl, same_words disk v)
    (word_probes disk v a.search (Copied a) (Retrying (retried a)) Another within tells)
    (λ told s. copy_more told (maps v) (state disk v) (rest_of v t) a (known_so told disk v t o (Retrying a) asks at s)
    within tells)

-- a call that goes on with its search
pub search_stage : (disk : OnDisk) (v : View) (t : ℕ) (o : Op) (stage : Option Stage) (search : Search)
    → Asks disk v t o → stage_of v t ≡ stage → SearchesOn stage search
    → Probed (state disk v) search.home search.tried
    × (change_of (state disk v) (register_in v.held t) (rest_of v t) stage ≡ Nothing)
search_stage disk v t o (Some (Searching s)) search asks at is = (
  subst (λ (x : Search). Probed (state disk v) x.home x.tried) is (known_at disk v t o (Searching s) asks at).probed,
  refl,
)
search_stage disk v t o (Some (Retrying a)) search asks at is = (
  subst (λ (x : Search). Probed (state disk v) x.home x.tried) is
      (known_at disk v t o (Retrying a) asks at).searches.probed,
  refl,
)
search_stage disk v t o stage search asks at is = absurd is

-- where all words were read, each sends another home
all_others : (disk : OnDisk) (v : View) (search : Search) → Probed (state disk v) search.home search.tried
    → search.tried ≡ length v.forward → AllSendOthers v.forward search.home
all_others disk v search is all p within =
    let once = each_place_once search.home (length v.forward) p within in
    let below : once.0 < length v.forward = once.1.in_range in
    subst (λ (q : ℕ). SendsAnother (slice_index v.forward q) search.home) once.1.here
    (is.others once.0 (omega arith))

-- The search has no word left to read: the thread has to pause.
pub full_advances : (disk : OnDisk) (v : View) (t : ℕ) (o : Op) (search : Search) → Asks disk v t o
    → SearchesOn (stage_of v t) search → length v.forward ≤ search.tried
    → AdvancesOver disk v (with_call (stopped v) t None) t o (Refused (Pause Forward))
full_advances disk v t o search asks searches all =
    let known = search_stage disk v t o (stage_of v t) search asks refl searches in
    let few : search.tried ≤ length v.forward = known.0.few in
    let whole : search.tried ≡ length v.forward = omega arith in
    pause_advances disk v t o Forward asks known.1 (record {
      search = search;
      searches = searches;
      all = whole;
      others = all_others disk v search known.0 whole;
      call = call_here v (with_call (stopped v) t None) t None refl (inside disk v t o asks);
      own = record { history = refl; registers = refl; values = refl };
      stop = refl;
      looks = searching_looks disk v t o search asks searches;
    })
