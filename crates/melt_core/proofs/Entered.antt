-- The commit of a copy: the exchange of the forwarding word that was empty, won or lost.
use Rattle.std.proofs.Common.{◌≡◌, ◌≢◌, ℕ, ◌+◌, ◌<◌, length, refl, sym, ◌∙◌, ap, subst}
use Rattle.std.proofs.Math.ListN.{set, length-set}
use Rattle.std.proofs.lemmas.List.{get_or-set_same, get_or-set_other}
use Rattle.std.specs.Prelude.{Bool, true, false, Option, None, Some, IsSome, slice_set}
use Rattle.std.specs.Option.{option_map}
use Rattle.melt_model.specs.declared.history.Value.TheVariants.{Ref as Object}
use Rattle.melt_model.specs.declared.operations.Op.{Op}
use Rattle.melt_word.specs.declared.header.Header.{Header}
use Rattle.melt_word.specs.declared.reference.Ref.TheVariants.{Disk}
use Rattle.melt_forward.specs.Forwarding.{Sends, SendsAnother, forward_word}
use Rattle.melt_forward.proofs.Pairs.{forward_word-filled}
use Rattle.melt_forward.proofs.Probing.{probe_within}
use Rattle.melt_scion.specs.State.{HeaderAt}
use Rattle.melt_scion.specs.Regions.{Region, no_region, Apart}
use Rattle.melt_scion.specs.Changes.{ForwardChanges, NameAppears}
use Rattle.melt_scion.specs.Heaps.{OnDisk, register_in}
use Rattle.melt_scion.specs.declared.heap.Names as heap
use Rattle.melt_scion.proofs.Committing.{copy_header}
use Rattle.melt_scion.proofs.Geometry.{one_header}
use Rattle.melt_core.specs.declared.answer.StepResult.TheVariants.{Going}
use Rattle.melt_core.specs.declared.call.Activation.{Activation}
use Rattle.melt_core.specs.declared.call.Call.{Call}
use Rattle.melt_core.specs.declared.call.Stage.{Stage}
use Rattle.melt_core.specs.declared.call.Stage.TheVariants.{Copied, Retrying}
use Rattle.melt_core.specs.declared.probing.Probe.TheVariants.{At, Empty, Another}
use Rattle.melt_core.specs.Known.{Known, HoldsCopy, Evolves, region, region_of}
use Rattle.melt_core.specs.Events.{Event, Keeps, quiet, commits}
use Rattle.melt_core.specs.Stages.{Next, Fits, Applies, change_of, cleared_by, reached, retried}
use Rattle.melt_core.specs.Changed.{CanProbe, HasEntered, probed_place, probed_word, with_call}
use Rattle.melt_core.specs.Advances.{Asks, AdvancesOver, MayMakeEvent}
use Rattle.melt_core.specs.Views.{View, Standing, Counts, maps, state, stage_of, rest_of, claimed_in, numbers_of}
use Rattle.melt_core.specs.Views.{maps_of, base_in}
use Rattle.melt_core.proofs.Asked.{call_at, fits_at, inside, known_so}
use Rattle.melt_core.proofs.Claims.{bounded_is, bounded_call, claims_next}
use Rattle.melt_core.proofs.Counting.{Counts_committed}
use Rattle.melt_core.proofs.Evolving.{evolves_event}
use Rattle.melt_core.proofs.Going.{goes, goes_on}
use Rattle.melt_core.proofs.Keeping.{event_keeps}
use Rattle.melt_core.proofs.Plain.{as_told}
use Rattle.melt_core.proofs.Regions.{no_region_apart}
use Rattle.melt_core.proofs.Retaining.{others_apart, still_retains}
use Rattle.melt_core.proofs.Searching.{word_probes, sent_known, copy_more, few_more}
use Rattle.melt_core.proofs.Standing.{Made, advances, same_rests, values_stay}
use Rattle.melt_core.proofs.Staying.{hold_stays, looked_stays}
use Rattle.melt_core.proofs.Words.{same_words}

-- The next event of the thread is the commit of this copy.
pub record IsCopied (disk : OnDisk) (v : View) (t : ℕ) (o : Op) (a : Activation) : Type 0 where
  pub asks : Asks disk v t o
  pub at : stage_of v t ≡ Some (Copied a)

copied_known : (disk : OnDisk) {v : View} {t : ℕ} {o : Op} {a : Activation} (told : Bool) → IsCopied disk v t o a
    → Standing told disk v
    → HoldsCopy told (maps v) (state disk v) (rest_of v t) a × (a.search.tried < length v.forward)
copied_known disk {v} {t} {o} {a} told is s = known_so told disk v t o (Copied a) is.asks is.at s

pub copied_within : (disk : OnDisk) {v : View} {t : ℕ} {o : Op} {a : Activation} → IsCopied disk v t o a
    → a.search.tried < length v.forward
copied_within disk {v} {t} {o} {a} is = (copied_known disk false is is.asks.stands).1

-- the forwarding word can be read
pub copied_probes : {v : View} {t : ℕ} {o : Op} {a : Activation} → (may : MayMakeEvent v t o)
    → stage_of v t ≡ Some (Copied a) → CanProbe v a.search
copied_probes {v} {t} {o} {a} may at = record {
  disk = may.disk;
  stands = may.asks.stands;
  within = copied_within may.disk (record { asks = may.asks; at = at });
}

-- and where it sends another home, the search fits that has read it
pub copied_few : {v : View} {t : ℕ} {o : Op} {a : Activation} → (may : MayMakeEvent v t o)
    → stage_of v t ≡ Some (Copied a) → SendsAnother (probed_word v a.search) a.search.home
    → a.search.tried + 1 < 4294967296
copied_few {v} {t} {o} {a} may at another =
    let known = copied_known may.disk false (record { asks = may.asks; at = at }) may.asks.stands in
    few_more may.disk v a.search may.asks.stands known.0.searches.probed known.1 another

-- a word that sends a home is not empty, so that the exchange changes nothing
lost_applies : (disk : OnDisk) {v : View} {t : ℕ} {o : Op} {a : Activation} → IsCopied disk v t o a
    → probed_word v a.search ≢ 0
    → Applies (maps v) (maps v) (state disk v) (state disk v)
    (change_of (state disk v) (register_in v.held t) (rest_of v t) (Some (Copied a)))
lost_applies disk {v} is filled = (λ empty. absurd (filled empty), λ some. (refl, same_words disk v))

sent_filled : (word home address : ℕ) → Sends word home address → word ≢ 0
sent_filled word home address sends empty =
    forward_word-filled home address sends.home_in_range (sym sends.is ∙ empty)

-- The exchange was lost to a copy of the same object, or to one of another.
pub lost_advances : (disk : OnDisk) {v : View} {t : ℕ} {o : Op} {a : Activation} (address : ℕ) → IsCopied disk v t o a
    → Sends (probed_word v a.search) a.search.home address
    → AdvancesOver disk v (with_call v t (Some (record { op = o; stage = reached a.search address }))) t o Going
lost_advances disk {v} {t} {o} {a} address is sends =
    let next : Stage = reached a.search address in
    goes_on v.space v.records is.asks (record {
      event = λ told s. subst (λ (k : ℕ). Event told v.log (maps v) (maps v) (state disk v) (state disk v) no_region k
          None) (sym (ap cleared_by is.at)) (quiet refl (same_words disk v));
      applies = subst (λ (g : Option Stage). Applies (maps v) (maps v) (state disk v) (state disk v)
          (change_of (state disk v) (register_in v.held t) (rest_of v t) g)) (sym is.at)
          (lost_applies disk is (sent_filled (probed_word v a.search) a.search.home address sends));
      rests = same_rests v (with_call v t (Some (record { op = o; stage = next }))) t refl;
      words = refl;
      next = subst (λ (g : Option Stage). Next (maps v) (state disk v) (register_in v.held t) v.stop o g next)
          (sym is.at)
          (word_probes disk v a.search (reached a.search a.address) (Retrying (retried a)) (At address)
          (copied_within disk is) sends);
      known = λ told tell s. sent_known disk told v (rest_of v t) a.search address (record {
        stands = s;
        searches = (copied_known disk told is s).0.searches;
        within = copied_within disk is;
      }) sends;
      unclaimed = refl;
    })

pub taken_advances : (disk : OnDisk) {v : View} {t : ℕ} {o : Op} {a : Activation} → IsCopied disk v t o a
    → SendsAnother (probed_word v a.search) a.search.home
    → AdvancesOver disk v (with_call v t (Some (record { op = o; stage = Retrying (retried a) }))) t o Going
taken_advances disk {v} {t} {o} {a} is another =
    still_retains disk v t o (Copied a) (Retrying (retried a)) is.asks is.at refl refl
    (lost_applies disk is (sent_filled (probed_word v a.search) another.0 another.1 another.3))
    (word_probes disk v a.search (reached a.search a.address) (Retrying (retried a)) Another (copied_within disk is)
    another)
    (λ told s.
    let known = copied_known disk told is s in
    copy_more told (maps v) (state disk v) (rest_of v t) a known.0 known.1 another)

-- the view after the exchange that was won, where the names are these
abbrev pub committed : View → Option heap.Names → ℕ → Op → Activation → View
committed v names t o a = with_call (record v {
  forward = slice_set v.forward (probed_place v a.search) (forward_word a.search.home a.address);
  names = names;
}) t (Some (record { op = o; stage = reached a.search a.address }))

-- the forwarding word was set
forward_changes : (disk : OnDisk) (v : View) (names : Option heap.Names) (t : ℕ) (o : Op) (a : Activation)
    → a.search.tried < length v.forward
    → ForwardChanges (state disk v) (state disk (committed v names t o a)) (probed_place v a.search)
    (forward_word a.search.home a.address)
forward_changes disk v names t o a within =
    let p : ℕ = probed_place v a.search in
    let word : ℕ = forward_word a.search.home a.address in
    record {
      base = ap (λ (n : ℕ). record (base_in disk v.space v.scions v.globals v.forward) { forwards = n })
          (length-set v.forward p word);
      free = refl;
      word_stays = λ k. refl;
      global = λ g. refl;
      here = get_or-set_same v.forward p word 0 (probe_within a.search.home (length v.forward) a.search.tried within);
      others = λ q other. get_or-set_other v.forward p q word 0 other;
    }

-- The exchange was won: the address has the number of the home's object.
record Won (disk : OnDisk) (v : View) (names : Option heap.Names) (t : ℕ) (o : Op) (a : Activation) (number : ℕ)
    : Type 0 where
  is : IsCopied disk v t o a
  empty : probed_word v a.search ≡ 0
  number_is : (n : ℕ) → (maps v).home a.search.home ≡ Some n → number ≡ n
  named : IsSome names
  size : length (numbers_of names) ≡ length (numbers_of v.names)
  appears : NameAppears (maps v) (maps_of names) a.address number

-- the number of the home's object
won_number : (disk : OnDisk) {v : View} {names : Option heap.Names} {t : ℕ} {o : Op} {a : Activation} {number : ℕ}
    (told : Bool) → Won disk v names t o a number → Standing told disk v → told ≡ true
    → (maps v).home a.search.home ≡ Some number
won_number disk told won s tells =
    let has = (copied_known disk told won.is s).0.searches.object tells in
    has.1 ∙ ap Some (sym (won.number_is has.0 has.1))

-- the exchange, as an event
won_event : (disk : OnDisk) {v : View} {names : Option heap.Names} {t : ℕ} {o : Op} {a : Activation} {number : ℕ}
    (told : Bool) → Won disk v names t o a number → Standing told disk v
    → Event told v.log (maps v) (maps_of names) (state disk v) (state disk (committed v names t o a))
    (region a.address a.shape) 0 None
won_event disk {v} {names} {t} {o} {a} {number} told won s =
    let known = copied_known disk told won.is s in
    commits a.search.home a.search.tried (probed_place v a.search) number a.address a.shape (rest_of v t) (record {
      probed = known.0.searches.probed;
      within = known.1;
      place = refl;
      empty = won.empty;
      body = known.0.body;
      copy = known.0.copy;
      number = won_number disk told won s;
    }) (forward_changes disk v names t o a known.1) won.appears

-- the header of the copy is that of an object without the stale bit
won_header : (disk : OnDisk) {v : View} {names : Option heap.Names} {t : ℕ} {o : Op} {a : Activation} {number : ℕ}
    → Won disk v names t o a number
    → HeaderAt (state disk (committed v names t o a)) a.address (record { shape = a.shape; stale = false })
won_header disk {v} {names} {t} {o} {a} won =
    let known = copied_known disk false won.is won.is.asks.stands in
    record {
      in_range = known.0.body.head.small;
      word = copy_header (maps v) (state disk v) a.address a.search.home a.shape (rest_of v t) known.0.copy;
    }

-- what the load knows after it
won_known : (disk : OnDisk) {v : View} {names : Option heap.Names} {t : ℕ} {o : Op} {a : Activation} {number : ℕ}
    (told : Bool) → Won disk v names t o a number → Standing told disk v
    → Known told (maps_of names) (state disk (committed v names t o a)) (rest_of v t) (reached a.search a.address)
won_known disk {v} {names} {t} {o} {a} {number} told won s =
    let w : View = committed v names t o a in
    let evolves : Evolves (maps v) (maps w) (state disk v) (state disk w) 0 =
    evolves_event told v.log (maps v) (maps w) (state disk v) (state disk w) (region a.address a.shape) 0 None
    s.holds.formed (won_event disk told won s) in (
      looked_stays (maps v) (maps w) (state disk v) (state disk w) 0 s.holds.formed evolves a.search.place
          (Disk a.search.home) (copied_known disk told won.is s).0.searches.looked,
      record {
        named = (number, won.appears.here);
        same = λ tells. ap (option_map Object)
            (won.appears.home a.search.home ∙ (won_number disk told won s tells ∙ sym won.appears.here));
      },
      λ header starts. ap (λ (h : Header). h.stale)
          (one_header (state disk w) a.address header (record { shape = a.shape; stale = false }) starts
          (won_header disk won)),
    )

-- the objects in use and the regions, with the object that came back
won_counts : (disk : OnDisk) {v : View} {names : Option heap.Names} {t : ℕ} {o : Op} {a : Activation} {number : ℕ}
    → Won disk v names t o a number → Standing true disk v → Counts (committed v names t o a)
won_counts disk {v} {names} {t} {o} {a} {number} won s =
    let w : View = committed v names t o a in
    let keeps : Keeps true v.log v.log (maps v) (maps w) (state disk v) (state disk w) (region a.address a.shape) 0 =
    event_keeps true t v.log (maps v) (maps w) (state disk v) (state disk w) (region a.address a.shape) 0 None s.legal
    s.holds (won_event disk true won s) in
    Counts_committed s won.is.asks.thread (record {
      tells = keeps.holds.tells refl;
      header = won_header disk won;
      log = refl;
      owns = (copied_known disk true won.is s).0.copy.owns;
      appears = won.appears;
      owned = ap claimed_in (call_at disk v t o (Copied a) won.is.asks won.is.at);
      unclaimed = refl;
      free = refl;
      words = refl;
      calls = refl;
    })

won_advances : (disk : OnDisk) {v : View} {names : Option heap.Names} {t : ℕ} {o : Op} {a : Activation} {number : ℕ}
    → Won disk v names t o a number → AdvancesOver disk v (committed v names t o a) t o Going
won_advances disk {v} {names} {t} {o} {a} {number} won =
    let asks : Asks disk v t o = won.is.asks in
    let s : Standing false disk v = asks.stands in
    let stage : Stage = reached a.search a.address in
    let after : Call = record { op = o; stage = stage } in
    let w : View = committed v names t o a in
    let before : Region = region a.address a.shape in
    let within : t < length v.calls = inside disk v t o asks in
    let evolves : Evolves (maps v) (maps w) (state disk v) (state disk w) 0 =
    evolves_event false v.log (maps v) (maps w) (state disk v) (state disk w) before 0 None s.holds.formed
    (won_event disk false won s) in
    let next : Next (maps v) (state disk v) (register_in v.held t) v.stop o (stage_of v t) stage =
    subst (λ (g : Option Stage). Next (maps v) (state disk v) (register_in v.held t) v.stop o g stage)
    (sym won.is.at)
    (word_probes disk v a.search stage (Retrying (retried a)) Empty (copied_within disk won.is) won.empty) in
    let made : Made disk v w t (cleared_by (stage_of v t)) = record {
      mine = before;
      act = None;
      after = Some after;
      happens = λ told stands. record {
        event = subst (λ (k : ℕ). Event told v.log (maps v) (maps w) (state disk v) (state disk w) before k None)
            (sym (ap cleared_by won.is.at)) (won_event disk told won stands);
        kept = record {
          log = refl;
          calls = refl;
          threads = refl;
          others = λ u differ. refl;
          named = won.named;
          room = won.size;
          scions = refl;
          rests = same_rests v w t refl;
          made = stands.counted;
        };
        first = stands.first;
        bounded = bounded_is w (length v.space.list) v.free v.stop (set v.calls t (Some after)) refl refl refl refl
            (bounded_call (length v.space.list) v.free v.stop v.calls t (Some after) within
            (claims_next disk v t o (stage_of v t) stage next)
            stands.bounded);
        may_hold = λ r. hold_stays (maps v) (maps w) (state disk v) (state disk w) 0 s.holds.formed evolves
            (register_in v.held t r) (s.registers t r);
        known = λ c same. subst (λ (d : Call). Known told (maps w) (state disk w) (rest_of v t) d.stage)
            (let e : after ≡ c = cc in e) (won_known disk told won stands);
        fits = λ c same. subst (λ (d : Call). Fits (register_in v.held t) d.op d.stage) (let e : after ≡ c = cc in e)
            (fits_at disk v t o (Copied a) asks won.is.at);
        mine_is = others_apart asks won.is.at;
        apart = λ c same u d differ other. subst (λ (x : Call). Apart (region_of x.stage) (region_of d.stage))
            (let e : after ≡ c = cc in e) (no_region_apart (region_of d.stage));
        counts = λ tells. won_counts disk won (as_told disk told v tells stands);
      };
    } in
    advances Going asks made refl (subst (λ (g : Option Stage). Applies (maps v) (maps w) (state disk v) (state disk w)
    (change_of (state disk v) (register_in v.held t) (rest_of v t) g)) (sym won.is.at) (
      λ none. (forward_changes disk v names t o a (copied_within disk won.is), (number, won.appears)),
      λ some. absurd (some won.empty),
    )) (goes disk v w t o stage asks next refl
    (record { history = refl; registers = refl; values = values_stay disk v w t 0 s evolves refl }) refl) tt

pub commit_advances : (disk : OnDisk) {v m : View} {t : ℕ} {o : Op} {a : Activation} → IsCopied disk v t o a
    → probed_word v a.search ≡ 0 → HasEntered v m a
    → AdvancesOver disk v (with_call m t (Some (record { op = o; stage = reached a.search a.address }))) t o Going
commit_advances disk {v} {m} {t} {o} {a} is empty entered =
    subst (λ (x : View). AdvancesOver disk v
    (with_call x t (Some (record { op = o; stage = reached a.search a.address }))) t o Going) (sym entered.only)
    (won_advances disk (record {
      is = is;
      empty = empty;
      number_is = entered.number_is;
      named = entered.named;
      size = entered.size;
      appears = entered.appears;
    }))
