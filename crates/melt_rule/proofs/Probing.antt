-- A search through the forwarding words keeps the rule: what a word tells of the home, and that all of them are filled.
use Rattle.std.proofs.Common.{◌≡◌, ◌⊎◌, ℕ, ◌<◌, false, List, get_or}
use Rattle.std.proofs.Common.{refl, sym, ◌∙◌, ap, subst, inl, inr}
use Rattle.std.specs.Prelude.{Option, None, Some}
use lib.ListN.{get_elem?}
use mathlib.Core.Option.{some, none}
use native.Mathlib.Decide.{ℕ_discrete}
use Rattle.atomic_table.specs.Table.{Me, Allows, step}
use Rattle.melt_word.specs.declared.reference.Ref.TheVariants.{Disk}
use Rattle.melt_forward.specs.Forwarding.{Sends, SendsAnother, probe}
use Rattle.melt_forward.proofs.Probing.{probe_within}
use Rattle.melt_scion.proofs.Searching.{missed_record, sent_fresh, sent_named, sent_same}
use Rattle.melt_scion.specs.Placed.{FormedWords}
use Rattle.melt_scion.specs.Regions.{no_region}
use Rattle.melt_scion.specs.State.{State, Forwards}
use Rattle.melt_core.proofs.Searching.{searches_more}
use Rattle.melt_core.specs.Events.Event.{quiet}
use Rattle.melt_core.specs.Known.{Known, Searches}
use Rattle.melt_core.specs.StaleBits.{home_look, look_of}
use Rattle.melt_core.specs.Stages.{further, retried}
use Rattle.melt_core.specs.declared.call.Activation.{Activation}
use Rattle.melt_core.specs.declared.call.Search.{Search}
use Rattle.melt_rule.proofs.Allowed.{loaded}
use Rattle.melt_rule.proofs.Keeping.{IsStep, sees, still_bits}
use Rattle.melt_rule.proofs.Leaving.{leaves_none, only_same}
use Rattle.melt_rule.proofs.Loads.{same}
use Rattle.melt_rule.proofs.Showing.{forward_is}
use Rattle.melt_rule.proofs.Within.{allowed}
use Rattle.melt_rule.specs.Coming.{FindsForward, ProbePlay, RetryPlay, probe_place}
use Rattle.melt_rule.specs.Rule.{SeatStands, Kept, Rule, is_lacking, is_reading}
use Rattle.melt_rule.specs.Shown.{shows, owned, Knows, core_stage, staged}
use Rattle.melt_rule.specs.Tells.{Reaches, view_after}
use Rattle.melt_rule.specs.declared.began.Began.{Began}
use Rattle.melt_rule.specs.declared.began.Start.{Start}
use Rattle.melt_rule.specs.declared.view.Doing.{Doing}
use Rattle.melt_rule.specs.declared.view.Doing.TheVariants.{Cleared, Copied, Missed, Retrying, Searching}
use Rattle.melt_rule.specs.declared.view.View.{View}

module _ (start : Start) (words : List ℕ) (views : List View) (kept : Kept start words views) (id : ℕ) (v : View)
    (at : get_elem? views id ≡ some v) (live : 0 < v.parts) (goes_on : is_lacking v.doing ≡ false)
    (left : is_reading v.doing ≡ false) where
  abbrev now : State
  now = shows start.began words

  abbrev to : Option Doing → View
  to doing = view_after v kept.history v.known doing

  -- a step that changes no word, and leaves the region of the call its own or nobody's
  pub goes : (doing : Option Doing) → Knows start.began.told kept.maps now v.rest doing
      → (owned doing ≡ owned v.doing) ⊎ (owned doing ≡ no_region)
      → look_of (staged doing) ≡ look_of (staged v.doing)
      → IsStep start words words views kept id v at live (to doing) × Reaches v (to doing) doing
  goes doing knows owns look =
      let s = leaves_none start words words views kept id v at live goes_on (only_same start words) 0 None doing
      (quiet refl (same now)) owns knows
      (still_bits start words words views kept id v at live v.known doing (inr (refl, inl look)) left) in
      (s.0, record { sees = sees start words words views kept id v at live (to doing) s.0 s.1; is = refl })

  -- What a search knows, where it may read one word more; and what it knows after an empty word, and after one that
  -- sends another home.
  pub record Probing (search : Search) (empty another : Doing) : Type 0 where
    pub searches : Searches start.began.told kept.maps now search.place search.home search.tried
    pub more : search.tried < start.began.forwards
    pub misses : now.forward (probe search.home start.began.forwards search.tried) ≡ 0
        → Knows start.began.told kept.maps now v.rest (Some empty)
    pub passes : SendsAnother (now.forward (probe search.home start.began.forwards search.tried)) search.home
        → Knows start.began.told kept.maps now v.rest (Some another)
    pub empty_owns : (owned (Some empty) ≡ owned v.doing) ⊎ (owned (Some empty) ≡ no_region)
    pub look : look_of (staged v.doing) ≡ Some (home_look search)
    pub empty_look : look_of (staged (Some empty)) ≡ Some (home_look search)
    pub another_look : look_of (staged (Some another)) ≡ Some (home_look search)
    pub another_owns : (owned (Some another) ≡ owned v.doing) ⊎ (owned (Some another) ≡ no_region)

  -- the object of a home that a word sends
  pub reached : (search : Search) (a : ℕ)
      → Searches start.began.told kept.maps now search.place search.home search.tried
      → Forwards now search.home a
      → Knows start.began.told kept.maps now v.rest (Some (Cleared search.place (Disk search.home) a))
  reached search a searches sent =
      let formed : FormedWords kept.maps now = kept.holds.formed in (
        searches.looked,
        record {
          named = sent_named kept.maps now formed search.home a sent;
          same = λ told. sent_same kept.maps now formed kept.history (kept.holds.tells told) search.home a sent;
        },
        sent_fresh kept.maps now formed search.home a sent,
      )

  pub probes : (search : Search) (empty another : Doing) → Probing search empty another
      → (w : View) × IsStep start words words views kept id v at live w
      × FindsForward v w search empty another (now.forward (probe search.home start.began.forwards search.tried))
  probes search empty another is =
      let p : ℕ = probe search.home start.began.forwards search.tried in
      let within : p < start.began.forwards = probe_within search.home start.began.forwards search.tried is.more in
      elim (kept.holds.formed.forwards p within) [
        | inl none_ ↦
            let r = goes (Some empty) (is.misses none_) is.empty_owns (is.empty_look ∙ sym is.look) in
            (to (Some empty), r.0, record { sent = None; is = none_; probes = r.1 })
        | inr some_ ↦
            let home : ℕ = some_.0 in
            let a : ℕ = some_.1 in
            let sends : Sends (now.forward p) home a = some_.2 in
            elim (ℕ_discrete home search.home) [
              | yes same_home ↦
                  let doing : Doing = Cleared search.place (Disk search.home) a in
                  let sent : Forwards now search.home a = record {
                    place = p;
                    within = within;
                    sends = subst (λ (h : ℕ). Sends (now.forward p) h a) same_home sends;
                  } in
                  let r = goes (Some doing) (reached search a is.searches sent) (inr refl) (sym is.look) in (
                    to (Some doing),
                    r.0,
                    record {
                      sent = Some (home, a);
                      is = sends;
                      probes = (λ e. r.1, λ other. absurd (other same_home));
                    },
                  )
              | no other ↦
                  let r = goes (Some another) (is.passes (home, a, other, sends)) is.another_owns
                  (is.another_look ∙ sym is.look) in (
                    to (Some another),
                    r.0,
                    record {
                      sent = Some (home, a);
                      is = sends;
                      probes = (λ e. absurd (other e), λ differ. r.1);
                    },
                  )
            ]
      ]

  stood : SeatStands start.began kept.maps now kept.history v
  stood = kept.seats id v at live

  -- a search without a copy
  pub probing : (search : Search) → v.doing ≡ Some (Searching search) → search.tried < start.began.forwards
      → Probing search (Missed search) (Searching (further search))
  probing search is more =
      let known : Searches start.began.told kept.maps now search.place search.home search.tried =
      subst (Knows start.began.told kept.maps now v.rest) is stood.doing in
      record {
        searches = known;
        more = more;
        misses = λ empty. (
          record { searches = known; within = more },
          λ told. missed_record kept.maps now kept.holds.formed kept.history (kept.holds.tells told) search.home
              search.tried kept.holds.no_gaps known.probed more empty (known.object told),
        );
        passes = λ another. searches_more start.began.told kept.maps now search.place search.home search.tried known
            more
            another;
        look = ap (λ (doing : Option Doing). look_of (staged doing)) is;
        empty_look = refl;
        another_look = refl;
        empty_owns = inr refl;
        another_owns = inr refl;
      }

  -- and with one at hand
  pub retrying : (a : Activation) → v.doing ≡ Some (Retrying a) → a.search.tried < start.began.forwards
      → Probing a.search (Copied a) (Retrying (retried a))
  retrying a is more =
      let known : Known start.began.told kept.maps now v.rest (core_stage (Retrying a)) =
      subst (Knows start.began.told kept.maps now v.rest) is stood.doing in
      record {
        searches = known.searches;
        more = more;
        misses = λ empty. (known, more);
        passes = λ another. record {
          searches = searches_more start.began.told kept.maps now a.search.place a.search.home a.search.tried
              known.searches more another;
          body = known.body;
          copy = known.copy;
        };
        look = ap (λ (doing : Option Doing). look_of (staged doing)) is;
        empty_look = refl;
        another_look = refl;
        empty_owns = inl (sym (ap owned is));
        another_owns = inl (sym (ap owned is));
      }

-- the word at the place of a probe
pub probed_word : {start : Start} {words : List ℕ} {views : List View} (kept : Kept start words views) (id : ℕ) {i : ℕ}
    (v : View) (at : get_elem? views id ≡ some v) (live : 0 < v.parts) (search : Search)
    → search.tried < start.began.forwards → i ≡ probe_place v.began search
    → get_or words i 0 ≡ (shows start.began words).forward (probe search.home start.began.forwards search.tried)
probed_word {start} {words} kept id v at live search more place =
    let began : v.began ≡ start.began = (kept.seats id v at live).began in
    ap (λ (k : ℕ). get_or words k 0) place
    ∙ (ap (λ (b : Began). get_or words (probe_place b search) 0) began
    ∙ sym (forward_is start.began words (probe search.home start.began.forwards search.tried)
    (probe_within search.home start.began.forwards search.tried more)))

fewer : (b c : Began) (tried : ℕ) → b ≡ c → tried < b.forwards → tried < c.forwards
fewer b c tried same below = subst (λ (x : Began). tried < x.forwards) same below

pub probes_at : {start : Start} {slots : ℕ} (id : ℕ) {i : ℕ} {search : Search} {me : Me ℕ View} → 0 < me.0.parts
    → me.0.doing ≡ Some (Searching search) → search.tried < me.0.began.forwards → i ≡ probe_place me.0.began search
    → Allows (Rule start) slots id me i (λ n. n) (ProbePlay (step slots i 0 0 none) me)
probes_at {start} {slots} id {i} {search} {me} live is more place =
    allowed slots id i me (λ n. n) (ProbePlay (step slots i 0 0 none) me) live (λ words views kept at alive small.
    let goes_on : is_lacking me.0.doing ≡ false = ap is_lacking is in
    let left : is_reading me.0.doing ≡ false = ap is_reading is in
    let few : search.tried < start.began.forwards =
    fewer me.0.began start.began search.tried (kept.seats id me.0 at alive).began more in
    let word = probed_word kept id me.0 at alive search few place in
    let r = probes start words views kept id me.0 at alive goes_on left search (Missed search)
    (Searching (further search))
    (probing start words views kept id me.0 at alive goes_on left search is few) in (
      r.0,
      loaded kept i r.1,
      λ inside. (
        (refl, inside),
        λ other also there.
            let both : Some (Searching search) ≡ Some (Searching other) = sym is ∙ also in
            let same_search : search ≡ other = cc in
            subst (λ (s : Search). FindsForward me.0 r.0 s (Missed s) (Searching (further s)) (get_or words i 0))
            same_search
            (subst (FindsForward me.0 r.0 search (Missed search) (Searching (further search))) (sym word) r.2),
      ),
    ))

pub retries_at : {start : Start} {slots : ℕ} (id : ℕ) {i : ℕ} {a : Activation} {me : Me ℕ View} → 0 < me.0.parts
    → me.0.doing ≡ Some (Retrying a) → a.search.tried < me.0.began.forwards → i ≡ probe_place me.0.began a.search
    → Allows (Rule start) slots id me i (λ n. n) (RetryPlay (step slots i 0 0 none) me)
retries_at {start} {slots} id {i} {a} {me} live is more place =
    allowed slots id i me (λ n. n) (RetryPlay (step slots i 0 0 none) me) live (λ words views kept at alive small.
    let goes_on : is_lacking me.0.doing ≡ false = ap is_lacking is in
    let left : is_reading me.0.doing ≡ false = ap is_reading is in
    let few : a.search.tried < start.began.forwards =
    fewer me.0.began start.began a.search.tried (kept.seats id me.0 at alive).began more in
    let word = probed_word kept id me.0 at alive a.search few place in
    let r = probes start words views kept id me.0 at alive goes_on left a.search (Copied a) (Retrying (retried a))
    (retrying start words views kept id me.0 at alive goes_on left a is few) in (
      r.0,
      loaded kept i r.1,
      λ inside. (
        (refl, inside),
        λ other also there.
            let both : Some (Retrying a) ≡ Some (Retrying other) = sym is ∙ also in
            let same_copy : a ≡ other = cc in
            subst (λ (b : Activation). FindsForward me.0 r.0 b.search (Copied b) (Retrying (retried b))
            (get_or words i 0)) same_copy
            (subst (FindsForward me.0 r.0 a.search (Copied a) (Retrying (retried a))) (sym word) r.2),
      ),
    ))
