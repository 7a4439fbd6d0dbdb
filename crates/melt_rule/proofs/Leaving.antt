-- A step that changes words of objects, globals and regions alone keeps the rule where it is an event of the core: what
-- it has to show of the view after it.
use Rattle.std.proofs.Common.{◌≡◌, ◌≢◌, ◌⊎◌, ℕ, ◌+◌, ◌<◌, ◌≤◌, false, List, length, get_or}
use Rattle.std.proofs.Common.{refl, sym, ◌∙◌, ap, subst, arith, inl, inr}
use Rattle.std.proofs.Math.ListN.{set, length-set}
use Rattle.std.proofs.lemmas.List.{get_or-set_other}
use Rattle.std.specs.Prelude.{Option, Some}
use lib.ListN.{get_elem?}
use mathlib.Core.Option.{some}
use Rattle.melt_model.specs.declared.history.Act.{Act}
use Rattle.melt_scion.specs.Placed.{Maps}
use Rattle.melt_scion.specs.Regions.{Region, no_region, Apart}
use Rattle.melt_scion.specs.State.{State, IsFresh}
use Rattle.melt_core.proofs.Evolving.{evolves_event}
use Rattle.melt_core.proofs.Regions.{no_region_apart}
use Rattle.melt_core.proofs.Staying.{fresh_stays}
use Rattle.melt_core.specs.Answering.{with_entry}
use Rattle.melt_core.specs.Events.{Event}
use Rattle.melt_core.specs.Known.{Evolves}
use Rattle.melt_rule.proofs.Keeping.{Bits, IsStep}
use Rattle.melt_rule.proofs.Showing.{filled_same, word_changes, global_changes}
use Rattle.melt_rule.specs.Rule.{Has, SeatStands, Kept, is_lacking}
use Rattle.melt_rule.specs.Shown.{shows, Knows, owned, free_place, global_place, word_place}
use Rattle.melt_rule.specs.Tells.{HasAll, view_after}
use Rattle.melt_rule.specs.declared.began.Pair.{Pair}
use Rattle.melt_rule.specs.declared.began.Start.{Start}
use Rattle.melt_rule.specs.declared.view.Doing.{Doing}
use Rattle.melt_rule.specs.declared.view.View.{View}

-- the first two words and the forwarding words stay
pub record OnlyObjects (start : Start) (words after : List ℕ) : Type 0 where
  pub size : length after ≡ length words
  pub stop : get_or after 0 0 ≡ get_or words 0 0
  pub free : get_or after free_place 0 ≡ get_or words free_place 0
  pub forward : (p : ℕ) → (shows start.began after).forward p ≡ (shows start.began words).forward p

pub only_same : (start : Start) (words : List ℕ) → OnlyObjects start words words
only_same start words = record { size = refl; stop = refl; free = refl; forward = λ p. refl }

pub only_space : (start : Start) (words : List ℕ) (address x : ℕ) → 1 ≤ address
    → word_place start.began address < length words
    → OnlyObjects start words (set words (word_place start.began address) x)
only_space start words address x first within =
    let place : ℕ = word_place start.began address in
    let changes = word_changes start.began words address x first within in
    record {
      size = length-set words place x;
      stop = get_or-set_other words place 0 x 0 (λ same. omega arith);
      free = changes.free;
      forward = changes.forward;
    }

pub only_global : (start : Start) (words : List ℕ) (g x : ℕ) → g < start.began.globals → global_place g < length words
    → OnlyObjects start words (set words (global_place g) x)
only_global start words g x below within =
    let changes = global_changes start.began words g x below within in
    record {
      size = length-set words (global_place g) x;
      stop = get_or-set_other words (global_place g) 0 x 0 (λ same. omega arith);
      free = changes.free;
      forward = changes.forward;
    }

module _ (start : Start) (words after : List ℕ) (views : List View) (kept : Kept start words views) (id : ℕ) (v : View)
    (at : get_elem? views id ≡ some v) (live : 0 < v.parts) (goes_on : is_lacking v.doing ≡ false)
    (only : OnlyObjects start words after) where
  abbrev old : State
  old = shows start.began words

  abbrev new : State
  new = shows start.began after

  stood : SeatStands start.began kept.maps old kept.history v
  stood = kept.seats id v at live

  -- a step to the view, with an entry of this act or none
  abbrev pub StepTo : View → Option Act → Type 0
  StepTo w act = (step : IsStep start words after views kept id v at live w) × (step.act ≡ act)

  -- What the step shows.
  pub record Leaves (maps : Maps) (mine : Region) (cleared : ℕ) (act : Option Act) (known : List Pair)
      (doing : Option Doing) : Type 0 where
    pub event : Event start.began.told kept.history kept.maps maps old new mine cleared act
    pub apart : (i : ℕ) (u : View) → i ≢ id → get_elem? views i ≡ some u → 0 < u.parts → Apart mine (owned u.doing)
    pub owns : (owned doing ≡ owned v.doing) ⊎ (owned doing ≡ no_region)
    pub names : (a n : ℕ) → maps.address a ≡ Some n → (kept.maps.address a ≡ Some n) ⊎ Has known a n
    pub more : HasAll v.known known
    pub named : (a n : ℕ) → Has known a n → maps.address a ≡ Some n
    pub fresh : (a n : ℕ) → Has known a n → IsFresh new a
    pub knows : Knows start.began.told maps new v.rest doing
    pub bits : Bits start words after views kept id v at live maps cleared act known doing

  pub leaves : (maps : Maps) (mine : Region) (cleared : ℕ) (act : Option Act) (known : List Pair) (doing : Option Doing)
      → Leaves maps mine cleared act known doing
      → StepTo (view_after v (with_entry v.thread kept.history act) known doing) act
  leaves maps mine cleared act known doing is = (
    record {
      maps = maps;
      mine = mine;
      cleared = cleared;
      act = act;
      event = is.event;
      mine_apart = is.apart;
      size = only.size;
      names = is.names;
      parts = refl;
      thread = refl;
      began = refl;
      away = refl;
      seen = refl;
      own_seen = refl;
      more = is.more;
      known = is.named;
      fresh = is.fresh;
      doing = is.knows;
      apart = λ i u other there alive. elim is.owns [
        | inl same ↦ subst (λ (r : Region). Apart r (owned u.doing)) (sym same)
            (kept.apart id i v u (λ e. other (sym e)) at there live alive)
        | inr none ↦ subst (λ (r : Region). Apart r (owned u.doing)) (sym none) (no_region_apart (owned u.doing))
      ];
      sums = record {
        free = ap (λ (k : ℕ). k + v.claimed) only.free;
        bound = inl (let e = only.free in omega arith);
        over = kept.sums.over id v at;
        won = ap (λ (k : ℕ). k + v.won)
            (filled_same old.forward new.forward start.began.forwards (λ p below. only.forward p));
      };
      stops = record {
        bit = inl only.stop;
        causes = λ has. has;
        stopped = λ found. only.stop ∙ kept.stop.stopped id v at found;
        spaced = λ found. let e = only.free in let past = kept.stop.spaced id v at found in omega arith;
        lacks = kept.stop.lacks id v at;
        sets = λ cause goes. only.stop ∙ kept.stop.sets id v at cause goes_on;
        forwarded = λ found p below empty. kept.stop.forwarded id v at found p below (sym (only.forward p) ∙ empty);
      };
      bits = is.bits;
    },
    refl,
  )

  -- where the seat knows the same addresses after it
  pub leaves_same : (mine : Region) (cleared : ℕ) (act : Option Act) (doing : Option Doing)
      → Event start.began.told kept.history kept.maps kept.maps old new mine cleared act
      → ((i : ℕ) (u : View) → i ≢ id → get_elem? views i ≡ some u → 0 < u.parts → Apart mine (owned u.doing))
      → (owned doing ≡ owned v.doing) ⊎ (owned doing ≡ no_region) → Knows start.began.told kept.maps new v.rest doing
      → Bits start words after views kept id v at live kept.maps cleared act v.known doing
      → StepTo (view_after v (with_entry v.thread kept.history act) v.known doing) act
  leaves_same mine cleared act doing event apart owns knows bits =
      let evolves : Evolves kept.maps kept.maps old new cleared =
      evolves_event start.began.told kept.history kept.maps kept.maps old new mine cleared act kept.holds.formed
      event in
      leaves kept.maps mine cleared act v.known doing (record {
        event = event;
        apart = apart;
        owns = owns;
        names = λ a n is. inl is;
        more = λ a n has. has;
        named = stood.known;
        fresh = λ a n has. fresh_stays kept.maps kept.maps old new cleared kept.holds.formed evolves a
            (n, stood.known a n has)
            (stood.fresh a n has);
        knows = knows;
        bits = bits;
      })

  -- and no word of a region changes
  pub leaves_none : (cleared : ℕ) (act : Option Act) (doing : Option Doing)
      → Event start.began.told kept.history kept.maps kept.maps old new no_region cleared act
      → (owned doing ≡ owned v.doing) ⊎ (owned doing ≡ no_region) → Knows start.began.told kept.maps new v.rest doing
      → Bits start words after views kept id v at live kept.maps cleared act v.known doing
      → StepTo (view_after v (with_entry v.thread kept.history act) v.known doing) act
  leaves_none cleared act doing event owns knows bits =
      leaves_same no_region cleared act doing event (λ i u other is alive. no_region_apart (owned u.doing)) owns knows
      bits
