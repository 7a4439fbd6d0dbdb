-- What a seat knows of lies within the space; and what each step has to show.
use Rattle.std.proofs.Common.{◌≡◌, ℕ, ◌+◌, ◌^◌, ◌<◌, ◌≤◌, Bool, List, ap, arith, sym, ◌∙◌, subst, get_or}
use Rattle.std.proofs.Math.ListN.{set}
use Rattle.std.specs.Prelude.{Option, None, Some}
use lib.ListN.{get_elem?}
use mathlib.Core.Option.{some}
use Rattle.atomic_table.proofs.Lists.{set_here}
use Rattle.atomic_table.specs.Table.{Me, Allows, keeps}
use Rattle.melt_word.specs.Words.{IsAddress, IsRef, cost_of}
use Rattle.melt_word.specs.declared.header.Header.{Header}
use Rattle.melt_word.specs.declared.header.Shape.{Shape}
use Rattle.melt_word.specs.declared.reference.Ref.{Ref}
use Rattle.melt_scion.proofs.Geometry.{one_header}
use Rattle.melt_scion.specs.Placed.{Maps, FormedWords}
use Rattle.melt_scion.specs.State.{State}
use Rattle.melt_core.specs.Known.{HasLooked, HoldsCopy, IsPlace, Leads, Searches}
use Rattle.melt_core.specs.declared.call.Activation.{Activation}
use Rattle.melt_core.specs.declared.call.Search.{Search}
use Rattle.melt_core.specs.declared.call.Place.{Place}
use Rattle.melt_core.specs.declared.call.Place.TheVariants.{Field, Global}
use Rattle.melt_rule.proofs.Keeping.{IsStep, keep}
use Rattle.melt_rule.proofs.Views.{in_range}
use Rattle.melt_rule.specs.Rule.{Kept, Rule}
use Rattle.melt_rule.specs.Shown.{shows, Knows}
use Rattle.melt_rule.specs.Tells.{CopyFits, FitsIn, IsWithin, PlaceFits, SearchFits}
use Rattle.melt_rule.specs.declared.began.Began.{Began}
use Rattle.melt_rule.specs.declared.began.Start.{Start}
use Rattle.melt_rule.specs.declared.view.Doing.{Doing}
use Rattle.melt_rule.specs.declared.view.Doing.TheVariants.{Polled, Headed, Looked, Cleared, Claimed, Lacking}
use Rattle.melt_rule.specs.declared.view.Doing.TheVariants.{Searching, Missed, Copying, Copied, Retrying, LackingCopy}
use Rattle.melt_rule.specs.declared.view.View.{View}

named_within : (maps : Maps) (s : State) (address n : ℕ) → FormedWords maps s → maps.address address ≡ Some n
    → (1 ≤ address) × (address ≤ s.base.size)
named_within maps s address n formed named =
    let object = formed.objects address n named in
    let within : address + cost_of object.0.shape ≤ s.base.size + 1 = object.1.within in
    (object.1.first, omega arith)

-- the place of a reference is a global, or lies within the space
place_within : (b : Began) (words : List ℕ) (maps : Maps) (place : Place) → FormedWords maps (shows b words)
    → IsPlace maps (shows b words) place → PlaceFits b place
place_within b words maps (Field object i) formed is =
    let o = is.1 in
    let whole = formed.objects object o.number o.named in
    let within : object + cost_of whole.0.shape ≤ b.size + 1 = whole.1.within in
    let one : whole.0 ≡ o.header = one_header (shows b words) object whole.0 o.header whole.1.starts o.starts in
    let refs : whole.0.shape.refs ≡ is.0.refs =
    ap (λ (h : Header). h.shape.refs) one ∙ ap (λ (z : Shape). z.refs) o.shape_is in
    let below : i < is.0.refs = is.2 in
    omega arith
place_within b words maps (Global g) formed is = is

-- and what a call found there
found_within : {told : Bool} (b : Began) (words : List ℕ) {maps : Maps} {place : Place} {found : Ref} {target : ℕ}
    → FormedWords maps (shows b words) → HasLooked maps (shows b words) place found → Leads told maps found target
    → IsAddress target × (target ≤ b.size) × IsRef found × PlaceFits b place
found_within b words {maps} {place} {target} formed looked leads =
    let inside = named_within maps (shows b words) target leads.named.0 formed leads.named.1 in
    let small : b.size < 2 ^ 30 = formed.small in
    let in_range : IsAddress target = record { not_null = inside.0; small = omega (arith, inside.1) } in
    (in_range, inside.1, looked.in_range, place_within b words maps place formed looked.at)

-- a search is for a home that was found at such a place
search_within : (told : Bool) (b : Began) (words : List ℕ) (maps : Maps) (search : Search) (tried : ℕ)
    → FormedWords maps (shows b words) → Searches told maps (shows b words) search.place search.home tried
    → SearchFits b (record search { tried = tried })
search_within told b words maps search tried formed is = record {
  home = is.looked.in_range;
  before = is.looked.may_stand.1;
  place = place_within b words maps search.place formed is.looked.at;
  tried = is.probed.few;
}

copy_within : (told : Bool) (b : Began) (words : List ℕ) (maps : Maps) (rest : List ℕ) (a : Activation)
    → FormedWords maps (shows b words) → HoldsCopy told maps (shows b words) rest a → CopyFits b a
copy_within told b words maps rest a formed is = record {
  search = search_within told b words maps a.search a.search.tried formed is.searches;
  small = is.body.head.small;
  first = is.copy.owns.first;
  within = is.copy.owns.within;
}

doing_within : (b : Began) (words : List ℕ) (maps : Maps) (rest : List ℕ) (doing : Option Doing)
    → FormedWords maps (shows b words) → Knows b.told maps (shows b words) rest doing → FitsIn b doing
doing_within b words maps rest None formed knows = tt
doing_within b words maps rest (Some Polled) formed knows = tt
doing_within b words maps rest (Some (Headed address shape)) formed knows =
    let object = formed.objects address knows.number knows.named in
    let within : address + cost_of object.0.shape ≤ b.size + 1 = object.1.within in
    let one : object.0 ≡ knows.header =
    one_header (shows b words) address object.0 knows.header object.1.starts knows.starts in
    subst (λ (z : Shape). address + cost_of z ≤ b.size + 1) (ap (λ (h : Header). h.shape) one ∙ knows.shape_is) within
doing_within b words maps rest (Some (Looked place found target)) formed knows =
    found_within b words formed knows.0 knows.1
doing_within b words maps rest (Some (Cleared place found target)) formed knows =
    found_within b words formed knows.0 knows.1
doing_within b words maps rest (Some (Claimed address shape stored)) formed knows =
    (knows.1.owns.first, knows.1.owns.within)
doing_within b words maps rest (Some (Lacking need)) formed knows = tt
doing_within b words maps rest (Some (Searching search)) formed knows =
    search_within b.told b words maps search search.tried formed knows
doing_within b words maps rest (Some (Missed search)) formed knows =
    (search_within b.told b words maps search search.tried formed knows.0.searches, knows.0.within, knows.1)
doing_within b words maps rest (Some (Copying a stored)) formed knows =
    let misses = knows.0.misses in
    let head = knows.0.body.head in (
      record {
        search = search_within b.told b words maps a.search a.search.tried formed misses.searches;
        small = head.small;
        first = knows.1.owns.first;
        within = knows.1.owns.within;
      },
      misses.within,
    )
doing_within b words maps rest (Some (Copied a)) formed knows =
    (copy_within b.told b words maps rest a formed knows.0, knows.1)
doing_within b words maps rest (Some (Retrying a)) formed knows =
    copy_within b.told b words maps rest a formed knows
doing_within b words maps rest (Some (LackingCopy search shape)) formed knows = tt

-- the object of which a call speaks lies within the space
pub headed_fits : (b : Began) (doing : Option Doing) (a : ℕ) (z : Shape) → doing ≡ Some (Headed a z) → FitsIn b doing
    → a + cost_of z ≤ b.size + 1
headed_fits b doing a z is fits = subst (FitsIn b) is fits

pub within : (start : Start) (words : List ℕ) (views : List View) (kept : Kept start words views) (id : ℕ) (v : View)
    → get_elem? views id ≡ some v → 0 < v.parts → IsWithin v
within start words views kept id v at live =
    let stood = kept.seats id v at live in
    let s : State = shows start.began words in
    let size : start.began.size ≡ v.began.size = ap (λ (b : Began). b.size) (sym stood.began) in
    record {
      known = λ a n has.
          let in_space = named_within kept.maps s a n kept.holds.formed (stood.known a n has) in
          (in_space.0, (let below : a ≤ start.began.size = in_space.1 in omega arith));
      one_object = λ a n m x y. let e : Some n ≡ Some m = sym (stood.known a n x) ∙ stood.known a m y in cc;
      one_address = λ told a b n x y.
          (kept.holds.tells (sym (ap (λ (c : Began). c.told) stood.began) ∙ told)).one_address a b n (stood.known a n x)
          (stood.known b n y);
      doing = subst (λ (b : Began). FitsIn b v.doing) (sym stood.began)
          (doing_within start.began words kept.maps v.rest v.doing kept.holds.formed stood.doing);
    }

-- The seat may make the step, and is told this: whatever the words and views are by then, it has a view that shows what
-- is asked.
pub allowed : {start : Start} (slots id i : ℕ) (me : Me ℕ View) (f : ℕ → ℕ) (tells : ℕ → Me ℕ View → Type 0)
    → 0 < me.0.parts → ((words : List ℕ) (views : List View) (kept : Kept start words views) (at : get_elem? views id ≡
    some me.0) (live : 0 < me.0.parts) → get_or words i 0 < 18446744073709551616 → (w : View) × IsStep start words (set
    words i (f (get_or words i 0))) views kept id me.0 at live w × (IsWithin w → tells (get_or words i 0) (w, me.1)))
    → Allows (Rule start) slots id me i f tells
allowed {start} slots id i me f tells live may table kept homes at small =
    let found : ℕ = get_or table.words i 0 in
    let after : List ℕ = set table.words i (f found) in
    let step = may table.words table.views kept at live small in
    let later : Kept start after (set table.views id step.0) =
    keep start table.words after table.views kept id me.0 at live step.0 step.1 in
    let alive : 0 < step.0.parts = let p = step.1.parts in omega arith in
    let inside : IsWithin step.0 =
    within start after (set table.views id step.0) later id step.0
    (set_here table.views id step.0 (in_range table.views id me.0 at))
    alive in
    (step.0, keeps, tt, later, step.2 inside)
