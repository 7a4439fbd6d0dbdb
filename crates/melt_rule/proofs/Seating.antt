-- What a step gives back to a seat at the words of an epoch.
use Rattle.std.proofs.Common.{◌≡◌, ◌≢◌, ℕ, ◌*◌, Bool, true, false, inl, inr, refl, sym, ◌∙◌, ap}
use Rattle.std.proofs.Common.{subst, arith}
use Rattle.std.proofs.lemmas.Bool.Decides.{eqb_tells}
use Rattle.std.specs.Prelude.{None, if◌then◌else◌}
use Rattle.atomic_table.specs.declared.shared.Seat.{Seat}
use Rattle.melt_model.specs.declared.history.Slot.{Slot}
use Rattle.melt_word.proofs.OneToOne.{same_ref}
use Rattle.melt_word.specs.Words.{IsRef, ref_word}
use Rattle.melt_word.specs.declared.reference.Ref.{Ref}
use Rattle.melt_word.specs.declared.reference.Ref.TheVariants.{Null, Clean, Stale, Disk}
use Rattle.melt_core.specs.declared.call.Place.{Place}
use Rattle.melt_rule.specs.Plays.{FindsReference, Stays}
use Rattle.melt_rule.specs.Rule.{has_cause}
use Rattle.melt_rule.specs.Seats.{EpochWords, IsSeat, knows_of}
use Rattle.melt_rule.specs.Tells.{view_after, caused, Asks, Exchanged, Looks, Polls, Reads}
use Rattle.melt_rule.specs.declared.view.View.{View}

-- a seat after a step that led to a view of the same parts and the same beginning
pub seated : {words : EpochWords} {old new : Seat ℕ View} {w : View} → IsSeat words old → new.table_id ≡ old.table_id
    → Stays old.me new.me → knows_of new ≡ w → w.parts ≡ (knows_of old).parts → w.began ≡ (knows_of old).began
    → IsSeat words new
seated seat table stays is parts began = record {
  same = table ∙ seat.same;
  none = stays.0 ∙ seat.none;
  live = let live = seat.live in let same = ap (λ (v : View). v.parts) is ∙ parts in omega arith;
  began = ap (λ (v : View). v.began) is ∙ (began ∙ seat.began);
  within = stays.1;
}

-- after a read of the stop word
pub seated_polled : {words : EpochWords} {old new : Seat ℕ View} (set_ : Bool) → IsSeat words old
    → new.table_id ≡ old.table_id → Stays old.me new.me → Polls (knows_of old) (knows_of new) set_ → IsSeat words new
seated_polled false seat table stays polls = seated seat table stays polls.0.is refl refl
seated_polled true seat table stays polls = seated seat table stays polls.1 refl refl

-- after `ask`
pub seated_asked : {words : EpochWords} {old new : Seat ℕ View} → IsSeat words old → new.table_id ≡ old.table_id
    → Stays old.me new.me → Asks (knows_of old) (knows_of new) → IsSeat words new
seated_asked {old} {new} seat table stays asks =
    let base : View = view_after (knows_of old) (knows_of new).seen (knows_of old).known None in
    let same = caused_keeps base (has_cause base) refl in
    seated seat table stays asks.1 same.0 same.1
  where
    caused_keeps : (v : View) (b : Bool) → has_cause v ≡ b → ((caused v).parts ≡ v.parts) × ((caused v).began ≡ v.began)
    caused_keeps v true is =
        let e : caused v ≡ v = ap (λ (b : Bool). if b then v else record v { asked = true }) is in
        (ap (λ (u : View). u.parts) e, ap (λ (u : View). u.began) e)
    caused_keeps v false is =
        let e : caused v ≡ record v { asked = true } =
        ap (λ (b : Bool). if b then v else record v { asked = true }) is in
        (ap (λ (u : View). u.parts) e, ap (λ (u : View). u.began) e)

-- after a look at a place
pub seated_looked : {words : EpochWords} {old new : Seat ℕ View} (at : Slot) (place : Place) (found : Ref)
    → IsSeat words old → new.table_id ≡ old.table_id → Stays old.me new.me
    → Looks (knows_of old) (knows_of new) at place found → IsSeat words new
seated_looked at place Null seat table stays looks = seated seat table stays looks.is refl refl
seated_looked at place (Clean a) seat table stays looks = seated seat table stays looks.is refl refl
seated_looked at place (Stale a) seat table stays looks = seated seat table stays looks.is refl refl
seated_looked at place (Disk home) seat table stays looks = seated seat table stays looks.reaches.is refl refl

-- it found the one reference of its word
pub looked_as : {v w : View} {at : Slot} {place : Place} {word : ℕ} (r : Ref) → FindsReference v w at place word
    → IsRef r → word ≡ ref_word r → Looks v w at place r
looked_as r found in_range is =
    rw (← same_ref found.reference r found.in_range in_range (sym found.is ∙ is)) found.looks

-- an exchange read what the code answers
pub answered : {v w : View} {at : Slot} {found : Ref} {target answer seen : ℕ} (before_ result : ℕ)
    → Exchanged v w at found target answer seen → before_ ≡ ref_word found → (seen ≡ before_ → result ≡ target)
    → (seen ≢ before_ → seen ≡ 4 * result) → Reads v w at result
answered {v} {w} {at} {found} {target} {answer} {seen} before_ result x from won lost =
    subst (λ (a : ℕ). Reads v w at a) same x.reads
  where
    same : answer ≡ result
    same = elim (eqb_tells seen before_) [
      | inl is ↦ x.won (is.1 ∙ from) ∙ sym (won is.1)
      | inr differ ↦
          let one : seen ≡ 4 * answer = x.lost (λ is. differ.1 (is ∙ sym from)) in
          let two : seen ≡ 4 * result = lost differ.1 in
          omega arith
    ]
