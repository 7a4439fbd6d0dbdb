-- What a history used or passed stays so as it grows.
use Rattle.std.proofs.Common.{◌≡◌, ◌⊎◌, ℕ, ◌<◌, ◌≤◌, inl, inr, List, [], ◌∷◌, ◌++◌}
use Rattle.std.proofs.Common.{length, take, get_or, refl, sym, ◌∙◌, ap, subst, arith}
use Rattle.std.specs.Prelude.{slice_get, Option, None, Some, IfSome, option_and_then}
use Rattle.std.specs.Option.{option_map}
use Rattle.std.proofs.lemmas.List.{take-append-le}
use Rattle.std.proofs.lemmas.Option.{slice_get_within, slice_get-get_or, same_Some}
use Rattle.std.proofs.lemmas.Bool.{cases_lt}
use Rattle.std.proofs.Math.Seq.{take-append_seam}
use Rattle.melt_model.specs.History.{last, given, read_of, Legal}
use Rattle.melt_model.specs.Thread.{given_at, act_at}
use Rattle.melt_model.specs.declared.history.Value.{Value}
use Rattle.melt_model.specs.declared.history.Value.TheVariants.{Ref}
use Rattle.melt_model.specs.declared.history.Slot.{Slot}
use Rattle.melt_model.specs.declared.history.Act.{Act}
use Rattle.melt_model.specs.declared.history.Act.TheVariants.{Make, Read, Write}
use Rattle.melt_model.specs.declared.history.Entry.{Entry}
use Rattle.melt_model.proofs.Histories.{slice_get-append_left, slice_get-append_seam, given_at-append, last_place}
use Rattle.melt_core.specs.StaleBits.{Used, LookedAt, Passed}

gives_act : (before : List Entry) (act : Option Act) (n : ℕ) → option_and_then (given before) act ≡ Some (Ref n)
    → (a : Act) × (act ≡ Some a) × (given before a ≡ Some (Ref n))
gives_act before None n is = absurd (cc)
gives_act before (Some a) n is = (a, refl, is)

act_of : (e : Option Entry) (a : Act) → option_map (λ (x : Entry). x.act) e ≡ Some a
    → (x : Entry) × (e ≡ Some x) × (x.act ≡ a)
act_of None a is = absurd (cc)
act_of (Some x) a is = (x, refl, same_Some x.act a is)

-- the entry that gives an object
giver : (h : List Entry) (p n : ℕ) → given_at h p ≡ Some (Ref n)
    → (e : Entry) × (slice_get h p ≡ Some e) × (given (take p h) e.act ≡ Some (Ref n))
giver h p n is =
    let a = gives_act (take p h) (act_at h p) n is in
    let e = act_of (slice_get h p) a.0 a.1 in
    (e.0, e.1, ap (given (take p h)) e.2 ∙ a.2)

-- a place that gives an object is one of the history
pub gives_within : (h : List Entry) (p n : ℕ) → given_at h p ≡ Some (Ref n) → p < length h
gives_within h p n is = let e = giver h p n is in slice_get_within h p e.0 e.1

pub used_grows : (h k : List Entry) (q n : ℕ) → Used h q n → Used (h ++ k) q n
used_grows h k q n used = record {
  place = used.place;
  from = used.from;
  gives = given_at-append h k used.place (gives_within h used.place n used.gives) ∙ used.gives;
}

looked_grows : (h k : List Entry) (q n : ℕ) → LookedAt h q n → LookedAt (h ++ k) q n
looked_grows h k q n looked =
    let within : looked.place < length h = slice_get_within h looked.place looked.entry looked.stands in
    let to : looked.moment ≤ looked.place = looked.to in
    record {
      place = looked.place;
      entry = looked.entry;
      stands = slice_get-append_left h k looked.place within ∙ looked.stands;
      slot = looked.slot;
      found = looked.found;
      reads = looked.reads;
      moment = looked.moment;
      from = looked.from;
      to = to;
      after = λ j e below at own.
          looked.after j e below (sym (slice_get-append_left h k j (omega arith)) ∙ at) own;
      held = ap (λ (before : List Entry). last before looked.slot) (take-append-le looked.moment h k (omega arith))
          ∙ looked.held;
    }

pub passed_grows : (h k : List Entry) (q n : ℕ) → Passed h q n → Passed (h ++ k) q n
passed_grows h k q n (inl used) = inl (used_grows h k q n used)
passed_grows h k q n (inr looked) = inr (looked_grows h k q n looked)

-- an object that the last entry gives is used
pub used_push : (h : List Entry) (e : Entry) (q n : ℕ) → q ≤ length h → given h e.act ≡ Some (Ref n)
    → Used (h ++ e ∷ []) q n
used_push h e q n from gives = record {
  place = length h;
  from = from;
  gives =
      ap (λ (x : Option Entry). option_and_then (given (take (length h) (h ++ e ∷ [])))
      (option_map (λ (y : Entry). y.act) x)) (slice_get-append_seam h e [])
      ∙ (ap (λ (before : List Entry). given before e.act) (take-append_seam h (e ∷ [])) ∙ gives);
}

-- and no other is, beside those used before
pub used_last : (h : List Entry) (e : Entry) (q n : ℕ) → Used (h ++ e ∷ []) q n
    → Used h q n ⊎ (given h e.act ≡ Some (Ref n))
used_last h e q n used =
    let g = giver (h ++ e ∷ []) used.place n used.gives in
    elim (last_place h e used.place g.0 g.1) [
      | inl old ↦
          let below : used.place < length h = old.0 in
          inl (record {
            place = used.place;
            from = used.from;
            gives = sym (given_at-append h (e ∷ []) used.place below) ∙ used.gives;
          })
      | inr new ↦ inr (
          let before : take used.place (h ++ e ∷ []) ≡ h =
          ap (λ (p : ℕ). take p (h ++ e ∷ [])) new.0 ∙ take-append_seam h (e ∷ []) in
          ap (λ (x : List Entry). given x e.act) (sym before)
          ∙ (ap (λ (x : Entry). given (take used.place (h ++ e ∷ [])) x.act) new.1 ∙ g.2))
    ]

-- what an entry that reads gives is what it read
given_read : (before : List Entry) (act : Act) (slot : Slot) (value : Value) → read_of act ≡ Some (slot, value)
    → given before act ≡ Some value
given_read before (Make refs nums) slot value is = absurd (cc)
given_read before (Read s v) slot value is =
    ap (λ (x : Slot × Value). Some x.1) (same_Some (s, v) (slot, value) is)
given_read before (Write s v) slot value is = absurd (cc)

-- all entries from q on are of one thread
abbrev pub OneThread : List Entry → ℕ → ℕ → Type 0
OneThread h q thread = (k : ℕ) (e : Entry) → q ≤ k → slice_get h k ≡ Some e → e.thread ≡ thread

-- there is no entry between the look and the read
moment_is : (h : List Entry) (q n thread : ℕ) → OneThread h q thread → (looked : LookedAt h q n)
    → looked.moment ≡ looked.place
moment_is h q n thread one looked =
    let from : q ≤ looked.moment = looked.from in
    let to : looked.moment ≤ looked.place = looked.to in
    let within : looked.place < length h = slice_get_within h looked.place looked.entry looked.stands in
    elim (cases_lt looked.moment looked.place) [
      | inr above ↦ omega arith
      | inl below ↦
          let e : Entry = get_or h looked.moment (record { thread = 0; act = Make 0 0 }) in
          let at : slice_get h looked.moment ≡ Some e = slice_get-get_or h looked.moment _ (omega arith) in
          let mine : looked.entry.thread ≡ thread = one looked.place looked.entry (omega arith) looked.stands in
          let late : looked.moment < looked.moment =
          looked.after looked.moment e below at (one looked.moment e from at ∙ sym mine) in
          absurd (omega arith)
    ]

-- so on one thread what was passed was used
pub passed_used : (h : List Entry) (globals q n thread : ℕ) → Legal h globals → OneThread h q thread → Passed h q n
    → Used h q n
passed_used h globals q n thread legal one (inl used) = used
passed_used h globals q n thread legal one (inr looked) =
    let same : looked.moment ≡ looked.place = moment_is h q n thread one looked in
    let from : q ≤ looked.moment = looked.from in
    let read : looked.found ≡ last (take looked.place h) looked.slot =
    subst (λ (r : Option (Slot × Value)). IfSome r (λ x. x.1 ≡ last (take looked.place h) x.0)) looked.reads
    (legal looked.place looked.entry looked.stands).read_last in
    record {
      place = looked.place;
      from = omega arith;
      gives =
          ap (λ (x : Option Entry). option_and_then (given (take looked.place h))
          (option_map (λ (y : Entry). y.act) x)) looked.stands
          ∙ (given_read (take looked.place h) looked.entry.act looked.slot looked.found looked.reads
          ∙ ap Some (read ∙ (ap (λ (p : ℕ). last (take p h) looked.slot) (sym same) ∙ looked.held)));
    }
