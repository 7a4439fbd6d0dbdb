-- What a read of a record tells: how its load goes on, and that no record is found
-- damaged where the disk tells its words.
use Rattle.std.proofs.Common.{◌≡◌, ℕ, ◌+◌, ◌<◌, ◌≤◌, ◌≢◌, zero, suc, inl, inr, List, [], ◌++◌, length, take, drop}
use Rattle.std.proofs.Common.{replicate, get_or, length-append}
use Rattle.std.proofs.Common.{Result, Ok, Err, OnOk, IfOk, IfErr}
use Rattle.std.proofs.Common.{refl, sym, ◌∙◌, ap, subst, arith}
use Rattle.std.proofs.Math.ListN.{set, length-set}
use Rattle.std.proofs.lemmas.Bool.{cases_eq}
use Rattle.std.proofs.lemmas.Bool.Decides.{eqb_tells}
use Rattle.std.proofs.lemmas.List.{get_or-drop, get_or-take, get_or-set_same, get_or-set_other, get_or_default}
use Rattle.std.proofs.lemmas.List.{get_or_append_left, length-drop, length-take-le}
use Rattle.std.specs.Prelude.{Bool, true, false, ◌==◌, if◌then◌else◌, Option, None, Some, IfSome, IsSome, slice_index}
use Rattle.std.specs.Result.{is_err}
use Rattle.melt_model.specs.declared.operations.Op.{Op}
use Rattle.melt_word.specs.Words.{IsShape, cost_of}
use Rattle.melt_word.specs.declared.header.Shape.{Shape}
use Rattle.melt_word.specs.declared.reference.Ref.TheVariants.{Disk}
use Rattle.melt_record.specs.declared.damage.Damaged.{Damaged}
use Rattle.melt_record.specs.declared.head.Head.{Head}
use Rattle.melt_record.specs.declared.head.Kind.{Kind}
use Rattle.melt_record.specs.declared.head.Kind.TheVariants.{Body, Stub}
use Rattle.melt_record.specs.Records.{IsHead, IsHeadDamage, IsSlotDamage, IsSlotWord, AreSlots}
use Rattle.melt_io.specs.Outside.{words_at}
use Rattle.melt_io.proofs.WordBytes.{get_or-padded}
use Rattle.melt_scion.specs.State.{State}
use Rattle.melt_scion.specs.Placed.{HeadIs}
use Rattle.melt_scion.specs.Commits.{HasHead}
use Rattle.melt_scion.specs.Regions.{no_region}
use Rattle.melt_scion.specs.Heaps.{OnDisk, register_in}
use Rattle.melt_scion.proofs.Searching.{scion_named, scion_same, no_head_damage, stub_live, no_slot_damage}
use Rattle.melt_core.specs.declared.answer.Refusal.{Refusal}
use Rattle.melt_core.specs.declared.answer.Refusal.TheVariants as refusal
use Rattle.melt_core.specs.declared.answer.StepResult.{StepResult}
use Rattle.melt_core.specs.declared.answer.StepResult.TheVariants.{Going, Refused}
use Rattle.melt_core.specs.declared.call.Search.{Search}
use Rattle.melt_core.specs.declared.call.Call.{Call}
use Rattle.melt_core.specs.declared.call.Stage.{Stage}
use Rattle.melt_core.specs.declared.call.Stage.TheVariants.{Looked, Missed, HeadRead, BodyRead}
use Rattle.melt_core.specs.Known.{Known, HasLooked}
use Rattle.melt_core.specs.Events.{Event, quiet}
use Rattle.melt_core.specs.Stages.{Next, Nothing, ReadAs, ReadsAt, Lacks, Applies, body_stage, change_of, cleared_by}
use Rattle.melt_core.specs.Stages.{reads_left}
use Rattle.melt_core.specs.Changed.{with_call}
use Rattle.melt_core.specs.Advances.{Asks, MayAdvance, Advances, AdvancesWhere, TellsDisk, Refuses, IsLost}
use Rattle.melt_core.specs.Advances.{Breaks, IsDamage, Uses, reads_from}
use Rattle.melt_core.specs.Views.{View, Standing, maps, state, stage_in, stage_of, rest_of, claimed_in, max_rest}
use Rattle.melt_core.proofs.Asked.{asks_over, inside, known_at, known_so, still_clears}
use Rattle.melt_core.proofs.Claims.{claims_ends}
use Rattle.melt_core.proofs.Disks.{stands_over}
use Rattle.melt_core.proofs.Going.{gone_on, read_advances}
use Rattle.melt_core.proofs.Plain.{Plain, plain}
use Rattle.melt_core.proofs.ReadsLeft.{head_reads}
use Rattle.melt_core.proofs.Standing.{KeepsRests, advances_where, call_here, same_rests}
use Rattle.melt_core.proofs.Words.{same_words}

-- what there is at a value, where the result is no error
pub ok_of : {A E : Type 0} (result : Result A E) (P : Type 0) {failed : Bool} → OnOk result P → is_err result ≡ failed
    → failed ≡ false → P
ok_of (Ok a) P is same none = is
ok_of (Err e) P is same none = absurd (cc)

-- a stage after a head is one after some head that was read
pub after_ok : (v : View) (search : Search) {end first second : ℕ} (result : Result Stage Damaged) {head : Head}
    → IsHead search.home end first second head
    → ((disk : OnDisk) → IfOk result (ReadAs (state disk v) search head.shape head.kind))
    → IfOk result (λ stage. (h : Head) × IsHead search.home end first second h × ((disk : OnDisk) → ReadAs (state disk
    v) search h.shape h.kind stage))
after_ok v search (Ok stage) {head} read is = (head, read, is)
after_ok v search (Err damaged) {head} read is = tt

pub after_err : {A E : Type 0} {P Q : E → Type 0} (result : Result A E) → ((e : E) → P e → Q e) → IfErr result P
    → IfErr result Q
after_err (Ok a) so is = tt
after_err (Err e) so is = so e is

-- a refusal names one damage
pub is_damaged : (result : StepResult) (one other : Damaged) → result ≡ Refused (refusal.Damaged one)
    → result ≡ Refused (refusal.Damaged other) → one ≡ other
is_damaged result one other first second =
    let same : Refused (refusal.Damaged one) ≡ Refused (refusal.Damaged other) = sym first ∙ second in cc

get_or-words_at : (image : List ℕ) (at n i : ℕ) → i < n → get_or (words_at image at n) i 0 ≡ get_or image (at + i) 0
get_or-words_at image at n i below =
    get_or-take n (drop at image ++ replicate n 0) i 0 below
    ∙ (get_or-padded (drop at image) n i ∙ get_or-drop at image i 0)

-- words that were read are those of the disk, where the reader tells it
words_told : (image : Option (List ℕ)) (disk : OnDisk) (at n : ℕ) (words : List ℕ)
    → IfSome image (λ told. words ≡ words_at told at n) → TellsDisk image disk → (i : ℕ) → i < n
    → slice_index words i ≡ disk.image (at + i)
words_told None disk at n words read tells i below = absurd (let some : IsSome {T = List ℕ} None = tells.0 in cc)
words_told (Some told) disk at n words read tells i below =
    ap (λ (ws : List ℕ). slice_index ws i) read ∙ (get_or-words_at told at n i below ∙ sym (tells.1 (at + i)))

-- what an event asks over one disk, it asks over each that ends at the same word
asks_on : (end : ℕ) (v : View) (t : ℕ) (o : Op) → MayAdvance end v t o → (disk : OnDisk) → disk.end ≡ end
    → Asks disk v t o
asks_on end v t o may disk ends =
    asks_over v t o (record { disk = may.disk; asks = may.asks }) disk
    (stands_over may.disk disk v (ends ∙ sym may.ends) may.asks.stands)

-- What a stage from which the disk is read leaves to its event.
record FromDisk (disk : OnDisk) (v : View) (t home : ℕ) : Type 0 where
  pub still : change_of (state disk v) (register_in v.held t) (rest_of v t) (stage_of v t) ≡ Nothing
  pub reads : ReadsAt (stage_of v t) home
  pub no_lack : (need : ℕ) → Lacks (stage_of v t) need → ⊥

from_missed : (disk : OnDisk) (v : View) (t : ℕ) (search : Search) → stage_of v t ≡ Some (Missed search)
    → FromDisk disk v t search.home
from_missed disk v t search at = record {
  still = ap (change_of (state disk v) (register_in v.held t) (rest_of v t)) at;
  reads = subst (λ (g : Option Stage). ReadsAt g search.home) (sym at) refl;
  no_lack = λ need lacks. subst (λ (g : Option Stage). Lacks g need) at lacks;
}

from_head : (disk : OnDisk) (v : View) (t : ℕ) (search : Search) (shape : Shape)
    → stage_of v t ≡ Some (HeadRead search shape) → FromDisk disk v t search.home
from_head disk v t search shape at = record {
  still = ap (change_of (state disk v) (register_in v.held t) (rest_of v t)) at;
  reads = subst (λ (g : Option Stage). ReadsAt g search.home) (sym at) refl;
  no_lack = λ need lacks. subst (λ (g : Option Stage). Lacks g need) at lacks;
}

-- the call is over, and all else stays
lost : (disk : OnDisk) (v : View) (t home : ℕ) (o : Op) → Asks disk v t o → FromDisk disk v t home
    → IsLost v (with_call v t None) t home
lost disk v t home o asks from = record {
  reads = from.reads;
  call = call_here v (with_call v t None) t None refl (inside disk v t o asks);
  own = record { history = refl; registers = refl; values = refl };
  stop = refl;
}

-- a call ends without an answer, and no word changes
lose_advances : (tells : Type 0) {disk : OnDisk} {v : View} {t home : ℕ} {o : Op} (why : Refusal) → Asks disk v t o
    → FromDisk disk v t home → Refuses tells disk v (with_call v t None) t o why
    → AdvancesWhere tells disk v (with_call v t None) t o (Refused why)
lose_advances tells {disk} {v} {t} why asks from refuses =
    let w : View = with_call v t None in
    let cleared : ℕ = cleared_by (stage_of v t) in
    let p : Plain tells disk v w t cleared None None = record {
      event = λ told stands. subst (λ (k : ℕ). Event told v.log (maps v) (maps v) (state disk v) (state disk v)
          no_region k None)
          (sym (still_clears (state disk v) (register_in v.held t) (rest_of v t) (stage_of v t) from.still))
          (quiet refl (same_words disk v));
      nothing = tt;
      moves = refl;
      rests = same_rests v w t refl;
      words = refl;
      threads = refl;
      others = λ u differ. refl;
      may_hold = asks.stands.registers t;
      known = λ told tell stands c none. absurd (cc);
      fits = λ c none. absurd (cc);
      unclaimed = refl;
      claims = claims_ends v.stop (stage_of v t) from.no_lack;
    } in
    advances_where (Refused why) asks (plain asks.thread p) refl
    (subst (Applies (maps v) (maps w) (state disk v) (state disk w)) (sym from.still) (refl, same_words disk v)) refuses
    tt

-- the head that was read is that on disk
head_stands : (disk : OnDisk) (v : View) {home end first second : ℕ} {head : Head} → disk.end ≡ end
    → IsHead home end first second head → first ≡ disk.image home → second ≡ disk.image (home + 1)
    → HeadIs (state disk v).base home head
head_stands disk v {home} {end} {first} {head} ends is same_first same_second =
    subst (λ (e : ℕ). IsHead home e (disk.image home) (disk.image (home + 1)) head) (sym ends)
    (subst (λ (a : ℕ). IsHead home end a (disk.image (home + 1)) head) same_first
    (subst (λ (b : ℕ). IsHead home end first b head) same_second is))

positive : (n : ℕ) → n ≢ 0 → 0 < n
positive zero some = absurd (some refl)
positive (suc n) some = omega arith

-- The first two words at a home were read, in an event of a call that missed the home.
pub record ReadsHead (end : ℕ) (image : Option (List ℕ)) (v : View) (t : ℕ) (o : Op) (search : Search) (words : List ℕ)
    : Type 0 where
  pub may : MayAdvance end v t o
  pub at : stage_of v t ≡ Some (Missed search)
  pub read : IfSome image (λ told. words ≡ words_at told search.home 2)

module _ (end : ℕ) (image : Option (List ℕ)) (v : View) (t : ℕ) (o : Op) (search : Search) (words : List ℕ)
    (is : ReadsHead end image v t o search words) where
  abbrev first : ℕ
  first = slice_index words 0

  abbrev second : ℕ
  second = slice_index words 1

  -- over each disk with that end
  module _ (disk : OnDisk) (ends : disk.end ≡ end) where
    asks_here : Asks disk v t o
    asks_here = asks_on end v t o is.may disk ends

    known_here : (told : Bool) → Standing told disk v
        → Known told (maps v) (state disk v) (rest_of v t) (Missed search)
    known_here told stands = known_so told disk v t o (Missed search) asks_here is.at stands

    first_told : TellsDisk image disk → first ≡ disk.image search.home
    first_told tells = words_told image disk search.home 2 words is.read tells 0 (omega arith)
        ∙ ap disk.image (let e : search.home + 0 ≡ search.home = omega arith in e)

    second_told : TellsDisk image disk → second ≡ disk.image (search.home + 1)
    second_told tells = words_told image disk search.home 2 words is.read tells 1 (omega arith)

    stands_told : (head : Head) → IsHead search.home end first second head → TellsDisk image disk
        → HeadIs (state disk v).base search.home head
    stands_told head read tells =
        head_stands disk v ends read (first_told tells) (second_told tells)

    has_head : (told : Bool) → (told ≡ true → TellsDisk image disk) → Standing told disk v → (shape : Shape)
        → IsHead search.home end first second (record { shape = shape; kind = Body })
        → HasHead told (state disk v).base search.home shape
    has_head told tell stands shape read = record {
      in_range = (known_here told stands).0.searches.looked.in_range;
      small = read.first_word.in_range;
      within = subst (λ (e : ℕ). search.home + cost_of shape ≤ e) (sym ends) read.first_word.within;
      on_disk = λ is_told. stands_told (record { shape = shape; kind = Body }) read (tell is_told);
    }

    -- what is known after the head of a Body, with slots or numbers or without
    known_body : (told : Bool) → (told ≡ true → TellsDisk image disk) → Standing told disk v → (shape : Shape)
        → IsHead search.home end first second (record { shape = shape; kind = Body })
        → Known told (maps v) (state disk v) (rest_of v t) (body_stage search shape)
    known_body told tell stands shape read =
        let missed = known_here told stands in
        let head : HasHead told (state disk v).base search.home shape = has_head told tell stands shape read in
        elim (eqb_tells (shape.refs + shape.nums) 0) [
          | inl none ↦
              subst (λ (b : Bool). Known told (maps v) (state disk v) (rest_of v t)
              (if b then BodyRead search shape else HeadRead search shape)) (sym none.0) (record {
                misses = missed.0;
                body = record {
                  head = head;
                  slots = λ i below. absurd (let nothing : shape.refs + shape.nums ≡ 0 = none.1 in omega arith);
                  on_disk = λ is_told i below. absurd (let nothing : shape.refs + shape.nums ≡ 0 = none.1 in
                      omega arith);
                };
              })
          | inr some ↦
              subst (λ (b : Bool). Known told (maps v) (state disk v) (rest_of v t)
              (if b then BodyRead search shape else HeadRead search shape)) (sym some.0)
              (missed.0, head, positive (shape.refs + shape.nums) some.1, missed.1)
        ]

    -- and at a Stub
    known_stub : (told : Bool) → Standing told disk v → (scion target : ℕ)
        → (state disk v).base.scion scion ≡ Some (record { home = search.home; address = target })
        → Known told (maps v) (state disk v) (rest_of v t) (Looked search.place (Disk search.home) target search.dst)
    known_stub told stands scion target live =
        let looked : HasLooked (maps v) (state disk v) search.place (Disk search.home) =
        (known_here told stands).0.searches.looked in
        let formed = stands.holds.formed in (
          looked,
          record {
            named = scion_named (maps v) (state disk v) formed scion search.home target live;
            same = λ is_told. scion_same (maps v) (state disk v) formed v.log (stands.holds.tells is_told) scion
                search.home target looked.in_range live;
          },
        )

    known_after : (told : Bool) → (told ≡ true → TellsDisk image disk) → Standing told disk v → (shape : Shape)
        → (kind : Kind) → IsHead search.home end first second (record { shape = shape; kind = kind }) → (stage : Stage)
        → ReadAs (state disk v) search shape kind stage → Known told (maps v) (state disk v) (rest_of v t) stage
    known_after told tell stands shape Body read stage goes =
        subst (Known told (maps v) (state disk v) (rest_of v t)) (sym goes) (known_body told tell stands shape read)
    known_after told tell stands shape (Stub scion) read stage goes =
        subst (Known told (maps v) (state disk v) (rest_of v t)) (sym goes.2)
        (known_stub told stands scion goes.0 goes.1)

    -- no record is damaged that the disk tells
    head_sound : (damaged : Damaged) → Breaks v.scions end (Some (Missed search)) words damaged → TellsDisk image disk
        → Standing true disk v → ⊥
    head_sound damaged (inl bad) tells stands =
        no_head_damage (state disk v).base search.home ((known_here true stands).1 refl) first second damaged
        (first_told tells) (second_told tells)
        (subst (λ (e : ℕ). IsHeadDamage search.home e first second damaged) (sym ends) bad)
    head_sound damaged (inr none) tells stands =
        let live = stub_live (state disk v).base search.home ((known_here true stands).1 refl) none.shape none.scion
        (stands_told (record { shape = none.shape; kind = Stub none.scion }) none.head tells) in
        none.dead live.0 live.1

  body_unclaimed : (shape : Shape) (whole : Bool)
      → claimed_in (Some (record { op = o; stage = if whole then BodyRead search shape else HeadRead search shape }))
      ≡ 0
  body_unclaimed shape true = refl
  body_unclaimed shape false = refl

  unclaimed : (s : State) (shape : Shape) (kind : Kind) (stage : Stage) → ReadAs s search shape kind stage
      → claimed_in (Some (record { op = o; stage = stage })) ≡ 0
  unclaimed s shape Body stage goes =
      ap (λ (g : Stage). claimed_in (Some (record { op = o; stage = g }))) goes
      ∙ body_unclaimed shape (shape.refs + shape.nums == 0)
  unclaimed s shape (Stub scion) stage goes =
      ap (λ (g : Stage). claimed_in (Some (record { op = o; stage = g }))) goes.2

  -- the load goes on by the head that was read
  pub head_advances : (head : Head) (stage : Stage) → IsHead search.home end first second head
      → ((disk : OnDisk) → ReadAs (state disk v) search head.shape head.kind stage)
      → Advances end image v (with_call v t (Some (record { op = o; stage = stage }))) t o Going
  head_advances head stage read goes = record {
    over = λ disk ends.
        read_advances (TellsDisk image disk) v.records stage (asks_here disk ends)
        (from_missed disk v t search is.at).still (same_rests v v t refl)
        (subst (λ (g : Option Stage). Next (maps v) (state disk v) (register_in v.held t) v.stop o g stage) (sym is.at)
        (head.shape, head.kind, goes disk))
        (λ told tell stands. known_after disk ends told tell stands head.shape head.kind read stage (goes disk))
        (unclaimed (state disk v) head.shape head.kind stage (goes disk));
  }

  damage_home : (damaged : Damaged) → Breaks v.scions end (Some (Missed search)) words damaged
      → damaged.home ≡ search.home
  damage_home damaged (inl bad) = bad.home_is
  damage_home damaged (inr none) = ap (λ (d : Damaged). d.home) none.is

  -- or it ends there
  pub head_damaged : (damaged : Damaged) → Breaks v.scions end (Some (Missed search)) words damaged
      → Advances end image v (with_call v t None) t o (Refused (refusal.Damaged damaged))
  head_damaged damaged breaks = record {
    over = λ disk ends.
        let from : FromDisk disk v t damaged.home =
        subst (FromDisk disk v t) (sym (damage_home damaged breaks)) (from_missed disk v t search is.at) in
        lose_advances (TellsDisk image disk) (refusal.Damaged damaged) (asks_here disk ends) from (record {
          lost = lost disk v t damaged.home o (asks_here disk ends) from;
          untold = λ tells stands. head_sound disk ends damaged breaks tells stands;
        });
  }

  pub head_is_damage : (damaged : Damaged) → Breaks v.scions end (Some (Missed search)) words damaged
      → IsDamage image end v t damaged
  head_is_damage damaged breaks = record {
    words = words;
    read = subst (λ (g : Option Stage). IfSome image (λ told. words ≡ words_at told (reads_from g).0 (reads_from g).1))
        (sym is.at) is.read;
    breaks = subst (λ (g : Option Stage). Breaks v.scions end g words damaged) (sym is.at) breaks;
  }

-- after a head at most one read is left
pub head_uses : {disk : OnDisk} {v w : View} {t : ℕ} {o : Op} {search : Search} (stage : Stage) (head : Head)
    {faults faults_after reads reads_after_it : ℕ} → Asks disk v t o → stage_of v t ≡ Some (Missed search)
    → w ≡ with_call v t (Some (record { op = o; stage = stage }))
    → ReadAs (state disk v) search head.shape head.kind stage → faults ≤ faults_after → reads_after_it ≤ reads + 1
    → Uses v w t Going faults faults_after reads reads_after_it
head_uses {disk} {v} {w} {t} {o} {search} stage head asks at moves goes count one =
    let call : Call = record { op = o; stage = stage } in
    let after : reads_left (stage_of w t) ≡ reads_left (Some stage) =
    ap (λ (c : Option Call). reads_left (stage_in c))
    (call_here v w t (Some call) (ap (λ (x : View). x.calls) moves) (inside disk v t o asks)) in
    let before : reads_left (stage_of v t) ≡ 2 = ap reads_left at in
    record {
      one = one;
      few = omega (arith, one, after, before, head_reads (state disk v) search head.shape head.kind stage goes);
      fault = λ is. absurd (cc);
      count = count;
    }

-- a read that fails ends the call
pub missed_fault : (end : ℕ) (image : Option (List ℕ)) (v : View) (t : ℕ) (o : Op) (search : Search)
    → MayAdvance end v t o
    → stage_of v t ≡ Some (Missed search) → Advances end image v (with_call v t None) t o (Refused refusal.DiskFault)
missed_fault end image v t o search may at = record {
  over = λ disk ends.
      let asks : Asks disk v t o = asks_on end v t o may disk ends in
      let from : FromDisk disk v t search.home = from_missed disk v t search at in
      lose_advances (TellsDisk image disk) refusal.DiskFault asks from
      (search.home, lost disk v t search.home o asks from);
}

pub head_fault : {end : ℕ} (image : Option (List ℕ)) {v : View} {t : ℕ} {o : Op} {search : Search} {shape : Shape}
    → MayAdvance end v t o → stage_of v t ≡ Some (HeadRead search shape)
    → Advances end image v (with_call v t None) t o (Refused refusal.DiskFault)
head_fault {end} image {v} {t} {o} {search} {shape} may at = record {
  over = λ disk ends.
      let asks : Asks disk v t o = asks_on end v t o may disk ends in
      let from : FromDisk disk v t search.home = from_head disk v t search shape at in
      lose_advances (TellsDisk image disk) refusal.DiskFault asks from
      (search.home, lost disk v t search.home o asks from);
}

-- The words after the head of a Body were read, in an event of a call that read its head.
pub record ReadsRest (end : ℕ) (image : Option (List ℕ)) (v : View) (t : ℕ) (o : Op) (search : Search) (shape : Shape)
    (words : List ℕ) : Type 0 where
  pub may : MayAdvance end v t o
  pub at : stage_of v t ≡ Some (HeadRead search shape)
  pub read : IfSome image (λ told. words ≡ words_at told (search.home + 2) (shape.refs + shape.nums))

-- a Body has no more words after its head than a buffer has room for
pub rest_small : (end : ℕ) (v : View) (t : ℕ) (o : Op) (search : Search) (shape : Shape) → MayAdvance end v t o
    → stage_of v t ≡ Some (HeadRead search shape) → shape.refs + shape.nums ≤ max_rest
rest_small end v t o search shape may at =
    let small : IsShape shape = (known_at may.disk v t o (HeadRead search shape) may.asks at).1.small in
    let refs : shape.refs ≤ 62 = small.refs in
    let nums : shape.nums ≤ 62 = small.nums in
    omega arith

-- and that of each thread is there
pub buffer_size : (end : ℕ) (v : View) (t : ℕ) (o : Op) (buffer : List ℕ) → MayAdvance end v t o
    → buffer ≡ get_or v.records t buffer → length buffer ≡ max_rest
buffer_size end v t o buffer may is =
    let s : Standing false may.disk v = may.asks.stands in
    let each : length v.records ≡ length v.held = s.buffers in
    let within : t < length v.held = may.asks.thread in
    ap length (is ∙ get_or_default v.records t buffer [] (omega arith)) ∙ s.rests t within

-- so the words that are read are a front of it
pub front_size : {end : ℕ} {v : View} {t : ℕ} {o : Op} {search : Search} {shape : Shape} {buffer : List ℕ} {k : ℕ}
    → MayAdvance end v t o → stage_of v t ≡ Some (HeadRead search shape) → buffer ≡ get_or v.records t buffer
    → k ≡ shape.refs + shape.nums → length (take k buffer) ≡ k
front_size {end} {v} {t} {o} {search} {shape} {buffer} {k} may at is same =
    length-take-le k buffer
    (omega (arith, same, rest_small end v t o search shape may at, buffer_size end v t o buffer may is))

-- and where the read did not fail, those of the Body
pub rest_read : {end : ℕ} (image : Option (List ℕ)) {v : View} {t : ℕ} {o : Op} {search : Search} {shape : Shape}
    {buffer : List ℕ} (words : List ℕ) {k : ℕ} {A E : Type 0} (result : Result A E) {failed : Bool}
    → MayAdvance end v t o → stage_of v t ≡ Some (HeadRead search shape) → buffer ≡ get_or v.records t buffer
    → k ≡ shape.refs + shape.nums
    → OnOk result (IfSome image (λ told. words ≡ words_at told (search.home + 2) (length (take k buffer))))
    → is_err result ≡ failed → failed ≡ false → ReadsRest end image v t o search shape words
rest_read image {search} {buffer} words {k} result may at is same read none runs = record {
  may = may;
  at = at;
  read = subst (λ (n : ℕ). IfSome image (λ told. words ≡ words_at told (search.home + 2) n))
      (front_size may at is same ∙ same)
      (ok_of result (IfSome image (λ told. words ≡ words_at told (search.home + 2) (length (take k buffer)))) read none
      runs);
}

-- The buffer begins with the words that were read.
pub record Begins (written words : List ℕ) (n : ℕ) : Type 0 where
  pub size : length written ≡ max_rest
  pub same : (i : ℕ) → i < n → slice_index written i ≡ slice_index words i

-- as one does whose front was read anew
pub begins_with : (words buffer : List ℕ) (n k : ℕ) → length buffer ≡ max_rest → length words ≡ n → k ≡ n → n ≤ max_rest
    → Begins (words ++ drop k buffer) words n
begins_with words buffer n k size read same few = record {
  size = omega (arith, length-append words (drop k buffer), length-drop k buffer, size, read, same, few);
  same = λ i below. get_or_append_left words (drop k buffer) 0 i (omega (arith, below, read));
}

-- the view with another buffer of a thread
abbrev pub with_rest : View → ℕ → List ℕ → View
with_rest v t written = record v { records = set v.records t written }

rest_kept : (disk : OnDisk) (v : View) (t : ℕ) (written : List ℕ) → Standing false disk v → t < length v.held
    → length written ≡ max_rest → KeepsRests v (with_rest v t written) t
rest_kept disk v t written s within size = record {
  buffers = length-set v.records t written;
  size = λ u. elim (cases_eq u t) [
    | inl same ↦
        ap (λ (k : ℕ). length (rest_of (with_rest v t written) k)) same
        ∙ (ap length (rest_here disk v t written s within)
        ∙ (size ∙ (sym (s.rests t within) ∙ sym (ap (λ (k : ℕ). length (rest_of v k)) same))))
    | inr other ↦ ap length (get_or-set_other v.records t u written [] other)
  ];
  others = λ u other. get_or-set_other v.records t u written [] other;
}
  where
    rest_here : (disk : OnDisk) (v : View) (t : ℕ) (written : List ℕ) → Standing false disk v → t < length v.held
        → rest_of (with_rest v t written) t ≡ written
    rest_here disk v t written s within =
        get_or-set_same v.records t written []
        (let each : length v.records ≡ length v.held = s.buffers in omega arith)

module _ (end : ℕ) (image : Option (List ℕ)) (v : View) (t : ℕ) (o : Op) (search : Search) (shape : Shape)
    (words : List ℕ) (is : ReadsRest end image v t o search shape words) where
  -- over each disk with that end
  module _ (disk : OnDisk) (ends : disk.end ≡ end) where
    asks_so : Asks disk v t o
    asks_so = asks_on end v t o is.may disk ends

    known_rest : (told : Bool) → Standing told disk v
        → Known told (maps v) (state disk v) (rest_of v t) (HeadRead search shape)
    known_rest told stands = known_so told disk v t o (HeadRead search shape) asks_so is.at stands

    rest_told : TellsDisk image disk → (i : ℕ) → i < shape.refs + shape.nums
        → slice_index words i ≡ disk.image (search.home + 2 + i)
    rest_told tells i below =
        words_told image disk (search.home + 2) (shape.refs + shape.nums) words is.read tells i below

    -- no slot is damaged that the disk tells
    rest_sound : (damaged : Damaged) → IsSlotDamage search.home end shape.refs words damaged → TellsDisk image disk
        → Standing true disk v → ⊥
    rest_sound damaged bad tells stands =
        let known = known_rest true stands in
        no_slot_damage (state disk v).base search.home (known.3 refl) shape words damaged (known.1.on_disk refl)
        (λ i below. rest_told tells i (omega arith))
        (subst (λ (e : ℕ). IsSlotDamage search.home e shape.refs words damaged) (sym ends) bad)

    -- what is known of the Body, by the buffer
    known_whole : (told : Bool) → (told ≡ true → TellsDisk image disk) → Standing told disk v → (written : List ℕ)
        → Begins written words (shape.refs + shape.nums) → AreSlots end shape.refs words
        → Known told (maps v) (state disk v) written (BodyRead search shape)
    known_whole told tell stands written begins slots =
        let known = known_rest told stands in
        record {
          misses = known.0;
          body = record {
            head = known.1;
            slots = λ i below. subst (λ (e : ℕ). IsSlotWord e (slice_index written i)) (sym ends)
                (subst (IsSlotWord end) (sym (begins.same i (omega arith))) (slots i below));
            on_disk = λ is_told i below. begins.same i below ∙ rest_told (tell is_told) i below;
          };
        }

  -- the load goes on by the words that were read
  pub rest_advances : (written : List ℕ) → Begins written words (shape.refs + shape.nums)
      → AreSlots end shape.refs words
      → Advances end image v (gone_on v v.space (set v.records t written) t o (BodyRead search shape)) t o Going
  rest_advances written begins slots = record {
    over = λ disk ends.
        let asks : Asks disk v t o = asks_so disk ends in
        let each : length v.records ≡ length v.held = asks.stands.buffers in
        let within : t < length v.held = asks.thread in
        read_advances (TellsDisk image disk) (set v.records t written) (BodyRead search shape) asks
        (from_head disk v t search shape is.at).still (rest_kept disk v t written asks.stands within begins.size)
        (subst (λ (g : Option Stage). Next (maps v) (state disk v) (register_in v.held t) v.stop o g
        (BodyRead search shape)) (sym is.at) refl)
        (λ told tell stands. subst (λ (rest : List ℕ). Known told (maps v) (state disk v) rest (BodyRead search shape))
        (sym (get_or-set_same v.records t written [] (omega arith)))
        (known_whole disk ends told tell stands written begins slots)) refl;
  }

  -- or it ends there
  pub rest_damaged : (damaged : Damaged) → IsSlotDamage search.home end shape.refs words damaged
      → Advances end image v (with_call v t None) t o (Refused (refusal.Damaged damaged))
  rest_damaged damaged bad = record {
    over = λ disk ends.
        let asks : Asks disk v t o = asks_so disk ends in
        let from : FromDisk disk v t damaged.home =
        subst (FromDisk disk v t) (sym bad.home_is) (from_head disk v t search shape is.at) in
        lose_advances (TellsDisk image disk) (refusal.Damaged damaged) asks from (record {
          lost = lost disk v t damaged.home o asks from;
          untold = λ tells stands. rest_sound disk ends damaged bad tells stands;
        });
  }

  pub rest_is_damage : (damaged : Damaged) → IsSlotDamage search.home end shape.refs words damaged
      → IsDamage image end v t damaged
  rest_is_damage damaged bad = record {
    words = words;
    read = subst (λ (g : Option Stage). IfSome image (λ told. words ≡ words_at told (reads_from g).0 (reads_from g).1))
        (sym is.at) is.read;
    breaks = subst (λ (g : Option Stage). Breaks v.scions end g words damaged) (sym is.at) bad;
  }
