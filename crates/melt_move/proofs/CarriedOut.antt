-- What was decided was done: the heap, the registers and the disk after a Move collection.
use Rattle.std.proofs.Common.{◌≡◌, ◌≢◌, ◌⊎◌, inl, inr, ℕ, ◌+◌, ◌<◌, ◌≤◌, List, length, refl, sym}
use Rattle.std.proofs.Common.{◌∙◌, ap}
use Rattle.std.proofs.Common.{subst, arith}
use Rattle.std.specs.Prelude.{◌^◌, nat_lt, slice_get, slice_index, Option, Some}
use Rattle.std.specs.Option.{option_map}
use Rattle.std.proofs.lemmas.Bool.{cases_order}
use Rattle.std.proofs.lemmas.Option.{same_Some, slice_get_within}
use Rattle.melt_word.specs.Words.{cost_of}
use Rattle.melt_word.specs.declared.header.Header.{Header}
use Rattle.melt_record.specs.Records.{IsHead}
use Rattle.melt_record.specs.declared.head.Kind.TheVariants.{Body}
use Rattle.melt_space.specs.Space.{word_at}
use Rattle.melt_scion.specs.State.{Scion, State, HeaderAt}
use Rattle.melt_scion.specs.Scions.{Scions, scion_at}
use Rattle.melt_scion.specs.Placed.{Maps, Formed}
use Rattle.melt_model.specs.declared.reports.Phase.TheVariants.{Move}
use Rattle.melt_scion.specs.GhostMaps.{NamePairs}
use Rattle.melt_scion.specs.Moves.{Leaves, WordBecomes, body_ref}
use Rattle.melt_scion.specs.declared.heap.Names.{Names}
use Rattle.melt_scion.proofs.Geometry.{one_header}
use Rattle.melt_scion.specs.Heaps.{OnDisk, HasNames, IsSettled, TablesMade, Shows, HasMaps, state_of}
use Rattle.melt_scion.specs.declared.registers.Registers.{Registers}
use Rattle.melt_scion.specs.declared.heap.Heap.{Heap}
use Rattle.melt_copy.specs.declared.forwarding.Relocation.{Relocation}
use Rattle.melt_copy.specs.Tracking.{word_numbered}
use Rattle.melt_copy.proofs.Places.{place_after, same_place}
use Rattle.melt_move.specs.declared.choice.Departure.{Departure}
use Rattle.melt_move.specs.declared.commit.Copied.{Copied}
use Rattle.melt_move.specs.declared.decision.Decision.{Decision}
use Rattle.melt_move.specs.declared.homes.Given.{Given}
use Rattle.melt_move.specs.Plans.{IsDecision, home_by, need_for}
use Rattle.melt_move.specs.Staying.{StandIn, StaysAs, WordsStay}
use Rattle.melt_move.specs.Bodies.{HasBody, HomesApart, IsOutside, WritesBodies}
use Rattle.melt_move.specs.GivenScions.{FreesScions, HaveScions, WritesStubs, given_home}
use Rattle.melt_move.specs.Moved.{StandsAt, NamedByStaying, HasNewScion, IsMove}
use Rattle.melt_move.specs.Collecting.{IsPutBack, CarriesOut, disk_after}
use Rattle.melt_move.proofs.HomesBy.{home-cases, given_within, given_order}
use Rattle.melt_move.proofs.HomesBy.{wants_given}
use Rattle.melt_move.proofs.Awaiting.{pair_of, not_leaving, put_word, put_names, within, given_to}
use Rattle.melt_move.proofs.NamedOut.{names_out}

module _ (maps : Maps) (heap : Heap) (held : List Registers) (disk : OnDisk) (decision : Decision)
    (decided : IsDecision heap.space (state_of heap held disk) decision)
    (formed : Formed maps (state_of heap held disk))
    (made : TablesMade heap) (settled : IsSettled heap) (freed : Scions)
    (frees : FreesScions (word_at heap.space) decision.choice.leaving.items heap.scions freed) (mid : Heap)
    (after : List Registers) (copied : Copied) (stand : StandIn (state_of heap held disk) decision copied.words.items)
    (globals : WordsStay (state_of heap held disk) decision heap.globals copied.globals.items)
    (put : IsPutBack (record heap { scions = freed }) mid held after decision copied) (new : Heap)
    (have : HaveScions decision.homes decision.choice.stay.moves.items mid new) where
  abbrev s : State
  s = state_of heap held disk

  abbrev moves : List Relocation
  moves = decision.choice.stay.moves.items

  some_first : 1 ≤ decision.homes.first
  some_first = let first = decided.first in let some = decided.first_end in omega (arith, first, some)

  -- a word of an object, but for its home word, is as it was put there
  word_kept : (k : ℕ) (m : Relocation) (at : ℕ) → slice_get decision.choice.stay.moves.items k ≡ Some m → m.to ≤ at
      → at < m.to + cost_of m.shape → (at ≡ m.to + 1 → given_home decision.homes m ≡ 0)
      → word_at new.space at ≡ word_numbered copied.words.items at
  word_kept k m at there from to home =
      let place = within heap held disk decision decided maps formed made freed frees
      mid after copied stand put k m there in
      let first = place.0 in let last = place.1 in
      have.words at (λ j n other some same. elim (cases_order j k) [
        | inl is ↦
            let one : n ≡ m = same_Some n m
            (sym other ∙ (ap (slice_get decision.choice.stay.moves.items) is ∙ there)) in
            let to_is : n.to ≡ m.to = ap (λ (x : Relocation). x.to) one in
            some (ap (given_home decision.homes) one ∙ home (omega (arith, same, to_is)))
        | inr (inl less) ↦
            let apart = place_after j k decided.choice.stay other there less in
            omega (arith, apart, same, from)
        | inr (inr less) ↦
            let apart = place_after k j decided.choice.stay there other less in
            omega (arith, apart, same, to)
      ])
      ∙ put_word heap held disk decision decided maps formed made freed frees mid after copied stand put at
      (omega (arith, first, from)) (omega (arith, last, to))

  module _ (end : ℕ) (end_is : end ≡ decision.homes.first + need_for decision.homes.given.items) (small : end ≤ 2 ^ 32)
      (image bodies_image stubs_image : ℕ → ℕ) (image_is : (k : ℕ) → disk.image k ≡ image k)
      (bodies : WritesBodies (state_of heap held disk) (home_by (word_at heap.space) decision) end
      decision.choice.leaving.items (length decision.choice.leaving.items) image bodies_image)
      (stubs : WritesStubs decision.homes decision.choice.stay.moves.items new end bodies_image stubs_image) where
    abbrev t : State
    t = state_of new after (disk_after disk decision end stubs_image)

    abbrev home : ℕ → ℕ
    home = home_by (word_at heap.space) decision

    stands : (k : ℕ) (m : Relocation) → slice_get decision.choice.stay.moves.items k ≡ Some m
        → StandsAt s t decision (nat_lt k decision.held_count) m
    stands k m at =
        let object = stand.objects k m at in
        record {
          header = λ header starts.
              word_kept k m m.to at (omega arith) (omega arith) (λ same. absurd (omega (arith, same)))
              ∙ object.header header starts;
          slots = λ i below.
              subst (StaysAs s decision (s.word (m.from + 2 + i)))
              (sym (word_kept k m (m.to + 2 + i) at (omega arith) (omega (arith, below))
              (λ same. absurd (omega (arith, same))))) (object.slots i below);
          numbers = λ j below.
              word_kept k m (m.to + 2 + m.shape.refs + j) at (omega arith) (omega (arith, below))
              (λ same. absurd (omega (arith, same))) ∙ object.numbers j below;
        }

    live_is : (scion home address : ℕ) → scion_at new.scions scion ≡ Some (home, address)
        → t.base.scion scion ≡ Some (record { home = home; address = address })
    live_is scion home address is = ap (option_map (λ (p : ℕ × ℕ). record { home = p.0; address = p.1 })) is

    new_scion : (k : ℕ) (m : Relocation) → slice_get decision.choice.stay.moves.items k ≡ Some m
        → given_home decision.homes m ≢ 0 → HasNewScion t m (given_home decision.homes m)
    new_scion k m at some =
        let has = have.new_homes k m at some in
        record {
          scion = has.scion;
          names = has.names;
          live = live_is has.scion (given_home decision.homes m) m.to has.live;
        }

    only_scions : (scion : ℕ) (x : Scion) → t.base.scion scion ≡ Some x
        → NamedByStaying t decision.choice.stay.moves.items scion x
    only_scions scion x live =
        let is = have.only scion (x.home, x.address) (pair_of (scion_at new.scions scion) x live) in
        record { index = is.0; move = is.1; is = is.2; at = is.3; names = is.4 }

    -- the home of an object that leaves has no word of a new home of one that stays
    apart_from_stubs : (j : ℕ) (d : Departure) → slice_get decision.choice.leaving.items j ≡ Some d
        → (k : ℕ) (m : Relocation)
        → slice_get decision.choice.stay.moves.items k ≡ Some m → given_home decision.homes m ≢ 0
        → (home d.from + cost_of d.shape ≤ given_home decision.homes m)
        ⊎ (given_home decision.homes m + cost_of m.shape ≤ home d.from)
    apart_from_stubs j d there k m at some =
        let x = given_to heap held disk decision decided maps formed made freed frees
        mid after copied stand put k m at some in
        let between = given_within s decision decided.homes some_first x.index x.given x.is in
        let departs = decided.choice.leave.each j d there in
        let leaves = departs.0 in
        let given = x.home in let cost = x.cost in
        elim (home-cases s decision d.from (decided.old_homes d.from leaves.0)) [
          | inl old ↦
              let within_end = old.1.within departs.1.header departs.1.starts in
              let its = ap cost_of departs.1.is in
              let first = decided.first in
              let from = between.0 in
              inl (omega (arith, within_end, its, first, from, given))
          | inr none ↦
              let g = wants_given s decision decided.homes some_first d.from
              (record { why = inl leaves; had_none = none }) in
              let shaped = (decided.homes.each g.index g.given g.is).1 in
              let costs : cost_of g.given.shape ≡ cost_of d.shape =
              ap cost_of (sym shaped.is
              ∙ (ap (λ (h : Header). h.shape) (one_header s d.from shaped.header departs.1.header
              (subst (λ (a : ℕ). HeaderAt s a shaped.header) g.from shaped.starts) departs.1.starts) ∙ departs.1.is)) in
              let same : home g.given.from ≡ home d.from = ap home g.from in
              elim (cases_order g.index x.index) [
                | inl is ↦
                    let one : g.given ≡ x.given =
                    same_Some g.given x.given (sym g.is ∙ (ap (slice_get decision.homes.given.items) is ∙ x.is)) in
                    let from : d.from ≡ m.from = sym g.from ∙ (ap (λ (y : Given). y.from) one ∙ x.from) in
                    absurd (not_leaving heap held disk decision decided k m at (subst (Leaves Move s) from leaves))
                | inr (inl less) ↦
                    let order = given_order s decision decided.homes some_first g.index x.index
                    g.given x.given g.is x.is less in
                    inl (omega (arith, order, same, costs, given))
                | inr (inr less) ↦
                    let order = given_order s decision decided.homes some_first x.index g.index
                    x.given g.given x.is g.is less in
                    inr (omega (arith, order, same, cost, given))
              ]
        ]

    -- so the Stubs leave its Body
    body_stays : (j : ℕ) (d : Departure) (at : ℕ) → slice_get decision.choice.leaving.items j ≡ Some d
        → home d.from ≤ at
        → at < home d.from + cost_of d.shape → stubs_image at ≡ bodies_image at
    body_stays j d at there from to =
        stubs.others at (λ k m stays some. elim (apart_from_stubs j d there k m stays some) [
          | inl before ↦ inl (omega (arith, before, to))
          | inr later ↦ inr (omega (arith, later, from))
        ])

    has_body : HomesApart home decision.choice.leaving.items → (j : ℕ) (d : Departure)
        → slice_get decision.choice.leaving.items j ≡ Some d → HasBody s home end stubs_image d
    has_body apart j d there =
        let body = bodies.bodies apart j d (slice_get_within decision.choice.leaving.items j d there) there in
        let stays : (n : ℕ) → n < cost_of d.shape → stubs_image (home d.from + n) ≡ bodies_image (home d.from + n) =
        λ n below. body_stays j d (home d.from + n) there (omega arith) (omega (arith, below)) in
        let first : stubs_image (home d.from) ≡ bodies_image (home d.from) =
        body_stays j d (home d.from) there (omega arith) (omega arith) in
        record {
          head =
              subst (λ (word : ℕ). IsHead (home d.from) end word (stubs_image (home d.from + 1))
              (record { shape = d.shape; kind = Body })) (sym first)
              (subst (λ (word : ℕ). IsHead (home d.from) end (bodies_image (home d.from)) word
              (record { shape = d.shape; kind = Body })) (sym (stays 1 (omega arith))) body.head);
          slots = λ i below.
              subst (WordBecomes (body_ref home) (s.word (d.from + 2 + i)))
              (sym (body_stays j d (home d.from + 2 + i) there (omega arith) (omega (arith, below))))
              (body.slots i below);
          numbers = λ n below.
              body_stays j d (home d.from + 2 + d.shape.refs + n) there (omega arith) (omega (arith, below))
              ∙ body.numbers n below;
        }

    image_stays : (at : ℕ) → at < disk.end
        → ((k : ℕ) (d : Departure) → slice_get decision.choice.leaving.items k ≡ Some d
        → IsOutside home at d) → stubs_image at ≡ disk.image at
    image_stays at below outside =
        stubs.others at (λ k m stays some.
        let x = given_to heap held disk decision decided maps formed made freed frees
        mid after copied stand put k m stays some in
        let between = given_within s decision decided.homes some_first x.index x.given x.is in
        let from = between.0 in let first = decided.first in let given = x.home in
        inl (omega (arith, from, first, given, below)))
        ∙ (bodies.others at outside ∙ sym (image_is at))

    pub is_move : IsMove s t decided.live decision
    is_move = record {
      whole = decided.seen.whole;
      choice = decided.choice;
      held_count = decided.held_count;
      gives = decided.homes;
      first = decided.first;
      first_end = decided.first_end;
      old_homes = decided.old_homes;
      size = have.space_size ∙ put.space.size;
      globals = ap length have.globals ∙ (ap length put.globals ∙ globals.size);
      free =
          (let used = have.used in let were = put.space.used in let size = stand.size in
          let later = decided.choice.stay.after in omega (arith, used, were, size, later));
      objects = stands;
      kept_home = λ k m at none.
          word_kept k m (m.to + 1) at (omega arith) (omega arith) (λ same. none) ∙ (stand.objects k m at).home;
      new_home = new_scion;
      old_scion = λ k m home scion at old.
          live_is scion home m.to (have.old_homes k m home scion at
          (put_names heap held disk decision decided maps formed made freed frees mid after copied stand put k m home
          scion at
          old));
      only_scions = only_scions;
      global = λ g below.
          subst (λ (ws : List ℕ). StaysAs s decision (s.global g) (slice_index ws g)) (sym (have.globals ∙ put.globals))
          (globals.each g below);
      register = put.registers;
      settled = settled;
      forward = λ p. ap (λ (ws : List ℕ). slice_index ws p) (have.forward ∙ put.forward) ∙ settled p;
      end = end_is ∙ ap (λ (n : ℕ). n + need_for decision.homes.given.items) decided.first;
      small_end = small;
      homes = refl;
      free_homes = refl;
      bodies = has_body;
      stubs = stubs.stubs;
      image = image_stays;
    }

    pub carries_out : (told : Option (List ℕ)) → Shows told stubs_image → HasMaps heap maps
        → CarriesOut maps disk heap new held after decision end told
    carries_out told shows names =
        let out = names_out heap.names put.named mid.names heap.maps put.named_maps mid.maps
        (λ i j m n here there same. (same_place i j decided.choice.stay here there same).0) names put.homes put.names in
        record {
          image = stubs_image;
          shows = shows;
          live = decided.live;
          is = is_move;
          after = out.after;
          names =
              subst (λ (pairs : NamePairs). HasNames new.names pairs out.after) (sym have.maps)
              (subst (λ (n : Option Names). HasNames n mid.maps out.after) (sym have.names) out.names);
          addresses = out.addresses;
          homes = out.given;
        }
