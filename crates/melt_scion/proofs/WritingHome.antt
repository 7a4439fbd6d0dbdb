-- A write at the home of a forwarded object, whether it failed or not, leaves a state that stands for the same history.
use Rattle.std.proofs.Common.{◌≡◌, ◌≢◌, ℕ, ◌+◌, ◌<◌, ◌≤◌, sym, ◌∙◌, ap, subst, arith, inl, inr, List}
use Rattle.std.specs.Prelude.{◌↔◌, Some}
use Rattle.std.proofs.lemmas.Bool.{cases_eq}
use Rattle.melt_model.specs.declared.history.Entry.{Entry}
use Rattle.melt_model.specs.declared.history.Value.{Value}
use Rattle.melt_word.specs.Words.{cost_of}
use Rattle.melt_word.specs.declared.header.Shape.{Shape}
use Rattle.melt_forward.specs.Forwarding.{Sends}
use Rattle.melt_record.specs.declared.head.Kind.TheVariants.{Stub}
use Rattle.melt_scion.specs.State.{Scion, State, Forwards, IsReserved}
use Rattle.melt_scion.specs.Placed.{Maps, ForwardMayStand, FormedWords, Formed, IsForwarded, Tells}
use Rattle.melt_scion.specs.Placed.{value_at, Placed}
use Rattle.melt_scion.specs.Settles.{WritesHome}
use Rattle.melt_scion.proofs.HomesApart.{reserved_words}
use Rattle.melt_scion.proofs.KeptRecords.{KeepsRecord, IsOneOfThree, head_kept, three_kept, free_home_kept}
use Rattle.melt_scion.proofs.SameObjects.{SameObjects, NamesMatch, HomesTell, header_was, words_on, registers_on}
use Rattle.melt_scion.proofs.SameObjects.{forward_within, home_word_on, scion_on, forward_on, reserved_on, was_free}
use Rattle.melt_scion.proofs.SameObjects.{tells_on}
use Rattle.melt_scion.proofs.Forwarded.{forwarded_named, forwarded_not_free, forwarded_no_scion}

module _ (maps : Maps) (s t : State) (home words : ℕ) (writes : WritesHome s t home words) where
  -- no object is touched
  same_objects : SameObjects maps s t
  same_objects = record {
    sizes = writes.sizes;
    homes = writes.same_homes;
    free = writes.free;
    part = λ a n p x header part other. writes.word x;
    global = writes.global;
  }

  -- homes are forwarded as they were
  forwards_same : (k a : ℕ) → Forwards s k a ↔ Forwards t k a
  forwards_same k a =
      let count : t.base.forwards ≡ s.base.forwards = writes.sizes.forwards in (
        λ is. record {
          place = is.place;
          within = subst (λ n. is.place < n) (sym count) is.within;
          sends = subst (λ w. Sends w k a) (sym (writes.forward is.place)) is.sends;
        },
        λ is. record {
          place = is.place;
          within = subst (λ n. is.place < n) count is.within;
          sends = subst (λ w. Sends w k a) (writes.forward is.place) is.sends;
        },
      )

  -- and so are scions
  live_same : (k : ℕ) (x : Scion) → s.base.scion k ≡ Some x → t.base.scion k ≡ Some x
  live_same k x live = writes.scion k ∙ live

  module _ (formed : FormedWords maps s) where
    within : (p : ℕ) → p < t.base.forwards → p < s.base.forwards
    within = forward_within maps s t formed same_objects

    -- home words, scions and forwarding words are those from before
    names_match : NamesMatch maps t
    names_match = record {
      home_words = λ a n header named starts.
          home_word_on maps s t formed same_objects a (cost_of header.shape) (writes.word (a + 1))
          (λ k. forwards_same k a) live_same
          (formed.home_words a n header named (header_was maps s t formed same_objects a n header named starts));
      scions = λ k x live.
          scion_on maps s t formed same_objects k x (writes.word (x.address + 1))
          (formed.scions k x (sym (writes.scion k) ∙ live));
      forwards = λ p below.
          subst (ForwardMayStand maps t) (sym (writes.forward p))
          (forward_on maps s t formed same_objects (s.forward p) (λ k a sends stands. writes.word (a + 1))
          (formed.forwards p (within p below)));
      one_forward = λ p q k a b below also first second.
          formed.one_forward p q k a b (within p below) (within q also)
          (subst (λ w. Sends w k a) (writes.forward p) first) (subst (λ w. Sends w k b) (writes.forward q) second);
    }

  -- words on disk are no part of what is well formed
  pub written_formed : FormedWords maps s → FormedWords maps t
  written_formed formed = words_on maps s t formed same_objects (names_match formed)

  -- nor of registers
  pub written_registers : ((u r : ℕ) → t.register u r ≡ s.register u r) → Formed maps s → Formed maps t
  written_registers stay formed = record {
    words = written_formed formed.words;
    registers = registers_on maps s t formed.words same_objects stay formed.registers;
  }

  module _ (address : ℕ) (z : Shape) (formed : FormedWords maps s) (forwards : Forwards s home address)
      (reserved : IsReserved s.base.homes home z) (fits : words ≤ cost_of z) (h : List Entry)
      (tells : Tells h maps s) where
    -- the record at another home stays
    other_record : (k : ℕ) (y : Shape) → IsReserved s.base.homes k y → k ≢ home → KeepsRecord s.base t.base k y
    other_record k y is other = record {
      end = let end : t.base.end ≡ s.base.end = writes.same_homes.end in omega arith;
      words = λ j below.
          writes.others (k + j)
          (elim (reserved_words s.base.homes s.base.end tells.homes_follow k home j y z is reserved other below) [
            | inl before ↦ inl before
            | inr after ↦ inr (omega arith)
          ]);
    }

    -- and is what it was
    other_home : (k n : ℕ) (y : Shape) → IsReserved s.base.homes k y → k ≢ home → IsOneOfThree h maps s k n y →
        IsOneOfThree h maps t k n y
    other_home k n y is other three =
        three_kept h maps s t live_same k n y (other_record k y is other)
        (λ a named forwarded. (forwards_same k a).0 forwarded) three

    -- this home is forwarded, whatever stands there
    this_home : (k n : ℕ) → k ≡ home → maps.home k ≡ Some n → IsForwarded maps t k n
    this_home k n same has = record {
      address = address;
      forwards = subst (λ (j : ℕ). Forwards t j address) (sym same) ((forwards_same home address).0 forwards);
      named = forwarded_named maps s home address formed forwards h tells n (ap maps.home (sym same) ∙ has);
    }

    -- so all homes stand
    homes_tell : HomesTell h maps t
    homes_tell = record {
      free_homes = λ k free.
          let was_one = was_free maps s t formed same_objects k free in
          let was = tells.free_homes k was_one in
          free_home_kept s.base t.base k was
          (reserved_on maps s t formed same_objects k was.reserved_for was.reserved)
          (other_record k was.reserved_for was.reserved
          (forwarded_not_free maps s home address formed forwards h tells k was_one));
      homes = λ k n has.
          let stands = tells.homes k n has in
          record {
            reserved_for = stands.reserved_for;
            reserved = reserved_on maps s t formed same_objects k stands.reserved_for stands.reserved;
            shape_is = stands.shape_is;
            is = elim (cases_eq k home) [
              | inl same ↦ inr (inr (this_home k n same has))
              | inr other ↦ other_home k n stands.reserved_for stands.reserved other stands.is
            ];
          };
      home_words = λ a n k named has.
          let word = tells.home_words a n k named has in (word.0, writes.word (a + 1) ∙ word.1);
      named_homes = λ a n k scion named range is.
          tells.named_homes a n k scion named range (sym (writes.word (a + 1)) ∙ is);
      stubs = λ k x live.
          let was = sym (writes.scion k) ∙ live in
          let stub = tells.stubs k x was in
          let stands = tells.homes x.home stub.0 stub.2 in
          let keeps = other_record x.home stands.reserved_for stands.reserved
          (forwarded_no_scion maps s home address formed forwards h tells k x was) in (
            stub.0,
            stub.1,
            stub.2,
            head_kept s.base t.base x.home stands.reserved_for keeps (record { shape = stub.1; kind = Stub k }) stub.3,
          );
    }

    -- what is written at the home of a forwarded object is no part of what the state tells
    pub written_tells : Tells h maps t
    written_tells = tells_on maps s t formed same_objects h tells homes_tell

  -- so the state stands for the history that it stood for, with the same values in registers
  pub written_placed : (address : ℕ) (z : Shape) → Forwards s home address → IsReserved s.base.homes home z →
      words ≤ cost_of z → ((u r : ℕ) → t.register u r ≡ s.register u r) → (h : List Entry) (value : ℕ → ℕ → Value) →
      Placed h value maps s → Placed h value maps t
  written_placed address z forwards reserved fits stay h value placed = record {
    formed = written_registers stay placed.formed;
    tells = written_tells address z placed.formed.words forwards reserved fits h placed.tells;
    registers = λ u r. ap (value_at maps) (stay u r) ∙ placed.registers u r;
  }
